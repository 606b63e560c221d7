-- What a sink takes.
use Rattle.std.specs.Prelude.{ℕ, List, ◌++◌, Option, option_map, Result, Ok, Err}
use Rattle.beam_ports.specs.declared.refusal.Failed.{Failed}

-- how many bytes a write took
abbrev pub count_of : Result ℕ Failed → ℕ
count_of (Ok count) = count
count_of (Err _) = 0

-- what was taken, where the sink tells it, after these bytes were taken too
abbrev pub then_taken : Option (List ℕ) → List ℕ → Option (List ℕ)
then_taken taken bytes = option_map (λ text. text ++ bytes) taken
