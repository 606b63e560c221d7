-- What contracts see of a store over the system's files: the lengths found at opening, in the order of the
-- files' numbers, and the count of faults.
use Rattle.std.specs.Prelude.{ℕ, List, slice_get, Option, None, option_map}
use Rattle.beam_ports.specs.Files.{Opening}

pub record Lengths : Type 0 where
  pub lengths : List ℕ
  pub faults : ℕ

-- an opened file has its length, and tells no bytes
abbrev pub untold_opening : List ℕ → ℕ → Option Opening
untold_opening lengths file = option_map (λ len. record { len = len; text = None }) (slice_get lengths file)
