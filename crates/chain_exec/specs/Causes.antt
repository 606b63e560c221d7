-- Why work was refused.
use Rattle.std.specs.Prelude.{◌≡◌, ℕ, Bool, true, List, Some}
use Rattle.beam_values.specs.declared.fault.Cause.TheVariants.{Call, Read}
use Rattle.beam_model.specs.Chains.{Output}
use Rattle.beam_model.specs.Spread.{first_poison}
use Rattle.beam_ports.specs.Counts.{Rose}
use Rattle.chain_exec.specs.declared.refusal.ExecRefusal.{ExecRefusal}
use Rattle.chain_exec.specs.declared.refusal.ExecRefusal.TheVariants.{Faulted, NoMemory}

-- what a call observed at a shelf: whether it is strict, and its count of faults before and after
pub record ObservedShelf : Type 0 where
  pub strict : Bool
  pub before : ℕ
  pub after : ℕ

abbrev pub observed_shelf : {F : Type 0} → (F → Bool) → (F → ℕ) → F → F → ObservedShelf
observed_shelf strict faults old new = record { strict = strict old; before = faults old; after = faults new }

-- Work that was to bring these outputs was refused: a function failed, and was counted; over a strict shelf it is the one of their first poison. Or there
-- was no memory.
abbrev pub IsCallRefused : ObservedShelf → List Output → ExecRefusal → Type 0
IsCallRefused shelf outputs (Faulted at Call) = Rose shelf.before shelf.after × (shelf.strict ≡ true → first_poison outputs ≡ Some at)
IsCallRefused shelf outputs (Faulted at Read) = ⊥
IsCallRefused shelf outputs NoMemory = Unit {0}
