-- What `{}` prints of a refusal.
use Rattle.std.specs.Prelude.{ℕ, List, codes}
use Rattle.trigger_algebra.specs.declared.refusal.NormalRefusal.{NormalRefusal}
use Rattle.trigger_algebra.specs.declared.refusal.NormalRefusal.TheVariants as normal
use Rattle.trigger_algebra.specs.declared.refusal.WhenRefusal.{WhenRefusal}
use Rattle.trigger_algebra.specs.declared.refusal.WhenRefusal.TheVariants.{Depth, Leaves, Number, Empty}

abbrev pub when_message : WhenRefusal → List ℕ
when_message Depth = codes "a trigger is nested too deeply"
when_message Leaves = codes "a trigger has too many counts and marks"
when_message Number = codes "a number of a trigger is out of its bounds"
when_message Empty = codes "a list of triggers is empty"

abbrev pub normal_message : NormalRefusal → List ℕ
normal_message (normal.Bad refusal) = when_message refusal
normal_message normal.NoMemory = codes "no memory"
