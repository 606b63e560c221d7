-- The numbers of the refusals.
use Rattle.std.specs.Prelude.{ℕ}
use Rattle.beam_coders.specs.declared.refusal.CoderRefusal.{CoderRefusal}
use Rattle.beam_coders.specs.declared.refusal.CoderRefusal.TheVariants.{Short, Overlong, Tag, Range, Deep}

abbrev pub refusal_number : CoderRefusal → ℕ
refusal_number Short = 1
refusal_number Overlong = 2
refusal_number (Tag byte) = 3
refusal_number Range = 4
refusal_number Deep = 5
