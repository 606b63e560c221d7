use Rattle.std.proofs.Common.{◌≡◌, ◌-◌}
use Rattle.std.specs.Prelude.{slice_get}
use Rattle.beam_model.specs.Texts.{fields}
use Rattle.combine_views.proofs.texts.field.Given as goal

-- the field is counted from the rest on
abbrev pub invariant-loop-passed : goal.invariant-loop-passed
invariant-loop-passed l = slice_get (fields l.text) l.number ≡ slice_get (fields l.rest) (l.number - l._passed)
