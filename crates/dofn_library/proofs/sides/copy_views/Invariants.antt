use Rattle.std.proofs.Common.{◌≡◌, take}
use Rattle.beam_model.specs.Functions.{view_values}
use Rattle.dofn_library.proofs.sides.copy_views.Given as goal

abbrev pub invariant-loop-part : goal.invariant-loop-part
invariant-loop-part l = l.views.items ≡ view_values (take l.part-index l.parts)
