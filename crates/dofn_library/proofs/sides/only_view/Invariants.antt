use Rattle.std.proofs.Common.{◌≡◌, take}
use Rattle.std.specs.Option.{option_copied}
use Rattle.beam_model.specs.Functions.{view_values}
use Rattle.dofn_library.specs.Sides.{at_most_one}
use Rattle.dofn_library.proofs.sides.only_view.Given as goal

abbrev pub invariant-loop-part : goal.invariant-loop-part
invariant-loop-part l = at_most_one (option_copied l.only) ≡ view_values (take l.part-index l.parts)
