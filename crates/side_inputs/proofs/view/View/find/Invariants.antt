use Rattle.std.proofs.Common.{◌≡◌, take}
use Rattle.std.specs.List.{flat_map}
use Rattle.beam_model.specs.Functions.{found_in}
use Rattle.side_inputs.proofs.view.View.find.Given as goal

abbrev pub invariant-loop-value : goal.invariant-loop-value
invariant-loop-value l = l.found.items ≡ flat_map (found_in l.key) (take l.value-index l.value-items)
