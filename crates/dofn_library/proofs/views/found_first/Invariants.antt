use Rattle.std.proofs.Common.{◌≡◌, take}
use Rattle.std.specs.List.{flat_map}
use Rattle.beam_model.specs.Functions.{found_in}
use Rattle.dofn_library.proofs.views.found_first.Given as goal

abbrev pub invariant-loop-view : goal.invariant-loop-view
invariant-loop-view l = l.found ≡ flat_map (found_in l.key) (take l.view-index l.views)
