use Rattle.std.proofs.Common.{◌≡◌, ◌++◌, map, take}
use Rattle.beam_model.specs.Functions.{main_values, valued}
use Rattle.beam_model.specs.Values.{pair}
use Rattle.dofn_library.proofs.sides.push_mains.Given as goal

abbrev pub invariant-loop-part : goal.invariant-loop-part
invariant-loop-part l = l.out ≡ l.fn.out ++ map (λ main. valued l.e (pair main l.with)) (main_values (take l.part-index l.parts))
