use Rattle.std.proofs.Common.{◌≡◌, ◌++◌, map, take}
use Rattle.std.specs.Prelude.{IfSome}
use Rattle.std.specs.List.{flat_map}
use Rattle.beam_model.specs.Functions.{ascending, main_values, valued, view_values}
use Rattle.dofn_library.specs.Sides.{looked_up, IsAllFound}
use Rattle.dofn_library.proofs.work.sides.look_up.Given as goal

abbrev pub invariant-loop-part : goal.invariant-loop-part
invariant-loop-part l =
    (l.out ≡ l.fn.out ++ map (valued l.e) (flat_map (looked_up (view_values l.parts)) (main_values (take l.part-index l.parts))))
    × IfSome l.last (λ found. IsAllFound (ascending (view_values l.parts)) found.key found.part)
