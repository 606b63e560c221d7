use Rattle.std.proofs.Common.{◌≡◌, map, take}
use Rattle.plan_reader.specs.Placing.{place_at}
use Rattle.plan_reader.proofs.placing.placed.Given as goal

abbrev pub invariant-loop-input : goal.invariant-loop-input
invariant-loop-input l = l.placed.items ≡ map (place_at l.places) (take l.input-index l.inputs)
