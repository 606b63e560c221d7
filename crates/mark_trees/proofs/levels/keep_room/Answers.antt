use Rattle.std.proofs.Common.{arith, subst}
use Rattle.std.specs.List.{All}
use Rattle.std.proofs.lemmas.List.{take_all}
use Rattle.mark_trees.specs.Levels.{HasRoom}
use Rattle.mark_trees.proofs.levels.keep_room.Goals as goal

pub returns-clause-ok : goal.returns-clause-ok
returns-clause-ok c =
    subst (All HasRoom) (take_all c.loop-k.k c.loop-k.levels.items (omega (arith, c.loop-k-test.false, c.loop-k.invariant.sized, c.len-k-end.ensures))) c.loop-k.invariant.rooms
