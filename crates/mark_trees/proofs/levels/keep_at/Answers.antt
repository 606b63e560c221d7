use Rattle.std.proofs.Common.{arith}
use Rattle.std.proofs.lemmas.List.{take_more_set}
use Rattle.std.proofs.lemmas.List.Elements.{All-push, All-same}
use Rattle.mark_trees.specs.Levels.{HasRoom}
use Rattle.mark_trees.proofs.PutUp.{same_lists_of}
use Rattle.mark_trees.proofs.levels.keep_at.Goals as goal

pub returns-in_err-reserve-clause-lists : goal.returns-in_err-reserve-clause-lists
returns-in_err-reserve-clause-lists c =
    same_lists_of c.args.levels.now.items c.args.k c.index_mut-level.result.now c.reserve.new.self c.requires c.index_mut-level.ensures.value c.in_err-reserve.ensures.items

pub returns-clause-lists : goal.returns-clause-lists
returns-clause-lists c =
    same_lists_of c.args.levels.now.items c.args.k c.index_mut-level.result.now c.reserve.new.self c.requires c.index_mut-level.ensures.value c.in_ok-reserve.ensures.items

pub returns-clause-ok : goal.returns-clause-ok
returns-clause-ok c = λ h.
    All-same HasRoom _ _ (take_more_set c.args.levels.now.items c.args.k c.reserve.new.self c.requires)
    (All-push HasRoom _ c.reserve.new.self h (omega (arith, c.in_ok-reserve.ensures.ok, c.in_ok-reserve.ensures.len)))
