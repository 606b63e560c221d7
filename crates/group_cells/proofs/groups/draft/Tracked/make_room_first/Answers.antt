use Rattle.std.proofs.Common.{[], ◌∷◌, sym}
use Rattle.std.proofs.lemmas.Result.{IfOk-weaker}
use Rattle.group_cells.proofs.DueSteps.{unseen_more}
use Rattle.group_cells.proofs.groups.draft.Tracked.make_room_first.Goals as goal

pub returns-clause-room : goal.returns-clause-room
returns-clause-room c = IfOk-weaker c.one_entry.result _ _ (λ entries is. c.in_ok-make_room.ensures.room) c.one_entry.ensures

pub returns-clause-moments : goal.returns-clause-moments
returns-clause-moments c =
    IfOk-weaker c.one_entry.result _ _
    (λ entries is cells h end. c.in_ok-make_room.ensures.moments cells c.args.key.now.key (c.args.entry ∷ []) h end (sym (unseen_more [] c.args.entry c.requires)))
    c.one_entry.ensures
