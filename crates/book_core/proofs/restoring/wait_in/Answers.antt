use Rattle.std.proofs.Common.{◌≡◌, ◌∷◌, [], ◌++◌}
use Rattle.std.proofs.lemmas.Result.{on_ok_weaker}
use Rattle.book_core.proofs.CommitRooms.{list_set}
use Rattle.book_core.proofs.RestoredWaits.{list_set_is}
use Rattle.book_core.proofs.restoring.wait_in.Goals as goal

pub returns-clause-each : goal.returns-clause-each
returns-clause-each c =
    on_ok_weaker c.add.result
    (λ (more : c.add.new.self.panes ≡ c.index_mut-queue.result.now.panes ++ c.args.waiting ∷ []).
    list_set c.args.queues.now.items c.args.node c.index_mut-queue.result.now c.add.new.self c.requires c.index_mut-queue.ensures.value c.args.waiting more)
    c.add.ensures

pub returns-clause-set : goal.returns-clause-set
returns-clause-set c =
    on_ok_weaker c.add.result
    (λ (more : c.add.new.self.panes ≡ c.index_mut-queue.result.now.panes ++ c.args.waiting ∷ []).
    list_set_is c.args.queues.now.items c.args.node c.index_mut-queue.result.now c.add.new.self c.args.waiting c.requires
    c.index_mut-queue.ensures.value more)
    c.add.ensures
