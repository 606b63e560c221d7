use Rattle.std.proofs.Common.{◌∙◌, sym}
use Rattle.std.proofs.lemmas.Result.{on_ok_weaker}
use Rattle.group_cells.proofs.DueKeys.{moments_changed, moments_stay}
use Rattle.group_cells.proofs.groups.due.DueCells.change.Goals as goal

pub returns-clause-kept : goal.returns-clause-kept
returns-clause-kept c = λ plan cells h. c.enter.ensures.kept plan cells (c.leave.ensures.kept plan cells h)

pub returns-clause-ok : goal.returns-clause-ok
returns-clause-ok c =
    on_ok_weaker c.enter.result
    (λ entered plan cells before cell h found were are at stays_at.
    moments_changed plan c.args.self.now c.enter.new.self cells c.args.node c.args.place before cell c.args.was c.args.now
    (λ p l k. c.enter.ensures.kept p l (c.leave.ensures.kept p l k)) h found were are at stays_at (λ q is. c.enter.ensures.noted q (c.in_ok-leave.ensures.left q is)) entered)
    c.enter.ensures.entered

pub returns-then-is_same_moment-clause-ok : goal.returns-then-is_same_moment-clause-ok
returns-then-is_same_moment-clause-ok c = λ plan cells before cell h found were are at stays_at.
    moments_stay plan c.args.self.now cells c.args.place before cell h found (sym were ∙ c.is_same_moment.ensures c.if-is_same_moment.true ∙ are) (at ∙ sym stays_at)
