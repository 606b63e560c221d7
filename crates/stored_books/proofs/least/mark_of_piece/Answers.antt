use Rattle.std.proofs.Common.{sym, ap, ◌∙◌}
use Rattle.beam_values.specs.Marks.{mark_of}
use Rattle.book_core.proofs.Estimating.{allowed_in, estimator_some, estimator_none}
use Rattle.stored_books.proofs.least.mark_of_piece.Goals as goal

pub mark_by-requires : goal.mark_by-requires
mark_by-requires c = allowed_in c.args.plan.now c.args.piece.now.node c.in-Some.node.now c.requires (c.in-Some.ensures.value)

pub returns-in-Some : goal.returns-in-Some
returns-in-Some c =
    c.mark_by.ensures
    ∙ ap (λ e. mark_of e c.args.piece.now.seen) (sym (estimator_some c.args.plan.now c.args.piece.now.node c.in-Some.node.now (c.in-Some.ensures.value)))

pub returns-in-None : goal.returns-in-None
returns-in-None c =
    c.at.ensures
    ∙ ap (λ e. mark_of e c.args.piece.now.seen) (sym (estimator_none c.args.plan.now c.args.piece.now.node (c.in-None.ensures.value)))
