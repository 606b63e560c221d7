use Rattle.std.proofs.Common.{sym, subst, ℤ}
use Rattle.std.proofs.lemmas.Result.{IfOk-weaker}
use Rattle.beam_values.specs.declared.plan.Strategy.{Strategy}
use Rattle.beam_values.specs.declared.plan.Strategy.TheVariants.{Sessions}
use Rattle.beam_model.specs.Plain.{IsGroupedBy}
use Rattle.plain_model.proofs.sessions.grouped.Goals as goal

pub returns-in-Sessions-clause-plain : goal.returns-in-Sessions-clause-plain
returns-in-Sessions-clause-plain c =
    IfOk-weaker c.plain_sessions.result (λ panes. (gap : ℤ) → IsGroupedBy (Sessions gap) c.args.elements panes) (IsGroupedBy c.args.strategy.now c.args.elements)
    (λ panes h. subst (λ (s : Strategy). IsGroupedBy s c.args.elements panes) (sym c.in-Sessions.is) (h c.in-Sessions.gap))
    c.plain_sessions.ensures.plain
