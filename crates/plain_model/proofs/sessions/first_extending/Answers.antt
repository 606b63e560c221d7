use Rattle.std.proofs.Common.{sym, ◌∙◌}
use Rattle.std.proofs.lemmas.Bool.{false≢true}
use Rattle.plain_model.proofs.Merging.{one_of_keyed, settled_more, settled_all}
use Rattle.plain_model.proofs.sessions.first_extending.Goals.{else-extends-via-then-extends+else-is_keyed_alike, else-extends-via-else-extends}
use Rattle.plain_model.proofs.sessions.first_extending.Goals as goal

pub returns-then-is_keyed_alike : goal.returns-then-is_keyed_alike
returns-then-is_keyed_alike c =
    let other = c.other-item.result in
    let found = c.extends.ensures.yes c.if-extends.true in (
      one_of_keyed c.args.element.now c.args.elements.now c.loop-other.other-index other c.loop-other-test.true c.other-item.is (sym c.if-is_keyed_alike.ensures),
      found.0,
      found.1,
    )

pub loop-other-preserved : goal.loop-other-preserved
loop-other-preserved c =
    let other = c.other-item.result in
    let next = settled_more c.args.element.now c.args.session c.args.elements.now c.loop-other.other-index other c.loop-other-test.true c.other-item.is in
    elim c.else-extends.branch [
      | else-extends-via-then-extends+else-is_keyed_alike w ↦ next (λ keyed. absurd (false≢true (w.if-is_keyed_alike.ensures ∙ keyed))) c.loop-other.invariant
      | else-extends-via-else-extends w ↦ next (λ keyed. c.extends.ensures.no w.if-extends.false) c.loop-other.invariant
    ]

pub returns : goal.returns
returns c = settled_all c.args.element.now c.args.session c.args.elements.now c.loop-other.other-index c.loop-other-test.false c.loop-other.invariant
