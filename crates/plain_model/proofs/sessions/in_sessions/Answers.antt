use Rattle.std.proofs.Common.{sym, subst, List, take}
use Rattle.std.specs.List.{All}
use Rattle.beam_values.specs.declared.element.Element.{Element}
use Rattle.plain_model.specs.Sessions.{IsInSession}
use Rattle.plain_model.proofs.Merging.{keyed_itself, one_of_keyed, merged_known, merged_more}
use Rattle.plain_model.proofs.sessions.in_sessions.Goals as goal

pub session_of-span-requires-clause-own : goal.session_of-span-requires-clause-own
session_of-span-requires-clause-own c =
    let e = c.element-item.result in
    one_of_keyed e c.args.elements.now c.loop-element.element-index e c.loop-element-test.true c.element-item.is (keyed_itself e)

pub session_of-span-requires-clause-known : goal.session_of-span-requires-clause-known
session_of-span-requires-clause-known c =
    let elements = c.args.elements.now in
    subst (λ (l : List Element). All (IsInSession elements) l) (sym c.as_slice.ensures.value)
    (merged_known elements (take c.loop-element.element-index elements) c.loop-element.sessioned.items c.loop-element.invariant)

pub loop-element-preserved : goal.loop-element-preserved
loop-element-preserved c =
    merged_more c.args.elements.now c.loop-element.sessioned.items c.push.new.self.items c.loop-element.element-index c.element-item.result c.in_ok-copy.field-0 c.session_of-span.result
    c.loop-element-test.true c.element-item.is c.in_ok-copy.ensures c.session_of-span.ensures.session c.session_of-span.ensures.within c.in_ok-push.ensures.items c.loop-element.invariant
