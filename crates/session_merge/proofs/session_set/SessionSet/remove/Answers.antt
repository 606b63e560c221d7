use Rattle.std.proofs.Common.{List, subst}
use Rattle.std.specs.List.{All, Contains}
use Rattle.beam_values.specs.Intervals.{Interval}
use Rattle.beam_values.specs.Sessions.{IsNonEmpty}
use Rattle.session_merge.specs.Merging.{IsTakenOut, AreSessionsOf, those_outside}
use Rattle.session_merge.proofs.Taking.{taken_out, apart_left, sessions_filtered}
use Rattle.session_merge.proofs.session_set.SessionSet.remove.Goals as goal

pub invariant_of-self : goal.invariant_of-self
invariant_of-self c =
    let old = c.self.inside.spans.items in
    let new = c.remove.new.self.items in
    apart_left old new c.args.span c.self.invariant
    (taken_out old c.as_slice.result.now new c.args.span c.in-Some.at c.as_slice.ensures.value c.in-Some.ensures.0 c.in-Some.ensures.1 c.remove.ensures.items)

pub returns-clause-removed : goal.returns-clause-removed
returns-clause-removed c =
    let old = c.self.inside.spans.items in
    let new = c.remove.new.self.items in
    subst (λ (l : List Interval). IsTakenOut l c.args.span new) c.self.view_is
    (taken_out old c.as_slice.result.now new c.args.span c.in-Some.at c.as_slice.ensures.value c.in-Some.ensures.0 c.in-Some.ensures.1 c.remove.ensures.items)

pub returns-clause-sessions : goal.returns-clause-sessions
returns-clause-sessions c =
    let old = c.self.inside.spans.items in
    let new = c.remove.new.self.items in
    let span = c.args.span in
    let taken = taken_out old c.as_slice.result.now new span c.in-Some.at c.as_slice.ensures.value c.in-Some.ensures.0 c.in-Some.ensures.1 c.remove.ensures.items in
    subst (λ (l : List Interval). (spans : List Interval) → All IsNonEmpty spans → AreSessionsOf (Contains spans) l → AreSessionsOf (Contains (those_outside span spans)) new)
    c.self.view_is
    (λ spans all are. sessions_filtered spans old new span all c.self.invariant taken are)
