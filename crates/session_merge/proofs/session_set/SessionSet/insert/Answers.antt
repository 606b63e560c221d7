use Rattle.std.proofs.Common.{List, [], ◌∷◌, ◌++◌, subst}
use Rattle.std.specs.List.{All, Contains}
use Rattle.std.specs.Result.{IfOk, OnOk}
use Rattle.std.proofs.lemmas.Result.{IfOk-weaker}
use Rattle.beam_values.specs.Intervals.{Interval}
use Rattle.beam_values.specs.Sessions.{IsNonEmpty, IsSession}
use Rattle.session_merge.specs.declared.runs.Merged.{Merged}
use Rattle.session_merge.specs.Merging.{GivesWay, AreSessionsOf}
use Rattle.session_merge.specs.Runs.{IsMerge}
use Rattle.session_merge.proofs.Merges.{apart_after, merge_session, merge_gives_way, merge_sessions}
use Rattle.session_merge.proofs.session_set.SessionSet.insert.Goals as goal

pub invariant_of-self : goal.invariant_of-self
invariant_of-self c =
    apart_after c.merge_into.result (λ m. m.span) (λ m. m.absorbed) c.self.inside.spans.items c.args.span c.merge_into.new.spans.items c.self.invariant
    c.merge_into.ensures.ok c.merge_into.ensures.err

pub returns-clause-session : goal.returns-clause-session
returns-clause-session c =
    let old = c.self.inside.spans.items in
    let new = c.merge_into.new.spans.items in
    let span = c.args.span in
    subst (λ (l : List Interval). IfOk c.merge_into.result (λ (m : Merged). IsSession (l ++ span ∷ []) m.span)) c.self.view_is
    (IfOk-weaker c.merge_into.result (λ (m : Merged). IsMerge old span m.absorbed m.span new) (λ (m : Merged). IsSession (old ++ span ∷ []) m.span)
    (λ m merge. merge_session old span m.absorbed m.span new c.self.invariant merge) c.merge_into.ensures.ok)

pub returns-clause-listed : goal.returns-clause-listed
returns-clause-listed c =
    let old = c.self.inside.spans.items in
    let new = c.merge_into.new.spans.items in
    let span = c.args.span in
    subst (λ (l : List Interval). IfOk c.merge_into.result (λ (m : Merged). GivesWay l m.absorbed m.span new)) c.self.view_is
    (IfOk-weaker c.merge_into.result (λ (m : Merged). IsMerge old span m.absorbed m.span new) (λ (m : Merged). GivesWay old m.absorbed m.span new)
    (λ m merge. merge_gives_way old span m.absorbed m.span new c.self.invariant merge) c.merge_into.ensures.ok)

pub returns-clause-sessions : goal.returns-clause-sessions
returns-clause-sessions c =
    let old = c.self.inside.spans.items in
    let new = c.merge_into.new.spans.items in
    let span = c.args.span in
    subst (λ (l : List Interval). OnOk c.merge_into.result ((spans : List Interval) → All IsNonEmpty spans → AreSessionsOf (Contains spans) l → AreSessionsOf (Contains (spans ++ span ∷ [])) new))
    c.self.view_is
    (IfOk-weaker c.merge_into.result (λ (m : Merged). IsMerge old span m.absorbed m.span new)
    (λ (m : Merged). (spans : List Interval) → All IsNonEmpty spans → AreSessionsOf (Contains spans) old → AreSessionsOf (Contains (spans ++ span ∷ [])) new)
    (λ m merge. merge_sessions old span m.absorbed m.span new c.self.invariant merge) c.merge_into.ensures.ok)
