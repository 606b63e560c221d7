use Rattle.std.proofs.Common.{sym, subst, ◌∙◌, ap}
use Rattle.beam_values.specs.Intervals.{Interval}
use Rattle.beam_values.specs.Sessions.{hull}
use Rattle.session_merge.specs.Runs.{IsHull}
use Rattle.session_merge.proofs.Places.{hull_found}
use Rattle.session_merge.proofs.runs.hull_of.Goals as goal

pub returns-in-Some-Some : goal.returns-in-Some-Some
returns-in-Some-Some c =
    let first = c.in-Some-Some.first.now in
    let last = c.in-Some-Some.last.now in
    subst (IsHull c.args.span c.args.run.now) (sym (c.hull-in-Some-Some.ensures ∙ ap (λ (w : Interval). hull w last) c.hull.ensures))
    (hull_found c.args.span c.args.run.now first last c.requires c.in-Some-Some.ensures.item.3.0 c.in-Some-Some.ensures.item.1 c.in-Some-Some.ensures'.item.1)
