use Rattle.std.proofs.Common.{sym, ◌∙◌, arith}
use Rattle.std.proofs.lemmas.List.{get_or_default}
use Rattle.session_merge.proofs.Places.{place_found, equal_itself}
use Rattle.session_merge.proofs.runs.place_of.Goals.{else-at-spans-via-then-at-spans+else-eq, else-at-spans-via-else-at-spans}
use Rattle.session_merge.proofs.runs.place_of.Goals as goal

pub returns-else-at-spans : goal.returns-else-at-spans
returns-else-at-spans c = λ listed.
    let place =
    place_found c.args.spans.now c.args.span c.count_ended-at.result c.requires c.count_ended-at.ensures.some c.count_ended-at.ensures.ended
    c.count_ended-at.ensures.later listed in
    elim c.else-at-spans.branch [
      | else-at-spans-via-then-at-spans+else-eq w ↦ equal_itself w.index-spans-at.result c.args.span (w.index-spans-at.is ∙ get_or_default c.args.spans.now c.count_ended-at.result w.index-spans-at.result c.args.span place.0 ∙ place.1) (sym w.if-eq.false ∙ w.eq.ensures)
      | else-at-spans-via-else-at-spans w ↦ omega (arith, place.0, w.if-at-spans.false)
    ]
