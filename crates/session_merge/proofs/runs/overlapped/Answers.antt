use Rattle.session_merge.proofs.Places.{run_found, places_ordered}
use Rattle.session_merge.proofs.runs.overlapped.Goals as goal

pub returns-clause-ordered : goal.returns-clause-ordered
returns-clause-ordered c =
    places_ordered c.args.spans.now c.args.span c.count_ended.result c.count_begun.result c.count_ended.ensures.some c.requires c.count_ended.ensures.bound
    c.count_ended.ensures.ended c.count_begun.ensures.later

pub returns-clause-run : goal.returns-clause-run
returns-clause-run c =
    let ordered =
    places_ordered c.args.spans.now c.args.span c.count_ended.result c.count_begun.result c.count_ended.ensures.some c.requires c.count_ended.ensures.bound
    c.count_ended.ensures.ended c.count_begun.ensures.later in
    run_found c.args.spans.now c.args.span c.count_ended.result c.count_begun.result ordered c.count_begun.ensures.bound c.count_ended.ensures.ended
    c.count_ended.ensures.later c.count_begun.ensures.begun c.count_begun.ensures.later
