use Rattle.run_engine.specs.Kits.{observed_kits}
use Rattle.run_engine.proofs.PlanEnds.{complete, dead_letters}
use Rattle.run_engine.proofs.plan_run.run_plan.Goals as goal

pub returns-in-Ok-clause-dead_letters : goal.returns-in-Ok-clause-dead_letters
returns-in-Ok-clause-dead_letters g c =
    dead_letters (observed_kits g.F.Shelf g.S.Store c.args.kits.now c.run_book.new.kits) c.args.graph c.args.options.now c.honest_runs_are_runs.ensures c.outcomes_have_their_dead_letters.ensures.noted
    c.outcomes_have_their_dead_letters.ensures.poison c.dead_positions_are_poison.ensures.outcome c.in-Ok.end.status c.in-Ok.end.outcome c.in-Ok.ensures.ended

pub returns-in-Ok-clause-complete : goal.returns-in-Ok-clause-complete
returns-in-Ok-clause-complete g c =
    complete (observed_kits g.F.Shelf g.S.Store c.args.kits.now c.run_book.new.kits) c.args.graph c.args.options.now c.honest_runs_are_runs.ensures c.runs_without_poison_fail_by_reads.ensures.reads
    c.runs_that_set_aside_are_stopped_by_reads.ensures c.runs_without_poison_positions_fail_by_reads.ensures c.in-Ok.end.status c.in-Ok.end.outcome c.in-Ok.ensures.ended
