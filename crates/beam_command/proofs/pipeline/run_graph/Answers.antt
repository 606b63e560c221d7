use Rattle.std.proofs.Common.{refl, sym, ap, subst}
use Rattle.command_ends.proofs.Tries.{sink_same}
use Rattle.command_ends.specs.Retrying.{TriesSink}
use Rattle.command_ends.specs.declared.status.Status.{Status}
use Rattle.run_engine.specs.Kits.{observed_each, observed_kits}
use Rattle.run_engine.specs.Openings.{IsOpeningRefused, TriesKits}
use Rattle.run_engine.specs.PlanRun.{IsPlanEnd}
use Rattle.run_engine.specs.declared.run_end.RunEnd.{RunEnd}
use Rattle.beam_command.specs.Kits.{observed_at}
use Rattle.beam_command.proofs.Graphs.{finished_end, unprinted_end}
use Rattle.beam_command.proofs.Kept.{finished_begun, finished_some, idle_opened, if_none, kept_opened, kept_run, outcome_opened, run_begun}
use Rattle.beam_command.proofs.Stores.{run_opened}
use Rattle.beam_command.proofs.pipeline.run_graph.Goals as goal

pub returns-in-Err-clause-outcome : goal.returns-in-Err-clause-outcome
returns-in-Err-clause-outcome g c = if_none _ _ (ap (λ (end : RunEnd). end.outcome) c.ended.ensures)

pub returns-in-Err-clause-idle : goal.returns-in-Err-clause-idle
returns-in-Err-clause-idle g c = λ none. idle_opened g.S.Store c.args.kits.now c.open_sources.new.kits c.open_sources.ensures.kept

pub returns-in-Err-clause-kept : goal.returns-in-Err-clause-kept
returns-in-Err-clause-kept g c = kept_opened g.F.Shelf g.S.Store c.args.kits.now c.open_sources.new.kits c.open_sources.ensures.kept

pub returns-in-Err-clause-tries : goal.returns-in-Err-clause-tries
returns-in-Err-clause-tries g c = λ none.
    subst (λ (end : RunEnd). TriesKits g.S.Store c.args.options.now.attempts c.args.failed c.args.kits.now c.open_sources.new.kits end.status) (sym c.ended.ensures) c.in-Err.ensures.tries

pub returns-in-Err-clause-writes : goal.returns-in-Err-clause-writes
returns-in-Err-clause-writes g c =
    subst (λ (end : RunEnd). TriesSink g.W.Sink c.args.options.now.attempts c.args.out.now c.args.out.now end.status) (sym c.ended.ensures)
    (sink_same g.W.Sink c.args.options.now.attempts c.args.out.now c.args.out.now c.in-Err.status refl c.requires.allowed.attempts.0
    (λ is. subst (λ (end : Status). IsOpeningRefused (observed_each g.S.Store.files g.S.Store.faults c.args.kits.now c.open_sources.new.kits) c.args.graph c.args.options.now.attempts c.args.failed end)
    is c.in-Err.ensures.refused))

pub returns-in-Ok-clause-tries : goal.returns-in-Ok-clause-tries
returns-in-Ok-clause-tries g c = λ none.
    let run = c.run_plan-status in
    absurd (finished_begun (observed_kits g.F.Shelf g.S.Store c.open_sources.new.kits run.new.kits) c.args.graph c.args.options.now run.result.status run.result.outcome run.ensures.ended
    c.in-Ok.is _ _ c.args.report c.finished.result.status c.finished.result.outcome c.finished.ensures.ends none)

pub returns-in-Ok-clause-outcome : goal.returns-in-Ok-clause-outcome
returns-in-Ok-clause-outcome g c =
    let run = c.run_plan-status in
    let seen = observed_kits g.F.Shelf g.S.Store c.open_sources.new.kits run.new.kits in
    finished_some seen c.args.graph c.args.options.now run.result.status run.result.outcome run.ensures.ended c.in-Ok.is _ _ c.args.report c.finished.result.status
    c.finished.result.outcome c.finished.ensures.ends _
    (outcome_opened g.F.Shelf g.S.Store c.args.graph c.open_sources.new.kits run.new.kits seen c.args.options.now run.result.status run.result.outcome c.in_default.ensures.opened
    run.ensures.kept run.ensures.ended run.ensures.lengths)

pub returns-in-Ok-clause-idle : goal.returns-in-Ok-clause-idle
returns-in-Ok-clause-idle g c = λ none.
    let run = c.run_plan-status in
    absurd (finished_begun (observed_kits g.F.Shelf g.S.Store c.open_sources.new.kits run.new.kits) c.args.graph c.args.options.now run.result.status run.result.outcome run.ensures.ended
    c.in-Ok.is _ _ c.args.report c.finished.result.status c.finished.result.outcome c.finished.ensures.ends none)

pub returns-in-Ok-clause-kept : goal.returns-in-Ok-clause-kept
returns-in-Ok-clause-kept g c =
    kept_run g.F.Shelf g.S.Store c.args.kits.now c.open_sources.new.kits c.run_plan-status.new.kits c.open_sources.ensures.kept c.run_plan-status.ensures.kept

pub returns-in-Ok-clause-ends : goal.returns-in-Ok-clause-ends
returns-in-Ok-clause-ends g c =
    let run = c.run_plan-status in
    let whole = run_opened g.F.Shelf g.S.Store c.args.kits.now c.open_sources.new.kits run.new.kits c.args.graph c.args.options.now run.result.status run.result.outcome c.requires.some
    c.open_sources.ensures.kept c.in_default.ensures.opened run.ensures.ended in
    finished_end (observed_at g.F.Shelf g.S.Store g.W.Sink c.args.kits.now run.new.kits c.args.out.now c.finished.new.out) c.args.graph c.args.options.now c.args.report c.args.failed run.result.status
    run.result.outcome c.finished.result.outcome c.finished.result.status whole.0 whole.1 c.in-Ok.is c.finished.ensures.ends

pub returns-in_default-status : goal.returns-in_default-status
returns-in_default-status g c =
    let run = c.run_plan-status in
    let seen = observed_kits g.F.Shelf g.S.Store c.open_sources.new.kits run.new.kits in
    let whole = run_opened g.F.Shelf g.S.Store c.args.kits.now c.open_sources.new.kits run.new.kits c.args.graph c.args.options.now run.result.status run.result.outcome c.requires.some
    c.open_sources.ensures.kept c.in_default.ensures.opened run.ensures.ended in
    record {
      ends = unprinted_end (observed_at g.F.Shelf g.S.Store g.W.Sink c.args.kits.now run.new.kits c.args.out.now c.args.out.now) c.args.graph c.args.options.now c.args.report c.args.failed
          run.result.status run.result.outcome refl whole.0 whole.1 c.in_default-status.not-Ok;
      outcome = outcome_opened g.F.Shelf g.S.Store c.args.graph c.open_sources.new.kits run.new.kits seen c.args.options.now run.result.status run.result.outcome
          c.in_default.ensures.opened run.ensures.kept run.ensures.ended run.ensures.lengths;
      idle = λ none. absurd (run_begun seen c.args.graph c.args.options.now run.result.status run.result.outcome run.ensures.ended none);
      kept = kept_run g.F.Shelf g.S.Store c.args.kits.now c.open_sources.new.kits run.new.kits c.open_sources.ensures.kept run.ensures.kept;
      tries = λ none. absurd (run_begun seen c.args.graph c.args.options.now run.result.status run.result.outcome run.ensures.ended none);
      writes = sink_same g.W.Sink c.args.options.now.attempts c.args.out.now c.args.out.now run.result.status refl c.requires.allowed.attempts.0
          (λ is. subst (λ (end : Status). IsPlanEnd seen c.args.graph c.args.options.now end run.result.outcome) is run.ensures.ended);
    }
