use Rattle.std.proofs.Common.{ℕ, List, refl, subst}
use Rattle.command_ends.specs.Writing.{IsTextEnd}
use Rattle.beam_command.specs.Kits.{observed_at}
use Rattle.beam_command.proofs.CombineStops.{stopped_end, written_end}
use Rattle.beam_command.proofs.ReplayStops.{written_begun}
use Rattle.command_ends.proofs.Tries.{sink_same}
use Rattle.command_ends.specs.declared.status.Status.{Status}
use Rattle.run_engine.specs.Kits.{observed_kits}
use Rattle.beam_command.specs.CombineEnds.{IsCombineStopped}
use Rattle.beam_command.proofs.Tried.{no_sink_fault}
use Rattle.beam_command.proofs.combines.run_combine.Goals as goal

pub returns-in-Ok-clause-ends : goal.returns-in-Ok-clause-ends
returns-in-Ok-clause-ends g c =
    let seen = observed_at g.F.Shelf g.S.Store g.W.Sink c.args.kits.now c.combined_file.new.kits c.args.out.now c.written.new.out in
    written_end seen c.args.plan.now c.args.options.now c.in-Ok.text c.in-Ok.ensures.text c.written.result
    (subst (λ (text : List ℕ). IsTextEnd seen.out c.args.options.now.attempts text c.written.result) c.as_slice.ensures c.written.ensures.ends)

pub returns-in-Ok-clause-idle : goal.returns-in-Ok-clause-idle
returns-in-Ok-clause-idle g c = λ none.
    let seen = observed_at g.F.Shelf g.S.Store g.W.Sink c.args.kits.now c.combined_file.new.kits c.args.out.now c.written.new.out in
    absurd (written_begun seen c.args.options.now.attempts c.as_slice.result.now c.written.result c.written.ensures.ends none)

pub returns-in-Err-clause-ends : goal.returns-in-Err-clause-ends
returns-in-Err-clause-ends g c =
    let seen = observed_at g.F.Shelf g.S.Store g.W.Sink c.args.kits.now c.combined_file.new.kits c.args.out.now c.args.out.now in
    stopped_end seen c.args.plan.now c.args.options.now refl c.in-Err.status c.in-Err.ensures.stopped

pub returns-in-Ok-clause-tries : goal.returns-in-Ok-clause-tries
returns-in-Ok-clause-tries g c = λ none.
    let seen = observed_at g.F.Shelf g.S.Store g.W.Sink c.args.kits.now c.combined_file.new.kits c.args.out.now c.written.new.out in
    absurd (written_begun seen c.args.options.now.attempts c.as_slice.result.now c.written.result c.written.ensures.ends none)

pub returns-in-Err-clause-writes : goal.returns-in-Err-clause-writes
returns-in-Err-clause-writes g c =
    sink_same g.W.Sink c.args.options.now.attempts c.args.out.now c.args.out.now c.in-Err.status refl c.requires.allowed.attempts.0
    (λ is. no_sink_fault (observed_kits g.F.Shelf g.S.Store c.args.kits.now c.combined_file.new.kits) c.args.plan.now c.args.options.now.attempts
    (subst (λ (end : Status). IsCombineStopped (observed_kits g.F.Shelf g.S.Store c.args.kits.now c.combined_file.new.kits) c.args.plan.now c.args.options.now.attempts end) is
    c.in-Err.ensures.stopped))
