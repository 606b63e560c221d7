use Rattle.std.proofs.Common.{◌≡◌, ℕ, ◌<◌, ℤ, to_z, of_z, w64, min, length, List, Option, Some, refl, sym, ap, subst, ◌∙◌, arith}
use Rattle.std.proofs.lemmas.Int.{ints}
use Rattle.beam_values.specs.declared.file_text.FileText.{FileText}
use Rattle.beam_model.specs.Plans.{panes_plan}
use Rattle.command_words.specs.Commands.{Asked, IsAllowed, Panes, Run, Replay, Drill, Combine}
use Rattle.command_words.specs.Shown.{shown_command}
use Rattle.command_words.specs.declared.command.Command.{Command}
use Rattle.bundle_work.specs.Kits.{EachBecomes}
use Rattle.command_ends.specs.Retrying.{TriesSink}
use Rattle.command_ends.specs.declared.status.Status.{Status}
use Rattle.run_engine.specs.declared.run_end.RunEnd.{RunEnd}
use Rattle.beam_command.specs.Asking.{IsPlanOf}
use Rattle.beam_command.specs.Clauses.{asked_by, attempts_of}
use Rattle.beam_command.specs.Ends.{IsEndOf, IsPipelineEnd}
use Rattle.beam_command.specs.Kits.{HasNotBegun, KeepsShelf, TriesUnbegun, first_files, observed_at, observed_for, workers_of}
use Rattle.beam_command.specs.Promises.{IsPlanAsked}
use Rattle.beam_command.proofs.InUse.{end_in_use, kits_left, kits_same, outcome_left, tries_left}
use Rattle.beam_command.proofs.Kept.{first_front, if_both, if_none}
use Rattle.beam_command.proofs.top.run.Goals as goal

pub returns-in-Ok-Panes : goal.returns-in-Ok-Panes
returns-in-Ok-Panes g c =
    let asks = c.in-Ok-Panes in
    let kits = c.args.kits.now in
    let halves = c.split_at_mut-used in
    let front = halves.result.0.now in
    let back = halves.result.1.now in
    let after = c.run_panes.new.kits in
    let end = c.run_panes.result in
    let known = c.run_panes.ensures in
    let asked = asked_by c.args.words.now in
    let is : asked ≡ Some (Panes asks.file.now asks.size asks.options) = sym asks.ensures.exact ∙ ap (λ (k : Command). Some (shown_command k)) asks.field-0-is in
    let workers = asks.options.workers in
    let many : workers_of asked ≡ workers = ap workers_of is in
    let same : to_z w64 (of_z w64 asks.size) ≡ asks.size = omega (arith, ints) in
    let split : length front ≡ min (length kits) workers = omega (arith, halves.ensures.front_len, c.min-count.ensures) in
    let own = subst (λ (size : ℤ). IsPipelineEnd (observed_at g.F.Shelf g.S.Store g.W.Sink front after c.args.out.now c.run_panes.new.out) (Panes asks.file.now size asks.options) asks.options
    end.status end.outcome) same known.ends in
    record {
      ends = end_in_use g.F.Shelf g.S.Store asked workers many kits front back after halves.ensures.value split known.kept g.W.Sink c.args.out.now c.run_panes.new.out end.status end.outcome
          (subst (λ (a : Option Asked). IsEndOf a (observed_for g.F.Shelf g.S.Store g.W.Sink a front after c.args.out.now c.run_panes.new.out) end.status end.outcome) (sym is) own);
      opened = if_both _ _ _
          (λ o of opened. outcome_left g.F.Shelf g.S.Store asked workers many kits front back after halves.ensures.value split known.kept o
          (subst (λ (a : Option Asked). IsPlanAsked (first_files g.S.Store.files kits) a o.plan) (sym is) (of ∙ ap (λ (size : ℤ). panes_plan asks.file.now size) same)) opened)
          end.outcome known.first_plan known.opened;
      kits = kits_left g.F.Shelf g.S.Store asked workers many kits front back after halves.ensures.value split known.kept end.status known.idle;
      tries = tries_left g.F.Shelf g.S.Store asked workers many kits front back after halves.ensures.value split known.kept asks.options.attempts (ap attempts_of is) end.status known.tries;
      writes = subst (λ (n : ℕ). TriesSink g.W.Sink n c.args.out.now c.run_panes.new.out end.status) (sym (ap attempts_of is)) known.writes;
    }

pub returns-in-Ok-Run : goal.returns-in-Ok-Run
returns-in-Ok-Run g c =
    let asks = c.in-Ok-Run in
    let kits = c.args.kits.now in
    let halves = c.split_at_mut-used-in-Ok-Run in
    let front = halves.result.0.now in
    let back = halves.result.1.now in
    let after = c.run_file.new.kits in
    let end = c.run_file.result in
    let known = c.run_file.ensures in
    let asked = asked_by c.args.words.now in
    let own = Run asks.plan.now asks.options in
    let is : asked ≡ Some own = sym asks.ensures.exact ∙ ap (λ (k : Command). Some (shown_command k)) asks.field-0-is in
    let workers = asks.options.workers in
    let many : workers_of asked ≡ workers = ap workers_of is in
    let split : length front ≡ min (length kits) workers = omega (arith, halves.ensures.front_len, c.min-count-in-Ok-Run.ensures) in
    let allowed : IsAllowed own = subst (λ (k : Command). IsAllowed (shown_command k)) asks.field-0-is asks.ensures.bounds in
    let some : 0 < length front = omega (arith, split, c.requires, allowed.some_workers) in
    record {
      ends = end_in_use g.F.Shelf g.S.Store asked workers many kits front back after halves.ensures.value split known.kept g.W.Sink c.args.out.now c.run_file.new.out end.status end.outcome
          (subst (λ (a : Option Asked). IsEndOf a (observed_for g.F.Shelf g.S.Store g.W.Sink a front after c.args.out.now c.run_file.new.out) end.status end.outcome) (sym is) known.ends);
      opened = if_both _ _ _
          (λ o of opened. outcome_left g.F.Shelf g.S.Store asked workers many kits front back after halves.ensures.value split known.kept o
          (subst (λ (a : Option Asked). IsPlanAsked (first_files g.S.Store.files kits) a o.plan) (sym is)
          (subst (λ (told : Option (List FileText)). IsPlanOf told own o.plan) (first_front g.S.Store.files kits front back halves.ensures.value some) of)) opened)
          end.outcome known.first_plan known.opened;
      kits = kits_left g.F.Shelf g.S.Store asked workers many kits front back after halves.ensures.value split known.kept end.status known.idle;
      tries = tries_left g.F.Shelf g.S.Store asked workers many kits front back after halves.ensures.value split known.kept asks.options.attempts (ap attempts_of is) end.status known.tries;
      writes = subst (λ (n : ℕ). TriesSink g.W.Sink n c.args.out.now c.run_file.new.out end.status) (sym (ap attempts_of is)) known.writes;
    }

pub returns-in-Ok-Drill : goal.returns-in-Ok-Drill
returns-in-Ok-Drill g c =
    let asks = c.in-Ok-Drill in
    let kits = c.args.kits.now in
    let halves = c.split_at_mut-used-in-Ok-Drill in
    let front = halves.result.0.now in
    let back = halves.result.1.now in
    let after = c.run_drill.new.kits in
    let end = c.run_drill.result in
    let known = c.run_drill.ensures in
    let asked = asked_by c.args.words.now in
    let own = Drill asks.count asks.number asks.options in
    let is : asked ≡ Some own = sym asks.ensures.exact ∙ ap (λ (k : Command). Some (shown_command k)) asks.field-0-is in
    let workers = asks.options.workers in
    let many : workers_of asked ≡ workers = ap workers_of is in
    let split : length front ≡ min (length kits) workers = omega (arith, halves.ensures.front_len, c.min-workers.ensures) in
    record {
      ends = end_in_use g.F.Shelf g.S.Store asked workers many kits front back after halves.ensures.value split known.kept g.W.Sink c.args.out.now c.run_drill.new.out end.status end.outcome
          (subst (λ (a : Option Asked). IsEndOf a (observed_for g.F.Shelf g.S.Store g.W.Sink a front after c.args.out.now c.run_drill.new.out) end.status end.outcome) (sym is) known.ends);
      opened = if_both _ _ _
          (λ o of opened. outcome_left g.F.Shelf g.S.Store asked workers many kits front back after halves.ensures.value split known.kept o
          (subst (λ (a : Option Asked). IsPlanAsked (first_files g.S.Store.files kits) a o.plan) (sym is) of) opened)
          end.outcome known.first_plan known.opened;
      kits = kits_left g.F.Shelf g.S.Store asked workers many kits front back after halves.ensures.value split known.kept end.status known.idle;
      tries = tries_left g.F.Shelf g.S.Store asked workers many kits front back after halves.ensures.value split known.kept asks.options.attempts (ap attempts_of is) end.status known.tries;
      writes = subst (λ (n : ℕ). TriesSink g.W.Sink n c.args.out.now c.run_drill.new.out end.status) (sym (ap attempts_of is)) known.writes;
    }

pub returns-in-Ok-Replay : goal.returns-in-Ok-Replay
returns-in-Ok-Replay g c =
    let asks = c.in-Ok-Replay in
    let kits = c.args.kits.now in
    let halves = c.split_at_mut-used-in-Ok-Replay in
    let front = halves.result.0.now in
    let back = halves.result.1.now in
    let after = c.run_replay.new.kits in
    let status = c.run_replay.result in
    let known = c.run_replay.ensures in
    let asked = asked_by c.args.words.now in
    let is : asked ≡ Some (Replay asks.plan.now asks.schedule.now asks.options) = sym asks.ensures.exact ∙ ap (λ (k : Command). Some (shown_command k)) asks.field-0-is in
    let many : workers_of asked ≡ 1 = ap workers_of is in
    let split : length front ≡ min (length kits) 1 = omega (arith, halves.ensures.front_len, c.requires) in
    let ended = c.ended-in-Ok-Replay.ensures in
    let is_status = ap (λ (end : RunEnd). end.status) ended in
    record {
      ends = end_in_use g.F.Shelf g.S.Store asked 1 many kits front back after halves.ensures.value split known.kept g.W.Sink c.args.out.now c.run_replay.new.out _ _
          (subst (λ (a : Option Asked). IsEndOf a (observed_for g.F.Shelf g.S.Store g.W.Sink a front after c.args.out.now c.run_replay.new.out) c.ended-in-Ok-Replay.result.status
          c.ended-in-Ok-Replay.result.outcome) (sym is)
          (subst (λ (end : RunEnd). IsEndOf (Some (Replay asks.plan.now asks.schedule.now asks.options))
          (observed_at g.F.Shelf g.S.Store g.W.Sink front after c.args.out.now c.run_replay.new.out) end.status end.outcome) (sym ended) (known.ends, refl)));
      opened = if_none _ _ (ap (λ (end : RunEnd). end.outcome) ended);
      kits = kits_left g.F.Shelf g.S.Store asked 1 many kits front back after halves.ensures.value split known.kept _
          (subst (λ (s : Status). HasNotBegun s → EachBecomes front after KeepsShelf) (sym is_status) known.idle);
      tries = tries_left g.F.Shelf g.S.Store asked 1 many kits front back after halves.ensures.value split known.kept asks.options.attempts (ap attempts_of is) _
          (subst (λ (s : Status). TriesUnbegun g.S.Store asks.options.attempts 0 front after s) (sym is_status) known.tries);
      writes = subst (λ (n : ℕ). TriesSink g.W.Sink n c.args.out.now c.run_replay.new.out c.ended-in-Ok-Replay.result.status) (sym (ap attempts_of is))
          (subst (λ (s : Status). TriesSink g.W.Sink asks.options.attempts c.args.out.now c.run_replay.new.out s) (sym is_status) known.writes);
    }

pub returns-in-Ok-Combine : goal.returns-in-Ok-Combine
returns-in-Ok-Combine g c =
    let asks = c.in-Ok-Combine in
    let kits = c.args.kits.now in
    let halves = c.split_at_mut-used-in-Ok-Combine in
    let front = halves.result.0.now in
    let back = halves.result.1.now in
    let after = c.run_combine.new.kits in
    let status = c.run_combine.result in
    let known = c.run_combine.ensures in
    let asked = asked_by c.args.words.now in
    let is : asked ≡ Some (Combine asks.plan.now asks.options) = sym asks.ensures.exact ∙ ap (λ (k : Command). Some (shown_command k)) asks.field-0-is in
    let workers = asks.options.workers in
    let many : workers_of asked ≡ workers = ap workers_of is in
    let split : length front ≡ min (length kits) workers = omega (arith, halves.ensures.front_len, c.min-count-in-Ok-Combine.ensures) in
    let ended = c.ended-in-Ok-Combine.ensures in
    let is_status = ap (λ (end : RunEnd). end.status) ended in
    record {
      ends = end_in_use g.F.Shelf g.S.Store asked workers many kits front back after halves.ensures.value split known.kept g.W.Sink c.args.out.now c.run_combine.new.out _ _
          (subst (λ (a : Option Asked). IsEndOf a (observed_for g.F.Shelf g.S.Store g.W.Sink a front after c.args.out.now c.run_combine.new.out) c.ended-in-Ok-Combine.result.status
          c.ended-in-Ok-Combine.result.outcome) (sym is)
          (subst (λ (end : RunEnd). IsEndOf (Some (Combine asks.plan.now asks.options))
          (observed_at g.F.Shelf g.S.Store g.W.Sink front after c.args.out.now c.run_combine.new.out) end.status end.outcome) (sym ended) (known.ends, refl)));
      opened = if_none _ _ (ap (λ (end : RunEnd). end.outcome) ended);
      kits = kits_left g.F.Shelf g.S.Store asked workers many kits front back after halves.ensures.value split known.kept _
          (subst (λ (s : Status). HasNotBegun s → EachBecomes front after KeepsShelf) (sym is_status) known.idle);
      tries = tries_left g.F.Shelf g.S.Store asked workers many kits front back after halves.ensures.value split known.kept asks.options.attempts (ap attempts_of is) _
          (subst (λ (s : Status). TriesUnbegun g.S.Store asks.options.attempts 0 front after s) (sym is_status) known.tries);
      writes = subst (λ (n : ℕ). TriesSink g.W.Sink n c.args.out.now c.run_combine.new.out c.ended-in-Ok-Combine.result.status) (sym (ap attempts_of is))
          (subst (λ (s : Status). TriesSink g.W.Sink asks.options.attempts c.args.out.now c.run_combine.new.out s) (sym is_status) known.writes);
    }

pub returns-in-Err-clause-kits : goal.returns-in-Err-clause-kits
returns-in-Err-clause-kits g c = kits_same g.F.Shelf g.S.Store _ _ c.args.kits.now

pub returns-in-Ok-Help-clause-kits : goal.returns-in-Ok-Help-clause-kits
returns-in-Ok-Help-clause-kits g c = kits_same g.F.Shelf g.S.Store _ _ c.args.kits.now

pub returns-in-Ok-Make-clause-kits : goal.returns-in-Ok-Make-clause-kits
returns-in-Ok-Make-clause-kits g c = kits_same g.F.Shelf g.S.Store _ _ c.args.kits.now
