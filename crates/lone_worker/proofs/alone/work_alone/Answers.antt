use Rattle.std.proofs.Common.{inl, inr, List, map, refl, rules, sym, ap, subst, ◌∙◌, arith}
use Rattle.std.specs.Prelude.{Option, Some}
use Rattle.beam_ports.specs.Observed.{observed_store}
use Rattle.chain_exec.specs.Causes.{observed_shelf}
use Rattle.beam_values.specs.declared.plan.Plan.{Plan}
use Rattle.beam_ports.specs.declared.store.Opened.{Opened}
use Rattle.known_jobs.specs.Jobs.{setting_for}
use Rattle.bundle_work.specs.Openings.{AreOpened, file_names}
use Rattle.bundle_work.specs.Reading.{length_in, opened_lengths}
use Rattle.bundle_work.proofs.Answered.{kit_onward, kit_same}
use Rattle.bundle_work.proofs.Told.{opened_known}
use Rattle.lone_worker.specs.Alone.{GoesOnOrEnds, IsStopCounted}
use Rattle.lone_worker.specs.declared.alone.AloneEnd.{AloneEnd}
use Rattle.lone_worker.proofs.Counted.{rises_on, stop_since}
use Rattle.lone_worker.proofs.Rounds.{no_more, no_more_on, paused, round_ends}
use Rattle.lone_worker.proofs.Leading.{in_after, run_none, run_onward}
use Rattle.lone_worker.proofs.alone.work_alone.Goals as goal

pub returns-in_default-clause-run : goal.returns-in_default-clause-run
returns-in_default-clause-run g c = run_none g.known c.args.book.now

pub returns-in_default-clause-kept : goal.returns-in_default-clause-kept
returns-in_default-clause-kept g c = kit_same g.F.Shelf.faults g.F.Shelf.strict g.S.Store.faults g.S.Store.files g.S.Store.opened c.args.kit.now.shelf c.args.kit.now.store

pub rounds-init : goal.rounds-init
rounds-init g c =
    let b = c.args.book.now in
    let opened = g.S.Store.opened c.args.kit.now.store in
    let known = g.known.told in
    let names = file_names b.plan in
    let are = opened_known known (g.S.Store.files c.args.kit.now.store) opened names c.args.kit.now.files c.requires.1.1.1.1.1.1.1.told c.requires.1.1.1.1.1.1.1.opened in
    let shown = subst (λ (l : List Opened). AreOpened known opened names l) (sym c.as_slice-files.ensures) are in
    record {
      run = run_none g.known b;
      same = record { plan = refl; files = refl; options = refl };
      free = c.requires.1.1.1.1.0;
      idle = c.requires.1.1.1.1.1.0;
      slots = refl;
      more = no_more c.args.most b;
      begun = inl refl;
      reading = c.in-Ok.ensures.reading known opened (subst (λ (p : Plan). AreOpened known opened (file_names p) c.as_slice-files.result.now) (sym c.requires.1.1.1.1.1.1.0) shown);
      lengths = c.in-Ok.ensures.lengths ∙ (λ k. opened_lengths (c.requires.1.1.1.1.1.1.0 k) (c.as_slice-files.ensures k)) ∙ c.requires.1.1.1.1.1.1.1.lengths;
      counted = record { calls = omega arith; reads = omega arith; cause = tt };
      kept = kit_same g.F.Shelf.faults g.F.Shelf.strict g.S.Store.faults g.S.Store.files g.S.Store.opened c.args.kit.now.shelf c.args.kit.now.store;
      files = refl;
    }

pub round-end-requires : goal.round-end-requires
round-end-requires g c κs within =
    let i = c.rounds.invariant in
    let r = c.requires.1.1.1.1 in (
      search rules,
      (
        search rules,
        (
          search rules,
          (
            search rules,
            (
              record { plan = refl; files = refl; options = refl },
              (i.free, (i.idle, (r.1.1.0 ∙ sym i.same.plan, (λ is. i.kept.strict ∙ r.1.1.1.strict is, (i.reading, i.lengths ∙ sym i.same.files))))),
            ),
          ),
        ),
      ),
    )

pub returns-in-Some-clause-run : goal.returns-in-Some-clause-run
returns-in-Some-clause-run g c = run_onward g.known c.args.book.now c.rounds.book c.round-end.new.book c.rounds.invariant.run c.round-end.ensures.run

pub returns-in-Some-clause-ended : goal.returns-in-Some-clause-ended
returns-in-Some-clause-ended g c =
    let i = c.rounds.invariant in
    round_ends c.args.most c.args.slot c.args.book.now c.rounds.book c.round-end.new.book c.in-Some.end i.begun i.slots (c.if-has_as_many.ensures.short refl)
    (subst (λ (e : Option AloneEnd). GoesOnOrEnds c.args.slot c.rounds.book e c.round-end.new.book) c.in-Some.is c.round-end.ensures.end)

pub returns-in-Some-clause-counted : goal.returns-in-Some-clause-counted
returns-in-Some-clause-counted g c =
    let i = c.rounds.invariant in
    let fails = c.round-end.ensures.fails in
    let faults = g.F.Shelf.faults in
    let read_faults = g.S.Store.faults in
    let b = c.args.book.now in
    let new = c.round-end.new.book in
    record {
      calls = rises_on b.calls (faults c.args.kit.now.shelf) (faults c.rounds.kit.shelf) (faults c.round-end.new.kit.shelf) c.rounds.book.calls new.calls i.kept.counts c.round-end.ensures.kept.counts i.counted.calls fails.calls
          c.is_sane.ensures.attempts.calls;
      reads = rises_on b.reads (read_faults c.args.kit.now.store) (read_faults c.rounds.kit.store) (read_faults c.round-end.new.kit.store) c.rounds.book.reads new.reads i.kept.reading.counts c.round-end.ensures.kept.reading.counts
          i.counted.reads fails.reads c.is_sane.ensures.attempts.reads;
      cause = stop_since (observed_shelf g.F.Shelf.strict faults c.args.kit.now.shelf c.round-end.new.kit.shelf) (observed_shelf g.F.Shelf.strict faults c.rounds.kit.shelf c.round-end.new.kit.shelf)
          (observed_store g.S.Store.files read_faults c.args.kit.now.store c.round-end.new.kit.store) (observed_store g.S.Store.files read_faults c.rounds.kit.store c.round-end.new.kit.store) (Some c.in-Some.end) i.kept.counts
          refl i.kept.reading.counts refl
          (subst (IsStopCounted (observed_shelf g.F.Shelf.strict faults c.rounds.kit.shelf c.round-end.new.kit.shelf) (observed_store g.S.Store.files read_faults c.rounds.kit.store c.round-end.new.kit.store)) c.in-Some.is fails.cause);
    }

pub returns-in-Some-clause-kept : goal.returns-in-Some-clause-kept
returns-in-Some-clause-kept g c =
    kit_onward g.F.Shelf.faults g.F.Shelf.strict g.S.Store.faults g.S.Store.files g.S.Store.opened c.args.kit.now.shelf c.rounds.kit.shelf c.round-end.new.kit.shelf c.args.kit.now.store c.rounds.kit.store c.round-end.new.kit.store
    c.rounds.invariant.kept c.round-end.ensures.kept

pub rounds-preserved : goal.rounds-preserved
rounds-preserved g c =
    let i = c.rounds.invariant in
    let fails = c.round-end.ensures.fails in
    let faults = g.F.Shelf.faults in
    let read_faults = g.S.Store.faults in
    let b = c.args.book.now in
    let new = c.round-end.new.book in
    let next = subst (λ (e : Option AloneEnd). GoesOnOrEnds c.args.slot c.rounds.book e new) c.in_default-end.is c.round-end.ensures.end in
    record {
      run = run_onward g.known b c.rounds.book new i.run c.round-end.ensures.run;
      same = in_after (setting_for g.known b) g.known c.rounds.book new c.round-end.ensures.run i.same;
      free = next.free;
      idle = next.rest.idle;
      slots = next.rest.slots ∙ i.slots;
      more = no_more_on c.args.most b c.rounds.book new (c.if-has_as_many.ensures.short refl) next.commits;
      begun = inr next.running;
      reading = c.round-end.ensures.reading;
      lengths = ap (map length_in) c.round-end.ensures.readers ∙ i.lengths;
      counted = record {
        calls = rises_on b.calls (faults c.args.kit.now.shelf) (faults c.rounds.kit.shelf) (faults c.round-end.new.kit.shelf) c.rounds.book.calls new.calls i.kept.counts c.round-end.ensures.kept.counts i.counted.calls fails.calls
            c.is_sane.ensures.attempts.calls;
        reads = rises_on b.reads (read_faults c.args.kit.now.store) (read_faults c.rounds.kit.store) (read_faults c.round-end.new.kit.store) c.rounds.book.reads new.reads i.kept.reading.counts c.round-end.ensures.kept.reading.counts
            i.counted.reads fails.reads c.is_sane.ensures.attempts.reads;
        cause = tt;
      };
      kept = kit_onward g.F.Shelf.faults g.F.Shelf.strict g.S.Store.faults g.S.Store.files g.S.Store.opened c.args.kit.now.shelf c.rounds.kit.shelf c.round-end.new.kit.shelf c.args.kit.now.store c.rounds.kit.store
          c.round-end.new.kit.store i.kept c.round-end.ensures.kept;
      files = c.round-end.ensures.files ∙ i.files;
    }

pub rounds-smaller : goal.rounds-smaller
rounds-smaller g c = (subst (λ (e : Option AloneEnd). GoesOnOrEnds c.args.slot c.rounds.book e c.round-end.new.book) c.in_default-end.is c.round-end.ensures.end).fewer
