use Rattle.std.proofs.Common.{rules, inl, inr, ◌+◌, ◌≤◌, List, [], ◌∷◌, map, refl, sym, ap, subst, ◌∙◌, arith}
use Rattle.beam_values.specs.declared.plan.Plan.{Plan}
use Rattle.beam_ports.specs.Counts.{greatest_count}
use Rattle.beam_ports.specs.declared.store.Opened.{Opened}
use Rattle.worker_table.specs.Passes.{entry_of, note_of_pass, setting_of}
use Rattle.bundle_work.specs.Openings.{AreOpened, file_names}
use Rattle.bundle_work.specs.Reading.{length_in, opened_lengths}
use Rattle.bundle_work.proofs.Answered.{kit_onward, kit_same}
use Rattle.worker_loop.specs.Laws.{others_onward}
use Rattle.worker_loop.proofs.Rounds.{rises_few, rises_on, share_same}
use Rattle.worker_loop.proofs.Steps.{not_begun}
use Rattle.bundle_work.proofs.Told.{opened_known}
use Rattle.worker_loop.proofs.workers.work.Goals as goal

pub returns-in_default-clause-share : goal.returns-in_default-clause-share
returns-in_default-clause-share g c =
    let told = c.in_default.ensures.told in
    let calls = c.give_up.ensures.keeps.calls ∙ told.calls in
    let reads = c.give_up.ensures.keeps.reads ∙ told.reads in
    share_same c.args.share.now (entry_of c.give_up.new.pass).calls (entry_of c.give_up.new.pass).reads c.counts_have_64_bits.ensures.calls c.counts_have_64_bits.ensures.reads calls reads

pub returns-in_default-new-clause-share : goal.returns-in_default-new-clause-share
returns-in_default-new-clause-share g c =
    let told = c.in-Ok.ensures.told in
    let keeps = c.give_up-in_default-new.ensures.keeps in
    share_same c.args.share.now (entry_of c.give_up-in_default-new.new.pass).calls (entry_of c.give_up-in_default-new.new.pass).reads c.counts_have_64_bits.ensures.calls c.counts_have_64_bits.ensures.reads (keeps.calls ∙ told.calls) (keeps.reads ∙ told.reads)

pub returns-in_default-clause-turns : goal.returns-in_default-clause-turns
returns-in_default-clause-turns g c =
    inl (not_begun (setting_of c.args.table.now) (note_of_pass c.args.pass.now) (note_of_pass c.enroll.new.pass) (note_of_pass c.give_up.new.pass) c.enroll.result c.give_up.result c.enroll.ensures.turn
    c.give_up.ensures.turn)

pub returns-in_default-new-clause-turns : goal.returns-in_default-new-clause-turns
returns-in_default-new-clause-turns g c =
    inl (not_begun (setting_of c.args.table.now) (note_of_pass c.args.pass.now) (note_of_pass c.enroll.new.pass) (note_of_pass c.give_up-in_default-new.new.pass) c.enroll.result c.give_up-in_default-new.result
    c.enroll.ensures.turn c.give_up-in_default-new.ensures.turn)

pub loop-init : goal.loop-init
loop-init g c =
    let setting = setting_of c.args.table.now in
    let opened = g.S.Store.opened c.args.kit.now.store in
    let known = setting.known.told in
    let names = file_names setting.plan in
    let told = c.in-Ok.ensures.told in
    let are = opened_known known (g.S.Store.files c.args.kit.now.store) opened names c.args.kit.now.files c.requires.kit.told c.requires.kit.opened in
    let shown = subst (λ (l : List Opened). AreOpened known opened names l) (sym c.as_slice-files.ensures) are in
    let left : c.into_iter-iterator.result.left ≤ greatest_count = search rules in
    record {
      table = c.in-Ok.ensures.table;
      slot = told.slot;
      free = told.job;
      owes = told.owes ∙ c.requires.owes;
      rounds = ([], refl);
      others = c.in-Ok.ensures.others;
      able = record {
        plan = c.requires.plan;
        strict = c.requires.kit.strict;
        reading = c.in-Ok-new.ensures.reading known opened (subst (λ (p : Plan). AreOpened known opened (file_names p) c.as_slice-files.result.now) (sym c.requires.plan) shown);
        lengths = c.in-Ok-new.ensures.lengths ∙ (λ k. opened_lengths (c.requires.plan k) (c.as_slice-files.ensures k)) ∙ c.requires.kit.lengths;
      };
      kept = kit_same g.F.Shelf.faults g.F.Shelf.strict g.S.Store.faults g.S.Store.files g.S.Store.opened c.args.kit.now.shelf c.args.kit.now.store;
      files = refl;
      share = share_same c.args.share.now (entry_of c.enroll.new.pass).calls (entry_of c.enroll.new.pass).reads c.counts_have_64_bits.ensures.calls c.counts_have_64_bits.ensures.reads told.calls told.reads;
      counted = record { calls = let none = told.calls in omega arith; reads = let none = told.reads in omega arith };
      few_calls = let none = told.calls in omega (arith, left);
      few_reads = let none = told.reads in omega (arith, left);
    }

pub returns-in-Some-end-clause-turns : goal.returns-in-Some-end-clause-turns
returns-in-Some-end-clause-turns g c =
    let i = c.loop.invariant in
    inr (record {
      slot = c.in-Ok.slot;
      begun = note_of_pass c.enroll.new.pass;
      earlier = i.rounds.0;
      last = note_of_pass c.loop.pass;
      enroll = c.in-Ok.ensures.turn;
      rounds = i.rounds.1;
      ends = c.in-Some-end.ensures.turns;
    })

pub returns-in-Some-end-clause-kit : goal.returns-in-Some-end-clause-kit
returns-in-Some-end-clause-kit g c =
    let i = c.loop.invariant in
    let round = c.round-end.ensures in
    let fails = round.counted.fails in
    let faults = g.F.Shelf.faults in
    let read_faults = g.S.Store.faults in
    let e = entry_of c.loop.pass in
    let later = entry_of c.round-end.new.pass in
    let less : c.next.new.self.left + 1 ≤ c.loop.iterator'.left = search rules in
    let few_calls : later.calls ≤ greatest_count = omega (arith, less, i.few_calls, rises_few e.calls later.calls (faults c.loop.kit.shelf) (faults c.round-end.new.kit.shelf) fails.calls) in
    let few_reads : later.reads ≤ greatest_count = omega (arith, less, i.few_reads, rises_few e.reads later.reads (read_faults c.loop.kit.store) (read_faults c.round-end.new.kit.store) fails.reads) in
    record {
      counted = record {
        calls = rises_on (faults c.args.kit.now.shelf) (faults c.loop.kit.shelf) (faults c.round-end.new.kit.shelf) e.calls later.calls i.kept.counts round.stays.kept.counts i.counted.calls fails.calls few_calls;
        reads = rises_on (read_faults c.args.kit.now.store) (read_faults c.loop.kit.store) (read_faults c.round-end.new.kit.store) e.reads later.reads i.kept.reading.counts round.stays.kept.reading.counts i.counted.reads
            fails.reads few_reads;
      };
      files = round.stays.files ∙ i.files;
      kept = kit_onward faults g.F.Shelf.strict read_faults g.S.Store.files g.S.Store.opened c.args.kit.now.shelf c.loop.kit.shelf c.round-end.new.kit.shelf c.args.kit.now.store c.loop.kit.store c.round-end.new.kit.store
          i.kept round.stays.kept;
    }

pub loop-preserved : goal.loop-preserved
loop-preserved g c =
    let i = c.loop.invariant in
    let round = c.round-end.ensures in
    let fails = round.counted.fails in
    let faults = g.F.Shelf.faults in
    let read_faults = g.S.Store.faults in
    let e = entry_of c.loop.pass in
    let later = entry_of c.round-end.new.pass in
    let less : c.next.new.self.left + 1 ≤ c.loop.iterator'.left = search rules in
    let more_calls = rises_few e.calls later.calls (faults c.loop.kit.shelf) (faults c.round-end.new.kit.shelf) fails.calls in
    let more_reads = rises_few e.reads later.reads (read_faults c.loop.kit.store) (read_faults c.round-end.new.kit.store) fails.reads in
    let few_calls : later.calls + c.next.new.self.left ≤ greatest_count = omega (arith, less, i.few_calls, more_calls) in
    let few_reads : later.reads + c.next.new.self.left ≤ greatest_count = omega (arith, less, i.few_reads, more_reads) in
    record {
      table = c.round-end.ensures.table;
      slot = c.round-end.ensures.slot ∙ i.slot;
      free = c.in_default-end.ensures.end.0;
      owes = c.in_default-end.ensures.end.1;
      rounds = (note_of_pass c.loop.pass ∷ i.rounds.0, (c.in_default-end.ensures.turns, i.rounds.1));
      others = others_onward (note_of_pass c.args.pass.now) (note_of_pass c.loop.pass) (note_of_pass c.round-end.new.pass) i.others c.round-end.ensures.others;
      able = record {
        plan = i.able.plan;
        strict = λ known. round.stays.kept.strict ∙ i.able.strict known;
        reading = round.stays.reading;
        lengths = ap (map length_in) round.stays.readers ∙ i.able.lengths;
      };
      kept = kit_onward g.F.Shelf.faults g.F.Shelf.strict g.S.Store.faults g.S.Store.files g.S.Store.opened c.args.kit.now.shelf c.loop.kit.shelf c.round-end.new.kit.shelf c.args.kit.now.store c.loop.kit.store
          c.round-end.new.kit.store i.kept round.stays.kept;
      files = round.stays.files ∙ i.files;
      share = round.counted.share c.args.share.now i.share;
      counted = record {
        calls = rises_on (faults c.args.kit.now.shelf) (faults c.loop.kit.shelf) (faults c.round-end.new.kit.shelf) e.calls later.calls i.kept.counts round.stays.kept.counts i.counted.calls fails.calls
            (omega (arith, few_calls));
        reads = rises_on (read_faults c.args.kit.now.store) (read_faults c.loop.kit.store) (read_faults c.round-end.new.kit.store) e.reads later.reads i.kept.reading.counts round.stays.kept.reading.counts
            i.counted.reads fails.reads (omega (arith, few_reads));
      };
      few_calls = few_calls;
      few_reads = few_reads;
    }
