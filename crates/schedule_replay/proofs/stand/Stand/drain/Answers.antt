use Rattle.std.proofs.Common.{Bool, rules, refl, subst, ◌∙◌}
use Rattle.std.specs.Prelude.{Option}
use Rattle.beam_ports.specs.Observed.{observed_store}
use Rattle.chain_exec.specs.Causes.{observed_shelf}
use Rattle.bundle_work.proofs.Answered.{kit_onward, kit_same}
use Rattle.schedule_replay.specs.Draining.{GoesOnOrEnds}
use Rattle.schedule_replay.specs.Shown.{shown}
use Rattle.schedule_replay.proofs.Drained.{drained_all, lines_none, lines_then, none_same}
use Rattle.schedule_replay.proofs.Traces.{honest_none}
use Rattle.schedule_replay.proofs.stand.Stand.drain.Goals as goal

pub jobs-init : goal.jobs-init
jobs-init g c =
    let r = c.requires.1.1.1.1 in
    record {
      emitted = 0;
      lines = lines_none g.base (observed_shelf g.F.Shelf.strict g.F.Shelf.faults c.args.kit.now.shelf c.args.kit.now.shelf) (observed_store g.S.Store.files g.S.Store.faults c.args.kit.now.store c.args.kit.now.store) 0
          (shown c.args.self.now) (none_same g.base g.F.Shelf.strict g.F.Shelf.faults g.S.Store.files g.S.Store.faults c.args.kit.now.shelf c.args.kit.now.store);
      free = r.1.1.1.1.0;
      others = r.1.1.1.1.1;
      standing = r.1.1.1.0;
      reading = r.1.1.0;
      kept = kit_same g.F.Shelf.faults g.F.Shelf.strict g.S.Store.faults g.S.Store.files g.S.Store.opened c.args.kit.now.shelf c.args.kit.now.store;
      files = refl;
    }

pub drain_job-requires : goal.drain_job-requires
drain_job-requires g c κs within =
    let r = c.requires.1.1.1.1 in
    let i = c.jobs.invariant in
    (search rules, (search rules, (search rules, (search rules, (r.0, (λ is. i.kept.strict ∙ r.1.0 is, (i.reading, (i.standing, (i.free, i.others)))))))))

pub jobs-preserved : goal.jobs-preserved
jobs-preserved g c =
    let i = c.jobs.invariant in
    let shelf = observed_shelf g.F.Shelf.strict g.F.Shelf.faults c.jobs.kit.shelf c.drain_job.new.kit.shelf in
    let store = observed_store g.S.Store.files g.S.Store.faults c.jobs.kit.store c.drain_job.new.kit.store in
    let next = subst (λ (e : Option Bool). GoesOnOrEnds g.base shelf store (shown c.jobs.self) (shown c.drain_job.new.self) e) c.in_default.is c.in_ok-end.ensures.done in
    record {
      emitted = next.emitted;
      lines = lines_then g.base g.F.Shelf.strict g.F.Shelf.faults g.S.Store.files g.S.Store.faults c.args.kit.now.shelf c.jobs.kit.shelf c.drain_job.new.kit.shelf c.args.kit.now.store c.jobs.kit.store
          c.drain_job.new.kit.store 0 i.emitted next.emitted (shown c.args.self.now) (shown c.jobs.self) (shown c.drain_job.new.self) i.lines (next.lines i.emitted);
      free = next.free;
      others = next.others;
      standing = c.in_ok-end.ensures.standing;
      reading = c.drain_job.ensures.reading;
      kept = kit_onward g.F.Shelf.faults g.F.Shelf.strict g.S.Store.faults g.S.Store.files g.S.Store.opened c.args.kit.now.shelf c.jobs.kit.shelf c.drain_job.new.kit.shelf c.args.kit.now.store c.jobs.kit.store
          c.drain_job.new.kit.store i.kept c.drain_job.ensures.kept;
      files = c.drain_job.ensures.files ∙ i.files;
    }

pub returns-in-Some-clause-done : goal.returns-in-Some-clause-done
returns-in-Some-clause-done g c =
    let i = c.jobs.invariant in
    let r = c.requires.1.1.1.1 in
    let shelf = observed_shelf g.F.Shelf.strict g.F.Shelf.faults c.jobs.kit.shelf c.drain_job.new.kit.shelf in
    let store = observed_store g.S.Store.files g.S.Store.faults c.jobs.kit.store c.drain_job.new.kit.store in
    let last = subst (λ (e : Option Bool). GoesOnOrEnds g.base shelf store (shown c.jobs.self) (shown c.drain_job.new.self) e) c.in-Some.is c.in_ok-end.ensures.done in
    drained_all g.base g.F.Shelf.strict g.F.Shelf.faults g.S.Store.files g.S.Store.faults c.args.kit.now.shelf c.jobs.kit.shelf c.drain_job.new.kit.shelf c.args.kit.now.store c.jobs.kit.store c.drain_job.new.kit.store i.emitted
    (shown c.args.self.now) (shown c.jobs.self) (shown c.drain_job.new.self) c.in-Some.stopped r.1.1.1.0.inside.options i.lines
    (honest_none g.base shelf store c.drain_job.ensures.kept.counts c.drain_job.ensures.kept.reading.counts) last
