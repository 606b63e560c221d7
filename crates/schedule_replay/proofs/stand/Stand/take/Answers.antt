use Rattle.std.proofs.Common.{◌≡◌, ap, map, subst, refl, arith}
use Rattle.std.specs.Prelude.{Some, None, slice_set}
use Rattle.std.proofs.lemmas.Option.{slice_get_within}
use Rattle.book_core.specs.Calls.{Makes, answer_of}
use Rattle.book_core.specs.Left.{rounds_left}
use Rattle.book_core.specs.Steps.{Finished, Nothing, Stopped, Take}
use Rattle.book_core.specs.declared.live.Taken.{Taken}
use Rattle.schedule_words.specs.declared.told.Took.TheVariants as took
use Rattle.lone_worker.proofs.Rounds.{in_setting}
use Rattle.lone_worker.specs.declared.work.Work.{Work}
use Rattle.schedule_replay.specs.Shown.{shown_slot}
use Rattle.schedule_replay.proofs.Noted.{no_work, slot_free}
use Rattle.schedule_replay.proofs.Taken.{none_stands, started, taken_job, taken_none, taken_stands}
use Rattle.schedule_replay.proofs.stand.Stand.take.Goals as goal

pub take-requires : goal.take-requires
take-requires g c = slot_free g.base c.args.self.now c.requires.0 c.args.slot (no_work c.args.self.now c.args.slot c.requires.1)

pub index_mut-requires : goal.index_mut-requires
index_mut-requires g c = omega (arith, slice_get_within c.args.self.now.works.items c.args.slot None (no_work c.args.self.now c.args.slot c.requires.1), c.args.self.now.works.ok)

pub returns-in-Job-clause-done : goal.returns-in-Job-clause-done
returns-in-Job-clause-done g c =
    let old = c.args.self.now in
    let makes = subst (λ (t : Taken). Makes old.book c.args.slot Take (answer_of t) c.take.new.self) c.in-Job.is c.in_ok-job.ensures.ok in
    let after : slice_set old.works.items c.args.slot (Some c.start.result) ≡ slice_set old.works.items c.args.slot (Some (started c.in-Job.job)) =
    ap (λ (w : Work). slice_set old.works.items c.args.slot (Some w)) c.start.ensures in
    taken_job g.base old c.args.slot (no_work old c.args.slot c.requires.1) _ _ c.in-Job.job c.took_job-what.result c.took_job-what.ensures.is makes (ap (map shown_slot) after)

pub returns-in-Job-clause-standing : goal.returns-in-Job-clause-standing
returns-in-Job-clause-standing g c =
    let old = c.args.self.now in
    let makes = subst (λ (t : Taken). Makes old.book c.args.slot Take (answer_of t) c.take.new.self) c.in-Job.is c.in_ok-job.ensures.ok in
    let step = makes g.base.setting.known.told in
    let known = c.jobs_are_known_as_they_are_taken.ensures.known old.book c.take.new.self c.args.slot c.in-Job.job step in
    let inside = in_setting g.base.setting old.book c.in-Job.job c.requires.0.inside (c.jobs_are_known_as_they_are_taken.ensures.inside g.base.setting.known old.book c.take.new.self c.args.slot c.in-Job.job c.is_sane.ensures step) in
    let after : slice_set old.works.items c.args.slot (Some c.start.result) ≡ slice_set old.works.items c.args.slot (Some (started c.in-Job.job)) =
    ap (λ (w : Work). slice_set old.works.items c.args.slot (Some w)) c.start.ensures in
    taken_stands g.base old c.args.slot (no_work old c.args.slot c.requires.1) _ c.in-Job.job c.requires.0 c.is_sane.ensures.held step known c.took_job-what.ensures.ordered inside after

pub returns-in-Job-clause-rounds : goal.returns-in-Job-clause-rounds
returns-in-Job-clause-rounds g c =
    let old = c.args.self.now in
    let makes = subst (λ (t : Taken). Makes old.book c.args.slot Take (answer_of t) c.take.new.self) c.in-Job.is c.in_ok-job.ensures.ok in
    c.rounds_are_bounded.ensures.take old.book c.take.new.self c.args.slot c.in-Job.job c.is_sane.ensures (makes g.base.setting.known.told)

pub returns-in-Nothing-clause-done : goal.returns-in-Nothing-clause-done
returns-in-Nothing-clause-done g c =
    let old = c.args.self.now in
    let makes = subst (λ (t : Taken). Makes old.book c.args.slot Take (answer_of t) c.take.new.self) c.in-Nothing.is c.in_ok-job.ensures.ok in
    taken_none g.base old c.args.slot (no_work old c.args.slot c.requires.1) _ _ Nothing took.Nothing refl refl makes refl

pub returns-in-Nothing-clause-standing : goal.returns-in-Nothing-clause-standing
returns-in-Nothing-clause-standing g c =
    let old = c.args.self.now in
    let makes = subst (λ (t : Taken). Makes old.book c.args.slot Take (answer_of t) c.take.new.self) c.in-Nothing.is c.in_ok-job.ensures.ok in
    none_stands g.base old c.args.slot (no_work old c.args.slot c.requires.1) _ c.requires.0 (makes g.base.setting.known.told).4 refl

pub returns-in-Nothing-clause-rounds : goal.returns-in-Nothing-clause-rounds
returns-in-Nothing-clause-rounds g c =
    let old = c.args.self.now in
    let makes = subst (λ (t : Taken). Makes old.book c.args.slot Take (answer_of t) c.take.new.self) c.in-Nothing.is c.in_ok-job.ensures.ok in
    omega (arith, ap rounds_left (makes g.base.setting.known.told).4)

pub returns-in-Finished-clause-done : goal.returns-in-Finished-clause-done
returns-in-Finished-clause-done g c =
    let old = c.args.self.now in
    let makes = subst (λ (t : Taken). Makes old.book c.args.slot Take (answer_of t) c.take.new.self) c.in-Finished.is c.in_ok-job.ensures.ok in
    taken_none g.base old c.args.slot (no_work old c.args.slot c.requires.1) _ _ Finished took.Finished refl refl makes refl

pub returns-in-Finished-clause-standing : goal.returns-in-Finished-clause-standing
returns-in-Finished-clause-standing g c =
    let old = c.args.self.now in
    let makes = subst (λ (t : Taken). Makes old.book c.args.slot Take (answer_of t) c.take.new.self) c.in-Finished.is c.in_ok-job.ensures.ok in
    none_stands g.base old c.args.slot (no_work old c.args.slot c.requires.1) _ c.requires.0 (makes g.base.setting.known.told).4 refl

pub returns-in-Finished-clause-rounds : goal.returns-in-Finished-clause-rounds
returns-in-Finished-clause-rounds g c =
    let old = c.args.self.now in
    let makes = subst (λ (t : Taken). Makes old.book c.args.slot Take (answer_of t) c.take.new.self) c.in-Finished.is c.in_ok-job.ensures.ok in
    omega (arith, ap rounds_left (makes g.base.setting.known.told).4)

pub returns-in-Stopped-clause-done : goal.returns-in-Stopped-clause-done
returns-in-Stopped-clause-done g c =
    let old = c.args.self.now in
    let makes = subst (λ (t : Taken). Makes old.book c.args.slot Take (answer_of t) c.take.new.self) c.in-Stopped.is c.in_ok-job.ensures.ok in
    taken_none g.base old c.args.slot (no_work old c.args.slot c.requires.1) _ _ Stopped took.Stopped refl refl makes refl

pub returns-in-Stopped-clause-standing : goal.returns-in-Stopped-clause-standing
returns-in-Stopped-clause-standing g c =
    let old = c.args.self.now in
    let makes = subst (λ (t : Taken). Makes old.book c.args.slot Take (answer_of t) c.take.new.self) c.in-Stopped.is c.in_ok-job.ensures.ok in
    none_stands g.base old c.args.slot (no_work old c.args.slot c.requires.1) _ c.requires.0 (makes g.base.setting.known.told).2 refl

pub returns-in-Stopped-clause-rounds : goal.returns-in-Stopped-clause-rounds
returns-in-Stopped-clause-rounds g c =
    let old = c.args.self.now in
    let makes = subst (λ (t : Taken). Makes old.book c.args.slot Take (answer_of t) c.take.new.self) c.in-Stopped.is c.in_ok-job.ensures.ok in
    omega (arith, ap rounds_left (makes g.base.setting.known.told).2)

pub returns-in_err-job-clause-rounds : goal.returns-in_err-job-clause-rounds
returns-in_err-job-clause-rounds g c = omega (arith, ap rounds_left c.in_err-job.ensures.err)
