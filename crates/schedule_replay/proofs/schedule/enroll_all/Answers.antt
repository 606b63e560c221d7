use Rattle.std.proofs.Common.{◌≡◌, ℕ, refl, ap, ◌∙◌, subst, arith}
use Rattle.std.specs.Prelude.{None, Option, replicate}
use Rattle.book_core.specs.Runs.{Run}
use Rattle.book_core.specs.declared.live.Live.{Live}
use Rattle.lone_worker.specs.declared.work.Work.{Work}
use Rattle.schedule_replay.specs.Replays.{enrolls}
use Rattle.schedule_replay.proofs.Begun.{files_enrolled, none_more, options_enrolled, plan_enrolled, run_enrolled, run_none, slots_enrolled}
use Rattle.schedule_replay.proofs.schedule.enroll_all.Goals as goal

pub slots-init : goal.slots-init
slots-init c = record {
  run = λ told. run_none told c.args.book.now;
  free = c.requires.free;
  slots = c.requires.none;
  plan = refl;
  files = refl;
  options = refl;
}

pub slots-preserved : goal.slots-preserved
slots-preserved c =
    let i = c.slots.invariant in
    let b = c.slots.book in
    let new = c.enroll.new.self in
    let n = c.slots._number in
    let number = c.in_ok-_enrolled._enrolled in
    let makes = c.in_ok-_enrolled.ensures.ok in
    record {
      run = run_enrolled c.args.book.now b new n number i.slots makes i.run;
      free = c.in_ok-push.ensures.items ∙ none_more n c.slots.works.items i.free;
      slots = slots_enrolled c.args.book.now b new n number i.slots makes;
      plan = plan_enrolled c.args.book.now b new n number i.slots makes ∙ i.plan;
      files = files_enrolled c.args.book.now b new n number i.slots makes ∙ i.files;
      options = options_enrolled c.args.book.now b new n number i.slots makes ∙ i.options;
    }

pub returns : goal.returns
returns c =
    let i = c.slots.invariant in
    let all : c.slots._number ≡ c.args.count = omega arith in
    record {
      run = λ told. subst (λ (n : ℕ). Run told c.args.book.now (enrolls n) c.slots.book) all (i.run told);
      free = i.free ∙ ap (λ (n : ℕ). replicate {A = Option Work} n None) all;
      slots = i.slots ∙ ap (λ (n : ℕ). replicate {A = Option Live} n None) all;
      plan = i.plan;
      lengths = i.files;
      options = i.options;
    }
