-- A slot's job was committed or failed, and the slot is free.
use Rattle.std.proofs.Common.{◌≡◌, ℕ, ◌-◌, ◌≤◌, Bool, true, List, [], ◌∷◌, ◌++◌, length, length-append, map, refl, sym, ap, ◌∙◌, subst, arith}
use Rattle.std.specs.Prelude.{◌≤ℤ◌, Option, Some, None, slice_get, slice_set}
use Rattle.std.proofs.lemmas.Option.{slice_get_within}
use Rattle.beam_values.specs.Times.{greatest_time}
use Rattle.beam_values.specs.declared.fault.Cause.{Cause}
use Rattle.bundle_commit.specs.declared.job.Job.{Job}
use Rattle.bundle_commit.specs.declared.job.Job.TheVariants as job
use Rattle.bundle_commit.specs.declared.job.Receipt.{Receipt}
use Rattle.book_core.specs.Book.{SeenBook, slot_at}
use Rattle.book_core.specs.Calls.{CanFail}
use Rattle.book_core.specs.Facts.{AreHeldOnce}
use Rattle.book_core.specs.Jobs.{attempted_of, job_of}
use Rattle.book_core.specs.Steps.{Answer, CanCommit, Commit, Committed, Fail, IsFailing, Step}
use Rattle.book_core.specs.declared.live.Live.{Live}
use Rattle.known_jobs.specs.Calls.{CanCommitAs, IsFreshJob}
use Rattle.known_jobs.specs.Carried.{can_commit}
use Rattle.known_jobs.specs.Jobs.{KnownJob, known_at, known_in}
use Rattle.known_jobs.specs.Known.{known_where}
use Rattle.bundle_work.specs.Reading.{AreReaders}
use Rattle.lone_worker.specs.Work.{Base, IsWorkAt, receipt_of}
use Rattle.lone_worker.specs.declared.work.Stage.{Stage}
use Rattle.lone_worker.specs.declared.work.Stage.TheVariants as stage
use Rattle.lone_worker.specs.declared.work.Work.{Work}
use Rattle.lone_worker.proofs.Works.{IsCommittable, work_given}
use Rattle.schedule_words.specs.Told.{told_text}
use Rattle.schedule_words.specs.declared.told.Told.TheVariants as answered
use Rattle.schedule_replay.specs.Lines.{fault_of, spent_by}
use Rattle.schedule_replay.specs.Shown.{shown, shown_slot, working_of}
use Rattle.schedule_replay.specs.Standing.{HasCommitted, HasFailed, IsSlotAt, IsStanding}
use Rattle.schedule_replay.specs.Stands.{Working, may_commit_in, may_fail_in}
use Rattle.schedule_replay.specs.declared.stand.Stand.{Stand as Stood}
use Rattle.schedule_replay.proofs.Fails.{fresh_job, fresh_live, job_known}
use Rattle.schedule_replay.proofs.Noted.{inside, seen_work, slot_works}
use Rattle.schedule_replay.proofs.Slotted.{shown_set}
use Rattle.schedule_replay.proofs.Steps.{committing_sets, failing_sets, set_none, stands_then}

-- ---- what is known of a work

committable : (whole : Job) (s : Stage) → may_commit_in whole s ≡ true → IsCommittable whole s
committable (job.Span piece) stage.Open may = tt
committable (job.Span piece) stage.Over may = tt
committable (job.Span piece) (stage.Faulted at cause) may = absurd (cc)
committable (job.Batch node first panes attempts) stage.Open may = absurd (cc)
committable (job.Batch node first panes attempts) stage.Over may = tt
committable (job.Batch node first panes attempts) (stage.Faulted at cause) may = absurd (cc)
committable (job.Key node cell key span inputs state timers attempts) stage.Open may = absurd (cc)
committable (job.Key node cell key span inputs state timers attempts) stage.Over may = tt
committable (job.Key node cell key span inputs state timers attempts) (stage.Faulted at cause) may = absurd (cc)

grows : {A : Type 0} (xs more ys : List A) → ys ≡ xs ++ more → length xs ≤ length ys
grows xs more ys is = omega (arith, ap length is, length-append xs more)

-- a slot of which a job is known works it
works_where : (b : SeenBook) (slot : ℕ) (k : KnownJob) → known_at b slot ≡ Some k → (live : Live) × (slot_at b slot ≡ Some (Some live))
works_where b slot k is = by (slot_at b slot) refl is
  where
    by : (at : Option (Option Live)) → slot_at b slot ≡ at → known_in b.panes at ≡ Some k → (live : Live) × (slot_at b slot ≡ Some (Some live))
    by None at is = absurd (cc)
    by (Some None) at is = absurd (cc)
    by (Some (Some live)) at is = (live, at)

module _ (base : Base) (old : Stood) (standing : IsStanding base old) (slot : ℕ) (work : Work) (has : slice_get old.works.items slot ≡ Some (Some work)) where
  abbrev b : SeenBook
  b = old.book

  abbrev at_work : IsWorkAt base (known_at b slot) work
  at_work = (slot_works base old standing slot work has).0

  -- the slot works it in the book
  pub works_at : (live : Live) × (slot_at b slot ≡ Some (Some live))
  works_at = let known = job_known base (known_at b slot) work.job work at_work in works_where b slot known.now known.is

  -- and may fail it there
  pub can_fail_now : may_fail_in work.job ≡ true → CanFail b slot
  can_fail_now may =
      let known = job_known base (known_at b slot) work.job work at_work in
      let works = works_at in
      let is : Some (record { job = job_of b.panes works.0; attempted = attempted_of works.0 }) ≡ Some known.now = sym (ap (known_in b.panes) works.1) ∙ known.is in
      let same : record { job = job_of b.panes works.0; attempted = attempted_of works.0 } ≡ known.now = cc in
      let fresh : IsFreshJob (job_of b.panes works.0) = subst (λ (k : KnownJob). IsFreshJob k.job) (sym same) (known.fresh_now (fresh_job work.job may)) in
      (works.0, record { works = works.1; fresh = fresh_live b.panes works.0 fresh })

  -- ---- a commit

  module _ (held : AreHeldOnce b) (first : AreReaders base.setting.known.told base.opened base.setting.plan base.readers) (may : may_commit_in work.job work.stage ≡ true)
      (receipt : Receipt) (is : receipt ≡ receipt_of work) (time : receipt.seen ≤ℤ greatest_time) where
    given : CanCommitAs base.setting (known_at b slot) receipt
    given =
        subst (CanCommitAs base.setting (known_at b slot)) (sym is)
        (work_given base first (known_at b slot) work (committable work.job work.stage may) at_work (subst (λ (r : Receipt). r.seen ≤ℤ greatest_time) is time))

    pub commit_can : CanCommit None b slot receipt × CanCommit base.setting.known.told b slot receipt
    commit_can =
        can_commit base.setting b slot (known_at b slot) standing.inside.plan (known_where (λ known. CanCommitAs base.setting known receipt) (λ h. h) b slot held given) receipt given

  pub commit_stands : (fin : Stood) → fin.works.items ≡ slice_set old.works.items slot None → AreHeldOnce b → Step base.setting.known.told b slot Commit Committed fin.book → IsStanding base fin
  commit_stands fin after held step =
      let sets = committing_sets base.setting.known.told b fin.book slot step.0 step.1 in
      let own : IsSlotAt base (known_at fin.book slot) (Some None) = set_none b fin.book slot sets (inside base old standing slot (Some work) has) in
      stands_then base old fin.book fin slot None standing (slice_get_within old.works.items slot (Some work) has) None base.setting.known.told Commit Committed held step sets own refl after

  pub fail_stands : (fin : Stood) → fin.works.items ≡ slice_set old.works.items slot None → AreHeldOnce b → (at : ℕ) (cause : Cause) (answer : Answer) → IsFailing b slot at cause answer fin.book → IsStanding base fin
  fail_stands fin after held at cause answer step =
      let sets = failing_sets b fin.book slot at cause answer step in
      let own : IsSlotAt base (known_at fin.book slot) (Some None) = set_none b fin.book slot sets (inside base old standing slot (Some work) has) in
      stands_then base old fin.book fin slot None standing (slice_get_within old.works.items slot (Some work) has) None base.setting.known.told (Fail at cause) answer held step sets own refl after

  module _ (new : SeenBook) where
    -- lists of the book grow
    pub panes_grow : Step base.setting.known.told b slot Commit Committed new → length b.panes ≤ length new.panes
    panes_grow step = grows b.panes _ new.panes (ap (λ (x : SeenBook). x.panes) step.1.commit.is)

    pub drops_grow : Step base.setting.known.told b slot Commit Committed new → length b.dropped ≤ length new.dropped
    drops_grow step = grows b.dropped _ new.dropped (ap (λ (x : SeenBook). x.dropped) step.1.commit.is)

    module _ (works : List (Option Working)) (after : works ≡ map shown_slot (slice_set old.works.items slot None)) where
      seen_then : works ≡ slice_set (shown old).works slot None
      seen_then = after ∙ shown_set old.works.items slot None

      pub has_committed : Step base.setting.known.told b slot Commit Committed new → (panes drops : ℕ) → panes ≡ length new.panes - length b.panes → drops ≡ length new.dropped - length b.dropped
          → HasCommitted base.setting.known.told (shown old) (record { book = new; works = works }) slot panes drops
      has_committed step panes drops fired dropped = record {
        steps = record { slot = slot; action = Commit; answer = Committed } ∷ [];
        done = record {
          made = record { step = step; made = refl };
          none = refl;
          after = seen_then;
          printed =
              ap (λ (n : ℕ). told_text (answered.Committed slot n drops)) fired
              ∙ ap (λ (n : ℕ). told_text (answered.Committed slot (length new.panes - length b.panes) n)) dropped;
        };
      }

      pub has_failed : (at : ℕ) (cause : Cause) (answer : Answer) → IsFailing b slot at cause answer new → at ≡ (fault_of work.job work.stage).at → cause ≡ (fault_of work.job work.stage).cause
          → (spent : Bool) → spent_by answer ≡ Some spent → HasFailed base.setting.known.told (shown old) (record { book = new; works = works }) slot spent
      has_failed at cause answer step at_is cause_is spent is =
          let fault = fault_of work.job work.stage in
          let node : IsFailing b slot fault.at cause answer new = subst (λ (n : ℕ). IsFailing b slot n cause answer new) at_is step in
          record {
            steps = record { slot = slot; action = Fail fault.at fault.cause; answer = answer } ∷ [];
            done = record {
              work = working_of work;
              has = seen_work old slot work has;
              answer = answer;
              made = record { step = subst (λ (c : Cause). IsFailing b slot fault.at c answer new) cause_is node; made = refl };
              none = refl;
              after = seen_then;
              spent = spent;
              is = is;
              printed = refl;
            };
          }
