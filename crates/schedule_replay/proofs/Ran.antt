-- A slot ran its batch or its key job, and its book stays as it is.
use Rattle.std.proofs.Common.{◌≡◌, ℕ, ◌≤◌, Bool, true, false, List, [], ◌∷◌, map, refl, sym, ap, ◌∙◌, subst}
use Rattle.std.specs.Prelude.{Option, Some, None, is_some, not, slice_get, slice_set}
use Rattle.std.proofs.lemmas.Option.{slice_get_within}
use Rattle.beam_ports.specs.Observed.{ObservedStore}
use Rattle.bundle_commit.specs.declared.job.Job.{Job}
use Rattle.bundle_commit.specs.declared.job.Job.TheVariants as job
use Rattle.book_core.specs.Book.{SeenBook}
use Rattle.chain_exec.specs.Causes.{ObservedShelf}
use Rattle.known_jobs.specs.Calls.{CanFailAs, IsJobIn}
use Rattle.known_jobs.specs.Jobs.{KnownJob, known_at}
use Rattle.lone_worker.specs.Work.{Base, IsFaultOf, IsSound, IsWorkAt, IsRunDone as IsJobRun, may_run_in}
use Rattle.lone_worker.specs.declared.work.Stage.{Stage}
use Rattle.lone_worker.specs.declared.work.Stage.TheVariants as stage
use Rattle.lone_worker.specs.declared.work.Work.{Work}
use Rattle.lone_worker.proofs.Wholes.{run_known}
use Rattle.schedule_words.specs.Told.{told_text}
use Rattle.schedule_words.specs.declared.told.Told.TheVariants as answered
use Rattle.schedule_replay.specs.Lines.{IsWorkOf, stage_of}
use Rattle.schedule_replay.specs.Shown.{shown, shown_slot, working_of}
use Rattle.schedule_replay.specs.Standing.{AreHonest, HasRun, IsSlotAt, IsStanding}
use Rattle.schedule_replay.specs.Stands.{Working, may_fail_in}
use Rattle.schedule_replay.specs.Works.{Fault, Worked}
use Rattle.schedule_replay.specs.declared.stand.Stand.{Stand as Stood}
use Rattle.schedule_replay.proofs.Fails.{failable_by}
use Rattle.schedule_replay.proofs.Noted.{seen_work, slot_works}
use Rattle.schedule_replay.proofs.Slotted.{shown_set}
use Rattle.schedule_replay.proofs.Steps.{stands_same}
use Rattle.schedule_replay.proofs.Traces.{honest_fault, honest_sound}

-- what is run is no piece
runs_fresh : (whole : Job) (s : Stage) → may_run_in whole s ≡ true → may_fail_in whole ≡ true
runs_fresh (job.Span piece) s may = absurd (cc)
runs_fresh (job.Batch node first panes attempts) s may = refl
runs_fresh (job.Key node cell key span inputs state timers attempts) s may = refl

module _ (base : Base) (old : Stood) (standing : IsStanding base old) (slot : ℕ) (work later : Work) (has : slice_get old.works.items slot ≡ Some (Some work)) (may : may_run_in work.job work.stage ≡ true)
    (new : SeenBook) (same : new ≡ old.book) (shelf : ObservedShelf) (store : ObservedStore) where
  abbrev b : SeenBook
  b = old.book

  abbrev was : Working
  was = working_of work

  abbrev known : KnownJob
  known = record { job = work.job; attempted = None }

  known_is : known_at b slot ≡ Some known
  known_is = run_known base (known_at b slot) work.job work.stage work may (slot_works base old standing slot work has).0

  job_same : (worked : Bool) → IsJobRun base.setting shelf store (known_at new slot) work later worked → later.job ≡ work.job
  job_same true done = ap (λ (w : Work). w.job) done.0
  job_same false done = ap (λ (w : Work). w.job) done.0

  pub run_stands : (fin : Stood) → fin.book ≡ new → fin.works.items ≡ slice_set old.works.items slot (Some later) → (worked : Bool)
      → IsJobRun base.setting shelf store (known_at new slot) work later worked → IsWorkAt base (known_at new slot) later → IsStanding base fin
  run_stands fin book after worked done at =
      let own : IsSlotAt base (known_at b slot) (Some (Some later)) = (
        subst (λ (x : SeenBook). IsWorkAt base (known_at x slot) later) same at,
        subst (IsJobIn base.setting) (sym (job_same worked done)) (slot_works base old standing slot work has).1,
        failable_by later.job later.stage (ap may_fail_in (job_same worked done) ∙ runs_fresh work.job work.stage may),
      ) in
      stands_same base old new fin slot (Some later) standing (slice_get_within old.works.items slot (Some work) has) same own book after

  module _ (works_then : List (Option Working)) (after : works_then ≡ map shown_slot (slice_set old.works.items slot (Some later))) where
    run_is : (worked : Bool) (fault : Option Fault) → is_some fault ≡ not worked → (one : Worked) → IsWorkOf b slot fault one → working_of later ≡ record was { stage = stage_of fault } → AreHonest base shelf store (one ∷ [])
        → HasRun base shelf store (shown old) (record { book = new; works = works_then }) slot worked
    run_is worked fault is one of_slot later_is honest = record {
      works = one ∷ [];
      done = record {
        work = was;
        has = seen_work old slot work has;
        fault = fault;
        one = one;
        worked = refl;
        is = of_slot;
        none = refl;
        same = same;
        after = after ∙ shown_set old.works.items slot (Some later) ∙ ap (λ (w : Working). slice_set (shown old).works slot (Some w)) later_is;
        printed = ap (λ (f : Bool). told_text (answered.Ran slot f)) (sym is);
      };
      honest = honest;
    }

    at_first : (P : Option KnownJob → Type 0) → P (known_at new slot) → P (Some known)
    at_first P is = subst P known_is (subst (λ (x : SeenBook). P (known_at x slot)) same is)

    pub has_run : shelf.before ≤ shelf.after → store.before ≤ store.after → (worked : Bool) → IsJobRun base.setting shelf store (known_at new slot) work later worked
        → HasRun base shelf store (shown old) (record { book = new; works = works_then }) slot worked
    has_run calls reads true done =
        let one : Worked = record { job = known.job; attempted = known.attempted; fault = None } in
        run_is true None refl one (known_is, refl) (ap working_of done.0) (honest_sound base shelf store calls reads known (at_first (IsSound base.setting) done.1))
    has_run calls reads false done = by later.stage refl done.1
      where
        by : (s : Stage) → later.stage ≡ s → IsFaultOf base.setting shelf store (known_at new slot) s → HasRun base shelf store (shown old) (record { book = new; works = works_then }) slot false
        by stage.Open is fault = absurd fault
        by stage.Over is fault = absurd fault
        by (stage.Faulted node cause) is fault =
            let met : Fault = record { at = node; cause = cause } in
            let one : Worked = record { job = known.job; attempted = known.attempted; fault = Some met } in
            let came : working_of later ≡ record was { stage = stage.Faulted node cause } = ap working_of done.0 ∙ ap (λ (s : Stage). record was { stage = s }) is in
            run_is false (Some met) refl one (known_is, refl) came
            (honest_fault base shelf store calls reads known node cause fault.0 (at_first (λ (k : Option KnownJob). CanFailAs base.setting k node cause) fault.1))
