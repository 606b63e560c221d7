-- A slot claimed a position, and worked it where that was granted.
use Rattle.std.proofs.Common.{◌≡◌, ℕ, ◌≤◌, List, [], ◌∷◌, map, refl, sym, ap, ◌∙◌, subst}
use Rattle.std.specs.Prelude.{Option, Some, None, slice_get, slice_set}
use Rattle.std.proofs.lemmas.Option.{slice_get_within}
use Rattle.beam_values.specs.declared.file_text.FileText.{FileText}
use Rattle.beam_values.specs.declared.piece.FileLen.{FileLen}
use Rattle.beam_values.specs.declared.plan.Plan.{Plan}
use Rattle.beam_ports.specs.Observed.{ObservedStore}
use Rattle.bundle_commit.specs.declared.job.Job.TheVariants as job
use Rattle.book_core.specs.Book.{SeenBook}
use Rattle.book_core.specs.Calls.{Makes}
use Rattle.book_core.specs.Facts.{AreHeldOnce}
use Rattle.book_core.specs.Steps.{Claim, Claimed, IsClaiming}
use Rattle.book_core.specs.declared.live.Live.{Live}
use Rattle.book_core.specs.declared.live.Live.TheVariants as live
use Rattle.book_core.proofs.Reaching.{step_same}
use Rattle.chain_exec.specs.Causes.{ObservedShelf}
use Rattle.known_jobs.specs.Calls.{CanFailAs, HasAttempted, IsFreshJob, IsJobIn}
use Rattle.known_jobs.specs.Jobs.{KnownJob, known_at, known_in}
use Rattle.lone_worker.specs.Alone.{IsBookIn}
use Rattle.lone_worker.specs.Work.{Base, IsEmittedBy, IsFaultOf, IsNextOfJob, IsSound, IsWorkAt, IsClaimDone as IsPositionDone, is_granted}
use Rattle.lone_worker.specs.declared.work.ClaimEnd.{ClaimEnd}
use Rattle.lone_worker.specs.declared.work.ClaimEnd.TheVariants as claim
use Rattle.lone_worker.specs.declared.work.Stage.{Stage}
use Rattle.lone_worker.specs.declared.work.Stage.TheVariants as stage
use Rattle.lone_worker.specs.declared.work.Work.{Work}
use Rattle.schedule_replay.specs.Drains.{AreEmittedOver}
use Rattle.schedule_replay.specs.Lines.{IsClaimed}
use Rattle.schedule_replay.specs.Shown.{shown, shown_slot, working_of}
use Rattle.schedule_replay.specs.Standing.{AreHonest, HasClaimed, IsFailable, IsSlotAt, IsStanding, claimed_of, emitted_after}
use Rattle.schedule_replay.specs.Stands.{Working}
use Rattle.schedule_replay.specs.Works.{Fault, Worked}
use Rattle.schedule_replay.specs.declared.stand.Stand.{Stand as Stood}
use Rattle.lone_worker.proofs.Leading.{in_same}
use Rattle.schedule_replay.proofs.Fails.{failable_by, job_known, may_by}
use Rattle.schedule_replay.proofs.Noted.{inside, seen_work, slot_works}
use Rattle.schedule_replay.proofs.Slotted.{shown_set}
use Rattle.schedule_replay.proofs.Steps.{Sets, claiming_sets, set_at, stands_then}
use Rattle.schedule_replay.proofs.Traces.{honest_fault, honest_none, honest_sound}

module _ (base : Base) (old : Stood) (standing : IsStanding base old) (slot : ℕ) (work later : Work) (has : slice_get old.works.items slot ≡ Some (Some work)) (new : SeenBook)
    (shelf : ObservedShelf) (store : ObservedStore) where
  abbrev b : SeenBook
  b = old.book

  abbrev told_files : Option (List FileText)
  told_files = base.setting.known.told

  abbrev was : Working
  was = working_of work

  -- the job stays the one that was taken
  job_same : (end : ClaimEnd) → IsPositionDone base.setting shelf store (known_at new slot) work later end → later.job ≡ work.job
  job_same claim.Refused done = ap (λ (w : Work). w.job) done
  job_same (claim.Worked emitted) done = ap (λ (w : Work). w.job) done.0
  job_same claim.Faulted done = ap (λ (w : Work). w.job) done.0

  module _ (end : ClaimEnd) (makes : Makes b slot (Claim work.next) (Claimed (is_granted end)) new) where
    abbrev step : IsClaiming b slot work.next (is_granted end) new
    step = makes told_files

    abbrev live_now : Live
    live_now = live.Span step.piece (Some work.next)

    abbrev known : KnownJob
    known = record { job = job.Span step.piece; attempted = Some work.next }

    abbrev sets : Sets b slot (Some live_now) new
    sets = claiming_sets b new slot work.next (is_granted end) step

    known_is : known_at new slot ≡ Some known
    known_is = ap (known_in new.panes) (set_at b new slot (Some live_now) sets (inside base old standing slot (Some work) has))

    -- some position of it was attempted
    pub claim_attempts : HasAttempted (known_at new slot)
    claim_attempts = subst HasAttempted (sym known_is) tt

    -- no spent piece is claimed from
    claim_failable : IsWorkAt base (known_at new slot) later → IsFailable later.job later.stage
    claim_failable at =
        let now = job_known base (known_at new slot) later.job later at in
        let is : Some known ≡ Some now.now = sym known_is ∙ now.is in
        let same : known ≡ now.now = cc in
        failable_by later.job later.stage (may_by later.job (now.fresh_then (subst (λ (k : KnownJob). IsFreshJob k.job) same step.works.fresh)))

    pub claim_stands : (fin : Stood) → fin.book ≡ new → fin.works.items ≡ slice_set old.works.items slot (Some later) → AreHeldOnce b
        → IsPositionDone base.setting shelf store (known_at new slot) work later end → IsWorkAt base (known_at new slot) later → IsStanding base fin
    claim_stands fin book after held done at =
        let own : IsSlotAt base (known_at new slot) (Some (Some later)) = (at, subst (IsJobIn base.setting) (sym (job_same end done)) (slot_works base old standing slot work has).1, claim_failable at) in
        stands_then base old new fin slot (Some later) standing (slice_get_within old.works.items slot (Some work) has) (Some live_now) told_files (Claim work.next) (Claimed (is_granted end)) held step sets own book after

    in_now : IsBookIn base.setting new
    in_now = in_same base.setting b new (step_same told_files b new slot (Claim work.next) (Claimed (is_granted end)) step) standing.inside

  -- ---- what it did

  module _ (works_then : List (Option Working)) (after : works_then ≡ map shown_slot (slice_set old.works.items slot (Some later))) where
    claim_is : (end : ClaimEnd) → Makes b slot (Claim work.next) (Claimed (is_granted end)) new → (works : List Worked) → IsClaimed told_files new slot was (is_granted end) works (claimed_of end) (working_of later)
        → AreHonest base shelf store works → ((before : ℕ) → AreEmittedOver told_files b.plan (Some (Some was)) works before (emitted_after before end))
        → HasClaimed base shelf store (shown old) (record { book = new; works = works_then }) slot work.next end
    claim_is end makes works came honest counted = record {
      steps = record { slot = slot; action = Claim work.next; answer = Claimed (is_granted end) } ∷ [];
      works = works;
      done = record {
        work = was;
        has = seen_work old slot work has;
        granted = is_granted end;
        made = record { step = makes told_files; made = refl };
        what = claimed_of end;
        later = working_of later;
        came = came;
        after = after ∙ shown_set old.works.items slot (Some later);
        printed = refl;
      };
      what = refl;
      honest = honest;
      counted = λ before.
          subst (λ (w : Option (Option Working)). AreEmittedOver told_files b.plan w works before (emitted_after before end)) (sym (seen_work old slot work has)) (counted before);
    }

    pub has_claimed : shelf.before ≤ shelf.after → store.before ≤ store.after → (end : ClaimEnd) → Makes b slot (Claim work.next) (Claimed (is_granted end)) new
        → IsPositionDone base.setting shelf store (known_at new slot) work later end → HasClaimed base shelf store (shown old) (record { book = new; works = works_then }) slot work.next end
    has_claimed calls reads claim.Refused makes done =
        claim_is claim.Refused makes [] (refl, refl, ap working_of done) (honest_none base shelf store calls reads) (λ before. refl)
    has_claimed calls reads (claim.Worked emitted) makes done =
        let end : ClaimEnd = claim.Worked emitted in
        let now = known end makes in
        let at = known_is end makes in
        let same = in_now end makes in
        let one : Worked = record { job = now.job; attempted = now.attempted; fault = None } in
        let next =
        subst (λ (p : Plan). IsNextOfJob told_files p new.files work.job work.next later.next) (sym same.plan)
        (subst (λ (f : List FileLen). IsNextOfJob told_files base.setting.plan f work.job work.next later.next) (sym same.files) done.1) in
        let emits = subst (λ (p : Plan). IsEmittedBy told_files p work.job work.next emitted) (sym standing.inside.plan) done.2 in
        claim_is end makes (one ∷ []) (None, one, refl, (at, refl), (refl, later.next, next, ap working_of done.0))
        (honest_sound base shelf store calls reads now (subst (IsSound base.setting) at done.3)) (λ before. record { emitted = emitted; is = emits; counted = refl })
    has_claimed calls reads claim.Faulted makes done = by later.stage refl done.1
      where
        by : (s : Stage) → later.stage ≡ s → IsFaultOf base.setting shelf store (known_at new slot) s
            → HasClaimed base shelf store (shown old) (record { book = new; works = works_then }) slot work.next claim.Faulted
        by stage.Open is fault = absurd fault
        by stage.Over is fault = absurd fault
        by (stage.Faulted node cause) is fault =
            let now = known claim.Faulted makes in
            let at = known_is claim.Faulted makes in
            let met : Fault = record { at = node; cause = cause } in
            let one : Worked = record { job = now.job; attempted = now.attempted; fault = Some met } in
            let came : working_of later ≡ record was { stage = stage.Faulted node cause } = ap working_of done.0 ∙ ap (λ (s : Stage). record was { stage = s }) is in
            claim_is claim.Faulted makes (one ∷ []) (Some met, one, refl, (at, refl), (refl, came))
            (honest_fault base shelf store calls reads now node cause fault.0 (subst (λ (k : Option KnownJob). CanFailAs base.setting k node cause) at fault.1)) (λ before. refl)
