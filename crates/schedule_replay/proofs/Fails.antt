-- What is known of a work: whether its piece is spent; and where it failed, that this was at a position of its range.
use Rattle.std.proofs.Common.{◌≡◌, inl, inr, ℕ, true, List, refl, sym, ap, ◌∙◌, subst, arith}
use Rattle.std.specs.Prelude.{Option, Some, None, is_none}
use Rattle.beam_values.specs.declared.cell.Pane.{Pane}
use Rattle.beam_values.specs.declared.fault.FaultNote.{FaultNote}
use Rattle.beam_values.specs.declared.piece.Piece.{Piece}
use Rattle.bundle_commit.specs.declared.job.Job.{Job}
use Rattle.bundle_commit.specs.declared.job.Job.TheVariants as job
use Rattle.bundle_commit.specs.declared.job.Receipt.{Receipt}
use Rattle.book_core.specs.Jobs.{job_of}
use Rattle.book_core.specs.Steps.{IsFresh}
use Rattle.book_core.specs.declared.live.Live.{Live}
use Rattle.book_core.specs.declared.live.Live.TheVariants as live
use Rattle.known_jobs.specs.Calls.{FailsInside, IsFreshJob}
use Rattle.known_jobs.specs.Jobs.{KnownJob}
use Rattle.lone_worker.specs.Work.{Base, IsJobAt, IsRangeAt, IsRangeOf, IsRangeOver, IsWorkAt}
use Rattle.lone_worker.specs.declared.work.Stage.{Stage}
use Rattle.lone_worker.specs.declared.work.Stage.TheVariants as stage
use Rattle.lone_worker.specs.declared.work.Work.{Work}
use Rattle.schedule_replay.specs.Draining.{is_faulted}
use Rattle.schedule_replay.specs.Standing.{IsFailable}
use Rattle.schedule_replay.specs.Stands.{may_fail_in}

-- ---- no spent piece

pub none_by : (spent : Option FaultNote) → is_none spent ≡ true → spent ≡ None
none_by None is = refl
none_by (Some note) is = absurd (cc)

-- what may fail as it was taken may fail as it is known
pub fresh_job : (whole : Job) → may_fail_in whole ≡ true → IsFreshJob whole
fresh_job (job.Span piece) may = none_by piece.spent may
fresh_job (job.Batch node first panes attempts) may = tt
fresh_job (job.Key node cell key span inputs state timers attempts) may = tt

-- and as the book has it
pub fresh_live : (panes : List Pane) (now : Live) → IsFreshJob (job_of panes now) → IsFresh now
fresh_live panes (live.Span piece attempted) fresh = fresh
fresh_live panes (live.Batch batch) fresh = tt
fresh_live panes (live.Key turn) fresh = tt

-- what failed may be failed
pub fails_fresh : (whole : Job) (s : Stage) → IsFailable whole s → is_faulted s ≡ true → may_fail_in whole ≡ true
fails_fresh whole stage.Open failable failed = absurd (cc)
fails_fresh whole stage.Over failable failed = absurd (cc)
fails_fresh whole (stage.Faulted node cause) failable failed = failable

pub may_by : (whole : Job) → IsFreshJob whole → may_fail_in whole ≡ true
may_by (job.Span piece) fresh = ap is_none fresh
may_by (job.Batch node first panes attempts) fresh = refl
may_by (job.Key node cell key span inputs state timers attempts) fresh = refl

pub failable_by : (whole : Job) (s : Stage) → may_fail_in whole ≡ true → IsFailable whole s
failable_by whole stage.Open may = tt
failable_by whole stage.Over may = tt
failable_by whole (stage.Faulted node cause) may = may

-- ---- what is known of a work

module _ (base : Base) (known : Option KnownJob) where
  -- the job as it is known is spent where it was when it was taken
  pub record IsKnownOf (whole : Job) : Type 0 where
    pub now : KnownJob
    pub is : known ≡ Some now
    pub fresh_now : IsFreshJob whole → IsFreshJob now.job
    pub fresh_then : IsFreshJob now.job → IsFreshJob whole

  range_is : (piece : Piece) (attempted : Option ℕ) → IsRangeOf piece attempted known → IsKnownOf (job.Span piece)
  range_is piece attempted range =
      let same : range.now.spent ≡ piece.spent = ap (λ (p : Piece). p.spent) range.claimed.same in
      record { now = record { job = job.Span range.now; attempted = attempted }; is = range.claimed.is; fresh_now = λ fresh. same ∙ fresh; fresh_then = λ fresh. sym same ∙ fresh }

  over_known : (piece : Piece) (spent : Option FaultNote) (staged : Receipt) → IsRangeOver base spent piece known staged → IsKnownOf (job.Span piece)
  over_known piece None staged over = range_is piece (Some over.0.last) over.0.range
  over_known piece (Some note) staged over = range_is piece None over.0

  range_known : (piece : Piece) (next : ℕ) (s : Stage) (staged : Receipt) → IsRangeAt base known piece next s staged → IsKnownOf (job.Span piece)
  range_known piece next stage.Open staged (inl fresh) = range_is piece None fresh.range
  range_known piece next stage.Open staged (inr going) = range_is piece (Some going.last) going.range
  range_known piece next stage.Over staged at = over_known piece piece.spent staged at
  range_known piece next (stage.Faulted node cause) staged at = range_is piece (Some at.last) at.range

  pub job_known : (whole : Job) (work : Work) → IsJobAt base known whole work → IsKnownOf whole
  job_known (job.Span piece) work at = range_known piece work.next work.stage work.staged at.0
  job_known (job.Batch node first panes attempts) work at = record { now = _; is = at.0; fresh_now = λ fresh. fresh; fresh_then = λ fresh. fresh }
  job_known (job.Key node cell key span inputs state timers attempts) work at = record { now = _; is = at.0; fresh_now = λ fresh. fresh; fresh_then = λ fresh. fresh }

-- ---- inside its range

module _ (base : Base) (known : Option KnownJob) where
  range_inside : (piece : Piece) (work : Work) (s : Stage) → work.stage ≡ s → is_faulted s ≡ true → IsRangeAt base known piece work.next work.stage work.staged → FailsInside known
  range_inside piece work stage.Open is failed at = absurd (cc)
  range_inside piece work stage.Over is failed at = absurd (cc)
  range_inside piece work (stage.Faulted node cause) is failed at =
      let failed_at = subst (λ (s : Stage). IsRangeAt base known piece work.next s work.staged) is at in
      let range = failed_at.range in
      let from : range.now.range.from ≡ piece.range.from = ap (λ (p : Piece). p.range.from) range.claimed.same in
      subst FailsInside (sym range.claimed.is) (omega (arith, from, failed_at.from_start), failed_at.inside)

  inside_by : (whole : Job) (work : Work) → is_faulted work.stage ≡ true → IsJobAt base known whole work → FailsInside known
  inside_by (job.Span piece) work failed at = range_inside piece work work.stage refl failed at.0
  inside_by (job.Batch node first panes attempts) work failed at = subst FailsInside (sym at.0) tt
  inside_by (job.Key node cell key span inputs state timers attempts) work failed at = subst FailsInside (sym at.0) tt

  pub fails_inside : (work : Work) → is_faulted work.stage ≡ true → IsWorkAt base known work → FailsInside known
  fails_inside work failed at = inside_by work.job work failed at
