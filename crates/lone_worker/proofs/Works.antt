-- What a slot works is of a kind, and goes on so, is over, or failed.
use Rattle.std.proofs.Common.{◌≡◌, ◌⊎◌, ℕ, true, refl, sym, subst}
use Rattle.std.specs.Prelude.{◌≤ℤ◌, Option, Some, None}
use Rattle.beam_values.specs.Times.{greatest_time}
use Rattle.beam_values.specs.declared.fault.Cause.{Cause}
use Rattle.beam_values.specs.declared.fault.FaultNote.{FaultNote}
use Rattle.beam_values.specs.declared.piece.Piece.{Piece}
use Rattle.bundle_commit.specs.declared.job.Job.{Job}
use Rattle.bundle_commit.specs.declared.job.Job.TheVariants as job
use Rattle.bundle_commit.specs.declared.job.Receipt.{Receipt}
use Rattle.known_jobs.specs.Calls.{CanCommitAs}
use Rattle.known_jobs.specs.Jobs.{KnownJob}
use Rattle.bundle_work.specs.Reading.{AreReaders}
use Rattle.lone_worker.specs.Work.{Base, IsFresh, IsGoing, IsJobAt, IsRangeAt, IsRangeFailed, IsRangeOver, IsWholeAt, IsWorkAt, may_claim_in, receipt_of, receipt_or}
use Rattle.lone_worker.specs.declared.work.Stage.{Stage}
use Rattle.lone_worker.specs.declared.work.Stage.TheVariants as stage
use Rattle.lone_worker.specs.declared.work.Work.{Work}
use Rattle.lone_worker.proofs.Ranges.{open_given, taken_given}

-- ---- a range

is_open : (piece : Piece) (s : Stage) → may_claim_in (job.Span piece) s ≡ true → s ≡ stage.Open
is_open piece stage.Open may = refl
is_open piece stage.Over may = cc
is_open piece (stage.Faulted at cause) may = cc

module _ (base : Base) (known : Option KnownJob) (work : Work) (piece : Piece) (is : work.job ≡ job.Span piece) where
  range_of : IsWorkAt base known work → IsRangeAt base known piece work.next work.stage work.staged × (work.receipt ≡ None)
  range_of at = subst (λ (j : Job). IsJobAt base known j work) is at

  pub opened : may_claim_in work.job work.stage ≡ true → work.stage ≡ stage.Open
  opened may = is_open piece work.stage (subst (λ (j : Job). may_claim_in j work.stage ≡ true) is may)

  -- its positions may be claimed
  pub goes : IsWorkAt base known work → work.stage ≡ stage.Open → IsFresh piece known work.next work.staged ⊎ IsGoing base piece known work.next work.staged
  goes at open_now = subst (λ (s : Stage). IsRangeAt base known piece work.next s work.staged) open_now (range_of at).0

  pub no_receipt : IsWorkAt base known work → work.receipt ≡ None
  no_receipt at = (range_of at).1

  pub work_goes : work.stage ≡ stage.Open → work.receipt ≡ None → IsFresh piece known work.next work.staged ⊎ IsGoing base piece known work.next work.staged → IsWorkAt base known work
  work_goes open_now none at =
      subst (λ (j : Job). IsJobAt base known j work) (sym is) (subst (λ (s : Stage). IsRangeAt base known piece work.next s work.staged) (sym open_now) at, none)

  pub work_over : work.stage ≡ stage.Over → work.receipt ≡ None → IsRangeOver base piece.spent piece known work.staged → IsWorkAt base known work
  work_over over none at =
      subst (λ (j : Job). IsJobAt base known j work) (sym is) (subst (λ (s : Stage). IsRangeAt base known piece work.next s work.staged) (sym over) at, none)

  pub work_failed : (at : ℕ) (cause : Cause) → work.stage ≡ stage.Faulted at cause → work.receipt ≡ None → IsRangeFailed piece known → IsWorkAt base known work
  work_failed at cause failed none inside =
      subst (λ (j : Job). IsJobAt base known j work) (sym is) (subst (λ (s : Stage). IsRangeAt base known piece work.next s work.staged) (sym failed) inside, none)

-- ---- what may be committed

-- a range that didn't fail, and a batch or a key job that was run
abbrev pub IsCommittable : Job → Stage → Type 0
IsCommittable (job.Span piece) (stage.Faulted at cause) = ⊥
IsCommittable (job.Span piece) _ = Unit {0}
IsCommittable _ stage.Over = Unit {0}
IsCommittable _ _ = ⊥

module _ (base : Base) (first : AreReaders base.setting.known.told base.opened base.setting.plan base.readers) (known : Option KnownJob) (work : Work) where
  over_given : (piece : Piece) (spent : Option FaultNote) → IsRangeOver base spent piece known work.staged → work.staged.seen ≤ℤ greatest_time → CanCommitAs base.setting known work.staged
  over_given piece None at time = at.1
  over_given piece (Some note) at time = taken_given base piece first known work.staged at.0 at.1 time

  range_given : (piece : Piece) (s : Stage) (receipt : Option Receipt) → IsCommittable (job.Span piece) s → IsRangeAt base known piece work.next s work.staged → receipt ≡ None
      → (receipt_or receipt work.staged).seen ≤ℤ greatest_time → CanCommitAs base.setting known (receipt_or receipt work.staged)
  range_given piece s (Some receipt) may at none time = absurd (cc)
  range_given piece stage.Open None may at none time = open_given base piece first known work.next work.staged at time
  range_given piece stage.Over None may at none time = over_given piece piece.spent at time
  range_given piece (stage.Faulted at cause) None may is none time = absurd may

  whole_given : (s : Stage) (receipt : Option Receipt) → s ≡ stage.Over → IsWholeAt base known s receipt → CanCommitAs base.setting known (receipt_or receipt work.staged)
  whole_given stage.Open receipt over at = absurd (cc)
  whole_given (stage.Faulted node cause) receipt over at = absurd (cc)
  whole_given stage.Over None over at = absurd at
  whole_given stage.Over (Some receipt) over at = at

  is_over : (whole : Job) (s : Stage) → ((piece : Piece) → whole ≡ job.Span piece → ⊥) → IsCommittable whole s → s ≡ stage.Over
  is_over (job.Span piece) s other may = absurd (other piece refl)
  is_over (job.Batch node first panes attempts) stage.Over other may = refl
  is_over (job.Batch node first panes attempts) stage.Open other may = absurd may
  is_over (job.Batch node first panes attempts) (stage.Faulted at cause) other may = absurd may
  is_over (job.Key node cell key span inputs state timers attempts) stage.Over other may = refl
  is_over (job.Key node cell key span inputs state timers attempts) stage.Open other may = absurd may
  is_over (job.Key node cell key span inputs state timers attempts) (stage.Faulted at cause) other may = absurd may

  given_by : (j : Job) → IsCommittable j work.stage → IsJobAt base known j work → (receipt_of work).seen ≤ℤ greatest_time → CanCommitAs base.setting known (receipt_of work)
  given_by (job.Span piece) may at time = range_given piece work.stage work.receipt may at.0 at.1 time
  given_by (job.Batch node first panes attempts) may at time = whole_given work.stage work.receipt (is_over (job.Batch node first panes attempts) work.stage (λ piece is. cc) may) at.1
  given_by (job.Key node cell key span inputs state timers attempts) may at time =
      whole_given work.stage work.receipt (is_over (job.Key node cell key span inputs state timers attempts) work.stage (λ piece is. cc) may) at.1

  -- what it brings is what its commit may have
  pub work_given : IsCommittable work.job work.stage → IsWorkAt base known work → (receipt_of work).seen ≤ℤ greatest_time → CanCommitAs base.setting known (receipt_of work)
  work_given may at time = given_by work.job may at time
