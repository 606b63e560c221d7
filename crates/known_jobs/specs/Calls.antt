-- What may be done with a job as it is known, and what is known then.
use Rattle.std.specs.Prelude.{◌≡◌, ℕ, ◌<◌, ◌≤◌, ◌+◌, ◌==◌, ◌&&◌, nat_le, Bool, true, length, Option, Some, None}
use Rattle.std.specs.List.{list_any}
use Rattle.beam_values.specs.Nodes.{is_stateful}
use Rattle.beam_values.specs.Tracking.{MayClaim, is_granted}
use Rattle.beam_values.specs.declared.fault.Cause.{Cause}
use Rattle.beam_values.specs.declared.fault.Cause.TheVariants.{Call, Read}
use Rattle.beam_values.specs.declared.piece.FileLen.{FileLen}
use Rattle.beam_values.specs.declared.piece.Piece.{Piece}
use Rattle.bundle_commit.specs.declared.job.Job.{Job}
use Rattle.bundle_commit.specs.declared.job.Job.TheVariants as job
use Rattle.bundle_commit.specs.declared.job.Receipt.{Receipt}
use Rattle.book_core.specs.Book.{tracker_of}
use Rattle.book_core.specs.Steps.{Action, Fail}
use Rattle.book_core.specs.Work.{IsGiven, IsHonest}
use Rattle.known_jobs.specs.Jobs.{IsShortened, KnownJob, Setting}

-- ---- a job that was taken

-- the item is the piece's, and the piece ends within it
abbrev pub holds_end : Piece → FileLen → Bool
holds_end piece file = file.node == piece.node && file.item == piece.item && nat_le piece.range.to file.len

-- A range that isn't empty lies in a listed item; an empty one may lie anywhere. A batch is of a node of the plan, and the job of
-- a key cell of a Stateful one.
abbrev pub IsJobIn : Setting → Job → Type 0
IsJobIn setting (job.Span piece) = piece.range.from < piece.range.to → list_any (holds_end piece) setting.files ≡ true
IsJobIn setting (job.Batch node first panes attempts) = node < length setting.plan.nodes
IsJobIn setting (job.Key node cell key span inputs state timers attempts) = is_stateful setting.plan node ≡ true

-- ---- what may be done with it

-- it isn't a spent piece, which is committed as it was taken
abbrev pub IsFreshJob : Job → Type 0
IsFreshJob (job.Span piece) = piece.spent ≡ None
IsFreshJob (job.Batch node first panes attempts) = Unit {0}
IsFreshJob (job.Key node cell key span inputs state timers attempts) = Unit {0}

abbrev pub MayClaimIn : Job → Option ℕ → ℕ → Type 0
MayClaimIn (job.Span piece) attempted p = (piece.spent ≡ None) × MayClaim (tracker_of piece attempted) p
MayClaimIn _ attempted p = ⊥

-- a range that isn't spent and whose tracker may claim the position
abbrev pub CanClaimAs : Option KnownJob → ℕ → Type 0
CanClaimAs None p = ⊥
CanClaimAs (Some known) p = MayClaimIn known.job known.attempted p

-- the receipt is what the plan gives for the job, of whatever the files are and of the files that are told
abbrev pub CanCommitAs : Setting → Option KnownJob → Receipt → Type 0
CanCommitAs setting None receipt = ⊥
CanCommitAs setting (Some known) receipt =
    IsGiven None setting.plan known.job known.attempted receipt × IsGiven setting.known.told setting.plan known.job known.attempted receipt

-- the fail is honest of the job, which isn't a spent piece
abbrev pub CanFailAs : Setting → Option KnownJob → ℕ → Cause → Type 0
CanFailAs setting None at cause = ⊥
CanFailAs setting (Some known) at cause = IsFreshJob known.job × IsHonest setting.known setting.plan known.job known.attempted at cause

-- the last attempted position of a range lies in it, so it has an offset
abbrev pub IsAttemptedInside : Job → Option ℕ → Type 0
IsAttemptedInside (job.Span piece) None = ⊥
IsAttemptedInside (job.Span piece) (Some p) = (piece.range.from ≤ p) × (p < piece.range.to)
IsAttemptedInside (job.Batch node first panes attempts) attempted = Unit {0}
IsAttemptedInside (job.Key node cell key span inputs state timers attempts) attempted = Unit {0}

-- a job that fails where it is, as a range fails behind a claim that was granted
abbrev pub FailsInside : Option KnownJob → Type 0
FailsInside None = ⊥
FailsInside (Some known) = IsAttemptedInside known.job known.attempted

-- ---- what is known after a claim

-- The range attempted the position, which was granted where it lies in it. Others may have shortened it, behind what was attempted before.
pub record AfterClaim (known : Option KnownJob) (p : ℕ) (granted : Bool) (after : Option KnownJob) : Type 0 where
  pub noted : Piece
  pub attempted : Option ℕ
  pub was : known ≡ Some (record { job = job.Span noted; attempted = attempted })
  pub now : Piece
  pub short : IsShortened noted attempted now
  pub is : after ≡ Some (record { job = job.Span now; attempted = Some p })
  pub answer : granted ≡ is_granted (tracker_of now attempted) p

abbrev pub IsRangeTo : Job → ℕ → Type 0
IsRangeTo (job.Span piece) end = piece.range.to ≡ end
IsRangeTo _ end = ⊥

-- a range is known that ends here
abbrev pub EndsAt : Option KnownJob → ℕ → Type 0
EndsAt None end = ⊥
EndsAt (Some known) end = IsRangeTo known.job end

-- ---- a job that goes on where it is committed

-- a position of a range was attempted, or the range is empty; a spent piece, a batch and a key job go on always
abbrev pub HasAttemptedIn : Job → Option ℕ → Type 0
HasAttemptedIn (job.Span piece) None = piece.spent ≡ None → piece.range.to ≤ piece.range.from
HasAttemptedIn (job.Span piece) (Some p) = Unit {0}
HasAttemptedIn (job.Batch node first panes attempts) attempted = Unit {0}
HasAttemptedIn (job.Key node cell key span inputs state timers attempts) attempted = Unit {0}

abbrev pub HasAttempted : Option KnownJob → Type 0
HasAttempted None = ⊥
HasAttempted (Some known) = HasAttemptedIn known.job known.attempted

-- ---- how many jobs of one slot failed

abbrev pub calls_after : Action → ℕ → ℕ
calls_after (Fail at Call) n = n + 1
calls_after _ n = n

abbrev pub reads_after : Action → ℕ → ℕ
reads_after (Fail at Read) n = n + 1
reads_after _ n = n
