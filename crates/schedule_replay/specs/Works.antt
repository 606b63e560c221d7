-- The works of a replay: on a position, on a batch, or on a key job; and how each of them went.
use Rattle.std.specs.Prelude.{◌≡◌, ℕ, ◌≤◌, true, false, List, [], ◌∷◌, Option, Some, None}
use Rattle.std.specs.List.{All, list_any}
use Rattle.beam_values.specs.declared.fault.Cause.{Cause}
use Rattle.beam_values.specs.declared.fault.Cause.TheVariants.{Call, Read}
use Rattle.beam_values.specs.declared.plan.Plan.{Plan}
use Rattle.beam_model.specs.Spread.{is_poison}
use Rattle.beam_ports.specs.Counts.{Rose}
use Rattle.bundle_commit.specs.declared.job.Job.{Job}
use Rattle.book_core.specs.Work.{Surroundings, IsHonest}
use Rattle.lone_worker.specs.Work.{is_known_work, outputs_at}

-- why a work failed, and at which node
pub record Fault : Type 0 where
  pub at : ℕ
  pub cause : Cause

-- A work on a job: of a range on its last attempted position, of a batch and a key job on all of it; and how it failed, if it did.
pub record Worked : Type 0 where
  pub job : Job
  pub attempted : Option ℕ
  pub fault : Option Fault

-- ---- how it went

abbrev pub IsHonestEnd : Surroundings → Plan → Job → Option ℕ → Option Fault → Type 0
IsHonestEnd known plan job attempted None =
    is_known_work known.told plan job ≡ true → list_any is_poison (outputs_at known.told plan job attempted) ≡ false
IsHonestEnd known plan job attempted (Some fault) = IsHonest known plan job attempted fault.at fault.cause

-- A work that failed did so for an honest cause, and one that didn't met no poison.
abbrev pub IsHonestWork : Surroundings → Plan → Worked → Type 0
IsHonestWork known plan work = IsHonestEnd known plan work.job work.attempted work.fault

-- ---- what was counted

-- the counts of faults of a shelf and a store
pub record Counts : Type 0 where
  pub shelf : ℕ
  pub store : ℕ

pub record AreBefore (before after : Counts) : Type 0 where
  pub shelf : before.shelf ≤ after.shelf
  pub store : before.store ≤ after.store

-- a fault was counted: of a call at the shelf, of a read at the store
abbrev pub IsCountedBy : Counts → Counts → Cause → Type 0
IsCountedBy before after Call = Rose before.shelf after.shelf
IsCountedBy before after Read = Rose before.store after.store

abbrev pub IsFaultCounted : Counts → Counts → Option Fault → Type 0
IsFaultCounted before after None = Unit {0}
IsFaultCounted before after (Some fault) = IsCountedBy before after fault.cause

-- What was counted from the one to the other covers the works, one after another: each of them has its own part of it, and in that the fault with which it
-- failed.
abbrev pub IsTraced : Counts → Counts → List Worked → Type 0
IsTraced start end [] = AreBefore start end
IsTraced start end (work ∷ works) =
    (before : Counts) × (after : Counts) × AreBefore start before × AreBefore before after × IsFaultCounted before after work.fault × IsTraced after end works

-- works were honest, and what was counted from the one to the other covers them
pub record AreHonestWorks (known : Surroundings) (before after : Counts) (plan : Plan) (works : List Worked) : Type 0 where
  pub each : All (IsHonestWork known plan) works
  pub traced : IsTraced before after works
