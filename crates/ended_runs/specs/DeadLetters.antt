-- Positions that a run set aside: which they are, and how they failed.
use Rattle.std.specs.Prelude.{◌≡◌, ℕ, ◌*◌, ◌+◌, ◌<◌, ◌≤◌, false, true, List, [], ◌++◌, length, Some}
use Rattle.std.specs.List.{All, list_any}
use Rattle.beam_values.specs.Cover.{single, times_dead}
use Rattle.beam_values.specs.declared.fault.Cause.TheVariants.{Read}
use Rattle.beam_values.specs.declared.fault.FaultNote.{FaultNote}
use Rattle.beam_values.specs.declared.file_text.FileText.{FileText}
use Rattle.beam_values.specs.declared.outcome.Outcome.{Outcome}
use Rattle.beam_values.specs.declared.outcome.StopCause.TheVariants as cause
use Rattle.beam_values.specs.declared.piece.Dead.{Dead}
use Rattle.beam_values.specs.declared.piece.Piece.{Piece}
use Rattle.beam_values.specs.declared.plan.Plan.{Plan}
use Rattle.beam_model.specs.Coverings.{item_at, spread_of}
use Rattle.beam_model.specs.Positions.{SourceItem, items, len_of}
use Rattle.beam_model.specs.Spread.{is_poison, outputs_at}
use Rattle.book_core.specs.Book.{SeenBook, live_pieces, sets_aside}
use Rattle.book_core.specs.Facts.{IsLastCall}

-- ---- how they failed

-- A plan that sets no position aside has no dead one. Work on each dead position failed as often as it may, the last time by a call, and each fail was counted:
-- with 3 attempts and two dead positions at least 6 jobs failed.
pub record AreDeadNoted (b : SeenBook) (o : Outcome) : Type 0 where
  pub none : sets_aside o.plan ≡ false → o.dead ≡ []
  pub notes : All (λ d. IsLastCall b.options.attempts d.note) o.dead
  pub counted : b.options.attempts * length o.dead ≤ b.calls + b.reads

-- ---- where the files are told: which they are

abbrev pub IsPositionOf : List FileText → Plan → SourceItem → ℕ → Type 0
IsPositionOf told plan item p = (item_at (items told plan) item.node item.item ≡ Some item) × (p < len_of item)

-- each position that is poison alone is dead
abbrev pub ArePoisonDead : List FileText → Outcome → Type 0
ArePoisonDead told o =
    (item : SourceItem) (p : ℕ) → IsPositionOf told o.plan item p → list_any is_poison (outputs_at o.plan item p) ≡ true
    → 1 ≤ times_dead o.dead (record { node = item.node; item = item.item; offset = p })

-- the position of the item alone is poison
abbrev pub IsPoisonPosition : List FileText → Plan → ℕ → ℕ → ℕ → Type 0
IsPoisonPosition told plan node item at = list_any is_poison (spread_of plan (single at) (item_at (items told plan) node item)) ≡ true

abbrev pub IsPoisonDead : List FileText → Plan → Dead → Type 0
IsPoisonDead told plan d = IsPoisonPosition told plan d.node d.item d.at

abbrev pub IsPoisonWhereSpent : List FileText → Plan → Piece → Type 0
IsPoisonWhereSpent told plan piece = (note : FaultNote) → piece.spent ≡ Some note → IsPoisonPosition told plan piece.node piece.item piece.range.from

-- all that is set aside or is to be
pub record AreDeadPoison (told : List FileText) (b : SeenBook) : Type 0 where
  pub pieces : All (IsPoisonWhereSpent told b.plan) (b.pending ++ live_pieces b)
  pub dead : All (IsPoisonDead told b.plan) b.dead

abbrev pub HasNoPoisonPosition : List FileText → Plan → Type 0
HasNoPoisonPosition told plan = (item : SourceItem) (p : ℕ) → IsPositionOf told plan item p → list_any is_poison (outputs_at plan item p) ≡ false

-- ---- what stops a run

-- a fault that stopped the run was a failed read, and one was counted
abbrev pub IsStoppedByRead : SeenBook → Type 0
IsStoppedByRead b = (note : FaultNote) → b.stopped ≡ Some (cause.Spent note) → (note.cause ≡ Read) × (1 ≤ b.reads)
