-- Runs: lists of steps from the opening of a book on; and when a book is ended.
use Rattle.std.specs.Prelude.{◌≡◌, ℕ, ◌≤◌, List, [], ◌∷◌, map, fold, true, false, Option, None}
use Rattle.std.specs.List.{All}
use Rattle.beam_values.specs.Checked.{IsChecked, reads_file}
use Rattle.beam_values.specs.Times.{final_mark}
use Rattle.beam_values.specs.declared.cell.Cell.{Cell}
use Rattle.beam_values.specs.declared.file_text.FileText.{FileText}
use Rattle.beam_values.specs.declared.marks.StageMarks.{StageMarks}
use Rattle.beam_values.specs.declared.options.Options.{Options}
use Rattle.beam_values.specs.declared.piece.FileLen.{FileLen}
use Rattle.beam_values.specs.declared.piece.Piece.{Piece}
use Rattle.beam_values.specs.declared.plan.Plan.{Plan}
use Rattle.beam_model.specs.Positions.{SourceItem, items, item_len, len_of}
use Rattle.group_cells.specs.Commits.{as_commit}
use Rattle.split_core.specs.Order.{first_pieces, with_pieces}
use Rattle.stateful_core.specs.Facts.{IsCellThrough}
use Rattle.book_core.specs.Book.{SeenBook, AreMarksOfBook, held, last_marks}
use Rattle.book_core.specs.Jobs.{job_of, attempted_of}
use Rattle.book_core.specs.Steps.{Action, Fail, Answer, Step, IsWorking, IsIdle, IsRunning, IsWithinLimits}
use Rattle.book_core.specs.Work.{Surroundings, IsHonest}
use Rattle.book_core.specs.declared.live.Live.{Live}

-- all items are cut into pieces
abbrev pub pieces_of : ℕ → List FileLen → List Piece
pieces_of chunk files = fold (λ pending file. with_pieces (first_pieces file.node file.item file.len chunk) pending) [] files

-- a book before its first step: nothing is worked yet, and it has no slot
abbrev pub opened : Plan → List FileLen → Options → List StageMarks → SeenBook
opened plan files options marks = record {
  plan = plan;
  files = files;
  options = options;
  pending = pieces_of options.chunk files;
  slots = [];
  queues = map (λ node. []) plan.nodes;
  returned = [];
  cells = [];
  dropped = [];
  keys = [];
  panes = [];
  done = [];
  dead = [];
  written = [];
  commits = as_commit marks ∷ [];
  calls = 0;
  reads = 0;
  stopped = None;
}

-- ---- what a book is opened with

-- 1 to 16 workers, bundles of 1 to 1000000, pieces of 1 to 2^40 offsets, and 1 to 1000 attempts
pub record AreOptions (options : Options) : Type 0 where
  pub workers : (1 ≤ options.workers) × (options.workers ≤ 16)
  pub bundle : (1 ≤ options.bundle) × (options.bundle ≤ 1000000)
  pub chunk : (1 ≤ options.chunk) × (options.chunk ≤ 1099511627776)
  pub attempts : (1 ≤ options.attempts) × (options.attempts ≤ 1000)

-- a length is that of this item: any of a file, and of what is counted or made its number
abbrev pub IsLengthOf : SourceItem → FileLen → Type 0
IsLengthOf item file =
    (file.node ≡ item.node) × (file.item ≡ item.item) × (reads_file item.work ≡ false → file.len ≡ len_of item)

-- one length for each source item, by node and item
abbrev pub AreLengthsOf : List SourceItem → List FileLen → Type 0
AreLengthsOf [] [] = Unit {0}
AreLengthsOf (item ∷ items) (file ∷ files) = IsLengthOf item file × AreLengthsOf items files
AreLengthsOf _ _ = ⊥

-- where the files are told, the lengths are theirs
abbrev pub AreTold : List FileText → SeenBook → Type 0
AreTold told b = b.files ≡ map item_len (items told b.plan)

pub record IsOpening (plan : Plan) (files : List FileLen) (options : Options) (b : SeenBook) : Type 0 where
  pub checked : IsChecked plan
  pub lengths : AreLengthsOf (items [] plan) files
  pub allowed : AreOptions options
  pub marks : List StageMarks
  pub is : b ≡ opened plan files options marks
  pub marked : AreMarksOfBook b marks
  pub within : IsWithinLimits b

-- a step that was made
pub record MadeStep : Type 0 where
  pub slot : ℕ
  pub action : Action
  pub answer : Answer

-- the steps lead from one book to another, one after another
abbrev pub Run : Option (List FileText) → SeenBook → List MadeStep → SeenBook → Type 0
Run told b [] end = end ≡ b
Run told b (made ∷ later) end = (next : SeenBook) × Step told b made.slot made.action made.answer next × Run told next later end

-- a run leads there from the opening of its own plan, lengths and options
pub record Reached (told : Option (List FileText)) (b : SeenBook) : Type 0 where
  pub first : SeenBook
  pub opening : IsOpening b.plan b.files b.options first
  pub steps : List MadeStep
  pub run : Run told first steps b

-- the fails of a run were honest
abbrev pub IsHonestAction : Surroundings → SeenBook → ℕ → Action → Type 0
IsHonestAction known b slot (Fail at cause) =
    (job : Live) → IsWorking b slot job → IsHonest known b.plan (job_of b.panes job) (attempted_of job) at cause
IsHonestAction known b slot _ = Unit {0}

abbrev pub HonestRun : Surroundings → SeenBook → List MadeStep → SeenBook → Type 0
HonestRun known b [] end = end ≡ b
HonestRun known b (made ∷ later) end =
    (next : SeenBook) × Step known.told b made.slot made.action made.answer next × IsHonestAction known b made.slot made.action × HonestRun known next later end

pub record HonestlyReached (known : Surroundings) (b : SeenBook) : Type 0 where
  pub first : SeenBook
  pub opening : IsOpening b.plan b.files b.options first
  pub steps : List MadeStep
  pub run : HonestRun known first steps b

abbrev pub AreAllShown : Cell → Type 0
AreAllShown cell = All (λ entry. entry.shown ≡ true) cell.entries

-- Nothing is left to do: nothing is pending, worked or waiting, no timer is set, every entry is shown, and every mark is FINAL.
pub record IsThrough (b : SeenBook) : Type 0 where
  pub pending : b.pending ≡ []
  pub idle : IsIdle b
  pub held : held b ≡ []
  pub keyed : All IsCellThrough b.keys
  pub shown : All AreAllShown b.cells
  pub final : All (λ marks. (marks.mark_in ≡ final_mark) × (marks.mark_out ≡ final_mark)) (last_marks b)

-- the same, and it isn't stopped
pub record IsEnded (b : SeenBook) : Type 0 where
  pub running : IsRunning b
  pub through : IsThrough b
