-- How far the lines of a schedule were worked, and why that ended.
use Rattle.std.specs.Prelude.{◌≡◌, ℕ, List, [], ◌++◌, Option, Some, None, false}
use Rattle.std.specs.List.{All}
use Rattle.beam_values.specs.Storable.{IsStorable}
use Rattle.beam_text.specs.Parts.{AppendsText}
use Rattle.beam_text.specs.declared.refusal.ScheduleRefusal.TheVariants as refusal
use Rattle.beam_ports.specs.Observed.{ObservedStore}
use Rattle.beam_ports.specs.Files.{Opening}
use Rattle.book_core.specs.Book.{SeenBook}
use Rattle.book_core.specs.Runs.{MadeStep}
use Rattle.book_core.specs.Work.{Surroundings}
use Rattle.bundle_work.specs.declared.reading.Reader.{Reader}
use Rattle.chain_exec.specs.Causes.{ObservedShelf}
use Rattle.known_jobs.specs.Jobs.{setting_for}
use Rattle.lone_worker.specs.Work.{Base}
use Rattle.schedule_words.specs.Schedules.{line_of, lines_of}
use Rattle.schedule_words.specs.declared.line.Line.{Line}
use Rattle.schedule_replay.specs.Replays.{AreWorked, IsEnding, IsLineRefusedIn}
use Rattle.schedule_replay.specs.Standing.{AreHonest, counts_after, counts_before}
use Rattle.schedule_replay.specs.Stands.{Stand, is_allowed}
use Rattle.schedule_replay.specs.Works.{Worked}
use Rattle.schedule_replay.specs.declared.schedule.ReplayRefusal.{ReplayRefusal}
use Rattle.schedule_replay.specs.declared.schedule.ReplayRefusal.TheVariants.{Bad, NoMemory}

-- of one line, with its number
abbrev pub IsLineRefused : List ℕ → Stand → ℕ → ReplayRefusal → Type 0
IsLineRefused words s number (Bad (refusal.Line at)) = (at ≡ number) × (line_of words ≡ None)
IsLineRefused words s number (Bad (refusal.NotAllowed at)) = (at ≡ number) × (one : Line) × (line_of words ≡ Some one) × (is_allowed s one ≡ false)
IsLineRefused words s number _ = ⊥

abbrev pub IsWorkRefused : Base → ObservedShelf → ObservedStore → Stand → List (List ℕ) → ReplayRefusal → Type 0
IsWorkRefused base shelf store start lines (Bad refusal) = IsLineRefusedIn base.setting.known (counts_before shelf store) (counts_after shelf store) base.setting.plan start lines refusal
IsWorkRefused base shelf store start lines NoMemory = Unit {0}

-- lines were worked, and print this behind what there was
pub record AreLinesWorked (base : Base) (shelf : ObservedShelf) (store : ObservedStore) (start : Stand) (lines : List (List ℕ)) (end : Stand) (old new : List ℕ) : Type 0 where
  pub steps : List MadeStep
  pub works : List Worked
  pub text : List ℕ
  pub worked : AreWorked base.setting.known.told start lines steps works text end
  pub honest : AreHonest base shelf store works
  pub printed : new ≡ old ++ text

-- what a replay begins with: a book, what is known outside of it, what its store opened, and the readers of its files
abbrev pub base_of : Surroundings → SeenBook → (ℕ → Option Opening) → List Reader → Base
base_of known b opened readers = record { setting = setting_for known b; opened = opened; readers = readers }

-- the lines of a schedule were worked from a stand on, and this is what they print, and behind them where the run stands
pub record IsPrinted (base : Base) (shelf : ObservedShelf) (store : ObservedStore) (start : Stand) (schedule text : List ℕ) : Type 0 where
  pub end : Stand
  pub lines : List ℕ
  pub worked : AreLinesWorked base shelf store start (lines_of schedule) end [] lines
  pub ends : AppendsText (IsEnding end.book) lines text
  pub storable : All (λ pane. IsStorable pane.element.value) end.book.panes
