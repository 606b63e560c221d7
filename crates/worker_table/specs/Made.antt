-- What the acts of a pass make, as steps and deeds.
use Rattle.std.specs.Prelude.{◌≡◌, ℕ, List, Option, Some, Result, Ok, Err}
use Rattle.beam_values.specs.declared.file_text.FileText.{FileText}
use Rattle.bundle_commit.specs.declared.job.Receipt.{Receipt}
use Rattle.book_core.specs.Book.{SeenBook}
use Rattle.book_core.specs.Steps.{CanCommit, Commit, Step}
use Rattle.book_core.specs.Work.{Surroundings}
use Rattle.book_core.specs.declared.live.Unplaced.{Unplaced}
use Rattle.worker_table.specs.Calls.{Helping, Placing, commit_answer, help_deed}
use Rattle.worker_table.specs.Moves.{Does}
use Rattle.worker_table.specs.Notes.{Entry}
use Rattle.worker_table.specs.declared.help.Help.{Help}
use Rattle.worker_table.specs.declared.help.Help.TheVariants as help

-- the step that a commit is, whatever it answers
pub commits : {U : Type 0} (told : Option (List FileText)) (b new : SeenBook) (i : ℕ) (receipt : Receipt) (answer : Result U Unplaced) → CanCommit told b i receipt → Placing b i receipt answer new
    → Step told b i Commit (commit_answer answer) new
commits {U} told b new i receipt (Ok u) can placed = let made = placed told can in (receipt, made.0, made.1)
commits {U} told b new i receipt (Err unplaced) can placed = ((receipt, can), placed.1)

pub helps : (known : Surroundings) (b new : SeenBook) (i : ℕ) (e : Entry) (found : Help) → e.slot ≡ Some i → Helping b i found new → Does known e b (help_deed found) new
helps known b new i e help.Nobody slot found = (i, slot, found.0, found.1)
helps known b new i e (help.Cut other at) slot found = (i, slot, found.0, found.1 known.told)
helps known b new i e (help.Refused other) slot found = (i, slot, found.0, found.1)
