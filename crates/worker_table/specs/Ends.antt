-- What the end of a pass says of the book that is given back at the end.
use Rattle.book_core.specs.Book.{SeenBook}
use Rattle.book_core.specs.Runs.{IsThrough}
use Rattle.book_core.specs.Steps.{IsRunning}
use Rattle.worker_table.specs.Fits.{HasNoJobLeft}
use Rattle.worker_table.specs.Notes.{Ending, GoesOn, HasFinished, IsStopped}

-- where the pass has finished, no job is left and the book is through; where it is stopped, so is the book
abbrev pub IsEnded : SeenBook → Ending → Type 0
IsEnded b GoesOn = Unit {0}
IsEnded b HasFinished = HasNoJobLeft b × IsThrough b
IsEnded b IsStopped = IsRunning b → ⊥
