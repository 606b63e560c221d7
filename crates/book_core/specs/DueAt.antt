-- Where what is due is found in the book.
use Rattle.std.specs.Prelude.{◌≡◌, ℕ, List, slice_get, take, Option, Some, None}
use Rattle.book_core.specs.Book.{SeenBook, queue_at}
use Rattle.book_core.specs.Jobs.{Due, GivenBack, Oldest}
use Rattle.book_core.specs.declared.due.DueAt.{DueAt}
use Rattle.book_core.specs.declared.due.DueAt.TheVariants as at
use Rattle.book_core.specs.declared.live.Batch.{Batch}

-- a batch is found at a place
abbrev pub IsBatchAt : List Batch → Option ℕ → Option Batch → Type 0
IsBatchAt batches None None = Unit {0}
IsBatchAt batches (Some at) (Some batch) = slice_get batches at ≡ Some batch
IsBatchAt batches _ _ = ⊥

-- `found` is the job that is due, and stands at this place; where none is due there is no place
abbrev pub IsDueAs : SeenBook → Option Due → Option DueAt → Type 0
IsDueAs b found None = found ≡ None
IsDueAs b found (Some (at.GivenBack place)) =
    (batch : Batch) × (slice_get b.returned place ≡ Some batch) × (found ≡ Some (GivenBack batch))
IsDueAs b found (Some (at.Oldest node)) =
    found ≡ Some (Oldest (record { node = node; panes = take b.options.bundle (queue_at b node); attempts = 0 }))
