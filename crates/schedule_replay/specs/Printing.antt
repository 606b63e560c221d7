-- What was printed of the ranges and the dead positions of a book.
use Rattle.std.specs.Prelude.{◌≡◌, ℕ, List, ◌++◌, map}
use Rattle.std.specs.List.{flat_map}
use Rattle.std.specs.List.Sorted.{IsSorted}
use Rattle.beam_values.specs.Bags.{IsSameBag}
use Rattle.beam_values.specs.declared.piece.Done.{Done}
use Rattle.book_core.specs.Book.{SeenBook, live_pieces}
use Rattle.book_core.specs.Changes.{done_cmp}
use Rattle.schedule_replay.specs.Replays.{as_done, break, done_line, live_line, pending_line, position_of}

-- the ranges that are done, live and pending, and the dead positions, each group ascending
pub record AreRangesPrinted (b : SeenBook) (old new : List ℕ) : Type 0 where
  pub live : List Done
  pub all : IsSameBag live (map as_done (live_pieces b))
  pub ascending : IsSorted done_cmp live
  pub printed : new ≡ old ++ (break ++ (flat_map done_line b.done ++ (flat_map live_line live ++ (flat_map pending_line b.pending ++ flat_map position_of b.dead))))
