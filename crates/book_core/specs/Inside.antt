-- What contracts see of a book, and what it keeps.
use Rattle.std.specs.Prelude.{◌≡◌, map}
use Rattle.book_core.specs.KeyCells.{cells_in}
use Rattle.book_core.specs.Book.{SeenBook, waiting_in}
use Rattle.book_core.specs.Indexes.{IsIndexed}
use Rattle.book_core.specs.declared.book.Book.TheInside.{Inside}

abbrev pub data_of : Inside → SeenBook
data_of b = record {
  plan = b.graph;
  files = b.files;
  options = b.options;
  pending = b.pieces.pending;
  slots = b.slots.items;
  queues = map (λ q. q.panes) b.queues.items;
  returned = b.returned.items;
  cells = b.groups.cells;
  dropped = b.groups.dropped;
  keys = cells_in b.keys;
  panes = b.results.panes.items;
  done = b.results.done.items;
  dead = b.results.dead.items;
  written = b.results.written.items;
  commits = b.results.commits.items;
  calls = b.faults.calls;
  reads = b.faults.reads;
  stopped = b.stopped;
}

-- its data agrees with its indexes, its Groups are those of its own plan, and the elements that wait at key cells are counted
pub record IsKept (b : Inside) : Type 0 where
  pub indexed : IsIndexed (data_of b) b.held b.pieces.room b.returned.room
  pub grouped : b.groups.plan ≡ b.graph
  pub counted : b.waiting ≡ waiting_in (cells_in b.keys)
