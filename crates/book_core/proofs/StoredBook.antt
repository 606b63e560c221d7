-- Data that was taken from a book stands for it.
use Rattle.std.proofs.Common.{◌≡◌, ℕ, ◌*◌, ◌<◌, ◌≤◌, Bool, true, false, cond, List, [], ◌∷◌, length, map, refl, sym, ap, subst, ◌∙◌, arith}
use Rattle.std.specs.Prelude.{Option, Some, None}
use Rattle.std.specs.List.{All, count_by, filter, flat_map, enumerate_from}
use Rattle.std.specs.List.Sorted.{IsNonDecreasingBy, IsPermutation}
use Rattle.std.proofs.lemmas.List.Elements.{All-nil, All-cons, All-head, All-tail}
use Rattle.beam_values.specs.declared.cell.Pane.{Pane}
use Rattle.beam_values.specs.declared.marks.CommitMarks.{CommitMarks}
use Rattle.beam_values.specs.declared.plan.Node.{Node}
use Rattle.beam_values.specs.declared.plan.Plan.{Plan}
use Rattle.stateful_core.specs.Cells.{KeyCell}
use Rattle.stateful_core.specs.Data.{AreKeysFormed, IsKeyFormed, cell_of_data, cells_of_data, key_data_of}
use Rattle.stateful_core.specs.Facts.{IsCellSane}
use Rattle.stateful_core.specs.Taking.{is_some}
use Rattle.stateful_core.specs.Working.{is_live, is_number}
use Rattle.watermarks.specs.Holds.{SeenHolds}
use Rattle.book_core.specs.Book.{SeenBook, cell_worked, sets_aside}
use Rattle.book_core.specs.Indexes.{AreHeldIn, IsIndexed, own_holds}
use Rattle.book_core.specs.Sane.{IsSane}
use Rattle.book_core.specs.Stored.{IsDataOf, IsSaneData, book_of, queues_of, waits_at}
use Rattle.book_core.specs.declared.data.BookData.{BookData}
use Rattle.book_core.specs.declared.live.Live.{Live}
use Rattle.book_core.specs.declared.live.WaitingPane.{WaitingPane}
use Rattle.book_core.proofs.StoredWaiting.{All-by_get, queues_back, waiting_all, waiting_up}
use Rattle.book_core.proofs.WaitingOrder.{waiting_low}

-- ---- books that are alike

pub record AreAlike (a b : SeenBook) : Type 0 where
  pub plan : a.plan ≡ b.plan
  pub files : a.files ≡ b.files
  pub options : a.options ≡ b.options
  pub pending : a.pending ≡ b.pending
  pub slots : a.slots ≡ b.slots
  pub queues : a.queues ≡ b.queues
  pub returned : a.returned ≡ b.returned
  pub cells : a.cells ≡ b.cells
  pub dropped : a.dropped ≡ b.dropped
  pub keys : a.keys ≡ b.keys
  pub panes : a.panes ≡ b.panes
  pub done : a.done ≡ b.done
  pub dead : a.dead ≡ b.dead
  pub written : a.written ≡ b.written
  pub commits : a.commits ≡ b.commits
  pub calls : a.calls ≡ b.calls
  pub reads : a.reads ≡ b.reads
  pub stopped : a.stopped ≡ b.stopped

pub alike_same : (a b : SeenBook) → AreAlike a b → a ≡ b
alike_same a b e = λ i. record {
  plan = e.plan i;
  files = e.files i;
  options = e.options i;
  pending = e.pending i;
  slots = e.slots i;
  queues = e.queues i;
  returned = e.returned i;
  cells = e.cells i;
  dropped = e.dropped i;
  keys = e.keys i;
  panes = e.panes i;
  done = e.done i;
  dead = e.dead i;
  written = e.written i;
  commits = e.commits i;
  calls = e.calls i;
  reads = e.reads i;
  stopped = e.stopped i;
}

-- ---- key cells

none_of_none : (live : Option ℕ) → 0 ≡ cond {A = ℕ} (is_some live) 1 0 → live ≡ None
none_of_none None e = refl
none_of_none (Some count) e = absurd (omega (arith, e))

pub none_live : (b : SeenBook) → IsSane b → b.slots ≡ None ∷ [] → All (λ cell. cell.live ≡ None) b.keys
none_live b sane slots =
    All-by_get (λ cell. cell.live ≡ None) b.keys (λ at cell is_at. none_of_none cell.live (
    ap (λ (l : List (Option Live)). count_by (is_number at) (flat_map cell_worked l)) (sym slots)
    ∙ sane.turns.once.once at
    ∙ ap (λ (found : Option KeyCell). cond {A = ℕ} (is_live found) 1 0) is_at
    ))

module _ (plan : Plan) (commits : List CommitMarks) where
  pub keys_back : ((cell : KeyCell) → IsCellSane plan commits cell → cell.live ≡ None → cell_of_data (key_data_of cell) ≡ cell)
      → (cells : List KeyCell) → All (IsCellSane plan commits) cells → All (λ cell. cell.live ≡ None) cells → cells_of_data (map key_data_of cells) ≡ cells
  keys_back back [] sane free = refl
  keys_back back (cell ∷ cells) sane free =
      let first = back cell (All-head (IsCellSane plan commits) cell cells sane) (All-head (λ (c : KeyCell). c.live ≡ None) cell cells free) in
      let later = keys_back back cells (All-tail (IsCellSane plan commits) cell cells sane) (All-tail (λ (c : KeyCell). c.live ≡ None) cell cells free) in
      cc

  pub keys_formed : ((cell : KeyCell) → IsCellSane plan commits cell → IsKeyFormed (key_data_of cell))
      → (cells : List KeyCell) → All (IsCellSane plan commits) cells → AreKeysFormed (map key_data_of cells)
  keys_formed formed [] sane = All-nil IsKeyFormed
  keys_formed formed (cell ∷ cells) sane =
      All-cons IsKeyFormed (key_data_of cell) (map key_data_of cells) (formed cell (All-head (IsCellSane plan commits) cell cells sane))
      (keys_formed formed cells (All-tail (IsCellSane plan commits) cell cells sane))

-- ---- data of a book

-- what is copied, and the panes of all queues in one order
pub record IsCopied (b : SeenBook) (d : BookData) : Type 0 where
  pub plan : d.plan ≡ b.plan
  pub files : d.files ≡ b.files
  pub options : d.options ≡ b.options
  pub pending : d.pending ≡ b.pending
  pub moved : IsPermutation (flat_map (λ (q : List WaitingPane). q) b.queues) d.waiting
  pub order : IsNonDecreasingBy (λ (w : WaitingPane). w.pane) d.waiting
  pub returned : d.returned ≡ b.returned
  pub cells : d.cells ≡ b.cells
  pub dropped : d.dropped ≡ b.dropped
  pub keys : cells_of_data d.keys ≡ b.keys
  pub formed : AreKeysFormed d.keys
  pub panes : d.panes ≡ b.panes
  pub done : d.done ≡ b.done
  pub dead : d.dead ≡ b.dead
  pub written : d.written ≡ b.written
  pub commits : d.commits ≡ b.commits
  pub calls : d.calls ≡ b.calls
  pub reads : d.reads ≡ b.reads

copied_queues : (b : SeenBook) (d : BookData) → IsSane b → IsCopied b d → queues_of d ≡ b.queues
copied_queues b d sane copied =
    subst (λ (panes : List Pane). map (λ ((node, own) : ℕ × Node). filter (waits_at panes node) d.waiting) (enumerate_from 0 d.plan.nodes) ≡ b.queues)
    (sym copied.panes)
    (subst (λ (plan : Plan). map (λ ((node, own) : ℕ × Node). filter (waits_at b.panes node) d.waiting) (enumerate_from 0 plan.nodes) ≡ b.queues)
    (sym copied.plan)
    (queues_back b sane.held d.waiting copied.moved copied.order sane.formed.queues sane.order.queues))

pub is_data : (b : SeenBook) (d : BookData) → IsSane b → b.slots ≡ None ∷ [] → b.stopped ≡ None → IsCopied b d → IsDataOf d b
is_data b d sane slots running copied = record {
  is = alike_same (book_of d) b (record {
    plan = copied.plan;
    files = copied.files;
    options = copied.options;
    pending = copied.pending;
    slots = sym slots;
    queues = copied_queues b d sane copied;
    returned = copied.returned;
    cells = copied.cells;
    dropped = copied.dropped;
    keys = copied.keys;
    panes = copied.panes;
    done = copied.done;
    dead = copied.dead;
    written = copied.written;
    commits = copied.commits;
    calls = copied.calls;
    reads = copied.reads;
    stopped = sym running;
  });
  waiting = record {
    order = waiting_up b sane.held d.waiting copied.moved copied.order;
    there = subst (λ (panes : List Pane). All (λ w. w.pane < length panes) d.waiting) (sym copied.panes)
        (waiting_all b sane.held d.waiting copied.moved copied.order (λ w. w.pane < length b.panes) (waiting_low b sane.held));
  };
  keys = copied.formed;
}

-- as contracts see the book
pub seen_data : (b seen : SeenBook) (d : BookData) → b ≡ seen → IsSane b → seen.slots ≡ None ∷ [] → seen.stopped ≡ None → IsCopied b d → IsDataOf d seen
seen_data b seen d e sane slots running copied =
    subst (IsDataOf d) e (is_data b d sane (ap (λ (x : SeenBook). x.slots) e ∙ slots) (ap (λ (x : SeenBook). x.stopped) e ∙ running) copied)

pub data_is_sane : (b : SeenBook) (d : BookData) → IsSane b → IsDataOf d b → IsSaneData b.plan d
data_is_sane b d sane of_book = record {
  of_plan = ap (λ (x : SeenBook). x.plan) of_book.is;
  sane = subst IsSane (sym of_book.is) sane;
  waiting = of_book.waiting;
  keys = of_book.keys;
}

-- ---- the book that data stands for

-- nothing is worked, so no place is kept for that
no_place : (asides : Bool) (room : ℕ) → cond {A = ℕ} asides (3 * 0) 0 ≤ room
no_place true room = omega arith
no_place false room = omega arith

pub restored_indexed : (plan : Plan) (d : BookData) (b : SeenBook) (held : List SeenHolds) (piece_room batch_room : ℕ) → IsSaneData plan d
    → AreAlike (book_of d) b
    → length held ≡ length plan.nodes → AreHeldIn held (own_holds (book_of d)) → IsIndexed b held piece_room batch_room
restored_indexed plan d b held piece_room batch_room k alike sized holds =
    subst (λ (x : SeenBook). IsIndexed x held piece_room batch_room) (alike_same (book_of d) b alike) (record {
      sane = k.sane;
      sized = sized ∙ ap (λ (p : Plan). length p.nodes) (sym k.of_plan);
      holds_back = holds;
      pieces = no_place (sets_aside d.plan) piece_room;
      batches = omega arith;
    })
