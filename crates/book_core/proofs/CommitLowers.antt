-- A commit of a job that goes on lowers what is left: at the job's node there is less, and before it as much as there was.
use Rattle.std.proofs.Common.{◌≡◌, inl, inr, ℕ, zero, suc, ◌+◌, ◌*◌, ◌-◌, ◌<◌, ◌≤◌, Bool, true, false, cond, List, [], ◌∷◌, ◌++◌, length, map, refl, sym, ap, subst, ◌∙◌, arith}
use Rattle.std.specs.Prelude.{Option, Some, None, ◌==◌, max, nat_lt, slice_get}
use Rattle.std.specs.List.{All, count_by, enumerate_from, flat_map, sum_by}
use Rattle.std.proofs.lemmas.Bool.{cases_lt}
use Rattle.std.proofs.lemmas.Bool.Decides.{nat_tests}
use Rattle.std.proofs.lemmas.List.Elements.{All-head, All-tail, All-weaker}
use Rattle.std.proofs.lemmas.List.Sums.{sum_by-cons}
use Rattle.std.proofs.lemmas.Option.{same_Some}
use Rattle.beam_values.specs.Lines.{offsets}
use Rattle.beam_values.proofs.Bags.{bag_count}
use Rattle.beam_values.specs.declared.arrival.Arrival.{Arrival}
use Rattle.beam_values.specs.declared.cell.Cell.{Cell}
use Rattle.beam_values.specs.declared.cell.Pane.{Pane}
use Rattle.beam_values.specs.declared.fault.FaultNote.{FaultNote}
use Rattle.beam_values.specs.declared.file_text.FileText.{FileText}
use Rattle.beam_values.specs.declared.marks.StageMarks.{StageMarks}
use Rattle.beam_values.specs.declared.piece.Piece.{Piece}
use Rattle.beam_values.specs.declared.plan.Plan.{Plan}
use Rattle.bundle_commit.specs.declared.job.Receipt.{Receipt}
use Rattle.group_cells.proofs.Counting.{count-append}
use Rattle.stateful_core.specs.Cells.{KeyCell}
use Rattle.stateful_core.specs.Facts.{IsCellSane}
use Rattle.stateful_core.specs.Lasting.{left_of}
use Rattle.stateful_core.specs.Placing.{Done, fresh_cell, place, waits, with_done, with_waiting}
use Rattle.stateful_core.specs.declared.key_job.KeyTurn.{KeyTurn}
use Rattle.stateful_core.proofs.OnceOnly.{belongs_keyed}
use Rattle.stateful_core.proofs.WhatIsLeft.{done_lowers}
use Rattle.book_core.specs.Book.{SeenBook, HeldPane, batch_of, held, held_at, held_in, last_marks, live_pieces, piece_of}
use Rattle.book_core.specs.Changes.{committed, pending_after, pending_with, with_residual}
use Rattle.book_core.specs.Committing.{node_of}
use Rattle.book_core.specs.Facts.{IsAttemptedWithin}
use Rattle.book_core.specs.Left.{GoesOn, IsBelow, attempts_left, left, left_at, left_in, left_of_size}
use Rattle.book_core.specs.Sane.{IsSane}
use Rattle.book_core.specs.Steps.{IsWorking}
use Rattle.book_core.specs.Work.{worked_to}
use Rattle.book_core.specs.declared.live.Batch.{Batch}
use Rattle.book_core.specs.declared.live.Live.{Live}
use Rattle.book_core.specs.declared.live.Live.TheVariants as live
use Rattle.book_core.specs.declared.live.WaitingPane.{WaitingPane}
use Rattle.book_core.proofs.Cases.{Commits}
use Rattle.book_core.proofs.CellsKept.{batch_at_group}
use Rattle.book_core.proofs.EachKeyCell.{IsWeightless, all_weigh, done_weighs}
use Rattle.book_core.proofs.HeldMoves.{IsNonempty, fired_held}
use Rattle.book_core.proofs.HeldOnce.{commit_bag, group_within}
use Rattle.book_core.proofs.HoldBags.{piece_set_weighs, with_piece_weight}
use Rattle.book_core.proofs.KeysKept.{cells_within}
use Rattle.book_core.proofs.Lowered.{at_node, cell_left, fresh_size, left_at_weighs}
use Rattle.book_core.proofs.Onward.{ArriveBehind, given_arrives}
use Rattle.book_core.proofs.PiecesListed.{IsPlaced, placed_of}
use Rattle.book_core.proofs.Queues.{held_fired}
use Rattle.book_core.proofs.Settled.{NoneAt, none_fires}
use Rattle.book_core.proofs.Slots.{All-slice_get}
use Rattle.book_core.proofs.Slotted.{All-append_right, All-flat_at, one_weighs}
use Rattle.book_core.proofs.Turns.{IsPlacedJob, placed_job, turn_at}

-- ---- lists of numbers

-- the lists are alike before a place, and lower there
below_from : (f g : ℕ → ℕ) (x y n start count : ℕ) → start ≤ n → n < start + count → ((m : ℕ) → m < n → f m ≡ g m) → f n < g n
    → IsBelow (map f (offsets start count) ++ x ∷ []) (map g (offsets start count) ++ y ∷ [])
unfolding offsets
below_from f g x y n start zero low high same less = absurd (omega (arith, low, high))
below_from f g x y n start (suc count) low high same less = elim (cases_lt start n) [
  | inl before ↦ inr (same start before, below_from f g x y n (suc start) count before (omega (arith, high)) same less)
  | inr there ↦
      let at : start ≡ n = omega (arith, low, there) in
      inl (subst (λ (k : ℕ). f k < g k) (sym at) less)
]

pub lower_at : (b new : SeenBook) (n : ℕ) → new.plan ≡ b.plan → n < length b.plan.nodes → ((m : ℕ) → m < n → left_at new m ≡ left_at b m) → left_at new n < left_at b n
    → IsBelow (left new) (left b)
lower_at b new n plan inside same less =
    subst (λ (p : Plan). IsBelow (map (left_at new) (offsets 0 (length p.nodes)) ++ attempts_left new ∷ []) (left b)) (sym plan)
    (below_from (left_at new) (left_at b) (attempts_left new) (attempts_left b) n 0 (length b.plan.nodes) (omega arith) (omega (arith, inside)) same less)

-- ---- pieces

-- a piece that is worked is of a node of the plan
pub worked_placed : (b : SeenBook) → IsSane b → (slot : ℕ) (piece : Piece) (attempted : Option ℕ) → IsWorking b slot (live.Span piece attempted) → piece.node < length b.plan.nodes
worked_placed b sane slot piece attempted works =
    let live_placed = All-append_right (IsPlaced b) b.pending (live_pieces b) (placed_of b sane.formed sane.listed sane.partitioned) in
    (All-head (IsPlaced b) piece [] (All-flat_at piece_of b.slots slot (IsPlaced b) (Some (live.Span piece attempted)) works live_placed)).0

-- what is left of a piece behind what was worked, where something is; of a spent one nothing
rest_of_size : Option FaultNote → Piece → ℕ → ℕ
rest_of_size None piece upto = cond (nat_lt upto piece.range.to) (max 1 (3 * (piece.range.to - upto) - 1)) 0
rest_of_size (Some note) piece upto = 0

rest_size : Piece → ℕ → ℕ
rest_size piece upto = rest_of_size piece.spent piece upto

rest_weighs : (piece : Piece) (attempted : Option ℕ) (receipt : Receipt) (pending : List Piece) (m : ℕ)
    → sum_by (at_node m) (pending_after pending (live.Span piece attempted) receipt) ≡ cond (piece.node == m) (rest_size piece (worked_to piece attempted)) 0 + sum_by (at_node m) pending
unfolding rest_size rest_of_size at_node
rest_weighs piece attempted receipt pending m = by_spent piece.spent refl
  where
    none : (t : Bool) → cond {A = ℕ} t 0 0 ≡ 0
    none true = refl
    none false = refl

    by : (t : Bool) → piece.spent ≡ None
        → sum_by (at_node m) (with_residual (cond t (Some (record piece { range = record { from = worked_to piece attempted; to = piece.range.to }; seen = receipt.seen; attempts = 0 })) None) pending)
        ≡ cond (piece.node == m) (cond t (max 1 (3 * (piece.range.to - worked_to piece attempted) - 1)) 0) 0 + sum_by (at_node m) pending
    by true fresh =
        let size = ap (λ (n : ℕ). cond (piece.node == m) n 0) (fresh_size piece.spent (piece.range.to - worked_to piece attempted) fresh) in
        omega (arith, size, with_piece_weight (at_node m) (record piece { range = record { from = worked_to piece attempted; to = piece.range.to }; seen = receipt.seen; attempts = 0 }) pending)
    by false fresh = omega (arith, none (piece.node == m))

    by_spent : (spent : Option FaultNote) → piece.spent ≡ spent
        → sum_by (at_node m) (pending_with spent piece attempted receipt pending) ≡ cond (piece.node == m) (rest_of_size spent piece (worked_to piece attempted)) 0 + sum_by (at_node m) pending
    by_spent None e = by (nat_lt (worked_to piece attempted) piece.range.to) e
    by_spent (Some note) e = omega (arith, none (piece.node == m))

-- less is left behind a position that was attempted, and of a spent piece nothing
rest_less : (piece : Piece) (attempted : Option ℕ) → IsAttemptedWithin (Some (live.Span piece attempted)) → GoesOn (live.Span piece attempted)
    → rest_size piece (worked_to piece attempted) < left_in piece
unfolding rest_size rest_of_size
rest_less piece attempted within goes = by_spent piece.spent refl
  where
    fewer : (last : Option ℕ) → piece.spent ≡ None → IsAttemptedWithin (Some (live.Span piece last)) → GoesOn (live.Span piece last) → worked_to piece last < piece.range.to
        → piece.range.from < worked_to piece last
    fewer None fresh low on less = absurd (omega (arith, on fresh, less))
    fewer (Some p) fresh low on less = omega (arith, low, less)

    by : (t : Bool) → nat_lt (worked_to piece attempted) piece.range.to ≡ t → piece.spent ≡ None
        → cond t (max 1 (3 * (piece.range.to - worked_to piece attempted) - 1)) 0 < max 1 (3 * (piece.range.to - piece.range.from) - 1)
    by true e fresh =
        let less : worked_to piece attempted < piece.range.to = grind (arith, nat_tests) in
        omega (arith, less, fewer attempted fresh within goes less)
    by false e fresh = omega arith

    by_spent : (spent : Option FaultNote) → piece.spent ≡ spent → rest_of_size spent piece (worked_to piece attempted) < left_of_size spent (piece.range.to - piece.range.from)
    by_spent None e = by (nat_lt (worked_to piece attempted) piece.range.to) refl e
    by_spent (Some note) e = omega arith

-- ---- panes

held_none : (before : List StageMarks) (m k : ℕ) (fired : List Pane) → NoneAt m fired → count_by (λ (pane : HeldPane). pane.node == m) (map (held_fired before) (enumerate_from k fired)) ≡ 0
held_none before m k [] none = refl
held_none before m k (p ∷ ps) none =
    let sum = sum_by-cons (λ (pane : HeldPane). cond {A = ℕ} (pane.node == m) 1 0) (held_fired before (k, p)) (map (held_fired before) (enumerate_from (k + 1) ps)) in
    let off : cond {A = ℕ} (p.node == m) 1 0 ≡ 0 = zero_of p.node (All-head (λ (q : Pane). q.node ≡ m → ⊥) p ps none) in
    omega (arith, sum, off, held_none before m (k + 1) ps (All-tail (λ (q : Pane). q.node ≡ m → ⊥) p ps none))
  where
    zero_of : (a : ℕ) → (a ≡ m → ⊥) → cond {A = ℕ} (a == m) 1 0 ≡ 0
    zero_of a other = grind (arith, nat_tests)

batch_counts : (m node : ℕ) (panes : List WaitingPane) → count_by (λ (pane : HeldPane). pane.node == m) (held_at node panes) ≡ cond (node == m) (length panes) 0
batch_counts m node [] = none (node == m)
  where
    none : (t : Bool) → 0 ≡ cond {A = ℕ} t 0 0
    none true = refl
    none false = refl
batch_counts m node (w ∷ ws) =
    by (node == m) refl (batch_counts m node ws)
    (sum_by-cons (λ (pane : HeldPane). cond {A = ℕ} (pane.node == m) 1 0) (record { node = node; waiting = w }) (held_at node ws))
  where
    by : (t : Bool) → (node == m) ≡ t → count_by (λ (pane : HeldPane). pane.node == m) (held_at node ws) ≡ cond t (length ws) 0
        → count_by (λ (pane : HeldPane). pane.node == m) (held_at node (w ∷ ws)) ≡ cond {A = ℕ} (node == m) 1 0 + count_by (λ (pane : HeldPane). pane.node == m) (held_at node ws)
        → count_by (λ (pane : HeldPane). pane.node == m) (held_at node (w ∷ ws)) ≡ cond t (length (w ∷ ws)) 0
    by true e later sum = let one : cond {A = ℕ} (node == m) 1 0 ≡ 1 = ap (λ (t : Bool). cond {A = ℕ} t 1 0) e in omega (arith, later, sum, one)
    by false e later sum = let none : cond {A = ℕ} (node == m) 1 0 ≡ 0 = ap (λ (t : Bool). cond {A = ℕ} t 1 0) e in omega (arith, later, sum, none)

pub other : (a m v : ℕ) → m < a → cond {A = ℕ} (a == m) v 0 ≡ 0
other a m v less = let off : (a == m) ≡ false = grind (arith, nat_tests) in ap (λ (t : Bool). cond {A = ℕ} t v 0) off

pub own : (a v : ℕ) → cond {A = ℕ} (a == a) v 0 ≡ v
own a v = let same : (a == a) ≡ true = grind (arith, nat_tests) in ap (λ (t : Bool). cond {A = ℕ} t v 0) same

-- ---- key cells

cell_other : (m : ℕ) (cell : KeyCell) → m < cell.log.node → cell_left m cell ≡ 0
unfolding cell_left
cell_other m cell less = other cell.log.node m (left_of cell) less

cell_own : (cell : KeyCell) → cell_left cell.log.node cell ≡ left_of cell
unfolding cell_left
cell_own cell = own cell.log.node (left_of cell)

-- what arrives behind a node changes nothing there
no_weight : (plan : Plan) (before : List StageMarks) (n m : ℕ) (arrival : Arrival) → m ≤ n → n < arrival.node → IsWeightless (cell_left m) plan before arrival
no_weight plan before n m arrival upto less = record {
  joins = λ cell e.
      let at = (belongs_keyed arrival cell e).2 in
      cell_other m (with_waiting cell (waits before arrival)) (omega (arith, at, upto, less)) ∙ sym (cell_other m cell (omega (arith, at, upto, less)));
  opens = cell_other m (with_waiting (fresh_cell arrival) (waits before arrival)) (omega (arith, upto, less));
}

none_weigh : (plan : Plan) (before : List StageMarks) (n m : ℕ) (arrivals : List Arrival) → m ≤ n → ArriveBehind n arrivals → All (IsWeightless (cell_left m) plan before) arrivals
none_weigh plan before n m arrivals upto behind =
    All-weaker (λ (a : Arrival). n < a.node) (IsWeightless (cell_left m) plan before) (λ a less. no_weight plan before n m a upto less) arrivals behind

-- ---- a commit

module _ (told : Option (List FileText)) (b : SeenBook) (slot : ℕ) (job : Live) (receipt : Receipt) (cells : List Cell) (fired : List Pane) (marks : List StageMarks)
    (sane : IsSane b) (made : Commits told b slot job receipt cells fired marks) where
  abbrev after : SeenBook
  after = committed b slot job receipt cells fired marks

  none_left : (m : ℕ) → m ≤ node_of job → All (IsWeightless (cell_left m) b.plan (last_marks b)) receipt.arrivals
  none_left m upto = none_weigh b.plan (last_marks b) (node_of job) m receipt.arrivals upto (given_arrives told b.plan sane.formed.checked b.panes job receipt made.given)

  abbrev of_node : ℕ → HeldPane → Bool
  of_node m pane = pane.node == m

  -- up to the job's node, panes are held as before but for those of its batch
  panes_upto : (m : ℕ) → m ≤ node_of job → count_by (of_node m) (held after) + count_by (of_node m) (flat_map held_in (batch_of (Some job))) ≡ count_by (of_node m) (held b)
  panes_upto m upto =
      let none = held_none (last_marks b) m (length b.panes) fired (none_fires told b slot job receipt cells fired marks sane made m upto) in
      omega (
        arith,
        none,
        bag_count (of_node m) (held after ++ flat_map held_in (batch_of (Some job))) (held b ++ fired_held b fired) (commit_bag told b slot job receipt cells fired marks sane.formed sane.held made),
        count-append (of_node m) (held after) (flat_map held_in (batch_of (Some job))),
        count-append (of_node m) (held b) (fired_held b fired),
      )

span_left : (b : SeenBook) (slot : ℕ) (piece : Piece) (attempted : Option ℕ) (receipt : Receipt) (cells : List Cell) (fired : List Pane) (marks : List StageMarks)
    → IsWorking b slot (live.Span piece attempted) → (m : ℕ)
    → count_by (λ (pane : HeldPane). pane.node == m) (held (committed b slot (live.Span piece attempted) receipt cells fired marks)) + 0 ≡ count_by (λ (pane : HeldPane). pane.node == m) (held b)
    → All (IsWeightless (cell_left m) b.plan (last_marks b)) receipt.arrivals
    → left_at (committed b slot (live.Span piece attempted) receipt cells fired marks) m + cond (piece.node == m) (left_in piece) 0
    ≡ left_at b m + cond (piece.node == m) (rest_size piece (worked_to piece attempted)) 0
unfolding at_node
span_left b slot piece attempted receipt cells fired marks works m panes none =
    omega (
      arith,
      panes,
      left_at_weighs b m,
      left_at_weighs (committed b slot (live.Span piece attempted) receipt cells fired marks) m,
      piece_set_weighs (at_node m) b slot (Some (live.Span piece attempted)) None works,
      rest_weighs piece attempted receipt b.pending m,
      one_weighs (at_node m) piece,
      all_weigh (cell_left m) b.plan (last_marks b) receipt.arrivals none b.keys,
    )

batch_left : (b : SeenBook) (slot : ℕ) (batch : Batch) (receipt : Receipt) (cells : List Cell) (fired : List Pane) (marks : List StageMarks)
    → IsWorking b slot (live.Batch batch) → (m : ℕ)
    → count_by (λ (pane : HeldPane). pane.node == m) (held (committed b slot (live.Batch batch) receipt cells fired marks)) + count_by (λ (pane : HeldPane). pane.node == m) (held_in batch ++ [])
    ≡ count_by (λ (pane : HeldPane). pane.node == m) (held b)
    → All (IsWeightless (cell_left m) b.plan (last_marks b)) receipt.arrivals
    → left_at (committed b slot (live.Batch batch) receipt cells fired marks) m + cond (batch.node == m) (length batch.panes) 0 ≡ left_at b m
batch_left b slot batch receipt cells fired marks works m panes none =
    omega (
      arith,
      panes,
      left_at_weighs b m,
      left_at_weighs (committed b slot (live.Batch batch) receipt cells fired marks) m,
      piece_set_weighs (at_node m) b slot (Some (live.Batch batch)) None works,
      count-append (λ (pane : HeldPane). pane.node == m) (held_in batch) [],
      batch_counts m batch.node batch.panes,
      all_weigh (cell_left m) b.plan (last_marks b) receipt.arrivals none b.keys,
    )

key_left : (b : SeenBook) (slot : ℕ) (turn : KeyTurn) (receipt : Receipt) (cells : List Cell) (fired : List Pane) (marks : List StageMarks)
    → IsWorking b slot (live.Key turn) → (placed : IsPlacedJob b turn receipt) (m : ℕ)
    → count_by (λ (pane : HeldPane). pane.node == m) (held (committed b slot (live.Key turn) receipt cells fired marks)) + 0 ≡ count_by (λ (pane : HeldPane). pane.node == m) (held b)
    → All (IsWeightless (cell_left m) b.plan (last_marks b)) receipt.arrivals
    → left_at (committed b slot (live.Key turn) receipt cells fired marks) m + cell_left m placed.made.cell
    ≡ left_at b m + cell_left m (with_done (last_marks b) placed.done placed.made.cell)
key_left b slot turn receipt cells fired marks works placed m panes none =
    omega (
      arith,
      panes,
      left_at_weighs b m,
      left_at_weighs (committed b slot (live.Key turn) receipt cells fired marks) m,
      piece_set_weighs (at_node m) b slot (Some (live.Key turn)) None works,
      ap (λ (o : Option Done). sum_by (cell_left m) (place b.plan (last_marks b) o receipt.arrivals b.keys)) placed.is,
      done_weighs (cell_left m) b.plan (last_marks b) placed.done receipt.arrivals b.keys placed.made.cell none placed.made.is_at,
    )

pub commit_lowers : (told : Option (List FileText)) (b : SeenBook) (slot : ℕ) (job : Live) (receipt : Receipt) (cells : List Cell) (fired : List Pane) (marks : List StageMarks)
    → IsSane b → Commits told b slot job receipt cells fired marks → GoesOn job → IsBelow (left (committed b slot job receipt cells fired marks)) (left b)
commit_lowers told b slot (live.Span piece attempted) receipt cells fired marks sane made goes =
    let job = live.Span piece attempted in
    let new = committed b slot job receipt cells fired marks in
    let at = λ (m : ℕ) (upto : m ≤ piece.node).
    span_left b slot piece attempted receipt cells fired marks made.works m
    (panes_upto told b slot job receipt cells fired marks sane made m upto) (none_left told b slot job receipt cells fired marks sane made m upto) in
    let rest = rest_size piece (worked_to piece attempted) in
    let less = rest_less piece attempted (All-slice_get IsAttemptedWithin b.slots slot (Some job) made.works sane.attempted) goes in
    lower_at b new piece.node refl (worked_placed b sane slot piece attempted made.works)
    (λ m low.
    let is = at m (omega (arith, low)) in
    let a = other piece.node m (left_in piece) low in
    let c = other piece.node m rest low in
    omega (arith, is, a, c))
    (let is = at piece.node (omega arith) in
    let a = own piece.node (left_in piece) in
    let c = own piece.node rest in
    omega (arith, is, a, c, less))
commit_lowers told b slot (live.Batch batch) receipt cells fired marks sane made goes =
    let job = live.Batch batch in
    let new = committed b slot job receipt cells fired marks in
    let at = λ (m : ℕ) (upto : m ≤ batch.node).
    batch_left b slot batch receipt cells fired marks made.works m
    (panes_upto told b slot job receipt cells fired marks sane made m upto) (none_left told b slot job receipt cells fired marks sane made m upto) in
    let more : 1 ≤ length batch.panes =
    All-head IsNonempty batch [] (All-flat_at batch_of b.slots slot IsNonempty (Some job) made.works (All-append_right IsNonempty b.returned _ sane.held.batches)) in
    lower_at b new batch.node refl (group_within b.plan batch.node (batch_at_group b slot batch sane.held sane.panes.at_groups made.works))
    (λ m low.
    let is = at m (omega (arith, low)) in
    let a = other batch.node m (length batch.panes) low in
    omega (arith, is, a))
    (let is = at batch.node (omega arith) in
    let a = own batch.node (length batch.panes) in
    omega (arith, is, a, more))
commit_lowers told b slot (live.Key turn) receipt cells fired marks sane made goes =
    let job = live.Key turn in
    let new = committed b slot job receipt cells fired marks in
    let placed = placed_job told b slot turn receipt sane.keys sane.turns made.works made.given in
    let cell = placed.made.cell in
    let after = with_done (last_marks b) placed.done cell in
    let own = turn_at b slot turn sane.turns made.works in
    let same : own.cell ≡ cell = same_Some own.cell cell (sym own.is_at ∙ ap (slice_get b.keys) (sym placed.cell_is) ∙ placed.made.is_at) in
    let node : turn.node ≡ cell.log.node = ap (λ (t : KeyTurn). t.node) own.is ∙ ap (λ (c : KeyCell). c.log.node) same in
    let kept = All-slice_get (IsCellSane b.plan b.commits) b.keys placed.done.cell cell placed.made.is_at sane.keys.each in
    let less = done_lowers b.plan b.commits (last_marks b) cell placed.done (length b.commits) placed.made.count kept placed.made.works placed.made.folds in
    let at = λ (m : ℕ) (upto : m ≤ turn.node).
    key_left b slot turn receipt cells fired marks made.works placed m
    (panes_upto told b slot job receipt cells fired marks sane made m upto) (none_left told b slot job receipt cells fired marks sane made m upto) in
    lower_at b new cell.log.node refl
    (All-slice_get (λ (c : KeyCell). c.log.node < length b.plan.nodes) b.keys placed.done.cell cell placed.made.is_at (cells_within b.plan b.commits b.keys sane.keys))
    (λ m low.
    let is = at m (omega (arith, low, node)) in
    let a = cell_other m cell low in
    let c = cell_other m after low in
    omega (arith, is, a, c))
    (let is = at cell.log.node (omega (arith, node)) in
    let a = cell_own cell in
    let c = cell_own after in
    omega (arith, is, a, c, less))
