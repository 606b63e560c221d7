-- Where no job can be taken and nothing is worked, nothing is pending or waits, and every mark is FINAL.
use Rattle.std.proofs.Common.{◌≡◌, inl, inr, ℕ, zero, suc, ◌+◌, ◌<◌, ◌≤◌, Bool, true, false, cond, List, [], ◌∷◌, ◌++◌, length, get_or, map, refl, sym, ap, subst, ◌∙◌, arith}
use Rattle.std.specs.Prelude.{Option, Some, None, ◌==◌, fold, slice_get, unwrap_or, nat_lt}
use Rattle.std.specs.List.{All, count_by, filter, flat_map}
use Rattle.std.specs.Option.{option_map}
use Rattle.std.proofs.lemmas.Option.{slice_get-get_or}
use Rattle.std.proofs.lemmas.Bool.{cases_lt}
use Rattle.std.proofs.lemmas.Bool.Decides.{nat_tests}
use Rattle.std.proofs.lemmas.List.{get_or_default}
use Rattle.std.proofs.lemmas.List.Elements.{All-nil, All-cons, All-head, All-tail}
use Rattle.beam_values.specs.Lines.{offsets}
use Rattle.beam_values.specs.Marks.{marks_at, AreMarks}
use Rattle.beam_values.specs.Nodes.{is_group}
use Rattle.beam_values.specs.Times.{final_mark}
use Rattle.beam_values.specs.declared.marks.StageMarks.{StageMarks}
use Rattle.beam_values.specs.declared.piece.Piece.{Piece}
use Rattle.beam_model.specs.Holds.{Hold, least_hold, piece_hold}
use Rattle.watermarks.proofs.NodeMarks.{final_stage, marks_at-is}
use Rattle.watermarks.proofs.Rising.{all_final}
use Rattle.book_core.specs.Book.{SeenBook, HeldPane, batch_of, cell_worked, held, held_at, held_in, hold_of, live_batches, live_pieces, piece_of, queue_at, queued, last_marks, AreMarksOfBook}
use Rattle.book_core.specs.Facts.{AreHeldOnce, IsHeldPane, IsWellFormed}
use Rattle.book_core.specs.Jobs.{Due, due_at, due_or_other, first_due, key_or_piece, next_cell, with_key, given_back_or, lower_batch, lowest_of, next_job, oldest, or_due, first_pane, without_first}
use Rattle.book_core.specs.Steps.{IsIdle}
use Rattle.book_core.specs.declared.live.Batch.{Batch}
use Rattle.book_core.specs.declared.live.Live.{Live}
use Rattle.book_core.specs.declared.live.WaitingPane.{WaitingPane}
use Rattle.book_core.proofs.CellsKept.{nonempty_held}
use Rattle.book_core.proofs.HeldMoves.{IsNonempty}
use Rattle.book_core.proofs.HeldOnce.{group_within}
use Rattle.beam_values.specs.declared.marks.CommitMarks.{CommitMarks}
use Rattle.beam_values.specs.declared.plan.Plan.{Plan}
use Rattle.stateful_core.specs.Cells.{KeyCell, key_holds}
use Rattle.stateful_core.specs.Facts.{AreKeysSane, IsCellSane, IsCellThrough}
use Rattle.stateful_core.specs.Taking.{is_free, is_some}
use Rattle.stateful_core.specs.Working.{is_live, is_live_at, is_number}
use Rattle.stateful_core.specs.declared.place.Place.{Place}
use Rattle.stateful_core.proofs.AtTheEnd.{no_holds, nothing_left}
use Rattle.stateful_core.proofs.NextReady.{next_found}
use Rattle.watermarks.proofs.CheckedNodes.{inputs_lower}
use Rattle.book_core.specs.Facts.{AreTurnsKept}
use Rattle.book_core.specs.Indexes.{all_holds}
use Rattle.book_core.proofs.Queues.{queued_from}
use Rattle.book_core.proofs.Slotted.{All-append_left, All-append_right, All-of_flat_map}

-- ---- what no slot works

none_in : {X : Type 0} (f : Option Live → List X) (slots : List (Option Live)) → f None ≡ [] → All (λ slot. slot ≡ None) slots → flat_map f slots ≡ []
none_in f [] none idle = refl
none_in f (slot ∷ slots) none idle =
    ap (λ (s : Option Live). f s ++ flat_map f slots) (All-head (λ (s : Option Live). s ≡ None) slot slots idle)
    ∙ ap (λ (l : List _). l ++ flat_map f slots) none
    ∙ none_in f slots none (All-tail (λ (s : Option Live). s ≡ None) slot slots idle)

pub idle_pieces : (b : SeenBook) → IsIdle b → live_pieces b ≡ []
idle_pieces b idle = none_in piece_of b.slots refl idle

pub idle_batches : (b : SeenBook) → IsIdle b → live_batches b ≡ []
idle_batches b idle = none_in batch_of b.slots refl idle

-- ---- no batch and no queue is due

none_some : {X : Type 0} (x : X) → Some x ≡ None → ⊥
none_some x e = cc

-- once a batch is found one stays found
found_stays : (batch : Batch) (xs : List Batch) → fold lower_batch (Some batch) xs ≡ None → ⊥
found_stays batch [] e = none_some batch e
found_stays batch (x ∷ xs) e = by (nat_lt (first_pane x) (first_pane batch)) e (found_stays x xs) (found_stays batch xs)
  where
    by : (t : Bool) → fold lower_batch (cond t (Some x) (Some batch)) xs ≡ None → (fold lower_batch (Some x) xs ≡ None → ⊥) → (fold lower_batch (Some batch) xs ≡ None → ⊥) → ⊥
    by true e new old = new e
    by false e new old = old e

none_lowest : (xs : List Batch) → lowest_of xs ≡ None → xs ≡ []
none_lowest [] e = refl
none_lowest (x ∷ xs) e = absurd (found_stays x xs e)

none_oldest : (most node : ℕ) (queue : List WaitingPane) → oldest most node queue ≡ None → queue ≡ []
none_oldest most node [] e = refl
none_oldest most node (w ∷ ws) e = absurd (cc)

due_stays : (b : SeenBook) (due : Due) (nodes : List ℕ) → fold (or_due b) (Some due) nodes ≡ None → ⊥
due_stays b due [] e = none_some due e
due_stays b due (node ∷ nodes) e = due_stays b due nodes e

none_due : (b : SeenBook) (nodes : List ℕ) → fold (or_due b) None nodes ≡ None → All (λ node. due_at b node ≡ None) nodes
none_due b [] e = All-nil (λ node. due_at b node ≡ None)
none_due b (node ∷ nodes) e = by (due_at b node) refl e (none_due b nodes)
  where
    by : (found : Option Due) → due_at b node ≡ found → fold (or_due b) found nodes ≡ None → (fold (or_due b) None nodes ≡ None → All (λ n. due_at b n ≡ None) nodes)
        → All (λ n. due_at b n ≡ None) (node ∷ nodes)
    by None at e onward = All-cons (λ n. due_at b n ≡ None) node nodes at (onward e)
    by (Some due) at e onward = absurd (due_stays b due nodes e)

-- each number below a bound is among the offsets
among_offsets : (P : ℕ → Type 0) (count from n : ℕ) → from ≤ n → n < from + count → All P (offsets from count) → P n
unfolding offsets
among_offsets P zero from n low high all = absurd (omega arith)
among_offsets P (suc count) from n low high all = elim (cases_lt from n) [
  | inl later ↦ among_offsets P count (suc from) n (omega arith) (omega arith) (All-tail P from (offsets (suc from) count) all)
  | inr here ↦ let same : from ≡ n = omega arith in subst P same (All-head P from (offsets (suc from) count) all)
]

module _ (b : SeenBook) (none : first_due b ≡ None) where
  node_none : (node : ℕ) → node < length b.plan.nodes → due_at b node ≡ None
  node_none node less = among_offsets (λ n. due_at b n ≡ None) (length b.plan.nodes) 0 node (omega arith) (omega arith) (none_due b (offsets 0 (length b.plan.nodes)) none)

  both_none : (lowest : Option Batch) (old : Option Due) → given_back_or lowest old ≡ None → (lowest ≡ None) × (old ≡ None)
  both_none None old e = (refl, e)
  both_none (Some batch) old e = absurd (cc)

  pub no_queue : (node : ℕ) → node < length b.plan.nodes → queue_at b node ≡ []
  no_queue node less = none_oldest b.options.bundle node (queue_at b node) (both_none (lowest_of (filter (λ batch. batch.node == node) b.returned)) (oldest b.options.bundle node (queue_at b node)) (node_none node less)).1

  no_returned : (node : ℕ) → node < length b.plan.nodes → filter (λ batch. batch.node == node) b.returned ≡ []
  no_returned node less =
      none_lowest (filter (λ batch. batch.node == node) b.returned)
      (both_none (lowest_of (filter (λ batch. batch.node == node) b.returned)) (oldest b.options.bundle node (queue_at b node)) (node_none node less)).0

-- ---- nothing is held

empty_from : (n : ℕ) (queues : List (List WaitingPane)) → All (λ queue. queue ≡ []) queues → queued_from n queues ≡ []
empty_from n [] all = refl
empty_from n (q ∷ qs) all =
    ap (λ (l : List WaitingPane). held_at n l ++ queued_from (n + 1) qs) (All-head (λ (queue : List WaitingPane). queue ≡ []) q qs all)
    ∙ empty_from (n + 1) qs (All-tail (λ (queue : List WaitingPane). queue ≡ []) q qs all)

read_at : {X : Type 0} (xs : List (List X)) (k : ℕ) (d : List X) → k < length xs → unwrap_or (slice_get xs k) [] ≡ get_or xs k d
read_at [] k d less = absurd (omega arith)
read_at (x ∷ xs) zero d less = refl
read_at (x ∷ xs) (suc k) d less = read_at xs k d (omega arith)

-- batches of nodes of the plan, none of which is of any of them
none_of_none : (many : ℕ) (batches : List Batch) → All (λ batch. batch.node < many) batches → ((node : ℕ) → node < many → filter (λ batch. batch.node == node) batches ≡ []) → batches ≡ []
none_of_none many [] all none = refl
none_of_none many (x ∷ xs) all none = absurd (by (x.node == x.node) here (none x.node (All-head (λ (batch : Batch). batch.node < many) x xs all)))
  where
    here : (x.node == x.node) ≡ true
    here = grind (arith, nat_tests)

    by : (t : Bool) → t ≡ true → cond t (x ∷ filter (λ batch. batch.node == x.node) xs) (filter (λ batch. batch.node == x.node) xs) ≡ [] → ⊥
    by true is e = cc
    by false is e = cc

module _ (b : SeenBook) (formed : IsWellFormed b) (once : AreHeldOnce b) (groups : All (λ pane. is_group b.plan pane.node ≡ true) b.panes) where
  within_nodes : (batches : List Batch) → All IsNonempty batches → All (λ batch. All (IsHeldPane b) (held_in batch)) batches → All (λ batch. batch.node < length b.plan.nodes) batches
  within_nodes [] some all = All-nil (λ (batch : Batch). batch.node < length b.plan.nodes)
  within_nodes (x ∷ xs) some all =
      All-cons (λ (batch : Batch). batch.node < length b.plan.nodes) x xs
      (group_within b.plan x.node (nonempty_held b x.node x.panes (All-head IsNonempty x xs some) (All-head (λ (batch : Batch). All (IsHeldPane b) (held_in batch)) x xs all) groups))
      (within_nodes xs (All-tail IsNonempty x xs some) (All-tail (λ (batch : Batch). All (IsHeldPane b) (held_in batch)) x xs all))

  pub returned_within : All (λ batch. batch.node < length b.plan.nodes) b.returned
  returned_within =
      within_nodes b.returned (All-append_left IsNonempty b.returned (live_batches b) once.batches)
      (All-of_flat_map (IsHeldPane b) held_in b.returned
      (All-append_left (IsHeldPane b) (flat_map held_in b.returned) (flat_map held_in (live_batches b))
      (All-append_right (IsHeldPane b) (queued b) (flat_map held_in b.returned ++ flat_map held_in (live_batches b)) once.panes)))

  -- what next_job found
  next_none : (due : Option Due) → due_or_other b due ≡ None → (due ≡ None) × (key_or_piece b (next_cell b) ≡ None)
  next_none None e = (refl, e)
  next_none (Some due) e = absurd (cc)

  cell_none : (place : Option Place) → next_cell b ≡ place → key_or_piece b place ≡ None → (place ≡ None) × (without_first b b.pending ≡ None)
  cell_none None at e = (refl, e)
  cell_none (Some place) at e =
      let first = next_found (last_marks b) b.keys place at in
      absurd (none_some (with_key b place.at first.cell) (sym (ap (option_map (with_key b place.at)) first.is_at) ∙ e))

  first_none : (pieces : List Piece) → without_first b pieces ≡ None → pieces ≡ []
  first_none [] e = refl
  first_none (p ∷ ps) e = absurd (cc)

  module _ (none : next_job b ≡ None) (idle : IsIdle b) where
    no_due : first_due b ≡ None
    no_due = (next_none (first_due b) none).0

    pub no_cell : next_cell b ≡ None
    no_cell = (cell_none (next_cell b) refl (next_none (first_due b) none).1).0

    pub none_pending : b.pending ≡ []
    none_pending = first_none b.pending (cell_none (next_cell b) refl (next_none (first_due b) none).1).1

    queues_empty : All (λ queue. queue ≡ []) b.queues
    queues_empty k d within =
        sym (read_at b.queues k d within) ∙ no_queue b no_due k (omega (arith, within, formed.queues))

    pub none_held : held b ≡ []
    none_held =
        ap (λ (l : List HeldPane). l ++ (flat_map held_in b.returned ++ flat_map held_in (live_batches b))) (empty_from 0 b.queues queues_empty)
        ∙ ap (λ (l : List Batch). flat_map held_in l ++ flat_map held_in (live_batches b)) (none_of_none (length b.plan.nodes) b.returned returned_within (no_returned b no_due))
        ∙ ap (flat_map held_in) (idle_batches b idle)

    -- key cells alone hold nodes back
    keys_alone : all_holds b ≡ key_holds b.keys
    keys_alone =
        ap (λ (l : List Piece). map (piece_hold b.plan) (l ++ live_pieces b) ++ (map hold_of (held b) ++ key_holds b.keys)) none_pending
        ∙ ap (λ (l : List Piece). map (piece_hold b.plan) l ++ (map hold_of (held b) ++ key_holds b.keys)) (idle_pieces b idle)
        ∙ ap (λ (l : List HeldPane). map hold_of l ++ key_holds b.keys) none_held

    -- no key cell is worked
    all_free : AreTurnsKept b → All (λ cell. is_free cell ≡ true) b.keys
    all_free turns k d inside = of_cell (get_or b.keys k d) (slice_get-get_or b.keys k d inside)
      where
        no_count : count_by (is_number k) (flat_map cell_worked b.slots) ≡ 0
        no_count = ap (count_by (is_number k)) (none_in cell_worked b.slots refl idle)

        not_live : (t : Bool) → count_by (is_number k) (flat_map cell_worked b.slots) ≡ cond t 1 0 → t ≡ false
        not_live false e = refl
        not_live true e = absurd (omega (arith, e, no_count))

        free : (live : Option ℕ) → is_some live ≡ false → (elim live as (λ _. Bool) [ None ↦ true | Some n ↦ false ]) ≡ true
        free None e = refl
        free (Some n) e = absurd (cc)

        of_cell : (cell : KeyCell) → slice_get b.keys k ≡ Some cell → is_free cell ≡ true
        of_cell cell at = free cell.live (sym (ap is_live at) ∙ not_live (is_live_at b.keys k) (turns.once.once k))

    -- so nothing waits there, and no timer is set
    pub all_through : AreTurnsKept b → AreKeysSane b.plan b.commits b.keys → AreMarksOfBook b (last_marks b) → All IsCellThrough b.keys
    all_through turns keys marked =
        nothing_left b.plan b.commits (last_marks b) b.keys keys (λ n node at. inputs_lower b.plan n node formed.checked at)
        (subst (λ (l : List Hold). AreMarks b.plan (least_hold l) (last_marks b)) keys_alone marked) (all_free turns) no_cell

    none_hold : (plan : Plan) (commits : List CommitMarks) (cells : List KeyCell) → All (IsCellSane plan commits) cells → All IsCellThrough cells → key_holds cells ≡ []
    none_hold plan commits [] kept through = refl
    none_hold plan commits (cell ∷ cells) kept through =
        ap (λ (l : List Hold). l ++ key_holds cells) (no_holds cell (All-head (IsCellSane plan commits) cell cells kept).holds (All-head IsCellThrough cell cells through))
        ∙ none_hold plan commits cells (All-tail (IsCellSane plan commits) cell cells kept) (All-tail IsCellThrough cell cells through)

    pub all_marks_final : AreTurnsKept b → AreKeysSane b.plan b.commits b.keys → AreMarksOfBook b (last_marks b) → (n : ℕ) → marks_at (last_marks b) n ≡ final_stage
    all_marks_final turns keys marked n =
        all_final b.plan (least_hold []) (last_marks b) formed.checked
        (subst (λ (l : List Hold). AreMarks b.plan (least_hold l) (last_marks b)) (keys_alone ∙ none_hold b.plan b.commits b.keys keys.each (all_through turns keys marked)) marked)
        (λ k less. refl) n

    pub each_final : AreTurnsKept b → AreKeysSane b.plan b.commits b.keys → AreMarksOfBook b (last_marks b)
        → All (λ marks. (marks.mark_in ≡ final_mark) × (marks.mark_out ≡ final_mark)) (last_marks b)
    each_final turns keys marked k d within =
        let is : get_or (last_marks b) k d ≡ final_stage =
        get_or_default (last_marks b) k d final_stage within ∙ sym (marks_at-is (last_marks b) k) ∙ all_marks_final turns keys marked k in
        (ap (λ (s : StageMarks). s.mark_in) is, ap (λ (s : StageMarks). s.mark_out) is)
