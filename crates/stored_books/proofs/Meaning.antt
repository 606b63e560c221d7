-- Data passes all tests exactly where it stands for a sane book.
use Rattle.std.proofs.Common.{◌≡◌, ℕ, ◌+◌, ◌*◌, ◌<◌, ◌≤◌, Bool, true, false, List, [], ◌∷◌, ◌++◌}
use Rattle.std.proofs.Common.{length, map, sum_by, count_by, cond, get_or, refl, sym, ap, ap₂, subst, ◌∙◌, arith}
use Rattle.std.specs.Prelude.{Option, Some, None, if◌then◌else◌, slice_get}
use Rattle.std.specs.List.{All, enumerate_from, flat_map}
use Rattle.std.specs.Option.{option_map}
use Rattle.std.proofs.lemmas.Bool.{false≢true}
use Rattle.std.proofs.lemmas.List.{append-nil, length-map, map-append}
use Rattle.std.proofs.lemmas.List.Elements.{All-append, All-cons, All-map, All-nil, All-weaker}
use Rattle.std.proofs.lemmas.List.Folds.{flat_map-map}
use Rattle.std.proofs.lemmas.List.FromFn.{length-enumerate_from}
use Rattle.std.proofs.lemmas.List.Sums.{sum_by-append}
use Rattle.std.proofs.lemmas.Option.{get_or_from_slice_get, slice_get-map, slice_get_within}
use Rattle.beam_model.specs.Holds.{Hold, least_hold, piece_hold}
use Rattle.beam_values.specs.Bags.{IsSameBag}
use Rattle.beam_values.specs.Checked.{IsChecked}
use Rattle.beam_values.specs.Cover.{times_dead, times_done, times_pending}
use Rattle.beam_values.specs.Marks.{AreMarks}
use Rattle.beam_values.specs.Nodes.{is_group, is_write}
use Rattle.beam_values.specs.declared.cell.Pane.{Pane}
use Rattle.beam_values.specs.declared.fault.FaultNote.{FaultNote}
use Rattle.beam_values.specs.declared.piece.Piece.{Piece}
use Rattle.beam_values.specs.declared.marks.CommitMarks.{CommitMarks}
use Rattle.beam_values.specs.declared.plan.Plan.{Plan}
use Rattle.beam_values.proofs.Bags.{sum_by-map}
use Rattle.beam_model.specs.Positions.{items}
use Rattle.group_cells.specs.Sane.{AreSaneCells}
use Rattle.group_cells.proofs.Counting.{All-unmap}
use Rattle.piece_checks.specs.Attempts.{IsPieceTried, IsTried, IsTriedAs}
use Rattle.piece_checks.specs.Places.{is_at, IsHeldAt}
use Rattle.piece_checks.specs.Places as places
use Rattle.piece_checks.specs.declared.places.HeldPlace.{HeldPlace}
use Rattle.split_core.specs.Partition.{IsListed}
use Rattle.stateful_core.specs.Cells.{KeyCell, cell_holds, key_holds}
use Rattle.stateful_core.specs.Data.{cell_of_data, cells_of_data}
use Rattle.stateful_core.specs.Facts.{AreKeysSane, IsCellSane}
use Rattle.stateful_core.specs.Taking.{is_some}
use Rattle.stateful_core.specs.Working.{is_live, is_live_at}
use Rattle.stateful_core.specs.declared.data.KeyData.{KeyData}
use Rattle.book_core.specs.Book.{HeldPane, held, held_in, hold_of, queued, sets_aside, waiting_in}
use Rattle.book_core.specs.Facts.{AreHeldOnce, HasTurn, IsAttemptedWithin, IsBelowLimit, IsSpentAs, is_held_at}
use Rattle.book_core.specs.Indexes.{all_holds}
use Rattle.book_core.specs.Runs.{AreLengthsOf}
use Rattle.book_core.specs.Sane.{AscendByPane}
use Rattle.book_core.specs.Stored.{IsSaneData, book_of}
use Rattle.book_core.specs.declared.data.BookData.{BookData}
use Rattle.book_core.specs.declared.live.Batch.{Batch}
use Rattle.book_core.specs.declared.live.WaitingPane.{WaitingPane}
use Rattle.book_core.proofs.HeldOnce.{group_within}
use Rattle.book_core.proofs.HoldBags.{least_of_bag, marks_of_least}
use Rattle.book_core.proofs.Slotted.{All-append_right, All-flat_map}
use Rattle.stored_books.specs.Facts.{IsBatchTried, IsTested, faults_of}
use Rattle.stored_books.specs.Held.{batch_holds, data_holds, held_places, if_there, key_data_holds}
use Rattle.stored_books.specs.Held.{last_marks_of, least_hold_of, node_in, own_hold, own_place, places_in}
use Rattle.stored_books.proofs.QueuesOfData.{IsAtOwn, IsNodeBelow, own_at_own, own_held, held_of, queued_at_own, queues_ascend, queues_weigh}

-- ---- lists

mapped_flat : {X Y Z : Type 0} (f : Y → Z) (g : X → List Y) (h : X → List Z) → ((x : X) → h x ≡ map f (g x)) → (xs : List X) → flat_map h xs
    ≡ map f (flat_map g xs)
mapped_flat f g h same [] = refl
mapped_flat {Z = Z} f g h same (x ∷ xs) =
    ap₂ (λ (a b : List Z). a ++ b) (same x) (mapped_flat f g h same xs) ∙ sym (map-append f (g x) (flat_map g xs))

mapped_if : {Y Z : Type 0} (f : Y → Z) (at : ℕ → Y) (o : Option ℕ) → if_there (λ node. f (at node)) o ≡ map f (if_there at o)
mapped_if f at None = refl
mapped_if f at (Some node) = refl

mapped_twice : {X Y Z : Type 0} (f : Y → Z) (g : X → Y) (xs : List X) → map (λ x. f (g x)) xs ≡ map f (map g xs)
mapped_twice f g [] = refl
mapped_twice {Z = Z} f g (x ∷ xs) = ap (λ (l : List Z). f (g x) ∷ l) (mapped_twice f g xs)

All-at : {X : Type 0} (P : X → Type 0) (xs : List X) (k : ℕ) (x : X) → slice_get xs k ≡ Some x → All P xs → P x
All-at P xs k x e all = subst P (get_or_from_slice_get xs k x x e) (all k x (slice_get_within xs k x e))

-- ---- panes that aren't through

abbrev place_of : HeldPane → HeldPlace
place_of held = record { node = held.node; pane = held.waiting.pane }

module _ (d : BookData) where
  abbrev own : List HeldPane
  own = flat_map (own_held d.panes) d.waiting

  abbrev back : List HeldPane
  back = flat_map held_in d.returned

  held_is : held (book_of d) ≡ queued (book_of d) ++ back
  held_is = ap (λ (l : List HeldPane). queued (book_of d) ++ l) (append-nil back)

  places_are : held_places d ≡ map place_of (own ++ back)
  places_are =
      ap₂ (λ (a b : List HeldPlace). a ++ b)
      (mapped_flat place_of (own_held d.panes) (own_place d.panes) (λ x. mapped_if place_of (held_of x) (node_in d.panes x)) d.waiting)
      (mapped_flat place_of held_in places_in (λ batch. mapped_twice place_of (λ (x : WaitingPane). held_of x batch.node) batch.panes) d.returned)
      ∙ sym (map-append place_of own back)

  own_at : All (IsAtOwn d.panes) own
  own_at = All-flat_map (IsAtOwn d.panes) (own_held d.panes) d.waiting (λ k x within. own_at_own d.panes _)

  module _ (low : (x : WaitingPane) → IsNodeBelow (length d.plan.nodes) (node_in d.panes x)) where
    held_weigh : (w : HeldPane → ℕ) → sum_by w (held (book_of d)) ≡ sum_by w (own ++ back)
    held_weigh w =
        ap (sum_by w) held_is
        ∙ omega (arith, sum_by-append w (queued (book_of d)) back, sum_by-append w own back, queues_weigh w d.panes d.plan.nodes d.waiting low)

    counts_same : (place : ℕ) → count_by (is_held_at place) (held (book_of d)) ≡ count_by (is_at place) (held_places d)
    counts_same place =
        held_weigh (λ (h : HeldPane). cond (is_held_at place h) 1 0)
        ∙ sym (sum_by-map (λ (h : HeldPlace). cond (is_at place h) 1 0) place_of (own ++ back))
        ∙ ap (count_by (is_at place)) (sym places_are)

    pub held_where_tested : places.AreHeldOnce d.panes (held_places d) → All (λ batch. 1 ≤ length batch.panes) d.returned → AreHeldOnce (book_of d)
    held_where_tested once some = record {
      panes = subst (All (IsAtOwn d.panes)) (sym held_is)
          (All-append (IsAtOwn d.panes) (queued (book_of d)) back (queued_at_own d.panes d.waiting 0 d.plan.nodes)
          (All-append_right (IsAtOwn d.panes) own back
          (All-unmap (IsHeldAt d.panes) place_of (own ++ back) (subst (All (IsHeldAt d.panes)) places_are once.at_panes))));
      once = λ place. omega (arith, counts_same place, once.once place);
      batches = subst (All (λ (batch : Batch). 1 ≤ length batch.panes)) (sym (append-nil d.returned)) some;
    }

    pub tested_where_held : AreHeldOnce (book_of d) → places.AreHeldOnce d.panes (held_places d)
    tested_where_held h = record {
      at_panes = subst (All (IsHeldAt d.panes)) (sym places_are)
          (All-map (IsHeldAt d.panes) place_of (own ++ back)
          (All-append (IsAtOwn d.panes) own back own_at
          (All-append_right (IsAtOwn d.panes) (queued (book_of d)) back (subst (All (IsAtOwn d.panes)) held_is h.panes))));
      once = λ place. omega (arith, counts_same place, h.once place);
    }

    -- ---- holds

    holds_mapped : flat_map (own_hold d.panes) d.waiting ++ flat_map batch_holds d.returned ≡ map hold_of (own ++ back)
    holds_mapped =
        ap₂ (λ (a b : List Hold). a ++ b)
        (mapped_flat hold_of (own_held d.panes) (own_hold d.panes) (λ x. mapped_if hold_of (held_of x) (node_in d.panes x)) d.waiting)
        (mapped_flat hold_of held_in batch_holds (λ batch. mapped_twice hold_of (λ (x : WaitingPane). held_of x batch.node) batch.panes) d.returned)
        ∙ sym (map-append hold_of own back)

    keys_mapped : key_holds (cells_of_data d.keys) ≡ flat_map key_data_holds d.keys
    keys_mapped = flat_map-map cell_holds cell_of_data d.keys

    bag_of_holds : IsSameBag (all_holds (book_of d)) (data_holds d.plan d)
    bag_of_holds = record {
      weighs = λ w.
          let pieces = map (piece_hold d.plan) d.pending in
          let waiting = flat_map (own_hold d.panes) d.waiting in
          let returned = flat_map batch_holds d.returned in
          let keys = flat_map key_data_holds d.keys in
          let first : sum_by w (map (piece_hold d.plan) (d.pending ++ [])) ≡ sum_by w pieces = ap
          (λ (l : List Piece). sum_by w (map (piece_hold d.plan) l)) (append-nil d.pending) in
          let panes : sum_by w (map hold_of (held (book_of d))) ≡ sum_by w (waiting ++ returned) =
          sum_by-map w hold_of (held (book_of d))
          ∙ held_weigh (λ (h : HeldPane). w (hold_of h))
          ∙ sym (sum_by-map w hold_of (own ++ back))
          ∙ ap (sum_by w) (sym holds_mapped) in
          let last : sum_by w (key_holds (cells_of_data d.keys)) ≡ sum_by w keys = ap (sum_by w) keys_mapped in
          omega (
            arith,
            first,
            panes,
            last,
            sum_by-append w (map (piece_hold d.plan) (d.pending ++ [])) (map hold_of (held (book_of d)) ++ key_holds (cells_of_data d.keys)),
            sum_by-append w (map hold_of (held (book_of d))) (key_holds (cells_of_data d.keys)),
            sum_by-append w waiting returned,
            sum_by-append w pieces (waiting ++ (returned ++ keys)),
            sum_by-append w waiting (returned ++ keys),
            sum_by-append w returned keys,
          );
    }

    least_same : (n : ℕ) → least_hold (all_holds (book_of d)) n ≡ least_hold (data_holds d.plan d) n
    least_same n = least_of_bag (all_holds (book_of d)) (data_holds d.plan d) bag_of_holds n

-- the panes are at Groups, so their nodes are nodes of the plan
pub nodes_below : (plan : Plan) (panes : List Pane) → All (λ pane. is_group plan pane.node ≡ true) panes → (x : WaitingPane)
    → IsNodeBelow (length plan.nodes) (node_in panes x)
nodes_below plan panes groups x = by (slice_get panes x.pane) refl
  where
    by : (o : Option Pane) → slice_get panes x.pane ≡ o → IsNodeBelow (length plan.nodes) (option_map (λ pane. pane.node) o)
    by None e = tt
    by (Some pane) e = group_within plan pane.node (All-at (λ (p : Pane). is_group plan p.node ≡ true) panes x.pane pane e groups)

-- ---- attempts

most_where_tried : (limit : ℕ) (piece : Piece) (spent : Option FaultNote) → IsTriedAs limit spent piece → piece.attempts ≤ limit
most_where_tried limit piece None h = omega (arith, h)
most_where_tried limit piece (Some note) h = omega (arith, h.1)

spent_where_tried : (limit : ℕ) (piece : Piece) (spent : Option FaultNote) → IsTriedAs limit spent piece → IsSpentAs limit spent piece
spent_where_tried limit piece None h = tt
spent_where_tried limit piece (Some note) h = record { one = h.0; tried = h.1 }

tried_where_spent : (limit : ℕ) (piece : Piece) (spent : Option FaultNote) → (spent ≡ None → piece.attempts < limit) → IsSpentAs limit spent piece
    → IsTriedAs limit spent piece
tried_where_spent limit piece None below is = below refl
tried_where_spent limit piece (Some note) below is = (is.one, is.tried)

none_kept : (aside : Bool) → (if aside then 3 * 0 else 0) ≡ 0
none_kept true = refl
none_kept false = refl

none_live : (keys : List KeyData) (at : ℕ) → is_live_at (cells_of_data keys) at ≡ false
none_live keys at = ap is_live (slice_get-map cell_of_data keys at) ∙ by (slice_get keys at)
  where
    by : (o : Option KeyData) → is_live (option_map cell_of_data o) ≡ false
    by None = refl
    by (Some key) = refl

few_waiting : (keys : List KeyData) → waiting_in (cells_of_data keys) ≡ sum_by (λ key. length key.waiting) keys
few_waiting keys = sum_by-map (λ (cell : KeyCell). length cell.waiting) cell_of_data keys

-- no job of a key cell is worked, so the commits are no matter
whatever_commits : (plan : Plan) (commits others : List CommitMarks) (keys : List KeyData) → AreKeysSane plan commits (cells_of_data keys)
    → AreKeysSane plan others (cells_of_data keys)
whatever_commits plan commits others keys h = record {
  each = All-map (IsCellSane plan others) cell_of_data keys
      (All-weaker (λ (key : KeyData). IsCellSane plan commits (cell_of_data key)) (λ (key : KeyData). IsCellSane plan others (cell_of_data key))
      (λ key c. record { timers = c.timers; states = c.states; works = tt; sized = c.sized; holds = c.holds }) keys
      (All-unmap (IsCellSane plan commits) cell_of_data keys h.each));
  once = h.once;
}

-- ---- together

module _ (plan : Plan) (d : BookData) where
  abbrev limit : ℕ
  limit = d.options.attempts

  pieces_all : d.pending ++ [] ≡ d.pending
  pieces_all = append-nil d.pending

  batches_all : d.returned ++ [] ≡ d.returned
  batches_all = append-nil d.returned

  pub sane_where_tested : IsChecked plan → IsTested plan d → IsSaneData plan d
  sane_where_tested checked t =
      let of_plan = t.settings.of_plan in
      let jobs = t.lists.jobs in
      let tried = jobs.pieces in
      let nodes = t.lists.nodes in
      let short = t.lists.short in
      let waiting = t.state.waiting in
      let low : (x : WaitingPane) → IsNodeBelow (length d.plan.nodes) (node_in d.panes x) = subst
      (λ (p : Plan). (x : WaitingPane) → IsNodeBelow (length p.nodes) (node_in d.panes x)) (sym of_plan) (nodes_below plan d.panes nodes.panes) in
      record {
        of_plan = of_plan;
        sane = record {
          formed = record {
            checked = subst IsChecked (sym of_plan) checked;
            allowed = t.settings.options;
            lengths = subst (λ (p : Plan). AreLengthsOf (items [] p) d.files) (sym of_plan) t.settings.lengths;
            queues = length-map (enumerate_from 0 d.plan.nodes) _ ∙ length-enumerate_from 0 d.plan.nodes;
            ascending = t.lists.order.pending;
            done = t.lists.order.done;
            dead = t.lists.order.dead;
            within = record {
              commits = short.commits;
              panes = short.panes;
              dropped = short.dropped;
              cells = short.cells;
              keys = omega (arith, short.keys, length-map d.keys cell_of_data);
              waiting = omega (arith, short.waiting, few_waiting d.keys);
              slots = omega arith;
              pieces = omega (arith, short.pending, none_kept (sets_aside d.plan));
            };
          };
          listed = record {
            pieces = subst (All (λ (piece : Piece). IsListed d.files piece.node piece.item))
                (sym pieces_all) t.state.ranges.pending;
            done = t.state.ranges.done;
          };
          partitioned = record {
            times = λ place. ap (λ (l : List Piece). times_pending l place + times_done d.done place + times_dead d.dead place) pieces_all
                ∙ t.state.ranges.tiled.times place;
          };
          attempted = All-cons IsAttemptedWithin None [] tt (All-nil IsAttemptedWithin);
          attempts = record {
            worked_pieces = All-nil (λ (piece : Piece). piece.spent ≡ None → IsBelowLimit (book_of d) piece.attempts);
            worked_batches = All-nil (λ (batch : Batch). IsBelowLimit (book_of d) batch.attempts);
            worked_keys = All-map (λ (cell : KeyCell). is_some cell.live ≡ true → IsBelowLimit (book_of d) cell.attempts) cell_of_data d.keys
                (λ k e within live. absurd (false≢true live));
            pending = λ running. All-weaker (IsPieceTried limit) (λ (piece : Piece). piece.spent ≡ None → piece.attempts < limit)
                (λ piece h e. subst (λ (s : Option FaultNote). IsTriedAs limit s piece) e h) d.pending tried.each;
            returned = λ running. All-weaker (IsBatchTried (faults_of d) limit) (λ (batch : Batch). batch.attempts < limit)
                (λ batch h. h.tried.0) d.returned jobs.batches;
            keys = λ running. All-map (λ (cell : KeyCell). cell.attempts < limit) cell_of_data d.keys
                (All-weaker (λ (key : KeyData). IsTried (faults_of d) limit key.attempts) (λ (key : KeyData). key.attempts < limit)
                (λ key h. h.0) d.keys jobs.keys);
            pending_most = All-weaker (IsPieceTried limit) (λ (piece : Piece). piece.attempts ≤ limit)
                (λ piece h. most_where_tried limit piece piece.spent h) d.pending tried.each;
            returned_most = All-weaker (IsBatchTried (faults_of d) limit) (λ (batch : Batch). batch.attempts ≤ limit)
                (λ batch h. omega (arith, h.tried.0)) d.returned jobs.batches;
            keys_most = All-map (λ (cell : KeyCell). cell.attempts ≤ limit) cell_of_data d.keys
                (All-weaker (λ (key : KeyData). IsTried (faults_of d) limit key.attempts) (λ (key : KeyData). key.attempts ≤ limit)
                (λ key h. omega (arith, h.0)) d.keys jobs.keys);
            together = subst (λ (l : List Piece). limit * length d.dead + sum_by (λ piece. piece.attempts) l ≤ d.calls + d.reads) (sym pieces_all) tried.enough;
            keys_failed = All-map (λ (cell : KeyCell). cell.attempts ≤ d.calls + d.reads) cell_of_data d.keys
                (All-weaker (λ (key : KeyData). IsTried (faults_of d) limit key.attempts) (λ (key : KeyData). key.attempts ≤ d.calls + d.reads)
                (λ key h. h.1) d.keys jobs.keys);
            batches = subst (All (λ (batch : Batch). batch.attempts ≤ d.calls + d.reads)) (sym batches_all)
                (All-weaker (IsBatchTried (faults_of d) limit) (λ (batch : Batch). batch.attempts ≤ d.calls + d.reads)
                (λ batch h. h.tried.1) d.returned jobs.batches);
            calls = tried.calls;
            reads = tried.reads;
          };
          spent = record {
            pieces = subst (All (λ (piece : Piece). IsSpentAs limit piece.spent piece)) (sym pieces_all)
                (All-weaker (IsPieceTried limit) (λ (piece : Piece). IsSpentAs limit piece.spent piece)
                (λ piece h. spent_where_tried limit piece piece.spent h) d.pending tried.each);
            fewer = tried.fewer;
          };
          stop = tt;
          held = held_where_tested d low waiting.once
              (All-weaker (IsBatchTried (faults_of d) limit) (λ (batch : Batch). 1 ≤ length batch.panes) (λ batch h. h.some) d.returned jobs.batches);
          order = record {
            queues = queues_ascend d.panes d.waiting 0 d.plan.nodes waiting.order.order;
            batches = subst (All (λ (batch : Batch). AscendByPane batch.panes)) (sym batches_all) waiting.order.batches;
          };
          marks = record {
            some = omega (arith, tried.fewer);
            sized = subst (λ (p : Plan). All (λ commit. length commit.marks ≡ length p.nodes) d.commits) (sym of_plan) t.state.marks.sized;
            last = marks_of_least d.plan (data_holds d.plan d) (all_holds (book_of d)) (last_marks_of d.commits) (λ n. sym (least_same d low n))
                (subst (λ (p : Plan). AreMarks p (least_hold_of p d) (last_marks_of d.commits)) (sym of_plan) t.state.marks.last);
            never_fall = record { each = t.state.marks.never_fall };
          };
          cells = record {
            cells = subst (λ (p : Plan). AreSaneCells p (last_marks_of d.commits) d.cells)
                (sym of_plan) t.state.cells.cells;
            indices = t.state.cells.counted;
          };
          panes = record {
            at_groups = subst (λ (p : Plan). All (λ pane. is_group p pane.node ≡ true) d.panes) (sym of_plan) nodes.panes;
            commits = nodes.commits;
            ordered = t.lists.order.panes;
          };
          dropped = record { at_groups = subst (λ (p : Plan). All (λ lost. is_group p lost.node ≡ true) d.dropped) (sym of_plan) nodes.dropped };
          keys = subst (λ (p : Plan). AreKeysSane p d.commits (cells_of_data d.keys)) (sym of_plan) (t.state.keys.sane d.commits);
          turns = record {
            once = record { once = λ at. ap (λ (live : Bool). if live then 1 else 0) (sym (none_live d.keys at)) };
            turns = All-cons (HasTurn (cells_of_data d.keys)) None [] tt (All-nil (HasTurn (cells_of_data d.keys)));
          };
          writes = record { written = subst (λ (p : Plan). All (λ arrival. is_write p arrival.node ≡ true) d.written) (sym of_plan) nodes.written };
        };
        waiting = record { order = waiting.order.order; there = waiting.order.there };
        keys = t.state.keys.formed;
      }

  pub tested_where_sane : IsSaneData plan d → IsTested plan d
  tested_where_sane s =
      let b = s.sane in
      let of_plan = s.of_plan in
      let within = b.formed.within in
      let low = nodes_below d.plan d.panes b.panes.at_groups in
      let below : All (λ (piece : Piece). piece.spent ≡ None → piece.attempts < limit) d.pending = b.attempts.pending refl in
      let spent : All (λ (piece : Piece). IsSpentAs limit piece.spent piece) d.pending = subst
      (All (λ (piece : Piece). IsSpentAs limit piece.spent piece)) pieces_all b.spent.pieces in
      let some : All (λ (batch : Batch). 1 ≤ length batch.panes) d.returned = subst
      (All (λ (batch : Batch). 1 ≤ length batch.panes)) batches_all b.held.batches in
      let less : All (λ (batch : Batch). batch.attempts < limit) d.returned = b.attempts.returned refl in
      let failed : All (λ (batch : Batch). batch.attempts ≤ d.calls + d.reads) d.returned = subst
      (All (λ (batch : Batch). batch.attempts ≤ d.calls + d.reads)) batches_all b.attempts.batches in
      let key_less = All-unmap (λ (cell : KeyCell). cell.attempts < limit) cell_of_data d.keys (b.attempts.keys refl) in
      let key_failed = All-unmap (λ (cell : KeyCell). cell.attempts ≤ d.calls + d.reads) cell_of_data d.keys b.attempts.keys_failed in
      record {
        settings = record {
          of_plan = of_plan;
          options = b.formed.allowed;
          lengths = subst
              (λ (p : Plan). AreLengthsOf (items [] p) d.files) of_plan b.formed.lengths;
        };
        lists = record {
          short = record {
            commits = within.commits;
            panes = within.panes;
            dropped = within.dropped;
            cells = within.cells;
            keys = omega (arith, within.keys, length-map d.keys cell_of_data);
            waiting = omega (arith, within.waiting, few_waiting d.keys);
            pending = omega (arith, within.pieces);
          };
          nodes = record {
            panes = subst (λ (p : Plan). All (λ pane. is_group p pane.node ≡ true) d.panes) of_plan b.panes.at_groups;
            commits = b.panes.commits;
            dropped = subst (λ (p : Plan). All (λ lost. is_group p lost.node ≡ true) d.dropped) of_plan b.dropped.at_groups;
            written = subst (λ (p : Plan). All (λ arrival. is_write p arrival.node ≡ true) d.written) of_plan b.writes.written;
          };
          order = record { pending = b.formed.ascending; done = b.formed.done; dead = b.formed.dead; panes = b.panes.ordered };
          jobs = record {
            pieces = record {
              fewer = b.spent.fewer;
              each = λ k e inside. tried_where_spent limit (get_or d.pending k e) (get_or d.pending k e).spent (below k e inside) (spent k e inside);
              enough = subst (λ (l : List Piece). limit * length d.dead + sum_by
                  (λ piece. piece.attempts) l ≤ d.calls + d.reads) pieces_all b.attempts.together;
              calls = b.attempts.calls;
              reads = b.attempts.reads;
            };
            batches = λ k e inside. record { some = some k e inside; tried = (less k e inside, failed k e inside) };
            keys = λ k e inside. (key_less k e inside, key_failed k e inside);
          };
        };
        state = record {
          ranges = record {
            pending = subst (All (λ (piece : Piece). IsListed d.files piece.node piece.item)) pieces_all b.listed.pieces;
            done = b.listed.done;
            tiled = record {
              times = λ place. ap (λ (l : List Piece). times_pending l place + times_done d.done place + times_dead d.dead place) (sym pieces_all)
                  ∙ b.partitioned.times place;
            };
          };
          waiting = record {
            order = record {
              there = s.waiting.there;
              order = s.waiting.order;
              batches = subst (All (λ (batch : Batch). AscendByPane batch.panes)) batches_all b.order.batches;
            };
            once = tested_where_held d low b.held;
          };
          marks = record {
            sized = subst (λ (p : Plan). All (λ commit. length commit.marks ≡ length p.nodes) d.commits) of_plan b.marks.sized;
            never_fall = b.marks.never_fall.each;
            last = subst (λ (p : Plan). AreMarks p (least_hold_of p d) (last_marks_of d.commits)) of_plan
                (marks_of_least d.plan (all_holds (book_of d)) (data_holds d.plan d) (last_marks_of d.commits) (least_same d low) b.marks.last);
          };
          cells = record { cells = subst (λ (p : Plan). AreSaneCells p (last_marks_of d.commits) d.cells) of_plan b.cells.cells; counted = b.cells.indices };
          keys = record {
            formed = s.keys;
            sane = λ commits. whatever_commits plan d.commits commits d.keys
                (subst (λ (p : Plan). AreKeysSane p d.commits (cells_of_data d.keys)) of_plan b.keys);
          };
        };
      }
