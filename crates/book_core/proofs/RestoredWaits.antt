-- Pieces, panes and batches of data, one after another: what is pending, what waits, and what holds nodes back.
use Rattle.std.proofs.Common.{◌≡◌, ℕ, zero, suc, ◌+◌, ◌-◌, ◌<◌, ◌≤◌, Bool, true, false, cond, List, [], ◌∷◌, ◌++◌, length, map, take, drop, get_or, refl, sym, ap, subst, ◌∙◌, arith}
use Rattle.std.specs.Prelude.{Option, Some, None, ◌==◌, slice_get, slice_set, unwrap_or}
use Rattle.std.specs.List.{All, filter, flat_map, sum_by}
use Rattle.std.specs.Option.{option_map}
use Rattle.std.proofs.lemmas.List.{length-map, take_all, take_more}
use Rattle.std.proofs.lemmas.List.Elements.{All-head, All-weaker, All-get_or, filter_more}
use Rattle.std.proofs.lemmas.List.Sums.{sum_by-cons, sum_by-append}
use Rattle.std.proofs.lemmas.Option.{slice_get-map, slice_get-get_or}
use Rattle.beam_values.specs.Bags.{IsSameBag}
use Rattle.beam_values.proofs.Bags.{sum_by-map, sum_by-flat_map}
use Rattle.beam_values.specs.Nodes.{is_group}
use Rattle.beam_values.specs.declared.cell.Pane.{Pane}
use Rattle.beam_values.specs.declared.piece.Piece.{Piece}
use Rattle.beam_values.specs.declared.plan.Node.{Node}
use Rattle.beam_values.specs.declared.plan.Plan.{Plan}
use Rattle.beam_model.specs.Holds.{Hold, piece_hold}
use Rattle.split_core.specs.Order.{IsAscending, is_lower, with_piece}
use Rattle.split_core.proofs.Ordered.{with_piece-here}
use Rattle.stateful_core.specs.Cells.{KeyCell}
use Rattle.stateful_core.specs.Data.{cell_of_data, cells_of_data}
use Rattle.stateful_core.specs.declared.data.KeyData.{KeyData}
use Rattle.watermarks.specs.Holds.{SeenHolds}
use Rattle.book_core.specs.Book.{HeldPane, held_at, held_in, hold_of, live_pieces, waiting_in}
use Rattle.book_core.specs.Committing.{list_at, pane_holds}
use Rattle.book_core.specs.Indexes.{AreHeldIn, marks_in, own_holds}
use Rattle.book_core.specs.Queues.{SeenQueue}
use Rattle.book_core.specs.Restoring.{WaitsWithin, batch_holds, queue_holds, queues_at}
use Rattle.book_core.specs.Stored.{IsSaneData, book_of, queues_of, waits_at}
use Rattle.book_core.specs.declared.data.BookData.{BookData}
use Rattle.book_core.specs.declared.live.Batch.{Batch}
use Rattle.book_core.specs.declared.live.WaitingPane.{WaitingPane}
use Rattle.book_core.proofs.HeldMarks.{held_as}
use Rattle.book_core.proofs.HeldOnce.{group_within}
use Rattle.book_core.proofs.Holding.{all_weigh, bag_held, batch_weight, pane_weight, piece_weight, slot_weight}
use Rattle.book_core.proofs.NothingLeft.{returned_within}
use Rattle.book_core.proofs.PiecesListed.{IsPlaced, placed_of}
use Rattle.book_core.proofs.Queues.{at_append, queue_set_weighs, queued_from}
use Rattle.book_core.proofs.Rooms.{lists_length, lists_of, lists_set}
use Rattle.book_core.proofs.Slots.{All-slice_get}
use Rattle.book_core.proofs.Slotted.{All-append_left}
use Rattle.book_core.proofs.StoredWaiting.{lists_by}

-- ---- pieces

-- a piece that isn't higher than any of these is put in before them
before_all : (piece : Piece) (pieces : List Piece) → All (λ other. is_lower other piece ≡ false) pieces → with_piece piece pieces ≡ piece ∷ pieces
before_all piece [] all = refl
before_all piece (other ∷ others) all = with_piece-here piece other others (All-head (λ (o : Piece). is_lower o piece ≡ false) other others all)

one_before : (pieces : List Piece) (k : ℕ) (piece : Piece) → k < length pieces → piece ≡ get_or pieces k piece → IsAscending pieces
    → with_piece piece (drop (suc k) pieces) ≡ drop k pieces
one_before [] k piece less is up = absurd (omega arith)
one_before (first ∷ rest) zero piece less is up =
    ap (λ (p : Piece). with_piece p rest) is ∙ before_all first rest up.0
one_before (first ∷ rest) (suc k) piece less is up = one_before rest k piece (omega arith) is up.1

pub piece_before : (pieces : List Piece) (behind : ℕ) (piece : Piece) (old new : List Piece) → behind < length pieces
    → piece ≡ get_or pieces (length pieces - 1 - behind) piece → IsAscending pieces
    → old ≡ drop (length pieces - behind) pieces → new ≡ with_piece piece old → new ≡ drop (length pieces - (behind + 1)) pieces
piece_before pieces behind piece old new less is up was now =
    let k : length pieces - 1 - behind ≡ length pieces - (behind + 1) = omega arith in
    let next : length pieces - behind ≡ suc (length pieces - (behind + 1)) = omega arith in
    now ∙ ap (with_piece piece) (was ∙ ap (λ (n : ℕ). drop n pieces) next)
    ∙ one_before pieces (length pieces - (behind + 1)) piece (omega arith) (is ∙ ap (λ (n : ℕ). get_or pieces n piece) k) up

-- ---- elements that wait at key cells

pub waiting_first : (keys : List KeyData) (k : ℕ) (key : KeyData) → k < length keys → key ≡ get_or keys k key
    → waiting_in (cells_of_data (drop k keys)) ≡ length key.waiting + waiting_in (cells_of_data (drop (k + 1) keys))
waiting_first [] k key less is = absurd (omega arith)
waiting_first (first ∷ rest) zero key less is =
    sum_by-cons (λ (cell : KeyCell). length cell.waiting) (cell_of_data first) (cells_of_data rest)
    ∙ ap (λ (d : KeyData). length d.waiting + waiting_in (cells_of_data rest)) (sym is)
waiting_first (first ∷ rest) (suc k) key less is =
    let next : suc k + 1 ≡ suc (k + 1) = omega arith in
    waiting_first rest k key (omega arith) is ∙ ap (λ (n : ℕ). length key.waiting + waiting_in (cells_of_data (drop n (first ∷ rest)))) (sym next)

-- ---- panes that wait

none_queued : (n : ℕ) (queues : List SeenQueue) → ((i : ℕ) → list_at queues i ≡ []) → queued_from n (lists_of queues) ≡ []
none_queued n [] none = refl
none_queued n (q ∷ qs) none =
    ap (λ (l : List WaitingPane). held_at n l ++ queued_from (n + 1) (lists_of qs)) (none 0) ∙ none_queued (n + 1) qs (λ i. none (suc i))

pub none_hold : (queues : List SeenQueue) (held : List SeenHolds) (holds : List Hold) → ((i : ℕ) → list_at queues i ≡ []) → AreHeldIn held holds
    → AreHeldIn held (queue_holds (lists_of queues) ++ holds)
none_hold queues held holds none h = subst (λ (l : List HeldPane). AreHeldIn held (map hold_of l ++ holds)) (sym (none_queued 0 queues none)) h

-- what waits at a node that has a queue
list_is : (queues : List SeenQueue) (node : ℕ) → node < length queues → slice_get (lists_of queues) node ≡ Some (list_at queues node)
list_is [] node within = absurd (omega arith)
list_is (q ∷ qs) zero within = refl
list_is (q ∷ qs) (suc node) within = list_is qs node (omega arith)

pub list_set_is : (queues : List SeenQueue) (node : ℕ) (old new : SeenQueue) (w : WaitingPane) → node < length queues → old ≡ get_or queues node old
    → new.panes ≡ old.panes ++ w ∷ []
    → lists_of (slice_set queues node new) ≡ slice_set (lists_of queues) node (list_at queues node ++ w ∷ [])
list_set_is queues node old new w within is more =
    let own : list_at queues node ≡ old.panes =
    ap (λ (o : Option SeenQueue). unwrap_or (option_map (λ (q : SeenQueue). q.panes) o) []) (slice_get-get_or queues node old within)
    ∙ ap (λ (q : SeenQueue). q.panes) (sym is) in
    lists_set queues node new ∙ ap (slice_set (lists_of queues) node) (more ∙ ap (λ (l : List WaitingPane). l ++ w ∷ []) (sym own))

-- one more pane waits at a node, and holds it back
module _ (queues new : List SeenQueue) (node : ℕ) (w : WaitingPane) (within : node < length queues)
    (set : lists_of new ≡ slice_set (lists_of queues) node (list_at queues node ++ w ∷ [])) where
  one_holds : (holds : List Hold)
      → IsSameBag (record { node = node; mark = w.hold } ∷ (queue_holds (lists_of queues) ++ holds)) (queue_holds (lists_of new) ++ holds)
  one_holds holds = record {
    weighs = λ f. omega (
      arith,
      sum_by-cons f (record { node = node; mark = w.hold }) (queue_holds (lists_of queues) ++ holds),
      sum_by-append f (queue_holds (lists_of queues)) holds,
      sum_by-append f (queue_holds (lists_of new)) holds,
      sum_by-map f hold_of (queued_from 0 (lists_of queues)),
      sum_by-map f hold_of (queued_from 0 (lists_of new)),
      ap (λ (l : List (List WaitingPane)). sum_by (pane_weight f) (queued_from 0 l)) set,
      queue_set_weighs (pane_weight f) 0 node (lists_of queues) (list_at queues node) (list_at queues node ++ w ∷ []) (list_is queues node within),
      at_append (pane_weight f) (0 + node) (list_at queues node) (w ∷ []),
      sum_by-cons (pane_weight f) (record { node = 0 + node; waiting = w }) [],
      ap (λ (n : ℕ). f (record { node = n; mark = w.hold })) here,
    );
  }
    where
      here : 0 + node ≡ node
      here = omega arith

  pub one_more_holds : (held kept after : List SeenHolds) → ((n : ℕ) → marks_in kept n ≡ marks_in held n)
      → ((hs : List Hold) → AreHeldIn kept hs → AreHeldIn after (record { node = node; mark = w.hold } ∷ hs))
      → (holds : List Hold) → AreHeldIn held (queue_holds (lists_of queues) ++ holds) → AreHeldIn after (queue_holds (lists_of new) ++ holds)
  one_more_holds held kept after same add holds h =
      bag_held after (record { node = node; mark = w.hold } ∷ (queue_holds (lists_of queues) ++ holds)) (queue_holds (lists_of new) ++ holds) (one_holds holds)
      (add (queue_holds (lists_of queues) ++ holds) (held_as held kept (queue_holds (lists_of queues) ++ holds) same h))

-- queues in which nothing waits
pub queues_sized : (queues : List SeenQueue) (nodes : List Node) → lists_of queues ≡ map (λ node. []) nodes → length queues ≡ length nodes
queues_sized queues nodes e = sym (lists_length queues) ∙ ap length e ∙ length-map nodes (λ (node : Node). [])

pub empty_at : (queues : List SeenQueue) (nodes : List Node) → lists_of queues ≡ map (λ node. []) nodes → (n : ℕ) → list_at queues n ≡ []
empty_at queues nodes e n =
    ap (λ (o : Option (List WaitingPane)). unwrap_or o []) (list_read queues n ∙ ap (λ (l : List (List WaitingPane)). slice_get l n) e) ∙ none nodes n
  where
    list_read : (qs : List SeenQueue) (n : ℕ) → option_map (λ (q : SeenQueue). q.panes) (slice_get qs n) ≡ slice_get (lists_of qs) n
    list_read qs n = sym (slice_get-map (λ (q : SeenQueue). q.panes) qs n)

    none : (nodes : List Node) (n : ℕ) → unwrap_or (slice_get (map {A = Node} {B = List WaitingPane} (λ node. []) nodes) n) [] ≡ []
    none [] n = refl
    none (node ∷ nodes) zero = refl
    none (node ∷ nodes) (suc n) = none nodes n

-- the pane at this place is one of the panes
pub within_at : (panes : List Pane) (nodes : ℕ) (waiting : List WaitingPane) (i : ℕ) (w : WaitingPane) → i < length waiting → w ≡ get_or waiting i w
    → All (WaitsWithin panes nodes) waiting → WaitsWithin panes nodes w
within_at panes nodes waiting i w less is all = subst (WaitsWithin panes nodes) (sym is) (All-get_or (WaitsWithin panes nodes) waiting i w less all)

pub none_yet : (p : WaitingPane → Bool) (waiting : List WaitingPane) → filter p (take 0 waiting) ≡ []
none_yet p [] = refl
none_yet p (w ∷ ws) = refl

pub one_more_waits : (panes : List Pane) (nodes : ℕ) (waiting : List WaitingPane) (i : ℕ) (w : WaitingPane) (node n : ℕ) (old new : List WaitingPane)
    → i < length waiting → w ≡ get_or waiting i w
    → WaitsWithin panes nodes w → ((pane : Pane) → slice_get panes w.pane ≡ Some pane → node ≡ pane.node)
    → old ≡ filter (waits_at panes n) (take i waiting) → new ≡ old ++ cond (node == n) (w ∷ []) [] → new ≡ filter (waits_at panes n) (take (i + 1) waiting)
one_more_waits panes nodes waiting i w node n old new less is within found was now =
    let test : waits_at panes n w ≡ (node == n) =
    ap (λ (o : Option Pane). elim o as (λ _. Bool) [ Some p ↦ p.node == n | None ↦ false ]) within.1 ∙ ap (λ (k : ℕ). k == n) (sym (found within.0 within.1)) in
    now ∙ ap (λ (l : List WaitingPane). l ++ cond (node == n) (w ∷ []) []) was
    ∙ ap (λ (t : Bool). filter (waits_at panes n) (take i waiting) ++ cond t (w ∷ []) []) (sym test)
    ∙ ap (λ (x : WaitingPane). filter (waits_at panes n) (take i waiting) ++ cond (waits_at panes n x) (x ∷ []) []) is
    ∙ sym (filter_more (waits_at panes n) waiting i w less)

pub all_wait : (panes : List Pane) (waiting : List WaitingPane) (i : ℕ) (queues : List SeenQueue) → length waiting ≤ i
    → ((n : ℕ) → list_at queues n ≡ filter (waits_at panes n) (take i waiting))
    → (nodes : List Node) → length nodes ≡ length queues → lists_of queues ≡ queues_at panes waiting nodes
all_wait panes waiting i queues less each nodes sized =
    sym (lists_by (λ (n : ℕ). filter (waits_at panes n) waiting) 0 nodes (lists_of queues) (lists_length queues ∙ sym sized) own)
  where
    own : (k : ℕ) (l : List WaitingPane) → slice_get (lists_of queues) k ≡ Some l → filter (waits_at panes (0 + k)) waiting ≡ l
    own k l found =
        let here : 0 + k ≡ k = omega arith in
        ap (λ (n : ℕ). filter (waits_at panes n) waiting) here
        ∙ ap (filter (waits_at panes k)) (sym (take_all i waiting less))
        ∙ sym (each k)
        ∙ by (slice_get queues k) refl
      where
        by : (o : Option SeenQueue) → slice_get queues k ≡ o → list_at queues k ≡ l
        by o e =
            ap (λ (x : Option (List WaitingPane)). unwrap_or x []) (sym (slice_get-map (λ (q : SeenQueue). q.panes) queues k) ∙ found)

-- ---- batches

batch_holds_as : (f : Hold → ℕ) (batch : Batch) → sum_by f (pane_holds batch.node batch.panes) ≡ batch_weight f batch
batch_holds_as f batch =
    sum_by-map f (λ (w : WaitingPane). record { node = batch.node; mark = w.hold }) batch.panes
    ∙ sym (sum_by-map (pane_weight f) (λ (w : WaitingPane). record { node = batch.node; waiting = w }) batch.panes)

pub one_more_batch : (returned : List Batch) (i : ℕ) (batch : Batch) (held kept after : List SeenHolds) → i < length returned → batch ≡ get_or returned i batch
    → ((n : ℕ) → marks_in kept n ≡ marks_in held n) → ((hs : List Hold) → AreHeldIn kept hs → AreHeldIn after (pane_holds batch.node batch.panes ++ hs))
    → (holds : List Hold) → AreHeldIn held (batch_holds (take i returned) ++ holds) → AreHeldIn after (batch_holds (take (i + 1) returned) ++ holds)
one_more_batch returned i batch held kept after less is same add holds h =
    bag_held after (pane_holds batch.node batch.panes ++ (batch_holds (take i returned) ++ holds)) (batch_holds (take (i + 1) returned) ++ holds) (record {
      weighs = λ f. omega (
        arith,
        sum_by-append f (pane_holds batch.node batch.panes) (batch_holds (take i returned) ++ holds),
        sum_by-append f (batch_holds (take i returned)) holds,
        sum_by-append f (batch_holds (take (i + 1) returned)) holds,
        batch_holds_as f batch,
        weigh f (take i returned),
        weigh f (take (i + 1) returned),
        ap (sum_by (batch_weight f)) more,
        sum_by-append (batch_weight f) (take i returned) (batch ∷ []),
        sum_by-cons (batch_weight f) batch [],
      );
    })
    (add (batch_holds (take i returned) ++ holds) (held_as held kept (batch_holds (take i returned) ++ holds) same h))
  where
    more : take (i + 1) returned ≡ take i returned ++ batch ∷ []
    more = take_more returned i batch less ∙ ap (λ (b : Batch). take i returned ++ b ∷ []) (sym is)

    weigh : (f : Hold → ℕ) (batches : List Batch) → sum_by f (batch_holds batches) ≡ sum_by (batch_weight f) batches
    weigh f batches = sum_by-map f hold_of (flat_map held_in batches) ∙ sum_by-flat_map (pane_weight f) held_in batches

-- ---- all together

module _ (plan : Plan) (d : BookData) (k : IsSaneData plan d) where
  pub pieces_within : All (λ piece. piece.node < length plan.nodes) d.pending
  pieces_within =
      All-weaker (IsPlaced (book_of d)) (λ piece. piece.node < length plan.nodes)
      (λ piece placed. subst (λ (p : Plan). piece.node < length p.nodes) k.of_plan placed.0) d.pending
      (All-append_left (IsPlaced (book_of d)) d.pending (live_pieces (book_of d)) (placed_of (book_of d) k.sane.formed k.sane.listed k.sane.partitioned))

  pub batches_within : All (λ batch. batch.node < length plan.nodes) d.returned
  batches_within =
      subst (λ (p : Plan). All (λ batch. batch.node < length p.nodes) d.returned) k.of_plan
      (returned_within (book_of d) k.sane.formed k.sane.held k.sane.panes.at_groups)

  pub waiting_within : All (WaitsWithin d.panes (length plan.nodes)) d.waiting
  waiting_within =
      All-weaker (λ (w : WaitingPane). w.pane < length d.panes) (WaitsWithin d.panes (length plan.nodes))
      (λ w less. by w less (slice_get d.panes w.pane) refl) d.waiting k.waiting.there
    where
      by : (w : WaitingPane) → w.pane < length d.panes → (found : Option Pane) → slice_get d.panes w.pane ≡ found → WaitsWithin d.panes (length plan.nodes) w
      by w less None e = absurd (some_at d.panes w.pane less e)
        where
          some_at : (panes : List Pane) (at : ℕ) → at < length panes → slice_get panes at ≡ None → ⊥
          some_at [] at inside none = omega arith
          some_at (p ∷ ps) zero inside none = cc
          some_at (p ∷ ps) (suc at) inside none = some_at ps at (omega arith) none
      by w less (Some pane) e = (
        pane,
        e,
        subst (λ (p : Plan). pane.node < length p.nodes) k.of_plan
            (group_within d.plan pane.node (All-slice_get (λ (p : Pane). is_group d.plan p.node ≡ true) d.panes w.pane pane e k.sane.panes.at_groups)),
      )

  pub own_held : (held : List SeenHolds) (queues : List (List WaitingPane)) → queues ≡ queues_of d
      → AreHeldIn held (batch_holds d.returned ++ (queue_holds queues ++ map (piece_hold plan) d.pending)) → AreHeldIn held (own_holds (book_of d))
  own_held held queues e h =
      bag_held held (batch_holds d.returned ++ (queue_holds queues ++ map (piece_hold plan) d.pending)) (own_holds (book_of d)) (record {
        weighs = λ f. omega (
          arith,
          sum_by-append f (batch_holds d.returned) (queue_holds queues ++ map (piece_hold plan) d.pending),
          sum_by-append f (queue_holds queues) (map (piece_hold plan) d.pending),
          sum_by-map f (piece_hold plan) d.pending,
          sum_by-map f hold_of (flat_map held_in d.returned),
          sum_by-flat_map (pane_weight f) held_in d.returned,
          sum_by-map f hold_of (queued_from 0 queues),
          ap (λ (l : List (List WaitingPane)). sum_by (pane_weight f) (queued_from 0 l)) e,
          ap (λ (p : Plan). sum_by (piece_weight f p) d.pending) k.of_plan,
          all_weigh f (book_of d),
          sum_by-cons (slot_weight f d.plan) None [],
        );
      }) h
