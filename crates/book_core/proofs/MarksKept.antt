-- The last marks of a book are those that follow from it, and no mark falls: every step keeps it.
use Rattle.std.proofs.Common.{◌≡◌, ◌⊎◌, inl, inr, ℕ, ◌+◌, ◌<◌, ℤ, Bool, true, false, cond, List, [], ◌∷◌, ◌++◌, length, map, get_or, zero, suc, refl, sym, ap, subst, ◌∙◌, arith}
use Rattle.std.specs.Prelude.{Option, Some, None, ◌==◌, ◌≤ℤ◌, nat_lt, int_le, slice_get}
use Rattle.std.specs.Int.{int_max}
use Rattle.std.specs.List.{All, Contains, filter, flat_map, enumerate_from}
use Rattle.std.proofs.lemmas.Bool.Decides.{nat_tests}
use Rattle.std.proofs.lemmas.Int.{ints, clamps, fold-int_min_bounds, fold-int_min_reached}
use Rattle.std.proofs.lemmas.List.Elements.{All-nil, All-cons, All-head, All-tail, All-append, All-weaker, All-map, All-contains}
use Rattle.beam_values.specs.Bags.{IsSameBag}
use Rattle.beam_values.specs.Checked.{IsChecked}
use Rattle.beam_values.specs.Marks.{marks_at, mark_of, AreMarks}
use Rattle.beam_values.specs.Times.{final_mark}
use Rattle.beam_values.proofs.Bags.{bag_sym}
use Rattle.beam_values.specs.declared.cell.Cell.{Cell}
use Rattle.beam_values.specs.declared.cell.Pane.{Pane}
use Rattle.beam_values.specs.declared.fault.FaultNote.{FaultNote}
use Rattle.beam_values.specs.declared.file_text.FileText.{FileText}
use Rattle.beam_values.specs.declared.marks.StageMarks.{StageMarks}
use Rattle.beam_values.specs.declared.piece.Piece.{Piece}
use Rattle.beam_values.specs.declared.plan.Plan.{Plan}
use Rattle.beam_model.specs.Holds.{Hold, estimator_of, piece_hold, marks_held, least_hold}
use Rattle.bundle_commit.specs.declared.job.Receipt.{Receipt}
use Rattle.group_cells.specs.Commits.{NoneFalls}
use Rattle.split_core.proofs.Ordered.{All-with_piece}
use Rattle.watermarks.proofs.Rising.{mark_of_rises, marks_rise, below_hold}
use Rattle.book_core.specs.Book.{SeenBook, HeldPane, piece_of, batch_of, live_pieces, held, held_in, hold_of, holds, last_marks, AreMarksOfBook}
use Rattle.book_core.specs.Changes.{committed, pending_after, pending_with, residual_of, with_residual, key_done}
use Rattle.book_core.specs.Facts.{AreHeldOnce, IsWellFormed}
use Rattle.book_core.specs.Jobs.{job_of, attempted_of}
use Rattle.book_core.specs.Work.{IsGiven, worked_to, is_known}
use Rattle.book_core.specs.declared.live.Live.{Live}
use Rattle.book_core.specs.declared.live.Live.TheVariants as live
use Rattle.book_core.proofs.Cases.{Commits}
use Rattle.book_core.proofs.HeldMoves.{fired_held}
use Rattle.book_core.proofs.HeldOnce.{All-of_bag, commit_bag}
use Rattle.beam_values.specs.declared.arrival.Arrival.{Arrival}
use Rattle.stateful_core.specs.Cells.{KeyCell, key_holds}
use Rattle.stateful_core.specs.Placing.{place, Done as KeyDone}
use Rattle.stateful_core.proofs.HoldsKept.{place_above}
use Rattle.book_core.proofs.KeysKept.{KeysSane, holds_within, keys_within}
use Rattle.book_core.specs.Indexes.{all_holds}
use Rattle.book_core.proofs.Queues.{held_fired}
use Rattle.book_core.proofs.Seen.{receipt_rises}
use Rattle.book_core.proofs.Slotted.{All-append_left, All-append_right, All-flat_set, All-flat_at}

-- ---- no hold is below the mark after its node

-- of a mark that a node of the plan is held at
abbrev pub IsUp : Plan → List StageMarks → ℕ → ℤ → Type 0
IsUp plan before node mark = node < length plan.nodes → (marks_at before node).mark_out ≤ℤ mark

pub is_up : Plan → List StageMarks → ℕ → ℤ → Bool
is_up plan before node mark = cond (nat_lt node (length plan.nodes)) (int_le (marks_at before node).mark_out mark) true

pub up_from : (plan : Plan) (before : List StageMarks) (node : ℕ) (mark : ℤ) → IsUp plan before node mark → is_up plan before node mark ≡ true
unfolding is_up
up_from plan before node mark h = by (nat_lt node (length plan.nodes)) refl
  where
    le_true : (a b : ℤ) → a ≤ℤ b → int_le a b ≡ true
    le_true a b le = grind (arith, ints)

    by : (t : Bool) → nat_lt node (length plan.nodes) ≡ t → cond t (int_le (marks_at before node).mark_out mark) true ≡ true
    by true e = let less : node < length plan.nodes = grind (arith, nat_tests) in le_true (marks_at before node).mark_out mark (h less)
    by false e = refl

pub up_is : (plan : Plan) (before : List StageMarks) (node : ℕ) (mark : ℤ) → is_up plan before node mark ≡ true → IsUp plan before node mark
unfolding is_up
up_is plan before node mark h less = le_from (marks_at before node).mark_out mark (sym (ap (λ (t : Bool). cond t (int_le (marks_at before node).mark_out mark) true) e) ∙ h)
  where
    e : nat_lt node (length plan.nodes) ≡ true
    e = grind (arith, nat_tests)

    le_from : (a b : ℤ) → int_le a b ≡ true → a ≤ℤ b
    le_from a b le = grind (arith, ints)

passing : {X Y : Type 0} (p : X → Bool) (f : X → Y) (P : Y → Type 0) (xs : List X) → All P (map f (filter p xs)) → All (λ x. p x ≡ true → P (f x)) xs
passing p f P [] h = All-nil (λ x. p x ≡ true → P (f x))
passing p f P (x ∷ xs) h = by (p x) refl h (passing p f P xs)
  where
    by : (t : Bool) → p x ≡ t → All P (map f (cond t (x ∷ filter p xs) (filter p xs))) → (All P (map f (filter p xs)) → All (λ y. p y ≡ true → P (f y)) xs)
        → All (λ y. p y ≡ true → P (f y)) (x ∷ xs)
    by true e all onward = All-cons (λ y. p y ≡ true → P (f y)) x xs (λ passes. All-head P (f x) (map f (filter p xs)) all) (onward (All-tail P (f x) (map f (filter p xs)) all))
    by false e all onward = All-cons (λ y. p y ≡ true → P (f y)) x xs (λ passes. absurd (cc)) (onward all)

passed : {X Y : Type 0} (p : X → Bool) (f : X → Y) (P : Y → Type 0) (xs : List X) → All (λ x. p x ≡ true → P (f x)) xs → All P (map f (filter p xs))
passed p f P [] h = All-nil P
passed p f P (x ∷ xs) h = by (p x) refl (passed p f P xs (All-tail (λ y. p y ≡ true → P (f y)) x xs h))
  where
    by : (t : Bool) → p x ≡ t → All P (map f (filter p xs)) → All P (map f (cond t (x ∷ filter p xs) (filter p xs)))
    by true e all = All-cons P (f x) (map f (filter p xs)) (All-head (λ y. p y ≡ true → P (f y)) x xs h e) all
    by false e all = all

-- the least hold of a node is no higher than each of its holds
least_below : (hs : List Hold) → All (λ hold. least_hold hs hold.node ≤ℤ hold.mark) hs
least_below hs k d within = at (get_or hs k d) (of_node (get_or hs k d).node k d within)
  where
    of_node : (n : ℕ) → All (λ (hold : Hold). (hold.node == n) ≡ true → least_hold hs n ≤ℤ hold.mark) hs
    of_node n =
        passing (λ (hold : Hold). hold.node == n) (λ (hold : Hold). hold.mark) (λ (mark : ℤ). least_hold hs n ≤ℤ mark) hs
        (fold-int_min_bounds final_mark (marks_held hs n) (least_hold hs n) refl).1

    at : (h : Hold) → ((h.node == h.node) ≡ true → least_hold hs h.node ≤ℤ h.mark) → least_hold hs h.node ≤ℤ h.mark
    at h onward = let same : (h.node == h.node) ≡ true = grind (arith, nat_tests) in onward same

item_there : {X : Type 0} (xs : List X) (n : ℕ) → n < length xs → (x : X) × (slice_get xs n ≡ Some x)
item_there [] n less = absurd (omega arith)
item_there (x ∷ xs) zero less = (x, refl)
item_there (x ∷ xs) (suc n) less = item_there xs n (omega arith)

pub further : (a b c : ℤ) → a ≤ℤ b → b ≤ℤ c → a ≤ℤ c
further a b c p q = omega (arith, ints)

pub holds_up : (plan : Plan) (hs : List Hold) (before : List StageMarks) → AreMarks plan (least_hold hs) before → All (λ hold. IsUp plan before hold.node hold.mark) hs
holds_up plan hs before marked =
    All-weaker (λ hold. least_hold hs hold.node ≤ℤ hold.mark) (λ hold. IsUp plan before hold.node hold.mark)
    (λ hold low less.
    let there = item_there plan.nodes hold.node less in
    further (marks_at before hold.node).mark_out (least_hold hs hold.node) hold.mark (below_hold plan (least_hold hs) before hold.node there.0 marked there.1).1 low)
    hs (least_below hs)

-- where no hold is below the marks before, no mark falls
pub rise_from : (plan : Plan) (old new : List Hold) (before after : List StageMarks) → IsChecked plan → AreMarks plan (least_hold old) before → AreMarks plan (least_hold new) after
    → All (λ hold. IsUp plan before hold.node hold.mark) new → NoneFalls before after
rise_from plan old new before after checked was is up = marks_rise plan (least_hold old) (least_hold new) before after checked was is above
  where
    below_final : (n : ℕ) → n < length plan.nodes → (marks_at before n).mark_out ≤ℤ final_mark
    below_final n less =
        let there = item_there plan.nodes n less in
        let both = below_hold plan (least_hold old) before n there.0 was there.1 in
        further (marks_at before n).mark_out (least_hold old n) final_mark both.1 (fold-int_min_bounds final_mark (marks_held old n) (least_hold old n) refl).0

    of_node : (n : ℕ) → n < length plan.nodes → All (λ mark. (marks_at before n).mark_out ≤ℤ mark) (marks_held new n)
    of_node n less =
        passed (λ (hold : Hold). hold.node == n) (λ (hold : Hold). hold.mark) (λ (mark : ℤ). (marks_at before n).mark_out ≤ℤ mark) new
        (All-weaker (λ (hold : Hold). IsUp plan before hold.node hold.mark) (λ (hold : Hold). (hold.node == n) ≡ true → (marks_at before n).mark_out ≤ℤ hold.mark)
        (λ hold high here. at_node hold.node hold.mark n less high (same_number hold.node n here)) new up)
      where
        same_number : (a b : ℕ) → (a == b) ≡ true → a ≡ b
        same_number a b e = grind (arith, nat_tests)

        at_node : (m : ℕ) (mark : ℤ) (n : ℕ) → n < length plan.nodes → IsUp plan before m mark → m ≡ n → (marks_at before n).mark_out ≤ℤ mark
        at_node m mark n less high e = subst (λ (k : ℕ). (marks_at before k).mark_out ≤ℤ mark) e (high (subst (λ (k : ℕ). k < length plan.nodes) (sym e) less))

    above : (n : ℕ) → n < length plan.nodes → (marks_at before n).mark_out ≤ℤ least_hold new n
    above n less = by (fold-int_min_reached final_mark (marks_held new n) (least_hold new n) refl)
      where
        by : (least_hold new n ≡ final_mark) ⊎ Contains (marks_held new n) (least_hold new n) → (marks_at before n).mark_out ≤ℤ least_hold new n
        by (inl e) = subst (λ (m : ℤ). (marks_at before n).mark_out ≤ℤ m) (sym e) (below_final n less)
        by (inr there) = All-contains (λ mark. (marks_at before n).mark_out ≤ℤ mark) (marks_held new n) (least_hold new n) (of_node n less) there

-- ---- key cells

-- what waits at key cells, and comes to them, holds no node below the mark after it
pub keys_up : (plan : Plan) (before : List StageMarks) (done : Option KeyDone) (arrivals : List Arrival) (cells : List KeyCell) → All (λ cell. cell.log.node < length plan.nodes) cells
    → All (λ hold. IsUp plan before hold.node hold.mark) (key_holds cells) → All (λ hold. IsUp plan before hold.node hold.mark) (key_holds (place plan before done arrivals cells))
keys_up plan before done arrivals cells within up =
    All-weaker (λ hold. (marks_at before hold.node).mark_out ≤ℤ hold.mark) (λ hold. IsUp plan before hold.node hold.mark) (λ hold above less. above) (key_holds (place plan before done arrivals cells))
    (place_above before plan done arrivals cells (λ k d inside. up k d inside (holds_within (length plan.nodes) cells within k d inside)))

-- ---- a commit

-- what a piece is held at
IsPieceUp : Plan → List StageMarks → Piece → Type 0
IsPieceUp plan before piece = IsUp plan before piece.node (mark_of (estimator_of plan piece.node) piece.seen)

IsPaneUp : Plan → List StageMarks → HeldPane → Type 0
IsPaneUp plan before held = IsUp plan before held.node held.waiting.hold

module _ (plan : Plan) (before : List StageMarks) where
  residual_up : (told : Option (List FileText)) (piece : Piece) (attempted : Option ℕ) (receipt : Receipt) (pending : List Piece)
      → IsGiven told plan (job_of [] (live.Span piece attempted)) attempted receipt → IsPieceUp plan before piece → All (IsPieceUp plan before) pending
      → All (IsPieceUp plan before) (with_residual (residual_of piece attempted receipt) pending)
  unfolding IsPieceUp
  residual_up told piece attempted receipt pending given up all = by (nat_lt (worked_to piece attempted) piece.range.to)
    where
      risen : mark_of (estimator_of plan piece.node) piece.seen ≤ℤ mark_of (estimator_of plan piece.node) receipt.seen
      risen = mark_of_rises (estimator_of plan piece.node) piece.seen receipt.seen
          (receipt_rises (is_known told plan piece.node) told plan piece (worked_to piece attempted) receipt given.0)

      by : (t : Bool) → All (IsPieceUp plan before) (with_residual (cond t (Some (record piece { range = record { from = worked_to piece attempted; to = piece.range.to }; seen = receipt.seen; attempts = 0 })) None) pending)
      by true =
          All-with_piece (IsPieceUp plan before) (record piece { range = record { from = worked_to piece attempted; to = piece.range.to }; seen = receipt.seen; attempts = 0 }) pending
          (λ less. further (marks_at before piece.node).mark_out (mark_of (estimator_of plan piece.node) piece.seen) (mark_of (estimator_of plan piece.node) receipt.seen) (up less) risen) all
      by false = all

  pending_up : (told : Option (List FileText)) (panes : List Pane) (job : Live) (receipt : Receipt) (pending : List Piece)
      → IsGiven told plan (job_of panes job) (attempted_of job) receipt → All (IsPieceUp plan before) (piece_of (Some job)) → All (IsPieceUp plan before) pending
      → All (IsPieceUp plan before) (pending_after pending job receipt)
  pending_up told panes (live.Span piece attempted) receipt pending given up all = by piece.spent
    where
      by : (spent : Option FaultNote) → All (IsPieceUp plan before) (pending_with spent piece attempted receipt pending)
      by None = residual_up told piece attempted receipt pending given (All-head (IsPieceUp plan before) piece [] up) all
      by (Some note) = all
  pending_up told panes (live.Batch batch) receipt pending given up all = all
  pending_up told panes (live.Key turn) receipt pending given up all = all

  fired_up : (n : ℕ) (fired : List Pane) → All (IsPaneUp plan before) (map (held_fired before) (enumerate_from n fired))
  unfolding IsPaneUp
  fired_up n [] = All-nil (IsPaneUp plan before)
  fired_up n (p ∷ ps) =
      All-cons (IsPaneUp plan before) (held_fired before (n, p)) (map (held_fired before) (enumerate_from (n + 1) ps))
      (λ less. greater p.element.time (marks_at before p.node).mark_out) (fired_up (n + 1) ps)
    where
      greater : (a b : ℤ) → b ≤ℤ int_max a b
      greater a b = omega (arith, ints, clamps)

  -- over a bag, by the test
  panes_up : (hs ks : List HeldPane) → IsSameBag hs ks → All (IsPaneUp plan before) hs → All (IsPaneUp plan before) ks
  unfolding IsPaneUp
  panes_up hs ks same up =
      All-weaker (λ h. is_up plan before h.node h.waiting.hold ≡ true) (IsPaneUp plan before) (λ h e. up_is plan before h.node h.waiting.hold e) ks
      (All-of_bag (λ h. is_up plan before h.node h.waiting.hold) hs ks same
      (All-weaker (IsPaneUp plan before) (λ h. is_up plan before h.node h.waiting.hold ≡ true) (λ h u. up_from plan before h.node h.waiting.hold u) hs up))

unmapped : {X Y : Type 0} (P : Y → Type 0) (f : X → Y) (xs : List X) → All P (map f xs) → All (λ x. P (f x)) xs
unmapped P f [] h = All-nil (λ x. P (f x))
unmapped P f (x ∷ xs) h = All-cons (λ y. P (f y)) x xs (All-head P (f x) (map f xs) h) (unmapped P f xs (All-tail P (f x) (map f xs) h))

module _ (told : Option (List FileText)) (b : SeenBook) (slot : ℕ) (job : Live) (receipt : Receipt) (cells : List Cell) (fired : List Pane) (marks : List StageMarks)
    (formed : IsWellFormed b) (once : AreHeldOnce b) (keys : KeysSane b) (made : Commits told b slot job receipt cells fired marks) (was : AreMarksOfBook b (last_marks b)) where
  abbrev after : SeenBook
  after = committed b slot job receipt cells fired marks

  abbrev before : List StageMarks
  before = last_marks b

  all_up : All (λ hold. IsUp b.plan before hold.node hold.mark) (all_holds b)
  all_up = holds_up b.plan (all_holds b) before was

  pieces_were : All (IsPieceUp b.plan before) (b.pending ++ live_pieces b)
  unfolding IsPieceUp
  pieces_were =
      unmapped (λ hold. IsUp b.plan before hold.node hold.mark) (piece_hold b.plan) (b.pending ++ live_pieces b)
      (All-append_left (λ hold. IsUp b.plan before hold.node hold.mark) (map (piece_hold b.plan) (b.pending ++ live_pieces b)) (holds b) all_up)

  panes_were : All (IsPaneUp b.plan before) (held b)
  unfolding IsPaneUp
  panes_were =
      unmapped (λ hold. IsUp b.plan before hold.node hold.mark) hold_of (held b)
      (All-append_left (λ hold. IsUp b.plan before hold.node hold.mark) (map hold_of (held b)) (key_holds b.keys)
      (All-append_right (λ hold. IsUp b.plan before hold.node hold.mark) (map (piece_hold b.plan) (b.pending ++ live_pieces b)) (holds b) all_up))

  keys_are : All (λ hold. IsUp b.plan before hold.node hold.mark) (key_holds after.keys)
  keys_are =
      keys_up b.plan before (key_done (length b.commits) job receipt.logged) receipt.arrivals b.keys (keys_within b keys)
      (All-append_right (λ hold. IsUp b.plan before hold.node hold.mark) (map hold_of (held b)) (key_holds b.keys)
      (All-append_right (λ hold. IsUp b.plan before hold.node hold.mark) (map (piece_hold b.plan) (b.pending ++ live_pieces b)) (holds b) all_up))

  pieces_are : All (IsPieceUp b.plan before) (after.pending ++ live_pieces after)
  pieces_are =
      let live_were = All-append_right (IsPieceUp b.plan before) b.pending (live_pieces b) pieces_were in
      All-append (IsPieceUp b.plan before) after.pending (live_pieces after)
      (pending_up b.plan before told b.panes job receipt b.pending made.given
      (All-flat_at piece_of b.slots slot (IsPieceUp b.plan before) (Some job) made.works live_were)
      (All-append_left (IsPieceUp b.plan before) b.pending (live_pieces b) pieces_were))
      (All-flat_set piece_of b.slots slot (IsPieceUp b.plan before) None (All-nil (IsPieceUp b.plan before)) live_were)

  panes_are : All (IsPaneUp b.plan before) (held after)
  panes_are =
      let bag = commit_bag told b slot job receipt cells fired marks formed once made in
      All-append_left (IsPaneUp b.plan before) (held after) (flat_map held_in (batch_of (Some job)))
      (panes_up b.plan before (held b ++ fired_held b fired) (held after ++ flat_map held_in (batch_of (Some job)))
      (bag_sym (held after ++ flat_map held_in (batch_of (Some job))) (held b ++ fired_held b fired) bag)
      (All-append (IsPaneUp b.plan before) (held b) (fired_held b fired) panes_were (fired_up b.plan before (length b.panes) fired)))

  pub none_falls : NoneFalls before marks
  unfolding IsPieceUp IsPaneUp
  none_falls =
      rise_from b.plan (all_holds b) (all_holds after) before marks formed.checked was made.marked
      (All-append (λ hold. IsUp b.plan before hold.node hold.mark) (map (piece_hold b.plan) (after.pending ++ live_pieces after)) (holds after)
      (All-map (λ hold. IsUp b.plan before hold.node hold.mark) (piece_hold b.plan) (after.pending ++ live_pieces after) pieces_are)
      (All-append (λ hold. IsUp b.plan before hold.node hold.mark) (map hold_of (held after)) (key_holds after.keys)
      (All-map (λ hold. IsUp b.plan before hold.node hold.mark) hold_of (held after) panes_are) keys_are))
