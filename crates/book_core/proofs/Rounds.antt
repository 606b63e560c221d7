-- What is left of a run as one number: its digits stay below the base, so each round lowers it.
use Rattle.std.proofs.Common.{◌≡◌, inl, inr, ℕ, zero, suc, ◌+◌, ◌-◌, ◌*◌, ◌<◌, ◌≤◌, Bool, true, false, cond, List, [], ◌∷◌, ◌++◌, length, map, get_or, ap, subst, ◌∙◌, mul-le-mul_left, length-append, arith}
use Rattle.std.specs.Prelude.{◌==◌, fold, nat_lt, Option, Some, None}
use Rattle.std.specs.List.{All, count_by, filter, flat_map, sum_by}
use Rattle.std.proofs.lemmas.Bool.{cases_lt}
use Rattle.std.proofs.lemmas.Bool.Decides.{nat_tests}
use Rattle.std.proofs.lemmas.List.{length-map}
use Rattle.std.proofs.lemmas.List.Elements.{All-nil, All-cons, All-head, All-tail, All-append, All-map, All-weaker}
use Rattle.std.proofs.lemmas.List.Sums.{length-filter, sum_by-cons}
use Rattle.std.proofs.lemmas.Option.{slice_get_within}
use Rattle.beam_values.specs.Lines.{offsets}
use Rattle.beam_values.specs.declared.fault.FaultNote.{FaultNote}
use Rattle.beam_values.specs.declared.options.Options.{Options}
use Rattle.beam_values.specs.declared.piece.FileLen.{FileLen}
use Rattle.beam_values.specs.declared.piece.Piece.{Piece}
use Rattle.beam_values.specs.declared.plan.Plan.{Plan}
use Rattle.group_cells.proofs.Counting.{count_none, filter_all}
use Rattle.stateful_core.specs.Cells.{KeyCell}
use Rattle.book_core.specs.Book.{SeenBook, HeldPane, held, held_in, live_batches, live_pieces, places_kept, queued, sets_aside, waiting_in}
use Rattle.book_core.specs.Facts.{AreHeldOnce, IsHeldPane, IsWellFormed, is_held_at}
use Rattle.book_core.specs.Left.{IsBelow, above_each, all_lengths, attempts_left, left, left_at, left_in, left_of_batch, left_of_cell, left_of_piece, left_of_size, rounds_left}
use Rattle.book_core.specs.Sane.{IsSane}
use Rattle.book_core.specs.declared.live.Batch.{Batch}
use Rattle.book_core.specs.declared.live.WaitingPane.{WaitingPane}
use Rattle.book_core.proofs.FewTimers.{cells_most}
use Rattle.book_core.proofs.HeldMoves.{IsNonempty}
use Rattle.book_core.proofs.PiecesListed.{ArePlaced, IsPlaced, placed_of}
use Rattle.book_core.proofs.Reaching.{HasSamePlan}
use Rattle.book_core.proofs.Slotted.{All-append_left, All-append_right}

-- ---- numbers by their digits

abbrev pub read_from : ℕ → ℕ → List ℕ → ℕ
read_from base rounds digits = fold (λ rounds digit. base * rounds + digit) rounds digits

next_digit : (base a b x y : ℕ) → x < base → a < b → base * a + x < base * b + y
next_digit base a b x y digit less =
    let more : base * (a + 1) ≤ base * b = mul-le-mul_left {m = a + 1} {n = b} base (omega (arith, less)) in
    let whole : base * (a + 1) ≡ base * a + base = grind arith in
    omega (arith, more, whole, digit)

ahead : (base : ℕ) (xs ys : List ℕ) (a b : ℕ) → length xs ≡ length ys → All (λ x. x < base) xs → a < b → read_from base a xs < read_from base b ys
ahead base [] [] a b same digits less = less
ahead base [] (y ∷ ys) a b same digits less = absurd (omega (arith, same))
ahead base (x ∷ xs) [] a b same digits less = absurd (omega (arith, same))
ahead base (x ∷ xs) (y ∷ ys) a b same digits less =
    ahead base xs ys (base * a + x) (base * b + y) (omega (arith, same)) (All-tail (λ d. d < base) x xs digits) (next_digit base a b x y (All-head (λ d. d < base) x xs digits) less)

below_reads : (base : ℕ) (xs ys : List ℕ) (a : ℕ) → length xs ≡ length ys → All (λ x. x < base) xs → IsBelow xs ys → read_from base a xs < read_from base a ys
below_reads base [] [] a same digits below = absurd below
below_reads base [] (y ∷ ys) a same digits below = absurd below
below_reads base (x ∷ xs) [] a same digits below = absurd below
below_reads base (x ∷ xs) (y ∷ ys) a same digits (inl less) =
    ahead base xs ys (base * a + x) (base * a + y) (omega (arith, same)) (All-tail (λ d. d < base) x xs digits) (omega (arith, less))
below_reads base (x ∷ xs) (y ∷ ys) a same digits (inr later) =
    subst (λ (d : ℕ). read_from base (base * a + x) xs < read_from base (base * a + d) ys) later.0
    (below_reads base xs ys (base * a + x) (omega (arith, same)) (All-tail (λ d. d < base) x xs digits) later.1)

-- ---- few panes are held

count_upto : (n : ℕ) (hs : List HeldPane) → count_by (λ (h : HeldPane). nat_lt h.waiting.pane (suc n)) hs ≤ count_by (λ (h : HeldPane). nat_lt h.waiting.pane n) hs + count_by (is_held_at n) hs
count_upto n [] = omega arith
count_upto n (h ∷ hs) =
    omega (
      arith,
      one h.waiting.pane,
      count_upto n hs,
      sum_by-cons (λ (x : HeldPane). cond {A = ℕ} (nat_lt x.waiting.pane (suc n)) 1 0) h hs,
      sum_by-cons (λ (x : HeldPane). cond {A = ℕ} (nat_lt x.waiting.pane n) 1 0) h hs,
      sum_by-cons (λ (x : HeldPane). cond {A = ℕ} (is_held_at n x) 1 0) h hs,
    )
  where
    one : (k : ℕ) → cond {A = ℕ} (nat_lt k (suc n)) 1 0 ≤ cond {A = ℕ} (nat_lt k n) 1 0 + cond {A = ℕ} (k == n) 1 0
    one k = grind (arith, nat_tests)

count_few : (hs : List HeldPane) → ((place : ℕ) → count_by (is_held_at place) hs ≤ 1) → (n : ℕ) → count_by (λ (h : HeldPane). nat_lt h.waiting.pane n) hs ≤ n
count_few hs once zero =
    let none = count_none (λ (h : HeldPane). nat_lt h.waiting.pane 0) hs (λ k d inside. never (get_or hs k d).waiting.pane) in
    omega (arith, none)
  where
    never : (k : ℕ) → nat_lt k 0 ≡ false
    never k = grind (arith, nat_tests)
count_few hs once (suc n) = omega (arith, count_upto n hs, once n, count_few hs once n)

pub held_few : (b : SeenBook) → AreHeldOnce b → length (held b) ≤ length b.panes
held_few b once =
    let all : filter (λ (h : HeldPane). nat_lt h.waiting.pane (length b.panes)) (held b) ≡ held b =
    filter_all (λ (h : HeldPane). nat_lt h.waiting.pane (length b.panes)) (held b)
    (All-weaker (IsHeldPane b) (λ (h : HeldPane). nat_lt h.waiting.pane (length b.panes) ≡ true) (λ h is. test h.waiting.pane (slice_get_within b.panes h.waiting.pane is.0 is.1)) (held b) once.panes) in
    omega (arith, ap length all, length-filter (λ (h : HeldPane). nat_lt h.waiting.pane (length b.panes)) (held b), count_few (held b) once.once (length b.panes))
  where
    test : (k : ℕ) → k < length b.panes → nat_lt k (length b.panes) ≡ true
    test k less = grind (arith, nat_tests)

batches_few : (batches : List Batch) → All IsNonempty batches → length batches ≤ length (flat_map held_in batches)
batches_few [] some = omega arith
batches_few (x ∷ xs) some =
    let as_held : WaitingPane → HeldPane = λ waiting. record { node = x.node; waiting = waiting } in
    omega (
      arith,
      length-append (held_in x) (flat_map held_in xs),
      All-head IsNonempty x xs some,
      batches_few xs (All-tail IsNonempty x xs some),
      length-map x.panes as_held,
    )

filtered_few : {X : Type 0} (p : X → Bool) (xs : List X) → length (filter p xs) ≤ length xs
filtered_few p [] = omega arith
filtered_few p (x ∷ xs) = by (p x) (filtered_few p xs)
  where
    by : (t : Bool) → length (filter p xs) ≤ length xs → length (cond t (x ∷ filter p xs) (filter p xs)) ≤ length (x ∷ xs)
    by true few = omega (arith, few)
    by false few = omega (arith, few)

-- ---- no number comes near the base

sum_most : {X : Type 0} (f : X → ℕ) (most : ℕ) (xs : List X) → ((x : X) → f x ≤ most) → sum_by f xs ≤ most * length xs
sum_most f most [] each = omega arith
sum_most f most (x ∷ xs) each =
    let whole : most * (1 + length xs) ≡ most + most * length xs = grind arith in
    omega (arith, whole, each x, sum_most f most xs each, sum_by-cons f x xs)

abbrev EndsBy : ℕ → Piece → Type 0
EndsBy most piece = piece.range.from < piece.range.to → piece.range.to ≤ most

one_most : (most from to : ℕ) → (from < to → to ≤ most) → to - from ≤ most
one_most most from to ends = elim (cases_lt from to) [
  | inl some ↦ let low = ends some in omega (arith, low)
  | inr none ↦ omega (arith, none)
]

left_most : (most : ℕ) (piece : Piece) → EndsBy most piece → left_in piece ≤ 3 * most + 1
left_most most piece ends = by piece.spent (one_most most piece.range.from piece.range.to ends)
  where
    by : (spent : Option FaultNote) → piece.range.to - piece.range.from ≤ most → left_of_size spent (piece.range.to - piece.range.from) ≤ 3 * most + 1
    by None few = omega (arith, few)
    by (Some note) few = omega arith

pieces_most : (p : Piece → Bool) (most : ℕ) (xs : List Piece) → All (EndsBy most) xs → sum_by left_in (filter p xs) ≤ (3 * most + 1) * length xs
pieces_most p most [] all = omega arith
pieces_most p most (x ∷ xs) all = by (p x) (pieces_most p most xs (All-tail (EndsBy most) x xs all))
  where
    whole : (n : ℕ) → (3 * most + 1) * (1 + n) ≡ (3 * most + 1) + (3 * most + 1) * n
    whole n = grind arith

    by : (t : Bool) → sum_by left_in (filter p xs) ≤ (3 * most + 1) * length xs → sum_by left_in (cond t (x ∷ filter p xs) (filter p xs)) ≤ (3 * most + 1) * length (x ∷ xs)
    by true few = omega (arith, few, whole (length xs), sum_by-cons left_in x (filter p xs), left_most most x (All-head (EndsBy most) x xs all))
    by false few = omega (arith, few, whole (length xs))

-- a place at least is kept for each piece that is worked
pub places_kept_most : (b : SeenBook) → length (live_pieces b) ≤ places_kept b
places_kept_most b = by (sets_aside b.plan) (length (live_pieces b))
  where
    by : (t : Bool) (n : ℕ) → n ≤ cond {A = ℕ} t (3 * n) n
    by true n = omega arith
    by false n = omega arith

module _ (b : SeenBook) (sane : IsSane b) where
  abbrev formed : IsWellFormed b
  formed = sane.formed

  abbrev once : AreHeldOnce b
  once = sane.held

  placed : ArePlaced b
  placed = placed_of b sane.formed sane.listed sane.partitioned

  few_held : length (held b) < 4294967295
  few_held = omega (arith, held_few b once, formed.within.panes)

  few_pieces : length (b.pending ++ live_pieces b) < 4294967295
  few_pieces = omega (arith, formed.within.pieces, places_kept_most b, length-append b.pending (live_pieces b))

  node_below : (m : ℕ) → left_at b m < above_each b
  node_below m =
      let pieces = b.pending ++ live_pieces b in
      let most = all_lengths b in
      let sum = pieces_most (λ (piece : Piece). piece.node == m) most pieces (All-weaker (IsPlaced b) (EndsBy most) (λ piece is. is.1) pieces placed) in
      let all : (3 * most + 1) * length pieces ≤ (3 * most + 1) * 4294967295 = mul-le-mul_left {m = length pieces} {n = 4294967295} (3 * most + 1) (omega (arith, few_pieces)) in
      let panes = filtered_few (λ (pane : HeldPane). pane.node == m) (held b) in
      let cells = cells_most b.plan b.commits (λ (cell : KeyCell). cell.log.node == m) b.keys sane.keys.each in
      bounded most b.options.attempts (length (filter (λ (pane : HeldPane). pane.node == m) (held b))) (waiting_in b.keys) (length b.keys) (omega (arith, panes, few_held)) formed.within.waiting
      formed.within.keys (omega (arith, sum, all)) cells
    where
      bounded : (most attempts panes waiting keys : ℕ) {offsets cells : ℕ} → panes < 4294967295 → waiting < 4294967295 → keys < 4294967295 → offsets ≤ (3 * most + 1) * 4294967295
          → cells ≤ 9 * waiting + keys → offsets + panes + cells < 4294967296 * (3 * most + 4 * attempts + 20)
      bounded most attempts panes waiting keys few few_waiting few_keys sum left = omega (arith, few, few_waiting, few_keys, sum, left)

  attempts_below : attempts_left b < above_each b
  attempts_below =
      let limit = b.options.attempts in
      let pieces = b.pending ++ live_pieces b in
      let batches = b.returned ++ live_batches b in
      let first = sum_most (left_of_piece limit) limit pieces (λ piece. less limit piece.attempts) in
      let second = sum_most (left_of_batch limit) limit batches (λ batch. less limit batch.attempts) in
      let third = sum_most (left_of_cell limit) limit b.keys (λ cell. less limit cell.attempts) in
      let few_queued : length (queued b) ≤ length (held b) = omega (arith, length-append (queued b) (flat_map held_in b.returned ++ flat_map held_in (live_batches b))) in
      let few_batches : length batches ≤ length (held b) =
      omega (
        arith,
        length-append (queued b) (flat_map held_in b.returned ++ flat_map held_in (live_batches b)),
        length-append (flat_map held_in b.returned) (flat_map held_in (live_batches b)),
        length-append b.returned (live_batches b),
        batches_few b.returned (All-append_left IsNonempty b.returned (live_batches b) once.batches),
        batches_few (live_batches b) (All-append_right IsNonempty b.returned (live_batches b) once.batches),
      ) in
      bounded (all_lengths b) limit (product limit (length pieces) (omega (arith, few_pieces))) (product limit (length batches) (omega (arith, few_batches, few_held)))
      (product limit (length (queued b)) (omega (arith, few_queued, few_held))) (product limit (length b.keys) (omega (arith, formed.within.keys))) first second third
    where
      less : (limit attempts : ℕ) → limit - attempts ≤ limit
      less limit attempts = omega arith

      product : (limit n : ℕ) → n ≤ 4294967295 → limit * n ≤ limit * 4294967295
      product limit n few = mul-le-mul_left {m = n} {n = 4294967295} limit few

      bounded : (most limit : ℕ) {p q r s x y z : ℕ} → p ≤ limit * 4294967295 → q ≤ limit * 4294967295 → r ≤ limit * 4294967295 → s ≤ limit * 4294967295 → x ≤ p → y ≤ q → z ≤ s
          → x + y + r + z < 4294967296 * (3 * most + 4 * limit + 20)
      bounded most limit a c d e f g h = omega (arith, a, c, d, e, f, g, h)

  digits : All (λ x. x < above_each b) (left b)
  digits =
      All-append (λ x. x < above_each b) (map (left_at b) (offsets 0 (length b.plan.nodes))) (attempts_left b ∷ [])
      (All-map (λ x. x < above_each b) (left_at b) (offsets 0 (length b.plan.nodes)) (λ k d inside. node_below (get_or (offsets 0 (length b.plan.nodes)) k d)))
      (All-cons (λ x. x < above_each b) (attempts_left b) [] attempts_below (All-nil (λ x. x < above_each b)))

-- the base stays while the plan, the files and the options do
base_same : (b new : SeenBook) → HasSamePlan b new → above_each new ≡ above_each b
base_same b new same =
    ap (λ (files : List FileLen). 4294967296 * (3 * sum_by (λ file. file.len) files + 4 * new.options.attempts + 20)) same.files
    ∙ ap (λ (options : Options). 4294967296 * (3 * all_lengths b + 4 * options.attempts + 20)) same.options

as_many : (b new : SeenBook) → new.plan ≡ b.plan → length (left new) ≡ length (left b)
as_many b new plan =
    omega (
      arith,
      length-append (map (left_at new) (offsets 0 (length new.plan.nodes))) (attempts_left new ∷ []),
      length-append (map (left_at b) (offsets 0 (length b.plan.nodes))) (attempts_left b ∷ []),
      length-map (offsets 0 (length new.plan.nodes)) (left_at new),
      length-map (offsets 0 (length b.plan.nodes)) (left_at b),
      ap (λ (p : Plan). length (offsets 0 (length p.nodes))) plan,
    )

pub fewer_rounds : (b new : SeenBook) → HasSamePlan b new → IsSane new → IsBelow (left new) (left b) → rounds_left new < rounds_left b
fewer_rounds b new same sane below =
    let base = base_same b new same in
    let read = below_reads (above_each new) (left new) (left b) 0 (as_many b new same.plan) (digits new sane) below in
    subst (λ (n : ℕ). rounds_left new < read_from n 0 (left b)) base read

pub same_rounds : (b new : SeenBook) → HasSamePlan b new → left new ≡ left b → rounds_left new ≡ rounds_left b
same_rounds b new same is = ap (λ (n : ℕ). read_from n 0 (left new)) (base_same b new same) ∙ ap (read_from (above_each b) 0) is
