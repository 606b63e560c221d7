-- A fail lowers what is left of a run, also where it breaks a range that has offsets.
use Rattle.std.proofs.Common.{◌≡◌, inl, inr, ℕ, ◌+◌, ◌-◌, ◌*◌, ◌<◌, ◌≤◌, Bool, true, false, cond, List, [], ◌∷◌, ◌++◌, refl, ap, arith}
use Rattle.std.specs.Prelude.{Option, Some, None, ◌==◌, max, nat_lt}
use Rattle.std.specs.List.{All, sum_by}
use Rattle.std.proofs.lemmas.Bool.{cases_lt}
use Rattle.std.proofs.lemmas.Bool.Decides.{nat_tests}
use Rattle.std.proofs.lemmas.List.Elements.{All-head, All-tail}
use Rattle.std.proofs.lemmas.List.Sums.{sum_by-append, sum_by-cons}
use Rattle.beam_values.proofs.Bags.{bag_count}
use Rattle.beam_values.specs.declared.fault.Cause.{Cause}
use Rattle.beam_values.specs.declared.fault.Cause.TheVariants.{Call, Read}
use Rattle.beam_values.specs.declared.fault.FaultNote.{FaultNote}
use Rattle.beam_values.specs.declared.piece.Piece.{Piece}
use Rattle.book_core.specs.Book.{SeenBook, HeldPane, held}
use Rattle.book_core.specs.Changes.{blamed, broken, broken_parts, cut_around, failed_where, is_broken, note_of, part_of, rest_of, spent_piece}
use Rattle.book_core.specs.Facts.{IsAttemptedWithin}
use Rattle.book_core.specs.Left.{HasOffsets, IsBelow, left, left_at, left_in}
use Rattle.book_core.specs.Sane.{IsSane}
use Rattle.book_core.specs.Steps.{IsFresh, IsWorking}
use Rattle.book_core.specs.declared.live.Live.{Live}
use Rattle.book_core.specs.declared.live.Live.TheVariants as live
use Rattle.book_core.proofs.Broken.{blamed_below, blamed_from, broken_all, never_batch, never_key, never_read}
use Rattle.book_core.proofs.CommitLowers.{lower_at, other, own, worked_placed}
use Rattle.book_core.proofs.HeldMoves.{back_moves}
use Rattle.book_core.proofs.HoldBags.{piece_set_weighs, with_pieces_weight}
use Rattle.book_core.proofs.Lowered.{at_node, fresh_size, left_at_weighs, tried_lowers}
use Rattle.book_core.proofs.Slots.{All-slice_get}
use Rattle.book_core.proofs.Slotted.{one_weighs}

-- ---- what is left of the parts

part_left : (piece : Piece) (from to : ℕ) → piece.spent ≡ None → from < to → sum_by left_in (part_of piece from to) ≡ 3 * (to - from) - 1
part_left piece from to fresh some = by (nat_lt from to) refl
  where
    by : (t : Bool) → nat_lt from to ≡ t → sum_by left_in (cond t (rest_of piece (record { from = from; to = to }) ∷ []) []) ≡ 3 * (to - from) - 1
    by true e = omega (arith, some, one_weighs left_in (rest_of piece (record { from = from; to = to })), fresh_size piece.spent (to - from) fresh)
    by false e = absurd (no e)
      where
        no : nat_lt from to ≡ false → ⊥
        no e = let past : to ≤ from = grind (arith, nat_tests) in omega (arith, past, some)

-- nothing where it would be empty
part_none : (piece : Piece) (from to : ℕ) → to ≤ from → sum_by left_in (part_of piece from to) ≡ 0
part_none piece from to none = by (nat_lt from to) refl
  where
    by : (t : Bool) → nat_lt from to ≡ t → sum_by left_in (cond t (rest_of piece (record { from = from; to = to }) ∷ []) []) ≡ 0
    by true e = absurd (no e)
      where
        no : nat_lt from to ≡ true → ⊥
        no e = let some : from < to = grind (arith, nat_tests) in omega (arith, some, none)
    by false e = refl

part_less : (piece : Piece) (from to : ℕ) → piece.spent ≡ None → from < to → sum_by left_in (part_of piece from to) + 1 ≤ 3 * (to - from)
part_less piece from to fresh some = omega (arith, part_left piece from to fresh some, some)

-- of several positions: one side of the position that is tried alone may be empty, and not both
cut_left : (piece : Piece) (q : ℕ) → piece.spent ≡ None → piece.range.from ≤ q → q < piece.range.to → piece.range.from + 1 < piece.range.to
    → sum_by left_in (cut_around piece q) < 3 * (piece.range.to - piece.range.from) - 1
cut_left piece q fresh low high long = elim (cases_lt piece.range.from q) [
  | inl some ↦ elim (cases_lt (q + 1) piece.range.to) [
    | inl more ↦ omega (arith, sums, part_less piece piece.range.from q fresh some, alone, part_less piece (q + 1) piece.range.to fresh more, low, high, some, more)
    | inr last ↦ omega (arith, sums, part_less piece piece.range.from q fresh some, alone, part_none piece (q + 1) piece.range.to last, low, high, some, last)
  ]
  | inr first ↦ omega (arith, sums, part_none piece piece.range.from q first, alone, part_less piece (q + 1) piece.range.to fresh (omega (arith, low, first, long)), low, high, first, long)
]
  where
    alone : sum_by left_in (part_of piece q (q + 1)) ≡ 3 * (q + 1 - q) - 1
    alone = part_left piece q (q + 1) fresh (omega arith)

    sums : sum_by left_in (cut_around piece q) ≡ sum_by left_in (part_of piece piece.range.from q) + (sum_by left_in (part_of piece q (q + 1)) + sum_by left_in (part_of piece (q + 1) piece.range.to))
    sums = omega (
      arith,
      sum_by-append left_in (part_of piece piece.range.from q) (part_of piece q (q + 1) ++ part_of piece (q + 1) piece.range.to),
      sum_by-append left_in (part_of piece q (q + 1)) (part_of piece (q + 1) piece.range.to),
    )

broken_left : (piece : Piece) (attempted : Option ℕ) (note : FaultNote) → piece.spent ≡ None → IsAttemptedWithin (Some (live.Span piece attempted)) → piece.range.from < piece.range.to
    → sum_by left_in (broken_parts piece attempted note) < left_in piece
broken_left piece attempted note fresh within some = by (nat_lt (piece.range.from + 1) piece.range.to) refl
  where
    whole : left_in piece ≡ max 1 (3 * (piece.range.to - piece.range.from) - 1)
    whole = fresh_size piece.spent (piece.range.to - piece.range.from) fresh

    by_offset : (inside : Bool) → nat_lt piece.range.from piece.range.to ≡ inside → sum_by left_in (cond inside (spent_piece piece note ∷ []) (rest_of piece piece.range ∷ [])) < left_in piece
    by_offset true e = omega (arith, whole, some, one_weighs left_in (spent_piece piece note))
    by_offset false e = absurd (no e)
      where
        no : nat_lt piece.range.from piece.range.to ≡ false → ⊥
        no e = let past : piece.range.to ≤ piece.range.from = grind (arith, nat_tests) in omega (arith, past, some)

    by : (long : Bool) → nat_lt (piece.range.from + 1) piece.range.to ≡ long
        → sum_by left_in (cond long (cut_around piece (blamed piece attempted)) (cond (nat_lt piece.range.from piece.range.to) (spent_piece piece note ∷ []) (rest_of piece piece.range ∷ []))) < left_in piece
    by true e =
        let more : piece.range.from + 1 < piece.range.to = grind (arith, nat_tests) in
        omega (arith, whole, cut_left piece (blamed piece attempted) fresh (blamed_from piece attempted within some) (blamed_below piece attempted some) more)
    by false e = by_offset (nat_lt piece.range.from piece.range.to) refl

-- pieces of one node weigh there what is left of them, and nothing elsewhere
of_node : (node m : ℕ) (pieces : List Piece) → All (λ (piece : Piece). piece.node ≡ node) pieces → sum_by (at_node m) pieces ≡ cond (node == m) (sum_by left_in pieces) 0
unfolding at_node
of_node node m [] h = by (node == m)
  where
    by : (t : Bool) → 0 ≡ cond {A = ℕ} t 0 0
    by true = refl
    by false = refl
of_node node m (piece ∷ pieces) h =
    by (node == m) (ap (λ (n : ℕ). n == m) (All-head (λ (p : Piece). p.node ≡ node) piece pieces h)) (of_node node m pieces (All-tail (λ (p : Piece). p.node ≡ node) piece pieces h))
  where
    by : (t : Bool) → (piece.node == m) ≡ t → sum_by (at_node m) pieces ≡ cond t (sum_by left_in pieces) 0 → sum_by (at_node m) (piece ∷ pieces) ≡ cond t (sum_by left_in (piece ∷ pieces)) 0
    by true e rest =
        let here : cond (piece.node == m) (left_in piece) 0 ≡ left_in piece = ap (λ (t : Bool). cond {A = ℕ} t (left_in piece) 0) e in
        omega (arith, rest, here, sum_by-cons (at_node m) piece pieces, sum_by-cons left_in piece pieces)
    by false e rest =
        let here : cond (piece.node == m) (left_in piece) 0 ≡ 0 = ap (λ (t : Bool). cond {A = ℕ} t (left_in piece) 0) e in
        omega (arith, rest, here, sum_by-cons (at_node m) piece pieces)

-- ---- a range is broken

module _ (b : SeenBook) (slot : ℕ) (piece : Piece) (attempted : Option ℕ) (note : FaultNote) (sane : IsSane b) (works : IsWorking b slot (live.Span piece attempted)) where
  abbrev after : SeenBook
  after = broken b slot piece attempted note

  broken_at : (m : ℕ) → left_at after m + at_node m piece ≡ left_at b m + sum_by (at_node m) (broken_parts piece attempted note)
  broken_at m =
      omega (
        arith,
        left_at_weighs b m,
        left_at_weighs after m,
        piece_set_weighs (at_node m) b slot (Some (live.Span piece attempted)) None works,
        with_pieces_weight (at_node m) (broken_parts piece attempted note) b.pending,
        bag_count (λ (pane : HeldPane). pane.node == m) (held after) (held b) (back_moves b slot (live.Span piece attempted) 0 Call works),
        one_weighs (at_node m) piece,
      )

  break_lowers : piece.spent ≡ None → piece.range.from < piece.range.to → IsBelow (left after) (left b)
  unfolding at_node
  break_lowers fresh some =
      let parts = broken_parts piece attempted note in
      let within = All-slice_get IsAttemptedWithin b.slots slot (Some (live.Span piece attempted)) works sane.attempted in
      let nodes : All (λ (p : Piece). p.node ≡ piece.node) parts = broken_all (λ p. p.node ≡ piece.node) piece attempted note (λ from to low high. refl) (λ one. refl) in
      let less = broken_left piece attempted note fresh within some in
      lower_at b after piece.node refl (worked_placed b sane slot piece attempted works)
      (λ m low. omega (arith, broken_at m, of_node piece.node m parts nodes, other piece.node m (sum_by left_in parts) low, other piece.node m (left_in piece) low))
      (omega (arith, broken_at piece.node, of_node piece.node piece.node parts nodes, own piece.node (sum_by left_in parts), own piece.node (left_in piece), less))

-- ---- a fail

pub fail_lowers : (b : SeenBook) (slot at : ℕ) (job : Live) (cause : Cause) (t : Bool) → is_broken b job cause ≡ t → IsSane b → IsWorking b slot job → IsFresh job
    → (t ≡ true → HasOffsets job) → IsBelow (left (failed_where t b slot job at cause)) (left b)
fail_lowers b slot at job cause false e sane works fresh some = tried_lowers b slot at job cause sane.attempts sane.turns works fresh
fail_lowers b slot at (live.Span piece attempted) Call true e sane works fresh some =
    break_lowers b slot piece attempted (note_of (live.Span piece attempted) at Call) sane works fresh (some refl)
fail_lowers b slot at (live.Span piece attempted) Read true e sane works fresh some = absurd (never_read b piece attempted e)
fail_lowers b slot at (live.Batch batch) cause true e sane works fresh some = absurd (never_batch b batch cause e)
fail_lowers b slot at (live.Key turn) cause true e sane works fresh some = absurd (never_key b turn cause e)
