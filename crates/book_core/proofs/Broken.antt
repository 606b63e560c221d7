-- The parts of a range that is broken.
use Rattle.std.proofs.Common.{◌≡◌, ℕ, ◌+◌, ◌<◌, ◌≤◌, ◌&&◌, Bool, true, false, cond, List, [], ◌∷◌, ◌++◌, length, refl, length-append, arith}
use Rattle.std.specs.Prelude.{nat_lt, nat_le, Option, Some, None}
use Rattle.std.specs.List.{All}
use Rattle.std.proofs.lemmas.Bool.{and_parts}
use Rattle.std.proofs.lemmas.Bool.Decides.{nat_tests}
use Rattle.std.proofs.lemmas.List.Elements.{All-nil, All-cons, All-append, All-head, All-tail}
use Rattle.beam_values.specs.declared.fault.Cause.{Cause}
use Rattle.beam_values.specs.declared.fault.Cause.TheVariants.{Call, Read}
use Rattle.beam_values.specs.declared.fault.FaultNote.{FaultNote}
use Rattle.beam_values.specs.declared.piece.Piece.{Piece}
use Rattle.split_core.specs.Order.{with_piece, with_pieces}
use Rattle.split_core.proofs.Ordered.{All-with_piece}
use Rattle.stateful_core.specs.declared.key_job.KeyTurn.{KeyTurn}
use Rattle.book_core.specs.Book.{SeenBook, sets_aside}
use Rattle.book_core.specs.Changes.{blamed, broken_parts, cut_around, is_broken, part_of, rest_of, spent_piece}
use Rattle.book_core.specs.Facts.{IsAttemptedWithin}
use Rattle.book_core.specs.declared.live.Batch.{Batch}
use Rattle.book_core.specs.declared.live.Live.{Live}
use Rattle.book_core.specs.declared.live.Live.TheVariants as live

pub All-with_pieces : (P : Piece → Type 0) (pieces l : List Piece) → All P pieces → All P l → All P (with_pieces pieces l)
All-with_pieces P [] l h k = k
All-with_pieces P (piece ∷ pieces) l h k =
    All-with_pieces P pieces (with_piece piece l) (All-tail P piece pieces h) (All-with_piece P piece l (All-head P piece pieces h) k)

part_all : (P : Piece → Type 0) (piece : Piece) (from to : ℕ) → (from < to → P (rest_of piece (record { from = from; to = to }))) → All P (part_of piece from to)
part_all P piece from to one = by (nat_lt from to) refl
  where
    by : (b : Bool) → nat_lt from to ≡ b → All P (cond b (rest_of piece (record { from = from; to = to }) ∷ []) [])
    by true e = All-cons P (rest_of piece (record { from = from; to = to })) [] (one (grind (arith, nat_tests))) (All-nil P)
    by false e = All-nil P

pub blamed_below : (piece : Piece) (attempted : Option ℕ) → piece.range.from < piece.range.to → blamed piece attempted < piece.range.to
blamed_below piece None some = some
blamed_below piece (Some p) some = omega (arith, some)

pub blamed_from : (piece : Piece) (attempted : Option ℕ) → IsAttemptedWithin (Some (live.Span piece attempted)) → piece.range.from < piece.range.to → piece.range.from ≤ blamed piece attempted
blamed_from piece None h some = omega arith
blamed_from piece (Some p) h some = omega (arith, h, some)

-- a fact of each part, which lies in the range, and of the range where it is one position or none
pub broken_all : (P : Piece → Type 0) (piece : Piece) (attempted : Option ℕ) (note : FaultNote)
    → ((from to : ℕ) → (IsAttemptedWithin (Some (live.Span piece attempted)) → piece.range.from ≤ from) → to ≤ piece.range.to → P (rest_of piece (record { from = from; to = to })))
    → (piece.range.to ≡ piece.range.from + 1 → P (spent_piece piece note)) → All P (broken_parts piece attempted note)
broken_all P piece attempted note one spent = by (nat_lt (piece.range.from + 1) piece.range.to) refl
  where
    around : (q : ℕ) → (IsAttemptedWithin (Some (live.Span piece attempted)) → piece.range.from ≤ q) → q < piece.range.to → All P (cut_around piece q)
    around q low high =
        All-append P (part_of piece piece.range.from q) (part_of piece q (q + 1) ++ part_of piece (q + 1) piece.range.to)
        (part_all P piece piece.range.from q (λ h. one piece.range.from q (λ w. omega arith) (omega (arith, high))))
        (All-append P (part_of piece q (q + 1)) (part_of piece (q + 1) piece.range.to) (part_all P piece q (q + 1) (λ h. one q (q + 1) low (omega (arith, high))))
        (part_all P piece (q + 1) piece.range.to (λ h. one (q + 1) piece.range.to (λ w. omega (arith, low w)) (omega arith))))

    by_offset : (inside : Bool) → nat_lt (piece.range.from + 1) piece.range.to ≡ false → nat_lt piece.range.from piece.range.to ≡ inside
        → All P (cond inside (spent_piece piece note ∷ []) (rest_of piece piece.range ∷ []))
    by_offset true e f = All-cons P (spent_piece piece note) [] (spent (grind (arith, nat_tests))) (All-nil P)
    by_offset false e f = All-cons P (rest_of piece piece.range) [] (one piece.range.from piece.range.to (λ w. omega arith) (omega arith)) (All-nil P)

    by : (long : Bool) → nat_lt (piece.range.from + 1) piece.range.to ≡ long
        → All P (cond long (cut_around piece (blamed piece attempted)) (cond (nat_lt piece.range.from piece.range.to) (spent_piece piece note ∷ []) (rest_of piece piece.range ∷ [])))
    by true e =
        let some : piece.range.from < piece.range.to = grind (arith, nat_tests) in
        around (blamed piece attempted) (λ w. blamed_from piece attempted w some) (blamed_below piece attempted some)
    by false e = by_offset (nat_lt piece.range.from piece.range.to) e refl

-- what is broken is a range on which a call failed, at its limit, of a plan that goes on
no_and : (t : Bool) → (t && false) ≡ true → ⊥
no_and true e = cc
no_and false e = cc

pub never_batch : (b : SeenBook) (batch : Batch) (cause : Cause) → is_broken b (live.Batch batch) cause ≡ true → ⊥
never_batch b batch cause e = no_and (nat_le b.options.attempts (batch.attempts + 1)) e

pub never_key : (b : SeenBook) (turn : KeyTurn) (cause : Cause) → is_broken b (live.Key turn) cause ≡ true → ⊥
never_key b turn cause e = no_and (nat_le b.options.attempts (turn.attempts + 1)) e

pub never_read : (b : SeenBook) (piece : Piece) (attempted : Option ℕ) → is_broken b (live.Span piece attempted) Read ≡ true → ⊥
never_read b piece attempted e = no_and (nat_le b.options.attempts (piece.attempts + 1)) e

pub broken_is : (b : SeenBook) (piece : Piece) (attempted : Option ℕ) → is_broken b (live.Span piece attempted) Call ≡ true
    → (b.options.attempts ≤ piece.attempts + 1) × (sets_aside b.plan ≡ true)
broken_is b piece attempted e =
    let parts = and_parts (nat_le b.options.attempts (piece.attempts + 1)) (sets_aside b.plan) e in
    (at_limit b.options.attempts (piece.attempts + 1) parts.0, parts.1)
  where
    at_limit : (a c : ℕ) → nat_le a c ≡ true → a ≤ c
    at_limit a c h = grind (arith, nat_tests)

-- there is a part
pub broken_some : (piece : Piece) (attempted : Option ℕ) (note : FaultNote) → 1 ≤ length (broken_parts piece attempted note)
broken_some piece attempted note = by (nat_lt (piece.range.from + 1) piece.range.to)
  where
    by_offset : (inside : Bool) → 1 ≤ length (cond inside (spent_piece piece note ∷ []) (rest_of piece piece.range ∷ []))
    by_offset true = omega arith
    by_offset false = omega arith

    one : (q : ℕ) → 1 ≤ length (part_of piece q (q + 1))
    one q = by_test (nat_lt q (q + 1)) refl
      where
        by_test : (t : Bool) → nat_lt q (q + 1) ≡ t → 1 ≤ length (cond t (rest_of piece (record { from = q; to = q + 1 }) ∷ []) [])
        by_test true e = omega arith
        by_test false e = absurd (no e)
          where
            no : nat_lt q (q + 1) ≡ false → ⊥
            no e = let past : q + 1 ≤ q = grind (arith, nat_tests) in omega (arith, past)

    around : (q : ℕ) → 1 ≤ length (cut_around piece q)
    around q = omega (
      arith,
      one q,
      length-append (part_of piece piece.range.from q) (part_of piece q (q + 1) ++ part_of piece (q + 1) piece.range.to),
      length-append (part_of piece q (q + 1)) (part_of piece (q + 1) piece.range.to),
    )

    by : (long : Bool) → 1 ≤ length (cond long (cut_around piece (blamed piece attempted)) (cond (nat_lt piece.range.from piece.range.to) (spent_piece piece note ∷ []) (rest_of piece piece.range ∷ [])))
    by true = around (blamed piece attempted)
    by false = by_offset (nat_lt piece.range.from piece.range.to)

-- there are three parts at most
pub broken_few : (piece : Piece) (attempted : Option ℕ) (note : FaultNote) → length (broken_parts piece attempted note) ≤ 3
broken_few piece attempted note = by (nat_lt (piece.range.from + 1) piece.range.to)
  where
    by_offset : (inside : Bool) → length (cond inside (spent_piece piece note ∷ []) (rest_of piece piece.range ∷ [])) ≤ 3
    by_offset true = omega arith
    by_offset false = omega arith

    one : (from to : ℕ) → length (part_of piece from to) ≤ 1
    one from to = by_test (nat_lt from to)
      where
        by_test : (t : Bool) → length (cond t (rest_of piece (record { from = from; to = to }) ∷ []) []) ≤ 1
        by_test true = omega arith
        by_test false = omega arith

    around : (q : ℕ) → length (cut_around piece q) ≤ 3
    around q = omega (
      arith,
      length-append (part_of piece piece.range.from q) (part_of piece q (q + 1) ++ part_of piece (q + 1) piece.range.to),
      length-append (part_of piece q (q + 1)) (part_of piece (q + 1) piece.range.to),
      one piece.range.from q,
      one q (q + 1),
      one (q + 1) piece.range.to,
    )

    by : (long : Bool) → length (cond long (cut_around piece (blamed piece attempted)) (cond (nat_lt piece.range.from piece.range.to) (spent_piece piece note ∷ []) (rest_of piece piece.range ∷ []))) ≤ 3
    by true = around (blamed piece attempted)
    by false = by_offset (nat_lt piece.range.from piece.range.to)

-- what can't be read is given back
pub read_tries : (b : SeenBook) (job : Live) → is_broken b job Read ≡ false
read_tries b (live.Span piece attempted) = by (nat_le b.options.attempts (piece.attempts + 1))
  where
    by : (t : Bool) → (t && false) ≡ false
    by true = refl
    by false = refl
read_tries b (live.Batch batch) = by (nat_le b.options.attempts (batch.attempts + 1))
  where
    by : (t : Bool) → (t && false) ≡ false
    by true = refl
    by false = refl
read_tries b (live.Key turn) = by (nat_le b.options.attempts (turn.attempts + 1))
  where
    by : (t : Bool) → (t && false) ≡ false
    by true = refl
    by false = refl
