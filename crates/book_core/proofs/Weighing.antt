-- What the pieces of a book weigh together, pending, live and done, by any weight that looks only at where their offsets are.
use Rattle.std.proofs.Common.{◌≡◌, ℕ, ◌+◌, ◌≤◌, Bool, true, false, cond, List, [], ◌∷◌, refl, ◌∙◌, arith}
use Rattle.std.specs.Prelude.{◌==◌, ◌&&◌}
use Rattle.std.specs.List.{sum_by}
use Rattle.std.specs.Ordering.{is_lt}
use Rattle.std.proofs.lemmas.Bool.Decides.{nat_tests}
use Rattle.std.proofs.lemmas.List.Sums.{sum_by-cons}
use Rattle.beam_values.specs.Cover.{Place, times_at, times_done, times_pending}
use Rattle.beam_values.specs.Intervals.{times_in}
use Rattle.beam_values.specs.declared.piece.Done.{Done}
use Rattle.beam_values.specs.declared.piece.Piece.{Piece}
use Rattle.split_core.specs.Order.{with_piece, with_pieces}
use Rattle.split_core.proofs.Ordered.{bag_with_piece}
use Rattle.book_core.specs.Changes.{with_done, done_cmp}

-- a piece at a place
abbrev pub piece_at : Place → Piece → ℕ
piece_at place piece = times_at piece.node piece.item piece.range place

pub with_piece_weighs : (place : Place) (piece : Piece) (pending : List Piece) → times_pending (with_piece piece pending) place ≡ piece_at place piece + times_pending pending place
with_piece_weighs place piece pending = (bag_with_piece piece pending).weighs (piece_at place) ∙ sum_by-cons (piece_at place) piece pending

abbrev done_at : Place → Done → ℕ
done_at place d = times_at d.node d.item d.range place

with_done_step : (place : Place) (new d : Done) (done : List Done) (b : Bool) → sum_by (done_at place) (with_done new done) ≡ done_at place new + sum_by (done_at place) done
    → sum_by (done_at place) (cond b (d ∷ with_done new done) (new ∷ d ∷ done)) ≡ done_at place new + sum_by (done_at place) (d ∷ done)
with_done_step place new d done true h = omega (arith, h, sum_by-cons (done_at place) d (with_done new done), sum_by-cons (done_at place) d done)
with_done_step place new d done false h = sum_by-cons (done_at place) new (d ∷ done)

pub with_done_weighs : (place : Place) (new : Done) (done : List Done) → times_done (with_done new done) place ≡ times_at new.node new.item new.range place + times_done done place
with_done_weighs place new [] = sum_by-cons (done_at place) new []
with_done_weighs place new (d ∷ done) = with_done_step place new d done (is_lt (done_cmp d new)) (with_done_weighs place new done)

-- ---- a range is cut in two

two_parts : (from at to p : ℕ) → from ≤ at → at ≤ to
    → times_in (record { from = from; to = to }) p ≡ times_in (record { from = from; to = at }) p + times_in (record { from = at; to = to }) p
two_parts from at to p a b = grind (arith, nat_tests)

here_or_not : (here : Bool) (a b c : ℕ) → a ≡ b + c → cond here a 0 ≡ cond here b 0 + cond here c 0
here_or_not true a b c h = h
here_or_not false a b c h = refl

pub cut_weighs : (node item from at to : ℕ) (place : Place) → from ≤ at → at ≤ to
    → times_at node item (record { from = from; to = to }) place
    ≡ times_at node item (record { from = from; to = at }) place + times_at node item (record { from = at; to = to }) place
cut_weighs node item from at to place a b =
    here_or_not (node == place.node && item == place.item) _ _ _ (two_parts from at to place.offset a b)

-- nothing lies in a range that ends where it begins or before
no_part : (from to p : ℕ) → to ≤ from → times_in (record { from = from; to = to }) p ≡ 0
no_part from to p h = grind (arith, nat_tests)

none_or_not : (here : Bool) (a : ℕ) → a ≡ 0 → cond here a 0 ≡ 0
none_or_not true a h = h
none_or_not false a h = refl

pub empty_weighs : (node item from to : ℕ) (place : Place) → to ≤ from → times_at node item (record { from = from; to = to }) place ≡ 0
empty_weighs node item from to place h = none_or_not (node == place.node && item == place.item) _ (no_part from to place.offset h)

-- ---- first pieces

pub with_pieces_weigh : (place : Place) (pieces pending : List Piece) → times_pending (with_pieces pieces pending) place ≡ times_pending pieces place + times_pending pending place
with_pieces_weigh place [] pending = omega arith
with_pieces_weigh place (piece ∷ pieces) pending =
    omega (arith, with_pieces_weigh place pieces (with_piece piece pending), with_piece_weighs place piece pending, sum_by-cons (piece_at place) piece pieces)
