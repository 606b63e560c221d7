-- What holds the nodes of a book back, by weight: of its pieces, its waiting panes, the batches that were given back, and what its slots work.
use Rattle.std.proofs.Common.{◌≡◌, ℕ, ◌+◌, List, [], ◌∷◌, ◌++◌, map, ◌∙◌, arith}
use Rattle.std.specs.Prelude.{slice_get, ◌==◌, Option, Some, None}
use Rattle.std.specs.List.{sum_by, flat_map, filter}
use Rattle.std.proofs.lemmas.List.Sums.{sum_by-cons, sum_by-append}
use Rattle.beam_values.specs.Bags.{IsSameBag}
use Rattle.beam_values.proofs.Bags.{bag_trans, sum_by-map, sum_by-flat_map, bag_map, bag_filter}
use Rattle.beam_values.specs.declared.piece.Piece.{Piece}
use Rattle.beam_model.specs.Holds.{Hold, piece_hold, marks_held}
use Rattle.split_core.specs.Order.{with_piece}
use Rattle.split_core.proofs.Ordered.{bag_with_piece}
use Rattle.watermarks.specs.Holds.{SeenHolds}
use Rattle.book_core.specs.Book.{SeenBook, HeldPane, piece_of, batch_of, live_pieces, live_batches, held_in, held, queued, hold_of}
use Rattle.book_core.specs.Changes.{with_slot, split_off, cut_to, rest_of}
use Rattle.book_core.specs.Indexes.{marks_in, AreHeldIn, own_holds}
use Rattle.book_core.specs.declared.live.Batch.{Batch}
use Rattle.book_core.specs.declared.live.Live.{Live}
use Rattle.book_core.specs.declared.live.Live.TheVariants as live
use Rattle.book_core.proofs.Slots.{set_weighs}
use Rattle.beam_values.specs.declared.plan.Plan.{Plan}

pub bag_held : (held : List SeenHolds) (xs ys : List Hold) → IsSameBag xs ys → AreHeldIn held xs → AreHeldIn held ys
bag_held held xs ys bag h = record {
  each = λ n. bag_trans (marks_in held n) (marks_held xs n) (marks_held ys n) (h.each n)
      (bag_map (λ hold. hold.mark) (filter (λ hold. hold.node == n) xs) (filter (λ hold. hold.node == n) ys) (bag_filter (λ hold. hold.node == n) xs ys bag));
}

-- what a piece, a pane and a slot weigh
abbrev pub piece_weight : (Hold → ℕ) → Plan → Piece → ℕ
piece_weight w plan piece = w (piece_hold plan piece)

abbrev pub pane_weight : (Hold → ℕ) → HeldPane → ℕ
pane_weight w pane = w (hold_of pane)

abbrev pub batch_weight : (Hold → ℕ) → Batch → ℕ
batch_weight w batch = sum_by (pane_weight w) (held_in batch)

abbrev pub slot_weight : (Hold → ℕ) → Plan → Option Live → ℕ
slot_weight w plan slot = sum_by (piece_weight w plan) (piece_of slot) + sum_by (batch_weight w) (batch_of slot)

slots_weigh : (w : Hold → ℕ) (plan : Plan) (slots : List (Option Live))
    → sum_by (piece_weight w plan) (flat_map piece_of slots) + sum_by (batch_weight w) (flat_map batch_of slots) ≡ sum_by (slot_weight w plan) slots
slots_weigh w plan slots =
    omega (arith, sum_by-flat_map (piece_weight w plan) piece_of slots, sum_by-flat_map (batch_weight w) batch_of slots, both slots)
  where
    both : (xs : List (Option Live)) → sum_by (slot_weight w plan) xs
        ≡ sum_by (λ x. sum_by (piece_weight w plan) (piece_of x)) xs + sum_by (λ x. sum_by (batch_weight w) (batch_of x)) xs
    both [] = omega arith
    both (x ∷ xs) = omega (
      arith,
      both xs,
      sum_by-cons (slot_weight w plan) x xs,
      sum_by-cons (λ x. sum_by (piece_weight w plan) (piece_of x)) x xs,
      sum_by-cons (λ x. sum_by (batch_weight w) (batch_of x)) x xs,
    )

pub all_weigh : (w : Hold → ℕ) (b : SeenBook) → sum_by w (own_holds b)
    ≡ sum_by (piece_weight w b.plan) b.pending + sum_by (pane_weight w) (queued b) + sum_by (batch_weight w) b.returned + sum_by (slot_weight w b.plan) b.slots
all_weigh w b = omega (
  arith,
  sum_by-append w (map (piece_hold b.plan) (b.pending ++ live_pieces b)) (map hold_of (held b)),
  sum_by-map w (piece_hold b.plan) (b.pending ++ live_pieces b),
  sum_by-append (piece_weight w b.plan) b.pending (live_pieces b),
  sum_by-map w hold_of (held b),
  sum_by-append (pane_weight w) (queued b) (flat_map held_in b.returned ++ flat_map held_in (live_batches b)),
  sum_by-append (pane_weight w) (flat_map held_in b.returned) (flat_map held_in (live_batches b)),
  sum_by-flat_map (pane_weight w) held_in b.returned,
  sum_by-flat_map (pane_weight w) held_in (live_batches b),
  slots_weigh w b.plan b.slots,
)

-- a slot is set to what holds as much
pub set_holds : (b : SeenBook) (slot : ℕ) (old new : Option Live) → slice_get b.slots slot ≡ Some old
    → ((w : Hold → ℕ) → slot_weight w b.plan new ≡ slot_weight w b.plan old) → IsSameBag (own_holds b) (own_holds (with_slot b slot new))
set_holds b slot old new at same = record {
  weighs = λ w. omega (arith, all_weigh w b, all_weigh w (with_slot b slot new), set_weighs (slot_weight w b.plan) b.slots slot old new at, same w);
}

pub enroll_holds : (b : SeenBook) → IsSameBag (own_holds b) (own_holds (record b { slots = b.slots ++ None ∷ [] }))
enroll_holds b = record {
  weighs = λ w. omega (
    arith,
    all_weigh w b,
    all_weigh w (record b { slots = b.slots ++ None ∷ [] }),
    sum_by-append (slot_weight w b.plan) b.slots (None ∷ []),
    sum_by-cons (slot_weight w b.plan) None [],
  );
}

with_piece_weight : (w : Hold → ℕ) (plan : Plan) (piece : Piece) (pending : List Piece)
    → sum_by (piece_weight w plan) (with_piece piece pending) ≡ piece_weight w plan piece + sum_by (piece_weight w plan) pending
with_piece_weight w plan piece pending = (bag_with_piece piece pending).weighs (piece_weight w plan) ∙ sum_by-cons (piece_weight w plan) piece pending

-- a split adds the hold of its piece once more
pub split_holds : (b : SeenBook) (slot : ℕ) (piece : Piece) (attempted : Option ℕ) (at : ℕ) → slice_get b.slots slot ≡ Some (Some (live.Span piece attempted))
    → IsSameBag (piece_hold b.plan piece ∷ own_holds b) (own_holds (split_off b slot piece attempted at))
split_holds b slot piece attempted at works = record {
  weighs = λ w. omega (
    arith,
    sum_by-cons w (piece_hold b.plan piece) (own_holds b),
    all_weigh w b,
    all_weigh w (split_off b slot piece attempted at),
    with_piece_weight w b.plan (rest_of piece (record { from = at; to = piece.range.to })) b.pending,
    set_weighs (slot_weight w b.plan) b.slots slot (Some (live.Span piece attempted)) (Some (live.Span (cut_to piece (record { from = piece.range.from; to = at })) attempted)) works,
  );
}

-- of what holds the book back one is the hold of a piece that a slot works
pub free_holds : (b : SeenBook) (slot : ℕ) (piece : Piece) (attempted : Option ℕ) → slice_get b.slots slot ≡ Some (Some (live.Span piece attempted))
    → IsSameBag (own_holds b) (piece_hold b.plan piece ∷ own_holds (with_slot b slot None))
free_holds b slot piece attempted works = record {
  weighs = λ w. omega (
    arith,
    sum_by-cons w (piece_hold b.plan piece) (own_holds (with_slot b slot None)),
    sum_by-cons (piece_weight w b.plan) piece [],
    all_weigh w b,
    all_weigh w (with_slot b slot None),
    set_weighs (slot_weight w b.plan) b.slots slot (Some (live.Span piece attempted)) None works,
  );
}
