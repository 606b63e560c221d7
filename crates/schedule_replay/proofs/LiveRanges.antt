-- The ranges that slots work, slot by slot.
use Rattle.std.proofs.Common.{◌≡◌, ℕ, ◌+◌, ◌<◌, ◌≤◌, List, [], ◌∷◌, ◌++◌, length, get_or, map, take, refl, sym, ap, ◌∙◌}
use Rattle.std.specs.Prelude.{Option, Some, None}
use Rattle.std.specs.List.{flat_map, sum_by}
use Rattle.std.specs.List.Sorted.{IsPermutation}
use Rattle.std.proofs.lemmas.List.{append-nil, map-append, take_all, take_more}
use Rattle.std.proofs.lemmas.List.Concat.{flat_map-append}
use Rattle.std.proofs.lemmas.List.Sorted.{sum_by-IsPermutation}
use Rattle.std.proofs.lemmas.Option.{slice_get-get_or}
use Rattle.beam_values.specs.Bags.{IsSameBag}
use Rattle.beam_values.specs.declared.piece.Done.{Done}
use Rattle.beam_values.specs.declared.piece.Piece.{Piece}
use Rattle.book_core.specs.Book.{SeenBook, live_pieces, piece_of, slot_at}
use Rattle.book_core.specs.Calls.{live_piece, piece_in}
use Rattle.book_core.specs.declared.live.Live.{Live}
use Rattle.book_core.specs.declared.live.Live.TheVariants as live
use Rattle.schedule_replay.specs.Replays.{as_done}

-- those of the slots below this one
abbrev pub live_below : SeenBook → ℕ → List Done
live_below b slot = map as_done (flat_map piece_of (take slot b.slots))

-- ---- one more slot

piece_shown : (slot : Option Live) (piece : Piece) → piece_in (Some slot) ≡ Some piece → piece_of slot ≡ piece ∷ []
piece_shown None piece is = absurd (cc)
piece_shown (Some (live.Span other attempted)) piece is = let same : other ≡ piece = cc in ap (λ (p : Piece). p ∷ []) same
piece_shown (Some (live.Batch batch)) piece is = absurd (cc)
piece_shown (Some (live.Key turn)) piece is = absurd (cc)

none_shown : (slot : Option Live) → piece_in (Some slot) ≡ None → piece_of slot ≡ []
none_shown None is = refl
none_shown (Some (live.Span other attempted)) is = absurd (cc)
none_shown (Some (live.Batch batch)) is = refl
none_shown (Some (live.Key turn)) is = refl

module _ (b : SeenBook) (slot : ℕ) (inside : slot < length b.slots) where
  abbrev here : Option Live
  here = get_or b.slots slot None

  at_slot : slot_at b slot ≡ Some here
  at_slot = slice_get-get_or b.slots slot None inside

  below_more : (more : List Piece) → piece_of here ≡ more → live_below b (slot + 1) ≡ live_below b slot ++ map as_done more
  below_more more is =
      ap (λ (l : List (Option Live)). map as_done (flat_map piece_of l)) (take_more b.slots slot None inside)
      ∙ ap (map as_done) (flat_map-append piece_of (take slot b.slots) (here ∷ []) ∙ ap (λ (l : List Piece). flat_map piece_of (take slot b.slots) ++ l) (append-nil (piece_of here) ∙ is))
      ∙ map-append as_done (flat_map piece_of (take slot b.slots)) more

  -- it works a range
  pub below_some : (piece : Piece) → live_piece b slot ≡ Some piece → live_below b (slot + 1) ≡ live_below b slot ++ as_done piece ∷ []
  below_some piece is = below_more (piece ∷ []) (piece_shown here piece (ap piece_in (sym at_slot) ∙ is))

  -- or none
  pub below_none : live_piece b slot ≡ None → live_below b (slot + 1) ≡ live_below b slot
  below_none is = below_more [] (none_shown here (ap piece_in (sym at_slot) ∙ is)) ∙ append-nil (live_below b slot)

-- ---- all slots

below_all : (b : SeenBook) (slots : ℕ) → length b.slots ≤ slots → live_below b slots ≡ map as_done (live_pieces b)
below_all b slots all = ap (λ (l : List (Option Live)). map as_done (flat_map piece_of l)) (take_all slots b.slots all)

-- in another order
pub all_moved : (b : SeenBook) (slots : ℕ) (found moved : List Done) → length b.slots ≤ slots → found ≡ live_below b slots → IsPermutation found moved → IsSameBag moved (map as_done (live_pieces b))
all_moved b slots found moved all is permuted = record {
  weighs = λ w. sum_by-IsPermutation w found moved permuted ∙ ap (sum_by w) (is ∙ below_all b slots all);
}
