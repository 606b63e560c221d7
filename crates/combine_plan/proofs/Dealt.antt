-- Pieces cut from items, one item after another, and dealt to hands.
use Rattle.std.proofs.Common.{◌≡◌, ℕ, ◌+◌, ◌-◌, ◌<◌, ◌≤◌, Bool, true, false, List, [], ◌∷◌, ◌++◌, length, map, refl, sym, ap, ◌∙◌, get_or, set, arith}
use Rattle.std.specs.List.{list_any, sum_by, All, AllByRecursion}
use Rattle.std.proofs.lemmas.Bool.{eq-eqb, or_left, or_right}
use Rattle.std.proofs.lemmas.Bool.Decides.{nat_tests}
use Rattle.std.proofs.lemmas.List.Elements.{All-nil, All-cons}
use Rattle.std.proofs.lemmas.List.Sums.{sum_by-append, sum_by-cons, sum_by_push, sum_by-set}
use Rattle.std.proofs.lemmas.Option.{get_or_from_slice_get}
use Rattle.beam_values.specs.Bags.{IsSameBag}
use Rattle.beam_values.specs.Cover.{Place, times_at, times_done, times_listed, whole}
use Rattle.beam_values.specs.declared.piece.Done.{Done}
use Rattle.beam_values.specs.declared.piece.FileLen.{FileLen}
use Rattle.beam_values.specs.declared.piece.Piece.{Piece}
use Rattle.split_core.specs.Partition.{range_of}
use Rattle.combine_plan.specs.Dealing.{AreDealt, IsGiven, IsWithin, ranges_in}
use Rattle.known_jobs.specs.Calls.{holds_end}

-- ---- dealing

pub dealt_more : (at : ℕ) (piece : Piece) (pieces : List Piece) (hands more : List (List Piece)) → at < length hands → IsGiven at piece hands more → AreDealt pieces hands
    → AreDealt (pieces ++ piece ∷ []) more
dealt_more at piece pieces hands more within given dealt = record {
  weighs = λ weight.
      let weigh : List Piece → ℕ = λ hand. sum_by weight hand in
      let hand = given.hand in
      let there : weigh (get_or hands at hand) ≡ weigh hand = ap weigh (get_or_from_slice_get hands at hand hand given.there) in
      let put : sum_by weigh more ≡ sum_by weigh (set hands at (hand ++ piece ∷ [])) = ap (sum_by weigh) given.hands in
      omega (arith, dealt.weighs weight, there, put, sum_by-set weigh hands at (hand ++ piece ∷ []) hand within, sum_by_push weight hand piece, sum_by_push weight pieces piece);
}

-- the ranges of all hands are those of all pieces
pub dealt_ranges : (pieces : List Piece) (hands : List (List Piece)) → AreDealt pieces hands → IsSameBag (map range_of pieces) (ranges_in hands)
dealt_ranges pieces hands dealt = record { weighs = λ weight. ranges weight pieces ∙ sym (dealt.weighs (λ piece. weight (range_of piece))) ∙ sym (all weight hands) }
  where
    ranges : (weight : Done → ℕ) (pieces : List Piece) → sum_by weight (map range_of pieces) ≡ sum_by (λ piece. weight (range_of piece)) pieces
    ranges weight [] = refl
    ranges weight (piece ∷ pieces) =
        omega (arith, ranges weight pieces, sum_by-cons weight (range_of piece) (map range_of pieces), sum_by-cons (λ (p : Piece). weight (range_of p)) piece pieces)

    all : (weight : Done → ℕ) (hands : List (List Piece)) → sum_by weight (ranges_in hands) ≡ sum_by (λ hand. sum_by (λ piece. weight (range_of piece)) hand) hands
    all weight [] = refl
    all weight (hand ∷ hands) =
        omega (arith, sum_by-append weight (map range_of hand) (ranges_in hands), ranges weight hand, all weight hands, sum_by-cons (λ (h : List Piece). sum_by (λ p. weight (range_of p)) h) hand hands)

-- ---- where pieces lie

-- the last offset of a piece
last_of : Piece → Place
last_of piece = record { node = piece.node; item = piece.item; offset = piece.range.to - 1 }

holds_last : (piece : Piece) → piece.range.from < piece.range.to → times_at piece.node piece.item piece.range (last_of piece) ≡ 1
unfolding last_of
holds_last piece some =
    let node = eq-eqb piece.node piece.node refl in
    let item = eq-eqb piece.item piece.item refl in
    grind (arith, nat_tests)

-- an item that holds the last offset of a piece holds its end
item_holds : (piece : Piece) (file : FileLen) (rest : ℕ) → piece.range.from < piece.range.to → holds_end piece file ≡ false → 1 ≤ times_at file.node file.item (whole file.len) (last_of piece) + rest → 1 ≤ rest
unfolding last_of
item_holds piece file rest some fails held = grind (arith, nat_tests)

listed_within : (piece : Piece) (lengths : List FileLen) → piece.range.from < piece.range.to → 1 ≤ times_listed lengths (last_of piece) → list_any (holds_end piece) lengths ≡ true
listed_within piece [] some held = absurd (omega (arith, held))
listed_within piece (file ∷ lengths) some held = by (holds_end piece file) refl (listed_within piece lengths some)
  where
    more : times_listed (file ∷ lengths) (last_of piece) ≡ times_at file.node file.item (whole file.len) (last_of piece) + times_listed lengths (last_of piece)
    more = sum_by-cons (λ (f : FileLen). times_at f.node f.item (whole f.len) (last_of piece)) file lengths

    by : (t : Bool) → holds_end piece file ≡ t → (1 ≤ times_listed lengths (last_of piece) → list_any (holds_end piece) lengths ≡ true) → list_any (holds_end piece) (file ∷ lengths) ≡ true
    by true holds later = or_left (holds_end piece file) (list_any (holds_end piece) lengths) holds
    by false fails later = or_right (holds_end piece file) (list_any (holds_end piece) lengths) (later (item_holds piece file (times_listed lengths (last_of piece)) some fails (omega (arith, held, more))))

-- ranges that hold no place more often than it is listed lie in the items
module _ (lengths : List FileLen) where
  hand_within : (hand : List Piece) → ((place : Place) → times_done (map range_of hand) place ≤ times_listed lengths place) → All (IsWithin lengths) hand
  hand_within [] covered = All-nil (IsWithin lengths)
  hand_within (piece ∷ hand) covered =
      let more = λ (place : Place). sum_by-cons (λ (d : Done). times_at d.node d.item d.range place) (range_of piece) (map range_of hand) in
      All-cons (IsWithin lengths) piece hand
      (λ some. let at = last_of piece in listed_within piece lengths some (omega (arith, covered at, more at, holds_last piece some)))
      (hand_within hand (λ place. omega (arith, covered place, more place)))

  pub hands_within : (hands : List (List Piece)) → ((place : Place) → times_done (ranges_in hands) place ≤ times_listed lengths place) → AllByRecursion (All (IsWithin lengths)) hands
  hands_within [] covered = tt
  hands_within (hand ∷ hands) covered =
      let more = λ (place : Place). sum_by-append (λ (d : Done). times_at d.node d.item d.range place) (map range_of hand) (ranges_in hands) in
      (hand_within hand (λ place. omega (arith, covered place, more place)), hands_within hands (λ place. omega (arith, covered place, more place)))
