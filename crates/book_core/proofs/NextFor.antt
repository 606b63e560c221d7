-- The best of the slots so far, with one more slot.
use Rattle.std.proofs.Common.{◌≡◌, ◌⊎◌, inl, inr, ℕ, ◌+◌, ◌-◌, ◌≤◌, ◌<◌, Bool, true, false, cond, List, length, refl, ap, subst, ◌∙◌, arith}
use Rattle.std.specs.Prelude.{slice_get, nat_lt, Option, Some, None, MatchOption}
use Rattle.std.proofs.lemmas.Bool.Decides.{nat_tests}
use Rattle.std.proofs.lemmas.Option.{slice_get_within}
use Rattle.beam_values.specs.Tracking.{split_point_of}
use Rattle.beam_values.specs.declared.piece.Piece.{Piece}
use Rattle.book_core.specs.Book.{SeenBook, tracker_of}
use Rattle.book_core.specs.NextFor.{IsLeftOf, better_of, IsBestOf, IsMostOf}
use Rattle.book_core.specs.Steps.{left_behind, IsBefore, IsNextFor, WouldSplit}
use Rattle.book_core.specs.declared.live.Live.{Live}
use Rattle.book_core.specs.declared.live.Live.TheVariants as live

abbrev pub IsLeft : List (Option Live) → ℕ → Option ℕ → Type 0
IsLeft slots slot None = (piece : Piece) (attempted : Option ℕ) → slice_get slots slot ≡ Some (Some (live.Span piece attempted)) → piece.spent ≡ None
    → piece.range.to ≤ split_point_of (tracker_of piece attempted) 1 2
IsLeft slots slot (Some left) = IsLeftOf slots slot left

-- a slot has so much left, and no other amount
same_left : (slots : List (Option Live)) (slot a b : ℕ) → IsLeftOf slots slot a → IsLeftOf slots slot b → a ≡ b
same_left slots slot a b h k =
    let at = h.works in
    let too = k.works in
    let piece_is : h.piece ≡ k.piece = cc in
    let attempted_is : h.attempted ≡ k.attempted = cc in
    let same : left_behind h.piece h.attempted ≡ left_behind k.piece k.attempted = ap (λ (p : Piece). left_behind p h.attempted) piece_is ∙ ap (left_behind k.piece) attempted_is in
    omega (arith, h.is, k.is, same)

none_left : (slots : List (Option Live)) (slot left : ℕ) → IsLeft slots slot None → IsLeftOf slots slot left → ⊥
none_left slots slot left h k = omega (arith, h k.piece k.attempted k.works k.fresh, k.splits)

below_or_at : (other count : ℕ) → other < count + 1 → (other < count) ⊎ (other ≡ count)
below_or_at other count h = grind arith

before_onward : (a i b j c k : ℕ) → IsBefore a i b j → IsBefore b j c k → IsBefore a i c k
before_onward a i b j c k (inl h) (inl l) = inl (omega arith)
before_onward a i b j c k (inl h) (inr l) = inl (omega arith)
before_onward a i b j c k (inr h) (inl l) = inl (omega arith)
before_onward a i b j c k (inr h) (inr l) = inr (omega arith, omega arith)

-- the slot itself is passed over
pub best_past : (slots : List (Option Live)) (slot : ℕ) (best : Option (ℕ × ℕ)) → IsBestOf slots slot slot best → IsBestOf slots slot (slot + 1) best
best_past slots slot None h = λ other left less ne k. elim (below_or_at other slot less) [ inl below ↦ h other left below ne k | inr at ↦ ne at ]
best_past slots slot (Some best) h =
    (h.0, omega (arith, h.1), h.2, λ other left less ne k. elim (below_or_at other slot less) [ inl below ↦ h.3 other left below ne k | inr at ↦ absurd (ne at) ])

none_more : (slots : List (Option Live)) (slot count : ℕ) (best : Option (ℕ × ℕ)) → IsLeft slots count None → IsBestOf slots slot count best → IsBestOf slots slot (count + 1) best
none_more slots slot count None none h = λ other left less ne k. elim (below_or_at other count less) [
  | inl below ↦ h other left below ne k
  | inr at ↦ none_left slots count left none (subst (λ (n : ℕ). IsLeftOf slots n left) at k)
]
none_more slots slot count (Some best) none h = (
  h.0,
  omega (arith, h.1),
  h.2,
  λ other left less ne k. elim (below_or_at other count less) [
    | inl below ↦ h.3 other left below ne k
    | inr at ↦ absurd (none_left slots count left none (subst (λ (n : ℕ). IsLeftOf slots n left) at k))
  ],
)

some_more : (slots : List (Option Live)) (slot count most chosen left : ℕ) (t : Bool) → nat_lt most left ≡ t → (count ≡ slot → ⊥) → IsLeftOf slots count left
    → IsBestOf slots slot count (Some (chosen, most)) → IsBestOf slots slot (count + 1) (cond t (Some (count, left)) (Some (chosen, most)))
some_more slots slot count most chosen left true e ne here h =
    let more : most < left = grind (arith, nat_tests) in (
      ne,
      omega arith,
      here,
      λ other rest less apart k. elim (below_or_at other count less) [
        | inl below ↦ before_onward left count most chosen rest other (inl more) (h.3 other rest below apart k)
        | inr at ↦ inr (same_left slots count left rest here (subst (λ (n : ℕ). IsLeftOf slots n rest) at k), omega (arith, at))
      ],
    )
some_more slots slot count most chosen left false e ne here h =
    let fewer : left ≤ most = grind (arith, nat_tests) in (
      h.0,
      omega (arith, h.1),
      h.2,
      λ other rest less apart k. elim (below_or_at other count less) [
        | inl below ↦ h.3 other rest below apart k
        | inr at ↦
            let same : left ≡ rest = same_left slots count left rest here (subst (λ (n : ℕ). IsLeftOf slots n rest) at k) in
            let place : chosen < count = h.1 in
            by rest other same at place
      ],
    )
  where
    by : (rest other : ℕ) → left ≡ rest → other ≡ count → chosen < count → IsBefore most chosen rest other
    by rest other same at place = grind (arith, nat_tests)

pub best_more : (slots : List (Option Live)) (slot count : ℕ) (best : Option (ℕ × ℕ)) (left : Option ℕ) → (count ≡ slot → ⊥) → IsLeft slots count left
    → IsBestOf slots slot count best → IsBestOf slots slot (count + 1) (better_of best count left)
best_more slots slot count None None ne here h = none_more slots slot count None here h
best_more slots slot count (Some best) None ne here h = none_more slots slot count (Some best) here h
best_more slots slot count None (Some left) ne here h = (
  ne,
  omega arith,
  here,
  λ other rest less apart k. elim (below_or_at other count less) [
    | inl below ↦ absurd (h other rest below apart k)
    | inr at ↦ inr (same_left slots count left rest here (subst (λ (n : ℕ). IsLeftOf slots n rest) at k), omega (arith, at))
  ],
)
best_more slots slot count (Some best) (Some left) ne here h = some_more slots slot count best.1 best.0 left (nat_lt best.1 left) refl ne here h

-- ---- the answer

left_of : (piece : Piece) (attempted : Option ℕ) → split_point_of (tracker_of piece attempted) 1 2 < piece.range.to → (left_behind piece attempted - 1) + 1 ≡ left_behind piece attempted
left_of piece None h = omega (arith, h)
left_of piece (Some p) h = omega (arith, h)

would_left : (b : SeenBook) (slot : ℕ) (piece : Piece) (attempted : Option ℕ) → WouldSplit b slot piece attempted → IsLeftOf b.slots slot (left_behind piece attempted - 1)
would_left b slot piece attempted h = record { piece = piece; attempted = attempted; works = h.works.works; fresh = h.works.fresh; splits = h.splits; is = left_of piece attempted h.splits }

left_would : (b : SeenBook) (slot left : ℕ) (h : IsLeftOf b.slots slot left) → WouldSplit b slot h.piece h.attempted
left_would b slot left h = record { works = record { works = h.works; fresh = h.fresh }; splits = h.splits }

slot_below : (b : SeenBook) (slot : ℕ) (piece : Piece) (attempted : Option ℕ) → WouldSplit b slot piece attempted → slot < length b.slots
slot_below b slot piece attempted h = slice_get_within b.slots slot (Some (live.Span piece attempted)) h.works.works

before_of : (a i b j most left : ℕ) → most + 1 ≡ a → left + 1 ≡ b → IsBefore most i left j → IsBefore a i b j
before_of a i b j most left e f (inl h) = inl (omega (arith, e, f, h))
before_of a i b j most left e f (inr h) = inr (omega (arith, e, f, h.0), h.1)

pub next_is : (b : SeenBook) (slot : ℕ) (result : Option ℕ) → IsMostOf b.slots slot (length b.slots) result → IsNextFor b slot result
next_is b slot None h = λ other piece attempted ne would. h other (left_behind piece attempted - 1) (slot_below b other piece attempted would) ne (would_left b other piece attempted would)
next_is b slot (Some chosen) h =
    let best = h.1 in
    record {
      another = best.0;
      piece = best.2.piece;
      attempted = best.2.attempted;
      would = left_would b chosen h.0 best.2;
      most = λ other third last ne would.
          before_of (left_behind best.2.piece best.2.attempted) chosen (left_behind third last) other h.0 (left_behind third last - 1) best.2.is (left_of third last would.splits)
          (best.3 other (left_behind third last - 1) (slot_below b other third last would) ne (would_left b other third last would));
    }

pub left_from : (slots : List (Option Live)) (slot : ℕ) (left : Option ℕ)
    → MatchOption left
    ((piece : Piece) (attempted : Option ℕ) → slice_get slots slot ≡ Some (Some (live.Span piece attempted)) → piece.spent ≡ None → piece.range.to ≤ split_point_of (tracker_of piece attempted) 1 2)
    (IsLeftOf slots slot)
    → IsLeft slots slot left
left_from slots slot None h = h
left_from slots slot (Some left) h = h

pub best_at : (slots : List (Option Live)) (slot count end : ℕ) (best : Option (ℕ × ℕ)) (chosen most : ℕ) → count ≡ end → best ≡ Some (chosen, most) → IsBestOf slots slot count best
    → IsMostOf slots slot end (Some chosen)
best_at slots slot count end best chosen most e f h =
    (most, subst (λ (n : ℕ). IsBestOf slots slot n (Some (chosen, most))) e (subst (IsBestOf slots slot count) f h))
