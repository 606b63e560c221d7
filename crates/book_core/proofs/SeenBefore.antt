-- Where the files are told, what was seen before a piece is the least time, or its estimator looked at it below the piece's start: every step keeps it.
use Rattle.std.proofs.Common.{◌≡◌, ◌⊎◌, inl, inr, ℕ, zero, suc, ◌+◌, ◌-◌, ◌<◌, ◌≤◌, ℤ, List, [], ◌∷◌, map, refl, sym, ap, subst, ◌∙◌, arith}
use Rattle.std.specs.Prelude.{Option, Some, None, fold}
use Rattle.std.specs.Int.{int_max}
use Rattle.std.specs.List.{Contains}
use Rattle.std.proofs.lemmas.Int.{ints, clamps, by_lt_z}
use Rattle.beam_values.specs.Lines.{offsets}
use Rattle.beam_values.specs.Marks.{later_of}
use Rattle.beam_values.specs.Times.{least_time}
use Rattle.beam_values.specs.declared.piece.Piece.{Piece}
use Rattle.beam_values.specs.declared.plan.Estimator.{Estimator}
use Rattle.beam_values.specs.declared.plan.Estimator.TheVariants as estimator
use Rattle.beam_model.specs.Estimators.{declared_marks, emission_at, observed_times, later_time, latest_time, seen_with}
use Rattle.beam_model.specs.Holds.{estimator_of}
use Rattle.beam_model.specs.Positions.{Emission, Emits, Poison, SourceItem, TimedValue}
use Rattle.bundle_commit.specs.declared.job.Receipt.{Receipt}
use Rattle.book_core.specs.Book.{SeenBook}
use Rattle.book_core.specs.Facts.{IsSeenBefore, IsSeenOf}
use Rattle.book_core.specs.Work.{IsWorkOnItem, seen_over}

-- ---- each time that an estimator has seen was there before, or is one that it looked at

has_first : (x : ℤ) (xs : List ℤ) → Contains (x ∷ xs) x
has_first x xs = (0, omega arith, refl)

has_later : (y : ℤ) (xs : List ℤ) (x : ℤ) → Contains xs x → Contains (y ∷ xs) x
has_later y xs x c = (suc c.0, omega (arith, c.1), c.2)

max_is : (a b : ℤ) → (int_max a b ≡ a) ⊎ (int_max a b ≡ b)
max_is a b = by_lt_z {P = (int_max a b ≡ a) ⊎ (int_max a b ≡ b)} a b (λ less. inr (omega (arith, ints, clamps, less))) (λ most. inl (omega (arith, ints, clamps, most)))

latest_has : (values : List TimedValue) (some : Option ℤ) (t : ℤ) → fold later_time some values ≡ Some t → (some ≡ Some t) ⊎ Contains (map (λ v. v.time) values) t
latest_has [] some t e = inl e
latest_has (v ∷ values) None t e = elim (latest_has values (Some v.time) t e) [
  | inl first ↦
      let same : v.time ≡ t = cc in
      inr (subst (Contains (v.time ∷ map (λ x. x.time) values)) same (has_first v.time (map (λ x. x.time) values)))
  | inr c ↦ inr (has_later v.time (map (λ x. x.time) values) t c)
]
latest_has (v ∷ values) (Some old) t e = elim (latest_has values (Some (int_max old v.time)) t e) [
  | inl first ↦
      let most : int_max old v.time ≡ t = cc in
      elim (max_is old v.time) [
        | inl kept ↦ inl (ap Some (sym kept ∙ most))
        | inr new ↦ inr (subst (Contains (v.time ∷ map (λ x. x.time) values)) (sym new ∙ most) (has_first v.time (map (λ x. x.time) values)))
      ]
  | inr c ↦ inr (has_later v.time (map (λ x. x.time) values) t c)
]

later_has : (seen : ℤ) (values : List TimedValue) (latest : Option ℤ) → latest_time values ≡ latest → (later_of seen latest ≡ seen) ⊎ Contains (map (λ v. v.time) values) (later_of seen latest)
later_has seen values None e = inl refl
later_has seen values (Some t) e =
    let there : Contains (map (λ v. v.time) values) t = elim (latest_has values None t e) [ inl none ↦ absurd (cc) | inr c ↦ c ] in
    elim (max_is seen t) [ inl kept ↦ inl kept | inr new ↦ inr (subst (Contains (map (λ v. v.time) values)) (sym new) there) ]

declared_has : (seen : ℤ) (declared : Option ℤ) → (later_of seen declared ≡ seen) ⊎ Contains (declared_marks declared) (later_of seen declared)
declared_has seen None = inl refl
declared_has seen (Some mark) = elim (max_is seen mark) [ inl kept ↦ inl kept | inr new ↦ inr (subst (Contains (mark ∷ [])) (sym new) (has_first mark [])) ]

with_has : (e : Estimator) (seen : ℤ) (emission : Emission) → (seen_with e seen emission ≡ seen) ⊎ Contains (observed_times e emission) (seen_with e seen emission)
with_has e seen Poison = inl refl
with_has estimator.None seen (Emits values declared) = inl refl
with_has estimator.Monotonic seen (Emits values declared) = later_has seen values (latest_time values) refl
with_has (estimator.Lag delay) seen (Emits values declared) = later_has seen values (latest_time values) refl
with_has estimator.Declared seen (Emits values declared) = declared_has seen declared

module _ (e : Estimator) (item : SourceItem) where
  -- at a position below this one
  abbrev IsLookedAt : ℕ → ℤ → Type 0
  IsLookedAt upto seen = (p : ℕ) × (p < upto) × Contains (observed_times e (emission_at item p)) seen

  abbrev fold_seen : ℤ → List ℕ → ℤ
  fold_seen seen ps = fold (λ before p. seen_with e before (emission_at item p)) seen ps

  fold_has : (count from : ℕ) (seen : ℤ) → (fold_seen seen (offsets from count) ≡ seen) ⊎ IsLookedAt (from + count) (fold_seen seen (offsets from count))
  unfolding offsets
  fold_has zero from seen = inl refl
  fold_has (suc count) from seen = by (with_has e seen (emission_at item from)) (fold_has count (suc from) (seen_with e seen (emission_at item from)))
    where
      by : (seen_with e seen (emission_at item from) ≡ seen) ⊎ Contains (observed_times e (emission_at item from)) (seen_with e seen (emission_at item from))
          → (fold_seen (seen_with e seen (emission_at item from)) (offsets (suc from) count) ≡ seen_with e seen (emission_at item from))
          ⊎ IsLookedAt (suc from + count) (fold_seen (seen_with e seen (emission_at item from)) (offsets (suc from) count))
          → (fold_seen (seen_with e seen (emission_at item from)) (offsets (suc from) count) ≡ seen)
          ⊎ IsLookedAt (from + suc count) (fold_seen (seen_with e seen (emission_at item from)) (offsets (suc from) count))
      by here (inr h) = inr (h.0, omega (arith, h.1), h.2)
      by (inl same) (inl kept) = inl (kept ∙ same)
      by (inr looked) (inl kept) = inr (from, omega arith, subst (Contains (observed_times e (emission_at item from))) (sym kept) looked)

  over_has : (from to : ℕ) (seen : ℤ) → from ≤ to → (seen_over e item from to seen ≡ seen) ⊎ IsLookedAt to (seen_over e item from to seen)
  over_has from to seen le = elim (fold_has (to - from) from seen) [ inl kept ↦ inl kept | inr h ↦ inr (h.0, omega (arith, h.1), h.2) ]

-- ---- of a piece, wherever its range is cut

module _ (b : SeenBook) where
  -- a later start, with what was seen before
  pub seen_cut : (found : Option SourceItem) (piece new : Piece) → new.node ≡ piece.node → new.seen ≡ piece.seen → piece.range.from ≤ new.range.from → IsSeenOf b found piece → IsSeenOf b found new
  seen_cut None piece new node seen later h = tt
  seen_cut (Some item) piece new node seen later (inl e) = inl (seen ∙ e)
  seen_cut (Some item) piece new node seen later (inr h) =
      inr (
        h.0,
        omega (arith, h.1, later),
        subst (λ (n : ℕ). Contains (observed_times (estimator_of b.plan n) (emission_at item h.0)) new.seen) (sym node)
            (subst (Contains (observed_times (estimator_of b.plan piece.node) (emission_at item h.0))) (sym seen) h.2),
      )

  pub seen_least : (found : Option SourceItem) (piece : Piece) → piece.seen ≡ least_time → IsSeenOf b found piece
  seen_least None piece e = tt
  seen_least (Some item) piece e = inl e

  -- what is left behind a bundle
  pub seen_left : (found : Option SourceItem) (piece : Piece) (upto : ℕ) (receipt : Receipt) → IsWorkOnItem b.plan piece upto found receipt → piece.range.from ≤ upto → IsSeenOf b found piece
      → IsSeenOf b found (record piece { range = record { from = upto; to = piece.range.to }; seen = receipt.seen; attempts = 0 })
  seen_left None piece upto receipt given above h = tt
  seen_left (Some item) piece upto receipt given above h = by h (over_has (estimator_of b.plan piece.node) item piece.range.from upto piece.seen above)
    where
      e : Estimator
      e = estimator_of b.plan piece.node

      by : IsSeenBefore b item piece
          → (seen_over (estimator_of b.plan piece.node) item piece.range.from upto piece.seen ≡ piece.seen)
          ⊎ IsLookedAt (estimator_of b.plan piece.node) item upto (seen_over (estimator_of b.plan piece.node) item piece.range.from upto piece.seen)
          → IsSeenBefore b item (record piece { range = record { from = upto; to = piece.range.to }; seen = receipt.seen; attempts = 0 })
      by was (inr looked) = inr (looked.0, looked.1, subst (Contains (observed_times (estimator_of b.plan piece.node) (emission_at item looked.0))) (sym given.seen) looked.2)
      by (inl least) (inl kept) = inl (given.seen ∙ kept ∙ least)
      by (inr looked) (inl kept) =
          inr (
            looked.0,
            omega (arith, looked.1, above),
            subst (Contains (observed_times (estimator_of b.plan piece.node) (emission_at item looked.0))) (sym (given.seen ∙ kept)) looked.2,
          )
