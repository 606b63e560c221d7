-- The first pieces of an item: they ascend, and hold each of its offsets once.
use Rattle.std.proofs.Common.{◌≡◌, ◌⊎◌, inl, inr, ℕ, zero, suc, ◌+◌, ◌*◌, ◌/◌, ◌%◌, ◌<◌, ◌≤◌, min, Bool, true, false, cond, ◌&&◌, ◌==◌, List, [], ◌∷◌, ◌++◌, map, refl, sym, ap, ◌∙◌, arith}
use Rattle.std.specs.declared.cmp.Ordering.{Ordering}
use Rattle.std.specs.declared.cmp.Ordering.TheVariants.{Less, Equal}
use Rattle.std.specs.Ordering.{is_lt, ordering_then}
use Rattle.std.specs.Int.{div_ceil}
use Rattle.std.specs.List.{All}
use Rattle.std.proofs.lemmas.Bool.{cases_lt}
use Rattle.std.proofs.lemmas.Bool.Decides.{nat_tests}
use Rattle.std.proofs.lemmas.Cmp.{nat_cmp_total, tied_itself}
use Rattle.std.proofs.lemmas.List.{map-append}
use Rattle.std.proofs.lemmas.List.Sums.{sum_by_push}
use Rattle.std.proofs.Math.Nat.{mul-le-mul_right}
use Rattle.beam_values.specs.Cover.{Place, times_at, times_pending, whole}
use Rattle.beam_values.specs.Intervals.{times_in}
use Rattle.beam_values.specs.Lines.{offsets}
use Rattle.beam_values.specs.declared.piece.Piece.{Piece}
use Rattle.split_core.specs.Order.{is_lower, with_piece, with_pieces, first_piece, first_pieces}
use Rattle.split_core.proofs.Ordered.{nat_less, with_pieces-more, with_piece-behind}

offsets-more : (from n : ℕ) → offsets from (suc n) ≡ offsets from n ++ (from + n) ∷ []
unfolding offsets
offsets-more from zero = let e : from ≡ from + 0 = omega arith in ap (λ k. k ∷ []) e
offsets-more from (suc n) =
    let e : suc from + n ≡ from + suc n = omega arith in
    ap (λ t. from ∷ t) (offsets-more (suc from) n) ∙ ap (λ k. from ∷ (offsets (suc from) n ++ k ∷ [])) e

offsets-none : (from : ℕ) → offsets from 0 ≡ []
unfolding offsets
offsets-none from = refl

lt_third : (a b c d : Ordering) → a ≡ Equal → b ≡ Equal → c ≡ Less → is_lt (ordering_then a (ordering_then b (ordering_then c d))) ≡ true
lt_third a b c d e f g =
    ap (λ o. is_lt (ordering_then o (ordering_then b (ordering_then c d)))) e
    ∙ ap (λ o. is_lt (ordering_then o (ordering_then c d))) f
    ∙ ap (λ o. is_lt (ordering_then o d)) g

ceil_reaches : (len chunk : ℕ) → 1 ≤ chunk → len ≤ div_ceil len chunk * chunk
ceil_reaches len chunk some = by_rest (cases_lt 0 (len % chunk))
  where
    by_rest : (0 < len % chunk) ⊎ (len % chunk ≤ 0) → len ≤ div_ceil len chunk * chunk
    by_rest (inl h) =
        let one : min 1 (len % chunk) ≡ 1 = omega arith in
        let count : div_ceil len chunk ≡ len / chunk + 1 = ap (λ m. len / chunk + m) one in
        let most : len ≤ (len / chunk + 1) * chunk = omega arith in
        rw count most
    by_rest (inr h) =
        let one : min 1 (len % chunk) ≡ 0 = omega arith in
        let count : div_ceil len chunk ≡ len / chunk + 0 = ap (λ m. len / chunk + m) one in
        let most : len ≤ (len / chunk + 0) * chunk = omega arith in
        rw count most

-- each chunk begins within the item
pub chunk_inside : (len chunk i : ℕ) → 1 ≤ chunk → i < div_ceil len chunk → i * chunk < len
chunk_inside len chunk i some below = by_rest (cases_lt 0 (len % chunk))
  where
    by_rest : (0 < len % chunk) ⊎ (len % chunk ≤ 0) → i * chunk < len
    by_rest (inl h) =
        let within : i ≤ len / chunk = omega arith in
        omega (arith, mul-le-mul_right chunk within)
    by_rest (inr h) =
        let within : i + 1 ≤ len / chunk = omega arith in
        omega (arith, mul-le-mul_right chunk within)

module _ (node item chunk len : ℕ) where
  abbrev pub some_pieces : ℕ → List Piece
  some_pieces n = map (first_piece node item chunk len) (offsets 0 n)

  some-more : (n : ℕ) → some_pieces (suc n) ≡ some_pieces n ++ first_piece node item chunk len n ∷ []
  some-more n =
      let e : 0 + n ≡ n = omega arith in
      ap (map (first_piece node item chunk len)) (offsets-more 0 n)
      ∙ map-append (first_piece node item chunk len) (offsets 0 n) ((0 + n) ∷ [])
      ∙ ap (λ k. some_pieces n ++ first_piece node item chunk len k ∷ []) e

  pub some-none : (l : List Piece) → with_pieces (some_pieces 0) l ≡ l
  some-none l = ap (λ t. with_pieces (map (first_piece node item chunk len) t) l) (offsets-none 0)

  pub next_is_higher : 1 ≤ chunk → (i : ℕ) → is_lower (first_piece node item chunk len i) (first_piece node item chunk len (i + 1)) ≡ true
  next_is_higher some i =
      lt_third _ _ _ _ (tied_itself nat_cmp_total node) (tied_itself nat_cmp_total item) (nat_less (i * chunk) ((i + 1) * chunk) (omega arith))

  -- one more piece goes behind those that went behind lower ones
  pub step : (i : ℕ) (lower lower' items items' all : List Piece) → All (λ q. is_lower q (first_piece node item chunk len i) ≡ true) lower
      → lower ++ items ≡ with_pieces (some_pieces i) all
      → lower' ++ items' ≡ lower ++ with_piece (first_piece node item chunk len i) items
      → lower' ++ items' ≡ with_pieces (some_pieces (i + 1)) all
  step i lower lower' items items' all below before after =
      let piece = first_piece node item chunk len i in
      let one : suc i ≡ i + 1 = omega arith in
      after ∙ sym (with_piece-behind piece lower items below) ∙ ap (with_piece piece) before
      ∙ sym (ap (λ t. with_pieces t all) (some-more i) ∙ with_pieces-more (some_pieces i) piece all)
      ∙ ap (λ k. with_pieces (some_pieces k) all) one

  module _ (place : Place) where
    abbrev weight : Piece → ℕ
    weight piece = times_at piece.node piece.item piece.range place

    joined : (m n : ℕ) → m ≤ n
        → times_in (record { from = 0; to = min m len }) place.offset + times_in (record { from = m; to = min n len }) place.offset
        ≡ times_in (record { from = 0; to = min n len }) place.offset
    joined m n h = grind (arith, nat_tests)

    in_item : (t : Bool) (a b c : ℕ) → a + b ≡ c → cond t a 0 + cond t b 0 ≡ cond t c 0
    in_item true a b c h = h
    in_item false a b c h = refl

    nowhere : (t : Bool) (a : ℕ) → a ≡ 0 → 0 ≡ cond t a 0
    nowhere true a h = sym h
    nowhere false a h = refl

    some_times : (n : ℕ) → times_pending (some_pieces n) place ≡ times_at node item (record { from = 0; to = min (n * chunk) len }) place
    some_times zero =
        let empty : times_in (record { from = 0; to = min (0 * chunk) len }) place.offset ≡ 0 = grind (arith, nat_tests) in
        ap (λ t. times_pending (map (first_piece node item chunk len) t) place) (offsets-none 0) ∙ nowhere (node == place.node && item == place.item) _ empty
    some_times (suc n) =
        let piece = first_piece node item chunk len n in
        let one : n + 1 ≡ suc n = omega arith in
        ap (λ t. times_pending t place) (some-more n) ∙ sum_by_push weight (some_pieces n) piece
        ∙ ap (λ k. k + weight piece) (some_times n)
        ∙ in_item (node == place.node && item == place.item) _ _ _ (joined (n * chunk) ((n + 1) * chunk) (omega arith))
        ∙ ap (λ k. times_at node item (record { from = 0; to = min (k * chunk) len }) place) one

    -- the first pieces hold each offset of the item once
    pub first_times : 1 ≤ chunk → times_pending (first_pieces node item len chunk) place ≡ times_at node item (whole len) place
    first_times some =
        let all : min (div_ceil len chunk * chunk) len ≡ len = omega (arith, ceil_reaches len chunk some) in
        some_times (div_ceil len chunk) ∙ ap (λ k. times_at node item (record { from = 0; to = k }) place) all
