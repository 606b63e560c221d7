-- The parts of ranges hold what the ranges hold, sorted parts ascend, and so the test is exact.
use Rattle.std.proofs.Common.{◌≡◌, ℕ, suc, ◌+◌, ◌-◌, Bool, true, false, cond, nat_lt, List, [], ◌∷◌, ◌++◌, get_or, map, filter, flat_map, sum_by, refl, sym, subst, ◌∙◌, ltb-true, arith}
use Rattle.std.specs.Prelude.{if◌then◌else◌}
use Rattle.std.specs.Cmp.{IsTotalOrder}
use Rattle.std.specs.List.{All}
use Rattle.std.specs.List.Sorted.{IsPermutation, IsSorted}
use Rattle.std.specs.Ordering.{is_lt}
use Rattle.std.proofs.lemmas.Bool.Decides.{nat_tests}
use Rattle.std.proofs.lemmas.Cmp.{nat_cmp_total, on_total, then_total}
use Rattle.std.proofs.lemmas.List.Elements.{All-nil, All-append, All-cons, All-filter, All-map, filter_passes, All-weaker}
use Rattle.std.proofs.lemmas.List.Sorted.{All-permutation, ranks_by, sorted_far, sum_by-IsPermutation}
use Rattle.std.proofs.lemmas.List.Sums.{sum_by-append, sum_by-cons}
use Rattle.beam_values.specs.Cover.{Place, times_at, times_dead, times_done, times_listed, times_pending, single, whole}
use Rattle.beam_values.specs.Intervals.{Offsets}
use Rattle.beam_values.specs.declared.piece.Dead.{Dead}
use Rattle.beam_values.specs.declared.piece.Done.{Done}
use Rattle.beam_values.specs.declared.piece.FileLen.{FileLen}
use Rattle.beam_values.specs.declared.piece.Piece.{Piece}
use Rattle.piece_checks.specs.Parts.{all_parts, part_cmp, part_of_dead, parts_of_done, parts_of_piece, parts_of_range, times_part}
use Rattle.piece_checks.specs.Tiles.{fills, has_offsets, AreItemsAscending, AreTiled, IsItemBelow}
use Rattle.piece_checks.specs.declared.parts.Part.{Part}
use Rattle.piece_checks.proofs.PlaceOrder.{IsNoLater}
use Rattle.piece_checks.proofs.Filling.{times_parts, Ascend, HasOffsets, IsPart, alike_fills, fills_alike, from_start, start, within_first}

-- ---- parts hold what their ranges hold

range_times : (node item : ℕ) (range : Offsets) (place : Place) → times_parts (parts_of_range node item range) place ≡ times_at node item range place
range_times node item range place = grind (arith, nat_tests)

range_are : (node item : ℕ) (range : Offsets) → All IsPart (parts_of_range node item range)
range_are node item range = by (nat_lt range.from range.to) refl
  where
    by : (some : Bool) → nat_lt range.from range.to ≡ some
        → All IsPart (if some then (record { node = node; item = item; first = range.from; last = range.to - 1 }) ∷ [] else [])
    by true e = All-cons IsPart (record { node = node; item = item; first = range.from; last = range.to - 1 }) [] (omega (arith, ltb-true range.from range.to e)) (All-nil IsPart)
    by false e = All-nil IsPart

-- of a list of ranges
module _ {X : Type 0} (parts_of : X → List Part) where
  all_are : ((x : X) → All IsPart (parts_of x)) → (xs : List X) → All IsPart (flat_map parts_of xs)
  all_are each [] = All-nil IsPart
  all_are each (x ∷ xs) = All-append IsPart (parts_of x) (flat_map parts_of xs) (each x) (all_are each xs)

  all_times : (w : X → ℕ) (place : Place) → ((x : X) → times_parts (parts_of x) place ≡ w x) → (xs : List X) → times_parts (flat_map parts_of xs) place ≡ sum_by w xs
  all_times w place each [] = refl
  all_times w place each (x ∷ xs) =
      omega (
        arith,
        sum_by-append (λ p. times_part p place) (parts_of x) (flat_map parts_of xs),
        each x,
        all_times w place each xs,
        sum_by-cons w x xs,
      )

dead_times : (dead : List Dead) (place : Place) → times_parts (map part_of_dead dead) place ≡ times_dead dead place
dead_times [] place = refl
dead_times (d ∷ dead) place =
    omega (
      arith,
      sum_by-cons (λ p. times_part p place) (part_of_dead d) (map part_of_dead dead),
      sum_by-cons (λ x. times_at x.node x.item (single x.at) place) d dead,
      dead_times dead place,
    )

dead_are : (dead : List Dead) → All IsPart (map part_of_dead dead)
dead_are dead = All-map IsPart part_of_dead dead (λ k d below. omega arith)

all_parts_are : (pending : List Piece) (done : List Done) (dead : List Dead) → All IsPart (all_parts pending done dead)
all_parts_are pending done dead =
    All-append IsPart (flat_map parts_of_piece pending ++ flat_map parts_of_done done) (map part_of_dead dead)
    (All-append IsPart (flat_map parts_of_piece pending) (flat_map parts_of_done done)
    (all_are parts_of_piece (λ piece. range_are piece.node piece.item piece.range) pending)
    (all_are parts_of_done (λ d. range_are d.node d.item d.range) done))
    (dead_are dead)

all_parts_times : (pending : List Piece) (done : List Done) (dead : List Dead) (place : Place)
    → times_parts (all_parts pending done dead) place ≡ times_pending pending place + times_done done place + times_dead dead place
all_parts_times pending done dead place =
    let w : Part → ℕ = λ p. times_part p place in
    omega (
      arith,
      sum_by-append w (flat_map parts_of_piece pending ++ flat_map parts_of_done done) (map part_of_dead dead),
      sum_by-append w (flat_map parts_of_piece pending) (flat_map parts_of_done done),
      all_times parts_of_piece (λ piece. times_at piece.node piece.item piece.range place) place
          (λ piece. range_times piece.node piece.item piece.range place) pending,
      all_times parts_of_done (λ d. times_at d.node d.item d.range place) place (λ d. range_times d.node d.item d.range place) done,
      dead_times dead place,
    )

-- ---- sorted parts ascend

pub part_total : IsTotalOrder part_cmp
part_total =
    then_total (on_total (λ (p : Part). p.node) nat_cmp_total)
    (then_total (on_total (λ (p : Part). p.item) nat_cmp_total) (on_total (λ (p : Part). p.first) nat_cmp_total))

not_lower : (p q : Part) → is_lt (part_cmp q p) ≡ false → IsNoLater (start p) (start q)
not_lower p q e = record {
  node = grind (arith, nat_tests);
  item = λ n. grind (arith, nat_tests);
  offset = λ n i. grind (arith, nat_tests);
}

pub ascend_sorted : (parts : List Part) → IsSorted part_cmp parts → Ascend parts
ascend_sorted [] up = tt
ascend_sorted (part ∷ parts) up = (
  λ k d within.
      not_lower part (get_or parts k d)
      (sorted_far (λ a b. is_lt (part_cmp a b)) (ranks_by part_total (λ (p : Part). p)) (part ∷ parts) up 0 (suc k) d (omega arith) (omega arith)),
  ascend_sorted parts (λ k d low within.
      subst (λ n. is_lt (part_cmp (get_or (part ∷ parts) n d) (get_or parts k d)) ≡ false) (one_more k) (up (suc k) d (omega arith) (omega arith))),
)
  where
    one_more : (k : ℕ) → suc k + 1 ≡ suc (k + 1)
    one_more k = omega arith

-- ---- items without offsets hold nothing

nothing_held : (file : FileLen) (place : Place) → has_offsets file ≡ false → times_at file.node file.item (whole file.len) place ≡ 0
nothing_held file place e = grind (arith, nat_tests)

listed_times : (files : List FileLen) (place : Place) → times_listed (filter has_offsets files) place ≡ times_listed files place
listed_times [] place = refl
listed_times (file ∷ files) place = by (has_offsets file) refl (listed_times files place)
  where
    by : (some : Bool) → has_offsets file ≡ some → times_listed (filter has_offsets files) place ≡ times_listed files place
        → times_listed (cond some (file ∷ filter has_offsets files) (filter has_offsets files)) place ≡ times_listed (file ∷ files) place
    by true e same =
        omega (
          arith,
          same,
          sum_by-cons (λ f. times_at f.node f.item (whole f.len) place) file (filter has_offsets files),
          sum_by-cons (λ f. times_at f.node f.item (whole f.len) place) file files,
        )
    by false e same = omega (arith, same, nothing_held file place e, sum_by-cons (λ f. times_at f.node f.item (whole f.len) place) file files)

filter_ascending : (files : List FileLen) → AreItemsAscending files → AreItemsAscending (filter has_offsets files)
filter_ascending [] asc = tt
filter_ascending (file ∷ files) asc = by (has_offsets file) (filter_ascending files asc.1)
  where
    by : (some : Bool) → AreItemsAscending (filter has_offsets files) → AreItemsAscending (cond some (file ∷ filter has_offsets files) (filter has_offsets files))
    by true later = (All-filter has_offsets (IsItemBelow file) files asc.0, later)
    by false later = later

filter_some : (files : List FileLen) → All HasOffsets (filter has_offsets files)
filter_some files =
    All-weaker (λ f. has_offsets f ≡ true) HasOffsets (λ f e. ltb-true 0 f.len e) (filter has_offsets files) (filter_passes has_offsets files)

-- ---- the test is exact

module _ (files : List FileLen) (pending : List Piece) (done : List Done) (dead : List Dead) (parts : List Part)
    (asc : AreItemsAscending files) (moved : IsPermutation (all_parts pending done dead) parts) (up : IsSorted part_cmp parts) where
  are : All IsPart parts
  are = All-permutation IsPart (all_parts pending done dead) parts moved (all_parts_are pending done dead)

  times : (place : Place) → times_parts parts place ≡ times_pending pending place + times_done done place + times_dead dead place
  times place = sum_by-IsPermutation (λ p. times_part p place) (all_parts pending done dead) parts moved ∙ all_parts_times pending done dead place

  pub tiled_where_filled : fills (filter has_offsets files) 0 parts ≡ true → AreTiled files pending done dead
  tiled_where_filled is = record {
    times = λ place.
        sym (times place) ∙ fills_alike (filter has_offsets files) 0 parts are is place ∙ from_start (filter has_offsets files) place ∙ listed_times files place;
  }

  pub filled_where_tiled : AreTiled files pending done dead → fills (filter has_offsets files) 0 parts ≡ true
  filled_where_tiled tiled =
      alike_fills (filter has_offsets files) 0 parts (filter_ascending files asc) (filter_some files) (within_first (filter has_offsets files) (filter_some files)) are
      (ascend_sorted parts up)
      (λ place. times place ∙ tiled.times place ∙ sym (listed_times files place) ∙ sym (from_start (filter has_offsets files) place))
