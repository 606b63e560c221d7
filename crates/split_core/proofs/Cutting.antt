-- Cutting the middle out of a range that is out loses nothing.
use Rattle.std.proofs.Common.{◌≡◌, ℕ, ℤ, ◌+◌, ◌≤◌, Bool, true, false, cond, ◌&&◌, ◌==◌, List, [], ◌∷◌, None, refl, ap, arith}
use Rattle.std.specs.List.{All}
use Rattle.std.proofs.lemmas.Bool.Decides.{nat_tests}
use Rattle.std.proofs.lemmas.List.Elements.{All-nil, All-cons, All-weaker}
use Rattle.std.proofs.lemmas.List.Sums.{sum_by-cons}
use Rattle.beam_values.specs.Bags.{IsSameBag}
use Rattle.beam_values.specs.Cover.{times_at, whole}
use Rattle.beam_values.specs.Intervals.{times_in}
use Rattle.beam_values.specs.declared.piece.Done.{Done}
use Rattle.beam_values.specs.declared.piece.FileLen.{FileLen}
use Rattle.beam_values.specs.declared.piece.Piece.{Piece}
use Rattle.split_core.specs.Partition.{IsListed, IsOut, IsPartition, IsCutOut}
use Rattle.split_core.specs.Cuts.{part}
use Rattle.split_core.proofs.Partition.{file_at, part_at, counted, both_same, listed_where_out}

three_parts : (from s t to p : ℕ) → from ≤ s → s ≤ t → t ≤ to
    → times_in (record { from = from; to = to }) p
    ≡ times_in (record { from = from; to = s }) p + times_in (record { from = t; to = to }) p + times_in (record { from = s; to = t }) p
three_parts from s t to p a b c = grind (arith, nat_tests)

in_item : (here : Bool) (a b c d : ℕ) → a ≡ b + c + d → cond here a 0 ≡ cond here b 0 + cond here c 0 + cond here d 0
in_item true a b c d h = h
in_item false a b c d h = refl

-- an item that a list has is one that it has behind another range too
out_behind : (node item : ℕ) (x : Done) (xs : List Done) → IsOut xs node item → IsOut (x ∷ xs) node item
out_behind node item x xs h = omega (arith, h, sum_by-cons (λ d. counted (part_at node item d)) x xs)

out_here : (x : Done) (xs : List Done) → IsOut (x ∷ xs) x.node x.item
out_here x xs =
    let one : counted (x.node == x.node && x.item == x.item) ≡ 1 = ap counted (both_same x.node x.item) in
    omega (arith, sum_by-cons (λ d. counted (part_at x.node x.item d)) x xs, one)

-- each range of a list is of an item of which the list has a range
out_itself : (xs : List Done) → All (λ d. IsOut xs d.node d.item) xs
out_itself [] = All-nil (λ d. IsOut [] d.node d.item)
out_itself (x ∷ xs) =
    All-cons (λ d. IsOut (x ∷ xs) d.node d.item) x xs (out_here x xs)
    (All-weaker (λ d. IsOut xs d.node d.item) (λ d. IsOut (x ∷ xs) d.node d.item) (λ d h. out_behind d.node d.item x xs h) xs (out_itself xs))

out_same : (xs ys : List Done) → IsSameBag xs ys → (node item : ℕ) → IsOut ys node item → IsOut xs node item
out_same xs ys same node item h = omega (arith, h, same.weighs (λ d. counted (part_at node item d)))

module _ (out rest others : List Done) (node item from s t to attempts : ℕ) (seen : ℤ) where
  -- the rest has all that was out
  rest_was_out : IsSameBag out (part node item from to ∷ others) → IsSameBag rest (part node item from s ∷ part node item t to ∷ others)
      → (n i : ℕ) → IsOut rest n i → IsOut out n i
  rest_was_out whole cut n i h =
      let w : Done → ℕ = λ d. counted (part_at n i d) in
      omega (
        arith,
        h,
        whole.weighs w,
        cut.weighs w,
        sum_by-cons w (part node item from to) others,
        sum_by-cons w (part node item from s) (part node item t to ∷ others),
        sum_by-cons w (part node item t to) others,
      )

  pub middle_cut_out : from ≤ s → s ≤ t → t ≤ to
      → IsSameBag out (part node item from to ∷ others) → IsSameBag rest (part node item from s ∷ part node item t to ∷ others)
      → IsCutOut out (record { node = node; item = item; range = record { from = s; to = t }; seen = seen; attempts = attempts; spent = None }) rest
  middle_cut_out a b c whole cut = record {
    piece_out = out_same out (part node item from to ∷ others) whole node item (out_here (part node item from to) others);
    rest_out = All-weaker (λ d. IsOut rest d.node d.item) (λ d. IsOut out d.node d.item) (λ d h. rest_was_out whole cut d.node d.item h) rest (out_itself rest);
    times = λ place.
        let w : Done → ℕ = λ d. times_at d.node d.item d.range place in
        omega (
          arith,
          whole.weighs w,
          cut.weighs w,
          sum_by-cons w (part node item from to) others,
          sum_by-cons w (part node item from s) (part node item t to ∷ others),
          sum_by-cons w (part node item t to) others,
          in_item (node == place.node && item == place.item) _ _ _ _ (three_parts from s t to place.offset a b c),
        );
  }

pub held_at_first : IsPartition [] [] []
held_at_first = record { pending_listed = All-nil (λ p. IsListed [] p.node p.item); out_listed = All-nil (λ d. IsListed [] d.node d.item); times = λ place. refl }

listed_same : (items others : List FileLen) → IsSameBag items others → (node item : ℕ) → IsListed items node item → IsListed others node item
listed_same items others same node item h = omega (arith, h, same.weighs (λ f. counted (file_at node item f)))

pub held_same : (items others : List FileLen) (pending : List Piece) (out outs : List Done) → IsSameBag items others → IsSameBag out outs
    → IsPartition items pending out → IsPartition others pending outs
held_same items others pending out outs same alike held = record {
  pending_listed = All-weaker (λ p. IsListed items p.node p.item) (λ p. IsListed others p.node p.item) (λ p h. listed_same items others same p.node p.item h) pending held.pending_listed;
  out_listed = All-weaker (λ d. IsOut outs d.node d.item) (λ d. IsListed others d.node d.item)
      (λ d h. listed_same items others same d.node d.item (listed_where_out items d.node d.item out held.out_listed (out_same out outs alike d.node d.item h)))
      outs (out_itself outs);
  times = λ place.
      omega (arith, held.times place, same.weighs (λ f. times_at f.node f.item (whole f.len) place), alike.weighs (λ d. times_at d.node d.item d.range place));
}
