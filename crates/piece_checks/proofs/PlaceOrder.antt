-- Places in order, by node, item and offset, and what holds them.
use Rattle.std.proofs.Common.{◌≡◌, ℕ, zero, suc, ◌+◌, ◌<◌, ◌≤◌, Bool, true, false, cond, ◌&&◌, ◌==◌, List, [], ◌∷◌, sum_by, arith}
use Rattle.std.specs.List.{All}
use Rattle.std.proofs.lemmas.Bool.Decides.{nat_tests}
use Rattle.std.proofs.lemmas.List.Elements.{All-head, All-tail}
use Rattle.std.proofs.lemmas.List.Sums.{sum_by-cons}
use Rattle.beam_values.specs.Cover.{Place, times_at}
use Rattle.beam_values.specs.Intervals.{Offsets, times_in}

-- the first place isn't behind the second
pub record IsNoLater (a b : Place) : Type 0 where
  pub node : a.node ≤ b.node
  pub item : a.node ≡ b.node → a.item ≤ b.item
  pub offset : a.node ≡ b.node → a.item ≡ b.item → a.offset ≤ b.offset

pub no_later-refl : (a : Place) → IsNoLater a a
no_later-refl a = record { node = omega arith; item = λ n. omega arith; offset = λ n i. omega arith }

pub no_later-trans : (a b c : Place) → IsNoLater a b → IsNoLater b c → IsNoLater a c
no_later-trans a b c x y = record {
  node = omega arith;
  item = λ n. omega arith;
  offset = λ n i. omega arith;
}

-- a range of an item holds a place
pub record IsHeldIn (node item : ℕ) (range : Offsets) (place : Place) : Type 0 where
  pub node_is : node ≡ place.node
  pub item_is : item ≡ place.item
  pub from : range.from ≤ place.offset
  pub to : place.offset < range.to

pub held_in : (node item : ℕ) (range : Offsets) (place : Place) → 1 ≤ times_at node item range place → IsHeldIn node item range place
held_in node item range place h = record {
  node_is = grind (arith, nat_tests);
  item_is = grind (arith, nat_tests);
  from = grind (arith, nat_tests);
  to = grind (arith, nat_tests);
}

pub held_once : (node item : ℕ) (range : Offsets) (place : Place) → IsHeldIn node item range place → times_at node item range place ≡ 1
held_once node item range place h = grind (arith, nat_tests)

in_item : (here : Bool) (a b c : ℕ) → a ≡ b + c → cond here a 0 ≡ cond here b 0 + cond here c 0
in_item true a b c h = h
in_item false a b c h = arith_zero
  where
    arith_zero : 0 ≡ 0 + 0
    arith_zero = omega arith

two_parts : (from mid to p : ℕ) → from ≤ mid → mid ≤ to
    → times_in (record { from = from; to = to }) p ≡ times_in (record { from = from; to = mid }) p + times_in (record { from = mid; to = to }) p
two_parts from mid to p a b = grind (arith, nat_tests)

-- a range is its parts before and behind an offset of it
pub cut_at : (node item from mid to : ℕ) (place : Place) → from ≤ mid → mid ≤ to
    → times_at node item (record { from = from; to = to }) place
    ≡ times_at node item (record { from = from; to = mid }) place + times_at node item (record { from = mid; to = to }) place
cut_at node item from mid to place a b =
    in_item (node == place.node && item == place.item) (times_in (record { from = from; to = to }) place.offset)
    (times_in (record { from = from; to = mid }) place.offset) (times_in (record { from = mid; to = to }) place.offset)
    (two_parts from mid to place.offset a b)

-- what some of a list holds isn't before all of their starts
module _ {X : Type 0} (starts : X → Place) (times : X → Place → ℕ) (begins : (x : X) (place : Place) → 1 ≤ times x place → IsNoLater (starts x) place) where
  pub reached : (a : Place) (xs : List X) → All (λ x. IsNoLater a (starts x)) xs → (place : Place) → 1 ≤ sum_by (λ x. times x place) xs → IsNoLater a place
  reached a [] all place h = absurd (omega (arith, h))
  reached a (x ∷ xs) all place h =
      by_times (times x place) (omega (arith, h, sum_by-cons (λ y. times y place) x xs)) (begins x place)
      (reached a xs (All-tail (λ y. IsNoLater a (starts y)) x xs all) place)
    where
      by_times : (n : ℕ) → 1 ≤ n + sum_by (λ y. times y place) xs → (1 ≤ n → IsNoLater (starts x) place)
          → (1 ≤ sum_by (λ y. times y place) xs → IsNoLater a place) → IsNoLater a place
      by_times zero some here later = later (omega arith)
      by_times (suc n) some here later =
          no_later-trans a (starts x) place (All-head (λ y. IsNoLater a (starts y)) x xs all) (here (omega arith))
