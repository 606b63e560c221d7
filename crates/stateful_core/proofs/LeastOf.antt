-- The least of holds: one more hold, and holds in another order.
use Rattle.std.proofs.Common.{◌≡◌, ℕ, zero, suc, ◌<◌, ◌≤◌, ℤ, cond, List, [], ◌∷◌, length, map, get_or, refl, sym, ap, ◌∙◌, ◌⊎◌, inl, inr, arith}
use Rattle.std.specs.Prelude.{slice_set, fold, ◌==◌}
use Rattle.std.specs.Int.{int_min}
use Rattle.std.specs.List.{filter}
use Rattle.std.proofs.lemmas.Bool.{cases_eq, eq-eqb, ne_eqb}
use Rattle.std.proofs.lemmas.Int.{ints, clamps}
use Rattle.std.proofs.lemmas.List.{length-set, get_or-set_same, get_or-set_other}
use Rattle.std.proofs.lemmas.Option.{unwrap_or-slice_get}
use Rattle.beam_values.specs.Bags.{IsSameBag}
use Rattle.beam_values.specs.Marks.{least_mark}
use Rattle.beam_values.specs.Times.{final_mark}
use Rattle.beam_values.proofs.Bags.{bag_map, bag_filter}
use Rattle.beam_model.specs.Holds.{Hold, marks_held, least_hold}
use Rattle.watermarks.specs.Holds.{hold_at}
use Rattle.watermarks.proofs.BagMembers.{bag_least}
use Rattle.stateful_core.specs.Least.{AreLeast}

pub least_of_bag : (hs ks : List Hold) → IsSameBag hs ks → (n : ℕ) → least_hold hs n ≡ least_hold ks n
least_of_bag hs ks same n =
    bag_least (marks_held hs n) (marks_held ks n)
    (bag_map (λ (hold : Hold). hold.mark) (filter (λ hold. hold.node == n) hs) (filter (λ hold. hold.node == n) ks) (bag_filter (λ (hold : Hold). hold.node == n) hs ks same))

pub are_bag : (least : List ℤ) (hs ks : List Hold) → IsSameBag hs ks → AreLeast least hs → AreLeast least ks
are_bag least hs ks same h n less = h n less ∙ least_of_bag hs ks same n

-- ---- one hold more

min_along : (a x : ℤ) (xs : List ℤ) → fold int_min (int_min a x) xs ≡ int_min (fold int_min a xs) x
min_along a x [] = refl
min_along a x (y ∷ xs) = ap (λ m. fold int_min m xs) swap ∙ min_along (int_min a y) x xs
  where
    swap : int_min (int_min a x) y ≡ int_min (int_min a y) x
    swap = omega (arith, ints, clamps)

pub own_least : (node : ℕ) (mark : ℤ) (holds : List Hold) (n : ℕ) → node ≡ n → least_hold (record { node = node; mark = mark } ∷ holds) n ≡ int_min (least_hold holds n) mark
own_least node mark holds n e =
    ap (λ b. least_mark (map (λ (h : Hold). h.mark) (cond b (record { node = node; mark = mark } ∷ filter (λ hold. hold.node == n) holds) (filter (λ hold. hold.node == n) holds)))) (eq-eqb node n e)
    ∙ min_along final_mark mark (marks_held holds n)

pub other_least : (node : ℕ) (mark : ℤ) (holds : List Hold) (n : ℕ) → (node ≡ n → ⊥) → least_hold (record { node = node; mark = mark } ∷ holds) n ≡ least_hold holds n
other_least node mark holds n ne =
    ap (λ b. least_mark (map (λ (h : Hold). h.mark) (cond b (record { node = node; mark = mark } ∷ filter (λ hold. hold.node == n) holds) (filter (λ hold. hold.node == n) holds)))) (ne_eqb node n ne)

at_get : (least : List ℤ) (n : ℕ) → hold_at least n ≡ get_or least n final_mark
at_get least n = unwrap_or-slice_get least n final_mark

pub lowered : (least : List ℤ) (node : ℕ) (old mark new : ℤ) (holds : List Hold) → node < length least → old ≡ get_or least node old → new ≡ int_min old mark → AreLeast least holds
    → AreLeast (slice_set least node new) (record { node = node; mark = mark } ∷ holds)
lowered least node old mark new holds less read is h n inside = by (cases_eq node n)
  where
    within : n < length least
    within = omega (arith, inside, length-set least node new)

    was : old ≡ hold_at least node
    was = read ∙ same least node old less ∙ sym (at_get least node)
      where
        same : (xs : List ℤ) (k : ℕ) (d : ℤ) → k < length xs → get_or xs k d ≡ get_or xs k final_mark
        same [] k d l = absurd (omega arith)
        same (x ∷ xs) zero d l = refl
        same (x ∷ xs) (suc k) d l = same xs k d (omega arith)

    by : (node ≡ n) ⊎ (node ≡ n → ⊥) → hold_at (slice_set least node new) n ≡ least_hold (record { node = node; mark = mark } ∷ holds) n
    by (inl e) =
        at_get (slice_set least node new) n ∙ ap (λ k. get_or (slice_set least node new) k final_mark) (sym e) ∙ get_or-set_same least node new final_mark less
        ∙ is ∙ ap (λ m. int_min m mark) (was ∙ h node less) ∙ ap (λ k. int_min (least_hold holds k) mark) e ∙ sym (own_least node mark holds n e)
    by (inr ne) =
        at_get (slice_set least node new) n ∙ get_or-set_other least node n new final_mark (λ e. ne (sym e)) ∙ sym (at_get least n) ∙ h n within ∙ sym (other_least node mark holds n ne)

-- a node behind the last
pub lowered_past : (least : List ℤ) (node : ℕ) (mark : ℤ) (holds : List Hold) → length least ≤ node → AreLeast least holds → AreLeast least (record { node = node; mark = mark } ∷ holds)
lowered_past least node mark holds past h n inside = h n inside ∙ sym (other_least node mark holds n (λ e. omega (arith, past, inside, e)))
