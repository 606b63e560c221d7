-- The least hold of a node, of holds of two kinds together.
use Rattle.std.proofs.Common.{◌≡◌, ℕ, ℤ, false, List, [], ◌∷◌, ◌++◌, map, refl, sym, ap, ◌∙◌, arith}
use Rattle.std.specs.Prelude.{◌==◌, ◌≤ℤ◌, fold}
use Rattle.std.specs.Int.{int_min}
use Rattle.std.specs.List.{All, filter}
use Rattle.std.proofs.lemmas.Int.{ints, fold-int_min_bounds}
use Rattle.std.proofs.lemmas.List.{map-append}
use Rattle.std.proofs.lemmas.List.Elements.{filter-append}
use Rattle.std.proofs.lemmas.List.Sums.{fold-append}
use Rattle.beam_values.specs.Marks.{least_mark}
use Rattle.beam_values.specs.Times.{final_mark}
use Rattle.beam_model.specs.Holds.{Hold, marks_held, least_hold}
use Rattle.group_cells.proofs.Counting.{filter_right}

pushed : (ys : List ℤ) (x a : ℤ) → fold int_min (int_min x a) ys ≡ int_min (fold int_min x ys) a
pushed [] x a = refl
pushed (y ∷ ys) x a = ap (λ (m : ℤ). fold int_min m ys) (turned x a y) ∙ pushed ys (int_min x y) a
  where
    turned : (x a y : ℤ) → int_min (int_min x a) y ≡ int_min (int_min x y) a
    turned x a y = grind (arith, ints)

least_joined : (xs ys : List ℤ) → least_mark (xs ++ ys) ≡ int_min (least_mark ys) (least_mark xs)
least_joined xs ys =
    fold-append int_min final_mark xs ys
    ∙ ap (λ (m : ℤ). fold int_min m ys) (sym (lesser final_mark (least_mark xs) (fold-int_min_bounds final_mark xs (least_mark xs) refl).0))
    ∙ pushed ys final_mark (least_mark xs)
  where
    lesser : (a b : ℤ) → b ≤ℤ a → int_min a b ≡ b
    lesser a b low = grind (arith, ints)

pub least_of_both : (xs ys : List Hold) (n : ℕ) → least_hold (xs ++ ys) n ≡ int_min (least_hold ys n) (least_hold xs n)
least_of_both xs ys n =
    ap (λ (l : List Hold). least_mark (map (λ (hold : Hold). hold.mark) l)) (filter-append (λ (hold : Hold). hold.node == n) xs ys)
    ∙ ap least_mark (map-append (λ (hold : Hold). hold.mark) (filter (λ (hold : Hold). hold.node == n) xs) (filter (λ (hold : Hold). hold.node == n) ys))
    ∙ least_joined (marks_held xs n) (marks_held ys n)

pub least_without : (xs ys : List Hold) (m : ℕ) → All (λ (h : Hold). (h.node == m) ≡ false) xs → least_hold (xs ++ ys) m ≡ least_hold ys m
least_without xs ys m none = ap (λ (l : List Hold). least_mark (map (λ (h : Hold). h.mark) l)) (filter_right (λ (h : Hold). h.node == m) xs ys none)
