-- Further holds, one after another.
use Rattle.std.proofs.Common.{◌≡◌, ℕ, zero, suc, ◌<◌, ℤ, List, ◌++◌, length, map, replicate, take, drop, take_all, refl, sym, ap, ◌∙◌, arith}
use Rattle.std.specs.Prelude.{fold, ◌==◌}
use Rattle.std.specs.Int.{int_min}
use Rattle.std.specs.List.{filter}
use Rattle.std.proofs.lemmas.List.{append-nil, drop_all, length-replicate, map-append}
use Rattle.std.proofs.lemmas.List.Elements.{filter-append}
use Rattle.std.proofs.lemmas.List.Sums.{fold-append}
use Rattle.beam_values.specs.Times.{final_mark}
use Rattle.beam_model.specs.Holds.{Hold, least_hold, marks_held}
use Rattle.watermarks.specs.Holds.{hold_at}
use Rattle.stored_books.specs.Held.{AreHeldOn}

held_of_both : (xs ys : List Hold) (n : ℕ) → marks_held (xs ++ ys) n ≡ marks_held xs n ++ marks_held ys n
held_of_both xs ys n =
    ap (map (λ (hold : Hold). hold.mark)) (filter-append (λ (hold : Hold). hold.node == n) xs ys)
    ∙ map-append (λ (hold : Hold). hold.mark) (filter (λ (hold : Hold). hold.node == n) xs) (filter (λ (hold : Hold). hold.node == n) ys)

pub on_both : (xs ys : List Hold) (a b c : List ℤ) → AreHeldOn xs a b → AreHeldOn ys b c → AreHeldOn (xs ++ ys) a c
on_both xs ys a b c first second = record {
  sized = second.sized ∙ first.sized;
  held = λ n within.
      second.held n (omega (arith, first.sized))
      ∙ ap (λ (m : ℤ). fold int_min m (marks_held ys n)) (first.held n within)
      ∙ sym (fold-append int_min (hold_at a n) (marks_held xs n) (marks_held ys n))
      ∙ ap (fold int_min (hold_at a n)) (sym (held_of_both xs ys n));
}

all_final : (n k : ℕ) → hold_at (replicate n final_mark) k ≡ final_mark
all_final zero k = refl
all_final (suc n) zero = refl
all_final (suc n) (suc k) = all_final n k

-- where nothing was held before
pub least_of : (holds : List Hold) (old new : List ℤ) (count : ℕ) → old ≡ replicate count final_mark → AreHeldOn holds old new
    → (length new ≡ count) × ((n : ℕ) → n < count → hold_at new n ≡ least_hold holds n)
least_of holds old new count e on =
    let many : length old ≡ count = ap length e ∙ length-replicate count final_mark in (
      on.sized ∙ many,
      λ n within. on.held n (omega (arith, many)) ∙ ap (λ (m : ℤ). fold int_min m (marks_held holds n))
          (ap (λ (l : List ℤ). hold_at l n) e ∙ all_final count n),
    )

pub on_four : (ps ws bs ks : List Hold) (a b c d e : List ℤ) → AreHeldOn ps a b → AreHeldOn ws b c → AreHeldOn bs c d → AreHeldOn ks d e
    → AreHeldOn (ps ++ (ws ++ (bs ++ ks))) a e
on_four ps ws bs ks a b c d e p w s k = on_both ps (ws ++ (bs ++ ks)) a b e p (on_both ws (bs ++ ks) b c e w (on_both bs ks c d e s k))

pub written_back : (n : ℕ) (old new : List ℤ) → length old ≡ n → length new ≡ length old → take n (new ++ drop (length new) old) ≡ new
written_back n old new many same =
    ap (take n) (ap (λ (l : List ℤ). new ++ l) (drop_all (length new) old (omega (arith, same))) ∙ append-nil new) ∙ take_all n new (omega (arith, many, same))
