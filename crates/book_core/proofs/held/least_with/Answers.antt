use Rattle.std.proofs.Common.{◌≡◌, ◌⊎◌, inl, inr, ℕ, zero, suc, ◌+◌, ◌<◌, ℤ, List, [], ◌∷◌, ◌++◌, length, refl, sym, ap, subst, ◌∙◌, length-append, arith}
use Rattle.std.specs.Int.{int_min}
use Rattle.beam_values.specs.Marks.{least_mark}
use Rattle.beam_values.proofs.Bags.{bag_refl}
use Rattle.watermarks.specs.Holds.{SeenHolds, hold_at}
use Rattle.book_core.specs.Indexes.{least_in}
use Rattle.book_core.proofs.HeldMarks.{marks_read}
use Rattle.book_core.proofs.held.least_with.Goals as goal

front : (xs : List ℤ) (x : ℤ) (k : ℕ) → k < length xs → hold_at (xs ++ x ∷ []) k ≡ hold_at xs k
front [] x k less = absurd (omega arith)
front (y ∷ ys) x zero less = refl
front (y ∷ ys) x (suc k) less = front ys x k (omega arith)

last : (xs : List ℤ) (x : ℤ) → hold_at (xs ++ x ∷ []) (length xs) ≡ x
last [] x = refl
last (y ∷ ys) x = last ys x

one_more : (least : List ℤ) (nodes : List SeenHolds) (others : List ℤ) (i : ℕ) (x : ℤ) → length least ≡ i → x ≡ int_min (least_in nodes i) (hold_at others i)
    → ((k : ℕ) → k < i → hold_at least k ≡ int_min (least_in nodes k) (hold_at others k))
    → (k : ℕ) → k < i + 1 → hold_at (least ++ x ∷ []) k ≡ int_min (least_in nodes k) (hold_at others k)
one_more least nodes others i x sized is each k less = by (below_or_at k i less)
  where
    below_or_at : (k i : ℕ) → k < i + 1 → (k < i) ⊎ (k ≡ i)
    below_or_at k i less = grind arith

    by : (k < i) ⊎ (k ≡ i) → hold_at (least ++ x ∷ []) k ≡ int_min (least_in nodes k) (hold_at others k)
    by (inl below) = front least x k (omega (arith, below, sized)) ∙ each k below
    by (inr here) =
        ap (hold_at (least ++ x ∷ [])) (here ∙ sym sized) ∙ last least x ∙ is ∙ ap (λ (n : ℕ). int_min (least_in nodes n) (hold_at others n)) (sym here)

pub loop-n-preserved : goal.loop-n-preserved
loop-n-preserved c =
    let node = c.index-nodes-n.result in
    let own : c.least_or_final.result ≡ least_in c.args.nodes.now c.loop-n.n =
    c.least_or_final.ensures node.marks (bag_refl node.marks) ∙ ap least_mark (sym (marks_read c.args.nodes.now c.loop-n.n node c.loop-n-test.true c.index-nodes-n.is)) in
    let is : c.lesser.result ≡ int_min (least_in c.args.nodes.now c.loop-n.n) (hold_at c.args.others.now c.loop-n.n) =
    c.lesser.ensures ∙ ap (λ (m : ℤ). int_min m c.mark_at.result) own ∙ ap (int_min (least_in c.args.nodes.now c.loop-n.n)) c.mark_at.ensures in
    record {
      sized = omega (arith, ap length c.push_reserved.ensures.items, length-append c.loop-n.least.items (c.lesser.result ∷ []), c.loop-n.invariant.sized);
      room = omega (arith, c.push_reserved.ensures.capacity, c.loop-n.invariant.room);
      each = λ k less. subst (λ (l : List ℤ). hold_at l k ≡ int_min (least_in c.args.nodes.now k) (hold_at c.args.others.now k)) (sym c.push_reserved.ensures.items)
          (one_more c.loop-n.least.items c.args.nodes.now c.args.others.now c.loop-n.n c.lesser.result c.loop-n.invariant.sized is c.loop-n.invariant.each k less);
    }
