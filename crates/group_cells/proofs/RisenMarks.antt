-- No mark falls where the panes that fire hold their Groups back no lower than the marks before.
use Rattle.std.proofs.Common.{sym, ◌≡◌, Bool, true, false, cond, ℕ, zero, suc, ◌+◌, ◌<◌, ◌≤◌, ℤ, List, [], ◌∷◌, map, length, set, refl, ap, subst, arith}
use Rattle.std.specs.Prelude.{◌==◌, ◌≤ℤ◌, Some, fold, slice_get}
use Rattle.std.specs.Int.{int_min, int_max}
use Rattle.std.specs.List.{All, filter}
use Rattle.std.proofs.lemmas.Bool.{eqb-true}
use Rattle.std.proofs.lemmas.Int.{clamps, fold-int_min_bounds, ints}
use Rattle.std.proofs.lemmas.List.Elements.{All-cons, All-head, All-nil, All-tail}
use Rattle.beam_values.specs.Checked.{IsChecked}
use Rattle.beam_values.specs.Marks.{AreMarks, mark_into, marks_at, node_marks}
use Rattle.beam_values.specs.Times.{final_mark}
use Rattle.beam_values.specs.declared.cell.Pane.{Pane}
use Rattle.beam_values.specs.declared.marks.StageMarks.{StageMarks}
use Rattle.beam_values.specs.declared.plan.Node.{Node}
use Rattle.beam_values.specs.declared.plan.Plan.{Plan}
use Rattle.beam_model.specs.Holds.{least_hold, marks_held, pane_hold}
use Rattle.watermarks.proofs.NodeMarks.{AreMarksBelow, marks_all, marks_more, marks_none}
use Rattle.watermarks.proofs.Rising.{marks_rise}
use Rattle.group_cells.specs.Commits.{NoneFalls, RisesFrom, hold_with}

-- ---- there are marks for any holds

found : (nodes : List Node) (k : ℕ) → k < length nodes → (node : Node) × (slice_get nodes k ≡ Some node)
found [] k within = absurd (omega arith)
found (x ∷ nodes) zero within = (x, refl)
found (x ∷ nodes) (suc k) within = found nodes k (omega arith)

marks_to : (plan : Plan) (hold : ℕ → ℤ) (start : List StageMarks) → IsChecked plan → length start ≡ length plan.nodes → (bound : ℕ) → bound ≤ length plan.nodes
    → (marks : List StageMarks) × AreMarksBelow plan hold marks bound
marks_to plan hold start checked sized zero within = (start, marks_none plan hold start sized)
marks_to plan hold start checked sized (suc bound) within =
    let prior = marks_to plan hold start checked sized bound (omega arith) in
    let node = found plan.nodes bound within in
    let next : bound + 1 ≡ suc bound = omega arith in
    (set prior.0 bound (node_marks prior.0 node.0.inputs (hold bound)), subst (AreMarksBelow plan hold (set prior.0 bound (node_marks prior.0 node.0.inputs (hold bound)))) next (marks_more plan hold prior.0 bound node.0 checked prior.1 node.1))

some_marks : (plan : Plan) (hold : ℕ → ℤ) (start : List StageMarks) → IsChecked plan → length start ≡ length plan.nodes → (marks : List StageMarks) × AreMarks plan hold marks
some_marks plan hold start checked sized =
    let all = marks_to plan hold start checked sized (length plan.nodes) (omega arith) in
    (all.0, marks_all plan hold all.0 (length plan.nodes) (omega arith) all.1)

-- ---- bounds

low_fold : (a start : ℤ) (xs : List ℤ) → a ≤ℤ start → All (λ x. a ≤ℤ x) xs → a ≤ℤ fold int_min start xs
low_fold a start [] low all = low
low_fold a start (x ∷ xs) low all = low_fold a (int_min start x) xs (lesser (All-head (λ y. a ≤ℤ y) x xs all)) (All-tail (λ y. a ≤ℤ y) x xs all)
  where
    lesser : a ≤ℤ x → a ≤ℤ int_min start x
    lesser h = omega (arith, ints, clamps)

pub below_final : (plan : Plan) (hold : ℕ → ℤ) (marks : List StageMarks) → AreMarks plan hold marks → (n : ℕ) → n < length plan.nodes → (marks_at marks n).mark_out ≤ℤ final_mark
below_final plan hold marks are n within =
    let node = found plan.nodes n within in
    low (marks_at marks n) (mark_into marks node.0.inputs) (hold n) (are.each n node.0 node.1)
    (fold-int_min_bounds final_mark (map (λ input. (marks_at marks input).mark_out) node.0.inputs) (mark_into marks node.0.inputs) refl).0
  where
    low : (s : StageMarks) (i h : ℤ) → s ≡ record { mark_in = i; mark_out = int_min i h } → i ≤ℤ final_mark → s.mark_out ≤ℤ final_mark
    low s i h e top = let out = ap (λ (x : StageMarks). x.mark_out) e in omega (arith, ints, clamps, out)

-- where nothing holds any more, no mark falls
pub rises_to_final : (plan : Plan) (hold later : ℕ → ℤ) (before : List StageMarks) → IsChecked plan → AreMarks plan hold before → ((n : ℕ) → later n ≡ final_mark) → RisesFrom plan later before
rises_to_final plan hold later before checked are final = λ marks become.
    marks_rise plan hold later before marks checked are become (λ n within. subst (λ (m : ℤ). (marks_at before n).mark_out ≤ℤ m) (sym (final n)) (below_final plan hold before are n within))

pub none_falls : (plan : Plan) (was hold : ℕ → ℤ) (before after : List StageMarks) (fired : List Pane) → IsChecked plan → AreMarks plan was before → RisesFrom plan hold before
    → AreMarks plan (hold_with hold before fired) after → NoneFalls before after
none_falls plan was hold before after fired checked were rises are =
    marks_rise plan was (hold_with hold before fired) before after checked were are (λ n within. above n (found plan.nodes n within))
  where
    without : (marks : List StageMarks) × AreMarks plan hold marks
    without = some_marks plan hold before checked were.sized

    lower : (s t : StageMarks) (i h j l : ℤ) → s ≡ record { mark_in = i; mark_out = int_min i h } → i ≤ℤ final_mark → t ≡ record { mark_in = j; mark_out = int_min j l } → s.mark_out ≤ℤ t.mark_out
        → (s.mark_out ≤ℤ final_mark) × (s.mark_out ≤ℤ l)
    lower s t i h j l e top f le =
        let out_s = ap (λ (x : StageMarks). x.mark_out) e in
        let out_t = ap (λ (x : StageMarks). x.mark_out) f in
        (omega (arith, ints, clamps, out_s), omega (arith, ints, clamps, out_t))

    both : (a h l : ℤ) → a ≤ℤ h → a ≤ℤ l → a ≤ℤ int_min h l
    both a h l p q = omega (arith, ints, clamps)

    max_above : (t m : ℤ) → m ≤ℤ int_max t m
    max_above t m = omega (arith, ints, clamps)

    held : (n : ℕ) → All (λ x. (marks_at before n).mark_out ≤ℤ x) (marks_held (map (pane_hold before) fired) n)
    held n = along fired
      where
        along : (panes : List Pane) → All (λ x. (marks_at before n).mark_out ≤ℤ x) (marks_held (map (pane_hold before) panes) n)
        along [] = All-nil (λ x. (marks_at before n).mark_out ≤ℤ x)
        along (pane ∷ panes) = by (pane.node == n) refl (along panes)
          where
            by : (b : Bool) → (pane.node == n) ≡ b → All (λ x. (marks_at before n).mark_out ≤ℤ x) (marks_held (map (pane_hold before) panes) n)
                → All (λ x. (marks_at before n).mark_out ≤ℤ x)
                (map (λ hold. hold.mark) (cond b (pane_hold before pane ∷ filter (λ hold. hold.node == n) (map (pane_hold before) panes)) (filter (λ hold. hold.node == n) (map (pane_hold before) panes))))
            by true e rest =
                All-cons (λ x. (marks_at before n).mark_out ≤ℤ x) (pane_hold before pane).mark (marks_held (map (pane_hold before) panes) n)
                (subst (λ (m : ℕ). (marks_at before m).mark_out ≤ℤ (pane_hold before pane).mark) (eqb-true pane.node n e) (max_above pane.element.time (marks_at before pane.node).mark_out)) rest
            by false e rest = rest

    above : (n : ℕ) → (node : Node) × (slice_get plan.nodes n ≡ Some node) → (marks_at before n).mark_out ≤ℤ hold_with hold before fired n
    above n there =
        let node = there.0 in
        let top : mark_into before node.inputs ≤ℤ final_mark =
        (fold-int_min_bounds final_mark (map (λ input. (marks_at before input).mark_out) node.inputs) (mark_into before node.inputs) refl).0 in
        let bounds =
        lower (marks_at before n) (marks_at without.0 n) (mark_into before node.inputs) (was n) (mark_into without.0 node.inputs) (hold n)
        (were.each n node there.1) top (without.1.each n node there.1) (rises without.0 without.1 n).1 in
        both (marks_at before n).mark_out (hold n) (least_hold (map (pane_hold before) fired) n) bounds.1
        (low_fold (marks_at before n).mark_out final_mark (marks_held (map (pane_hold before) fired) n) bounds.0 (held n))
