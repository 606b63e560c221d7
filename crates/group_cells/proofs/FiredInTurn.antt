-- The nodes of a plan in their order: their marks are written, and Groups fire.
use Rattle.std.proofs.Common.{◌≡◌, ◌≢◌, ◌⊎◌, inl, inr, ℕ, ◌+◌, ◌==◌, ◌<◌, ◌≤◌, ℤ, Bool, true, false, List, [], ◌++◌, map, length, get_or, set, refl, sym, ap, subst, ◌∙◌, arith, append-nil}
use Rattle.std.specs.Prelude.{◌&&◌, bytes_eq, Option, Some, None, slice_get, unwrap_or}
use Rattle.std.specs.Option.{option_map}
use Rattle.std.specs.Int.{int_min}
use Rattle.std.specs.List.{All, count_by}
use Rattle.std.specs.List.Sorted.{IsSorted}
use Rattle.std.proofs.lemmas.Bool.{cases_lt, eq-eqb, eqb-true}
use Rattle.std.proofs.lemmas.List.{get_or-set_other, get_or-set_same, length-append}
use Rattle.std.proofs.lemmas.List.Elements.{All-nil, All-append, All-weaker, filter-append}
use Rattle.std.proofs.lemmas.List.Sorted.{All-permutation, length_permutation}
use Rattle.std.proofs.lemmas.Option.{slice_get_within}
use Rattle.beam_values.specs.Cells.{pane_cmp}
use Rattle.beam_values.specs.Checked.{IsChecked}
use Rattle.beam_values.specs.Grouping.{key_of}
use Rattle.beam_values.specs.Intervals.{Interval}
use Rattle.beam_values.specs.Marks.{least_mark, mark_into, marks_at, node_marks}
use Rattle.beam_values.specs.Nodes.{is_group, is_group_kind}
use Rattle.beam_values.specs.Spelling.{spelling}
use Rattle.beam_values.specs.declared.cell.Cell.{Cell}
use Rattle.beam_values.specs.declared.cell.Pane.{Pane}
use Rattle.beam_values.specs.declared.marks.StageMarks.{StageMarks}
use Rattle.beam_values.specs.declared.plan.Node.{Node}
use Rattle.beam_values.specs.declared.plan.Plan.{Plan}
use Rattle.beam_values.specs.declared.value.Value.{Value}
use Rattle.beam_model.specs.Holds.{marks_held, pane_hold}
use Rattle.beam_model.specs.Panes.{is_pane_at_key, panes_at, rules_of}
use Rattle.watermarks.proofs.NodeMarks.{AreMarksBelow, final_stage, marks_all, marks_at-is, marks_more, marks_none}
use Rattle.group_cells.specs.Cells.{after_firing, AreTheirPanes}
use Rattle.group_cells.specs.Commits.{cell_place, cells_keyed, hold_with}
use Rattle.group_cells.specs.Placing.{stands_as}
use Rattle.group_cells.specs.Plain.{AreGroupFired, AreKeyFired, AreNodesFired, IsNodeDone, after_node, firing_at}
use Rattle.group_cells.proofs.Counting.{filter_none}
use Rattle.group_cells.proofs.FiredFew.{at_kept, below_more, few_all, few_here, is_at, is_below}
use Rattle.group_cells.proofs.FiredGroups.{all_of, their_panes}
use Rattle.group_cells.proofs.FiredNodes.{after_kept, held_append, held_off, held_on, later, node_other, node_own, sorted_append}
use Rattle.group_cells.proofs.PlacedCells.{map_kept}

apart : (m n : ℕ) → m ≢ n → (m == n) ≡ false
apart m n off = by (m == n) refl
  where
    by : (b : Bool) → (m == n) ≡ b → b ≡ false
    by true e = absurd (off (eqb-true m n e))
    by false e = refl

-- ---- one node

-- what one node brings, whether it is a Group or not
record IsStep (plan : Plan) (c n : ℕ) (mark : ℤ) (cells new : List Cell) (here : List Pane) : Type 0 where
  at_node : All (λ pane. pane.node ≡ n) here
  groups : All (λ pane. is_group plan pane.node ≡ true) here
  of_commit : All (λ pane. pane.commit ≡ c) here
  ordered : IsSorted pane_cmp here
  others : (node : ℕ) (key : Value) → node ≢ n → cells_keyed node key new ≡ cells_keyed node key cells
  own : (key : Value) → is_group plan n ≡ true → (cells_keyed n key new ≡ map (after_firing (rules_of plan n) mark) (cells_keyed n key cells))
      × (((w : Interval) → count_by (stands_as w) (cells_keyed n key cells) ≤ 1) → AreTheirPanes (rules_of plan n) n key c mark (cells_keyed n key cells) (panes_at n key here))
  places : map cell_place new ≡ map cell_place cells
  few : length here ≤ count_by (is_at n) cells

group_step : (plan : Plan) (c n : ℕ) (mark : ℤ) (cells new : List Cell) (here : List Pane) → is_group plan n ≡ true → AreGroupFired (rules_of plan n) n c mark cells new here → IsStep plan c n mark cells new here
group_step plan c n mark cells new here group h = record {
  at_node = All-weaker (λ (pane : Pane). (pane.node ≡ n) × (pane.commit ≡ c)) (λ pane. pane.node ≡ n) (λ pane is. is.0) here all;
  groups = All-weaker (λ (pane : Pane). (pane.node ≡ n) × (pane.commit ≡ c)) (λ pane. is_group plan pane.node ≡ true) (λ pane is. ap (is_group plan) is.0 ∙ group) here all;
  of_commit = All-weaker (λ (pane : Pane). (pane.node ≡ n) × (pane.commit ≡ c)) (λ pane. pane.commit ≡ c) (λ pane is. is.1) here all;
  ordered = h.ordered;
  others = λ node key off. ap (cells_keyed node key) h.fires ∙ node_other (rules_of plan n) n mark node key (apart node n off) cells;
  own = λ key _. (
    ap (cells_keyed n key) h.fires ∙ node_own (rules_of plan n) n mark key cells,
    λ once. their_panes (rules_of plan n) n c mark key cells h.panes here h.each h.order once,
  );
  places = ap (map cell_place) h.fires ∙ map_kept (after_node (rules_of plan n) n mark) (λ cell. after_kept (firing_at (rules_of plan n) n mark cell) cell) cells;
  few = omega (arith, few_here (rules_of plan n) n c mark cells h.panes h.each, length_permutation h.panes here h.order);
}
  where
    all : All (λ pane. (pane.node ≡ n) × (pane.commit ≡ c)) here
    all = All-permutation (λ (pane : Pane). (pane.node ≡ n) × (pane.commit ≡ c)) h.panes here h.order (all_of (rules_of plan n) n c mark cells h.panes h.each)

sorted_none : IsSorted pane_cmp []
sorted_none k d z within = absurd (omega arith)

rest_step : (plan : Plan) (c n : ℕ) (mark : ℤ) (cells new : List Cell) (here : List Pane) → is_group plan n ≡ false → new ≡ cells → here ≡ [] → IsStep plan c n mark cells new here
rest_step plan c n mark cells new here rests same none = record {
  at_node = subst (All (λ pane. pane.node ≡ n)) (sym none) (All-nil (λ (pane : Pane). pane.node ≡ n));
  groups = subst (All (λ pane. is_group plan pane.node ≡ true)) (sym none) (All-nil (λ (pane : Pane). is_group plan pane.node ≡ true));
  of_commit = subst (All (λ pane. pane.commit ≡ c)) (sym none) (All-nil (λ (pane : Pane). pane.commit ≡ c));
  ordered = subst (IsSorted pane_cmp) (sym none) sorted_none;
  others = λ node key off. ap (cells_keyed node key) same;
  own = λ key group. let no_ : true ≡ false = sym group ∙ rests in absurd (cc);
  places = ap (map cell_place) same;
  few = omega (arith, ap length none);
}

-- ---- node after node

module _ (plan : Plan) (before : List StageMarks) (hold : ℕ → ℤ) (c : ℕ) (old : List Cell) where
  pub record AreFiredBelow (bound : ℕ) (new : List Cell) (marks : List StageMarks) (fired : List Pane) : Type 0 where
    pub marks_are : AreMarksBelow plan (hold_with hold before fired) marks bound
    pub each : (node : ℕ) (key : Value) → node < bound → is_group plan node ≡ true → AreKeyFired plan c (marks_at marks node).mark_in old new fired node key
    pub waits : (node : ℕ) (key : Value) → bound ≤ node → cells_keyed node key new ≡ cells_keyed node key old
    pub below : All (λ pane. pane.node < bound) fired
    pub groups : All (λ pane. is_group plan pane.node ≡ true) fired
    pub of_commit : All (λ pane. pane.commit ≡ c) fired
    pub ordered : IsSorted pane_cmp fired
    pub places : map cell_place new ≡ map cell_place old
    pub few : length fired ≤ count_by (is_below bound) old

  pub fired_none : (marks : List StageMarks) → length marks ≡ length plan.nodes → AreFiredBelow 0 old marks []
  fired_none marks sized = record {
    marks_are = marks_none plan (hold_with hold before []) marks sized;
    each = λ node key less group. absurd (omega arith);
    waits = λ node key _. refl;
    below = All-nil (λ (pane : Pane). pane.node < 0);
    groups = All-nil (λ (pane : Pane). is_group plan pane.node ≡ true);
    of_commit = All-nil (λ (pane : Pane). pane.commit ≡ c);
    ordered = sorted_none;
    places = refl;
    few = omega arith;
  }

  pub fired_all : (bound : ℕ) (new : List Cell) (marks : List StageMarks) (fired : List Pane) → length plan.nodes ≤ bound → AreFiredBelow bound new marks fired
      → AreNodesFired plan before hold c old new marks fired
  fired_all bound new marks fired all h = record {
    marks_are = marks_all plan (hold_with hold before fired) marks bound all h.marks_are;
    each = λ node key group. h.each node key (group_within node group) group;
    groups = h.groups;
    of_commit = h.of_commit;
    ordered = h.ordered;
    places = h.places;
    few = omega (arith, h.few, few_all bound old);
  }
    where
      group_within : (node : ℕ) → is_group plan node ≡ true → node < bound
      group_within node group = by (slice_get plan.nodes node) refl group
        where
          by : (o : Option Node) → slice_get plan.nodes node ≡ o → unwrap_or (option_map (λ n. is_group_kind n.kind) o) false ≡ true → node < bound
          by None e on = absurd (cc)
          by (Some n) e on = omega (arith, slice_get_within plan.nodes node n e)

  module _ (n : ℕ) (cells new : List Cell) (marks written : List StageMarks) (fired here : List Pane) (checked : IsChecked plan)
      (h : AreFiredBelow n cells marks fired) (done : IsNodeDone plan before (hold n) c n cells new marks written here) where
    step : IsStep plan c n (mark_into marks done.node.inputs) cells new here
    step = by (is_group plan n) refl
      where
        by : (b : Bool) → is_group plan n ≡ b → IsStep plan c n (mark_into marks done.node.inputs) cells new here
        by true e = group_step plan c n (mark_into marks done.node.inputs) cells new here e (done.fires e)
        by false e = rest_step plan c n (mark_into marks done.node.inputs) cells new here e (done.rests e).0 (done.rests e).1

    -- the hold of the node with its panes, and those below as before
    held_here : hold_with hold before (fired ++ here) n ≡ int_min (hold n) (least_mark (map (λ pane. (pane_hold before pane).mark) here))
    held_here =
        ap (λ (l : List ℤ). int_min (hold n) (least_mark l))
        (held_append before fired here n
        ∙ (λ i. held_off before fired n (All-weaker (λ pane. pane.node < n) (λ pane. (pane.node == n) ≡ false) (λ pane less. apart pane.node n (λ e. absurd (omega arith))) fired h.below) i
        ++ held_on before here n (All-weaker (λ pane. pane.node ≡ n) (λ pane. (pane.node == n) ≡ true) (λ pane at. eq-eqb pane.node n at) here step.at_node) i))

    held_below : (k : ℕ) → k < n → hold_with hold before fired k ≡ hold_with hold before (fired ++ here) k
    held_below k less =
        ap (λ (l : List ℤ). int_min (hold k) (least_mark l))
        (sym (held_append before fired here k
        ∙ ap (λ l. marks_held (map (pane_hold before) fired) k ++ l)
        (held_off before here k (All-weaker (λ pane. pane.node ≡ n) (λ pane. (pane.node == k) ≡ false) (λ pane at. apart pane.node k (λ e. absurd (omega arith))) here step.at_node))
        ∙ append-nil (marks_held (map (pane_hold before) fired) k)))

    within : n < length marks
    within = omega (arith, h.marks_are.sized, slice_get_within plan.nodes n done.node done.there)

    marks_after : AreMarksBelow plan (hold_with hold before (fired ++ here)) written (n + 1)
    marks_after =
        subst (λ (m : List StageMarks). AreMarksBelow plan (hold_with hold before (fired ++ here)) m (n + 1))
        (ap (λ (x : ℤ). set marks n (node_marks marks done.node.inputs x)) held_here ∙ sym done.marks_are)
        (marks_more plan (hold_with hold before (fired ++ here)) marks n done.node checked (record {
          sized = h.marks_are.sized;
          each = λ k node less there. h.marks_are.each k node less there ∙ ap (node_marks marks node.inputs) (held_below k less);
        }) done.there)

    mark_here : (marks_at written n).mark_in ≡ mark_into marks done.node.inputs
    mark_here =
        ap (λ (s : StageMarks). s.mark_in)
        (ap (λ m. marks_at m n) done.marks_are
        ∙ marks_at-is (set marks n (node_marks marks done.node.inputs (int_min (hold n) (least_mark (map (λ pane. (pane_hold before pane).mark) here))))) n
        ∙ get_or-set_same marks n (node_marks marks done.node.inputs (int_min (hold n) (least_mark (map (λ pane. (pane_hold before pane).mark) here)))) final_stage within)

    mark_other : (k : ℕ) → k ≢ n → marks_at written k ≡ marks_at marks k
    mark_other k off =
        let stage : StageMarks = node_marks marks done.node.inputs (int_min (hold n) (least_mark (map (λ pane. (pane_hold before pane).mark) here))) in
        ap (λ m. marks_at m k) done.marks_are ∙ marks_at-is (set marks n stage) k ∙ get_or-set_other marks n k stage final_stage off ∙ sym (marks_at-is marks k)

    -- the panes of another node
    panes_off : (node : ℕ) (key : Value) (panes : List Pane) → All (λ pane. (pane.node == node) ≡ false) panes → panes_at node key panes ≡ []
    panes_off node key panes off =
        filter_none (is_pane_at_key node key) panes
        (All-weaker (λ pane. (pane.node == node) ≡ false) (λ pane. is_pane_at_key node key pane ≡ false) (λ pane e. ap (λ b. b && bytes_eq (spelling (key_of pane.element)) (spelling key)) e) panes off)

    panes_below : (node : ℕ) (key : Value) → node < n → panes_at node key (fired ++ here) ≡ panes_at node key fired
    panes_below node key less =
        filter-append (is_pane_at_key node key) fired here
        ∙ ap (λ l. panes_at node key fired ++ l) (panes_off node key here (All-weaker (λ pane. pane.node ≡ n) (λ pane. (pane.node == node) ≡ false) (λ pane at. apart pane.node node (λ e. absurd (omega arith))) here step.at_node))
        ∙ append-nil (panes_at node key fired)

    panes_here : (key : Value) → panes_at n key (fired ++ here) ≡ panes_at n key here
    panes_here key =
        filter-append (is_pane_at_key n key) fired here
        ∙ ap (λ l. l ++ panes_at n key here) (panes_off n key fired (All-weaker (λ pane. pane.node < n) (λ pane. (pane.node == n) ≡ false) (λ pane less. apart pane.node n (λ e. absurd (omega arith))) fired h.below))

    each_after : (node : ℕ) (key : Value) → (node < n) ⊎ (n ≤ node) → node < n + 1 → is_group plan node ≡ true → AreKeyFired plan c (marks_at written node).mark_in old new (fired ++ here) node key
    each_after node key (inl less) _ group =
        let off : node ≢ n = λ e. absurd (omega arith) in
        let was = h.each node key less group in
        let mark_is : (marks_at marks node).mark_in ≡ (marks_at written node).mark_in = ap (λ (s : StageMarks). s.mark_in) (sym (mark_other node off)) in (
          step.others node key off ∙ was.0 ∙ ap (λ m. map (after_firing (rules_of plan node) m) (cells_keyed node key old)) mark_is,
          λ once. subst (λ (m : ℤ). AreTheirPanes (rules_of plan node) node key c m (cells_keyed node key old) (panes_at node key (fired ++ here))) mark_is
              (subst (AreTheirPanes (rules_of plan node) node key c (marks_at marks node).mark_in (cells_keyed node key old)) (sym (panes_below node key less)) (was.1 once)),
        )
    each_after node key (inr more) below group =
        let here_ : n ≡ node = omega arith in
        subst (λ (m : ℕ). is_group plan m ≡ true → AreKeyFired plan c (marks_at written m).mark_in old new (fired ++ here) m key) here_ own_after group
      where
        own_after : is_group plan n ≡ true → AreKeyFired plan c (marks_at written n).mark_in old new (fired ++ here) n key
        own_after group =
            let was : cells_keyed n key cells ≡ cells_keyed n key old = h.waits n key (omega arith) in (
              subst (λ (l : List Cell). cells_keyed n key new ≡ map (after_firing (rules_of plan n) (marks_at written n).mark_in) l) was
                  ((step.own key group).0 ∙ ap (λ m. map (after_firing (rules_of plan n) m) (cells_keyed n key cells)) (sym mark_here)),
              λ once. subst (λ (m : ℤ). AreTheirPanes (rules_of plan n) n key c m (cells_keyed n key old) (panes_at n key (fired ++ here))) (sym mark_here)
                  (subst (AreTheirPanes (rules_of plan n) n key c (mark_into marks done.node.inputs) (cells_keyed n key old)) (sym (panes_here key))
                  (subst (λ (l : List Cell). AreTheirPanes (rules_of plan n) n key c (mark_into marks done.node.inputs) l (panes_at n key here)) was
                  ((step.own key group).1 (λ w. subst (λ (l : List Cell). count_by (stands_as w) l ≤ 1) (sym was) (once n key w))))),
            )

    pub fired_more : AreFiredBelow (n + 1) new written (fired ++ here)
    fired_more = record {
      marks_are = marks_after;
      each = λ node key less group. each_after node key (cases_lt node n) less group;
      waits = λ node key more. step.others node key (λ e. absurd (omega arith)) ∙ h.waits node key (omega arith);
      below = All-append (λ (pane : Pane). pane.node < n + 1) fired here
          (All-weaker (λ pane. pane.node < n) (λ pane. pane.node < n + 1) (λ pane less. omega arith) fired h.below)
          (All-weaker (λ pane. pane.node ≡ n) (λ pane. pane.node < n + 1) (λ pane at. omega arith) here step.at_node);
      groups = All-append (λ (pane : Pane). is_group plan pane.node ≡ true) fired here h.groups step.groups;
      of_commit = All-append (λ (pane : Pane). pane.commit ≡ c) fired here h.of_commit step.of_commit;
      ordered = sorted_append fired here h.ordered step.ordered
          (λ i d in_fired j e in_here. later c (get_or fired i d) (get_or here j e) (h.of_commit i d in_fired) (step.of_commit j e in_here)
          (let low : (get_or fired i d).node < n = h.below i d in_fired in let at : (get_or here j e).node ≡ n = step.at_node j e in_here in omega arith));
      places = step.places ∙ h.places;
      few = omega (arith, length-append fired here, h.few, step.few, below_more n old, at_kept n old cells h.places);
    }
