-- A commit of a plan without Groups: no arrival is at one, none fires, and the marks are those of the nodes' holds.
use Rattle.std.proofs.Common.{◌≡◌, ℕ, zero, suc, ℤ, ◌≤ℤ◌, Bool, true, false, cond, List, [], ◌∷◌, ◌++◌, length, map, take, refl, sym, ap, subst, ◌∙◌, arith}
use Rattle.std.proofs.lemmas.Int.{ints}
use Rattle.std.specs.Prelude.{Option, not, ◌||◌, ◌&&◌, fold, slice_get, unwrap_or}
use Rattle.std.specs.Int.{int_min}
use Rattle.std.specs.List.{filter, list_any}
use Rattle.std.specs.Option.{option_map}
use Rattle.std.specs.List.Sorted.{IsSorted}
use Rattle.std.proofs.lemmas.Bool.{false≢true}
use Rattle.std.proofs.lemmas.List.{append-nil}
use Rattle.std.proofs.lemmas.List.Elements.{All-nil}
use Rattle.beam_values.proofs.Bags.{bag_refl}
use Rattle.beam_values.specs.Bags.{IsSameBag}
use Rattle.beam_values.specs.Cells.{pane_cmp}
use Rattle.beam_values.specs.Marks.{AreMarks, mark_into, marks_at}
use Rattle.beam_values.specs.Nodes.{is_group, is_group_kind}
use Rattle.beam_values.specs.Times.{final_mark}
use Rattle.beam_values.specs.declared.arrival.Arrival.{Arrival}
use Rattle.beam_values.specs.declared.cell.Cell.{Cell}
use Rattle.beam_values.specs.declared.cell.Pane.{Pane}
use Rattle.beam_values.specs.declared.marks.StageMarks.{StageMarks}
use Rattle.beam_values.specs.declared.plan.Node.{Node}
use Rattle.beam_values.specs.declared.plan.Plan.{Plan}
use Rattle.beam_model.specs.Panes.{taken_by}
use Rattle.group_cells.specs.Commits.{AreRounds, IsAtGroup, IsCommitted, SeenGroups, arrives_in_time, cell_place, dropped_arrival, hold_with, is_at_group, is_dropped, is_taken, taken_arrival}

pub no_group_at : (plan : Plan) → list_any (λ (node : Node). is_group_kind node.kind) plan.nodes ≡ false → (n : ℕ) → is_group plan n ≡ false
no_group_at plan none n = by plan.nodes n none
  where
    found : Option Node → Bool
    found o = unwrap_or (option_map (λ (n : Node). is_group_kind n.kind) o) false

    at : (kind : Bool) (later : Bool) → (kind || later) ≡ false → (kind ≡ false) × (later ≡ false)
    at true later e = absurd (cc)
    at false later e = (refl, e)

    by : (nodes : List Node) (n : ℕ) → list_any (λ (node : Node). is_group_kind node.kind) nodes ≡ false → found (slice_get nodes n) ≡ false
    by [] n e = refl
    by (node ∷ nodes) zero e = (at (is_group_kind node.kind) (list_any (λ (node : Node). is_group_kind node.kind) nodes) e).0
    by (node ∷ nodes) (suc n) e = by nodes n (at (is_group_kind node.kind) (list_any (λ (node : Node). is_group_kind node.kind) nodes) e).1

-- ---- the marks

no_higher : (start : ℤ) (xs : List ℤ) → start ≤ℤ final_mark → fold int_min start xs ≤ℤ final_mark
no_higher start [] h = h
no_higher start (x ∷ xs) h = no_higher (int_min start x) xs (lower start x h)
  where
    lower : (a b : ℤ) → a ≤ℤ final_mark → int_min a b ≤ℤ final_mark
    lower a b h = grind (arith, ints)

capped : (into hold : ℤ) → into ≤ℤ final_mark → int_min into hold ≡ int_min into (int_min hold final_mark)
capped into hold h = grind (arith, ints)

none_fired : (plan : Plan) (before after : List StageMarks) (hold : ℕ → ℤ) → AreMarks plan hold after → AreMarks plan (hold_with hold before []) after
none_fired plan before after hold h = record {
  sized = h.sized;
  each = λ n node at. h.each n node at
      ∙ ap (λ (m : ℤ). record { mark_in = mark_into after node.inputs; mark_out = m })
      (capped (mark_into after node.inputs) (hold n) (no_higher final_mark (map (λ input. (marks_at after input).mark_out) node.inputs) (omega (arith, ints))));
}

-- ---- the arrivals

sorted_none : IsSorted pane_cmp []
sorted_none k d from within = absurd (omega (arith, within))

module _ (plan : Plan) (none : (n : ℕ) → is_group plan n ≡ false) (before after : List StageMarks) where
  none_at : (p : Bool) (n : ℕ) → (is_group plan n && p) ≡ false
  none_at p n = ap (λ (t : Bool). t && p) (none n)

  no_taken : (arrivals : List Arrival) → filter (is_taken plan before) arrivals ≡ []
  no_taken [] = refl
  no_taken (arrival ∷ arrivals) =
      ap (λ (t : Bool). cond t (arrival ∷ filter (is_taken plan before) arrivals) (filter (is_taken plan before) arrivals))
      (none_at (arrives_in_time plan before arrival) arrival.node)
      ∙ no_taken arrivals

  no_dropped : (arrivals : List Arrival) → filter (is_dropped plan before) arrivals ≡ []
  no_dropped [] = refl
  no_dropped (arrival ∷ arrivals) =
      ap (λ (t : Bool). cond t (arrival ∷ filter (is_dropped plan before) arrivals) (filter (is_dropped plan before) arrivals))
      (none_at (not (arrives_in_time plan before arrival)) arrival.node)
      ∙ no_dropped arrivals

  all_left : (arrivals : List Arrival) → arrivals ≡ filter (λ arrival. not (is_at_group plan arrival)) arrivals
  all_left [] = refl
  all_left (arrival ∷ arrivals) =
      ap (λ (l : List Arrival). arrival ∷ l) (all_left arrivals)
      ∙ sym (ap (λ (t : Bool). cond (not t) (arrival ∷ filter (λ a. not (is_at_group plan a)) arrivals) (filter (λ a. not (is_at_group plan a)) arrivals)) (none arrival.node))

  -- no round and no pane
  pub no_rounds : (c : ℕ) (arrivals : List Arrival) → AreRounds plan c before after arrivals [] [] []
  no_rounds c arrivals = record {
    each = λ node key is. absurd (false≢true (sym (none node) ∙ is));
    cells_at = All-nil (IsAtGroup plan);
    at_groups = All-nil (λ (pane : Pane). is_group plan pane.node ≡ true);
    of_commit = All-nil (λ (pane : Pane). pane.commit ≡ c);
    ordered = sorted_none;
  }

  -- nothing is taken or dropped, and all arrivals are left
  pub none_committed : (c : ℕ) (hold : ℕ → ℤ) (arrivals : List Arrival) (groups : SeenGroups) → groups.cells ≡ [] → AreMarks plan hold after
      → IsCommitted plan c before after hold arrivals arrivals groups groups []
  none_committed c hold arrivals groups empty are = record {
    entries = λ keyed.
        subst (IsSameBag (taken_by groups.cells)) (sym (ap (λ (l : List Arrival). taken_by groups.cells ++ map (taken_arrival c) l) (no_taken arrivals) ∙ append-nil (taken_by groups.cells)))
        (bag_refl (taken_by groups.cells));
    dropped = sym (ap (λ (l : List Arrival). groups.dropped ++ map (dropped_arrival c) l) (no_dropped arrivals) ∙ append-nil groups.dropped);
    others = all_left arrivals;
    at_groups = All-nil (λ (pane : Pane). is_group plan pane.node ≡ true);
    of_commit = All-nil (λ (pane : Pane). pane.commit ≡ c);
    ordered = sorted_none;
    places = subst (λ (cells : List Cell). take (length cells) (map cell_place cells) ≡ map cell_place cells) (sym empty) refl;
    plan_stays = refl;
    marks = none_fired plan before after hold are;
  }

  -- the same, where no cell stands and no pane fires
  pub quiet_rounds : (c : ℕ) (arrivals : List Arrival) (cells : List Cell) (fired : List Pane) → cells ≡ [] → fired ≡ [] → AreRounds plan c before after arrivals cells cells fired
  quiet_rounds c arrivals cells fired none_stands none_fires =
      subst (λ (l : List Cell). AreRounds plan c before after arrivals l l fired) (sym none_stands)
      (subst (AreRounds plan c before after arrivals [] []) (sym none_fires) (no_rounds c arrivals))

  pub quiet_commit : (c : ℕ) (hold : ℕ → ℤ) (arrivals : List Arrival) (groups : SeenGroups) (fired : List Pane) → groups.cells ≡ [] → fired ≡ [] → AreMarks plan hold after
      → IsCommitted plan c before after hold arrivals arrivals groups groups fired
  quiet_commit c hold arrivals groups fired none_stands none_fires are =
      subst (IsCommitted plan c before after hold arrivals arrivals groups groups) (sym none_fires) (none_committed c hold arrivals groups none_stands are)
