-- The Group and the join of a side input: above the join stand the Group and what is above that, and what the Group puts out comes to the join.
use Rattle.std.proofs.Common.{◌≡◌, ◌⊎◌, inl, inr, ℕ, ◌+◌, Bool, true, false, cond, List, [], ◌∷◌, ◌++◌, take, drop, get_or, refl, sym, ap, subst, ◌∙◌, arith}
use Rattle.std.specs.Prelude.{Option, Some, None, ◌==◌, ◌&&◌, ◌||◌, ◌≤ℤ◌, nat_lt, not, slice_get, unwrap_or}
use Rattle.std.specs.List.{All}
use Rattle.std.specs.Option.{option_map}
use Rattle.std.proofs.lemmas.Bool.{eq-eqb, eqb-true, false≢true, lt-ltb, or_left, or_right}
use Rattle.std.proofs.lemmas.List.Elements.{All-head, All-nil}
use Rattle.beam_values.specs.Marks.{mark_of}
use Rattle.beam_values.specs.Nodes.{HasNoStatefulAbove, has_kind, is_above, is_barrier_kind, is_group, is_group_kind, is_stateful, is_stateful_kind}
use Rattle.beam_values.specs.declared.element.Element.{Element}
use Rattle.beam_values.specs.declared.plan.Args.TheVariants.{Nothing}
use Rattle.beam_values.specs.declared.plan.Estimator.{Estimator}
use Rattle.beam_values.specs.declared.plan.Estimator.TheVariants as estimator
use Rattle.beam_values.specs.declared.plan.Node.{Node}
use Rattle.beam_values.specs.declared.plan.NodeKind.TheVariants.{ParDo, Group}
use Rattle.beam_values.specs.declared.plan.Plan.{Plan}
use Rattle.beam_model.specs.Chains.{Output, PoisonAt, carried, chain, chain_from}
use Rattle.beam_model.specs.Estimators.{AreSoundAbove, IsSoundItem, emission_at, output_times}
use Rattle.beam_model.specs.Functions.{emits}
use Rattle.beam_model.specs.Holds.{estimator_in, estimator_of}
use Rattle.beam_model.specs.Panes.{trigger_in, trigger_of}
use Rattle.beam_model.specs.Plain.{HasDefaultTriggersAbove}
use Rattle.beam_model.specs.Plans.{default_trigger, node}
use Rattle.beam_model.specs.Positions.{SourceItem}
use Rattle.beam_model.specs.Spread.{is_poison}
use Rattle.beam_model.proofs.Above.{above_by_earlier_inputs}
use Rattle.side_inputs.specs.Nodes.{join_of, side_nodes}
use Rattle.side_inputs.specs.declared.nodes.ViewMode.{ViewMode}
use Rattle.ended_runs.proofs.SideChains.{side_node, slice_get_drop}

-- outputs with no poison among them
abbrev pub is_clean : Output → Bool
is_clean output = not (is_poison output)

abbrev pub AreClean : List Output → Type 0
AreClean outputs = All (λ output. is_clean output ≡ true) outputs

-- ---- nodes

module _ (plan : Plan) (first main view : ℕ) (mode : ViewMode) (nodes : take 5 (drop first plan.nodes) ≡ side_nodes main view first mode) where
  abbrev group_node : Node
  group_node = node (Group default_trigger) ((first + 2) ∷ [])

  abbrev join_node : Node
  join_node = node (ParDo (join_of mode) Nothing) ((first + 3) ∷ [])

  group_here : slice_get plan.nodes (first + 3) ≡ Some group_node
  group_here = side_node plan first main view mode nodes 3 (omega arith)

  join_here : slice_get plan.nodes (first + 4) ≡ Some join_node
  join_here = side_node plan first main view mode nodes 4 (omega arith)

  -- of which kinds they are
  pub groups : is_group plan (first + 3) ≡ true
  groups = ap (λ (found : Option Node). unwrap_or (option_map (λ n. is_group_kind n.kind) found) false) group_here

  pub no_state : is_stateful plan (first + 3) ≡ false
  no_state = ap (λ (found : Option Node). unwrap_or (option_map (λ n. is_stateful_kind n.kind) found) false) group_here

  pub group_ends : has_kind is_barrier_kind plan (first + 3) ≡ true
  group_ends = ap (λ (found : Option Node). unwrap_or (option_map (λ n. is_barrier_kind n.kind) found) false) group_here

  pub join_no_group : is_group plan (first + 4) ≡ false
  join_no_group = ap (λ (found : Option Node). unwrap_or (option_map (λ n. is_group_kind n.kind) found) false) join_here

  default_here : trigger_of plan (first + 3) ≡ default_trigger
  default_here = ap (λ (found : Option Node). unwrap_or (option_map (λ n. trigger_in n.kind) found) default_trigger) group_here

  no_estimator : estimator_of plan (first + 3) ≡ estimator.None
  no_estimator = ap (λ (found : Option Node). unwrap_or (option_map (λ n. estimator_in n.kind) found) estimator.None) group_here

  -- ---- what is above the join

  above_join : (n : ℕ) → is_above plan n (first + 4) ≡ ((first + 3 == n || (nat_lt (first + 3) (first + 4) && is_above plan n (first + 3))) || false)
  above_join n = above_by_earlier_inputs plan n (first + 4) join_node join_here

  before_join : nat_lt (first + 3) (first + 4) ≡ true
  before_join = lt-ltb (first + 3) (first + 4) (omega arith)

  -- the Group and what is above it are
  pub join_above : (n : ℕ) → (n == first + 3 || is_above plan n (first + 3)) ≡ true → is_above plan n (first + 4) ≡ true
  join_above n is = above_join n ∙ by (n == first + 3) refl is
    where
      by : (t : Bool) → (n == first + 3) ≡ t → (t || is_above plan n (first + 3)) ≡ true
          → ((first + 3 == n || (nat_lt (first + 3) (first + 4) && is_above plan n (first + 3))) || false) ≡ true
      by true own is =
          ap (λ (t : Bool). (t || (nat_lt (first + 3) (first + 4) && is_above plan n (first + 3))) || false) (eq-eqb (first + 3) n (sym (eqb-true n (first + 3) own)))
      by false other above =
          or_left (first + 3 == n || (nat_lt (first + 3) (first + 4) && is_above plan n (first + 3))) false
          (or_right (first + 3 == n) (nat_lt (first + 3) (first + 4) && is_above plan n (first + 3))
          (ap (λ (t : Bool). t && is_above plan n (first + 3)) before_join ∙ above))

  -- and nothing else is
  join_cases : (n : ℕ) → is_above plan n (first + 4) ≡ true → (n ≡ first + 3) ⊎ (is_above plan n (first + 3) ≡ true)
  join_cases n above = by (first + 3 == n) refl (is_above plan n (first + 3)) refl
    where
      by : (s : Bool) → (first + 3 == n) ≡ s → (t : Bool) → is_above plan n (first + 3) ≡ t → (n ≡ first + 3) ⊎ (is_above plan n (first + 3) ≡ true)
      by true same t is = inl (sym (eqb-true (first + 3) n same))
      by false other true is = inr is
      by false other false is = absurd (false≢true (sym none ∙ above))
        where
          none : is_above plan n (first + 4) ≡ false
          none =
              above_join n
              ∙ ap (λ (s : Bool). (s || (nat_lt (first + 3) (first + 4) && is_above plan n (first + 3))) || false) other
              ∙ ap (λ (s : Bool). (s && is_above plan n (first + 3)) || false) before_join
              ∙ ap (λ (t : Bool). t || false) is

  pub stateless_join : HasNoStatefulAbove plan (first + 3) → HasNoStatefulAbove plan (first + 4)
  stateless_join stateless n above = elim (join_cases n above) [
    | inl own ↦ subst (λ (m : ℕ). is_stateful plan m ≡ false) (sym own) no_state
    | inr upper ↦ stateless n upper
  ]

  pub triggers_join : HasDefaultTriggersAbove plan (first + 3) → HasDefaultTriggersAbove plan (first + 4)
  triggers_join triggers n above = elim (join_cases n above.1) [
    | inl own ↦ subst (λ (m : ℕ). trigger_of plan m ≡ default_trigger) (sym own) default_here
    | inr upper ↦ triggers n (above.0, upper)
  ]

  pub sound_join : (items : List SourceItem) → AreSoundAbove plan items (first + 3) → AreSoundAbove plan items (first + 4)
  sound_join items sound k d inside above = elim (join_cases (get_or items k d).node above) [
    | inl own ↦ subst (λ (e : Estimator). IsSoundItem e (get_or items k d)) (sym (ap (estimator_of plan) own ∙ no_estimator)) (nothing_observed (get_or items k d))
    | inr upper ↦ sound k d inside upper
  ]
    where
      nothing_observed : (item : SourceItem) → IsSoundItem estimator.None item
      nothing_observed item p q before inside = All-nil (λ seen. All (λ time. mark_of estimator.None seen ≤ℤ time) (output_times (emission_at item q)))

  -- ---- what the Group puts out

  -- where nothing that comes of a pane is poison, it is none for the join
  pub join_takes : (e : Element) → AreClean (chain plan (first + 3) e) → emits (join_of mode) Nothing e ≡ None → ⊥
  join_takes e clean none = by (drop (first + 3 + 1) plan.nodes) next_is clean
    where
      next_is : slice_get (drop (first + 3 + 1) plan.nodes) 0 ≡ Some join_node
      next_is =
          let place : first + 3 + 1 + 0 ≡ first + 4 = omega arith in
          slice_get_drop (first + 3 + 1) plan.nodes 0 ∙ ap (slice_get plan.nodes) place ∙ join_here

      by : (nodes : List Node) → slice_get nodes 0 ≡ Some join_node → AreClean (chain_from nodes (first + 3 + 1) (first + 3) e) → ⊥
      by [] is clean = absurd (cc)
      by (own ∷ later) is clean =
          let same : own ≡ join_node = cc in
          let onward : Element → List Output = chain_from later (first + 3 + 1 + 1) (first + 3 + 1) in
          let rest : List Output = chain_from later (first + 3 + 1 + 1) (first + 3) e in
          false≢true
          (All-head (λ output. is_clean output ≡ true) (PoisonAt (first + 3 + 1)) rest
          (subst (λ (o : Option (List Element)). AreClean ((carried (first + 3 + 1) onward o ++ []) ++ rest)) none
          (subst (λ (t : Bool). AreClean ((cond t (carried (first + 3 + 1) onward (emits (join_of mode) Nothing e)) [] ++ []) ++ rest)) (eq-eqb (first + 3) (first + 3) refl)
          (subst (λ (n : Node). AreClean (chain_from (n ∷ later) (first + 3 + 1) (first + 3) e)) same clean))))
