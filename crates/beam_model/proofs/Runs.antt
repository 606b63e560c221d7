-- Two plain runs of one plan and the same items: node after node, the same arrives, since panes go only to later nodes.
use Rattle.std.proofs.Common.{◌≡◌, ℕ, zero, suc, ◌+◌, ◌<◌, ◌≤◌, inl, inr, Bool, true, false, cond, List, get_or, map, refl, sym, ap, subst, ◌∙◌, arith}
use Rattle.std.specs.Prelude.{nat_lt, ◌==◌}
use Rattle.std.specs.List.{All, sum_by, filter, flat_map}
use Rattle.std.proofs.lemmas.Bool.{false≢true, cases_lt, cond-true, cond-false, lt-ltb, le-ltb, ne_eqb}
use Rattle.std.proofs.lemmas.Bool.Decides.{nat_tests}
use Rattle.std.proofs.lemmas.List.Elements.{All-map, All-filter, All-weaker}
use Rattle.std.proofs.lemmas.List.Sums.{sum_by-append}
use Rattle.beam_values.specs.Bags.{IsSameBag}
use Rattle.beam_values.specs.Storable.{IsStorable}
use Rattle.beam_values.specs.declared.element.Element.{Element}
use Rattle.beam_values.specs.declared.arrival.Arrival.{Arrival}
use Rattle.beam_values.specs.declared.plan.Plan.{Plan}
use Rattle.beam_values.specs.declared.plan.Strategy.{Strategy}
use Rattle.beam_values.specs.declared.plan.Strategy.TheVariants.{Global, Fixed, Sliding, Sessions, Kept}
use Rattle.beam_values.proofs.Bags.{bag_sym, bag_trans, sum_by-map, sum_by-flat_map, sum_by-filter}
use Rattle.beam_model.specs.Chains.{Output, Arrives, PoisonAt, chain}
use Rattle.beam_model.specs.Flow.{is_at, elements_at}
use Rattle.beam_values.specs.Sessions.{IsNonEmpty}
use Rattle.beam_model.specs.Premises.{EndsAfter}
use Rattle.beam_values.specs.Nodes.{is_group, is_above, strategy_of}
use Rattle.beam_model.specs.Plain.{IsGroupAbove, IsGroupedBy, plain_flow, is_met, IsPlainRun, IsPlainAt}
use Rattle.beam_model.specs.Positions.{SourceItem}
use Rattle.beam_model.specs.Spread.{spread_all}
use Rattle.beam_model.proofs.Agreement.{groupings_agree}
use Rattle.beam_model.proofs.Barriers.{chains_end}
use Rattle.beam_model.proofs.Lists.{sum_by-same, sum_by-add, sum_none}
use Rattle.beam_model.proofs.Mergings.{mergings_agree}

-- what arrived at a node weighs what the arrivals there do
pub at_node : (node : ℕ) (w : Element → ℕ) (arrivals : List Arrival)
    → sum_by w (elements_at node arrivals) ≡ sum_by (λ a. cond (is_at node a) (w a.element) 0) arrivals
at_node node w arrivals = sum_by-map w (λ a. a.element) (filter (is_at node) arrivals) ∙ sum_by-filter (λ a. w a.element) (is_at node) arrivals

-- ---- what panes bring to a node, as far as a barrier meets it

module _ (plan : Plan) (barrier node : ℕ) (w : Element → ℕ) where
  -- what an output weighs where it ends
  abbrev pub weight_of_end : Output → ℕ
  weight_of_end (Arrives arrival) = cond (is_at node arrival) (w arrival.element) 0
  weight_of_end (PoisonAt other) = 0

  -- nothing, if the barrier doesn't meet it
  abbrev pub weight_at : Output → ℕ
  weight_at output = cond (is_met plan barrier output) (weight_of_end output) 0

  -- what an output of a node weighs at this one
  abbrev pub outputs_weight : ℕ → Element → ℕ
  outputs_weight from e = sum_by weight_at (chain plan from e)

  -- it is nothing where the output comes from a later node
  pub none_back : (from : ℕ) (e : Element) → node ≤ from → outputs_weight from e ≡ 0
  none_back from e back =
      sum_none weight_at (chain plan from e) (All-weaker (EndsAfter plan from) (λ output. weight_at output ≡ 0) elsewhere (chain plan from e) (chains_end plan from e))
    where
      unmet : (met : Bool) (weight : ℕ) → weight ≡ 0 → cond met weight 0 ≡ 0
      unmet true weight none = none
      unmet false weight none = refl

      ends_elsewhere : (output : Output) → EndsAfter plan from output → weight_of_end output ≡ 0
      ends_elsewhere (Arrives arrival) h =
          cond-false (arrival.node == node) (w arrival.element) 0 (ne_eqb arrival.node node (λ same. absurd (omega (arith, h.0))))
      ends_elsewhere (PoisonAt other) h = refl

      elsewhere : (output : Output) → EndsAfter plan from output → weight_at output ≡ 0
      elsewhere output h = unmet (is_met plan barrier output) (weight_of_end output) (ends_elsewhere output h)

  -- what panes of the nodes below a number bring
  abbrev below : ℕ → Arrival → ℕ
  below k pane = cond (nat_lt pane.node k) (outputs_weight pane.node pane.element) 0

  abbrev here : ℕ → Arrival → ℕ
  here k pane = cond (is_at k pane) (outputs_weight k pane.element) 0

  one_node_more : (k x : ℕ) (V : ℕ → ℕ) → cond (nat_lt x (suc k)) (V x) 0 ≡ cond (nat_lt x k) (V x) 0 + cond (x == k) (V k) 0
  one_node_more k x V = grind (arith, nat_tests)

  all_below : (pane : Arrival) → outputs_weight pane.node pane.element ≡ below node pane
  all_below pane =
      elim (cases_lt pane.node node) [
        | inl lower ↦ sym (cond-true (nat_lt pane.node node) (outputs_weight pane.node pane.element) 0 (lt-ltb pane.node node lower))
        | inr back ↦
            none_back pane.node pane.element back ∙ sym (cond-false (nat_lt pane.node node) (outputs_weight pane.node pane.element) 0 (le-ltb pane.node node back))
      ]

  module _ (panes more : List Arrival) (same : (g : ℕ) → g < node → IsSameBag (elements_at g panes) (elements_at g more)) where
    same_below : (k : ℕ) → k ≤ node → sum_by (below k) panes ≡ sum_by (below k) more
    same_below zero within = sum_none (below 0) panes (none panes) ∙ sym (sum_none (below 0) more (none more))
      where
        none : (ps : List Arrival) → All (λ p. below 0 p ≡ 0) ps
        none ps k d inside =
            let pane = get_or ps k d in
            cond-false (nat_lt pane.node 0) (outputs_weight pane.node pane.element) 0 (le-ltb pane.node 0 (omega arith))
    same_below (suc k) within =
        let before : sum_by (below k) panes ≡ sum_by (below k) more = same_below k (omega arith) in
        let now : sum_by (here k) panes ≡ sum_by (here k) more =
        sym (at_node k (outputs_weight k) panes) ∙ (same k (omega arith)).weighs (outputs_weight k) ∙ at_node k (outputs_weight k) more in
        omega (arith, one_more panes, one_more more)
      where
        one_more : (ps : List Arrival) → sum_by (below (suc k)) ps ≡ sum_by (below k) ps + sum_by (here k) ps
        one_more ps =
            sum_by-same (below (suc k)) (λ p. below k p + here k p) ps (λ p. one_node_more k p.node (λ n. outputs_weight n p.element))
            ∙ sum_by-add (below k) (here k) ps

    pub same_outputs_weight : sum_by (λ p. outputs_weight p.node p.element) panes ≡ sum_by (λ p. outputs_weight p.node p.element) more
    same_outputs_weight =
        sum_by-same (λ p. outputs_weight p.node p.element) (below node) panes all_below
        ∙ same_below node (omega arith)
        ∙ sym (sum_by-same (λ p. outputs_weight p.node p.element) (below node) more all_below)

  -- the arrivals of the node are those that the positions bring, and those of the panes
  pub arrivals_weigh : (items : List SourceItem) (arrivals panes : List Arrival)
      → IsSameBag (filter (is_met plan barrier) (plain_flow plan items panes)) (map Arrives arrivals)
      → sum_by w (elements_at node arrivals) ≡ sum_by weight_at (spread_all plan items) + sum_by (λ p. outputs_weight p.node p.element) panes
  arrivals_weigh items arrivals panes clean =
      at_node node w arrivals ∙ sym (sum_by-map weight_of_end Arrives arrivals) ∙ sym (clean.weighs weight_of_end)
      ∙ sum_by-filter weight_of_end (is_met plan barrier) (plain_flow plan items panes)
      ∙ sum_by-append weight_at (spread_all plan items) (flat_map (λ p. chain plan p.node p.element) panes)
      ∙ ap (λ (n : ℕ). sum_by weight_at (spread_all plan items) + n) (sum_by-flat_map weight_at (λ p. chain plan p.node p.element) panes)

-- ---- what Groups put out

pub grouped_agree : (strategy : Strategy) (xs ys ps qs : List Element) → IsSameBag xs ys → All (λ e. IsNonEmpty e.span) xs
    → All (λ p. IsStorable p.value) ps → All (λ q. IsStorable q.value) qs → IsGroupedBy strategy xs ps → IsGroupedBy strategy ys qs → IsSameBag ps qs
grouped_agree Global xs ys ps qs same some f k g h = groupings_agree xs ys ps qs same g h f k
grouped_agree (Fixed size) xs ys ps qs same some f k g h = groupings_agree xs ys ps qs same g h f k
grouped_agree (Sliding size period) xs ys ps qs same some f k g h = groupings_agree xs ys ps qs same g h f k
grouped_agree (Sessions gap) xs ys ps qs same some f k g h =
    groupings_agree g.0 h.0 ps qs (mergings_agree xs ys g.0 h.0 same some g.1 h.1) g.2 h.2 f k
grouped_agree Kept xs ys ps qs same some f k g h = groupings_agree xs ys ps qs same g h f k

-- no pane is put out by a node that is no Group above the barrier
pub no_panes : (plan : Plan) (barrier node : ℕ) (panes : List Arrival) → All (λ p. IsGroupAbove plan barrier p.node) panes → (IsGroupAbove plan barrier node → ⊥)
    → (w : Element → ℕ) → sum_by w (elements_at node panes) ≡ 0
no_panes plan barrier node panes groups never w = at_node node w panes ∙ sum_none (λ p. cond (is_at node p) (w p.element) 0) panes none
  where
    none : All (λ p. cond {A = ℕ} (is_at node p) (w p.element) 0 ≡ 0) panes
    none k d inside =
        let pane = get_or panes k d in
        cond-false (pane.node == node) (w pane.element) 0
        (ne_eqb pane.node node (λ same. never (subst (λ (n : ℕ). IsGroupAbove plan barrier n) same (groups k d inside))))

pub elements_all : (P : Element → Type 0) (node : ℕ) (arrivals : List Arrival) → All (λ a. P a.element) arrivals → All P (elements_at node arrivals)
elements_all P node arrivals h = All-map P (λ a. a.element) (filter (is_at node) arrivals) (All-filter (is_at node) (λ a. P a.element) arrivals h)

module _ (plan : Plan) (items : List SourceItem) (barrier : ℕ) (arrivals panes others more : List Arrival)
    (run : IsPlainRun plan items barrier arrivals panes) (other : IsPlainRun plan items barrier others more) where
  panes_agree : (node : ℕ) → IsSameBag (elements_at node arrivals) (elements_at node others) → IsSameBag (elements_at node panes) (elements_at node more)
  panes_agree node same = by_tests (is_group plan node) (is_above plan node barrier) refl refl
    where
      grouped : IsGroupAbove plan barrier node → IsSameBag (elements_at node panes) (elements_at node more)
      grouped group =
          grouped_agree (strategy_of plan node) (elements_at node arrivals) (elements_at node others) (elements_at node panes) (elements_at node more) same
          (elements_all (λ e. IsNonEmpty e.span) node arrivals run.held)
          (elements_all (λ e. IsStorable e.value) node panes run.storable) (elements_all (λ e. IsStorable e.value) node more other.storable)
          (run.grouped node group) (other.grouped node group)

      empty : (IsGroupAbove plan barrier node → ⊥) → IsSameBag (elements_at node panes) (elements_at node more)
      empty never = record {
        weighs = λ w. no_panes plan barrier node panes run.from_groups never w ∙ sym (no_panes plan barrier node more other.from_groups never w);
      }

      by_tests : (group above : Bool) → is_group plan node ≡ group → is_above plan node barrier ≡ above → IsSameBag (elements_at node panes) (elements_at node more)
      by_tests true true e f = grouped (e, f)
      by_tests true false e f = empty (λ group. absurd (false≢true (sym f ∙ group.1)))
      by_tests false above e f = empty (λ group. absurd (false≢true (sym e ∙ group.0)))

  arrivals_agree : (node : ℕ) → ((g : ℕ) → g < node → IsSameBag (elements_at g panes) (elements_at g more))
      → IsSameBag (elements_at node arrivals) (elements_at node others)
  arrivals_agree node same = record {
    weighs = λ w.
        arrivals_weigh plan barrier node w items arrivals panes run.clean
        ∙ ap (λ (n : ℕ). sum_by (weight_at plan barrier node w) (spread_all plan items) + n) (same_outputs_weight plan barrier node w panes more same)
        ∙ sym (arrivals_weigh plan barrier node w items others more other.clean);
  }

  -- by the number of the node
  agree_below : (n node : ℕ) → node < n → IsSameBag (elements_at node arrivals) (elements_at node others)
  agree_below zero node lower = absurd (omega arith)
  agree_below (suc n) node lower = arrivals_agree node (λ g before. panes_agree g (agree_below n g (omega arith)))

  pub arrived_agree : (node : ℕ) → IsSameBag (elements_at node arrivals) (elements_at node others)
  arrived_agree node = agree_below (suc node) node (omega arith)

  pub put_out_agree : (node : ℕ) → IsSameBag (elements_at node panes) (elements_at node more)
  put_out_agree node = panes_agree node (arrived_agree node)

pub plain_at_agree : (plan : Plan) (items : List SourceItem) (barrier : ℕ) (elements others : List Element)
    → IsPlainAt plan items barrier elements → IsPlainAt plan items barrier others → IsSameBag elements others
plain_at_agree plan items barrier elements others g h =
    bag_trans elements (elements_at barrier g.0) others g.3
    (bag_trans (elements_at barrier g.0) (elements_at barrier h.0) others
    (arrived_agree plan items barrier g.0 g.1 h.0 h.1 g.2 h.2 barrier) (bag_sym others (elements_at barrier h.0) h.3))
