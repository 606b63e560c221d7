-- Which nodes stand above which: by the inputs of each, and one above another.
use Rattle.std.proofs.Common.{◌≡◌, ◌⊎◌, inl, inr, ℕ, zero, suc, ◌+◌, ◌<◌, ◌≤◌, ◌==◌, nat_lt, Bool, true, false, cond, ◌&&◌, ◌||◌, List, [], ◌∷◌, ◌++◌, length, get_or, Option, Some, None, slice_get, refl, sym, ap, subst, ◌∙◌, zero-add, arith, length-append}
use Rattle.std.specs.Prelude.{fold, unwrap_or, not}
use Rattle.std.specs.Option.{option_or}
use Rattle.std.specs.List.{All, list_any, list_all}
use Rattle.std.proofs.lemmas.Bool.{cases_lt, lt-ltb, le-ltb, ltb-true, eqb-true, not-false, true_from_ne_false, eq-eqb, and_parts, or_cases, or_left, or_right, false≢true}
use Rattle.std.proofs.lemmas.List.{get_or_append_left}
use Rattle.std.proofs.lemmas.List.Folds.{list_all_at}
use Rattle.std.proofs.lemmas.List.Elements.{All-head, All-tail}
use Rattle.std.proofs.lemmas.Option.{unwrap_or-slice_get, slice_get_past, slice_get_cases}
use Rattle.std.proofs.Math.Seq.{get_or-append_seam}
use Rattle.beam_values.specs.Nodes.{is_source_kind, takes_from, with_below, is_above}
use Rattle.beam_values.specs.Checked.{has_arity, has_input, node_refusal, nodes_refusal, IsChecked}
use Rattle.beam_values.specs.declared.plan.Node.{Node}
use Rattle.beam_values.specs.declared.plan.Plan.{Plan}

-- ---- tests of lists

any_same : {X : Type 0} (p q : X → Bool) (xs : List X) → All (λ x. p x ≡ q x) xs → list_any p xs ≡ list_any q xs
any_same p q [] same = refl
any_same p q (x ∷ xs) same =
    ap (λ b. b || list_any p xs) (All-head (λ y. p y ≡ q y) x xs same) ∙ ap (λ b. q x || b) (any_same p q xs (All-tail (λ y. p y ≡ q y) x xs same))

any_more : {X : Type 0} (p q : X → Bool) → ((x : X) → p x ≡ true → q x ≡ true) → (xs : List X) → list_any p xs ≡ true → list_any q xs ≡ true
any_more p q more [] none = none
any_more p q more (x ∷ xs) some =
    elim (or_cases (p x) (list_any p xs) some) [
      | inl here ↦ or_left (q x) (list_any q xs) (more x here)
      | inr later ↦ or_right (q x) (list_any q xs) (any_more p q more xs later)
    ]

-- whether a test stands at a place; none does past the end
abbrev stands : List Bool → ℕ → Bool
stands below n = unwrap_or (slice_get below n) false

stands-before : (xs ys : List Bool) (n : ℕ) → n < length xs → stands (xs ++ ys) n ≡ stands xs n
stands-before xs ys n inside =
    unwrap_or-slice_get (xs ++ ys) n false ∙ get_or_append_left xs ys false n inside ∙ sym (unwrap_or-slice_get xs n false)

stands-past : (xs : List Bool) (n : ℕ) → length xs ≤ n → stands xs n ≡ false
stands-past xs n past = ap (λ (found : Option Bool). unwrap_or found false) (slice_get_past xs n past)

stands-next : (xs : List Bool) (b : Bool) → stands (xs ++ b ∷ []) (length xs) ≡ b
stands-next xs b = unwrap_or-slice_get (xs ++ b ∷ []) (length xs) false ∙ get_or-append_seam xs b [] false

-- ---- node after node

module _ (upper : ℕ) where
  -- later nodes change nothing of earlier ones
  kept : (below : List Bool) (nodes : List Node) (n : ℕ) → n < length below → stands (fold (with_below upper) below nodes) n ≡ stands below n
  kept below [] n inside = refl
  kept below (node ∷ later) n inside =
      let added : List Bool = list_any (takes_from upper below) node.inputs ∷ [] in
      kept (below ++ added) later n (omega (arith, length-append below added)) ∙ stands-before below added n inside

  -- an input of the node n is `upper`, or an earlier node below it
  abbrev takes_below : List Bool → ℕ → ℕ → Bool
  takes_below below n input = input == upper || (nat_lt input n && stands below input)

  same_taken : (below all : List Bool) (n input : ℕ) → n ≡ length below → ((m : ℕ) → m < length below → stands all m ≡ stands below m)
      → takes_from upper below input ≡ takes_below all n input
  same_taken below all n input at same = ap (λ (b : Bool). input == upper || b) (in_case (cases_lt input n))
    where
      in_case : (input < n) ⊎ (n ≤ input) → stands below input ≡ (nat_lt input n && stands all input)
      in_case (inl before) = sym (same input (omega arith)) ∙ sym (ap (λ (b : Bool). b && stands all input) (lt-ltb input n before))
      in_case (inr past) = stands-past below input (omega arith) ∙ sym (ap (λ (b : Bool). b && stands all input) (le-ltb input n past))

  placed : (below : List Bool) (nodes : List Node) (k : ℕ) (node : Node) → slice_get nodes k ≡ Some node
      → stands (fold (with_below upper) below nodes) (length below + k)
      ≡ list_any (takes_below (fold (with_below upper) below nodes) (length below + k)) node.inputs
  placed below [] k node here = absurd cc
  placed below (first ∷ later) zero node here =
      let now : Bool = list_any (takes_from upper below) first.inputs in
      let all : List Bool = fold (with_below upper) (below ++ now ∷ []) later in
      let size : length (below ++ now ∷ []) ≡ length below + 1 = length-append below (now ∷ []) in
      let place : length below + 0 ≡ length below = omega arith in
      let same : first ≡ node = cc in
      ap (stands all) place
      ∙ kept (below ++ now ∷ []) later (length below) (omega arith)
      ∙ stands-next below now
      ∙ any_same (takes_from upper below) (takes_below all (length below + 0)) first.inputs
      (λ k d inside. same_taken below all (length below + 0) (get_or first.inputs k d) place (λ m before. kept (below ++ now ∷ []) later m (omega arith) ∙ stands-before below (now ∷ []) m before))
      ∙ ap (λ (it : Node). list_any (takes_below all (length below + 0)) it.inputs) same
  placed below (first ∷ later) (suc k) node here =
      let now : Bool = list_any (takes_from upper below) first.inputs in
      let all : List Bool = fold (with_below upper) (below ++ now ∷ []) later in
      let place : length (below ++ now ∷ []) + k ≡ length below + suc k = omega (arith, length-append below (now ∷ [])) in
      subst (λ (n : ℕ). stands all n ≡ list_any (takes_below all n) node.inputs) place (placed (below ++ now ∷ []) later k node here)

  size_below : (below : List Bool) (nodes : List Node) → length (fold (with_below upper) below nodes) ≡ length below + length nodes
  size_below below [] = omega arith
  size_below below (node ∷ later) =
      let added : List Bool = list_any (takes_from upper below) node.inputs ∷ [] in
      size_below (below ++ added) later ∙ omega (arith, length-append below added)

-- a node stands above one that takes it as an input, or that has an earlier input below it
pub above_by_earlier_inputs : (plan : Plan) (upper n : ℕ) (node : Node) → slice_get plan.nodes n ≡ Some node
    → is_above plan upper n ≡ list_any (λ input. input == upper || (nat_lt input n && is_above plan upper input)) node.inputs
above_by_earlier_inputs plan upper n node here =
    subst (λ (m : ℕ). is_above plan upper m ≡ list_any (λ input. input == upper || (nat_lt input m && is_above plan upper input)) node.inputs) (zero-add n)
    (placed upper [] plan.nodes n node here)

-- where inputs are lower than their node, each of them counts
pub above_by_inputs : (plan : Plan) (upper n : ℕ) (node : Node) → slice_get plan.nodes n ≡ Some node → All (λ input. input < n) node.inputs
    → is_above plan upper n ≡ list_any (λ input. input == upper || is_above plan upper input) node.inputs
above_by_inputs plan upper n node here lower =
    above_by_earlier_inputs plan upper n node here
    ∙ any_same (λ input. input == upper || (nat_lt input n && is_above plan upper input)) (λ input. input == upper || is_above plan upper input) node.inputs
    (λ k d inside.
    let input = get_or node.inputs k d in
    ap (λ (b : Bool). input == upper || (b && is_above plan upper input)) (lt-ltb input n (lower k d inside)))

-- a plan has no node of this number, so none stands above it
pub none_above_past : (plan : Plan) (upper n : ℕ) → length plan.nodes ≤ n → is_above plan upper n ≡ false
none_above_past plan upper n past = stands-past (fold (with_below upper) [] plan.nodes) n (omega (arith, size_below upper [] plan.nodes))

-- one input is enough, if it is the node itself or an earlier node below it
pub above_by_one_input : (plan : Plan) (upper n input : ℕ) (node : Node) → slice_get plan.nodes n ≡ Some node
    → list_any (λ i. i == input) node.inputs ≡ true → (input ≡ upper) ⊎ ((input < n) × (is_above plan upper input ≡ true)) → is_above plan upper n ≡ true
above_by_one_input plan upper n input node here takes way =
    above_by_earlier_inputs plan upper n node here
    ∙ any_more (λ i. i == input) (λ i. i == upper || (nat_lt i n && is_above plan upper i)) (λ i is. along i (eqb-true i input is) way) node.inputs takes
  where
    along : (i : ℕ) → i ≡ input → (input ≡ upper) ⊎ ((input < n) × (is_above plan upper input ≡ true))
        → (i == upper || (nat_lt i n && is_above plan upper i)) ≡ true
    along i same (inl own) = or_left (i == upper) _ (eq-eqb i upper (same ∙ own))
    along i same (inr below) =
        or_right (i == upper) _
        (ap (λ (b : Bool). b && is_above plan upper i) (lt-ltb i n (omega (arith, below.0))) ∙ ap (is_above plan upper) same ∙ below.1)

-- each input of a node is lower than the node
abbrev pub HasLowerInputs : Plan → Type 0
HasLowerInputs plan = (n : ℕ) (node : Node) → slice_get plan.nodes n ≡ Some node → All (λ input. input < n) node.inputs

module _ (plan : Plan) (inputs_lower : HasLowerInputs plan) (upper middle : ℕ) (first : is_above plan upper middle ≡ true) where
  above_within : (k lower : ℕ) → lower < k → is_above plan middle lower ≡ true → is_above plan upper lower ≡ true
  above_within zero lower within second = absurd (omega arith)
  above_within (suc k) lower within second =
      elim (slice_get_cases plan.nodes lower).1 [
        | inl found ↦ by_input (λ i before below. above_within k i (omega arith) below) found.0 found.2
        | inr past ↦ absurd (false≢true (sym (none_above_past plan middle lower past.0) ∙ second))
      ]
    where
      along : (i : ℕ) → (i < lower → is_above plan middle i ≡ true → is_above plan upper i ≡ true)
          → (i == middle || (nat_lt i lower && is_above plan middle i)) ≡ true → (i == upper || is_above plan upper i) ≡ true
      along i onward some =
          elim (or_cases (i == middle) (nat_lt i lower && is_above plan middle i) some) [
            | inl own ↦ or_right (i == upper) _ (ap (is_above plan upper) (eqb-true i middle own) ∙ first)
            | inr below ↦
                let parts = and_parts (nat_lt i lower) (is_above plan middle i) below in
                or_right (i == upper) _ (onward (ltb-true i lower parts.0) parts.1)
          ]

      by_input : ((i : ℕ) → i < lower → is_above plan middle i ≡ true → is_above plan upper i ≡ true)
          → (node : Node) → slice_get plan.nodes lower ≡ Some node → is_above plan upper lower ≡ true
      by_input onward node here =
          above_by_inputs plan upper lower node here (inputs_lower lower node here)
          ∙ any_more (λ i. i == middle || (nat_lt i lower && is_above plan middle i)) (λ i. i == upper || is_above plan upper i)
          (λ i. along i (onward i)) node.inputs
          (sym (above_by_earlier_inputs plan middle lower node here) ∙ second)

  -- what stands above a node stands above whatever that node does
  pub above_above : (lower : ℕ) → is_above plan middle lower ≡ true → is_above plan upper lower ≡ true
  above_above lower second = above_within (suc lower) lower (omega arith) second

-- ---- plans whose inputs are lower than their nodes

-- what stands above a node is lower than it
pub above_is_lower : (plan : Plan) → HasLowerInputs plan → (upper n : ℕ) → is_above plan upper n ≡ true → upper < n
above_is_lower plan inputs_lower upper n above = lower_within (suc n) n (omega arith) above
  where
    lower_within : (k n : ℕ) → n < k → is_above plan upper n ≡ true → upper < n
    lower_within zero n within above = absurd (omega arith)
    lower_within (suc k) n within above =
        elim (slice_get_cases plan.nodes n).1 [
          | inl found ↦
              some_lower (λ i before below. lower_within k i (omega arith) below) found.0.inputs (inputs_lower n found.0 found.2)
              (sym (above_by_inputs plan upper n found.0 found.2 (inputs_lower n found.0 found.2)) ∙ above)
          | inr past ↦ absurd (false≢true (sym (none_above_past plan upper n past.0) ∙ above))
        ]
      where
        some_lower : ((i : ℕ) → i < n → is_above plan upper i ≡ true → upper < i) → (inputs : List ℕ) → All (λ input. input < n) inputs
            → list_any (λ input. input == upper || is_above plan upper input) inputs ≡ true → upper < n
        some_lower onward [] lower some = absurd (false≢true some)
        some_lower onward (input ∷ inputs) lower some =
            let before : input < n = All-head (λ i. i < n) input inputs lower in
            elim (or_cases (input == upper || is_above plan upper input) (list_any (λ i. i == upper || is_above plan upper i) inputs) some) [
              | inl here ↦
                  elim (or_cases (input == upper) (is_above plan upper input) here) [
                    | inl own ↦ let same : input ≡ upper = eqb-true input upper own in omega arith
                    | inr below ↦ let less : upper < input = onward input before below in omega arith
                  ]
              | inr later ↦ some_lower onward inputs (All-tail (λ i. i < n) input inputs lower) later
            ]

-- ---- checked plans

unrefused : {X : Type 0} (broken : Bool) (rule : X) (rest : Option X) → cond broken (Some rule) rest ≡ None → (broken ≡ false) × (rest ≡ None)
unrefused true rule rest none = absurd cc
unrefused false rule rest none = (refl, none)

neither : {X : Type 0} (first second : Option X) → option_or first second ≡ None → (first ≡ None) × (second ≡ None)
neither None second none = (refl, none)
neither (Some x) second none = absurd cc

-- a node that breaks no rule has lower inputs
unrefused_lower : (before : List Node) (node : Node) → node_refusal before node ≡ None → list_all (λ input. nat_lt input (length before)) node.inputs ≡ true
unrefused_lower before node none =
    let sources = unrefused (is_source_kind node.kind && has_input node.inputs) _ _ none in
    let arity = unrefused (not (has_arity node.kind node.inputs)) _ _ sources.1 in
    let inputs = unrefused (not (list_all (λ input. nat_lt input (length before)) node.inputs)) _ _ arity.1 in
    not-false _ inputs.0

unrefused_at : (before nodes : List Node) → nodes_refusal before nodes ≡ None → (k : ℕ) (node : Node) → slice_get nodes k ≡ Some node
    → list_all (λ input. nat_lt input (length before + k)) node.inputs ≡ true
unrefused_at before [] none k node here = absurd cc
unrefused_at before (first ∷ later) none zero node here =
    let parts = neither (node_refusal before first) (nodes_refusal (before ++ first ∷ []) later) none in
    let place : length before ≡ length before + 0 = omega arith in
    let same : first ≡ node = cc in
    subst (λ (n : ℕ). list_all (λ input. nat_lt input n) node.inputs ≡ true) place
    (subst (λ (it : Node). list_all (λ input. nat_lt input (length before)) it.inputs ≡ true) same (unrefused_lower before first parts.0))
unrefused_at before (first ∷ later) none (suc k) node here =
    let parts = neither (node_refusal before first) (nodes_refusal (before ++ first ∷ []) later) none in
    let place : length (before ++ first ∷ []) + k ≡ length before + suc k = omega (arith, length-append before (first ∷ [])) in
    subst (λ (n : ℕ). list_all (λ input. nat_lt input n) node.inputs ≡ true) place (unrefused_at (before ++ first ∷ []) later parts.1 k node here)

-- the inputs of a checked plan are lower than their nodes
pub checked_inputs_lower : (plan : Plan) → IsChecked plan → HasLowerInputs plan
checked_inputs_lower plan checked n node here k d inside =
    ltb-true (get_or node.inputs k d) n
    (true_from_ne_false _
    (λ higher. false≢true (sym (list_all_at (λ input. nat_lt input n) node.inputs k d inside higher) ∙ all)))
  where
    sized : nodes_refusal [] plan.nodes ≡ None
    sized =
        let some = unrefused (length plan.nodes == 0) _ _ checked.unrefused in
        let few = unrefused (nat_lt 64 (length plan.nodes)) _ _ some.1 in
        (neither (nodes_refusal [] plan.nodes) _ few.1).0

    all : list_all (λ input. nat_lt input n) node.inputs ≡ true
    all = subst (λ (m : ℕ). list_all (λ input. nat_lt input m) node.inputs ≡ true) (zero-add n) (unrefused_at [] plan.nodes sized n node here)
