-- What the followers of a node are to a reader: how often each is among them, in which order they come, and which elements they take.
use Rattle.std.proofs.Common.{◌≡◌, ℕ, zero, suc, ◌+◌, ◌<◌, ◌≤◌, ◌==◌, Bool, true, false, cond, List, [], ◌∷◌, ◌++◌, length, get_or, map, Some, slice_get, refl, sym, ap, ◌∙◌, arith}
use Rattle.std.specs.List.{All, Contains, count_by, filter}
use Rattle.std.specs.List.Sorted.{IsNonDecreasing}
use Rattle.std.proofs.lemmas.Bool.{eq-eqb, eqb-true, ne_eqb}
use Rattle.std.proofs.lemmas.List.{length-map}
use Rattle.std.proofs.lemmas.List.Elements.{All-append, All-map, All-weaker}
use Rattle.std.proofs.lemmas.List.Sums.{length-filter, sum_by-append, sum_by-cons}
use Rattle.beam_values.specs.Checked.{IsChecked}
use Rattle.beam_values.specs.Nodes.{onward_of, strategy_of}
use Rattle.beam_values.specs.declared.plan.Node.{Node}
use Rattle.beam_values.specs.declared.plan.Plan.{Plan}
use Rattle.beam_values.proofs.Counts.{count_all, count_member, count_none}
use Rattle.pipeline_graph.specs.Followers.{followers_of, named}
use Rattle.pipeline_graph.specs.Rules.{is_window_into_kind}
use Rattle.pipeline_graph.proofs.FollowerChains.{followers_between, followers_from}
use Rattle.pipeline_graph.proofs.NodeStrategies.{inputs_agree}

-- ---- how often a node follows

count-named : (from number m : ℕ) (inputs : List ℕ) (b : Bool) → (number == m) ≡ b
    → count_by (λ it. it == m) (named from number inputs) ≡ cond b (count_by (λ input. input == from) inputs) 0
count-named from number m inputs true is =
    let named_by : List ℕ = filter (λ input. input == from) inputs in
    count_all (λ it. it == m) (named from number inputs) (All-map (λ it. (it == m) ≡ true) (λ _. number) named_by (λ k d inside. is))
    ∙ length-map named_by (λ _. number)
    ∙ length-filter (λ input. input == from) inputs
count-named from number m inputs false is =
    count_none (λ it. it == m) (named from number inputs) (All-map (λ it. (it == m) ≡ false) (λ _. number) (filter (λ input. input == from) inputs) (λ k d inside. is))

count-append : (p : ℕ → Bool) (xs ys : List ℕ) → count_by p (xs ++ ys) ≡ count_by p xs + count_by p ys
count-append p xs ys = sum_by-append (λ (x : ℕ). cond {A = ℕ} (p x) 1 0) xs ys

times_from : (from next : ℕ) (nodes : List Node) (k m : ℕ) (node : Node) → slice_get nodes k ≡ Some node → m ≡ next + k
    → count_by (λ it. it == m) (followers_from next nodes from) ≡ count_by (λ input. input == from) node.inputs
times_from from next [] k m node here at = absurd cc
times_from from next (first ∷ later) zero m node here at =
    let same : first ≡ node = cc in
    let own = count-named from next m first.inputs true (eq-eqb next m (omega arith)) in
    let others =
    count_none (λ it. it == m) (followers_from (next + 1) later from)
    (All-weaker (λ it. (next + 1 ≤ it) × (it < next + 1 + length later)) (λ it. (it == m) ≡ false) (λ it between. ne_eqb it m (λ e. omega (arith, between.0))) (followers_from (next + 1) later from)
    (followers_between from (next + 1) (next + 1 + length later) later (omega arith))) in
    count-append (λ it. it == m) (named from next first.inputs) (followers_from (next + 1) later from)
    ∙ omega (arith, own, others)
    ∙ ap (λ (it : Node). count_by (λ input. input == from) it.inputs) same
times_from from next (first ∷ later) (suc k) m node here at =
    let own = count-named from next m first.inputs false (ne_eqb next m (λ e. omega arith)) in
    count-append (λ it. it == m) (named from next first.inputs) (followers_from (next + 1) later from)
    ∙ omega (arith, own, times_from from (next + 1) later k m node here (omega arith))

pub times_followed : (plan : Plan) (n follower : ℕ) (node : Node) → slice_get plan.nodes follower ≡ Some node
    → count_by (λ it. it == follower) (followers_of plan n) ≡ count_by (λ input. input == n) node.inputs
times_followed plan n follower node here = times_from n 0 plan.nodes follower follower node here (omega arith)

-- ---- in which order they come

ascending-cons : (x : ℕ) (xs : List ℕ) → IsNonDecreasing xs → All (λ y. x ≤ y) xs → IsNonDecreasing (x ∷ xs)
ascending-cons x xs up least zero zero d before inside = omega arith
ascending-cons x xs up least zero (suc j) d before inside = least j d (omega arith)
ascending-cons x xs up least (suc i) zero d before inside = absurd (omega arith)
ascending-cons x xs up least (suc i) (suc j) d before inside = up i j d (omega arith) (omega arith)

ascending-onto : (number : ℕ) (named_by xs : List ℕ) → IsNonDecreasing xs → All (λ y. number ≤ y) xs → IsNonDecreasing (map (λ _. number) named_by ++ xs)
ascending-onto number [] xs up least = up
ascending-onto number (input ∷ inputs) xs up least =
    ascending-cons number (map (λ _. number) inputs ++ xs) (ascending-onto number inputs xs up least)
    (All-append (λ y. number ≤ y) (map (λ _. number) inputs) xs (All-map (λ y. number ≤ y) (λ _. number) inputs (λ k d inside. omega arith)) least)

ascending_from : (from next : ℕ) (nodes : List Node) → IsNonDecreasing (followers_from next nodes from)
ascending_from from next [] = λ i j d before inside. absurd (omega arith)
ascending_from from next (node ∷ later) =
    ascending-onto next (filter (λ input. input == from) node.inputs) (followers_from (next + 1) later from) (ascending_from from (next + 1) later)
    (All-weaker (λ it. (next + 1 ≤ it) × (it < next + 1 + length later)) (λ it. next ≤ it) (λ it between. omega (arith, between.0)) (followers_from (next + 1) later from)
    (followers_between from (next + 1) (next + 1 + length later) later (omega arith)))

pub followers_ascend : (plan : Plan) (n : ℕ) → IsNonDecreasing (followers_of plan n)
followers_ascend plan n = ascending_from n 0 plan.nodes

-- ---- which elements they take

-- a list that counts a number has it
counted_place : (m : ℕ) (xs : List ℕ) → 1 ≤ count_by (λ x. x == m) xs → (k : ℕ) × (k < length xs) × (get_or xs k m ≡ m)
counted_place m [] some = absurd (omega arith)
counted_place m (x ∷ xs) some =
    by_test (λ later. counted_place m xs later) (x == m) refl
  where
    by_test : (1 ≤ count_by (λ y. y == m) xs → (k : ℕ) × (k < length xs) × (get_or xs k m ≡ m))
        → (b : Bool) → (x == m) ≡ b → (k : ℕ) × (k < length (x ∷ xs)) × (get_or (x ∷ xs) k m ≡ m)
    by_test onward true is = (0, omega arith, eqb-true x m is)
    by_test onward false is =
        let none : cond {A = ℕ} (x == m) 1 0 ≡ 0 = ap (λ (b : Bool). cond {A = ℕ} b 1 0) is in
        let later = onward (omega (arith, some, sum_by-cons (λ (y : ℕ). cond {A = ℕ} (y == m) 1 0) x xs)) in
        (suc later.0, omega (arith, later.1), later.2)

pub followers_agree : (plan : Plan) (n follower : ℕ) (node : Node) → IsChecked plan → Contains (followers_of plan n) follower
    → slice_get plan.nodes follower ≡ Some node → is_window_into_kind node.kind ≡ false → strategy_of plan follower ≡ onward_of plan n
followers_agree plan n follower node checked among here other =
    let times = count_member (λ it. it == follower) (followers_of plan n) among.0 follower among.1 (eq-eqb _ follower among.2) in
    let place = counted_place n node.inputs (omega (arith, times, times_followed plan n follower node here)) in
    sym (inputs_agree plan follower node checked here other place.0 n place.1) ∙ ap (onward_of plan) place.2
