-- What comes to the Group of a side input: each element that its main collection puts out, tagged 1, and each of its view, tagged 0, and nothing else.
use Rattle.std.proofs.Common.{◌≡◌, ◌⊎◌, inl, inr, ℕ, zero, suc, ◌+◌, ◌-◌, ◌<◌, ◌≤◌, ◌==◌, ℤ, pos, Bool, true, false, cond, ◌||◌, List, [], ◌∷◌, ◌++◌, append-nil, get_or, map, take, drop, drop-drop, take-append-drop, Option, Some, None, slice_get, refl, sym, ap, ap₂, subst, ◌∙◌, arith}
use Rattle.std.specs.Prelude.{unwrap_or}
use Rattle.std.specs.List.{All, filter, flat_map, sum_by}
use Rattle.std.specs.Option.{option_map}
use Rattle.std.proofs.lemmas.Bool.{cases_lt, eq-eqb, eqb-true, false≢true, ne_eqb, or_left, or_right}
use Rattle.std.proofs.lemmas.List.Elements.{All-head, All-map, All-tail}
use Rattle.std.proofs.lemmas.List.Sums.{sum_by-append, sum_by-cons}
use Rattle.beam_values.specs.Bags.{IsSameBag}
use Rattle.beam_values.specs.Lines.{offsets}
use Rattle.beam_values.specs.Nodes.{has_kind, is_above, is_group_kind, is_source_kind}
use Rattle.beam_values.specs.Windows.{windows_of}
use Rattle.beam_values.specs.declared.arrival.Arrival.{Arrival}
use Rattle.beam_values.specs.declared.element.Element.{Element}
use Rattle.beam_values.specs.declared.file_text.FileText.{FileText}
use Rattle.beam_values.specs.declared.piece.Dead.{Dead}
use Rattle.beam_values.specs.declared.plan.Args.TheVariants.{Number}
use Rattle.beam_values.specs.declared.plan.FnKind.TheVariants.{Tag}
use Rattle.beam_values.specs.declared.plan.Node.{Node}
use Rattle.beam_values.specs.declared.plan.NodeKind.{NodeKind}
use Rattle.beam_values.specs.declared.plan.NodeKind.TheVariants.{Source, ParDo, Flatten, WindowInto, Group, Stateful, Write}
use Rattle.beam_values.specs.declared.plan.Plan.{Plan}
use Rattle.beam_values.specs.declared.plan.Trigger.{Trigger}
use Rattle.beam_values.proofs.Bags.{sum_by-filter, sum_by-map}
use Rattle.beam_model.specs.Chains.{Output, Arrives, PoisonAt, carried, chain, chain_from, through}
use Rattle.beam_model.specs.Dead.{item_without, items_without}
use Rattle.beam_model.specs.Estimators.{emission_at}
use Rattle.beam_model.specs.Flow.{elements_at, is_at}
use Rattle.beam_model.specs.Functions.{emits, valued}
use Rattle.beam_model.specs.Plain.{IsGroupAbove, IsPlainRun, is_met, plain_flow}
use Rattle.beam_model.specs.Plans.{default_trigger, node}
use Rattle.beam_model.specs.Positions.{Emission, Emits, Poison, SourceItem, emission, items, len_of, nothing}
use Rattle.beam_model.specs.Sides.{emission_puts_out, item_puts_out, own_output, put_out_by, put_out_from, put_out_of, put_out_through}
use Rattle.beam_model.specs.Spread.{emission_outputs, from_source, is_left_out, outputs_at, spread_all, spread_range}
use Rattle.beam_model.specs.Values.{int, null, pair}
use Rattle.beam_model.proofs.Above.{above_by_one_input}
use Rattle.side_inputs.specs.Nodes.{side_nodes}
use Rattle.side_inputs.specs.declared.nodes.ViewMode.{ViewMode}
use Rattle.book_core.proofs.CellsKept.{items_of_sources}
use Rattle.ended_runs.proofs.Grouped.{sum_alike}

-- an element as the first two nodes of a side input give it, with a tag of its value below the key Null
abbrev pub tagged : ℤ → Element → Element
tagged n e = valued e (pair null (pair (int n) e.value))

-- ---- numbers and lists

same_test : (a b : ℕ) → (a == b) ≡ (b == a)
same_test a b = by (a == b) refl
  where
    by : (t : Bool) → (a == b) ≡ t → t ≡ (b == a)
    by true e = sym (eq-eqb b a (sym (eqb-true a b e)))
    by false e = sym (ne_eqb b a (λ same. false≢true (sym e ∙ eq-eqb a b (sym same))))

none_of_each : {X Y : Type 0} (f : X → List Y) → ((x : X) → f x ≡ []) → (xs : List X) → flat_map f xs ≡ []
none_of_each f none [] = refl
none_of_each f none (x ∷ xs) = ap₂ (λ a b. a ++ b) (none x) (none_of_each f none xs)

-- ---- what no output can come to

-- a node puts out nothing where nothing comes of what is behind it
nothing_through : (onward : Element → List Element) → ((e : Element) → onward e ≡ []) → (kind : NodeKind) (e : Element) → put_out_through kind onward e ≡ []
nothing_through onward none (Source work args files estimator) e = refl
nothing_through onward none (ParDo work args) e = none_of_each onward none (unwrap_or (emits work args e) [])
nothing_through onward none Flatten e = none e
nothing_through onward none (WindowInto strategy) e =
    none_of_each (λ span. onward (record e { span = span })) (λ span. none (record e { span = span })) (windows_of strategy e.time)
nothing_through onward none (Group trigger) e = refl
nothing_through onward none (Stateful work args log) e = refl
nothing_through onward none (Write label) e = refl

other_output : (target n : ℕ) (e : Element) → (n == target) ≡ false → own_output target n e ≡ []
other_output target n e other = ap (λ (t : Bool). cond t (e ∷ []) []) other

none_taken : {Y : Type 0} (from : ℕ) (outputs : List Y) → outputs ≡ [] → (inputs : List ℕ) → flat_map (λ input. cond (input == from) outputs []) inputs ≡ []
none_taken from outputs none inputs = none_of_each (λ input. cond (input == from) outputs []) (λ input. by (input == from)) inputs
  where
    by : (t : Bool) → cond t outputs [] ≡ []
    by true = none
    by false = refl

-- later nodes put out nothing of an earlier one
nothing_before : (target : ℕ) (nodes : List Node) (next : ℕ) → target < next → (from : ℕ) (e : Element) → put_out_from target nodes next from e ≡ []
nothing_before target [] next before from e = refl
nothing_before target (node ∷ later) next before from e =
    let behind : (x : Element) → own_output target next x ++ put_out_from target later (next + 1) next x ≡ [] =
    λ x. ap₂ (λ (a b : List Element). a ++ b) (other_output target next x (ne_eqb next target (λ same. absurd (omega (arith, same)))))
    (nothing_before target later (next + 1) (omega arith) next x) in
    ap₂ (λ (a b : List Element). a ++ b)
    (none_taken from (put_out_through node.kind (λ x. own_output target next x ++ put_out_from target later (next + 1) next x) e)
    (nothing_through (λ x. own_output target next x ++ put_out_from target later (next + 1) next x) behind node.kind e) node.inputs)
    (nothing_before target later (next + 1) (omega arith) from e)

-- ---- weights of what arrives

-- the weight of an output's element, where it arrives at this node
abbrev weight_at : ℕ → (Element → ℕ) → Output → ℕ
weight_at to w (Arrives a) = cond (a.node == to) (w a.element) 0
weight_at to w (PoisonAt n) = 0

-- Where outputs weigh what two collections do together, so do those of a node of any kind, but for the node that is weighed at: poison and what arrives
-- elsewhere weigh nothing, and no node puts them out.
module _ (to : ℕ) (w u v : Element → ℕ) (n : ℕ) (other : (n == to) ≡ false) (onward : Element → List Output) (f g : Element → List Element)
    (alike : (e : Element) → sum_by (weight_at to w) (onward e) ≡ sum_by u (f e) + sum_by v (g e)) where
  each_weighs : {X : Type 0} (h : X → Element) (xs : List X)
      → sum_by (weight_at to w) (flat_map (λ x. onward (h x)) xs) ≡ sum_by u (flat_map (λ x. f (h x)) xs) + sum_by v (flat_map (λ x. g (h x)) xs)
  each_weighs h [] = refl
  each_weighs h (x ∷ xs) =
      let all = sum_by-append (weight_at to w) (onward (h x)) (flat_map (λ y. onward (h y)) xs) in
      let first = sum_by-append u (f (h x)) (flat_map (λ y. f (h y)) xs) in
      let second = sum_by-append v (g (h x)) (flat_map (λ y. g (h y)) xs) in
      let here = alike (h x) in
      let later = each_weighs h xs in
      omega (arith, all, first, second, here, later)

  carried_weighs : (given : Option (List Element))
      → sum_by (weight_at to w) (carried n onward given) ≡ sum_by u (flat_map f (unwrap_or given [])) + sum_by v (flat_map g (unwrap_or given []))
  carried_weighs None = refl
  carried_weighs (Some outputs) = each_weighs (λ e. e) outputs

  arrival_weighs : (e : Element) → sum_by (weight_at to w) (Arrives (record { node = n; element = e }) ∷ []) ≡ 0
  arrival_weighs e = ap (λ (t : Bool). 0 + cond t (w e) 0) other

  through_weighs : (kind : NodeKind) (e : Element)
      → sum_by (weight_at to w) (through n kind onward e) ≡ sum_by u (put_out_through kind f e) + sum_by v (put_out_through kind g e)
  through_weighs (Source work args files estimator) e = refl
  through_weighs (ParDo work args) e = carried_weighs (emits work args e)
  through_weighs Flatten e = alike e
  through_weighs (WindowInto strategy) e = each_weighs (λ span. record e { span = span }) (windows_of strategy e.time)
  through_weighs (Group trigger) e = arrival_weighs e
  through_weighs (Stateful work args log) e = arrival_weighs e
  through_weighs (Write label) e = arrival_weighs e

-- as often as a node names an input
taken_weighs : (a : Output → ℕ) (u v : Element → ℕ) (from : ℕ) (outputs : List Output) (first second : List Element)
    → sum_by a outputs ≡ sum_by u first + sum_by v second → (inputs : List ℕ)
    → sum_by a (flat_map (λ input. cond (input == from) outputs []) inputs)
    ≡ sum_by u (flat_map (λ input. cond (input == from) first []) inputs) + sum_by v (flat_map (λ input. cond (input == from) second []) inputs)
taken_weighs a u v from outputs first second alike [] = refl
taken_weighs a u v from outputs first second alike (input ∷ inputs) =
    by (input == from) (flat_map (λ i. cond (i == from) outputs []) inputs) (flat_map (λ i. cond (i == from) first []) inputs)
    (flat_map (λ i. cond (i == from) second []) inputs) (taken_weighs a u v from outputs first second alike inputs)
  where
    by : (t : Bool) (all_later : List Output) (first_later second_later : List Element) → sum_by a all_later ≡ sum_by u first_later + sum_by v second_later
        → sum_by a (cond t outputs [] ++ all_later) ≡ sum_by u (cond t first [] ++ first_later) + sum_by v (cond t second [] ++ second_later)
    by true all_later first_later second_later later =
        let all = sum_by-append a outputs all_later in
        let one = sum_by-append u first first_later in
        let two = sum_by-append v second second_later in
        omega (arith, all, one, two, alike, later)
    by false all_later first_later second_later later = later

-- later nodes bring nothing to an earlier one
none_before : (to : ℕ) (w : Element → ℕ) (nodes : List Node) (next : ℕ) → to < next → (from : ℕ) (e : Element)
    → sum_by (weight_at to w) (chain_from nodes next from e) ≡ 0
none_before to w [] next before from e = refl
none_before to w (node ∷ later) next before from e =
    let onward : Element → List Output = chain_from later (next + 1) next in
    let taken = flat_map (λ input. cond (input == from) (through next node.kind onward e) []) node.inputs in
    let all = sum_by-append (weight_at to w) taken (chain_from later (next + 1) from e) in
    let behind = through_weighs to w w w next (ne_eqb next to (λ same. absurd (omega (arith, same)))) onward (λ x. []) (λ x. [])
    (λ x. none_before to w later (next + 1) (omega arith) next x) node.kind e in
    let empty : sum_by w (put_out_through node.kind (λ x. []) e) ≡ 0 = ap (sum_by w) (nothing_through (λ x. []) (λ x. refl) node.kind e) in
    let nothing : sum_by (weight_at to w) (through next node.kind onward e) ≡ 0 = omega (arith, behind, empty) in
    let here = taken_weighs (weight_at to w) w w from (through next node.kind onward e) [] [] nothing node.inputs in
    let no_inputs : sum_by w (flat_map (λ input. cond (input == from) [] []) node.inputs) ≡ 0 = ap (sum_by w) (none_taken from [] refl node.inputs) in
    let rest = none_before to w later (next + 1) (omega arith) from e in
    omega (arith, all, here, no_inputs, rest)

-- ---- the nodes of a side input

cond_is : (t : Bool) (n : ℕ) → t ≡ true → cond t n 0 ≡ n
cond_is t n is = ap (λ (b : Bool). cond b n 0) is

cond_not : (t : Bool) (n : ℕ) → t ≡ false → cond t n 0 ≡ 0
cond_not t n is = ap (λ (b : Bool). cond b n 0) is

-- one input of a node
input_weighs : (a : Output → ℕ) (from input : ℕ) (outputs : List Output)
    → sum_by a (cond (input == from) outputs []) ≡ cond (input == from) (sum_by a outputs) 0
input_weighs a from input outputs = by (input == from)
  where
    by : (t : Bool) → sum_by a (cond t outputs []) ≡ cond t (sum_by a outputs) 0
    by true = refl
    by false = refl

module _ (to : ℕ) (w : Element → ℕ) where
  one_input_weighs : (from input : ℕ) (outputs : List Output) (rest : List Output)
      → sum_by (weight_at to w) (flat_map (λ i. cond (i == from) outputs []) (input ∷ []) ++ rest)
      ≡ cond (input == from) (sum_by (weight_at to w) outputs) 0 + sum_by (weight_at to w) rest
  one_input_weighs from input outputs rest =
      let all = sum_by-append (weight_at to w) (cond (input == from) outputs [] ++ []) rest in
      let one = sum_by-append (weight_at to w) (cond (input == from) outputs []) [] in
      let here = input_weighs (weight_at to w) from input outputs in
      omega (arith, all, one, here)

  -- what is tagged gives one element
  tagged_weighs : (n : ℕ) (z : ℤ) (onward : Element → List Output) (e : Element)
      → sum_by (weight_at to w) (through n (ParDo Tag (Number z)) onward e) ≡ sum_by (weight_at to w) (onward (tagged z e))
  tagged_weighs n z onward e = ap (sum_by (weight_at to w)) (append-nil (onward (tagged z e)))

  group_weighs : (trigger : Trigger) (later : List Node) (n input from : ℕ) (e : Element) → n ≡ to
      → sum_by (weight_at to w) (chain_from (node (Group trigger) (input ∷ []) ∷ later) n from e) ≡ cond (input == from) (w e) 0
  group_weighs trigger later n input from e here =
      let all = one_input_weighs from input (Arrives (record { node = n; element = e }) ∷ []) (chain_from later (n + 1) from e) in
      let rest = none_before to w later (n + 1) (omega (arith, here)) from e in
      let own : sum_by (weight_at to w) (Arrives (record { node = n; element = e }) ∷ []) ≡ w e =
      sum_by-cons (weight_at to w) (Arrives (record { node = n; element = e })) []
      ∙ ap (λ (m : ℕ). m + 0) (cond_is (n == to) (w e) (eq-eqb n to here))
      ∙ omega arith in
      let same = ap (λ (m : ℕ). cond (input == from) m 0) own in
      omega (arith, all, rest, same)

  flatten_weighs : (trigger : Trigger) (later : List Node) (n first second behind from : ℕ) (e : Element) → behind ≡ n → n + 1 ≡ to → from < n
      → sum_by (weight_at to w) (chain_from (node Flatten (first ∷ second ∷ []) ∷ node (Group trigger) (behind ∷ []) ∷ later) n from e)
      ≡ cond (first == from) (w e) 0 + cond (second == from) (w e) 0
  flatten_weighs trigger later n first second behind from e own last before =
      let group : List Node = node (Group trigger) (behind ∷ []) ∷ later in
      let onward : List Output = chain_from group (n + 1) n e in
      let passed : sum_by (weight_at to w) onward ≡ w e =
      group_weighs trigger later (n + 1) behind n e last ∙ cond_is (behind == n) (w e) (eq-eqb behind n own) in
      let rest : sum_by (weight_at to w) (chain_from group (n + 1) from e) ≡ 0 =
      group_weighs trigger later (n + 1) behind from e last
      ∙ cond_not (behind == from) (w e) (ne_eqb behind from (λ same. absurd (omega (arith, same, own)))) in
      let one = sum_by-append (weight_at to w) (cond (first == from) onward [] ++ (cond (second == from) onward [] ++ [])) (chain_from group (n + 1) from e) in
      let two = sum_by-append (weight_at to w) (cond (first == from) onward []) (cond (second == from) onward [] ++ []) in
      let three = sum_by-append (weight_at to w) (cond (second == from) onward []) [] in
      let four = input_weighs (weight_at to w) from first onward ∙ ap (λ (m : ℕ). cond (first == from) m 0) passed in
      let five = input_weighs (weight_at to w) from second onward ∙ ap (λ (m : ℕ). cond (second == from) m 0) passed in
      omega (arith, rest, one, two, three, four, five)

  second_weighs : (z : ℤ) (trigger : Trigger) (later : List Node) (n view first second behind from : ℕ) (e : Element)
      → first < n → second ≡ n → behind ≡ n + 1 → (n + 1) + 1 ≡ to → from < n
      → sum_by (weight_at to w)
      (chain_from (node (ParDo Tag (Number z)) (view ∷ []) ∷ node Flatten (first ∷ second ∷ []) ∷ node (Group trigger) (behind ∷ []) ∷ later) n from e)
      ≡ cond (view == from) (w (tagged z e)) 0 + cond (first == from) (w e) 0
  second_weighs z trigger later n view first second behind from e low own next last before =
      let flat : List Node = node Flatten (first ∷ second ∷ []) ∷ node (Group trigger) (behind ∷ []) ∷ later in
      let onward : Element → List Output = chain_from flat (n + 1) n in
      let all = one_input_weighs from view (through n (ParDo Tag (Number z)) onward e) (chain_from flat (n + 1) from e) in
      let flattened = flatten_weighs trigger later (n + 1) first second behind n (tagged z e) next last (omega arith) in
      let not_first = cond_not (first == n) (w (tagged z e)) (ne_eqb first n (λ same. absurd (omega (arith, same)))) in
      let is_second = cond_is (second == n) (w (tagged z e)) (eq-eqb second n own) in
      let passed : sum_by (weight_at to w) (through n (ParDo Tag (Number z)) onward e) ≡ w (tagged z e) =
      tagged_weighs n z onward e ∙ omega (arith, flattened, not_first, is_second) in
      let taken = ap (λ (m : ℕ). cond (view == from) m 0) passed in
      let rest = flatten_weighs trigger later (n + 1) first second behind from e next last (omega arith) in
      let none = cond_not (second == from) (w e) (ne_eqb second from (λ same. absurd (omega (arith, same, own)))) in
      omega (arith, all, taken, rest, none)

  side_weighs : (later : List Node) (main view first : ℕ) (mode : ViewMode) (from : ℕ) (e : Element)
      → main < first → view < first → first + 3 ≡ to → from < first
      → sum_by (weight_at to w) (chain_from (side_nodes main view first mode ++ later) first from e)
      ≡ cond (main == from) (w (tagged (pos 1) e)) 0 + cond (view == from) (w (tagged (pos 0) e)) 0
  side_weighs later main view first mode from e main_before view_before last before =
      let rest_nodes : List Node = drop 4 (side_nodes main view first mode) ++ later in
      let others : List Node = drop 1 (side_nodes main view first mode) ++ later in
      let onward : Element → List Output = chain_from others (first + 1) first in
      let all = one_input_weighs from main (through first (ParDo Tag (Number (pos 1))) onward e) (chain_from others (first + 1) from e) in
      let second = second_weighs (pos 0) default_trigger rest_nodes (first + 1) view first (first + 1) (first + 2) first (tagged (pos 1) e)
      (omega arith) refl (omega arith) (omega (arith, last)) (omega arith) in
      let not_view = cond_not (view == first) (w (tagged (pos 0) (tagged (pos 1) e))) (ne_eqb view first (λ same. absurd (omega (arith, same)))) in
      let is_first = cond_is (first == first) (w (tagged (pos 1) e)) (eq-eqb first first refl) in
      let passed : sum_by (weight_at to w) (through first (ParDo Tag (Number (pos 1))) onward e) ≡ w (tagged (pos 1) e) =
      tagged_weighs first (pos 1) onward e ∙ omega (arith, second, not_view, is_first) in
      let taken = ap (λ (m : ℕ). cond (main == from) m 0) passed in
      let rest = second_weighs (pos 0) default_trigger rest_nodes (first + 1) view first (first + 1) (first + 2) from e
      (omega arith) refl (omega arith) (omega (arith, last)) (omega arith) in
      let none = cond_not (first == from) (w e) (ne_eqb first from (λ same. absurd (omega (arith, same)))) in
      omega (arith, all, taken, rest, none)

-- ---- node after node, up to a side input

own_weighs : (u : Element → ℕ) (target from : ℕ) (e : Element) → cond (target == from) (u e) 0 ≡ sum_by u (own_output target from e)
own_weighs u target from e = ap (λ (t : Bool). cond t (u e) 0) (same_test target from) ∙ by (from == target)
  where
    by : (t : Bool) → cond t (u e) 0 ≡ sum_by u (cond t (e ∷ []) [])
    by true = omega (arith, sum_by-cons u e [])
    by false = refl

-- what a node puts out of an output of `from`, itself where they are one node
abbrev put_out_with : ℕ → List Node → ℕ → ℕ → Element → List Element
put_out_with target nodes next from e = own_output target from e ++ put_out_from target nodes next from e

-- a node that isn't one of the first three of a side input, whose outputs come to its Group
abbrev pub IsBeside : ℕ → ℕ → Type 0
IsBeside first n = (n < first) ⊎ (first + 3 ≤ n)

module _ (first main view : ℕ) (mode : ViewMode) (main_before : main < first) (view_before : view < first) (w : Element → ℕ) where
  abbrev arriving : Output → ℕ
  arriving = weight_at (first + 3) w

  abbrev of_main : Element → ℕ
  of_main e = w (tagged (pos 1) e)

  abbrev of_view : Element → ℕ
  of_view e = w (tagged (pos 0) e)

  -- at the five nodes: what comes of them comes of their two inputs, and neither of these is put out any more
  here_weighs : (nodes : List Node) → take 5 nodes ≡ side_nodes main view first mode → (from : ℕ) → from < first → (e : Element)
      → sum_by arriving (chain_from nodes first from e)
      ≡ sum_by of_main (put_out_with main nodes first from e) + sum_by of_view (put_out_with view nodes first from e)
  here_weighs nodes are from before e =
      let split : nodes ≡ side_nodes main view first mode ++ drop 5 nodes = sym (take-append-drop 5 nodes) ∙ ap (λ (l : List Node). l ++ drop 5 nodes) are in
      let all = ap (λ (l : List Node). sum_by arriving (chain_from l first from e)) split in
      let came = side_weighs (first + 3) w (drop 5 nodes) main view first mode from e main_before view_before refl before in
      let no_main = ap (λ (l : List Element). sum_by of_main (own_output main from e ++ l)) (nothing_before main nodes first main_before from e) in
      let no_view = ap (λ (l : List Element). sum_by of_view (own_output view from e ++ l)) (nothing_before view nodes first view_before from e) in
      let one = sum_by-append of_main (own_output main from e) [] in
      let two = sum_by-append of_view (own_output view from e) [] in
      let main_own = own_weighs of_main main from e in
      let view_own = own_weighs of_view view from e in
      omega (arith, all, came, no_main, no_view, one, two, main_own, view_own)

  suffix_weighs : (k : ℕ) (nodes : List Node) (next : ℕ) → next + k ≡ first → take 5 (drop k nodes) ≡ side_nodes main view first mode
      → (from : ℕ) → from < next → (e : Element)
      → sum_by arriving (chain_from nodes next from e)
      ≡ sum_by of_main (put_out_with main nodes next from e) + sum_by of_view (put_out_with view nodes next from e)
  suffix_weighs zero nodes next at are from before e =
      let same : first ≡ next = omega (arith, at) in
      subst (λ (n : ℕ).
      sum_by arriving (chain_from nodes n from e) ≡ sum_by of_main (put_out_with main nodes n from e) + sum_by of_view (put_out_with view nodes n from e)) same
      (here_weighs nodes are from (omega (arith, same)) e)
  suffix_weighs (suc k) [] next at are from before e = absurd (cc)
  suffix_weighs (suc k) (node ∷ later) next at are from before e =
      let along : (next + 1) + k ≡ first = omega (arith, at) in
      let onward : Element → List Output = chain_from later (next + 1) next in
      let mains : Element → List Element = put_out_with main later (next + 1) next in
      let views : Element → List Element = put_out_with view later (next + 1) next in
      let given = through_weighs (first + 3) w of_main of_view next (ne_eqb next (first + 3) (λ same. absurd (omega (arith, same, at)))) onward mains views
      (λ x. suffix_weighs k later (next + 1) along are next (omega arith) x) node.kind e in
      let all_taken = flat_map (λ input. cond (input == from) (through next node.kind onward e) []) node.inputs in
      let main_taken = flat_map (λ input. cond (input == from) (put_out_through node.kind mains e) []) node.inputs in
      let view_taken = flat_map (λ input. cond (input == from) (put_out_through node.kind views e) []) node.inputs in
      let taken = taken_weighs arriving of_main of_view from
      (through next node.kind onward e) (put_out_through node.kind mains e) (put_out_through node.kind views e) given node.inputs in
      let rest = suffix_weighs k later (next + 1) along are from (omega arith) e in
      let one = sum_by-append arriving all_taken (chain_from later (next + 1) from e) in
      let two = sum_by-append of_main (own_output main from e) (main_taken ++ put_out_from main later (next + 1) from e) in
      let three = sum_by-append of_main main_taken (put_out_from main later (next + 1) from e) in
      let four = sum_by-append of_main (own_output main from e) (put_out_from main later (next + 1) from e) in
      let five = sum_by-append of_view (own_output view from e) (view_taken ++ put_out_from view later (next + 1) from e) in
      let six = sum_by-append of_view view_taken (put_out_from view later (next + 1) from e) in
      let seven = sum_by-append of_view (own_output view from e) (put_out_from view later (next + 1) from e) in
      omega (arith, taken, rest, one, two, three, four, five, six, seven)

  -- ---- a whole plan

  module _ (plan : Plan) (are : take 5 (drop first plan.nodes) ≡ side_nodes main view first mode) where
    chain_weighs : (n : ℕ) → IsBeside first n → (e : Element)
        → sum_by arriving (chain plan n e) ≡ sum_by of_main (put_out_by plan main n e) + sum_by of_view (put_out_by plan view n e)
    chain_weighs n (inl before) e =
        let place : (n + 1) + (first - (n + 1)) ≡ first = omega arith in
        let those : take 5 (drop (first - (n + 1)) (drop (n + 1) plan.nodes)) ≡ side_nodes main view first mode =
        ap (take 5) (drop-drop (first - (n + 1)) (n + 1) plan.nodes ∙ ap (λ (k : ℕ). drop k plan.nodes) place) ∙ are in
        suffix_weighs (first - (n + 1)) (drop (n + 1) plan.nodes) (n + 1) place those n (omega arith) e
    chain_weighs n (inr after) e =
        let came = none_before (first + 3) w (drop (n + 1) plan.nodes) (n + 1) (omega arith) n e in
        let no_main : put_out_by plan main n e ≡ [] =
        ap₂ (λ (a b : List Element). a ++ b) (other_output main n e (ne_eqb n main (λ same. absurd (omega (arith, same)))))
        (nothing_before main (drop (n + 1) plan.nodes) (n + 1) (omega arith) n e) in
        let no_view : put_out_by plan view n e ≡ [] =
        ap₂ (λ (a b : List Element). a ++ b) (other_output view n e (ne_eqb n view (λ same. absurd (omega (arith, same)))))
        (nothing_before view (drop (n + 1) plan.nodes) (n + 1) (omega arith) n e) in
        let one = ap (sum_by of_main) no_main in
        let two = ap (sum_by of_view) no_view in
        omega (arith, came, one, two)

    -- what weighs alike one by one weighs alike in a list
    listed_weighs : {X : Type 0} (P : X → Type 0) (f : X → List Output) (g h : X → List Element)
        → ((x : X) → P x → sum_by arriving (f x) ≡ sum_by of_main (g x) + sum_by of_view (h x)) → (xs : List X) → All P xs
        → sum_by arriving (flat_map f xs) ≡ sum_by of_main (flat_map g xs) + sum_by of_view (flat_map h xs)
    listed_weighs P f g h each [] all = refl
    listed_weighs P f g h each (x ∷ xs) all =
        let one = sum_by-append arriving (f x) (flat_map f xs) in
        let two = sum_by-append of_main (g x) (flat_map g xs) in
        let three = sum_by-append of_view (h x) (flat_map h xs) in
        let here = each x (All-head P x xs all) in
        let later = listed_weighs P f g h each xs (All-tail P x xs all) in
        omega (arith, one, two, three, here, later)

    emission_weighs : (n : ℕ) → IsBeside first n → (emission : Emission)
        → sum_by arriving (emission_outputs plan n emission)
        ≡ sum_by of_main (emission_puts_out plan main n emission) + sum_by of_view (emission_puts_out plan view n emission)
    emission_weighs n beside (Emits values declared) =
        listed_weighs (λ v. Unit {0}) (λ v. chain plan n (from_source v))
        (λ v. put_out_by plan main n (from_source v)) (λ v. put_out_by plan view n (from_source v))
        (λ v known. chain_weighs n beside (from_source v)) values (λ k d inside. tt)
    emission_weighs n beside Poison = refl

    position_weighs : (item : SourceItem) → IsBeside first item.node → (p : ℕ)
        → sum_by arriving (outputs_at plan item p)
        ≡ sum_by of_main (emission_puts_out plan main item.node (emission_at item p))
        + sum_by of_view (emission_puts_out plan view item.node (emission_at item p))
    position_weighs item beside p = by (is_left_out item p)
      where
        by : (t : Bool) → sum_by arriving (cond t [] (emission_outputs plan item.node (emission item.work item.args item.file p)))
            ≡ sum_by of_main (emission_puts_out plan main item.node (cond t nothing (emission item.work item.args item.file p)))
            + sum_by of_view (emission_puts_out plan view item.node (cond t nothing (emission item.work item.args item.file p)))
        by true = refl
        by false = emission_weighs item.node beside (emission item.work item.args item.file p)

    item_weighs : (item : SourceItem) → IsBeside first item.node
        → sum_by arriving (spread_range plan item 0 (len_of item))
        ≡ sum_by of_main (item_puts_out plan main item) + sum_by of_view (item_puts_out plan view item)
    item_weighs item beside =
        listed_weighs (λ p. Unit {0}) (outputs_at plan item)
        (λ p. emission_puts_out plan main item.node (emission_at item p)) (λ p. emission_puts_out plan view item.node (emission_at item p))
        (λ p known. position_weighs item beside p) (offsets 0 (len_of item - 0)) (λ k d inside. tt)

    flow_weighs : (items : List SourceItem) (panes : List Arrival) → All (λ item. IsBeside first item.node) items → All (λ pane. IsBeside first pane.node) panes
        → sum_by arriving (plain_flow plan items panes)
        ≡ sum_by of_main (put_out_of plan items panes main) + sum_by of_view (put_out_of plan items panes view)
    flow_weighs items panes items_beside panes_beside =
        let read = listed_weighs (λ (item : SourceItem). IsBeside first item.node) (λ item. spread_range plan item 0 (len_of item))
        (item_puts_out plan main) (item_puts_out plan view) item_weighs items items_beside in
        let fired = listed_weighs (λ (pane : Arrival). IsBeside first pane.node) (λ pane. chain plan pane.node pane.element)
        (λ pane. put_out_by plan main pane.node pane.element) (λ pane. put_out_by plan view pane.node pane.element)
        (λ pane beside. chain_weighs pane.node beside pane.element) panes panes_beside in
        let one = sum_by-append arriving (spread_all plan items) (flat_map (λ (pane : Arrival). chain plan pane.node pane.element) panes) in
        let two = sum_by-append of_main (flat_map (item_puts_out plan main) items)
        (flat_map (λ (pane : Arrival). put_out_by plan main pane.node pane.element) panes) in
        let three = sum_by-append of_view (flat_map (item_puts_out plan view) items)
        (flat_map (λ (pane : Arrival). put_out_by plan view pane.node pane.element) panes) in
        omega (arith, read, fired, one, two, three)

-- ---- what arrives, as a bag

-- what arrives at the barrier is met there
met_here : (plan : Plan) (to : ℕ) (w : Element → ℕ) (output : Output) → cond (is_met plan to output) (weight_at to w output) 0 ≡ weight_at to w output
met_here plan to w (Arrives a) = by (a.node == to) (is_above plan a.node to)
  where
    by : (t u : Bool) → cond (t || u) (cond t (w a.element) 0) 0 ≡ cond t (w a.element) 0
    by true u = refl
    by false true = refl
    by false false = refl
met_here plan to w (PoisonAt n) = by (n == to || is_above plan n to)
  where
    by : (t : Bool) → cond {A = ℕ} t 0 0 ≡ 0
    by true = refl
    by false = refl

elements_weigh : (to : ℕ) (w : Element → ℕ) (arrivals : List Arrival) → sum_by w (elements_at to arrivals) ≡ sum_by (weight_at to w) (map Arrives arrivals)
elements_weigh to w arrivals =
    sum_by-map w (λ (a : Arrival). a.element) (filter (is_at to) arrivals)
    ∙ sum_by-filter (λ (a : Arrival). w a.element) (is_at to) arrivals
    ∙ sym (sum_by-map (weight_at to w) Arrives arrivals)

-- What arrives at the Group of a side input is what its main collection puts out, tagged 1, and what its view does, tagged 0. No source and no pane may be
-- of one of its tagging nodes or its Flatten: an output of these comes to the Group with no tag.
pub side_arrivals : (plan : Plan) (items : List SourceItem) (first main view : ℕ) (mode : ViewMode) (panes arrivals : List Arrival)
    → take 5 (drop first plan.nodes) ≡ side_nodes main view first mode → main < first → view < first
    → All (λ item. IsBeside first item.node) items → All (λ pane. IsBeside first pane.node) panes
    → IsSameBag (filter (is_met plan (first + 3)) (plain_flow plan items panes)) (map Arrives arrivals)
    → IsSameBag (elements_at (first + 3) arrivals)
    (map (tagged (pos 1)) (put_out_of plan items panes main) ++ map (tagged (pos 0)) (put_out_of plan items panes view))
side_arrivals plan items first main view mode panes arrivals are main_before view_before items_beside panes_beside met = record {
  weighs = λ w.
      let to : ℕ = first + 3 in
      let flow : List Output = plain_flow plan items panes in
      let mains : List Element = put_out_of plan items panes main in
      let views : List Element = put_out_of plan items panes view in
      let arrived = elements_weigh to w arrivals in
      let same = met.weighs (weight_at to w) in
      let filtered = sum_by-filter (weight_at to w) (is_met plan to) flow in
      let all = sum_alike (λ output. cond (is_met plan to output) (weight_at to w output) 0) (weight_at to w) (met_here plan to w) flow in
      let flows = flow_weighs first main view mode main_before view_before w plan are items panes items_beside panes_beside in
      let one = sum_by-append w (map (tagged (pos 1)) mains) (map (tagged (pos 0)) views) in
      let two = sum_by-map w (tagged (pos 1)) mains in
      let three = sum_by-map w (tagged (pos 0)) views in
      omega (arith, arrived, same, filtered, all, flows, one, two, three);
}

-- ---- the nodes of a side input in its plan

pub slice_get_drop : {X : Type 0} (n : ℕ) (xs : List X) (k : ℕ) → slice_get (drop n xs) k ≡ slice_get xs (n + k)
slice_get_drop zero xs k = ap (slice_get xs) (omega arith)
slice_get_drop (suc n) [] k = refl
slice_get_drop (suc n) (x ∷ xs) k =
    let place : suc (n + k) ≡ suc n + k = omega arith in
    slice_get_drop n xs k ∙ ap (slice_get (x ∷ xs)) place

slice_get_front : {X : Type 0} (n : ℕ) (xs : List X) (k : ℕ) → k < n → slice_get (take n xs) k ≡ slice_get xs k
slice_get_front zero xs k low = absurd (omega arith)
slice_get_front (suc n) [] k low = refl
slice_get_front (suc n) (x ∷ xs) zero low = refl
slice_get_front (suc n) (x ∷ xs) (suc k) low = slice_get_front n xs k (omega arith)

module _ (plan : Plan) (first main view : ℕ) (mode : ViewMode) (are : take 5 (drop first plan.nodes) ≡ side_nodes main view first mode) where
  pub side_node : (k : ℕ) → k < 5 → slice_get plan.nodes (first + k) ≡ slice_get (side_nodes main view first mode) k
  side_node k low = sym (slice_get_drop first plan.nodes k) ∙ sym (slice_get_front 5 (drop first plan.nodes) k low) ∙ ap (λ (l : List Node). slice_get l k) are

  first_node : slice_get plan.nodes first ≡ Some (node (ParDo Tag (Number (pos 1))) (main ∷ []))
  first_node = let place : first ≡ first + 0 = omega arith in ap (slice_get plan.nodes) place ∙ side_node 0 (omega arith)

  -- its Group is below whatever its Flatten is below
  through_flatten : (upper : ℕ) → is_above plan upper (first + 2) ≡ true → is_above plan upper (first + 3) ≡ true
  through_flatten upper above =
      above_by_one_input plan upper (first + 3) (first + 2) (node (Group default_trigger) ((first + 2) ∷ [])) (side_node 3 (omega arith))
      (or_left ((first + 2) == (first + 2)) false (eq-eqb (first + 2) (first + 2) refl)) (inr (omega arith, above))

  -- both collections come to the Group
  pub side_above : (is_above plan main (first + 3) ≡ true) × (is_above plan view (first + 3) ≡ true)
  side_above = (
    through_flatten main
        (above_by_one_input plan main (first + 2) first (node Flatten (first ∷ (first + 1) ∷ [])) (side_node 2 (omega arith))
        (or_left (first == first) _ (eq-eqb first first refl))
        (inr (
          omega arith,
          above_by_one_input plan main first main (node (ParDo Tag (Number (pos 1))) (main ∷ [])) first_node
              (or_left (main == main) false (eq-eqb main main refl)) (inl refl),
        ))),
    through_flatten view
        (above_by_one_input plan view (first + 2) (first + 1) (node Flatten (first ∷ (first + 1) ∷ [])) (side_node 2 (omega arith))
        (or_right (first == (first + 1)) _ (or_left ((first + 1) == (first + 1)) false (eq-eqb (first + 1) (first + 1) refl)))
        (inr (
          omega arith,
          above_by_one_input plan view (first + 1) view (node (ParDo Tag (Number (pos 0))) (view ∷ [])) (side_node 1 (omega arith))
              (or_left (view == view) false (eq-eqb view view refl)) (inl refl),
        ))),
  )

  -- ---- which nodes are beside it

  -- A node of a kind that none of the first three has: a source, say, or a Group.
  pub beside_by_kind : (passes : NodeKind → Bool)
      → passes (ParDo Tag (Number (pos 1))) ≡ false → passes (ParDo Tag (Number (pos 0))) ≡ false → passes Flatten ≡ false
      → (n : ℕ) → has_kind passes plan n ≡ true → IsBeside first n
  beside_by_kind passes no_main no_view no_flatten n has = in_case (cases_lt n first) (cases_lt n (first + 3))
    where
      kind_at : (k : ℕ) → k < 5 → n ≡ first + k
          → unwrap_or (option_map (λ (it : Node). passes it.kind) (slice_get (side_nodes main view first mode) k)) false ≡ true
      kind_at k low same =
          ap (λ (found : Option Node). unwrap_or (option_map (λ it. passes it.kind) found) false)
          (sym (side_node k low) ∙ ap (slice_get plan.nodes) (sym same))
          ∙ has

      one_of : (n ≡ first + 0) ⊎ ((n ≡ first + 1) ⊎ (n ≡ first + 2)) → IsBeside first n
      one_of (inl same) = absurd (false≢true (sym no_main ∙ kind_at 0 (omega arith) same))
      one_of (inr (inl same)) = absurd (false≢true (sym no_view ∙ kind_at 1 (omega arith) same))
      one_of (inr (inr same)) = absurd (false≢true (sym no_flatten ∙ kind_at 2 (omega arith) same))

      between : first ≤ n → n < first + 3 → (n ≡ first + 0) ⊎ ((n ≡ first + 1) ⊎ (n ≡ first + 2))
      between low high = elim (cases_lt n (first + 1)) [
        | inl here ↦ inl (omega arith)
        | inr after ↦ elim (cases_lt n (first + 2)) [ inl next ↦ inr (inl (omega arith)) | inr last ↦ inr (inr (omega arith)) ]
      ]

      in_case : (n < first) ⊎ (first ≤ n) → (n < first + 3) ⊎ (first + 3 ≤ n) → IsBeside first n
      in_case (inl before) end = inl before
      in_case (inr low) (inl high) = one_of (between low high)
      in_case (inr low) (inr after) = inr after

  pub sources_beside : (items : List SourceItem) → All (λ item. has_kind is_source_kind plan item.node ≡ true) items
      → All (λ item. IsBeside first item.node) items
  sources_beside items sources k d inside = beside_by_kind is_source_kind refl refl refl (get_or items k d).node (sources k d inside)

  pub groups_beside : (barrier : ℕ) (panes : List Arrival) → All (λ pane. IsGroupAbove plan barrier pane.node) panes
      → All (λ pane. IsBeside first pane.node) panes
  groups_beside barrier panes groups k d inside = beside_by_kind is_group_kind refl refl refl (get_or panes k d).node (groups k d inside).0

-- ---- a plain run

-- the items of a plan are of its sources, with or without their dead positions
sources_without : (told : List FileText) (dead : List Dead) (plan : Plan) → All (λ item. has_kind is_source_kind plan item.node ≡ true) (items_without dead (items told plan))
sources_without told dead plan =
    All-map (λ (item : SourceItem). has_kind is_source_kind plan item.node ≡ true) (item_without dead) (items told plan)
    (λ k d inside.
    let of = items_of_sources told plan k d inside in
    ap (λ (found : Option Node). unwrap_or (option_map (λ it. is_source_kind it.kind) found) false) of.here ∙ of.is)

-- what a plain run up to the Group of a side input brings there
pub run_arrivals : (told : List FileText) (dead : List Dead) (plan : Plan) (first main view : ℕ) (mode : ViewMode) (arrivals panes : List Arrival)
    → take 5 (drop first plan.nodes) ≡ side_nodes main view first mode → main < first → view < first
    → IsPlainRun plan (items_without dead (items told plan)) (first + 3) arrivals panes
    → IsSameBag (elements_at (first + 3) arrivals)
    (map (tagged (pos 1)) (put_out_of plan (items_without dead (items told plan)) panes main)
    ++ map (tagged (pos 0)) (put_out_of plan (items_without dead (items told plan)) panes view))
run_arrivals told dead plan first main view mode arrivals panes are main_before view_before run =
    side_arrivals plan (items_without dead (items told plan)) first main view mode panes arrivals are main_before view_before
    (sources_beside plan first main view mode are (items_without dead (items told plan)) (sources_without told dead plan))
    (groups_beside plan first main view mode are (first + 3) panes run.from_groups) run.clean
