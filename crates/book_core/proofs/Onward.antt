-- What a job brings arrives at nodes behind its own.
use Rattle.std.proofs.Common.{◌≡◌, ◌⊎◌, inl, inr, ℕ, zero, suc, ◌+◌, ◌-◌, ◌<◌, ◌≤◌, Bool, true, false, cond, List, [], ◌∷◌, ◌++◌, length, map, refl, sym, subst, length-append, arith}
use Rattle.std.specs.Prelude.{Option, Some, None, ◌==◌, ◌&&◌, ◌||◌, fold, not, slice_get, unwrap_or}
use Rattle.std.specs.List.{All, find, flat_map, list_any}
use Rattle.std.specs.Option.{option_map}
use Rattle.std.proofs.lemmas.Bool.{and_parts, eqb-true}
use Rattle.std.proofs.lemmas.Bool.Decides.{nat_tests}
use Rattle.std.proofs.lemmas.List.Elements.{All-nil, All-cons, All-head, All-tail, All-append, All-weaker}
use Rattle.beam_values.specs.Checked.{IsChecked}
use Rattle.beam_values.specs.Nodes.{is_barrier_kind, takes_from}
use Rattle.beam_values.specs.declared.arrival.Arrival.{Arrival}
use Rattle.beam_values.specs.declared.cell.Pane.{Pane}
use Rattle.beam_values.specs.declared.element.Element.{Element}
use Rattle.beam_values.specs.declared.file_text.FileText.{FileText}
use Rattle.beam_values.specs.declared.piece.Piece.{Piece}
use Rattle.beam_values.specs.States.{KeptState}
use Rattle.beam_values.specs.declared.plan.Node.{Node}
use Rattle.beam_values.specs.declared.plan.Plan.{Plan}
use Rattle.beam_values.specs.Lines.{offsets}
use Rattle.beam_model.specs.Chains.{Output, Arrives, PoisonAt, chain}
use Rattle.beam_model.specs.Coverings.{is_item, item_at}
use Rattle.beam_model.specs.Flow.{batch_outputs}
use Rattle.beam_model.specs.Positions.{Emission, Emits, Poison, SourceItem, TimedValue, emission}
use Rattle.beam_model.specs.Premises.{EndsAfter}
use Rattle.beam_model.specs.Reach.{passed_nodes, reaches_barrier, takes_passed, with_passed}
use Rattle.beam_model.specs.Spread.{emission_outputs, from_source, is_left_out, outputs_at, spread_range}
use Rattle.beam_model.proofs.Barriers.{chains_end}
use Rattle.bundle_commit.specs.declared.job.Receipt.{Receipt}
use Rattle.group_cells.proofs.Counting.{All-unmap}
use Rattle.stateful_core.specs.KeyWork.{key_outputs}
use Rattle.watermarks.proofs.CheckedNodes.{inputs_lower}
use Rattle.book_core.specs.Book.{panes_of}
use Rattle.book_core.specs.Committing.{node_of}
use Rattle.book_core.specs.Jobs.{attempted_of, job_of}
use Rattle.book_core.specs.Work.{IsGiven, IsWorkOnItem, IsWorkOnRange, is_known, items_told, worked_to}
use Rattle.book_core.specs.declared.live.Live.{Live}
use Rattle.book_core.specs.declared.live.Live.TheVariants as live
use Rattle.book_core.proofs.KeyOutputs.{outputs_all}

-- ---- chains

abbrev pub IsBehind : ℕ → Output → Type 0
IsBehind n (Arrives arrival) = n < arrival.node
IsBehind n (PoisonAt node) = Unit {0}

module _ (plan : Plan) where
  output_behind : (n : ℕ) (output : Output) → EndsAfter plan n output → IsBehind n output
  output_behind n (Arrives arrival) h = h.0
  output_behind n (PoisonAt node) h = tt

  chain_behind : (n : ℕ) (e : Element) → All (IsBehind n) (chain plan n e)
  chain_behind n e = All-weaker (EndsAfter plan n) (IsBehind n) (output_behind n) (chain plan n e) (chains_end plan n e)

  values_behind : (n : ℕ) (values : List TimedValue) → All (IsBehind n) (flat_map (λ v. chain plan n (from_source v)) values)
  values_behind n [] = All-nil (IsBehind n)
  values_behind n (v ∷ values) = All-append (IsBehind n) (chain plan n (from_source v)) (flat_map (λ v. chain plan n (from_source v)) values) (chain_behind n (from_source v)) (values_behind n values)

  emission_behind : (n : ℕ) (e : Emission) → All (IsBehind n) (emission_outputs plan n e)
  emission_behind n (Emits values declared) = values_behind n values
  emission_behind n Poison = All-cons (IsBehind n) (PoisonAt n) [] tt (All-nil (IsBehind n))

  position_behind : (item : SourceItem) (p : ℕ) → All (IsBehind item.node) (outputs_at plan item p)
  position_behind item p = by (is_left_out item p)
    where
      by : (t : Bool) → All (IsBehind item.node) (cond t [] (emission_outputs plan item.node (emission item.work item.args item.file p)))
      by true = All-nil (IsBehind item.node)
      by false = emission_behind item.node (emission item.work item.args item.file p)

  spread_behind : (item : SourceItem) (ps : List ℕ) → All (IsBehind item.node) (flat_map (outputs_at plan item) ps)
  spread_behind item [] = All-nil (IsBehind item.node)
  spread_behind item (p ∷ ps) = All-append (IsBehind item.node) (outputs_at plan item p) (flat_map (outputs_at plan item) ps) (position_behind item p) (spread_behind item ps)

  panes_behind : (node : ℕ) (panes : List Pane) → All (IsBehind node) (batch_outputs plan node panes)
  panes_behind node [] = All-nil (IsBehind node)
  panes_behind node (pane ∷ panes) = All-append (IsBehind node) (chain plan node pane.element) (batch_outputs plan node panes) (chain_behind node pane.element) (panes_behind node panes)

-- ---- where a source's outputs may come

stands_split : (xs : List Bool) (b : Bool) (i : ℕ) → unwrap_or (slice_get (xs ++ b ∷ []) i) false ≡ true
    → (unwrap_or (slice_get xs i) false ≡ true) ⊎ ((i ≡ length xs) × (b ≡ true))
stands_split [] b zero e = inr (refl, e)
stands_split [] b (suc i) e = absurd (cc)
stands_split (x ∷ xs) b zero e = inl e
stands_split (x ∷ xs) b (suc i) e = elim (stands_split xs b i e) [ inl h ↦ inl h | inr h ↦ inr (omega (arith, h.0), h.1) ]

module _ (from : ℕ) where
  -- each that stands is behind
  abbrev AreBehind : List Bool → Type 0
  AreBehind carried = (i : ℕ) → unwrap_or (slice_get carried i) false ≡ true → from < i

  input_behind : (carried : List Bool) → AreBehind carried → (input : ℕ) → takes_from from carried input ≡ true → from ≤ input
  input_behind carried behind input e = by (input == from) refl e
    where
      same : (a b : ℕ) → (a == b) ≡ true → b ≤ a
      same a b h = grind (arith, nat_tests)

      by : (t : Bool) → (input == from) ≡ t → (t || unwrap_or (slice_get carried input) false) ≡ true → from ≤ input
      by true at e = same input from at
      by false at e = let less = behind input e in omega (arith, less)

  some_behind : (carried : List Bool) → AreBehind carried → (n : ℕ) (inputs : List ℕ) → All (λ input. input < n) inputs → list_any (takes_from from carried) inputs ≡ true → from < n
  some_behind carried behind n [] lower e = absurd (cc)
  some_behind carried behind n (input ∷ inputs) lower e = by (takes_from from carried input) refl e (some_behind carried behind n inputs (All-tail (λ i. i < n) input inputs lower))
    where
      by : (t : Bool) → takes_from from carried input ≡ t → (t || list_any (takes_from from carried) inputs) ≡ true → (list_any (takes_from from carried) inputs ≡ true → from < n) → from < n
      by true is e later =
          let least = input_behind carried behind input is in
          let less = All-head (λ i. i < n) input inputs lower in
          omega (arith, least, less)
      by false is e later = later e

  fold_behind : (nodes : List Node) (before : List Bool) → ((k : ℕ) (node : Node) → slice_get nodes k ≡ Some node → All (λ input. input < length before + k) node.inputs)
      → AreBehind before → AreBehind (fold (with_passed from) before nodes)
  fold_behind [] before lower behind = behind
  fold_behind (node ∷ later) before lower behind =
      let now : Bool = list_any (takes_from from before) node.inputs && not (is_barrier_kind node.kind) in
      fold_behind later (before ++ now ∷ []) (λ k other at. subst (λ (n : ℕ). All (λ input. input < n) other.inputs) (next now k) (lower (suc k) other at)) (behind_next now (λ e. takes e))
    where
      next : (now : Bool) (k : ℕ) → length before + suc k ≡ length (before ++ now ∷ []) + k
      next now k = omega (arith, length-append before (now ∷ []))

      here : All (λ input. input < length before) node.inputs
      here = let zero_on : length before + 0 ≡ length before = omega arith in subst (λ (n : ℕ). All (λ input. input < n) node.inputs) zero_on (lower 0 node refl)

      takes : (list_any (takes_from from before) node.inputs && not (is_barrier_kind node.kind)) ≡ true → from < length before
      takes e = some_behind before behind (length before) node.inputs here (and_parts (list_any (takes_from from before) node.inputs) (not (is_barrier_kind node.kind)) e).0

      behind_next : (now : Bool) → (now ≡ true → from < length before) → AreBehind (before ++ now ∷ [])
      behind_next now less i e = elim (stands_split before now i e) [
        | inl h ↦ behind i h
        | inr h ↦ let low = less h.1 in let at = h.0 in omega (arith, low, at)
      ]

  reached_behind : (plan : Plan) (node : ℕ) → IsChecked plan → reaches_barrier plan from node ≡ true → from < node
  reached_behind plan node checked e = by (slice_get plan.nodes node) refl e
    where
      carried_behind : AreBehind (passed_nodes plan from)
      carried_behind = fold_behind plan.nodes [] (λ k other at. subst (λ (n : ℕ). All (λ input. input < n) other.inputs) (zero_on k) (inputs_lower plan k other checked at)) none
        where
          zero_on : (k : ℕ) → k ≡ 0 + k
          zero_on k = omega arith

          none : AreBehind []
          none i e = absurd (cc)

      by : (found : Option Node) → slice_get plan.nodes node ≡ found → unwrap_or (option_map (takes_passed plan from) found) false ≡ true → from < node
      by None at e = absurd (cc)
      by (Some n) at e =
          some_behind (passed_nodes plan from) carried_behind node n.inputs (inputs_lower plan node n checked at)
          (and_parts (is_barrier_kind n.kind) (list_any (takes_from from (passed_nodes plan from)) n.inputs) e).1

-- ---- what a job brings

found_passes : {X : Type 0} (p : X → Bool) (xs : List X) (x : X) → find p xs ≡ Some x → p x ≡ true
found_passes p [] x e = absurd (cc)
found_passes p (y ∷ ys) x e = by (p y) refl e (found_passes p ys x)
  where
    by : (t : Bool) → p y ≡ t → cond t (Some y) (find p ys) ≡ Some x → (find p ys ≡ Some x → p x ≡ true) → p x ≡ true
    by true is e onward = let same : y ≡ x = cc in subst (λ (z : _). p z ≡ true) same is
    by false is e onward = onward e

abbrev pub ArriveBehind : ℕ → List Arrival → Type 0
ArriveBehind n arrivals = All (λ (a : Arrival). n < a.node) arrivals

module _ (told : Option (List FileText)) (plan : Plan) (checked : IsChecked plan) where
  outputs_arrive : (n : ℕ) (arrivals : List Arrival) (outputs : List Output) → map Arrives arrivals ≡ outputs → All (IsBehind n) outputs → ArriveBehind n arrivals
  outputs_arrive n arrivals outputs same all = All-unmap (IsBehind n) Arrives arrivals (subst (All (IsBehind n)) (sym same) all)

  item_arrives : (piece : Piece) (upto : ℕ) (receipt : Receipt) (found : Option SourceItem) → item_at (items_told told plan) piece.node piece.item ≡ found
      → IsWorkOnItem plan piece upto found receipt → ArriveBehind piece.node receipt.arrivals
  item_arrives piece upto receipt None at work = subst (ArriveBehind piece.node) (sym work.0) (All-nil (λ (a : Arrival). piece.node < a.node))
  item_arrives piece upto receipt (Some item) at work =
      let of = and_parts (item.node == piece.node) (item.item == piece.item) (found_passes (is_item piece.node piece.item) (items_told told plan) item at) in
      subst (λ (n : ℕ). ArriveBehind n receipt.arrivals) (eqb-true item.node piece.node of.0)
      (outputs_arrive item.node receipt.arrivals (spread_range plan item piece.range.from upto) work.arrivals (spread_behind plan item (offsets piece.range.from (upto - piece.range.from))))

  range_arrives : (piece : Piece) (upto : ℕ) (receipt : Receipt) (t : Bool) → IsWorkOnRange t told plan piece upto receipt → ArriveBehind piece.node receipt.arrivals
  range_arrives piece upto receipt true work = item_arrives piece upto receipt (item_at (items_told told plan) piece.node piece.item) refl work
  range_arrives piece upto receipt false work =
      All-weaker (λ (a : Arrival). reaches_barrier plan piece.node a.node ≡ true) (λ (a : Arrival). piece.node < a.node) (λ a e. reached_behind piece.node plan a.node checked e) receipt.arrivals work.at_barriers

  pub given_arrives : (panes : List Pane) (job : Live) (receipt : Receipt) → IsGiven told plan (job_of panes job) (attempted_of job) receipt → ArriveBehind (node_of job) receipt.arrivals
  given_arrives panes (live.Span piece attempted) receipt given = range_arrives piece (worked_to piece attempted) receipt (is_known told plan piece.node) given.0
  given_arrives panes (live.Batch batch) receipt given =
      outputs_arrive batch.node receipt.arrivals (batch_outputs plan batch.node (panes_of panes batch.panes)) given.0 (panes_behind plan batch.node (panes_of panes batch.panes))
  given_arrives panes (live.Key turn) receipt given =
      let kept : KeptState = record { cells = turn.state; timers = turn.timers } in
      outputs_arrive turn.node receipt.arrivals (key_outputs plan turn.node turn.key turn.span turn.inputs kept) given.arrives
      (outputs_all (IsBehind turn.node) plan turn.node tt (λ on e. chain_behind plan turn.node e) turn.key turn.span turn.inputs kept)
