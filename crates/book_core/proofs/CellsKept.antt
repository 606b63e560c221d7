-- Every step keeps that the arrivals at the Groups are legal, own windows of sessions have the gap's length, and written elements are at Writes.
use Rattle.std.proofs.Common.{◌≡◌, ℕ, ◌+◌, ◌-◌, ◌≤◌, Bool, true, false, cond, List, [], ◌∷◌, ◌++◌, length, map, refl, sym, ap, subst, ◌∙◌, append_assoc, length-append, arith}
use Rattle.std.specs.Prelude.{Option, Some, None, slice_get, unwrap_or}
use Rattle.std.specs.List.{All, flat_map, find, enumerate_from}
use Rattle.std.proofs.lemmas.List.Elements.{All-nil, All-cons, All-head, All-tail, All-append}
use Rattle.beam_values.specs.Lines.{offsets}
use Rattle.beam_values.specs.Nodes.{is_group, is_source_kind}
use Rattle.beam_values.specs.declared.arrival.Arrival.{Arrival}
use Rattle.beam_values.specs.declared.cell.Pane.{Pane}
use Rattle.beam_values.specs.declared.file_text.FileText.{FileText}
use Rattle.beam_values.specs.declared.piece.Piece.{Piece}
use Rattle.beam_values.specs.declared.plan.Args.{Args}
use Rattle.beam_values.specs.declared.plan.Node.{Node}
use Rattle.beam_values.specs.declared.plan.NodeKind.{NodeKind}
use Rattle.beam_values.specs.declared.plan.NodeKind.TheVariants.{Source, ParDo, Flatten, WindowInto, Group, Stateful, Write}
use Rattle.beam_values.specs.declared.plan.Plan.{Plan}
use Rattle.beam_values.specs.declared.plan.SourceKind.{SourceKind}
use Rattle.beam_values.specs.declared.plan.SourceKind.TheVariants.{Lines, TimedLines, Count, Made}
use Rattle.beam_model.specs.Chains.{Output, Arrives, PoisonAt, chain}
use Rattle.beam_model.specs.Coverings.{is_item, item_at}
use Rattle.beam_model.specs.Positions.{Emission, Emits, Poison, SourceItem, TimedValue, emission, file_item, items, items_of_kind, items_of_node, items_of_source}
use Rattle.beam_model.specs.Spread.{emission_outputs, from_source, is_left_out, outputs_at, spread_range}
use Rattle.beam_model.specs.Flow.{batch_outputs}
use Rattle.bundle_commit.specs.declared.job.Receipt.{Receipt}
use Rattle.group_cells.specs.Commits.{HasGap}
use Rattle.group_cells.proofs.Counting.{All-unmap}
use Rattle.book_core.specs.Book.{SeenBook, batch_of, held_in, live_batches, panes_of, queued}
use Rattle.book_core.specs.Facts.{AreHeldOnce, IsHeldPane}
use Rattle.book_core.specs.Jobs.{job_of, attempted_of}
use Rattle.book_core.specs.Steps.{IsWorking}
use Rattle.book_core.specs.Work.{IsGiven, IsWorkOnItem, IsWorkOnRange, is_known, items_told, worked_to}
use Rattle.book_core.specs.declared.live.Batch.{Batch}
use Rattle.book_core.specs.declared.live.Live.{Live}
use Rattle.book_core.specs.declared.live.Live.TheVariants as live
use Rattle.book_core.specs.declared.live.WaitingPane.{WaitingPane}
use Rattle.beam_values.specs.States.{KeptState}
use Rattle.stateful_core.specs.KeyWork.{key_outputs}
use Rattle.book_core.proofs.KeyOutputs.{outputs_all}
use Rattle.book_core.proofs.Gaps.{AreStrategies, IsGapped, group_fits, outputs_gapped, source_fits, stateful_fits}
use Rattle.book_core.proofs.HeldMoves.{IsNonempty}
use Rattle.book_core.proofs.Slots.{All-slice_get}
use Rattle.book_core.proofs.Slotted.{All-append_right, All-of_flat_map, All-flat_at}

-- ---- the items of a plan are of sources

pub record IsOfSource (plan : Plan) (item : SourceItem) : Type 0 where
  pub node : Node
  pub here : slice_get plan.nodes item.node ≡ Some node
  pub is : is_source_kind node.kind ≡ true

module _ (told : List FileText) (plan : Plan) where
  of_files : (n : ℕ) (node : Node) (work : SourceKind) (args : Args) → slice_get plan.nodes n ≡ Some node → is_source_kind node.kind ≡ true
      → (names : List (ℕ × List ℕ)) → All (IsOfSource plan) (map (file_item told n work args) names)
  of_files n node work args here is [] = All-nil (IsOfSource plan)
  of_files n node work args here is (name ∷ names) =
      All-cons (IsOfSource plan) (file_item told n work args name) (map (file_item told n work args) names)
      (record { node = node; here = here; is = is }) (of_files n node work args here is names)

  of_one : (n : ℕ) (node : Node) (item : SourceItem) → item.node ≡ n → slice_get plan.nodes n ≡ Some node → is_source_kind node.kind ≡ true → All (IsOfSource plan) (item ∷ [])
  of_one n node item same here is =
      All-cons (IsOfSource plan) item [] (record { node = node; here = ap (slice_get plan.nodes) same ∙ here; is = is }) (All-nil (IsOfSource plan))

  of_source : (n : ℕ) (node : Node) (work : SourceKind) (args : Args) (names : List (List ℕ)) → slice_get plan.nodes n ≡ Some node → is_source_kind node.kind ≡ true
      → All (IsOfSource plan) (items_of_source told n work args names)
  of_source n node Lines args names here is = of_files n node Lines args here is (enumerate_from 0 names)
  of_source n node TimedLines args names here is = of_files n node TimedLines args here is (enumerate_from 0 names)
  of_source n node Count args names here is = of_one n node _ refl here is
  of_source n node Made args names here is = of_one n node _ refl here is

  of_kind : (n : ℕ) (node : Node) (kind : NodeKind) → node.kind ≡ kind → slice_get plan.nodes n ≡ Some node → All (IsOfSource plan) (items_of_kind told n kind)
  of_kind n node (Source work args names estimator) same here = of_source n node work args names here (ap is_source_kind same)
  of_kind n node (ParDo work args) same here = All-nil (IsOfSource plan)
  of_kind n node Flatten same here = All-nil (IsOfSource plan)
  of_kind n node (WindowInto s) same here = All-nil (IsOfSource plan)
  of_kind n node (Group trigger) same here = All-nil (IsOfSource plan)
  of_kind n node (Stateful work args log) same here = All-nil (IsOfSource plan)
  of_kind n node (Write label) same here = All-nil (IsOfSource plan)

  at_end : {X : Type 0} (xs : List X) (y : X) (ys : List X) → slice_get (xs ++ y ∷ ys) (length xs) ≡ Some y
  at_end [] y ys = refl
  at_end (x ∷ xs) y ys = at_end xs y ys

  of_nodes : (front nodes : List Node) (n : ℕ) → plan.nodes ≡ front ++ nodes → n ≡ length front → All (IsOfSource plan) (flat_map (items_of_node told) (enumerate_from n nodes))
  of_nodes front [] n same at = All-nil (IsOfSource plan)
  of_nodes front (node ∷ nodes) n same at =
      let here : slice_get plan.nodes n ≡ Some node = ap (slice_get plan.nodes) at ∙ ap (λ (l : List Node). slice_get l (length front)) same ∙ at_end front node nodes in
      All-append (IsOfSource plan) (items_of_kind told n node.kind) (flat_map (items_of_node told) (enumerate_from (n + 1) nodes))
      (of_kind n node node.kind refl here)
      (of_nodes (front ++ node ∷ []) nodes (n + 1) (same ∙ sym (append_assoc front (node ∷ []) nodes)) (omega (arith, at, length-append front (node ∷ []))))

  pub items_of_sources : All (IsOfSource plan) (items told plan)
  items_of_sources = of_nodes [] plan.nodes 0 refl refl

pub found_has : {X : Type 0} (p : X → Bool) (P : X → Type 0) (xs : List X) (x : X) → All P xs → find p xs ≡ Some x → P x
found_has p P [] x all e = absurd (cc)
found_has p P (y ∷ ys) x all e = by (p y) e (found_has p P ys x (All-tail P y ys all))
  where
    by : (t : Bool) → cond t (Some y) (find p ys) ≡ Some x → (find p ys ≡ Some x → P x) → P x
    by true e onward = let same : y ≡ x = cc in subst P same (All-head P y ys all)
    by false e onward = onward e

-- ---- what a receipt brings has its gaps

module _ (plan : Plan) (known : AreStrategies plan) where
  pub values_gapped : (n : ℕ) (node : Node) → slice_get plan.nodes n ≡ Some node → is_source_kind node.kind ≡ true → (values : List TimedValue)
      → All (IsGapped plan) (flat_map (λ v. chain plan n (from_source v)) values)
  values_gapped n node here is [] = All-nil (IsGapped plan)
  values_gapped n node here is (v ∷ values) =
      All-append (IsGapped plan) (chain plan n (from_source v)) (flat_map (λ v. chain plan n (from_source v)) values)
      (outputs_gapped plan known n (from_source v) (source_fits plan known n node (from_source v) here is)) (values_gapped n node here is values)

  emission_gapped : (item : SourceItem) → IsOfSource plan item → (e : Emission) → All (IsGapped plan) (emission_outputs plan item.node e)
  emission_gapped item source (Emits values declared) = values_gapped item.node source.node source.here source.is values
  emission_gapped item source Poison = All-cons (IsGapped plan) (PoisonAt item.node) [] tt (All-nil (IsGapped plan))

  position_gapped : (item : SourceItem) → IsOfSource plan item → (p : ℕ) → All (IsGapped plan) (outputs_at plan item p)
  position_gapped item source p = by (is_left_out item p)
    where
      by : (t : Bool) → All (IsGapped plan) (cond t [] (emission_outputs plan item.node (emission item.work item.args item.file p)))
      by true = All-nil (IsGapped plan)
      by false = emission_gapped item source (emission item.work item.args item.file p)

  spread_gapped : (item : SourceItem) → IsOfSource plan item → (ps : List ℕ) → All (IsGapped plan) (flat_map (outputs_at plan item) ps)
  spread_gapped item source [] = All-nil (IsGapped plan)
  spread_gapped item source (p ∷ ps) =
      All-append (IsGapped plan) (outputs_at plan item p) (flat_map (outputs_at plan item) ps) (position_gapped item source p) (spread_gapped item source ps)

  arrivals_gapped : (arrivals : List Arrival) (outputs : List Output) → map Arrives arrivals ≡ outputs → All (IsGapped plan) outputs → All (HasGap plan) arrivals
  arrivals_gapped arrivals outputs same all = All-unmap (IsGapped plan) Arrives arrivals (subst (All (IsGapped plan)) (sym same) all)

  range_gapped : (t : Bool) (told : Option (List FileText)) (piece : Piece) (upto : ℕ) (receipt : Receipt) → IsWorkOnRange t told plan piece upto receipt → All (HasGap plan) receipt.arrivals
  range_gapped false told piece upto receipt h = h.gaps
  range_gapped true told piece upto receipt h = by (item_at (items_told told plan) piece.node piece.item) refl h
    where
      by : (found : Option SourceItem) → item_at (items_told told plan) piece.node piece.item ≡ found → IsWorkOnItem plan piece upto found receipt → All (HasGap plan) receipt.arrivals
      by None at given = subst (All (HasGap plan)) (sym given.0) (All-nil (HasGap plan))
      by (Some item) at given =
          let source = found_has (is_item piece.node piece.item) (IsOfSource plan) (items_told told plan) item (items_of_sources (unwrap_or told []) plan) at in
          arrivals_gapped receipt.arrivals (spread_range plan item piece.range.from upto) given.arrivals (spread_gapped item source (offsets piece.range.from (upto - piece.range.from)))

  panes_gapped : (node : ℕ) (panes : List Pane) → is_group plan node ≡ true → All (IsGapped plan) (batch_outputs plan node panes)
  panes_gapped node [] group = All-nil (IsGapped plan)
  panes_gapped node (pane ∷ panes) group =
      All-append (IsGapped plan) (chain plan node pane.element) (batch_outputs plan node panes)
      (outputs_gapped plan known node pane.element (group_fits plan known node pane.element group)) (panes_gapped node panes group)

-- ---- a batch that is worked is of a Group

pub nonempty_held : (b : SeenBook) (node : ℕ) (panes : List WaitingPane) → 1 ≤ length panes → All (IsHeldPane b) (map (λ waiting. record { node = node; waiting = waiting }) panes)
    → All (λ pane. is_group b.plan pane.node ≡ true) b.panes → is_group b.plan node ≡ true
nonempty_held b node [] some all groups = absurd (omega arith)
nonempty_held b node (p ∷ ps) some all groups =
    let first = All-head (IsHeldPane b) (record { node = node; waiting = p }) (map (λ waiting. record { node = node; waiting = waiting }) ps) all in
    subst (λ (n : ℕ). is_group b.plan n ≡ true) first.2 (All-slice_get (λ (pane : Pane). is_group b.plan pane.node ≡ true) b.panes p.pane first.0 first.1 groups)

pub batch_at_group : (b : SeenBook) (slot : ℕ) (batch : Batch) → AreHeldOnce b → All (λ pane. is_group b.plan pane.node ≡ true) b.panes → IsWorking b slot (live.Batch batch)
    → is_group b.plan batch.node ≡ true
batch_at_group b slot batch once groups works =
    let live_held = All-append_right (IsHeldPane b) (flat_map held_in b.returned) (flat_map held_in (live_batches b))
    (All-append_right (IsHeldPane b) (queued b) (flat_map held_in b.returned ++ flat_map held_in (live_batches b)) once.panes) in
    let each = All-of_flat_map (IsHeldPane b) held_in (live_batches b) live_held in
    let here = All-head (λ (x : Batch). All (IsHeldPane b) (held_in x)) batch [] (All-flat_at batch_of b.slots slot (λ (x : Batch). All (IsHeldPane b) (held_in x)) (Some (live.Batch batch)) works each) in
    let some = All-head IsNonempty batch [] (All-flat_at batch_of b.slots slot IsNonempty (Some (live.Batch batch)) works (All-append_right IsNonempty b.returned (live_batches b) once.batches)) in
    nonempty_held b batch.node batch.panes some here groups

pub given_gapped : (told : Option (List FileText)) (b : SeenBook) (slot : ℕ) (job : Live) (receipt : Receipt) → AreStrategies b.plan → AreHeldOnce b
    → All (λ pane. is_group b.plan pane.node ≡ true) b.panes → IsWorking b slot job → IsGiven told b.plan (job_of b.panes job) (attempted_of job) receipt → All (HasGap b.plan) receipt.arrivals
given_gapped told b slot (live.Span piece attempted) receipt known once groups works given =
    range_gapped b.plan known (is_known told b.plan piece.node) told piece (worked_to piece attempted) receipt given.0
given_gapped told b slot (live.Key turn) receipt known once groups works given =
    let kept : KeptState = record { cells = turn.state; timers = turn.timers } in
    arrivals_gapped b.plan known receipt.arrivals (key_outputs b.plan turn.node turn.key turn.span turn.inputs kept) given.arrives
    (outputs_all (IsGapped b.plan) b.plan turn.node tt (λ keyed e. outputs_gapped b.plan known turn.node e (stateful_fits b.plan known turn.node e keyed)) turn.key turn.span turn.inputs kept)
given_gapped told b slot (live.Batch batch) receipt known once groups works given =
    arrivals_gapped b.plan known receipt.arrivals (batch_outputs b.plan batch.node (panes_of b.panes batch.panes)) given.0
    (panes_gapped b.plan known batch.node (panes_of b.panes batch.panes) (batch_at_group b slot batch once groups works))
