-- What the items of a plan bring: where its sources are, and that their values are flat.
use Rattle.std.proofs.Common.{◌≡◌, ℕ, ◌+◌, ◌<◌, ◌≤◌, ◌-◌, pos, nat_lt, FitsSigned, w64, Bool, true, false, cond, List, [], ◌∷◌, Some, suc, refl, ap, subst, arith}
use Rattle.std.specs.Prelude.{slice_get}
use Rattle.std.specs.List.{AllByRecursion, enumerate_from, flat_map}
use Rattle.std.proofs.lemmas.Bool.{and_parts, leb-true, ltb-true}
use Rattle.std.proofs.lemmas.Int.{ints}
use Rattle.beam_values.specs.Checked.{IsChecked, is_source_argument, is_two_upto}
use Rattle.beam_values.specs.Functions.{TimedLine, Timed, Declared, timed_line}
use Rattle.beam_values.specs.Functions as lines
use Rattle.beam_values.specs.Lines.{line_at, offsets, starts_line}
use Rattle.beam_values.specs.Nodes.{is_source_kind}
use Rattle.beam_values.specs.Times.{least_time}
use Rattle.beam_values.specs.declared.element.Element.{Element}
use Rattle.beam_values.specs.declared.file_text.FileText.{FileText}
use Rattle.beam_values.specs.declared.piece.Done.{Done}
use Rattle.beam_values.specs.declared.plan.Args.{Args}
use Rattle.beam_values.specs.declared.plan.Args.TheVariants.{Nothing, Text, Number, Two}
use Rattle.beam_values.specs.declared.plan.Node.{Node}
use Rattle.beam_values.specs.declared.plan.NodeKind.{NodeKind}
use Rattle.beam_values.specs.declared.plan.NodeKind.TheVariants.{Source, ParDo, Flatten, WindowInto, Group, Stateful, Write}
use Rattle.beam_values.specs.declared.plan.Plan.{Plan}
use Rattle.beam_values.specs.declared.plan.SourceKind.{SourceKind}
use Rattle.beam_values.specs.declared.plan.SourceKind.TheVariants.{Lines, TimedLines, Count, Made}
use Rattle.beam_model.specs.Chains.{Output, chain}
use Rattle.beam_model.specs.Coverings.{item_at, is_item, spread_of, spread_done, spread_dones}
use Rattle.beam_model.specs.Functions.{first_arg, second_arg}
use Rattle.beam_model.specs.Positions.{TimedValue, Emission, Emits, Poison, SourceItem, emission, emission_within, emits_one, file_item, items, items_of_kind, items_of_node, items_of_source, len_of, line_emission, made_line, nothing, positions_in}
use Rattle.beam_model.specs.Spread.{emission_outputs, from_source, is_left_out, outputs_at, spread_all, spread_range}
use Rattle.beam_model.specs.Values.{blob}
use Rattle.pipeline_graph.specs.Rules.{HasSettings}
use Rattle.pipeline_graph.proofs.CheckedPlans.{node_settings}
use Rattle.combine_laws.proofs.FlatValues.{IsFlatElement, flat-blob, flat-int}
use Rattle.combine_laws.proofs.Keeping.{HasKept, IsKeptBy, chain_keeps}
use Rattle.combine_laws.proofs.Lists.{each_append, each_flat_map, each_map, each_of_all}

-- an item is of a source of the plan, with an argument that it takes
pub record IsSourceOf (plan : Plan) (item : SourceItem) : Type 0 where
  pub node : Node
  pub there : slice_get plan.nodes item.node ≡ Some node
  pub source : is_source_kind node.kind ≡ true
  pub allowed : is_source_argument item.work item.args ≡ true

-- ---- the items of a plan

module _ (plan : Plan) (told : List FileText) (n : ℕ) (node : Node) (there : slice_get plan.nodes n ≡ Some node) where
  source_known : (work : SourceKind) (args : Args) (names : List (List ℕ)) → is_source_kind node.kind ≡ true → is_source_argument work args ≡ true
      → AllByRecursion (IsSourceOf plan) (items_of_source told n work args names)
  source_known Lines args names is allowed =
      each_map (IsSourceOf plan) (file_item told n Lines args) (λ file. record { node = node; there = there; source = is; allowed = allowed }) (enumerate_from 0 names)
  source_known TimedLines args names is allowed =
      each_map (IsSourceOf plan) (file_item told n TimedLines args) (λ file. record { node = node; there = there; source = is; allowed = allowed }) (enumerate_from 0 names)
  source_known Count args names is allowed = (record { node = node; there = there; source = is; allowed = allowed }, tt)
  source_known Made args names is allowed = (record { node = node; there = there; source = is; allowed = allowed }, tt)

  kind_known : (kind : NodeKind) → node.kind ≡ kind → HasSettings kind → AllByRecursion (IsSourceOf plan) (items_of_kind told n kind)
  kind_known (Source work args files estimator) is set = source_known work args files (ap is_source_kind is) set.0
  kind_known (ParDo work args) is set = tt
  kind_known Flatten is set = tt
  kind_known (WindowInto strategy) is set = tt
  kind_known (Group trigger) is set = tt
  kind_known (Stateful work args log) is set = tt
  kind_known (Write label) is set = tt

module _ (plan : Plan) (checked : IsChecked plan) (told : List FileText) where
  nodes_known : (next : ℕ) (nodes : List Node) → ((k : ℕ) (node : Node) → slice_get nodes k ≡ Some node → slice_get plan.nodes (next + k) ≡ Some node)
      → AllByRecursion (IsSourceOf plan) (flat_map (items_of_node told) (enumerate_from next nodes))
  nodes_known next [] at = tt
  nodes_known next (node ∷ nodes) at =
      let first : next + 0 ≡ next = omega arith in
      let here : slice_get plan.nodes next ≡ Some node = subst (λ (m : ℕ). slice_get plan.nodes m ≡ Some node) first (at 0 node refl) in
      each_append (IsSourceOf plan) (items_of_kind told next node.kind) (flat_map (items_of_node told) (enumerate_from (next + 1) nodes))
      (kind_known plan told next node here node.kind refl (node_settings plan next node checked here))
      (nodes_known (next + 1) nodes (λ k other there. moved k other (at (suc k) other there)))
    where
      moved : (k : ℕ) (other : Node) → slice_get plan.nodes (next + suc k) ≡ Some other → slice_get plan.nodes ((next + 1) + k) ≡ Some other
      moved k other there = let place : next + suc k ≡ (next + 1) + k = omega arith in subst (λ (m : ℕ). slice_get plan.nodes m ≡ Some other) place there

  pub items_known : AllByRecursion (IsSourceOf plan) (items told plan)
  items_known = nodes_known 0 plan.nodes at
    where
      at : (k : ℕ) (node : Node) → slice_get plan.nodes k ≡ Some node → slice_get plan.nodes (0 + k) ≡ Some node
      at k node there = let place : k ≡ 0 + k = omega arith in subst (λ (m : ℕ). slice_get plan.nodes m ≡ Some node) place there

-- ---- what each position brings

module _ (plan : Plan) (Q : Output → Type 0) where
  -- whatever an item emits brings such outputs
  abbrev pub BringsSo : SourceItem → Type 0
  BringsSo item = (p : ℕ) → AllByRecursion Q (emission_outputs plan item.node (emission item.work item.args item.file p))

  position_brings : (item : SourceItem) → BringsSo item → (p : ℕ) → AllByRecursion Q (outputs_at plan item p)
  position_brings item brings p = by (is_left_out item p)
    where
      by : (b : Bool) → AllByRecursion Q (cond b [] (emission_outputs plan item.node (emission item.work item.args item.file p)))
      by true = tt
      by false = brings p

  pub range_brings : (item : SourceItem) → BringsSo item → (from to : ℕ) → AllByRecursion Q (spread_range plan item from to)
  range_brings item brings from to = each_of_all Q (outputs_at plan item) (position_brings item brings) (offsets from (to - from))

  pub all_bring : (items : List SourceItem) → AllByRecursion BringsSo items → AllByRecursion Q (spread_all plan items)
  all_bring items brings = each_flat_map Q BringsSo (λ item. spread_range plan item 0 (len_of item)) (λ item so. range_brings item so 0 (len_of item)) items brings

  done_brings : (done : Done) (items : List SourceItem) → AllByRecursion BringsSo items → AllByRecursion Q (spread_of plan done.range (item_at items done.node done.item))
  done_brings done [] brings = tt
  done_brings done (item ∷ items) brings = by (is_item done.node done.item item) (done_brings done items brings.1)
    where
      by : (b : Bool) → AllByRecursion Q (spread_of plan done.range (item_at items done.node done.item))
          → AllByRecursion Q (spread_of plan done.range (cond b (Some item) (item_at items done.node done.item)))
      by true later = range_brings item brings.0 done.range.from done.range.to
      by false later = later

  pub dones_bring : (items : List SourceItem) → AllByRecursion BringsSo items → (dones : List Done) → AllByRecursion Q (spread_dones plan items dones)
  dones_bring items brings dones = each_of_all Q (spread_done plan items) (λ done. done_brings done items brings) dones

-- ---- what sources emit

module _ (P : Element → Type 0) where
  -- whatever comes of an emission, P holds of it as it comes from its source
  abbrev pub EmitsSo : Emission → Type 0
  EmitsSo (Emits values declared) = AllByRecursion (λ v. P (from_source v)) values
  EmitsSo Poison = Unit {0}

  pub emission_brings : (plan : Plan) → AllByRecursion (λ node. IsKeptBy P node.kind) plan.nodes → (n : ℕ) (given : Emission) → EmitsSo given
      → AllByRecursion (HasKept P) (emission_outputs plan n given)
  emission_brings plan kept n (Emits values declared) so =
      each_flat_map (HasKept P) (λ v. P (from_source v)) (λ v. chain plan n (from_source v)) (λ v holds. chain_keeps P plan kept n (from_source v) holds) values so
  emission_brings plan kept n Poison so = (tt, tt)

  emits_whatever : ((v : TimedValue) → P (from_source v)) → (given : Emission) → EmitsSo given
  emits_whatever holds (Emits values declared) = each_holds values
    where
      each_holds : (vs : List TimedValue) → AllByRecursion (λ v. P (from_source v)) vs
      each_holds [] = tt
      each_holds (v ∷ vs) = (holds v, each_holds vs)
  emits_whatever holds Poison = tt

  pub brings_whatever : ((v : TimedValue) → P (from_source v)) → (plan : Plan) → AllByRecursion (λ node. IsKeptBy P node.kind) plan.nodes → (item : SourceItem) → BringsSo plan (HasKept P) item
  brings_whatever holds plan kept item p =
      emission_brings plan kept item.node (emission item.work item.args item.file p) (emits_whatever holds (emission item.work item.args item.file p))

line_flat : (line : TimedLine) → EmitsSo IsFlatElement (line_emission line)
line_flat (Timed time text) = (flat-blob text, tt)
line_flat (Declared mark) = tt
line_flat lines.Poison = tt

counted_fits : (args : Args) (p : ℕ) → is_two_upto 1000000000 1000000 args ≡ true → p < first_arg args → FitsSigned w64 (pos p)
counted_fits (Two first second) p allowed within =
    let few : first ≤ 1000000000 = leb-true _ _ (and_parts _ _ allowed).0 in
    record { sfits = omega (arith, ints) }
counted_fits Nothing p allowed within = absurd cc
counted_fits (Text text) p allowed within = absurd cc
counted_fits (Number n) p allowed within = absurd cc

within_flat : (work : SourceKind) (args : Args) (file : List ℕ) (p : ℕ) → is_source_argument work args ≡ true → p < positions_in work args file → EmitsSo IsFlatElement (emission_within work args file p)
within_flat Lines args file p allowed within = by (starts_line file p)
  where
    by : (b : Bool) → EmitsSo IsFlatElement (cond b (emits_one (blob (line_at file p)) least_time) nothing)
    by true = (flat-blob (line_at file p), tt)
    by false = tt
within_flat TimedLines args file p allowed within = by (starts_line file p)
  where
    by : (b : Bool) → EmitsSo IsFlatElement (cond b (line_emission (timed_line (line_at file p))) nothing)
    by true = line_flat (timed_line (line_at file p))
    by false = tt
within_flat Count args file p allowed within = (flat-int (pos p) (counted_fits args p allowed within), tt)
within_flat Made args file p allowed within = line_flat (timed_line (made_line (second_arg args) p))

emission_flat : (work : SourceKind) (args : Args) (file : List ℕ) (p : ℕ) → is_source_argument work args ≡ true → EmitsSo IsFlatElement (emission work args file p)
emission_flat work args file p allowed = by (nat_lt p (positions_in work args file)) refl
  where
    by : (b : Bool) → nat_lt p (positions_in work args file) ≡ b → EmitsSo IsFlatElement (cond b (emission_within work args file p) nothing)
    by true is = within_flat work args file p allowed (ltb-true p (positions_in work args file) is)
    by false is = tt

pub brings_flat : (plan : Plan) → AllByRecursion (λ node. IsKeptBy IsFlatElement node.kind) plan.nodes → (item : SourceItem) → IsSourceOf plan item → BringsSo plan (HasKept IsFlatElement) item
brings_flat plan kept item known p =
    emission_brings IsFlatElement plan kept item.node (emission item.work item.args item.file p) (emission_flat item.work item.args item.file p known.allowed)
