-- What was combined and written is what plain grouping brings to each Write, and nothing is poison.
use Rattle.std.proofs.Common.{◌≡◌, ◌⊎◌, inl, inr, ℕ, ◌==◌, Bool, true, false, cond, List, [], ◌∷◌, ◌++◌, append-nil, map, Some, None, refl, sym, ap, ap₂, subst, ◌∙◌}
use Rattle.std.specs.List.{AllByRecursion, filter, flat_map, list_any}
use Rattle.std.specs.Option.{option_map}
use Rattle.std.specs.Str.{bytes_eq}
use Rattle.std.proofs.lemmas.Bool.{and_parts, cases_Bool, eq-eqb, eqb-true, false≢true, ne_eqb, or_from, or_left, or_right}
use Rattle.std.proofs.lemmas.List.{map-append}
use Rattle.std.proofs.lemmas.List.Elements.{All-from_recursion, All-nil, filter-append, recursion_from_All}
use Rattle.std.proofs.lemmas.Option.{same_Some}
use Rattle.std.proofs.lemmas.Slice.Eq.{bytes_eq-Decides}
use Rattle.beam_values.specs.Bags.{IsSameBag}
use Rattle.beam_values.specs.Checked.{IsChecked}
use Rattle.beam_values.specs.Grouping.{IsPlainGrouping, part_of}
use Rattle.beam_values.specs.Intervals.{Interval}
use Rattle.beam_values.specs.Nodes.{is_above, is_group, is_write, strategy_of}
use Rattle.beam_values.specs.Sessions.{IsNonEmpty}
use Rattle.beam_values.specs.Spans.{same_span}
use Rattle.beam_values.specs.Spelling.{spelling}
use Rattle.beam_values.specs.Storable.{IsStorable}
use Rattle.beam_values.specs.declared.arrival.Arrival.{Arrival}
use Rattle.beam_values.specs.declared.element.Element.{Element}
use Rattle.beam_values.specs.declared.file_text.FileText.{FileText}
use Rattle.beam_values.specs.declared.piece.Done.{Done}
use Rattle.beam_values.specs.declared.plan.FnKind.{FnKind}
use Rattle.beam_values.specs.declared.plan.Plan.{Plan}
use Rattle.beam_values.specs.declared.plan.Strategy.{Strategy}
use Rattle.beam_values.specs.declared.plan.Strategy.TheVariants as strategy
use Rattle.beam_values.specs.declared.value.Value.{Value}
use Rattle.beam_values.specs.declared.value.Value.TheVariants.{rolls-Pair, rolls-Seq}
use Rattle.beam_values.proofs.Bags.{bag_append, bag_filter, bag_from_same, bag_sym, bag_trans}
use Rattle.beam_values.proofs.Storable.{Pair-fits, Seq-fits, values_same}
use Rattle.beam_model.specs.Chains.{Output, Arrives, PoisonAt, chain}
use Rattle.beam_model.specs.Coverings.{spread_dones}
use Rattle.beam_model.specs.Flow.{elements_at, is_at}
use Rattle.beam_model.specs.Functions.{ascending, fold_of}
use Rattle.beam_model.specs.Panes.{is_sessions}
use Rattle.beam_model.specs.Plain.{IsGroupAbove, IsGroupedBy, IsPlainAt, IsPlainRun, is_met, plain_flow}
use Rattle.beam_model.specs.Positions.{items}
use Rattle.beam_model.specs.Spread.{first_poison, HasPoison, is_poison, spread_all}
use Rattle.beam_model.specs.Values.{pair, seq}
use Rattle.beam_model.proofs.Ascending.{ascending_same}
use Rattle.combine_lift.specs.Folds.{AreFolds, fold_or_none, is_combined_of, values_of}
use Rattle.combine_lift.specs.Lifting.{IsLiftable}
use Rattle.combine_lift.specs.Tables.{Added, parts_of}
use Rattle.combine_lift.specs.declared.combined.Combined.{Combined}
use Rattle.combine_laws.specs.Brought.{added_by, added_of, brought_to, is_brought}
use Rattle.combine_laws.specs.Combined.{HasFunction, IsCombined, IsSomePoison, MeetsPoison}
use Rattle.combine_laws.specs.Lasting.{HasLasted, chains_of, combined_element, element_of, pane_of}
use Rattle.combine_laws.proofs.Causes.{IsElementOf, key_storable, same_fold, same_parts}
use Rattle.combine_laws.proofs.FlatValues.{IsFlatElement, flat_storable, part_flat}
use Rattle.combine_laws.proofs.Folding.{folds_alike, pane_brings}
use Rattle.combine_laws.proofs.Keeping.{HasKept, chain_keeps}
use Rattle.combine_laws.proofs.KeptByPlans.{flat_by_plan, placed_by_plan}
use Rattle.combine_laws.proofs.Lists.{any_in_any_order, each_append, each_filter, each_mapped, each_unmapped, each_weaker, filter-map, filter_failing, filter_passing, filter_twice, map-map, none_in_any_order}
use Rattle.combine_laws.proofs.Panes.{IsFoldOf, ascending_storable, folds_of_rows, panes_grouped, parts_storable, some_time, span_alike}
use Rattle.combine_laws.proofs.Places.{IsPlaced, global_placed}
use Rattle.combine_laws.proofs.Reach.{IsWrittenBelow, brings_to_group, chain_written, is_the_group, none_stateful, not_both, one_group, write_ends}
use Rattle.combine_laws.proofs.Sources.{BringsSo, IsSourceOf, brings_flat, brings_whatever, dones_bring, items_known}

-- ---- what a program can hold

pane_storable : (key : Value) (parts : List Value) → IsStorable key → AllByRecursion IsStorable parts → IsStorable (pair key (seq parts))
pane_storable key parts first each =
    let whole : IsStorable (seq parts) = subst IsStorable (sym (rolls-Seq parts)) (Seq-fits parts each) in
    subst IsStorable (sym (rolls-Pair key (seq parts))) (Pair-fits key (seq parts) first whole)

-- ---- strategies without sessions

grouped_by : (s : Strategy) (elements panes : List Element) → is_sessions s ≡ false → IsPlainGrouping elements panes → IsGroupedBy s elements panes
grouped_by strategy.Global elements panes none grouping = grouping
grouped_by (strategy.Fixed size) elements panes none grouping = grouping
grouped_by (strategy.Sliding size period) elements panes none grouping = grouping
grouped_by (strategy.Sessions gap) elements panes none grouping = absurd cc
grouped_by strategy.Kept elements panes none grouping = grouping

-- ---- no poison

arrivals_clean : (arrivals : List Arrival) → list_any is_poison (map Arrives arrivals) ≡ false
arrivals_clean [] = refl
arrivals_clean (arrival ∷ arrivals) = arrivals_clean arrivals

clean_first : (arrivals : List Arrival) → first_poison (map Arrives arrivals) ≡ None
clean_first [] = refl
clean_first (arrival ∷ arrivals) = clean_first arrivals

-- the first of two lists has no poison where both together have none
clean_front : (xs ys : List Output) → first_poison (xs ++ ys) ≡ None → first_poison xs ≡ None
clean_front [] ys none = refl
clean_front (Arrives arrival ∷ xs) ys none = clean_front xs ys none
clean_front (PoisonAt node ∷ xs) ys none = absurd cc

clean_back : (xs ys : List Output) → first_poison (xs ++ ys) ≡ None → first_poison ys ≡ None
clean_back [] ys none = none
clean_back (Arrives arrival ∷ xs) ys none = clean_back xs ys none
clean_back (PoisonAt node ∷ xs) ys none = absurd cc

module _ (plan : Plan) (checked : IsChecked plan) (told : List FileText) (group function : ℕ) (work : FnKind) (liftable : IsLiftable plan) (has : HasFunction plan group function work)
    (ranges : List Done) (all : IsSameBag (spread_dones plan (items told plan) ranges) (spread_all plan (items told plan)))
    (arrivals : List Arrival) (came : map Arrives arrivals ≡ spread_dones plan (items told plan) ranges) (rows : List Combined) (folds : AreFolds work (added_by arrivals) rows)
    (written : List Arrival) (lasted : HasLasted plan function rows written) where
  -- ---- what came to the Group

  abbrev arrived : List Element
  arrived = map (λ arrival. arrival.element) arrivals

  abbrev added : List Added
  added = map added_of arrived

  same_added : added_by arrivals ≡ added
  same_added = sym (map-map added_of (λ (a : Arrival). a.element) arrivals)

  added_folds : AreFolds work added rows
  added_folds = subst (λ (l : List Added). AreFolds work l rows) same_added folds

  sources : AllByRecursion (IsSourceOf plan) (items told plan)
  sources = items_known plan checked told

  arrivals_so : (Q : Output → Type 0) → AllByRecursion (BringsSo plan Q) (items told plan) → AllByRecursion (λ arrival. Q (Arrives arrival)) arrivals
  arrivals_so Q brings = each_unmapped Q Arrives arrivals (subst (AllByRecursion Q) (sym came) (dones_bring plan Q (items told plan) brings ranges))

  arrivals_at_group : AllByRecursion (λ arrival. (arrival.node == group) ≡ true) arrivals
  arrivals_at_group =
      arrivals_so (λ output. is_brought group output ≡ true)
      (each_weaker (IsSourceOf plan) (BringsSo plan (λ output. is_brought group output ≡ true)) (brings_to_group plan group has.only liftable.stateless liftable.met) (items told plan) sources)

  arrivals_flat : AllByRecursion (λ arrival. IsFlatElement arrival.element) arrivals
  arrivals_flat =
      arrivals_so (HasKept IsFlatElement)
      (each_weaker (IsSourceOf plan) (BringsSo plan (HasKept IsFlatElement)) (brings_flat plan (flat_by_plan plan checked)) (items told plan) sources)

  arrivals_placed : AllByRecursion (λ arrival. IsPlaced arrival.element) arrivals
  arrivals_placed =
      arrivals_so (HasKept IsPlaced)
      (each_weaker (IsSourceOf plan) (BringsSo plan (HasKept IsPlaced)) (λ item known. brings_whatever IsPlaced (λ v. global_placed) plan (placed_by_plan plan checked) item) (items told plan) sources)

  added_storable : AllByRecursion (λ a. IsStorable a.part) added
  added_storable =
      each_mapped (λ (a : Added). IsStorable a.part) added_of arrived
      (each_weaker IsFlatElement (λ e. IsStorable (part_of e)) (λ e flat. flat_storable (part_of e) (part_flat e flat)) arrived
      (each_mapped IsFlatElement (λ (a : Arrival). a.element) arrivals arrivals_flat))

  added_placed : AllByRecursion (λ a. IsNonEmpty a.span) added
  added_placed =
      each_mapped (λ (a : Added). IsNonEmpty a.span) added_of arrived (each_mapped IsPlaced (λ (a : Arrival). a.element) arrivals arrivals_placed)

  -- ---- rows and their panes

  abbrev pane_at : Combined → Arrival
  pane_at row = record { node = group; element = pane_of added row }

  abbrev fired : List Arrival
  fired = map pane_at rows

  -- what is known of a row
  record IsWhole (row : Combined) : Type 0 where
    value : Value
    is : row.value ≡ Some value
    storable : IsStorable row.key
    some : (parts_of row.key row.span added ≡ []) → ⊥
    folded : fold_of work (parts_of row.key row.span added) ≡ Some value

  whole_of : (row : Combined) (e : Element) → IsElementOf row e → IsFoldOf work (parts_of row.key row.span added) row.value → IsWhole row
  whole_of row e element fold = record {
    value = element.value;
    is = element.is;
    storable = element.storable;
    some = fold.some;
    folded = sym fold.folded ∙ element.is;
  }

  wholes_of : (some : List Combined) (elements : List Element) → map combined_element some ≡ map Some elements → AllByRecursion (λ e. IsStorable e.value) elements
      → AllByRecursion (λ row. IsFoldOf work (parts_of row.key row.span added) row.value) some → AllByRecursion IsWhole some
  wholes_of [] elements each storable known = tt
  wholes_of (row ∷ later) [] each storable known = absurd cc
  wholes_of (row ∷ later) (e ∷ elements) each storable known =
      let first : combined_element row ≡ Some e = cc in
      let rest : map combined_element later ≡ map Some elements = cc in
      (whole_of row e (key_storable row e first storable.0) known.0, wholes_of later elements rest storable.1 known.1)

  wholes : AllByRecursion IsWhole rows
  wholes = wholes_of rows lasted.elements lasted.each (recursion_from_All (λ e. IsStorable e.value) lasted.elements lasted.storable) (folds_of_rows work added rows added_folds)

  -- ---- what panes bring

  abbrev brings : Arrival → List Output
  brings pane = chain plan pane.node pane.element

  pane_chain : (row : Combined) (whole : IsWhole row) → brings (pane_at row) ≡ chain plan function (element_of row whole.value)
  pane_chain row whole =
      let parts : List Value = parts_of row.key row.span added in
      pane_brings plan checked group function work has row (ascending parts) whole.value
      (folds_alike work has.folds (ascending parts) parts (ascending_same parts) ∙ whole.folded)

  panes_chain : (some : List Combined) (elements : List Element) → map combined_element some ≡ map Some elements → AllByRecursion IsWhole some
      → flat_map brings (map pane_at some) ≡ chains_of plan function elements
  panes_chain [] [] each known = refl
  panes_chain [] (e ∷ elements) each known = absurd cc
  panes_chain (row ∷ later) [] each known = absurd cc
  panes_chain (row ∷ later) (e ∷ elements) each known =
      let first : combined_element row ≡ Some e = cc in
      let rest : map combined_element later ≡ map Some elements = cc in
      let same : element_of row known.0.value ≡ e = same_Some (element_of row known.0.value) e (sym (ap (option_map (element_of row)) known.0.is) ∙ first) in
      ap₂ (λ (a b : List Output). a ++ b) (pane_chain row known.0 ∙ ap (chain plan function) same) (panes_chain later elements rest known.1)

  fired_written : flat_map brings fired ≡ map Arrives written
  fired_written = panes_chain rows lasted.elements lasted.each wholes ∙ sym lasted.arrived

  fired_bring : (Q : Output → Type 0) (R : Combined → Type 0) → ((row : Combined) → R row → AllByRecursion Q (brings (pane_at row))) → (some : List Combined) → AllByRecursion R some
      → AllByRecursion Q (flat_map brings (map pane_at some))
  fired_bring Q R so [] known = tt
  fired_bring Q R so (row ∷ later) known = each_append Q (brings (pane_at row)) (flat_map brings (map pane_at later)) (so row known.0) (fired_bring Q R so later known.1)

  written_so : (Q : Output → Type 0) (R : Combined → Type 0) → ((row : Combined) → R row → AllByRecursion Q (brings (pane_at row))) → AllByRecursion R rows
      → AllByRecursion (λ arrival. Q (Arrives arrival)) written
  written_so Q R so known = each_unmapped Q Arrives written (subst (AllByRecursion Q) fired_written (fired_bring Q R so rows known))

  written_below : AllByRecursion (λ arrival. (is_write plan arrival.node ≡ true) × (is_above plan group arrival.node ≡ true)) written
  written_below = written_so (IsWrittenBelow plan group) IsWhole (λ row whole. chain_written plan group has.only liftable.stateless (pane_of added row)) wholes

  written_placed : AllByRecursion (λ arrival. IsPlaced arrival.element) written
  written_placed =
      written_so (HasKept IsPlaced) IsWhole
      (λ row whole. chain_keeps IsPlaced plan (placed_by_plan plan checked) group (pane_of added row) (some_time row.key row.span added added_placed whole.some)) wholes

  -- ---- plain grouping at the Group

  group_is : is_group plan group ≡ true
  group_is = is_the_group plan group has.only

  no_sessions : is_sessions (strategy_of plan group) ≡ false
  no_sessions =
      let same : liftable.group ≡ group = same_Some liftable.group group (sym liftable.only ∙ has.only) in
      subst (λ (n : ℕ). is_sessions (strategy_of plan n) ≡ false) same liftable.windows

  panes_at_group : elements_at group fired ≡ map (pane_of added) rows
  panes_at_group =
      ap (map (λ (a : Arrival). a.element))
      (filter-map (is_at group) pane_at rows ∙ ap (map pane_at) (filter_passing (λ row. is_at group (pane_at row)) rows (own rows)))
      ∙ map-map (λ (a : Arrival). a.element) pane_at rows
    where
      own : (some : List Combined) → AllByRecursion (λ row. is_at group (pane_at row) ≡ true) some
      own [] = tt
      own (row ∷ later) = (eq-eqb group group refl, own later)

  fired_storable : AllByRecursion (λ pane. IsStorable pane.element.value) fired
  fired_storable =
      each_mapped (λ (pane : Arrival). IsStorable pane.element.value) pane_at rows
      (each_weaker IsWhole (λ row. IsStorable (pane_of added row).value)
      (λ row whole.
      pane_storable row.key (ascending (parts_of row.key row.span added)) whole.storable
      (ascending_storable (parts_of row.key row.span added) (parts_storable row.key row.span added added_storable)))
      rows wholes)

  -- ---- at a Write

  module _ (write : ℕ) (is : is_write plan write ≡ true) where
    abbrev is_met_at : Arrival → Bool
    is_met_at arrival = is_met plan write (Arrives arrival)

    away : (n : ℕ) → (n == group) ≡ true → (n == write) ≡ false
    away n at = ne_eqb n write (λ same. not_both plan group write group_is is (sym (eqb-true n group at) ∙ same))

    none_written_at_group : AllByRecursion (λ arrival. is_at group arrival ≡ false) written
    none_written_at_group =
        each_weaker (λ (a : Arrival). (is_write plan a.node ≡ true) × (is_above plan group a.node ≡ true)) (λ a. is_at group a ≡ false)
        (λ a below. ne_eqb a.node group (λ same. not_both plan group a.node group_is below.0 (sym same))) written written_below

    -- ---- below the Group

    module _ (above : is_above plan group write ≡ true) where
      abbrev met : List Arrival
      met = arrivals ++ filter is_met_at written

      arrivals_met : AllByRecursion (λ arrival. is_met_at arrival ≡ true) arrivals
      arrivals_met =
          each_weaker (λ (a : Arrival). (a.node == group) ≡ true) (λ a. is_met_at a ≡ true)
          (λ a at. or_right (a.node == write) (is_above plan a.node write) (ap (λ (n : ℕ). is_above plan n write) (eqb-true a.node group at) ∙ above)) arrivals arrivals_at_group

      whole_flow : IsSameBag (plain_flow plan (items told plan) fired) (map Arrives (arrivals ++ written))
      whole_flow =
          bag_trans (plain_flow plan (items told plan) fired) (map Arrives arrivals ++ map Arrives written) (map Arrives (arrivals ++ written))
          (bag_append (spread_all plan (items told plan)) (map Arrives arrivals) (flat_map brings fired) (map Arrives written)
          (bag_sym (map Arrives arrivals) (spread_all plan (items told plan)) (subst (λ (l : List Output). IsSameBag l (spread_all plan (items told plan))) (sym came) all))
          (bag_from_same (flat_map brings fired) (map Arrives written) fired_written))
          (bag_from_same (map Arrives arrivals ++ map Arrives written) (map Arrives (arrivals ++ written)) (sym (map-append Arrives arrivals written)))

      met_is : filter (is_met plan write) (map Arrives (arrivals ++ written)) ≡ map Arrives met
      met_is =
          filter-map (is_met plan write) Arrives (arrivals ++ written)
          ∙ ap (map Arrives) (filter-append is_met_at arrivals written ∙ ap (λ (l : List Arrival). l ++ filter is_met_at written) (filter_passing is_met_at arrivals arrivals_met))

      flow_met : IsSameBag (filter (is_met plan write) (plain_flow plan (items told plan) fired)) (map Arrives met)
      flow_met =
          bag_trans (filter (is_met plan write) (plain_flow plan (items told plan) fired)) (filter (is_met plan write) (map Arrives (arrivals ++ written))) (map Arrives met)
          (bag_filter (is_met plan write) (plain_flow plan (items told plan) fired) (map Arrives (arrivals ++ written)) whole_flow)
          (bag_from_same (filter (is_met plan write) (map Arrives (arrivals ++ written))) (map Arrives met) met_is)

      met_at_group : elements_at group met ≡ arrived
      met_at_group =
          ap (map (λ (a : Arrival). a.element))
          (filter-append (is_at group) arrivals (filter is_met_at written)
          ∙ ap₂ (λ (a b : List Arrival). a ++ b) (filter_passing (is_at group) arrivals arrivals_at_group)
          (filter_failing (is_at group) (filter is_met_at written) (each_filter (λ a. is_at group a ≡ false) is_met_at written none_written_at_group))
          ∙ append-nil arrivals)

      met_here : elements_at write written ≡ elements_at write met
      met_here =
          ap (map (λ (a : Arrival). a.element))
          (sym (filter-append (is_at write) arrivals (filter is_met_at written)
          ∙ ap₂ (λ (a b : List Arrival). a ++ b)
          (filter_failing (is_at write) arrivals (each_weaker (λ (a : Arrival). (a.node == group) ≡ true) (λ a. is_at write a ≡ false) (λ a at. away a.node at) arrivals arrivals_at_group))
          (filter_twice (is_at write) is_met_at (λ a at. or_left (a.node == write) (is_above plan a.node write) at) written)))

      grouped : (node : ℕ) → IsGroupAbove plan write node → IsGroupedBy (strategy_of plan node) (elements_at node met) (elements_at node fired)
      grouped node known =
          subst (λ (n : ℕ). IsGroupedBy (strategy_of plan n) (elements_at n met) (elements_at n fired)) (sym (one_group plan group has.only node known.0))
          (subst (λ (l : List Element). IsGroupedBy (strategy_of plan group) l (elements_at group fired)) (sym met_at_group)
          (subst (IsGroupedBy (strategy_of plan group) arrived) (sym panes_at_group)
          (grouped_by (strategy_of plan group) arrived (map (pane_of added) rows) no_sessions (panes_grouped work arrived rows added_folds))))

      from_group : (some : List Combined) → AllByRecursion (λ pane. IsGroupAbove plan write pane.node) (map pane_at some)
      from_group [] = tt
      from_group (row ∷ later) = ((group_is, above), from_group later)

      run_below : IsPlainRun plan (items told plan) write met fired
      run_below = record {
        ends_here = write_ends plan write is;
        stateless = none_stateful plan group has.only liftable.stateless write;
        clean = flow_met;
        from_groups = All-from_recursion (λ pane. IsGroupAbove plan write pane.node) fired (from_group rows);
        grouped = grouped;
        storable = All-from_recursion (λ pane. IsStorable pane.element.value) fired fired_storable;
        held = All-from_recursion (λ arrival. IsNonEmpty arrival.element.span) met
            (each_append (λ (a : Arrival). IsPlaced a.element) arrivals (filter is_met_at written) arrivals_placed (each_filter (λ (a : Arrival). IsPlaced a.element) is_met_at written written_placed));
      }

      plain_below : IsPlainAt plan (items told plan) write (elements_at write written)
      plain_below = (met, fired, run_below, bag_from_same (elements_at write written) (elements_at write met) met_here)

    -- ---- beside the Group

    module _ (beside : is_above plan group write ≡ false) where
      arrivals_unmet : AllByRecursion (λ arrival. is_met_at arrival ≡ false) arrivals
      arrivals_unmet =
          each_weaker (λ (a : Arrival). (a.node == group) ≡ true) (λ a. is_met_at a ≡ false)
          (λ a at.
          or_from (a.node == write) (is_above plan a.node write) (away a.node at)
          (ap (λ (n : ℕ). is_above plan n write) (eqb-true a.node group at) ∙ beside)) arrivals arrivals_at_group

      flow_unmet : IsSameBag (filter (is_met plan write) (plain_flow plan (items told plan) [])) (map Arrives [])
      flow_unmet =
          bag_trans (filter (is_met plan write) (plain_flow plan (items told plan) [])) (filter (is_met plan write) (map Arrives arrivals)) (map Arrives [])
          (bag_filter (is_met plan write) (plain_flow plan (items told plan) []) (map Arrives arrivals)
          (bag_trans (plain_flow plan (items told plan) []) (spread_all plan (items told plan)) (map Arrives arrivals)
          (bag_from_same (plain_flow plan (items told plan) []) (spread_all plan (items told plan)) (append-nil (spread_all plan (items told plan))))
          (bag_sym (map Arrives arrivals) (spread_all plan (items told plan)) (subst (λ (l : List Output). IsSameBag l (spread_all plan (items told plan))) (sym came) all))))
          (bag_from_same (filter (is_met plan write) (map Arrives arrivals)) (map Arrives [])
          (filter-map (is_met plan write) Arrives arrivals ∙ ap (map Arrives) (filter_failing is_met_at arrivals arrivals_unmet)))

      none_here : elements_at write written ≡ []
      none_here =
          ap (map (λ (a : Arrival). a.element))
          (filter_failing (is_at write) written
          (each_weaker (λ (a : Arrival). (is_write plan a.node ≡ true) × (is_above plan group a.node ≡ true)) (λ a. is_at write a ≡ false)
          (λ a below. ne_eqb a.node write (λ same. false≢true (sym beside ∙ ap (is_above plan group) (sym same) ∙ below.1))) written written_below))

      no_group : (node : ℕ) → IsGroupAbove plan write node → ⊥
      no_group node known =
          false≢true (sym beside ∙ ap (λ (n : ℕ). is_above plan n write) (sym (one_group plan group has.only node known.0)) ∙ known.1)

      run_beside : IsPlainRun plan (items told plan) write [] []
      run_beside = record {
        ends_here = write_ends plan write is;
        stateless = none_stateful plan group has.only liftable.stateless write;
        clean = flow_unmet;
        from_groups = All-nil (λ (pane : Arrival). IsGroupAbove plan write pane.node);
        grouped = λ node known. absurd (no_group node known);
        storable = All-nil (λ (pane : Arrival). IsStorable pane.element.value);
        held = All-nil (λ (arrival : Arrival). IsNonEmpty arrival.element.span);
      }

      plain_beside : IsPlainAt plan (items told plan) write (elements_at write written)
      plain_beside = ([], [], run_beside, bag_from_same (elements_at write written) [] none_here)

    written_plain : IsPlainAt plan (items told plan) write (elements_at write written)
    written_plain = by (cases_Bool (is_above plan group write))
      where
        by : (is_above plan group write ≡ true) ⊎ (is_above plan group write ≡ false) → IsPlainAt plan (items told plan) write (elements_at write written)
        by (inl above) = plain_below above
        by (inr beside) = plain_beside beside

  -- ---- nothing is poison

  spread_clean : HasPoison plan (items told plan) → ⊥
  spread_clean poison =
      let bag : IsSameBag (map Arrives arrivals) (spread_all plan (items told plan)) = subst (λ (l : List Output). IsSameBag l (spread_all plan (items told plan))) (sym came) all in
      false≢true (sym (arrivals_clean arrivals) ∙ any_in_any_order is_poison (map Arrives arrivals) (spread_all plan (items told plan)) bag ∙ poison)

  chains_clean : first_poison (chains_of plan function lasted.elements) ≡ None
  chains_clean = ap first_poison (sym lasted.arrived) ∙ clean_first written

  -- a row of the key and window, with its element and fold
  record IsFoundAs (key : Value) (span : Interval) : Type 0 where
    row : Combined
    e : Element
    same : is_combined_of key span row ≡ true
    element : IsElementOf row e
    fold : IsFoldOf work (parts_of row.key row.span (added_by arrivals)) row.value
    clean : first_poison (chain plan function e) ≡ None

  found_among : (key : Value) (span : Interval) (some : List Combined) (elements : List Element) → map combined_element some ≡ map Some elements → AllByRecursion (λ e. IsStorable e.value) elements
      → AllByRecursion (λ row. IsFoldOf work (parts_of row.key row.span (added_by arrivals)) row.value) some → first_poison (chains_of plan function elements) ≡ None
      → ((values_of key span some ≡ []) → ⊥) → IsFoundAs key span
  found_among key span [] elements each storable known clean there = absurd (there refl)
  found_among key span (row ∷ later) [] each storable known clean there = absurd cc
  found_among key span (row ∷ later) (e ∷ elements) each storable known clean there =
      let first : combined_element row ≡ Some e = cc in
      let rest : map combined_element later ≡ map Some elements = cc in
      by (is_combined_of key span row) refl (key_storable row e first storable.0)
      (found_among key span later elements rest storable.1 known.1 (clean_back (chain plan function e) (chains_of plan function elements) clean))
    where
      by : (b : Bool) → is_combined_of key span row ≡ b → IsElementOf row e → (((values_of key span later ≡ []) → ⊥) → IsFoundAs key span) → IsFoundAs key span
      by true same element onward = record {
        row = row;
        e = e;
        same = same;
        element = element;
        fold = known.0;
        clean = clean_front (chain plan function e) (chains_of plan function elements) clean;
      }
      by false other element onward =
          onward (λ none. there (ap (λ b. map (λ (c : Combined). c.value) (cond b (row ∷ filter (is_combined_of key span) later) (filter (is_combined_of key span) later))) other ∙ none))

  no_parts : (parts : List Value) → fold_or_none work parts ≡ [] → parts ≡ []
  no_parts [] none = refl
  no_parts (part ∷ parts) none = absurd cc

  found_row : (key : Value) (span : Interval) → ((parts_of key span (brought_to plan (items told plan) group) ≡ []) → ⊥) → IsFoundAs key span
  found_row key span some =
      found_among key span rows lasted.elements lasted.each (recursion_from_All (λ e. IsStorable e.value) lasted.elements lasted.storable)
      (folds_of_rows work (added_by arrivals) rows folds) chains_clean
      (λ none.
      some (none_in_any_order (parts_of key span (brought_to plan (items told plan) group)) (parts_of key span (added_by arrivals))
      (bag_sym (parts_of key span (added_by arrivals)) (parts_of key span (brought_to plan (items told plan) group))
      (same_parts plan checked told group function work liftable has ranges all arrivals came rows folds key span))
      (no_parts (parts_of key span (added_by arrivals)) (sym (folds.each key span) ∙ none))))

  abbrev element_at : Value → Interval → Value → Element
  element_at key span value = element_of (record { key = key; span = span; value = None }) value

  -- it is the element of any row with this key, window and value
  found_element : (key : Value) (span : Interval) (value : Value) → IsStorable key → fold_of work (parts_of key span (brought_to plan (items told plan) group)) ≡ Some value
      → (found : IsFoundAs key span) → element_at key span value ≡ found.e
  found_element key span value storable folded found =
      let tests = and_parts (bytes_eq (spelling found.row.key) (spelling key)) (same_span found.row.span span) found.same in
      let keys : found.row.key ≡ key =
      values_same found.row.key key found.element.storable storable ((bytes_eq-Decides (spelling found.row.key) (spelling key)).0 tests.0) in
      let spans : found.row.span ≡ span = span_alike found.row.span span tests.1 in
      let values : found.element.value ≡ value =
      same_Some found.element.value value
      (sym found.element.is ∙ found.fold.folded
      ∙ ap₂ (λ (k : Value) (s : Interval). fold_of work (parts_of k s (added_by arrivals))) keys spans
      ∙ same_fold plan checked told group function work liftable has ranges all arrivals came rows folds key span
      ∙ folded) in
      sym (ap₂ (λ (k : Value) (s : Interval). element_at k s found.element.value) keys spans ∙ ap (element_at key span) values) ∙ found.element.same

  combined_clean : (at : ℕ) → MeetsPoison plan (items told plan) group function work at → ⊥
  combined_clean at meets =
      let found = found_row meets.row.key meets.row.span meets.came in
      let same : element_at meets.row.key meets.row.span meets.value ≡ found.e = found_element meets.row.key meets.row.span meets.value meets.storable meets.folded found in
      let never : None ≡ Some at = sym found.clean ∙ sym (ap (λ (e : Element). first_poison (chain plan function e)) same) ∙ meets.poison in
      absurd cc

  -- ---- what was combined

  pub combined_plain : IsCombined plan (items told plan) group function work written
  combined_plain = record {
    each = written_plain;
    only = All-from_recursion (λ arrival. is_write plan arrival.node ≡ true) written
        (each_weaker (λ (a : Arrival). (is_write plan a.node ≡ true) × (is_above plan group a.node ≡ true)) (λ a. is_write plan a.node ≡ true) (λ a below. below.0) written written_below);
    clean = clean;
  }
    where
      clean : IsSomePoison plan (items told plan) group function work → ⊥
      clean (inl poison) = spread_clean poison
      clean (inr meets) = combined_clean meets.0 meets.1
