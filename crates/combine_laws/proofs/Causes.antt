-- What refusals show of the input: a part that isn't taken, a sum that leaves 64 bits, too many parts, poison.
use Rattle.std.proofs.Common.{◌≡◌, ◌⊎◌, inl, inr, ℕ, ◌<◌, Bool, true, cond, List, [], ◌∷◌, ◌++◌, length, map, Option, Some, None, refl, sym, ap, subst, ◌∙◌}
use Rattle.std.specs.Prelude.{is_none, not}
use Rattle.std.specs.List.{All, AllByRecursion, count_by, list_all, list_any}
use Rattle.std.specs.Option.{option_map}
use Rattle.std.proofs.lemmas.Bool.{or_cases}
use Rattle.std.proofs.lemmas.List.Elements.{recursion_from_All}
use Rattle.std.proofs.lemmas.Option.{same_Some}
use Rattle.beam_values.specs.Bags.{IsSameBag}
use Rattle.beam_values.specs.Checked.{IsChecked}
use Rattle.beam_values.specs.Intervals.{Interval}
use Rattle.beam_values.specs.Storable.{IsStorable}
use Rattle.beam_values.specs.declared.arrival.Arrival.{Arrival}
use Rattle.beam_values.specs.declared.element.Element.{Element}
use Rattle.beam_values.specs.declared.file_text.FileText.{FileText}
use Rattle.beam_values.specs.declared.piece.Done.{Done}
use Rattle.beam_values.specs.declared.plan.FnKind.{FnKind}
use Rattle.beam_values.specs.declared.plan.Plan.{Plan}
use Rattle.beam_values.specs.declared.value.Value.{Value}
use Rattle.beam_values.specs.declared.value.Value.TheVariants.{rolls-Pair}
use Rattle.beam_values.proofs.Storable.{fits-Pair}
use Rattle.beam_model.specs.Chains.{Output, Arrives, PoisonAt, chain}
use Rattle.beam_model.specs.Coverings.{spread_dones}
use Rattle.beam_model.specs.Functions.{fold_of}
use Rattle.beam_model.specs.Positions.{items}
use Rattle.beam_model.specs.Spread.{first_poison, HasPoison, is_poison, spread_all}
use Rattle.beam_model.specs.Values.{pair}
use Rattle.combine_lift.specs.Folds.{AreFolds}
use Rattle.combine_lift.specs.Lifting.{IsLiftable}
use Rattle.combine_lift.specs.Tables.{Table, Added, OneStandsFor, StandsFor, accs_of, parts_of}
use Rattle.combine_lift.specs.declared.combined.Combined.{Combined}
use Rattle.combine_laws.specs.Brought.{added_by, added_of, arrivals_in, brought_to, is_arrival, is_untaken, is_brought}
use Rattle.combine_laws.specs.Combined.{HasFunction, MeetsMany, MeetsPart, MeetsPoison, MeetsSum, most_parts, takes_of}
use Rattle.combine_laws.specs.Lasting.{chains_of, combined_element, element_of}
use Rattle.combine_laws.proofs.Bringing.{count_brought, elements_brought, parts_alike, untaken_brought}
use Rattle.combine_laws.proofs.Folding.{folds_alike}
use Rattle.combine_laws.proofs.Lists.{all_in_any_order, any_in_any_order, each_weaker, none_in_any_order}
use Rattle.combine_laws.proofs.Panes.{IsFoldOf, folds_of_rows}
use Rattle.combine_laws.proofs.Reach.{brings_to_group}
use Rattle.combine_laws.proofs.Sources.{BringsSo, IsSourceOf, all_bring, items_known}

-- ---- what stands for parts

-- where whatever stands for parts stands for taken ones alone, a table has taken parts alone
pub standing_taken : {A : Type 0} (stands : A → List Value → Type 0) (takes : Value → Bool) → ((acc : A) (parts : List Value) → stands acc parts → list_all takes parts ≡ true)
    → (table : Table A) (added : List Added) → StandsFor stands table added → (key : Value) (span : Interval) → list_all takes (parts_of key span added) ≡ true
standing_taken {A} stands takes taken table added standing key span = by (accs_of key span table.rows) (parts_of key span added) (standing.each key span)
  where
    by : (accs : List A) (parts : List Value) → OneStandsFor stands accs parts → list_all takes parts ≡ true
    by [] parts none = ap (list_all takes) none
    by (acc ∷ []) parts one = taken acc parts one.1
    by (acc ∷ other ∷ accs) parts none = absurd none

-- ---- combined elements and rows

-- a row with its element: it has a value, with which it is the element; and as its value is storable, so is its key
pub record IsElementOf (row : Combined) (e : Element) : Type 0 where
  pub value : Value
  pub is : row.value ≡ Some value
  pub same : element_of row value ≡ e
  pub storable : IsStorable row.key

pub key_storable : (row : Combined) (e : Element) → combined_element row ≡ Some e → IsStorable e.value → IsElementOf row e
key_storable row e is storable = by row.value refl is
  where
    by : (found : Option Value) → row.value ≡ found → option_map (element_of row) found ≡ Some e → IsElementOf row e
    by None has never = absurd cc
    by (Some v) has found =
        let same : element_of row v ≡ e = same_Some (element_of row v) e found in
        let whole : IsStorable (pair row.key v) = subst (λ (x : Element). IsStorable x.value) (sym same) storable in
        record { value = v; is = has; same = same; storable = (fits-Pair row.key v (subst IsStorable (rolls-Pair row.key v) whole)).0 }

-- ---- poison among chains

poison_either : (xs ys : List Output) (at : ℕ) → first_poison (xs ++ ys) ≡ Some at → (first_poison xs ≡ Some at) ⊎ (first_poison ys ≡ Some at)
poison_either [] ys at is = inr is
poison_either (Arrives arrival ∷ xs) ys at is = poison_either xs ys at is
poison_either (PoisonAt node ∷ xs) ys at is = inl is

module _ (plan : Plan) (checked : IsChecked plan) (told : List FileText) (group function : ℕ) (work : FnKind) (liftable : IsLiftable plan) (has : HasFunction plan group function work) where
  -- all outputs of sources come to the Group
  pub all_brought : AllByRecursion (λ output. is_brought group output ≡ true) (spread_all plan (items told plan))
  all_brought =
      all_bring plan (λ output. is_brought group output ≡ true) (items told plan)
      (each_weaker (IsSourceOf plan) (BringsSo plan (λ output. is_brought group output ≡ true)) (brings_to_group plan group has.only liftable.stateless liftable.met)
      (items told plan) (items_known plan checked told))

  all_elements : map added_of (map (λ arrival. arrival.element) (arrivals_in (spread_all plan (items told plan)))) ≡ brought_to plan (items told plan) group
  all_elements = sym (ap (map added_of) (elements_brought group (spread_all plan (items told plan)) all_brought))

  module _ (ranges : List Done) (all : IsSameBag (spread_dones plan (items told plan) ranges) (spread_all plan (items told plan))) where
    pub meets_part : list_any (is_untaken (takes_of work)) (spread_dones plan (items told plan) ranges) ≡ true → MeetsPart plan (items told plan) group work
    meets_part some =
        sym (ap (list_any (λ (added : Added). not (takes_of work added.part))) all_elements)
        ∙ sym (untaken_brought (takes_of work) (spread_all plan (items told plan)))
        ∙ sym (any_in_any_order (is_untaken (takes_of work)) (spread_dones plan (items told plan) ranges) (spread_all plan (items told plan)) all)
        ∙ some

    pub meets_many : most_parts < count_by is_arrival (spread_dones plan (items told plan) ranges) → MeetsMany plan (items told plan) group
    meets_many more =
        let same : count_by is_arrival (spread_dones plan (items told plan) ranges) ≡ length (brought_to plan (items told plan) group) =
        all.weighs (λ output. cond {A = ℕ} (is_arrival output) 1 0) ∙ count_brought (spread_all plan (items told plan)) ∙ ap length all_elements in
        subst (λ (n : ℕ). most_parts < n) same more

    pub has_poison : list_any is_poison (spread_dones plan (items told plan) ranges) ≡ true → HasPoison plan (items told plan)
    has_poison some = sym (any_in_any_order is_poison (spread_dones plan (items told plan) ranges) (spread_all plan (items told plan)) all) ∙ some

    module _ (arrivals : List Arrival) (came : map Arrives arrivals ≡ spread_dones plan (items told plan) ranges) (rows : List Combined) (folds : AreFolds work (added_by arrivals) rows) where
      pub same_bag : IsSameBag (map Arrives arrivals) (spread_all plan (items told plan))
      same_bag = subst (λ (l : List Output). IsSameBag l (spread_all plan (items told plan))) (sym came) all

      pub same_parts : (key : Value) (span : Interval) → IsSameBag (parts_of key span (added_by arrivals)) (parts_of key span (brought_to plan (items told plan) group))
      same_parts key span = parts_alike group arrivals (spread_all plan (items told plan)) same_bag all_brought key span

      pub same_fold : (key : Value) (span : Interval) → fold_of work (parts_of key span (added_by arrivals)) ≡ fold_of work (parts_of key span (brought_to plan (items told plan) group))
      same_fold key span =
          folds_alike work has.folds (parts_of key span (added_by arrivals)) (parts_of key span (brought_to plan (items told plan) group)) (same_parts key span)

      -- ---- sums

      module _ (taken : (key : Value) (span : Interval) → list_all (takes_of work) (parts_of key span (added_by arrivals)) ≡ true) where
        row_meets_sum : (row : Combined) → IsFoldOf work (parts_of row.key row.span (added_by arrivals)) row.value → is_none row.value ≡ true → MeetsSum plan (items told plan) group work
        row_meets_sum row folded missing = record {
          key = row.key;
          span = row.span;
          taken = all_in_any_order (takes_of work) (parts_of row.key row.span (added_by arrivals)) (parts_of row.key row.span (brought_to plan (items told plan) group))
              (same_parts row.key row.span) (taken row.key row.span);
          none = sym (same_fold row.key row.span) ∙ sym folded.folded ∙ no_value row.value missing;
        }
          where
            no_value : (found : Option Value) → is_none found ≡ true → found ≡ None
            no_value None is = refl
            no_value (Some v) is = absurd cc

        rows_meet_sum : (some : List Combined) → AllByRecursion (λ row. IsFoldOf work (parts_of row.key row.span (added_by arrivals)) row.value) some
            → list_any (λ row. is_none row.value) some ≡ true → MeetsSum plan (items told plan) group work
        rows_meet_sum [] folded missing = absurd cc
        rows_meet_sum (row ∷ later) folded missing = by (or_cases (is_none row.value) (list_any (λ r. is_none r.value) later) missing) (rows_meet_sum later folded.1)
          where
            by : (is_none row.value ≡ true) ⊎ (list_any (λ r. is_none r.value) later ≡ true)
                → (list_any (λ r. is_none r.value) later ≡ true → MeetsSum plan (items told plan) group work) → MeetsSum plan (items told plan) group work
            by (inl here) onward = row_meets_sum row folded.0 here
            by (inr there) onward = onward there

        pub meets_sum : list_any (λ row. is_none row.value) rows ≡ true → MeetsSum plan (items told plan) group work
        meets_sum missing = rows_meet_sum rows (folds_of_rows work (added_by arrivals) rows folds) missing

      -- ---- poison of what was combined

      row_meets_poison : (row : Combined) (e : Element) (at : ℕ) → IsFoldOf work (parts_of row.key row.span (added_by arrivals)) row.value → IsElementOf row e
          → first_poison (chain plan function e) ≡ Some at → MeetsPoison plan (items told plan) group function work at
      row_meets_poison row e at folded whole poison = record {
        row = row;
        storable = whole.storable;
        came = λ none. folded.some (none_in_any_order (parts_of row.key row.span (added_by arrivals)) (parts_of row.key row.span (brought_to plan (items told plan) group)) (same_parts row.key row.span) none);
        value = whole.value;
        folded = sym (same_fold row.key row.span) ∙ sym folded.folded ∙ whole.is;
        poison = ap (λ (x : Element). first_poison (chain plan function x)) whole.same ∙ poison;
      }

      rows_meet_poison : (some : List Combined) (elements : List Element) (at : ℕ) → AllByRecursion (λ row. IsFoldOf work (parts_of row.key row.span (added_by arrivals)) row.value) some
          → map combined_element some ≡ map Some elements → AllByRecursion (λ e. IsStorable e.value) elements → first_poison (chains_of plan function elements) ≡ Some at
          → MeetsPoison plan (items told plan) group function work at
      rows_meet_poison some [] at folded each storable poison = absurd cc
      rows_meet_poison [] (e ∷ elements) at folded each storable poison = absurd cc
      rows_meet_poison (row ∷ later) (e ∷ elements) at folded each storable poison =
          let first : combined_element row ≡ Some e = cc in
          let rest : map combined_element later ≡ map Some elements = cc in
          by (poison_either (chain plan function e) (chains_of plan function elements) at poison) (key_storable row e first storable.0) (rows_meet_poison later elements at folded.1 rest storable.1)
        where
          by : (first_poison (chain plan function e) ≡ Some at) ⊎ (first_poison (chains_of plan function elements) ≡ Some at) → IsElementOf row e
              → (first_poison (chains_of plan function elements) ≡ Some at → MeetsPoison plan (items told plan) group function work at) → MeetsPoison plan (items told plan) group function work at
          by (inl here) whole onward = row_meets_poison row e at folded.0 whole here
          by (inr there) whole onward = onward there

      pub meets_poison : (elements : List Element) (at : ℕ) → map combined_element rows ≡ map Some elements → All (λ element. IsStorable element.value) elements
          → first_poison (chains_of plan function elements) ≡ Some at → MeetsPoison plan (items told plan) group function work at
      meets_poison elements at each storable poison =
          rows_meet_poison rows elements at (folds_of_rows work (added_by arrivals) rows folds) each (recursion_from_All (λ e. IsStorable e.value) elements storable) poison
