-- Folds: no order of the parts changes them, and what they have to do with the chains of panes.
use Rattle.std.proofs.Common.{◌≡◌, ◌⊎◌, inl, inr, ℕ, ◌+◌, ℤ, pos, ◌-ℤ◌, nat_lt, true, ◌||◌, List, [], ◌∷◌, append-nil, length, Option, Some, None, refl, sym, ap, ap₂, ◌∙◌, arith}
use Rattle.std.specs.Prelude.{unwrap_or}
use Rattle.std.specs.List.{flat_map, sum_by}
use Rattle.std.specs.Option.{option_map, option_and_then}
use Rattle.std.proofs.lemmas.Bool.{cases_eq, false≢true}
use Rattle.std.proofs.lemmas.Int.{ints}
use Rattle.std.proofs.lemmas.List.Sums.{sum_by-cons}
use Rattle.beam_values.specs.Bags.{IsSameBag}
use Rattle.beam_values.specs.Checked.{IsChecked}
use Rattle.beam_values.specs.Grouping.{pane_with}
use Rattle.beam_values.specs.declared.element.Element.{Element}
use Rattle.beam_values.specs.declared.plan.FnKind.{FnKind}
use Rattle.beam_values.specs.declared.plan.FnKind.TheVariants.{SumSeq, CountSeq, MaxSeq}
use Rattle.beam_values.specs.declared.plan.Node.{Node}
use Rattle.beam_values.specs.declared.plan.NodeKind.{NodeKind}
use Rattle.beam_values.specs.declared.plan.Plan.{Plan}
use Rattle.beam_values.specs.declared.value.Value.{Value}
use Rattle.beam_values.specs.declared.value.Value.TheViews.{out-roll-Value}
use Rattle.beam_model.specs.Chains.{carried, chain, through}
use Rattle.beam_model.specs.Functions.{fold_of, folds, greatest_of, in_word, one, sum_of, valued}
use Rattle.beam_model.specs.Values.{as_int, as_seq, int, numbers_in, pair, seq, with_first}
use Rattle.beam_model.proofs.Folds.{folded}
use Rattle.pipeline_graph.specs.Taking.{taken_by}
use Rattle.pipeline_graph.proofs.FollowerChains.{chain-followers}
use Rattle.combine_lift.specs.Parts.{all_above, all_below, no_weight, one_if_reached, others_in, reaching, weight}
use Rattle.combine_lift.specs.Standing.{IsMaxOf, IsSumOf, count_in_any_order, greater_of, is_reached, max_in_any_order, sum_in_any_order}
use Rattle.combine_lift.specs.declared.combined.Combined.{Combined}
use Rattle.combine_lift.proofs.Folding.{count_folded, is_reached-greater_of, max_folded, reached_once, some_of_two, sum_folded}
use Rattle.combine_laws.specs.Combined.{HasFunction}
use Rattle.combine_laws.specs.Lasting.{element_of}

-- ---- in any order

weigh_cons : (other : ℕ) (of : ℤ → ℕ) (part : Value) (parts : List Value) (found : Option ℤ) → as_int part ≡ found
    → sum_by (λ p. weight other of (as_int p)) (part ∷ parts) ≡ weight other of found + sum_by (λ p. weight other of (as_int p)) parts
weigh_cons other of part parts found is =
    sum_by-cons (λ p. weight other of (as_int p)) part parts ∙ ap (λ o. weight other of o + sum_by (λ p. weight other of (as_int p)) parts) is

-- where some part is no number, no numbers are read
unread : (parts : List Value) → (others_in parts ≡ 0 → ⊥) → numbers_in parts ≡ None
unread [] some = absurd (some refl)
unread (part ∷ parts) some = by (as_int part) refl (unread parts)
  where
    by : (found : Option ℤ) → as_int part ≡ found → ((others_in parts ≡ 0 → ⊥) → numbers_in parts ≡ None) → numbers_in (part ∷ parts) ≡ None
    by None is later = ap (λ first. with_first first (numbers_in parts)) is
    by (Some n) is later =
        ap (λ first. with_first first (numbers_in parts)) is
        ∙ ap (with_first (Some n)) (later (λ none. some (omega (arith, weigh_cons 1 no_weight part parts (Some n) is, none))))

as_seq-seq : (parts : List Value) → as_seq (seq parts) ≡ Some parts
as_seq-seq parts = simp out-roll-Value refl

no_sum : (parts : List Value) → (others_in parts ≡ 0 → ⊥) → fold_of SumSeq parts ≡ None
no_sum parts some =
    ap (λ items. option_map int (option_and_then (λ numbers. in_word (sum_of numbers)) (option_and_then numbers_in items))) (as_seq-seq parts)
    ∙ ap (λ numbers. option_map int (option_and_then (λ them. in_word (sum_of them)) numbers)) (unread parts some)

no_greatest : (parts : List Value) → (others_in parts ≡ 0 → ⊥) → fold_of MaxSeq parts ≡ None
no_greatest parts some =
    ap (λ items. option_map greatest_of (option_and_then numbers_in items)) (as_seq-seq parts) ∙ ap (option_map greatest_of) (unread parts some)

-- how far numbers go above zero, less how far below
abbrev total_of : List Value → ℤ
total_of parts = pos (all_above parts) -ℤ pos (all_below parts)

summed : (parts : List Value) → others_in parts ≡ 0 → IsSumOf (total_of parts) (length parts) parts
summed parts none = record { numbers = none; adds = omega (arith, ints); count = refl }

-- the greatest number among parts, if there is one
abbrev greatest : List Value → Option ℤ
greatest [] = None
greatest (part ∷ parts) = greater_of (as_int part) (greatest parts)

greatest_reached : (bound : ℤ) (parts : List Value) → nat_lt 0 (reaching bound parts) ≡ is_reached bound (greatest parts)
greatest_reached bound [] = refl
greatest_reached bound (part ∷ parts) =
    ap (nat_lt 0) (weigh_cons 0 (one_if_reached bound) part parts (as_int part) refl)
    ∙ some_of_two (weight 0 (one_if_reached bound) (as_int part)) (reaching bound parts)
    ∙ ap₂ (λ a b. a || b) (first (as_int part)) (greatest_reached bound parts)
    ∙ sym (is_reached-greater_of bound (as_int part) (greatest parts))
  where
    first : (found : Option ℤ) → nat_lt 0 (weight 0 (one_if_reached bound) found) ≡ is_reached bound found
    first None = refl
    first (Some n) = reached_once bound n

topped : (parts : List Value) → others_in parts ≡ 0 → IsMaxOf (greatest parts) (length parts) parts
topped parts none = record { numbers = none; reached = λ bound. greatest_reached bound parts; count = refl }

module _ (parts others : List Value) (same : IsSameBag parts others) where
  same_others : others_in parts ≡ others_in others
  same_others = same.weighs (λ part. weight 1 no_weight (as_int part))

  sums_alike : fold_of SumSeq parts ≡ fold_of SumSeq others
  sums_alike = by (cases_eq (others_in parts) 0)
    where
      by : (others_in parts ≡ 0) ⊎ (others_in parts ≡ 0 → ⊥) → fold_of SumSeq parts ≡ fold_of SumSeq others
      by (inl none) =
          let stands = summed parts none in
          sum_folded (total_of parts) (length parts) parts stands
          ∙ sym (sum_folded (total_of parts) (length parts) others (sum_in_any_order (total_of parts) (length parts) parts others same stands))
      by (inr some) = no_sum parts some ∙ sym (no_sum others (λ none. some (same_others ∙ none)))

  maxima_alike : fold_of MaxSeq parts ≡ fold_of MaxSeq others
  maxima_alike = by (cases_eq (others_in parts) 0)
    where
      by : (others_in parts ≡ 0) ⊎ (others_in parts ≡ 0 → ⊥) → fold_of MaxSeq parts ≡ fold_of MaxSeq others
      by (inl none) =
          let stands = topped parts none in
          max_folded (greatest parts) (length parts) parts stands
          ∙ sym (max_folded (greatest parts) (length parts) others (max_in_any_order (greatest parts) (length parts) parts others same stands))
      by (inr some) = no_greatest parts some ∙ sym (no_greatest others (λ none. some (same_others ∙ none)))

  counts_alike : fold_of CountSeq parts ≡ fold_of CountSeq others
  counts_alike = count_folded (length parts) parts refl ∙ sym (count_folded (length parts) others (count_in_any_order (length parts) parts others same refl))

-- no order of the parts changes their fold
pub folds_alike : (work : FnKind) → folds work ≡ true → (parts others : List Value) → IsSameBag parts others → fold_of work parts ≡ fold_of work others
folds_alike SumSeq some parts others same = sums_alike parts others same
folds_alike CountSeq some parts others same = counts_alike parts others same
folds_alike MaxSeq some parts others same = maxima_alike parts others same
folds_alike _ some parts others same = absurd (false≢true some)

-- ---- chains

-- a pane brings from the Group what its fold, under its key, brings from the function that takes the Group
pub pane_brings : (plan : Plan) → IsChecked plan → (group function : ℕ) (work : FnKind) → HasFunction plan group function work → (row : Combined) (parts : List Value) (value : Value)
    → fold_of work parts ≡ Some value → chain plan group (pane_with row.key row.span parts) ≡ chain plan function (element_of row value)
pane_brings plan checked group function work has row parts value is =
    let pane : Element = pane_with row.key row.span parts in
    chain-followers plan group pane checked
    ∙ ap (flat_map (taken_by plan pane)) has.followers
    ∙ append-nil (taken_by plan pane function)
    ∙ ap (λ (found : Option Node). unwrap_or (option_map (λ node. through function node.kind (chain plan function) pane) found) []) has.there
    ∙ ap (λ (kind : NodeKind). through function kind (chain plan function) pane) has.kind
    ∙ ap (carried function (chain plan function)) (folded work has.args pane row.key parts has.folds refl)
    ∙ ap (λ found. carried function (chain plan function) (option_map (λ v. one pane (pair row.key v)) found)) is
    ∙ append-nil (chain plan function (valued pane (pair row.key value)))
