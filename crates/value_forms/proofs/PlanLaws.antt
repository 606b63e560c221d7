-- What the forms of plans and of the options of a run meet.
use Rattle.std.proofs.Common.{◌≡◌, ◌^◌, ◌<◌, true, Some, inl, inr, refl, arith}
use Rattle.beam_values.specs.declared.plan.Args.{Args}
use Rattle.beam_values.specs.declared.plan.Args.TheVariants.{Nothing, Text, Number, Two}
use Rattle.beam_values.specs.declared.plan.Estimator.{Estimator}
use Rattle.beam_values.specs.declared.plan.Estimator.TheVariants as estimator
use Rattle.beam_values.specs.declared.plan.FnKind.{FnKind}
use Rattle.beam_values.specs.declared.plan.FnKind.TheVariants as fn_kind
use Rattle.beam_values.specs.declared.plan.Mode.{Mode}
use Rattle.beam_values.specs.declared.plan.Mode.TheVariants.{Discarding, Accumulating}
use Rattle.beam_values.specs.declared.plan.NodeKind.{NodeKind}
use Rattle.beam_values.specs.declared.plan.NodeKind.TheVariants.{Source, ParDo, Flatten, WindowInto, Group, Stateful, Write}
use Rattle.beam_values.specs.declared.plan.SourceKind.{SourceKind}
use Rattle.beam_values.specs.declared.plan.SourceKind.TheVariants.{Lines, TimedLines, Count, Made}
use Rattle.beam_values.specs.declared.plan.StateKind.{StateKind}
use Rattle.beam_values.specs.declared.plan.StateKind.TheVariants.{Dedupe, RunningSum, BatchUntil, LatestThenEmit}
use Rattle.beam_values.specs.declared.plan.Strategy.{Strategy}
use Rattle.beam_values.specs.declared.plan.Strategy.TheVariants as strategy
use Rattle.value_forms.specs.Enums.{named}
use Rattle.value_forms.specs.Plans.{are_options, options_fields, options_of, options_form, StrategyParts, strategy_parts, strategy_of, strategy_form, EstimatorParts, estimator_parts, estimator_of, estimator_form, mode_place, mode_names, mode_form, bar_fields, bar_of, bar_form, trigger_fields, trigger_of, trigger_form, ArgsParts, args_parts, args_of, args_form, source_place, source_names, source_form, fn_place, fn_names, fn_form, state_kind_place, state_kind_names, state_kind_form, KindParts, kind_parts, kind_of, kind_form, node_fields, node_of, node_form, plan_fields, plan_of, plan_form}
use Rattle.value_forms.proofs.EnumLaws.{names_is_form, last_is_cases, or_is_cases, enum_is_form}
use Rattle.value_forms.proofs.FormLaws.{IsForm, bytes_is_form, list_is_form, option_is_form, tested_is_form}
use Rattle.value_forms.proofs.NumberLaws.{u32_is_form, bits_is_form, signed_is_form, flag_is_form}
use Rattle.value_forms.proofs.StructLaws.{no_more_is_row, and_is_row, struct_is_form}

-- ---- options

-- of options within their bounds; the others are written too, and not read again
pub options_is_form : IsForm options_form (λ o. ((o.workers < 2 ^ 32) × ((o.bundle < 2 ^ 32) × ((o.chunk < 2 ^ 64) × ((o.attempts < 2 ^ 32) × Unit {0})))) × (are_options o ≡ true)) 2
options_is_form =
    tested_is_form (struct_is_form options_fields options_of (and_is_row u32_is_form (and_is_row u32_is_form (and_is_row bits_is_form (and_is_row u32_is_form no_more_is_row)))) (λ o. refl) (λ x. refl)) are_options (λ _. Unit {0}) (λ o. are_options o ≡ true) (λ o h. h) (λ o h. h)

-- ---- windows and triggers

strategy_back : (x : Strategy) → strategy_of (strategy_parts x) ≡ x
strategy_back strategy.Global = refl
strategy_back (strategy.Fixed size) = refl
strategy_back (strategy.Sliding size period) = refl
strategy_back (strategy.Sessions gap) = refl
strategy_back strategy.Kept = refl

strategy_forth : (x : StrategyParts) → strategy_parts (strategy_of x) ≡ x
strategy_forth (inl x) = refl
strategy_forth (inr (inl x)) = refl
strategy_forth (inr (inr (inl x))) = refl
strategy_forth (inr (inr (inr (inl x)))) = refl
strategy_forth (inr (inr (inr (inr x)))) = refl

pub strategy_is_form : IsForm strategy_form strategy_form.Fits 3
strategy_is_form =
    enum_is_form strategy_parts strategy_of
    (or_is_cases no_more_is_row
    (or_is_cases (and_is_row signed_is_form no_more_is_row)
    (or_is_cases (and_is_row signed_is_form (and_is_row signed_is_form no_more_is_row)) (or_is_cases (and_is_row signed_is_form no_more_is_row) (last_is_cases no_more_is_row)))))
    (omega arith) strategy_back strategy_forth

estimator_back : (x : Estimator) → estimator_of (estimator_parts x) ≡ x
estimator_back estimator.None = refl
estimator_back estimator.Monotonic = refl
estimator_back (estimator.Lag by) = refl
estimator_back estimator.Declared = refl

estimator_forth : (x : EstimatorParts) → estimator_parts (estimator_of x) ≡ x
estimator_forth (inl x) = refl
estimator_forth (inr (inl x)) = refl
estimator_forth (inr (inr (inl x))) = refl
estimator_forth (inr (inr (inr x))) = refl

pub estimator_is_form : IsForm estimator_form estimator_form.Fits 3
estimator_is_form =
    enum_is_form estimator_parts estimator_of (or_is_cases no_more_is_row (or_is_cases no_more_is_row (or_is_cases (and_is_row signed_is_form no_more_is_row) (last_is_cases no_more_is_row)))) (omega arith) estimator_back
    estimator_forth

mode_found : (x : Mode) → named 0 mode_names (mode_place x) ≡ Some x
mode_found Discarding = refl
mode_found Accumulating = refl

mode_small : (x : Mode) → mode_place x < 2 ^ 63
mode_small Discarding = omega arith
mode_small Accumulating = omega arith

pub mode_is_form : IsForm mode_form mode_form.Fits 2
mode_is_form = names_is_form mode_names mode_place refl mode_found mode_small

pub bar_is_form : IsForm bar_form bar_form.Fits 3
bar_is_form = struct_is_form bar_fields bar_of (and_is_row u32_is_form (and_is_row (option_is_form signed_is_form) no_more_is_row)) (λ b. refl) (λ x. refl)

pub trigger_is_form : IsForm trigger_form trigger_form.Fits 5
trigger_is_form =
    struct_is_form trigger_fields trigger_of
    (and_is_row (option_is_form u32_is_form)
    (and_is_row u32_is_form (and_is_row signed_is_form (and_is_row mode_is_form (and_is_row (list_is_form bar_is_form) (and_is_row (list_is_form bar_is_form) no_more_is_row))))))
    (λ t. refl) (λ x. refl)

-- ---- functions

args_back : (x : Args) → args_of (args_parts x) ≡ x
args_back Nothing = refl
args_back (Text text) = refl
args_back (Number n) = refl
args_back (Two first second) = refl

args_forth : (x : ArgsParts) → args_parts (args_of x) ≡ x
args_forth (inl x) = refl
args_forth (inr (inl x)) = refl
args_forth (inr (inr (inl x))) = refl
args_forth (inr (inr (inr x))) = refl

pub args_is_form : IsForm args_form args_form.Fits 3
args_is_form =
    enum_is_form args_parts args_of
    (or_is_cases no_more_is_row (or_is_cases (and_is_row bytes_is_form no_more_is_row) (or_is_cases (and_is_row signed_is_form no_more_is_row) (last_is_cases (and_is_row bits_is_form (and_is_row bits_is_form no_more_is_row))))))
    (omega arith) args_back args_forth

source_found : (x : SourceKind) → named 0 source_names (source_place x) ≡ Some x
source_found Lines = refl
source_found TimedLines = refl
source_found Count = refl
source_found Made = refl

source_small : (x : SourceKind) → source_place x < 2 ^ 63
source_small Lines = omega arith
source_small TimedLines = omega arith
source_small Count = omega arith
source_small Made = omega arith

pub source_is_form : IsForm source_form source_form.Fits 2
source_is_form = names_is_form source_names source_place refl source_found source_small

fn_found : (x : FnKind) → named 0 fn_names (fn_place x) ≡ Some x
fn_found fn_kind.KeyField = refl
fn_found fn_kind.Words = refl
fn_found fn_kind.Field = refl
fn_found fn_kind.KeepPrefix = refl
fn_found fn_kind.FieldInt = refl
fn_found fn_kind.Swap = refl
fn_found fn_kind.Shift = refl
fn_found fn_kind.SumSeq = refl
fn_found fn_kind.CountSeq = refl
fn_found fn_kind.MaxSeq = refl
fn_found fn_kind.Unseq = refl
fn_found fn_kind.Values = refl
fn_found fn_kind.Tag = refl
fn_found fn_kind.JoinList = refl
fn_found fn_kind.JoinSingle = refl
fn_found fn_kind.JoinLookup = refl

fn_small : (x : FnKind) → fn_place x < 2 ^ 63
fn_small fn_kind.KeyField = omega arith
fn_small fn_kind.Words = omega arith
fn_small fn_kind.Field = omega arith
fn_small fn_kind.KeepPrefix = omega arith
fn_small fn_kind.FieldInt = omega arith
fn_small fn_kind.Swap = omega arith
fn_small fn_kind.Shift = omega arith
fn_small fn_kind.SumSeq = omega arith
fn_small fn_kind.CountSeq = omega arith
fn_small fn_kind.MaxSeq = omega arith
fn_small fn_kind.Unseq = omega arith
fn_small fn_kind.Values = omega arith
fn_small fn_kind.Tag = omega arith
fn_small fn_kind.JoinList = omega arith
fn_small fn_kind.JoinSingle = omega arith
fn_small fn_kind.JoinLookup = omega arith

pub fn_is_form : IsForm fn_form fn_form.Fits 2
fn_is_form = names_is_form fn_names fn_place refl fn_found fn_small

state_kind_found : (x : StateKind) → named 0 state_kind_names (state_kind_place x) ≡ Some x
state_kind_found Dedupe = refl
state_kind_found RunningSum = refl
state_kind_found BatchUntil = refl
state_kind_found LatestThenEmit = refl

state_kind_small : (x : StateKind) → state_kind_place x < 2 ^ 63
state_kind_small Dedupe = omega arith
state_kind_small RunningSum = omega arith
state_kind_small BatchUntil = omega arith
state_kind_small LatestThenEmit = omega arith

pub state_kind_is_form : IsForm state_kind_form state_kind_form.Fits 2
state_kind_is_form = names_is_form state_kind_names state_kind_place refl state_kind_found state_kind_small

-- ---- nodes

kind_back : (x : NodeKind) → kind_of (kind_parts x) ≡ x
kind_back (Source work args files estimator) = refl
kind_back (ParDo work args) = refl
kind_back Flatten = refl
kind_back (WindowInto strategy) = refl
kind_back (Group trigger) = refl
kind_back (Stateful work args log) = refl
kind_back (Write label) = refl

kind_forth : (x : KindParts) → kind_parts (kind_of x) ≡ x
kind_forth (inl x) = refl
kind_forth (inr (inl x)) = refl
kind_forth (inr (inr (inl x))) = refl
kind_forth (inr (inr (inr (inl x)))) = refl
kind_forth (inr (inr (inr (inr (inl x))))) = refl
kind_forth (inr (inr (inr (inr (inr (inl x)))))) = refl
kind_forth (inr (inr (inr (inr (inr (inr x)))))) = refl

pub kind_is_form : IsForm kind_form kind_form.Fits 7
kind_is_form =
    enum_is_form kind_parts kind_of
    (or_is_cases (and_is_row source_is_form (and_is_row args_is_form (and_is_row (list_is_form bytes_is_form) (and_is_row estimator_is_form no_more_is_row))))
    (or_is_cases (and_is_row fn_is_form (and_is_row args_is_form no_more_is_row))
    (or_is_cases no_more_is_row
    (or_is_cases (and_is_row strategy_is_form no_more_is_row)
    (or_is_cases (and_is_row trigger_is_form no_more_is_row)
    (or_is_cases (and_is_row state_kind_is_form (and_is_row args_is_form (and_is_row flag_is_form no_more_is_row))) (last_is_cases (and_is_row bytes_is_form no_more_is_row))))))))
    (omega arith) kind_back kind_forth

pub node_is_form : IsForm node_form node_form.Fits 8
node_is_form = struct_is_form node_fields node_of (and_is_row kind_is_form (and_is_row (list_is_form u32_is_form) no_more_is_row)) (λ n. refl) (λ x. refl)

pub plan_is_form : IsForm plan_form plan_form.Fits 10
plan_is_form = struct_is_form plan_fields plan_of (and_is_row u32_is_form (and_is_row (list_is_form node_is_form) no_more_is_row)) (λ p. refl) (λ x. refl)
