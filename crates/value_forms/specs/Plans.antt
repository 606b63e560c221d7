-- The forms of plans and of the options of a run.
use Rattle.std.specs.Prelude.{ℕ, ℤ, Bool, ◌&&◌, nat_le, ◌⊎◌, List, [], ◌∷◌, Option}
use Rattle.std.proofs.Common.{inl, inr}
use Rattle.beam_values.specs.declared.options.Options.{Options}
use Rattle.beam_values.specs.declared.plan.Args.{Args}
use Rattle.beam_values.specs.declared.plan.Args.TheVariants.{Nothing, Text, Number, Two}
use Rattle.beam_values.specs.declared.plan.Bar.{Bar}
use Rattle.beam_values.specs.declared.plan.Estimator.{Estimator}
use Rattle.beam_values.specs.declared.plan.Estimator.TheVariants as estimator
use Rattle.beam_values.specs.declared.plan.FnKind.{FnKind}
use Rattle.beam_values.specs.declared.plan.FnKind.TheVariants as fn_kind
use Rattle.beam_values.specs.declared.plan.Mode.{Mode}
use Rattle.beam_values.specs.declared.plan.Mode.TheVariants.{Discarding, Accumulating}
use Rattle.beam_values.specs.declared.plan.Node.{Node}
use Rattle.beam_values.specs.declared.plan.NodeKind.{NodeKind}
use Rattle.beam_values.specs.declared.plan.NodeKind.TheVariants.{Source, ParDo, Flatten, WindowInto, Group, Stateful, Write}
use Rattle.beam_values.specs.declared.plan.Plan.{Plan}
use Rattle.beam_values.specs.declared.plan.SourceKind.{SourceKind}
use Rattle.beam_values.specs.declared.plan.SourceKind.TheVariants.{Lines, TimedLines, Count, Made}
use Rattle.beam_values.specs.declared.plan.StateKind.{StateKind}
use Rattle.beam_values.specs.declared.plan.StateKind.TheVariants.{Dedupe, RunningSum, BatchUntil, LatestThenEmit}
use Rattle.beam_values.specs.declared.plan.Strategy.{Strategy}
use Rattle.beam_values.specs.declared.plan.Strategy.TheVariants as strategy
use Rattle.beam_values.specs.declared.plan.Trigger.{Trigger}
use Rattle.value_forms.specs.Enums.{names_form, last_case, ◌or◌, enum_form}
use Rattle.value_forms.specs.Forms.{Form, bytes_form, list_form, option_form, tested_form}
use Rattle.value_forms.specs.Numbers.{u32_form, bits_form, signed_form, flag_form}
use Rattle.value_forms.specs.Structs.{no_more, ◌&◌, struct_form}

-- ---- options

-- each within its bounds
abbrev pub is_within : ℕ → ℕ → ℕ → Bool
is_within least greatest n = nat_le least n && nat_le n greatest

abbrev pub are_options : Options → Bool
are_options o = is_within 1 16 o.workers && is_within 1 1000000 o.bundle && is_within 1 1099511627776 o.chunk && is_within 1 1000 o.attempts

abbrev pub options_fields : Options → ℕ × (ℕ × (ℕ × (ℕ × Unit {0})))
options_fields o = (o.workers, (o.bundle, (o.chunk, (o.attempts, tt))))

abbrev pub options_of : ℕ × (ℕ × (ℕ × (ℕ × Unit {0}))) → Options
options_of x = record { workers = x.0; bundle = x.1.0; chunk = x.1.1.0; attempts = x.1.1.1.0 }

-- The options of a run with no words are `Seq[Int(4), Int(64), Int(65536), Int(3)]`. With the 4 as 17, or the 3 as 0, it is none.
abbrev pub options_form : Form Options
options_form = tested_form are_options (λ _. Unit {0}) (struct_form (u32_form & u32_form & bits_form & u32_form & no_more) options_fields options_of)

-- ---- windows and triggers

abbrev pub StrategyParts : Type 0
StrategyParts = Unit {0} ⊎ ((ℤ × Unit {0}) ⊎ ((ℤ × (ℤ × Unit {0})) ⊎ ((ℤ × Unit {0}) ⊎ Unit {0})))

abbrev pub strategy_parts : Strategy → StrategyParts
strategy_parts strategy.Global = inl tt
strategy_parts (strategy.Fixed size) = inr (inl (size, tt))
strategy_parts (strategy.Sliding size period) = inr (inr (inl (size, (period, tt))))
strategy_parts (strategy.Sessions gap) = inr (inr (inr (inl (gap, tt))))
strategy_parts strategy.Kept = inr (inr (inr (inr tt)))

abbrev pub strategy_of : StrategyParts → Strategy
strategy_of (inl x) = strategy.Global
strategy_of (inr (inl x)) = strategy.Fixed x.0
strategy_of (inr (inr (inl x))) = strategy.Sliding x.0 x.1.0
strategy_of (inr (inr (inr (inl x)))) = strategy.Sessions x.0
strategy_of (inr (inr (inr (inr x)))) = strategy.Kept

-- Windows of the size 10 and the period 5 are `Pair(Int(2), Seq[Int(10), Int(5)])`.
abbrev pub strategy_form : Form Strategy
strategy_form = enum_form (no_more or (signed_form & no_more) or (signed_form & signed_form & no_more) or (signed_form & no_more) or last_case no_more) strategy_parts strategy_of

abbrev pub EstimatorParts : Type 0
EstimatorParts = Unit {0} ⊎ (Unit {0} ⊎ ((ℤ × Unit {0}) ⊎ Unit {0}))

abbrev pub estimator_parts : Estimator → EstimatorParts
estimator_parts estimator.None = inl tt
estimator_parts estimator.Monotonic = inr (inl tt)
estimator_parts (estimator.Lag by) = inr (inr (inl (by, tt)))
estimator_parts estimator.Declared = inr (inr (inr tt))

abbrev pub estimator_of : EstimatorParts → Estimator
estimator_of (inl x) = estimator.None
estimator_of (inr (inl x)) = estimator.Monotonic
estimator_of (inr (inr (inl x))) = estimator.Lag x.0
estimator_of (inr (inr (inr x))) = estimator.Declared

abbrev pub estimator_form : Form Estimator
estimator_form = enum_form (no_more or no_more or (signed_form & no_more) or last_case no_more) estimator_parts estimator_of

abbrev pub mode_place : Mode → ℕ
mode_place Discarding = 0
mode_place Accumulating = 1

abbrev pub mode_names : List Mode
mode_names = Discarding ∷ Accumulating ∷ []

abbrev pub mode_form : Form Mode
mode_form = names_form mode_names mode_place

abbrev pub bar_fields : Bar → ℕ × (Option ℤ × Unit {0})
bar_fields b = (b.count, (b.delay, tt))

abbrev pub bar_of : ℕ × (Option ℤ × Unit {0}) → Bar
bar_of x = record { count = x.0; delay = x.1.0 }

-- The bar of 3 elements without a delay is `Seq[Int(3), Seq[]]`.
abbrev pub bar_form : Form Bar
bar_form = struct_form (u32_form & option_form signed_form & no_more) bar_fields bar_of

abbrev pub TriggerFields : Type 0
TriggerFields = Option ℕ × (ℕ × (ℤ × (Mode × (List Bar × (List Bar × Unit {0})))))

abbrev pub trigger_fields : Trigger → TriggerFields
trigger_fields t = (t.early, (t.late, (t.lateness, (t.mode, (t.early_bars, (t.late_bars, tt))))))

abbrev pub trigger_of : TriggerFields → Trigger
trigger_of x = record { early = x.0; late = x.1.0; lateness = x.1.1.0; mode = x.1.1.1.0; early_bars = x.1.1.1.1.0; late_bars = x.1.1.1.1.1.0 }

-- The default trigger is `Seq[Seq[], Int(1), Int(0), Pair(Int(0), Seq[]), Seq[], Seq[]]`.
abbrev pub trigger_form : Form Trigger
trigger_form = struct_form (option_form u32_form & u32_form & signed_form & mode_form & list_form bar_form & list_form bar_form & no_more) trigger_fields trigger_of

-- ---- functions

abbrev pub ArgsParts : Type 0
ArgsParts = Unit {0} ⊎ ((List ℕ × Unit {0}) ⊎ ((ℤ × Unit {0}) ⊎ (ℕ × (ℕ × Unit {0}))))

abbrev pub args_parts : Args → ArgsParts
args_parts Nothing = inl tt
args_parts (Text text) = inr (inl (text, tt))
args_parts (Number n) = inr (inr (inl (n, tt)))
args_parts (Two first second) = inr (inr (inr (first, (second, tt))))

abbrev pub args_of : ArgsParts → Args
args_of (inl x) = Nothing
args_of (inr (inl x)) = Text x.0
args_of (inr (inr (inl x))) = Number x.0
args_of (inr (inr (inr x))) = Two x.0 x.1.0

abbrev pub args_form : Form Args
args_form = enum_form (no_more or (bytes_form & no_more) or (signed_form & no_more) or last_case (bits_form & bits_form & no_more)) args_parts args_of

abbrev pub source_place : SourceKind → ℕ
source_place Lines = 0
source_place TimedLines = 1
source_place Count = 2
source_place Made = 3

abbrev pub source_names : List SourceKind
source_names = Lines ∷ TimedLines ∷ Count ∷ Made ∷ []

abbrev pub source_form : Form SourceKind
source_form = names_form source_names source_place

abbrev pub fn_place : FnKind → ℕ
fn_place fn_kind.KeyField = 0
fn_place fn_kind.Words = 1
fn_place fn_kind.Field = 2
fn_place fn_kind.KeepPrefix = 3
fn_place fn_kind.FieldInt = 4
fn_place fn_kind.Swap = 5
fn_place fn_kind.Shift = 6
fn_place fn_kind.SumSeq = 7
fn_place fn_kind.CountSeq = 8
fn_place fn_kind.MaxSeq = 9
fn_place fn_kind.Unseq = 10
fn_place fn_kind.Values = 11
fn_place fn_kind.Tag = 12
fn_place fn_kind.JoinList = 13
fn_place fn_kind.JoinSingle = 14
fn_place fn_kind.JoinLookup = 15

abbrev pub fn_names : List FnKind
fn_names =
    fn_kind.KeyField ∷ fn_kind.Words ∷ fn_kind.Field ∷ fn_kind.KeepPrefix ∷ fn_kind.FieldInt ∷ fn_kind.Swap ∷ fn_kind.Shift ∷ fn_kind.SumSeq ∷ fn_kind.CountSeq ∷ fn_kind.MaxSeq
    ∷ fn_kind.Unseq ∷ fn_kind.Values ∷ fn_kind.Tag ∷ fn_kind.JoinList ∷ fn_kind.JoinSingle ∷ fn_kind.JoinLookup ∷ []

abbrev pub fn_form : Form FnKind
fn_form = names_form fn_names fn_place

abbrev pub state_kind_place : StateKind → ℕ
state_kind_place Dedupe = 0
state_kind_place RunningSum = 1
state_kind_place BatchUntil = 2
state_kind_place LatestThenEmit = 3

abbrev pub state_kind_names : List StateKind
state_kind_names = Dedupe ∷ RunningSum ∷ BatchUntil ∷ LatestThenEmit ∷ []

abbrev pub state_kind_form : Form StateKind
state_kind_form = names_form state_kind_names state_kind_place

-- ---- nodes

abbrev pub KindParts : Type 0
KindParts =
    (SourceKind × (Args × (List (List ℕ) × (Estimator × Unit {0}))))
    ⊎ ((FnKind × (Args × Unit {0})) ⊎ (Unit {0} ⊎ ((Strategy × Unit {0}) ⊎ ((Trigger × Unit {0}) ⊎ ((StateKind × (Args × (Bool × Unit {0}))) ⊎ (List ℕ × Unit {0}))))))

abbrev pub kind_parts : NodeKind → KindParts
kind_parts (Source work args files estimator) = inl (work, (args, (files, (estimator, tt))))
kind_parts (ParDo work args) = inr (inl (work, (args, tt)))
kind_parts Flatten = inr (inr (inl tt))
kind_parts (WindowInto strategy) = inr (inr (inr (inl (strategy, tt))))
kind_parts (Group trigger) = inr (inr (inr (inr (inl (trigger, tt)))))
kind_parts (Stateful work args log) = inr (inr (inr (inr (inr (inl (work, (args, (log, tt))))))))
kind_parts (Write label) = inr (inr (inr (inr (inr (inr (label, tt))))))

abbrev pub kind_of : KindParts → NodeKind
kind_of (inl x) = Source x.0 x.1.0 x.1.1.0 x.1.1.1.0
kind_of (inr (inl x)) = ParDo x.0 x.1.0
kind_of (inr (inr (inl x))) = Flatten
kind_of (inr (inr (inr (inl x)))) = WindowInto x.0
kind_of (inr (inr (inr (inr (inl x))))) = Group x.0
kind_of (inr (inr (inr (inr (inr (inl x)))))) = Stateful x.0 x.1.0 x.1.1.0
kind_of (inr (inr (inr (inr (inr (inr x)))))) = Write x.0

-- A Write with the label "w" is `Pair(Int(6), Seq[Blob("w")])`.
abbrev pub kind_form : Form NodeKind
kind_form =
    enum_form
    ((source_form & args_form & list_form bytes_form & estimator_form & no_more) or (fn_form & args_form & no_more) or no_more or (strategy_form & no_more) or (trigger_form & no_more)
    or (state_kind_form & args_form & flag_form & no_more) or last_case (bytes_form & no_more))
    kind_parts kind_of

abbrev pub node_fields : Node → NodeKind × (List ℕ × Unit {0})
node_fields n = (n.kind, (n.inputs, tt))

abbrev pub node_of : NodeKind × (List ℕ × Unit {0}) → Node
node_of x = record { kind = x.0; inputs = x.1.0 }

abbrev pub node_form : Form Node
node_form = struct_form (kind_form & list_form u32_form & no_more) node_fields node_of

abbrev pub plan_fields : Plan → ℕ × (List Node × Unit {0})
plan_fields p = (p.version, (p.nodes, tt))

abbrev pub plan_of : ℕ × (List Node × Unit {0}) → Plan
plan_of x = record { version = x.0; nodes = x.1.0 }

abbrev pub plan_form : Form Plan
plan_form = struct_form (u32_form & list_form node_form & no_more) plan_fields plan_of
