-- What the nodes of a checked plan have (Beam Programming Guide, Creating a pipeline; the limits are this profile's).
use Rattle.std.specs.Prelude.{◌≡◌, ◌≢◌, ℕ, ◌<◌, ◌≤◌, ℤ, pos, negsuc, ◌-ℤ◌, ◌<ℤ◌, ◌≤ℤ◌, Bool, true, false, List, [], length, All, AllPairs, IfSome, Option, Some, None}
use Rattle.beam_values.specs.Checked.{is_function_allowed, is_source_argument, is_state_allowed}
use Rattle.beam_values.specs.Strategies.{IsAllowed, greatest_length}
use Rattle.beam_values.specs.declared.plan.Bar.{Bar}
use Rattle.beam_values.specs.declared.plan.Estimator.{Estimator}
use Rattle.beam_values.specs.declared.plan.Estimator.TheVariants as estimator
use Rattle.beam_values.specs.declared.plan.NodeKind.{NodeKind}
use Rattle.beam_values.specs.declared.plan.NodeKind.TheVariants.{Source, ParDo, Flatten, WindowInto, Group, Stateful, Write}
use Rattle.beam_values.specs.declared.plan.SourceKind.{SourceKind}
use Rattle.beam_values.specs.declared.plan.SourceKind.TheVariants.{Lines, TimedLines, Count, Made}
use Rattle.beam_values.specs.declared.plan.Strategy.{Strategy}
use Rattle.beam_values.specs.declared.plan.Strategy.TheVariants.{Global, Kept}
use Rattle.beam_values.specs.declared.plan.Trigger.{Trigger}

abbrev pub is_window_into_kind : NodeKind → Bool
is_window_into_kind (WindowInto strategy) = true
is_window_into_kind _ = false

-- a node of this kind has so many inputs
abbrev pub HasInputs : NodeKind → ℕ → Type 0
HasInputs (Source work args files estimator) count = count ≡ 0
HasInputs Flatten count = (1 ≤ count) × (count ≤ 8)
HasInputs _ count = count ≡ 1

abbrev pub IsFileName : List ℕ → Type 0
IsFileName name = (1 ≤ length name) × (length name ≤ 4096)

-- the files that a source reads
abbrev pub HasFiles : SourceKind → List (List ℕ) → Type 0
HasFiles Lines files = (1 ≤ length files) × All IsFileName files
HasFiles TimedLines files = (1 ≤ length files) × All IsFileName files
HasFiles Count files = files ≡ []
HasFiles Made files = files ≡ []

-- a lag is a number of milliseconds from 0 on
abbrev pub HasLag : Estimator → Type 0
HasLag (estimator.Lag delay) = (pos 0 ≤ℤ delay) × (delay ≤ℤ greatest_length)
HasLag _ = Unit {0}

abbrev pub IsCount : ℕ → Type 0
IsCount n = (1 ≤ n) × (n ≤ 4294967295)

-- so many milliseconds, where there is a delay
abbrev pub HasDelay : ℤ → ℤ → Bar → Type 0
HasDelay least most bar = IfSome bar.delay (λ delay. (least ≤ℤ delay) × (delay ≤ℤ most))

-- a delay after another one is less; none is the least
abbrev pub IsLessDelay : Option ℤ → Option ℤ → Type 0
IsLessDelay (Some before) (Some after) = after <ℤ before
IsLessDelay (Some before) None = Unit {0}
IsLessDelay None after = ⊥

-- a later bar asks for more elements, and for less delay
pub record IsStair (before after : Bar) : Type 0 where
  pub count : before.count < after.count
  pub delay : IsLessDelay before.delay after.delay

-- the bars of a composite trigger, with delays between these two
pub record AreBars (least most : ℤ) (bars : List Bar) : Type 0 where
  pub counts : All (λ bar. IsCount bar.count) bars
  pub delays : All (HasDelay least most) bars
  pub stairs : AllPairs IsStair bars

-- early bars are before the window's end, late ones at it or after it
pub record IsTriggerSet (trigger : Trigger) : Type 0 where
  pub early : IfSome trigger.early IsCount
  pub late : IsCount trigger.late
  pub lateness : (pos 0 ≤ℤ trigger.lateness) × (trigger.lateness ≤ℤ greatest_length)
  pub early_bars : AreBars (pos 0 -ℤ greatest_length) (negsuc 0) trigger.early_bars
  pub late_bars : AreBars (pos 0) greatest_length trigger.late_bars

-- the settings of a node of this kind
abbrev pub HasSettings : NodeKind → Type 0
HasSettings (Source work args files estimator) = (is_source_argument work args ≡ true) × HasFiles work files × HasLag estimator
HasSettings (ParDo work args) = is_function_allowed work args ≡ true
HasSettings Flatten = Unit {0}
HasSettings (WindowInto strategy) = IsAllowed strategy × (strategy ≢ Kept)
HasSettings (Group trigger) = IsTriggerSet trigger
HasSettings (Stateful work args log) = is_state_allowed work args ≡ true
HasSettings (Write label) = Unit {0}

-- a source has the one window of all times, and a WindowInto its own strategy
abbrev pub HasOwnStrategy : NodeKind → Strategy → Type 0
HasOwnStrategy (Source work args files estimator) strategy = strategy ≡ Global
HasOwnStrategy (WindowInto own) strategy = strategy ≡ own
HasOwnStrategy _ strategy = Unit {0}
