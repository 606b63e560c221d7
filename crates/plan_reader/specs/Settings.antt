-- The settings of a node: its keys in the order in which they are read, each with its form and its limits, and what its absence
-- means. Times are in milliseconds (Beam Programming Guide, Windowing, Triggers; the limits are this profile's).
use Rattle.std.specs.Prelude.{ℕ, nat_le, Bool, pos, negsuc, ◌-ℤ◌, false, ◌&&◌, List, [], codes, bytes_eq, if◌then◌else◌, Option, Some, None, is_some, ok_or, option_and_then, unwrap_or, Ok, Err}
use Rattle.std.specs.Option.{option_map_or}
use Rattle.serde_json.specs.Data.{Data}
use Rattle.serde_json.specs.Find.{as_str}
use Rattle.beam_values.specs.Checked.{is_file_name}
use Rattle.beam_values.specs.Strategies.{is_allowed, greatest_length}
use Rattle.beam_values.specs.declared.plan.Bar.{Bar}
use Rattle.beam_values.specs.declared.plan.Args.{Args}
use Rattle.beam_values.specs.declared.plan.Args.TheVariants.{Nothing, Text, Number, Two}
use Rattle.beam_values.specs.declared.plan.Estimator.{Estimator}
use Rattle.beam_values.specs.declared.plan.Estimator.TheVariants as estimator
use Rattle.beam_values.specs.declared.plan.FnKind.{FnKind}
use Rattle.beam_values.specs.declared.plan.FnKind.TheVariants as function
use Rattle.beam_values.specs.declared.plan.Mode.{Mode}
use Rattle.beam_values.specs.declared.plan.Mode.TheVariants.{Discarding}
use Rattle.beam_values.specs.declared.plan.NodeKind.{NodeKind}
use Rattle.beam_values.specs.declared.plan.NodeKind.TheVariants.{Source, ParDo, Flatten, WindowInto, Group, Stateful, Write}
use Rattle.beam_values.specs.declared.plan.SourceKind.{SourceKind}
use Rattle.beam_values.specs.declared.plan.SourceKind.TheVariants as source
use Rattle.beam_values.specs.declared.plan.StateKind.{StateKind}
use Rattle.beam_values.specs.declared.plan.StateKind.TheVariants as state
use Rattle.beam_values.specs.declared.plan.Strategy.{Strategy}
use Rattle.beam_values.specs.declared.plan.Strategy.TheVariants.{Global, Fixed, Sliding, Sessions}
use Rattle.plan_reader.specs.declared.refusal.Place.{Place}
use Rattle.plan_reader.specs.declared.refusal.PlanKey.{PlanKey}
use Rattle.plan_reader.specs.declared.refusal.PlanKey.TheVariants as key
use Rattle.plan_reader.specs.declared.refusal.PlanRefusal.TheVariants as refusal
use Rattle.plan_reader.specs.declared.words.KindWord.{KindWord}
use Rattle.plan_reader.specs.declared.words.KindWord.TheVariants as kind
use Rattle.plan_reader.specs.Forms.{◌>>=◌, one_by_one, value_of, needed, or_absent, only_member, text_in, word_in, strings_in, pair_in, any_number_in, within, number_in, bool_in}
use Rattle.plan_reader.specs.Places.{in_node}
use Rattle.plan_reader.specs.Refusals.{Meaning}
use Rattle.plan_reader.specs.Trees.{bars_in}
use Rattle.plan_reader.specs.Words.{meaning_in, sources, functions, stateful_functions, estimators, modes}
use Rattle.beam_values.specs.Windows.{or_zero}

-- the greatest length of a window, a period, a gap, a lag, a lateness, a shift and a delay, and the greatest count of a trigger
abbrev pub longest : ℕ
longest = or_zero greatest_length

abbrev pub greatest_count : ℕ
greatest_count = 4294967295

-- a word of a table at a key that has to be there
abbrev pub work_at : {A : Type 0} → List (List ℕ × A) → ℕ → Data → Meaning A
work_at table node d = needed (in_node node key.Work) d >>= word_in (meaning_in table) (in_node node key.Work)

-- a whole number within limits at a key that has to be there
abbrev pub number_at : PlanKey → ℕ → ℕ → ℕ → Data → Meaning ℕ
number_at key least most node d = needed (in_node node key) d >>= number_in least most (in_node node key)

-- the same at a key that means `default` where it is absent
abbrev pub number_or : ℕ → PlanKey → ℕ → ℕ → ℕ → Data → Meaning ℕ
number_or default key least most node d = or_absent default (number_in least most) (in_node node key) d

-- ---- sources

-- the names of files
abbrev pub file_of : Place → List ℕ → Meaning (List ℕ)
file_of place name = if is_file_name name then Ok name else Err (refusal.Name place)

abbrev pub files_of : Place → List (List ℕ) → Meaning (List (List ℕ))
files_of place names = one_by_one (λ _ name. file_of place name) [] names

abbrev pub files_in : Place → Data → Meaning (List (List ℕ))
files_in place d = strings_in place d >>= files_of place

abbrev pub files_at : ℕ → Data → Meaning (List (List ℕ))
files_at node d = needed (in_node node key.Files) d >>= files_in (in_node node key.Files)

abbrev pub source_files : SourceKind → ℕ → Data → Meaning (List (List ℕ))
source_files source.Lines node d = files_at node d
source_files source.TimedLines node d = files_at node d
source_files source.Count node d = Ok []
source_files source.Made node d = Ok []

-- a count, and a number of at most a million: the step of Count, or the number of Made
abbrev pub counts_at : ℕ → ℕ → Data → Meaning Args
counts_at most node d = do
  count ← number_at key.Count 0 most node d
  number ← number_at key.Number 0 1000000 node d
  Ok (Two count number)

abbrev pub source_args : SourceKind → ℕ → Data → Meaning Args
source_args source.Lines node d = Ok Nothing
source_args source.TimedLines node d = Ok Nothing
source_args source.Count node d = counts_at 1000000000 node d
source_args source.Made node d = counts_at 1000000 node d

abbrev pub lag_of : Place → List ℕ × Data → Meaning Estimator
lag_of place entry = if bytes_eq entry.0 (codes "lag") then (do
  delay ← number_in 0 longest place entry.1
  Ok (estimator.Lag (pos delay)))
    else Err (refusal.Field place)

abbrev pub estimator_of : Place → List ℕ → Meaning Estimator
estimator_of place word = ok_or (meaning_in estimators word) (refusal.Name place)

-- a word, or the one key of a lag
abbrev pub estimator_in : Place → Data → Meaning Estimator
estimator_in place d =
    option_map_or (estimator_of place) (as_str d)
    (option_map_or (lag_of place) (only_member d) (Err (refusal.Field place)))

abbrev pub estimator_at : ℕ → Data → Meaning Estimator
estimator_at node d = or_absent estimator.None estimator_in (in_node node key.Estimator) d

abbrev pub source_of : ℕ → Data → Meaning NodeKind
source_of node d = do
  work ← work_at sources node d
  files ← source_files work node d
  args ← source_args work node d
  estimator ← estimator_at node d
  Ok (Source work args files estimator)

-- ---- functions

abbrev pub number_args : ℕ → ℕ → ℕ → Data → Meaning Args
number_args least most node d = do
  number ← number_at key.Number least most node d
  Ok (Number (pos number))

abbrev pub text_args : ℕ → Data → Meaning Args
text_args node d = do
  value ← needed (in_node node key.Text) d
  text ← text_in 0 4096 (in_node node key.Text) value
  Ok (Text text)

abbrev pub function_args : FnKind → ℕ → Data → Meaning Args
function_args function.Field node d = number_args 0 1000 node d
function_args function.Shift node d = number_args 0 longest node d
function_args function.KeepPrefix node d = text_args node d
function_args _ node d = Ok Nothing

abbrev pub pardo_of : ℕ → Data → Meaning NodeKind
pardo_of node d = do
  work ← work_at functions node d
  args ← function_args work node d
  Ok (ParDo work args)

abbrev pub state_args : StateKind → ℕ → Data → Meaning Args
state_args state.BatchUntil node d = number_args 1 1000000 node d
state_args state.LatestThenEmit node d = number_args 0 longest node d
state_args _ node d = Ok Nothing

abbrev pub log_at : ℕ → Data → Meaning Bool
log_at node d = or_absent false bool_in (in_node node key.Log) d

abbrev pub stateful_of : ℕ → Data → Meaning NodeKind
stateful_of node d = do
  work ← work_at stateful_functions node d
  args ← state_args work node d
  log ← log_at node d
  Ok (Stateful work args log)

-- ---- windows

-- a strategy that passes its check
abbrev pub allowed : Place → Strategy → Meaning Strategy
allowed place strategy = if is_allowed strategy then Ok strategy else Err (refusal.Number place)

abbrev pub fixed_in : Place → Data → Meaning Strategy
fixed_in place d = do
  size ← number_in 1 longest place d
  allowed place (Fixed (pos size))

-- both are numbers before either is judged
abbrev pub sliding_in : Place → Data → Meaning Strategy
sliding_in place d = do
  pair ← pair_in place d
  size ← any_number_in place pair.0
  period ← any_number_in place pair.1
  size ← within 1 longest place size
  period ← within 1 longest place period
  allowed place (Sliding (pos size) (pos period))

abbrev pub sessions_in : Place → Data → Meaning Strategy
sessions_in place d = do
  gap ← number_in 1 longest place d
  allowed place (Sessions (pos gap))

abbrev pub windows_of : Place → List ℕ × Data → Meaning Strategy
windows_of place entry =
    if bytes_eq entry.0 (codes "fixed") then fixed_in place entry.1
    else if bytes_eq entry.0 (codes "sliding") then sliding_in place entry.1
    else if bytes_eq entry.0 (codes "sessions") then sessions_in place entry.1
    else Err (refusal.Field place)

abbrev pub global_of : Place → List ℕ → Meaning Strategy
global_of place word = if bytes_eq word (codes "global") then Ok Global else Err (refusal.Name place)

-- the word of the one window of all times, or the one key of another strategy
abbrev pub strategy_in : Place → Data → Meaning Strategy
strategy_in place d =
    option_map_or (global_of place) (as_str d)
    (option_map_or (windows_of place) (only_member d) (Err (refusal.Field place)))

abbrev pub window_of : ℕ → Data → Meaning NodeKind
window_of node d = do
  value ← needed (in_node node key.Windows) d
  strategy ← strategy_in (in_node node key.Windows) value
  Ok (WindowInto strategy)

-- ---- triggers

abbrev pub early_in : Place → Data → Meaning (Option ℕ)
early_in place d = do
  count ← number_in 1 greatest_count place d
  Ok (Some count)

abbrev pub early_at : ℕ → Data → Meaning (Option ℕ)
early_at node d = or_absent None early_in (in_node node key.Early) d

abbrev pub mode_at : ℕ → Data → Meaning Mode
mode_at node d = or_absent Discarding (word_in (meaning_in modes)) (in_node node key.Mode) d

-- the value of a key that stands without the other one
abbrev pub needed_alone : PlanKey → Place → Data → Meaning Data
needed_alone sibling place d = if is_some (value_of sibling d) then Err (refusal.Field place) else needed place d

-- When early panes fire: by a count, or by a tree, which documents have from version 3 on. Both at once are refused before either is read.
abbrev pub early_of : ℕ → ℕ → Data → Meaning (Option ℕ × List Bar)
early_of version node d =
    if nat_le 3 version && is_some (value_of key.EarlyWhen d) then (do
      value ← needed_alone key.Early (in_node node key.EarlyWhen) d
      bars ← bars_in (pos 0 -ℤ greatest_length) (negsuc 0) (in_node node key.EarlyWhen) value
      Ok (None, bars))
    else (do
      early ← early_at node d
      Ok (early, []))

-- when late panes fire
abbrev pub late_of : ℕ → ℕ → Data → Meaning (ℕ × List Bar)
late_of version node d =
    if nat_le 3 version && is_some (value_of key.LateWhen d) then (do
      value ← needed_alone key.Late (in_node node key.LateWhen) d
      bars ← bars_in (pos 0) greatest_length (in_node node key.LateWhen) value
      Ok (1, bars))
    else (do
      late ← number_or 1 key.Late 1 greatest_count node d
      Ok (late, []))

abbrev pub group_of : ℕ → ℕ → Data → Meaning NodeKind
group_of version node d = do
  early ← early_of version node d
  late ← late_of version node d
  lateness ← number_or 0 key.Lateness 0 longest node d
  mode ← mode_at node d
  Ok (Group (record { early = early.0; late = late.0; lateness = pos lateness; mode = mode; early_bars = early.1; late_bars = late.1 }))

-- ---- writes

-- the name of a node that has one
abbrev pub own_name : Data → List ℕ
own_name d = unwrap_or (option_and_then as_str (value_of key.Name d)) []

-- an absent label is the name
abbrev pub label_at : ℕ → Data → Meaning (List ℕ)
label_at node d = or_absent (own_name d) (text_in 0 64) (in_node node key.Label) d

abbrev pub write_of : ℕ → Data → Meaning NodeKind
write_of node d = do
  label ← label_at node d
  Ok (Write label)

-- ---- all kinds

abbrev pub settings_of : KindWord → ℕ → ℕ → Data → Meaning NodeKind
settings_of kind.Source version node d = source_of node d
settings_of kind.ParDo version node d = pardo_of node d
settings_of kind.Flatten version node d = Ok Flatten
settings_of kind.Window version node d = window_of node d
settings_of kind.Group version node d = group_of version node d
settings_of kind.Stateful version node d = stateful_of node d
settings_of kind.Write version node d = write_of node d
