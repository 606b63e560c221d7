-- Checked plans: the rules of a pipeline, and the order in which they are tested (Beam Programming Guide, Creating a pipeline; the limits are this
-- profile's).
use Rattle.std.specs.Prelude.{◌≡◌, ℕ, ◌+◌, ℤ, pos, negsuc, ◌-ℤ◌, ◌==◌, Bool, true, false, ◌&&◌, if◌then◌else◌, nat_le, nat_lt, int_le, int_lt, List, [], ◌∷◌, ◌++◌, length, slice_get, unwrap_or, Option, Some, None, not}
use Rattle.std.specs.List.{list_all, list_any}
use Rattle.std.specs.Option.{option_map, option_or}
use Rattle.beam_values.specs.declared.graph_refusal.GraphRefusal.{GraphRefusal}
use Rattle.beam_values.specs.declared.graph_refusal.GraphRefusal.TheVariants as refusal
use Rattle.beam_values.specs.declared.plan.Args.{Args}
use Rattle.beam_values.specs.declared.plan.Args.TheVariants.{Nothing, Text, Number, Two}
use Rattle.beam_values.specs.declared.plan.Bar.{Bar}
use Rattle.beam_values.specs.declared.plan.Estimator.{Estimator}
use Rattle.beam_values.specs.declared.plan.Estimator.TheVariants as estimator
use Rattle.beam_values.specs.declared.plan.FnKind.{FnKind}
use Rattle.beam_values.specs.declared.plan.FnKind.TheVariants.{Field, KeepPrefix, Shift, Tag}
use Rattle.beam_values.specs.declared.plan.Node.{Node}
use Rattle.beam_values.specs.declared.plan.NodeKind.{NodeKind}
use Rattle.beam_values.specs.declared.plan.NodeKind.TheVariants.{Source, ParDo, Flatten, WindowInto, Group, Stateful, Write}
use Rattle.beam_values.specs.declared.plan.Plan.{Plan}
use Rattle.beam_values.specs.declared.plan.SourceKind.{SourceKind}
use Rattle.beam_values.specs.declared.plan.SourceKind.TheVariants.{Lines, TimedLines, Count, Made}
use Rattle.beam_values.specs.declared.plan.StateKind.{StateKind}
use Rattle.beam_values.specs.declared.plan.StateKind.TheVariants.{BatchUntil, LatestThenEmit}
use Rattle.beam_values.specs.declared.plan.Strategy.{Strategy}
use Rattle.beam_values.specs.declared.plan.Strategy.TheVariants as strategy
use Rattle.beam_values.specs.declared.plan.Trigger.{Trigger}
use Rattle.beam_values.specs.Nodes.{is_source_kind, is_write_kind, facts_of, facts_at, first_strategy}
use Rattle.beam_values.specs.Strategies.{greatest_length, is_allowed}

-- the forms of arguments, and their limits
abbrev pub is_nothing : Args → Bool
is_nothing Nothing = true
is_nothing _ = false

abbrev pub is_number_upto : ℤ → Args → Bool
is_number_upto most (Number n) = int_le (pos 0) n && int_le n most
is_number_upto most _ = false

abbrev pub is_text_upto : ℕ → Args → Bool
is_text_upto most (Text text) = nat_le (length text) most
is_text_upto most _ = false

abbrev pub is_two_upto : ℕ → ℕ → Args → Bool
is_two_upto first second (Two a b) = nat_le a first && nat_le b second
is_two_upto first second _ = false

-- the name of a file has 1 to 4096 bytes
abbrev pub is_file_name : List ℕ → Bool
is_file_name name = nat_le 1 (length name) && nat_le (length name) 4096

-- at least one file; `earlier` counts the files of the sources before, and all together are at most 256
abbrev pub are_files : ℕ → List (List ℕ) → Bool
are_files earlier names = nat_le 1 (length names) && list_all is_file_name names && nat_le (earlier + length names) 256

abbrev pub is_no_file : List (List ℕ) → Bool
is_no_file [] = true
is_no_file (name ∷ names) = false

-- the arguments that a source takes
abbrev pub is_source_argument : SourceKind → Args → Bool
is_source_argument Lines args = is_nothing args
is_source_argument TimedLines args = is_nothing args
is_source_argument Count args = is_two_upto 1000000000 1000000 args
is_source_argument Made args = is_two_upto 1000000 1000000 args

-- whether a source reads files
abbrev pub reads_file : SourceKind → Bool
reads_file Lines = true
reads_file TimedLines = true
reads_file Count = false
reads_file Made = false

-- the files that a source reads: at least one, or none
abbrev pub is_source_files : ℕ → SourceKind → List (List ℕ) → Bool
is_source_files earlier work names = if reads_file work then are_files earlier names else is_no_file names

abbrev pub is_source_allowed : ℕ → SourceKind → Args → List (List ℕ) → Bool
is_source_allowed earlier work args names = is_source_argument work args && is_source_files earlier work names

-- a lag is at least 0
abbrev pub is_estimator_allowed : Estimator → Bool
is_estimator_allowed (estimator.Lag delay) = int_le (pos 0) delay && int_le delay greatest_length
is_estimator_allowed _ = true

-- the argument that a function takes
abbrev pub is_function_allowed : FnKind → Args → Bool
is_function_allowed Field args = is_number_upto (pos 1000) args
is_function_allowed KeepPrefix args = is_text_upto 4096 args
is_function_allowed Shift args = is_number_upto greatest_length args
is_function_allowed Tag args = is_number_upto (pos 1) args
is_function_allowed _ args = is_nothing args

-- the argument that a stateful function takes
abbrev pub is_state_allowed : StateKind → Args → Bool
is_state_allowed BatchUntil args = is_number_upto (pos 1000000) args && not (is_number_upto (pos 0) args)
is_state_allowed LatestThenEmit args = is_number_upto greatest_length args
is_state_allowed _ args = is_nothing args

-- counts of at least 1 that 32 bits hold, and a lateness of at least 0
abbrev pub is_count : ℕ → Bool
is_count n = nat_le 1 n && nat_le n 4294967295

abbrev pub is_early_allowed : Option ℕ → Bool
is_early_allowed None = true
is_early_allowed (Some count) = is_count count

-- a delay after another one is less; none is the least
abbrev pub is_less_delay : Option ℤ → Option ℤ → Bool
is_less_delay (Some before) (Some after) = int_lt after before
is_less_delay (Some before) None = true
is_less_delay None after = false

abbrev pub is_stair : Option Bar → Bar → Bool
is_stair None bar = true
is_stair (Some before) bar = nat_lt before.count bar.count && is_less_delay before.delay bar.delay

-- bars after this one, if there is one, are a staircase: each asks for more elements than the one before it, and for less delay
abbrev pub are_stairs_after : Option Bar → List Bar → Bool
are_stairs_after before [] = true
are_stairs_after before (bar ∷ bars) = is_stair before bar && are_stairs_after (Some bar) bars

abbrev pub is_delay_within : ℤ → ℤ → Option ℤ → Bool
is_delay_within least most None = true
is_delay_within least most (Some delay) = int_le least delay && int_le delay most

abbrev pub is_bar_within : ℤ → ℤ → Bar → Bool
is_bar_within least most bar = is_count bar.count && is_delay_within least most bar.delay

-- The bars (2, 5000) and (9, none) are a staircase; (2, none) and (9, 5000), or twice the same count, are not.
abbrev pub are_bars_allowed : ℤ → ℤ → List Bar → Bool
are_bars_allowed least most bars = list_all (is_bar_within least most) bars && are_stairs_after None bars

-- early bars are before the window's end, late ones at it or after it
abbrev pub are_early_bars : List Bar → Bool
are_early_bars = are_bars_allowed (pos 0 -ℤ greatest_length) (negsuc 0)

abbrev pub are_late_bars : List Bar → Bool
are_late_bars = are_bars_allowed (pos 0) greatest_length

abbrev pub is_trigger_allowed : Trigger → Bool
is_trigger_allowed trigger =
    is_early_allowed trigger.early && is_count trigger.late && int_le (pos 0) trigger.lateness && int_le trigger.lateness greatest_length
    && are_early_bars trigger.early_bars && are_late_bars trigger.late_bars

-- a WindowInto takes any allowed strategy but Kept, which stands below a Group of sessions
abbrev pub is_kept : Strategy → Bool
is_kept strategy.Kept = true
is_kept _ = false

abbrev pub is_same_strategy : Strategy → Strategy → Bool
is_same_strategy strategy.Global strategy.Global = true
is_same_strategy (strategy.Fixed size) (strategy.Fixed other) = int_le size other && int_le other size
is_same_strategy (strategy.Sliding size period) (strategy.Sliding other others) =
    int_le size other && int_le other size && int_le period others && int_le others period
is_same_strategy (strategy.Sessions gap) (strategy.Sessions other) = int_le gap other && int_le other gap
is_same_strategy strategy.Kept strategy.Kept = true
is_same_strategy _ _ = false

-- the inputs of a node of this number put out elements of one strategy
abbrev pub agrees : List Node → List ℕ → Bool
agrees before inputs =
    list_all (λ input. is_same_strategy (facts_at (facts_of before) input).onward (first_strategy (facts_of before) inputs)) inputs

-- how many files the sources of these nodes read
abbrev pub files_of_kind : NodeKind → ℕ
files_of_kind (Source work args files estimator) = length files
files_of_kind _ = 0

abbrev pub file_count : List Node → ℕ
file_count [] = 0
file_count (node ∷ nodes) = files_of_kind node.kind + file_count nodes

-- windows that merge, where a key and a window would be no cell of their own
abbrev pub is_session : Strategy → Bool
is_session (strategy.Sessions gap) = true
is_session _ = false

-- what a node asks of its settings, where `before` are the nodes before it
abbrev pub is_set : List Node → NodeKind → List ℕ → Bool
is_set before (Source work args files estimator) inputs =
    is_source_allowed (file_count before) work args files && is_estimator_allowed estimator
is_set before (ParDo work args) inputs = is_function_allowed work args
is_set before Flatten inputs = agrees before inputs
is_set before (WindowInto strategy) inputs = is_allowed strategy && not (is_kept strategy)
is_set before (Group trigger) inputs = is_trigger_allowed trigger
is_set before (Stateful work args log) inputs = is_state_allowed work args && not (is_session (first_strategy (facts_of before) inputs))
is_set before (Write label) inputs = true

-- the number of inputs of a node: one, of a Flatten 1 to 8; that of a source is another rule's
abbrev pub has_arity : NodeKind → List ℕ → Bool
has_arity (Source work args files estimator) inputs = true
has_arity Flatten inputs = nat_le 1 (length inputs) && nat_le (length inputs) 8
has_arity _ inputs = length inputs == 1

-- an earlier node of this number is a Write
abbrev pub is_write_in : List Node → ℕ → Bool
is_write_in before input = unwrap_or (option_map (λ node. is_write_kind node.kind) (slice_get before input)) false

abbrev pub has_input : List ℕ → Bool
has_input [] = false
has_input (input ∷ inputs) = true

-- the first rule that a node after these breaks
abbrev pub node_refusal : List Node → Node → Option GraphRefusal
node_refusal before node =
    if is_source_kind node.kind && has_input node.inputs then Some (refusal.SourceWithInput (length before))
    else (if not (has_arity node.kind node.inputs) then Some (refusal.Arity (length before))
    else (if not (list_all (λ input. nat_lt input (length before)) node.inputs) then Some (refusal.Input (length before))
    else (if list_any (is_write_in before) node.inputs then Some (refusal.Kind (length before))
    else (if not (is_set before node.kind node.inputs) then Some (refusal.Setting (length before)) else None))))

-- the first node that breaks one, and its rule
abbrev pub nodes_refusal : List Node → List Node → Option GraphRefusal
nodes_refusal before [] = None
nodes_refusal before (node ∷ later) = option_or (node_refusal before node) (nodes_refusal (before ++ node ∷ []) later)

abbrev pub write_refusal : List Node → Option GraphRefusal
write_refusal nodes = if list_any (λ node. is_write_kind node.kind) nodes then None else Some refusal.NoWrite

-- why a plan is no pipeline, if it is none: it has no node or more than 64; a node breaks a rule; it writes nothing
abbrev pub graph_refusal : Plan → Option GraphRefusal
graph_refusal plan =
    if length plan.nodes == 0 then Some refusal.Empty
    else (if nat_lt 64 (length plan.nodes) then Some refusal.TooMany
    else option_or (nodes_refusal [] plan.nodes) (write_refusal plan.nodes))

-- a checked plan: no rule refuses it
pub record IsChecked (plan : Plan) : Type 0 where
  pub unrefused : graph_refusal plan ≡ None
