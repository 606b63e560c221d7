-- What the box of a node says: its name, and line by line what its document says of it. Times are in milliseconds.
use Rattle.std.specs.Prelude.{ℕ, ℤ, Bool, true, false, List, [], ◌∷◌, ◌++◌, map, if◌then◌else◌, ◌==◌, ◌||◌, nat_lt, codes, decimal, Option, Some, None}
use Rattle.std.specs.Fmt.{signed_decimal}
use Rattle.std.specs.List.{flat_map, join_by}
use Rattle.beam_values.specs.Texts.{byte_text}
use Rattle.beam_values.specs.declared.plan.Args.{Args}
use Rattle.beam_values.specs.declared.plan.Args.TheVariants.{Nothing, Text, Number, Two}
use Rattle.beam_values.specs.declared.plan.Bar.{Bar}
use Rattle.beam_values.specs.declared.plan.Estimator.{Estimator}
use Rattle.beam_values.specs.declared.plan.Estimator.TheVariants as estimator
use Rattle.beam_values.specs.declared.plan.NodeKind.{NodeKind}
use Rattle.beam_values.specs.declared.plan.NodeKind.TheVariants.{Source, ParDo, Flatten, WindowInto, Group, Stateful, Write}
use Rattle.beam_values.specs.declared.plan.Strategy.{Strategy}
use Rattle.beam_values.specs.declared.plan.Strategy.TheVariants.{Global, Fixed, Sliding, Sessions, Kept}
use Rattle.beam_values.specs.declared.plan.Trigger.{Trigger}
use Rattle.plan_drawing.specs.Words.{source_word, function_word, state_word, mode_word}

-- ---- texts in a label

-- A byte, written so that Graphviz shows it. Between the quotes of a label it takes `\"` for a quote, `\\` for a backslash, and `&amp;` for an ampersand, which
-- else may begin the name of a character. A byte that can't be shown is spelled as in the text of a pane, as `\n` or `\x07`, and the backslash of that is
-- shown. Bytes of UTF-8 stay as they are.
abbrev pub label_byte : ℕ → List ℕ
label_byte byte =
    if byte == 38 then codes "&amp;"
    else (if nat_lt byte 32 || byte == 127 then 92 ∷ byte_text byte
    else (if byte == 34 || byte == 92 then byte_text byte
    else byte ∷ []))

abbrev pub label_text : List ℕ → List ℕ
label_text text = flat_map label_byte text

-- between two lines of a label
abbrev pub line_break : List ℕ
line_break = codes "\\n"

abbrev pub milliseconds : ℤ → List ℕ
milliseconds span = signed_decimal span ++ codes " ms"

-- ---- the lines

-- arguments by the keys that they have in a document
abbrev pub args_lines : Args → List (List ℕ)
args_lines Nothing = []
args_lines (Text text) = (codes "text " ++ label_text text) ∷ []
args_lines (Number number) = (codes "number " ++ signed_decimal number) ∷ []
args_lines (Two count number) = (codes "count " ++ decimal count) ∷ (codes "number " ++ decimal number) ∷ []

abbrev pub file_line : List ℕ → List ℕ
file_line name = codes "file " ++ label_text name

abbrev pub estimator_line : Estimator → List ℕ
estimator_line estimator.None = codes "estimator none"
estimator_line estimator.Monotonic = codes "estimator monotonic"
estimator_line (estimator.Lag delay) = codes "estimator lag " ++ milliseconds delay
estimator_line estimator.Declared = codes "estimator declared"

abbrev pub strategy_line : Strategy → List ℕ
strategy_line Global = codes "global"
strategy_line (Fixed size) = codes "fixed, size " ++ milliseconds size
strategy_line (Sliding size period) = codes "sliding, size " ++ (milliseconds size ++ (codes ", period " ++ milliseconds period))
strategy_line (Sessions gap) = codes "sessions, gap " ++ milliseconds gap
strategy_line Kept = codes "kept"

abbrev pub early_lines : Option ℕ → List (List ℕ)
early_lines None = []
early_lines (Some count) = (codes "early " ++ decimal count) ∷ []

-- from when on a bar is met, after the window's end or before it
abbrev pub delay_text : Option ℤ → List ℕ
delay_text None = []
delay_text (Some delay) = codes " from " ++ milliseconds delay

-- `early 9`, or `early 2 from -5000 ms`
abbrev pub bar_line : List ℕ → Bar → List ℕ
bar_line words bar = words ++ decimal bar.count ++ delay_text bar.delay

-- the late bars, or where there is none the late count
abbrev pub late_lines : ℕ → List Bar → List (List ℕ)
late_lines late [] = (codes "late " ++ decimal late) ∷ []
late_lines late bars = map (bar_line (codes "late ")) bars

abbrev pub trigger_lines : Trigger → List (List ℕ)
trigger_lines trigger =
    early_lines trigger.early
    ++ map (bar_line (codes "early ")) trigger.early_bars
    ++ late_lines trigger.late trigger.late_bars
    ++ (codes "lateness " ++ milliseconds trigger.lateness) ∷ mode_word trigger.mode ∷ []

abbrev pub log_lines : Bool → List (List ℕ)
log_lines true = codes "log" ∷ []
log_lines false = []

abbrev pub kind_lines : NodeKind → List (List ℕ)
kind_lines (Source work args files estimator) =
    (codes "source " ++ source_word work) ∷ (args_lines args ++ (map file_line files ++ estimator_line estimator ∷ []))
kind_lines (ParDo work args) = (codes "pardo " ++ function_word work) ∷ args_lines args
kind_lines Flatten = codes "flatten" ∷ []
kind_lines (WindowInto strategy) = codes "window" ∷ strategy_line strategy ∷ []
kind_lines (Group trigger) = codes "group" ∷ trigger_lines trigger
kind_lines (Stateful work args log) = (codes "stateful " ++ state_word work) ∷ (args_lines args ++ log_lines log)
kind_lines (Write label) = codes "write" ∷ (codes "label " ++ label_text label) ∷ []

-- ---- the label

-- the name, and each further line below it
abbrev pub label_of : List ℕ → NodeKind → List ℕ
label_of name kind = join_by (λ line. line) line_break (label_text name ∷ kind_lines kind)
