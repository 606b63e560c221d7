-- Source items and their positions (Splittable DoFn: an element and the restriction of its offsets). A position is worked whole or not at all.
use Rattle.std.specs.Prelude.{ℕ, ◌+◌, ◌*◌, ◌%◌, ℤ, pos, if◌then◌else◌, nat_lt, List, [], ◌∷◌, ◌++◌, length, map, Option, Some, None, unwrap_or, codes, decimal}
use Rattle.std.specs.List.{flat_map, enumerate_from}
use Rattle.beam_values.specs.Files.{first_named}
use Rattle.beam_values.specs.Functions.{TimedLine, Timed, Declared, timed_line}
use Rattle.beam_values.specs.Functions as lines
use Rattle.beam_values.specs.Lines.{starts_line, line_at, next_start}
use Rattle.beam_values.specs.Times.{least_time}
use Rattle.beam_values.specs.declared.value.Value.{Value}
use Rattle.beam_values.specs.declared.file_text.FileText.{FileText}
use Rattle.beam_values.specs.declared.piece.FileLen.{FileLen}
use Rattle.beam_values.specs.declared.plan.Args.{Args}
use Rattle.beam_values.specs.declared.plan.Node.{Node}
use Rattle.beam_values.specs.declared.plan.NodeKind.{NodeKind}
use Rattle.beam_values.specs.declared.plan.NodeKind.TheVariants.{Source}
use Rattle.beam_values.specs.declared.plan.Plan.{Plan}
use Rattle.beam_values.specs.declared.plan.SourceKind.{SourceKind}
use Rattle.beam_values.specs.declared.plan.SourceKind.TheVariants.{Lines, TimedLines, Count, Made}
use Rattle.beam_model.specs.Values.{int, blob}
use Rattle.beam_model.specs.Functions.{first_arg, second_arg}

-- a value at a time, before it is an element
pub record TimedValue : Type 0 where
  pub value : Value
  pub time : ℤ

-- what a position gives: values in order, and the watermark that it declares, if any; or it is poison
pub data Emission : Type 0 where
  Emits : List TimedValue → Option ℤ → Emission
  Poison : Emission

abbrev pub nothing : Emission
nothing = Emits [] None

abbrev pub emits_one : Value → ℤ → Emission
emits_one v time = Emits (record { value = v; time = time } ∷ []) None

-- a timed line emits its text; a declared watermark emits none
abbrev pub line_emission : TimedLine → Emission
line_emission (Timed time text) = emits_one (blob text) time
line_emission (Declared mark) = Emits [] (Some mark)
line_emission lines.Poison = Poison

-- The made-up line of a position, after a number that the plan chooses: a time that rises from line to line, one of 16 keys, and a number
-- below 1000. With number 7 the line of 0 is `59 TAB k7 TAB 7`.
abbrev pub made_line : ℕ → ℕ → List ℕ
made_line number p =
    decimal (100 * p + (37 * (p + number)) % 100) ++ 9 ∷ (codes "k" ++ (decimal ((7 * p + number) % 16) ++ 9 ∷ decimal ((p + number) % 1000)))

-- how many positions an item has: one a byte of its file, or one an element that is counted or made
abbrev pub positions_in : SourceKind → Args → List ℕ → ℕ
positions_in Lines args file = length file
positions_in TimedLines args file = length file
positions_in Count args file = first_arg args
positions_in Made args file = first_arg args

-- what a position below that emits: in a file only the position where a line starts emits it
abbrev pub emission_within : SourceKind → Args → List ℕ → ℕ → Emission
emission_within Lines args file p = if starts_line file p then emits_one (blob (line_at file p)) least_time else nothing
emission_within TimedLines args file p = if starts_line file p then line_emission (timed_line (line_at file p)) else nothing
emission_within Count args file p = emits_one (int (pos p)) (pos (p * second_arg args))
emission_within Made args file p = line_emission (timed_line (made_line (second_arg args) p))

-- what a position of a source emits; there is nothing at the end of an item or past it
abbrev pub emission : SourceKind → Args → List ℕ → ℕ → Emission
emission work args file p = if nat_lt p (positions_in work args file) then emission_within work args file p else nothing

-- the position that is worked after this one: the next line start, or the next number
abbrev pub next_position : SourceKind → List ℕ → ℕ → ℕ
next_position Lines file p = next_start file p
next_position TimedLines file p = next_start file p
next_position Count file p = p + 1
next_position Made file p = p + 1

-- An item of a source: a file with its bytes, or what is counted or made. `left_out` are positions that bring nothing, whatever they emit; the items of
-- a plan leave none out.
pub record SourceItem : Type 0 where
  pub node : ℕ
  pub item : ℕ
  pub work : SourceKind
  pub args : Args
  pub file : List ℕ
  pub left_out : List ℕ

-- the bytes that the told files have under a name
abbrev pub told_bytes : List FileText → List ℕ → List ℕ
told_bytes told name = unwrap_or (first_named name told) []

abbrev pub file_item : List FileText → ℕ → SourceKind → Args → (ℕ × List ℕ) → SourceItem
file_item told node work args (item, name) =
    record { node = node; item = item; work = work; args = args; file = told_bytes told name; left_out = [] }

abbrev pub file_items : List FileText → ℕ → SourceKind → Args → List (List ℕ) → List SourceItem
file_items told node work args names = map (file_item told node work args) (enumerate_from 0 names)

abbrev pub made_item : ℕ → SourceKind → Args → SourceItem
made_item node work args = record { node = node; item = 0; work = work; args = args; file = []; left_out = [] }

-- each file is an item; what is counted or made is one item
abbrev pub items_of_source : List FileText → ℕ → SourceKind → Args → List (List ℕ) → List SourceItem
items_of_source told node Lines args names = file_items told node Lines args names
items_of_source told node TimedLines args names = file_items told node TimedLines args names
items_of_source told node Count args names = made_item node Count args ∷ []
items_of_source told node Made args names = made_item node Made args ∷ []

abbrev pub items_of_kind : List FileText → ℕ → NodeKind → List SourceItem
items_of_kind told node (Source work args files estimator) = items_of_source told node work args files
items_of_kind told node _ = []

abbrev pub items_of_node : List FileText → (ℕ × Node) → List SourceItem
items_of_node told (number, node) = items_of_kind told number node.kind

-- the items of all sources, by node and item
abbrev pub items : List FileText → Plan → List SourceItem
items told plan = flat_map (items_of_node told) (enumerate_from 0 plan.nodes)

-- how many positions it has: those from 0 up to this one
abbrev pub len_of : SourceItem → ℕ
len_of item = positions_in item.work item.args item.file

abbrev pub item_len : SourceItem → FileLen
item_len item = record { node = item.node; item = item.item; len = len_of item }
