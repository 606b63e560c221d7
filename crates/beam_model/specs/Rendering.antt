-- The text of an outcome: what its Writes took, the calls of its logged stateful nodes, and its dead positions.
use Rattle.std.specs.Prelude.{◌≡◌, ℕ, ℤ, pos, ◌+◌, sum_by, map, Bool, false, if◌then◌else◌, nat_lt, List, [], ◌∷◌, ◌++◌, length, slice_get, unwrap_or, codes, decimal}
use Rattle.std.specs.declared.cmp.Ordering.{Ordering}
use Rattle.std.specs.Fmt.{signed_decimal}
use Rattle.std.specs.List.{flat_map, filter}
use Rattle.std.specs.List.Sorted.{IsSorted}
use Rattle.std.specs.Option.{option_map, option_and_then}
use Rattle.std.specs.Ordering.{on, then_cmp, nat_cmp, int_cmp}
use Rattle.beam_values.specs.Bags.{IsSameBag}
use Rattle.beam_values.specs.Elements.{element_cmp}
use Rattle.beam_values.specs.Orders.{value_cmp}
use Rattle.beam_values.specs.Texts.{blob_text, element_line, value_text}
use Rattle.beam_values.specs.declared.element.Element.{Element}
use Rattle.beam_values.specs.declared.arrival.Arrival.{Arrival}
use Rattle.beam_values.specs.declared.log.KeyLog.{KeyLog}
use Rattle.beam_values.specs.declared.log.LogEntry.{LogEntry}
use Rattle.beam_values.specs.declared.log.LogInput.{LogInput}
use Rattle.beam_values.specs.declared.log.LogInput.TheVariants.{Arrived, Fired}
use Rattle.beam_values.specs.declared.outcome.Outcome.{Outcome}
use Rattle.beam_values.specs.declared.piece.Dead.{Dead}
use Rattle.beam_values.specs.declared.plan.Node.{Node}
use Rattle.beam_values.specs.declared.plan.NodeKind.{NodeKind}
use Rattle.beam_values.specs.declared.plan.NodeKind.TheVariants.{Stateful, Write}
use Rattle.beam_values.specs.declared.plan.Plan.{Plan}
use Rattle.beam_values.specs.declared.value.Value.{Value}
use Rattle.beam_model.specs.Flow.{elements_at}
use Rattle.beam_model.specs.Functions.{sum_of}
use Rattle.beam_model.specs.Values.{as_int, as_pair, as_seq}

-- the number of a Write and its label
pub record Labelled : Type 0 where
  pub node : ℕ
  pub label : List ℕ

abbrev pub label_of : ℕ → NodeKind → List Labelled
label_of number (Write label) = record { node = number; label = label } ∷ []
label_of number _ = []

-- the Writes of the nodes, the first of which has this number, in number order
abbrev pub writes_from : ℕ → List Node → List Labelled
writes_from number [] = []
writes_from number (node ∷ nodes) = label_of number node.kind ++ writes_from (number + 1) nodes

abbrev pub writes : Plan → List Labelled
writes plan = writes_from 0 plan.nodes

-- the label of a Write, where there is more than one
abbrev pub title : Bool → List ℕ → List ℕ
title labelled label = if labelled then codes "# " ++ (blob_text label ++ 10 ∷ []) else []

-- the lines of elements in ascending order
pub record IsLines (elements : List Element) (text : List ℕ) : Type 0 where
  pub sorted : List Element
  pub all : IsSameBag sorted elements
  pub ascending : IsSorted element_cmp sorted
  pub printed : text ≡ flat_map element_line sorted

-- what each Write took, one after another
abbrev pub IsWritten : Bool → List Arrival → List Labelled → List ℕ → Type 0
IsWritten labelled written [] text = text ≡ []
IsWritten labelled written (w ∷ ws) text =
    (lines : List ℕ) × (rest : List ℕ) × IsLines (elements_at w.node written) lines × IsWritten labelled written ws rest
    × (text ≡ title labelled w.label ++ (lines ++ rest))

-- logs by node, key, and window
abbrev pub log_cmp : KeyLog → KeyLog → Ordering
log_cmp =
    then_cmp (on (λ log. log.node) nat_cmp)
    (then_cmp (on (λ log. log.key) value_cmp)
    (then_cmp (on (λ log. log.span.start) int_cmp) (on (λ log. log.span.end) int_cmp)))

abbrev pub is_logged_kind : NodeKind → Bool
is_logged_kind (Stateful work args log) = log
is_logged_kind _ = false

-- the log is of a Stateful node whose calls are printed
abbrev pub is_printed : Plan → KeyLog → Bool
is_printed plan log = unwrap_or (option_map (λ node. is_logged_kind node.kind) (slice_get plan.nodes log.node)) false

abbrev pub input_text : LogInput → List ℕ
input_text (Arrived e) = codes "element" ++ 9 ∷ (signed_decimal e.time ++ 9 ∷ value_text e.value)
input_text (Fired timer) = codes "timer" ++ 9 ∷ (decimal timer.name ++ 9 ∷ signed_decimal timer.time)

-- the line of a call: its node, its window, its key, and what it was called on, with TABs between
abbrev pub log_line : KeyLog → LogEntry → List ℕ
log_line log entry =
    codes "log" ++ 9 ∷ (decimal log.node ++ 9 ∷ (signed_decimal log.span.start ++ 9 ∷ (signed_decimal log.span.end ++ 9 ∷ (value_text log.key ++ 9 ∷ (input_text entry.input ++ 10 ∷ [])))))

abbrev pub log_lines : KeyLog → List ℕ
log_lines log = flat_map (log_line log) log.entries

-- the lines of the printed logs in ascending order, each log in its own
pub record IsLogged (plan : Plan) (logs : List KeyLog) (text : List ℕ) : Type 0 where
  pub sorted : List KeyLog
  pub all : IsSameBag sorted (filter (is_printed plan) logs)
  pub ascending : IsSorted log_cmp sorted
  pub printed : text ≡ flat_map log_lines sorted

-- the line of a dead position: its node, its item, the position, and the node at which it failed, with TABs between
abbrev pub dead_line : Dead → List ℕ
dead_line dead =
    codes "dead" ++ 9 ∷ (decimal dead.node ++ 9 ∷ (decimal dead.item ++ 9 ∷ (decimal dead.at ++ 9 ∷ (decimal dead.note.at ++ 10 ∷ []))))

-- the Writes, with their labels where there is more than one, then the logs, and then the dead positions in their order
abbrev pub IsRendering : Outcome → List ℕ → Type 0
IsRendering o text =
    (front : List ℕ) × (back : List ℕ) × IsWritten (nat_lt 1 (length (writes o.plan))) o.written (writes o.plan) front
    × IsLogged o.plan o.logs back × (text ≡ (front ++ back) ++ flat_map dead_line o.dead)

-- The summary of an outcome: how many positions its source items have, how many elements were written, how many items the sequences of these have,
-- and the sum of the whole numbers among them. An element that is no key with a sequence counts no item.
abbrev pub items_written : Element → List Value
items_written e = unwrap_or (option_and_then (λ keyed. as_seq keyed.part) (as_pair e.value)) []

abbrev pub all_items_written : Outcome → List Value
all_items_written o = flat_map (λ arrival. items_written arrival.element) o.written

abbrev pub number_or_zero : Value → ℤ
number_or_zero v = unwrap_or (as_int v) (pos 0)

abbrev pub summary_line : List ℕ → List ℕ → List ℕ
summary_line name number = name ++ 32 ∷ (number ++ 10 ∷ [])

abbrev pub summary : Outcome → List ℕ
summary o =
    summary_line (codes "lines") (decimal (sum_by (λ file. file.len) o.files))
    ++ (summary_line (codes "panes") (decimal (length o.written))
    ++ (summary_line (codes "values") (decimal (length (all_items_written o)))
    ++ summary_line (codes "sum") (signed_decimal (sum_of (map number_or_zero (all_items_written o))))))
