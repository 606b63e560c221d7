-- Plain grouping: what GroupByKey gives of a whole bag of elements (Beam Programming Guide, GroupByKey; The Dataflow Model, grouping and windows).
use Rattle.std.specs.Prelude.{◌≡◌, ℤ, pos, ◌-ℤ◌, Bool, ◌&&◌, List, map, filter, count_by, min, All, int_lt, if◌then◌else◌}
use Rattle.std.specs.Ordering.{int_eq}
use Rattle.std.specs.Str.{bytes_eq}
use Rattle.std.specs.List.Sorted.{IsSorted}
use Rattle.beam_values.specs.Times.{least_time, greatest_time}
use Rattle.beam_values.specs.Intervals.{Interval}
use Rattle.beam_values.specs.Bags.{IsSameBag}
use Rattle.beam_values.specs.Spelling.{spelling}
use Rattle.beam_values.specs.Orders.{value_cmp}
use Rattle.beam_values.specs.declared.value.Value.{Value}
use Rattle.beam_values.specs.declared.value.Value.TheOpen as layer
use Rattle.beam_values.specs.declared.value.Value.TheViews.{out-Value, roll-Value}
use Rattle.beam_values.specs.declared.element.Element.{Element}
use Rattle.beam_values.specs.declared.element.PaneTag.{PaneTag}
use Rattle.beam_values.specs.declared.element.Timing.TheVariants.{OnTime}

abbrev pub key_in : layer.Value-F Value → Value
key_in (layer.Pair key part) = key
key_in _ = roll-Value layer.Null

abbrev pub part_in : Value → layer.Value-F Value → Value
part_in whole (layer.Pair key part) = part
part_in whole _ = whole

-- the key of an element: the first of a pair; Null, where the value isn't one
abbrev pub key_of : Element → Value
key_of e = key_in (out-Value e.value)

-- what an element brings to its key: the second of a pair; the value itself, where it isn't one
abbrev pub part_of : Element → Value
part_of e = part_in e.value (out-Value e.value)

-- keys are equal where their spellings are
abbrev pub is_in_cell : Value → Interval → Element → Bool
is_in_cell key span e =
    bytes_eq (spelling (key_of e)) (spelling key) && int_eq e.span.start span.start && int_eq e.span.end span.end

-- the last millisecond of a window that is a time
abbrev pub last_time : Interval → ℤ
last_time span =
    let last = span.end -ℤ pos 1 in
    if int_lt greatest_time last then greatest_time else (if int_lt last least_time then least_time else last)

-- the pane of a key and a window that holds these parts, under a tag
abbrev pub pane_as : PaneTag → Value → Interval → List Value → Element
pane_as tag key span parts = record {
  value = roll-Value (layer.Pair key (roll-Value (layer.Seq parts)));
  time = last_time span;
  span = span;
  pane = tag;
}

-- the first one, on time
abbrev pub pane_with : Value → Interval → List Value → Element
pane_with = pane_as (record { timing = OnTime; index = 0 })

-- a pane holds the parts of all elements of its key and window, in ascending order
pub record IsPlainPane (elements : List Element) (pane : Element) : Type 0 where
  pub parts : List Value
  pub holds : pane ≡ pane_with (key_of pane) pane.span parts
  pub ascending : IsSorted value_cmp parts
  pub all : IsSameBag parts (map part_of (filter (is_in_cell (key_of pane) pane.span) elements))

-- each key and window that an element has stands in one pane, and no other does
pub record IsPlainGrouping (elements panes : List Element) : Type 0 where
  pub each : All (IsPlainPane elements) panes
  pub once : (key : Value) (span : Interval)
      → count_by (is_in_cell key span) panes ≡ min 1 (count_by (is_in_cell key span) elements)
