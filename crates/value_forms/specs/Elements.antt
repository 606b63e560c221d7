-- The forms of elements.
use Rattle.std.specs.Prelude.{ℕ, ℤ, List, [], ◌∷◌}
use Rattle.beam_values.specs.declared.arrival.Arrival.{Arrival}
use Rattle.beam_values.specs.declared.element.Element.{Element}
use Rattle.beam_values.specs.declared.element.PaneTag.{PaneTag}
use Rattle.beam_values.specs.declared.element.Timing.{Timing}
use Rattle.beam_values.specs.declared.element.Timing.TheVariants.{Early, OnTime, Late, Unknown}
use Rattle.beam_values.specs.declared.value.Value.{Value}
use Rattle.beam_values.specs.Intervals.{Interval}
use Rattle.beam_values.specs.Timings.{timing_number}
use Rattle.value_forms.specs.Enums.{names_form}
use Rattle.value_forms.specs.Forms.{Form, value_form}
use Rattle.value_forms.specs.Numbers.{u32_form, time_form}
use Rattle.value_forms.specs.Structs.{no_more, ◌&◌, struct_form}
use Rattle.value_forms.specs.Windows.{span_form}

abbrev pub timing_names : List Timing
timing_names = Early ∷ OnTime ∷ Late ∷ Unknown ∷ []

abbrev pub timing_form : Form Timing
timing_form = names_form timing_names timing_number

abbrev pub tag_fields : PaneTag → Timing × (ℕ × Unit {0})
tag_fields t = (t.timing, (t.index, tt))

abbrev pub tag_of : Timing × (ℕ × Unit {0}) → PaneTag
tag_of x = record { timing = x.0; index = x.1.0 }

abbrev pub tag_form : Form PaneTag
tag_form = struct_form (timing_form & u32_form & no_more) tag_fields tag_of

abbrev pub element_fields : Element → Value × (ℤ × (Interval × (PaneTag × Unit {0})))
element_fields e = (e.value, (e.time, (e.span, (e.pane, tt))))

abbrev pub element_of : Value × (ℤ × (Interval × (PaneTag × Unit {0}))) → Element
element_of x = record { value = x.0; time = x.1.0; span = x.1.1.0; pane = x.1.1.1.0 }

-- The value Null at the time 4 in the window `[0, 10)`, on time and with the index 2, is
-- `Seq[Null, Int(4), Seq[Int(0), Int(10)], Seq[Pair(Int(1), Seq[]), Int(2)]]`.
abbrev pub element_form : Form Element
element_form = struct_form (value_form & time_form & span_form & tag_form & no_more) element_fields element_of

abbrev pub arrival_fields : Arrival → ℕ × (Element × Unit {0})
arrival_fields a = (a.node, (a.element, tt))

abbrev pub arrival_of : ℕ × (Element × Unit {0}) → Arrival
arrival_of x = record { node = x.0; element = x.1.0 }

abbrev pub arrival_form : Form Arrival
arrival_form = struct_form (u32_form & element_form & no_more) arrival_fields arrival_of
