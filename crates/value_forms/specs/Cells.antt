-- The forms of the cells of Groups and of their panes.
use Rattle.std.specs.Prelude.{ℕ, Bool, List, Option}
use Rattle.beam_values.specs.declared.cell.Cell.{Cell}
use Rattle.beam_values.specs.declared.cell.Dropped.{Dropped}
use Rattle.beam_values.specs.declared.cell.Entry.{Entry}
use Rattle.beam_values.specs.declared.cell.Pane.{Pane}
use Rattle.beam_values.specs.declared.element.Element.{Element}
use Rattle.beam_values.specs.declared.value.Value.{Value}
use Rattle.beam_values.specs.Intervals.{Interval}
use Rattle.value_forms.specs.Elements.{element_form}
use Rattle.value_forms.specs.Forms.{Form, value_form, list_form, option_form}
use Rattle.value_forms.specs.Numbers.{u32_form, flag_form}
use Rattle.value_forms.specs.Structs.{no_more, ◌&◌, struct_form}
use Rattle.value_forms.specs.Windows.{span_form}

abbrev pub pane_fields : Pane → ℕ × (Element × (ℕ × Unit {0}))
pane_fields p = (p.node, (p.element, (p.commit, tt)))

abbrev pub pane_of : ℕ × (Element × (ℕ × Unit {0})) → Pane
pane_of x = record { node = x.0; element = x.1.0; commit = x.1.1.0 }

abbrev pub pane_form : Form Pane
pane_form = struct_form (u32_form & element_form & u32_form & no_more) pane_fields pane_of

abbrev pub entry_fields : Entry → Element × (ℕ × (Bool × Unit {0}))
entry_fields e = (e.element, (e.commit, (e.shown, tt)))

abbrev pub entry_of : Element × (ℕ × (Bool × Unit {0})) → Entry
entry_of x = record { element = x.0; commit = x.1.0; shown = x.1.1.0 }

abbrev pub entry_form : Form Entry
entry_form = struct_form (element_form & u32_form & flag_form & no_more) entry_fields entry_of

abbrev pub cell_fields : Cell → ℕ × (Value × (Interval × (List Entry × (ℕ × (Bool × (Option Interval × Unit {0}))))))
cell_fields c = (c.node, (c.key, (c.span, (c.entries, (c.next_index, (c.on_time, (c.merged_into, tt)))))))

abbrev pub cell_of : ℕ × (Value × (Interval × (List Entry × (ℕ × (Bool × (Option Interval × Unit {0})))))) → Cell
cell_of x = record { node = x.0; key = x.1.0; span = x.1.1.0; entries = x.1.1.1.0; next_index = x.1.1.1.1.0; on_time = x.1.1.1.1.1.0; merged_into = x.1.1.1.1.1.1.0 }

abbrev pub cell_form : Form Cell
cell_form = struct_form (u32_form & value_form & span_form & list_form entry_form & u32_form & flag_form & option_form span_form & no_more) cell_fields cell_of

abbrev pub dropped_fields : Dropped → ℕ × (Element × (ℕ × Unit {0}))
dropped_fields d = (d.node, (d.element, (d.commit, tt)))

abbrev pub dropped_of : ℕ × (Element × (ℕ × Unit {0})) → Dropped
dropped_of x = record { node = x.0; element = x.1.0; commit = x.1.1.0 }

abbrev pub dropped_form : Form Dropped
dropped_form = struct_form (u32_form & element_form & u32_form & no_more) dropped_fields dropped_of
