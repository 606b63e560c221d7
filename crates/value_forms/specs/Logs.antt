-- The forms of what stateful functions keep and were called on.
use Rattle.std.specs.Prelude.{ℕ, ℤ, ◌⊎◌, List}
use Rattle.std.proofs.Common.{inl, inr}
use Rattle.beam_values.specs.declared.element.Element.{Element}
use Rattle.beam_values.specs.declared.log.LogEntry.{LogEntry}
use Rattle.beam_values.specs.declared.log.LogInput.{LogInput}
use Rattle.beam_values.specs.declared.log.LogInput.TheVariants.{Arrived, Fired}
use Rattle.beam_values.specs.declared.log.Timer.{Timer}
use Rattle.beam_values.specs.declared.state_cell.StateCell.{StateCell}
use Rattle.beam_values.specs.declared.state_cell.StateCell.TheVariants.{Unset, Number, Text, Bag}
use Rattle.beam_values.specs.declared.value.Value.{Value}
use Rattle.value_forms.specs.Elements.{element_form}
use Rattle.value_forms.specs.Enums.{last_case, ◌or◌, enum_form}
use Rattle.value_forms.specs.Forms.{Form, value_form, bytes_form, list_form}
use Rattle.value_forms.specs.Numbers.{u8_form, u32_form, signed_form, time_form}
use Rattle.value_forms.specs.Structs.{no_more, ◌&◌, struct_form}

abbrev pub timer_fields : Timer → ℕ × (ℤ × Unit {0})
timer_fields t = (t.name, (t.time, tt))

abbrev pub timer_of : ℕ × (ℤ × Unit {0}) → Timer
timer_of x = record { name = x.0; time = x.1.0 }

abbrev pub timer_form : Form Timer
timer_form = struct_form (u8_form & time_form & no_more) timer_fields timer_of

abbrev pub input_parts : LogInput → (Element × Unit {0}) ⊎ (Timer × Unit {0})
input_parts (Arrived element) = inl (element, tt)
input_parts (Fired timer) = inr (timer, tt)

abbrev pub input_of : (Element × Unit {0}) ⊎ (Timer × Unit {0}) → LogInput
input_of (inl x) = Arrived x.0
input_of (inr x) = Fired x.0

-- The timer 0 that fired at 5 is `Pair(Int(1), Seq[Seq[Int(0), Int(5)]])`.
abbrev pub input_form : Form LogInput
input_form = enum_form ((element_form & no_more) or last_case (timer_form & no_more)) input_parts input_of

abbrev pub log_fields : LogEntry → LogInput × (ℕ × (List Element × Unit {0}))
log_fields e = (e.input, (e.commit, (e.outputs, tt)))

abbrev pub log_of : LogInput × (ℕ × (List Element × Unit {0})) → LogEntry
log_of x = record { input = x.0; commit = x.1.0; outputs = x.1.1.0 }

abbrev pub log_form : Form LogEntry
log_form = struct_form (input_form & u32_form & list_form element_form & no_more) log_fields log_of

-- the fields of each form of state cell
abbrev pub StateParts : Type 0
StateParts = Unit {0} ⊎ ((ℤ × Unit {0}) ⊎ ((List ℕ × Unit {0}) ⊎ (List Value × Unit {0})))

abbrev pub state_parts : StateCell → StateParts
state_parts Unset = inl tt
state_parts (Number n) = inr (inl (n, tt))
state_parts (Text bytes) = inr (inr (inl (bytes, tt)))
state_parts (Bag values) = inr (inr (inr (values, tt)))

abbrev pub state_of : StateParts → StateCell
state_of (inl x) = Unset
state_of (inr (inl x)) = Number x.0
state_of (inr (inr (inl x))) = Text x.0
state_of (inr (inr (inr x))) = Bag x.0

-- The number 7 is `Pair(Int(1), Seq[Int(7)])`.
abbrev pub state_form : Form StateCell
state_form = enum_form (no_more or (signed_form & no_more) or (bytes_form & no_more) or last_case (list_form value_form & no_more)) state_parts state_of
