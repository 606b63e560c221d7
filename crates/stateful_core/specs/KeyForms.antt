-- The forms of what key cells hold.
use Rattle.std.specs.Prelude.{ℕ, ℤ, List}
use Rattle.beam_values.specs.declared.element.Element.{Element}
use Rattle.beam_values.specs.declared.log.LogEntry.{LogEntry}
use Rattle.beam_values.specs.declared.log.Timer.{Timer}
use Rattle.beam_values.specs.declared.state_cell.StateCell.{StateCell}
use Rattle.beam_values.specs.declared.value.Value.{Value}
use Rattle.beam_values.specs.Intervals.{Interval}
use Rattle.value_forms.specs.Elements.{element_form}
use Rattle.value_forms.specs.Forms.{Form, value_form, list_form}
use Rattle.value_forms.specs.Logs.{timer_form, log_form, state_form}
use Rattle.value_forms.specs.Numbers.{u32_form, mark_form}
use Rattle.value_forms.specs.Structs.{no_more, ◌&◌, struct_form}
use Rattle.value_forms.specs.Windows.{span_form}
use Rattle.stateful_core.specs.declared.data.KeyData.{KeyData}
use Rattle.stateful_core.specs.declared.data.SetTimer.{SetTimer}
use Rattle.stateful_core.specs.declared.waiting.Waiting.{Waiting}

abbrev pub waiting_fields : Waiting → Element × (ℤ × Unit {0})
waiting_fields w = (w.element, (w.hold, tt))

abbrev pub waiting_of : Element × (ℤ × Unit {0}) → Waiting
waiting_of x = record { element = x.0; hold = x.1.0 }

abbrev pub waiting_form : Form Waiting
waiting_form = struct_form (element_form & mark_form & no_more) waiting_fields waiting_of

abbrev pub set_timer_fields : SetTimer → Timer × (ℤ × Unit {0})
set_timer_fields s = (s.timer, (s.hold, tt))

abbrev pub set_timer_of : Timer × (ℤ × Unit {0}) → SetTimer
set_timer_of x = record { timer = x.0; hold = x.1.0 }

-- The timer 0 that is due at 5 and holds its node back at 9 is `Seq[Seq[Int(0), Int(5)], Int(9)]`.
abbrev pub set_timer_form : Form SetTimer
set_timer_form = struct_form (timer_form & mark_form & no_more) set_timer_fields set_timer_of

abbrev pub KeyParts : Type 0
KeyParts = ℕ × (Value × (Interval × (List StateCell × (List SetTimer × (List Waiting × (ℕ × (List LogEntry × Unit {0})))))))

abbrev pub key_fields : KeyData → KeyParts
key_fields k = (k.node, (k.key, (k.span, (k.state, (k.timers, (k.waiting, (k.attempts, (k.log, tt))))))))

abbrev pub key_of : KeyParts → KeyData
key_of x = record {
  node = x.0;
  key = x.1.0;
  span = x.1.1.0;
  state = x.1.1.1.0;
  timers = x.1.1.1.1.0;
  waiting = x.1.1.1.1.1.0;
  attempts = x.1.1.1.1.1.1.0;
  log = x.1.1.1.1.1.1.1.0;
}

-- Of the node 2, the key Null and the window `[0, 10)`, with no state cell, no timer, nothing that waits, no failure and no call:
-- `Seq[Int(2), Null, Seq[Int(0), Int(10)], Seq[], Seq[], Seq[], Int(0), Seq[]]`.
abbrev pub key_form : Form KeyData
key_form =
    struct_form
    (u32_form & value_form & span_form & list_form state_form & list_form set_timer_form & list_form waiting_form & u32_form & list_form log_form & no_more)
    key_fields key_of
