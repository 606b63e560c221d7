-- The element that is seen where its line lies.
use Rattle.std.specs.Prelude.{Option, Some, None}
use Rattle.beam_values.specs.declared.element.Element.{Element}
use Rattle.beam_values.specs.declared.element.Timing.TheVariants.{Unknown}
use Rattle.beam_values.specs.declared.value.Value.{Value}
use Rattle.beam_model.specs.Values.{pair}
use Rattle.combine_lift.specs.Views.{view_value}
use Rattle.combine_lift.specs.declared.view.View.{View}
use Rattle.combine_views.specs.declared.seen.Seen.{Seen}

abbrev pub value_seen : Option View → View → Value
value_seen None part = view_value part
value_seen (Some key) part = pair (view_value key) (view_value part)

-- with the tag UNKNOWN, as every element of a source has it up to a Group
abbrev pub element_seen : Seen → Element
element_seen seen = record { value = value_seen seen.key seen.part; time = seen.time; span = seen.span; pane = record { timing = Unknown; index = 0 } }
