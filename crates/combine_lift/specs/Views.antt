-- What is seen of a value stands for it.
use Rattle.beam_values.specs.declared.value.Value.{Value}
use Rattle.beam_model.specs.Values.{null, int, blob}
use Rattle.combine_lift.specs.declared.view.View.{View}
use Rattle.combine_lift.specs.declared.view.View.TheVariants.{Null, Int, Text, Whole}

abbrev pub view_value : View → Value
view_value Null = null
view_value (Int number) = int number
view_value (Text text) = blob text.now
view_value (Whole value) = value.now
