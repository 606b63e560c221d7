-- What a cell is seen as: a bag is one list, however it lies in memory.
use Rattle.beam_values.specs.declared.state_cell.StateCell.{StateCell}
use Rattle.beam_values.specs.declared.state_cell.StateCell.TheVariants as seen
use Rattle.keyed_state.specs.declared.cell.Form.{Form}
use Rattle.keyed_state.specs.declared.cell.Form.TheVariants.{Unset, Number, Text, Few, Many}

abbrev pub seen_as : Form → StateCell
seen_as Unset = seen.Unset
seen_as (Number n) = seen.Number n
seen_as (Text bytes) = seen.Text bytes
seen_as (Few values) = seen.Bag values
seen_as (Many bag) = seen.Bag bag.value
