-- What a drill prints: the summary of plain grouping of its made lines, whatever kits, options and faults there were.
use Rattle.std.specs.Prelude.{◌≡◌, ℕ, List, [], ◌++◌, codes, decimal, length, map}
use Rattle.std.specs.Fmt.{signed_decimal}
use Rattle.std.specs.List.{flat_map}
use Rattle.beam_values.specs.declared.element.Element.{Element}
use Rattle.beam_values.specs.declared.value.Value.{Value}
use Rattle.beam_model.specs.Functions.{sum_of}
use Rattle.beam_model.specs.Plain.{IsPlainAt}
use Rattle.beam_model.specs.Positions.{items}
use Rattle.beam_model.specs.Rendering.{items_written, number_or_zero, summary_line}
use Rattle.beam_command.specs.DrillPlans.{drill_plan}

abbrev pub drilled_items : List Element → List Value
drilled_items elements = flat_map items_written elements

-- how many lines there were, how many panes came of them, and how many values these hold, with their sum
abbrev pub drill_summary : ℕ → List Element → List ℕ
drill_summary count elements =
    summary_line (codes "lines") (decimal count)
    ++ (summary_line (codes "panes") (decimal (length elements))
    ++ (summary_line (codes "values") (decimal (length (drilled_items elements)))
    ++ summary_line (codes "sum") (signed_decimal (sum_of (map number_or_zero (drilled_items elements))))))

-- The text of a drill is of its two numbers alone: these elements are what plain grouping of all made lines brings to the Write.
pub record IsDrillText (count number : ℕ) (text : List ℕ) : Type 0 where
  pub elements : List Element
  pub plain : IsPlainAt (drill_plan count number) (items [] (drill_plan count number)) 5 elements
  pub is : text ≡ drill_summary count elements
