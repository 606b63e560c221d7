-- The lines of a file, and what the program holds of what a position emits.
use Rattle.std.specs.Prelude.{◌≤◌, ℕ, List, [], ◌∷◌, length, map, if◌then◌else◌}
use Rattle.beam_values.specs.Lines.{starts_line, line_at, spread}
use Rattle.beam_values.specs.declared.plan.Args.{Args}
use Rattle.beam_values.specs.declared.plan.SourceKind.{SourceKind}
use Rattle.beam_values.specs.declared.plan.SourceKind.TheVariants.{Lines, TimedLines, Count, Made}
use Rattle.beam_model.specs.Functions.{first_arg, second_arg}
use Rattle.beam_model.specs.Positions as model
use Rattle.plain_model.specs.declared.positions.Emitted.{Emitted}
use Rattle.plain_model.specs.declared.positions.Emitted.TheVariants.{Emits, Poison}
use Rattle.plain_model.specs.declared.positions.TimedValue.{TimedValue}

-- the line that starts at an offset, if one does
abbrev pub line_from : List ℕ → ℕ → List (List ℕ)
line_from file p = if starts_line file p then line_at file p ∷ [] else []

-- the lines of a file, in order
abbrev pub file_lines : List ℕ → List (List ℕ)
file_lines file = spread (line_from file) 0 (length file)

abbrev pub shown_value : TimedValue → model.TimedValue
shown_value v = record { value = v.value; time = v.time }

-- what a program's answer says of a position
abbrev pub shown : Emitted → model.Emission
shown (Emits values declared) = model.Emits (map shown_value values) declared
shown Poison = model.Poison

-- the arguments are in the limits of their source
abbrev pub IsWithinLimits : SourceKind → Args → Type 0
IsWithinLimits Lines args = Unit {0}
IsWithinLimits TimedLines args = Unit {0}
IsWithinLimits Count args = (first_arg args ≤ 1000000000) × (second_arg args ≤ 1000000)
IsWithinLimits Made args = (first_arg args ≤ 1000000) × (second_arg args ≤ 1000000)
