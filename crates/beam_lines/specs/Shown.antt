-- What contracts see of a line that was read: its texts, and not where they lie.
use Rattle.std.specs.Prelude.{ℕ, List, Option, None, if◌then◌else◌}
use Rattle.std.specs.List.{after_first, before_first}
use Rattle.beam_values.specs.Functions as model
use Rattle.beam_lines.specs.declared.timed.TimedLine.{TimedLine}
use Rattle.beam_lines.specs.declared.timed.TimedLine.TheVariants.{Timed, Declared, Poison}

abbrev pub shown : TimedLine → model.TimedLine
shown (Timed time text) = model.Timed time text.now
shown (Declared time) = model.Declared time
shown Poison = model.Poison

-- the number that the digits before the first TAB write
abbrev pub stamp_of : List ℕ → Option ℕ
stamp_of text = if model.has_tab text then model.magnitude (before_first model.is_tab text) else None

-- what a line is that doesn't begin with `!`
abbrev pub stamped : List ℕ → model.TimedLine
stamped line =
    if model.has_tab line then model.timed_as (model.time_of (before_first model.is_tab line)) (after_first model.is_tab line) else model.Poison
