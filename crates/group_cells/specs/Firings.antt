-- Which entry a pane holds.
use Rattle.std.specs.Prelude.{Bool, true, not}
use Rattle.beam_values.specs.declared.cell.Entry.{Entry}
use Rattle.beam_values.specs.declared.plan.Mode.{Mode}
use Rattle.beam_values.specs.declared.plan.Mode.TheVariants.{Discarding, Accumulating}

-- a pane of this mode holds the entry
abbrev pub is_held : Mode → Entry → Bool
is_held Discarding entry = not entry.shown
is_held Accumulating entry = true
