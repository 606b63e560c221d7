-- The line that the command writes to its notes where it did not end Ok.
use Rattle.std.specs.Prelude.{ℕ, List, [], ◌∷◌, ◌++◌, codes}
use Rattle.beam_ports.specs.Observed.{ObservedSink}
use Rattle.command_ends.specs.Notes.{IsNoted, IsNotedUpTo}
use Rattle.command_ends.specs.declared.status.Status.{Status}
use Rattle.command_ends.specs.declared.status.Status.TheVariants as status

abbrev pub usage_line : List ℕ
usage_line = codes "usage: beam_draw PLAN" ++ 10 ∷ []

-- What the notes took: the usage where the words are no command, and else what `beam_run` tells of the same end.
abbrev pub IsDrawNoted : Status → ObservedSink → Type 0
IsDrawNoted status.Usage notes = (n : ℕ) × IsNotedUpTo usage_line notes n
IsDrawNoted s notes = IsNoted s notes
