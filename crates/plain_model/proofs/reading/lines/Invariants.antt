use Rattle.std.proofs.Common.{◌≡◌}
use Rattle.beam_values.specs.Lines.{spread}
use Rattle.plain_model.specs.Emissions.{line_from}
use Rattle.plain_model.proofs.reading.lines.Given as goal

-- the lines that start at the positions passed so far
abbrev pub invariant-loop-p : goal.invariant-loop-p
invariant-loop-p l = l.lines ≡ spread (line_from l.file) 0 l.p
