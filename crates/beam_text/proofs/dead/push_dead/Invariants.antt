use Rattle.std.proofs.Common.{◌≡◌, ◌++◌, drop}
use Rattle.std.specs.List.{flat_map}
use Rattle.beam_model.specs.Rendering.{dead_line}
use Rattle.beam_text.proofs.dead.push_dead.Given as goal

-- what is written and what is left are the whole text
abbrev pub invariant-loop-position : goal.invariant-loop-position
invariant-loop-position l = l.out ++ flat_map dead_line (drop l.position-index l.dead) ≡ l.fn.out ++ flat_map dead_line l.dead
