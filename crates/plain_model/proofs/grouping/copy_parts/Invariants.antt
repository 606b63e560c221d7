use Rattle.std.proofs.Common.{◌≡◌, map, take}
use Rattle.beam_values.specs.Grouping.{part_of}
use Rattle.plain_model.proofs.grouping.copy_parts.Given as goal

-- the parts of the elements passed so far are copied
abbrev pub invariant-loop-element : goal.invariant-loop-element
invariant-loop-element l = l.parts.items ≡ map part_of (take l.element-index l.elements)
