use Rattle.std.proofs.Common.{◌≡◌, ◌++◌, drop}
use Rattle.std.specs.List.{flat_map}
use Rattle.plan_drawing.specs.Labels.{label_byte}
use Rattle.plan_drawing.proofs.label.push_text.Given as goal

-- what is written and what is left are the whole text
abbrev pub invariant-loop-byte : goal.invariant-loop-byte
invariant-loop-byte l = l.out ++ flat_map label_byte (drop l.byte-index l.text) ≡ l.fn.out ++ flat_map label_byte l.text
