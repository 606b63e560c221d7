use Rattle.std.proofs.Common.{◌≡◌, ◌++◌, drop, IfSome}
use Rattle.std.specs.List.{flat_map}
use Rattle.beam_values.specs.Texts.{element_line}
use Rattle.beam_text.specs.Parts.{elements_in, line_front}
use Rattle.beam_text.proofs.writes.push_sorted.Given as goal

-- what is written and what is left are the whole text, and the front is that of the element before
abbrev pub invariant-loop-element : goal.invariant-loop-element
invariant-loop-element l = record {
  whole : l.out ++ flat_map element_line (elements_in (drop l.element-index l.elements)) ≡ l.fn.out ++ flat_map element_line (elements_in l.elements);
  front : IfSome l.before (λ before. l.front ≡ line_front before.now);
}
