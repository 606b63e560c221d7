use Rattle.std.proofs.Common.{◌≡◌, ◌+◌, ◌<◌, ◌^◌, ◌⊎◌, [], map, length, true}
use Rattle.beam_model.specs.Texts.{words}
use Rattle.beam_model.specs.Values.{blob}
use Rattle.combine_views.specs.Lines.{HasTakenUpTo}
use Rattle.combine_views.specs.Words.{element_of_word}
use Rattle.combine_views.proofs.word_parts.add_words.Given as goal

-- a part is taken, or none came yet
abbrev pub invariant-loop-word : goal.invariant-loop-word
invariant-loop-word g l = record {
  taken : HasTakenUpTo g.C.Combiner.stands (map (element_of_word l.each) (words l.text)) (map (element_of_word l.each) (words l.rest)) l.fn.partials l.partials;
  few : l.partials.parts + length l.rest < 2 ^ 63;
  same : (l.partials ≡ l.fn.partials) ⊎ (g.C.Combiner.takes (blob []) ≡ true);
}

abbrev pub decreases-loop-word : goal.decreases-loop-word
decreases-loop-word g l = length l.rest
