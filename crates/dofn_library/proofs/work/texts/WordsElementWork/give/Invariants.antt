use Rattle.std.proofs.Common.{◌≡◌, ◌++◌, length, map}
use Rattle.beam_model.specs.Texts.{words}
use Rattle.beam_model.specs.Values.{blob}
use Rattle.beam_model.specs.Functions.{valued}
use Rattle.dofn_library.proofs.work.texts.WordsElementWork.give.Given as goal

-- the words of the rest are still to come
abbrev pub invariant-loop-word : goal.invariant-loop-word
invariant-loop-word l =
    l.out ++ map (λ word. valued l.e (blob word)) (words l.rest) ≡ l.initial.out ++ map (λ word. valued l.e (blob word)) (words l.initial.rest)

abbrev pub decreases-loop-word : goal.decreases-loop-word
decreases-loop-word l = length l.rest
