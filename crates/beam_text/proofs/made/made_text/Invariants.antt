use Rattle.std.proofs.Common.{◌≡◌, ◌++◌, ◌∷◌, []}
use Rattle.beam_values.specs.Lines.{spread}
use Rattle.beam_model.specs.Positions.{made_line}
use Rattle.beam_text.proofs.made.made_text.Given as goal

abbrev pub invariant-loop-i : goal.invariant-loop-i
invariant-loop-i l = l.out ≡ spread (λ i. made_line l.number i ++ 10 ∷ []) 0 l.i
