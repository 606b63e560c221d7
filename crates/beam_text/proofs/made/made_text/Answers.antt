use Rattle.std.proofs.Common.{◌++◌, ◌∷◌, [], List, ℕ, ap, sym, ◌∙◌, arith}
use Rattle.beam_values.proofs.Spreads.{spread-empty}
use Rattle.beam_model.specs.Positions.{made_line}
use Rattle.beam_text.proofs.MadeLines.{spread_more}
use Rattle.beam_text.proofs.made.made_text.Goals as goal

pub loop-i-init : goal.loop-i-init
loop-i-init c = c.reserve.ensures ∙ c.new-out.ensures ∙ sym (spread-empty (λ i. made_line c.args.number i ++ 10 ∷ []) 0 0 (omega arith))

pub loop-i-preserved : goal.loop-i-preserved
loop-i-preserved c =
    let line : ℕ → List ℕ = λ i. made_line c.args.number i ++ 10 ∷ [] in
    c.in_ok-push_made_line.ensures ∙ ap (λ (text : List ℕ). text ++ line c.loop-i.i) c.loop-i.invariant ∙ sym (spread_more line c.loop-i.i)
