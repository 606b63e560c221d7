use Rattle.std.proofs.Common.{◌<◌, ◌/◌, ◌%◌, length, ◌∷◌, [], ◌++◌, List, sym, ap, ◌∙◌, subst, take, arith}
use Rattle.std.proofs.lemmas.List.{take_more}
use Rattle.beam_values.specs.declared.piece.Piece.{Piece}
use Rattle.combine_plan.specs.Dealing.{AreDealt}
use Rattle.combine_plan.proofs.Dealt.{dealt_more}
use Rattle.combine_plan.proofs.pieces.deal.Goals as goal

pub loop-at-preserved : goal.loop-at-preserved
loop-at-preserved c =
    let i = c.loop-at.invariant in
    let pieces = c.args.pieces.now in
    let piece = c.index-pieces-at.result in
    let more = take_more pieces c.loop-at.at piece c.loop-at-test.true in
    let next = ap (λ (p : Piece). take c.loop-at.at pieces ++ p ∷ []) (sym c.index-pieces-at.is) in
    let within : c.loop-at.at / c.clamp-run.result % c.args.count < length c.loop-at.hands.items = omega (arith, i.count, c.requires) in
    record {
      count = c.give.ensures.count ∙ i.count;
      dealt = subst (λ (l : List Piece). AreDealt l c.give.new.hands.items) (sym (more ∙ next)) (dealt_more _ piece (take c.loop-at.at pieces) _ _ within c.in_ok-give.ensures.given i.dealt);
    }
