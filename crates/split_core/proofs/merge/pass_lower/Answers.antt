use Rattle.std.proofs.Common.{◌≡◌, ◌++◌, [], ◌∷◌, true, length, reverse, sym, ap, ◌∙◌, length-append, arith}
use Rattle.std.proofs.lemmas.List.Elements.{All-same, All-push}
use Rattle.split_core.specs.Front.{first_is_lower}
use Rattle.split_core.specs.Order.{is_lower, with_piece}
use Rattle.split_core.proofs.Ordered.{lower_chain, pass_step, passed_is_lower}
use Rattle.split_core.proofs.merge.pass_lower.Goals as goal

pub loop-items-preserved-in-Some : goal.loop-items-preserved-in-Some
loop-items-preserved-in-Some c =
    let piece = c.args.piece in
    let last = c.in-Some.last in
    let items = c.loop-items.items.items in
    let rest = c.pop.new.self.items in
    let lower = c.loop-items.lower.items in
    let popped : items ≡ rest ++ last ∷ [] = c.in-Some.ensures.item in
    let pushed : c.put_last.new.items.items ≡ lower ++ last ∷ [] = c.put_last.ensures.items in
    let fewer = ap length popped ∙ length-append rest (last ∷ []) in
    let more = ap length pushed ∙ length-append lower (last ∷ []) in
    let test : first_is_lower piece (reverse items) ≡ true =
    ap (λ t. first_is_lower piece (reverse t)) (sym c.as_slice.ensures) ∙ sym c.last_is_lower.ensures ∙ c.loop-items-test.true in
    record {
      order = ap (λ t. t ++ with_piece piece (reverse rest)) pushed ∙ pass_step piece last lower items rest popped test ∙ c.loop-items.invariant.order;
      below = λ next above all.
          All-same (λ q. is_lower q next ≡ true) c.put_last.new.items.items (lower ++ last ∷ []) pushed
          (All-push (λ q. is_lower q next ≡ true) lower last (c.loop-items.invariant.below next above all)
          (lower_chain last piece next (passed_is_lower piece last items rest popped test) above));
      more = omega (arith, fewer, more);
      room = omega (arith, fewer, more, c.in-Some.ensures.kept);
      aside = omega (arith, fewer, more);
      kept = omega (arith, fewer, more, c.in-Some.ensures.kept);
    }

pub returns-clause-below : goal.returns-clause-below
returns-clause-below c = λ next above all.
    All-same (λ q. is_lower q next ≡ true) c.put_last-2.new.items.items (c.loop-items.lower.items ++ c.args.piece ∷ []) c.put_last-2.ensures.items
    (All-push (λ q. is_lower q next ≡ true) c.loop-items.lower.items c.args.piece (c.loop-items.invariant.below next above all) above)
