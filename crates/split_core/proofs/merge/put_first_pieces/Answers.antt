use Rattle.std.proofs.Common.{◌≡◌, ◌+◌, ◌++◌, true, length, reverse, sym, ap, ◌∙◌, arith}
use Rattle.std.proofs.lemmas.List.Elements.{All-weaker}
use Rattle.split_core.specs.Order.{is_lower, with_piece, first_piece}
use Rattle.split_core.proofs.Ordered.{lower_chain}
use Rattle.split_core.proofs.Chunks.{some-none, next_is_higher, step}
use Rattle.split_core.proofs.merge.put_first_pieces.Goals as goal

pub loop-i-init : goal.loop-i-init
loop-i-init c =
    let none = ap length c.requires.empty in
    record {
      order = ap (λ t. t ++ reverse c.args.items.now.items) c.requires.empty
          ∙ sym (some-none c.args.node c.args.item c.args.chunk c.args.len (reverse c.args.items.now.items));
      below = λ k d below. absurd (omega arith);
      more = omega arith;
      aside = omega arith;
      kept = omega arith;
    }

pub loop-i-preserved : goal.loop-i-preserved
loop-i-preserved c =
    let i = c.loop-i.i in
    let here = first_piece c.args.node c.args.item c.args.chunk c.args.len i in
    let next = first_piece c.args.node c.args.item c.args.chunk c.args.len (i + 1) in
    let lower = c.loop-i.lower.items in
    let rest = reverse c.loop-i.items.items in
    let higher : is_lower here next ≡ true = next_is_higher c.args.node c.args.item c.args.chunk c.args.len c.requires.chunk i in
    record {
      order = step c.args.node c.args.item c.args.chunk c.args.len i lower c.pass_lower.new.lower.items rest (reverse c.pass_lower.new.items.items)
          (reverse c.args.items.now.items) c.loop-i.invariant.below c.loop-i.invariant.order
          (c.pass_lower.ensures.order ∙ ap (λ q. lower ++ with_piece q rest) c.first_piece.ensures);
      below = c.pass_lower.ensures.below next (ap (λ q. is_lower q next) c.first_piece.ensures ∙ higher)
          (All-weaker (λ q. is_lower q here ≡ true) (λ q. is_lower q next ≡ true) (λ q h. lower_chain q here next h higher) lower c.loop-i.invariant.below);
      more = omega arith;
      aside = omega arith;
      kept = omega arith;
    }
