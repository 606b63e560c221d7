use Rattle.std.proofs.Common.{◌-◌, ◌∷◌, ◌++◌, ℤ, replicate, subst, arith}
use Rattle.beam_model.specs.Holds.{piece_hold}
use Rattle.book_core.specs.Indexes.{AreHeldIn}
use Rattle.book_core.proofs.Broken.{broken_some}
use Rattle.book_core.proofs.PartHolds.{held_once_more}
use Rattle.book_core.proofs.breaking.break_range.Goals as goal

pub returns-clause-held : goal.returns-clause-held
returns-clause-held c holds h =
    held_once_more c.hold_again.new.self c.args.plan.now c.args.piece c.args.attempted c.args.note (c.put_parts-parts.result - 1) holds
    (omega (arith, c.put_parts-parts.ensures.count, broken_some c.args.piece c.args.attempted c.args.note))
    (subst (λ (m : ℤ). AreHeldIn c.hold_again.new.self (replicate (c.put_parts-parts.result - 1) (record { node = c.args.piece.node; mark = m }) ++ (piece_hold c.args.plan.now c.args.piece ∷ holds)))
    c.mark_of_piece.ensures (c.hold_again.ensures.held (piece_hold c.args.plan.now c.args.piece ∷ holds) h))
