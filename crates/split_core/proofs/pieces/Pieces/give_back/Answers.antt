use Rattle.std.proofs.Common.{List, reverse, sym, ap, ◌∙◌, subst, arith}
use Rattle.beam_values.specs.declared.piece.Piece.{Piece}
use Rattle.split_core.specs.SeenPieces.{SeenPieces}
use Rattle.split_core.specs.Order.{with_piece, IsAscending}
use Rattle.split_core.specs.Partition.{IsPartition}
use Rattle.split_core.proofs.Ordered.{ascending_with_piece}
use Rattle.split_core.proofs.Partition.{held_put}
use Rattle.split_core.proofs.pieces.Pieces.give_back.Goals as goal

pub invariant_of-self : goal.invariant_of-self
invariant_of-self c =
    let room = ap (λ (h : SeenPieces). h.room) c.self.view_is in
    record {
      ascending = subst (λ (l : List Piece). IsAscending l) (sym c.put_in_order.ensures.order)
          (ascending_with_piece c.args.piece (reverse c.self.inside.items.items) c.self.invariant.ascending);
      within = omega (arith, c.requires);
      kept = omega arith;
    }

pub returns-clause-cover : goal.returns-clause-cover
returns-clause-cover c = λ items out rest cut held.
    subst (λ (l : List Piece). IsPartition items l rest)
    (sym (c.put_in_order.ensures.order ∙ ap (λ (h : SeenPieces). with_piece c.args.piece h.pending) c.self.view_is))
    (held_put items c.args.piece c.args.self.now.pending out rest cut held)
