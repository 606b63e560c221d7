use Rattle.std.proofs.Common.{List, ◌∷◌, [], ◌++◌, reverse, sym, ap, ◌∙◌, subst, arith}
use Rattle.beam_values.specs.declared.piece.Piece.{Piece}
use Rattle.split_core.specs.SeenPieces.{SeenPieces}
use Rattle.split_core.specs.Order.{with_pieces, first_pieces, IsAscending}
use Rattle.split_core.specs.Partition.{IsPartition}
use Rattle.split_core.proofs.Ordered.{ascending_with_pieces}
use Rattle.split_core.proofs.Partition.{held_initial}
use Rattle.split_core.proofs.pieces.Pieces.initial.Goals as goal

pub invariant_of-self : goal.invariant_of-self
invariant_of-self c =
    let room = ap (λ (h : SeenPieces). h.room) c.self.view_is in
    let room_2 = ap (λ (h : SeenPieces). h.room) c.self-2.view_is in
    record {
      ascending = subst (λ (l : List Piece). IsAscending l) (sym c.put_first_pieces.ensures.order)
          (ascending_with_pieces (first_pieces c.args.node c.args.item c.args.len c.args.chunk) (reverse c.self-2.inside.items.items) c.self-2.invariant.ascending);
      within = omega (arith, c.in_ok-keep_more.ensures.ok, c.div_ceil-count.ensures);
      kept = omega arith;
    }

pub returns-clause-cover : goal.returns-clause-cover
returns-clause-cover c = λ items out held.
    subst (λ (l : List Piece). IsPartition (items ++ record { node = c.args.node; item = c.args.item; len = c.args.len } ∷ []) l out)
    (sym (c.put_first_pieces.ensures.order
    ∙ ap (λ (h : SeenPieces). with_pieces (first_pieces c.args.node c.args.item c.args.len c.args.chunk) h.pending) c.self-2.view_is
    ∙ ap (with_pieces (first_pieces c.args.node c.args.item c.args.len c.args.chunk)) c.keep_more.ensures.pending))
    (held_initial items c.args.node c.args.item c.args.len c.args.chunk c.args.self.now.pending out c.requires held)
