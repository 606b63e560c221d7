use Rattle.std.proofs.Common.{List, sym, subst}
use Rattle.beam_values.specs.declared.piece.Piece.{Piece}
use Rattle.split_core.specs.Partition.{IsPartition}
use Rattle.split_core.proofs.pieces.Pieces.add_residual.Goals as goal

pub returns-clause-cover : goal.returns-clause-cover
returns-clause-cover c = λ items out rest cut held.
    c.give_back.ensures.cover items out rest cut (subst (λ (l : List Piece). IsPartition items l out) (sym c.keep_more.ensures.pending) held)
