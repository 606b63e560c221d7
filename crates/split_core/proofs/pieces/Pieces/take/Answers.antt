use Rattle.std.proofs.Common.{ap}
use Rattle.split_core.specs.SeenPieces.{SeenPieces}
use Rattle.split_core.proofs.Partition.{popped_cover}
use Rattle.split_core.proofs.pieces.Pieces.take.Goals as goal

pub returns-clause-cover : goal.returns-clause-cover
returns-clause-cover c =
    popped_cover c.self.inside.items.items c.pop.new.self.items c.args.self.now.pending c.pop.result (ap (λ (h : SeenPieces). h.pending) c.self.view_is)
    c.pop.ensures.item
