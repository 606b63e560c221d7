use Rattle.std.proofs.Common.{List, ◌∷◌, ◌++◌, [], length, map}
use Rattle.beam_values.specs.declared.piece.FileLen.{FileLen}
use Rattle.split_core.specs.Partition.{IsPartition, range_of}
use Rattle.combine_plan.proofs.pieces.cut_item.Given as goal

abbrev pub invariant-loop-piece : goal.invariant-loop-piece
invariant-loop-piece l =
    (items : List FileLen) → IsPartition items [] (map range_of l.fn.pieces.items) → IsPartition (items ++ l.fn.item ∷ []) l.pending.pending (map range_of l.pieces.items)

abbrev pub decreases-loop-piece : goal.decreases-loop-piece
decreases-loop-piece l = length l.pending.pending
