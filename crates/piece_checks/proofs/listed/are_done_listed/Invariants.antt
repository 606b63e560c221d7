use Rattle.std.proofs.Common.{take}
use Rattle.std.specs.List.{All}
use Rattle.beam_values.specs.declared.piece.Done.{Done}
use Rattle.split_core.specs.Partition.{IsListed}
use Rattle.piece_checks.proofs.listed.are_done_listed.Given as goal

abbrev pub invariant-loop-d : goal.invariant-loop-d
invariant-loop-d l = All (λ (d : Done). IsListed l.files d.node d.item) (take l.d-index l.done)
