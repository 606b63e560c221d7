use Rattle.std.proofs.Common.{take}
use Rattle.std.specs.List.{All}
use Rattle.beam_values.specs.declared.piece.Dead.{Dead}
use Rattle.split_core.specs.Partition.{IsListed}
use Rattle.piece_checks.proofs.listed.are_dead_listed.Given as goal

abbrev pub invariant-loop-d : goal.invariant-loop-d
invariant-loop-d l = All (λ (d : Dead). IsListed l.files d.node d.item) (take l.d-index l.dead)
