use Rattle.std.proofs.Common.{take}
use Rattle.std.specs.Prelude.{◌==◌}
use Rattle.std.specs.List.{filter}
use Rattle.book_core.specs.DueAt.{IsBatchAt}
use Rattle.book_core.specs.Jobs.{lowest_of}
use Rattle.book_core.proofs.due.lowest_at.Given as goal

abbrev pub invariant-loop-at : goal.invariant-loop-at
invariant-loop-at l = IsBatchAt l.returned l.lowest (lowest_of (filter (λ batch. batch.node == l.node) (take l.at l.returned)))
