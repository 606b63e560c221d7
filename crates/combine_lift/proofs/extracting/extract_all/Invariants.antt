use Rattle.std.proofs.Common.{◌++◌, List, reverse, vec_len}
use Rattle.std.specs.List.{AllZip}
use Rattle.combine_lift.specs.Folds.{IsExtracted}
use Rattle.combine_lift.specs.declared.combined.Combined.{Combined}
use Rattle.combine_lift.proofs.extracting.extract_all.Given as goal

abbrev pub invariant-loop-row : goal.invariant-loop-row
invariant-loop-row g l =
    (more : List Combined) → AllZip (IsExtracted g.C.Combiner.stands g.C.Combiner.work) (reverse l.rows.items) more
    → AllZip (IsExtracted g.C.Combiner.stands g.C.Combiner.work) (reverse l.initial.rows.items) (l.combined.items ++ more)

abbrev pub decreases-loop-row : goal.decreases-loop-row
decreases-loop-row g l = vec_len l.rows
