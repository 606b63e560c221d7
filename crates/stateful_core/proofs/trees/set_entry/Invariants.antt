use Rattle.std.proofs.Common.{◌≡◌}
use Rattle.std.specs.Prelude.{vec_len}
use Rattle.stateful_core.specs.Trees.{IsRenewed}
use Rattle.stateful_core.proofs.trees.set_entry.Given as goal

abbrev pub invariant-loop-k : goal.invariant-loop-k
invariant-loop-k l = record {
  renewed : IsRenewed l.initial.trees.items l.trees.items l.node l.at l.entry l.k;
  len : vec_len l.trees ≡ vec_len l.initial.trees;
}
