use Rattle.std.proofs.Common.{◌≡◌}
use Rattle.std.specs.Prelude.{vec_len}
use Rattle.stateful_core.proofs.TreeSteps.{IsGrown}
use Rattle.stateful_core.proofs.trees.grow_each.Given as goal

abbrev pub invariant-loop-k : goal.invariant-loop-k
invariant-loop-k l = record {
  grown : IsGrown l.initial.trees.items l.trees.items l.node l.at l.k;
  len : vec_len l.trees ≡ vec_len l.initial.trees;
}
