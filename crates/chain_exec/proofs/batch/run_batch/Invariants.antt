use Rattle.std.proofs.Common.{◌≡◌, ◌≤◌, ◌++◌, true, None, map, take}
use Rattle.beam_model.specs.Chains.{Arrives}
use Rattle.beam_model.specs.Flow.{batch_outputs}
use Rattle.beam_model.specs.Spread.{first_poison}
use Rattle.chain_exec.specs.Unused.{IsUnused}
use Rattle.chain_exec.proofs.batch.run_batch.Given as goal

abbrev pub invariant-loop-pane : goal.invariant-loop-pane
invariant-loop-pane g l = record {
  unused : IsUnused l.buffers;
  staged : map Arrives l.staging.arrivals ≡ map Arrives l.initial.staging.arrivals ++ batch_outputs l.graph l.node (take l.pane-index l.panes);
  only : l.staging ≡ record l.initial.staging { arrivals = l.staging.arrivals };
  counts : g.F.Shelf.faults l.initial.shelf ≤ g.F.Shelf.faults l.shelf;
  strict : g.F.Shelf.strict l.shelf ≡ g.F.Shelf.strict l.initial.shelf;
  unharmed : g.F.Shelf.strict l.initial.shelf ≡ true → first_poison (batch_outputs l.graph l.node l.panes) ≡ None
      → g.F.Shelf.faults l.shelf ≡ g.F.Shelf.faults l.initial.shelf;
}
