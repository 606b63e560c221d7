use Rattle.std.proofs.Common.{take}
use Rattle.std.specs.List.{flat_map}
use Rattle.bundle_work.specs.Openings.{AreOpened, names_in}
use Rattle.command_ends.specs.Retrying.{IsPatient, KeepsTrying}
use Rattle.run_engine.specs.Openings.{AgreeInLength}
use Rattle.run_engine.proofs.opening.open_nodes.Given as goal

abbrev pub invariant-loop-node : goal.invariant-loop-node
invariant-loop-node g l = record {
  opened : AreOpened (g.S.Store.files l.store.store.now) (g.S.Store.opened l.store.store.now) (flat_map (λ node. names_in node.kind) (take l.node-index l.nodes)) l.files;
  lengths : AgreeInLength l.first l.files;
  patient : IsPatient l.store;
  tried : KeepsTrying g.S.Store l.initial.store l.store;
}
