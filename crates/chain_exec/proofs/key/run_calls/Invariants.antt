use Rattle.std.proofs.Common.{◌≡◌, ◌≤◌, ◌++◌, true, None, map, drop}
use Rattle.std.specs.Option.{option_map}
use Rattle.beam_model.specs.Chains.{Arrives}
use Rattle.beam_model.specs.Spread.{first_poison}
use Rattle.stateful_core.specs.Facts.{folded}
use Rattle.stateful_core.specs.KeyWork.{calls_outputs}
use Rattle.chain_exec.specs.KeyCalls.{behind, kept_of}
use Rattle.chain_exec.specs.Unused.{IsUnused}
use Rattle.chain_exec.proofs.key.run_calls.Given as goal

abbrev pub invariant-loop-input : goal.invariant-loop-input
invariant-loop-input g l = record {
  unused : IsUnused l.buffers;
  staged : map Arrives l.staging.arrivals
      ++ calls_outputs l.at.graph.now l.at.node l.at.work l.at.args.now l.at.key.now l.at.span (drop l.input-index l.inputs) (kept_of l.logged)
      ≡ map Arrives l.initial.staging.arrivals
      ++ calls_outputs l.at.graph.now l.at.node l.at.work l.at.args.now l.at.key.now l.at.span l.inputs (kept_of l.initial.logged);
  logged : option_map (behind l.initial.logged.entries)
      (folded l.at.work l.at.args.now l.at.key.now l.at.span 0 (kept_of l.initial.logged) l.inputs)
      ≡ option_map (behind l.logged.entries)
      (folded l.at.work l.at.args.now l.at.key.now l.at.span 0 (kept_of l.logged) (drop l.input-index l.inputs));
  only : l.staging ≡ record l.initial.staging { arrivals = l.staging.arrivals };
  counts : g.F.Shelf.faults l.initial.shelf ≤ g.F.Shelf.faults l.shelf;
  strict : g.F.Shelf.strict l.shelf ≡ g.F.Shelf.strict l.initial.shelf;
  unharmed : g.F.Shelf.strict l.initial.shelf ≡ true
      → first_poison (calls_outputs l.at.graph.now l.at.node l.at.work l.at.args.now l.at.key.now l.at.span l.inputs (kept_of l.initial.logged)) ≡ None
      → g.F.Shelf.faults l.shelf ≡ g.F.Shelf.faults l.initial.shelf;
}
