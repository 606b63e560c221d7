use Rattle.std.proofs.Common.{List, subst}
use Rattle.beam_ports.specs.Observed.{ObservedStore}
use Rattle.run_engine.specs.Openings.{IsOpeningRefused}
use Rattle.run_engine.proofs.Opens.{closed_none, closed_onward, closed_told, observed_closed}
use Rattle.run_engine.proofs.opening.open_sources.Goals as goal

pub returns-in-Err-clause-refused : goal.returns-in-Err-clause-refused
returns-in-Err-clause-refused g c =
    subst (λ (stores : List ObservedStore). IsOpeningRefused stores c.args.graph.now c.args.options.now.attempts c.args.failed c.in-Err.refusal)
    (observed_closed g.S.Store.files g.S.Store.faults c.args.kits.now c.open_each.new.kits c.close_files.new.kits c.close_files.ensures) c.in-Err.ensures.refused

pub returns-in-Err-clause-none : goal.returns-in-Err-clause-none
returns-in-Err-clause-none g c = λ _. closed_none c.open_each.new.kits c.close_files.new.kits c.close_files.ensures

pub returns-in-Err-clause-kept : goal.returns-in-Err-clause-kept
returns-in-Err-clause-kept g c =
    closed_onward g.S.Store.faults g.S.Store.files g.S.Store.opened c.args.kits.now c.open_each.new.kits c.close_files.new.kits c.open_each.ensures.kept c.close_files.ensures

pub returns-in-Err-clause-tries : goal.returns-in-Err-clause-tries
returns-in-Err-clause-tries g c =
    closed_told g.S.Store c.args.options.now.attempts c.requires.attempts c.args.kits.now c.open_each.new.kits c.close_files.new.kits c.close_files.ensures c.args.failed c.in-Err.refusal
    c.in-Err.ensures.tries
