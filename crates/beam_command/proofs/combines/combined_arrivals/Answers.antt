use Rattle.std.proofs.Common.{Ok, Err, refl, sym, subst}
use Rattle.command_ends.specs.declared.status.Status.{Status}
use Rattle.run_engine.proofs.Opens.{same_become}
use Rattle.run_engine.specs.Kits.{observed_kits}
use Rattle.beam_command.specs.CombineEnds.{IsUncombined}
use Rattle.beam_command.specs.Kits.{KeepsShelf}
use Rattle.beam_command.proofs.CombineStops.{opened_alike, result_opened}
use Rattle.beam_command.proofs.Kept.{all_same, idle_opened, kept_opened, kept_run}
use Rattle.beam_command.proofs.Tried.{all_same_tried}
use Rattle.beam_command.proofs.combines.combined_arrivals.Goals as goal

pub returns-in_err-shape_refusal-clause-kept : goal.returns-in_err-shape_refusal-clause-kept
returns-in_err-shape_refusal-clause-kept g c = all_same g.F.Shelf g.S.Store c.args.kits.now

pub returns-then-is_some-clause-idle : goal.returns-then-is_some-clause-idle
returns-then-is_some-clause-idle g c = λ none. same_become KeepsShelf (λ kit. refl) c.args.kits.now

pub returns-then-is_some-clause-kept : goal.returns-then-is_some-clause-kept
returns-then-is_some-clause-kept g c = all_same g.F.Shelf g.S.Store c.args.kits.now

pub returns-in-Err-clause-idle : goal.returns-in-Err-clause-idle
returns-in-Err-clause-idle g c = λ none. idle_opened g.S.Store c.args.kits.now c.open_sources.new.kits c.open_sources.ensures.kept

pub returns-in-Err-clause-kept : goal.returns-in-Err-clause-kept
returns-in-Err-clause-kept g c = kept_opened g.F.Shelf g.S.Store c.args.kits.now c.open_sources.new.kits c.open_sources.ensures.kept

pub combine_plan-requires-clause-opened : goal.combine_plan-requires-clause-opened
combine_plan-requires-clause-opened g c κs within = opened_alike g.F.Shelf g.S.Store c.args.graph.now c.open_sources.new.kits c.in_default.ensures.opened

pub returns-in-Ok-clause-arrivals : goal.returns-in-Ok-clause-arrivals
returns-in-Ok-clause-arrivals g c =
    result_opened g.F.Shelf g.S.Store c.args.kits.now c.open_sources.new.kits c.combine_plan.new.kits c.args.graph.now c.args.options.now.attempts c.args.failed (Ok c.in-Ok.arrivals) c.requires.some
    c.open_sources.ensures.kept c.in_default.ensures.opened c.in-Ok.ensures.ended

pub returns-in-Ok-clause-kept : goal.returns-in-Ok-clause-kept
returns-in-Ok-clause-kept g c =
    kept_run g.F.Shelf g.S.Store c.args.kits.now c.open_sources.new.kits c.combine_plan.new.kits c.open_sources.ensures.kept c.combine_plan.ensures.kept

pub returns-in-Err-combine_plan-clause-stopped : goal.returns-in-Err-combine_plan-clause-stopped
returns-in-Err-combine_plan-clause-stopped g c =
    subst (λ (s : Status). IsUncombined (observed_kits g.F.Shelf g.S.Store c.args.kits.now c.combine_plan.new.kits) c.args.graph.now c.args.options.now.attempts c.args.failed s) (sym c.status_of.ensures)
    (result_opened g.F.Shelf g.S.Store c.args.kits.now c.open_sources.new.kits c.combine_plan.new.kits c.args.graph.now c.args.options.now.attempts c.args.failed (Err c.in-Err-combine_plan.refusal)
    c.requires.some c.open_sources.ensures.kept c.in_default.ensures.opened c.in-Err-combine_plan.ensures.ended)

pub returns-in-Err-combine_plan-clause-kept : goal.returns-in-Err-combine_plan-clause-kept
returns-in-Err-combine_plan-clause-kept g c =
    kept_run g.F.Shelf g.S.Store c.args.kits.now c.open_sources.new.kits c.combine_plan.new.kits c.open_sources.ensures.kept c.combine_plan.ensures.kept

pub returns-then-is_some-clause-tries : goal.returns-then-is_some-clause-tries
returns-then-is_some-clause-tries g c = λ few none. all_same_tried g.S.Store c.args.options.now.attempts c.args.failed few c.args.kits.now _ (λ at is. cc)
