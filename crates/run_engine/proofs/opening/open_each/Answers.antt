use Rattle.bundle_work.specs.Openings.{file_names}
use Rattle.command_ends.specs.declared.status.Status.TheVariants as status
use Rattle.run_engine.proofs.Opens.{each_first_refused, each_other_refused, each_told, first_told, if_err, if_err_both, later_told, on_ok, one_onward, only_kit}
use Rattle.run_engine.proofs.opening.open_each.Goals as goal

pub returns-in-Ok-clause-refused : goal.returns-in-Ok-clause-refused
returns-in-Ok-clause-refused g c =
    if_err c.open_others.result
    (each_other_refused g.S.Store.faults g.S.Store.files g.S.Store.opened c.args.graph.now c.args.attempts c.args.failed c.args.kits.now c.in-Some.others.now c.open_others.new.kits c.in-Some.first.now
    c.open_kit.new.kit c.in-Some.ensures.cases.0 c.as_slice.result.now c.open_kit.ensures.kept c.in-Ok.ensures.opened c.as_slice.ensures)
    c.open_others.ensures.refused

pub returns-in-Err-clause-refused : goal.returns-in-Err-clause-refused
returns-in-Err-clause-refused g c =
    each_first_refused g.S.Store.faults g.S.Store.files g.S.Store.opened c.args.graph.now c.args.attempts c.args.failed c.args.kits.now c.in-Some.others.now c.in-Some.others.now c.in-Some.first.now
    c.open_kit.new.kit c.in-Some.ensures.cases.0 c.in-Err.refusal c.in-Err.ensures.counted c.in-Err.ensures.refused

pub returns-in-Err-clause-kept : goal.returns-in-Err-clause-kept
returns-in-Err-clause-kept g c =
    one_onward g.S.Store.faults g.S.Store.files g.S.Store.opened c.args.kits.now c.in-Some.others.now c.in-Some.first.now c.open_kit.new.kit c.in-Some.ensures.cases.0
    (c.open_kit.ensures.shelf, c.open_kit.ensures.kept)

pub returns-in-Ok-clause-fewer : goal.returns-in-Ok-clause-fewer
returns-in-Ok-clause-fewer g c =
    on_ok c.open_others.result
    (each_told g.S.Store c.args.attempts c.requires.attempts c.args.kits.now c.in-Some.others.now c.open_others.new.kits c.in-Some.first.now c.open_kit.new.kit c.in-Some.ensures.cases.0
    c.args.failed status.Ok c.in-Ok.ensures.fewer) c.open_others.ensures.fewer

pub returns-in-Ok-clause-tries : goal.returns-in-Ok-clause-tries
returns-in-Ok-clause-tries g c =
    if_err_both c.open_others.result
    (λ end refused told. later_told g.S.Store c.args.attempts c.requires.attempts c.args.kits.now c.in-Some.others.now c.open_others.new.kits c.in-Some.first.now c.open_kit.new.kit
    c.in-Some.ensures.cases.0 c.args.failed (file_names c.args.graph.now) c.as_slice.result.now end c.in-Ok.ensures.fewer refused told)
    c.open_others.ensures.refused c.open_others.ensures.tries

pub returns-in-Err-clause-tries : goal.returns-in-Err-clause-tries
returns-in-Err-clause-tries g c =
    first_told g.S.Store c.args.attempts c.requires.attempts c.args.kits.now c.in-Some.others.now c.in-Some.first.now c.open_kit.new.kit c.in-Some.ensures.cases.0 c.args.failed c.in-Err.refusal
    c.in-Err.ensures.tries (only_kit _ _ (file_names c.args.graph.now) 0 c.in-Err.refusal c.in-Err.ensures.refused)
