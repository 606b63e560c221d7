use Rattle.std.proofs.Common.{◌∙◌, ap}
use Rattle.beam_model.specs.Functions.{found_in}
use Rattle.dofn_library.proofs.Runs.{run_ended}
use Rattle.dofn_library.proofs.views.found_first.Goals as goal

pub returns-in_default : goal.returns-in_default
returns-in_default c =
    run_ended c.args.key.now c.args.views.now c.loop-view.found c.loop-view.view-index c.view-item.result c.requires c.loop-view.invariant
    (c.in_default.ensures ∙ ap (found_in c.args.key.now) c.view-item.is)
