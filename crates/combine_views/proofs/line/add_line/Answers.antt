use Rattle.beam_model.specs.Spread.{emission_outputs}
use Rattle.combine_views.specs.Lines.{emission_of_line}
use Rattle.combine_views.specs.Told.{elements_told}
use Rattle.combine_views.proofs.Adding.{added_if, added_some_if}
use Rattle.combine_views.proofs.line.add_line.Goals as goal

pub returns-in-Some-clause-added : goal.returns-in-Some-clause-added
returns-in-Some-clause-added g c =
    added_if g.C.Combiner.stands (emission_outputs c.args.graph.now c.args.source (emission_of_line c.args.work c.args.line.now)) (elements_told c.in-Some.told) c.args.partials.now
    c.add_told.new.partials c.in-Some.ensures c.add_told.result c.add_told.ensures.added

pub returns-in-Some-clause-err : goal.returns-in-Some-clause-err
returns-in-Some-clause-err g c =
    added_some_if g.C.Combiner.stands (emission_outputs c.args.graph.now c.args.source (emission_of_line c.args.work c.args.line.now)) (elements_told c.in-Some.told) c.args.partials.now
    c.add_told.new.partials c.in-Some.ensures c.add_told.result c.add_told.ensures.err
