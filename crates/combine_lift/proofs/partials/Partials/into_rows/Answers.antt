use Rattle.combine_lift.proofs.FoldedRows.{extracted_from}
use Rattle.combine_lift.proofs.partials.Partials.into_rows.Goals as goal

pub returns : goal.returns
returns g c =
    extracted_from g.C.Combiner.stands g.C.Combiner.work c.args.self c.self.inside.rows.items c.self.inside.parts c.extract_all.result c.self.view_is c.extract_all.ensures
