use Rattle.combine_lift.proofs.Absorbing.{settled}
use Rattle.combine_lift.proofs.partials.Partials.settle.Goals as goal

pub returns-clause-stands : goal.returns-clause-stands
returns-clause-stands g c =
    settled g.C.Combiner.stands c.args.self.now c.self.inside.rows.items c.settle.new.rows.items c.self.inside.parts c.self.view_is c.settle.ensures.same
