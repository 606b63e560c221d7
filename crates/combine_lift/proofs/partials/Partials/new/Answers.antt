use Rattle.combine_lift.proofs.Absorbing.{none_stand}
use Rattle.combine_lift.proofs.Keeping.{kept_new}
use Rattle.combine_lift.proofs.partials.Partials.new.Goals as goal

pub invariant_of-result : goal.invariant_of-result
invariant_of-result g c = kept_new g.C.Combiner.stands g.C.Combiner.held c.new-2.result c.new.result.items c.new.ensures.items c.new-2.ensures

pub returns-clause-stands : goal.returns-clause-stands
returns-clause-stands g c = none_stand g.C.Combiner.stands c.new.result.items c.new.ensures.items
