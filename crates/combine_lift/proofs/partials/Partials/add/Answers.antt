use Rattle.std.proofs.Common.{refl}
use Rattle.combine_lift.specs.Views.{view_value}
use Rattle.combine_lift.proofs.Adding.{stands_if_added}
use Rattle.combine_lift.proofs.Keeping.{there_within}
use Rattle.combine_lift.proofs.partials.Partials.add.Goals as goal

pub add_at-requires-clause-within : goal.add_at-requires-clause-within
add_at-requires-clause-within g c = there_within c.args.self.now.rows c.in-Some.place c.in-Some.ensures.row c.in-Some.ensures.there

pub returns-in-Some-clause-added : goal.returns-in-Some-clause-added
returns-in-Some-clause-added g c =
    stands_if_added g.C.Combiner.stands g.C.Combiner.held (view_value c.args.key) c.args.span (view_value c.args.part) c.args.self.now c.args.self.now c.add_at.new.self c.in-Some.place c.add_at.result
    refl c.in-Some.ensures c.add_at.ensures.added c.add_at.ensures.parts
