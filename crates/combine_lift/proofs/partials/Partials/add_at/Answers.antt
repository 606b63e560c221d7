use Rattle.combine_lift.specs.Views.{view_value}
use Rattle.combine_lift.proofs.Keeping.{few_more, kept_added_if, kept_same_unless, seen_added, seen_same}
use Rattle.combine_lift.proofs.partials.Partials.add_at.Goals as goal

pub add_to-requires-clause-few : goal.add_to-requires-clause-few
add_to-requires-clause-few g c =
    few_more g.C.Combiner.held c.args.self.now c.self.inside.rows.items c.self.inside.parts 9223372036854775808 c.self.view_is c.self.invariant.total c.requires.few

pub invariant_of-self : goal.invariant_of-self
invariant_of-self g c =
    kept_same_unless g.C.Combiner.stands g.C.Combiner.held c.self.inside.index c.self.inside.rows.items c.add_to.new.rows.items c.self.inside.indexed c.self.inside.parts
    c.add_to.result c.if-not-add_to.true c.add_to.ensures.kept c.self.invariant

pub invariant_of-self-2 : goal.invariant_of-self-2
invariant_of-self-2 g c =
    kept_added_if g.C.Combiner.stands g.C.Combiner.held c.self.inside.index (view_value c.args.part) c.args.place c.self.inside.rows.items c.add_to.new.rows.items c.self.inside.indexed
    c.self.inside.parts c.add_to.result c.if-not-add_to.false c.add_to.ensures.added c.self.invariant

pub returns-then-not-add_to-clause-kept : goal.returns-then-not-add_to-clause-kept
returns-then-not-add_to-clause-kept g c =
    seen_same c.args.self.now c.self.inside.rows.items c.add_to.new.rows.items c.self.inside.parts c.add_to.result c.if-not-add_to.true c.self.view_is c.add_to.ensures.kept

pub returns-clause-added : goal.returns-clause-added
returns-clause-added g c =
    seen_added g.C.Combiner.stands g.C.Combiner.held c.args.self.now (view_value c.args.part) c.args.place c.self.inside.rows.items c.add_to.new.rows.items c.self.inside.parts
    c.add_to.result c.if-not-add_to.false c.self.view_is c.add_to.ensures.added
