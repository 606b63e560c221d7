use Rattle.combine_lift.specs.Views.{view_value}
use Rattle.combine_lift.proofs.Keeping.{adds_if, held_at, same_unless}
use Rattle.combine_lift.proofs.partials.add_to.Goals as goal

pub add-requires : goal.add-requires
add-requires g c = held_at g.C.Combiner.held c.args.rows.now.items c.args.place 9223372036854775808 c.index_mut-row.result.now c.requires.within c.index_mut-row.ensures.value c.requires.few

pub returns-clause-added : goal.returns-clause-added
returns-clause-added g c =
    adds_if g.C.Combiner.stands g.C.Combiner.held (view_value c.args.part) c.args.rows.now.items c.args.place c.index_mut-row.result.now c.add.new.acc c.add.result
    c.requires.within c.index_mut-row.ensures.value c.add.ensures.added c.add.ensures.count

pub returns-clause-kept : goal.returns-clause-kept
returns-clause-kept g c =
    same_unless c.args.rows.now.items c.args.place c.index_mut-row.result.now c.add.new.acc c.add.result c.requires.within c.index_mut-row.ensures.value c.add.ensures.kept
