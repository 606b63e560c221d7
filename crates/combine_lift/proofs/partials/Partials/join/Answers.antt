use Rattle.std.proofs.Common.{ap, subst, vec_capacity, vec_items}
use Rattle.std.specs.List.Sorted.{IsPermutation}
use Rattle.combine_lift.proofs.Absorbing.{joined_tables}
use Rattle.combine_lift.proofs.Keeping.{few_joined, kept_merged, room_joined}
use Rattle.combine_lift.proofs.partials.Partials.join.Goals as goal

pub merge-requires-clause-few : goal.merge-requires-clause-few
merge-requires-clause-few g c =
    let moved : IsPermutation c.self.inside.rows.items c.settle.new.rows.items =
    subst (λ l. IsPermutation l c.settle.new.rows.items) (ap vec_items c.replace-rows.ensures.value) c.settle.ensures.same in
    few_joined g.C.Combiner.held c.args.self.now c.args.other c.self.inside.rows.items c.other.inside.rows.items c.settle.new.rows.items c.settle-2.new.rows.items
    c.self.inside.parts c.other.inside.parts 9223372036854775808 c.self.view_is c.other.view_is moved c.settle-2.ensures.same c.self.invariant.total c.other.invariant.total c.requires.few

pub merge-requires-clause-room : goal.merge-requires-clause-room
merge-requires-clause-room g c =
    let moved : IsPermutation c.self.inside.rows.items c.settle.new.rows.items =
    subst (λ l. IsPermutation l c.settle.new.rows.items) (ap vec_items c.replace-rows.ensures.value) c.settle.ensures.same in
    room_joined g.C.Combiner.held c.args.self.now c.args.other c.self.inside.rows.items c.other.inside.rows.items c.settle.new.rows.items c.settle-2.new.rows.items
    c.self.inside.parts c.other.inside.parts (vec_capacity c.args.room) c.self.view_is c.other.view_is moved c.settle-2.ensures.same c.requires.room

pub invariant_of-self : goal.invariant_of-self
invariant_of-self g c =
    let moved : IsPermutation c.self.inside.rows.items c.settle.new.rows.items =
    subst (λ l. IsPermutation l c.settle.new.rows.items) (ap vec_items c.replace-rows.ensures.value) c.settle.ensures.same in
    kept_merged g.C.Combiner.stands g.C.Combiner.held c.new.result c.self.inside.rows.items c.other.inside.rows.items c.settle.new.rows.items c.settle-2.new.rows.items
    c.merge.result.items c.self.inside.parts c.other.inside.parts moved c.settle-2.ensures.same c.merge.ensures c.self.invariant.total c.other.invariant.total

pub returns-clause-stands : goal.returns-clause-stands
returns-clause-stands g c =
    let moved : IsPermutation c.self.inside.rows.items c.settle.new.rows.items =
    subst (λ l. IsPermutation l c.settle.new.rows.items) (ap vec_items c.replace-rows.ensures.value) c.settle.ensures.same in
    joined_tables g.C.Combiner.stands g.C.Combiner.held c.args.self.now c.args.other c.self.inside.rows.items c.other.inside.rows.items c.settle.new.rows.items
    c.settle-2.new.rows.items c.merge.result.items c.self.inside.parts c.other.inside.parts c.self.view_is c.other.view_is moved c.settle-2.ensures.same
    c.settle.ensures.falling c.settle-2.ensures.falling c.merge.ensures
