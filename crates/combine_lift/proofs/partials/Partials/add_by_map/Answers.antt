use Rattle.std.proofs.Common.{ℕ, Option, IsSome, ap, refl, subst, sym, ◌∙◌}
use Rattle.std.specs.Prelude.{IsNone}
use Rattle.combine_lift.specs.Views.{view_value}
use Rattle.combine_lift.proofs.Adding.{stands_if_added, stands_if_opened}
use Rattle.combine_lift.proofs.Opening.{few_same, kept_same_table, one_more, parts_same, within_same}
use Rattle.combine_lift.proofs.RowPlaces.{found_at}
use Rattle.combine_lift.proofs.partials.Partials.add_by_map.Goals as goal

pub find_or_open-requires-clause-one : goal.find_or_open-requires-clause-one
find_or_open-requires-clause-one g c =
    one_more c.add.result (g.C.Combiner.held c.add.new.acc) (g.C.Combiner.held c.unit-acc.result) c.if-not-add.false c.add.ensures.count c.unit-acc.ensures.count

pub add_at-requires-clause-within : goal.add_at-requires-clause-within
add_at-requires-clause-within g c =
    let some : IsSome c.in_ok-place.field-0 = subst (λ (o : Option ℕ). IsSome o) (sym c.in-Some.is) refl in
    within_same (view_value c.args.key) c.args.span c.args.self.now c.find_or_open.new.self c.in-Some.place (c.in_ok-place.ensures.same some) (sym c.in-Some.is ∙ c.in_ok-place.ensures.found)

pub add_at-requires-clause-few : goal.add_at-requires-clause-few
add_at-requires-clause-few g c =
    let some : IsSome c.in_ok-place.field-0 = subst (λ (o : Option ℕ). IsSome o) (sym c.in-Some.is) refl in
    few_same c.args.self.now c.find_or_open.new.self 9223372036854775808 (c.in_ok-place.ensures.same some) c.requires

pub returns-in-Some-clause-added : goal.returns-in-Some-clause-added
returns-in-Some-clause-added g c =
    let some : IsSome c.in_ok-place.field-0 = subst (λ (o : Option ℕ). IsSome o) (sym c.in-Some.is) refl in
    stands_if_added g.C.Combiner.stands g.C.Combiner.held (view_value c.args.key) c.args.span (view_value c.args.part) c.args.self.now c.find_or_open.new.self c.add_at.new.self c.in-Some.place
    c.add_at.result (c.in_ok-place.ensures.same some) (found_at (view_value c.args.key) c.args.span c.args.self.now.rows c.in-Some.place (sym c.in-Some.is ∙ c.in_ok-place.ensures.found)) c.add_at.ensures.added c.add_at.ensures.parts

pub returns-in-Some-clause-parts : goal.returns-in-Some-clause-parts
returns-in-Some-clause-parts g c =
    let some : IsSome c.in_ok-place.field-0 = subst (λ (o : Option ℕ). IsSome o) (sym c.in-Some.is) refl in
    parts_same c.args.self.now c.find_or_open.new.self c.add_at.new.self c.add_at.result (c.in_ok-place.ensures.same some) c.add_at.ensures.parts

pub returns-in-Some-clause-kept : goal.returns-in-Some-clause-kept
returns-in-Some-clause-kept g c =
    let some : IsSome c.in_ok-place.field-0 = subst (λ (o : Option ℕ). IsSome o) (sym c.in-Some.is) refl in
    kept_same_table c.args.self.now c.find_or_open.new.self c.add_at.new.self c.add_at.result (c.in_ok-place.ensures.same some) c.add_at.ensures.kept

pub returns-in-None-clause-added : goal.returns-in-None-clause-added
returns-in-None-clause-added g c =
    let none : IsNone c.in_ok-place.field-0 = subst (λ (o : Option ℕ). IsNone o) (sym c.in-None.is) refl in
    stands_if_opened g.C.Combiner.stands (view_value c.args.key) c.args.span (view_value c.args.part) c.args.self.now c.find_or_open.new.self c.unit-acc.result c.add.new.acc c.add.result
    (sym c.in_ok-place.ensures.found ∙ c.in-None.is) c.if-not-add.false c.unit-acc.ensures.stands c.add.ensures.added (c.in_ok-place.ensures.opened none)

pub returns-in-None-clause-parts : goal.returns-in-None-clause-parts
returns-in-None-clause-parts g c =
    let none : IsNone c.in_ok-place.field-0 = subst (λ (o : Option ℕ). IsNone o) (sym c.in-None.is) refl in
    ap (λ t. t.parts) (c.in_ok-place.ensures.opened none)
