use Rattle.std.proofs.Common.{◌≡◌, [], vec_len, arith, sym, ◌∙◌}
use Rattle.std.proofs.lemmas.Bool.Decides.{Decides-eqb}
use Rattle.std.proofs.lemmas.List.{nil_from_length}
use Rattle.combine_lift.proofs.Absorbing.{joined_to_none, nothing_before, parts_of_none}
use Rattle.combine_lift.proofs.partials.Partials.absorb.Goals as goal

pub returns-then-is_empty-clause-ok : goal.returns-then-is_empty-clause-ok
returns-then-is_empty-clause-ok g c =
    let rows = c.self.inside.rows in
    let empty : vec_len rows ≡ 0 = (Decides-eqb (vec_len rows) 0).0 (sym c.is_empty.ensures ∙ c.if-is_empty.true) in
    let none : rows.items ≡ [] = nil_from_length rows.items (omega (arith, rows.ok.0)) in
    joined_to_none g.C.Combiner.stands c.args.self.now c.args.other c.other.inside.rows.items c.other.inside.parts c.other.view_is
    (nothing_before g.C.Combiner.held c.args.self.now rows.items c.self.inside.parts c.self.view_is c.self.invariant.total none)

pub returns-then-is_empty-clause-parts : goal.returns-then-is_empty-clause-parts
returns-then-is_empty-clause-parts g c =
    let rows = c.self.inside.rows in
    let empty : vec_len rows ≡ 0 = (Decides-eqb (vec_len rows) 0).0 (sym c.is_empty.ensures ∙ c.if-is_empty.true) in
    let none : rows.items ≡ [] = nil_from_length rows.items (omega (arith, rows.ok.0)) in
    parts_of_none c.args.self.now c.args.other c.other.inside.rows.items c.other.inside.parts c.other.view_is
    (nothing_before g.C.Combiner.held c.args.self.now rows.items c.self.inside.parts c.self.view_is c.self.invariant.total none)
