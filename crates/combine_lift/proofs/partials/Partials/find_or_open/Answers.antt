use Rattle.std.proofs.Common.{◌++◌, ◌∷◌, [], ℕ, Option, IsNone, IsSome, ap, refl, subst, sym, ◌∙◌}
use Rattle.cell_index.specs.Indexes.{IsIndexOf}
use Rattle.cell_index.specs.declared.index_key.CellKey.{CellKey}
use Rattle.combine_lift.specs.Indexed.{cells_of}
use Rattle.combine_lift.specs.Tables.{held_in, row_place}
use Rattle.combine_lift.specs.Views.{view_value}
use Rattle.combine_lift.proofs.Keeping.{kept_opened, kept_same}
use Rattle.combine_lift.proofs.Opening.{always_on_err, opened_is, seen_opened, seen_rows}
use Rattle.combine_lift.proofs.partials.Partials.find_or_open.Goals as goal

pub invariant_of-self : goal.invariant_of-self
invariant_of-self g c =
    kept_same g.C.Combiner.stands g.C.Combiner.held c.self.inside.index c.self.inside.rows.items c.reserve.new.self.items c.self.inside.indexed c.self.inside.parts
    c.reserve.ensures.items c.self.invariant

pub returns-in_err-reserve-clause-err : goal.returns-in_err-reserve-clause-err
returns-in_err-reserve-clause-err g c =
    always_on_err c.from_residual-in_err-reserve.result _ (seen_rows c.args.self.now c.self.inside.rows.items c.reserve.new.self.items c.self.inside.parts c.reserve.ensures.items c.self.view_is)

pub find_or_note-requires-clause-node : goal.find_or_note-requires-clause-node
find_or_note-requires-clause-node g c = ap (λ (k : CellKey). k.node) c.in_ok-own.ensures

pub find_or_note-requires-clause-indexed : goal.find_or_note-requires-clause-indexed
find_or_note-requires-clause-indexed g c = λ on.
    subst (λ l. IsIndexOf c.self.inside.index (cells_of l)) (sym (c.as_slice.ensures.value ∙ c.reserve.ensures.items)) (c.self.invariant.places on)

pub invariant_of-self-in_err-found : goal.invariant_of-self-in_err-found
invariant_of-self-in_err-found g c = record {
  places = λ on. subst (λ l. IsIndexOf c.find_or_note.new.index (cells_of l)) c.as_slice.ensures.value (c.in_err-found.ensures.err on);
  total = c.self.invariant.total ∙ ap (held_in g.C.Combiner.held) (sym c.reserve.ensures.items);
}

pub returns-in_err-found-clause-err : goal.returns-in_err-found-clause-err
returns-in_err-found-clause-err g c =
    always_on_err c.from_residual-in_err-found.result _ (seen_rows c.args.self.now c.self.inside.rows.items c.reserve.new.self.items c.self.inside.parts c.reserve.ensures.items c.self.view_is)

pub invariant_of-self-in-Some-1 : goal.invariant_of-self-in-Some-1
invariant_of-self-in-Some-1 g c = record {
  places = λ on.
      subst (λ l. IsIndexOf c.find_or_note.new.index (cells_of l)) c.as_slice.ensures.value
      (c.in_ok-found.ensures.kept (subst (λ (o : Option ℕ). IsSome o) (sym c.in-Some.is) refl));
  total = c.self.invariant.total ∙ ap (held_in g.C.Combiner.held) (sym c.reserve.ensures.items);
}

pub returns-in-Some-clause-found : goal.returns-in-Some-clause-found
returns-in-Some-clause-found g c =
    sym c.in-Some.is ∙ c.in_ok-found.ensures.found ∙ ap (λ (k : CellKey). row_place k.key k.span c.as_slice.result.now) c.in_ok-own.ensures
    ∙ ap (row_place (view_value c.args.key) c.args.span) (c.as_slice.ensures.value ∙ c.reserve.ensures.items ∙ ap (λ t. t.rows) c.self.view_is)

pub returns-in-Some-clause-same : goal.returns-in-Some-clause-same
returns-in-Some-clause-same g c = λ some.
    seen_rows c.args.self.now c.self.inside.rows.items c.reserve.new.self.items c.self.inside.parts c.reserve.ensures.items c.self.view_is

pub returns-in-None-clause-found : goal.returns-in-None-clause-found
returns-in-None-clause-found g c =
    sym c.in-None.is ∙ c.in_ok-found.ensures.found ∙ ap (λ (k : CellKey). row_place k.key k.span c.as_slice.result.now) c.in_ok-own.ensures
    ∙ ap (row_place (view_value c.args.key) c.args.span) (c.as_slice.ensures.value ∙ c.reserve.ensures.items ∙ ap (λ t. t.rows) c.self.view_is)

pub invariant_of-self-in-None : goal.invariant_of-self-in-None
invariant_of-self-in-None g c =
    let none : IsNone c.in_ok-found.found = subst (λ (o : Option ℕ). IsNone o) (sym c.in-None.is) refl in
    kept_opened g.C.Combiner.stands g.C.Combiner.held c.find_or_note.new.index c.reserve.new.self.items c.push_reserved.new.self.items
    (record { span = c.into_cell-span.result.span; key = c.into_cell-span.result.key; acc = c.args.acc }) c.find_or_note.new.indexed c.self.inside.parts c.push_reserved.ensures.items c.requires.one
    (subst (λ l. IsIndexOf c.find_or_note.new.index (cells_of (l ++ record { span = c.into_cell-span.result.span; key = c.into_cell-span.result.key; acc = c.args.acc } ∷ []))) c.as_slice.ensures.value
    (c.in_ok-found.ensures.noted none (record { span = c.into_cell-span.result.span; key = c.into_cell-span.result.key; acc = c.args.acc })
    (ap (λ (k : CellKey). k.key) c.into_cell-span.ensures) (ap (λ (k : CellKey). k.span) c.into_cell-span.ensures)))
    (c.self.invariant.total ∙ ap (held_in g.C.Combiner.held) (sym c.reserve.ensures.items))

pub returns-in-None-clause-opened : goal.returns-in-None-clause-opened
returns-in-None-clause-opened g c = λ none.
    seen_opened c.args.self.now c.self.inside.rows.items c.reserve.new.self.items c.push_reserved.new.self.items
    (record { span = c.into_cell-span.result.span; key = c.into_cell-span.result.key; acc = c.args.acc }) (record { span = c.args.span; key = (view_value c.args.key); acc = c.args.acc })
    c.self.inside.parts c.reserve.ensures.items c.self.view_is c.push_reserved.ensures.items
    (opened_is c.args.acc c.args.span (view_value c.args.key) c.into_cell-span.result (c.into_cell-span.ensures ∙ c.in_ok-own.ensures))
