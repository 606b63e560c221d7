use Rattle.std.proofs.Common.{◌≡◌, length, ap, rules, subst, sym, ◌∙◌}
use Rattle.cell_index.specs.Indexes.{IsIndexOf}
use Rattle.cell_index.specs.Places.{place_of}
use Rattle.combine_lift.specs.Indexed.{cell_of, cells_of}
use Rattle.combine_lift.proofs.RowPlaces.{cells_push, length_cells, place_is}
use Rattle.combine_lift.proofs.rows_index.find_or_note.Goals as goal

pub returns-clause-found : goal.returns-clause-found
returns-clause-found g c =
    let rows = c.args.rows.now in
    let own = c.args.own.now in
    c.in_ok-found.ensures.found (cells_of rows) c.in_ok-ready.ensures.ok
    ∙ ap (λ n. place_of n own.key own.span (cells_of rows)) c.requires.node ∙ place_is own.key own.span rows

pub returns-clause-kept : goal.returns-clause-kept
returns-clause-kept g c = λ some. c.in_ok-found.ensures.kept some (cells_of c.args.rows.now) c.in_ok-ready.ensures.ok

pub returns-clause-noted : goal.returns-clause-noted
returns-clause-noted g c = λ none row keys spans.
    let rows = c.args.rows.now in
    let next : c.in_ok-next.next ≡ length rows = search rules in
    subst (IsIndexOf c.find_or_add.new.self) (sym (cells_push rows row))
    (c.in_ok-found.ensures.added none (cells_of rows) (cell_of row) c.in_ok-ready.ensures.ok (next ∙ sym (length_cells rows)) (sym c.requires.node) keys spans)
