use Rattle.std.proofs.Common.{◌≡◌, Some, ap, length, refl, sym, ◌∙◌}
use Rattle.std.specs.List.{slice_get}
use Rattle.std.proofs.lemmas.Option.{slice_get_read}
use Rattle.beam_values.specs.Grouping.{key_of}
use Rattle.cell_index.specs.Places.{is_cell_of, place_of}
use Rattle.cell_index.proofs.Indexing.{found_own}
use Rattle.group_cells.specs.Undoing.{SeenDraft}
use Rattle.group_cells.proofs.groups.draft.Draft.guessed.Goals as goal

pub returns-then-is_cell_of : goal.returns-then-is_cell_of
returns-then-is_cell_of c =
    let cells = c.self.inside.tracked.cells.items in
    let place = c.in_ok-place.place in
    let cell = c.in_ok-cell.cell.now in
    let read = c.in_ok-cell.ensures.lookup.3 in
    let there : slice_get c.deref.result.now place ≡ Some cell = slice_get_read c.deref.result.now (length c.deref.result.now) place cell refl read.0 (read.1 cell) in
    found_own c.args.node (key_of c.args.element.now) c.args.element.now.span cells place cell (c.in_ok-place.ensures cells c.self.invariant.index)
    (ap (λ l. slice_get l place) (sym c.deref.ensures.value) ∙ there)
    (ap (λ k. is_cell_of c.args.node k c.args.element.now.span cell) (sym c.key_or-key.ensures) ∙ sym c.is_cell_of.ensures ∙ c.if-is_cell_of.true)
    ∙ ap (λ (d : SeenDraft). place_of c.args.node (key_of c.args.element.now) c.args.element.now.span d.cells) c.self.view_is
