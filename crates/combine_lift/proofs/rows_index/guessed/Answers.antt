use Rattle.std.proofs.Common.{◌≡◌, Some, length, refl}
use Rattle.std.specs.List.{slice_get}
use Rattle.std.proofs.lemmas.Option.{slice_get_read}
use Rattle.combine_lift.specs.Views.{view_value}
use Rattle.combine_lift.proofs.RowPlaces.{seen_at}
use Rattle.combine_lift.proofs.rows_index.guessed.Goals as goal

pub returns-then-is_row_of : goal.returns-then-is_row_of
returns-then-is_row_of g c =
    let rows = c.args.rows.now in
    let place = c.in_ok-place.place in
    let row = c.in_ok-row.row.now in
    let read = c.in_ok-row.ensures.lookup.3 in
    let there : slice_get rows place ≡ Some row = slice_get_read rows (length rows) place row refl read.0 (read.1 row) in
    let same = c.is_row_of.ensures.0 c.if-is_row_of.true in
    seen_at (view_value c.args.key) c.args.span rows place row there same.0 same.1
