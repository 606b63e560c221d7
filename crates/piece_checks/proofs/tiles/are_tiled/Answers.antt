use Rattle.std.proofs.Common.{◌≡◌, List, filter, sym, ap, ◌∙◌}
use Rattle.beam_values.specs.declared.piece.FileLen.{FileLen}
use Rattle.piece_checks.specs.Tiles.{fills, has_offsets}
use Rattle.piece_checks.proofs.Tiling.{filled_where_tiled, tiled_where_filled}
use Rattle.piece_checks.proofs.tiles.are_tiled.Goals as goal

pub returns : goal.returns
returns c =
    let files = c.args.files.now in
    let parts = c.in_ok-parts.parts.items in
    let is : c.fill.result ≡ fills (filter has_offsets files) 0 parts =
    c.fill.ensures
    ∙ ap (λ (items : List FileLen). fills items 0 c.as_slice-2.result.now) (c.as_slice.ensures.value ∙ c.in_ok-items.ensures)
    ∙ ap (fills (filter has_offsets files) 0) c.as_slice-2.ensures.value in (
      λ yes.
          tiled_where_filled files c.args.pending.now c.args.done.now c.args.dead.now parts c.requires c.in_ok-parts.ensures.all c.in_ok-parts.ensures.sorted (sym is ∙ yes),
      λ tiled.
          is ∙ filled_where_tiled files c.args.pending.now c.args.done.now c.args.dead.now parts c.requires c.in_ok-parts.ensures.all c.in_ok-parts.ensures.sorted tiled,
    )
