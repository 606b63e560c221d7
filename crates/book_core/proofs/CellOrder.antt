-- The order of the cells of an outcome is total.
use Rattle.std.specs.Cmp.{IsTotalOrder}
use Rattle.std.proofs.lemmas.Cmp.{nat_cmp_total, nat_list_cmp_total, on_total, then_total}
use Rattle.beam_model.specs.Rendering.{log_cmp}
use Rattle.beam_values.specs.Cells.{cell_cmp}
use Rattle.beam_values.specs.declared.log.KeyLog.{KeyLog}
use Rattle.beam_values.specs.Spelling.{spelling}
use Rattle.beam_values.specs.declared.cell.Cell.{Cell}
use Rattle.beam_values.proofs.GroupedCells.{span_total}

pub cell_total : IsTotalOrder cell_cmp
cell_total =
    then_total (on_total (λ (c : Cell). c.node) nat_cmp_total)
    (then_total (on_total (λ (c : Cell). spelling c.key) nat_list_cmp_total) (on_total (λ (c : Cell). c.span) span_total))

-- and so is that of its logs
pub log_total : IsTotalOrder log_cmp
log_total =
    then_total (on_total (λ (l : KeyLog). l.node) nat_cmp_total)
    (then_total (on_total (λ (l : KeyLog). spelling l.key) nat_list_cmp_total) (on_total (λ (l : KeyLog). l.span) span_total))
