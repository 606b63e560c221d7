-- The orders of the ranges and positions of an outcome.
use Rattle.std.specs.declared.cmp.Ordering.{Ordering}
use Rattle.std.specs.Ordering.{on, then_cmp, nat_cmp}
use Rattle.beam_values.specs.declared.piece.Dead.{Dead}
use Rattle.beam_values.specs.declared.piece.Done.{Done}
use Rattle.beam_values.specs.declared.piece.FileLen.{FileLen}

-- done ranges by their node, their item and the ends of the range
abbrev pub done_cmp : Done → Done → Ordering
done_cmp =
    then_cmp (on (λ d. d.node) nat_cmp)
    (then_cmp (on (λ d. d.item) nat_cmp)
    (then_cmp (on (λ d. d.range.from) nat_cmp) (on (λ d. d.range.to) nat_cmp)))

-- dead positions by their node, their item and the position
abbrev pub dead_cmp : Dead → Dead → Ordering
dead_cmp = then_cmp (on (λ d. d.node) nat_cmp) (then_cmp (on (λ d. d.item) nat_cmp) (on (λ d. d.at) nat_cmp))

-- items by their node and their number
abbrev pub item_cmp : FileLen → FileLen → Ordering
item_cmp = then_cmp (on (λ file. file.node) nat_cmp) (on (λ file. file.item) nat_cmp)
