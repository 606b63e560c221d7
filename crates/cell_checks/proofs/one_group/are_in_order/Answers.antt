use Rattle.std.proofs.Common.{◌≡◌, ◌-◌, false, arith, ap, ap₂, sym, ◌∙◌}
use Rattle.std.proofs.lemmas.List.{length-map}
use Rattle.std.proofs.lemmas.List.Sorted.{all_adjacent_more}
use Rattle.std.specs.Borrow.{Bor}
use Rattle.beam_values.specs.Spans.{same_span}
use Rattle.beam_values.specs.declared.cell.Cell.{Cell}
use Rattle.group_cells.proofs.WindowTests.{span_sound}
use Rattle.cell_checks.specs.Listing.{cells_in}
use Rattle.cell_checks.proofs.InOrder.{in_order, not_once}
use Rattle.cell_checks.proofs.Takers.{place_read}
use Rattle.cell_checks.proofs.one_group.are_in_order.Goals as goal

pub loop-i-preserved : goal.loop-i-preserved
loop-i-preserved c =
    let listed = c.args.cells.now in
    let cells = cells_in listed in
    all_adjacent_more cells (λ (a b : Cell). same_span a.span b.span ≡ false) c.loop-i.i (omega arith) c.loop-i.invariant
    (λ d.
    ap₂ (λ (a b : Cell). same_span a.span b.span) (place_read listed (c.loop-i.i - 1) c.index-cells-i.result d (omega arith) c.index-cells-i.is) (place_read listed c.loop-i.i c.index-cells-i-in-loop-i.result d (omega arith) c.index-cells-i-in-loop-i.is)
    ∙ sym c.has_window_of.ensures ∙ c.if-has_window_of.false)

pub returns-then-has_window_of-clause-once : goal.returns-then-has_window_of-clause-once
returns-then-has_window_of-clause-once c = λ once.
    let listed = c.args.cells.now in
    let before : Cell = c.index-cells-i.result.now in
    let cell : Cell = c.index-cells-i-in-loop-i.result.now in
    let same = span_sound before.span cell.span (sym c.has_window_of.ensures ∙ c.if-has_window_of.true) in
    absurd (not_once (cells_in listed) (c.loop-i.i - 1) c.loop-i.i cell (omega arith) (omega (arith, length-map listed (λ (place : Bor Cell). place.now)))
    (ap (λ (x : Cell). x.span) (place_read listed (c.loop-i.i - 1) c.index-cells-i.result cell (omega arith) c.index-cells-i.is) ∙ same
    ∙ sym (ap (λ (x : Cell). x.span) (place_read listed c.loop-i.i c.index-cells-i-in-loop-i.result cell (omega arith) c.index-cells-i-in-loop-i.is))) once)

pub returns-clause-order : goal.returns-clause-order
returns-clause-order c = λ yes.
    let listed = c.args.cells.now in
    in_order (cells_in listed) c.requires
    (λ k d within. c.loop-i.invariant k d (omega (arith, length-map listed (λ (place : Bor Cell). place.now))))
