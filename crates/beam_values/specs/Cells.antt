-- The order of windows, of the cells of Groups, of their panes, and of the elements that are grouped.
use Rattle.std.specs.declared.cmp.Ordering.{Ordering}
use Rattle.std.specs.Ordering.{on, then_cmp, ordering_then, nat_cmp, int_cmp}
use Rattle.beam_values.specs.Intervals.{Interval}
use Rattle.beam_values.specs.Orders.{value_cmp}
use Rattle.beam_values.specs.Grouping.{key_of, part_of}
use Rattle.beam_values.specs.declared.cell.Cell.{Cell}
use Rattle.beam_values.specs.declared.cell.Pane.{Pane}
use Rattle.beam_values.specs.declared.element.Element.{Element}

-- windows by their starts, and then by their ends
abbrev pub span_cmp : Interval → Interval → Ordering
span_cmp = then_cmp (on (λ span. span.start) int_cmp) (on (λ span. span.end) int_cmp)

-- the cells of an outcome by node, then by the bytes that spell the key, and then by window
abbrev pub cell_cmp : Cell → Cell → Ordering
cell_cmp = then_cmp (on (λ cell. cell.node) nat_cmp) (then_cmp (on (λ cell. cell.key) value_cmp) (on (λ cell. cell.span) span_cmp))

-- the panes of an outcome by commit, and within a commit as their cells
abbrev pub pane_cmp : Pane → Pane → Ordering
pane_cmp =
    then_cmp (on (λ pane. pane.commit) nat_cmp)
    (then_cmp (on (λ pane. pane.node) nat_cmp)
    (then_cmp (on (λ pane. key_of pane.element) value_cmp) (on (λ pane. pane.element.span) span_cmp)))

-- elements by window and then by key: those of one cell are alike
abbrev pub window_key_cmp : Element → Element → Ordering
window_key_cmp a b = ordering_then (span_cmp a.span b.span) (value_cmp (key_of a) (key_of b))

-- and within a cell by what they bring to it
abbrev pub grouped_cmp : Element → Element → Ordering
grouped_cmp a b = ordering_then (window_key_cmp a b) (value_cmp (part_of a) (part_of b))
