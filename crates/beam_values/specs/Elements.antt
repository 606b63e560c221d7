-- The order of elements: by window, by pane, by time, and then by value.
use Rattle.std.specs.declared.cmp.Ordering.{Ordering}
use Rattle.std.specs.Ordering.{on, then_cmp, nat_cmp, int_cmp}
use Rattle.std.specs.Cmp.Lexicographic.{slice_cmp}
use Rattle.beam_values.specs.declared.element.Element.{Element}
use Rattle.beam_values.specs.Timings.{timing_number}
use Rattle.beam_values.specs.Spelling.{spelling}

-- elements by the pane's index, its timing, and their time
abbrev pub tag_cmp : Element → Element → Ordering
tag_cmp = then_cmp (on (λ e. e.pane.index) nat_cmp) (then_cmp (on (λ e. timing_number e.pane.timing) nat_cmp) (on (λ e. e.time) int_cmp))

-- by the start of their window, its end, and then by these
abbrev pub place_cmp : Element → Element → Ordering
place_cmp = then_cmp (on (λ e. e.span.start) int_cmp) (then_cmp (on (λ e. e.span.end) int_cmp) tag_cmp)

-- the order of elements: by these, and then by the bytes that spell their values
abbrev pub element_cmp : Element → Element → Ordering
element_cmp = then_cmp place_cmp (on (λ e. spelling e.value) (slice_cmp nat_cmp))
