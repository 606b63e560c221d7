-- Tests of windows: one is another, or lies in it.
use Rattle.std.specs.Prelude.{Bool, ◌&&◌, int_le}
use Rattle.std.specs.Ordering.{int_eq}
use Rattle.beam_values.specs.Intervals.{Interval}

abbrev pub same_span : Interval → Interval → Bool
same_span a b = int_eq a.start b.start && int_eq a.end b.end

abbrev pub lies_in : Interval → Interval → Bool
lies_in inner outer = int_le outer.start inner.start && int_le inner.end outer.end
