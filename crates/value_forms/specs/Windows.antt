-- The forms of windows and of restrictions.
use Rattle.std.specs.Prelude.{ℕ, ℤ, ◌<ℤ◌, ◌≤◌, int_lt, nat_le}
use Rattle.beam_values.specs.Intervals.{Interval, Offsets}
use Rattle.value_forms.specs.Forms.{Form, tested_form}
use Rattle.value_forms.specs.Numbers.{signed_form, bits_form}
use Rattle.value_forms.specs.Structs.{no_more, ◌&◌, struct_form}

abbrev pub span_fields : Interval → ℤ × (ℤ × Unit {0})
span_fields s = (s.start, (s.end, tt))

abbrev pub span_of : ℤ × (ℤ × Unit {0}) → Interval
span_of x = record { start = x.0; end = x.1.0 }

-- A window is its start and its end, and the start is below the end: `[3, 5)` is `Seq[Int(3), Int(5)]`, and `Seq[Int(5), Int(5)]` is none.
abbrev pub span_form : Form Interval
span_form = tested_form (λ s. int_lt s.start s.end) (λ s. s.start <ℤ s.end) (struct_form (signed_form & signed_form & no_more) span_fields span_of)

abbrev pub range_fields : Offsets → ℕ × (ℕ × Unit {0})
range_fields r = (r.from, (r.to, tt))

abbrev pub range_of : ℕ × (ℕ × Unit {0}) → Offsets
range_of x = record { from = x.0; to = x.1.0 }

-- A restriction is its `from` and its `to`, and `from` isn't above `to`: `[10, 27)` is `Seq[Int(10), Int(27)]`.
abbrev pub range_form : Form Offsets
range_form = tested_form (λ r. nat_le r.from r.to) (λ r. r.from ≤ r.to) (struct_form (bits_form & bits_form & no_more) range_fields range_of)
