-- Times and marks, in milliseconds.
use Rattle.std.specs.Prelude.{◌≡◌, ℤ, pos, negsuc, ◌≤ℤ◌, ◌<ℤ◌}

-- the least time: a bit above the least number of milliseconds that 64 bits hold in microseconds
abbrev pub least_time : ℤ
least_time = negsuc 9223372036854774

abbrev pub greatest_time : ℤ
greatest_time = pos 9223372036854775

-- the mark above every window's end
abbrev pub final_mark : ℤ
final_mark = pos 9223372036854775807

abbrev pub IsTime : ℤ → Type 0
IsTime t = (least_time ≤ℤ t) × (t ≤ℤ greatest_time)

-- a mark is a time, or the final mark
abbrev pub IsMark : ℤ → Type 0
IsMark m = (least_time ≤ℤ m) × (greatest_time <ℤ m → m ≡ final_mark)
