-- From which mark on a cell fires a pane, as long as it takes no element and fires none (The Dataflow Model, triggers).
use Rattle.std.specs.Prelude.{◌≡◌, ℕ, ℤ, ◌+ℤ◌, ◌≤ℤ◌, ◌<ℤ◌, Bool, true, false, ◌&&◌, if◌then◌else◌, nat_le, int_le, List, Option, Some, None, IsSome}
use Rattle.std.specs.Int.{int_max, int_min}
use Rattle.std.specs.List.{fold}
use Rattle.beam_values.specs.Firing.{has_no_bars, is_enough, firing}
use Rattle.beam_values.specs.Times.{least_time, final_mark}
use Rattle.beam_values.specs.declared.plan.Bar.{Bar}
use Rattle.beam_values.specs.declared.plan.Trigger.{Trigger}

-- the least mark from which on the table fires a pane
pub record IsNextMark (trigger : Trigger) (end : ℤ) (on_time : Bool) (unseen : ℕ) (mark : ℤ) : Type 0 where
  pub from_least : least_time ≤ℤ mark
  pub upto_final : mark ≤ℤ final_mark
  pub fires : IsSome (firing trigger end mark on_time unseen)
  pub before : (lower : ℤ) → least_time ≤ℤ lower → lower <ℤ mark → firing trigger end lower on_time unseen ≡ None

-- at no mark does it fire one
abbrev pub IsNeverDue : Trigger → ℤ → Bool → ℕ → Type 0
IsNeverDue trigger end on_time unseen = (mark : ℤ) → least_time ≤ℤ mark → mark ≤ℤ final_mark → firing trigger end mark on_time unseen ≡ None

-- the least mark that isn't below a time
abbrev pub mark_from : ℤ → Option ℤ
mark_from time = if int_le time final_mark then Some (int_max least_time time) else None

-- the time from which on the mark is so far past the window's end; without a delay any mark is
abbrev pub bar_from : ℤ → Option ℤ → ℤ
bar_from end None = least_time
bar_from end (Some delay) = end +ℤ delay

-- the earlier of a time and the one from which on a bar is met; with nothing unseen, or less than the bar asks for, it isn't met
abbrev pub earlier_by : ℤ → ℕ → ℤ → Bar → ℤ
earlier_by end unseen time bar = if nat_le 1 unseen && nat_le bar.count unseen then int_min time (bar_from end bar.delay) else time

-- The earliest of a time and those from which on the bars are met. Of the bars (1, -5) and (9, none) and a window that ends at 60000, one unseen element
-- meets the first from 59995 on, and nine meet the second at once.
abbrev pub earliest : List Bar → ℤ → ℕ → ℤ → ℤ
earliest bars end unseen time = fold (earlier_by end unseen) time bars

-- That least mark, if there is one: at once where enough is unseen, and else with the end of the window or its lateness, or before that with a bar that
-- is met. By the default trigger a window that ends at 60000 has 60000 before its on-time pane, and none after it with nothing unseen; with late 3,
-- lateness 100 and one unseen 60100; with the late bar (3, 5) in place of the count, and three unseen, 60005.
abbrev pub next_mark : Trigger → ℤ → Bool → ℕ → Option ℤ
next_mark trigger end false unseen = if is_enough trigger.early unseen then Some least_time else mark_from (earliest trigger.early_bars end unseen end)
next_mark trigger end true unseen =
    if nat_le 1 unseen then (if has_no_bars trigger.late_bars && nat_le trigger.late unseen then Some least_time
    else mark_from (earliest trigger.late_bars end unseen (end +ℤ trigger.lateness))) else None
