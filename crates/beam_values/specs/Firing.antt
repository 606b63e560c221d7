-- When the panes of a window fire, and when an element comes too late (The Dataflow Model, triggers; Beam Programming Guide, Triggers, Handling late
-- data; that an on-time pane fires also without elements is this profile's).
use Rattle.std.specs.Prelude.{ℕ, ℤ, ◌+ℤ◌, ◌-ℤ◌, Bool, true, false, ◌&&◌, ◌||◌, if◌then◌else◌, nat_le, int_le, List, [], ◌∷◌, Option, Some, None}
use Rattle.std.specs.List.{list_any}
use Rattle.beam_values.specs.declared.element.Timing.{Timing}
use Rattle.beam_values.specs.declared.element.Timing.TheVariants.{Early, OnTime, Late}
use Rattle.beam_values.specs.declared.plan.Bar.{Bar}
use Rattle.beam_values.specs.declared.plan.Trigger.{Trigger}

-- so many unseen elements are enough for an early pane; with none asked for there is none
abbrev pub is_enough : Option ℕ → ℕ → Bool
is_enough None unseen = false
is_enough (Some count) unseen = nat_le count unseen

-- the mark is so far past the window's end; a bar without a delay doesn't ask for it
abbrev pub is_past : Option ℤ → ℤ → Bool
is_past None past = true
is_past (Some delay) past = int_le delay past

abbrev pub is_bar_met : ℕ → ℤ → Bar → Bool
is_bar_met unseen past bar = nat_le bar.count unseen && is_past bar.delay past

-- Some bar is met: by so many unseen elements, at a mark that is `past` after the window's end. Of the bars (1, -5000) and (9, none), eight elements meet
-- one from 5000 before the end on, and nine at any mark.
abbrev pub met : List Bar → ℕ → ℤ → Bool
met bars unseen past = list_any (is_bar_met unseen past) bars

abbrev pub has_no_bars : List Bar → Bool
has_no_bars [] = true
has_no_bars (bar ∷ bars) = false

-- The mark is at least the window's end plus the lateness: an element of the window is dropped, and its cell takes no part in merging.
abbrev pub is_expired : Trigger → ℤ → ℤ → Bool
is_expired trigger end mark = int_le (end +ℤ trigger.lateness) mark

-- an early pane, before the on-time one: enough is unseen, or an early bar is met and something is
abbrev pub is_early_due : Trigger → ℤ → ℤ → ℕ → Bool
is_early_due trigger end mark unseen = is_enough trigger.early unseen || (met trigger.early_bars unseen (mark -ℤ end) && nat_le 1 unseen)

-- a late bar is met, or, where there are no late bars, as many are unseen as the late count
abbrev pub is_late_enough : Trigger → ℤ → ℕ → Bool
is_late_enough trigger past unseen = met trigger.late_bars unseen past || (has_no_bars trigger.late_bars && nat_le trigger.late unseen)

-- a late pane, after the on-time one: where something is unseen, and that is enough or the window expires
abbrev pub is_late_due : Trigger → ℤ → ℤ → ℕ → Bool
is_late_due trigger end mark unseen = nat_le 1 unseen && (is_late_enough trigger (mark -ℤ end) unseen || is_expired trigger end mark)

-- The pane that a cell fires, if any, by the first line that fits: on time, once the mark has reached the window's end, also with nothing unseen;
-- early, before that, where enough is unseen; late, after the on-time pane, which an earlier commit fired.
-- By the default trigger a window that ends at 60000 fires nothing at 59999 and is on time at 60000, also with nothing unseen; with early 2 and two
-- unseen it is early at 0; with the early bar (2, -5000) and two unseen it is early at 55000, and not at 54999; with late 3, lateness 100 and one unseen
-- after its on-time pane it fires nothing at 60050 and is late at 60100.
abbrev pub firing : Trigger → ℤ → ℤ → Bool → ℕ → Option Timing
firing trigger end mark false unseen =
    if int_le end mark then Some OnTime else (if is_early_due trigger end mark unseen then Some Early else None)
firing trigger end mark true unseen = if is_late_due trigger end mark unseen then Some Late else None
