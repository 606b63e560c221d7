-- One commit of one Group and key: which arrivals are dropped, where the others go, and what fires.
use Rattle.std.specs.Prelude.{◌≡◌, ℕ, ℤ, Bool, true, false, not, ◌&&◌, List, ◌++◌, map, Contains, ◌↔◌}
use Rattle.std.specs.List.{All, Any, filter}
use Rattle.beam_values.specs.Firing.{is_expired}
use Rattle.beam_values.specs.Intervals.{Interval}
use Rattle.beam_values.specs.Sessions.{LiesIn, IsSessionOf}
use Rattle.beam_values.specs.declared.cell.Cell.{Cell}
use Rattle.beam_values.specs.declared.cell.Entry.{Entry}
use Rattle.beam_values.specs.declared.cell.Pane.{Pane}
use Rattle.beam_values.specs.declared.element.Element.{Element}
use Rattle.beam_values.specs.declared.value.Value.{Value}
use Rattle.beam_model.specs.Panes.{GroupRules}
use Rattle.group_cells.specs.Placing.{Opening, is_same_key, is_standing, opened_all, put_all}
use Rattle.group_cells.specs.Cells.{after_firing, AreTheirPanes}

-- an arrival that isn't dropped: the mark before the commit is below the end of its own window plus the lateness
abbrev pub is_in_time : GroupRules → ℤ → Element → Bool
is_in_time rules before e = not (is_expired rules.trigger e.span.end before)

abbrev pub entry_of : ℕ → Element → Entry
entry_of c e = record { element = e; commit = c; shown = false }

-- the windows that stand and aren't expired: those that can still merge
abbrev pub is_open : GroupRules → ℤ → Cell → Bool
is_open rules before cell = is_standing cell.merged_into && not (is_expired rules.trigger cell.span.end before)

abbrev pub open_windows : GroupRules → ℤ → List Cell → List Interval
open_windows rules before cells = map (λ cell. cell.span) (filter (is_open rules before) cells)

-- each of the windows is a session of the open and the own windows, and each own window lies in one
pub record AreSessionsOver (own open_ windows : List Interval) : Type 0 where
  pub each : All (IsSessionOf (Contains (open_ ++ own))) windows
  pub covers : All (λ span. Any (LiesIn span) windows) own

-- The windows for which there are to be cells: the own windows of the arrivals in time; where windows merge, the sessions of these and the open ones, at least
-- each in which an own window lies. Of `[0, 10)` open and `[9, 19)` own that is `[0, 19)`.
abbrev pub AreWindowsFor : Bool → List Interval → List Interval → List Interval → Type 0
AreWindowsFor false own open_ windows = (w : Interval) → Contains windows w ↔ Contains own w
AreWindowsFor true own open_ windows = AreSessionsOver own open_ windows

-- One Group and key in commit c, at the marks into the node before and after it: from the arrivals and the cells before, the cells after and the panes fired.
pub record IsRound (rules : GroupRules) (node : ℕ) (key : Value) (c : ℕ) (before after : ℤ) (arrivals : List Element) (cells new : List Cell) (fired : List Pane) : Type 0 where
  pub openings : List Opening
  pub keyed : All (λ opening. is_same_key opening.key key ≡ true) openings
  pub windows : AreWindowsFor rules.merges (map (λ e. e.span) (filter (is_in_time rules before) arrivals)) (open_windows rules before cells)
      (map (λ opening. opening.span) openings)
  pub placed : List Cell
  pub places : placed ≡ put_all rules (map (entry_of c) (filter (is_in_time rules before) arrivals)) (opened_all rules before node openings cells)
  pub fires : new ≡ map (after_firing rules after) placed
  pub panes : AreTheirPanes rules node key c after placed fired
