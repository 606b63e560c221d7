-- How a cell that fired becomes again what it was before.
use Rattle.std.specs.Prelude.{◌≡◌, ℕ, ◌+◌, Bool, false, nat_lt, List, [], ◌∷◌, Some, slice_get, unwrap_or}
use Rattle.beam_values.specs.declared.cell.Cell.{Cell}
use Rattle.beam_values.specs.declared.cell.Entry.{Entry}
use Rattle.group_cells.specs.declared.groups.fired.Shown.{Shown}
use Rattle.group_cells.specs.declared.groups.fired.Shown.TheVariants.{First, Each}
use Rattle.group_cells.specs.declared.groups.fired.Unfired.{Unfired}

-- an entry is one of so many first ones
abbrev pub was_first : ℕ → ℕ → Bool
was_first count place = nat_lt place count

-- a pane had held the entry at a place
abbrev pub was_shown : Shown → ℕ → Bool
was_shown (First count) place = was_first count place
was_shown (Each each) place = unwrap_or (slice_get each.items place) false

-- each entry is shown so, by its place
abbrev pub AreShownAs : (ℕ → Bool) → List Entry → Type 0
AreShownAs was entries = (place : ℕ) (entry : Entry) → slice_get entries place ≡ Some entry → was place ≡ entry.shown

-- the entries from a place on, each shown so
abbrev pub shown_as : (ℕ → Bool) → ℕ → List Entry → List Entry
shown_as was place [] = []
shown_as was place (entry ∷ entries) = record entry { shown = was place } ∷ shown_as was (place + 1) entries

-- a cell before it fired
abbrev pub unfired : Unfired → Cell → Cell
unfired before cell =
    record cell { entries = shown_as (was_shown before.shown) 0 cell.entries; next_index = before.next_index; on_time = before.on_time }
