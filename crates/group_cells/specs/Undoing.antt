-- How a commit that finds no memory undoes what it did to the cells.
use Rattle.std.specs.Prelude.{◌≡◌, ◌-◌, List, [], ◌∷◌, length, take, slice_get, slice_set, unwrap_or}
use Rattle.std.specs.Option.{option_map}
use Rattle.beam_values.specs.declared.cell.Cell.{Cell}
use Rattle.beam_values.specs.declared.plan.Plan.{Plan}
use Rattle.group_cells.specs.declared.groups.draft.Change.{Change}
use Rattle.group_cells.specs.declared.groups.draft.Change.TheVariants.{Opened, Put, Fired, GaveWay}
use Rattle.group_cells.specs.Handing.{handed_back}
use Rattle.group_cells.specs.Unfiring.{unfired}

-- a cell without its last entry
abbrev pub without_last : Cell → Cell
without_last cell = record cell { entries = take (length cell.entries - 1) cell.entries }

-- before a change: a cell was put behind the others, or took an entry, or fired, or gave way to the session of the last cell
abbrev pub undone : Change → List Cell → List Cell
undone Opened cells = take (length cells - 1) cells
undone (Put place) cells = unwrap_or (option_map (λ cell. slice_set cells place (without_last cell)) (slice_get cells place)) cells
undone (Fired place before) cells = unwrap_or (option_map (λ cell. slice_set cells place (unfired before cell)) (slice_get cells place)) cells
undone (GaveWay place given) cells = handed_back place given cells

-- before all changes, of which the last is undone first
abbrev pub undone_all : List Change → List Cell → List Cell
undone_all [] cells = cells
undone_all (change ∷ changes) cells = undone change (undone_all changes cells)

-- what the cells of a commit are seen as: the plan whose Groups they are, the cells, and those that there were when the commit began
pub record SeenDraft : Type 0 where
  pub plan : Plan
  pub cells : List Cell
  pub begun : List Cell

-- both are of one commit
abbrev pub AreOfCommit : SeenDraft → SeenDraft → Type 0
AreOfCommit old new = (new.plan ≡ old.plan) × (new.begun ≡ old.begun)
