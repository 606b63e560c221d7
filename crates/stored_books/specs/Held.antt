-- Where panes are held, and what holds nodes back, as data has it.
use Rattle.std.specs.Prelude.{◌≡◌, ℕ, ◌<◌, ℤ, ◌-◌, fold, List, [], ◌∷◌, ◌++◌, length, map, slice_get, unwrap_or, Option, Some, None}
use Rattle.std.specs.Int.{int_min}
use Rattle.std.specs.List.{flat_map}
use Rattle.watermarks.specs.Holds.{hold_at}
use Rattle.std.specs.Option.{option_map}
use Rattle.beam_values.specs.declared.cell.Pane.{Pane}
use Rattle.beam_values.specs.declared.marks.CommitMarks.{CommitMarks}
use Rattle.beam_values.specs.declared.marks.StageMarks.{StageMarks}
use Rattle.beam_values.specs.declared.plan.Plan.{Plan}
use Rattle.beam_model.specs.Holds.{Hold, least_hold, marks_held, piece_hold}
use Rattle.piece_checks.specs.declared.places.HeldPlace.{HeldPlace}
use Rattle.stateful_core.specs.Cells.{cell_holds}
use Rattle.stateful_core.specs.Data.{cell_of_data}
use Rattle.stateful_core.specs.declared.data.KeyData.{KeyData}
use Rattle.book_core.specs.declared.data.BookData.{BookData}
use Rattle.book_core.specs.declared.live.Batch.{Batch}
use Rattle.book_core.specs.declared.live.WaitingPane.{WaitingPane}

-- ---- panes

abbrev pub node_in : List Pane → WaitingPane → Option ℕ
node_in panes waiting = option_map (λ pane. pane.node) (slice_get panes waiting.pane)

abbrev pub place_at : WaitingPane → ℕ → HeldPlace
place_at waiting node = record { node = node; pane = waiting.pane }

abbrev pub if_there : {A : Type 0} → (ℕ → A) → Option ℕ → List A
if_there at None = []
if_there at (Some node) = at node ∷ []

-- a pane that waits is held at its own node
abbrev pub own_place : List Pane → WaitingPane → List HeldPlace
own_place panes waiting = if_there (place_at waiting) (node_in panes waiting)

abbrev pub places_in : Batch → List HeldPlace
places_in batch = map (λ waiting. place_at waiting batch.node) batch.panes

-- the panes that wait, and those of batches that were given back
abbrev pub held_places : BookData → List HeldPlace
held_places d = flat_map (own_place d.panes) d.waiting ++ flat_map places_in d.returned

-- ---- holds

abbrev pub hold_at_node : WaitingPane → ℕ → Hold
hold_at_node waiting node = record { node = node; mark = waiting.hold }

abbrev pub own_hold : List Pane → WaitingPane → List Hold
own_hold panes waiting = if_there (hold_at_node waiting) (node_in panes waiting)

abbrev pub batch_holds : Batch → List Hold
batch_holds batch = map (λ waiting. hold_at_node waiting batch.node) batch.panes

abbrev pub key_data_holds : KeyData → List Hold
key_data_holds key = cell_holds (cell_of_data key)

-- of pieces, of panes that wait, of batches, and of key cells
abbrev pub data_holds : Plan → BookData → List Hold
data_holds plan d =
    map (piece_hold plan) d.pending ++ (flat_map (own_hold d.panes) d.waiting ++ (flat_map batch_holds d.returned ++ flat_map key_data_holds d.keys))

abbrev pub least_hold_of : Plan → BookData → ℕ → ℤ
least_hold_of plan d node = least_hold (data_holds plan d) node

-- Further holds of nodes. With 5 and 9 as the least holds of two nodes, a hold of node 1 at 7 makes them 5 and 7.
pub record AreHeldOn (more : List Hold) (old new : List ℤ) : Type 0 where
  pub sized : length new ≡ length old
  pub held : (n : ℕ) → n < length old → hold_at new n ≡ fold int_min (hold_at old n) (marks_held more n)

-- the marks after the last commit
abbrev pub last_marks_of : List CommitMarks → List StageMarks
last_marks_of commits = unwrap_or (option_map (λ commit. commit.marks) (slice_get commits (length commits - 1))) []
