-- Where panes are held that aren't through.
use Rattle.std.specs.Prelude.{◌≡◌, ℕ, ◌<◌, ◌≤◌, ◌==◌, Bool, List, [], ◌∷◌, slice_get, count_by, Some}
use Rattle.std.specs.List.{All}
use Rattle.beam_values.specs.declared.cell.Pane.{Pane}
use Rattle.piece_checks.specs.declared.places.HeldPlace.{HeldPlace}

-- there is a pane at the place, and it is of the Group
abbrev pub IsHeldAt : List Pane → HeldPlace → Type 0
IsHeldAt panes held = (pane : Pane) × (slice_get panes held.pane ≡ Some pane) × (pane.node ≡ held.node)

abbrev pub is_at : ℕ → HeldPlace → Bool
is_at place held = held.pane == place

-- Of three panes, all of Group 1, the first and the third may be held, each once; nothing may be held at place 3, nor at Group 2.
pub record AreHeldOnce (panes : List Pane) (held : List HeldPlace) : Type 0 where
  pub at_panes : All (IsHeldAt panes) held
  pub once : (place : ℕ) → count_by (is_at place) held ≤ 1

-- Places rise. So do 0, 2 and 5, and not 2 and 2.
abbrev pub Ascend : List ℕ → Type 0
Ascend [] = Unit {0}
Ascend (place ∷ places) = All (λ later. place < later) places × Ascend places
