-- When cells are due: an ordered set has each cell that has a moment, by its node, that moment and its place.
use Rattle.std.specs.Prelude.{◌≡◌, ◌⊎◌, ℕ, ◌≤◌, ◌^◌, ◌==◌, ℤ, Bool, true, false, ◌&&◌, List, length, map, slice_get, Contains, Option, Some, None}
use Rattle.std.specs.BTreeMap.Range.{IsInRange}
use Rattle.std.specs.BTreeSet.{BTreeSet, contains}
use Rattle.std.specs.Ordering.{int_cmp, int_eq, is_gt, nat_cmp, on, then_cmp}
use Rattle.std.specs.declared.cmp.Ordering.{Ordering}
use Rattle.std.specs.declared.ops.Bound.TheVariants.{Included}
use Rattle.beam_values.specs.declared.cell.Cell.{Cell}
use Rattle.beam_values.specs.declared.plan.Plan.{Plan}
use Rattle.beam_model.specs.Panes.{trigger_of}
use Rattle.group_cells.specs.Cells.{unseen_in}
use Rattle.group_cells.specs.Looking.{moment_of}
use Rattle.group_cells.specs.declared.groups.due.DueCells.{DueCells}
use Rattle.group_cells.specs.declared.groups.due.DueKey.{DueKey}

abbrev pub due_cmp : DueKey → DueKey → Ordering
due_cmp = then_cmp (on (λ k. k.node) nat_cmp) (then_cmp (on (λ k. k.moment) int_cmp) (on (λ k. k.place) nat_cmp))

abbrev pub has_moment : Option ℤ → ℤ → Bool
has_moment None moment = false
has_moment (Some own) moment = int_eq own moment

-- it is the key of the cell at a place, where that has a moment
abbrev pub is_key_of : ℕ → ℕ → Option ℤ → DueKey → Bool
is_key_of node place moment q = (node == q.node && place == q.place) && has_moment moment q.moment

-- the moment of a cell by the trigger of its node
abbrev pub own_moment : Plan → Cell → Option ℤ
own_moment plan cell = moment_of (trigger_of plan cell.node) cell

abbrev pub is_due_as : Plan → DueKey → Option Cell → Bool
is_due_as plan q None = false
is_due_as plan q (Some cell) = cell.node == q.node && has_moment (own_moment plan cell) q.moment

-- each cell that has a moment is in the set; what else is there has moved
pub record AreMomentsIn (plan : Plan) (moments : BTreeSet DueKey) (moved : List DueKey) (cells : List Cell) : Type 0 where
  pub whole : (q : DueKey) → is_due_as plan q (slice_get cells q.place) ≡ true → contains due_cmp moments q ≡ true
  pub only : (q : DueKey) → contains due_cmp moments q ≡ true → (is_due_as plan q (slice_get cells q.place) ≡ true) ⊎ Contains moved q

abbrev pub AreMoments : Plan → DueCells → List Cell → Type 0
AreMoments plan due cells = AreMomentsIn plan due.moments due.moved.items cells

-- no moment is lost, and what comes has moved
abbrev pub KeepsMoments : DueCells → DueCells → Type 0
KeepsMoments old new = (plan : Plan) (cells : List Cell) → AreMoments plan old cells → AreMoments plan new cells

-- how many entries of each cell no pane has shown
abbrev pub IsCountOf : DueCells → List Cell → Type 0
IsCountOf due cells = due.unseen.items ≡ map (λ cell. unseen_in cell.entries) cells

pub record IsDueOf (plan : Plan) (due : DueCells) (cells : List Cell) : Type 0 where
  pub counts : IsCountOf due cells
  pub moments : AreMoments plan due cells
  -- each place is a number of 32 bits
  pub small : length cells ≤ 2 ^ 32

-- the first key from one on and up to another, if there is one
abbrev pub IsFirstBetween : BTreeSet DueKey → DueKey → DueKey → Option DueKey → Type 0
IsFirstBetween moments low high None = (q : DueKey) → IsInRange due_cmp (Included low) (Included high) q → contains due_cmp moments q ≡ false
IsFirstBetween moments low high (Some key) =
    IsInRange due_cmp (Included low) (Included high) key × (contains due_cmp moments key ≡ true)
    × ((q : DueKey) → IsInRange due_cmp (Included low) (Included high) q → contains due_cmp moments q ≡ true → is_gt (due_cmp key q) ≡ false)
