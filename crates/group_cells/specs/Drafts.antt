-- What holds of the cells of Groups while a commit is under way, and between commits.
use Rattle.std.specs.Prelude.{◌≡◌, ◌<◌, ◌^◌, [], length, vec_capacity, vec_len, Option, IfSome}
use Rattle.std.specs.BTreeMap.{BTreeMap}
use Rattle.beam_values.specs.declared.plan.Plan.{Plan}
use Rattle.cell_index.specs.Indexes.{IsIndexOf}
use Rattle.group_cells.specs.Arrivals.{UnmergedStand}
use Rattle.group_cells.specs.Due.{AreMoments, IsDueOf}
use Rattle.group_cells.specs.KnownWindows.{AreStanding}
use Rattle.group_cells.specs.Plain.{AreCells}
use Rattle.group_cells.specs.Undoing.{undone_all}
use Rattle.group_cells.specs.declared.groups.draft.Tracked.{Tracked}
use Rattle.group_cells.specs.declared.groups.keyed.GroupKey.{GroupKey}
use Rattle.group_cells.specs.declared.groups.standing.Known.{Known}

-- the index finds the cells, and the set has their moments
pub record IsTracked (plan : Plan) (tracked : Tracked) : Type 0 where
  pub index : IsIndexOf tracked.index tracked.cells.items
  pub due : IsDueOf plan tracked.due tracked.cells.items
  -- it has those of the cells with which the commit began, too
  pub begun : AreMoments plan tracked.due (undone_all tracked.changes.items tracked.cells.items)

-- one more cell finds room
pub record HasRoom (tracked : Tracked) : Type 0 where
  pub cells : vec_len tracked.cells < vec_capacity tracked.cells
  pub changes : vec_len tracked.changes < vec_capacity tracked.changes
  pub counts : vec_len tracked.due.unseen < vec_capacity tracked.due.unseen

-- nothing is left to undo, and no moment that was left
pub record IsAtRest (plan : Plan) (tracked : Tracked) : Type 0 where
  pub index : IsIndexOf tracked.index tracked.cells.items
  pub due : IsDueOf plan tracked.due tracked.cells.items
  pub moved : tracked.due.moved.items ≡ []
  pub changes : tracked.changes.items ≡ []

pub record IsSettled (plan : Plan) (tracked : Tracked) (standing : Option (BTreeMap GroupKey Known)) : Type 0 where
  pub cells : AreCells plan tracked.cells.items
  pub stand : UnmergedStand plan tracked.cells.items
  pub rest : IsAtRest plan tracked
  -- what is known of the windows that stand, where a commit hasn't been refused
  pub standing_are : IfSome standing (λ known. AreStanding plan known tracked.cells.items)
  -- a place is a number of 32 bits
  pub small : length tracked.cells.items < 2 ^ 32
