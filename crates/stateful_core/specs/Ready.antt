-- What all key cells keep.
use Rattle.std.specs.Prelude.{ℕ, List, length}
use Rattle.std.specs.BTreeMap as tree
use Rattle.cell_index.specs.declared.index_key.CellKey.{CellKey}
use Rattle.stateful_core.specs.Names.{AreStored}
use Rattle.stateful_core.specs.Seen.{cells_of}
use Rattle.stateful_core.specs.Trees.{AreTrees, HavePlaces}
use Rattle.stateful_core.specs.declared.node_tree.NodeTree.{NodeTree}
use Rattle.stateful_core.specs.declared.slot.Slot.{Slot}

pub record AreKept (places : tree.BTreeMap CellKey ℕ) (trees : List NodeTree) (slots fresh : List Slot) : Type 0 where
  -- each is found
  pub stored : AreStored places slots fresh
  -- each is due where it is ready
  pub due : AreTrees trees (cells_of slots)
  -- the new cells of a commit that is prepared can be
  pub grown : HavePlaces trees (length slots) (cells_of fresh)
