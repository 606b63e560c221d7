-- Dead positions: source items without the positions that were set aside, since their work failed as often as it may.
use Rattle.std.specs.Prelude.{ℕ, Bool, ◌==◌, ◌&&◌, List, ◌++◌, map}
use Rattle.std.specs.List.{filter}
use Rattle.beam_values.specs.declared.piece.Dead.{Dead}
use Rattle.beam_model.specs.Positions.{SourceItem}

abbrev pub is_dead_in : SourceItem → Dead → Bool
is_dead_in item d = d.node == item.node && d.item == item.item

-- the positions of an item that are listed as dead
abbrev pub dead_positions : List Dead → SourceItem → List ℕ
dead_positions dead item = map (λ d. d.at) (filter (is_dead_in item) dead)

-- the item with these positions left out
abbrev pub item_without : List Dead → SourceItem → SourceItem
item_without dead item = record item { left_out = dead_positions dead item ++ item.left_out }

-- items without their dead positions; where nothing is dead they are the items themselves
abbrev pub items_without : List Dead → List SourceItem → List SourceItem
items_without dead items = map (item_without dead) items
