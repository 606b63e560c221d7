-- Coverings: what ranges that were worked bring, each of the item that it names (Splittable DoFn: restrictions partition their element).
use Rattle.std.specs.Prelude.{◌≡◌, ℕ, Bool, ◌==◌, ◌&&◌, List, [], ◌∷◌, Option, Some, None, ⊤}
use Rattle.std.specs.List.{find, flat_map}
use Rattle.beam_values.specs.Intervals.{Offsets}
use Rattle.beam_values.specs.declared.piece.Done.{Done}
use Rattle.beam_values.specs.declared.plan.Plan.{Plan}
use Rattle.beam_model.specs.Chains.{Output}
use Rattle.beam_model.specs.Positions.{SourceItem}
use Rattle.beam_model.specs.Spread.{spread_range}

abbrev pub is_item : ℕ → ℕ → SourceItem → Bool
is_item node number item = item.node == node && item.item == number

-- the first item with this node and this item number
abbrev pub item_at : List SourceItem → ℕ → ℕ → Option SourceItem
item_at items node number = find (is_item node number) items

abbrev pub spread_of : Plan → Offsets → Option SourceItem → List Output
spread_of plan range None = []
spread_of plan range (Some item) = spread_range plan item range.from range.to

-- what a range brings; one that names no item brings nothing
abbrev pub spread_done : Plan → List SourceItem → Done → List Output
spread_done plan items done = spread_of plan done.range (item_at items done.node done.item)

-- what ranges bring, one after another
abbrev pub spread_dones : Plan → List SourceItem → List Done → List Output
spread_dones plan items dones = flat_map (spread_done plan items) dones

-- no two items have one node and one item number
abbrev pub AreDistinct : List SourceItem → Type 0
AreDistinct [] = ⊤
AreDistinct (item ∷ later) = (item_at later item.node item.item ≡ None) × AreDistinct later
