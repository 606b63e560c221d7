-- Lists by Group and key: what is listed of each, and how many items all have. Places of the items of a list that pass a test.
use Rattle.std.specs.Prelude.{ℕ, suc, Bool, ◌&&◌, if◌then◌else◌, List, [], ◌∷◌, length, unwrap_or}
use Rattle.std.specs.BTreeMap as tree
use Rattle.std.specs.BTreeMap.{BTreeMap}
use Rattle.std.specs.List.{sum_by}
use Rattle.std.specs.Ordering.{on, then_cmp, nat_cmp}
use Rattle.std.specs.declared.cmp.Ordering.{Ordering}
use Rattle.beam_values.specs.Orders.{value_cmp}
use Rattle.beam_values.specs.declared.cell.Cell.{Cell}
use Rattle.beam_values.specs.declared.value.Value.{Value}
use Rattle.beam_model.specs.Panes.{is_cell_at_key}
use Rattle.cell_index.specs.Leads.{key_hash}
use Rattle.group_cells.specs.Placing.{is_standing}
use Rattle.group_cells.specs.declared.groups.keyed.GroupKey.{GroupKey}

abbrev pub group_key_cmp : GroupKey → GroupKey → Ordering
group_key_cmp = then_cmp (on (λ k. k.node) nat_cmp) (on (λ k. k.key) value_cmp)

-- by the hashes of keys first, which differ for nearly all of them
abbrev pub led_key_cmp : GroupKey → GroupKey → Ordering
led_key_cmp = then_cmp (on (λ k. key_hash k.key) nat_cmp) group_key_cmp

-- the list of a Group and key; without one it is empty
abbrev pub listed : {X : Type 0} → BTreeMap GroupKey (List X) → GroupKey → List X
listed lists q = unwrap_or (tree.get group_key_cmp lists q) []

-- how many items all lists have
abbrev pub all_listed : {X : Type 0} → BTreeMap GroupKey (List X) → ℕ
all_listed lists = sum_by length (tree.values lists)

-- the places of the items that pass a test, where the first of all has the place k
abbrev pub places_from : {X : Type 0} → (X → Bool) → ℕ → List X → List ℕ
places_from p k [] = []
places_from p k (x ∷ xs) = if p x then k ∷ places_from p (suc k) xs else places_from p (suc k) xs

-- no session took the cell's entries
abbrev pub stands : Cell → Bool
stands cell = is_standing cell.merged_into

abbrev pub stands_here : ℕ → Value → Cell → Bool
stands_here node key cell = is_cell_at_key node key cell && stands cell
