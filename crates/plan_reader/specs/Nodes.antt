-- The nodes of a document: first all names, then node after node its kind, its inputs, its further keys, and that it has no others. Numbers of nodes are
-- those of their places in the document.
use Rattle.std.specs.Prelude.{ℕ, Bool, List, [], ◌∷◌, length, nat_le, bytes_eq, position, not, ◌&&◌, if◌then◌else◌, Option, Some, None, is_some, ok_or, Ok, Err}
use Rattle.std.specs.List.{list_any}
use Rattle.serde_json.specs.Data.{Data}
use Rattle.serde_json.specs.Find.{as_object}
use Rattle.beam_values.specs.declared.plan.Node.{Node}
use Rattle.side_inputs.specs.declared.nodes.ViewMode.{ViewMode}
use Rattle.plan_reader.specs.declared.placing.DocumentNode.{DocumentNode}
use Rattle.plan_reader.specs.declared.placing.DocumentNode.TheVariants.{Plain, Side}
use Rattle.plan_reader.specs.declared.refusal.Place.{Place}
use Rattle.plan_reader.specs.declared.refusal.PlanKey.TheVariants as key
use Rattle.plan_reader.specs.declared.refusal.PlanRefusal.TheVariants as refusal
use Rattle.plan_reader.specs.declared.words.DocumentKind.{DocumentKind}
use Rattle.plan_reader.specs.declared.words.DocumentKind.TheVariants as document
use Rattle.plan_reader.specs.declared.words.KindWord.{KindWord}
use Rattle.plan_reader.specs.declared.words.KindWord.TheVariants as kind
use Rattle.plan_reader.specs.Forms.{◌>>=◌, one_by_one, needed, or_absent, has_only, string_in, word_in, strings_in}
use Rattle.plan_reader.specs.Keys.{node_keys, side_keys}
use Rattle.plan_reader.specs.Places.{in_node}
use Rattle.plan_reader.specs.Refusals.{Meaning}
use Rattle.plan_reader.specs.Settings.{settings_of}
use Rattle.plan_reader.specs.Words.{kind_meaning, meaning_in, view_modes}

-- ---- names

-- 1 to 64 bytes, and no name of an earlier node
abbrev pub is_new_name : List (List ℕ) → List ℕ → Bool
is_new_name earlier name = nat_le 1 (length name) && nat_le (length name) 64 && not (list_any (bytes_eq name) earlier)

-- the name of the node after those of these names
abbrev pub name_of : List (List ℕ) → Data → Meaning (List ℕ)
name_of earlier d = if is_some (as_object d) then (do
  value ← needed (in_node (length earlier) key.Name) d
  name ← string_in (in_node (length earlier) key.Name) value
  if is_new_name earlier name then Ok name else Err (refusal.Name (in_node (length earlier) key.Name)))
    else Err (refusal.Field (in_node (length earlier) key.Other))

abbrev pub names_of : List Data → Meaning (List (List ℕ))
names_of nodes = one_by_one name_of [] nodes

-- ---- inputs

-- the number of the node of this name
abbrev pub number_of : List (List ℕ) → Place → List ℕ → Meaning ℕ
number_of names place name = ok_or (position (bytes_eq name) names) (refusal.Name place)

abbrev pub numbers_of : List (List ℕ) → Place → List (List ℕ) → Meaning (List ℕ)
numbers_of names place inputs = one_by_one (λ _ name. number_of names place name) [] inputs

-- the numbers of the nodes of an array of names
abbrev pub inputs_in : List (List ℕ) → Place → Data → Meaning (List ℕ)
inputs_in names place d = strings_in place d >>= numbers_of names place

-- a source may leave its inputs out, and has none then
abbrev pub inputs_of : KindWord → List (List ℕ) → ℕ → Data → Meaning (List ℕ)
inputs_of kind.Source names node d = or_absent [] (inputs_in names) (in_node node key.Input) d
inputs_of _ names node d = needed (in_node node key.Input) d >>= inputs_in names (in_node node key.Input)

-- ---- nodes

abbrev pub kind_of : ℕ → ℕ → Data → Meaning DocumentKind
kind_of version node d = needed (in_node node key.Kind) d >>= word_in (kind_meaning version) (in_node node key.Kind)

-- a node that has no other keys than its kind and its work list
abbrev pub closed : ℕ → ℕ → Data → Node → Meaning Node
closed version node d read = if has_only (node_keys version read.kind) d then Ok read else Err (refusal.Field (in_node node key.Other))

-- a node of this kind that is one node of the plan
abbrev pub plain_of : KindWord → ℕ → List (List ℕ) → ℕ → Data → Meaning Node
plain_of word version names node d = do
  inputs ← inputs_of word names node d
  settings ← settings_of word version node d
  closed version node d (record { kind = settings; inputs = inputs })

-- ---- side inputs

abbrev pub one_of : List (List ℕ) → Option (List ℕ)
one_of (name ∷ []) = Some name
one_of _ = None

-- the main collection, of which there is one
abbrev pub main_of : List (List ℕ) → ℕ → Data → Meaning ℕ
main_of names node d = do
  value ← needed (in_node node key.Input) d
  inputs ← strings_in (in_node node key.Input) value
  name ← ok_or (one_of inputs) (refusal.Field (in_node node key.Input))
  number_of names (in_node node key.Input) name

abbrev pub view_of : List (List ℕ) → ℕ → Data → Meaning ℕ
view_of names node d = do
  value ← needed (in_node node key.View) d
  name ← string_in (in_node node key.View) value
  number_of names (in_node node key.View) name

abbrev pub view_mode_of : ℕ → Data → Meaning ViewMode
view_mode_of node d = needed (in_node node key.Mode) d >>= word_in (meaning_in view_modes) (in_node node key.Mode)

abbrev pub side_of : List (List ℕ) → ℕ → Data → Meaning DocumentNode
side_of names node d = do
  main ← main_of names node d
  view ← view_of names node d
  mode ← view_mode_of node d
  if has_only side_keys d then Ok (Side main view mode) else Err (refusal.Field (in_node node key.Other))

-- ---- both

abbrev pub node_of_kind : DocumentKind → ℕ → List (List ℕ) → ℕ → Data → Meaning DocumentNode
node_of_kind (document.Plain word) version names node d = do
  plain ← plain_of word version names node d
  Ok (Plain plain)
node_of_kind document.Side version names node d = side_of names node d

abbrev pub node_of : ℕ → List (List ℕ) → ℕ → Data → Meaning DocumentNode
node_of version names node d = do
  kind ← kind_of version node d
  node_of_kind kind version names node d

abbrev pub nodes_of : ℕ → List (List ℕ) → List Data → Meaning (List DocumentNode)
nodes_of version names nodes = one_by_one (λ before d. node_of version names (length before) d) [] nodes
