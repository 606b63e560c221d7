-- From the nodes of a document to those of its plan, one after another.
use Rattle.std.proofs.Common.{◌≡◌, ℕ, suc, Bool, true, false, cond, Err, ◌+◌, ◌-◌, ◌*◌, ◌<◌, ◌≤◌, List, [], ◌∷◌, ◌++◌, length, drop, get_or, Ok, Err, ok_or, Option, Some, None, refl, sym, ap, ap₂, subst, ◌∙◌, append_assoc, append-nil, drop-cons, add-one, length-append, arith, bytes_eq}
use Rattle.std.specs.Prelude.{replicate, All}
use Rattle.std.specs.List.{position}
use Rattle.std.specs.Option.{option_map_or}
use Rattle.std.proofs.lemmas.List.{drop_all, length-replicate}
use Rattle.std.proofs.lemmas.List.Elements.{All-nil, All-cons, All-append}
use Rattle.std.proofs.lemmas.List.Quantifiers.{position-Some}
use Rattle.std.proofs.lemmas.List.Sums.{sum_by-cons}
use Rattle.serde_json.specs.Data.{Data}
use Rattle.beam_values.specs.declared.plan.Node.{Node}
use Rattle.plan_reader.specs.Forms.{◌>>=◌, has_only, needed, one_by_one, string_in, strings_in, value_of}
use Rattle.plan_reader.specs.Keys.{node_keys, side_keys}
use Rattle.plan_reader.specs.Nodes.{closed, inputs_in, inputs_of, kind_of, main_of, node_of, node_of_kind, nodes_of, number_of, one_of, plain_of, side_of, view_mode_of, view_of}
use Rattle.plan_reader.specs.Places.{in_node}
use Rattle.plan_reader.specs.Placing.{HasInputsWithin, node_count, nodes_at, nodes_from, places_from, places_of, plan_names, plan_nodes, width}
use Rattle.plan_reader.specs.Refusals.{Meaning}
use Rattle.plan_reader.specs.Settings.{settings_of}
use Rattle.plan_reader.specs.declared.placing.DocumentNode.{DocumentNode}
use Rattle.plan_reader.specs.declared.placing.DocumentNode.TheVariants.{Plain, Side}
use Rattle.side_inputs.specs.declared.nodes.ViewMode.{ViewMode}
use Rattle.plan_reader.specs.declared.words.DocumentKind.{DocumentKind}
use Rattle.plan_reader.specs.declared.words.DocumentKind.TheVariants as document
use Rattle.plan_reader.specs.declared.refusal.Place.{Place}
use Rattle.plan_reader.specs.declared.refusal.PlanKey.TheVariants as key
use Rattle.plan_reader.specs.declared.refusal.PlanRefusal.TheVariants as refusal
use Rattle.plan_reader.specs.declared.words.KindWord.{KindWord}
use Rattle.plan_reader.specs.declared.words.KindWord.TheVariants as kind
use Rattle.plan_reader.proofs.Documents.{Read, read_then, read_with}

-- a node is read as one or five
pub some_width : (node : DocumentNode) → 1 ≤ width node
some_width (Plain node) = omega arith
some_width (Side main view mode) = omega arith

pub few_width : (node : DocumentNode) → width node ≤ 5
few_width (Plain node) = omega arith
few_width (Side main view mode) = omega arith

-- ---- places

pub places_counted : (first : ℕ) (nodes : List DocumentNode) → length (places_from first nodes) ≡ length nodes
places_counted first [] = refl
places_counted first (node ∷ nodes) = ap (λ (n : ℕ). suc n) (places_counted (first + width node) nodes)

pub next_place : (first i : ℕ) (nodes : List DocumentNode) (d : DocumentNode) → i < length nodes
    → places_from first (drop i nodes) ≡ (first + width (get_or nodes i d) - 1) ∷ places_from (first + width (get_or nodes i d)) (drop (i + 1) nodes)
next_place first i nodes d inside = rw (drop-cons nodes i d inside, add-one) refl

pub ruleset place_turns = (next_place, some_width, few_width)

-- ---- names

pub next_names : (i : ℕ) (names : List (List ℕ)) (nodes : List DocumentNode) (name : List ℕ) (node : DocumentNode) → i < length names → i < length nodes
    → plan_names (drop i names) (drop i nodes)
    ≡ replicate (width (get_or nodes i node)) (get_or names i name) ++ plan_names (drop (i + 1) names) (drop (i + 1) nodes)
next_names i names nodes name node h k = rw (drop-cons names i name h, drop-cons nodes i node k, add-one) refl

names_counted : (names : List (List ℕ)) (nodes : List DocumentNode) → length names ≡ length nodes → length (plan_names names nodes) ≡ node_count nodes
names_counted [] [] same = refl
names_counted [] (node ∷ nodes) same = absurd (omega (arith, same))
names_counted (name ∷ names) [] same = absurd (omega (arith, same))
names_counted (name ∷ names) (node ∷ nodes) same =
    omega (arith, length-append (replicate (width node) name) (plan_names names nodes), length-replicate (width node) name, names_counted names nodes (omega (arith, same)), sum_by-cons width node nodes)

-- ---- nodes

pub length-nodes_at : (places : List ℕ) (first : ℕ) (node : DocumentNode) → length (nodes_at places first node) ≡ width node
length-nodes_at places first (Plain node) = refl
length-nodes_at places first (Side main view mode) = refl

pub nodes_counted : (places : List ℕ) (first : ℕ) (nodes : List DocumentNode) → length (nodes_from places first nodes) ≡ node_count nodes
nodes_counted places first [] = refl
nodes_counted places first (node ∷ nodes) =
    omega (arith, length-append (nodes_at places first node) (nodes_from places (first + width node) nodes), length-nodes_at places first node, nodes_counted places (first + width node) nodes, sum_by-cons width node nodes)

next_nodes : (places : List ℕ) (first i : ℕ) (nodes : List DocumentNode) (d : DocumentNode) → i < length nodes
    → nodes_from places first (drop i nodes) ≡ nodes_at places first (get_or nodes i d) ++ nodes_from places (first + width (get_or nodes i d)) (drop (i + 1) nodes)
next_nodes places first i nodes d inside = rw (drop-cons nodes i d inside, add-one) refl

-- what is read and what is left are all nodes of the plan
pub record AreReadTo (places : List ℕ) (nodes : List DocumentNode) (count : ℕ) (read : List Node) : Type 0 where
  pub rest : read ++ nodes_from places (length read) (drop count nodes) ≡ nodes_from places 0 nodes
  pub few : length read ≤ 5 * count

pub none_placed : (places : List ℕ) (nodes : List DocumentNode) → AreReadTo places nodes 0 []
none_placed places nodes = record { rest = refl; few = omega arith }

pub one_placed : (places : List ℕ) (nodes : List DocumentNode) (i : ℕ) (d : DocumentNode) (read more : List Node) → i < length nodes
    → more ≡ read ++ nodes_at places (length read) (get_or nodes i d) → AreReadTo places nodes i read → AreReadTo places nodes (i + 1) more
one_placed places nodes i d read more inside is before =
    let counted : length more ≡ length read + width (get_or nodes i d) =
    ap length is ∙ length-append read (nodes_at places (length read) (get_or nodes i d)) ∙ ap (λ (n : ℕ). length read + n) (length-nodes_at places (length read) (get_or nodes i d)) in
    record {
      rest =
          ap₂ (λ (xs : List Node) (n : ℕ). xs ++ nodes_from places n (drop (i + 1) nodes)) is counted
          ∙ append_assoc read (nodes_at places (length read) (get_or nodes i d)) (nodes_from places (length read + width (get_or nodes i d)) (drop (i + 1) nodes))
          ∙ ap (λ (xs : List Node). read ++ xs) (sym (next_nodes places (length read) i nodes d inside))
          ∙ before.rest;
      few = let narrow = few_width (get_or nodes i d) in let old = before.few in omega arith;
    }

pub all_placed : (places : List ℕ) (nodes : List DocumentNode) (i : ℕ) (read : List Node) → length nodes ≤ i → AreReadTo places nodes i read → read ≡ nodes_from places 0 nodes
all_placed places nodes i read past so_far =
    sym (append-nil read) ∙ ap (λ (left : List DocumentNode). read ++ nodes_from places (length read) left) (sym (drop_all i nodes past)) ∙ so_far.rest

pub ruleset placing_turns = (none_placed, one_placed, all_placed, places_counted)

-- ---- inputs

each_read : {A B : Type 0} (P : B → Type 0) (f : List B → A → Meaning B) → ((before : List B) (x : A) → Read P (f before x)) → (before : List B) (xs : List A) → All P before
    → Read (All P) (one_by_one f before xs)
each_read P f h before [] all = all
each_read P f h before (x ∷ xs) all =
    read_with P (All P) (f before x) _ (h before x)
    (λ y is. each_read P f h (before ++ y ∷ []) xs (All-append P before (y ∷ []) all (All-cons P y [] is (All-nil P))))

module _ (names : List (List ℕ)) where
  -- a number of a node of the document
  abbrev IsWithin : ℕ → Type 0
  IsWithin number = number < length names

  number_within : (place : Place) (name : List ℕ) → Read IsWithin (number_of names place name)
  number_within place name = by (position (bytes_eq name) names) refl
    where
      by : (o : Option ℕ) → position (bytes_eq name) names ≡ o → Read IsWithin (ok_or o (refusal.Name place))
      by None e = tt
      by (Some number) e = (position-Some (bytes_eq name) names number [] e).0

  inputs_read : (place : Place) (d : Data) → Read (All IsWithin) (inputs_in names place d)
  inputs_read place d =
      read_then (All IsWithin) (strings_in place d) _
      (λ inputs. each_read IsWithin (λ _ name. number_of names place name) (λ _ name. number_within place name) [] inputs (All-nil IsWithin))

  needed_inputs : (node : ℕ) (d : Data) → Read (All IsWithin) (needed (in_node node key.Input) d >>= inputs_in names (in_node node key.Input))
  needed_inputs node d = read_then (All IsWithin) (needed (in_node node key.Input) d) _ (inputs_read (in_node node key.Input))

  inputs_of_node : (word : KindWord) (node : ℕ) (d : Data) → Read (All IsWithin) (inputs_of word names node d)
  inputs_of_node kind.Source node d = by (value_of key.Input d)
    where
      by : (o : Option Data) → Read (All IsWithin) (option_map_or (inputs_in names (in_node node key.Input)) o (Ok []))
      by None = All-nil IsWithin
      by (Some value) = inputs_read (in_node node key.Input) value
  inputs_of_node kind.ParDo node d = needed_inputs node d
  inputs_of_node kind.Flatten node d = needed_inputs node d
  inputs_of_node kind.Window node d = needed_inputs node d
  inputs_of_node kind.Group node d = needed_inputs node d
  inputs_of_node kind.Stateful node d = needed_inputs node d
  inputs_of_node kind.Write node d = needed_inputs node d

  closed_within : (version node : ℕ) (d : Data) (read : Node) → All IsWithin read.inputs → Read (λ it. All IsWithin it.inputs) (closed version node d read)
  closed_within version node d read within = by (has_only (node_keys version read.kind) d)
    where
      by : (b : Bool) → Read (λ it. All IsWithin it.inputs) (cond b (Ok read) (Err (refusal.Field (in_node node key.Other))))
      by true = within
      by false = tt

  plain_within : (word : KindWord) (version node : ℕ) (d : Data) → Read (λ it. All IsWithin it.inputs) (plain_of word version names node d)
  plain_within word version node d =
      read_with (All IsWithin) (λ it. All IsWithin it.inputs) (inputs_of word names node d) _ (inputs_of_node word node d)
      (λ inputs within. read_then (λ it. All IsWithin it.inputs) (settings_of word version node d) _
      (λ settings. closed_within version node d (record { kind = settings; inputs = inputs }) within))

  main_within : (node : ℕ) (d : Data) → Read IsWithin (main_of names node d)
  main_within node d =
      read_then IsWithin (needed (in_node node key.Input) d) _ (λ value. read_then IsWithin (strings_in (in_node node key.Input) value) _
      (λ inputs. read_then IsWithin (ok_or (one_of inputs) (refusal.Field (in_node node key.Input))) _ (number_within (in_node node key.Input))))

  view_within : (node : ℕ) (d : Data) → Read IsWithin (view_of names node d)
  view_within node d =
      read_then IsWithin (needed (in_node node key.View) d) _
      (λ value. read_then IsWithin (string_in (in_node node key.View) value) _ (number_within (in_node node key.View)))

  side_within : (node : ℕ) (d : Data) → Read (HasInputsWithin (length names)) (side_of names node d)
  side_within node d =
      read_with IsWithin (HasInputsWithin (length names)) (main_of names node d) _ (main_within node d)
      (λ main m. read_with IsWithin (HasInputsWithin (length names)) (view_of names node d) _ (view_within node d)
      (λ view v. read_then (HasInputsWithin (length names)) (view_mode_of node d) _ (λ mode. by main view mode m v (has_only side_keys d))))
    where
      by : (main view : ℕ) (mode : ViewMode) → IsWithin main → IsWithin view → (b : Bool)
          → Read (HasInputsWithin (length names)) (cond b (Ok (Side main view mode)) (Err (refusal.Field (in_node node key.Other))))
      by main view mode m v true = (m, v)
      by main view mode m v false = tt

  kind_within : (kind : DocumentKind) (version node : ℕ) (d : Data) → Read (HasInputsWithin (length names)) (node_of_kind kind version names node d)
  kind_within (document.Plain word) version node d =
      read_with (λ it. All IsWithin it.inputs) (HasInputsWithin (length names)) (plain_of word version names node d) _ (plain_within word version node d) (λ plain within. within)
  kind_within document.Side version node d = side_within node d

  node_within : (version node : ℕ) (d : Data) → Read (HasInputsWithin (length names)) (node_of version names node d)
  node_within version node d = read_then (HasInputsWithin (length names)) (kind_of version node d) _ (λ kind. kind_within kind version node d)

  nodes_within : (version : ℕ) (array : List Data) → Read (All (HasInputsWithin (length names))) (nodes_of version names array)
  nodes_within version array =
      each_read (HasInputsWithin (length names)) (λ before d. node_of version names (length before) d) (λ before d. node_within version (length before) d) [] array
      (All-nil (HasInputsWithin (length names)))

  pub inputs_within : (version : ℕ) (array : List Data) (nodes : List DocumentNode) → nodes_of version names array ≡ Ok nodes → All (HasInputsWithin (length names)) nodes
  inputs_within version array nodes e = subst (Read (All (HasInputsWithin (length names)))) e (nodes_within version array)

-- as many names as nodes
pub counted_alike : (names : List (List ℕ)) (nodes : List DocumentNode) → length names ≡ length nodes → length (plan_names names nodes) ≡ length (plan_nodes nodes)
counted_alike names nodes same = names_counted names nodes same ∙ sym (nodes_counted (places_of nodes) 0 nodes)
