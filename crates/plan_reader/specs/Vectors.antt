-- Documents and what they mean, computed: first refusals by their texts, in the order in which the rules are tested, and a plan that is
-- read.
use Rattle.std.specs.Prelude.{◌≡◌, ℕ, List, [], ◌∷◌, ◌++◌, codes, map, Some, Ok, Err, fold, refl}
use Rattle.std.specs.Fmt.{digits}
use Rattle.serde_json.specs.Data.{Data, null, number, unsigned, string, array, object, Items, no_items, item, Members, no_members, put}
use Rattle.beam_values.specs.declared.plan.Args.TheVariants.{Two}
use Rattle.beam_values.specs.declared.plan.Estimator.TheVariants as estimator
use Rattle.beam_values.specs.declared.plan.Node.{Node}
use Rattle.beam_values.specs.declared.plan.NodeKind.TheVariants.{Source, Write}
use Rattle.beam_values.specs.declared.plan.Plan.{Plan}
use Rattle.beam_values.specs.declared.plan.SourceKind.TheVariants.{Made}
use Rattle.plan_reader.specs.declared.refusal.PlanRefusal.TheVariants.{Length}
use Rattle.side_inputs.specs.Nodes.{side_nodes}
use Rattle.side_inputs.specs.declared.nodes.ViewMode.TheVariants as mode
use Rattle.trigger_algebra.specs.declared.when.When.TheFolds.{fold-roll-When}
use Rattle.plan_reader.specs.Documents.{length_refusal, plan_of}
use Rattle.plan_reader.specs.Refusals.{Meaning}
use Rattle.plan_reader.specs.Texts.{refusal_text}

-- an object of these members, as the JSON text gives them one after another
abbrev members : List (List ℕ × Data) → Members
members entries = fold (λ found entry. put entry.0 entry.1 found) no_members entries

abbrev items : List Data → Items
items [] = no_items
items (d ∷ ds) = item d (items ds)

abbrev whole : ℕ → Data
whole n = number (unsigned n)

abbrev names : List (List ℕ) → Data
names words = array (items (map string words))

-- {"beam":VERSION,"nodes":[..]}
abbrev document_at : ℕ → List Data → Data
document_at version nodes = object (members ((codes "beam", whole version) ∷ (codes "nodes", array (items nodes)) ∷ []))

-- {"beam":1,"nodes":[..]}
abbrev document : List Data → Data
document nodes = document_at 1 nodes

-- a node of this name and kind, and its further members
abbrev node : List ℕ → List ℕ → List (List ℕ × Data) → Data
node name kind further = object (members ((codes "name", string name) ∷ (codes "kind", string kind) ∷ further))

-- "work":WORD
abbrev work : List ℕ → List ℕ × Data
work word = (codes "work", string word)

-- "count":COUNT,"number":NUMBER
abbrev counts : ℕ → ℕ → List (List ℕ × Data)
counts count second = (codes "count", whole count) ∷ (codes "number", whole second) ∷ []

-- {"name":NAME,"kind":"source","work":"Made","count":1,"number":0}
abbrev made : List ℕ → Data
made name = node name (codes "source") (work (codes "Made") ∷ counts 1 0)

-- a node of this name, kind and inputs, and its further members
abbrev below : List ℕ → List ℕ → List (List ℕ) → List (List ℕ × Data) → Data
below name kind inputs further = node name kind ((codes "input", names inputs) ∷ further)

abbrev source : Data
source = made (codes "s")

-- {"name":"w","kind":"write","input":["s"]}
abbrev write : Data
write = below (codes "w") (codes "write") (codes "s" ∷ []) []

-- the text of the refusal of a document, and none where it is a plan
abbrev text_of : Meaning Plan → List ℕ
text_of (Ok plan) = []
text_of (Err refusal) = refusal_text refusal

abbrev refused : Data → List ℕ
refused d = text_of (plan_of d)

without_nodes : refused (object (members ((codes "beam", whole 1) ∷ []))) ≡ codes "2 field top nodes"
unfolding digits
without_nodes = refl

of_version_0 : refused (document_at 0 []) ≡ codes "6 version"
unfolding digits
of_version_0 = refl

of_version_2 : refused (document_at 2 []) ≡ codes "5 graph 1 empty"
unfolding digits
of_version_2 = refl

of_version_3 : refused (document_at 3 []) ≡ codes "5 graph 1 empty"
unfolding digits
of_version_3 = refl

of_version_4 : refused (document_at 4 []) ≡ codes "6 version"
unfolding digits
of_version_4 = refl

unknown_kind : refused (document (node (codes "a") (codes "sort") [] ∷ [])) ≡ codes "3 name node 0 kind"
unfolding digits
unknown_kind = refl

abbrev counted : Data
counted = node (codes "a") (codes "source") (work (codes "Count") ∷ counts 2000000000 1)

count_too_great : refused (document (counted ∷ [])) ≡ codes "4 number node 0 count"
unfolding digits
count_too_great = refl

no_node : refused (document []) ≡ codes "5 graph 1 empty"
unfolding digits
no_node = refl

write_before_source : refused (document (write ∷ source ∷ [])) ≡ codes "5 graph 3 input 0"
unfolding digits
write_before_source = refl

abbrev swap : Data
swap = below (codes "p") (codes "pardo") (codes "s" ∷ codes "s" ∷ []) (work (codes "Swap") ∷ [])

two_inputs : refused (document (source ∷ swap ∷ write ∷ [])) ≡ codes "5 graph 4 arity 1"
unfolding digits
two_inputs = refl

no_write : refused (document (source ∷ [])) ≡ codes "5 graph 5 no write"
unfolding digits
no_write = refl

below_a_write : refused (document (source ∷ write ∷ below (codes "v") (codes "write") (codes "w" ∷ []) [] ∷ [])) ≡ codes "5 graph 6 kind 2"
unfolding digits
below_a_write = refl

abbrev sessions : Data
sessions =
    below (codes "z") (codes "window") (codes "s" ∷ []) ((codes "windows", object (members ((codes "sessions", whole 10) ∷ []))) ∷ [])

abbrev dedupe : Data
dedupe = below (codes "t") (codes "stateful") (codes "z" ∷ []) (work (codes "Dedupe") ∷ [])

state_in_sessions : refused (document (source ∷ sessions ∷ dedupe ∷ write ∷ [])) ≡ codes "5 graph 7 setting 2"
unfolding digits
state_in_sessions = refl

abbrev fed : Data
fed = below (codes "x") (codes "source") (codes "s" ∷ []) (work (codes "Made") ∷ counts 1 0)

source_with_input : refused (document (source ∷ fed ∷ write ∷ [])) ≡ codes "5 graph 8 source with input 1"
unfolding digits
source_with_input = refl

too_long : length_refusal 1048577 ≡ Some (Length 1048577)
too_long = refl

-- that a node is an object is judged before the kind of an earlier node
earlier_rule : refused (document (node (codes "a") (codes "sort") [] ∷ null ∷ [])) ≡ codes "2 field node 1 other"
unfolding digits
earlier_rule = refl

-- "input":["u",null], where no node is named u
abbrev malformed : Data
malformed = node (codes "v") (codes "write") ((codes "input", array (item (string (codes "u")) (item null no_items))) ∷ [])

form_before_word : refused (document (source ∷ malformed ∷ [])) ≡ codes "2 field node 1 input"
unfolding digits
form_before_word = refl

abbrev with_files : Data
with_files = node (codes "s") (codes "source") (work (codes "Made") ∷ (codes "files", names []) ∷ counts 1 0)

unlisted_key : refused (document (with_files ∷ [])) ≡ codes "2 field node 0 other"
unfolding digits
unlisted_key = refl

-- a Made read and written, with the label and the estimator that are left out
abbrev read_source : Node
read_source = record { kind = Source Made (Two 1 0) [] estimator.None; inputs = [] }

abbrev read_write : Node
read_write = record { kind = Write (codes "w"); inputs = 0 ∷ [] }

read : plan_of (document (source ∷ write ∷ [])) ≡ Ok (record { version = 1; nodes = read_source ∷ read_write ∷ [] })
read = refl

read_at_2 : plan_of (document_at 2 (source ∷ write ∷ [])) ≡ Ok (record { version = 2; nodes = read_source ∷ read_write ∷ [] })
read_at_2 = refl

-- ---- side inputs

-- {"name":NAME,"kind":"side","input":INPUTS,"view":"s","mode":"list"}
abbrev side : List ℕ → List (List ℕ) → Data
side name inputs = below name (codes "side") inputs ((codes "view", string (codes "s")) ∷ (codes "mode", string (codes "list")) ∷ [])

-- {"name":"w","kind":"write","input":["j"]}
abbrev write_joined : Data
write_joined = below (codes "w") (codes "write") (codes "j" ∷ []) []

one_main_input : refused (document_at 3 (source ∷ side (codes "j") (codes "s" ∷ codes "s" ∷ []) ∷ write_joined ∷ [])) ≡ codes "2 field node 1 input"
unfolding digits
one_main_input = refl

no_side_in_version_2 : refused (document_at 2 (source ∷ side (codes "j") (codes "s" ∷ []) ∷ write_joined ∷ [])) ≡ codes "3 name node 1 kind"
unfolding digits
no_side_in_version_2 = refl

-- the five nodes are 1 to 5, and the Write is 6 and takes from the last of them
read_with_a_side : plan_of (document_at 3 (source ∷ side (codes "j") (codes "s" ∷ []) ∷ write_joined ∷ []))
    ≡ Ok (record { version = 2; nodes = read_source ∷ side_nodes 0 0 1 mode.List ++ record { kind = Write (codes "w"); inputs = 5 ∷ [] } ∷ [] })
read_with_a_side = refl

-- {"name":"j","kind":"side","input":["z"],"view":"z","mode":"list"}
abbrev side_of_sessions : Data
side_of_sessions =
    below (codes "j") (codes "side") (codes "z" ∷ []) ((codes "view", string (codes "z")) ∷ (codes "mode", string (codes "list")) ∷ [])

-- the windows of the side input merge, and the document's number of it is told
merging_side : refused (document_at 3 (source ∷ sessions ∷ side_of_sessions ∷ write_joined ∷ [])) ≡ codes "3 name node 2 view"
unfolding digits
merging_side = refl

-- ---- trees of triggers

-- {WORD:VALUE}
abbrev tree : List ℕ → Data → Data
tree word value = object (members ((word, value) ∷ []))

-- a Group whose early panes fire by a tree, and its further members
abbrev group_by : Data → List (List ℕ × Data) → Data
group_by when further = below (codes "g") (codes "group") (codes "s" ∷ []) ((codes "early_when", when) ∷ further)

-- {"first":[{"count":0},{"never":1}]}
abbrev malformed_tree : Data
malformed_tree = tree (codes "first") (array (items (tree (codes "count") (whole 0) ∷ tree (codes "never") (whole 1) ∷ [])))

form_before_number : refused (document_at 3 (source ∷ group_by malformed_tree [] ∷ [])) ≡ codes "2 field node 1 early_when"
unfolding digits
form_before_number = refl

both_keys : refused (document_at 3 (source ∷ group_by (whole 7) ((codes "early", string (codes "x")) ∷ []) ∷ [])) ≡ codes "2 field node 1 early_when"
unfolding digits
both_keys = refl

no_tree_in_version_2 : refused (document_at 2 (source ∷ group_by (tree (codes "count") (whole 2)) [] ∷ [])) ≡ codes "2 field node 1 other"
unfolding digits
no_tree_in_version_2 = refl

-- {"mark":0}
mark_not_before_the_end : refused (document_at 3 (source ∷ group_by (tree (codes "mark") (whole 0)) [] ∷ [])) ≡ codes "4 number node 1 early_when"
unfolding digits
mark_not_before_the_end = simp fold-roll-When refl
