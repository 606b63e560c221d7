-- What a plan document means: the plan, or the first rule that the document breaks. It is a function of the value that its JSON text
-- reads as.
use Rattle.std.specs.Prelude.{ℕ, ◌≤◌, IfOk, ◌&&◌, List, length, min, nat_le, nat_lt, if◌then◌else◌, Option, Some, None, is_some, ok_or, Ok, Err}
use Rattle.std.specs.Option.{option_and_then, option_map_or}
use Rattle.std.specs.Str.{is_utf8}
use Rattle.serde_json.specs.Data.{Data, Num}
use Rattle.serde_json.specs.Find.{as_array, as_number, as_object, as_u64}
use Rattle.serde_json.specs.Read.{read}
use Rattle.beam_values.specs.Checked.{graph_refusal}
use Rattle.beam_values.specs.declared.plan.Plan.{Plan}
use Rattle.plan_reader.specs.declared.placing.DocumentNode.{DocumentNode}
use Rattle.plan_reader.specs.declared.refusal.PlanKey.TheVariants as key
use Rattle.plan_reader.specs.declared.refusal.PlanRefusal.{PlanRefusal}
use Rattle.plan_reader.specs.declared.refusal.PlanRefusal.TheVariants.{Syntax, Field, Graph, Version, Length}
use Rattle.plan_reader.specs.Forms.{◌>>=◌, value_of, needed, has_only, any_number_in, items_list}
use Rattle.plan_reader.specs.Keys.{document_keys}
use Rattle.plan_reader.specs.Nodes.{names_of, nodes_of}
use Rattle.plan_reader.specs.Places.{at_top}
use Rattle.plan_reader.specs.Placing.{plan_names, plan_nodes, side_refusal}
use Rattle.plan_reader.specs.Refusals.{Meaning}

-- ---- the top object

abbrev pub latest_version : ℕ
latest_version = 3

-- Version 3 says more than a plan does: its side inputs and trees of triggers are read into a plan of version 2.
abbrev pub plan_version : ℕ → ℕ
plan_version version = min version 2

-- a whole number from 1 to the latest version
abbrev pub version_in : Num → Meaning ℕ
version_in number = do
  version ← ok_or (as_u64 number) Version
  if nat_le 1 version && nat_le version latest_version then Ok version else Err Version

-- the whole number that the key `beam` has, where it has one
abbrev pub beam_in : Data → Option ℕ
beam_in d = option_and_then as_u64 (option_and_then as_number (value_of key.Beam d))

-- the version of an object
abbrev pub version_of : Data → Meaning ℕ
version_of d = if is_some (as_object d) then (do
  value ← needed (at_top key.Beam) d
  beam ← any_number_in (at_top key.Beam) value
  version_in beam)
    else Err (Field (at_top key.Other))

-- the array of its nodes, where it has no other keys
abbrev pub array_of : Data → Meaning (List Data)
array_of d = do
  value ← needed (at_top key.Nodes) d
  nodes ← ok_or (as_array value) (Field (at_top key.Nodes))
  if has_only document_keys d then Ok (items_list nodes) else Err (Field (at_top key.Other))

-- ---- the plan

-- a plan that is a pipeline
abbrev pub checked : Plan → Meaning Plan
checked plan = option_map_or (λ refusal. Err (Graph refusal)) (graph_refusal plan) (Ok plan)

-- a pipeline none of whose side inputs has windows that merge; the first one that has is refused by its view
abbrev pub unmerged : List DocumentNode → Plan → Meaning Plan
unmerged nodes plan = option_map_or (λ refusal. Err refusal) (side_refusal plan 0 0 nodes) (Ok plan)

-- the pipeline of the nodes of a document of this version
abbrev pub graph_of : ℕ → List DocumentNode → Meaning Plan
graph_of version nodes = do
  plan ← checked (record { version = plan_version version; nodes = plan_nodes nodes })
  unmerged nodes plan

abbrev pub plan_of : Data → Meaning Plan
plan_of d = do
  version ← version_of d
  array ← array_of d
  names ← names_of array
  nodes ← nodes_of version names array
  graph_of version nodes

-- the nodes, as the document has them
abbrev pub read_nodes_of : Data → Meaning (List DocumentNode)
read_nodes_of d = do
  version ← version_of d
  array ← array_of d
  names ← names_of array
  nodes_of version names array

-- the names of the nodes of the plan, in their order
abbrev pub array_names_of : Data → Meaning (List (List ℕ))
array_names_of d = do
  version ← version_of d
  array ← array_of d
  names ← names_of array
  nodes ← nodes_of version names array
  Ok (plan_names names nodes)

-- ---- the bytes

abbrev pub longest_document : ℕ
longest_document = 1048576

-- each node takes a byte at least; for private clauses, since this is so of every document that is read
abbrev pub HasFewNodes : Data → Type 0
HasFewNodes d = IfOk (array_of d) (λ nodes. length nodes ≤ longest_document)

abbrev pub length_refusal : ℕ → Option PlanRefusal
length_refusal len = if nat_lt longest_document len then Some (Length len) else None

-- the value of the JSON text, where the bytes are one
abbrev pub json_of : List ℕ → Option Data
json_of bytes = if is_utf8 bytes then read bytes else None

abbrev pub beam_of : List ℕ → Option ℕ
beam_of bytes = option_and_then beam_in (json_of bytes)

abbrev pub text_of : List ℕ → Meaning Plan
text_of bytes = ok_or (json_of bytes) Syntax >>= plan_of

abbrev pub document_of : List ℕ → Meaning Plan
document_of bytes = option_map_or (λ refusal. Err refusal) (length_refusal (length bytes)) (text_of bytes)

-- the nodes of a document
abbrev pub document_nodes_of : List ℕ → Meaning (List DocumentNode)
document_nodes_of bytes = ok_or (json_of bytes) Syntax >>= read_nodes_of

-- The names that a document gives the nodes of its plan, each by the number of its node. Those of a document that is a plan are as many as its nodes, and
-- this is said where they are read.
abbrev pub node_names_of : List ℕ → Meaning (List (List ℕ))
node_names_of bytes = ok_or (json_of bytes) Syntax >>= array_names_of
