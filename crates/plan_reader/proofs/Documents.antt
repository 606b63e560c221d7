-- When a document is refused for its bytes, and what is read of it.
use Rattle.std.proofs.Common.{◌≡◌, ℕ, ◌<◌, ◌≤◌, ◌↔◌, ◌&&◌, List, length, Bool, true, false, Option, Some, None, Ok, Err, is_some, ok_or, nat_le, nat_lt, refl, subst, cond}
use Rattle.std.specs.Option.{option_and_then, option_map_or}
use Rattle.std.proofs.lemmas.Bool.{and_parts, leb-true, ltb-false, le-ltb, ltb-true, lt-ltb}
use Rattle.serde_json.specs.Data.{Data, Num}
use Rattle.serde_json.specs.Find.{as_number, as_object, as_u64}
use Rattle.beam_values.specs.Checked.{IsChecked, graph_refusal}
use Rattle.beam_values.specs.declared.graph_refusal.GraphRefusal.{GraphRefusal}
use Rattle.beam_values.specs.declared.plan.Plan.{Plan}
use Rattle.plan_reader.specs.Documents.{array_of, beam_in, beam_of, checked, document_of, graph_of, json_of, latest_version, longest_document, plan_of, plan_version, unmerged, version_in, version_of}
use Rattle.plan_reader.specs.Nodes.{names_of, nodes_of}
use Rattle.plan_reader.specs.Forms.{◌>>=◌, any_number_in, needed, value_of}
use Rattle.plan_reader.specs.Places.{at_top}
use Rattle.plan_reader.specs.Placing.{plan_nodes, side_refusal}
use Rattle.plan_reader.specs.declared.placing.DocumentNode.{DocumentNode}
use Rattle.plan_reader.specs.declared.refusal.PlanKey.TheVariants as key
use Rattle.plan_reader.specs.Refusals.{Meaning}
use Rattle.plan_reader.specs.declared.refusal.PlanRefusal.{PlanRefusal}
use Rattle.plan_reader.specs.declared.refusal.PlanRefusal.TheVariants.{Syntax, Field, Graph, Version, Length}
use Rattle.plan_reader.proofs.Causes.{plan_judges}

abbrev document_at : ℕ → Bool → Option Data → Meaning Plan
document_at len long o = option_map_or (λ refusal. Err refusal) (cond long (Some (Length len)) None) (ok_or o Syntax >>= plan_of)

syntax_at : (len : ℕ) (long : Bool) (o : Option Data) → document_at len long o ≡ Err Syntax → (long ≡ false) × (o ≡ None)
syntax_at len true o e = absurd cc
syntax_at len false None e = (refl, refl)
syntax_at len false (Some d) e = absurd ((plan_judges d).cause Syntax e)

length_at : (len n : ℕ) (long : Bool) (o : Option Data) → document_at len long o ≡ Err (Length n) → (long ≡ true) × (n ≡ len)
length_at len n true o e = (refl, cc)
length_at len n false None e = absurd cc
length_at len n false (Some d) e = absurd ((plan_judges d).cause (Length n) e)

to_syntax : (bytes : List ℕ) → document_of bytes ≡ Err Syntax → (length bytes ≤ longest_document) × (json_of bytes ≡ None)
to_syntax bytes e = let p = syntax_at (length bytes) (nat_lt longest_document (length bytes)) (json_of bytes) e in (ltb-false longest_document (length bytes) p.0, p.1)

from_syntax : (bytes : List ℕ) → (length bytes ≤ longest_document) × (json_of bytes ≡ None) → document_of bytes ≡ Err Syntax
from_syntax bytes h = rw (le-ltb longest_document (length bytes) h.0, h.1) refl

pub syntax_of_text : (bytes : List ℕ) → (document_of bytes ≡ Err Syntax) ↔ ((length bytes ≤ longest_document) × (json_of bytes ≡ None))
syntax_of_text bytes = (to_syntax bytes, from_syntax bytes)

to_length : (bytes : List ℕ) (n : ℕ) → document_of bytes ≡ Err (Length n) → (longest_document < length bytes) × (n ≡ length bytes)
to_length bytes n e = let p = length_at (length bytes) n (nat_lt longest_document (length bytes)) (json_of bytes) e in (ltb-true longest_document (length bytes) p.0, p.1)

from_length : (bytes : List ℕ) (n : ℕ) → (longest_document < length bytes) × (n ≡ length bytes) → document_of bytes ≡ Err (Length n)
from_length bytes n h = rw (lt-ltb longest_document (length bytes) h.0, h.1) refl

pub length_of_bytes : (bytes : List ℕ) (n : ℕ) → (document_of bytes ≡ Err (Length n)) ↔ ((longest_document < length bytes) × (n ≡ length bytes))
length_of_bytes bytes n = (to_length bytes n, from_length bytes n)

-- ---- what is read

-- P holds of what is read
abbrev pub Read : {A : Type 0} → (A → Type 0) → Meaning A → Type 0
Read P (Ok x) = P x
Read P (Err r) = Unit {0}

pub read_with : {A B : Type 0} (Q : A → Type 0) (P : B → Type 0) (m : Meaning A) (f : A → Meaning B) → Read Q m → ((x : A) → Q x → Read P (f x)) → Read P (m >>= f)
read_with Q P (Ok x) f q h = h x q
read_with Q P (Err r) f q h = tt

pub read_then : {A B : Type 0} (P : B → Type 0) (m : Meaning A) (f : A → Meaning B) → ((x : A) → Read P (f x)) → Read P (m >>= f)
read_then P (Ok x) f h = h x
read_then P (Err r) f h = tt

read_of : {A B : Type 0} (P : B → Type 0) (o : Option A) (r : PlanRefusal) (f : A → Meaning B) → ((x : A) → o ≡ Some x → Read P (f x)) → Read P (ok_or o r >>= f)
read_of P (Some x) r f h = h x refl
read_of P None r f h = tt

-- this number is there and is the version of a document that is read
record IsVersionOf (number : Option ℕ) (version : ℕ) : Type 0 where
  own : number ≡ Some version
  least : 1 ≤ version
  most : version ≤ 3

record IsPipelineOf (number : Option ℕ) (plan : Plan) : Type 0 where
  pipeline : IsChecked plan
  beam : ℕ
  version : IsVersionOf number beam
  same : plan.version ≡ plan_version beam

checked_at : (number : Option ℕ) (plan : Plan) (beam : ℕ) (o : Option GraphRefusal) → graph_refusal plan ≡ o → IsVersionOf number beam → plan.version ≡ plan_version beam
    → Read (IsPipelineOf number) (option_map_or (λ refusal. Err (Graph refusal)) o (Ok plan))
checked_at number plan beam None e v same = record { pipeline = record { unrefused = e }; beam = beam; version = v; same = same }
checked_at number plan beam (Some r) e v same = tt

kept : {A : Type 0} (P : A → Type 0) (o : Option PlanRefusal) (x : A) → P x → Read P (option_map_or (λ refusal. Err refusal) o (Ok x))
kept P None x h = h
kept P (Some r) x h = tt

accepted : (b : Bool) (number : Option ℕ) (n : ℕ) → number ≡ Some n → (nat_le 1 n && nat_le n latest_version) ≡ b → Read (IsVersionOf number) (cond b (Ok n) (Err Version))
accepted true number n own test = let parts = and_parts (nat_le 1 n) (nat_le n latest_version) test in record { own = own; least = leb-true 1 n parts.0; most = leb-true n latest_version parts.1 }
accepted false number n own test = tt

version_read : (d : Data) → Read (IsVersionOf (beam_in d)) (version_of d)
version_read d = by (is_some (as_object d))
  where
    P : ℕ → Type 0
    P = IsVersionOf (beam_in d)

    by_number : (value : Data) → value_of key.Beam d ≡ Some value → (number : Num) → as_number value ≡ Some number → Read P (version_in number)
    by_number value at number is = read_of P (as_u64 number) Version _ (λ n whole. accepted _ (beam_in d) n (rw (at, is) whole) refl)

    by_value : (value : Data) → value_of key.Beam d ≡ Some value → Read P (any_number_in (at_top key.Beam) value >>= version_in)
    by_value value at = read_of P (as_number value) (Field (at_top key.Beam)) version_in (by_number value at)

    by : (b : Bool) → Read P (cond b (needed (at_top key.Beam) d >>= λ value. any_number_in (at_top key.Beam) value >>= version_in) (Err (Field (at_top key.Other))))
    by true = read_of P (value_of key.Beam d) (Field (at_top key.Beam)) _ by_value
    by false = tt

graph_read : (number : Option ℕ) (version : ℕ) (nodes : List DocumentNode) → IsVersionOf number version
    → Read (IsPipelineOf number) (graph_of version nodes)
graph_read number version nodes known =
    read_with (IsPipelineOf number) (IsPipelineOf number) (checked (record { version = plan_version version; nodes = plan_nodes nodes })) (unmerged nodes)
    (checked_at number (record { version = plan_version version; nodes = plan_nodes nodes }) version _ refl known refl)
    (λ plan is. kept (IsPipelineOf number) (side_refusal plan 0 0 nodes) plan is)

plan_read : (d : Data) → Read (IsPipelineOf (beam_in d)) (plan_of d)
plan_read d =
    read_with (IsVersionOf (beam_in d)) (IsPipelineOf (beam_in d)) (version_of d) _ (version_read d)
    (λ version known. read_then (IsPipelineOf (beam_in d)) (array_of d) _ (λ array. read_then (IsPipelineOf (beam_in d)) (names_of array) _
    (λ names. read_then (IsPipelineOf (beam_in d)) (nodes_of version names array) _ (λ nodes. graph_read (beam_in d) version nodes known))))

document_read : (len : ℕ) (long : Bool) (o : Option Data) → Read (IsPipelineOf (option_and_then beam_in o)) (document_at len long o)
document_read len true o = tt
document_read len false None = tt
document_read len false (Some d) = plan_read d

pipeline_of : (bytes : List ℕ) (plan : Plan) → document_of bytes ≡ Ok plan → IsPipelineOf (beam_of bytes) plan
pipeline_of bytes plan e = subst (Read (IsPipelineOf (beam_of bytes))) e (document_read (length bytes) (nat_lt longest_document (length bytes)) (json_of bytes))

pub are_pipelines : (bytes : List ℕ) (plan : Plan) → document_of bytes ≡ Ok plan → IsChecked plan
are_pipelines bytes plan e = (pipeline_of bytes plan e).pipeline

pub have_their_version : (bytes : List ℕ) (plan : Plan) → document_of bytes ≡ Ok plan
    → (beam : ℕ) × (beam_of bytes ≡ Some beam) × (1 ≤ beam) × (beam ≤ 3) × (plan.version ≡ plan_version beam)
have_their_version bytes plan e =
    let p = pipeline_of bytes plan e in
    (p.beam, p.version.own, p.version.least, p.version.most, p.same)
