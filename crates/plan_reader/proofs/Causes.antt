-- No rule on the JSON value says that the bytes are no JSON text, or that they are too many.
use Rattle.std.proofs.Common.{◌≡◌, ℕ, ◌+◌, ℤ, List, [], ◌∷◌, ◌++◌, length, Bool, true, false, cond, Option, Some, None, Ok, Err, ok_or, refl, subst}
use Rattle.std.specs.Prelude.{⊤}
use Rattle.std.specs.Option.{option_map_or}
use Rattle.serde_json.specs.Data.{Data}
use Rattle.beam_values.specs.Checked.{graph_refusal}
use Rattle.beam_values.specs.declared.plan.FnKind.{FnKind}
use Rattle.beam_values.specs.declared.plan.FnKind.TheVariants as function
use Rattle.beam_values.specs.declared.plan.Plan.{Plan}
use Rattle.beam_values.specs.declared.plan.SourceKind.{SourceKind}
use Rattle.beam_values.specs.declared.plan.SourceKind.TheVariants as source
use Rattle.beam_values.specs.declared.plan.StateKind.{StateKind}
use Rattle.beam_values.specs.declared.plan.StateKind.TheVariants as state
use Rattle.plan_reader.specs.declared.refusal.Place.{Place}
use Rattle.plan_reader.specs.declared.refusal.PlanKey.{PlanKey}
use Rattle.beam_values.specs.declared.plan.Strategy.{Strategy}
use Rattle.plan_reader.specs.Places.{in_node}
use Rattle.plan_reader.specs.declared.refusal.PlanKey.TheVariants as key
use Rattle.plan_reader.specs.declared.refusal.PlanRefusal.{PlanRefusal}
use Rattle.plan_reader.specs.declared.refusal.PlanRefusal.TheVariants as refusal
use Rattle.plan_reader.specs.declared.words.KindWord.{KindWord}
use Rattle.plan_reader.specs.declared.words.KindWord.TheVariants as kind
use Rattle.plan_reader.specs.declared.placing.DocumentNode.{DocumentNode}
use Rattle.plan_reader.specs.declared.words.DocumentKind.{DocumentKind}
use Rattle.plan_reader.specs.declared.words.DocumentKind.TheVariants as document
use Rattle.plan_reader.specs.Documents.{array_of, checked, plan_of, unmerged, version_in, version_of}
use Rattle.plan_reader.specs.Forms.{◌>>=◌, one_by_one, or_absent, needed, string_in, text_in, word_in, strings_in, pair_in, any_number_in, within, number_in, bool_in, value_of}
use Rattle.plan_reader.specs.Nodes.{name_of, names_of, number_of, inputs_in, inputs_of, kind_of, main_of, node_of, node_of_kind, nodes_of, plain_of, side_of, view_mode_of, view_of}
use Rattle.plan_reader.specs.Placing.{merges, side_refusal, width}
use Rattle.plan_reader.specs.Refusals.{Meaning}
use Rattle.plan_reader.specs.Settings.{work_at, number_at, number_or, files_at, source_files, counts_at, source_args, lag_of, estimator_in, estimator_at, source_of, number_args, text_args, function_args, pardo_of, state_args, stateful_of, allowed, fixed_in, sliding_in, sessions_in, windows_of, strategy_in, window_of, early_in, early_at, early_of, late_of, needed_alone, mode_at, group_of, write_of, settings_of, longest}
use Rattle.plan_reader.specs.Trees.{bars_in, bars_of}
use Rattle.trigger_algebra.specs.declared.when.When.{When}

-- a refusal of the JSON value
abbrev pub IsOfValue : PlanRefusal → Type 0
IsOfValue refusal.Syntax = ⊥
IsOfValue (refusal.Length len) = ⊥
IsOfValue _ = ⊤

pub record Judges {A : Type 0} (m : Meaning A) : Type 0 where
  pub cause : (r : PlanRefusal) → m ≡ Err r → IsOfValue r

judged : {A : Type 0} (x : A) → Judges (Ok x)
judged x = record { cause = λ r e. absurd cc }

refused : {A : Type 0} (r : PlanRefusal) → IsOfValue r → Judges {A = A} (Err r)
refused r h = record { cause = λ s e. let same : r ≡ s = cc in subst IsOfValue same h }

then : {A B : Type 0} (m : Meaning A) (f : A → Meaning B) → Judges m → ((x : A) → Judges (f x)) → Judges (m >>= f)
then (Ok x) f h k = k x
then (Err r) f h k = refused r (h.cause r refl)

found : {A : Type 0} (o : Option A) (r : PlanRefusal) → IsOfValue r → Judges (ok_or o r)
found None r h = refused r h
found (Some x) r h = judged x

tested : {A : Type 0} (b : Bool) (m n : Meaning A) → Judges m → Judges n → Judges (cond b m n)
tested true m n h k = h
tested false m n h k = k

each : {A B : Type 0} (f : List B → A → Meaning B) → ((before : List B) (x : A) → Judges (f before x)) → (before : List B) (xs : List A) → Judges (one_by_one f before xs)
each f h before [] = judged before
each f h before (x ∷ xs) = then (f before x) (λ y. one_by_one f (before ++ y ∷ []) xs) (h before x) (λ y. each f h (before ++ y ∷ []) xs)

either : {A B : Type 0} (f : A → Meaning B) (o : Option A) (m : Meaning B) → ((x : A) → Judges (f x)) → Judges m → Judges (option_map_or f o m)
either f None m h k = k
either f (Some x) m h k = h x

-- ---- forms

string : (place : Place) (d : Data) → Judges (string_in place d)
string place d = search (found)

text : (least most : ℕ) (place : Place) (d : Data) → Judges (text_in least most place d)
text least most place d = search (string, then, tested, judged, refused)

word : {A : Type 0} (table : List ℕ → Option A) (place : Place) (d : Data) → Judges (word_in table place d)
word table place d = search (string, then, found)

strings : (place : Place) (d : Data) → Judges (strings_in place d)
strings place d = search (then, found, each, string)

judged_within : (least most : ℕ) (place : Place) (n : _) → Judges (within least most place n)
judged_within least most place n = search (then, found, tested, judged, refused)

needed_judges : (place : Place) (d : Data) → Judges (needed place d)
needed_judges place d = search (found)

absent_judges : {A : Type 0} (x : A) (form : Place → Data → Meaning A) (place : Place) (d : Data) → ((value : Data) → Judges (form place value)) → Judges (or_absent x form place d)
absent_judges x form place d h = either (form place) (value_of place.key d) (Ok x) h (judged x)

pair : (place : Place) (d : Data) → Judges (pair_in place d)
pair place d = search (found)

any_number : (place : Place) (d : Data) → Judges (any_number_in place d)
any_number place d = search (found)

number : (least most : ℕ) (place : Place) (d : Data) → Judges (number_in least most place d)
number least most place d = search (then, any_number, judged_within)

bool : (place : Place) (d : Data) → Judges (bool_in place d)
bool place d = search (found)

-- ---- settings

work : {A : Type 0} (table : List (List ℕ × A)) (node : ℕ) (d : Data) → Judges (work_at table node d)
work table node d = search (then, needed_judges, word)

number_needed : (key : PlanKey) (least most node : ℕ) (d : Data) → Judges (number_at key least most node d)
number_needed key least most node d = search (then, needed_judges, number)

number_absent : (default : ℕ) (key : PlanKey) (least most node : ℕ) (d : Data) → Judges (number_or default key least most node d)
number_absent default key least most node d = search (absent_judges, number)

files : (node : ℕ) (d : Data) → Judges (files_at node d)
files node d = search (then, needed_judges, strings, each, tested, judged, refused) depth 9

kind_files : (work : SourceKind) (node : ℕ) (d : Data) → Judges (source_files work node d)
kind_files source.Lines node d = files node d
kind_files source.TimedLines node d = files node d
kind_files source.Count node d = judged []
kind_files source.Made node d = judged []

counts : (most node : ℕ) (d : Data) → Judges (counts_at most node d)
counts most node d = search (then, number_needed, judged)

kind_args : (work : SourceKind) (node : ℕ) (d : Data) → Judges (source_args work node d)
kind_args source.Lines node d = judged _
kind_args source.TimedLines node d = judged _
kind_args source.Count node d = counts 1000000000 node d
kind_args source.Made node d = counts 1000000 node d

lag : (place : Place) (entry : List ℕ × Data) → Judges (lag_of place entry)
lag place entry = search (tested, then, number, judged, refused)

estimator : (node : ℕ) (d : Data) → Judges (estimator_at node d)
estimator node d = absent_judges _ estimator_in (in_node node key.Estimator) d (λ value. search (either, found, lag, refused))

source_judges : (node : ℕ) (d : Data) → Judges (source_of node d)
source_judges node d = search (then, work, kind_files, kind_args, estimator, judged)

number_judges : (least most node : ℕ) (d : Data) → Judges (number_args least most node d)
number_judges least most node d = search (then, number_needed, judged)

text_judges : (node : ℕ) (d : Data) → Judges (text_args node d)
text_judges node d = search (then, needed_judges, text, judged)

function_judges : (work : FnKind) (node : ℕ) (d : Data) → Judges (function_args work node d)
function_judges function.Field node d = number_judges 0 1000 node d
function_judges function.Shift node d = number_judges 0 longest node d
function_judges function.KeepPrefix node d = text_judges node d
function_judges _ node d = judged _

pardo_judges : (node : ℕ) (d : Data) → Judges (pardo_of node d)
pardo_judges node d = search (then, work, function_judges, judged)

state_judges : (work : StateKind) (node : ℕ) (d : Data) → Judges (state_args work node d)
state_judges state.BatchUntil node d = number_judges 1 1000000 node d
state_judges state.LatestThenEmit node d = number_judges 0 longest node d
state_judges _ node d = judged _

stateful_judges : (node : ℕ) (d : Data) → Judges (stateful_of node d)
stateful_judges node d = search (then, work, state_judges, absent_judges, bool, judged)

allowed_judges : (place : Place) (strategy : Strategy) → Judges (allowed place strategy)
allowed_judges place strategy = search (tested, judged, refused)

fixed : (place : Place) (d : Data) → Judges (fixed_in place d)
fixed place d = search (then, number, allowed_judges)

sliding : (place : Place) (d : Data) → Judges (sliding_in place d)
sliding place d = search (then, pair, any_number, judged_within, allowed_judges) depth 9

sessions : (place : Place) (d : Data) → Judges (sessions_in place d)
sessions place d = search (then, number, allowed_judges)

windows : (place : Place) (entry : List ℕ × Data) → Judges (windows_of place entry)
windows place entry = search (tested, fixed, sliding, sessions, refused)

strategy_judges : (place : Place) (d : Data) → Judges (strategy_in place d)
strategy_judges place d = search (either, windows, tested, judged, refused)

window_judges : (node : ℕ) (d : Data) → Judges (window_of node d)
window_judges node d = search (then, needed_judges, strategy_judges, judged)

early : (place : Place) (d : Data) → Judges (early_in place d)
early place d = search (then, number, judged)

early_judges : (node : ℕ) (d : Data) → Judges (early_at node d)
early_judges node d = search (absent_judges, early)

mode_judges : (node : ℕ) (d : Data) → Judges (mode_at node d)
mode_judges node d = search (absent_judges, word)

-- ---- trees of triggers

judged_bars : (least most : ℤ) (place : Place) (o : Option When) → Judges (bars_of least most place o)
judged_bars least most place None = refused _ tt
judged_bars least most place (Some when) = search (tested, judged, refused)

bars : (least most : ℤ) (place : Place) (d : Data) → Judges (bars_in least most place d)
bars least most place d = search (tested, judged_bars, refused)

alone : (sibling : PlanKey) (place : Place) (d : Data) → Judges (needed_alone sibling place d)
alone sibling place d = search (tested, needed_judges, refused)

early_triggers : (version node : ℕ) (d : Data) → Judges (early_of version node d)
early_triggers version node d = search (tested, then, alone, bars, early_judges, judged) depth 9

late_triggers : (version node : ℕ) (d : Data) → Judges (late_of version node d)
late_triggers version node d = search (tested, then, alone, bars, number_absent, judged) depth 9

group_judges : (version node : ℕ) (d : Data) → Judges (group_of version node d)
group_judges version node d = search (then, early_triggers, late_triggers, number_absent, mode_judges, judged)

write_judges : (node : ℕ) (d : Data) → Judges (write_of node d)
write_judges node d = search (then, absent_judges, text, judged)

settings : (word : KindWord) (version node : ℕ) (d : Data) → Judges (settings_of word version node d)
settings kind.Source version node d = source_judges node d
settings kind.ParDo version node d = pardo_judges node d
settings kind.Flatten version node d = judged _
settings kind.Window version node d = window_judges node d
settings kind.Group version node d = group_judges version node d
settings kind.Stateful version node d = stateful_judges node d
settings kind.Write version node d = write_judges node d

-- ---- nodes and documents

name : (earlier : List (List ℕ)) (d : Data) → Judges (name_of earlier d)
name earlier d = search (tested, then, needed_judges, string, judged, refused) depth 9

names : (nodes : List Data) → Judges (names_of nodes)
names nodes = each name_of name [] nodes

inputs : (names : List (List ℕ)) (place : Place) (d : Data) → Judges (inputs_in names place d)
inputs names place d = search (then, strings, each, found)

inputs_needed : (names : List (List ℕ)) (node : ℕ) (d : Data) → Judges (needed (in_node node key.Input) d >>= inputs_in names (in_node node key.Input))
inputs_needed names node d = search (then, needed_judges, inputs)

inputs_judges : (word : KindWord) (names : List (List ℕ)) (node : ℕ) (d : Data) → Judges (inputs_of word names node d)
inputs_judges kind.Source names node d = absent_judges [] (inputs_in names) (in_node node key.Input) d (inputs names (in_node node key.Input))
inputs_judges kind.ParDo names node d = inputs_needed names node d
inputs_judges kind.Flatten names node d = inputs_needed names node d
inputs_judges kind.Window names node d = inputs_needed names node d
inputs_judges kind.Group names node d = inputs_needed names node d
inputs_judges kind.Stateful names node d = inputs_needed names node d
inputs_judges kind.Write names node d = inputs_needed names node d

kind_judges : (version node : ℕ) (d : Data) → Judges (kind_of version node d)
kind_judges version node d = search (then, needed_judges, word)

plain_judges : (word : KindWord) (version : ℕ) (names : List (List ℕ)) (node : ℕ) (d : Data) → Judges (plain_of word version names node d)
plain_judges word version names node d = search (then, inputs_judges, settings, tested, judged, refused) depth 9

-- ---- side inputs

number_judged : (names : List (List ℕ)) (place : Place) (name : List ℕ) → Judges (number_of names place name)
number_judged names place name = search (found)

main_judges : (names : List (List ℕ)) (node : ℕ) (d : Data) → Judges (main_of names node d)
main_judges names node d = search (then, needed_judges, strings, found, number_judged) depth 9

view_judges : (names : List (List ℕ)) (node : ℕ) (d : Data) → Judges (view_of names node d)
view_judges names node d = search (then, needed_judges, string, number_judged) depth 9

view_mode_judges : (node : ℕ) (d : Data) → Judges (view_mode_of node d)
view_mode_judges node d = search (then, needed_judges, word)

side_judges : (names : List (List ℕ)) (node : ℕ) (d : Data) → Judges (side_of names node d)
side_judges names node d = search (then, main_judges, view_judges, view_mode_judges, tested, judged, refused) depth 9

-- ---- documents

of_kind : (kind : DocumentKind) (version : ℕ) (names : List (List ℕ)) (node : ℕ) (d : Data) → Judges (node_of_kind kind version names node d)
of_kind (document.Plain word) version names node d = search (then, plain_judges, judged)
of_kind document.Side version names node d = side_judges names node d

node_judges : (version : ℕ) (names : List (List ℕ)) (node : ℕ) (d : Data) → Judges (node_of version names node d)
node_judges version names node d = search (then, kind_judges, of_kind)

nodes : (version : ℕ) (names : List (List ℕ)) (array : List Data) → Judges (nodes_of version names array)
nodes version names array = each _ (λ before d. node_judges version names (length before) d) [] array

version_number : (n : _) → Judges (version_in n)
version_number n = search (then, found, tested, judged, refused)

version_judges : (d : Data) → Judges (version_of d)
version_judges d = search (tested, then, needed_judges, any_number, version_number, refused) depth 9

array_judges : (d : Data) → Judges (array_of d)
array_judges d = search (then, needed_judges, found, tested, judged, refused) depth 9

checked_judges : (plan : Plan) → Judges (checked plan)
checked_judges plan = either _ (graph_refusal plan) (Ok plan) (λ r. refused (refusal.Graph r) tt) (judged plan)

-- a refusal of a side input is a name
told : {A : Type 0} (o : Option PlanRefusal) (m : Meaning A) → ((r : PlanRefusal) → o ≡ Some r → IsOfValue r) → Judges m → Judges (option_map_or (λ r. Err r) o m)
told None m h k = k
told (Some r) m h k = refused r (h r refl)

named_or : (b : Bool) (number : ℕ) (o : Option PlanRefusal) (r : PlanRefusal) → (o ≡ Some r → IsOfValue r) → cond b (Some (refusal.Name (in_node number key.View))) o ≡ Some r → IsOfValue r
named_or true number o r h e = let is : refusal.Name (in_node number key.View) ≡ r = cc in subst IsOfValue is tt
named_or false number o r h e = h e

named : (plan : Plan) (number first : ℕ) (nodes : List DocumentNode) (r : PlanRefusal) → side_refusal plan number first nodes ≡ Some r → IsOfValue r
named plan number first [] r e = absurd cc
named plan number first (node ∷ nodes) r e = named_or (merges plan first node) number (side_refusal plan (number + 1) (first + width node) nodes) r (named plan (number + 1) (first + width node) nodes r) e

unmerged_judges : (nodes : List DocumentNode) (plan : Plan) → Judges (unmerged nodes plan)
unmerged_judges nodes plan = told (side_refusal plan 0 0 nodes) (Ok plan) (named plan 0 0 nodes) (judged plan)

pub plan_judges : (d : Data) → Judges (plan_of d)
plan_judges d = search (then, version_judges, array_judges, names, nodes, checked_judges, unmerged_judges) depth 12
