-- Trees of counts and marks as a document has them (Beam Programming Guide, Composite triggers): `{"count":n}`, `{"mark":d}`, `{"first":[..]}` and
-- `{"all":[..]}`, where the lists are of trees.
use Rattle.std.specs.Prelude.{ℕ, ◌^◌, ℤ, Bool, false, true, not, ◌&&◌, ◌||◌, List, [], ◌∷◌, codes, bytes_eq, nat_lt, if◌then◌else◌, Option, Some, None, is_some, Ok, Err}
use Rattle.std.specs.Option.{option_and_then, option_map}
use Rattle.serde_json.specs.Data.{Data, Num, number, array, object, Items, no_items, item, Members, member, no_members}
use Rattle.serde_json.specs.Find.{as_i64, as_u64}
use Rattle.beam_values.specs.declared.plan.Bar.{Bar}
use Rattle.trigger_algebra.specs.Refusing.{are_numbers_within, refusal_of}
use Rattle.trigger_algebra.specs.Staircases.{normal_of}
use Rattle.trigger_algebra.specs.declared.when.When.{When}
use Rattle.trigger_algebra.specs.declared.when.When.TheOpen as layer
use Rattle.trigger_algebra.specs.declared.when.When.TheViews.{roll-When}
use Rattle.plan_reader.specs.declared.refusal.Place.{Place}
use Rattle.plan_reader.specs.declared.refusal.PlanRefusal.TheVariants.{Field, Number}
use Rattle.plan_reader.specs.Refusals.{Meaning}

-- ---- the form of a tree, all of which is judged before any number in it

abbrev pub is_leaf_word : List ℕ → Bool
is_leaf_word word = bytes_eq word (codes "count") || bytes_eq word (codes "mark")

abbrev pub is_list_word : List ℕ → Bool
is_list_word word = bytes_eq word (codes "first") || bytes_eq word (codes "all")

abbrev mutual
  -- an object of one member, whose word says what its value is
  pub has_tree_form : Data → Bool
  has_tree_form (object members) = is_tree_member members
  has_tree_form _ = false

  pub is_tree_member : Members → Bool
  is_tree_member (member word value no_members) = is_tree_value word value
  is_tree_member _ = false

  pub is_tree_value : List ℕ → Data → Bool
  is_tree_value word (number n) = is_leaf_word word
  is_tree_value word (array trees) = is_list_word word && have_tree_forms trees
  is_tree_value word _ = false

  pub have_tree_forms : Items → Bool
  have_tree_forms no_items = true
  have_tree_forms (item tree trees) = has_tree_form tree && have_tree_forms trees

-- ---- the tree of a value of that form

-- a whole number of 32 bits
abbrev pub count_of : Num → Option When
count_of num = option_and_then (λ n. if nat_lt n (2 ^ 32) then Some (roll-When (layer.Count n)) else None) (as_u64 num)

abbrev pub leaf_of : List ℕ → Num → Option When
leaf_of word num = if bytes_eq word (codes "count") then count_of num else option_map (λ delay. roll-When (layer.MarkAt delay)) (as_i64 num)

abbrev pub list_of : List ℕ → List When → When
list_of word trees = if bytes_eq word (codes "first") then roll-When (layer.First trees) else roll-When (layer.All trees)

abbrev mutual
  -- none where a number in it isn't whole or isn't of its type
  pub when_of : Data → Option When
  when_of (object members) = when_of_member members
  when_of _ = None

  pub when_of_member : Members → Option When
  when_of_member (member word value no_members) = when_of_value word value
  when_of_member _ = None

  pub when_of_value : List ℕ → Data → Option When
  when_of_value word (number n) = leaf_of word n
  when_of_value word (array trees) = option_map (list_of word) (whens_of trees)
  when_of_value word _ = None

  pub whens_of : Items → Option (List When)
  whens_of no_items = Some []
  whens_of (item tree trees) = option_and_then (λ when. option_map (λ whens. when ∷ whens) (whens_of trees)) (when_of tree)

-- ---- the bars of a tree

-- it has a normal form, and its marks lie within these bounds
abbrev pub is_trigger : ℤ → ℤ → When → Bool
is_trigger least most when = not (is_some (refusal_of when)) && are_numbers_within least most when

abbrev pub bars_of : ℤ → ℤ → Place → Option When → Meaning (List Bar)
bars_of least most place (Some when) = if is_trigger least most when then Ok (normal_of when) else Err (Number place)
bars_of least most place None = Err (Number place)

abbrev pub bars_in : ℤ → ℤ → Place → Data → Meaning (List Bar)
bars_in least most place d = if has_tree_form d then bars_of least most place (when_of d) else Err (Field place)
