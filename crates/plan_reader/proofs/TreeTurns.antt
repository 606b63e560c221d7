-- Trees of triggers, as far as a loop over a list of them has come.
use Rattle.std.proofs.Common.{◌≡◌, ℕ, zero, suc, ◌*◌, ℤ, Bool, true, false, ◌&&◌, ◌+◌, ◌<◌, ◌≤◌, List, [], ◌∷◌, ◌++◌, length, drop, get_or, Option, Some, None, Ok, Err, refl, sym, ap, subst, ◌∙◌, append_assoc, append-nil, drop-cons, add-one, arith}
use Rattle.std.specs.Option.{option_and_then, option_map}
use Rattle.std.proofs.lemmas.List.{drop_all}
use Rattle.serde_json.specs.Data.{Data, null, boolean, number, string, array, object, Items, Members, no_members, member}
use Rattle.serde_json.specs.View.{view, items_view}
use Rattle.serde_json.specs.declared.value.Value.{Value}
use Rattle.trigger_algebra.specs.declared.when.When.{When}
use Rattle.beam_values.specs.declared.plan.Bar.{Bar}
use Rattle.trigger_algebra.specs.Refusing.{are_numbers_within, refusal_of}
use Rattle.trigger_algebra.specs.Staircases.{normal_of}
use Rattle.trigger_algebra.specs.declared.refusal.WhenRefusal.{WhenRefusal}
use Rattle.plan_reader.specs.Forms.{only_member, only_of}
use Rattle.plan_reader.specs.Refusals.{Reads}
use Rattle.plan_reader.specs.Trees.{bars_in, bars_of, has_tree_form, have_tree_forms, when_of, whens_of}
use Rattle.plan_reader.specs.declared.refusal.Place.{Place}
use Rattle.plan_reader.specs.declared.refusal.PlanRefusal.TheVariants.{Number}
use Rattle.plan_reader.proofs.Sizes.{data_items, data_members, data_size}

-- ---- forms

forms_next : (trees : List Value) (i : ℕ) (d : Value) → i < length trees
    → have_tree_forms (items_view (drop i trees)) ≡ (has_tree_form (view (get_or trees i d)) && have_tree_forms (items_view (drop (i + 1) trees)))
forms_next trees i d inside = rw (drop-cons trees i d inside, add-one) refl

-- so many trees have the form
pub record AreFormedTo (trees : List Value) (count : ℕ) : Type 0 where
  pub rest : have_tree_forms (items_view (drop count trees)) ≡ have_tree_forms (items_view trees)

pub none_formed : (trees : List Value) → AreFormedTo trees 0
none_formed trees = record { rest = refl }

pub one_formed : (trees : List Value) (i : ℕ) (x : Value) → i < length trees → get_or trees i x ≡ x → has_tree_form (view x) ≡ true → AreFormedTo trees i → AreFormedTo trees (i + 1)
one_formed trees i x inside at formed so_far =
    record {
      rest =
          sym (ap (λ (b : Bool). b && have_tree_forms (items_view (drop (i + 1) trees))) (ap (λ (v : Value). has_tree_form (view v)) at ∙ formed))
          ∙ sym (forms_next trees i x inside)
          ∙ so_far.rest;
    }

pub one_misformed : (trees : List Value) (i : ℕ) (x : Value) → i < length trees → get_or trees i x ≡ x → has_tree_form (view x) ≡ false → AreFormedTo trees i
    → have_tree_forms (items_view trees) ≡ false
one_misformed trees i x inside at misformed so_far =
    sym so_far.rest
    ∙ forms_next trees i x inside
    ∙ ap (λ (b : Bool). b && have_tree_forms (items_view (drop (i + 1) trees))) (ap (λ (v : Value). has_tree_form (view v)) at ∙ misformed)

pub all_formed : (trees : List Value) (i : ℕ) → length trees ≤ i → AreFormedTo trees i → have_tree_forms (items_view trees) ≡ true
all_formed trees i past so_far = sym so_far.rest ∙ ap (λ (vs : List Value). have_tree_forms (items_view vs)) (drop_all i trees past)

pub ruleset form_turns = (none_formed, one_formed, one_misformed, all_formed)

-- ---- trees

whens_next : (trees : List Value) (i : ℕ) (d : Value) → i < length trees
    → whens_of (items_view (drop i trees))
    ≡ option_and_then (λ when. option_map (λ whens. when ∷ whens) (whens_of (items_view (drop (i + 1) trees)))) (when_of (view (get_or trees i d)))
whens_next trees i d inside = rw (drop-cons trees i d inside, add-one) refl

-- so many trees are read, as these
pub record AreReadTo (trees : List Value) (count : ℕ) (whens : List When) : Type 0 where
  pub rest : option_map (λ more. whens ++ more) (whens_of (items_view (drop count trees))) ≡ whens_of (items_view trees)

same_option : {A : Type 0} (o : Option (List A)) → option_map (λ more. [] ++ more) o ≡ o
same_option None = refl
same_option (Some xs) = refl

pub no_when : (trees : List Value) → AreReadTo trees 0 []
no_when trees = record { rest = same_option (whens_of (items_view trees)) }

put_front : (whens : List When) (when : When) (o : Option (List When))
    → option_map (λ more. whens ++ more) (option_map (λ later. when ∷ later) o) ≡ option_map (λ more. (whens ++ when ∷ []) ++ more) o
put_front whens when None = refl
put_front whens when (Some later) = ap (λ (ws : List When). Some ws) (sym (append_assoc whens (when ∷ []) later))

pub one_when : (trees : List Value) (i : ℕ) (x : Value) (whens : List When) (when : When) → i < length trees → get_or trees i x ≡ x → when_of (view x) ≡ Some when
    → AreReadTo trees i whens → AreReadTo trees (i + 1) (whens ++ when ∷ [])
one_when trees i x whens when inside at is so_far =
    record {
      rest =
          sym (put_front whens when (whens_of (items_view (drop (i + 1) trees))))
          ∙ sym
          (ap (option_map (λ more. whens ++ more))
          (whens_next trees i x inside
          ∙ ap (option_and_then (λ when. option_map (λ later. when ∷ later) (whens_of (items_view (drop (i + 1) trees))))) (ap (λ (v : Value). when_of (view v)) at ∙ is)))
          ∙ so_far.rest;
    }

pub one_unread : (trees : List Value) (i : ℕ) (x : Value) (whens : List When) → i < length trees → get_or trees i x ≡ x → when_of (view x) ≡ None
    → AreReadTo trees i whens → whens_of (items_view trees) ≡ None
one_unread trees i x whens inside at is so_far =
    sym so_far.rest
    ∙ ap (option_map (λ more. whens ++ more))
    (whens_next trees i x inside
    ∙ ap (option_and_then (λ when. option_map (λ later. when ∷ later) (whens_of (items_view (drop (i + 1) trees))))) (ap (λ (v : Value). when_of (view v)) at ∙ is))

pub all_whens : (trees : List Value) (i : ℕ) (whens : List When) → length trees ≤ i → AreReadTo trees i whens → whens_of (items_view trees) ≡ Some whens
all_whens trees i whens past so_far =
    sym so_far.rest
    ∙ ap (λ (vs : List Value). option_map (λ more. whens ++ more) (whens_of (items_view vs))) (drop_all i trees past)
    ∙ ap (λ (ws : List When). Some ws) (append-nil whens)

pub ruleset when_turns = (no_when, one_when, one_unread, all_whens)

-- ---- bars

pub taken : (least most : ℤ) (place : Place) (when : When) (bars : List Bar) → refusal_of when ≡ None → are_numbers_within least most when ≡ true → bars ≡ normal_of when
    → bars_of least most place (Some when) ≡ Ok bars
taken least most place when bars fits within same = rw (fits, within, same) refl

pub out_of_bounds : (least most : ℤ) (place : Place) (when : When) → refusal_of when ≡ None → are_numbers_within least most when ≡ false
    → bars_of least most place (Some when) ≡ Err (Number place)
out_of_bounds least most place when fits within = rw (fits, within) refl

pub no_trigger : (least most : ℤ) (place : Place) (when : When) (refusal : WhenRefusal) → refusal_of when ≡ Some refusal
    → bars_of least most place (Some when) ≡ Err (Number place)
no_trigger least most place when refusal is = rw is refl

pub bars_read : (least most : ℤ) (place : Place) (d : Data) (when : When) (result : _) → has_tree_form d ≡ true → when_of d ≡ Some when
    → Reads {X = List Bar} {Y = List Bar} (λ bars. bars) result (bars_of least most place (Some when)) → Reads {X = List Bar} {Y = List Bar} (λ bars. bars) result (bars_in least most place d)
bars_read least most place d when result formed is h = rw (formed, is) h

-- ---- sizes

second_same : {A B : Type 0} (p q : A × B) → Some p ≡ Some q → p.1 ≡ q.1
second_same p q e = let same : p ≡ q = cc in ap (λ r. r.1) same

only_of_less : (all : Members) (word : List ℕ) (d : Data) → only_of all ≡ Some (word, d) → data_size d ≤ data_members all
only_of_less no_members word d e = absurd cc
only_of_less (member other value no_members) word d e = let same : value ≡ d = second_same (other, value) (word, d) e in let P : Data → Type 0 = λ v. data_size v ≤ data_size value + 0 in subst P same (omega arith)
only_of_less (member other value (member more later others)) word d e = absurd cc

-- the value of the only member of an object
pub only_less : (d inner : Data) (word : List ℕ) → only_member d ≡ Some (word, inner) → 2 * data_size inner < 2 * data_size d
only_less null inner word e = absurd cc
only_less (boolean b) inner word e = absurd cc
only_less (number n) inner word e = absurd cc
only_less (string s) inner word e = absurd cc
only_less (array ds) inner word e = absurd cc
only_less (object its) inner word e = let h = only_of_less its word inner e in omega arith

-- the items of an array
pub items_less : (d : Data) (items : Items) → d ≡ array items → 2 * data_items items + 1 < 2 * data_size d
items_less d items e = rw e (omega arith)

items_sized : (trees : List Value) (i : ℕ) (d : Value) → i < length trees → data_size (view (get_or trees i d)) ≤ data_items (items_view trees)
items_sized [] i d inside = absurd (omega arith)
items_sized (tree ∷ trees) zero d inside = omega arith
items_sized (tree ∷ trees) (suc i) d inside = let h = items_sized trees i d (omega arith) in omega arith

-- an item
pub item_less : (trees : List Value) (i : ℕ) (x : Value) → i < length trees → get_or trees i x ≡ x → 2 * data_size (view x) < 2 * data_items (items_view trees) + 1
item_less trees i x inside at = let h = subst (λ v. data_size (view v) ≤ data_items (items_view trees)) at (items_sized trees i x inside) in omega arith
