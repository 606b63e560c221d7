-- The keys of an object, objects of one key and arrays of two, by the entries and the items that they hold.
use Rattle.std.proofs.Common.{◌≡◌, ℕ, List, [], ◌∷◌, length, map, Bor, Some, None, String, Global, refl, ap, arith}
use Rattle.std.specs.Prelude.{◌&&◌, string_bytes, slice_get}
use Rattle.std.specs.List.{list_all}
use Rattle.std.specs.Map.{keys_of}
use Rattle.serde_json.specs.View.{view, items_view, members_view}
use Rattle.serde_json.specs.declared.value.Value.{Value}
use Rattle.plan_reader.specs.Forms.{are_listed, is_listed, only_of, pair_of}
use Rattle.plan_reader.specs.Nodes.{one_of}
use Rattle.plan_reader.specs.declared.refusal.PlanKey.{PlanKey}

pub are_listed_by_words : (keys : List PlanKey) (es : List (String Global × Value))
    → are_listed keys (members_view es) ≡ list_all (λ word. is_listed keys (string_bytes word)) (keys_of es)
are_listed_by_words keys [] = refl
are_listed_by_words keys (e ∷ es) = ap (λ b. is_listed keys (string_bytes e.0) && b) (are_listed_by_words keys es)

pub only_of_others : (es : List (String Global × Value)) → (length es ≡ 1 → ⊥) → only_of (members_view es) ≡ None
only_of_others [] h = refl
only_of_others (e ∷ []) h = absurd (h (omega arith))
only_of_others (e ∷ d ∷ es) h = refl

pub only_of_one : (es : List (String Global × Value)) (k : String Global) (v : Value) → length es ≡ 1 → slice_get es 0 ≡ Some (k, v)
    → only_of (members_view es) ≡ Some (string_bytes k, view v)
only_of_one [] k v h at = absurd (omega arith)
only_of_one (e ∷ []) k v h at = let same : e ≡ (k, v) = cc in ap (λ p. Some (string_bytes p.0, view p.1)) same
only_of_one (e ∷ d ∷ es) k v h at = absurd (omega arith)

pub pair_of_others : (vs : List Value) → (length vs ≡ 2 → ⊥) → pair_of (items_view vs) ≡ None
pair_of_others [] h = refl
pair_of_others (v ∷ []) h = refl
pair_of_others (v ∷ w ∷ []) h = absurd (h (omega arith))
pair_of_others (v ∷ w ∷ u ∷ vs) h = refl

pub one_of_others : (names : List (Bor (List ℕ))) → (length names ≡ 1 → ⊥) → one_of (map (λ name. name.now) names) ≡ None
one_of_others [] h = refl
one_of_others (name ∷ []) h = absurd (h (omega arith))
one_of_others (name ∷ other ∷ names) h = refl
