-- Induction over values, and the spelling of each form of value.
use Rattle.std.proofs.Common.{◌≡◌, ℕ, ℤ, List, [], ◌∷◌, ◌++◌, length, map, refl, sym, ap, subst, ◌∙◌}
use Rattle.std.specs.List.{flat_map, AllByRecursion}
use Rattle.std.proofs.lemmas.List.{length-map}
use Rattle.std.proofs.lemmas.List.Folds.{flat_map-map}
use Rattle.beam_values.specs.declared.value.Value.{Value}
use Rattle.beam_values.specs.declared.value.Value.TheVariants.{Null, Int, Blob, Pair, Seq, rolls-Null, rolls-Int, rolls-Blob, rolls-Pair, rolls-Seq}
use Rattle.beam_values.specs.declared.value.Value.TheOpen as layer
use Rattle.beam_values.specs.declared.value.Value.TheViews.{roll-Value}
use Rattle.beam_values.specs.declared.value.Value.TheFolds.{fold-roll-Value, ind-Value, map-Value}
use Rattle.beam_values.specs.Spelling.{varint, two's_complement, blob_spelling, spelling_step, spelling}

pub spelling-Null : spelling Null ≡ 0 ∷ []
spelling-Null = ap spelling (sym rolls-Null) ∙ fold-roll-Value (List ℕ) spelling_step layer.Null

pub spelling-Int : (n : ℤ) → spelling (Int n) ≡ 1 ∷ varint (two's_complement n)
spelling-Int n = ap spelling (sym (rolls-Int n)) ∙ fold-roll-Value (List ℕ) spelling_step (layer.Int n)

pub spelling-Blob : (bytes : List ℕ) → spelling (Blob bytes) ≡ blob_spelling bytes
spelling-Blob bytes = ap spelling (sym (rolls-Blob bytes)) ∙ fold-roll-Value (List ℕ) spelling_step (layer.Blob bytes)

pub spelling-Pair : (key value : Value) → spelling (Pair key value) ≡ 3 ∷ (spelling key ++ spelling value)
spelling-Pair key value = ap spelling (sym (rolls-Pair key value)) ∙ fold-roll-Value (List ℕ) spelling_step (layer.Pair key value)

spelled_items : (items : List Value) → varint (length (map spelling items)) ++ flat_map (λ item. item) (map spelling items) ≡ varint (length items) ++ flat_map spelling items
spelled_items items = rw (length-map, flat_map-map) refl

pub spelling-Seq : (items : List Value) → spelling (Seq items) ≡ 4 ∷ (varint (length items) ++ flat_map spelling items)
spelling-Seq items = ap spelling (sym (rolls-Seq items)) ∙ fold-roll-Value (List ℕ) spelling_step (layer.Seq items) ∙ ap (λ (r : List ℕ). 4 ∷ r) (spelled_items items)

pub value_ind : (P : Value → Type 0) → P Null → ((n : ℤ) → P (Int n)) → ((bytes : List ℕ) → P (Blob bytes))
    → ((key value : Value) → P key → P value → P (Pair key value)) → ((items : List Value) → AllByRecursion P items → P (Seq items)) → (v : Value) → P v
value_ind P null int blob pair seq = ind-Value P (λ x y is. subst (λ z. P (roll-Value z)) is (step y))
  where
    items_hold : (items : List ((v : Value) × P v)) → AllByRecursion P (map (λ e. e.0) items)
    items_hold [] = tt
    items_hold (e ∷ items) = (e.1, items_hold items)

    step : (y : layer.Value-F ((v : Value) × P v)) → P (roll-Value (map-Value ((v : Value) × P v) Value (λ e. e.0) y))
    step layer.Null = subst P (sym rolls-Null) null
    step (layer.Int n) = subst P (sym (rolls-Int n)) (int n)
    step (layer.Blob bytes) = subst P (sym (rolls-Blob bytes)) (blob bytes)
    step (layer.Pair key value) = subst P (sym (rolls-Pair key.0 value.0)) (pair key.0 value.0 key.1 value.1)
    step (layer.Seq items) = subst P (sym (rolls-Seq (map (λ e. e.0) items))) (seq (map (λ e. e.0) items) (items_hold items))
