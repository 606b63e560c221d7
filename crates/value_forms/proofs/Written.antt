-- What has been written once each field stands.
use Rattle.std.proofs.Common.{◌≡◌, ℕ, ℤ, pos, List, map, [], ◌∷◌, ◌++◌, length, refl, sym, ap, ◌∙◌, append_assoc}
use Rattle.std.proofs.lemmas.List.{append-nil, length-map}
use Rattle.std.proofs.lemmas.List.Folds.{flat_map-map}
use Rattle.std.specs.List.{flat_map}
use Rattle.beam_values.specs.declared.value.Value.{Value}
use Rattle.beam_values.specs.declared.value.Value.TheVariants.{Int, Blob, Pair, Seq}
use Rattle.beam_values.specs.Spelling.{varint, two's_complement, blob_spelling, spelling}
use Rattle.beam_values.proofs.Induction.{spelling-Int, spelling-Blob, spelling-Pair, spelling-Seq}
use Rattle.value_forms.specs.Writing.{seq_head, case_head}

pub int_written : (out : List ℕ) (n : ℤ) → out ++ spelling (Int n) ≡ out ++ 1 ∷ varint (two's_complement n)
int_written out n = ap (λ (text : List ℕ). out ++ text) (spelling-Int n)

pub blob_written : (out bytes : List ℕ) → out ++ spelling (Blob bytes) ≡ out ++ blob_spelling bytes
blob_written out bytes = ap (λ (text : List ℕ). out ++ text) (spelling-Blob bytes)

-- bytes and then the spellings of values, one after another
abbrev pub spelled_onto : List ℕ → List Value → List ℕ
spelled_onto out [] = out
spelled_onto out (v ∷ vs) = spelled_onto (out ++ spelling v) vs

pub spelled_onto-is : (out : List ℕ) (items : List Value) → spelled_onto out items ≡ out ++ flat_map spelling items
spelled_onto-is out [] = sym (append-nil out)
spelled_onto-is out (v ∷ vs) = spelled_onto-is (out ++ spelling v) vs ∙ append_assoc out (spelling v) (flat_map spelling vs)

pub seq_onto : (out : List ℕ) (items : List Value) → out ++ spelling (Seq items) ≡ spelled_onto (out ++ seq_head (length items)) items
unfolding seq_head
seq_onto out items =
    ap (λ (text : List ℕ). out ++ text) (spelling-Seq items) ∙ sym (append_assoc out (4 ∷ varint (length items)) (flat_map spelling items)) ∙ sym (spelled_onto-is (out ++ 4 ∷ varint (length items)) items)

pub case_onto : (out : List ℕ) (place : ℕ) (fields : List Value) → out ++ spelling (Pair (Int (pos place)) (Seq fields)) ≡ spelled_onto (out ++ case_head place (length fields)) fields
unfolding seq_head case_head
case_onto out place fields =
    let front = 3 ∷ (1 ∷ varint place) in
    let whole : spelling (Pair (Int (pos place)) (Seq fields)) ≡ front ++ spelling (Seq fields) = spelling-Pair (Int (pos place)) (Seq fields) ∙ ap (λ (text : List ℕ). 3 ∷ (text ++ spelling (Seq fields))) (spelling-Int (pos place)) in
    ap (λ (text : List ℕ). out ++ text) whole ∙ sym (append_assoc out front (spelling (Seq fields))) ∙ seq_onto (out ++ front) fields ∙ ap (λ (text : List ℕ). spelled_onto text fields) (append_assoc out front (seq_head (length fields)))

pub list_written : {A : Type 0} (to : A → Value) (old a b : List ℕ) (xs : List A) → a ≡ old ++ seq_head (length xs) → b ≡ a ++ flat_map (λ x. spelling (to x)) xs → b ≡ old ++ spelling (Seq (map to xs))
list_written to old a b xs p q =
    let items : flat_map spelling (map to xs) ≡ flat_map (λ x. spelling (to x)) xs = rw flat_map-map refl in
    let head : a ≡ old ++ seq_head (length (map to xs)) = rw length-map p in
    q ∙ ap (λ (text : List ℕ). a ++ text) (sym items) ∙ sym (spelled_onto-is a (map to xs)) ∙ ap (λ (text : List ℕ). spelled_onto text (map to xs)) head ∙ sym (seq_onto old (map to xs))
