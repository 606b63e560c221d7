-- The parts of each form of value, and that only a value of that form has them.
use Rattle.std.proofs.Common.{◌≡◌, ℕ, ℤ, pos, negsuc, List, Option, Some, None, refl, sym, ap, ap₂, ◌∙◌}
use Rattle.beam_values.specs.declared.value.Value.{Value}
use Rattle.beam_values.specs.declared.value.Value.TheVariants.{Null, Int, Blob, Pair, Seq, rolls-Null, rolls-Int, rolls-Blob, rolls-Pair, rolls-Seq}
use Rattle.beam_values.specs.declared.value.Value.TheOpen as layer
use Rattle.beam_values.specs.declared.value.Value.TheViews.{out-Value, out-roll-Value}
use Rattle.beam_values.proofs.Induction.{value_ind}
use Rattle.value_forms.specs.Parts.{◌>>=◌, int_step, int_at, blob_step, blob_at, items_step, items_at, pair_step, pair_at, not_negative, case_at}

-- ---- steps

-- the thing that a step found
pub bind_some : {A B : Type 0} (o : Option A) (f : A → Option B) (y : B) → (o >>= f) ≡ Some y → (x : A) × (o ≡ Some x) × (f x ≡ Some y)
bind_some (Some x) f y e = (x, refl, e)
bind_some None f y e = absurd cc

-- ---- layers

out-Null : out-Value Null ≡ layer.Null
out-Null = ap out-Value (sym rolls-Null) ∙ out-roll-Value layer.Null

out-Int : (n : ℤ) → out-Value (Int n) ≡ layer.Int n
out-Int n = ap out-Value (sym (rolls-Int n)) ∙ out-roll-Value (layer.Int n)

out-Blob : (bytes : List ℕ) → out-Value (Blob bytes) ≡ layer.Blob bytes
out-Blob bytes = ap out-Value (sym (rolls-Blob bytes)) ∙ out-roll-Value (layer.Blob bytes)

out-Pair : (key value : Value) → out-Value (Pair key value) ≡ layer.Pair key value
out-Pair key value = ap out-Value (sym (rolls-Pair key value)) ∙ out-roll-Value (layer.Pair key value)

out-Seq : (items : List Value) → out-Value (Seq items) ≡ layer.Seq items
out-Seq items = ap out-Value (sym (rolls-Seq items)) ∙ out-roll-Value (layer.Seq items)

-- a value by its form, without what is known of the values inside
by_form : (P : Value → Type 0) → P Null → ((n : ℤ) → P (Int n)) → ((bytes : List ℕ) → P (Blob bytes)) → ((key value : Value) → P (Pair key value)) → ((items : List Value) → P (Seq items)) → (v : Value) → P v
by_form P null int blob pair seq = value_ind P null int blob (λ key value _ _. pair key value) (λ items _. seq items)

-- ---- numbers

pub int_at-Int : (n : ℤ) → int_at (Int n) ≡ Some n
unfolding int_at
int_at-Int n = ap int_step (out-Int n)

no_int : (v : Value) (y : layer.Value-F Value) (n : ℤ) → out-Value v ≡ y → int_step y ≡ None → int_at v ≡ Some n → ⊥
unfolding int_at
no_int v y n o none e = let h : None ≡ Some n = sym none ∙ sym (ap int_step o) ∙ e in cc

pub int_at-is : (v : Value) (n : ℤ) → int_at v ≡ Some n → Int n ≡ v
int_at-is v n =
    by_form (λ w. int_at w ≡ Some n → Int n ≡ w)
    (λ e. absurd (no_int Null layer.Null n out-Null refl e))
    (λ m e. let h : Some m ≡ Some n = sym (int_at-Int m) ∙ e in cc)
    (λ bytes e. absurd (no_int (Blob bytes) (layer.Blob bytes) n (out-Blob bytes) refl e))
    (λ key value e. absurd (no_int (Pair key value) (layer.Pair key value) n (out-Pair key value) refl e))
    (λ items e. absurd (no_int (Seq items) (layer.Seq items) n (out-Seq items) refl e))
    v

-- ---- bytes

pub blob_at-Blob : (bytes : List ℕ) → blob_at (Blob bytes) ≡ Some bytes
unfolding blob_at
blob_at-Blob bytes = ap blob_step (out-Blob bytes)

no_blob : (v : Value) (y : layer.Value-F Value) (bytes : List ℕ) → out-Value v ≡ y → blob_step y ≡ None → blob_at v ≡ Some bytes → ⊥
unfolding blob_at
no_blob v y bytes o none e = let h : None ≡ Some bytes = sym none ∙ sym (ap blob_step o) ∙ e in cc

pub blob_at-is : (v : Value) (bytes : List ℕ) → blob_at v ≡ Some bytes → Blob bytes ≡ v
blob_at-is v bytes =
    by_form (λ w. blob_at w ≡ Some bytes → Blob bytes ≡ w)
    (λ e. absurd (no_blob Null layer.Null bytes out-Null refl e))
    (λ n e. absurd (no_blob (Int n) (layer.Int n) bytes (out-Int n) refl e))
    (λ others e. let h : Some others ≡ Some bytes = sym (blob_at-Blob others) ∙ e in cc)
    (λ key value e. absurd (no_blob (Pair key value) (layer.Pair key value) bytes (out-Pair key value) refl e))
    (λ items e. absurd (no_blob (Seq items) (layer.Seq items) bytes (out-Seq items) refl e))
    v

-- ---- items

pub items_at-Seq : (items : List Value) → items_at (Seq items) ≡ Some items
unfolding items_at
items_at-Seq items = ap items_step (out-Seq items)

no_items : (v : Value) (y : layer.Value-F Value) (items : List Value) → out-Value v ≡ y → items_step y ≡ None → items_at v ≡ Some items → ⊥
unfolding items_at
no_items v y items o none e = let h : None ≡ Some items = sym none ∙ sym (ap items_step o) ∙ e in cc

pub items_at-is : (v : Value) (items : List Value) → items_at v ≡ Some items → Seq items ≡ v
items_at-is v items =
    by_form (λ w. items_at w ≡ Some items → Seq items ≡ w)
    (λ e. absurd (no_items Null layer.Null items out-Null refl e))
    (λ n e. absurd (no_items (Int n) (layer.Int n) items (out-Int n) refl e))
    (λ bytes e. absurd (no_items (Blob bytes) (layer.Blob bytes) items (out-Blob bytes) refl e))
    (λ key value e. absurd (no_items (Pair key value) (layer.Pair key value) items (out-Pair key value) refl e))
    (λ others e. let h : Some others ≡ Some items = sym (items_at-Seq others) ∙ e in cc)
    v

-- ---- pairs

pair_at-Pair : (key value : Value) → pair_at (Pair key value) ≡ Some (key, value)
unfolding pair_at
pair_at-Pair key value = ap pair_step (out-Pair key value)

no_pair : (v : Value) (y : layer.Value-F Value) (p : Value × Value) → out-Value v ≡ y → pair_step y ≡ None → pair_at v ≡ Some p → ⊥
unfolding pair_at
no_pair v y p o none e = let h : None ≡ Some p = sym none ∙ sym (ap pair_step o) ∙ e in cc

same_pair : (key value : Value) (p : Value × Value) → Some (key, value) ≡ Some p → Pair p.0 p.1 ≡ Pair key value
same_pair key value p e = let h : (key, value) ≡ p = cc in ap (λ (q : Value × Value). Pair q.0 q.1) (sym h)

pair_at-is : (v : Value) (p : Value × Value) → pair_at v ≡ Some p → Pair p.0 p.1 ≡ v
pair_at-is v p =
    by_form (λ w. pair_at w ≡ Some p → Pair p.0 p.1 ≡ w)
    (λ e. absurd (no_pair Null layer.Null p out-Null refl e))
    (λ n e. absurd (no_pair (Int n) (layer.Int n) p (out-Int n) refl e))
    (λ bytes e. absurd (no_pair (Blob bytes) (layer.Blob bytes) p (out-Blob bytes) refl e))
    (λ key value e. same_pair key value p (sym (pair_at-Pair key value) ∙ e))
    (λ items e. absurd (no_pair (Seq items) (layer.Seq items) p (out-Seq items) refl e))
    v

-- ---- variants

pub case_at-Pair : (place : ℕ) (fields : List Value) → case_at (Pair (Int (pos place)) (Seq fields)) ≡ Some (place, fields)
unfolding case_at
case_at-Pair place fields = rw (pair_at-Pair, int_at-Int, items_at-Seq) refl

not_negative-is : (n : ℤ) (place : ℕ) → not_negative n ≡ Some place → pos place ≡ n
not_negative-is (pos m) place e = let h : m ≡ place = cc in ap pos (sym h)
not_negative-is (negsuc m) place e = absurd cc

pub case_at-is : (v : Value) (c : ℕ × List Value) → case_at v ≡ Some c → Pair (Int (pos c.0)) (Seq c.1) ≡ v
unfolding case_at
case_at-is v c e =
    let parts = bind_some (pair_at v) _ c e in
    let number = bind_some (int_at parts.0.0) _ c parts.2 in
    let place = bind_some (not_negative number.0) _ c number.2 in
    let fields = bind_some (items_at parts.0.1) _ c place.2 in
    let same : (place.0, fields.0) ≡ c = some_same fields.2 in
    let front : Int (pos place.0) ≡ parts.0.0 = ap Int (not_negative-is number.0 place.0 place.1) ∙ int_at-is parts.0.0 number.0 number.1 in
    ap (λ (q : ℕ × List Value). Pair (Int (pos q.0)) (Seq q.1)) (sym same) ∙ ap₂ Pair front (items_at-is parts.0.1 fields.0 fields.1) ∙ pair_at-is v parts.0 parts.1
  where
    some_same : {A : Type 0} {x y : A} → Some x ≡ Some y → x ≡ y
    some_same h = cc
