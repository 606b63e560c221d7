-- Values whose whole numbers have 64 bits, form by form, and that only one of them is spelled as it is.
use Rattle.std.proofs.Common.{◌≡◌, ℕ, ℤ, FitsSigned, w64, List, [], ◌∷◌, ◌++◌, length, map, refl, sym, ap, ap₂, subst, ◌∙◌, arith}
use Rattle.std.specs.List.{flat_map, AllByRecursion}
use Rattle.std.proofs.lemmas.List.Concat.{flat_map-cons}
use Rattle.beam_values.specs.declared.value.Value.{Value}
use Rattle.beam_values.specs.declared.value.Value.TheVariants.{Null, Int, Blob, Pair, Seq, rolls-Null, rolls-Int, rolls-Blob, rolls-Pair, rolls-Seq}
use Rattle.beam_values.specs.declared.value.Value.TheOpen as layer
use Rattle.beam_values.specs.declared.value.Value.TheViews.{out-Value, out-roll-Value}
use Rattle.beam_values.specs.declared.value.Value.TheFolds.{map-Value, every-Value, every_here-Value, every_held-Value, every_made-Value}
use Rattle.beam_values.specs.Storable.{IsStorableLayer, IsStorable}
use Rattle.beam_values.specs.Spelling.{varint, two's_complement, spelling}
use Rattle.beam_values.proofs.Lexicographic.{split_same}
use Rattle.beam_values.proofs.SignedBits.{bits-same}
use Rattle.beam_values.proofs.Varints.{varints_decide, varint-same, heads_same}
use Rattle.beam_values.proofs.Induction.{value_ind, spelling-Null, spelling-Int, spelling-Blob, spelling-Pair, spelling-Seq}
use Rattle.beam_values.proofs.Spellings.{values_decide}

-- ---- what fits

-- a value with the fact beside it
abbrev Fitting : Type 0
Fitting = (v : Value) × every-Value IsStorableLayer v

pub Null-fits : IsStorable Null
Null-fits = record { every = subst (every-Value IsStorableLayer) rolls-Null (every_made-Value IsStorableLayer layer.Null layer.Null refl tt) }

pub Int-fits : (n : ℤ) → FitsSigned w64 n → IsStorable (Int n)
Int-fits n f = record { every = subst (every-Value IsStorableLayer) (rolls-Int n) (every_made-Value IsStorableLayer (layer.Int n) (layer.Int n) refl f) }

pub Blob-fits : (bytes : List ℕ) → IsStorable (Blob bytes)
Blob-fits bytes = record { every = subst (every-Value IsStorableLayer) (rolls-Blob bytes) (every_made-Value IsStorableLayer (layer.Blob bytes) (layer.Blob bytes) refl tt) }

pub Pair-fits : (key value : Value) → IsStorable key → IsStorable value → IsStorable (Pair key value)
Pair-fits key value k v = record { every = subst (every-Value IsStorableLayer) (rolls-Pair key value) (every_made-Value IsStorableLayer (layer.Pair key value) (layer.Pair (key, k.every) (value, v.every)) refl tt) }

fitting : (items : List Value) → AllByRecursion IsStorable items → List Fitting
fitting [] h = []
fitting (v ∷ vs) h = (v, h.0.every) ∷ fitting vs h.1

fitting_of : (items : List Value) (h : AllByRecursion IsStorable items) → map (λ e. e.0) (fitting items h) ≡ items
unfolding fitting
fitting_of [] h = refl
fitting_of (v ∷ vs) h = ap (λ (rest : List Value). v ∷ rest) (fitting_of vs h.1)

pub Seq-fits : (items : List Value) → AllByRecursion IsStorable items → IsStorable (Seq items)
Seq-fits items h = record { every = subst (every-Value IsStorableLayer) (rolls-Seq items) (every_made-Value IsStorableLayer (layer.Seq items) (layer.Seq (fitting items h)) (ap layer.Seq (fitting_of items h)) tt) }

-- ---- what is inside

pub fits-Int : (n : ℤ) → IsStorable (Int n) → FitsSigned w64 n
fits-Int n f = subst IsStorableLayer (ap out-Value (sym (rolls-Int n)) ∙ out-roll-Value (layer.Int n)) (every_here-Value IsStorableLayer (Int n) f.every)

pub fits-Pair : (key value : Value) → IsStorable (Pair key value) → IsStorable key × IsStorable value
fits-Pair key value f = let held = every_held-Value IsStorableLayer (Pair key value) f.every in parts held.0 (held.1 ∙ ap out-Value (sym (rolls-Pair key value)) ∙ out-roll-Value (layer.Pair key value))
  where
    parts : (y : layer.Value-F Fitting) → map-Value Fitting Value (λ e. e.0) y ≡ layer.Pair key value → IsStorable key × IsStorable value
    parts layer.Null e = absurd cc
    parts (layer.Int n) e = absurd cc
    parts (layer.Blob bytes) e = absurd cc
    parts (layer.Seq items) e = absurd cc
    parts (layer.Pair k v) e =
        let first : k.0 ≡ key = cc in
        let second : v.0 ≡ value = cc in
        (record { every = subst (every-Value IsStorableLayer) first k.1 }, record { every = subst (every-Value IsStorableLayer) second v.1 })

all_fit : (es : List Fitting) → AllByRecursion IsStorable (map (λ e. e.0) es)
all_fit [] = tt
all_fit (e ∷ es) = (record { every = e.1 }, all_fit es)

pub fits-Seq : (items : List Value) → IsStorable (Seq items) → AllByRecursion IsStorable items
fits-Seq items f = let held = every_held-Value IsStorableLayer (Seq items) f.every in parts held.0 (held.1 ∙ ap out-Value (sym (rolls-Seq items)) ∙ out-roll-Value (layer.Seq items))
  where
    parts : (y : layer.Value-F Fitting) → map-Value Fitting Value (λ e. e.0) y ≡ layer.Seq items → AllByRecursion IsStorable items
    parts layer.Null e = absurd cc
    parts (layer.Int n) e = absurd cc
    parts (layer.Blob bytes) e = absurd cc
    parts (layer.Pair k v) e = absurd cc
    parts (layer.Seq es) e =
        let same : map (λ (x : Fitting). x.0) es ≡ items = cc in
        subst (AllByRecursion IsStorable) same (all_fit es)

-- ---- one value for each spelling

abbrev IsAlone : Value → Type 0
IsAlone v = (other : Value) → IsStorable v → IsStorable other → spelling v ≡ spelling other → v ≡ other

-- a value that is spelled by a tag and a text, against each form of value
against : (v : Value) (tag : ℕ) (text : List ℕ) → spelling v ≡ tag ∷ text
    → (tag ≡ 0 → v ≡ Null)
    → ((n : ℤ) → IsStorable (Int n) → tag ≡ 1 → text ≡ varint (two's_complement n) → v ≡ Int n)
    → ((bytes : List ℕ) → tag ≡ 2 → text ≡ varint (length bytes) ++ bytes → v ≡ Blob bytes)
    → ((key value : Value) → IsStorable (Pair key value) → tag ≡ 3 → text ≡ spelling key ++ spelling value → v ≡ Pair key value)
    → ((items : List Value) → IsStorable (Seq items) → tag ≡ 4 → text ≡ varint (length items) ++ flat_map spelling items → v ≡ Seq items)
    → (other : Value) → IsStorable other → spelling v ≡ spelling other → v ≡ other
against v tag text is null int blob pair seq =
    value_ind (λ other. IsStorable other → spelling v ≡ spelling other → v ≡ other)
    (λ f e. null (heads_same tag 0 text [] (sym is ∙ e ∙ spelling-Null)).0)
    (λ n f e. let h = heads_same tag 1 text (varint (two's_complement n)) (sym is ∙ e ∙ spelling-Int n) in int n f h.0 h.1)
    (λ bytes f e. let h = heads_same tag 2 text (varint (length bytes) ++ bytes) (sym is ∙ e ∙ spelling-Blob bytes) in blob bytes h.0 h.1)
    (λ key value _ _ f e. let h = heads_same tag 3 text (spelling key ++ spelling value) (sym is ∙ e ∙ spelling-Pair key value) in pair key value f h.0 h.1)
    (λ items _ f e. let h = heads_same tag 4 text (varint (length items) ++ flat_map spelling items) (sym is ∙ e ∙ spelling-Seq items) in seq items f h.0 h.1)

ints_same : (m n : ℤ) → FitsSigned w64 m → FitsSigned w64 n → varint (two's_complement m) ≡ varint (two's_complement n) → m ≡ n
ints_same m n f g e = bits-same m n f g (varint-same (two's_complement m) (two's_complement n) e)

blobs_same : (a b : List ℕ) → varint (length a) ++ a ≡ varint (length b) ++ b → a ≡ b
blobs_same a b e = (split_same (varint (length a)) (varint (length b)) a b (varints_decide (length a) (length b)) e).1

items_same : (xs ys : List Value) → AllByRecursion IsAlone xs → AllByRecursion IsStorable xs → AllByRecursion IsStorable ys → length xs ≡ length ys → flat_map spelling xs ≡ flat_map spelling ys → xs ≡ ys
items_same [] [] h f g l e = refl
items_same [] (y ∷ ys) h f g l e = absurd (omega arith)
items_same (x ∷ xs) [] h f g l e = absurd (omega arith)
items_same (x ∷ xs) (y ∷ ys) h f g l e =
    let parts = split_same (spelling x) (spelling y) (flat_map spelling xs) (flat_map spelling ys) (values_decide x y) (sym (flat_map-cons spelling x xs) ∙ e ∙ flat_map-cons spelling y ys) in
    ap₂ (λ (a : Value) (b : List Value). a ∷ b) (h.0 y f.0 g.0 parts.0) (items_same xs ys h.1 f.1 g.1 (omega arith) parts.1)

seqs_same : (xs ys : List Value) → AllByRecursion IsAlone xs → IsStorable (Seq xs) → IsStorable (Seq ys) → varint (length xs) ++ flat_map spelling xs ≡ varint (length ys) ++ flat_map spelling ys → xs ≡ ys
seqs_same xs ys h f g e =
    let parts = split_same (varint (length xs)) (varint (length ys)) (flat_map spelling xs) (flat_map spelling ys) (varints_decide (length xs) (length ys)) e in
    items_same xs ys h (fits-Seq xs f) (fits-Seq ys g) (varint-same (length xs) (length ys) parts.0) parts.1

-- values of 64 bits that are spelled alike are the same
pub values_same : (v other : Value) → IsStorable v → IsStorable other → spelling v ≡ spelling other → v ≡ other
values_same =
    value_ind IsAlone
    (λ other f. against Null 0 [] spelling-Null (λ _. refl) (λ _ _ e _. absurd (omega arith)) (λ _ e _. absurd (omega arith)) (λ _ _ _ e _. absurd (omega arith)) (λ _ _ e _. absurd (omega arith)) other)
    (λ n other f. against (Int n) 1 (varint (two's_complement n)) (spelling-Int n) (λ e. absurd (omega arith)) (λ k g _ e. ap Int (ints_same n k (fits-Int n f) (fits-Int k g) e)) (λ _ e _. absurd (omega arith)) (λ _ _ _ e _. absurd (omega arith)) (λ _ _ e _. absurd (omega arith)) other)
    (λ bytes other f. against (Blob bytes) 2 (varint (length bytes) ++ bytes) (spelling-Blob bytes) (λ e. absurd (omega arith)) (λ _ _ e _. absurd (omega arith)) (λ others _ e. ap Blob (blobs_same bytes others e)) (λ _ _ _ e _. absurd (omega arith)) (λ _ _ e _. absurd (omega arith)) other)
    (λ key value k v other f. against (Pair key value) 3 (spelling key ++ spelling value) (spelling-Pair key value) (λ e. absurd (omega arith)) (λ _ _ e _. absurd (omega arith)) (λ _ e _. absurd (omega arith))
    (λ key' value' g _ e.
    let parts = split_same (spelling key) (spelling key') (spelling value) (spelling value') (values_decide key key') e in
    let mine = fits-Pair key value f in
    let theirs = fits-Pair key' value' g in
    ap₂ Pair (k key' mine.0 theirs.0 parts.0) (v value' mine.1 theirs.1 parts.1))
    (λ _ _ e _. absurd (omega arith)) other)
    (λ items h other f. against (Seq items) 4 (varint (length items) ++ flat_map spelling items) (spelling-Seq items) (λ e. absurd (omega arith)) (λ _ _ e _. absurd (omega arith)) (λ _ e _. absurd (omega arith)) (λ _ _ _ e _. absurd (omega arith))
    (λ others g _ e. ap Seq (seqs_same items others h f g e)) other)
