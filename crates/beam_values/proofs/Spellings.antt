-- The spellings of values: none begins another.
use Rattle.std.proofs.Common.{◌≡◌, ℕ, ◌+◌, ◌<◌, ℤ, List, [], ◌∷◌, ◌++◌, length, refl, sym, ap, ◌∙◌, arith, inl, inr, ◌≢◌, suc, take, drop, drop-cons, get_or, add-one}
use Rattle.std.specs.declared.cmp.Ordering.{Ordering}
use Rattle.std.specs.declared.cmp.Ordering.TheVariants.{Less, Equal, Greater}
use Rattle.std.specs.Ordering.{ordering_then, nat_cmp}
use Rattle.std.specs.Cmp.Lexicographic.{slice_cmp}
use Rattle.std.specs.List.{flat_map, AllByRecursion}
use Rattle.std.proofs.Math.Seq.{take-suc}
use Rattle.std.proofs.lemmas.Bool.{cases_lt}
use Rattle.std.proofs.lemmas.List.Concat.{flat_map-cons}
use Rattle.beam_values.specs.declared.value.Value.{Value}
use Rattle.beam_values.specs.declared.value.Value.TheVariants.{Pair, Seq}
use Rattle.beam_values.specs.Spelling.{varint, two's_complement, spelling}
use Rattle.beam_values.proofs.Lexicographic.{DecideFirst, decide-below, decide-above, decide-∷, decide-empty, decide-long, decide-++}
use Rattle.beam_values.proofs.Varints.{varints_decide, varint-same, varints_tie, varints_apart}
use Rattle.beam_values.proofs.Induction.{value_ind, spelling-Null, spelling-Int, spelling-Blob, spelling-Pair, spelling-Seq}

-- what follows the first byte matters only where that is the same
decide-tags : (x y : ℕ) (xs ys : List ℕ) → (x ≡ y → DecideFirst xs ys) → DecideFirst (x ∷ xs) (y ∷ ys)
decide-tags x y xs ys rest =
    elim (cases_lt x y) [
      | inl below ↦ decide-below x y xs ys below
      | inr le ↦ elim (cases_lt y x) [
        | inl above ↦ decide-above x y xs ys above
        | inr ge ↦ decide-∷ x y xs ys (rest (omega arith))
      ]
    ]

-- a text that begins with a tag, against each form of value
against : (tag : ℕ) (text : List ℕ)
    → (tag ≡ 0 → DecideFirst text [])
    → ((n : ℤ) → tag ≡ 1 → DecideFirst text (varint (two's_complement n)))
    → ((bytes : List ℕ) → tag ≡ 2 → DecideFirst text (varint (length bytes) ++ bytes))
    → ((key value : Value) → tag ≡ 3 → DecideFirst text (spelling key ++ spelling value))
    → ((items : List Value) → tag ≡ 4 → DecideFirst text (varint (length items) ++ flat_map spelling items))
    → (other : Value) → DecideFirst (tag ∷ text) (spelling other)
against tag text null int blob pair seq =
    value_ind (λ other. DecideFirst (tag ∷ text) (spelling other))
    (rw spelling-Null (decide-tags tag 0 text [] null))
    (λ n. rw (spelling-Int n) (decide-tags tag 1 text (varint (two's_complement n)) (int n)))
    (λ bytes. rw (spelling-Blob bytes) (decide-tags tag 2 text (varint (length bytes) ++ bytes) (blob bytes)))
    (λ key value _ _. rw (spelling-Pair key value) (decide-tags tag 3 text (spelling key ++ spelling value) (pair key value)))
    (λ items _. rw (spelling-Seq items) (decide-tags tag 4 text (varint (length items) ++ flat_map spelling items) (seq items)))

-- no spelling begins that of another value
abbrev BeginsNone : Value → Type 0
BeginsNone v = (other : Value) → DecideFirst (spelling v) (spelling other)

items_decide : (items others : List Value) → AllByRecursion BeginsNone items → length items ≡ length others → DecideFirst (flat_map spelling items) (flat_map spelling others)
items_decide [] [] h e = decide-empty
items_decide [] (y ∷ ys) h e = absurd (omega arith)
items_decide (x ∷ xs) [] h e = absurd (omega arith)
items_decide (x ∷ xs) (y ∷ ys) h e =
    rw (flat_map-cons spelling x xs, flat_map-cons spelling y ys)
    (decide-++ (spelling x) (spelling y) (flat_map spelling xs) (flat_map spelling ys) (h.0 y) (λ _. items_decide xs ys h.1 (omega arith)))

pub values_decide : (v other : Value) → DecideFirst (spelling v) (spelling other)
values_decide =
    value_ind BeginsNone
    (rw spelling-Null (against 0 [] (λ e. decide-empty) (λ _ e. absurd (omega arith)) (λ _ e. absurd (omega arith)) (λ _ _ e. absurd (omega arith)) (λ _ e. absurd (omega arith))))
    (λ n. rw (spelling-Int n) (against 1 (varint (two's_complement n)) (λ e. absurd (omega arith)) (λ k e. varints_decide (two's_complement n) (two's_complement k)) (λ _ e. absurd (omega arith)) (λ _ _ e. absurd (omega arith)) (λ _ e. absurd (omega arith))))
    (λ bytes. rw (spelling-Blob bytes) (against 2 (varint (length bytes) ++ bytes) (λ e. absurd (omega arith)) (λ _ e. absurd (omega arith)) (λ others e. blobs bytes others) (λ _ _ e. absurd (omega arith)) (λ _ e. absurd (omega arith))))
    (λ key value k v. rw (spelling-Pair key value) (against 3 (spelling key ++ spelling value) (λ e. absurd (omega arith)) (λ _ e. absurd (omega arith)) (λ _ e. absurd (omega arith))
    (λ key' value' e. decide-++ (spelling key) (spelling key') (spelling value) (spelling value') (k key') (λ _. v value')) (λ _ e. absurd (omega arith))))
    (λ items h. rw (spelling-Seq items) (against 4 (varint (length items) ++ flat_map spelling items) (λ e. absurd (omega arith)) (λ _ e. absurd (omega arith)) (λ _ e. absurd (omega arith)) (λ _ _ e. absurd (omega arith))
    (λ others e. seqs items others h)))
  where
    blobs : (bytes others : List ℕ) → DecideFirst (varint (length bytes) ++ bytes) (varint (length others) ++ others)
    blobs bytes others = decide-++ (varint (length bytes)) (varint (length others)) bytes others (varints_decide (length bytes) (length others)) (λ e. decide-long bytes others (varint-same (length bytes) (length others) e))

    seqs : (items others : List Value) → AllByRecursion BeginsNone items → DecideFirst (varint (length items) ++ flat_map spelling items) (varint (length others) ++ flat_map spelling others)
    seqs items others h =
        decide-++ (varint (length items)) (varint (length others)) (flat_map spelling items) (flat_map spelling others) (varints_decide (length items) (length others))
        (λ e. items_decide items others h (varint-same (length items) (length others) e))

-- ---- the order of two values of one form

pairs_compared : (key value key' value' : Value)
    → slice_cmp nat_cmp (spelling (Pair key value)) (spelling (Pair key' value')) ≡ ordering_then (slice_cmp nat_cmp (spelling key) (spelling key')) (slice_cmp nat_cmp (spelling value) (spelling value'))
pairs_compared key value key' value' = rw (spelling-Pair key value, spelling-Pair key' value') ((values_decide key key').joined (spelling value) (spelling value'))

then_tied : (o p : Ordering) → o ≡ Equal → ordering_then o p ≡ p
then_tied o p e = ap (λ (r : Ordering). ordering_then r p) e

then_apart : (o p : Ordering) → o ≢ Equal → ordering_then o p ≡ o
then_apart Less p differ = refl
then_apart Equal p differ = absurd (differ refl)
then_apart Greater p differ = refl

pub pairs_tie : (key value key' value' : Value) → slice_cmp nat_cmp (spelling key) (spelling key') ≡ Equal
    → slice_cmp nat_cmp (spelling (Pair key value)) (spelling (Pair key' value')) ≡ slice_cmp nat_cmp (spelling value) (spelling value')
pairs_tie key value key' value' e = pairs_compared key value key' value' ∙ then_tied (slice_cmp nat_cmp (spelling key) (spelling key')) (slice_cmp nat_cmp (spelling value) (spelling value')) e

pub pairs_apart : (key value key' value' : Value) → slice_cmp nat_cmp (spelling key) (spelling key') ≢ Equal
    → slice_cmp nat_cmp (spelling (Pair key value)) (spelling (Pair key' value')) ≡ slice_cmp nat_cmp (spelling key) (spelling key')
pairs_apart key value key' value' e = pairs_compared key value key' value' ∙ then_apart (slice_cmp nat_cmp (spelling key) (spelling key')) (slice_cmp nat_cmp (spelling value) (spelling value')) e

-- the items from a place on, of two sequences that are both long enough
abbrev pub left_compared : List Value → List Value → ℕ → Ordering
left_compared xs ys i = slice_cmp nat_cmp (flat_map spelling (drop i xs)) (flat_map spelling (drop i ys))

items_compared : (xs ys : List Value) (i : ℕ) (x y : Value) → i < length xs → i < length ys → x ≡ get_or xs i x → y ≡ get_or ys i y
    → left_compared xs ys i ≡ ordering_then (slice_cmp nat_cmp (spelling x) (spelling y)) (left_compared xs ys (i + 1))
items_compared xs ys i x y p q e f =
    rw (drop-cons xs i x p, drop-cons ys i y q, ← e, ← f, add-one, flat_map-cons spelling x (drop (suc i) xs), flat_map-cons spelling y (drop (suc i) ys))
    ((values_decide x y).joined (flat_map spelling (drop (suc i) xs)) (flat_map spelling (drop (suc i) ys)))

pub items_tie : (xs ys : List Value) (i : ℕ) (x y : Value) → i < length xs → i < length ys → x ≡ get_or xs i x → y ≡ get_or ys i y
    → slice_cmp nat_cmp (spelling x) (spelling y) ≡ Equal → left_compared xs ys (i + 1) ≡ left_compared xs ys i
items_tie xs ys i x y p q e f tie = sym (items_compared xs ys i x y p q e f ∙ then_tied (slice_cmp nat_cmp (spelling x) (spelling y)) (left_compared xs ys (i + 1)) tie)

pub items_apart : (xs ys : List Value) (i : ℕ) (x y : Value) → i < length xs → i < length ys → x ≡ get_or xs i x → y ≡ get_or ys i y
    → slice_cmp nat_cmp (spelling x) (spelling y) ≢ Equal → slice_cmp nat_cmp (spelling x) (spelling y) ≡ left_compared xs ys i
items_apart xs ys i x y p q e f differ = sym (items_compared xs ys i x y p q e f ∙ then_apart (slice_cmp nat_cmp (spelling x) (spelling y)) (left_compared xs ys (i + 1)) differ)

-- one more item that is the same
pub same_more : (xs ys : List Value) (i : ℕ) (x y : Value) → i < length xs → i < length ys → x ≡ get_or xs i x → y ≡ get_or ys i y
    → take i xs ≡ take i ys → x ≡ y → take (i + 1) xs ≡ take (i + 1) ys
same_more xs ys i x y p q e f front same = rw (add-one, take-suc xs i x p, take-suc ys i y q, ← e, ← f, front, same) refl

pub seqs_tie : (items others : List Value) → length items ≡ length others
    → slice_cmp nat_cmp (spelling (Seq items)) (spelling (Seq others)) ≡ slice_cmp nat_cmp (flat_map spelling items) (flat_map spelling others)
seqs_tie items others e = rw (spelling-Seq items, spelling-Seq others) (varints_tie (length items) (length others) (flat_map spelling items) (flat_map spelling others) e)

pub seqs_apart : (items others : List Value) → length items ≢ length others
    → slice_cmp nat_cmp (spelling (Seq items)) (spelling (Seq others)) ≡ slice_cmp nat_cmp (varint (length items)) (varint (length others))
seqs_apart items others e = rw (spelling-Seq items, spelling-Seq others) (varints_apart (length items) (length others) (flat_map spelling items) (flat_map spelling others) e)
