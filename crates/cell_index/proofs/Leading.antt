-- What is spelled alike is led alike.
use Rattle.std.proofs.Common.{◌≡◌, ℕ, ℤ, ◌+◌, ◌-◌, ◌*◌, ◌/◌, ◌%◌, ◌^◌, List, [], ◌∷◌, ◌++◌, length, refl, sym, ap, ap₂, ◌∙◌, arith}
use Rattle.std.specs.List.{flat_map}
use Rattle.beam_values.specs.Intervals.{Interval}
use Rattle.beam_values.specs.Spelling.{varint, two's_complement, spelling}
use Rattle.beam_values.specs.declared.value.Value.{Value}
use Rattle.beam_values.specs.declared.value.Value.TheVariants.{Null, Int, Blob, Pair, Seq, rolls-Null, rolls-Int, rolls-Blob, rolls-Pair, rolls-Seq}
use Rattle.beam_values.specs.declared.value.Value.TheOpen as layer
use Rattle.beam_values.specs.declared.value.Value.TheViews.{out-roll-Value}
use Rattle.beam_values.proofs.Induction.{value_ind, spelling-Null, spelling-Int, spelling-Blob, spelling-Pair, spelling-Seq}
use Rattle.beam_values.proofs.Lexicographic.{split_same}
use Rattle.beam_values.proofs.Varints.{varints_decide, varint-same, heads_same}
use Rattle.cell_index.specs.Leads.{bytes_hash, key_hash, key_hash_step, lead_of, with_word}

hash-Null : key_hash Null ≡ 0
hash-Null = ap key_hash (sym rolls-Null) ∙ ap key_hash_step (out-roll-Value layer.Null)

hash-Int : (n : ℤ) → key_hash (Int n) ≡ with_word 0 (two's_complement n)
hash-Int n = ap key_hash (sym (rolls-Int n)) ∙ ap key_hash_step (out-roll-Value (layer.Int n))

hash-Blob : (bytes : List ℕ) → key_hash (Blob bytes) ≡ bytes_hash bytes
hash-Blob bytes = ap key_hash (sym (rolls-Blob bytes)) ∙ ap key_hash_step (out-roll-Value (layer.Blob bytes))

hash-Pair : (key value : Value) → key_hash (Pair key value) ≡ 0
hash-Pair key value = ap key_hash (sym (rolls-Pair key value)) ∙ ap key_hash_step (out-roll-Value (layer.Pair key value))

hash-Seq : (items : List Value) → key_hash (Seq items) ≡ 0
hash-Seq items = ap key_hash (sym (rolls-Seq items)) ∙ ap key_hash_step (out-roll-Value (layer.Seq items))

-- a hash that is one by the spelling of each form
against : (tag hash : ℕ) (text : List ℕ)
    → (tag ≡ 0 → hash ≡ 0)
    → ((n : ℤ) → tag ≡ 1 → text ≡ varint (two's_complement n) → hash ≡ with_word 0 (two's_complement n))
    → ((bytes : List ℕ) → tag ≡ 2 → text ≡ varint (length bytes) ++ bytes → hash ≡ bytes_hash bytes)
    → (tag ≡ 3 → hash ≡ 0)
    → (tag ≡ 4 → hash ≡ 0)
    → (other : Value) → tag ∷ text ≡ spelling other → hash ≡ key_hash other
against tag hash text null int blob pair seq =
    value_ind (λ other. tag ∷ text ≡ spelling other → hash ≡ key_hash other)
    (λ e. null (heads_same tag 0 text [] (e ∙ spelling-Null)).0 ∙ sym hash-Null)
    (λ n e. let h = heads_same tag 1 text (varint (two's_complement n)) (e ∙ spelling-Int n) in int n h.0 h.1 ∙ sym (hash-Int n))
    (λ bytes e. let h = heads_same tag 2 text (varint (length bytes) ++ bytes) (e ∙ spelling-Blob bytes) in blob bytes h.0 h.1 ∙ sym (hash-Blob bytes))
    (λ key value _ _ e. pair (heads_same tag 3 text (spelling key ++ spelling value) (e ∙ spelling-Pair key value)).0 ∙ sym (hash-Pair key value))
    (λ items _ e. seq (heads_same tag 4 text (varint (length items) ++ flat_map spelling items) (e ∙ spelling-Seq items)).0 ∙ sym (hash-Seq items))

blobs_same : (a b : List ℕ) → varint (length a) ++ a ≡ varint (length b) ++ b → a ≡ b
blobs_same a b e = (split_same (varint (length a)) (varint (length b)) a b (varints_decide (length a) (length b)) e).1

pub one_hash : (key other : Value) → spelling key ≡ spelling other → key_hash key ≡ key_hash other
one_hash =
    value_ind (λ key. (other : Value) → spelling key ≡ spelling other → key_hash key ≡ key_hash other)
    (λ other e. hash-Null ∙ against 0 0 [] (λ _. refl) (λ _ t _. absurd (omega arith)) (λ _ t _. absurd (omega arith)) (λ _. refl) (λ _. refl) other (sym spelling-Null ∙ e))
    (λ n other e. hash-Int n ∙ against 1 (with_word 0 (two's_complement n)) (varint (two's_complement n)) (λ t. absurd (omega arith))
    (λ k _ s. ap (with_word 0) (varint-same (two's_complement n) (two's_complement k) s)) (λ _ t _. absurd (omega arith)) (λ t. absurd (omega arith)) (λ t. absurd (omega arith)) other (sym (spelling-Int n) ∙ e))
    (λ bytes other e. hash-Blob bytes ∙ against 2 (bytes_hash bytes) (varint (length bytes) ++ bytes) (λ t. absurd (omega arith)) (λ _ t _. absurd (omega arith))
    (λ others _ s. ap bytes_hash (blobs_same bytes others s)) (λ t. absurd (omega arith)) (λ t. absurd (omega arith)) other (sym (spelling-Blob bytes) ∙ e))
    (λ key value _ _ other e. hash-Pair key value ∙ against 3 0 (spelling key ++ spelling value) (λ _. refl) (λ _ t _. absurd (omega arith)) (λ _ t _. absurd (omega arith)) (λ _. refl) (λ _. refl) other
    (sym (spelling-Pair key value) ∙ e))
    (λ items _ other e. hash-Seq items ∙ against 4 0 (varint (length items) ++ flat_map spelling items) (λ _. refl) (λ _ t _. absurd (omega arith)) (λ _ t _. absurd (omega arith)) (λ _. refl) (λ _. refl) other
    (sym (spelling-Seq items) ∙ e))

-- keys that are spelled alike have one lead in windows that begin together
pub one_lead : (key other : Value) (span w : Interval) → spelling key ≡ spelling other → span.start ≡ w.start → lead_of key span ≡ lead_of other w
unfolding lead_of
one_lead key other span w e starts =
    ap₂ (λ (s : ℤ) (h : ℕ). (2 ^ 32 - 1 - two's_complement s % 2 ^ 32) * 2 ^ 32 + h / 2 ^ 32) starts (one_hash key other e)
