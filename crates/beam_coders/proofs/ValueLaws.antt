-- A value that was written is read, and what is read is a value that was written.
use Rattle.std.proofs.Common.{◌≡◌, ◌≢◌, ℕ, zero, suc, ◌+◌, ◌-◌, ◌^◌, ◌<◌, ◌≤◌, false, cond, ℤ, pos, negsuc, FitsSigned, w64, List, [], ◌∷◌, ◌++◌, length, take, drop, nat_lt, Ok, Err, refl, sym, ap, subst, ◌∙◌, append_assoc, arith, inl, inr, lt-ltb, le-ltb, ltb-false}
use Rattle.std.specs.List.{flat_map, AllByRecursion}
use Rattle.std.proofs.lemmas.Bool.{cases_lt, ne_eqb}
use Rattle.std.proofs.lemmas.List.{take_at, drop_at, take-append-drop, length-append, length-take}
use Rattle.std.proofs.lemmas.List.Concat.{flat_map-cons}
use Rattle.beam_values.specs.declared.value.Value.{Value}
use Rattle.beam_values.specs.declared.value.Value.TheVariants.{Null, Int, Blob, Pair, Seq}
use Rattle.beam_values.specs.Spelling.{varint, two's_complement, spelling}
use Rattle.beam_values.specs.Storable.{IsStorable}
use Rattle.beam_values.proofs.Induction.{value_ind, spelling-Null, spelling-Int, spelling-Blob, spelling-Pair, spelling-Seq}
use Rattle.beam_values.proofs.Storable.{Null-fits, Int-fits, Blob-fits, Pair-fits, Seq-fits, fits-Int, fits-Pair, fits-Seq}
use Rattle.beam_coders.specs.declared.refusal.CoderRefusal.TheVariants.{Short, Tag}
use Rattle.beam_coders.specs.Readable.{nesting}
use Rattle.beam_coders.specs.Reading.{◌>>=◌, Reading, varint_at, signed, blob_at, items_at, tagged_at, value_at}
use Rattle.beam_coders.proofs.NestingLaws.{nesting-Null, nesting-Int, nesting-Blob, nesting-Pair, nesting-Seq, greatest_within, all_within}
use Rattle.beam_coders.proofs.Parts.{IsBytes, IsBytes-drop, IsBytes-rest, bind_ok, guard_ok, ok_is, Takes, Takes-then, Takes-byte}
use Rattle.beam_coders.proofs.VarintLaws.{varint_takes, varint_again}
use Rattle.beam_coders.proofs.ValueReading.{value_at-tag}

-- ---- the bits of a signed number

signed_bits : (n : ℕ) → n < 2 ^ 64 → (two's_complement (signed n) ≡ n) × FitsSigned w64 (signed n)
signed_bits n small =
    elim (cases_lt n (2 ^ 63)) [
      | inl low ↦ rw (lt-ltb n (2 ^ 63) low) (refl, record { sfits = low })
      | inr high ↦ rw (le-ltb n (2 ^ 63) high) (omega arith, record { sfits = omega arith })
    ]

bits_small : (n : ℤ) → FitsSigned w64 n → two's_complement n < 2 ^ 64
bits_small (pos n) f = omega (arith, f.sfits)
bits_small (negsuc n) f = omega arith

signed_again : (n : ℤ) → FitsSigned w64 n → signed (two's_complement n) ≡ n
signed_again (pos n) f = rw (lt-ltb n (2 ^ 63) f.sfits) refl
signed_again (negsuc n) f =
    let high : 2 ^ 63 ≤ 2 ^ 64 - 1 - n = omega (arith, f.sfits) in
    let back : 2 ^ 64 - 1 - (2 ^ 64 - 1 - n) ≡ n = omega (arith, f.sfits) in
    rw (le-ltb (2 ^ 64 - 1 - n) (2 ^ 63) high) (ap negsuc back)

-- ---- what is read was written

pub record ReadSo (depth : ℕ) (bytes : List ℕ) (x : Value × List ℕ) : Type 0 where
  pub takes : Takes bytes (spelling x.0) x.1
  pub within : nesting x.0 ≤ depth
  pub words : IsStorable x.0

abbrev ReadsSo : ℕ → (List ℕ → Reading Value) → Type 0
ReadsSo depth value = (bytes : List ℕ) (x : Value × List ℕ) → IsBytes bytes → value bytes ≡ Ok x → ReadSo depth bytes x

record ItemsReadSo (depth count : ℕ) (bytes : List ℕ) (x : List Value × List ℕ) : Type 0 where
  takes : Takes bytes (flat_map spelling x.0) x.1
  long : length x.0 ≡ count
  within : AllByRecursion (λ v. nesting v ≤ depth) x.0
  words : AllByRecursion IsStorable x.0

blob_takes : (bytes : List ℕ) (x : List ℕ × List ℕ) → IsBytes bytes → blob_at bytes ≡ Ok x → Takes bytes (varint (length x.0) ++ x.0) x.1
unfolding blob_at
blob_takes bytes x fits e =
    let len = bind_ok (varint_at 64 bytes) (λ n. cond (nat_lt (length n.1) n.0) (Err Short) (Ok (take n.0 n.1, drop n.0 n.1))) x e in
    let n = len.0 in
    let first = varint_takes 64 bytes n fits len.1 in
    let guard = guard_ok (nat_lt (length n.1) n.0) Short (take n.0 n.1, drop n.0 n.1) x len.2 in
    let long : n.0 ≤ length n.1 = ltb-false (length n.1) n.0 guard.0 in
    let size : length (take n.0 n.1) ≡ n.0 = omega (arith, length-take n.0 n.1) in
    let second : Takes n.1 (take n.0 n.1) (drop n.0 n.1) = record { parts = sym (take-append-drop n.0 n.1); rest_fits = IsBytes-drop n.0 n.1 first.0.rest_fits } in
    let both = Takes-then bytes (varint n.0) n.1 (take n.0 n.1) (drop n.0 n.1) first.0 second in
    let whole = subst (λ (k : ℕ). Takes bytes (varint k ++ take n.0 n.1) (drop n.0 n.1)) (sym size) both in
    subst (λ (y : List ℕ × List ℕ). Takes bytes (varint (length y.0) ++ y.0) y.1) guard.1 whole

module _ (value : List ℕ → Reading Value) (depth : ℕ) (so : ReadsSo depth value) where
  items_take : (count : ℕ) (bytes : List ℕ) (x : List Value × List ℕ) → IsBytes bytes → items_at value count bytes ≡ Ok x → ItemsReadSo depth count bytes x
  unfolding items_at
  items_take zero bytes x fits e = subst (ItemsReadSo depth 0 bytes) (ok_is ([], bytes) x e) record { takes = record { parts = refl; rest_fits = fits }; long = refl; within = tt; words = tt }
  items_take (suc count) bytes x fits e =
      let a = bind_ok (value bytes) (λ item. items_at value count item.1 >>= λ others. Ok (item.0 ∷ others.0, others.1)) x e in
      let item = a.0 in
      let b = bind_ok (items_at value count item.1) (λ others. Ok (item.0 ∷ others.0, others.1)) x a.2 in
      let others = b.0 in
      let first = so bytes item fits a.1 in
      let second = items_take count item.1 others first.takes.rest_fits b.1 in
      let both = Takes-then bytes (spelling item.0) item.1 (flat_map spelling others.0) others.1 first.takes second.takes in
      let whole : Takes bytes (flat_map spelling (item.0 ∷ others.0)) others.1 = rw (flat_map-cons spelling item.0 others.0) both in
      subst (ItemsReadSo depth (suc count) bytes) (ok_is (item.0 ∷ others.0, others.1) x b.2)
      record { takes = whole; long = ap suc second.long; within = (first.within, second.within); words = (first.words, second.words) }

  other_tag : (tag : ℕ) (bytes : List ℕ) → 4 < tag → tagged_at value tag bytes ≡ Err (Tag tag)
  unfolding tagged_at
  other_tag tag bytes above = rw (ne_eqb tag 0 (omega arith), ne_eqb tag 1 (omega arith), ne_eqb tag 2 (omega arith), ne_eqb tag 3 (omega arith), ne_eqb tag 4 (omega arith)) refl

  -- a tag and what follows it
  tagged_takes : (tag : ℕ) (bytes : List ℕ) (x : Value × List ℕ) → IsBytes bytes → tagged_at value tag bytes ≡ Ok x → ReadSo (suc depth) (tag ∷ bytes) x
  unfolding tagged_at
  tagged_takes zero bytes x fits e =
      subst (ReadSo (suc depth) (0 ∷ bytes)) (ok_is (Null, bytes) x e)
      record { takes = rw spelling-Null record { parts = refl; rest_fits = fits }; within = omega (arith, nesting-Null); words = Null-fits }
  tagged_takes (suc zero) bytes x fits e =
      let a = bind_ok (varint_at 64 bytes) (λ bits. Ok (Int (signed bits.0), bits.1)) x e in
      let n = a.0 in
      let bits = varint_takes 64 bytes n fits a.1 in
      let number = signed_bits n.0 bits.1 in
      let text : Takes (1 ∷ bytes) (1 ∷ varint (two's_complement (signed n.0))) n.1 = rw number.0 (Takes-byte 1 bytes (varint n.0) n.1 bits.0) in
      subst (ReadSo (suc depth) (1 ∷ bytes)) (ok_is (Int (signed n.0), n.1) x a.2)
      record { takes = rw (spelling-Int (signed n.0)) text; within = omega (arith, nesting-Int (signed n.0)); words = Int-fits (signed n.0) number.1 }
  tagged_takes (suc (suc zero)) bytes x fits e =
      let a = bind_ok (blob_at bytes) (λ blob. Ok (Blob blob.0, blob.1)) x e in
      let blob = a.0 in
      let text = Takes-byte 2 bytes (varint (length blob.0) ++ blob.0) blob.1 (blob_takes bytes blob fits a.1) in
      subst (ReadSo (suc depth) (2 ∷ bytes)) (ok_is (Blob blob.0, blob.1) x a.2)
      record { takes = rw (spelling-Blob blob.0) text; within = omega (arith, nesting-Blob blob.0); words = Blob-fits blob.0 }
  tagged_takes (suc (suc (suc zero))) bytes x fits e =
      let a = bind_ok (value bytes) (λ key. value key.1 >>= λ other. Ok (Pair key.0 other.0, other.1)) x e in
      let key = a.0 in
      let b = bind_ok (value key.1) (λ other. Ok (Pair key.0 other.0, other.1)) x a.2 in
      let other = b.0 in
      let first = so bytes key fits a.1 in
      let second = so key.1 other first.takes.rest_fits b.1 in
      let text = Takes-byte 3 bytes (spelling key.0 ++ spelling other.0) other.1 (Takes-then bytes (spelling key.0) key.1 (spelling other.0) other.1 first.takes second.takes) in
      subst (ReadSo (suc depth) (3 ∷ bytes)) (ok_is (Pair key.0 other.0, other.1) x b.2)
      record { takes = rw (spelling-Pair key.0 other.0) text; within = omega (arith, nesting-Pair key.0 other.0, first.within, second.within); words = Pair-fits key.0 other.0 first.words second.words }
  tagged_takes (suc (suc (suc (suc zero)))) bytes x fits e =
      let a = bind_ok (varint_at 64 bytes) (λ count. items_at value count.0 count.1 >>= λ items. Ok (Seq items.0, items.1)) x e in
      let count = a.0 in
      let b = bind_ok (items_at value count.0 count.1) (λ items. Ok (Seq items.0, items.1)) x a.2 in
      let items = b.0 in
      let first = varint_takes 64 bytes count fits a.1 in
      let second = items_take count.0 count.1 items first.0.rest_fits b.1 in
      let both = Takes-then bytes (varint count.0) count.1 (flat_map spelling items.0) items.1 first.0 second.takes in
      let counted : Takes bytes (varint (length items.0) ++ flat_map spelling items.0) items.1 = rw second.long both in
      let text = Takes-byte 4 bytes (varint (length items.0) ++ flat_map spelling items.0) items.1 counted in
      subst (ReadSo (suc depth) (4 ∷ bytes)) (ok_is (Seq items.0, items.1) x b.2)
      record { takes = rw (spelling-Seq items.0) text; within = omega (arith, nesting-Seq items.0, greatest_within depth items.0 second.within); words = Seq-fits items.0 second.words }
  tagged_takes (suc (suc (suc (suc (suc tag))))) bytes x fits e = absurd (cc (other_tag (suc (suc (suc (suc (suc tag))))) bytes (omega arith), e))

pub value_takes : (depth : ℕ) → ReadsSo depth (value_at depth)
unfolding value_at
value_takes zero bytes x fits e = absurd cc
value_takes (suc depth) [] x fits e = absurd cc
value_takes (suc depth) (tag ∷ bytes) x fits e = tagged_takes (value_at depth) depth (value_takes depth) tag bytes x (IsBytes-rest tag bytes fits) e

-- ---- what was written is read

pub spelling_long : (v : Value) → 1 ≤ length (spelling v)
spelling_long =
    value_ind (λ v. 1 ≤ length (spelling v))
    (rw spelling-Null (omega arith))
    (λ n. rw (spelling-Int n) (omega arith))
    (λ bytes. rw (spelling-Blob bytes) (omega arith))
    (λ key value _ _. rw (spelling-Pair key value) (omega arith))
    (λ items _. rw (spelling-Seq items) (omega arith))

items_long : (items : List Value) → length items ≤ length (flat_map spelling items)
items_long [] = omega arith
items_long (v ∷ vs) = rw (flat_map-cons spelling v vs) (omega (arith, length-append (spelling v) (flat_map spelling vs), spelling_long v, items_long vs))

-- a value is read again at any depth that is enough, whatever follows it
record IsReadAgain (v : Value) : Type 0 where
  again : (depth : ℕ) (rest : List ℕ) → nesting v ≤ depth → IsStorable v → length (spelling v) < 2 ^ 64 → value_at depth (spelling v ++ rest) ≡ Ok (v, rest)

-- by the tag that it begins with
tagged : (v : Value) (tag : ℕ) (text : List ℕ) → spelling v ≡ tag ∷ text → 1 ≤ nesting v
    → ((depth : ℕ) (rest : List ℕ) → nesting v ≤ suc depth → IsStorable v → length text < 2 ^ 64 → tagged_at (value_at depth) tag (text ++ rest) ≡ Ok (v, rest)) → IsReadAgain v
tagged v tag text is deep reads = record {
  again = λ depth rest within words small.
      let front : spelling v ++ rest ≡ tag ∷ (text ++ rest) = ap (λ (t : List ℕ). t ++ rest) is in
      let size : length (spelling v) ≡ suc (length text) = ap length is in
      let level : depth ≢ 0 = omega arith in
      value_at-tag depth tag (spelling v ++ rest) (text ++ rest) level front ∙ reads (depth - 1) rest (omega arith) words (omega arith);
}

blob_again : (bytes rest : List ℕ) → length bytes < 2 ^ 64 → blob_at ((varint (length bytes) ++ bytes) ++ rest) ≡ Ok (bytes, rest)
unfolding blob_at
blob_again bytes rest small =
    let front = varint_again 64 (length bytes) (bytes ++ rest) small in
    let long : nat_lt (length (bytes ++ rest)) (length bytes) ≡ false = le-ltb _ _ (omega (arith, length-append bytes rest)) in
    rw (append_assoc (varint (length bytes)) bytes rest, front, long, take_at bytes rest (length bytes) refl, drop_at bytes rest (length bytes) refl) refl

items_again : (depth : ℕ) (items : List Value) (rest : List ℕ) → AllByRecursion IsReadAgain items → AllByRecursion (λ v. nesting v ≤ depth) items → AllByRecursion IsStorable items
    → length (flat_map spelling items) < 2 ^ 64 → items_at (value_at depth) (length items) (flat_map spelling items ++ rest) ≡ Ok (items, rest)
unfolding items_at
items_again depth [] rest h within words small = refl
items_again depth (v ∷ vs) rest h within words small =
    let size : length (flat_map spelling (v ∷ vs)) ≡ length (spelling v) + length (flat_map spelling vs) = ap length (flat_map-cons spelling v vs) ∙ length-append (spelling v) (flat_map spelling vs) in
    let front : flat_map spelling (v ∷ vs) ++ rest ≡ spelling v ++ (flat_map spelling vs ++ rest) = ap (λ (t : List ℕ). t ++ rest) (flat_map-cons spelling v vs) ∙ append_assoc (spelling v) (flat_map spelling vs) rest in
    let first = h.0.again depth (flat_map spelling vs ++ rest) within.0 words.0 (omega arith) in
    let others = items_again depth vs rest h.1 within.1 words.1 (omega arith) in
    ap (items_at (value_at depth) (suc (length vs))) front ∙ rw (first, others) refl

int_reads : (n : ℤ) (depth : ℕ) (rest : List ℕ) → FitsSigned w64 n → tagged_at (value_at depth) 1 (varint (two's_complement n) ++ rest) ≡ Ok (Int n, rest)
unfolding tagged_at
int_reads n depth rest f = rw (varint_again 64 (two's_complement n) rest (bits_small n f), signed_again n f) refl

blob_reads : (bytes : List ℕ) (depth : ℕ) (rest : List ℕ) → length (varint (length bytes) ++ bytes) < 2 ^ 64 → tagged_at (value_at depth) 2 ((varint (length bytes) ++ bytes) ++ rest) ≡ Ok (Blob bytes, rest)
unfolding tagged_at
blob_reads bytes depth rest small = rw (blob_again bytes rest (omega (arith, length-append (varint (length bytes)) bytes))) refl

pair_reads : (key value : Value) → IsReadAgain key → IsReadAgain value → (depth : ℕ) (rest : List ℕ) → nesting (Pair key value) ≤ suc depth → IsStorable (Pair key value)
    → length (spelling key ++ spelling value) < 2 ^ 64 → tagged_at (value_at depth) 3 ((spelling key ++ spelling value) ++ rest) ≡ Ok (Pair key value, rest)
unfolding tagged_at
pair_reads key value k v depth rest within words small =
    let size = length-append (spelling key) (spelling value) in
    let deep = nesting-Pair key value in
    let fits = fits-Pair key value words in
    let first = k.again depth (spelling value ++ rest) (omega arith) fits.0 (omega arith) in
    let second = v.again depth rest (omega arith) fits.1 (omega arith) in
    rw (append_assoc (spelling key) (spelling value) rest, first, second) refl

seq_reads : (items : List Value) → AllByRecursion IsReadAgain items → (depth : ℕ) (rest : List ℕ) → nesting (Seq items) ≤ suc depth → IsStorable (Seq items)
    → length (varint (length items) ++ flat_map spelling items) < 2 ^ 64 → tagged_at (value_at depth) 4 ((varint (length items) ++ flat_map spelling items) ++ rest) ≡ Ok (Seq items, rest)
unfolding tagged_at
seq_reads items h depth rest within words small =
    let size = length-append (varint (length items)) (flat_map spelling items) in
    let deep = nesting-Seq items in
    let long = items_long items in
    let count = varint_again 64 (length items) (flat_map spelling items ++ rest) (omega arith) in
    let inside = items_again depth items rest h (all_within depth items (omega arith)) (fits-Seq items words) (omega arith) in
    rw (append_assoc (varint (length items)) (flat_map spelling items) rest, count, inside) refl

null_reads : (depth : ℕ) (rest : List ℕ) → tagged_at (value_at depth) 0 rest ≡ Ok (Null, rest)
unfolding tagged_at
null_reads depth rest = refl

read_again : (v : Value) → IsReadAgain v
read_again =
    value_ind IsReadAgain
    (tagged Null 0 [] spelling-Null (omega (arith, nesting-Null)) (λ depth rest _ _ _. null_reads depth rest))
    (λ n. tagged (Int n) 1 (varint (two's_complement n)) (spelling-Int n) (omega (arith, nesting-Int n)) (λ depth rest _ words _. int_reads n depth rest (fits-Int n words)))
    (λ bytes. tagged (Blob bytes) 2 (varint (length bytes) ++ bytes) (spelling-Blob bytes) (omega (arith, nesting-Blob bytes)) (λ depth rest _ _ small. blob_reads bytes depth rest small))
    (λ key value k v. tagged (Pair key value) 3 (spelling key ++ spelling value) (spelling-Pair key value) (omega (arith, nesting-Pair key value)) (pair_reads key value k v))
    (λ items h. tagged (Seq items) 4 (varint (length items) ++ flat_map spelling items) (spelling-Seq items) (omega (arith, nesting-Seq items)) (seq_reads items h))

pub value_again : (v : Value) (depth : ℕ) (rest : List ℕ) → nesting v ≤ depth → IsStorable v → length (spelling v) < 2 ^ 64 → value_at depth (spelling v ++ rest) ≡ Ok (v, rest)
value_again v = (read_again v).again
