-- Varints: one more group at a time, and that none begins another.
use Rattle.std.proofs.Common.{◌≡◌, ℕ, zero, suc, ◌+◌, ◌<◌, ◌≤◌, ◌/◌, ◌%◌, ◌≢◌, List, [], ◌∷◌, ◌++◌, length, refl, sym, ap, ◌∙◌, arith, inl, inr, nat_lt, if◌then◌else◌, lt-ltb, le-ltb}
use Rattle.std.specs.declared.cmp.Ordering.{Ordering}
use Rattle.std.specs.declared.cmp.Ordering.TheVariants.{Less, Equal, Greater}
use Rattle.std.specs.Ordering.{ordering_then, nat_cmp}
use Rattle.std.specs.Cmp.{nat_cmp_is}
use Rattle.std.specs.Cmp.Lexicographic.{slice_cmp}
use Rattle.std.proofs.lemmas.Bool.{cases_lt}
use Rattle.beam_values.specs.Spelling.{groups, varint, blob_spelling}
use Rattle.beam_values.proofs.Lexicographic.{DecideFirst, decide-below, decide-above, decide-∷, decide-long, split_same, same_where_tied, tied, same_head, head_below, head_above}

-- more fuel than a number has groups changes nothing
groups-same : (f g n : ℕ) → n < f → n < g → groups f n ≡ groups g n
unfolding groups
groups-same zero g n h k = absurd (omega arith)
groups-same (suc f) zero n h k = absurd (omega arith)
groups-same (suc f) (suc g) n h k =
    elim (cases_lt n 128) [
      | inl lt ↦ rw (lt-ltb n 128 lt) refl
      | inr le ↦ rw (le-ltb n 128 le) (ap (λ (r : List ℕ). (128 + n % 128) ∷ r) (groups-same f g (n / 128) (omega arith) (omega arith)))
    ]

pub varint-last : (n : ℕ) → n < 128 → varint n ≡ n ∷ []
unfolding groups
varint-last n lt = rw (lt-ltb n 128 lt) refl

pub varint-more : (n : ℕ) → 128 ≤ n → varint n ≡ (128 + n % 128) ∷ varint (n / 128)
unfolding groups
varint-more n le = rw (le-ltb n 128 le) (ap (λ (r : List ℕ). (128 + n % 128) ∷ r) (groups-same n (suc (n / 128)) (n / 128) (omega arith) (omega arith)))

record Apart (m n : ℕ) : Type 0 where
  decide : DecideFirst (varint m) (varint n)
  same : varint m ≡ varint n → m ≡ n

apart_by : (m n : ℕ) (xs ys : List ℕ) → varint m ≡ xs → varint n ≡ ys → DecideFirst xs ys → (xs ≡ ys → m ≡ n) → Apart m n
apart_by m n xs ys p q decide same = record { decide = rw (p, q) decide; same = λ e. same (sym p ∙ e ∙ q) }

pub heads_same : (x y : ℕ) (xs ys : List ℕ) → x ∷ xs ≡ y ∷ ys → (x ≡ y) × (xs ≡ ys)
heads_same x y xs ys e = (cc, cc)

abbrev high : ℕ → List ℕ
high k = (128 + k % 128) ∷ varint (k / 128)

apart : (fuel m n : ℕ) → m < fuel → Apart m n
apart zero m n h = absurd (omega arith)
apart (suc fuel) m n h =
    elim (cases_lt m 128) [
      | inl a ↦ elim (cases_lt n 128) [
        | inl b ↦ apart_by m n (m ∷ []) (n ∷ []) (varint-last m a) (varint-last n b) (decide-long (m ∷ []) (n ∷ []) refl) (λ e. (heads_same m n [] [] e).0)
        | inr b ↦ apart_by m n (m ∷ []) (high n) (varint-last m a) (varint-more n b) (decide-below m (128 + n % 128) [] (varint (n / 128)) (omega arith)) (λ e. let same = heads_same m (128 + n % 128) [] (varint (n / 128)) e in absurd (omega arith))
      ]
      | inr a ↦ elim (cases_lt n 128) [
        | inl b ↦ apart_by m n (high m) (n ∷ []) (varint-more m a) (varint-last n b) (decide-above (128 + m % 128) n (varint (m / 128)) [] (omega arith)) (λ e. let same = heads_same (128 + m % 128) n (varint (m / 128)) [] e in absurd (omega arith))
        | inr b ↦
            let rest = apart fuel (m / 128) (n / 128) (omega arith) in
            apart_by m n (high m) (high n) (varint-more m a) (varint-more n b) (decide-∷ (128 + m % 128) (128 + n % 128) (varint (m / 128)) (varint (n / 128)) rest.decide)
            (λ e. let same = heads_same (128 + m % 128) (128 + n % 128) (varint (m / 128)) (varint (n / 128)) e in let top = rest.same same.1 in omega arith)
      ]
    ]

-- two varints followed by anything compare as the varints, and as what follows where the varints are the same: none begins another
pub varints_decide : (m n : ℕ) → DecideFirst (varint m) (varint n)
varints_decide m n = (apart (suc m) m n (omega arith)).decide

pub varint-same : (m n : ℕ) → varint m ≡ varint n → m ≡ n
varint-same m n e = (apart (suc m) m n (omega arith)).same e

-- two varints of different numbers decide whatever follows
pub varints_apart : (m n : ℕ) (s t : List ℕ) → m ≢ n → slice_cmp nat_cmp (varint m ++ s) (varint n ++ t) ≡ slice_cmp nat_cmp (varint m) (varint n)
varints_apart m n s t different = (varints_decide m n).joined s t ∙ settled (slice_cmp nat_cmp (varint m) (varint n)) refl
  where
    settled : (o : Ordering) → slice_cmp nat_cmp (varint m) (varint n) ≡ o → ordering_then o (slice_cmp nat_cmp s t) ≡ o
    settled Less e = refl
    settled Equal e = absurd (different (varint-same m n (same_where_tied (varint m) (varint n) e)))
    settled Greater e = refl

-- two varints of one number leave it to what follows
pub varints_tie : (m n : ℕ) (s t : List ℕ) → m ≡ n → slice_cmp nat_cmp (varint m ++ s) (varint n ++ t) ≡ slice_cmp nat_cmp s t
varints_tie m n s t e =
    ap (λ (k : ℕ). slice_cmp nat_cmp (varint k ++ s) (varint n ++ t)) e ∙ (varints_decide n n).joined s t ∙ ap (λ (o : Ordering). ordering_then o (slice_cmp nat_cmp s t)) (tied (varint n))

pub blobs_apart : (a b : List ℕ) → length a ≢ length b → slice_cmp nat_cmp (blob_spelling a) (blob_spelling b) ≡ slice_cmp nat_cmp (varint (length a)) (varint (length b))
blobs_apart a b different = varints_apart (length a) (length b) a b different

pub blobs_tie : (a b : List ℕ) → length a ≡ length b → slice_cmp nat_cmp (blob_spelling a) (blob_spelling b) ≡ slice_cmp nat_cmp a b
blobs_tie a b e = varints_tie (length a) (length b) a b e

-- one more group of each
pub groups_tie : (m n : ℕ) → 128 ≤ m → 128 ≤ n → m % 128 ≡ n % 128 → slice_cmp nat_cmp (varint m) (varint n) ≡ slice_cmp nat_cmp (varint (m / 128)) (varint (n / 128))
groups_tie m n a b e =
    rw (varint-more m a, varint-more n b, e) (same_head (128 + n % 128) (varint (m / 128)) (varint (n / 128)))

only : (o : Ordering) → ordering_then o Equal ≡ o
only Less = refl
only Equal = refl
only Greater = refl

-- the byte with which a varint begins
abbrev pub first_group : ℕ → ℕ
first_group n = if nat_lt n 128 then n else 128 + n % 128

-- unless both go on after the same group, the first bytes decide
pub first_groups_decide : (m n x y : ℕ) → x ≡ first_group m → y ≡ first_group n → (128 ≤ m → 128 ≤ n → m % 128 ≢ n % 128) → nat_cmp x y ≡ slice_cmp nat_cmp (varint m) (varint n)
first_groups_decide m n x y p q differ =
    elim (cases_lt m 128) [
      | inl a ↦ elim (cases_lt n 128) [
        | inl b ↦ rw (p, q, lt-ltb m 128 a, lt-ltb n 128 b, varint-last m a, varint-last n b) (sym (only (nat_cmp m n)))
        | inr b ↦ rw (p, q, lt-ltb m 128 a, le-ltb n 128 b, varint-last m a, varint-more n b) (sym (nat_cmp_is m (128 + n % 128) Less (omega arith)) ∙ sym (head_below m (128 + n % 128) [] (varint (n / 128)) (omega arith)))
      ]
      | inr a ↦ elim (cases_lt n 128) [
        | inl b ↦ rw (p, q, le-ltb m 128 a, lt-ltb n 128 b, varint-more m a, varint-last n b) (sym (nat_cmp_is (128 + m % 128) n Greater (omega arith)) ∙ sym (head_above (128 + m % 128) n (varint (m / 128)) [] (omega arith)))
        | inr b ↦ rw (p, q, le-ltb m 128 a, le-ltb n 128 b, varint-more m a, varint-more n b) (heads (128 + m % 128) (128 + n % 128) (varint (m / 128)) (varint (n / 128)) (λ e. differ a b (omega arith)))
      ]
    ]
  where
    heads : (h k : ℕ) (hs ks : List ℕ) → h ≢ k → nat_cmp h k ≡ slice_cmp nat_cmp (h ∷ hs) (k ∷ ks)
    heads h k hs ks different =
        elim (cases_lt h k) [
          | inl lt ↦ sym (nat_cmp_is h k Less lt) ∙ sym (head_below h k hs ks lt)
          | inr le ↦ let gt : k < h = omega (arith, different) in sym (nat_cmp_is h k Greater gt) ∙ sym (head_above h k hs ks gt)
        ]

-- strings of bytes that are spelled alike are the same
pub blob-same : (a b : List ℕ) → slice_cmp nat_cmp (blob_spelling a) (blob_spelling b) ≡ Equal → a ≡ b
blob-same a b tie =
    let alike : varint (length a) ++ a ≡ varint (length b) ++ b = same_where_tied (varint (length a) ++ a) (varint (length b) ++ b) tie in
    (split_same (varint (length a)) (varint (length b)) a b (varints_decide (length a) (length b)) alike).1
