-- The four laws of the counts.
use Rattle.std.proofs.Common.{◌≡◌, ◌≢◌, ℕ, ◌+◌, ◌<◌, List, [], ◌∷◌, ◌++◌, length, get_or, set, sym, ap, ◌∙◌, subst, arith, length-set, get_or-set_other, get_or-set_same}
use native.Mathlib.Decide.{dec_le}
use Rattle.turn_desk.specs.declared.held.Note.{Note}
use Rattle.turn_desk.specs.Notes.{Each, AreDistinct, IsNotFree, IsSound, IsApart, HasSameNumbers, kept_part, given_part, joined_note}
use Rattle.turn_desk.specs.Tally.{place_of, count_at, AreCounts, TallyFits, raised, raised_note, TallyMoves}

-- a count at another number stays
other_count : (counts : List ℕ) (own n v : ℕ) → own < 4294967296 → n < 4294967296 → n ≢ own → count_at (set counts (place_of own) v) n ≡ count_at counts n
other_count counts own n v a b apart = get_or-set_other counts (place_of own) (place_of n) v 0 (λ e. apart (omega arith))

others_counts : (counts : List ℕ) (own v : ℕ) (ns ks : List ℕ) → own < 4294967296 → Each (λ n. n < 4294967296) ns → Each (λ n. n ≢ own) ns → AreCounts counts ns ks → AreCounts (set counts (place_of own) v) ns ks
others_counts counts own v [] [] a b c d = tt
others_counts counts own v [] (k ∷ ks) a b c d = absurd d
others_counts counts own v (n ∷ ns) [] a b c d = absurd d
others_counts counts own v (n ∷ ns) (k ∷ ks) a b c d = (other_count counts own n v a b.0 c.0 ∙ d.0, others_counts counts own v ns ks a b.1 c.1 d.1)

own_counts : (counts : List ℕ) (ns ks : List ℕ) → 0 < length ns → Each (λ n. n < 4294967296) ns → AreDistinct ns → place_of (get_or ns 0 0) < length counts → AreCounts counts ns ks
    → AreCounts (set counts (place_of (get_or ns 0 0)) (count_at counts (get_or ns 0 0) + 1)) ns (raised ks)
own_counts counts [] ks some a b c d = absurd (omega arith)
own_counts counts (n ∷ ns) [] some a b c d = absurd d
own_counts counts (n ∷ ns) (k ∷ ks) some a b c d =
    (get_or-set_same counts (place_of n) (count_at counts n + 1) 0 c ∙ ap (λ (z : ℕ). z + 1) d.0, others_counts counts n (count_at counts n + 1) ns ks a.0 a.1 b.0 d.1)

first_of : (P : ℕ → Type 0) (ns : List ℕ) → 0 < length ns → Each P ns → P (get_or ns 0 0)
first_of P [] some e = absurd (omega arith)
first_of P (n ∷ ns) some e = e.0

pub tally_own : (c : ℕ) (x y : List ℕ) (m n : Note (List ℕ)) → IsSound m → TallyFits x c m → TallyMoves x m y n → TallyFits y c n × HasSameNumbers m n
tally_own c x y m n sound fit move =
    let own : ℕ = get_or m.numbers 0 0 in let below : own < 4294967296 = first_of (λ z. z < 4294967296) m.numbers sound.own sound.below in
    let taken : IsNotFree m.free own = first_of (IsNotFree m.free) m.numbers sound.own sound.taken in
    let v : ℕ = count_at x own + 1 in
    let raised : TallyFits (set x (place_of own) v) c (raised_note m) = (
      length-set x (place_of own) v ∙ fit.0,
      own_counts x m.numbers m.about sound.own sound.below sound.distinct move.0 fit.1,
      λ k some free. other_count x own k v below (let f = sound.free in omega arith) (λ e. let z : own ≡ 0 = taken (omega arith) in omega arith) ∙ fit.2 k some free,
    ) in (
      subst (λ (z : List ℕ × Note (List ℕ)). TallyFits z.0 c z.1) (λ i. (sym move.1 i, sym move.2 i)) raised,
      (ap (λ (z : Note (List ℕ)). z.numbers) move.2, ap (λ (z : Note (List ℕ)). z.free) move.2),
    )

pub tally_others : (c : ℕ) (x y : List ℕ) (m n other : Note (List ℕ)) → IsSound m → IsSound other → IsApart m other → TallyFits x c m → TallyMoves x m y n → TallyFits x c other → TallyFits y c other
tally_others c x y m n other sound sound' apart fit move theirs =
    let own : ℕ = get_or m.numbers 0 0 in let below : own < 4294967296 = first_of (λ z. z < 4294967296) m.numbers sound.own sound.below in
    let taken : IsNotFree other.free own = first_of (IsNotFree other.free) m.numbers sound.own apart.first in
    let away : Each (λ y. y ≢ own) other.numbers = first_of (λ x. Each (λ y. y ≢ x) other.numbers) m.numbers sound.own apart.lists in
    let v : ℕ = count_at x own + 1 in
    subst (λ (z : List ℕ). TallyFits z c other) (sym move.1) (
      length-set x (place_of own) v ∙ theirs.0,
      others_counts x own v other.numbers other.about below sound'.below away theirs.1,
      λ k some free. other_count x own k v below (let f = sound'.free in omega arith) (λ e. let z : own ≡ 0 = taken (omega arith) in omega arith) ∙ theirs.2 k some free,
    )

pub tally_parts : (c : ℕ) (x : List ℕ) (m : Note (List ℕ)) → IsSound m → 0 < m.free → TallyFits x c m → TallyFits x c (kept_part m.about m) × TallyFits x c (given_part (0 ∷ []) m)
tally_parts c x m sound some fit = (
  (fit.0, fit.1, λ n positive below. fit.2 n positive (omega arith)),
  (fit.0, (fit.2 m.free some (omega arith), tt), λ n positive below. absurd (omega arith)),
)

counts_append : (x ms ks ns js : List ℕ) → AreCounts x ms ks → AreCounts x ns js → AreCounts x (ms ++ ns) (ks ++ js)
counts_append x [] [] ns js a b = b
counts_append x [] (k ∷ ks) ns js a b = absurd a
counts_append x (m ∷ ms) [] ns js a b = absurd a
counts_append x (m ∷ ms) (k ∷ ks) ns js a b = (a.0, counts_append x ms ks ns js a.1 b)

pub tally_join : (c : ℕ) (x : List ℕ) (m n : Note (List ℕ)) → IsSound m → IsSound n → IsApart m n → TallyFits x c m → TallyFits x c n → TallyFits x c (joined_note (m.about ++ n.about) m n)
tally_join c x m n sound sound' apart fit fit' = (
  fit.0,
  counts_append x m.numbers m.about n.numbers n.about fit.1 fit'.1,
  λ k some below. elim (dec_le k m.free) as (λ _. count_at x k ≡ 0) [
    | yes within ↦ fit.2 k some within
    | no beyond ↦ fit'.2 k some (let one = apart.free in grind arith)
  ],
)
