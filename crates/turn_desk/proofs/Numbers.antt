-- Facts on the numbers of notes: sound notes and notes apart stay so where notes are parted and joined.
use Rattle.std.proofs.Common.{◌≡◌, ◌≢◌, ℕ, ◌+◌, ◌-◌, ◌<◌, List, [], ◌∷◌, ◌++◌, length, sym, refl, ap, subst, arith, length-append}
use native.Mathlib.Decide.{dec_le}
use Rattle.turn_desk.specs.declared.held.Note.{Note}
use Rattle.turn_desk.specs.Notes.{Each, AreDistinct, IsNotFree, size_of, IsSound, IsApart, HasSameNumbers, opening_note, kept_part, given_part, joined_note}

pub each_map : (P Q : ℕ → Type 0) → ((x : ℕ) → P x → Q x) → (xs : List ℕ) → Each P xs → Each Q xs
each_map P Q f [] e = tt
each_map P Q f (x ∷ xs) e = (f x e.0, each_map P Q f xs e.1)

each_both : (P Q R : ℕ → Type 0) → ((x : ℕ) → P x → Q x → R x) → (xs : List ℕ) → Each P xs → Each Q xs → Each R xs
each_both P Q R f [] d e = tt
each_both P Q R f (x ∷ xs) d e = (f x d.0 e.0, each_both P Q R f xs d.1 e.1)

each_append : (P : ℕ → Type 0) (xs ys : List ℕ) → Each P xs → Each P ys → Each P (xs ++ ys)
each_append P [] ys d e = e
each_append P (x ∷ xs) ys d e = (d.0, each_append P xs ys d.1 e)

each_nil : (xs ys : List ℕ) → Each (λ y. Each (λ x. x ≢ y) []) ys
each_nil xs [] = tt
each_nil xs (y ∷ ys) = (tt, each_nil xs ys)

-- no number of the one list is in the other, said from the other's side
pub swapped : (xs ys : List ℕ) → Each (λ x. Each (λ y. y ≢ x) ys) xs → Each (λ y. Each (λ x. x ≢ y) xs) ys
swapped [] ys e = each_nil [] ys
swapped (x ∷ xs) ys e = each_both (λ y. y ≢ x) (λ y. Each (λ x. x ≢ y) xs) (λ y. Each (λ x. x ≢ y) (x ∷ xs)) (λ y n d. ((λ same. n (sym same)), d)) ys e.0 (swapped xs ys e.1)

distinct_append : (xs ys : List ℕ) → AreDistinct xs → AreDistinct ys → Each (λ x. Each (λ y. y ≢ x) ys) xs → AreDistinct (xs ++ ys)
distinct_append [] ys d e apart = e
distinct_append (x ∷ xs) ys d e apart = (each_append (λ y. y ≢ x) xs ys d.0 apart.0, distinct_append xs ys d.1 e apart.1)

module _ {A : Type 0} where
  pub apart_back : (m n : Note A) → IsApart m n → IsApart n m
  apart_back m n a = record {
    lists = swapped m.numbers n.numbers a.lists;
    first = a.second;
    second = a.first;
    free = λ some. let f = a.free in grind arith;
  }

  pub sound_same : (m n : Note A) → HasSameNumbers m n → IsSound m → IsSound n
  sound_same m n same s = record {
    own = subst (λ (xs : List ℕ). 0 < length xs) (sym same.0) s.own;
    distinct = subst AreDistinct (sym same.0) s.distinct;
    below = subst (Each (λ x. x < 4294967296)) (sym same.0) s.below;
    taken = subst (λ (z : List ℕ × ℕ). Each (IsNotFree z.1) z.0) (λ i. (sym same.0 i, sym same.1 i)) s.taken;
    free = subst (λ (k : ℕ). k < 4294967296) (sym same.1) s.free;
  }

  pub apart_same : (m n other : Note A) → HasSameNumbers m n → IsApart m other → IsApart n other
  apart_same m n other same a = record {
    lists = subst (Each (λ x. Each (λ y. y ≢ x) other.numbers)) (sym same.0) a.lists;
    first = subst (Each (IsNotFree other.free)) (sym same.0) a.first;
    second = subst (λ (k : ℕ). Each (IsNotFree k) other.numbers) (sym same.1) a.second;
    free = subst (λ (k : ℕ). 0 < k → other.free ≡ 0) (sym same.1) a.free;
  }

  pub size_same : (m n : Note A) → HasSameNumbers m n → size_of n ≡ size_of m
  size_same m n same = ap (λ (z : List ℕ × ℕ). length z.0 + z.1) (λ i. (same.0 i, same.1 i))

  pub opening_sound : (about : A) → IsSound (opening_note about)
  opening_sound about = record { own = omega arith; distinct = (tt, tt); below = (omega arith, tt); taken = ((λ _. refl), tt); free = omega arith }

  module _ (m : Note A) (s : IsSound m) (some : 0 < m.free) where
    less_taken : (x : ℕ) → IsNotFree m.free x → IsNotFree (m.free - 1) x
    less_taken x t h = t (omega arith)

    pub kept_sound : (about : A) → IsSound (kept_part about m)
    kept_sound about = record {
      own = s.own;
      distinct = s.distinct;
      below = s.below;
      taken = each_map (IsNotFree m.free) (IsNotFree (m.free - 1)) less_taken m.numbers s.taken;
      free = let f = s.free in omega arith;
    }

    pub given_sound : (about : A) → IsSound (given_part about m)
    given_sound about = record {
      own = omega arith;
      distinct = (tt, tt);
      below = (s.free, tt);
      taken = ((λ h. absurd (omega arith)), tt);
      free = omega arith;
    }

    pub parts_size : (a b : A) → size_of (kept_part a m) + size_of (given_part b m) ≡ size_of m
    parts_size a b = omega arith

    pub parts_apart : (a b : A) → IsApart (kept_part a m) (given_part b m)
    parts_apart a b = record {
      lists = each_map (IsNotFree m.free) (λ x. Each (λ y. y ≢ x) (m.free ∷ [])) (λ x t. ((λ same. let z : x ≡ 0 = t (omega arith) in omega arith), tt)) m.numbers s.taken;
      first = each_map (IsNotFree m.free) (IsNotFree 0) (λ x t h. omega arith) m.numbers s.taken;
      second = ((λ h. absurd (omega arith)), tt);
      free = λ _. refl;
    }

    pub kept_apart : (about : A) (other : Note A) → IsApart m other → IsApart (kept_part about m) other
    kept_apart about other a = record {
      lists = a.lists;
      first = a.first;
      second = each_map (IsNotFree m.free) (IsNotFree (m.free - 1)) less_taken other.numbers a.second;
      free = λ _. a.free some;
    }

    pub given_apart : (about : A) (other : Note A) → IsApart m other → IsApart (given_part about m) other
    given_apart about other a = record {
      lists = (each_map (IsNotFree m.free) (λ y. y ≢ m.free) (λ y t same. let z : y ≡ 0 = t (omega arith) in omega arith) other.numbers a.second, tt);
      first = ((λ h. let none : other.free ≡ 0 = a.free some in absurd (omega arith)), tt);
      second = each_map (IsNotFree m.free) (IsNotFree 0) (λ x t h. omega arith) other.numbers a.second;
      free = λ h. absurd (omega arith);
    }

  module _ (about : A) (m n : Note A) where
    more_taken : (x : ℕ) → (0 < m.free → n.free ≡ 0) → IsNotFree m.free x → IsNotFree n.free x → IsNotFree (m.free + n.free) x
    more_taken x one s t h = elim (dec_le m.free 0) as (λ _. x ≡ 0) [ yes none ↦ t (omega arith) | no some ↦ (let e : n.free ≡ 0 = one (omega arith) in s (omega arith)) ]

    pub joined_sound : IsSound m → IsSound n → IsApart m n → IsSound (joined_note about m n)
    joined_sound s t a = record {
      own = (let h = s.own in omega (arith, length-append m.numbers n.numbers));
      distinct = distinct_append m.numbers n.numbers s.distinct t.distinct a.lists;
      below = each_append (λ x. x < 4294967296) m.numbers n.numbers s.below t.below;
      taken = each_append (IsNotFree (m.free + n.free)) m.numbers n.numbers
          (each_both (IsNotFree m.free) (IsNotFree n.free) (IsNotFree (m.free + n.free)) (λ x. more_taken x a.free) m.numbers s.taken a.first)
          (each_both (IsNotFree m.free) (IsNotFree n.free) (IsNotFree (m.free + n.free)) (λ x. more_taken x a.free) n.numbers a.second t.taken);
      free = (let f = s.free in let g = t.free in let one = a.free in grind arith);
    }

    pub joined_size : size_of (joined_note about m n) ≡ size_of m + size_of n
    joined_size = omega (arith, length-append m.numbers n.numbers)

    pub joined_apart : (other : Note A) → IsApart m n → IsApart m other → IsApart n other → IsApart (joined_note about m n) other
    joined_apart other one a b = record {
      lists = each_append (λ x. Each (λ y. y ≢ x) other.numbers) m.numbers n.numbers a.lists b.lists;
      first = each_append (IsNotFree other.free) m.numbers n.numbers a.first b.first;
      second = each_both (IsNotFree m.free) (IsNotFree n.free) (IsNotFree (m.free + n.free)) (λ x. more_taken x one.free) other.numbers a.second b.second;
      free = λ some. (let f = a.free in let g = b.free in grind arith);
    }
