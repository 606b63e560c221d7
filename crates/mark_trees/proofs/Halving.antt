-- What lies over a list, where an item of it is put or cut off, and what it tells of the list.
use Rattle.std.proofs.Common.{◌≡◌, ℕ, zero, suc, ◌+◌, ◌-◌, ◌*◌, ◌/◌, ◌<◌, ◌≤◌, ℤ, Bool, true, false, cond, List, [], ◌∷◌, ◌++◌, Vec, Global, length, take, get_or, Option, Some, None, refl, sym, ap, subst, ◌∙◌, ◌⊎◌, inl, inr, arith}
use Rattle.std.specs.Prelude.{slice_get, slice_set, int_le, fold, ◌||◌}
use Rattle.std.specs.Int.{int_min}
use Rattle.std.specs.List.{position}
use Rattle.std.specs.Option.{option_map}
use Rattle.std.proofs.lemmas.Grind.{common_steps}
use Rattle.std.proofs.lemmas.Bool.Decides.{nat_tests}
use Rattle.std.proofs.lemmas.Int.{ints, clamps}
use Rattle.std.specs.List.{All}
use Rattle.std.proofs.lemmas.List.{length-append, map-append, take_all}
use Rattle.std.proofs.lemmas.List.Elements.{All-head, All-tail}
use Rattle.std.proofs.lemmas.Option.{get_or_from_slice_get}
use Rattle.mark_trees.specs.Levels.{lists_of}
use Rattle.mark_trees.specs.Halves.{no_marks, lesser, least_of, is_due, first_due, halved, halvings, AreOver, AreLevels, lowest, put, put_up, IsUnder, HasTop}
use Rattle.mark_trees.specs.declared.twin_marks.TwinMarks.{TwinMarks}

two_more : (n : ℕ) → suc (suc n) / 2 ≡ suc (n / 2)
two_more n = omega arith

-- ---- lengths

pub half_within : (xs : List TwinMarks) (at : ℕ) → at ≤ length xs → at / 2 ≤ length (halved xs)
half_within [] at h = omega (arith, h)
half_within (a ∷ []) at h = omega (arith, h)
half_within (a ∷ (b ∷ rest)) zero h = omega arith
half_within (a ∷ (b ∷ rest)) (suc zero) h = omega arith
half_within (a ∷ (b ∷ rest)) (suc (suc at)) h = omega (arith, two_more at, half_within rest at (omega (arith, h)))

pub half_below : (xs : List TwinMarks) (at : ℕ) → at < length xs → at / 2 < length (halved xs)
half_below [] at h = absurd (omega (arith, h))
half_below (a ∷ []) at h = omega (arith, h)
half_below (a ∷ (b ∷ rest)) zero h = omega arith
half_below (a ∷ (b ∷ rest)) (suc zero) h = omega arith
half_below (a ∷ (b ∷ rest)) (suc (suc at)) h = omega (arith, two_more at, half_below rest at (omega (arith, h)))

-- ---- an item is put

pub put_sized : (xs : List TwinMarks) (at : ℕ) (m : TwinMarks) → length xs ≤ length (put xs at m)
put_sized [] zero m = omega arith
put_sized [] (suc at) m = omega arith
put_sized (a ∷ rest) zero m = omega arith
put_sized (a ∷ rest) (suc at) m = omega (arith, put_sized rest at m)

pub put_is_set : (xs : List TwinMarks) (at : ℕ) (m : TwinMarks) → at < length xs → put xs at m ≡ slice_set xs at m
put_is_set [] at m h = absurd (omega (arith, h))
put_is_set (a ∷ rest) zero m h = refl
put_is_set (a ∷ rest) (suc at) m h = ap (λ l. a ∷ l) (put_is_set rest at m (omega (arith, h)))

pub put_is_push : (xs : List TwinMarks) (at : ℕ) (m : TwinMarks) → at ≡ length xs → put xs at m ≡ xs ++ m ∷ []
put_is_push [] zero m h = refl
put_is_push [] (suc at) m h = absurd (omega (arith, h))
put_is_push (a ∷ rest) zero m h = absurd (omega (arith, h))
put_is_push (a ∷ rest) (suc at) m h = ap (λ l. a ∷ l) (put_is_push rest at m (omega (arith, h)))

pub halved_put : (xs : List TwinMarks) (at : ℕ) (m d : TwinMarks) → at ≤ length xs → halved (put xs at m) ≡ put (halved xs) (at / 2) (get_or (halved (put xs at m)) (at / 2) d)
halved_put [] zero m d h = refl
halved_put [] (suc at) m d h = absurd (omega (arith, h))
halved_put (a ∷ []) zero m d h = refl
halved_put (a ∷ []) (suc zero) m d h = refl
halved_put (a ∷ []) (suc (suc at)) m d h = absurd (omega (arith, h))
halved_put (a ∷ (b ∷ rest)) zero m d h = refl
halved_put (a ∷ (b ∷ rest)) (suc zero) m d h = refl
halved_put (a ∷ (b ∷ rest)) (suc (suc at)) m d h =
    let up = lesser a b ∷ halved (put rest at m) in
    ap (λ l. lesser a b ∷ l) (halved_put rest at m d (omega (arith, h)))
    ∙ ap (λ n. put (lesser a b ∷ halved rest) n (get_or up n d)) (sym (two_more at))

top_one : (low : List TwinMarks) (at : ℕ) (m : TwinMarks) → length low ≤ 1 → at ≡ 0 → length (put low at m) ≤ 1
top_one [] zero m h e = omega arith
top_one [] (suc at) m h e = absurd (omega (arith, e))
top_one (a ∷ rest) zero m h e = h
top_one (a ∷ rest) (suc at) m h e = absurd (omega (arith, e))

pub put_over : (low : List TwinMarks) (higher : List (List TwinMarks)) (at : ℕ) (m : TwinMarks) → AreOver low higher → at ≤ length low → IsUnder at higher
    → AreOver (put low at m) (put_up higher (at / 2) (get_or (halved (put low at m)) (at / 2) m))
put_over low [] at m h within under = top_one low at m h under
put_over low (high ∷ higher) at m h within under =
    let up = get_or (halved (put low at m)) (at / 2) m in (
      ap (λ l. put l (at / 2) up) h.0 ∙ sym (halved_put low at m m within),
      put_over high higher (at / 2) up h.1 (omega (arith, half_within low at within, ap length h.0)) under,
    )

pub under_below : (low : List TwinMarks) (higher : List (List TwinMarks)) (at : ℕ) → AreOver low higher → at < length low → IsUnder at higher
under_below low [] at h less = omega (arith, h, less)
under_below low (high ∷ higher) at h less = under_below high higher (at / 2) h.1 (omega (arith, half_below low at less, ap length h.0))

-- ---- what the lists tell

pub pair_of : (xs : List TwinMarks) (at : ℕ) (d : TwinMarks) → 2 * at + 1 < length xs → get_or (halved xs) at d ≡ lesser (get_or xs (2 * at) d) (get_or xs (2 * at + 1) d)
pair_of [] at d h = absurd (omega (arith, h))
pair_of (a ∷ []) at d h = absurd (omega (arith, h))
pair_of (a ∷ (b ∷ rest)) zero d h = refl
pair_of (a ∷ (b ∷ rest)) (suc at) d h =
    let first : suc (suc (2 * at)) ≡ 2 * suc at = omega arith in
    let second : suc (suc (2 * at + 1)) ≡ 2 * suc at + 1 = omega arith in
    pair_of rest at d (omega (arith, h))
    ∙ (λ i. lesser (get_or (a ∷ (b ∷ rest)) (first i) d) (get_or (a ∷ (b ∷ rest)) (second i) d))

pub alone_of : (xs : List TwinMarks) (at : ℕ) (d : TwinMarks) → length xs ≡ 2 * at + 1 → get_or (halved xs) at d ≡ get_or xs (2 * at) d
alone_of [] at d h = absurd (omega (arith, h))
alone_of (a ∷ []) zero d h = refl
alone_of (a ∷ []) (suc at) d h = absurd (omega (arith, h))
alone_of (a ∷ (b ∷ rest)) zero d h = absurd (omega (arith, h))
alone_of (a ∷ (b ∷ rest)) (suc at) d h =
    let first : suc (suc (2 * at)) ≡ 2 * suc at = omega arith in
    alone_of rest at d (omega (arith, h)) ∙ ap (λ n. get_or (a ∷ (b ∷ rest)) n d) first

min_assoc : (a b c : ℤ) → int_min a (int_min b c) ≡ int_min (int_min a b) c
min_assoc a b c = omega (arith, ints, clamps)

lesser_assoc : (a b c : TwinMarks) → lesser a (lesser b c) ≡ lesser (lesser a b) c
lesser_assoc a b c = λ i. record { due = min_assoc a.due b.due c.due i; hold = min_assoc a.hold b.hold c.hold i }

least_from : (xs : List TwinMarks) (m : TwinMarks) → fold lesser m (halved xs) ≡ fold lesser m xs
least_from [] m = refl
least_from (a ∷ []) m = refl
least_from (a ∷ (b ∷ rest)) m = ap (λ k. fold lesser k (halved rest)) (lesser_assoc m a b) ∙ least_from rest (lesser (lesser m a) b)

pub least_halved : (xs : List TwinMarks) → least_of (halved xs) ≡ least_of xs
least_halved xs = least_from xs no_marks

due_either : (bound : ℤ) (a b : TwinMarks) → is_due bound (lesser a b) ≡ (is_due bound a || is_due bound b)
due_either bound a b = by a.due b.due
  where
    by : (x y : ℤ) → int_le (int_min x y) bound ≡ (int_le x bound || int_le y bound)
    by x y = grind (arith, ints, clamps)

none_or_some : {X : Type 0} (o : Option X) → (o ≡ None) ⊎ ((x : X) × (o ≡ Some x))
none_or_some None = inl refl
none_or_some (Some x) = inr (x, refl)

at_yes : (p : TwinMarks → Bool) (x : TwinMarks) (xs : List TwinMarks) → p x ≡ true → position p (x ∷ xs) ≡ Some 0
at_yes p x xs e = grind (arith, common_steps)

at_no : (p : TwinMarks → Bool) (x : TwinMarks) (xs : List TwinMarks) → p x ≡ false → position p (x ∷ xs) ≡ option_map suc (position p xs)
at_no p x xs e = grind (arith, common_steps, nat_tests)

at_none : (p : TwinMarks → Bool) → position p [] ≡ None
at_none p = refl

same_at : (i j : ℕ) → Some i ≡ Some j → i ≡ j
same_at i j e = cc

pub first_none : (bound : ℤ) (xs : List TwinMarks) → first_due bound (halved xs) ≡ None → first_due bound xs ≡ None
first_none bound [] e = e
first_none bound (a ∷ []) e = e
first_none bound (a ∷ (b ∷ rest)) e = by (first_none bound rest) (is_due bound a) (is_due bound b) refl refl
  where
    absent : (o : Option ℕ) → option_map suc o ≡ None → o ≡ None
    absent None f = refl
    absent (Some x) f = absurd (cc)

    some_none : (i : ℕ) → Some i ≡ None → ⊥
    some_none i f = cc

    here : (x y : Bool) → is_due bound a ≡ x → is_due bound b ≡ y → is_due bound (lesser a b) ≡ (x || y)
    here x y f g = due_either bound a b ∙ (λ i. f i || g i)

    by : (first_due bound (halved rest) ≡ None → first_due bound rest ≡ None) → (x y : Bool) → is_due bound a ≡ x → is_due bound b ≡ y → first_due bound (a ∷ (b ∷ rest)) ≡ None
    by onward true y f g = absurd (some_none 0 (sym (at_yes (is_due bound) (lesser a b) (halved rest) (here true y f g)) ∙ e))
    by onward false true f g = absurd (some_none 0 (sym (at_yes (is_due bound) (lesser a b) (halved rest) (here false true f g)) ∙ e))
    by onward false false f g =
        let off = sym (at_no (is_due bound) (lesser a b) (halved rest) (here false false f g)) ∙ e in
        at_no (is_due bound) a (b ∷ rest) f ∙ ap (option_map suc) (at_no (is_due bound) b rest g ∙ ap (option_map suc) (onward (absent (first_due bound (halved rest)) off)))

abbrev IsFirstOfPair : ℤ → List TwinMarks → ℕ → TwinMarks → Type 0
IsFirstOfPair bound xs j d = (2 * j < length xs) × (first_due bound xs ≡ cond (is_due bound (get_or xs (2 * j) d)) (Some (2 * j)) (Some (2 * j + 1)))

pub first_some : (bound : ℤ) (xs : List TwinMarks) (j : ℕ) (d : TwinMarks) → first_due bound (halved xs) ≡ Some j → IsFirstOfPair bound xs j d
first_some bound [] j d e = absurd (cc)
first_some bound (a ∷ []) j d e = by (is_due bound a) refl
  where
    none_some : (k : ℕ) → None ≡ Some k → ⊥
    none_some k f = cc

    by : (x : Bool) → is_due bound a ≡ x → IsFirstOfPair bound (a ∷ []) j d
    by true f =
        let zero_is = same_at 0 j (sym (at_yes (is_due bound) a [] f) ∙ e) in
        subst (λ k. IsFirstOfPair bound (a ∷ []) k d) zero_is
        (omega arith, at_yes (is_due bound) a [] f ∙ sym (ap (λ b. cond b (Some 0) (Some 1)) f))
    by false f = absurd (none_some j (sym (at_no (is_due bound) a [] f) ∙ e))
first_some bound (a ∷ (b ∷ rest)) j d e = by (λ k f. first_some bound rest k d f) (is_due bound a) (is_due bound b) refl refl
  where
    here : (x y : Bool) → is_due bound a ≡ x → is_due bound b ≡ y → is_due bound (lesser a b) ≡ (x || y)
    here x y f g = due_either bound a b ∙ (λ i. f i || g i)

    later : (o : Option ℕ) → option_map suc o ≡ Some j → (k : ℕ) × (o ≡ Some k) × (suc k ≡ j)
    later None f = absurd (cc)
    later (Some k) f = (k, refl, same_at (suc k) j f)

    moved : (t : Bool) (k : ℕ) → option_map suc (option_map suc (cond t (Some (2 * k)) (Some (2 * k + 1)))) ≡ cond t (Some (2 * suc k)) (Some (2 * suc k + 1))
    moved true k = let n : suc (suc (2 * k)) ≡ 2 * suc k = omega arith in ap (λ m. Some m) n
    moved false k = let n : suc (suc (2 * k + 1)) ≡ 2 * suc k + 1 = omega arith in ap (λ m. Some m) n

    by : ((k : ℕ) → first_due bound (halved rest) ≡ Some k → IsFirstOfPair bound rest k d) → (x y : Bool) → is_due bound a ≡ x → is_due bound b ≡ y → IsFirstOfPair bound (a ∷ (b ∷ rest)) j d
    by onward true y f g =
        let zero_is = same_at 0 j (sym (at_yes (is_due bound) (lesser a b) (halved rest) (here true y f g)) ∙ e) in
        subst (λ k. IsFirstOfPair bound (a ∷ (b ∷ rest)) k d) zero_is
        (omega arith, at_yes (is_due bound) a (b ∷ rest) f ∙ sym (ap (λ t. cond t (Some 0) (Some 1)) f))
    by onward false true f g =
        let zero_is = same_at 0 j (sym (at_yes (is_due bound) (lesser a b) (halved rest) (here false true f g)) ∙ e) in
        subst (λ k. IsFirstOfPair bound (a ∷ (b ∷ rest)) k d) zero_is
        (omega arith, at_no (is_due bound) a (b ∷ rest) f ∙ ap (option_map suc) (at_yes (is_due bound) b rest g) ∙ sym (ap (λ t. cond t (Some 0) (Some 1)) f))
    by onward false false f g =
        let found = later (first_due bound (halved rest)) (sym (at_no (is_due bound) (lesser a b) (halved rest) (here false false f g)) ∙ e) in
        let k = found.0 in
        let below = onward k found.1 in
        let two : suc (suc (2 * k)) ≡ 2 * suc k = omega arith in
        subst (λ n. IsFirstOfPair bound (a ∷ (b ∷ rest)) n d) found.2 (
          omega (arith, below.0),
          at_no (is_due bound) a (b ∷ rest) f ∙ ap (option_map suc) (at_no (is_due bound) b rest g ∙ ap (option_map suc) below.1)
              ∙ moved (is_due bound (get_or rest (2 * k) d)) k
              ∙ ap (λ n. cond (is_due bound (get_or (a ∷ (b ∷ rest)) n d)) (Some (2 * suc k)) (Some (2 * suc k + 1))) two,
        )

-- of two places under one, by what stands at the first
pub pair_yes : (bound : ℤ) (xs : List TwinMarks) (j : ℕ) (m : TwinMarks) → first_due bound (halved xs) ≡ Some j → m ≡ get_or xs (2 * j) m → is_due bound m ≡ true → first_due bound xs ≡ Some (2 * j)
pair_yes bound xs j m e read on =
    (first_some bound xs j m e).1 ∙ ap (λ b. cond b (Some (2 * j)) (Some (2 * j + 1))) (ap (is_due bound) (sym read) ∙ on)

pub pair_no : (bound : ℤ) (xs : List TwinMarks) (j : ℕ) (m : TwinMarks) → first_due bound (halved xs) ≡ Some j → m ≡ get_or xs (2 * j) m → is_due bound m ≡ false → first_due bound xs ≡ Some (2 * j + 1)
pair_no bound xs j m e read off =
    (first_some bound xs j m e).1 ∙ ap (λ b. cond b (Some (2 * j)) (Some (2 * j + 1))) (ap (is_due bound) (sym read) ∙ off)

-- ---- lists over a list

abbrev pub last_of : List TwinMarks → List (List TwinMarks) → List TwinMarks
last_of low [] = low
last_of low (high ∷ higher) = last_of high higher

pub least_last : (low : List TwinMarks) (higher : List (List TwinMarks)) → AreOver low higher → least_of (last_of low higher) ≡ least_of low
least_last low [] h = refl
least_last low (high ∷ higher) h = least_last high higher h.1 ∙ ap least_of h.0 ∙ least_halved low

halvings_more : (at n : ℕ) → halvings at (suc n) ≡ halvings at n / 2
halvings_more at zero = refl
halvings_more at (suc n) = halvings_more (at / 2) n

halvings_last : (low : List TwinMarks) (higher : List (List TwinMarks)) (at : ℕ) → AreOver low higher → at ≤ length low → halvings at (length higher) ≤ 1
halvings_last low [] at h within = omega (arith, h, within)
halvings_last low (high ∷ higher) at h within = halvings_last high higher (at / 2) h.1 (omega (arith, half_within low at within, ap length h.0))

top_halved : (top : List TwinMarks) → length top ≤ 1 → top ≡ halved top
top_halved [] h = refl
top_halved (a ∷ []) h = refl
top_halved (a ∷ (b ∷ rest)) h = absurd (omega (arith, h))

last_short : (low : List TwinMarks) (higher : List (List TwinMarks)) → AreOver low higher → length (last_of low higher) ≤ 1
last_short low [] h = h
last_short low (high ∷ higher) h = last_short high higher h.1

-- the highest list may lie over itself
pub one_more_over : (low : List TwinMarks) (higher : List (List TwinMarks)) (top : List TwinMarks) → top ≡ last_of low higher → AreOver low higher → AreOver low (higher ++ top ∷ [])
one_more_over low [] top e h = (e ∙ top_halved low h, subst (λ (l : List TwinMarks). length l ≤ 1) (sym e) h)
one_more_over low (high ∷ higher) top e h = (h.0, one_more_over high higher top e h.1)

pub one_more_under : (low : List TwinMarks) (higher : List (List TwinMarks)) (top : List TwinMarks) (at : ℕ) → AreOver low higher → at ≤ length low → IsUnder at (higher ++ top ∷ [])
one_more_under low higher top at h within =
    let one = halvings_last low higher at h within in
    let sized : length (higher ++ top ∷ []) ≡ suc (length higher) = omega (arith, length-append higher (top ∷ [])) in
    ap (halvings at) sized ∙ halvings_more at (length higher) ∙ small (halvings at (length higher)) one
  where
    small : (n : ℕ) → n ≤ 1 → n / 2 ≡ 0
    small n le = omega (arith, le)

pub halvings_step : (at n k : ℕ) → k < n → halvings at (n - k) ≡ halvings (at / 2) (n - (k + 1))
halvings_step at n k less = let e : n - k ≡ suc (n - (k + 1)) = omega (arith, less) in ap (halvings at) e

pub last_is : (d v : Vec TwinMarks Global) (vs : List (Vec TwinMarks Global)) → (get_or (v ∷ vs) (length vs) d).items ≡ last_of v.items (lists_of vs)
last_is d v [] = refl
last_is d v (w ∷ vs) = last_is d w vs

pub record IsRaised (levels after : List (Vec TwinMarks Global)) (at : ℕ) : Type 0 where
  pub levels_are : AreLevels (lists_of after)
  pub lowest_is : lowest (lists_of after) ≡ lowest (lists_of levels)
  pub top : HasTop at (lists_of after)

pub raised : (levels after : List (Vec TwinMarks Global)) (top : Vec TwinMarks Global) (at : ℕ) → 0 < length levels → after ≡ levels ++ top ∷ []
    → ((d : Vec TwinMarks Global) → top.items ≡ (get_or levels (length levels - 1) d).items) → AreLevels (lists_of levels) → at ≡ length (lowest (lists_of levels)) → IsRaised levels after at
raised [] after top at some e is h place = absurd (omega (arith, some))
raised (v ∷ vs) after top at some e is h place =
    let last : length (v ∷ vs) - 1 ≡ length vs = omega arith in
    let copy : top.items ≡ last_of v.items (lists_of vs) = is v ∙ ap (λ n. (get_or (v ∷ vs) n v).items) last ∙ last_is v v vs in
    let lists : lists_of after ≡ v.items ∷ (lists_of vs ++ top.items ∷ []) = ap lists_of e ∙ ap (λ l. v.items ∷ l) (map-append (λ (x : Vec TwinMarks Global). x.items) vs (top ∷ [])) in
    record {
      levels_are = subst AreLevels (sym lists) (one_more_over v.items (lists_of vs) top.items copy h);
      lowest_is = ap lowest lists;
      top = subst (HasTop at) (sym lists) (one_more_under v.items (lists_of vs) top.items at h (omega (arith, place)));
    }

pub top_least : (levels : List (Vec TwinMarks Global)) (v : Vec TwinMarks Global) → slice_get levels (length levels - 1) ≡ Some v → AreLevels (lists_of levels)
    → least_of v.items ≡ least_of (lowest (lists_of levels))
top_least [] v e h = absurd (cc)
top_least (w ∷ ws) v e h =
    let last : length (w ∷ ws) - 1 ≡ length ws = omega arith in
    let own : get_or (w ∷ ws) (length ws) w ≡ v = get_or_from_slice_get (w ∷ ws) (length ws) v w (ap (slice_get (w ∷ ws)) (sym last) ∙ e) in
    ap (λ (x : Vec TwinMarks Global). least_of x.items) (sym own) ∙ ap least_of (last_is w w ws) ∙ least_last w.items (lists_of ws) h

-- an item in the place of another, or behind the last
pub set_levels : (levels : List (List TwinMarks)) (at : ℕ) (m : TwinMarks) → AreLevels levels → at < length (lowest levels) → AreLevels (put_up levels at m)
set_levels [] at m h less = tt
set_levels (low ∷ higher) at m h less = put_over low higher at m h (omega (arith, less)) (under_below low higher at h less)

pub lowest_set : (levels : List (List TwinMarks)) (at : ℕ) (m : TwinMarks) → at < length (lowest levels) → lowest (put_up levels at m) ≡ slice_set (lowest levels) at m
lowest_set [] at m less = refl
lowest_set (low ∷ higher) at m less = put_is_set low at m less

pub push_levels : (levels : List (List TwinMarks)) (at : ℕ) (m : TwinMarks) → AreLevels levels → at ≡ length (lowest levels) → HasTop at levels → AreLevels (put_up levels at m)
push_levels [] at m h place top = tt
push_levels (low ∷ higher) at m h place top = put_over low higher at m h (omega (arith, place)) top

pub lowest_push : (levels : List (List TwinMarks)) (at : ℕ) (m : TwinMarks) → at ≡ length (lowest levels) → HasTop at levels → lowest (put_up levels at m) ≡ lowest levels ++ m ∷ []
lowest_push [] at m place top = absurd top
lowest_push (low ∷ higher) at m place top = put_is_push low at m place

-- ---- the first that is due, one after the other

pub first_here : (bound : ℤ) (xs : List TwinMarks) (at : ℕ) (m : TwinMarks) → at < length xs → m ≡ get_or xs at m → is_due bound m ≡ true
    → All (λ x. is_due bound x ≡ false) (take at xs) → first_due bound xs ≡ Some at
first_here bound [] at m less read on before = absurd (omega (arith, less))
first_here bound (x ∷ xs) zero m less read on before = at_yes (is_due bound) x xs (ap (is_due bound) (sym read) ∙ on)
first_here bound (x ∷ xs) (suc at) m less read on before =
    at_no (is_due bound) x xs (All-head (λ y. is_due bound y ≡ false) x (take at xs) before)
    ∙ ap (option_map suc) (first_here bound xs at m (omega (arith, less)) read on (All-tail (λ y. is_due bound y ≡ false) x (take at xs) before))

none_here : (bound : ℤ) (xs : List TwinMarks) → All (λ x. is_due bound x ≡ false) xs → first_due bound xs ≡ None
none_here bound [] h = refl
none_here bound (x ∷ xs) h =
    at_no (is_due bound) x xs (All-head (λ y. is_due bound y ≡ false) x xs h) ∙ ap (option_map suc) (none_here bound xs (All-tail (λ y. is_due bound y ≡ false) x xs h))

pub first_nowhere : (bound : ℤ) (xs : List TwinMarks) (n : ℕ) → length xs ≤ n → All (λ x. is_due bound x ≡ false) (take n xs) → first_due bound xs ≡ None
first_nowhere bound xs n all h = none_here bound xs (subst (All (λ x. is_due bound x ≡ false)) (take_all n xs all) h)
