-- An item is put into one list after the other.
use Rattle.std.proofs.Common.{◌≡◌, ℕ, zero, suc, ◌+◌, ◌*◌, ◌/◌, ◌<◌, ◌≤◌, ℤ, List, [], ◌∷◌, ◌++◌, Vec, Global, length, take, drop, get_or, Option, Some, None, refl, sym, ap, subst, ◌∙◌, arith, append_assoc}
use Rattle.std.specs.Prelude.{slice_get, slice_set}
use Rattle.std.specs.List.{All}
use Rattle.std.proofs.lemmas.List.{append-nil, drop-map, drop-set-lt, drop-drop, drop_all, drop_more, get_or-map, length-map, length-set, map-append, map-set, set-get_or, take-append-drop, take-map, take_all, take_more_set}
use Rattle.std.proofs.lemmas.List.Elements.{All-head, All-tail}
use Rattle.std.proofs.lemmas.Option.{get_or_from_slice_get, slice_get-get_or, slice_get_within}
use Rattle.mark_trees.specs.Halves.{first_due, halved, no_marks, put, put_up, AreOver, AreLevels, lowest}
use Rattle.mark_trees.specs.Levels.{HasRoom, HaveRoom, IsPutAt, lists_of}
use Rattle.mark_trees.specs.declared.twin_marks.TwinMarks.{TwinMarks}
use Rattle.mark_trees.proofs.Halving.{first_none, first_some, half_below, half_within}

missing : {X : Type 0} (xs : List X) (k : ℕ) → slice_get xs k ≡ None → k < length xs → ⊥
missing [] k e less = omega arith
missing (x ∷ xs) zero e less = cc
missing (x ∷ xs) (suc k) e less = missing xs k e (omega arith)

pub record IsStep (initial levels after : List (Vec TwinMarks Global)) (k : ℕ) (at : ℕ) (up : TwinMarks) (all : List (List TwinMarks)) : Type 0 where
  pub same : drop (k + 1) after ≡ drop (k + 1) initial
  pub made : take (k + 1) (lists_of after) ++ put_up (drop (k + 1) (lists_of initial)) (at / 2) up ≡ all
  pub room : HaveRoom (at / 2) (drop (k + 1) initial)
  pub sized : length levels ≡ length initial → length after ≡ length initial

pub put_step : (initial levels after : List (Vec TwinMarks Global)) (k at : ℕ) (m up : TwinMarks) (all : List (List TwinMarks))
    → k < length levels → drop k levels ≡ drop k initial
    → ((old : Vec TwinMarks Global) → slice_get levels k ≡ Some old → IsPutAt levels k old at m after up)
    → take k (lists_of levels) ++ put_up (drop k (lists_of initial)) at m ≡ all
    → HaveRoom at (drop k initial) → IsStep initial levels after k at up all
put_step initial levels after k at m up all less same puts made room = by (slice_get levels k) refl
  where
    by : (found : Option (Vec TwinMarks Global)) → slice_get levels k ≡ found → IsStep initial levels after k at up all
    by None e = absurd (missing levels k e less)
    by (Some old) e =
        let p = puts old e in
        let here : drop k levels ≡ old ∷ drop (k + 1) levels = drop_more levels k old less ∙ ap (λ (v : Vec TwinMarks Global). v ∷ drop (k + 1) levels) (get_or_from_slice_get levels k old old e) in
        let there : drop k initial ≡ old ∷ drop (k + 1) levels = sym same ∙ here in
        let rest : drop (k + 1) levels ≡ drop (k + 1) initial = next k levels initial same in
        let first : drop k initial ≡ old ∷ drop (k + 1) initial = there ∙ ap (λ l. old ∷ l) rest in
        let lists : drop k (lists_of initial) ≡ old.items ∷ drop (k + 1) (lists_of initial) =
        drop-map (λ (v : Vec TwinMarks Global). v.items) k initial ∙ ap lists_of first
        ∙ ap (λ (l : List (List TwinMarks)). old.items ∷ l) (sym (drop-map (λ (v : Vec TwinMarks Global). v.items) (k + 1) initial)) in
        let front : take (k + 1) (lists_of after) ≡ take k (lists_of levels) ++ p.new.items ∷ [] =
        take-map (λ (v : Vec TwinMarks Global). v.items) (k + 1) after ∙ ap lists_of (ap (take (k + 1)) p.set ∙ take_more_set levels k p.new less)
        ∙ map-append (λ (v : Vec TwinMarks Global). v.items) (take k levels) (p.new ∷ [])
        ∙ ap (λ (l : List (List TwinMarks)). l ++ p.new.items ∷ []) (sym (take-map (λ (v : Vec TwinMarks Global). v.items) k levels)) in
        let onward : put_up (old.items ∷ drop (k + 1) (lists_of initial)) at m ≡ p.new.items ∷ put_up (drop (k + 1) (lists_of initial)) (at / 2) up =
        (λ i. sym p.items i ∷ put_up (drop (k + 1) (lists_of initial)) (at / 2) (get_or (halved (sym p.items i)) (at / 2) m))
        ∙ ap (λ u. p.new.items ∷ put_up (drop (k + 1) (lists_of initial)) (at / 2) u) (sym p.over) in
        let have = subst (HaveRoom at) first room in
        record {
          same = ap (drop (k + 1)) p.set ∙ drop-set-lt (k + 1) levels k p.new (omega arith) ∙ rest;
          made = ap (λ l. l ++ put_up (drop (k + 1) (lists_of initial)) (at / 2) up) front
              ∙ append_assoc (take k (lists_of levels)) (p.new.items ∷ []) (put_up (drop (k + 1) (lists_of initial)) (at / 2) up)
              ∙ ap (λ l. take k (lists_of levels) ++ l) (sym onward ∙ ap (λ l. put_up l at m) (sym lists))
              ∙ made;
          room = have.2;
          sized = λ f. ap length p.set ∙ length-set levels k p.new ∙ f;
        }
      where
        next : (n : ℕ) (xs ys : List (Vec TwinMarks Global)) → drop n xs ≡ drop n ys → drop (n + 1) xs ≡ drop (n + 1) ys
        next n xs ys f = sym (drop-drop 1 n xs) ∙ ap (drop 1) f ∙ drop-drop 1 n ys

pub put_done : (initial levels : List (Vec TwinMarks Global)) (k at : ℕ) (m : TwinMarks) (all : List (List TwinMarks)) → length levels ≤ k → length initial ≤ k
    → take k (lists_of levels) ++ put_up (drop k (lists_of initial)) at m ≡ all → lists_of levels ≡ all
put_done initial levels k at m all end ends made =
    sym (append-nil (lists_of levels))
    ∙ (λ i. sym (take-map (λ (v : Vec TwinMarks Global). v.items) k levels ∙ ap lists_of (take_all k levels end)) i ++ put_up (sym (drop-map (λ (v : Vec TwinMarks Global). v.items) k initial ∙ ap lists_of (drop_all k initial ends)) i) at m)
    ∙ made

-- ---- where nothing changes

pub levels_above : (lists : List (List TwinMarks)) (k : ℕ) → k < length lists → AreLevels (drop k lists) → AreLevels (drop (k + 1) lists)
levels_above [] k less h = absurd (omega (arith, less))
levels_above (x ∷ []) zero less h = tt
levels_above (x ∷ (y ∷ rest)) zero less h = h.1
levels_above (x ∷ xs) (suc k) less h =
    let next : suc (k + 1) ≡ suc k + 1 = omega arith in
    subst (λ n. AreLevels (drop n (x ∷ xs))) next (levels_above xs k (omega (arith, less)) h)

put_same : (xs : List TwinMarks) (at : ℕ) (m : TwinMarks) → slice_get xs at ≡ Some m → put xs at m ≡ xs
put_same [] at m e = absurd (cc)
put_same (x ∷ xs) zero m e = let own : m ≡ x = cc in ap (λ (y : TwinMarks). y ∷ xs) own
put_same (x ∷ xs) (suc at) m e = ap (λ l. x ∷ l) (put_same xs at m e)

-- what stands at a place is what lies over it, and so on
put_over_same : (low : List TwinMarks) (higher : List (List TwinMarks)) (at : ℕ) (m : TwinMarks) → AreOver low higher → slice_get low at ≡ Some m
    → put_up (low ∷ higher) at m ≡ low ∷ higher
put_over_same low [] at m h e = ap (λ l. l ∷ []) (put_same low at m e)
put_over_same low (high ∷ higher) at m h e =
    let same = put_same low at m e in
    let up = get_or (halved low) (at / 2) m in
    let over : slice_get high (at / 2) ≡ Some up =
    ap (λ l. slice_get l (at / 2)) h.0 ∙ slice_get-get_or (halved low) (at / 2) m (half_below low at (slice_get_within low at m e)) in
    (λ i. same i ∷ put_up (high ∷ higher) (at / 2) (get_or (halved (same i)) (at / 2) m))
    ∙ ap (λ l. low ∷ l) (put_over_same high higher (at / 2) up h.1 over)

pub put_up_same : (lists : List (List TwinMarks)) (at : ℕ) (m : TwinMarks) → AreLevels lists → slice_get (lowest lists) at ≡ Some m → put_up lists at m ≡ lists
put_up_same [] at m h e = refl
put_up_same (low ∷ higher) at m h e = put_over_same low higher at m h e

-- an item that stands already is put, so the lists are those that were made so far and the others
pub put_stands : (initial levels : List (Vec TwinMarks Global)) (k at : ℕ) (m : TwinMarks) (all : List (List TwinMarks))
    → slice_get (lowest (drop k (lists_of levels))) at ≡ Some m → AreLevels (drop k (lists_of initial)) → drop k levels ≡ drop k initial
    → take k (lists_of levels) ++ put_up (drop k (lists_of initial)) at m ≡ all → lists_of levels ≡ all
put_stands initial levels k at m all stands h same made =
    let lists : drop k (lists_of initial) ≡ drop k (lists_of levels) =
    drop-map (λ (x : Vec TwinMarks Global). x.items) k initial ∙ ap lists_of (sym same) ∙ sym (drop-map (λ (x : Vec TwinMarks Global). x.items) k levels) in
    let here : slice_get (lowest (drop k (lists_of initial))) at ≡ Some m = ap (λ (l : List (List TwinMarks)). slice_get (lowest l) at) lists ∙ stands in
    sym (take-append-drop k (lists_of levels)) ∙ ap (λ l. take k (lists_of levels) ++ l) (sym lists ∙ sym (put_up_same (drop k (lists_of initial)) at m h here)) ∙ made

-- ---- room

pub room_below : (levels : List (Vec TwinMarks Global)) (at : ℕ) → AreLevels (lists_of levels) → at < length (lowest (lists_of levels)) → HaveRoom at levels
room_below [] at h less = tt
room_below (v ∷ []) at h less = (omega (arith, less), λ e. absurd (omega (arith, less, e)), tt)
room_below (v ∷ (w ∷ rest)) at h less =
    (omega (arith, less), λ e. absurd (omega (arith, less, e)), room_below (w ∷ rest) (at / 2) h.1 (omega (arith, half_below v.items at less, ap length h.0)))

pub room_for : (levels : List (Vec TwinMarks Global)) (at : ℕ) → AreLevels (lists_of levels) → All HasRoom levels → at ≤ length (lowest (lists_of levels)) → HaveRoom at levels
room_for [] at h rooms within = tt
room_for (v ∷ []) at h rooms within = (within, λ e. All-head HasRoom v [] rooms, tt)
room_for (v ∷ (w ∷ rest)) at h rooms within = (
  within,
  λ e. All-head HasRoom v (w ∷ rest) rooms,
  room_for (w ∷ rest) (at / 2) h.1 (All-tail HasRoom v (w ∷ rest) rooms) (omega (arith, half_within v.items at within, ap length h.0)),
)

-- ---- a list with room in the place of one without

pub same_lists_of : (levels : List (Vec TwinMarks Global)) (k : ℕ) (old new : Vec TwinMarks Global) → k < length levels → old ≡ get_or levels k old → new.items ≡ old.items
    → lists_of (slice_set levels k new) ≡ lists_of levels
same_lists_of levels k old new less read e =
    map-set (λ (v : Vec TwinMarks Global). v.items) levels k new
    ∙ ap (slice_set (lists_of levels) k) (e ∙ ap (λ (v : Vec TwinMarks Global). v.items) read ∙ sym (get_or-map (λ (v : Vec TwinMarks Global). v.items) levels k old [] less))
    ∙ set-get_or (lists_of levels) k []

-- ---- one list after the other

pub lowest_at : (levels : List (Vec TwinMarks Global)) (k : ℕ) (v : Vec TwinMarks Global) → k < length levels → v ≡ get_or levels k v → v.items ≡ lowest (drop k (lists_of levels))
lowest_at [] k v less read = absurd (omega (arith, less))
lowest_at (w ∷ ws) zero v less read = ap (λ (x : Vec TwinMarks Global). x.items) read
lowest_at (w ∷ ws) (suc k) v less read = lowest_at ws k v (omega (arith, less)) read

abbrev pub AreTwo : List (List TwinMarks) → ℕ → ℕ → Type 0
AreTwo lists k next = AreLevels (drop next lists) × (lowest (drop next lists) ≡ halved (lowest (drop k lists)))

pub two_levels : (lists : List (List TwinMarks)) (k : ℕ) → k + 1 < length lists → AreLevels (drop k lists) → AreTwo lists k (k + 1)
two_levels [] k less h = absurd (omega (arith, less))
two_levels (x ∷ []) zero less h = absurd (omega (arith, less))
two_levels (x ∷ (y ∷ rest)) zero less h = (h.1, h.0)
two_levels (x ∷ xs) (suc k) less h =
    let next : suc (k + 1) ≡ suc k + 1 = omega arith in
    subst (λ n. AreTwo (x ∷ xs) (suc k) n) next (two_levels xs k (omega (arith, less)) h)

pub levels_at : (lists : List (List TwinMarks)) (k : ℕ) → AreLevels lists → AreLevels (drop k lists)
levels_at [] zero h = tt
levels_at [] (suc k) h = tt
levels_at (x ∷ xs) zero h = h
levels_at (x ∷ []) (suc k) h = levels_at [] k tt
levels_at (x ∷ (y ∷ rest)) (suc k) h = levels_at (y ∷ rest) k h.1

-- the first that is due in the list over one tells it of that one
pub record IsUnderPair (bound : ℤ) (lists : List (List TwinMarks)) (k at : ℕ) (level : List TwinMarks) : Type 0 where
  pub within : 2 * at < length level
  pub over : first_due bound (halved level) ≡ Some at

pub under_pair : (bound : ℤ) (lists : List (List TwinMarks)) (k next at : ℕ) (level : List TwinMarks) → k + 1 < length lists → next ≡ k + 1 → AreLevels lists
    → level ≡ lowest (drop k lists) → first_due bound (lowest (drop next lists)) ≡ Some at → IsUnderPair bound lists k at level
under_pair bound lists k next at level less is h read due =
    let two = two_levels lists k less (levels_at lists k h) in
    let over : first_due bound (halved level) ≡ Some at =
    ap (λ (l : List TwinMarks). first_due bound (halved l)) read ∙ ap (first_due bound) (sym two.1) ∙ ap (λ n. first_due bound (lowest (drop n lists))) (sym is) ∙ due in
    record { within = (first_some bound level at no_marks over).0; over = over }

-- nothing is due where nothing is in a list over it
pub none_under : (bound : ℤ) (lists : List (List TwinMarks)) (k : ℕ) → k < length lists → AreLevels lists → first_due bound (lowest (drop k lists)) ≡ None
    → first_due bound (lowest lists) ≡ None
none_under bound [] k less h e = absurd (omega (arith, less))
none_under bound (x ∷ xs) zero less h e = e
none_under bound (x ∷ []) (suc k) less h e = absurd (omega (arith, less))
none_under bound (x ∷ (y ∷ rest)) (suc k) less h e = first_none bound x (ap (first_due bound) (sym h.0) ∙ none_under bound (y ∷ rest) k (omega (arith, less)) h.1 e)

pub lists_sized : (levels : List (Vec TwinMarks Global)) → length (lists_of levels) ≡ length levels
lists_sized levels = length-map levels (λ (v : Vec TwinMarks Global). v.items)
