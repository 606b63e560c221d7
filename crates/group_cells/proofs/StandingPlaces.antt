-- What is read, changed and found at the places of the items that pass a test is what is read, changed and found among all that pass it.
use Rattle.std.proofs.Common.{◌≡◌, inl, inr, ℕ, suc, zero, ◌+◌, ◌<◌, ◌≤◌, Bool, true, false, cond, List, [], ◌∷◌, ◌++◌, map, length, drop, get_or, Option, Some, None, refl, sym, ap, subst, ◌∙◌, arith, append_assoc, length-append}
use Rattle.std.specs.Prelude.{◌&&◌, ◌==◌, fold, slice_get, slice_set, unwrap_or, bytes_eq, Contains}
use Rattle.std.specs.Option.{option_map}
use Rattle.std.specs.List.{All, filter, flat_map}
use Rattle.std.specs.List.Sorted.{IsStrictlySortedBy}
use Rattle.std.specs.Ordering.{nat_cmp}
use Rattle.std.specs.declared.cmp.Ordering.TheVariants.{Less, Equal, Greater}
use Rattle.std.proofs.lemmas.Bool.{false≢true}
use Rattle.std.proofs.lemmas.Cmp.{by_ranked, ranked}
use Rattle.std.proofs.lemmas.List.Elements.{All-nil, All-cons, All-contains, All-weaker, Contains-append_cases, Contains-append_right, Contains-get_or}
use Rattle.std.proofs.lemmas.Map.Keys.{sorted_tail}
use Rattle.std.proofs.lemmas.Map.Views.{All-after_first}
use Rattle.beam_values.specs.Intervals.{Interval}
use Rattle.beam_values.specs.Spelling.{spelling}
use Rattle.beam_values.specs.declared.cell.Cell.{Cell}
use Rattle.beam_values.specs.declared.value.Value.{Value}
use Rattle.beam_model.specs.Panes.{is_cell_at_key}
use Rattle.group_cells.specs.AtPlaces.{at_place, changed_at, given_all}
use Rattle.group_cells.specs.Commits.{CellPlace, cell_place}
use Rattle.group_cells.specs.KeyLists.{places_from}

-- ---- the item behind a front

pub got : {X : Type 0} (pre : List X) (x : X) (rest : List X) (k : ℕ) → k ≡ length pre → slice_get (pre ++ x ∷ rest) k ≡ Some x
got {X} pre x rest k e = ap (slice_get (pre ++ x ∷ rest)) e ∙ at pre
  where
    at : (pre : List X) → slice_get (pre ++ x ∷ rest) (length pre) ≡ Some x
    at [] = refl
    at (y ∷ pre) = at pre

written : {X : Type 0} (pre : List X) (x y : X) (rest : List X) (k : ℕ) → k ≡ length pre → slice_set (pre ++ x ∷ rest) k y ≡ pre ++ y ∷ rest
written {X} pre x y rest k e = ap (λ i. slice_set (pre ++ x ∷ rest) i y) e ∙ at pre
  where
    at : (pre : List X) → slice_set (pre ++ x ∷ rest) (length pre) y ≡ pre ++ y ∷ rest
    at [] = refl
    at (z ∷ pre) = ap (λ l. z ∷ l) (at pre)

pub read_here : {X A : Type 0} (f : X → A) (none : A) (pre : List X) (x : X) (rest : List X) (k : ℕ) → k ≡ length pre → at_place f none (pre ++ x ∷ rest) k ≡ f x
read_here f none pre x rest k e = ap (λ o. unwrap_or (option_map f o) none) (got pre x rest k e)

pub changed_here : {X : Type 0} (f : X → X) (pre : List X) (x : X) (rest : List X) (k : ℕ) → k ≡ length pre → changed_at f (pre ++ x ∷ rest) k ≡ pre ++ f x ∷ rest
changed_here f pre x rest k e =
    ap (λ o. unwrap_or (option_map (λ y. slice_set (pre ++ x ∷ rest) k (f y)) o) (pre ++ x ∷ rest)) (got pre x rest k e) ∙ written pre x (f x) rest k e

pub longer : {X : Type 0} (pre : List X) (y : X) (k : ℕ) → k ≡ length pre → suc k ≡ length (pre ++ y ∷ [])
longer pre y k e = omega (arith, length-append pre (y ∷ []))

pub moved : {X : Type 0} (pre : List X) (x : X) (rest : List X) → pre ++ x ∷ rest ≡ (pre ++ x ∷ []) ++ rest
moved pre x rest = sym (append_assoc pre (x ∷ []) rest)

-- ---- all items that pass

module _ {X : Type 0} (p : X → Bool) where
  pub changed_from : (f : X → X) (xs pre : List X) (k : ℕ) → k ≡ length pre → fold (changed_at f) (pre ++ xs) (places_from p k xs) ≡ pre ++ map (λ x. cond (p x) (f x) x) xs
  changed_from f [] pre k e = refl
  changed_from f (x ∷ xs) pre k e = by (p x) (λ y. changed_from f xs (pre ++ y ∷ []) (suc k) (longer pre y k e))
    where
      by : (b : Bool)
          → ((y : X) → fold (changed_at f) ((pre ++ y ∷ []) ++ xs) (places_from p (suc k) xs) ≡ (pre ++ y ∷ []) ++ map (λ z. cond (p z) (f z) z) xs)
          → fold (changed_at f) (pre ++ x ∷ xs) (cond b (k ∷ places_from p (suc k) xs) (places_from p (suc k) xs)) ≡ pre ++ cond b (f x) x ∷ map (λ z. cond (p z) (f z) z) xs
      by true ih =
          ap (λ l. fold (changed_at f) l (places_from p (suc k) xs)) (changed_here f pre x xs k e ∙ moved pre (f x) xs) ∙ ih (f x) ∙ sym (moved pre (f x) (map (λ z. cond (p z) (f z) z) xs))
      by false ih =
          ap (λ l. fold (changed_at f) l (places_from p (suc k) xs)) (moved pre x xs) ∙ ih x ∙ sym (moved pre x (map (λ z. cond (p z) (f z) z) xs))

  pub given_from : {Y : Type 0} (f : X → X) (g : X → List Y) (xs pre : List X) (k : ℕ) → k ≡ length pre
      → given_all f g (places_from p k xs) (pre ++ xs) ≡ flat_map (λ x. cond (p x) (g x) []) xs
  given_from f g [] pre k e = refl
  given_from f g (x ∷ xs) pre k e = by (p x) (λ y. given_from f g xs (pre ++ y ∷ []) (suc k) (longer pre y k e))
    where
      by : (b : Bool) → ((y : X) → given_all f g (places_from p (suc k) xs) ((pre ++ y ∷ []) ++ xs) ≡ flat_map (λ z. cond (p z) (g z) []) xs)
          → given_all f g (cond b (k ∷ places_from p (suc k) xs) (places_from p (suc k) xs)) (pre ++ x ∷ xs) ≡ cond b (g x) [] ++ flat_map (λ z. cond (p z) (g z) []) xs
      by true ih =
          (λ i. read_here g [] pre x xs k e i ++ given_all f g (places_from p (suc k) xs) ((changed_here f pre x xs k e ∙ moved pre (f x) xs) i)) ∙ ap (λ l. g x ++ l) (ih (f x))
      by false ih = ap (given_all f g (places_from p (suc k) xs)) (moved pre x xs) ∙ ih x

  pub places_push : (x : X) (xs : List X) (k n : ℕ) → n ≡ k + length xs → places_from p k (xs ++ x ∷ []) ≡ places_from p k xs ++ cond (p x) (n ∷ []) []
  places_push x [] k n e = by (p x)
    where
      same : k ≡ n
      same = omega arith

      by : (b : Bool) → cond b (k ∷ []) [] ≡ cond b (n ∷ []) []
      by true = ap (λ i. i ∷ []) same
      by false = refl
  places_push x (y ∷ xs) k n e = by (p y) (places_push x xs (suc k) n (omega (arith, e)))
    where
      by : (b : Bool) → places_from p (suc k) (xs ++ x ∷ []) ≡ places_from p (suc k) xs ++ cond (p x) (n ∷ []) []
          → cond b (k ∷ places_from p (suc k) (xs ++ x ∷ [])) (places_from p (suc k) (xs ++ x ∷ []))
          ≡ cond b (k ∷ places_from p (suc k) xs) (places_from p (suc k) xs) ++ cond (p x) (n ∷ []) []
      by true ih = ap (λ l. k ∷ l) ih
      by false ih = ih

-- ---- places at which something is read

pub read_there : {X A : Type 0} (f : X → A) (none : A) (xs : List X) (p : ℕ) (x : X) → slice_get xs p ≡ Some x → at_place f none xs p ≡ f x
read_there f none xs p x there = ap (λ o. unwrap_or (option_map f o) none) there

pub read_nothing : {X A : Type 0} (f : X → A) (none : A) (xs : List X) (p : ℕ) → slice_get xs p ≡ None → at_place f none xs p ≡ none
read_nothing f none xs p nothing = ap (λ o. unwrap_or (option_map f o) none) nothing

-- where a test passes there is an item
pub passes_there : {X : Type 0} (q : X → Bool) (xs : List X) (p : ℕ) → at_place q false xs p ≡ true → (x : X) × (slice_get xs p ≡ Some x) × (q x ≡ true)
passes_there {X} q xs p on = by (slice_get xs p) refl
  where
    by : (o : Option X) → slice_get xs p ≡ o → (x : X) × (slice_get xs p ≡ Some x) × (q x ≡ true)
    by None e = absurd (false≢true (sym (read_nothing q false xs p e) ∙ on))
    by (Some x) e = (x, e, sym (read_there q false xs p x e) ∙ on)

pub at_number : (xs : List ℕ) (m n : ℕ) → m ≡ n → Contains xs m → Contains xs n
at_number xs m n e c = subst (Contains xs) e c

module _ {X : Type 0} (q : X → Bool) where
  -- the places of the items that pass
  pub in_places : (xs : List X) (k p : ℕ) → at_place q false xs p ≡ true → Contains (places_from q k xs) (k + p)
  in_places [] k p on = absurd (false≢true on)
  in_places (x ∷ xs) k zero on =
      at_number (places_from q k (x ∷ xs)) k (k + zero) (omega arith)
      (subst (λ b. Contains (cond b (k ∷ places_from q (suc k) xs) (places_from q (suc k) xs)) k) (sym on) (0, omega arith, refl))
  in_places (x ∷ xs) k (suc p) on =
      at_number (places_from q k (x ∷ xs)) (suc k + p) (k + suc p) (omega arith) (by (q x) (in_places xs (suc k) p on))
    where
      by : (b : Bool) → Contains (places_from q (suc k) xs) (suc k + p) → Contains (cond b (k ∷ places_from q (suc k) xs) (places_from q (suc k) xs)) (suc k + p)
      by true c = Contains-append_right (k ∷ []) (places_from q (suc k) xs) (suc k + p) c
      by false c = c

  pub of_places : (xs : List X) (k n : ℕ) → Contains (places_from q k xs) n → (p : ℕ) × (n ≡ k + p) × (at_place q false xs p ≡ true)
  of_places [] k n c = absurd (let less = c.1 in omega arith)
  of_places (x ∷ xs) k n c = by (q x) refl c (of_places xs (suc k) n)
    where
      deeper : (p : ℕ) × (n ≡ suc k + p) × (at_place q false xs p ≡ true) → (p : ℕ) × (n ≡ k + p) × (at_place q false (x ∷ xs) p ≡ true)
      deeper found = (suc found.0, (let at = found.1 in omega arith), found.2)

      by : (b : Bool) → q x ≡ b → Contains (cond b (k ∷ places_from q (suc k) xs) (places_from q (suc k) xs)) n
          → (Contains (places_from q (suc k) xs) n → (p : ℕ) × (n ≡ suc k + p) × (at_place q false xs p ≡ true))
          → (p : ℕ) × (n ≡ k + p) × (at_place q false (x ∷ xs) p ≡ true)
      by true on c ih = elim (Contains-append_cases (k ∷ []) (places_from q (suc k) xs) n c) [
        | inl here ↦ first here.0 here.1 here.2
        | inr later ↦ deeper (ih later)
      ]
        where
          first : (i : ℕ) → i < 1 → get_or (k ∷ []) i n ≡ n → (p : ℕ) × (n ≡ k + p) × (at_place q false (x ∷ xs) p ≡ true)
          first zero less is = (zero, (let e = is in omega arith), on)
          first (suc i) less is = absurd (omega arith)
      by false off c ih = deeper (ih c)

  places_above : (xs : List X) (k : ℕ) → All (λ n. k ≤ n) (places_from q k xs)
  places_above [] k = All-nil (λ n. k ≤ n)
  places_above (x ∷ xs) k = by (q x) (All-weaker (λ n. suc k ≤ n) (λ n. k ≤ n) (λ n h. omega arith) (places_from q (suc k) xs) (places_above xs (suc k)))
    where
      by : (b : Bool) → All (λ n. k ≤ n) (places_from q (suc k) xs) → All (λ n. k ≤ n) (cond b (k ∷ places_from q (suc k) xs) (places_from q (suc k) xs))
      by true h = All-cons (λ n. k ≤ n) k (places_from q (suc k) xs) (omega arith) h
      by false h = h

below_cmp : (a b : ℕ) → a < b → nat_cmp a b ≡ Less
below_cmp a b less = by_ranked (a < b) (a ≡ b) (b < a) (nat_cmp a b) (ranked a b (nat_cmp a b) refl) (λ e _. e) (λ _ same. absurd (omega arith)) (λ _ more. absurd (omega arith))

cmp_below : (a b : ℕ) → nat_cmp a b ≡ Less → a < b
cmp_below a b e =
    by_ranked (a < b) (a ≡ b) (b < a) (nat_cmp a b) (ranked a b (nat_cmp a b) refl) (λ _ less. less) (λ f _. let no_ : Less ≡ Equal = sym e ∙ f in absurd (cc))
    (λ f _. let no_ : Less ≡ Greater = sym e ∙ f in absurd (cc))

-- numbers that ascend, and are the places of the items that pass, are listed as these
pub places_same : {X : Type 0} (q : X → Bool) (xs : List X) (k : ℕ) (places : List ℕ) → IsStrictlySortedBy nat_cmp places
    → ((n : ℕ) → Contains places n → (p : ℕ) × (n ≡ k + p) × (at_place q false xs p ≡ true)) → ((p : ℕ) → at_place q false xs p ≡ true → Contains places (k + p)) → places ≡ places_from q k xs
places_same q [] k [] ascend each whole = refl
places_same q [] k (n ∷ places) ascend each whole = let found = each n (0, omega arith, refl) in absurd (false≢true found.2)
places_same {X} q (x ∷ xs) k places ascend each whole = by (q x) refl places ascend each whole (places_same q xs (suc k))
  where
    -- the first item is at the first place, or at none
    later : (ps : List ℕ) → All (λ n. k < n) ps → ((n : ℕ) → Contains ps n → (p : ℕ) × (n ≡ k + p) × (at_place q false (x ∷ xs) p ≡ true)) → (n : ℕ) → Contains ps n
        → (p : ℕ) × (n ≡ suc k + p) × (at_place q false xs p ≡ true)
    later ps above each n c = let found = each n c in shift found.0 found.1 found.2 (All-contains (λ n. k < n) ps n above c)
      where
        shift : (p : ℕ) → n ≡ k + p → at_place q false (x ∷ xs) p ≡ true → k < n → (p : ℕ) × (n ≡ suc k + p) × (at_place q false xs p ≡ true)
        shift zero at on more = absurd (omega arith)
        shift (suc p) at on more = (p, omega arith, on)

    by : (b : Bool) → q x ≡ b → (ps : List ℕ) → IsStrictlySortedBy nat_cmp ps → ((n : ℕ) → Contains ps n → (p : ℕ) × (n ≡ k + p) × (at_place q false (x ∷ xs) p ≡ true))
        → ((p : ℕ) → at_place q false (x ∷ xs) p ≡ true → Contains ps (k + p))
        → ((ps : List ℕ) → IsStrictlySortedBy nat_cmp ps
        → ((n : ℕ) → Contains ps n → (p : ℕ) × (n ≡ suc k + p) × (at_place q false xs p ≡ true)) → ((p : ℕ) → at_place q false xs p ≡ true → Contains ps (suc k + p)) → ps ≡ places_from q (suc k) xs)
        → ps ≡ cond b (k ∷ places_from q (suc k) xs) (places_from q (suc k) xs)
    by false off ps ascend each whole ih =
        ih ps ascend (later ps above each) (λ p on. at_number ps (k + suc p) (suc k + p) (omega arith) (whole (suc p) on))
      where
        above : All (λ n. k < n) ps
        above i d less = let found = each (get_or ps i d) (Contains-get_or ps i d less) in more found.0 found.1 found.2
          where
            more : (p : ℕ) → get_or ps i d ≡ k + p → at_place q false (x ∷ xs) p ≡ true → k < get_or ps i d
            more zero at on = absurd (false≢true (sym off ∙ on))
            more (suc p) at on = omega arith
    by true on [] ascend each whole ih = absurd (let c = whole zero on in let less = c.1 in omega arith)
    by true on (n ∷ ps) ascend each whole ih =
        (λ i. first i ∷ ih ps (sorted_tail nat_cmp n ps ascend) (later ps above (λ m c. each m (Contains-append_right (n ∷ []) ps m c))) rest i)
      where
        behind : All (λ m. nat_cmp n m ≡ Less) ps
        behind = All-after_first nat_cmp n ps ascend

        lowest : (c : ℕ) → Contains (n ∷ ps) c → n ≤ c
        lowest c there = elim (Contains-append_cases (n ∷ []) ps c there) [
          | inl here ↦ one here.0 here.1 here.2
          | inr later_ ↦ (let less = cmp_below n c (All-contains (λ m. nat_cmp n m ≡ Less) ps c behind later_) in omega arith)
        ]
          where
            one : (i : ℕ) → i < 1 → get_or (n ∷ []) i c ≡ c → n ≤ c
            one zero less is = omega arith
            one (suc i) less is = absurd (omega arith)

        first : n ≡ k
        first =
            let low = lowest (k + zero) (whole zero on) in
            let found = each n (0, omega arith, refl) in
            let at = found.1 in
            omega arith

        above : All (λ m. k < m) ps
        above = All-weaker (λ m. nat_cmp n m ≡ Less) (λ m. k < m) (λ m e. (let less = cmp_below n m e in let f = first in omega arith)) ps behind

        rest : (p : ℕ) → at_place q false xs p ≡ true → Contains ps (suc k + p)
        rest p there = elim (Contains-append_cases (n ∷ []) ps (k + suc p) (whole (suc p) there)) [
          | inl here ↦ absurd (one here.0 here.1 here.2)
          | inr later_ ↦ at_number ps (k + suc p) (suc k + p) (omega arith) later_
        ]
          where
            one : (i : ℕ) → i < 1 → get_or (n ∷ []) i (k + suc p) ≡ k + suc p → ⊥
            one zero less is = let f = first in omega arith
            one (suc i) less is = omega arith

-- ---- cells of one Group and key

module _ (node : ℕ) (key : Value) (u : CellPlace → Option Interval → Bool) where
  abbrev at : Cell → Bool
  at = is_cell_at_key node key

  abbrev merged : Cell → Option Interval
  merged cell = cell.merged_into

  abbrev tested : Cell → Bool
  tested cell = is_cell_at_key node key cell && u (cell_place cell) cell.merged_into

  off_there : (xs : List Cell) → filter (is_cell_at_key node key) xs ≡ [] → (p : ℕ) → at_place tested false xs p ≡ false
  off_there [] none p = refl
  off_there (x ∷ xs) none p = by (at x) refl none p (off_there xs)
    where
      by : (b : Bool) → at x ≡ b → cond b (x ∷ filter at xs) (filter at xs) ≡ [] → (p : ℕ) → (filter at xs ≡ [] → (p : ℕ) → at_place tested false xs p ≡ false) → at_place tested false (x ∷ xs) p ≡ false
      by true on e p ih = absurd (cc)
      by false off e zero ih = ap (λ b. b && u (cell_place x) x.merged_into) off
      by false off e (suc p) ih = ih e p

  -- a test of a cell's place and of where it was merged depends on the cells of its Group and key alone
  pub read_alike : (old new : List Cell) (behind : List CellPlace) → map cell_place new ≡ map cell_place old ++ behind
      → map (λ (cell : Cell). cell.merged_into) (filter (is_cell_at_key node key) new) ≡ map (λ (cell : Cell). cell.merged_into) (filter (is_cell_at_key node key) old)
      → (p : ℕ) → at_place tested false new p ≡ at_place tested false old p
  read_alike [] new behind places same p = off_there new (empty (filter at new) same) p
    where
      empty : (l : List Cell) → map merged l ≡ [] → l ≡ []
      empty [] e = refl
      empty (x ∷ l) e = absurd (cc)
  read_alike (x ∷ old) [] behind places same p = absurd (cc)
  read_alike (x ∷ old) (y ∷ new) behind places same p = by (at x) refl p (read_alike old new behind (ap (drop (suc zero)) places))
    where
      place_is : cell_place y ≡ cell_place x
      place_is = ap (λ l. get_or l zero (cell_place x)) places

      at_is : at y ≡ at x
      at_is = ap (λ (place : CellPlace). place.node == node && bytes_eq (spelling place.key) (spelling key)) place_is

      by : (b : Bool) → at x ≡ b → (p : ℕ) → (map merged (filter at new) ≡ map merged (filter at old) → (p : ℕ) → at_place tested false new p ≡ at_place tested false old p)
          → at_place tested false (y ∷ new) p ≡ at_place tested false (x ∷ old) p
      by true on p ih =
          let both : merged y ∷ map merged (filter at new) ≡ merged x ∷ map merged (filter at old) =
          sym (ap (λ b. map merged (cond b (y ∷ filter at new) (filter at new))) (at_is ∙ on)) ∙ same ∙ ap (λ b. map merged (cond b (x ∷ filter at old) (filter at old))) on in
          here (ap (λ l. get_or l zero (merged x)) both) (ap (drop (suc zero)) both) p
        where
          here : merged y ≡ merged x → map merged (filter at new) ≡ map merged (filter at old) → (p : ℕ) → at_place tested false (y ∷ new) p ≡ at_place tested false (x ∷ old) p
          here one rest zero = λ i. at_is i && u (place_is i) (one i)
          here one rest (suc p) = ih rest p
      by false off p ih =
          there
          (sym (ap (λ b. map merged (cond b (y ∷ filter at new) (filter at new))) (at_is ∙ off)) ∙ same ∙ ap (λ b. map merged (cond b (x ∷ filter at old) (filter at old))) off) p
        where
          there : map merged (filter at new) ≡ map merged (filter at old) → (p : ℕ) → at_place tested false (y ∷ new) p ≡ at_place tested false (x ∷ old) p
          there rest zero = ap (λ b. b && u (cell_place y) y.merged_into) (at_is ∙ off) ∙ sym (ap (λ b. b && u (cell_place x) x.merged_into) off)
          there rest (suc p) = ih rest p
