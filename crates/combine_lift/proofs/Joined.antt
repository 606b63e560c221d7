-- Merged tables stand for what was added to both.
use Rattle.std.proofs.Common.{◌≡◌, ℕ, ◌+◌, ◌≤◌, Bool, true, false, List, [], ◌∷◌, ◌++◌, length, refl, sym, ap, subst, ◌∙◌, arith, append-nil, length-append}
use Rattle.std.specs.List.{AllByRecursion}
use Rattle.std.specs.Ordering.{is_lt}
use Rattle.std.specs.declared.cmp.Ordering.{Ordering}
use Rattle.std.specs.declared.cmp.Ordering.TheVariants.{Less, Equal}
use Rattle.std.proofs.lemmas.Bool.{false≢true}
use Rattle.std.proofs.lemmas.List.Sums.{sum_by-cons}
use Rattle.beam_values.specs.Intervals.{Interval}
use Rattle.beam_values.specs.declared.value.Value.{Value}
use Rattle.combine_lift.specs.Merging.{IsBeforeFirst, IsJoined, Merges, nothing, first, second, both}
use Rattle.combine_lift.specs.Tables.{accs_of, held_in, is_row_of, row_cmp, OneStandsFor}
use Rattle.combine_lift.specs.declared.row.Row.{Row}
use Rattle.combine_lift.proofs.Pointwise.{accs_no, accs_yes}
use Rattle.combine_lift.proofs.RowOrder.{compares_alike, compares_equal, known_row, placed_alike}

-- in ascending order: no later one is below one before it
abbrev pub Ascends : {X : Type 0} → (X → X → Ordering) → List X → Type 0
Ascends cmp [] = Unit {0}
Ascends cmp (x ∷ xs) = AllByRecursion (λ y. is_lt (cmp y x) ≡ false) xs × Ascends cmp xs

-- what two lists of one key and window become; nothing is said where one of them has several
abbrev pub Joined : {A : Type 0} → (A → List Value → Type 0) → (A → ℕ) → List A → List A → List A → Type 0
Joined stands held [] others accs = accs ≡ others
Joined stands held (a ∷ []) [] accs = accs ≡ a ∷ []
Joined {A} stands held (a ∷ []) (b ∷ []) accs = (c : A) × (accs ≡ c ∷ []) × IsJoined stands held a b c
Joined stands held (a ∷ []) (b ∷ other ∷ others) accs = Unit {0}
Joined stands held (a ∷ other ∷ ones) others accs = Unit {0}

differ : {o : Ordering} → o ≡ Less → o ≡ Equal → ⊥
differ e f = cc

module _ {A : Type 0} (key : Value) (span : Interval) where
  -- a row before others in order leaves none of its key and window to them
  none_later : (row next : Row A) (rows : List (Row A)) → is_row_of key span row ≡ true → row_cmp row next ≡ Less
      → AllByRecursion (λ other. is_lt (row_cmp other next) ≡ false) rows → accs_of key span rows ≡ []
  none_later row next [] test less all = refl
  none_later row next (other ∷ rows) test less all = by (is_row_of key span other) refl (none_later row next rows test less all.1)
    where
      by : (t : Bool) → is_row_of key span other ≡ t → accs_of key span rows ≡ [] → accs_of key span (other ∷ rows) ≡ []
      by true also later =
          let same : row_cmp other next ≡ Less = compares_alike key span other row next (known_row key span other also) (known_row key span row test) ∙ less in
          absurd (false≢true (sym all.0 ∙ ap is_lt same))
      by false also later = accs_no key span other rows also ∙ later

  none_after : (row : Row A) (others : List (Row A)) → is_row_of key span row ≡ true → IsBeforeFirst row others → Ascends row_cmp others → accs_of key span others ≡ []
  none_after row [] test before up = refl
  none_after row (next ∷ others) test before up = by (is_row_of key span next) refl
    where
      by : (t : Bool) → is_row_of key span next ≡ t → accs_of key span (next ∷ others) ≡ []
      by true also =
          let same : row_cmp row next ≡ Equal = compares_equal key span row next (known_row key span row test) (known_row key span next also) in
          absurd (differ before same)
      by false also = accs_no key span next others also ∙ none_later row next others test before up.0

module _ {A : Type 0} (stands : A → List Value → Type 0) (held : A → ℕ) where
  joined_first : (a : A) (ones twos accs : List A) → twos ≡ [] → Joined stands held ones twos accs → Joined stands held (a ∷ ones) twos (a ∷ accs)
  joined_first a [] [] accs none joined = ap (λ l. a ∷ l) joined
  joined_first a [] (b ∷ twos) accs none joined = absurd cc
  joined_first a (other ∷ ones) twos accs none joined = tt

  joined_second : (b : A) (ones twos accs : List A) → ones ≡ [] → Joined stands held ones twos accs → Joined stands held ones (b ∷ twos) (b ∷ accs)
  joined_second b [] twos accs none joined = ap (λ l. b ∷ l) joined
  joined_second b (a ∷ ones) twos accs none joined = absurd cc

  joined_both : (a b c : A) (ones twos accs : List A) → IsJoined stands held a b c → Joined stands held ones twos accs → Joined stands held (a ∷ ones) (b ∷ twos) (c ∷ accs)
  joined_both a b c [] [] accs one joined = (c, ap (λ l. c ∷ l) joined, one)
  joined_both a b c [] (other ∷ twos) accs one joined = tt
  joined_both a b c (other ∷ ones) twos accs one joined = tt

  along : (key : Value) (span : Interval) (xs ys zs : List (Row A)) (ones twos all : List A) → accs_of key span xs ≡ ones → accs_of key span ys ≡ twos → accs_of key span zs ≡ all
      → Joined stands held ones twos all → Joined stands held (accs_of key span xs) (accs_of key span ys) (accs_of key span zs)
  along key span xs ys zs ones twos all e f g joined =
      subst (λ l. Joined stands held l (accs_of key span ys) (accs_of key span zs)) (sym e)
      (subst (λ l. Joined stands held ones l (accs_of key span zs)) (sym f) (subst (Joined stands held ones twos) (sym g) joined))

  pub merged_rows : (key : Value) (span : Interval) {rows others merged : List (Row A)} → Merges stands held rows others merged → Ascends row_cmp rows → Ascends row_cmp others
      → Joined stands held (accs_of key span rows) (accs_of key span others) (accs_of key span merged)
  merged_rows key span nothing up also = refl
  merged_rows key span (first {row = row} {rows = rows} {others = others} {merged = merged} before later) up also =
      by (is_row_of key span row) refl (merged_rows key span later up.1 also)
    where
      by : (t : Bool) → is_row_of key span row ≡ t → Joined stands held (accs_of key span rows) (accs_of key span others) (accs_of key span merged)
          → Joined stands held (accs_of key span (row ∷ rows)) (accs_of key span others) (accs_of key span (row ∷ merged))
      by true test joined =
          along key span (row ∷ rows) others (row ∷ merged) _ _ _ (accs_yes key span row rows test) refl (accs_yes key span row merged test)
          (joined_first row.acc _ _ _ (none_after key span row others test before also) joined)
      by false test joined =
          along key span (row ∷ rows) others (row ∷ merged) _ _ _ (accs_no key span row rows test) refl (accs_no key span row merged test) joined
  merged_rows key span (second {other = other} {rows = rows} {others = others} {merged = merged} before later) up also =
      by (is_row_of key span other) refl (merged_rows key span later up also.1)
    where
      by : (t : Bool) → is_row_of key span other ≡ t → Joined stands held (accs_of key span rows) (accs_of key span others) (accs_of key span merged)
          → Joined stands held (accs_of key span rows) (accs_of key span (other ∷ others)) (accs_of key span (other ∷ merged))
      by true test joined =
          along key span rows (other ∷ others) (other ∷ merged) _ _ _ refl (accs_yes key span other others test) (accs_yes key span other merged test)
          (joined_second other.acc _ _ _ (none_after key span other rows test before up) joined)
      by false test joined =
          along key span rows (other ∷ others) (other ∷ merged) _ _ _ refl (accs_no key span other others test) (accs_no key span other merged test) joined
  merged_rows key span (both {row = row} {other = other} {rows = rows} {others = others} {merged = merged} {acc = acc} same one later) up also =
      by (is_row_of key span row) refl (merged_rows key span later up.1 also.1)
    where
      by : (t : Bool) → is_row_of key span row ≡ t → Joined stands held (accs_of key span rows) (accs_of key span others) (accs_of key span merged)
          → Joined stands held (accs_of key span (row ∷ rows)) (accs_of key span (other ∷ others)) (accs_of key span (record row { acc = acc } ∷ merged))
      by true test joined =
          along key span (row ∷ rows) (other ∷ others) (record row { acc = acc } ∷ merged) _ _ _ (accs_yes key span row rows test)
          (accs_yes key span other others (sym (placed_alike key span row other same) ∙ test)) (accs_yes key span (record row { acc = acc }) merged test)
          (joined_both row.acc other.acc acc _ _ _ one joined)
      by false test joined =
          along key span (row ∷ rows) (other ∷ others) (record row { acc = acc } ∷ merged) _ _ _ (accs_no key span row rows test)
          (accs_no key span other others (sym (placed_alike key span row other same) ∙ test)) (accs_no key span (record row { acc = acc }) merged test) joined

  pub joined_stand : (ones twos accs : List A) (parts more : List Value) → OneStandsFor stands ones parts → OneStandsFor stands twos more → Joined stands held ones twos accs
      → OneStandsFor stands accs (parts ++ more)
  joined_stand [] twos accs parts more none one joined =
      subst (λ l. OneStandsFor stands accs (l ++ more)) (sym none) (subst (λ l. OneStandsFor stands l more) (sym joined) one)
  joined_stand (a ∷ []) [] accs parts more one none joined =
      subst (λ l. OneStandsFor stands accs (parts ++ l)) (sym none)
      (subst (OneStandsFor stands accs) (sym (append-nil parts)) (subst (λ l. OneStandsFor stands l parts) (sym joined) one))
  joined_stand (a ∷ []) (b ∷ []) accs parts more one also joined =
      subst (λ l. OneStandsFor stands l (parts ++ more)) (sym joined.1)
      (let some : 1 ≤ length parts = one.0 in omega (arith, length-append parts more), joined.2.joins parts more one.1 also.1)
  joined_stand (a ∷ []) (b ∷ other ∷ twos) accs parts more one also joined = absurd also
  joined_stand (a ∷ other ∷ ones) twos accs parts more one also joined = absurd one

  pub merged_held : {rows others merged : List (Row A)} → Merges stands held rows others merged → held_in held merged ≡ held_in held rows + held_in held others
  merged_held nothing = refl
  merged_held (first {row = row} {rows = rows} {others = others} {merged = merged} before later) =
      omega (arith, merged_held later, sum_by-cons (λ (r : Row A). held r.acc) row merged, sum_by-cons (λ (r : Row A). held r.acc) row rows)
  merged_held (second {other = other} {rows = rows} {others = others} {merged = merged} before later) =
      omega (arith, merged_held later, sum_by-cons (λ (r : Row A). held r.acc) other merged, sum_by-cons (λ (r : Row A). held r.acc) other others)
  merged_held (both {row = row} {other = other} {rows = rows} {others = others} {merged = merged} {acc = acc} same one later) =
      omega (
        arith,
        merged_held later,
        one.count,
        sum_by-cons (λ (r : Row A). held r.acc) (record row { acc = acc }) merged,
        sum_by-cons (λ (r : Row A). held r.acc) row rows,
        sum_by-cons (λ (r : Row A). held r.acc) other others,
      )
