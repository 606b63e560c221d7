-- One more part, at a row that stands or in a row of its own.
use Rattle.std.proofs.Common.{◌≡◌, ℕ, ◌+◌, ◌&&◌, ℤ, Bool, true, false, cond, List, [], ◌∷◌, ◌++◌, length, map, Some, None, refl, sym, ap, subst, ◌∙◌, arith, append-nil, length-append}
use Rattle.std.specs.Bool.{OnTrue}
use Rattle.std.specs.Ordering.{int_eq}
use Rattle.std.specs.Prelude.{slice_set}
use Rattle.std.specs.Str.{bytes_eq}
use Rattle.std.proofs.lemmas.Bool.{false≢true}
use Rattle.std.proofs.lemmas.Bool.Decides.{Decides-int_eq}
use Rattle.std.proofs.lemmas.List.Elements.{filter_agree}
use Rattle.std.proofs.lemmas.Slice.Eq.{bytes_eq-Decides}
use Rattle.beam_values.specs.Intervals.{Interval}
use Rattle.beam_values.specs.Spelling.{spelling}
use Rattle.beam_values.specs.declared.value.Value.{Value}
use Rattle.combine_lift.specs.Tables.{Added, Table, accs_of, is_added_to, is_row_of, parts_of, row_place, AddsAt, IsRowAt, OneStandsFor, StandsFor}
use Rattle.combine_lift.specs.declared.row.Row.{Row}
use Rattle.combine_lift.proofs.Pointwise.{accs_append, accs_no, accs_yes, changed_at, parts_append, takes_more, unchanged_at}
use Rattle.combine_lift.proofs.RowOrder.{known_row}
use Rattle.combine_lift.proofs.RowPlaces.{none_found}

abbrev is_at : List ℕ → ℤ → ℤ → Value → Interval → Bool
is_at spelled start end q s = bytes_eq spelled (spelling q) && (int_eq start s.start && int_eq end s.end)

-- a row of a key and window is of another one where a part of the first is
same_test : {A : Type 0} (key : Value) (span : Interval) (part : Value) (row : Row A) → is_row_of key span row ≡ true → (q : Value) (s : Interval)
    → is_row_of q s row ≡ is_added_to q s (record { key = key; span = span; part = part })
same_test key span part row holds q s =
    let known = known_row key span row holds in
    ap (λ l. is_at l row.span.start row.span.end q s) known.spelled ∙ ap (λ t. is_at (spelling key) t row.span.end q s) known.starts
    ∙ ap (λ t. is_at (spelling key) span.start t q s) known.ends

abbrev is_of : Value → Interval → List ℕ → ℤ → ℤ → Bool
is_of k t spelled start end = bytes_eq (spelling k) spelled && (int_eq t.start start && int_eq t.end end)

-- what is of a key and window is of another one of which a row of the first is
same_place : {A : Type 0} (key : Value) (span : Interval) (row : Row A) → is_row_of key span row ≡ true → (q : Value) (s : Interval) → is_row_of q s row ≡ true
    → (other : Row A) → is_row_of q s other ≡ is_row_of key span other
same_place key span row holds q s also other =
    let known = known_row key span row holds in
    let here = known_row q s row also in
    ap (λ l. is_of other.key other.span l s.start s.end) (sym here.spelled ∙ known.spelled)
    ∙ ap (λ t. is_of other.key other.span (spelling key) t s.end) (sym here.starts ∙ known.starts)
    ∙ ap (λ t. is_of other.key other.span (spelling key) span.start t) (sym here.ends ∙ known.ends)

cons_is_none : {X : Type 0} {x : X} {xs : List X} → x ∷ xs ≡ [] → ⊥
cons_is_none e = cc

parts_yes : (q : Value) (s : Interval) (a : Added) → is_added_to q s a ≡ true → parts_of q s (a ∷ []) ≡ a.part ∷ []
parts_yes q s a test = ap (λ (b : Bool). map (λ (x : Added). x.part) (cond b (a ∷ []) [])) test

parts_no : (q : Value) (s : Interval) (a : Added) → is_added_to q s a ≡ false → parts_of q s (a ∷ []) ≡ []
parts_no q s a test = ap (λ (b : Bool). map (λ (x : Added). x.part) (cond b (a ∷ []) [])) test

module _ {A : Type 0} (stands : A → List Value → Type 0) (key : Value) (span : Interval) (part : Value) (added : List Added) where
  abbrev pub more : List Added
  more = added ++ record { key = key; span = span; part = part } ∷ []

  more_yes : (q : Value) (s : Interval) → is_added_to q s (record { key = key; span = span; part = part }) ≡ true → parts_of q s more ≡ parts_of q s added ++ part ∷ []
  more_yes q s test =
      parts_append q s added (record { key = key; span = span; part = part } ∷ []) ∙ ap (λ l. parts_of q s added ++ l) (parts_yes q s (record { key = key; span = span; part = part }) test)

  more_no : (q : Value) (s : Interval) → is_added_to q s (record { key = key; span = span; part = part }) ≡ false → parts_of q s more ≡ parts_of q s added
  more_no q s test =
      parts_append q s added (record { key = key; span = span; part = part } ∷ []) ∙ ap (λ l. parts_of q s added ++ l) (parts_no q s (record { key = key; span = span; part = part }) test)
      ∙ append-nil (parts_of q s added)

  counted : (old new : ℕ) → old ≡ length added → new ≡ old + 1 → new ≡ length more
  counted old new e f = omega (arith, length-append added (record { key = key; span = span; part = part } ∷ []))

  pub added_at : (held : A → ℕ) (old new : Table A) (place : ℕ) → IsRowAt key span old.rows place → AddsAt stands held part place old.rows new.rows
      → new.parts ≡ old.parts + 1 → StandsFor stands old added → StandsFor stands new more
  added_at held old new place found adds parts standing = record {
    each = λ q s. subst (λ l. OneStandsFor stands (accs_of q s l) (parts_of q s more)) (sym adds.rows) (by q s (is_row_of q s adds.row) refl);
    parts = counted old.parts new.parts standing.parts parts;
  }
    where
      holds : is_row_of key span adds.row ≡ true
      holds = let same : Some found.row ≡ Some adds.row = sym found.there ∙ adds.there in let row : found.row ≡ adds.row = cc in subst (λ (r : Row A). is_row_of key span r ≡ true) row found.is

      by : (q : Value) (s : Interval) (t : Bool) → is_row_of q s adds.row ≡ t
          → OneStandsFor stands (accs_of q s (slice_set old.rows place (record adds.row { acc = adds.acc }))) (parts_of q s more)
      by q s true test =
          let changed = changed_at q s adds.row (record adds.row { acc = adds.acc }) old.rows place test test adds.there in
          subst (λ l. OneStandsFor stands l (parts_of q s more)) (sym changed.is)
          (subst (OneStandsFor stands (changed.before ++ adds.acc ∷ changed.after)) (sym (more_yes q s (sym (same_test key span part adds.row holds q s) ∙ test)))
          (takes_more stands changed.before changed.after adds.row.acc adds.acc (parts_of q s added) (part ∷ [])
          (subst (λ l. OneStandsFor stands l (parts_of q s added)) changed.was (standing.each q s)) (adds.adds (parts_of q s added))))
      by q s false test =
          subst (λ l. OneStandsFor stands l (parts_of q s more)) (sym (unchanged_at q s adds.row (record adds.row { acc = adds.acc }) old.rows place test test adds.there))
          (subst (OneStandsFor stands (accs_of q s old.rows)) (sym (more_no q s (sym (same_test key span part adds.row holds q s) ∙ test))) (standing.each q s))

  pub opened_row : (old new : Table A) (row : Row A) → row_place key span old.rows ≡ None → is_row_of key span row ≡ true → stands row.acc (part ∷ [])
      → new.rows ≡ old.rows ++ row ∷ [] → new.parts ≡ old.parts + 1 → StandsFor stands old added → StandsFor stands new more
  opened_row old new row none holds one rows parts standing = record {
    each = λ q s. subst (λ l. OneStandsFor stands (accs_of q s l) (parts_of q s more)) (sym rows) (by q s (is_row_of q s row) refl);
    parts = counted old.parts new.parts standing.parts parts;
  }
    where
      alone : (accs : List A) (ps : List Value) → accs ≡ [] → OneStandsFor stands accs ps → OneStandsFor stands (accs ++ row.acc ∷ []) (ps ++ part ∷ [])
      alone [] ps e none = subst (λ l. OneStandsFor stands (row.acc ∷ []) (l ++ part ∷ [])) (sym none) (omega arith, one)
      alone (x ∷ accs) ps e some = absurd (cons_is_none e)

      by : (q : Value) (s : Interval) (t : Bool) → is_row_of q s row ≡ t → OneStandsFor stands (accs_of q s (old.rows ++ row ∷ [])) (parts_of q s more)
      by q s true test =
          let nothing : accs_of q s old.rows ≡ [] =
          ap (map (λ (r : Row A). r.acc)) (filter_agree (is_row_of q s) (is_row_of key span) (same_place key span row holds q s test) old.rows) ∙ none_found key span old.rows none in
          subst (λ l. OneStandsFor stands l (parts_of q s more)) (sym (accs_append q s old.rows (row ∷ []) ∙ ap (λ l. accs_of q s old.rows ++ l) (accs_yes q s row [] test)))
          (subst (OneStandsFor stands (accs_of q s old.rows ++ row.acc ∷ [])) (sym (more_yes q s (sym (same_test key span part row holds q s) ∙ test)))
          (alone (accs_of q s old.rows) (parts_of q s added) nothing (standing.each q s)))
      by q s false test =
          subst (λ l. OneStandsFor stands l (parts_of q s more))
          (sym (accs_append q s old.rows (row ∷ []) ∙ ap (λ l. accs_of q s old.rows ++ l) (accs_no q s row [] test) ∙ append-nil (accs_of q s old.rows)))
          (subst (OneStandsFor stands (accs_of q s old.rows)) (sym (more_no q s (sym (same_test key span part row holds q s) ∙ test))) (standing.each q s))

-- the same by the answer of an add, at a row that was found
pub stands_if_added : {A : Type 0} (stands : A → List Value → Type 0) (held : A → ℕ) (key : Value) (span : Interval) (part : Value) (old mid new : Table A) (place : ℕ) (taken : Bool)
    → mid ≡ old → IsRowAt key span old.rows place → OnTrue taken (AddsAt stands held part place mid.rows new.rows) → OnTrue taken (new.parts ≡ mid.parts + 1)
    → OnTrue taken ((added : List Added) → StandsFor stands old added → StandsFor stands new (added ++ record { key = key; span = span; part = part } ∷ []))
stands_if_added {A} stands held key span part old mid new place true same found adds parts =
    λ added standing.
    added_at stands key span part added held old new place found (subst (λ (m : Table A). AddsAt stands held part place m.rows new.rows) same adds)
    (parts ∙ ap (λ (m : Table A). m.parts + 1) same) standing
stands_if_added stands held key span part old mid new place false same found adds parts = tt

-- a row is of its own key and window
own_place : {A : Type 0} (key : Value) (span : Interval) (acc : A) → is_row_of key span (record { span = span; key = key; acc = acc }) ≡ true
own_place key span acc =
    ap (λ b. b && (int_eq span.start span.start && int_eq span.end span.end)) ((bytes_eq-Decides (spelling key) (spelling key)).1 refl)
    ∙ ap (λ b. b && int_eq span.end span.end) ((Decides-int_eq span.start span.start).1 refl) ∙ (Decides-int_eq span.end span.end).1 refl

-- the same in a row of its own
pub stands_if_opened : {A : Type 0} (stands : A → List Value → Type 0) (key : Value) (span : Interval) (part : Value) (old new : Table A) (unit acc : A) (taken : Bool)
    → row_place key span old.rows ≡ None → taken ≡ true → stands unit [] → OnTrue taken ((parts : List Value) → stands unit parts → stands acc (parts ++ part ∷ []))
    → new ≡ record { rows = old.rows ++ record { span = span; key = key; acc = acc } ∷ []; parts = old.parts + 1 }
    → (added : List Added) → StandsFor stands old added → StandsFor stands new (added ++ record { key = key; span = span; part = part } ∷ [])
stands_if_opened {A} stands key span part old new unit acc true none test start adds opened = λ added standing.
    opened_row stands key span part added old new (record { span = span; key = key; acc = acc }) none (own_place key span acc) (adds [] start)
    (ap (λ (t : Table A). t.rows) opened) (ap (λ (t : Table A). t.parts) opened) standing
stands_if_opened stands key span part old new unit acc false none test start adds opened = absurd (false≢true test)
