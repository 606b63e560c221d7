-- What rows give is the fold of the parts that they stand for.
use Rattle.std.proofs.Common.{◌≡◌, ℕ, zero, suc, ◌+◌, ◌<◌, ◌≤◌, Bool, true, false, cond, List, [], ◌∷◌, ◌++◌, length, get_or, map, reverse, IfOk, Option, Result, refl, sym, ap, subst, ◌∙◌, arith, ◌&&◌, append-nil, append_assoc}
use Rattle.std.specs.List.{filter, AllZip}
use Rattle.std.specs.List.Sorted.{IsSorted}
use Rattle.std.specs.Ordering.{is_lt, ordering_then}
use Rattle.std.specs.Str.{bytes_eq}
use Rattle.std.proofs.lemmas.Result.{IfOk-weaker}
use Rattle.std.proofs.lemmas.List.{reverse-append}
use Rattle.beam_values.specs.Cells.{span_cmp}
use Rattle.beam_values.specs.Intervals.{Interval}
use Rattle.beam_values.specs.Orders.{value_cmp}
use Rattle.beam_values.specs.Spans.{same_span}
use Rattle.beam_values.specs.Spelling.{spelling}
use Rattle.beam_values.specs.declared.plan.FnKind.{FnKind}
use Rattle.beam_values.specs.declared.value.Value.{Value}
use Rattle.beam_model.specs.Functions.{fold_of}
use Rattle.combine_lift.specs.Folds.{combined_cmp, fold_or_none, is_combined_of, values_of, AreExtracted, AreFolds, IsExtracted}
use Rattle.combine_lift.specs.Tables.{Added, Table, accs_of, is_row_of, parts_of, row_cmp, OneStandsFor, StandsFor}
use Rattle.combine_lift.specs.declared.combined.Combined.{Combined}
use Rattle.combine_lift.specs.declared.row.Row.{Row}
use Rattle.combine_lift.proofs.Pointwise.{accs_no, accs_yes, stands_permuted}

zip_at : {X Y : Type 0} (R : X → Y → Type 0) (xs : List X) (ys : List Y) (k : ℕ) (d : X) (e : Y) → AllZip R xs ys → k < length xs → R (get_or xs k d) (get_or ys k e)
zip_at R [] ys k d e zip within = absurd (omega arith)
zip_at R (x ∷ xs) [] k d e zip within = absurd zip
zip_at R (x ∷ xs) (y ∷ ys) zero d e zip within = zip.0
zip_at R (x ∷ xs) (y ∷ ys) (suc k) d e zip within = zip_at R xs ys k d e zip.1 (omega arith)

length_zip : {X Y : Type 0} (R : X → Y → Type 0) (xs : List X) (ys : List Y) → AllZip R xs ys → length xs ≡ length ys
length_zip R [] [] zip = refl
length_zip R [] (y ∷ ys) zip = absurd zip
length_zip R (x ∷ xs) [] zip = absurd zip
length_zip R (x ∷ xs) (y ∷ ys) zip = ap suc (length_zip R xs ys zip.1)

module _ {A : Type 0} (stands : A → List Value → Type 0) (work : FnKind) where
  abbrev Gives : A → Option Value → Type 0
  Gives acc value = (parts : List Value) → stands acc parts → value ≡ fold_of work parts

  values_yes : (key : Value) (span : Interval) (c : Combined) (cs : List Combined) → is_combined_of key span c ≡ true → values_of key span (c ∷ cs) ≡ c.value ∷ values_of key span cs
  values_yes key span c cs test = ap (λ (b : Bool). map (λ (x : Combined). x.value) (cond b (c ∷ filter (is_combined_of key span) cs) (filter (is_combined_of key span) cs))) test

  values_no : (key : Value) (span : Interval) (c : Combined) (cs : List Combined) → is_combined_of key span c ≡ false → values_of key span (c ∷ cs) ≡ values_of key span cs
  values_no key span c cs test = ap (λ (b : Bool). map (λ (x : Combined). x.value) (cond b (c ∷ filter (is_combined_of key span) cs) (filter (is_combined_of key span) cs))) test

  of_row : (key : Value) (span : Interval) (row : Row A) (c : Combined) → IsExtracted stands work row c → is_combined_of key span c ≡ is_row_of key span row
  of_row key span row c is =
      ap (λ k. bytes_eq (spelling k) (spelling key) && same_span c.span span) is.key ∙ ap (λ s. bytes_eq (spelling row.key) (spelling key) && same_span s span) is.span

  extracted : (key : Value) (span : Interval) (rows : List (Row A)) (cs : List Combined) → AllZip (IsExtracted stands work) rows cs
      → AllZip Gives (accs_of key span rows) (values_of key span cs)
  extracted key span [] [] zip = tt
  extracted key span [] (c ∷ cs) zip = absurd zip
  extracted key span (row ∷ rows) [] zip = absurd zip
  extracted key span (row ∷ rows) (c ∷ cs) zip = by (is_row_of key span row) refl (extracted key span rows cs zip.1)
    where
      by : (t : Bool) → is_row_of key span row ≡ t → AllZip Gives (accs_of key span rows) (values_of key span cs)
          → AllZip Gives (accs_of key span (row ∷ rows)) (values_of key span (c ∷ cs))
      by true test later =
          subst (λ l. AllZip Gives l (values_of key span (c ∷ cs))) (sym (accs_yes key span row rows test))
          (subst (AllZip Gives (row.acc ∷ accs_of key span rows)) (sym (values_yes key span c cs (of_row key span row c zip.0 ∙ test))) (zip.0.value, later))
      by false test later =
          subst (λ l. AllZip Gives l (values_of key span (c ∷ cs))) (sym (accs_no key span row rows test))
          (subst (AllZip Gives (accs_of key span rows)) (sym (values_no key span c cs (of_row key span row c zip.0 ∙ test))) later)

  one_fold : (acc : A) (value : Option Value) (parts : List Value) → 1 ≤ length parts → stands acc parts → Gives acc value → value ∷ [] ≡ fold_or_none work parts
  one_fold acc value [] some one gives = absurd (omega arith)
  one_fold acc value (part ∷ parts) some one gives = ap (λ v. v ∷ []) (gives (part ∷ parts) one)

  folds : (accs : List A) (values : List (Option Value)) (parts : List Value) → OneStandsFor stands accs parts → AllZip Gives accs values → values ≡ fold_or_none work parts
  folds [] [] parts none zip = sym (ap (fold_or_none work) none)
  folds [] (v ∷ values) parts none zip = absurd zip
  folds (acc ∷ []) [] parts one zip = absurd zip
  folds (acc ∷ []) (value ∷ []) parts one zip = one_fold acc value parts one.0 one.1 zip.0
  folds (acc ∷ []) (value ∷ v ∷ values) parts one zip = absurd zip.1
  folds (acc ∷ other ∷ accs) values parts one zip = absurd one

  same_order : (a b : Row A) (c e : Combined) → IsExtracted stands work a c → IsExtracted stands work b e → combined_cmp c e ≡ row_cmp a b
  same_order a b c e one two =
      ap (λ s. ordering_then (span_cmp s e.span) (value_cmp c.key e.key)) one.span ∙ ap (λ s. ordering_then (span_cmp a.span s) (value_cmp c.key e.key)) two.span
      ∙ ap (λ k. ordering_then (span_cmp a.span b.span) (value_cmp k e.key)) one.key ∙ ap (λ k. ordering_then (span_cmp a.span b.span) (value_cmp a.key k)) two.key

  in_order : (rows : List (Row A)) (cs : List Combined) → AllZip (IsExtracted stands work) rows cs → IsSorted row_cmp rows → IsSorted combined_cmp cs
  in_order [] [] zip up k d low within = absurd (omega arith)
  in_order [] (c ∷ cs) zip up k d low within = absurd zip
  in_order (row ∷ rows) [] zip up k d low within = absurd zip
  in_order (row ∷ rows) (c ∷ cs) zip up k d low within =
      let long : k + 1 < length (row ∷ rows) = omega (arith, length_zip (IsExtracted stands work) (row ∷ rows) (c ∷ cs) zip) in
      ap is_lt (same_order (get_or (row ∷ rows) (k + 1) row) (get_or (row ∷ rows) k row) (get_or (c ∷ cs) (k + 1) d) (get_or (c ∷ cs) k d)
      (zip_at (IsExtracted stands work) (row ∷ rows) (c ∷ cs) (k + 1) row d zip long)
      (zip_at (IsExtracted stands work) (row ∷ rows) (c ∷ cs) k row d zip (omega arith)))
      ∙ up k row low long

  pub extracted_folds : (table : Table A) (added : List Added) (cs : List Combined) → AreExtracted stands work table.rows cs → StandsFor stands table added → AreFolds work added cs
  extracted_folds table added cs all standing = record {
    each = λ key span.
        folds (accs_of key span all.sorted) (values_of key span cs) (parts_of key span added)
        (stands_permuted stands key span (parts_of key span added) table.rows all.sorted all.same (standing.each key span))
        (extracted key span all.sorted cs all.each);
    ordered = in_order all.sorted cs all.each all.ordered;
  }

  pub extracted_from : {E : Type 0} (table : Table A) (rows : List (Row A)) (parts : ℕ) (result : Result (List Combined) E) → record { rows = rows; parts = parts } ≡ table
      → IfOk result (AreExtracted stands work rows) → IfOk result (λ cs. (added : List Added) → StandsFor stands table added → AreFolds work added cs)
  extracted_from table rows parts result seen all =
      IfOk-weaker result (AreExtracted stands work rows) (λ cs. (added : List Added) → StandsFor stands table added → AreFolds work added cs)
      (λ cs extracted added standing. extracted_folds table added cs (subst (λ (t : Table A). AreExtracted stands work t.rows cs) seen extracted) standing) all

-- ---- taken one after another

reverse-push : {X : Type 0} (xs : List X) (x : X) → reverse (xs ++ x ∷ []) ≡ x ∷ reverse xs
reverse-push xs x = reverse-append xs (x ∷ [])

module _ {X Y : Type 0} (R : X → Y → Type 0) (whole : List X) where
  pub extract_more : (xs rest : List X) (x : X) (ys new : List Y) (y : Y) → xs ≡ rest ++ x ∷ [] → R x y → new ≡ ys ++ y ∷ []
      → ((more : List Y) → AllZip R (reverse xs) more → AllZip R whole (ys ++ more)) → (more : List Y) → AllZip R (reverse rest) more → AllZip R whole (new ++ more)
  extract_more xs rest x ys new y split gives longer all more zip =
      subst (AllZip R whole) (sym (ap (λ l. l ++ more) longer ∙ append_assoc ys (y ∷ []) more))
      (all (y ∷ more) (subst (λ l. AllZip R l (y ∷ more)) (sym (ap reverse split ∙ reverse-push rest x)) (gives, zip)))

  pub extract_end : (xs : List X) (ys : List Y) → xs ≡ [] → ((more : List Y) → AllZip R (reverse xs) more → AllZip R whole (ys ++ more)) → AllZip R whole ys
  extract_end xs ys none all =
      subst (AllZip R whole) (append-nil ys) (all [] (subst (λ l. AllZip R (reverse l) []) (sym none) tt))
