-- Taking the least rows of two lists in falling order merges them.
use Rattle.std.proofs.Common.{◌≡◌, ℕ, ◌-◌, List, [], ◌∷◌, ◌++◌, length, get_or, reverse, Option, Some, None, IfSome, refl, sym, ap, subst, ◌∙◌, arith, length-append, option_to_list}
use Rattle.std.specs.Ordering.{ordering_reverse}
use Rattle.std.specs.declared.cmp.Ordering.TheVariants.{Less, Equal, Greater}
use Rattle.std.proofs.Math.Seq.{get_or-append_seam}
use Rattle.std.proofs.lemmas.List.{reverse-append, reverse-reverse}
use Rattle.std.proofs.lemmas.List.Sums.{sum_by_push}
use Rattle.beam_values.specs.declared.value.Value.{Value}
use Rattle.combine_lift.specs.Merging.{IsBeforeFirst, Merges, nothing, first, second, both, TakesBoth, TakesLeast}
use Rattle.combine_lift.specs.Tables.{held_in, row_cmp}
use Rattle.combine_lift.specs.declared.row.Row.{Row}
use Rattle.combine_lift.proofs.RowOrder.{row_total}

last_read : {X : Type 0} (xs rest : List X) (x y : X) → xs ≡ rest ++ x ∷ [] → y ≡ get_or xs (length xs - 1) y → y ≡ x
last_read xs rest x y split is =
    is ∙ ap (λ l. get_or l (length l - 1) y) split ∙ ap (λ n. get_or (rest ++ x ∷ []) n y) (omega (arith, length-append rest (x ∷ []))) ∙ get_or-append_seam rest x [] y

reverse-push : {X : Type 0} (xs : List X) (x : X) → reverse (xs ++ x ∷ []) ≡ x ∷ reverse xs
reverse-push xs x = reverse-append xs (x ∷ [])

reverse-cons : {X : Type 0} (x : X) (xs : List X) → reverse (x ∷ xs) ≡ reverse xs ++ x ∷ []
reverse-cons x xs = reverse-append (x ∷ []) xs

-- the first of the reverse is the last
first_read : {X : Type 0} (xs : List X) (x : X) (ys : List X) (y : X) → reverse xs ≡ x ∷ ys → y ≡ get_or xs (length xs - 1) y → y ≡ x
first_read xs x ys y e is = last_read xs (reverse ys) x y (sym (reverse-reverse xs) ∙ ap reverse e ∙ reverse-cons x ys) is

before_first : {A : Type 0} (row other : Row A) (others reversed : List (Row A)) → reverse others ≡ reversed → other ≡ get_or others (length others - 1) other
    → row_cmp row other ≡ Less → IsBeforeFirst row reversed
before_first row other others [] e is less = tt
before_first row other others (y ∷ ys) e is less = ap (row_cmp row) (sym (first_read others y ys other e is)) ∙ less

module _ {A : Type 0} (stands : A → List Value → Type 0) (held : A → ℕ) where
  pub takes_first : (rows others rest : List (Row A)) (row : Row A) → IsBeforeFirst row (reverse others) → rows ≡ rest ++ row ∷ []
      → TakesLeast stands held rows others rest others row
  takes_first rows others rest row before split = record {
    merges = λ merged later. subst (λ l. Merges stands held l (reverse others) (row ∷ merged)) (sym (ap reverse split ∙ reverse-push rest row)) (first before later);
    fewer = omega (arith, ap length split, length-append rest (row ∷ []));
    fits = omega (arith, ap (held_in held) split, sum_by_push (λ (r : Row A). held r.acc) rest row);
  }

  pub takes_second : (rows others left : List (Row A)) (row : Row A) → IsBeforeFirst row (reverse rows) → others ≡ left ++ row ∷ []
      → TakesLeast stands held rows others rows left row
  takes_second rows others left row before split = record {
    merges = λ merged later. subst (λ l. Merges stands held (reverse rows) l (row ∷ merged)) (sym (ap reverse split ∙ reverse-push left row)) (second before later);
    fewer = omega (arith, ap length split, length-append left (row ∷ []));
    fits = omega (arith, ap (held_in held) split, sum_by_push (λ (r : Row A). held r.acc) left row);
  }

  pub takes_both : (rows others rest left : List (Row A)) (row : Row A)
      → (took : TakesBoth stands held rows others rest left row) → row_cmp took.first took.second ≡ Equal → TakesLeast stands held rows others rest left row
  takes_both rows others rest left row took same = record {
    merges = λ merged later.
        subst (λ l. Merges stands held l (reverse others) (row ∷ merged)) (sym (ap reverse took.split ∙ reverse-push rest took.first))
        (subst (λ l. Merges stands held (took.first ∷ reverse rest) l (row ∷ merged)) (sym (ap reverse took.split_also ∙ reverse-push left took.second))
        (subst (λ (r : Row A). Merges stands held (took.first ∷ reverse rest) (took.second ∷ reverse left) (r ∷ merged)) (sym took.place)
        (both same took.joined later)));
    fewer = omega (arith, ap length took.split, ap length took.split_also, length-append rest (took.first ∷ []), length-append left (took.second ∷ []));
    fits = omega (
      arith,
      ap (held_in held) took.split,
      ap (held_in held) took.split_also,
      sum_by_push (λ (r : Row A). held r.acc) rest took.first,
      sum_by_push (λ (r : Row A). held r.acc) left took.second,
    );
  }

  -- ---- by what pops gave

  pub popped_first : (rows others rest : List (Row A)) (r : Option (Row A)) (x y : Row A) → rows ≡ rest ++ option_to_list r
      → x ≡ get_or rows (length rows - 1) x → y ≡ get_or others (length others - 1) y → row_cmp x y ≡ Less
      → IfSome r (TakesLeast stands held rows others rest others)
  popped_first rows others rest None x y split is also less = tt
  popped_first rows others rest (Some row) x y split is also less =
      let same = last_read rows rest row x split is in
      takes_first rows others rest row (before_first row y others (reverse others) refl also (ap (λ r. row_cmp r y) (sym same) ∙ less)) split

  pub popped_second : (rows others left : List (Row A)) (r : Option (Row A)) (x y : Row A) → others ≡ left ++ option_to_list r
      → x ≡ get_or rows (length rows - 1) x → y ≡ get_or others (length others - 1) y → row_cmp x y ≡ Greater
      → IfSome r (TakesLeast stands held rows others rows left)
  popped_second rows others left None x y split is also greater = tt
  popped_second rows others left (Some row) x y split is also greater =
      let same = last_read others left row y split also in
      let less : row_cmp row x ≡ Less = row_total.antisymm row x ∙ ap ordering_reverse (ap (row_cmp x) (sym same) ∙ greater) in
      takes_second rows others left row (before_first row x rows (reverse rows) refl is less) split

  pub popped_alone_first : (rows others rest : List (Row A)) (r : Option (Row A)) → others ≡ [] → rows ≡ rest ++ option_to_list r
      → IfSome r (TakesLeast stands held rows others rest others)
  popped_alone_first rows others rest None none split = tt
  popped_alone_first rows others rest (Some row) none split =
      takes_first rows others rest row (subst (λ l. IsBeforeFirst row (reverse l)) (sym none) tt) split

  pub popped_alone_second : (rows others left : List (Row A)) (r : Option (Row A)) → rows ≡ [] → others ≡ left ++ option_to_list r
      → IfSome r (TakesLeast stands held rows others rows left)
  popped_alone_second rows others left None none split = tt
  popped_alone_second rows others left (Some row) none split =
      takes_second rows others left row (subst (λ l. IsBeforeFirst row (reverse l)) (sym none) tt) split

  pub popped_both : (rows others rest left : List (Row A)) (r : Option (Row A)) (x y : Row A)
      → x ≡ get_or rows (length rows - 1) x → y ≡ get_or others (length others - 1) y → row_cmp x y ≡ Equal
      → IfSome r (TakesBoth stands held rows others rest left) → IfSome r (TakesLeast stands held rows others rest left)
  popped_both rows others rest left None x y is also equal took = tt
  popped_both rows others rest left (Some row) x y is also equal took =
      let one = last_read rows rest took.first x took.split is in
      let two = last_read others left took.second y took.split_also also in
      takes_both rows others rest left row took (ap (λ r. row_cmp r took.second) (sym one) ∙ ap (row_cmp x) (sym two) ∙ equal)

  pub merges_none : (rows others : List (Row A)) → rows ≡ [] → others ≡ [] → Merges stands held (reverse rows) (reverse others) []
  merges_none rows others none also =
      subst (λ l. Merges stands held (reverse l) (reverse others) []) (sym none) (subst (λ l. Merges stands held [] (reverse l) []) (sym also) nothing)
