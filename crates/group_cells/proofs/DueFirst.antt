-- The first key of a node is at the least moment of its cells.
use Rattle.std.proofs.Common.{◌≡◌, ◌⊎◌, inl, inr, ℕ, ◌<◌, ◌≤◌, ◌==◌, ℤ, ◌≤ℤ◌, ◌<ℤ◌, Bool, true, false, cond, List, [], get_or, Option, Some, None, refl, sym, ap, subst, ◌∙◌, arith}
use Rattle.std.specs.Prelude.{MatchOption, ◌&&◌, slice_get}
use Rattle.std.specs.BTreeMap.Range.{IsInRange}
use Rattle.std.specs.BTreeSet.{contains}
use Rattle.std.specs.List.{Any, Contains}
use Rattle.std.specs.Option.{option_map}
use Rattle.std.specs.Ordering.{int_cmp, is_gt, nat_cmp, ordering_then}
use Rattle.std.specs.declared.cmp.Ordering.{Ordering}
use Rattle.std.specs.declared.cmp.Ordering.TheVariants.{Less, Equal, Greater}
use Rattle.std.specs.declared.ops.Bound.TheVariants.{Included}
use Rattle.std.proofs.lemmas.Bool.{and_parts, eqb-true, false≢true}
use Rattle.std.proofs.lemmas.Bool.Decides.{Decides-eqb, Decides-int_eq}
use Rattle.std.proofs.lemmas.Cmp.{by_ranked, int_ranked, nat_cmp_total, ranked, tied_itself}
use Rattle.std.proofs.lemmas.Int.{ints}
use Rattle.std.proofs.lemmas.Option.{get_or_from_slice_get, slice_get-get_or, slice_get_within}
use Rattle.beam_values.specs.Times.{final_mark, least_time}
use Rattle.beam_values.specs.declared.cell.Cell.{Cell}
use Rattle.beam_values.specs.declared.plan.Plan.{Plan}
use Rattle.beam_model.specs.Panes.{trigger_of}
use Rattle.pane_triggers.specs.NextMarks.{IsNeverDue, IsNextMark, next_mark}
use Rattle.group_cells.specs.Cells.{unseen_in}
use Rattle.group_cells.specs.Due.{IsDueOf, IsFirstBetween, due_cmp, has_moment, is_due_as, own_moment}
use Rattle.group_cells.specs.Looking.{IsDueAt, IsNextDue, moment_of}
use Rattle.group_cells.specs.Placing.{is_standing}
use Rattle.group_cells.specs.declared.groups.due.DueCells.{DueCells}
use Rattle.group_cells.specs.declared.groups.due.DueKey.{DueKey}
use Rattle.group_cells.proofs.DueRanges.{key_upto}
use Rattle.group_cells.proofs.FiredPlaces.{IsLeast}

first_upto : (o r : Ordering) → is_gt (ordering_then o r) ≡ false → is_gt o ≡ false
first_upto Less r h = refl
first_upto Equal r h = refl
first_upto Greater r h = h

greater_on : (o : Ordering) → o ≡ Greater → is_gt o ≡ false → ⊥
greater_on o e h = false≢true (sym h ∙ ap is_gt e)

nat_from : (a b : ℕ) → is_gt (nat_cmp a b) ≡ false → a ≤ b
nat_from a b h =
    by_ranked (a < b) (a ≡ b) (b < a) (nat_cmp a b) (ranked a b (nat_cmp a b) refl) (λ e less. omega (arith, less)) (λ e same. omega (arith, same))
    (λ e more. absurd (greater_on (nat_cmp a b) e h))

int_from : (a b : ℤ) → is_gt (int_cmp a b) ≡ false → a ≤ℤ b
int_from a b h =
    by_ranked (a <ℤ b) (a ≡ b) (b <ℤ a) (int_cmp a b) (int_ranked a b (int_cmp a b) refl) (λ e less. omega (arith, ints, less)) (λ e same. omega (arith, ints, same))
    (λ e more. absurd (greater_on (int_cmp a b) e h))

-- keys of one node are in order by their moments
moments_upto : (a b : DueKey) → a.node ≡ b.node → is_gt (due_cmp a b) ≡ false → a.moment ≤ℤ b.moment
moments_upto a b same h =
    let tie : nat_cmp a.node b.node ≡ Equal = ap (nat_cmp a.node) (sym same) ∙ tied_itself nat_cmp_total a.node in
    int_from a.moment b.moment
    (first_upto (int_cmp a.moment b.moment) (nat_cmp a.place b.place)
    (sym (ap (λ o. is_gt (ordering_then o (ordering_then (int_cmp a.moment b.moment) (nat_cmp a.place b.place)))) tie) ∙ h))

module _ (plan : Plan) (due : DueCells) (cells : List Cell) (node : ℕ) (h : IsDueOf plan due cells) (none_moved : due.moved.items ≡ []) (least : IsLeast) where
  abbrev pub bottom : DueKey
  bottom = record { node = node; moment = least_time; place = 0 }

  abbrev pub top : DueKey
  top = record { node = node; moment = final_mark; place = 4294967295 }

  abbrev Between : DueKey → Type 0
  Between q = IsInRange due_cmp (Included bottom) (Included top) q

  -- the key of a cell of the node is among them
  listed : (k : ℕ) (cell : Cell) (m : ℤ) → slice_get cells k ≡ Some cell → cell.node ≡ node → moment_of (trigger_of plan node) cell ≡ Some m
      → (contains due_cmp due.moments (record { node = node; moment = m; place = k }) ≡ true) × Between (record { node = node; moment = m; place = k })
  listed k cell m found at e = (there, by_standing (is_standing cell.merged_into) refl)
    where
      q : DueKey
      q = record { node = node; moment = m; place = k }

      own : own_moment plan cell ≡ Some m
      own = ap (λ n. moment_of (trigger_of plan n) cell) at ∙ e

      there : contains due_cmp due.moments (record { node = node; moment = m; place = k }) ≡ true
      there =
          h.moments.whole (record { node = node; moment = m; place = k })
          (ap (is_due_as plan (record { node = node; moment = m; place = k })) found ∙ (λ i. (Decides-eqb cell.node node).1 at i && has_moment (own i) m) ∙ (Decides-int_eq m m).1 refl)

      inside : least_time ≤ℤ m → m ≤ℤ final_mark → Between (record { node = node; moment = m; place = k })
      inside low high =
          (key_upto bottom q (omega arith) low (omega arith), key_upto q top (omega arith) high (omega (arith, slice_get_within cells k cell found, h.small)))

      by_next : (o : Option ℤ) → next_mark (trigger_of plan node) cell.span.end cell.on_time (unseen_in cell.entries) ≡ o → o ≡ Some m
          → MatchOption o (IsNeverDue (trigger_of plan node) cell.span.end cell.on_time (unseen_in cell.entries)) (IsNextMark (trigger_of plan node) cell.span.end cell.on_time (unseen_in cell.entries))
          → Between (record { node = node; moment = m; place = k })
      by_next None e f next = absurd cc
      by_next (Some mine) e f next =
          let same : mine ≡ m = cc in
          inside (subst (λ x. least_time ≤ℤ x) same next.from_least) (subst (λ x. x ≤ℤ final_mark) same next.upto_final)

      by_standing : (s : Bool) → is_standing cell.merged_into ≡ s → Between (record { node = node; moment = m; place = k })
      by_standing true s =
          let next : next_mark (trigger_of plan node) cell.span.end cell.on_time (unseen_in cell.entries) ≡ Some m =
          sym (ap (λ b. cond {A = Option ℤ} b (next_mark (trigger_of plan node) cell.span.end cell.on_time (unseen_in cell.entries)) None) s) ∙ e in
          by_next (next_mark (trigger_of plan node) cell.span.end cell.on_time (unseen_in cell.entries)) refl next (least (trigger_of plan node) cell.span.end cell.on_time (unseen_in cell.entries))
      by_standing false s =
          let none : None ≡ Some m = sym (ap (λ b. cond {A = Option ℤ} b (next_mark (trigger_of plan node) cell.span.end cell.on_time (unseen_in cell.entries)) None) s) ∙ e in
          absurd cc

  none_due : IsFirstBetween due.moments bottom top None → IsNextDue plan node cells None
  none_due none = λ k d within at. by k (get_or cells k d) (slice_get-get_or cells k d within) at (moment_of (trigger_of plan node) (get_or cells k d)) refl
    where
      by : (k : ℕ) (cell : Cell) → slice_get cells k ≡ Some cell → cell.node ≡ node → (o : Option ℤ) → moment_of (trigger_of plan node) cell ≡ o → moment_of (trigger_of plan node) cell ≡ None
      by k cell found at None e = e
      by k cell found at (Some m) e =
          let in_ = listed k cell m found at e in
          absurd (false≢true (sym (none (record { node = node; moment = m; place = k }) in_.1) ∙ in_.0))

  -- no moment is left that moved
  due_now : (q : DueKey) → (is_due_as plan q (slice_get cells q.place) ≡ true) ⊎ Contains due.moved.items q → is_due_as plan q (slice_get cells q.place) ≡ true
  due_now q (inl due_so) = due_so
  due_now q (inr moved) = let there = subst (λ (l : List DueKey). Contains l q) none_moved moved in let within : there.0 < 0 = there.1 in absurd (omega (arith, within))

  key_at : (key : DueKey) → Between key → key.node ≡ node
  key_at key in_ =
      let low : node ≤ key.node = nat_from node key.node (first_upto (nat_cmp node key.node) (ordering_then (int_cmp least_time key.moment) (nat_cmp 0 key.place)) in_.0) in
      let high : key.node ≤ node = nat_from key.node node (first_upto (nat_cmp key.node node) (ordering_then (int_cmp key.moment final_mark) (nat_cmp key.place 4294967295)) in_.1) in
      omega (arith, low, high)

  some_due : (key : DueKey) → IsFirstBetween due.moments bottom top (Some key) → IsNextDue plan node cells (Some key.moment)
  some_due key first = (by_cell (slice_get cells key.place) refl (due_now key (h.moments.only key first.1)), λ k d within at. before k (get_or cells k d) (slice_get-get_or cells k d within) at (moment_of (trigger_of plan node) (get_or cells k d)) refl)
    where
      here : key.node ≡ node
      here = key_at key first.0

      by_moment : (o : Option ℤ) (cell : Cell) → own_moment plan cell ≡ o → has_moment o key.moment ≡ true → own_moment plan cell ≡ Some key.moment
      by_moment None cell e t = absurd (false≢true t)
      by_moment (Some own) cell e t = e ∙ ap (λ m. Some m) ((Decides-int_eq own key.moment).0 t)

      by_cell : (o : Option Cell) → slice_get cells key.place ≡ o → is_due_as plan key o ≡ true → Any (IsDueAt plan node key.moment) cells
      by_cell None e t = absurd (false≢true t)
      by_cell (Some cell) e t =
          let parts = and_parts (cell.node == key.node) (has_moment (own_moment plan cell) key.moment) t in
          let at : cell.node ≡ node = eqb-true cell.node key.node parts.0 ∙ here in (
            key.place,
            cell,
            slice_get_within cells key.place cell e,
            get_or_from_slice_get cells key.place cell cell e,
            (at, ap (λ n. moment_of (trigger_of plan n) cell) (sym at) ∙ by_moment (own_moment plan cell) cell refl parts.1),
          )

      before : (k : ℕ) (cell : Cell) → slice_get cells k ≡ Some cell → cell.node ≡ node → (o : Option ℤ) → moment_of (trigger_of plan node) cell ≡ o
          → MatchOption (moment_of (trigger_of plan node) cell) (Unit {0}) (λ own. key.moment ≤ℤ own)
      before k cell found at None e = subst (λ o. MatchOption o (Unit {0}) (λ own. key.moment ≤ℤ own)) (sym e) tt
      before k cell found at (Some m) e =
          let in_ = listed k cell m found at e in
          subst (λ o. MatchOption o (Unit {0}) (λ own. key.moment ≤ℤ own)) (sym e)
          (moments_upto key (record { node = node; moment = m; place = k }) here (first.2 (record { node = node; moment = m; place = k }) in_.1 in_.0))

  pub next_found : (o : Option DueKey) → IsFirstBetween due.moments bottom top o → IsNextDue plan node cells (option_map (λ k. k.moment) o)
  next_found None h = none_due h
  next_found (Some key) h = some_due key h

pub next_is : (plan : Plan) (due : DueCells) (cells : List Cell) (node : ℕ) (first last_ : DueKey) (o : Option DueKey) → IsDueOf plan due cells → due.moved.items ≡ [] → IsLeast
    → first ≡ record { node = node; moment = least_time; place = 0 } → last_ ≡ record { node = node; moment = final_mark; place = 4294967295 }
    → IsFirstBetween due.moments first last_ o → IsNextDue plan node cells (option_map (λ k. k.moment) o)
next_is plan due cells node first last_ o h none_moved least from_ to_ between =
    next_found plan due cells node h none_moved least o
    (subst (λ k. IsFirstBetween due.moments k (record { node = node; moment = final_mark; place = 4294967295 }) o) from_ (subst (λ k. IsFirstBetween due.moments first k o) to_ between))
