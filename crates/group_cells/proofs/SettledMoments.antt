-- The moments that moved leave where no cell is due at them.
use Rattle.std.proofs.Common.{◌≡◌, ◌⊎◌, inl, inr, Bool, true, false, cond, List, [], ◌∷◌, ◌++◌, ap, subst, sym, refl, ◌∙◌, Some, ◌==◌, ◌&&◌}
use Rattle.std.specs.Prelude.{slice_get}
use Rattle.std.specs.BTreeSet as sorted
use Rattle.std.specs.BTreeSet.{contains}
use Rattle.std.specs.List.{Contains}
use Rattle.std.specs.Ordering.{int_eq}
use Rattle.std.proofs.lemmas.Bool.{false≢true}
use Rattle.std.proofs.lemmas.Bool.Decides.{Decides-eqb, Decides-int_eq}
use Rattle.std.proofs.lemmas.List.Elements.{Contains-push_cases}
use Rattle.beam_values.specs.declared.cell.Cell.{Cell}
use Rattle.beam_values.specs.declared.plan.Plan.{Plan}
use Rattle.group_cells.specs.Due.{AreMoments, due_cmp, is_due_as, is_key_of}
use Rattle.group_cells.specs.declared.groups.due.DueCells.{DueCells}
use Rattle.group_cells.specs.declared.groups.due.DueKey.{DueKey}
use Rattle.group_cells.proofs.Alike.{both_true}
use Rattle.group_cells.proofs.DueKeys.{key_of_moment, updated}

itself : (key : DueKey) → is_key_of key.node key.place (Some key.moment) key ≡ true
itself key =
    both_true (key.node == key.node && key.place == key.place) (int_eq key.moment key.moment)
    (both_true (key.node == key.node) (key.place == key.place) ((Decides-eqb key.node key.node).1 refl) ((Decides-eqb key.place key.place).1 refl)) ((Decides-int_eq key.moment key.moment).1 refl)

module _ (plan : Plan) (before old new : DueCells) (cells : List Cell) (key : DueKey) (h : AreMoments plan before cells) (same : before.moments ≡ old.moments)
    (noted : before.moved.items ≡ old.moved.items ++ key ∷ []) (moved : new.moved.items ≡ old.moved.items) where
  there_before : (q : DueKey) → contains due_cmp before.moments q ≡ contains due_cmp old.moments q
  there_before q = ap (λ (m : sorted.BTreeSet DueKey). contains due_cmp m q) same

  left_or_it : (q : DueKey) → (is_due_as plan q (slice_get cells q.place) ≡ true) ⊎ Contains before.moved.items q
      → (is_due_as plan q (slice_get cells q.place) ≡ true) ⊎ (Contains new.moved.items q ⊎ (key ≡ q))
  left_or_it q (inl due) = inl due
  left_or_it q (inr there) = by (Contains-push_cases old.moved.items key q (subst (λ (l : List DueKey). Contains l q) noted there))
    where
      by : Contains old.moved.items q ⊎ (key ≡ q) → (is_due_as plan q (slice_get cells q.place) ≡ true) ⊎ (Contains new.moved.items q ⊎ (key ≡ q))
      by (inl other) = inr (inl (subst (λ (l : List DueKey). Contains l q) (sym moved) other))
      by (inr it) = inr (inr it)

  -- a cell is due at it
  pub stays_in : is_due_as plan key (slice_get cells key.place) ≡ true → new.moments ≡ old.moments → AreMoments plan new cells
  stays_in due kept = record {
    whole = λ q is. ap (λ (m : sorted.BTreeSet DueKey). contains due_cmp m q) kept ∙ sym (there_before q) ∙ h.whole q is;
    only = λ q there. by q (left_or_it q (h.only q (there_before q ∙ sym (ap (λ (m : sorted.BTreeSet DueKey). contains due_cmp m q) kept) ∙ there)));
  }
    where
      by : (q : DueKey) → (is_due_as plan q (slice_get cells q.place) ≡ true) ⊎ (Contains new.moved.items q ⊎ (key ≡ q))
          → (is_due_as plan q (slice_get cells q.place) ≡ true) ⊎ Contains new.moved.items q
      by q (inl is) = inl is
      by q (inr (inl other)) = inr other
      by q (inr (inr it)) = inl (subst (λ (k : DueKey). is_due_as plan k (slice_get cells k.place) ≡ true) it due)

  -- none is
  pub goes_out : is_due_as plan key (slice_get cells key.place) ≡ false → sorted.Updates due_cmp old.moments new.moments key false → AreMoments plan new cells
  goes_out none updates = record {
    whole = λ q is. whole_by q is (is_key_of key.node key.place (Some key.moment) q) refl;
    only = λ q there. only_by q there (is_key_of key.node key.place (Some key.moment) q) refl;
  }
    where
      now : (q : DueKey) → contains due_cmp new.moments q ≡ cond (is_key_of key.node key.place (Some key.moment) q) false (contains due_cmp old.moments q)
      now q = updated old.moments new.moments key.node key.place key.moment false updates q

      whole_by : (q : DueKey) → is_due_as plan q (slice_get cells q.place) ≡ true → (t : Bool) → is_key_of key.node key.place (Some key.moment) q ≡ t → contains due_cmp new.moments q ≡ true
      whole_by q is true e =
          let it : q ≡ key = key_of_moment key.node key.place key.moment q e in
          absurd (false≢true (sym none ∙ subst (λ (k : DueKey). is_due_as plan k (slice_get cells k.place) ≡ true) it is))
      whole_by q is false e = now q ∙ ap (λ t. cond t false (contains due_cmp old.moments q)) e ∙ sym (there_before q) ∙ h.whole q is

      by : (q : DueKey) → is_key_of key.node key.place (Some key.moment) q ≡ false → (is_due_as plan q (slice_get cells q.place) ≡ true) ⊎ (Contains new.moved.items q ⊎ (key ≡ q))
          → (is_due_as plan q (slice_get cells q.place) ≡ true) ⊎ Contains new.moved.items q
      by q e (inl is) = inl is
      by q e (inr (inl other)) = inr other
      by q e (inr (inr it)) = absurd (false≢true (sym e ∙ subst (λ (k : DueKey). is_key_of key.node key.place (Some key.moment) k ≡ true) it (itself key)))

      only_by : (q : DueKey) → contains due_cmp new.moments q ≡ true → (t : Bool) → is_key_of key.node key.place (Some key.moment) q ≡ t
          → (is_due_as plan q (slice_get cells q.place) ≡ true) ⊎ Contains new.moved.items q
      only_by q there true e = absurd (false≢true (sym (ap (λ t. cond t false (contains due_cmp old.moments q)) e) ∙ sym (now q) ∙ there))
      only_by q there false e =
          by q e (left_or_it q (h.only q (there_before q ∙ sym (ap (λ t. cond t false (contains due_cmp old.moments q)) e) ∙ sym (now q) ∙ there)))
