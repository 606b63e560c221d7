-- How the set of the due follows the cells.
use Rattle.std.proofs.Common.{◌≡◌, ◌⊎◌, inl, inr, ℕ, zero, suc, ◌<◌, ◌≤◌, ◌==◌, ◌&&◌, ℤ, Bool, true, false, cond, List, [], ◌∷◌, ◌++◌, ◌+◌, length, map, take, get_or, Option, Some, None, refl, sym, ap, subst, ◌∙◌, arith, length-append}
use Rattle.std.proofs.Math.ListN.{set, length-set}
use Rattle.std.specs.Prelude.{slice_get, slice_set}
use Rattle.std.specs.BTreeSet as sorted
use Rattle.std.specs.BTreeSet.{contains}
use Rattle.std.specs.Cmp.{tied_then}
use Rattle.std.specs.List.{list_any, Contains}
use Rattle.std.specs.Ordering.{int_cmp, int_eq, is_eq, nat_cmp, ordering_then}
use Rattle.std.proofs.lemmas.Bool.{cases_lt, eqb-true, false≢true}
use Rattle.std.proofs.lemmas.Bool.Decides.{Decides-eqb, Decides-int_eq}
use Rattle.std.proofs.lemmas.List.{map-append, take_more, take_more_set, get_or-map, get_or-set_other, get_or_append_left, get_or_at}
use Rattle.std.proofs.lemmas.Option.{slice_get_past, slice_get_within, slice_get-get_or, get_or_from_slice_get}
use Rattle.beam_values.specs.declared.cell.Cell.{Cell}
use Rattle.beam_values.specs.declared.plan.Plan.{Plan}
use Rattle.cell_index.proofs.Indexing.{int_tied, nat_tied}
use Rattle.group_cells.specs.Cells.{unseen_in}
use Rattle.group_cells.specs.Due.{AreMoments, IsCountOf, IsDueOf, KeepsMoments, due_cmp, has_moment, is_due_as, is_key_of, own_moment}
use Rattle.group_cells.specs.declared.groups.due.DueCells.{DueCells}
use Rattle.group_cells.specs.declared.groups.due.DueKey.{DueKey}
use Rattle.group_cells.proofs.Alike.{and_parts, both_true}
use Rattle.group_cells.proofs.Undoing.{read_written}

and_turned : (n m p : Bool) → (n && (m && p)) ≡ ((n && p) && m)
and_turned true true true = refl
and_turned true true false = refl
and_turned true false true = refl
and_turned true false false = refl
and_turned false m p = refl

-- keys of the set compare as equal exactly where they are one
pub same_due : (a q : DueKey) → is_eq (due_cmp a q) ≡ ((a.node == q.node && a.place == q.place) && int_eq a.moment q.moment)
same_due a q =
    sym (tied_then (nat_cmp a.node q.node) (ordering_then (int_cmp a.moment q.moment) (nat_cmp a.place q.place)))
    ∙ ap (λ b. is_eq (nat_cmp a.node q.node) && b) (sym (tied_then (int_cmp a.moment q.moment) (nat_cmp a.place q.place)))
    ∙ and_turned (is_eq (nat_cmp a.node q.node)) (is_eq (int_cmp a.moment q.moment)) (is_eq (nat_cmp a.place q.place))
    ∙ ap (λ b. (b && is_eq (nat_cmp a.place q.place)) && is_eq (int_cmp a.moment q.moment)) (nat_tied a.node q.node)
    ∙ ap (λ b. (a.node == q.node && b) && is_eq (int_cmp a.moment q.moment)) (nat_tied a.place q.place)
    ∙ ap (λ b. (a.node == q.node && a.place == q.place) && b) (int_tied a.moment q.moment)

pub updated : (old new : sorted.BTreeSet DueKey) (node place : ℕ) (moment : ℤ) (b : Bool)
    → sorted.Updates due_cmp old new (record { node = node; moment = moment; place = place }) b
    → (q : DueKey) → contains due_cmp new q ≡ cond (is_key_of node place (Some moment) q) b (contains due_cmp old q)
updated old new node place moment b updates q =
    let key : DueKey = record { node = node; moment = moment; place = place } in
    updates.0 q ∙ ap (λ t. cond t b (contains due_cmp old q)) (same_due key q)

-- the key of a cell at a place, where it has this moment
pub key_of_moment : (node place : ℕ) (moment : ℤ) (q : DueKey) → is_key_of node place (Some moment) q ≡ true → q ≡ record { node = node; moment = moment; place = place }
key_of_moment node place moment q e =
    let outer = and_parts (node == q.node && place == q.place) (int_eq moment q.moment) e in
    let inner = and_parts (node == q.node) (place == q.place) outer.0 in
    let nodes : node ≡ q.node = eqb-true node q.node inner.0 in
    let places : place ≡ q.place = eqb-true place q.place inner.1 in
    let moments : moment ≡ q.moment = (Decides-int_eq moment q.moment).0 outer.1 in
    λ i. let k : DueKey = record { node = sym nodes i; moment = sym moments i; place = sym places i } in k

-- a cell that has no moment has no key
pub no_key : (node place : ℕ) (moment : Option ℤ) (q : DueKey) → moment ≡ None → is_key_of node place moment q ≡ true → ⊥
no_key node place moment q none is = false≢true (and_parts (node == q.node && place == q.place) false (sym (ap (λ m. is_key_of node place m q) none) ∙ is)).1

-- what is read at a place
reads : (f : Cell → ℕ) (cells : List Cell) (place : ℕ) (cell : Cell) (d : ℕ) → slice_get cells place ≡ Some cell → get_or (map f cells) place d ≡ f cell
reads f cells place cell d found = get_or-map f cells place cell d (slice_get_within cells place cell found) ∙ ap f (get_or_from_slice_get cells place cell cell found)

pub counted_as : (due : DueCells) (cells : List Cell) (place : ℕ) (cell : Cell) (count : ℕ) → IsCountOf due cells → slice_get cells place ≡ Some cell
    → count ≡ get_or due.unseen.items place count → count ≡ unseen_in cell.entries
counted_as due cells place cell count counts found is =
    is ∙ ap (λ l. get_or l place count) counts ∙ reads (λ c. unseen_in c.entries) cells place cell count found

pub count_read : (plan : Plan) (due : DueCells) (cells : List Cell) (place : ℕ) (cell : Cell) (count : ℕ) → IsDueOf plan due cells → slice_get cells place ≡ Some cell
    → count ≡ get_or due.unseen.items place count → count ≡ unseen_in cell.entries
count_read plan due cells place cell count h found is = counted_as due cells place cell count h.counts found is

read_other : (cells : List Cell) (place other : ℕ) (cell : Cell) → (place == other) ≡ false → slice_get (set cells place cell) other ≡ slice_get cells other
read_other cells place other cell off = by (cases_lt other (length cells))
  where
    apart : place ≡ other → ⊥
    apart e = false≢true (sym off ∙ (Decides-eqb place other).1 e)

    by : (other < length cells) ⊎ (length cells ≤ other) → slice_get (set cells place cell) other ≡ slice_get cells other
    by (inl within) =
        slice_get-get_or (set cells place cell) other cell (omega (arith, within, length-set cells place cell))
        ∙ ap (λ c. Some c) (get_or-set_other cells place other cell cell (λ e. apart (sym e)))
        ∙ sym (slice_get-get_or cells other cell within)
    by (inr more) = slice_get_past (set cells place cell) other (omega (arith, more, length-set cells place cell)) ∙ sym (slice_get_past cells other more)

pub set_mapped : (f : Cell → ℕ) (cells : List Cell) (place : ℕ) (cell : Cell) → set (map f cells) place (f cell) ≡ map f (set cells place cell)
set_mapped f [] place cell = refl
set_mapped f (x ∷ xs) zero cell = refl
set_mapped f (x ∷ xs) (suc place) cell = ap (λ l. f x ∷ l) (set_mapped f xs place cell)

-- ---- moments that move

-- what is in a set stays, and what comes has moved
pub moments_kept : (old new : DueCells) → ((q : DueKey) → contains due_cmp old.moments q ≡ true → contains due_cmp new.moments q ≡ true)
    → ((q : DueKey) → contains due_cmp new.moments q ≡ true → (contains due_cmp old.moments q ≡ true) ⊎ Contains new.moved.items q)
    → ((q : DueKey) → Contains old.moved.items q → Contains new.moved.items q) → KeepsMoments old new
moments_kept old new kept more noted = λ plan cells h. record {
  whole = λ q due. kept q (h.whole q due);
  only = λ q there. by plan cells h q (more q there);
}
  where
    still : (plan : Plan) (cells : List Cell) (q : DueKey) → (is_due_as plan q (slice_get cells q.place) ≡ true) ⊎ Contains old.moved.items q
        → (is_due_as plan q (slice_get cells q.place) ≡ true) ⊎ Contains new.moved.items q
    still plan cells q (inl due) = inl due
    still plan cells q (inr moved) = inr (noted q moved)

    by : (plan : Plan) (cells : List Cell) → AreMoments plan old cells → (q : DueKey) → (contains due_cmp old.moments q ≡ true) ⊎ Contains new.moved.items q
        → (is_due_as plan q (slice_get cells q.place) ≡ true) ⊎ Contains new.moved.items q
    by plan cells h q (inl there) = still plan cells q (h.only q there)
    by plan cells h q (inr moved) = inr moved

-- the same where the set has one key more, which is noted
pub moments_more : (old new : DueCells) (key : DueKey) → sorted.Updates due_cmp old.moments new.moments key true → Contains new.moved.items key
    → ((q : DueKey) → Contains old.moved.items q → Contains new.moved.items q) → KeepsMoments old new
moments_more old new key updates noted before = moments_kept old new (λ q e. stays q e (is_key_of key.node key.place (Some key.moment) q) refl) (λ q e. comes q e (is_key_of key.node key.place (Some key.moment) q) refl) before
  where
    now : (q : DueKey) → contains due_cmp new.moments q ≡ cond (is_key_of key.node key.place (Some key.moment) q) true (contains due_cmp old.moments q)
    now q = updated old.moments new.moments key.node key.place key.moment true updates q

    stays : (q : DueKey) → contains due_cmp old.moments q ≡ true → (t : Bool) → is_key_of key.node key.place (Some key.moment) q ≡ t → contains due_cmp new.moments q ≡ true
    stays q e true is = now q ∙ ap (λ t. cond t true (contains due_cmp old.moments q)) is
    stays q e false is = now q ∙ ap (λ t. cond t true (contains due_cmp old.moments q)) is ∙ e

    comes : (q : DueKey) → contains due_cmp new.moments q ≡ true → (t : Bool) → is_key_of key.node key.place (Some key.moment) q ≡ t
        → (contains due_cmp old.moments q ≡ true) ⊎ Contains new.moved.items q
    comes q e true is = inr (subst (Contains new.moved.items) (sym (key_of_moment key.node key.place key.moment q is)) noted)
    comes q e false is = inl (sym (ap (λ t. cond t true (contains due_cmp old.moments q)) is) ∙ sym (now q) ∙ e)

-- one key more that is noted, in a set that stays
pub moments_noted : (old new : DueCells) → sorted.IsUnchanged old.moments new.moments → ((q : DueKey) → Contains old.moved.items q → Contains new.moved.items q) → KeepsMoments old new
moments_noted old new same before = moments_kept old new (λ q e. ap (λ (ks : List DueKey). list_any (λ k. is_eq (due_cmp q k)) ks) same ∙ e)
    (λ q e. inl (sym (ap (λ (ks : List DueKey). list_any (λ k. is_eq (due_cmp q k)) ks) same) ∙ e)) before

-- the key of a cell, where it is due as this
due_key : (plan : Plan) (cell : Cell) (node place : ℕ) (moment : Option ℤ) (q : DueKey) → moment ≡ own_moment plan cell → cell.node ≡ node → place ≡ q.place
    → is_due_as plan q (Some cell) ≡ true → is_key_of node place moment q ≡ true
due_key plan cell node place moment q is at here due =
    (λ i. (sym at i == q.node && (Decides-eqb place q.place).1 here i) && has_moment (is i) q.moment)
    ∙ turned (cell.node == q.node) (has_moment (own_moment plan cell) q.moment) due
  where
    turned : (n m : Bool) → (n && m) ≡ true → ((n && true) && m) ≡ true
    turned true m e = e
    turned false m e = e

read_at : (cells : List Cell) (place : ℕ) (cell : Cell) (q : DueKey) → place < length cells → place ≡ q.place → slice_get (set cells place cell) q.place ≡ Some cell
read_at cells place cell q within here = ap (slice_get (set cells place cell)) (sym here) ∙ read_written cells place cell within

-- a cell becomes another, where the moment that it had is noted, and the one that it has is there
pub moments_changed : (plan : Plan) (old new : DueCells) (cells : List Cell) (node place : ℕ) (before cell : Cell) (was now : Option ℤ)
    → KeepsMoments old new → AreMoments plan old cells → slice_get cells place ≡ Some before → was ≡ own_moment plan before → now ≡ own_moment plan cell
    → before.node ≡ node → cell.node ≡ node
    → ((q : DueKey) → is_key_of node place was q ≡ true → Contains new.moved.items q)
    → ((q : DueKey) → is_key_of node place now q ≡ true → contains due_cmp new.moments q ≡ true)
    → AreMoments plan new (slice_set cells place cell)
moments_changed plan old new cells node place before cell was now keeps h found were are at stays_at left entered = record {
  whole = λ q due. whole_by q due (place == q.place) refl;
  only = λ q there. only_by q (kept.only q there) (place == q.place) refl;
}
  where
    kept : AreMoments plan new cells
    kept = keeps plan cells h

    within : place < length cells
    within = slice_get_within cells place before found

    whole_by : (q : DueKey) → is_due_as plan q (slice_get (set cells place cell) q.place) ≡ true → (t : Bool) → (place == q.place) ≡ t → contains due_cmp new.moments q ≡ true
    whole_by q due true e =
        let here : place ≡ q.place = eqb-true place q.place e in
        entered q (due_key plan cell node place now q are stays_at here (sym (ap (is_due_as plan q) (read_at cells place cell q within here)) ∙ due))
    whole_by q due false e = kept.whole q (sym (ap (is_due_as plan q) (read_other cells place q.place cell e)) ∙ due)

    only_by : (q : DueKey) → (is_due_as plan q (slice_get cells q.place) ≡ true) ⊎ Contains new.moved.items q → (t : Bool) → (place == q.place) ≡ t
        → (is_due_as plan q (slice_get (set cells place cell) q.place) ≡ true) ⊎ Contains new.moved.items q
    only_by q (inr moved) t e = inr moved
    only_by q (inl due) true e =
        let here : place ≡ q.place = eqb-true place q.place e in
        inr (left q (due_key plan before node place was q were at here (sym (ap (is_due_as plan q) (ap (slice_get cells) (sym here) ∙ found)) ∙ due)))
    only_by q (inl due) false e = inl (ap (is_due_as plan q) (read_other cells place q.place cell e) ∙ due)

-- a cell becomes another that is due at the same moment
pub moments_stay : (plan : Plan) (due : DueCells) (cells : List Cell) (place : ℕ) (before cell : Cell) → AreMoments plan due cells → slice_get cells place ≡ Some before
    → own_moment plan before ≡ own_moment plan cell → before.node ≡ cell.node → AreMoments plan due (slice_set cells place cell)
moments_stay plan due cells place before cell h found same nodes = record {
  whole = λ q is. h.whole q (sym (alike q (place == q.place) refl) ∙ is);
  only = λ q there. by q (h.only q there);
}
  where
    within : place < length cells
    within = slice_get_within cells place before found

    alike : (q : DueKey) (t : Bool) → (place == q.place) ≡ t → is_due_as plan q (slice_get (set cells place cell) q.place) ≡ is_due_as plan q (slice_get cells q.place)
    alike q true e =
        let here : place ≡ q.place = eqb-true place q.place e in
        ap (is_due_as plan q) (read_at cells place cell q within here)
        ∙ (λ i. (sym nodes i == q.node) && has_moment (sym same i) q.moment)
        ∙ sym (ap (is_due_as plan q) (ap (slice_get cells) (sym here) ∙ found))
    alike q false e = ap (is_due_as plan q) (read_other cells place q.place cell e)

    by : (q : DueKey) → (is_due_as plan q (slice_get cells q.place) ≡ true) ⊎ Contains due.moved.items q
        → (is_due_as plan q (slice_get (set cells place cell) q.place) ≡ true) ⊎ Contains due.moved.items q
    by q (inl is) = inl (alike q (place == q.place) refl ∙ is)
    by q (inr moved) = inr moved

-- one more cell
read_before : (cells : List Cell) (cell : Cell) (i : ℕ) → i < length cells → slice_get (cells ++ cell ∷ []) i ≡ slice_get cells i
read_before cells cell i within =
    slice_get-get_or (cells ++ cell ∷ []) i cell (omega (arith, within, length-append cells (cell ∷ [])))
    ∙ ap (λ c. Some c) (get_or_append_left cells (cell ∷ []) cell i within) ∙ sym (slice_get-get_or cells i cell within)

read_last : (cells : List Cell) (cell : Cell) → slice_get (cells ++ cell ∷ []) (length cells) ≡ Some cell
read_last cells cell =
    slice_get-get_or (cells ++ cell ∷ []) (length cells) cell (omega (arith, length-append cells (cell ∷ []))) ∙ ap (λ c. Some c) (get_or_at cells cell [] cell (length cells) refl)

beyond : (p n k : ℕ) → (p == k) ≡ false → p ≡ n → n ≤ k → n < k
beyond p n k off same more = by (cases_lt n k)
  where
    by : (n < k) ⊎ (k ≤ n) → n < k
    by (inl less) = less
    by (inr le) = let here : p ≡ k = omega arith in absurd (false≢true (sym off ∙ (Decides-eqb p k).1 here))

module _ (plan : Plan) (cells : List Cell) (cell : Cell) (q : DueKey) where
  none_past : length cells ≤ q.place → is_due_as plan q (slice_get cells q.place) ≡ false
  none_past more = ap (is_due_as plan q) (slice_get_past cells q.place more)

  due_still : is_due_as plan q (slice_get cells q.place) ≡ true → is_due_as plan q (slice_get (cells ++ cell ∷ []) q.place) ≡ true
  due_still due = by (cases_lt q.place (length cells))
    where
      by : (q.place < length cells) ⊎ (length cells ≤ q.place) → is_due_as plan q (slice_get (cells ++ cell ∷ []) q.place) ≡ true
      by (inl less) = ap (is_due_as plan q) (read_before cells cell q.place less) ∙ due
      by (inr more) = absurd (false≢true (sym (none_past more) ∙ due))

  due_before : is_due_as plan q (slice_get (cells ++ cell ∷ []) q.place) ≡ true → q.place < length cells → is_due_as plan q (slice_get cells q.place) ≡ true
  due_before due less = sym (ap (is_due_as plan q) (read_before cells cell q.place less)) ∙ due

  -- behind the others only the last cell is due
  due_last : (node place : ℕ) (now : Option ℤ) → place ≡ length cells → now ≡ own_moment plan cell → cell.node ≡ node
      → is_due_as plan q (slice_get (cells ++ cell ∷ []) q.place) ≡ true → length cells ≤ q.place → is_key_of node place now q ≡ true
  due_last node place now end are at due more = by (place == q.place) refl
    where
      by : (t : Bool) → (place == q.place) ≡ t → is_key_of node place now q ≡ true
      by true e =
          let here : place ≡ q.place = eqb-true place q.place e in
          due_key plan cell node place now q are at here (sym (ap (is_due_as plan q) (ap (slice_get (cells ++ cell ∷ [])) (sym here ∙ end) ∙ read_last cells cell)) ∙ due)
      by false e =
          let past : length (cells ++ cell ∷ []) ≤ q.place = omega (arith, length-append cells (cell ∷ []), beyond place (length cells) q.place e end more) in
          absurd (false≢true (sym (ap (is_due_as plan q) (slice_get_past (cells ++ cell ∷ []) q.place past)) ∙ due))

  -- and it is, at its own moment
  last_due : (place : ℕ) (now : Option ℤ) → place ≡ length cells → now ≡ own_moment plan cell → is_key_of cell.node place now q ≡ true
      → is_due_as plan q (slice_get (cells ++ cell ∷ []) q.place) ≡ true
  last_due place now end are is =
      let outer = and_parts (cell.node == q.node && place == q.place) (has_moment now q.moment) is in
      let inner = and_parts (cell.node == q.node) (place == q.place) outer.0 in
      let here : place ≡ q.place = eqb-true place q.place inner.1 in
      ap (is_due_as plan q) (ap (slice_get (cells ++ cell ∷ [])) (sym here ∙ end) ∙ read_last cells cell)
      ∙ both_true (cell.node == q.node) (has_moment (own_moment plan cell) q.moment) inner.0 (ap (λ m. has_moment m q.moment) (sym are) ∙ outer.1)

pub moments_added : (plan : Plan) (old new : DueCells) (cells : List Cell) (node place : ℕ) (cell : Cell) (now : Option ℤ) → KeepsMoments old new → AreMoments plan old cells
    → place ≡ length cells → now ≡ own_moment plan cell → cell.node ≡ node
    → ((q : DueKey) → is_key_of node place now q ≡ true → contains due_cmp new.moments q ≡ true)
    → AreMoments plan new (cells ++ cell ∷ [])
moments_added plan old new cells node place cell now keeps h end are at entered = record {
  whole = λ q due. whole_by q due (cases_lt q.place (length cells));
  only = λ q there. only_by q (kept.only q there);
}
  where
    kept : AreMoments plan new cells
    kept = keeps plan cells h

    whole_by : (q : DueKey) → is_due_as plan q (slice_get (cells ++ cell ∷ []) q.place) ≡ true → (q.place < length cells) ⊎ (length cells ≤ q.place) → contains due_cmp new.moments q ≡ true
    whole_by q due (inl less) = kept.whole q (due_before plan cells cell q due less)
    whole_by q due (inr more) = entered q (due_last plan cells cell q node place now end are at due more)

    only_by : (q : DueKey) → (is_due_as plan q (slice_get cells q.place) ≡ true) ⊎ Contains new.moved.items q
        → (is_due_as plan q (slice_get (cells ++ cell ∷ []) q.place) ≡ true) ⊎ Contains new.moved.items q
    only_by q (inr moved) = inr moved
    only_by q (inl due) = inl (due_still plan cells cell q due)

-- the same where no key is noted, and the set has just the key of the new cell more
pub moments_put : (plan : Plan) (old new : DueCells) (cells : List Cell) (place : ℕ) (cell : Cell) (now : Option ℤ) → AreMoments plan old cells
    → place ≡ length cells → now ≡ own_moment plan cell → new.moved.items ≡ old.moved.items
    → ((q : DueKey) → contains due_cmp new.moments q ≡ cond (is_key_of cell.node place now q) true (contains due_cmp old.moments q))
    → AreMoments plan new (cells ++ cell ∷ [])
moments_put plan old new cells place cell now h end are moved put = record {
  whole = λ q due. whole_by q due (cases_lt q.place (length cells));
  only = λ q there. only_by q there (is_key_of cell.node place now q) refl;
}
  where
    puts : (q : DueKey) (t : Bool) → is_key_of cell.node place now q ≡ t → contains due_cmp new.moments q ≡ cond t true (contains due_cmp old.moments q)
    puts q t is = put q ∙ ap (λ b. cond b true (contains due_cmp old.moments q)) is

    stays : (q : DueKey) → contains due_cmp old.moments q ≡ true → (t : Bool) → is_key_of cell.node place now q ≡ t → contains due_cmp new.moments q ≡ true
    stays q there true is = puts q true is
    stays q there false is = puts q false is ∙ there

    whole_by : (q : DueKey) → is_due_as plan q (slice_get (cells ++ cell ∷ []) q.place) ≡ true → (q.place < length cells) ⊎ (length cells ≤ q.place) → contains due_cmp new.moments q ≡ true
    whole_by q due (inl less) = stays q (h.whole q (due_before plan cells cell q due less)) (is_key_of cell.node place now q) refl
    whole_by q due (inr more) = puts q true (due_last plan cells cell q cell.node place now end are refl due more)

    before : (q : DueKey) → (is_due_as plan q (slice_get cells q.place) ≡ true) ⊎ Contains old.moved.items q
        → (is_due_as plan q (slice_get (cells ++ cell ∷ []) q.place) ≡ true) ⊎ Contains new.moved.items q
    before q (inl due) = inl (due_still plan cells cell q due)
    before q (inr noted) = inr (subst (λ (l : List DueKey). Contains l q) (sym moved) noted)

    only_by : (q : DueKey) → contains due_cmp new.moments q ≡ true → (t : Bool) → is_key_of cell.node place now q ≡ t
        → (is_due_as plan q (slice_get (cells ++ cell ∷ []) q.place) ≡ true) ⊎ Contains new.moved.items q
    only_by q there true is = inl (last_due plan cells cell q place now end are is)
    only_by q there false is = before q (h.only q (sym (puts q false is) ∙ there))

-- a cell that has no moment brings no key
pub none_put : (node place : ℕ) (moment : Option ℤ) (q : DueKey) (there : Bool) → moment ≡ None → there ≡ cond (is_key_of node place moment q) true there
none_put node place moment q there none = by (is_key_of node place moment q) refl
  where
    by : (t : Bool) → is_key_of node place moment q ≡ t → there ≡ cond t true there
    by true e = absurd (no_key node place moment q none e)
    by false e = refl

-- ---- the counts

pub counts_set : (due : DueCells) (cells : List Cell) (place : ℕ) (cell : Cell) (count : ℕ) (counts : List ℕ) → IsCountOf due cells → count ≡ unseen_in cell.entries
    → counts ≡ slice_set due.unseen.items place count → counts ≡ map (λ c. unseen_in c.entries) (slice_set cells place cell)
counts_set due cells place cell count counts h is set_ = set_ ∙ (λ i. set (h i) place (is i)) ∙ set_mapped (λ c. unseen_in c.entries) cells place cell

pub counts_pushed : (due : DueCells) (cells : List Cell) (cell : Cell) (count : ℕ) (counts : List ℕ) → IsCountOf due cells → count ≡ unseen_in cell.entries
    → counts ≡ due.unseen.items ++ count ∷ [] → counts ≡ map (λ c. unseen_in c.entries) (cells ++ cell ∷ [])
counts_pushed due cells cell count counts h is pushed = pushed ∙ (λ i. h i ++ is i ∷ []) ∙ sym (map-append (λ c. unseen_in c.entries) cells (cell ∷ []))

pub counts_recounted : (f : Cell → ℕ) (counts : List ℕ) (cells : List Cell) (i : ℕ) (cell : Cell) (count : ℕ) → i < length counts → i < length cells → cell ≡ get_or cells i cell → count ≡ f cell
    → take i counts ≡ map f (take i cells) → take (i + 1) (set counts i count) ≡ map f (take (i + 1) cells)
counts_recounted f counts cells i cell count within inside is counted before =
    take_more_set counts i count within ∙ (λ j. before j ++ counted j ∷ []) ∙ sym (map-append f (take i cells) (cell ∷ []))
    ∙ ap (map f) (sym (take_more cells i cell inside ∙ ap (λ c. take i cells ++ c ∷ []) (sym is)))
