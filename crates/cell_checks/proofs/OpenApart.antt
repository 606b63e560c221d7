-- Of the cells of one Group and key by their windows: those that can still merge are apart.
use Rattle.std.proofs.Common.{◌≡◌, ◌⊎◌, inl, inr, ℕ, ◌+◌, ◌<◌, length, get_or, take, drop, ℤ, ◌≤ℤ◌, ◌<ℤ◌, Bool, true, false, cond, List, [], ◌∷◌, ◌++◌, map, Option, Some, None, sym, ap, subst, ◌∙◌, arith, append-nil}
use Rattle.std.specs.Borrow.{Bor}
use Rattle.std.specs.Prelude.{Contains}
use Rattle.std.specs.List.{filter}
use Rattle.std.proofs.lemmas.Bool.{false≢true}
use Rattle.std.proofs.lemmas.Int.{ints}
use Rattle.std.proofs.lemmas.List.{map-append}
use Rattle.std.proofs.lemmas.List.Elements.{All-contains, All-push, Contains-append_left, Contains-append_right, Contains-push_cases, filter-append}
use Rattle.beam_values.specs.Intervals.{Interval}
use Rattle.beam_values.specs.Sessions.{IsApart, IsNonEmpty}
use Rattle.beam_values.specs.declared.cell.Cell.{Cell}
use Rattle.beam_model.specs.Panes.{GroupRules}
use Rattle.session_merge.proofs.Lists.{contains_filter, contains_filtered, contains_first}
use Rattle.group_cells.specs.Rounds.{is_open, open_windows}
use Rattle.group_cells.specs.Sane.{AreAllApart}
use Rattle.group_cells.proofs.MetPlaces.{has_map, map_has}
use Rattle.cell_checks.specs.Listing.{AreInOrder, BeginsWithin, IsBefore, IsLatest, cells_in}
use Rattle.cell_checks.proofs.InOrder.{differs}
use Rattle.cell_checks.proofs.Takers.{at_place, first_before, not_below, one_more}

module _ (rules : GroupRules) (mark : ℤ) where
  abbrev pub can_merge : Cell → Bool
  can_merge cell = is_open rules mark cell

  pub open_more : (done : List Cell) (cell : Cell) → can_merge cell ≡ true → open_windows rules mark (done ++ cell ∷ []) ≡ open_windows rules mark done ++ cell.span ∷ []
  open_more done cell on =
      ap (map (λ (c : Cell). c.span)) (filter-append can_merge done (cell ∷ []) ∙ ap (λ b. filter can_merge done ++ cond b (cell ∷ []) []) on)
      ∙ map-append (λ (c : Cell). c.span) (filter can_merge done) (cell ∷ [])

  pub open_same : (done : List Cell) (cell : Cell) → can_merge cell ≡ false → open_windows rules mark (done ++ cell ∷ []) ≡ open_windows rules mark done
  open_same done cell off =
      ap (map (λ (c : Cell). c.span))
      (filter-append can_merge done (cell ∷ []) ∙ ap (λ b. filter can_merge done ++ cond b (cell ∷ []) []) off ∙ append-nil (filter can_merge done))

  -- the window of a cell that can merge, and the cell of a window
  window_of : (cells : List Cell) (cell : Cell) → Contains cells cell → can_merge cell ≡ true → Contains (open_windows rules mark cells) cell.span
  window_of cells cell at on = map_has (λ (c : Cell). c.span) (filter can_merge cells) cell (contains_filter can_merge cells cell at on)

  cell_of : (cells : List Cell) (w : Interval) → Contains (open_windows rules mark cells) w → (cell : Cell) × Contains cells cell × (can_merge cell ≡ true) × (cell.span ≡ w)
  cell_of cells w at =
      let found = has_map (λ (c : Cell). c.span) (filter can_merge cells) w at in
      let parts = contains_filtered can_merge cells found.0 found.1 in
      (found.0, parts.0, parts.1, found.2)

  module _ (done : List Cell) (cell : Cell) (left : List Cell) (latest : Option (Bor Cell))
      (order : AreInOrder (done ++ cell ∷ left)) (ends_last : IsLatest can_merge done latest) (on : can_merge cell ≡ true) where
    -- each window before it ends before it begins
    ended : (BeginsWithin cell latest → ⊥) → (w : Interval) → Contains (open_windows rules mark done) w → w.end ≤ℤ cell.span.start
    ended off w at = let found = cell_of done w at in subst (λ (v : Interval). v.end ≤ℤ cell.span.start) found.3 (by latest ends_last off found.0 found.1 found.2)
      where
        by : (latest : Option (Bor Cell)) → IsLatest can_merge done latest → (BeginsWithin cell latest → ⊥) → (other : Cell) → Contains done other → can_merge other ≡ true
            → other.span.end ≤ℤ cell.span.start
        by None h off other among merges = absurd (false≢true (sym (All-contains (λ (c : Cell). can_merge c ≡ false) done other h among) ∙ merges))
        by (Some last) h off other among merges =
            ends other.span.end last.now.span.end cell.span.start (All-contains (λ (c : Cell). can_merge c ≡ true → c.span.end ≤ℤ last.now.span.end) done other h.2 among merges) off
          where
            ends : (a b c : ℤ) → a ≤ℤ b → (c <ℤ b → ⊥) → a ≤ℤ c
            ends a b c less more = let above = not_below c b more in omega (arith, ints)

    pub still_apart : IsNonEmpty cell.span → (BeginsWithin cell latest → ⊥) → AreAllApart (open_windows rules mark done) → AreAllApart (open_windows rules mark (done ++ cell ∷ []))
    still_apart some off windows = subst AreAllApart (sym (open_more done cell on)) (record {
      some = All-push IsNonEmpty (open_windows rules mark done) cell.span windows.some some;
      each = λ a b first second. by a b (Contains-push_cases (open_windows rules mark done) cell.span a first) (Contains-push_cases (open_windows rules mark done) cell.span b second);
    })
      where
        by : (a b : Interval) → Contains (open_windows rules mark done) a ⊎ (cell.span ≡ a) → Contains (open_windows rules mark done) b ⊎ (cell.span ≡ b) → (a ≡ b) ⊎ IsApart a b
        by a b (inl p) (inl q) = windows.each a b p q
        by a b (inl p) (inr same) = inr (inl (subst (λ (w : Interval). a.end ≤ℤ w.start) same (ended off a p)))
        by a b (inr same) (inl q) = inr (inr (subst (λ (w : Interval). b.end ≤ℤ w.start) same (ended off b q)))
        by a b (inr p) (inr q) = inl (sym p ∙ q)

    pub were_apart : AreAllApart (open_windows rules mark (done ++ cell ∷ left)) → BeginsWithin cell latest → ⊥
    were_apart windows = by latest ends_last
      where
        here : Contains (open_windows rules mark (done ++ cell ∷ left)) cell.span
        here = window_of (done ++ cell ∷ left) cell (Contains-append_right done (cell ∷ left) cell (contains_first cell left)) on

        filled : IsNonEmpty cell.span
        filled = All-contains IsNonEmpty (open_windows rules mark (done ++ cell ∷ left)) cell.span windows.some here

        no_way : (last : Cell) → IsBefore last cell → (last.span ≡ cell.span) ⊎ IsApart last.span cell.span → cell.span.start <ℤ last.span.end → ⊥
        no_way last before (inl same) within = differs last cell before same
        no_way last before (inr (inl first)) within = omega (arith, ints)
        no_way last (inl earlier) (inr (inr second)) within = let some = filled in omega (arith, ints)
        no_way last (inr longer) (inr (inr second)) within = let some = filled in let same = longer.0 in omega (arith, ints)

        by : (latest : Option (Bor Cell)) → IsLatest can_merge done latest → BeginsWithin cell latest → ⊥
        by None h within = within
        by (Some last) h within =
            no_way last.now (first_before done cell left order last.now h.0)
            (windows.each last.now.span cell.span (window_of (done ++ cell ∷ left) last.now (Contains-append_left done (cell ∷ left) last.now h.0) h.1) here) within

  -- the same at a place
  module _ (listed : List (Bor Cell)) (i : ℕ) (cell : Bor Cell) (latest : Option (Bor Cell)) (within : i < length listed) (is : cell ≡ get_or listed i cell)
      (order : AreInOrder (cells_in listed)) (ends_last : IsLatest can_merge (take i (cells_in listed)) latest) (on : can_merge cell.now ≡ true) where
    ordered : AreInOrder (take i (cells_in listed) ++ cell.now ∷ drop (i + 1) (cells_in listed))
    ordered = subst AreInOrder (at_place listed i cell within is) order

    pub apart_at : IsNonEmpty cell.now.span → (BeginsWithin cell.now latest → ⊥) → AreAllApart (open_windows rules mark (take i (cells_in listed)))
        → AreAllApart (open_windows rules mark (take (i + 1) (cells_in listed)))
    apart_at some off windows =
        subst (λ (l : List Cell). AreAllApart (open_windows rules mark l)) (sym (one_more listed i cell within is))
        (still_apart (take i (cells_in listed)) cell.now (drop (i + 1) (cells_in listed)) latest ordered ends_last on some off windows)

    pub were_apart_at : AreAllApart (open_windows rules mark (cells_in listed)) → BeginsWithin cell.now latest → ⊥
    were_apart_at windows =
        were_apart (take i (cells_in listed)) cell.now (drop (i + 1) (cells_in listed)) latest ordered ends_last on
        (subst (λ (l : List Cell). AreAllApart (open_windows rules mark l)) (at_place listed i cell within is) windows)
