-- Of the cells of one Group and key by their windows: which of them ends last, and in which one that was merged lies.
use Rattle.std.proofs.Common.{◌≡◌, ◌⊎◌, inl, inr, ℕ, ◌+◌, ◌<◌, ℤ, ◌≤ℤ◌, ◌<ℤ◌, Bool, true, false, List, [], ◌∷◌, ◌++◌, length, get_or, take, drop, Option, Some, None, refl, sym, ap, subst, ◌∙◌, arith}
use Rattle.std.specs.Borrow.{Bor}
use Rattle.std.specs.Prelude.{Contains, int_lt, is_none}
use Rattle.std.specs.List.{All, list_any}
use Rattle.std.proofs.lemmas.Bool.{and_from, and_parts, false≢true}
use Rattle.std.proofs.lemmas.Int.{ints}
use Rattle.std.proofs.lemmas.List.{drop_more, get_or-map, length-map, take_more, take-append-drop}
use Rattle.std.proofs.lemmas.List.Elements.{All-contains, All-push, All-weaker, Contains-append_cases, Contains-append_left, Contains-push}
use Rattle.std.proofs.lemmas.List.Folds.{Any-from_list_any, list_any-from_Any}
use Rattle.beam_values.specs.Intervals.{Interval}
use Rattle.beam_values.specs.Spans.{lies_in}
use Rattle.beam_values.specs.declared.cell.Cell.{Cell}
use Rattle.beam_model.specs.Panes.{GroupRules}
use Rattle.session_merge.proofs.Lists.{contains_cases, contains_first, pairs_across, pairs_second}
use Rattle.group_cells.specs.Placing.{is_standing}
use Rattle.group_cells.specs.Sane.{HasTaker, IsMerged, stands_round}
use Rattle.group_cells.proofs.WindowTests.{le_from, lies_from, lies_test, lt_from}
use Rattle.cell_checks.specs.Listing.{AreInOrder, EndsWithin, IsBefore, IsLatest, cells_in}

-- ---- one more cell

-- at a place, with the cells before it and behind it
pub at_place : (listed : List (Bor Cell)) (i : ℕ) (cell : Bor Cell) → i < length listed → cell ≡ get_or listed i cell
    → cells_in listed ≡ take i (cells_in listed) ++ cell.now ∷ drop (i + 1) (cells_in listed)
at_place listed i cell within is =
    let inside : i < length (cells_in listed) = omega (arith, length-map listed (λ (c : Bor Cell). c.now)) in
    let here : get_or (cells_in listed) i cell.now ≡ cell.now = get_or-map (λ (c : Bor Cell). c.now) listed i cell cell.now within ∙ ap (λ (c : Bor Cell). c.now) (sym is) in
    sym (take-append-drop i (cells_in listed))
    ∙ ap (λ l. take i (cells_in listed) ++ l) (drop_more (cells_in listed) i cell.now inside ∙ ap (λ c. c ∷ drop (i + 1) (cells_in listed)) here)

pub one_more : (listed : List (Bor Cell)) (i : ℕ) (cell : Bor Cell) → i < length listed → cell ≡ get_or listed i cell
    → take (i + 1) (cells_in listed) ≡ take i (cells_in listed) ++ cell.now ∷ []
one_more listed i cell within is =
    let inside : i < length (cells_in listed) = omega (arith, length-map listed (λ (c : Bor Cell). c.now)) in
    let here : get_or (cells_in listed) i cell.now ≡ cell.now = get_or-map (λ (c : Bor Cell). c.now) listed i cell cell.now within ∙ ap (λ (c : Bor Cell). c.now) (sym is) in
    take_more (cells_in listed) i cell.now inside ∙ ap (λ c. take i (cells_in listed) ++ c ∷ []) here

-- ---- the one that ends last

pub not_within : (a b : ℤ) → (a ≤ℤ b → ⊥) → b <ℤ a
not_within a b more = by (int_lt b a) refl
  where
    by : (t : Bool) → int_lt b a ≡ t → b <ℤ a
    by true e = lt_from b a e
    by false e = absurd (more (le_from b a e))

pub not_below : (a b : ℤ) → (a <ℤ b → ⊥) → b ≤ℤ a
not_below a b more = by (int_lt a b) refl
  where
    by : (t : Bool) → int_lt a b ≡ t → b ≤ℤ a
    by true e = absurd (more (lt_from a b e))
    by false e = le_from a b e

module _ (test : Cell → Bool) (cells : List Cell) where
  pub latest_stays : (latest : Bor Cell) (cell : Cell) → IsLatest test cells (Some latest) → cell.span.end ≤ℤ latest.now.span.end → IsLatest test (cells ++ cell ∷ []) (Some latest)
  latest_stays latest cell h within = (
    Contains-append_left cells (cell ∷ []) latest.now h.0,
    h.1,
    All-push (λ (c : Cell). test c ≡ true → c.span.end ≤ℤ latest.now.span.end) cells cell h.2 (λ passes. within),
  )

  pub latest_new : (latest : Option (Bor Cell)) (cell : Bor Cell) → IsLatest test cells latest → test cell.now ≡ true → (EndsWithin cell.now latest → ⊥)
      → IsLatest test (cells ++ cell.now ∷ []) (Some cell)
  latest_new latest cell h passes later = (
    Contains-push cells cell.now,
    passes,
    All-push (λ (c : Cell). test c ≡ true → c.span.end ≤ℤ cell.now.span.end) cells cell.now (by latest h later) (λ own. omega (arith, ints)),
  )
    where
      by : (latest : Option (Bor Cell)) → IsLatest test cells latest → (EndsWithin cell.now latest → ⊥) → All (λ (c : Cell). test c ≡ true → c.span.end ≤ℤ cell.now.span.end) cells
      by None h later =
          All-weaker (λ (c : Cell). test c ≡ false) (λ (c : Cell). test c ≡ true → c.span.end ≤ℤ cell.now.span.end) (λ c no yes. absurd (false≢true (sym no ∙ yes))) cells h
      by (Some last) h later =
          All-weaker (λ (c : Cell). test c ≡ true → c.span.end ≤ℤ last.now.span.end) (λ (c : Cell). test c ≡ true → c.span.end ≤ℤ cell.now.span.end)
          (λ c within yes. ends c.span.end last.now.span.end cell.now.span.end (within yes) later) cells h.2
        where
          ends : (a b c : ℤ) → a ≤ℤ b → (c ≤ℤ b → ⊥) → a ≤ℤ c
          ends a b c less more = let above = not_within c b more in omega (arith, ints)

  pub latest_other : (latest : Option (Bor Cell)) (cell : Cell) → IsLatest test cells latest → test cell ≡ false → IsLatest test (cells ++ cell ∷ []) latest
  latest_other None cell h off = All-push (λ (c : Cell). test c ≡ false) cells cell h off
  latest_other (Some latest) cell h off = (
    Contains-append_left cells (cell ∷ []) latest.now h.0,
    h.1,
    All-push (λ (c : Cell). test c ≡ true → c.span.end ≤ℤ latest.now.span.end) cells cell h.2 (λ on. absurd (false≢true (sym off ∙ on))),
  )

-- ---- what was merged

abbrev pub stands : Cell → Bool
stands cell = is_standing cell.merged_into

begins : (a b : Cell) → IsBefore a b → a.span.start ≤ℤ b.span.start
begins a b (inl first) = omega (arith, ints)
begins a b (inr longer) = let same = longer.0 in omega (arith, ints)

-- cells that are listed before another, and behind it
module _ (done : List Cell) (cell : Cell) (left : List Cell) (order : AreInOrder (done ++ cell ∷ left)) where
  pub first_before : (other : Cell) → Contains done other → IsBefore other cell
  first_before other at = pairs_across IsBefore done (cell ∷ left) order other cell at (contains_first cell left)

  pub last_behind : (other : Cell) → Contains left other → IsBefore cell other
  last_behind other at = pairs_across IsBefore (cell ∷ []) left (pairs_second IsBefore done (cell ∷ left) order) cell other (contains_first cell []) at

module _ (rules : GroupRules) (done : List Cell) (cell : Cell) (left : List Cell) (latest : Option (Bor Cell))
    (order : AreInOrder (done ++ cell ∷ left)) (ends_last : IsLatest stands done latest) where
  abbrev pub all_cells : List Cell
  all_cells = done ++ cell ∷ left

  pub is_taken : rules.merges ≡ true → cell.entries ≡ [] → EndsWithin cell latest → HasTaker rules all_cells cell
  is_taken merges empty within = λ gone. record { merges = merges; empty = empty; taker = by latest ends_last within }
    where
      by : (latest : Option (Bor Cell)) → IsLatest stands done latest → EndsWithin cell latest → list_any (stands_round cell.span) all_cells ≡ true
      by None h within = absurd within
      by (Some last) h within =
          let there = Contains-append_left done (cell ∷ left) last.now h.0 in
          let start = begins last.now cell (first_before done cell left order last.now h.0) in
          list_any-from_Any (stands_round cell.span) all_cells
          (there.0, last.now, there.1, there.2, and_from (stands last.now) (lies_in cell.span last.now.span) h.1 (lies_test cell.span last.now.span (start, within)))

  pub was_taken : HasTaker rules all_cells cell → stands cell ≡ false → (rules.merges ≡ true) × (cell.entries ≡ []) × EndsWithin cell latest
  was_taken has gone =
      let merged : IsMerged rules all_cells cell = has gone in
      let found = Any-from_list_any (stands_round cell.span) all_cells merged.taker in
      let parts = and_parts (stands found.1) (lies_in cell.span found.1.span) found.4 in
      (merged.merges, merged.empty, by found.1 (Contains-append_cases done (cell ∷ left) found.1 (found.0, found.2, found.3)) parts.0 (lies_from cell.span found.1.span parts.1))
    where
      ends : (latest : Option (Bor Cell)) → IsLatest stands done latest → (taker : Cell) → Contains done taker → stands taker ≡ true → cell.span.end ≤ℤ taker.span.end → EndsWithin cell latest
      ends None h taker at on within = absurd (false≢true (sym (All-contains (λ (c : Cell). stands c ≡ false) done taker h at) ∙ on))
      ends (Some last) h taker at on within =
          let more = All-contains (λ (c : Cell). stands c ≡ true → c.span.end ≤ℤ last.now.span.end) done taker h.2 at on in
          omega (arith, ints)

      never : (taker : Cell) → IsBefore cell taker → (taker.span.start ≤ℤ cell.span.start) × (cell.span.end ≤ℤ taker.span.end) → ⊥
      never taker (inl first) lies = let from = lies.0 in omega (arith, ints)
      never taker (inr longer) lies = let until = lies.1 in let less = longer.1 in omega (arith, ints)

      behind : (taker : Cell) → (taker ≡ cell) ⊎ Contains left taker → stands taker ≡ true → (taker.span.start ≤ℤ cell.span.start) × (cell.span.end ≤ℤ taker.span.end) → EndsWithin cell latest
      behind taker (inl same) on lies = absurd (false≢true (sym gone ∙ ap stands (sym same) ∙ on))
      behind taker (inr at) on lies = absurd (never taker (last_behind done cell left order taker at) lies)

      by : (taker : Cell) → Contains done taker ⊎ Contains (cell ∷ left) taker → stands taker ≡ true → (taker.span.start ≤ℤ cell.span.start) × (cell.span.end ≤ℤ taker.span.end) → EndsWithin cell latest
      by taker (inl at) on lies = ends latest ends_last taker at on lies.1
      by taker (inr at) on lies = behind taker (contains_cases cell left taker at) on lies

-- ---- what is read at a place

pub place_read : (listed : List (Bor Cell)) (i : ℕ) (cell : Bor Cell) (d : Cell) → i < length listed → cell ≡ get_or listed i cell → get_or (cells_in listed) i d ≡ cell.now
place_read listed i cell d within is = get_or-map (λ (c : Bor Cell). c.now) listed i cell d within ∙ ap (λ (c : Bor Cell). c.now) (sym is)

standing_is : (o : Option Interval) → is_standing o ≡ is_none o
standing_is None = refl
standing_is (Some into) = refl

pub stands_where : (cell : Cell) (t : Bool) → is_none cell.merged_into ≡ t → stands cell ≡ t
stands_where cell t none = standing_is cell.merged_into ∙ none

-- the same at a place
module _ (rules : GroupRules) (listed : List (Bor Cell)) (i : ℕ) (cell : Bor Cell) (latest : Option (Bor Cell)) (within : i < length listed) (is : cell ≡ get_or listed i cell)
    (order : AreInOrder (cells_in listed)) (ends_last : IsLatest stands (take i (cells_in listed)) latest) where
  ordered : AreInOrder (take i (cells_in listed) ++ cell.now ∷ drop (i + 1) (cells_in listed))
  ordered = subst AreInOrder (at_place listed i cell within is) order

  pub taken_at : rules.merges ≡ true → cell.now.entries ≡ [] → EndsWithin cell.now latest → HasTaker rules (cells_in listed) cell.now
  taken_at merges empty inside =
      subst (λ (l : List Cell). HasTaker rules l cell.now) (sym (at_place listed i cell within is))
      (is_taken rules (take i (cells_in listed)) cell.now (drop (i + 1) (cells_in listed)) latest ordered ends_last merges empty inside)

  pub was_taken_at : All (HasTaker rules (cells_in listed)) (cells_in listed) → stands cell.now ≡ false
      → (rules.merges ≡ true) × (cell.now.entries ≡ []) × EndsWithin cell.now latest
  was_taken_at all gone =
      let inside : i < length (cells_in listed) = omega (arith, length-map listed (λ (c : Bor Cell). c.now)) in
      was_taken rules (take i (cells_in listed)) cell.now (drop (i + 1) (cells_in listed)) latest ordered ends_last
      (subst (λ (l : List Cell). HasTaker rules l cell.now) (at_place listed i cell within is)
      (subst (HasTaker rules (cells_in listed)) (place_read listed i cell cell.now within is) (all i cell.now inside)))
      gone
