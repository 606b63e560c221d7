-- A change and its undoing.
use Rattle.std.proofs.Common.{◌≡◌, ℕ, suc, ◌-◌, ◌<◌, List, [], ◌∷◌, ◌++◌, length, take, Some, None, refl, sym, ap, ◌∙◌, arith, Option, zero}
use Rattle.std.proofs.Math.ListN.{set, length-set}
use Rattle.std.specs.List.{slice_get, slice_set}
use Rattle.std.specs.Option.{option_map, unwrap_or}
use Rattle.std.proofs.lemmas.Option.{slice_get_within, slice_get-get_or, get_or_from_slice_get}
use Rattle.std.proofs.lemmas.List.{get_or-set_same, set-get_or}
use Rattle.std.proofs.lemmas.Grind.{common_steps}
use Rattle.beam_values.specs.declared.cell.Cell.{Cell}
use Rattle.beam_values.specs.declared.cell.Entry.{Entry}
use Rattle.beam_values.specs.declared.element.Timing.{Timing}
use Rattle.group_cells.specs.Placing.{with_entry}
use Rattle.group_cells.specs.Cells.{once_fired}
use Rattle.group_cells.specs.Undoing.{undone, undone_all, without_last}
use Rattle.group_cells.specs.Unfiring.{unfired}
use Rattle.group_cells.specs.declared.groups.fired.Unfired.{Unfired}
use Rattle.group_cells.specs.declared.groups.draft.Change.{Change}
use Rattle.group_cells.specs.declared.groups.draft.Change.TheVariants.{Opened, Put, Fired}

pub undone_more : (changes : List Change) (change : Change) (cells : List Cell) → undone_all (changes ++ change ∷ []) cells ≡ undone_all changes (undone change cells)
undone_more [] change cells = refl
undone_more (first ∷ changes) change cells = ap (undone first) (undone_more changes change cells)

front : {X : Type 0} (xs : List X) (x : X) → take (length (xs ++ x ∷ []) - 1) (xs ++ x ∷ []) ≡ xs
front xs x = grind (arith, common_steps)

pub opened_undone : (cells : List Cell) (cell : Cell) → undone Opened (cells ++ cell ∷ []) ≡ cells
opened_undone cells cell = front cells cell

entry_undone : (cell : Cell) (entry : Entry) → without_last (with_entry entry cell) ≡ cell
entry_undone cell entry = ap (λ (es : List Entry). let c : Cell = record cell { entries = es } in c) (front cell.entries entry)

pub set_again : {X : Type 0} (xs : List X) (i : ℕ) (x y : X) → set (set xs i x) i y ≡ set xs i y
set_again [] i x y = refl
set_again (z ∷ xs) zero x y = refl
set_again (z ∷ xs) (suc i) x y = ap (λ l. z ∷ l) (set_again xs i x y)

pub set_back : (cells : List Cell) (place : ℕ) (cell : Cell) → slice_get cells place ≡ Some cell → set cells place cell ≡ cells
set_back cells place cell found = ap (set cells place) (sym (get_or_from_slice_get cells place cell cell found)) ∙ set-get_or cells place cell

pub read_written : {X : Type 0} (xs : List X) (i : ℕ) (x : X) → i < length xs → slice_get (set xs i x) i ≡ Some x
read_written {X} xs i x within =
    let still : i < length (set xs i x) = omega (arith, length-set {A = X}) in
    slice_get-get_or (set xs i x) i x still ∙ ap (λ y. Some y) (get_or-set_same xs i x x within)

pub put_undone : (cells : List Cell) (place : ℕ) (cell : Cell) (entry : Entry) → slice_get cells place ≡ Some cell
    → undone (Put place) (slice_set cells place (with_entry entry cell)) ≡ cells
put_undone cells place cell entry found =
    ap (λ o. unwrap_or (option_map (λ c. set (set cells place (with_entry entry cell)) place (without_last c)) o) (set cells place (with_entry entry cell)))
    (read_written cells place (with_entry entry cell) (slice_get_within cells place cell found))
    ∙ ap (set (set cells place (with_entry entry cell)) place) (entry_undone cell entry)
    ∙ set_again cells place (with_entry entry cell) cell
    ∙ set_back cells place cell found

pub none_within : {X : Type 0} (xs : List X) (i : ℕ) → i < length xs → slice_get xs i ≡ None → ⊥
none_within [] i within e = omega arith
none_within (x ∷ xs) i within e = let found = slice_get-get_or (x ∷ xs) i x within in cc

pub put_step : (changes : List Change) (cells new : List Cell) (place : ℕ) (entry : Entry) → place < length cells
    → ((cell : Cell) → slice_get cells place ≡ Some cell → new ≡ slice_set cells place (with_entry entry cell))
    → undone_all (changes ++ Put place ∷ []) new ≡ undone_all changes cells
put_step changes cells new place entry within is =
    undone_more changes (Put place) new ∙ ap (undone_all changes) (by_read (slice_get cells place) refl)
  where
    by_read : (o : Option Cell) → slice_get cells place ≡ o → undone (Put place) new ≡ cells
    by_read None e = absurd (none_within cells place within e)
    by_read (Some cell) e = ap (undone (Put place)) (is cell e) ∙ put_undone cells place cell entry e

pub open_step : (changes : List Change) (cells : List Cell) (cell : Cell) → undone_all (changes ++ Opened ∷ []) (cells ++ cell ∷ []) ≡ undone_all changes cells
open_step changes cells cell = undone_more changes Opened (cells ++ cell ∷ []) ∙ ap (undone_all changes) (opened_undone cells cell)

pub unfired_step : (changes : List Change) (cells new : List Cell) (at place : ℕ) (before : Unfired) (timing : Timing) → place < length cells → at ≡ place
    → ((cell : Cell) → slice_get cells place ≡ Some cell → new ≡ slice_set cells place (once_fired (Some timing) cell))
    → ((cell : Cell) → slice_get cells place ≡ Some cell → unfired before (once_fired (Some timing) cell) ≡ cell)
    → undone_all (changes ++ Fired at before ∷ []) new ≡ undone_all changes cells
unfired_step changes cells new at place before timing within same is back =
    undone_more changes (Fired at before) new
    ∙ ap (undone_all changes) (ap (λ p. undone (Fired p before) new) same ∙ by_read (slice_get cells place) refl)
  where
    by_read : (o : Option Cell) → slice_get cells place ≡ o → undone (Fired place before) new ≡ cells
    by_read None e = absurd (none_within cells place within e)
    by_read (Some cell) e =
        let fired : Cell = once_fired (Some timing) cell in
        ap (undone (Fired place before)) (is cell e)
        ∙ ap (λ o. unwrap_or (option_map (λ c. set (set cells place fired) place (unfired before c)) o) (set cells place fired)) (read_written cells place fired within)
        ∙ set_again cells place fired (unfired before fired)
        ∙ ap (set cells place) (back cell e)
        ∙ set_back cells place cell e
