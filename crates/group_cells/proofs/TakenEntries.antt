-- Which cell takes an entry, where it is found by its window.
use Rattle.std.proofs.Common.{◌≡◌, inl, inr, ℕ, zero, suc, ◌<◌, ℤ, true, false, cond, List, [], ◌∷◌, length, get_or, Option, Some, None, refl, sym, ap, subst, ◌∙◌, arith}
use Rattle.std.specs.Prelude.{slice_get, slice_set, MatchOption}
use Rattle.std.specs.BTreeMap.{BTreeMap}
use Rattle.std.proofs.lemmas.Bool.{and_from, and_parts, cases_Bool, false≢true}
use Rattle.std.proofs.lemmas.Option.{get_or_from_slice_get, slice_get_within}
use Rattle.beam_values.specs.Firing.{is_expired}
use Rattle.beam_values.specs.Spans.{lies_in, same_span}
use Rattle.beam_values.specs.declared.cell.Cell.{Cell}
use Rattle.beam_values.specs.declared.cell.Entry.{Entry}
use Rattle.beam_values.specs.declared.value.Value.{Value}
use Rattle.beam_model.specs.Panes.{GroupRules, belongs, is_cell_at_key, taken_entry}
use Rattle.group_cells.specs.AtPlaces.{at_place}
use Rattle.group_cells.specs.KnownWindows.{opens, window_at, AreKnown, AreListed, IsHolder, IsTaker}
use Rattle.group_cells.specs.Placing.{is_standing, takes, with_entry}
use Rattle.group_cells.specs.Plain.{put_at, takes_at}
use Rattle.group_cells.specs.declared.groups.standing.Known.{Known}
use Rattle.group_cells.specs.declared.groups.standing.Standing.{Standing}
use Rattle.group_cells.proofs.KnownCells.{IsOpenAs, longer_open, opened_there, there_opened}
use Rattle.group_cells.proofs.StandingPlaces.{passes_there, read_there}
use Rattle.group_cells.proofs.Taking.{with_cell}
use Rattle.group_cells.proofs.WindowTests.{lies_from}

some_one : {X : Type 0} (x y : X) → Some x ≡ Some y → x ≡ y
some_one x y e = cc

module _ (rules : GroupRules) (node : ℕ) (key : Value) (entry : Entry) where
  put_none : (cells : List Cell) → ((p : ℕ) → at_place (takes_at rules node key entry) false cells p ≡ false) → put_at rules node key entry cells ≡ cells
  put_none [] none = refl
  put_none (cell ∷ cells) none =
      ap (λ b. cond b (with_entry entry cell ∷ cells) (cell ∷ put_at rules node key entry cells)) (none zero) ∙ ap (λ l. cell ∷ l) (put_none cells (λ p. none (suc p)))

  put_only : (cells : List Cell) (place : ℕ) (cell : Cell) → slice_get cells place ≡ Some cell → takes_at rules node key entry cell ≡ true
      → ((p : ℕ) → at_place (takes_at rules node key entry) false cells p ≡ true → p ≡ place) → put_at rules node key entry cells ≡ slice_set cells place (with_entry entry cell)
  put_only [] place cell there on only = absurd (let x : None ≡ Some cell = there in cc)
  put_only (x ∷ cells) zero cell there on only =
      let is : x ≡ cell = some_one x cell there in
      ap (λ b. cond b (with_entry entry x ∷ cells) (x ∷ put_at rules node key entry cells)) (ap (takes_at rules node key entry) is ∙ on) ∙ ap (λ c. with_entry entry c ∷ cells) is
  put_only (x ∷ cells) (suc place) cell there on only =
      ap (λ b. cond b (with_entry entry x ∷ cells) (x ∷ put_at rules node key entry cells)) off
      ∙ ap (λ l. x ∷ l) (put_only cells place cell there on (λ p h. let e = only (suc p) h in omega arith))
    where
      off : takes_at rules node key entry x ≡ false
      off = elim (cases_Bool (takes_at rules node key entry x)) [
        | inl h ↦ absurd (let e = only zero h in omega arith)
        | inr none ↦ none
      ]

  pub taker_from : (cells : List Cell) (o : Option ℕ)
      → MatchOption o (put_at rules node key entry cells ≡ cells) (λ at. (at < length cells) × ((d : Cell) → put_at rules node key entry cells ≡ slice_set cells at (with_entry entry (get_or cells at d))))
      → IsTaker rules node key entry cells o
  taker_from cells None h = h
  taker_from cells (Some at) h = (
    h.0,
    with_cell cells at h.0 (λ cell there.
        h.1 cell ∙ ap (λ c. slice_set cells at (with_entry entry c)) (get_or_from_slice_get cells at cell cell there)
        ∙ sym (read_there (λ x. slice_set cells at (with_entry entry x)) cells cells at cell there)),
  )

  module _ (mark : ℤ) (cells : List Cell) (m : BTreeMap ℤ Standing) (merges : rules.merges ≡ true) (h : AreListed (opens rules mark node key cells) m)
      (open_ : is_expired rules.trigger entry.element.span.end mark ≡ false) where
    -- a cell that takes the entry is listed, and the entry's own window lies in its
    taking : (p : ℕ) (cell : Cell) → slice_get cells p ≡ Some cell → takes_at rules node key entry cell ≡ true
        → (window_at m cell.span.end ≡ Some (record { span = cell.span; place = p })) × (lies_in entry.element.span cell.span ≡ true)
    taking p cell there on =
        let one = and_parts (is_cell_at_key node key cell) (takes rules entry cell) on in
        let two = and_parts (is_standing cell.merged_into) (belongs rules cell.span (taken_entry cell.node entry)) one.1 in
        let lies : lies_in entry.element.span cell.span ≡ true =
        sym (ap (λ b. cond b (lies_in entry.element.span cell.span) (same_span entry.element.span cell.span)) merges) ∙ two.1 in
        let inside = lies_from entry.element.span cell.span lies in (
          h.all p cell.span (there_opened rules mark node key cells p cell.span cell there
              (record { at = one.0; stands_ = two.0; open_ = longer_open rules.trigger entry.element.span.end cell.span.end mark inside.1 open_; is = refl })),
          lies,
        )

    takes_so : (cell : Cell) → is_cell_at_key node key cell ≡ true → is_standing cell.merged_into ≡ true → lies_in entry.element.span cell.span ≡ true → takes_at rules node key entry cell ≡ true
    takes_so cell at on lies =
        and_from (is_cell_at_key node key cell) (takes rules entry cell) at
        (and_from (is_standing cell.merged_into) (belongs rules cell.span (taken_entry cell.node entry)) on
        (ap (λ b. cond b (lies_in entry.element.span cell.span) (same_span entry.element.span cell.span)) merges ∙ lies))

    pub taker_is : (o : Option ℕ) → IsHolder entry.element.span m o → IsTaker rules node key entry cells o
    taker_is None none = put_none cells (λ p. elim (cases_Bool (at_place (takes_at rules node key entry) false cells p)) [
      | inl on ↦
          let found = passes_there (takes_at rules node key entry) cells p on in
          let t = taking p found.0 found.1 found.2 in
          absurd (false≢true (sym (none found.0.span.end (record { span = found.0.span; place = p }) t.0) ∙ t.1))
      | inr off ↦ off
    ])
    taker_is (Some place) holds = by (opened_there rules mark node key cells holds.0.place holds.0.span (h.only holds.0.span.end holds.0 holds.1))
      where
        only : (p : ℕ) → at_place (takes_at rules node key entry) false cells p ≡ true → p ≡ place
        only p on =
            let f = passes_there (takes_at rules node key entry) cells p on in
            let t = taking p f.0 f.1 f.2 in
            ap (λ (x : Standing). x.place) (holds.4 f.0.span.end (record { span = f.0.span; place = p }) t.0 t.1) ∙ holds.2

        by : (c : Cell) × (slice_get cells holds.0.place ≡ Some c) × IsOpenAs rules mark node key holds.0.span c → IsTaker rules node key entry cells (Some place)
        by found =
            let there : slice_get cells place ≡ Some found.0 = subst (λ p. slice_get cells p ≡ Some found.0) holds.2 found.1 in
            let takes_it = takes_so found.0 found.2.at found.2.stands_ (ap (lies_in entry.element.span) found.2.is ∙ holds.3) in (
              slice_get_within cells place found.0 there,
              put_only cells place found.0 there takes_it only ∙ sym (read_there (λ x. slice_set cells place (with_entry entry x)) cells cells place found.0 there),
            )

-- as it is known of the cells that were seen
pub taker_of : (rules : GroupRules) (before : ℤ) (node : ℕ) (key : Value) (entry : Entry) (old seen : List Cell) (known : Known) (o : Option ℕ) → seen ≡ old → rules.merges ≡ true
    → AreKnown before (opens rules before node key old) known → is_expired rules.trigger entry.element.span.end before ≡ false
    → ((mark : ℤ) → rules.merges ≡ true → AreKnown mark (opens rules mark node key seen) known → is_expired rules.trigger entry.element.span.end mark ≡ false → IsTaker rules node key entry seen o)
    → IsTaker rules node key entry old o
taker_of rules before node key entry old seen known o is merges h open_ f =
    subst (λ (l : List Cell). IsTaker rules node key entry l o) is (f before merges (subst (λ (l : List Cell). AreKnown before (opens rules before node key l) known) (sym is) h) open_)
