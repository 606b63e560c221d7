-- The windows that can still merge, once a window is opened and as the mark rises.
use Rattle.std.proofs.Common.{◌≡◌, ◌⊎◌, inl, inr, ℕ, ℤ, ◌≤ℤ◌, Bool, true, false, cond, List, [], ◌∷◌, ◌++◌, map, refl, sym, ap, subst, ◌∙◌, arith}
use Rattle.std.specs.Prelude.{◌&&◌, ◌||◌, not, Some, Contains}
use Rattle.std.specs.List.{filter, flat_map, list_any}
use Rattle.std.proofs.lemmas.Bool.{and_parts, and_from, not-true}
use Rattle.std.proofs.lemmas.Int.{ints}
use Rattle.std.proofs.lemmas.List.{map-append}
use Rattle.std.proofs.lemmas.List.Elements.{Contains-append_cases, filter-append}
use Rattle.beam_values.specs.Firing.{is_expired}
use Rattle.beam_values.specs.Intervals.{Interval}
use Rattle.beam_values.specs.Spans.{same_span}
use Rattle.beam_values.specs.declared.cell.Cell.{Cell}
use Rattle.beam_values.specs.declared.plan.Trigger.{Trigger}
use Rattle.beam_model.specs.Panes.{GroupRules}
use Rattle.session_merge.proofs.Lists.{contains_cases, contains_first, contains_later}
use Rattle.group_cells.specs.Placing.{Opening, fresh_cell, gives_way, handed_over, is_absorbed, is_standing, once_opened, opened, stands_as}
use Rattle.group_cells.specs.Rounds.{is_open, open_windows}
use Rattle.group_cells.proofs.WindowTests.{span_itself}

abbrev span_of : Cell → Interval
span_of cell = cell.span

pub none_contained : {X : Type 0} (x : X) → Contains [] x → ⊥
none_contained x h = absurd (omega (arith, h.1))

-- the mark has not reached the end of the window and the lateness: a later window is not expired either, nor was this one before
pub ends_later : (trigger : Trigger) (mark first last : ℤ) → first ≤ℤ last → is_expired trigger first mark ≡ false → is_expired trigger last mark ≡ false
ends_later trigger mark first last up open_ = by (is_expired trigger last mark) refl
  where
    by : (b : Bool) → is_expired trigger last mark ≡ b → b ≡ false
    by false e = refl
    by true e = let early : is_expired trigger first mark ≡ true = grind (arith, ints) in let no : true ≡ false = sym early ∙ open_ in absurd (cc)

pub marked_before : (trigger : Trigger) (end before after : ℤ) → before ≤ℤ after → is_expired trigger end after ≡ false → is_expired trigger end before ≡ false
marked_before trigger end before after up open_ = by (is_expired trigger end before) refl
  where
    by : (b : Bool) → is_expired trigger end before ≡ b → b ≡ false
    by false e = refl
    by true e = let late : is_expired trigger end after ≡ true = grind (arith, ints) in let no : true ≡ false = sym late ∙ open_ in absurd (cc)

module _ (rules : GroupRules) (before : ℤ) where
  -- a window that can merge stands, and isn't expired
  pub open_says : (cells : List Cell) (w : Interval) → Contains (open_windows rules before cells) w
      → (list_any (stands_as w) cells ≡ true) × (is_expired rules.trigger w.end before ≡ false)
  open_says [] w at = absurd (none_contained w at)
  open_says (cell ∷ cells) w at = by (is_open rules before cell) refl at (open_says cells w)
    where
      Says : Type 0
      Says = Contains (open_windows rules before cells) w → (list_any (stands_as w) cells ≡ true) × (is_expired rules.trigger w.end before ≡ false)

      later : Says → Contains (open_windows rules before cells) w → (list_any (stands_as w) (cell ∷ cells) ≡ true) × (is_expired rules.trigger w.end before ≡ false)
      later says more = let rest = says more in (any_more (stands_as w cell) rest.0, rest.1)
        where
          any_more : (b : Bool) → list_any (stands_as w) cells ≡ true → (b || list_any (stands_as w) cells) ≡ true
          any_more true e = refl
          any_more false e = e

      by : (b : Bool) → is_open rules before cell ≡ b → Contains (map span_of (cond b (cell ∷ filter (is_open rules before) cells) (filter (is_open rules before) cells))) w → Says
          → (list_any (stands_as w) (cell ∷ cells) ≡ true) × (is_expired rules.trigger w.end before ≡ false)
      by true e at says = elim (contains_cases cell.span (map span_of (filter (is_open rules before) cells)) w at) [
        | inl same ↦
            let parts = and_parts (is_standing cell.merged_into) (not (is_expired rules.trigger cell.span.end before)) e in
            let stands : stands_as w cell ≡ true = and_from (is_standing cell.merged_into) (same_span cell.span w) parts.0 (ap (same_span cell.span) same ∙ span_itself cell.span) in
            (ap (λ b. b || list_any (stands_as w) cells) stands, ap (λ (v : Interval). is_expired rules.trigger v.end before) same ∙ not-true (is_expired rules.trigger cell.span.end before) parts.1)
        | inr more ↦ later says more
      ]
      by false e at says = later says at

  -- the window of a cell that can merge is one of them
  pub open_has : (cells : List Cell) (cell : Cell) → Contains cells cell → is_open rules before cell ≡ true → Contains (open_windows rules before cells) cell.span
  open_has [] cell at on = absurd (none_contained cell at)
  open_has (x ∷ cells) cell at on = elim (contains_cases x cells cell at) [
    | inl same ↦
        subst (λ (b : Bool). Contains (map span_of (cond b (x ∷ filter (is_open rules before) cells) (filter (is_open rules before) cells))) cell.span) (sym on ∙ ap (is_open rules before) same)
        (subst (λ (v : Interval). Contains (v ∷ map span_of (filter (is_open rules before) cells)) cell.span) (ap span_of same) (contains_first cell.span (map span_of (filter (is_open rules before) cells))))
    | inr more ↦ kept (is_open rules before x) (open_has cells cell more on)
  ]
    where
      kept : (b : Bool) → Contains (open_windows rules before cells) cell.span → Contains (map span_of (cond b (x ∷ filter (is_open rules before) cells) (filter (is_open rules before) cells))) cell.span
      kept true h = contains_later x.span (map span_of (filter (is_open rules before) cells)) cell.span h
      kept false h = h

  -- as the mark rises, there are no more of them
  pub open_fewer : (after : ℤ) → before ≤ℤ after → (cells : List Cell) (w : Interval) → Contains (open_windows rules after cells) w → Contains (open_windows rules before cells) w
  open_fewer after up [] w at = at
  open_fewer after up (cell ∷ cells) w at = by (is_open rules after cell) refl (is_open rules before cell) refl at (open_fewer after up cells w)
    where
      was : is_open rules after cell ≡ true → is_open rules before cell ≡ true
      was on =
          let parts = and_parts (is_standing cell.merged_into) (not (is_expired rules.trigger cell.span.end after)) on in
          and_from (is_standing cell.merged_into) (not (is_expired rules.trigger cell.span.end before)) parts.0
          (ap not (marked_before rules.trigger cell.span.end before after up (not-true (is_expired rules.trigger cell.span.end after) parts.1)))

      by : (a : Bool) → is_open rules after cell ≡ a → (b : Bool) → is_open rules before cell ≡ b
          → Contains (map span_of (cond a (cell ∷ filter (is_open rules after) cells) (filter (is_open rules after) cells))) w
          → (Contains (open_windows rules after cells) w → Contains (open_windows rules before cells) w)
          → Contains (map span_of (cond b (cell ∷ filter (is_open rules before) cells) (filter (is_open rules before) cells))) w
      by true e true f at rest = elim (contains_cases cell.span (map span_of (filter (is_open rules after) cells)) w at) [
        | inl same ↦
            subst (λ (v : Interval). Contains (cell.span ∷ map span_of (filter (is_open rules before) cells)) v) (sym same) (contains_first cell.span (map span_of (filter (is_open rules before) cells)))
        | inr more ↦ contains_later cell.span (map span_of (filter (is_open rules before) cells)) w (rest more)
      ]
      by true e false f at rest = let no : true ≡ false = sym (was e) ∙ f in absurd (cc)
      by false e true f at rest = contains_later cell.span (map span_of (filter (is_open rules before) cells)) w (rest at)
      by false e false f at rest = rest at

  -- ---- a window is opened

  module _ (s : Interval) where
    -- those that are left were there, and aren't absorbed
    open_left : (cells : List Cell) (w : Interval) → Contains (open_windows rules before (map (once_opened rules before s) cells)) w
        → Contains (open_windows rules before cells) w × (is_absorbed rules before s w ≡ false)
    open_left [] w at = absurd (none_contained w at)
    open_left (cell ∷ cells) w at = by (gives_way rules before s cell) refl at (open_left cells w)
      where
        Left : Type 0
        Left = Contains (open_windows rules before (map (once_opened rules before s) cells)) w → Contains (open_windows rules before cells) w × (is_absorbed rules before s w ≡ false)

        kept : (b : Bool) → Contains (open_windows rules before cells) w × (is_absorbed rules before s w ≡ false)
            → Contains (map span_of (cond b (cell ∷ filter (is_open rules before) cells) (filter (is_open rules before) cells))) w × (is_absorbed rules before s w ≡ false)
        kept true h = (contains_later cell.span (map span_of (filter (is_open rules before) cells)) w h.0, h.1)
        kept false h = h

        here : (o : Bool) → is_open rules before cell ≡ o → gives_way rules before s cell ≡ false
            → Contains (map span_of (cond o (cell ∷ filter (is_open rules before) (map (once_opened rules before s) cells)) (filter (is_open rules before) (map (once_opened rules before s) cells)))) w → Left
            → Contains (map span_of (cond o (cell ∷ filter (is_open rules before) cells) (filter (is_open rules before) cells))) w × (is_absorbed rules before s w ≡ false)
        here true f e at rest = elim (contains_cases cell.span (map span_of (filter (is_open rules before) (map (once_opened rules before s) cells))) w at) [
          | inl same ↦ (
            subst (λ (v : Interval). Contains (cell.span ∷ map span_of (filter (is_open rules before) cells)) v) (sym same) (contains_first cell.span (map span_of (filter (is_open rules before) cells))),
            ap (is_absorbed rules before s) same ∙ sym (ap (λ b. b && is_absorbed rules before s cell.span) (and_parts (is_standing cell.merged_into) (not (is_expired rules.trigger cell.span.end before)) f).0) ∙ e,
          )
          | inr more ↦ kept true (rest more)
        ]
        here false f e at rest = rest at

        by : (b : Bool) → gives_way rules before s cell ≡ b
            → Contains (map span_of (filter (is_open rules before) (cond b (record cell { entries = []; merged_into = Some s }) cell ∷ map (once_opened rules before s) cells))) w → Left
            → Contains (open_windows rules before (cell ∷ cells)) w × (is_absorbed rules before s w ≡ false)
        by true e at rest = kept (is_open rules before cell) (rest at)
        by false e at rest = here (is_open rules before cell) refl e at rest

  -- After a window is opened: those that were there, without what it absorbs where no cell stood for it, and this one.
  pub opened_from : (node : ℕ) (opening : Opening) (cells : List Cell) (w : Interval) → Contains (open_windows rules before (opened rules before node cells opening)) w
      → (Contains (open_windows rules before cells) w × (list_any (stands_as opening.span) cells ≡ false → is_absorbed rules before opening.span w ≡ false)) ⊎ (w ≡ opening.span)
  opened_from node opening cells w at = by (list_any (stands_as opening.span) cells) refl at
    where
      fresh : Cell
      fresh = fresh_cell node opening.key opening.span (flat_map (handed_over rules before opening.span) cells)

      alone : (b : Bool) → Contains (map span_of (cond b (fresh ∷ []) [])) w → w ≡ opening.span
      alone true h = elim (contains_cases opening.span [] w h) [ inl same ↦ same | inr more ↦ absurd (none_contained w more) ]
      alone false h = absurd (none_contained w h)

      parts : open_windows rules before (map (once_opened rules before opening.span) cells ++ fresh ∷ [])
          ≡ open_windows rules before (map (once_opened rules before opening.span) cells) ++ open_windows rules before (fresh ∷ [])
      parts =
          ap (map span_of) (filter-append (is_open rules before) (map (once_opened rules before opening.span) cells) (fresh ∷ []))
          ∙ map-append span_of (filter (is_open rules before) (map (once_opened rules before opening.span) cells)) (filter (is_open rules before) (fresh ∷ []))

      by : (b : Bool) → list_any (stands_as opening.span) cells ≡ b
          → Contains (open_windows rules before (cond b cells (map (once_opened rules before opening.span) cells ++ fresh ∷ []))) w
          → (Contains (open_windows rules before cells) w × (list_any (stands_as opening.span) cells ≡ false → is_absorbed rules before opening.span w ≡ false)) ⊎ (w ≡ opening.span)
      by true e at = inl (at, λ none. let no : true ≡ false = sym e ∙ none in absurd (cc))
      by false e at =
          elim (Contains-append_cases (open_windows rules before (map (once_opened rules before opening.span) cells)) (open_windows rules before (fresh ∷ [])) w
          (subst (λ (l : List Interval). Contains l w) parts at)) [
            | inl left ↦ let h = open_left opening.span cells w left in inl (h.0, λ none. h.1)
            | inr last ↦ inr (alone (is_open rules before fresh) last)
          ]
