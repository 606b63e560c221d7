-- A cell is opened for a window: what the cells tell is kept.
use Rattle.std.proofs.Common.{◌≡◌, ◌⊎◌, inl, inr, ℕ, ◌≤◌, ℤ, Bool, true, false, cond, List, [], ◌∷◌, ◌++◌, map, get_or, refl, sym, ap, subst, ◌∙◌, arith}
use Rattle.std.specs.Prelude.{◌&&◌, Option, Some, None}
use Rattle.std.specs.List.{All, count_by, list_any, flat_map}
use Rattle.std.proofs.lemmas.Bool.{cases_Bool, and_left, and_right}
use Rattle.std.proofs.lemmas.List.Elements.{All-nil, All-cons, All-append, All-map, All-weaker}
use Rattle.std.proofs.lemmas.List.Folds.{list_any_none}
use Rattle.beam_values.specs.Intervals.{Interval}
use Rattle.beam_values.specs.Spans.{same_span}
use Rattle.beam_values.specs.declared.cell.Cell.{Cell}
use Rattle.beam_values.specs.declared.cell.Entry.{Entry}
use Rattle.beam_values.specs.declared.cell.Pane.{Pane}
use Rattle.beam_model.specs.Panes.{GroupRules, taken_entry, shows, is_of_window, is_on_time, is_on_time_of, TellsPanes}
use Rattle.group_cells.specs.Placing.{is_standing, stands_as, is_absorbed, gives_way, once_opened, handed_over, fresh_cell, Opening, opened}
use Rattle.group_cells.proofs.Counting.{count_none, count-append, count_one, count_same, counted_has, any_counted, none_any, All-flat_map}
use Rattle.group_cells.proofs.WindowTests.{fits, span_itself, span_sound}

abbrev pub has_window : Interval → Cell → Bool
has_window w cell = same_span cell.span w

-- What a cell keeps on the way through a commit: one that stands may (`A`), and its entries belong to its window; one that does not has no entries, and its window is not to stand (`N`)
abbrev pub KeepsEntries : Bool → (Interval → Type 0) → (Interval → Type 0) → (Interval → Interval → Type 0) → Interval → List Entry → Option Interval → Type 0
KeepsEntries merges A N TakenBy w entries None = A w × All (λ entry. fits merges entry.element.span w ≡ true) entries
KeepsEntries merges A N TakenBy w entries (Some into) = (N w → ⊥) × (entries ≡ []) × TakenBy w into

pub record AreKept (rules : GroupRules) (node : ℕ) (panes : List Pane) (A N : Interval → Type 0) (TakenBy : Interval → Interval → Type 0) (cells : List Cell) : Type 0 where
  pub has : All (λ cell. KeepsEntries rules.merges A N TakenBy cell.span cell.entries cell.merged_into) cells
  pub tells : All (TellsPanes rules node panes) cells
  pub once : (w : Interval) → count_by (has_window w) cells ≤ 1
  pub every : (w : Interval) → A w → 1 ≤ count_by (stands_as w) cells

-- ---- a window for which a cell is opened

-- a cell that stands stays so, unless it is absorbed
pub left_stands : (rules : GroupRules) (before : ℤ) (s w : Interval) → is_absorbed rules before s w ≡ false → (cell : Cell) → stands_as w (once_opened rules before s cell) ≡ stands_as w cell
left_stands rules before s w untaken cell = by (is_standing cell.merged_into) (cases_Bool (has_window w cell))
  where
    by : (b : Bool) → (has_window w cell ≡ true) ⊎ (has_window w cell ≡ false)
        → stands_as w (cond (b && is_absorbed rules before s cell.span) (record cell { entries = []; merged_into = Some s }) cell) ≡ stands_as w cell
    by true (inl same) =
        ap (λ t. stands_as w (cond t (record cell { entries = []; merged_into = Some s }) cell)) (ap (is_absorbed rules before s) (span_sound cell.span w same) ∙ untaken)
    by true (inr other) = either (is_absorbed rules before s cell.span)
      where
        either : (t : Bool) → stands_as w (cond t (record cell { entries = []; merged_into = Some s }) cell) ≡ stands_as w cell
        either true = sym (and_right (is_standing cell.merged_into) (has_window w cell) other)
        either false = refl
    by false any = refl

pub left_span : (rules : GroupRules) (before : ℤ) (s w : Interval) (cell : Cell) → has_window w (once_opened rules before s cell) ≡ has_window w cell
left_span rules before s w cell = by (gives_way rules before s cell)
  where
    by : (b : Bool) → has_window w (cond b (record cell { entries = []; merged_into = Some s }) cell) ≡ has_window w cell
    by true = refl
    by false = refl

module _ (rules : GroupRules) (node : ℕ) (panes : List Pane) (A N : Interval → Type 0) (TakenBy : Interval → Interval → Type 0) (cells : List Cell)
    (before : ℤ) (opening : Opening) (kept : AreKept rules node panes A N TakenBy cells) (stands : N opening.span)
    (unfired : A opening.span ⊎ All (λ p. is_of_window opening.span p ≡ false) panes)
    (absorbing : (w : Interval) → A w → is_absorbed rules before opening.span w ≡ true → (N w → ⊥) × TakenBy w opening.span)
    (lies : (own w : Interval) → is_absorbed rules before opening.span w ≡ true → fits rules.merges own w ≡ true → fits rules.merges own opening.span ≡ true)
    (alone : A opening.span → (w : Interval) → A w → is_absorbed rules before opening.span w ≡ true → ⊥) where
  abbrev s : Interval
  s = opening.span

  abbrev absorbs : Interval → Bool
  absorbs w = is_absorbed rules before opening.span w

  abbrev pub OnceOpen : Interval → Type 0
  OnceOpen w = (A w × (absorbs w ≡ false)) ⊎ (w ≡ s)

  abbrev Had : Cell → Type 0
  Had cell = KeepsEntries rules.merges A N TakenBy cell.span cell.entries cell.merged_into

  abbrev Has : Cell → Type 0
  Has cell = KeepsEntries rules.merges OnceOpen N TakenBy cell.span cell.entries cell.merged_into

  -- where a cell stands for the window already
  unchanged : A s → (cell : Cell) → Had cell → Has cell
  unchanged there cell h = by cell.merged_into (absorbs cell.span) refl h
    where
      by : (o : Option Interval) (b : Bool) → absorbs cell.span ≡ b → KeepsEntries rules.merges A N TakenBy cell.span cell.entries o → KeepsEntries rules.merges OnceOpen N TakenBy cell.span cell.entries o
      by None true e h = absurd (alone there cell.span h.0 e)
      by None false e h = (inl (h.0, e), h.1)
      by (Some into) b e h = h

  changed : (cell : Cell) → Had cell → Has (once_opened rules before s cell)
  changed cell h = by cell.merged_into (absorbs cell.span) refl h
    where
      by : (o : Option Interval) (b : Bool) → absorbs cell.span ≡ b → KeepsEntries rules.merges A N TakenBy cell.span cell.entries o
          → Has (cond (is_standing o && b) (record cell { entries = []; merged_into = Some s }) (record cell { merged_into = o }))
      by None true e h = let t = absorbing cell.span h.0 e in (t.0, refl, t.1)
      by None false e h = (inl (h.0, e), h.1)
      by (Some into) b e h = h

  -- what is handed over belongs to the window
  moved : (cell : Cell) → Had cell → All (λ entry. fits rules.merges entry.element.span s ≡ true) (handed_over rules before s cell)
  moved cell h = by cell.merged_into (absorbs cell.span) refl h
    where
      by : (o : Option Interval) (b : Bool) → absorbs cell.span ≡ b → KeepsEntries rules.merges A N TakenBy cell.span cell.entries o
          → All (λ entry. fits rules.merges entry.element.span s ≡ true) (cond (is_standing o && b) cell.entries [])
      by None true e h = All-weaker (λ entry. fits rules.merges entry.element.span cell.span ≡ true) (λ entry. fits rules.merges entry.element.span s ≡ true) (λ entry k. lies entry.element.span cell.span e k) cell.entries h.1
      by None false e h = All-nil (λ (entry : Entry). fits rules.merges entry.element.span s ≡ true)
      by (Some into) b e h = All-nil (λ (entry : Entry). fits rules.merges entry.element.span s ≡ true)

  abbrev Shown : Entry → Type 0
  Shown entry = entry.shown ≡ list_any (shows rules (taken_entry node entry)) panes

  tells_left : (cell : Cell) → TellsPanes rules node panes cell → TellsPanes rules node panes (once_opened rules before s cell)
  tells_left cell h = by (gives_way rules before s cell)
    where
      by : (b : Bool) → TellsPanes rules node panes (cond b (record cell { entries = []; merged_into = Some s }) cell)
      by true = record { index = h.index; on_time = h.on_time; shown = All-nil Shown }
      by false = h

  shown_taken : (cell : Cell) → TellsPanes rules node panes cell → All Shown (handed_over rules before s cell)
  shown_taken cell h = by (gives_way rules before s cell)
    where
      by : (b : Bool) → All Shown (cond b cell.entries [])
      by true = h.shown
      by false = All-nil Shown

  -- no cell has the window of a new cell
  none_has : list_any (stands_as s) cells ≡ false → All (λ cell. has_window s cell ≡ false) cells
  none_has none k d within = by (get_or cells k d).merged_into (cases_Bool (has_window s (get_or cells k d))) (kept.has k d within) (none_any (stands_as s) cells none k d within)
    where
      by : (o : Option Interval) → (has_window s (get_or cells k d) ≡ true) ⊎ (has_window s (get_or cells k d) ≡ false)
          → KeepsEntries rules.merges A N TakenBy (get_or cells k d).span (get_or cells k d).entries o
          → (is_standing o && has_window s (get_or cells k d)) ≡ false → has_window s (get_or cells k d) ≡ false
      by o (inr off) h e = off
      by None (inl on) h e = e
      by (Some into) (inl on) h e = absurd (h.0 (subst N (sym (span_sound (get_or cells k d).span s on)) stands))

  abbrev added : Cell
  added = fresh_cell node opening.key s (flat_map (handed_over rules before s) cells)

  fresh : list_any (stands_as s) cells ≡ false → All (λ p. is_of_window s p ≡ false) panes
  fresh none = elim unfired [
    | inl there ↦
        let zero_ : count_by (stands_as s) cells ≡ 0 = count_none (stands_as s) cells (none_any (stands_as s) cells none) in
        absurd (omega (arith, kept.every s there))
    | inr all ↦ all
  ]

  pub opened_kept : AreKept rules node panes OnceOpen N TakenBy (opened rules before node cells opening)
  opened_kept = by (list_any (stands_as s) cells) refl
    where
      standing : (cell : Cell) → stands_as s cell ≡ true → Had cell → A s
      standing cell e h = of cell.merged_into e h
        where
          of : (o : Option Interval) → (is_standing o && has_window s cell) ≡ true → KeepsEntries rules.merges A N TakenBy cell.span cell.entries o → A s
          of None e h = subst A (span_sound cell.span s e) h.0
          of (Some into) e h = absurd (cc)

      by : (b : Bool) → list_any (stands_as s) cells ≡ b → AreKept rules node panes OnceOpen N TakenBy (cond b cells (map (once_opened rules before s) cells ++ added ∷ []))
      by true is =
          let some = any_counted (stands_as s) cells is in
          let there : A s = counted_has (stands_as s) Had (A s) cells some kept.has standing in
          record {
            has = All-weaker Had Has (unchanged there) cells kept.has;
            tells = kept.tells;
            once = kept.once;
            every = λ w newest. elim newest [ inl h ↦ kept.every w h.0 | inr e ↦ subst (λ (u : Interval). 1 ≤ count_by (stands_as u) cells) (sym e) some ];
          }
      by false is =
          let without = none_has is in
          let unseen = fresh is in
          record {
            has = All-append Has (map (once_opened rules before s) cells) (added ∷ [])
                (All-map Has (once_opened rules before s) cells (All-weaker Had (λ cell. Has (once_opened rules before s cell)) changed cells kept.has))
                (All-cons Has added [] (
                  inr refl,
                  All-flat_map (λ entry. fits rules.merges entry.element.span s ≡ true) (handed_over rules before s) cells
                      (All-weaker Had (λ cell. All (λ entry. fits rules.merges entry.element.span s ≡ true) (handed_over rules before s cell)) moved cells kept.has),
                ) (All-nil Has));
            tells = All-append (TellsPanes rules node panes) (map (once_opened rules before s) cells) (added ∷ [])
                (All-map (TellsPanes rules node panes) (once_opened rules before s) cells (All-weaker (TellsPanes rules node panes) (λ cell. TellsPanes rules node panes (once_opened rules before s cell)) tells_left cells kept.tells))
                (All-cons (TellsPanes rules node panes) added [] (record {
                  index = sym (count_none (is_of_window s) panes unseen);
                  on_time = sym (list_any_none (is_on_time_of s) panes (All-weaker (λ p. is_of_window s p ≡ false) (λ p. is_on_time_of s p ≡ false) (λ p h. and_left (is_of_window s p) (is_on_time p.element.pane.timing) h) panes unseen));
                  shown = All-flat_map Shown (handed_over rules before s) cells (All-weaker (TellsPanes rules node panes) (λ cell. All Shown (handed_over rules before s cell)) shown_taken cells kept.tells);
                }) (All-nil (TellsPanes rules node panes)));
            once = λ w.
                let counted = count-append (has_window w) (map (once_opened rules before s) cells) (added ∷ []) in
                let same = count_same (once_opened rules before s) (has_window w) (has_window w) (left_span rules before s w) cells in
                elim (cases_Bool (same_span s w)) [
                  | inl on ↦
                      let none : count_by (has_window w) cells ≡ 0 = subst (λ (u : Interval). count_by (has_window u) cells ≡ 0) (span_sound s w on) (count_none (has_window s) cells without) in
                      omega (arith, (count_one (has_window w) added).0 on)
                  | inr off ↦ omega (arith, kept.once w, (count_one (has_window w) added).1 off)
                ];
            every = λ w newest.
                let counted = count-append (stands_as w) (map (once_opened rules before s) cells) (added ∷ []) in
                elim newest [
                  | inl h ↦
                      let same = count_same (once_opened rules before s) (stands_as w) (stands_as w) (left_stands rules before s w h.1) cells in
                      omega (arith, kept.every w h.0)
                  | inr e ↦ omega (arith, (count_one (stands_as w) added).0 (subst (λ (u : Interval). stands_as u added ≡ true) (sym e) (span_itself s)))
                ];
          }
