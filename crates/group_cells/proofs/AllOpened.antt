-- Cells are opened for one window after another.
use Rattle.std.proofs.Common.{◌≡◌, ◌⊎◌, inl, inr, ℕ, ◌≤◌, ℤ, Bool, true, false, cond, List, [], ◌∷◌, ◌++◌, map, refl, sym, subst, arith}
use Rattle.std.specs.Prelude.{Option, Some, None}
use Rattle.std.specs.List.{All, count_by, list_any, flat_map}
use Rattle.std.proofs.lemmas.Bool.{cases_Bool}
use Rattle.std.proofs.lemmas.List.Elements.{All-weaker}
use Rattle.beam_values.specs.Intervals.{Interval}
use Rattle.beam_values.specs.declared.cell.Cell.{Cell}
use Rattle.beam_values.specs.declared.cell.Entry.{Entry}
use Rattle.beam_values.specs.declared.cell.Pane.{Pane}
use Rattle.beam_model.specs.Panes.{GroupRules, is_of_window}
use Rattle.group_cells.specs.Placing.{stands_as, is_absorbed, once_opened, handed_over, fresh_cell, Opening, opened, opened_all}
use Rattle.group_cells.proofs.Counting.{count-append, count_one, count_same, any_counted}
use Rattle.group_cells.proofs.WindowTests.{fits, span_itself}
use Rattle.group_cells.proofs.WindowSteps.{IsIn}
use Rattle.group_cells.proofs.OpenedCells.{has_window, left_span, left_stands, KeepsEntries, AreKept, opened_kept}

abbrev pub spans : List Opening → List Interval
spans openings = map (λ opening. opening.span) openings

-- sets of windows that have the same windows
sets_kept : (rules : GroupRules) (node : ℕ) (panes : List Pane) (A B N : Interval → Type 0) (TakenBy : Interval → Interval → Type 0) (cells : List Cell)
    → ((w : Interval) → A w → B w) → ((w : Interval) → B w → A w) → AreKept rules node panes A N TakenBy cells → AreKept rules node panes B N TakenBy cells
sets_kept rules node panes A B N TakenBy cells to back kept = record {
  has = All-weaker (λ cell. KeepsEntries rules.merges A N TakenBy cell.span cell.entries cell.merged_into) (λ cell. KeepsEntries rules.merges B N TakenBy cell.span cell.entries cell.merged_into)
      (λ cell h. by cell.span cell.entries cell.merged_into h) cells kept.has;
  tells = kept.tells;
  once = kept.once;
  every = λ w b. kept.every w (back w b);
}
  where
    by : (w : Interval) (entries : List Entry) (o : Option Interval) → KeepsEntries rules.merges A N TakenBy w entries o → KeepsEntries rules.merges B N TakenBy w entries o
    by w entries None h = (to w h.0, h.1)
    by w entries (Some into) h = h

-- ---- cells are opened, one window after another

module _ (rules : GroupRules) (node : ℕ) (panes : List Pane) (S T : Interval → Type 0) (TakenBy : Interval → Interval → Type 0) (before : ℤ)
    (gone : (s w : Interval) → T s → is_absorbed rules before s w ≡ true → T w → ⊥)
    (apart_before : (s w : Interval) → S s → S w → is_absorbed rules before s w ≡ true → ⊥)
    (absorbing : (s w : Interval) → S w → T s → is_absorbed rules before s w ≡ true → TakenBy w s)
    (carries : (s w own : Interval) → is_absorbed rules before s w ≡ true → fits rules.merges own w ≡ true → fits rules.merges own s ≡ true)
    (itself : (s : Interval) → is_absorbed rules before s s ≡ false)
    (unfired : (s : Interval) → T s → S s ⊎ All (λ p. is_of_window s p ≡ false) panes) where
  -- Of the windows A between two openings: each stood before, or is to stand and absorbs none of A; and each that stood and is to stand is in A.
  record Goes (A : Interval → Type 0) : Type 0 where
    from : (w : Interval) → A w → S w ⊎ (T w × ((v : Interval) → A v → is_absorbed rules before w v ≡ false))
    stay : (w : Interval) → S w → T w → A w

  abbrev More : (Interval → Type 0) → Interval → Interval → Type 0
  More A s w = (A w × (is_absorbed rules before s w ≡ false)) ⊎ (w ≡ s)

  untaken : (s w : Interval) → T s → T w → is_absorbed rules before s w ≡ false
  untaken s w s_stands w_stands = elim (cases_Bool (is_absorbed rules before s w)) [ inl on ↦ absurd (gone s w s_stands on w_stands) | inr off ↦ off ]

  goes_on : (A : Interval → Type 0) (s : Interval) → T s → Goes A → Goes (More A s)
  goes_on A s stands goes = record {
    from = λ w a. elim a [
      | inl old ↦ elim (goes.from w old.0) [
        | inl h ↦ inl h
        | inr h ↦ inr (h.0, λ v b. elim b [ inl x ↦ h.1 v x.0 | inr e ↦ subst (λ (u : Interval). is_absorbed rules before w u ≡ false) (sym e) (untaken w s h.0 stands) ])
      ]
      | inr e ↦ inr (subst T (sym e) stands, λ v b. subst (λ (u : Interval). is_absorbed rules before u v ≡ false) (sym e) (elim b [ inl x ↦ x.1 | inr f ↦ subst (λ (u : Interval). is_absorbed rules before s u ≡ false) (sym f) (itself s) ]))
    ];
    stay = λ w x t. inl (goes.stay w x t, untaken s w stands t);
  }

  one_opened : (A : Interval → Type 0) (opening : Opening) (cells : List Cell) → T opening.span → Goes A → AreKept rules node panes A T TakenBy cells
      → AreKept rules node panes (More A opening.span) T TakenBy (opened rules before node cells opening)
  one_opened A opening cells stands goes kept =
      opened_kept rules node panes A T TakenBy cells before opening kept stands
      (elim (unfired opening.span stands) [ inl h ↦ inl (goes.stay opening.span h stands) | inr h ↦ inr h ])
      (λ w a e. elim (goes.from w a) [ inl h ↦ (gone opening.span w stands e, absorbing opening.span w h stands e) | inr h ↦ absurd (gone opening.span w stands e h.0) ])
      (λ own w e b. carries opening.span w own e b)
      (λ there w a e. elim (goes.from opening.span there) [
        | inl h ↦ elim (goes.from w a) [ inl k ↦ apart_before opening.span w h k e | inr k ↦ gone opening.span w stands e k.0 ]
        | inr h ↦ let off = h.1 w a in absurd (cc)
      ])

  abbrev Allowed : List Interval → (Interval → Type 0) → Interval → Type 0
  Allowed [] A w = A w
  Allowed (s ∷ ls) A w = Allowed ls (More A s) w

  all_opened : (openings : List Opening) → ((s : Interval) → IsIn s (spans openings) → T s) → (A : Interval → Type 0) → Goes A → (cells : List Cell) → AreKept rules node panes A T TakenBy cells
      → AreKept rules node panes (Allowed (spans openings) A) T TakenBy (opened_all rules before node openings cells)
  all_opened [] each A goes cells kept = kept
  all_opened (opening ∷ openings) each A goes cells kept =
      all_opened openings (λ w inside. each w (inr inside)) (More A opening.span) (goes_on A opening.span (each opening.span (inl refl)) goes) (opened rules before node cells opening)
      (one_opened A opening cells (each opening.span (inl refl)) goes kept)

  allowed_stands : (ls : List Interval) → ((s : Interval) → IsIn s ls → T s) → (A : Interval → Type 0) → (w : Interval) → Allowed ls A w
      → (A w × ((s : Interval) → IsIn s ls → is_absorbed rules before s w ≡ false)) ⊎ T w
  allowed_stands [] each A w a = inl (a, λ s h. absurd h)
  allowed_stands (s ∷ ls) each A w a = elim (allowed_stands ls (λ v inside. each v (inr inside)) (More A s) w a) [
    | inl h ↦ elim h.0 [
      | inl old ↦ inl (old.0, λ v inside. elim inside [ inl e ↦ subst (λ (u : Interval). is_absorbed rules before u w ≡ false) (sym e) old.1 | inr later ↦ h.1 v later ])
      | inr e ↦ inr (subst T (sym e) (each s (inl refl)))
    ]
    | inr t ↦ inr t
  ]

  stands_allowed : (ls : List Interval) → ((s : Interval) → IsIn s ls → T s) → (A : Interval → Type 0) → (w : Interval) → T w → A w ⊎ IsIn w ls → Allowed ls A w
  stands_allowed [] each A w t (inl a) = a
  stands_allowed [] each A w t (inr h) = absurd h
  stands_allowed (s ∷ ls) each A w t (inl a) = stands_allowed ls (λ v inside. each v (inr inside)) (More A s) w t (inl (inl (a, untaken s w (each s (inl refl)) t)))
  stands_allowed (s ∷ ls) each A w t (inr (inl e)) = stands_allowed ls (λ v inside. each v (inr inside)) (More A s) w t (inl (inr e))
  stands_allowed (s ∷ ls) each A w t (inr (inr later)) = stands_allowed ls (λ v inside. each v (inr inside)) (More A s) w t (inr later)

  -- after all of them, the cells that stand are those of what stood and isn't absorbed, and of these windows
  pub opened_kept_all : (openings : List Opening) (cells : List Cell) → ((s : Interval) → IsIn s (spans openings) → T s)
      → ((w : Interval) → S w → ((s : Interval) → IsIn s (spans openings) → is_absorbed rules before s w ≡ false) → T w)
      → ((w : Interval) → T w → S w ⊎ IsIn w (spans openings))
      → AreKept rules node panes S T TakenBy cells → AreKept rules node panes T T TakenBy (opened_all rules before node openings cells)
  opened_kept_all openings cells each stays only kept =
      sets_kept rules node panes (Allowed (spans openings) S) T T TakenBy (opened_all rules before node openings cells)
      (λ w a. elim (allowed_stands (spans openings) each S w a) [ inl h ↦ stays w h.0 h.1 | inr t ↦ t ])
      (λ w t. stands_allowed (spans openings) each S w t (only w t))
      (all_opened openings each S (record { from = λ w s. inl s; stay = λ w s t. s }) cells kept)

-- ---- no cell is lost, and each window has a cell that stands

opened_more : (rules : GroupRules) (before : ℤ) (node : ℕ) (opening : Opening) (w : Interval) (cells : List Cell)
    → count_by (has_window w) cells ≤ count_by (has_window w) (opened rules before node cells opening)
opened_more rules before node opening w cells = by (list_any (stands_as opening.span) cells)
  where
    by : (b : Bool) → count_by (has_window w) cells
        ≤ count_by (has_window w) (cond b cells (map (once_opened rules before opening.span) cells ++ fresh_cell node opening.key opening.span (flat_map (handed_over rules before opening.span) cells) ∷ []))
    by true = omega arith
    by false =
        let counted = count-append (has_window w) (map (once_opened rules before opening.span) cells) (fresh_cell node opening.key opening.span (flat_map (handed_over rules before opening.span) cells) ∷ []) in
        let same = count_same (once_opened rules before opening.span) (has_window w) (has_window w) (left_span rules before opening.span w) cells in
        omega arith

pub all_opened_more : (rules : GroupRules) (before : ℤ) (node : ℕ) (openings : List Opening) (w : Interval) (cells : List Cell)
    → count_by (has_window w) cells ≤ count_by (has_window w) (opened_all rules before node openings cells)
all_opened_more rules before node [] w cells = omega arith
all_opened_more rules before node (opening ∷ openings) w cells =
    let a = opened_more rules before node opening w cells in
    let b = all_opened_more rules before node openings w (opened rules before node cells opening) in
    omega arith

-- a cell that stands goes on to stand where another window doesn't absorb it
stands_on : (rules : GroupRules) (before : ℤ) (node : ℕ) (opening : Opening) (w : Interval) (cells : List Cell) → is_absorbed rules before opening.span w ≡ false
    → 1 ≤ count_by (stands_as w) cells → 1 ≤ count_by (stands_as w) (opened rules before node cells opening)
stands_on rules before node opening w cells off some = by (list_any (stands_as opening.span) cells)
  where
    by : (b : Bool) → 1 ≤ count_by (stands_as w)
        (cond b cells (map (once_opened rules before opening.span) cells ++ fresh_cell node opening.key opening.span (flat_map (handed_over rules before opening.span) cells) ∷ []))
    by true = some
    by false =
        let counted = count-append (stands_as w) (map (once_opened rules before opening.span) cells) (fresh_cell node opening.key opening.span (flat_map (handed_over rules before opening.span) cells) ∷ []) in
        let same = count_same (once_opened rules before opening.span) (stands_as w) (stands_as w) (left_stands rules before opening.span w off) cells in
        omega arith

all_stand_on : (rules : GroupRules) (before : ℤ) (node : ℕ) (openings : List Opening) (w : Interval) (cells : List Cell) → ((s : Interval) → IsIn s (spans openings) → is_absorbed rules before s w ≡ false)
    → 1 ≤ count_by (stands_as w) cells → 1 ≤ count_by (stands_as w) (opened_all rules before node openings cells)
all_stand_on rules before node [] w cells off some = some
all_stand_on rules before node (opening ∷ openings) w cells off some =
    all_stand_on rules before node openings w (opened rules before node cells opening) (λ s inside. off s (inr inside))
    (stands_on rules before node opening w cells (off opening.span (inl refl)) some)

-- where none of these windows absorbs another, each has a cell that stands
pub each_stands : (rules : GroupRules) (before : ℤ) (node : ℕ) (openings : List Opening) (cells : List Cell)
    → ((s w : Interval) → IsIn s (spans openings) → IsIn w (spans openings) → is_absorbed rules before s w ≡ false)
    → (w : Interval) → IsIn w (spans openings) → 1 ≤ count_by (stands_as w) (opened_all rules before node openings cells)
each_stands rules before node [] cells apart w inside = absurd inside
each_stands rules before node (opening ∷ openings) cells apart w (inl is) =
    all_stand_on rules before node openings w (opened rules before node cells opening) (λ s inside. apart s w (inr inside) (inl is))
    (subst (λ (u : Interval). 1 ≤ count_by (stands_as u) (opened rules before node cells opening)) (sym is) (own (list_any (stands_as opening.span) cells) refl))
  where
    own : (b : Bool) → list_any (stands_as opening.span) cells ≡ b → 1 ≤ count_by (stands_as opening.span)
        (cond b cells (map (once_opened rules before opening.span) cells ++ fresh_cell node opening.key opening.span (flat_map (handed_over rules before opening.span) cells) ∷ []))
    own true e = any_counted (stands_as opening.span) cells e
    own false e =
        let fresh = fresh_cell node opening.key opening.span (flat_map (handed_over rules before opening.span) cells) in
        let counted = count-append (stands_as opening.span) (map (once_opened rules before opening.span) cells) (fresh ∷ []) in
        omega (arith, (count_one (stands_as opening.span) fresh).0 (span_itself opening.span))
each_stands rules before node (opening ∷ openings) cells apart w (inr later) =
    each_stands rules before node openings (opened rules before node cells opening) (λ s v a b. apart s v (inr a) (inr b)) w later
