-- Cells fire: what they tell is kept, and each window that stands fires by its trigger.
use Rattle.std.proofs.Common.{◌≡◌, ◌⊎◌, inl, inr, ℕ, ◌+◌, ◌<◌, ◌≤◌, ℤ, Bool, true, false, cond, List, [], ◌∷◌, ◌++◌, map, get_or, refl, sym, ap, subst, ◌∙◌, arith, append-nil}
use Rattle.std.specs.Prelude.{nat_le, ◌&&◌, ◌||◌, not, Option, Some, None, length}
use Rattle.std.specs.List.{All, count_by, filter, list_any}
use Rattle.std.specs.Option.{is_some}
use Rattle.std.proofs.lemmas.Bool.{cases_Bool, and_from, and_parts, le-leb}
use Rattle.std.proofs.lemmas.List.Elements.{All-nil, All-cons, All-head, All-tail, All-map, All-weaker, filter-append}
use Rattle.std.proofs.lemmas.List.Folds.{list_any-append}
use Rattle.std.proofs.lemmas.List.Sums.{sum_by-cons, length-filter}
use Rattle.beam_values.specs.Firing.{firing}
use Rattle.beam_values.specs.Intervals.{Interval}
use Rattle.beam_values.specs.Spans.{same_span}
use Rattle.beam_values.specs.declared.value.Value.{Value}
use Rattle.beam_values.specs.declared.element.Element.{Element}
use Rattle.beam_values.specs.declared.element.Timing.{Timing}
use Rattle.beam_values.specs.declared.cell.Cell.{Cell}
use Rattle.beam_values.specs.declared.cell.Entry.{Entry}
use Rattle.beam_values.specs.declared.cell.Pane.{Pane}
use Rattle.beam_values.specs.declared.plan.Mode.{Mode}
use Rattle.beam_values.specs.declared.plan.Mode.TheVariants.{Discarding, Accumulating}
use Rattle.beam_model.specs.Panes.{Taken, GroupRules, taken_entry, belongs, shows, is_unseen, is_of_window, is_on_time, is_on_time_of, held, IsFiredAs, IsFired, TellsPanes}
use Rattle.group_cells.specs.Placing.{is_standing, stands_as}
use Rattle.group_cells.specs.Cells.{unseen_in, firing_of, entries_held, shown, once_fired, after_firing, FiresIts, is_fired_by, AreTheirPanes}
use Rattle.group_cells.proofs.Counting.{filter_all, filter_none, none_counted, count-append, count_same, counted_has, any_counted}
use Rattle.group_cells.proofs.WindowTests.{fits, span_itself, span_sound}
use Rattle.group_cells.proofs.OpenedCells.{has_window, KeepsEntries, AreKept}
use Rattle.group_cells.proofs.MovedEntries.{all_taken}

-- ---- what the mark of an entry says

abbrev Marked : GroupRules → ℕ → List Pane → Entry → Type 0
Marked rules node panes entry = entry.shown ≡ list_any (shows rules (taken_entry node entry)) panes

unseen_counted : (rules : GroupRules) (node : ℕ) (panes : List Pane) (entries : List Entry) → All (Marked rules node panes) entries → count_by (is_unseen rules panes) (map (taken_entry node) entries) ≡ unseen_in entries
unseen_counted rules node panes [] h = refl
unseen_counted rules node panes (e ∷ rest) h =
    let here : cond {A = ℕ} (is_unseen rules panes (taken_entry node e)) 1 0 ≡ cond {A = ℕ} (not e.shown) 1 0 = ap (λ (b : Bool). cond {A = ℕ} (not b) 1 0) (sym (All-head (Marked rules node panes) e rest h)) in
    omega (arith, sum_by-cons (λ (x : Taken). cond {A = ℕ} (is_unseen rules panes x) 1 0) (taken_entry node e) (map (taken_entry node) rest), sum_by-cons (λ (x : Entry). cond {A = ℕ} (not x.shown) 1 0) e rest, unseen_counted rules node panes rest (All-tail (Marked rules node panes) e rest h))

unseen_held : (rules : GroupRules) (node : ℕ) (panes : List Pane) (entries : List Entry) → All (Marked rules node panes) entries → filter (is_unseen rules panes) (map (taken_entry node) entries) ≡ map (taken_entry node) (filter (λ e. not e.shown) entries)
unseen_held rules node panes [] h = refl
unseen_held rules node panes (e ∷ rest) h =
    ap (λ b. cond (not b) (taken_entry node e ∷ filter (is_unseen rules panes) (map (taken_entry node) rest)) (filter (is_unseen rules panes) (map (taken_entry node) rest))) (sym (All-head (Marked rules node panes) e rest h))
    ∙ ap (λ l. cond (not e.shown) (taken_entry node e ∷ l) l) (unseen_held rules node panes rest (All-tail (Marked rules node panes) e rest h))
    ∙ out (not e.shown)
  where
    out : (b : Bool) → cond b (taken_entry node e ∷ map (taken_entry node) (filter (λ x. not x.shown) rest)) (map (taken_entry node) (filter (λ x. not x.shown) rest)) ≡ map (taken_entry node) (cond b (e ∷ filter (λ x. not x.shown) rest) (filter (λ x. not x.shown) rest))
    out true = refl
    out false = refl

all_held : (rules : GroupRules) (node : ℕ) (panes : List Pane) (entries : List Entry) → All (Marked rules node panes) entries → held rules.trigger.mode rules panes (map (taken_entry node) entries) ≡ map (taken_entry node) (entries_held rules.trigger.mode entries)
all_held rules node panes entries h = by rules.trigger.mode
  where
    by : (mode : Mode) → held mode rules panes (map (taken_entry node) entries) ≡ map (taken_entry node) (entries_held mode entries)
    by Discarding = unseen_held rules node panes entries h
    by Accumulating = refl

-- where there is one cell for each window, the other cells have other windows
others_off : (cell : Cell) (cells : List Cell) (w : Interval) → count_by (has_window w) (cell ∷ cells) ≤ 1 → has_window w cell ≡ true → All (λ x. has_window w x ≡ false) cells
others_off cell cells w once on =
    let here : cond {A = ℕ} (has_window w cell) 1 0 ≡ 1 = ap (λ (b : Bool). cond {A = ℕ} b 1 0) on in
    none_counted (has_window w) cells (omega (arith, sum_by-cons (λ (x : Cell). cond {A = ℕ} (has_window w x) 1 0) cell cells))

once_tail : (cell : Cell) (cells : List Cell) → ((w : Interval) → count_by (has_window w) (cell ∷ cells) ≤ 1) → (w : Interval) → count_by (has_window w) cells ≤ 1
once_tail cell cells once w = omega (arith, once w, sum_by-cons (λ (x : Cell). cond {A = ℕ} (has_window w x) 1 0) cell cells)

-- an own window belongs to at most one of the windows that stand
abbrev pub IsAlone : Bool → (Interval → Type 0) → Interval → Type 0
IsAlone merges S own = (a b : Interval) → S a → S b → fits merges own a ≡ true → fits merges own b ≡ true → a ≡ b

module _ (rules : GroupRules) (node : ℕ) (c : ℕ) (S : Interval → Type 0) (TakenBy : Interval → Interval → Type 0) where
  abbrev pub Kept : Cell → Type 0
  Kept cell = KeepsEntries rules.merges S S TakenBy cell.span cell.entries cell.merged_into

  abbrev pub Fine : Taken → Type 0
  Fine e = (e.commit ≤ c) × IsAlone rules.merges S e.element.span

  abbrev pub FineIn : Cell → Type 0
  FineIn cell = All (λ entry. Fine (taken_entry node entry)) cell.entries

  pub kept_stands : (cell : Cell) → Kept cell → is_standing cell.merged_into ≡ true → S cell.span
  kept_stands cell h e = by cell.merged_into h e
    where
      by : (o : Option Interval) → KeepsEntries rules.merges S S TakenBy cell.span cell.entries o → is_standing o ≡ true → S cell.span
      by None k e = k.0
      by (Some into) k e = absurd (cc)

  -- no entry of a cell belongs to another window that stands
  elsewhere : (cell : Cell) (w : Interval) → Kept cell → FineIn cell → S w → same_span cell.span w ≡ false → All (λ entry. fits rules.merges entry.element.span w ≡ false) cell.entries
  elsewhere cell w h fine stands off = by cell.merged_into h
    where
      by : (o : Option Interval) → KeepsEntries rules.merges S S TakenBy cell.span cell.entries o → All (λ entry. fits rules.merges entry.element.span w ≡ false) cell.entries
      by None k = λ i d within. one (get_or cell.entries i d) (k.1 i d within) ((fine i d within).1) k.0 (cases_Bool (fits rules.merges (get_or cell.entries i d).element.span w))
        where
          one : (e : Entry) → fits rules.merges e.element.span cell.span ≡ true → IsAlone rules.merges S e.element.span → S cell.span
              → (fits rules.merges e.element.span w ≡ true) ⊎ (fits rules.merges e.element.span w ≡ false) → fits rules.merges e.element.span w ≡ false
          one e own alone s (inl on) =
              let same : cell.span ≡ w = alone cell.span w s stands own on in
              let no_ : true ≡ false = sym (span_itself w) ∙ ap (λ (u : Interval). same_span u w) (sym same) ∙ off in
              absurd (cc)
          one e own alone s (inr no_) = no_
      by (Some into) k = subst (λ (l : List Entry). All (λ (entry : Entry). fits rules.merges entry.element.span w ≡ false) l) (sym k.1) (All-nil (λ (entry : Entry). fits rules.merges entry.element.span w ≡ false))

  -- the entries of a cell belong to its window
  at_home : (cell : Cell) → Kept cell → All (λ entry. fits rules.merges entry.element.span cell.span ≡ true) cell.entries
  at_home cell h = by cell.merged_into h
    where
      by : (o : Option Interval) → KeepsEntries rules.merges S S TakenBy cell.span cell.entries o → All (λ entry. fits rules.merges entry.element.span cell.span ≡ true) cell.entries
      by None k = k.1
      by (Some into) k = subst (λ (l : List Entry). All (λ (entry : Entry). fits rules.merges entry.element.span cell.span ≡ true) l) (sym k.1) (All-nil (λ (entry : Entry). fits rules.merges entry.element.span cell.span ≡ true))

  taken_elsewhere : (w : Interval) → S w → (cells : List Cell) → All Kept cells → All FineIn cells → All (λ x. has_window w x ≡ false) cells → filter (belongs rules w) (all_taken node cells) ≡ []
  taken_elsewhere w stands [] h fine off = refl
  taken_elsewhere w stands (cell ∷ cells) h fine off =
      filter-append (belongs rules w) (map (taken_entry node) cell.entries) (all_taken node cells)
      ∙ ap (λ l. l ++ filter (belongs rules w) (all_taken node cells)) (filter_none (belongs rules w) (map (taken_entry node) cell.entries)
      (All-map (λ e. fits rules.merges e.element.span w ≡ false) (taken_entry node) cell.entries (elsewhere cell w (All-head Kept cell cells h) (All-head FineIn cell cells fine) stands (All-head (λ x. has_window w x ≡ false) cell cells off))))
      ∙ taken_elsewhere w stands cells (All-tail Kept cell cells h) (All-tail FineIn cell cells fine) (All-tail (λ x. has_window w x ≡ false) cell cells off)

  -- the cell of a window that stands has the entries that belong to it
  pub own_entries : (w : Interval) → S w → (cells : List Cell) → All Kept cells → All FineIn cells → ((v : Interval) → count_by (has_window v) cells ≤ 1)
      → All (λ x. has_window w x ≡ true → map (taken_entry node) x.entries ≡ filter (belongs rules w) (all_taken node cells)) cells
  own_entries w stands [] h fine once = All-nil (λ x. has_window w x ≡ true → map (taken_entry node) x.entries ≡ [])
  own_entries w stands (cell ∷ cells) h fine once =
      by (cases_Bool (has_window w cell)) (own_entries w stands cells (All-tail Kept cell cells h) (All-tail FineIn cell cells fine) (once_tail cell cells once))
    where
      by : (has_window w cell ≡ true) ⊎ (has_window w cell ≡ false) → All (λ x. has_window w x ≡ true → map (taken_entry node) x.entries ≡ filter (belongs rules w) (all_taken node cells)) cells
          → All (λ x. has_window w x ≡ true → map (taken_entry node) x.entries ≡ filter (belongs rules w) (all_taken node (cell ∷ cells))) (cell ∷ cells)
      by (inl on) rest =
          let off = others_off cell cells w (once w) on in
          All-cons (λ x. has_window w x ≡ true → map (taken_entry node) x.entries ≡ filter (belongs rules w) (all_taken node (cell ∷ cells))) cell cells
          (λ e. sym (filter-append (belongs rules w) (map (taken_entry node) cell.entries) (all_taken node cells)
          ∙ ap (λ l. filter (belongs rules w) (map (taken_entry node) cell.entries) ++ l) (taken_elsewhere w stands cells (All-tail Kept cell cells h) (All-tail FineIn cell cells fine) off)
          ∙ append-nil (filter (belongs rules w) (map (taken_entry node) cell.entries))
          ∙ filter_all (belongs rules w) (map (taken_entry node) cell.entries) (All-map (λ n. fits rules.merges n.element.span w ≡ true) (taken_entry node) cell.entries
          (subst (λ (u : Interval). All (λ entry. fits rules.merges entry.element.span u ≡ true) cell.entries) (span_sound cell.span w on) (at_home cell (All-head Kept cell cells h))))))
          (All-weaker (λ x. has_window w x ≡ false) (λ x. has_window w x ≡ true → map (taken_entry node) x.entries ≡ filter (belongs rules w) (all_taken node (cell ∷ cells))) (λ x a b. let no_ : true ≡ false = sym b ∙ a in absurd (cc)) cells off)
      by (inr off) rest =
          let nothing : filter (belongs rules w) (map (taken_entry node) cell.entries) ≡ [] =
          filter_none (belongs rules w) (map (taken_entry node) cell.entries)
          (All-map (λ e. fits rules.merges e.element.span w ≡ false) (taken_entry node) cell.entries (elsewhere cell w (All-head Kept cell cells h) (All-head FineIn cell cells fine) stands off)) in
          let same : filter (belongs rules w) (all_taken node cells) ≡ filter (belongs rules w) (all_taken node (cell ∷ cells)) =
          sym (filter-append (belongs rules w) (map (taken_entry node) cell.entries) (all_taken node cells) ∙ ap (λ l. l ++ filter (belongs rules w) (all_taken node cells)) nothing) in
          All-cons (λ x. has_window w x ≡ true → map (taken_entry node) x.entries ≡ filter (belongs rules w) (all_taken node (cell ∷ cells))) cell cells
          (λ e. let no_ : true ≡ false = sym e ∙ off in absurd (cc))
          (All-weaker (λ x. has_window w x ≡ true → map (taken_entry node) x.entries ≡ filter (belongs rules w) (all_taken node cells)) (λ x. has_window w x ≡ true → map (taken_entry node) x.entries ≡ filter (belongs rules w) (all_taken node (cell ∷ cells))) (λ x a b. a b ∙ same) cells rest)

-- ---- what fires of a window

filtered_any : {X : Type 0} (p q : X → Bool) (xs : List X) → list_any (λ x. p x && q x) xs ≡ list_any q (filter p xs)
filtered_any p q [] = refl
filtered_any p q (x ∷ xs) = by (p x) (filtered_any p q xs)
  where
    by : (b : Bool) → list_any (λ y. p y && q y) xs ≡ list_any q (filter p xs) → ((b && q x) || list_any (λ y. p y && q y) xs) ≡ list_any q (cond b (x ∷ filter p xs) (filter p xs))
    by true rest = ap (λ t. q x || t) rest
    by false rest = rest

any_filtered : {X : Type 0} (p : X → Bool) (xs : List X) → list_any p xs ≡ list_any p (filter p xs)
any_filtered p [] = refl
any_filtered p (x ∷ xs) = by (p x) refl (any_filtered p xs)
  where
    by : (b : Bool) → p x ≡ b → list_any p xs ≡ list_any p (filter p xs) → (p x || list_any p xs) ≡ list_any p (cond b (x ∷ filter p xs) (filter p xs))
    by true e rest = ap (λ t. p x || t) rest
    by false e rest = ap (λ t. t || list_any p xs) e ∙ rest

any_where : {X : Type 0} (p q : X → Bool) (xs : List X) → All (λ x. p x ≡ q x) xs → list_any p xs ≡ list_any q xs
any_where p q [] h = refl
any_where p q (x ∷ xs) h = λ i. All-head (λ y. p y ≡ q y) x xs h i || any_where p q xs (All-tail (λ y. p y ≡ q y) x xs h) i

same_tests : (a b : Bool) → (a ≡ true → b ≡ true) → (b ≡ true → a ≡ true) → a ≡ b
same_tests true b to from = sym (to refl)
same_tests false true to from = from refl
same_tests false false to from = refl

module _ (rules : GroupRules) (node : ℕ) (key : Value) (c : ℕ) (m : ℤ) (S : Interval → Type 0) (TakenBy : Interval → Interval → Type 0) (panes newest : List Pane) (cells : List Cell)
    (kept : AreKept rules node panes S S TakenBy cells) (fine : All (FineIn rules node c S TakenBy) cells)
    (fires : AreTheirPanes rules node key c m cells newest) (commits : All (λ pane. pane.commit ≡ c) newest) where
  Standing : Cell → Type 0
  Standing = λ cell. is_standing cell.merged_into ≡ true

  fires_standing : (cell : Cell) → is_some (firing_of rules m cell) ≡ true → is_standing cell.merged_into ≡ true
  fires_standing cell h = by (is_standing cell.merged_into) h
    where
      by : (b : Bool) → is_some (cond b (firing rules.trigger cell.span.end m cell.on_time (unseen_in cell.entries)) None) ≡ true → b ≡ true
      by true h = refl
      by false h = h

  -- each pane is of a window that stands
  pub pane_stands : All (λ pane. S pane.element.span) newest
  pane_stands k d within =
      counted_has (is_fired_by rules m (get_or newest k d)) (Kept rules node c S TakenBy) (S (get_or newest k d).element.span) cells
      (any_counted (is_fired_by rules m (get_or newest k d)) cells (fires.only k d within)) kept.has
      (λ cell on h.
      let parts = and_parts (is_some (firing_of rules m cell)) (is_of_window cell.span (get_or newest k d)) on in
      subst S (sym (span_sound (get_or newest k d).element.span cell.span parts.1)) (kept_stands rules node c S TakenBy cell h (fires_standing cell parts.0)))

  abbrev of_window : Interval → List Pane
  of_window w = filter (is_of_window w) newest

  abbrev IsFiredBy : Cell → Option Timing → Type 0
  IsFiredBy cell timing = IsFiredAs node key c cell.span cell.next_index (map (taken_entry node) (entries_held rules.trigger.mode cell.entries)) timing (of_window cell.span)

  none_of : (w : Interval) → (S w → ⊥) → of_window w ≡ []
  none_of w off =
      filter_none (is_of_window w) newest
      (All-weaker (λ pane. S pane.element.span) (λ pane. is_of_window w pane ≡ false) (λ pane s. by (is_of_window w pane) (λ e. off (subst S (span_sound pane.element.span w e) s))) newest pane_stands)
    where
      by : (b : Bool) → (b ≡ true → ⊥) → b ≡ false
      by true h = absurd (h refl)
      by false h = refl

  -- a cell that doesn't stand fires none
  fired_by : (cell : Cell) → Kept rules node c S TakenBy cell → FiresIts rules node key c m newest cell → IsFiredBy cell (firing_of rules m cell)
  fired_by cell h its = by (is_standing cell.merged_into) refl
    where
      not_standing : (o : Option Interval) → KeepsEntries rules.merges S S TakenBy cell.span cell.entries o → is_standing o ≡ false → S cell.span → ⊥
      not_standing None k e s = absurd (cc)
      not_standing (Some into) k e s = k.0 s

      by : (b : Bool) → is_standing cell.merged_into ≡ b → IsFiredBy cell (firing_of rules m cell)
      by true e = its e
      by false e =
          subst (λ (b : Bool). IsFiredBy cell (cond b (firing rules.trigger cell.span.end m cell.on_time (unseen_in cell.entries)) None)) (sym e)
          (none_of cell.span (not_standing cell.merged_into h e))

  -- ---- a cell tells its panes after it fired

  fired_window : (w : Interval) (index : ℕ) (entries : List Taken) (timing : Timing) → (h : IsFiredAs node key c w index entries (Some timing) (of_window w)) → h.0.element.span ≡ w
  fired_window w index entries timing h = ap (λ (e : Element). e.span) h.2.holds

  fired_timing : (w : Interval) (index : ℕ) (entries : List Taken) (timing : Timing) → (h : IsFiredAs node key c w index entries (Some timing) (of_window w)) → h.0.element.pane.timing ≡ timing
  fired_timing w index entries timing h = ap (λ (e : Element). e.pane.timing) h.2.holds

  -- a pane of these shows an entry of a cell where it is of the cell's window
  shown_by : (cell : Cell) → Kept rules node c S TakenBy cell → FineIn rules node c S TakenBy cell
      → All (λ entry. list_any (shows rules (taken_entry node entry)) newest ≡ list_any (is_of_window cell.span) newest) cell.entries
  shown_by cell h fine_ = by cell.merged_into h
    where
      P : Entry → Type 0
      P = λ entry. list_any (shows rules (taken_entry node entry)) newest ≡ list_any (is_of_window cell.span) newest

      one : (t : Taken) → fits rules.merges t.element.span cell.span ≡ true → Fine rules node c S TakenBy t → S cell.span → (pane : Pane) → S pane.element.span → pane.commit ≡ c
          → shows rules t pane ≡ is_of_window cell.span pane
      one t own ok s pane pane_s commit = same_tests (shows rules t pane) (is_of_window cell.span pane)
          (λ e.
          let parts = and_parts (nat_le t.commit pane.commit) (belongs rules pane.element.span t) e in
          let same : pane.element.span ≡ cell.span = ok.1 pane.element.span cell.span pane_s s parts.1 own in
          subst (λ (u : Interval). same_span u cell.span ≡ true) (sym same) (span_itself cell.span))
          (λ e.
          and_from _ _ (le-leb _ _ (subst (λ (n : ℕ). t.commit ≤ n) (sym commit) ok.0))
          (subst (λ (u : Interval). fits rules.merges t.element.span u ≡ true) (sym (span_sound pane.element.span cell.span e)) own))

      by : (o : Option Interval) → KeepsEntries rules.merges S S TakenBy cell.span cell.entries o → All P cell.entries
      by None k = λ i d within. any_where (shows rules (taken_entry node (get_or cell.entries i d))) (is_of_window cell.span) newest
          (λ j e inside. one (taken_entry node (get_or cell.entries i d)) (k.1 i d within) (fine_ i d within) k.0 (get_or newest j e) (pane_stands j e inside) (commits j e inside))
      by (Some into) k = subst (λ (l : List Entry). All P l) (sym k.1) (All-nil P)

  or_false : (a b : Bool) → b ≡ false → (a || b) ≡ a
  or_false true b e = refl
  or_false false b e = e

  or_last : (a b : Bool) → b ≡ true → (a || b) ≡ true
  or_last true b e = refl
  or_last false b e = e

  or_out : (a b : Bool) → (a || (b || false)) ≡ (a || b)
  or_out true b = refl
  or_out false true = refl
  or_out false false = refl

  tells_fired : (cell : Cell) → TellsPanes rules node panes cell → Kept rules node c S TakenBy cell → FineIn rules node c S TakenBy cell
      → (timing : Option Timing) → IsFiredBy cell timing → TellsPanes rules node (panes ++ newest) (once_fired timing cell)
  tells_fired cell tells h fine_ timing fired_ = by timing fired_
    where
      counted : count_by (is_of_window cell.span) (panes ++ newest) ≡ cell.next_index + length (of_window cell.span)
      counted = count-append (is_of_window cell.span) panes newest ∙ omega (arith, tells.index, length-filter (is_of_window cell.span) newest)

      timed : list_any (is_on_time_of cell.span) (panes ++ newest) ≡ (cell.on_time || list_any (λ pane. is_on_time pane.element.pane.timing) (of_window cell.span))
      timed = list_any-append (is_on_time_of cell.span) panes newest
          ∙ (λ i. sym tells.on_time i || filtered_any (is_of_window cell.span) (λ pane. is_on_time pane.element.pane.timing) newest i)

      seen : (i : ℕ) (d : Entry) → i < length cell.entries
          → list_any (shows rules (taken_entry node (get_or cell.entries i d))) (panes ++ newest) ≡ ((get_or cell.entries i d).shown || list_any (is_of_window cell.span) (of_window cell.span))
      seen i d within = list_any-append (shows rules (taken_entry node (get_or cell.entries i d))) panes newest
          ∙ (λ j. sym (tells.shown i d within) j || (shown_by cell h fine_ i d within ∙ any_filtered (is_of_window cell.span) newest) j)

      by : (t : Option Timing) → IsFiredBy cell t → TellsPanes rules node (panes ++ newest) (once_fired t cell)
      by None none = record {
        index = omega (arith, counted, ap (λ (l : List Pane). length l) none);
        on_time = sym (timed ∙ or_false cell.on_time _ (ap (list_any (λ (pane : Pane). is_on_time pane.element.pane.timing)) none));
        shown = λ i d within. sym (seen i d within ∙ or_false _ _ (ap (list_any (is_of_window cell.span)) none));
      }
      by (Some timing_) one =
          let window = fired_window cell.span cell.next_index (map (taken_entry node) (entries_held rules.trigger.mode cell.entries)) timing_ one in
          let its = fired_timing cell.span cell.next_index (map (taken_entry node) (entries_held rules.trigger.mode cell.entries)) timing_ one in
          record {
            index = omega (arith, counted, ap (λ (l : List Pane). length l) one.1);
            on_time = sym (timed ∙ ap (λ l. cell.on_time || list_any (λ (pane : Pane). is_on_time pane.element.pane.timing) l) one.1
                ∙ ap (λ t. cell.on_time || (is_on_time t || false)) its ∙ or_out cell.on_time (is_on_time timing_));
            shown = All-map (λ (entry : Entry). entry.shown ≡ list_any (shows rules (taken_entry node entry)) (panes ++ newest)) shown cell.entries
                (λ i d within. sym (seen i d within ∙ or_last _ _ (ap (list_any (is_of_window cell.span)) one.1
                ∙ ap (λ (u : Interval). same_span u cell.span || false) window ∙ ap (λ b. b || false) (span_itself cell.span))));
          }

  has_fired : (timing : Option Timing) (cell : Cell) → Kept rules node c S TakenBy cell → Kept rules node c S TakenBy (once_fired timing cell)
  has_fired None cell k = k
  has_fired (Some timing) cell k = by cell.merged_into k
    where
      by : (o : Option Interval) → KeepsEntries rules.merges S S TakenBy cell.span cell.entries o → KeepsEntries rules.merges S S TakenBy cell.span (map shown cell.entries) o
      by None k = (k.0, All-map (λ entry. fits rules.merges entry.element.span cell.span ≡ true) shown cell.entries k.1)
      by (Some into) k = (k.0, ap (map shown) k.1, k.2)

  -- tests that look at the window and at whether a cell stands
  pub fire_count : (p : Option Interval → Interval → Bool) → count_by (λ cell. p cell.merged_into cell.span) (map (after_firing rules m) cells) ≡ count_by (λ cell. p cell.merged_into cell.span) cells
  fire_count p = count_same (after_firing rules m) (λ cell. p cell.merged_into cell.span) (λ cell. p cell.merged_into cell.span) (λ cell. by (firing_of rules m cell) cell) cells
    where
      by : (t : Option Timing) (cell : Cell) → p (once_fired t cell).merged_into (once_fired t cell).span ≡ p cell.merged_into cell.span
      by None cell = refl
      by (Some timing) cell = refl

  -- firing keeps what the cells tell
  pub fire_kept : AreKept rules node (panes ++ newest) S S TakenBy (map (after_firing rules m) cells)
  fire_kept = record {
    has = All-map (Kept rules node c S TakenBy) (after_firing rules m) cells (λ k d within. has_fired (firing_of rules m (get_or cells k d)) (get_or cells k d) (kept.has k d within));
    tells = All-map (TellsPanes rules node (panes ++ newest)) (after_firing rules m) cells
        (λ k d within. tells_fired (get_or cells k d) (kept.tells k d within) (kept.has k d within) (fine k d within) (firing_of rules m (get_or cells k d))
        (fired_by (get_or cells k d) (kept.has k d within) (fires.each k d within)));
    once = λ w. subst (λ (n : ℕ). n ≤ 1) (sym (fire_count (λ o u. same_span u w))) (kept.once w);
    every = λ w a. subst (λ (n : ℕ). 1 ≤ n) (sym (fire_count (λ o u. is_standing o && same_span u w))) (kept.every w a);
  }

  -- each window that stands fires by its trigger
  pub fire_legal : (w : Interval) → S w → IsFired rules node key c m w (filter (belongs rules w) (all_taken node cells)) panes (filter (is_of_window w) newest)
  fire_legal w stands =
      counted_has (stands_as w) P (IsFired rules node key c m w (filter (belongs rules w) (all_taken node cells)) panes (filter (is_of_window w) newest)) cells (kept.every w stands)
      (λ k d within. (kept.tells k d within, fires.each k d within, own_entries rules node c S TakenBy w stands cells kept.has fine kept.once k d within))
      (λ cell on h. let parts = and_parts (is_standing cell.merged_into) (has_window w cell) on in done cell h.0 (h.2 parts.1) parts.0 (span_sound cell.span w parts.1) h.1)
    where
      P : Cell → Type 0
      P = λ cell. TellsPanes rules node panes cell × FiresIts rules node key c m newest cell × (has_window w cell ≡ true → map (taken_entry node) cell.entries ≡ filter (belongs rules w) (all_taken node cells))

      done : (cell : Cell) → TellsPanes rules node panes cell → map (taken_entry node) cell.entries ≡ filter (belongs rules w) (all_taken node cells) → is_standing cell.merged_into ≡ true → cell.span ≡ w
          → FiresIts rules node key c m newest cell
          → IsFired rules node key c m w (filter (belongs rules w) (all_taken node cells)) panes (filter (is_of_window w) newest)
      done cell tells same st span its =
          let index : cell.next_index ≡ count_by (is_of_window w) panes = subst (λ (u : Interval). cell.next_index ≡ count_by (is_of_window u) panes) span tells.index in
          let timed : cell.on_time ≡ list_any (is_on_time_of w) panes = subst (λ (u : Interval). cell.on_time ≡ list_any (is_on_time_of u) panes) span tells.on_time in
          let unseen : unseen_in cell.entries ≡ count_by (is_unseen rules panes) (filter (belongs rules w) (all_taken node cells)) =
          sym (unseen_counted rules node panes cell.entries tells.shown) ∙ ap (count_by (is_unseen rules panes)) same in
          let holds : map (taken_entry node) (entries_held rules.trigger.mode cell.entries) ≡ held rules.trigger.mode rules panes (filter (belongs rules w) (all_taken node cells)) =
          sym (all_held rules node panes cell.entries tells.shown) ∙ ap (held rules.trigger.mode rules panes) same in
          let timing : firing_of rules m cell ≡ firing rules.trigger w.end m (list_any (is_on_time_of w) panes) (count_by (is_unseen rules panes) (filter (belongs rules w) (all_taken node cells))) =
          ap (λ b. cond b (firing rules.trigger cell.span.end m cell.on_time (unseen_in cell.entries)) None) st ∙ (λ i. firing rules.trigger (span i).end m (timed i) (unseen i)) in
          subst (λ (A : Type 0). A) (λ i. IsFiredAs node key c (span i) (index i) (holds i) (timing i) (filter (is_of_window (span i)) newest)) (its st)

-- a cell that fires keeps its entries
pub fire_taken : (rules : GroupRules) (node : ℕ) (m : ℤ) (cells : List Cell) → all_taken node (map (after_firing rules m) cells) ≡ all_taken node cells
fire_taken rules node m [] = refl
fire_taken rules node m (cell ∷ cells) = λ i. same (firing_of rules m cell) i ++ fire_taken rules node m cells i
  where
    each : (entries : List Entry) → map (taken_entry node) (map shown entries) ≡ map (taken_entry node) entries
    each [] = refl
    each (e ∷ entries) = ap (λ l. taken_entry node e ∷ l) (each entries)

    same : (t : Option Timing) → map (taken_entry node) (once_fired t cell).entries ≡ map (taken_entry node) cell.entries
    same None = refl
    same (Some timing) = each cell.entries
