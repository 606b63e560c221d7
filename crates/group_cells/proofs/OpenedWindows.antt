-- The windows for which a commit opens cells make a step.
use Rattle.std.proofs.Common.{◌≡◌, inl, inr, ℕ, suc, ◌≤◌, ◌<ℤ◌, ◌==◌, ℤ, pos, Bool, true, false, cond, List, [], ◌∷◌, ◌++◌, map, get_or, refl, sym, ap, ap₂, subst, arith}
use Rattle.std.specs.Prelude.{◌&&◌, not, ◌≤ℤ◌, ◌+ℤ◌, Option, Some, None}
use Rattle.std.specs.List.{All, Any, Contains, count_by, filter}
use Rattle.std.proofs.lemmas.Bool.{cases_Bool, and_from, and_parts, leb-true, le-leb, eqb-true, eq-eqb, not-true}
use Rattle.std.proofs.lemmas.List.Elements.{All-nil, All-cons, All-head, All-tail, All-contains, Contains-append_left, Contains-append_right, Contains-append_cases}
use Rattle.std.proofs.lemmas.List.Sums.{sum_by-cons}
use Rattle.beam_values.specs.Firing.{is_expired}
use Rattle.beam_values.specs.Intervals.{Interval}
use Rattle.beam_values.specs.Sessions.{LiesIn, IsSessionOf}
use Rattle.beam_values.specs.Spans.{same_span}
use Rattle.beam_values.specs.declared.value.Value.{Value}
use Rattle.beam_values.specs.declared.cell.Cell.{Cell}
use Rattle.beam_values.specs.declared.cell.Entry.{Entry}
use Rattle.beam_values.specs.declared.cell.Pane.{Pane}
use Rattle.beam_values.specs.declared.plan.Trigger.{Trigger}
use Rattle.beam_values.proofs.Bags.{sum_by-map}
use Rattle.beam_values.proofs.Sessions.{session_moved}
use Rattle.beam_model.specs.Panes.{Taken, GroupRules, taken_entry, is_late, arrives, Stands, IsLegalHistory, HasEntries, AreLegalCells}
use Rattle.session_merge.proofs.Lists.{contains_first, contains_later, contains_cases}
use Rattle.group_cells.specs.Placing.{is_standing, Opening}
use Rattle.group_cells.specs.Rounds.{is_open, open_windows, AreSessionsOver, AreWindowsFor}
use Rattle.group_cells.proofs.Counting.{none_counted, count_member, counted_more, counted_has}
use Rattle.group_cells.proofs.WindowTests.{span_itself, span_sound}
use Rattle.group_cells.proofs.StandingWindows.{IsOpen, IsInTime, Merging, merging_rules}
use Rattle.group_cells.proofs.WindowSteps.{IsIn, IsStep, plain_rules, plain_step, session_step}
use Rattle.group_cells.proofs.LongerHistory.{Arrives, After}
use Rattle.group_cells.proofs.OpenedCells.{has_window}
use Rattle.group_cells.proofs.AllOpened.{spans}
use Rattle.group_cells.proofs.MovedEntries.{all_taken}

-- ---- windows of items that pass tests

in_map : {X : Type 0} (f : X → Interval) (P : X → Type 0) (xs : List X) → All P xs → (v : Interval) → IsIn v (map f xs) → (x : X) × P x × (v ≡ f x)
in_map f P [] all v h = absurd h
in_map f P (x ∷ xs) all v (inl e) = (x, All-head P x xs all, e)
in_map f P (x ∷ xs) all v (inr later) = in_map f P xs (All-tail P x xs all) v later

counted_in_map : {X : Type 0} (f : X → Interval) (p : X → Bool) (v : Interval) → ((x : X) → p x ≡ true → f x ≡ v) → (xs : List X) → 1 ≤ count_by p xs → IsIn v (map f xs)
counted_in_map f p v is xs some = go xs some
  where
    go : (ys : List _) → 1 ≤ count_by p ys → IsIn v (map f ys)
    go [] n = absurd (omega arith)
    go (y ∷ ys) n = elim (cases_Bool (p y)) [
      | inl on ↦ inl (sym (is y on))
      | inr off ↦
          let here : cond {A = ℕ} (p y) 1 0 ≡ 0 = ap (λ (b : Bool). cond {A = ℕ} b 1 0) off in
          inr (go ys (omega (arith, sum_by-cons (λ (z : _). cond {A = ℕ} (p z) 1 0) y ys)))
    ]

counted_in_filter : {X : Type 0} (f : X → Interval) (p q : X → Bool) (v : Interval) → ((x : X) → p x ≡ true → f x ≡ v) → (xs : List X) → 1 ≤ count_by (λ x. q x && p x) xs → IsIn v (map f (filter q xs))
counted_in_filter f p q v is [] n = absurd (omega arith)
counted_in_filter f p q v is (y ∷ ys) n = by (q y) (p y) refl refl (counted_in_filter f p q v is ys)
  where
    less : (q y && p y) ≡ false → 1 ≤ count_by (λ x. q x && p x) ys
    less off =
        let here : cond {A = ℕ} (q y && p y) 1 0 ≡ 0 = ap (λ (b : Bool). cond {A = ℕ} b 1 0) off in
        omega (arith, n, sum_by-cons (λ (z : _). cond {A = ℕ} (q z && p z) 1 0) y ys)

    by : (a b : Bool) → q y ≡ a → p y ≡ b → (1 ≤ count_by (λ x. q x && p x) ys → IsIn v (map f (filter q ys))) → IsIn v (map f (cond a (y ∷ filter q ys) (filter q ys)))
    by true true e h onward = inl (sym (is y h))
    by true false e h onward = inr (onward (less (ap₂ (λ s t. s && t) e h)))
    by false b e h onward = onward (less (ap (λ s. s && p y) e))

-- ---- a listed window by its place

pub in_contains : (w : Interval) (ls : List Interval) → IsIn w ls → Contains ls w
in_contains w [] h = absurd h
in_contains w (x ∷ ls) (inl e) = subst (λ (u : Interval). Contains (x ∷ ls) u) (sym e) (contains_first x ls)
in_contains w (x ∷ ls) (inr later) = contains_later x ls w (in_contains w ls later)

pub contains_in : (w : Interval) (ls : List Interval) → Contains ls w → IsIn w ls
contains_in w [] h = absurd (omega (arith, h.1))
contains_in w (x ∷ ls) h = elim (contains_cases x ls w h) [ inl e ↦ inl e | inr later ↦ inr (contains_in w ls later) ]

around : (v : Interval) (ls : List Interval) → Any (LiesIn v) ls → (l : Interval) × IsIn l ls × LiesIn v l
around v ls at = (at.1, contains_in at.1 ls (at.0, at.2, at.3), at.4)

-- each own window lies in one of the sessions
pub covered : (own open_ windows : List Interval) (v : Interval) → AreSessionsOver own open_ windows → IsIn v own → (l : Interval) × IsIn l windows × LiesIn v l
covered own open_ windows v are inside = around v windows (All-contains (λ span. Any (LiesIn span) windows) own v are.covers (in_contains v own inside))

-- own windows of the gap's length
pub record Gapped (gap : ℤ) (taken : List Taken) (entries : List Entry) : Type 0 where
  pub some : pos 0 <ℤ gap
  pub old : All (λ e. e.element.span.end ≡ e.element.span.start +ℤ gap) taken
  pub new : All (λ e. e.element.span.end ≡ e.element.span.start +ℤ gap) entries

abbrev pub own_spans : List Entry → List Interval
own_spans entries = map (λ e. e.element.span) entries

module _ (rules : GroupRules) (node : ℕ) (mark : ℕ → ℤ) (c : ℕ) (cells : List Cell) (panes : List Pane) (entries : List Entry)
    (legal : AreLegalCells rules node mark c (all_taken node cells) panes cells) (new_commits : All (λ e. e.commit ≡ suc c) entries) where
  abbrev new : Interval → Type 0
  new v = Arrives (map (taken_entry node) entries) (suc c) v

  abbrev stood : Interval → Type 0
  stood w = Stands rules mark (arrives (all_taken node cells)) c w

  new_in : (v : Interval) → new v → IsIn v (own_spans entries)
  new_in v h =
      counted_in_map (λ e. e.element.span) (λ e. e.commit == suc c && same_span e.element.span v) v
      (λ e on. span_sound e.element.span v ((and_parts (e.commit == suc c) (same_span e.element.span v) on).1)) entries
      (subst (λ (n : ℕ). 1 ≤ n) (sum_by-map (λ e. cond {A = ℕ} (e.commit == suc c && same_span e.element.span v) 1 0) (taken_entry node) entries) (leb-true _ _ h))

  new_from : (v : Interval) → IsIn v (own_spans entries) → new v
  new_from v h =
      let found = in_map (λ e. e.element.span) (λ e. new e.element.span) entries arrived v h in
      subst new (sym found.2) found.1
    where
      arrived : All (λ e. new e.element.span) entries
      arrived k d within =
          le-leb _ _ (subst (λ (n : ℕ). 1 ≤ n) (sym (sum_by-map (λ e. cond {A = ℕ} (e.commit == suc c && same_span e.element.span (get_or entries k d).element.span) 1 0) (taken_entry node) entries))
          (count_member (λ e. e.commit == suc c && same_span e.element.span (get_or entries k d).element.span) entries k d within
          (and_from _ _ (eq-eqb _ _ (new_commits k d within)) (span_itself (get_or entries k d).element.span))))

  open_in : (v : Interval) → stood v → IsOpen rules.trigger (mark c) v → IsIn v (open_windows rules (mark c) cells)
  open_in v s is_open_ =
      counted_in_filter (λ cell. cell.span) (has_window v) (is_open rules (mark c)) v (λ cell on. span_sound cell.span v on) cells
      (counted_more (has_window v) (λ cell. is_open rules (mark c) cell && has_window v cell) (λ cell. HasEntries rules node mark c (all_taken node cells) cell.span cell.entries cell.merged_into)
      (λ cell h on. and_from _ _ (opens cell h (span_sound cell.span v on)) on) cells legal.has (legal.ever c v (omega arith) s))
    where
      opens : (cell : Cell) → HasEntries rules node mark c (all_taken node cells) cell.span cell.entries cell.merged_into → cell.span ≡ v → is_open rules (mark c) cell ≡ true
      opens cell h same = by cell.merged_into h
        where
          by : (o : Option Interval) → HasEntries rules node mark c (all_taken node cells) cell.span cell.entries o → (is_standing o && not (is_expired rules.trigger cell.span.end (mark c))) ≡ true
          by None h = subst (λ (u : Interval). not (is_expired rules.trigger u.end (mark c)) ≡ true) (sym same) (ap not is_open_)
          by (Some into) h = absurd (h.0 (subst stood (sym same) s))

  open_from : (v : Interval) → IsIn v (open_windows rules (mark c) cells) → stood v × IsOpen rules.trigger (mark c) v
  open_from v h =
      let found = in_map (λ cell. cell.span) (λ cell. stood cell.span × IsOpen rules.trigger (mark c) cell.span) (filter (is_open rules (mark c)) cells)
      (those cells legal.has) v h in
      (subst stood (sym found.2) found.1.0, subst (IsOpen rules.trigger (mark c)) (sym found.2) found.1.1)
    where
      P : Cell → Type 0
      P = λ cell. stood cell.span × IsOpen rules.trigger (mark c) cell.span

      one : (cell : Cell) → HasEntries rules node mark c (all_taken node cells) cell.span cell.entries cell.merged_into → is_open rules (mark c) cell ≡ true → P cell
      one cell h on = by cell.merged_into h on
        where
          by : (o : Option Interval) → HasEntries rules node mark c (all_taken node cells) cell.span cell.entries o → (is_standing o && not (is_expired rules.trigger cell.span.end (mark c))) ≡ true → P cell
          by None h on = (h.0, not-true (is_expired rules.trigger cell.span.end (mark c)) on)
          by (Some into) h on = absurd (cc)

      those : (xs : List Cell) → All (λ cell. HasEntries rules node mark c (all_taken node cells) cell.span cell.entries cell.merged_into) xs → All P (filter (is_open rules (mark c)) xs)
      those [] all = All-nil P
      those (x ∷ xs) all = test (is_open rules (mark c) x) refl (those xs (All-tail (λ cell. HasEntries rules node mark c (all_taken node cells) cell.span cell.entries cell.merged_into) x xs all))
        where
          test : (b : Bool) → is_open rules (mark c) x ≡ b → All P (filter (is_open rules (mark c)) xs)
              → All P (cond b (x ∷ filter (is_open rules (mark c)) xs) (filter (is_open rules (mark c)) xs))
          test true e rest = All-cons P x (filter (is_open rules (mark c)) xs) (one x (All-head (λ cell. HasEntries rules node mark c (all_taken node cells) cell.span cell.entries cell.merged_into) x xs all) e) rest
          test false e rest = rest

  -- each own window is in time
  module _ (gap : ℤ) (gapped : Gapped gap (all_taken node cells) entries) (kept : count_by (λ e. is_late rules mark e.commit e.element.span) (all_taken node cells) ≡ 0)
      (new_kept : All (λ e. is_late rules mark (suc c) e.element.span ≡ false) entries) where
    Fair : Taken → Type 0
    Fair e = (is_late rules mark e.commit e.element.span ≡ false) × (e.element.span.end ≡ e.element.span.start +ℤ gap)

    fair : All Fair (all_taken node cells)
    unfolding Fair
    fair k d within = (none_counted (λ e. is_late rules mark e.commit e.element.span) (all_taken node cells) kept k d within, gapped.old k d within)

    taken_fair : (d : ℕ) (v : Interval) → arrives (all_taken node cells) d v ≡ true → (is_late rules mark d v ≡ false) × (v.end ≡ v.start +ℤ gap)
    unfolding Fair
    taken_fair d v h =
        counted_has (λ e. e.commit == d && same_span e.element.span v) Fair ((is_late rules mark d v ≡ false) × (v.end ≡ v.start +ℤ gap)) (all_taken node cells) (leb-true _ _ h) fair
        (λ e on f. let parts = and_parts (e.commit == d) (same_span e.element.span v) on in
        subst (λ (n : ℕ). (is_late rules mark n v ≡ false) × (v.end ≡ v.start +ℤ gap)) (eqb-true _ _ parts.0)
        (subst (λ (u : Interval). (is_late rules mark e.commit u ≡ false) × (u.end ≡ u.start +ℤ gap)) (span_sound e.element.span v parts.1) f))

    first : (v : Interval) → arrives (all_taken node cells) 0 v ≡ true → ⊥
    first v h = let f = taken_fair 0 v h in let e : true ≡ false = f.0 in absurd (cc)

    in_time : (d : ℕ) → suc d ≤ c → (v : Interval) → arrives (all_taken node cells) (suc d) v ≡ true → IsInTime rules.trigger gap (mark d) v
    in_time d within v h = let f = taken_fair (suc d) v h in record { long = f.1; in_time = f.0 }

    new_in_time : (v : Interval) → new v → IsInTime rules.trigger gap (mark c) v
    new_in_time v h =
        let found = in_map (λ e. e.element.span) (λ e. (is_late rules mark (suc c) e.element.span ≡ false) × (e.element.span.end ≡ e.element.span.start +ℤ gap)) entries
        (λ k d within. (new_kept k d within, gapped.new k d within)) v (new_in v h) in
        let f = subst (λ (u : Interval). (is_late rules mark (suc c) u ≡ false) × (u.end ≡ u.start +ℤ gap)) (sym found.2) found.1 in
        record { long = f.1; in_time = f.0 }

-- ---- the windows make a step

module _ (node : ℕ) (key : Value) (gap : ℤ) (mark : ℕ → ℤ) (c : ℕ) (cells : List Cell) (dropped : List Taken) (panes : List Pane) (entries : List Entry) (openings : List Opening)
    (new_commits : All (λ e. e.commit ≡ suc c) entries)
    (rises : (d : ℕ) → suc d ≤ c → mark d ≤ℤ mark (suc d)) where
  abbrev StepOf : GroupRules → Type 0
  StepOf rules = IsStep rules mark (arrives (all_taken node cells)) c (Arrives (map (taken_entry node) entries) (suc c))
      (Stands rules mark (arrives (all_taken node cells)) c) (After rules mark c (all_taken node cells) (map (taken_entry node) entries)) (spans openings)

  pub step_for : (b : Bool) (trigger : Trigger) → IsLegalHistory (record { merges = b; trigger = trigger }) node key mark c (all_taken node cells) dropped panes
      → AreLegalCells (record { merges = b; trigger = trigger }) node mark c (all_taken node cells) panes cells → (b ≡ true → Gapped gap (all_taken node cells) entries)
      → All (λ e. is_late (record { merges = b; trigger = trigger }) mark (suc c) e.element.span ≡ false) entries
      → AreWindowsFor b (own_spans entries) (open_windows (record { merges = b; trigger = trigger }) (mark c) cells) (spans openings) → StepOf (record { merges = b; trigger = trigger })
  step_for false trigger history legal gapped new_kept windows =
      plain_step trigger mark (arrives (all_taken node cells)) c (Arrives (map (taken_entry node) entries) (suc c)) (spans openings)
      (λ v n. contains_in v (spans openings) ((windows v).1 (in_contains v (own_spans entries) (new_in (plain_rules trigger) node mark c cells panes entries legal new_commits v n))))
      (λ v h. new_from (plain_rules trigger) node mark c cells panes entries legal new_commits v (contains_in v (own_spans entries) ((windows v).0 (in_contains v (spans openings) h))))
  step_for true trigger history legal gapped new_kept windows =
      session_step trigger mark (arrives (all_taken node cells)) c (Arrives (map (taken_entry node) entries) (suc c)) (spans openings) gap (gapped refl).some
      (first (merging_rules trigger) node mark c cells panes entries legal new_commits gap (gapped refl) history.kept new_kept)
      (in_time (merging_rules trigger) node mark c cells panes entries legal new_commits gap (gapped refl) history.kept new_kept)
      rises history.onward
      (new_in_time (merging_rules trigger) node mark c cells panes entries legal new_commits gap (gapped refl) history.kept new_kept)
      (λ s inside.
      session_moved (Contains (opens ++ own_spans entries)) M s
      (λ v h. elim (Contains-append_cases opens (own_spans entries) v h) [ inl o ↦ inl (from_open v (contains_in v opens o)) | inr n ↦ inr (from_new v (contains_in v (own_spans entries) n)) ])
      (λ v h. elim h [
        | inl o ↦ Contains-append_left opens (own_spans entries) v (in_contains v opens (to_open v o.0 o.1))
        | inr n ↦ Contains-append_right opens (own_spans entries) v (in_contains v (own_spans entries) (to_new v n))
      ])
      (All-contains (IsSessionOf (Contains (opens ++ own_spans entries))) (spans openings) s windows.each (in_contains s (spans openings) inside)))
      (λ v n. covered (own_spans entries) opens (spans openings) v windows (to_new v n))
    where
      opens : List Interval
      opens = open_windows (merging_rules trigger) (mark c) cells

      M : Interval → Type 0
      M = λ v. Merging trigger (mark c) (Stands (merging_rules trigger) mark (arrives (all_taken node cells)) c) (Arrives (map (taken_entry node) entries) (suc c)) v

      to_new : (v : Interval) → Arrives (map (taken_entry node) entries) (suc c) v → IsIn v (own_spans entries)
      to_new = new_in (merging_rules trigger) node mark c cells panes entries legal new_commits

      from_new : (v : Interval) → IsIn v (own_spans entries) → Arrives (map (taken_entry node) entries) (suc c) v
      from_new = new_from (merging_rules trigger) node mark c cells panes entries legal new_commits

      to_open : (v : Interval) → Stands (merging_rules trigger) mark (arrives (all_taken node cells)) c v → IsOpen trigger (mark c) v → IsIn v (open_windows (merging_rules trigger) (mark c) cells)
      to_open = open_in (merging_rules trigger) node mark c cells panes entries legal new_commits

      from_open : (v : Interval) → IsIn v (open_windows (merging_rules trigger) (mark c) cells) → Stands (merging_rules trigger) mark (arrives (all_taken node cells)) c v × IsOpen trigger (mark c) v
      from_open = open_from (merging_rules trigger) node mark c cells panes entries legal new_commits
