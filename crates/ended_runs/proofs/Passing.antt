-- A window under the default trigger fires once, on time, in the first commit whose mark passes its end, and nothing comes to it afterwards.
use Rattle.std.proofs.Common.{◌≡◌, ◌⊎◌, inl, inr, ℕ, zero, suc, ◌-◌, ◌<◌, ◌≤◌, min, ℤ, pos, Bool, true, false, cond, List, [], ◌∷◌, length, get_or, map, refl, sym, ap, subst, ◌∙◌, arith}
use Rattle.std.specs.Prelude.{Option, Some, None, ◌==◌, ◌&&◌, ◌||◌, ◌≤ℤ◌, ◌<ℤ◌, ◌+ℤ◌, nat_le, nat_lt, int_le, not}
use Rattle.std.specs.List.{All, count_by, filter, list_any}
use Rattle.std.specs.List.Sorted.{IsSorted}
use Rattle.std.proofs.lemmas.Bool.{and_parts, and_from, cases_lt, eq-eqb, eqb-true}
use Rattle.std.proofs.lemmas.Bool.Decides.{nat_tests}
use Rattle.std.proofs.lemmas.Int.{by_lt_z, ints}
use Rattle.std.proofs.lemmas.List.Elements.{All-nil, All-cons, All-head, All-filter, filter_passes}
use Rattle.std.proofs.lemmas.List.Sums.{length-filter}
use Rattle.std.proofs.lemmas.List.Folds.{list_any_at}
use Rattle.beam_values.specs.Firing.{firing, is_expired, is_late_due}
use Rattle.beam_values.specs.Bags.{IsSameBag}
use Rattle.beam_values.specs.Grouping.{key_of, pane_as, pane_with, part_of}
use Rattle.beam_values.specs.Intervals.{Interval}
use Rattle.beam_values.specs.Spans.{same_span, lies_in}
use Rattle.beam_values.specs.Times.{final_mark}
use Rattle.beam_values.specs.declared.cell.Pane.{Pane}
use Rattle.beam_values.specs.Orders.{value_cmp}
use Rattle.beam_values.specs.declared.element.PaneTag.{PaneTag}
use Rattle.beam_values.specs.declared.element.Timing.{Timing}
use Rattle.beam_values.specs.declared.element.Timing.TheVariants.{Early, OnTime, Late, Unknown}
use Rattle.beam_values.specs.declared.value.Value.{Value}
use Rattle.beam_model.specs.Panes.{GroupRules, IsFiredAs, IsLegalHistory, IsPaneOf, Stands, StandsNext, Taken, arrives, belongs, entries_upto, is_late, is_of_window, is_on_time, is_on_time_of, is_unseen, panes_before, panes_in, shows}
use Rattle.beam_model.specs.Plans.{default_trigger}
use Rattle.group_cells.proofs.Counting.{any_counted, count_member, count_none, filter_all, filter_where, none_any, none_counted}
use Rattle.group_cells.proofs.WindowTests.{lies_from, span_itself, span_sound}
use Rattle.book_core.proofs.Through.{passes_have}

-- ---- the table

pub on_time_passed : (end mark : ℤ) (flag : Bool) (unseen : ℕ) → firing default_trigger end mark flag unseen ≡ Some OnTime → end ≤ℤ mark
on_time_passed end mark true unseen is = absurd (late (is_late_due default_trigger end mark unseen) is)
  where
    late : (t : Bool) → cond t (Some Late) None ≡ Some OnTime → ⊥
    late true e = absurd (cc)
    late false e = absurd (cc)
on_time_passed end mark false unseen is = by (int_le end mark) refl is
  where
    by : (t : Bool) → int_le end mark ≡ t → cond t (Some OnTime) None ≡ Some OnTime → end ≤ℤ mark
    by true e same = grind (arith, ints)
    by false e same = absurd (cc)

-- what fires is on time, or late behind one that was on time
pub fires_as : (end mark : ℤ) (flag : Bool) (unseen : ℕ) (timing : Timing) → firing default_trigger end mark flag unseen ≡ Some timing
    → ((flag ≡ true) × (1 ≤ unseen)) ⊎ ((flag ≡ false) × (timing ≡ OnTime))
fires_as end mark true unseen timing is = by (nat_le 1 unseen) refl is
  where
    some : (n : ℕ) → nat_le 1 n ≡ true → 1 ≤ n
    some n e = grind (arith, nat_tests)

    by : (t : Bool) → nat_le 1 unseen ≡ t → cond (t && (nat_le 1 unseen || is_expired default_trigger end mark)) (Some Late) None ≡ Some timing
        → ((true ≡ true) × (1 ≤ unseen)) ⊎ ((true ≡ false) × (timing ≡ OnTime))
    by true e same = inl (refl, some unseen e)
    by false e same = absurd (cc)
fires_as end mark false unseen timing is = by (int_le end mark) is
  where
    by : (t : Bool) → cond t (Some OnTime) None ≡ Some timing → ((false ≡ true) × (1 ≤ unseen)) ⊎ ((false ≡ false) × (timing ≡ OnTime))
    by true same = let e : OnTime ≡ timing = cc in inr (refl, sym e)
    by false same = absurd (cc)

-- a window that is passed fires, or has fired on time
pub passed_fires : (end mark : ℤ) (flag : Bool) (unseen : ℕ) → end ≤ℤ mark → (flag ≡ true) ⊎ (firing default_trigger end mark flag unseen ≡ Some OnTime)
passed_fires end mark true unseen passed = inl refl
passed_fires end mark false unseen passed = inr (by (int_le end mark) (test end mark passed))
  where
    test : (a b : ℤ) → a ≤ℤ b → int_le a b ≡ true
    test a b le = grind (arith, ints)

    by : (t : Bool) → t ≡ true → cond t (Some OnTime) None ≡ Some OnTime
    by true e = refl
    by false e = absurd (cc)

-- ---- lists

-- one that passes, where some do
pub passing : {X : Type 0} (test : X → Bool) (xs : List X) → list_any test xs ≡ true → (k : ℕ) × (d : X) × (k < length xs) × (test (get_or xs k d) ≡ true)
passing test [] some = absurd (cc)
passing test (x ∷ xs) some = by (test x) refl some (passing test xs)
  where
    by : (t : Bool) → test x ≡ t → (t || list_any test xs) ≡ true → (list_any test xs ≡ true → (k : ℕ) × (d : _) × (k < length xs) × (test (get_or xs k d) ≡ true))
        → (k : ℕ) × (d : _) × (k < length (x ∷ xs)) × (test (get_or (x ∷ xs) k d) ≡ true)
    by true e some later = (0, x, omega arith, e)
    by false e some later = let at = later some in (suc at.0, at.1, omega (arith, at.2), at.3)

pub any_wider : {X : Type 0} (test p q : X → Bool) → ((x : X) → p x ≡ true → q x ≡ true) → (xs : List X) → list_any test (filter p xs) ≡ true → list_any test (filter q xs) ≡ true
any_wider test p q wider [] some = some
any_wider test p q wider (x ∷ xs) some = by (p x) (q x) (wider x) some (any_wider test p q wider xs)
  where
    left : (t u : Bool) → u ≡ true → (t || u) ≡ true
    left true u e = refl
    left false u e = e

    both : (t u v : Bool) → (u ≡ true → v ≡ true) → (t || u) ≡ true → (t || v) ≡ true
    both true u v h e = refl
    both false u v h e = h e

    by : (a b : Bool) → (a ≡ true → b ≡ true) → list_any test (cond a (x ∷ filter p xs) (filter p xs)) ≡ true
        → (list_any test (filter p xs) ≡ true → list_any test (filter q xs) ≡ true) → list_any test (cond b (x ∷ filter q xs) (filter q xs)) ≡ true
    by true true h e later = both (test x) (list_any test (filter p xs)) (list_any test (filter q xs)) later e
    by true false h e later = absurd (no (h refl))
      where
        no : false ≡ true → ⊥
        no f = absurd (cc)
    by false true h e later = left (test x) (list_any test (filter q xs)) (later e)
    by false false h e later = later e

pub all_filtered : {X : Type 0} (p : X → Bool) (P : X → Type 0) (xs : List X) → All P xs → All (λ x. (p x ≡ true) × P x) (filter p xs)
all_filtered p P xs h k d inside = (filter_passes p xs k d inside, All-filter p P xs h k d inside)

pub any_test : {X : Type 0} (f g : X → Bool) → ((x : X) → f x ≡ true → g x ≡ true) → (xs : List X) → list_any f xs ≡ true → list_any g xs ≡ true
any_test f g more xs some = let at = passing f xs some in list_any_at g xs at.0 at.1 at.2 (more (get_or xs at.0 at.1) at.3)

pub any_kept : {X : Type 0} (test p : X → Bool) (xs : List X) (k : ℕ) (d : X) → k < length xs → test (get_or xs k d) ≡ true → p (get_or xs k d) ≡ true → list_any test (filter p xs) ≡ true
any_kept test p [] k d inside passes kept = absurd (omega arith)
any_kept test p (x ∷ xs) zero d inside passes kept =
    ap (λ (t : Bool). list_any test (cond t (x ∷ filter p xs) (filter p xs))) kept ∙ ap (λ (t : Bool). t || list_any test (filter p xs)) passes
any_kept test p (x ∷ xs) (suc k) d inside passes kept = by (p x) (any_kept test p xs k d (omega arith) passes kept)
  where
    right : (t u : Bool) → u ≡ true → (t || u) ≡ true
    right true u e = refl
    right false u e = e

    by : (t : Bool) → list_any test (filter p xs) ≡ true → list_any test (cond t (x ∷ filter p xs) (filter p xs)) ≡ true
    by true h = right (test x) (list_any test (filter p xs)) h
    by false h = h

pub any_of_kept : {X : Type 0} (test p : X → Bool) (xs : List X) → list_any test (filter p xs) ≡ true → list_any test xs ≡ true
any_of_kept test p xs some =
    let at = passing test (filter p xs) some in
    by (list_any test xs) refl at.0 at.1 at.2 at.3
  where
    by : (t : Bool) → list_any test xs ≡ t → (k : ℕ) (d : _) → k < length (filter p xs) → test (get_or (filter p xs) k d) ≡ true → t ≡ true
    by true e k d inside passes = refl
    by false e k d inside passes = absurd (never (test (get_or (filter p xs) k d)) passes (All-filter p (λ x. test x ≡ false) xs (none_any test xs e) k d inside))
      where
        never : (t : Bool) → t ≡ true → t ≡ false → ⊥
        never true e f = absurd (cc)
        never false e f = absurd (cc)

pub from_count : {X : Type 0} (test : X → Bool) (xs : List X) → nat_le 1 (count_by test xs) ≡ true → list_any test xs ≡ true
from_count test xs e = by (list_any test xs) refl
  where
    none : list_any test xs ≡ false → ⊥
    none off = let zeros : count_by test xs ≡ 0 = count_none test xs (none_any test xs off) in never (count_by test xs) zeros e
      where
        never : (n : ℕ) → n ≡ 0 → nat_le 1 n ≡ true → ⊥
        never n z e = grind (arith, nat_tests)

    by : (t : Bool) → list_any test xs ≡ t → t ≡ true
    by true e = refl
    by false e = absurd (none e)

-- ---- one key of a Group

module _ (merges : Bool) (node : ℕ) (key : Value) (mark : ℕ → ℤ) (last : ℕ) (taken dropped : List Taken) (panes : List Pane)
    (history : IsLegalHistory (record { merges = merges; trigger = default_trigger }) node key mark last taken dropped panes)
    (rises : (a b : ℕ) → a ≤ b → b ≤ last → mark a ≤ℤ mark b) where
  abbrev pub rules : GroupRules
  rules = record { merges = merges; trigger = default_trigger }

  abbrev pub StandsAt : ℕ → Interval → Type 0
  StandsAt c w = Stands rules mark (arrives taken) c w

  -- what was taken was in time, and of a commit so far
  pub record IsInTime (t : Taken) : Type 0 where
    pub first : 1 ≤ t.commit
    pub within : t.commit ≤ last
    pub before : mark (t.commit - 1) <ℤ t.element.span.end

  pub all_in_time : All IsInTime taken
  all_in_time k d inside =
      let t = get_or taken k d in
      let kept = by t.commit (none_counted (λ t. is_late rules mark t.commit t.element.span) taken history.kept k d inside) in
      record { first = kept.0; within = upto t.commit (none_counted (λ t. nat_lt last t.commit) taken history.taken_commits k d inside); before = kept.1 }
    where
      upto : (c : ℕ) → nat_lt last c ≡ false → c ≤ last
      upto c e = grind (arith, nat_tests)

      early : (end m : ℤ) → int_le (end +ℤ pos 0) m ≡ false → m <ℤ end
      early end m e = grind (arith, ints)

      by : (c : ℕ) → is_late rules mark c (get_or taken k d).element.span ≡ false → (1 ≤ c) × (mark (c - 1) <ℤ (get_or taken k d).element.span.end)
      by zero e = absurd (cc)
      by (suc c) e =
          let one : c ≡ suc c - 1 = omega arith in
          (omega arith, subst (λ (n : ℕ). mark n <ℤ (get_or taken k d).element.span.end) one (early (get_or taken k d).element.span.end (mark c) e))

  belongs_ends : (t : Taken) (w : Interval) → belongs rules w t ≡ true → t.element.span.end ≤ℤ w.end
  belongs_ends t w = by merges
    where
      by : (m : Bool) → cond m (lies_in t.element.span w) (same_span t.element.span w) ≡ true → t.element.span.end ≤ℤ w.end
      by true e = (lies_from t.element.span w e).1
      by false e = let same : t.element.span.end ≡ w.end = ap (λ (v : Interval). v.end) (span_sound t.element.span w e) in omega (arith, ints)

  -- once the mark has passed a window, nothing more comes to it
  pub none_later : (d : ℕ) (w : Interval) → w.end ≤ℤ mark d → (t : Taken) → IsInTime t → belongs rules w t ≡ true → t.commit ≤ d
  none_later d w passed t in_time belong = elim (cases_lt d t.commit) [
    | inl later ↦ absurd (clash (rises d (t.commit - 1) (omega arith) (less t.commit in_time.within)) in_time.before (belongs_ends t w belong))
    | inr early ↦ early
  ]
    where
      less : (c : ℕ) → c ≤ last → c - 1 ≤ last
      less c h = omega arith

      clash : mark d ≤ℤ mark (t.commit - 1) → mark (t.commit - 1) <ℤ t.element.span.end → t.element.span.end ≤ℤ w.end → ⊥
      clash a b c = omega (arith, ints, passed)

  -- ---- what a pane is

  abbrev pub flag : ℕ → Interval → Bool
  flag c w = list_any (is_on_time_of w) (panes_before c panes)

  abbrev pub unseen : ℕ → Interval → ℕ
  unseen c w = count_by (is_unseen rules (panes_before c panes)) (entries_upto rules w c taken)

  pub record IsFiredPane (p : Pane) : Type 0 where
    pub first : 1 ≤ p.commit
    pub within : p.commit ≤ last
    pub stands : StandsAt p.commit p.element.span
    pub timing : Timing
    pub fires : firing default_trigger p.element.span.end (mark p.commit) (flag p.commit p.element.span) (unseen p.commit p.element.span) ≡ Some timing
    pub is : IsPaneOf node key p.commit p.element.span timing (count_by (is_of_window p.element.span) (panes_before p.commit panes))
        (filter (is_unseen rules (panes_before p.commit panes)) (entries_upto rules p.element.span p.commit taken)) p

  abbrev FiresOf : ℕ → Interval → Pane → Type 0
  FiresOf c w p = (timing : Timing) × (firing default_trigger w.end (mark c) (flag c w) (unseen c w) ≡ Some timing)
      × IsPaneOf node key c w timing (count_by (is_of_window w) (panes_before c panes)) (filter (is_unseen rules (panes_before c panes)) (entries_upto rules w c taken)) p

  fired_each : (c : ℕ) (w : Interval) (o : Option Timing) → firing default_trigger w.end (mark c) (flag c w) (unseen c w) ≡ o → (fired : List Pane)
      → IsFiredAs node key c w (count_by (is_of_window w) (panes_before c panes)) (filter (is_unseen rules (panes_before c panes)) (entries_upto rules w c taken)) o fired
      → All (FiresOf c w) fired
  fired_each c w None fires fired is = subst (All (FiresOf c w)) (sym is) (All-nil (FiresOf c w))
  fired_each c w (Some timing) fires fired is = subst (All (FiresOf c w)) (sym is.1) (All-cons (FiresOf c w) is.0 [] (timing, fires, is.2) (All-nil (FiresOf c w)))

  pub all_fired : All IsFiredPane panes
  all_fired k d inside =
      let p = get_or panes k d in
      let bounds = history.pane_commits k d inside in
      let stands = history.only k d inside in
      let each = passes_have (λ (q : Pane). q.commit == p.commit && is_of_window p.element.span q) (FiresOf p.commit p.element.span) panes
      (fired_each p.commit p.element.span (firing default_trigger p.element.span.end (mark p.commit) (flag p.commit p.element.span) (unseen p.commit p.element.span)) refl
      (panes_in p.commit p.element.span panes) (history.fired p.commit p.element.span bounds.0 bounds.1 stands)) k d inside (own p) in
      record { first = bounds.0; within = bounds.1; stands = stands; timing = each.0; fires = each.1; is = each.2 }
    where
      own : (p : Pane) → (p.commit == p.commit && is_of_window p.element.span p) ≡ true
      own p = let same : (p.commit == p.commit) ≡ true = grind (arith, nat_tests) in and_from (p.commit == p.commit) (is_of_window p.element.span p) same (span_itself p.element.span)

  told_timing : (p : Pane) (fired : IsFiredPane p) → p.element.pane.timing ≡ fired.timing
  told_timing p fired = ap (λ e. e.pane.timing) fired.is.holds

  tested_timing : (t : Timing) → is_on_time t ≡ true → t ≡ OnTime
  tested_timing Early e = absurd (cc)
  tested_timing OnTime e = refl
  tested_timing Late e = absurd (cc)
  tested_timing Unknown e = absurd (cc)

  -- ---- the mark has passed the window of each pane

  earlier_facts : (c : ℕ) → All (λ p. (nat_lt p.commit c ≡ true) × IsFiredPane p) (panes_before c panes)
  earlier_facts c = all_filtered (λ p. nat_lt p.commit c) IsFiredPane panes all_fired

  earlier : (a b : ℕ) → nat_lt a b ≡ true → a < b
  earlier a b e = grind (arith, nat_tests)

  earlier_test : (a b : ℕ) → a < b → nat_lt a b ≡ true
  earlier_test a b h = grind (arith, nat_tests)

  no_later : (a b : ℕ) → a ≤ b → nat_le a b ≡ true
  no_later a b h = grind (arith, nat_tests)

  -- where one was on time before, the mark had passed the window then
  flag_passed : (c : ℕ) (w : Interval) → c ≤ last → flag c w ≡ true → w.end ≤ℤ mark c
  flag_passed c w within on = by (passing (is_on_time_of w) (panes_before c panes) on)
    where
      by : (k : ℕ) × (d : Pane) × (k < length (panes_before c panes)) × (is_on_time_of w (get_or (panes_before c panes) k d) ≡ true) → w.end ≤ℤ mark c
      by (k, d, inside, passes) =
          let q = get_or (panes_before c panes) k d in
          let facts = earlier_facts c k d inside in
          let parts = and_parts (is_of_window w q) (is_on_time q.element.pane.timing) passes in
          let same : q.element.span ≡ w = span_sound q.element.span w parts.0 in
          let timing : facts.1.timing ≡ OnTime = sym (told_timing q facts.1) ∙ tested_timing q.element.pane.timing parts.1 in
          le q same (on_time_passed q.element.span.end (mark q.commit) (flag q.commit q.element.span) (unseen q.commit q.element.span) (facts.1.fires ∙ ap Some timing))
          (rises q.commit c (low q.commit (earlier q.commit c facts.0)) within)
        where
          low : (n : ℕ) → n < c → n ≤ c
          low n h = omega arith

          le : (q : Pane) → q.element.span ≡ w → q.element.span.end ≤ℤ mark q.commit → mark q.commit ≤ℤ mark c → w.end ≤ℤ mark c
          le q same a b = let e : q.element.span.end ≡ w.end = ap (λ (v : Interval). v.end) same in omega (arith, ints, a, b, e)

  pub pane_passed : (p : Pane) → IsFiredPane p → p.element.span.end ≤ℤ mark p.commit
  pane_passed p fired =
      elim (fires_as p.element.span.end (mark p.commit) (flag p.commit p.element.span) (unseen p.commit p.element.span) fired.timing fired.fires) [
        | inl again ↦ flag_passed p.commit p.element.span fired.within again.0
        | inr once ↦
            on_time_passed p.element.span.end (mark p.commit) (flag p.commit p.element.span) (unseen p.commit p.element.span) (fired.fires ∙ ap Some once.1)
      ]

  -- ---- no window fires twice

  no_unseen : (c : ℕ) (w : Interval) (k : ℕ) (d : Pane) → k < length (panes_before c panes) → is_of_window w (get_or (panes_before c panes) k d) ≡ true → unseen c w ≡ 0
  no_unseen c w k d inside passes = count_none (is_unseen rules (panes_before c panes)) (entries_upto rules w c taken) each
    where
      q : Pane
      q = get_or (panes_before c panes) k d

      facts : (nat_lt (get_or (panes_before c panes) k d).commit c ≡ true) × IsFiredPane (get_or (panes_before c panes) k d)
      facts = earlier_facts c k d inside

      same : (get_or (panes_before c panes) k d).element.span ≡ w
      same = span_sound (get_or (panes_before c panes) k d).element.span w passes

      passed : w.end ≤ℤ mark (get_or (panes_before c panes) k d).commit
      passed = subst (λ (v : Interval). v.end ≤ℤ mark (get_or (panes_before c panes) k d).commit) same (pane_passed (get_or (panes_before c panes) k d) facts.1)

      seen : (t : Taken) → (belongs rules w t && nat_le t.commit c) ≡ true → IsInTime t → is_unseen rules (panes_before c panes) t ≡ false
      seen t belong in_time =
          let own = (and_parts (belongs rules w t) (nat_le t.commit c) belong).0 in
          let low = none_later (get_or (panes_before c panes) k d).commit w passed t in_time own in
          let shown : shows rules t (get_or (panes_before c panes) k d) ≡ true =
          and_from (nat_le t.commit (get_or (panes_before c panes) k d).commit) (belongs rules (get_or (panes_before c panes) k d).element.span t) (no_later t.commit (get_or (panes_before c panes) k d).commit low)
          (subst (λ (v : Interval). belongs rules v t ≡ true) (sym same) own) in
          ap not (list_any_at (shows rules t) (panes_before c panes) k d inside shown)

      each : All (λ t. is_unseen rules (panes_before c panes) t ≡ false) (entries_upto rules w c taken)
      each j e within =
          let at = all_filtered (λ t. belongs rules w t && nat_le t.commit c) IsInTime taken all_in_time j e within in
          seen (get_or (entries_upto rules w c taken) j e) at.0 at.1

  -- where a window fired before, it fired on time before
  flag_of : (c : ℕ) (w : Interval) (k : ℕ) (d : Pane) → k < length (panes_before c panes) → is_of_window w (get_or (panes_before c panes) k d) ≡ true → flag c w ≡ true
  flag_of c w k d inside passes =
      elim (fires_as q.element.span.end (mark q.commit) (flag q.commit q.element.span) (unseen q.commit q.element.span) facts.1.timing facts.1.fires) [
        | inl again ↦
            any_wider (is_on_time_of w) (λ p. nat_lt p.commit q.commit) (λ p. nat_lt p.commit c) (λ p e. sooner p.commit q.commit e facts.0) panes
            (subst (λ (v : Interval). flag q.commit v ≡ true) (span_sound q.element.span w passes) again.0)
        | inr once ↦
            list_any_at (is_on_time_of w) (panes_before c panes) k d inside
            (and_from (is_of_window w q) (is_on_time q.element.pane.timing) passes (ap is_on_time (told_timing q facts.1 ∙ once.1)))
      ]
    where
      q : Pane
      q = get_or (panes_before c panes) k d

      facts : (nat_lt (get_or (panes_before c panes) k d).commit c ≡ true) × IsFiredPane (get_or (panes_before c panes) k d)
      facts = earlier_facts c k d inside

      sooner : (a b : ℕ) → nat_lt a b ≡ true → nat_lt b c ≡ true → nat_lt a c ≡ true
      sooner a b e f = grind (arith, nat_tests)

  -- so no pane has an earlier one of its window
  pub first_of_window : (p : Pane) → IsFiredPane p → list_any (is_of_window p.element.span) (panes_before p.commit panes) ≡ false
  first_of_window p fired = by (list_any (is_of_window p.element.span) (panes_before p.commit panes)) refl
    where
      never : (k : ℕ) × (d : Pane) × (k < length (panes_before p.commit panes)) × (is_of_window p.element.span (get_or (panes_before p.commit panes) k d) ≡ true) → ⊥
      never (k, d, inside, passes) =
          let on = flag_of p.commit p.element.span k d inside passes in
          let none = no_unseen p.commit p.element.span k d inside passes in
          elim (fires_as p.element.span.end (mark p.commit) (flag p.commit p.element.span) (unseen p.commit p.element.span) fired.timing fired.fires) [
            | inl again ↦ some_none (unseen p.commit p.element.span) again.1 none
            | inr once ↦ on_off (flag p.commit p.element.span) on once.0
          ]
        where
          some_none : (n : ℕ) → 1 ≤ n → n ≡ 0 → ⊥
          some_none n h e = omega arith

          on_off : (t : Bool) → t ≡ true → t ≡ false → ⊥
          on_off true e f = absurd (cc)
          on_off false e f = absurd (cc)

      by : (t : Bool) → list_any (is_of_window p.element.span) (panes_before p.commit panes) ≡ t → t ≡ false
      by true e = absurd (never (passing (is_of_window p.element.span) (panes_before p.commit panes) e))
      by false e = refl

  -- ---- windows that are passed have fired

  pub fired_upto : (c : ℕ) (w : Interval) → 1 ≤ c → c ≤ last → StandsAt c w → w.end ≤ℤ mark c → list_any (is_of_window w) (filter (λ p. nat_le p.commit c) panes) ≡ true
  fired_upto c w first within stands passed =
      elim (passed_fires w.end (mark c) (flag c w) (unseen c w) passed) [
        | inl on ↦
            any_wider (is_of_window w) (λ p. nat_lt p.commit c) (λ p. nat_le p.commit c) (λ p e. less_or p.commit e) panes
            (any_test (is_on_time_of w) (is_of_window w) (λ p e. (and_parts (is_of_window w p) (is_on_time p.element.pane.timing) e).0) (panes_before c panes) on)
        | inr fires ↦
            now (subst (λ (o : Option Timing). IsFiredAs node key c w (count_by (is_of_window w) (panes_before c panes)) (filter (is_unseen rules (panes_before c panes)) (entries_upto rules w c taken)) o (panes_in c w panes))
            fires (history.fired c w first within stands))
      ]
    where
      less_or : (a : ℕ) → nat_lt a c ≡ true → nat_le a c ≡ true
      less_or a e = grind (arith, nat_tests)

      equal_or : (a : ℕ) → (a == c) ≡ true → nat_le a c ≡ true
      equal_or a e = grind (arith, nat_tests)

      now : IsFiredAs node key c w (count_by (is_of_window w) (panes_before c panes)) (filter (is_unseen rules (panes_before c panes)) (entries_upto rules w c taken)) (Some OnTime) (panes_in c w panes)
          → list_any (is_of_window w) (filter (λ p. nat_le p.commit c) panes) ≡ true
      now is =
          let test : Pane → Bool = λ p. p.commit == c && is_of_window w p in
          let passes = All-head (λ p. test p ≡ true) is.0 [] (subst (All (λ p. test p ≡ true)) is.1 (filter_passes test panes)) in
          let parts = and_parts (is.0.commit == c) (is_of_window w is.0) passes in
          let here : list_any (is_of_window w) (is.0 ∷ []) ≡ true = ap (λ (t : Bool). t || false) parts.1 in
          any_wider (is_of_window w) test (λ p. nat_le p.commit c) (λ p e. equal_or p.commit (and_parts (p.commit == c) (is_of_window w p) e).0) panes
          (subst (λ (l : List Pane). list_any (is_of_window w) l ≡ true) (sym is.1) here)

  -- before the commit of a pane the mark hadn't passed its window
  pub not_passed_before : (p : Pane) → IsFiredPane p → mark (p.commit - 1) <ℤ p.element.span.end
  not_passed_before p fired = by p.commit refl
    where
      stood_first : (c : ℕ) → suc c ≡ p.commit → StandsAt c p.element.span → mark c <ℤ p.element.span.end
      stood_first c is stood = by_lt_z (mark c) p.element.span.end (λ less. less) (λ passed. absurd (again passed))
        where
          again : p.element.span.end ≤ℤ mark c → ⊥
          again passed =
              let some : 1 ≤ c = positive c stood in
              let within = fired.within in
              let any = fired_upto c p.element.span some (omega (arith, is, within)) stood passed in
              let before = any_wider (is_of_window p.element.span) (λ q. nat_le q.commit c) (λ q. nat_lt q.commit p.commit) (λ q e. sooner q.commit e) panes any in
              on_off _ before (first_of_window p fired)
            where
              positive : (n : ℕ) → StandsAt n p.element.span → 1 ≤ n
              positive zero h = absurd h
              positive (suc n) h = omega arith

              sooner : (a : ℕ) → nat_le a c ≡ true → nat_lt a p.commit ≡ true
              sooner a e = let low : a ≤ c = grind (arith, nat_tests) in earlier_test a p.commit (omega (arith, is, low))

              on_off : (t : Bool) → t ≡ true → t ≡ false → ⊥
              on_off true e f = absurd (cc)
              on_off false e f = absurd (cc)

      arrived : (c : ℕ) (v : Interval) → arrives taken (suc c) v ≡ true → mark c <ℤ v.end
      arrived c v own = by (passing (λ t. t.commit == suc c && same_span t.element.span v) taken (counted own))
        where
          counted : arrives taken (suc c) v ≡ true → list_any (λ t. t.commit == suc c && same_span t.element.span v) taken ≡ true
          counted e = from_count (λ t. t.commit == suc c && same_span t.element.span v) taken e

          by : (k : ℕ) × (d : Taken) × (k < length taken) × ((((get_or taken k d).commit == suc c) && same_span (get_or taken k d).element.span v) ≡ true) → mark c <ℤ v.end
          by (k, d, inside, passes) =
              let t = get_or taken k d in
              let parts = and_parts (t.commit == suc c) (same_span t.element.span v) passes in
              let at : t.commit - 1 ≡ c = one_less t.commit parts.0 in
              subst (λ (u : Interval). mark c <ℤ u.end) (span_sound t.element.span v parts.1)
              (subst (λ (n : ℕ). mark n <ℤ t.element.span.end) at (all_in_time k d inside).before)
            where
              one_less : (n : ℕ) → (n == suc c) ≡ true → n - 1 ≡ c
              one_less n e = let same : n ≡ suc c = eqb-true n (suc c) e in omega (arith, same)

      open_end : (c : ℕ) (v : Interval) → is_expired default_trigger v.end (mark c) ≡ false → mark c <ℤ v.end
      open_end c v e = grind (arith, ints)

      next : (c : ℕ) → suc c ≡ p.commit → (m : Bool) → (StandsNext (record { merges = m; trigger = default_trigger }) (mark c) (StandsAt c) (λ v. arrives taken (suc c) v ≡ true) p.element.span)
          → mark c <ℤ p.element.span.end
      next c is true (inl stood) = stood_first c is stood.0
      next c is true (inr session) = elim session.ends.1 [
        | inl open_one ↦ subst (λ (z : ℤ). mark c <ℤ z) session.ends.2 (open_end c session.ends.0 open_one.1)
        | inr own ↦ subst (λ (z : ℤ). mark c <ℤ z) session.ends.2 (arrived c session.ends.0 own)
      ]
      next c is false (inl stood) = stood_first c is stood
      next c is false (inr own) = arrived c p.element.span own

      by : (n : ℕ) → n ≡ p.commit → mark (p.commit - 1) <ℤ p.element.span.end
      by zero is = let some = fired.first in absurd (omega (arith, is, some))
      by (suc c) is =
          let at : c ≡ p.commit - 1 = omega (arith, is) in
          subst (λ (n : ℕ). mark n <ℤ p.element.span.end) at
          (next c is merges (subst (λ (n : ℕ). StandsAt n p.element.span) (sym is) fired.stands))

  -- ---- one pane a window

  few_fired : (c : ℕ) (w : Interval) (o : Option Timing) (index : ℕ) (entries : List Taken) (fired : List Pane) → IsFiredAs node key c w index entries o fired → length fired ≤ 1
  few_fired c w None index entries fired is = let none : length fired ≡ 0 = ap length is in omega (arith, none)
  few_fired c w (Some timing) index entries fired is = let one : length fired ≡ 1 = ap length is.1 in omega (arith, one)

  pub once_fired : (w : Interval) → count_by (is_of_window w) panes ≤ 1
  once_fired w = by (list_any (is_of_window w) panes) refl
    where
      beside : (k : ℕ) (d : Pane) → k < length panes → is_of_window w (get_or panes k d) ≡ true → count_by (is_of_window w) panes ≤ 1
      beside k d inside passes =
          let p = get_or panes k d in
          let fired = all_fired k d inside in
          let span : p.element.span ≡ w = span_sound p.element.span w passes in
          let stands : StandsAt p.commit w = subst (StandsAt p.commit) span fired.stands in
          let few : length (panes_in p.commit w panes) ≤ 1 = few_fired p.commit w _ _ _ (panes_in p.commit w panes) (history.fired p.commit w fired.first fired.within stands) in
          let whole : filter (is_of_window w) panes ≡ panes_in p.commit w panes =
          filter_where (is_of_window w) (λ q. q.commit == p.commit && is_of_window w q) panes (λ j e within. same_test (get_or panes j e) (together j e within)) in
          omega (arith, few, ap length whole, length-filter (is_of_window w) panes)
        where
          same_test : (q : Pane) → (is_of_window w q ≡ true → (q.commit == (get_or panes k d).commit) ≡ true) → is_of_window w q ≡ (q.commit == (get_or panes k d).commit && is_of_window w q)
          same_test q h = by (is_of_window w q) (q.commit == (get_or panes k d).commit) h
            where
              by : (t u : Bool) → (t ≡ true → u ≡ true) → t ≡ (u && t)
              by true true h = refl
              by true false h = sym (h refl)
              by false true h = refl
              by false false h = refl

          clash : (a b : Pane) → IsFiredPane b → list_any (is_of_window w) (panes_before b.commit panes) ≡ true → b.element.span ≡ w → ⊥
          clash a b fired any same =
              on_off _ any (subst (λ (v : Interval). list_any (is_of_window v) (panes_before b.commit panes) ≡ false) same (first_of_window b fired))
            where
              on_off : (t : Bool) → t ≡ true → t ≡ false → ⊥
              on_off true e f = absurd (cc)
              on_off false e f = absurd (cc)

          together : (j : ℕ) (e : Pane) → j < length panes → is_of_window w (get_or panes j e) ≡ true → ((get_or panes j e).commit == (get_or panes k d).commit) ≡ true
          together j e within here =
              let p = get_or panes k d in
              let q = get_or panes j e in
              elim (cases_lt q.commit p.commit) [
                | inl before ↦
                    absurd (clash q p (all_fired k d inside) (any_kept (is_of_window w) (λ x. nat_lt x.commit p.commit) panes j e within here (earlier_test q.commit p.commit before))
                    (span_sound p.element.span w passes))
                | inr not_before ↦
                    elim (cases_lt p.commit q.commit) [
                      | inl after ↦
                          absurd (clash p q (all_fired j e within) (any_kept (is_of_window w) (λ x. nat_lt x.commit q.commit) panes k d inside passes (earlier_test p.commit q.commit after))
                          (span_sound q.element.span w here))
                      | inr not_after ↦ eq-eqb q.commit p.commit (omega (arith, not_before, not_after))
                    ]
              ]

      by : (t : Bool) → list_any (is_of_window w) panes ≡ t → count_by (is_of_window w) panes ≤ 1
      by true e = let at = passing (is_of_window w) panes e in beside at.0 at.1 at.2 at.3
      by false e = let none = count_none (is_of_window w) panes (none_any (is_of_window w) panes e) in omega (arith, none)

  -- ---- what a pane holds

  -- a pane is on time, the first of its window, and has the parts of all that belongs to the window
  pub record IsWhole (p : Pane) : Type 0 where
    pub parts : List Value
    pub holds : p.element ≡ pane_with (key_of p.element) p.element.span parts
    pub ascending : IsSorted value_cmp parts
    pub all : IsSameBag parts (map (λ t. part_of t.element) (filter (belongs rules p.element.span) taken))

  entries_all : (p : Pane) → IsFiredPane p → entries_upto rules p.element.span p.commit taken ≡ filter (belongs rules p.element.span) taken
  entries_all p fired =
      filter_where (λ t. belongs rules p.element.span t && nat_le t.commit p.commit) (belongs rules p.element.span) taken
      (λ k d inside. same_test (belongs rules p.element.span (get_or taken k d)) (nat_le (get_or taken k d).commit p.commit)
      (λ belong. no_later (get_or taken k d).commit p.commit (none_later p.commit p.element.span (pane_passed p fired) (get_or taken k d) (all_in_time k d inside) belong)))
    where
      same_test : (t u : Bool) → (t ≡ true → u ≡ true) → (t && u) ≡ t
      same_test true u h = h refl
      same_test false u h = refl

  -- where an element belongs to the window of one pane alone
  abbrev pub IsLone : Taken → Type 0
  IsLone t = (p q : Pane) → IsFiredPane p → IsFiredPane q → belongs rules p.element.span t ≡ true → belongs rules q.element.span t ≡ true → q.element.span ≡ p.element.span

  pub whole_pane : All IsLone taken → (p : Pane) → IsFiredPane p → IsWhole p
  whole_pane lone p fired = record {
    parts = fired.is.parts;
    holds = subst (λ (tag : PaneTag). p.element ≡ pane_as tag (key_of p.element) p.element.span fired.is.parts) tagged fired.is.holds;
    ascending = fired.is.ascending;
    all = subst (λ (l : List Taken). IsSameBag fired.is.parts (map (λ t. part_of t.element) l)) (all_unseen ∙ entries_all p fired) fired.is.all;
  }
    where
      on_time : fired.timing ≡ OnTime
      on_time =
          elim (fires_as p.element.span.end (mark p.commit) (flag p.commit p.element.span) (unseen p.commit p.element.span) fired.timing fired.fires) [
            | inl again ↦ absurd (off (any_test (is_on_time_of p.element.span) (is_of_window p.element.span) (λ q e. (and_parts (is_of_window p.element.span q) (is_on_time q.element.pane.timing) e).0) (panes_before p.commit panes) again.0))
            | inr once ↦ once.1
          ]
        where
          off : list_any (is_of_window p.element.span) (panes_before p.commit panes) ≡ true → ⊥
          off on = on_off _ on (first_of_window p fired)
            where
              on_off : (t : Bool) → t ≡ true → t ≡ false → ⊥
              on_off true e f = absurd (cc)
              on_off false e f = absurd (cc)

      none_before : count_by (is_of_window p.element.span) (panes_before p.commit panes) ≡ 0
      none_before = count_none (is_of_window p.element.span) (panes_before p.commit panes) (none_any (is_of_window p.element.span) (panes_before p.commit panes) (first_of_window p fired))

      first_tag : PaneTag
      first_tag = record { timing = OnTime; index = 0 }

      own_tag : PaneTag
      own_tag = record { timing = fired.timing; index = count_by (is_of_window p.element.span) (panes_before p.commit panes) }

      tagged : own_tag ≡ first_tag
      tagged = λ i. record { timing = on_time i; index = none_before i }

      not_shown : (t : Taken) → IsLone t → belongs rules p.element.span t ≡ true → is_unseen rules (panes_before p.commit panes) t ≡ true
      not_shown t alone belong = by (list_any (shows rules t) (panes_before p.commit panes)) refl
        where
          never : (k : ℕ) × (d : Pane) × (k < length (panes_before p.commit panes)) × (shows rules t (get_or (panes_before p.commit panes) k d) ≡ true) → ⊥
          never (k, d, inside, shown) =
              let q = get_or (panes_before p.commit panes) k d in
              let facts = earlier_facts p.commit k d inside in
              let same : q.element.span ≡ p.element.span = alone p q fired facts.1 belong (and_parts (nat_le t.commit q.commit) (belongs rules q.element.span t) shown).1 in
              let here : is_of_window p.element.span q ≡ true = ap (λ (v : Interval). same_span v p.element.span) same ∙ span_itself p.element.span in
              on_off _ (list_any_at (is_of_window p.element.span) (panes_before p.commit panes) k d inside here) (first_of_window p fired)
            where
              on_off : (t : Bool) → t ≡ true → t ≡ false → ⊥
              on_off true e f = absurd (cc)
              on_off false e f = absurd (cc)

          by : (u : Bool) → list_any (shows rules t) (panes_before p.commit panes) ≡ u → not u ≡ true
          by true e = absurd (never (passing (shows rules t) (panes_before p.commit panes) e))
          by false e = refl

      all_unseen : filter (is_unseen rules (panes_before p.commit panes)) (entries_upto rules p.element.span p.commit taken) ≡ entries_upto rules p.element.span p.commit taken
      all_unseen =
          filter_all (is_unseen rules (panes_before p.commit panes)) (entries_upto rules p.element.span p.commit taken)
          (λ k d inside.
          let at = all_filtered (λ t. belongs rules p.element.span t && nat_le t.commit p.commit) IsLone taken lone k d inside in
          not_shown (get_or (entries_upto rules p.element.span p.commit taken) k d) at.1
          (and_parts (belongs rules p.element.span (get_or (entries_upto rules p.element.span p.commit taken) k d)) (nat_le (get_or (entries_upto rules p.element.span p.commit taken) k d).commit p.commit) at.0).0)

-- ---- where windows don't merge

least_one : (a b : ℕ) → a ≤ 1 → (1 ≤ b → 1 ≤ a) → (1 ≤ a → 1 ≤ b) → a ≡ min 1 b
least_one a zero low to from = elim (cases_lt 0 a) [ inl some ↦ let no = from some in absurd (omega (arith, no)) | inr none ↦ let z : a ≡ 0 = omega (arith, none) in z ]
least_one a (suc b) low to from = let some = to (omega arith) in let one : a ≡ 1 = omega (arith, some, low) in one ∙ grind (arith, nat_tests)

module _ (node : ℕ) (key : Value) (mark : ℕ → ℤ) (last : ℕ) (taken dropped : List Taken) (panes : List Pane)
    (history : IsLegalHistory (record { merges = false; trigger = default_trigger }) node key mark last taken dropped panes)
    (rises : (a b : ℕ) → a ≤ b → b ≤ last → mark a ≤ℤ mark b) (final : mark last ≡ final_mark) (early : All (λ t. t.element.span.end ≤ℤ final_mark) taken) where
  abbrev OwnStands : ℕ → Interval → Type 0
  OwnStands c w = Stands (record { merges = false; trigger = default_trigger }) mark (arrives taken) c w

  -- a window that stands where none merge is the own window of an entry
  stands_taken : (c : ℕ) (w : Interval) → OwnStands c w → list_any (λ t. same_span t.element.span w) taken ≡ true
  stands_taken zero w stands = absurd stands
  stands_taken (suc c) w (inl stood) = stands_taken c w stood
  stands_taken (suc c) w (inr new) =
      any_test (λ t. t.commit == suc c && same_span t.element.span w) (λ t. same_span t.element.span w) (λ t e. (and_parts (t.commit == suc c) (same_span t.element.span w) e).1) taken
      (from_count (λ t. t.commit == suc c && same_span t.element.span w) taken new)

  stays : (c d : ℕ) (w : Interval) → c ≤ d → OwnStands c w → OwnStands d w
  stays c zero w h stands = let same : c ≡ 0 = omega (arith, h) in subst (λ (n : ℕ). OwnStands n w) same stands
  stays c (suc d) w h stands = elim (cases_lt d c) [
    | inl now ↦ let same : c ≡ suc d = omega (arith, h, now) in subst (λ (n : ℕ). OwnStands n w) same stands
    | inr before ↦ inl (stays c d w before stands)
  ]

  own_stands : (k : ℕ) (d : Taken) → k < length taken → OwnStands (get_or taken k d).commit (get_or taken k d).element.span
  own_stands k d inside = by (get_or taken k d).commit refl
    where
      t : Taken
      t = get_or taken k d

      first : 1 ≤ (get_or taken k d).commit
      first = (all_in_time false node key mark last taken dropped panes history rises k d inside).first

      arrived : (c : ℕ) → c ≡ (get_or taken k d).commit → arrives taken c (get_or taken k d).element.span ≡ true
      arrived c is =
          test (count_by (λ t. t.commit == c && same_span t.element.span (get_or taken k d).element.span) taken)
          (count_member (λ (t : Taken). t.commit == c && same_span t.element.span (get_or taken k d).element.span) taken k d inside
          (and_from ((get_or taken k d).commit == c) (same_span (get_or taken k d).element.span (get_or taken k d).element.span) (eq-eqb (get_or taken k d).commit c (sym is)) (span_itself (get_or taken k d).element.span)))
        where
          test : (n : ℕ) → 1 ≤ n → nat_le 1 n ≡ true
          test n h = grind (arith, nat_tests)

      by : (c : ℕ) → c ≡ (get_or taken k d).commit → OwnStands c (get_or taken k d).element.span
      by zero is = let some = first in absurd (omega (arith, is, some))
      by (suc c) is = inr (arrived (suc c) is)

  -- at the end each own window has fired once, and no other window has
  pub once_each : (w : Interval) → count_by (is_of_window w) panes ≡ min 1 (count_by (λ t. same_span t.element.span w) taken)
  once_each w =
      least_one (count_by (is_of_window w) panes) (count_by (λ t. same_span t.element.span w) taken) (once_fired false node key mark last taken dropped panes history rises w) to from
    where
      to : 1 ≤ count_by (λ t. same_span t.element.span w) taken → 1 ≤ count_by (is_of_window w) panes
      to some = by (passing (λ t. same_span t.element.span w) taken (from_count (λ t. same_span t.element.span w) taken (test (count_by (λ t. same_span t.element.span w) taken) some)))
        where
          test : (n : ℕ) → 1 ≤ n → nat_le 1 n ≡ true
          test n h = grind (arith, nat_tests)

          by : (k : ℕ) × (d : Taken) × (k < length taken) × (same_span (get_or taken k d).element.span w ≡ true) → 1 ≤ count_by (is_of_window w) panes
          by (k, d, inside, same) =
              let t = get_or taken k d in
              let in_time = all_in_time false node key mark last taken dropped panes history rises k d inside in
              let is : t.element.span ≡ w = span_sound t.element.span w same in
              let stands : OwnStands last w = subst (OwnStands last) is (stays t.commit last t.element.span in_time.within (own_stands k d inside)) in
              let passed : w.end ≤ℤ mark last = subst (λ (m : ℤ). w.end ≤ℤ m) (sym final) (subst (λ (v : Interval). v.end ≤ℤ final_mark) is (early k d inside)) in
              let one = in_time.first in
              let two = in_time.within in
              any_counted (is_of_window w) panes
              (any_of_kept (is_of_window w) (λ p. nat_le p.commit last) panes
              (fired_upto false node key mark last taken dropped panes history rises last w (omega (arith, one, two)) (omega arith) stands passed))

      from : 1 ≤ count_by (is_of_window w) panes → 1 ≤ count_by (λ t. same_span t.element.span w) taken
      from some = by (passing (is_of_window w) panes (from_count (is_of_window w) panes (test (count_by (is_of_window w) panes) some)))
        where
          test : (n : ℕ) → 1 ≤ n → nat_le 1 n ≡ true
          test n h = grind (arith, nat_tests)

          by : (k : ℕ) × (d : Pane) × (k < length panes) × (is_of_window w (get_or panes k d) ≡ true) → 1 ≤ count_by (λ t. same_span t.element.span w) taken
          by (k, d, inside, same) =
              let fired = all_fired false node key mark last taken dropped panes history rises k d inside in
              any_counted (λ t. same_span t.element.span w) taken
              (subst (λ (v : Interval). list_any (λ t. same_span t.element.span v) taken ≡ true) (span_sound (get_or panes k d).element.span w same)
              (stands_taken (get_or panes k d).commit (get_or panes k d).element.span fired.stands))

  -- and an element belongs to its own window alone
  pub own_alone : All (IsLone false node key mark last taken dropped panes history rises) taken
  own_alone k d inside p q first second own other =
      sym (span_sound (get_or taken k d).element.span q.element.span other) ∙ span_sound (get_or taken k d).element.span p.element.span own
