-- What a run keeps of the Groups above a barrier with sound estimators and default triggers: nothing is dropped, what is taken began in time, and panes are held
use Rattle.ended_runs.proofs.Ordered.{filter_has}
-- no later than their times.
use Rattle.std.proofs.Common.{◌≡◌, ◌⊎◌, inl, inr, ℕ, ◌+◌, ◌-◌, ◌<◌, ℤ, pos, Bool, true, false, cond, List, [], ◌∷◌, ◌++◌, length, map, get_or, refl, sym, ap, subst, ◌∙◌, append_assoc, length-append, arith}
use Rattle.std.specs.Prelude.{Option, Some, None, ◌==◌, ◌&&◌, ◌||◌, ◌≤ℤ◌, ◌<ℤ◌, ◌-ℤ◌, not, nat_lt, int_le, int_lt, slice_get, unwrap_or}
use Rattle.std.specs.Int.{int_max}
use Rattle.std.specs.List.{All, enumerate_from, filter}
use Rattle.std.proofs.lemmas.Bool.{and_parts, and_from}
use Rattle.std.proofs.lemmas.Bool.Decides.{nat_tests}
use Rattle.std.proofs.lemmas.Int.{by_lt_z, ints, clamps, fold-int_min_reached}
use Rattle.std.proofs.lemmas.List.Elements.{All-nil, All-cons, All-head, All-tail, All-contains, All-map, All-weaker}
use Rattle.std.specs.Option.{option_map}
use Rattle.std.proofs.lemmas.Option.{slice_get-get_or}
use Rattle.beam_values.specs.Bags.{IsSameBag}
use Rattle.beam_values.specs.Grouping.{last_time}
use Rattle.beam_values.specs.Intervals.{Interval}
use Rattle.beam_values.specs.Marks.{marks_at}
use Rattle.beam_values.specs.Nodes.{is_above, strategy_of}
use Rattle.beam_values.specs.Times.{IsMark, IsTime, final_mark, greatest_time, least_time}
use Rattle.beam_values.specs.declared.cell.Pane.{Pane}
use Rattle.beam_values.specs.declared.marks.CommitMarks.{CommitMarks}
use Rattle.beam_values.specs.declared.marks.StageMarks.{StageMarks}
use Rattle.beam_values.specs.declared.plan.Plan.{Plan}
use Rattle.beam_values.specs.declared.plan.Strategy.{Strategy}
use Rattle.beam_values.specs.declared.plan.Strategy.TheVariants as strategy
use Rattle.beam_model.specs.Holds.{Hold, least_hold, marks_held}
use Rattle.beam_model.specs.Panes.{Taken, mark_after}
use Rattle.group_cells.specs.Commits.{as_commit}
use Rattle.book_core.specs.Book.{HeldPane}
use Rattle.book_core.proofs.HeldOnce.{All-of_bag, get_at_end, get_front}
use Rattle.book_core.proofs.Queues.{held_fired}
use Rattle.ended_runs.proofs.Above.{StartsAbove}
use Rattle.ended_runs.proofs.ToCome.{last_is_time}

-- the marks of earlier commits stay
pub mark_front : (commits more : List CommitMarks) (node i : ℕ) → i < length commits → mark_after (commits ++ more) node i ≡ mark_after commits node i
mark_front commits more node i inside =
    let at = slice_get-get_or commits i (as_commit []) inside in
    ap read (get_front commits more i (get_or commits i (as_commit [])) at) ∙ sym (ap read at)
  where
    read : Option CommitMarks → ℤ
    read found = (marks_at (unwrap_or (option_map (λ (commit : CommitMarks). commit.marks) found) []) node).mark_in

either : (t u : Bool) → (not t || u) ≡ true → t ≡ true → u ≡ true
either true u e is = e
either false u e is = absurd (cc)

implied : (t u : Bool) → (t ≡ true → u ≡ true) → (not t || u) ≡ true
implied true u h = h refl
implied false u h = refl

-- ---- marks as a test

pub mark_test : ℤ → Bool
mark_test m = int_le least_time m && (int_le m greatest_time || (int_le m final_mark && int_le final_mark m))

pub test_mark : (m : ℤ) → mark_test m ≡ true → IsMark m
unfolding mark_test
test_mark m e =
    let parts = and_parts (int_le least_time m) (int_le m greatest_time || (int_le m final_mark && int_le final_mark m)) e in
    (low m parts.0, λ above. by (int_le m greatest_time) refl parts.1 above)
  where
    low : (z : ℤ) → int_le least_time z ≡ true → least_time ≤ℤ z
    low z f = grind (arith, ints)

    same : (z : ℤ) → int_le z final_mark ≡ true → int_le final_mark z ≡ true → z ≡ final_mark
    same z f g = let a : z ≤ℤ final_mark = grind (arith, ints) in let b : final_mark ≤ℤ z = grind (arith, ints) in omega (arith, ints, a, b)

    not_both : (z : ℤ) → int_le z greatest_time ≡ true → greatest_time <ℤ z → ⊥
    not_both z f g = let a : z ≤ℤ greatest_time = grind (arith, ints) in omega (arith, ints, a, g)

    by : (t : Bool) → int_le m greatest_time ≡ t → (t || (int_le m final_mark && int_le final_mark m)) ≡ true → greatest_time <ℤ m → m ≡ final_mark
    by true f g above = absurd (not_both m f above)
    by false f g above = let both = and_parts (int_le m final_mark) (int_le final_mark m) g in same m both.0 both.1

pub mark_tested : (m : ℤ) → IsMark m → mark_test m ≡ true
unfolding mark_test
mark_tested m is =
    and_from (int_le least_time m) (int_le m greatest_time || (int_le m final_mark && int_le final_mark m)) (low m is.0) (by (int_le m greatest_time) refl)
  where
    low : (z : ℤ) → least_time ≤ℤ z → int_le least_time z ≡ true
    low z h = grind (arith, ints)

    above : (z : ℤ) → int_le z greatest_time ≡ false → greatest_time <ℤ z
    above z f = grind (arith, ints)

    both : (z : ℤ) → z ≡ final_mark → (int_le z final_mark && int_le final_mark z) ≡ true
    both z e = subst (λ (x : ℤ). (int_le x final_mark && int_le final_mark x) ≡ true) (sym e) refl

    by : (t : Bool) → int_le m greatest_time ≡ t → (t || (int_le m final_mark && int_le final_mark m)) ≡ true
    by true f = refl
    by false f = both m (is.1 (above m f))

pub greater_mark : (time mark : ℤ) → IsTime time → IsMark mark → IsMark (int_max time mark)
greater_mark time mark is m = (low, most)
  where
    low : least_time ≤ℤ int_max time mark
    low = let a = m.0 in omega (arith, ints, clamps, a)

    most : greatest_time <ℤ int_max time mark → int_max time mark ≡ final_mark
    most above =
        let high = is.1 in
        let same : mark ≡ final_mark = m.1 (omega (arith, ints, clamps, above, high)) in
        omega (arith, ints, clamps, above, high, same)

-- ---- what is taken

module _ (to : ℕ) (plan : Plan) where
  -- where a Group above the barrier took it, its own window isn't empty, and sessions begin no earlier than the mark before
  pub record IsTakenWell (commits : List CommitMarks) (t : Taken) : Type 0 where
    pub known : t.commit - 1 < length commits
    pub past : least_time <ℤ t.element.span.end
    pub some : t.element.span.start <ℤ t.element.span.end
    pub starts : StartsAbove (strategy_of plan t.node) (mark_after commits t.node (t.commit - 1)) t.element.span

  abbrev pub IsTakenAbove : List CommitMarks → Taken → Type 0
  IsTakenAbove commits t = is_above plan t.node to ≡ true → IsTakenWell commits t

  abbrev starts_test : Strategy → ℤ → Interval → Bool
  starts_test (strategy.Sessions gap) mark span = int_le mark span.start
  starts_test _ mark span = true

  starts_tested : (s : Strategy) (mark : ℤ) (span : Interval) → StartsAbove s mark span → starts_test s mark span ≡ true
  starts_tested strategy.Global mark span h = refl
  starts_tested (strategy.Fixed size) mark span h = refl
  starts_tested (strategy.Sliding size period) mark span h = refl
  starts_tested (strategy.Sessions gap) mark span h = test mark span.start h
    where
      test : (a b : ℤ) → a ≤ℤ b → int_le a b ≡ true
      test a b h = grind (arith, ints)
  starts_tested strategy.Kept mark span h = refl

  tested_starts : (s : Strategy) (mark : ℤ) (span : Interval) → starts_test s mark span ≡ true → StartsAbove s mark span
  tested_starts strategy.Global mark span h = tt
  tested_starts (strategy.Fixed size) mark span h = tt
  tested_starts (strategy.Sliding size period) mark span h = tt
  tested_starts (strategy.Sessions gap) mark span h = test mark span.start h
    where
      test : (a b : ℤ) → int_le a b ≡ true → a ≤ℤ b
      test a b h = grind (arith, ints)
  tested_starts strategy.Kept mark span h = tt

  taken_test : List CommitMarks → Taken → Bool
  taken_test commits t =
      not (is_above plan t.node to)
      || (nat_lt (t.commit - 1) (length commits)
      && (int_lt least_time t.element.span.end
      && (int_lt t.element.span.start t.element.span.end && starts_test (strategy_of plan t.node) (mark_after commits t.node (t.commit - 1)) t.element.span)))

  less : (a b : ℤ) → int_lt a b ≡ true → a <ℤ b
  less a b e = grind (arith, ints)

  less_test : (a b : ℤ) → a <ℤ b → int_lt a b ≡ true
  less_test a b h = grind (arith, ints)

  taken_tested : (commits : List CommitMarks) (t : Taken) → IsTakenAbove commits t → taken_test commits t ≡ true
  unfolding taken_test
  taken_tested commits t h =
      implied (is_above plan t.node to) _
      (λ above.
      let well = h above in
      and_from (nat_lt (t.commit - 1) (length commits)) _ (within (t.commit - 1) (length commits) well.known)
      (and_from (int_lt least_time t.element.span.end) _ (less_test least_time t.element.span.end well.past)
      (and_from (int_lt t.element.span.start t.element.span.end) _ (less_test t.element.span.start t.element.span.end well.some)
      (starts_tested (strategy_of plan t.node) (mark_after commits t.node (t.commit - 1)) t.element.span well.starts))))
    where
      within : (a b : ℕ) → a < b → nat_lt a b ≡ true
      within a b h = grind (arith, nat_tests)

  tested_taken : (commits : List CommitMarks) (t : Taken) → taken_test commits t ≡ true → IsTakenAbove commits t
  unfolding taken_test
  tested_taken commits t e above =
      let first = and_parts (nat_lt (t.commit - 1) (length commits)) _ (either (is_above plan t.node to) _ e above) in
      let second = and_parts (int_lt least_time t.element.span.end) _ first.1 in
      let third = and_parts (int_lt t.element.span.start t.element.span.end) _ second.1 in
      record {
        known = within (t.commit - 1) (length commits) first.0;
        past = less least_time t.element.span.end second.0;
        some = less t.element.span.start t.element.span.end third.0;
        starts = tested_starts (strategy_of plan t.node) (mark_after commits t.node (t.commit - 1)) t.element.span third.1;
      }
    where
      within : (a b : ℕ) → nat_lt a b ≡ true → a < b
      within a b h = grind (arith, nat_tests)

  -- of a bag
  pub taken_of_bag : (commits : List CommitMarks) (xs ys : List Taken) → IsSameBag xs ys → All (IsTakenAbove commits) xs → All (IsTakenAbove commits) ys
  taken_of_bag commits xs ys same all =
      All-weaker (λ t. taken_test commits t ≡ true) (IsTakenAbove commits) (tested_taken commits) ys
      (All-of_bag (taken_test commits) xs ys same (All-weaker (IsTakenAbove commits) (λ t. taken_test commits t ≡ true) (taken_tested commits) xs all))

  -- of more commits
  pub taken_later : (commits more : List CommitMarks) (t : Taken) → IsTakenAbove commits t → IsTakenAbove (commits ++ more) t
  taken_later commits more t h above =
      let well = h above in
      record {
        known = let k = well.known in omega (arith, k, length-append commits more);
        past = well.past;
        some = well.some;
        starts = subst (λ (m : ℤ). StartsAbove (strategy_of plan t.node) m t.element.span) (sym (mark_front commits more t.node (t.commit - 1) well.known)) well.starts;
      }

  -- ---- what is held

  abbrev time_or : ℤ → Option Pane → ℤ
  time_or hold None = hold
  time_or hold (Some p) = p.element.time

  pub record IsHeldSo (panes : List Pane) (h : HeldPane) : Type 0 where
    pub mark : is_above plan h.node to ≡ true → IsMark h.waiting.hold
    pub within : is_above plan h.node to ≡ true → (p : Pane) → slice_get panes h.waiting.pane ≡ Some p → h.waiting.hold ≤ℤ p.element.time

  held_test : List Pane → HeldPane → Bool
  held_test panes h = (not (is_above plan h.node to) || mark_test h.waiting.hold) && (not (is_above plan h.node to) || int_le h.waiting.hold (time_or h.waiting.hold (slice_get panes h.waiting.pane)))

  held_tested : (panes : List Pane) (h : HeldPane) → IsHeldSo panes h → held_test panes h ≡ true
  unfolding held_test
  held_tested panes h so =
      and_from (not (is_above plan h.node to) || mark_test h.waiting.hold) _
      (implied (is_above plan h.node to) (mark_test h.waiting.hold) (λ above. mark_tested h.waiting.hold (so.mark above)))
      (implied (is_above plan h.node to) _ (λ above. by (slice_get panes h.waiting.pane) refl (so.within above)))
    where
      itself : (z : ℤ) → int_le z z ≡ true
      itself z = grind (arith, ints)

      test : (a b : ℤ) → a ≤ℤ b → int_le a b ≡ true
      test a b h = grind (arith, ints)

      by : (found : Option Pane) → slice_get panes h.waiting.pane ≡ found → ((p : Pane) → slice_get panes h.waiting.pane ≡ Some p → h.waiting.hold ≤ℤ p.element.time)
          → int_le h.waiting.hold (time_or h.waiting.hold found) ≡ true
      by None at within = itself h.waiting.hold
      by (Some p) at within = test h.waiting.hold p.element.time (within p at)

  tested_held : (panes : List Pane) (h : HeldPane) → held_test panes h ≡ true → IsHeldSo panes h
  unfolding held_test
  tested_held panes h e =
      let parts = and_parts (not (is_above plan h.node to) || mark_test h.waiting.hold) _ e in
      record {
        mark = λ above. test_mark h.waiting.hold (either (is_above plan h.node to) (mark_test h.waiting.hold) parts.0 above);
        within = λ above p at.
            test h.waiting.hold p.element.time
            (subst (λ (found : Option Pane). int_le h.waiting.hold (time_or h.waiting.hold found) ≡ true) at (either (is_above plan h.node to) _ parts.1 above));
      }
    where
      test : (a b : ℤ) → int_le a b ≡ true → a ≤ℤ b
      test a b h = grind (arith, ints)

  pub held_of_bag : (panes : List Pane) (xs ys : List HeldPane) → IsSameBag xs ys → All (IsHeldSo panes) xs → All (IsHeldSo panes) ys
  held_of_bag panes xs ys same all =
      All-weaker (λ h. held_test panes h ≡ true) (IsHeldSo panes) (tested_held panes) ys
      (All-of_bag (held_test panes) xs ys same (All-weaker (IsHeldSo panes) (λ h. held_test panes h ≡ true) (held_tested panes) xs all))

  pub held_later : (panes more : List Pane) (h : HeldPane) → (pane : Pane) → slice_get panes h.waiting.pane ≡ Some pane → IsHeldSo panes h → IsHeldSo (panes ++ more) h
  held_later panes more h pane at so = record {
    mark = so.mark;
    within = λ above p found.
        let there : Some pane ≡ Some p = sym (get_front panes more h.waiting.pane pane at) ∙ found in
        let same : pane ≡ p = cc in
        subst (λ (x : Pane). h.waiting.hold ≤ℤ x.element.time) same (so.within above pane at);
  }

  -- panes that fired now: each at its last time, and above the barrier not passed before
  pub record IsFiredNow (before : List StageMarks) (p : Pane) : Type 0 where
    pub mark : is_above plan p.node to ≡ true → IsMark (marks_at before p.node).mark_out
    pub time : p.element.time ≡ last_time p.element.span
    pub past : is_above plan p.node to ≡ true → least_time <ℤ p.element.span.end
    pub ends : p.element.span.end ≤ℤ final_mark
    pub out : is_above plan p.node to ≡ true → (marks_at before p.node).mark_out <ℤ p.element.span.end

  held_by_time : (span : Interval) (mark : ℤ) → IsMark mark → least_time <ℤ span.end → span.end ≤ℤ final_mark → mark <ℤ span.end → mark ≤ℤ last_time span
  held_by_time span mark is past ends below = by (int_lt greatest_time (span.end -ℤ pos 1)) (int_lt (span.end -ℤ pos 1) least_time) refl refl
    where
      high : mark ≤ℤ greatest_time
      high = elim (int_cases mark greatest_time) [ inl low ↦ low | inr above ↦ absurd (over (is.1 above)) ]
        where
          over : mark ≡ final_mark → ⊥
          over e = omega (arith, ints, e, ends, below)

          int_cases : (a b : ℤ) → (a ≤ℤ b) ⊎ (b <ℤ a)
          int_cases a b = by_lt_z b a (λ above. inr above) (λ low. inl low)

      never : (z : ℤ) → int_lt (z -ℤ pos 1) least_time ≡ true → least_time <ℤ z → ⊥
      never z e h = let a : (z -ℤ pos 1) <ℤ least_time = grind (arith, ints) in omega (arith, ints, a, h)

      by : (t u : Bool) → int_lt greatest_time (span.end -ℤ pos 1) ≡ t → int_lt (span.end -ℤ pos 1) least_time ≡ u → mark ≤ℤ cond t greatest_time (cond u least_time (span.end -ℤ pos 1))
      by true u e f = high
      by false true e f = absurd (never span.end f past)
      by false false e f = omega (arith, ints, below)

  pub held_now : (before : List StageMarks) (panes fired : List Pane) (n : ℕ) → n ≡ length panes → All (IsFiredNow before) fired
      → All (IsHeldSo (panes ++ fired)) (map (held_fired before) (enumerate_from n fired))
  held_now before panes [] n at all = All-nil (IsHeldSo (panes ++ []))
  held_now before panes (p ∷ ps) n at all =
      let here : slice_get (panes ++ p ∷ ps) n ≡ Some p = ap (slice_get (panes ++ p ∷ ps)) at ∙ get_at_end panes p ps in
      let next : n + 1 ≡ length (panes ++ p ∷ []) = omega (arith, at, length-append panes (p ∷ [])) in
      let now = All-head (IsFiredNow before) p ps all in
      All-cons (IsHeldSo (panes ++ p ∷ ps)) (held_fired before (n, p)) (map (held_fired before) (enumerate_from (n + 1) ps))
      (record {
        mark = λ above. greater_mark p.element.time (marks_at before p.node).mark_out (subst IsTime (sym now.time) (last_is_time p.element.span)) (now.mark above);
        within = λ above q found.
            let there : Some p ≡ Some q = sym here ∙ found in
            let same : p ≡ q = cc in
            subst (λ (x : Pane). int_max p.element.time (marks_at before p.node).mark_out ≤ℤ x.element.time) same
            (most p.element.time (marks_at before p.node).mark_out
            (subst (λ (z : ℤ). (marks_at before p.node).mark_out ≤ℤ z) (sym now.time)
            (held_by_time p.element.span (marks_at before p.node).mark_out (now.mark above) (now.past above) now.ends (now.out above))));
      })
      (subst (λ (l : List Pane). All (IsHeldSo l) (map (held_fired before) (enumerate_from (n + 1) ps))) (append_assoc panes (p ∷ []) ps)
      (held_now before (panes ++ p ∷ []) ps (n + 1) next (All-tail (IsFiredNow before) p ps all)))
    where
      most : (time mark : ℤ) → mark ≤ℤ time → int_max time mark ≤ℤ time
      most time mark h = omega (arith, ints, clamps, h)

-- ---- marks of holds

-- the least hold of a node is a mark, if each is that holds it back
pub least_is_mark : (hs : List Hold) (n : ℕ) → All (λ h. (h.node == n) ≡ true → IsMark h.mark) hs → IsMark (least_hold hs n)
least_is_mark hs n all = elim (fold-int_min_reached final_mark (marks_held hs n) (least_hold hs n) refl) [
  | inl final ↦ subst IsMark (sym final) (omega (arith, ints), λ above. refl)
  | inr among ↦
      All-contains IsMark (marks_held hs n) (least_hold hs n)
      (All-map IsMark (λ (h : Hold). h.mark) (filter (λ h. h.node == n) hs) (filter_has (λ h. h.node == n) (λ h. IsMark h.mark) hs all)) among
]
