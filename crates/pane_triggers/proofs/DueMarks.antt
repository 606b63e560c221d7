-- Bars and the firing table: from which mark on a cell fires a pane, and that a bar that is met stays met.
use Rattle.std.proofs.Common.{◌≡◌, ℕ, ℤ, ◌+ℤ◌, ◌-ℤ◌, ◌≤ℤ◌, ◌<ℤ◌, Bool, true, false, ◌&&◌, ◌||◌, cond, List, [], ◌∷◌, Option, Some, None, is_some, nat_le, int_le, refl, sym, ap, subst, ◌∙◌, arith}
use Rattle.std.specs.Prelude.{◌↔◌, IsSome, IsSomeAnd, MatchOption}
use Rattle.std.specs.Int.{int_max, int_min}
use Rattle.std.proofs.lemmas.Bool.{false≢true, and_parts, and_from, or_left, or_right}
use Rattle.std.proofs.lemmas.Int.{ints, clamps}
use Rattle.beam_values.specs.Firing.{firing, has_no_bars, is_bar_met, is_early_due, is_enough, is_expired, is_late_due, is_late_enough, is_past, met}
use Rattle.beam_values.specs.Times.{least_time, final_mark}
use Rattle.beam_values.specs.declared.element.Timing.TheVariants.{Early, OnTime, Late}
use Rattle.beam_values.specs.declared.plan.Bar.{Bar}
use Rattle.beam_values.specs.declared.plan.Trigger.{Trigger}
use Rattle.pane_triggers.specs.NextMarks.{IsNextMark, IsNeverDue, bar_from, earlier_by, earliest, mark_from, next_mark}

or_false : (t : Bool) → (t || false) ≡ t
or_false true = refl
or_false false = refl

min_reached : (a b mark : ℤ) → int_le (int_min a b) mark ≡ (int_le a mark || int_le b mark)
min_reached a b mark = grind (arith, ints)

past_from : (end mark : ℤ) (delay : Option ℤ) → least_time ≤ℤ mark → int_le (bar_from end delay) mark ≡ is_past delay (mark -ℤ end)
past_from end mark None low = grind (arith, ints)
past_from end mark (Some delay) low = grind (arith, ints)

-- from its time on a bar is met, where one is unseen
earlier_reached : (end : ℤ) (unseen : ℕ) (time mark : ℤ) (bar : Bar) → least_time ≤ℤ mark
    → int_le (earlier_by end unseen time bar) mark ≡ (int_le time mark || (nat_le 1 unseen && is_bar_met unseen (mark -ℤ end) bar))
earlier_reached end unseen time mark bar low = by (nat_le 1 unseen) (nat_le bar.count unseen)
  where
    by : (some counted : Bool)
        → int_le (cond (some && counted) (int_min time (bar_from end bar.delay)) time) mark ≡ (int_le time mark || (some && (counted && is_past bar.delay (mark -ℤ end))))
    by true true = min_reached time (bar_from end bar.delay) mark ∙ ap (λ (t : Bool). int_le time mark || t) (past_from end mark bar.delay low)
    by true false = sym (or_false (int_le time mark))
    by false counted = sym (or_false (int_le time mark))

earliest_reached : (bars : List Bar) (end : ℤ) (unseen : ℕ) (time mark : ℤ) → least_time ≤ℤ mark
    → int_le (earliest bars end unseen time) mark ≡ (int_le time mark || (nat_le 1 unseen && met bars unseen (mark -ℤ end)))
earliest_reached [] end unseen time mark low = sym (none (nat_le 1 unseen))
  where
    none : (some : Bool) → (int_le time mark || (some && false)) ≡ int_le time mark
    none true = or_false (int_le time mark)
    none false = or_false (int_le time mark)
earliest_reached (bar ∷ bars) end unseen time mark low =
    earliest_reached bars end unseen (earlier_by end unseen time bar) mark low
    ∙ ap (λ (t : Bool). t || (nat_le 1 unseen && met bars unseen (mark -ℤ end))) (earlier_reached end unseen time mark bar low)
    ∙ both (int_le time mark) (nat_le 1 unseen) (is_bar_met unseen (mark -ℤ end) bar) (met bars unseen (mark -ℤ end))
  where
    both : (t some first others : Bool) → ((t || (some && first)) || (some && others)) ≡ (t || (some && (first || others)))
    both true some first others = refl
    both false true first others = refl
    both false false first others = refl

none_of : {X : Type 0} (o : Option X) → is_some o ≡ false → o ≡ None
none_of None e = refl
none_of (Some x) e = absurd cc

first_or_second : {X : Type 0} (first second : Bool) (x y : X) → is_some (cond first (Some x) (cond second (Some y) None)) ≡ (first || second)
first_or_second true second x y = refl
first_or_second false true x y = refl
first_or_second false false x y = refl

-- what a trigger fires in a window that ends there, before or after its on-time pane, with so many unseen
module _ (trigger : Trigger) (end : ℤ) (on_time : Bool) (unseen : ℕ) where
  abbrev IsDueFrom : ℤ → Type 0
  IsDueFrom time = (mark : ℤ) → least_time ≤ℤ mark → is_some (firing trigger end mark on_time unseen) ≡ int_le time mark

  abbrev Due : Option ℤ → Type 0
  Due next = (mark : ℤ) → least_time ≤ℤ mark → mark ≤ℤ final_mark → (IsSome (firing trigger end mark on_time unseen) ↔ IsSomeAnd next (λ least. least ≤ℤ mark))

  abbrev IsLeast : Option ℤ → Type 0
  IsLeast next = MatchOption next (IsNeverDue trigger end on_time unseen) (IsNextMark trigger end on_time unseen)

  never : ((mark : ℤ) → is_some (firing trigger end mark on_time unseen) ≡ false) → IsLeast None × Due None
  never none = (λ mark low high. none_of (firing trigger end mark on_time unseen) (none mark), λ mark low high. (λ some. absurd (false≢true (sym (none mark) ∙ some)), λ h. absurd h))

  from_time : (time : ℤ) → IsDueFrom time → IsLeast (mark_from time) × Due (mark_from time)
  from_time time due = by (int_le time final_mark) refl
    where
      low_none : (mark : ℤ) → least_time ≤ℤ mark → mark <ℤ time → firing trigger end mark on_time unseen ≡ None
      low_none mark low before = none_of (firing trigger end mark on_time unseen) (due mark low ∙ grind (arith, ints))

      reached : (mark : ℤ) → least_time ≤ℤ mark → int_le time mark ≡ true → int_max least_time time ≤ℤ mark
      reached mark low is = omega (arith, ints, clamps, is, low)

      by : (t : Bool) → int_le time final_mark ≡ t → IsLeast (cond t (Some (int_max least_time time)) None) × Due (cond t (Some (int_max least_time time)) None)
      by true e = (
        record {
          from_least = omega (arith, ints, clamps);
          upto_final = omega (arith, ints, clamps, e);
          fires = due (int_max least_time time) (omega (arith, ints, clamps)) ∙ grind (arith, ints);
          before = λ lower low under. low_none lower low (omega (arith, ints, clamps, under, low));
        },
        λ mark low high. (λ some. reached mark low (sym (due mark low) ∙ some), λ from. due mark low ∙ grind (arith, ints)),
      )
      by false e = (λ mark low high. low_none mark low (omega (arith, ints, e, high)), λ mark low high. (λ some. absurd (beyond mark high (sym (due mark low) ∙ some)), λ h. absurd h))
        where
          beyond : (mark : ℤ) → mark ≤ℤ final_mark → int_le time mark ≡ true → ⊥
          beyond mark high is = omega (arith, ints, e, is, high)

and_swap : (a b : Bool) → (a && b) ≡ (b && a)
and_swap true true = refl
and_swap true false = refl
and_swap false true = refl
and_swap false false = refl

or_swap : (a b : Bool) → (a || b) ≡ (b || a)
or_swap true true = refl
or_swap true false = refl
or_swap false true = refl
or_swap false false = refl

or_true : (t : Bool) → (t || true) ≡ true
or_true true = refl
or_true false = refl

some_if : {X : Type 0} (t : Bool) (x : X) → is_some (cond t (Some x) None) ≡ t
some_if true x = refl
some_if false x = refl

-- the next mark is the least at which the table fires a pane, and it fires one from that on
pub next_is : (trigger : Trigger) (end : ℤ) (on_time : Bool) (unseen : ℕ)
    → IsLeast trigger end on_time unseen (next_mark trigger end on_time unseen) × Due trigger end on_time unseen (next_mark trigger end on_time unseen)
next_is trigger end false unseen = by (is_enough trigger.early unseen) refl
  where
    due : (enough : Bool) → is_enough trigger.early unseen ≡ enough → (mark : ℤ)
        → is_some (firing trigger end mark false unseen) ≡ (int_le end mark || (enough || (met trigger.early_bars unseen (mark -ℤ end) && nat_le 1 unseen)))
    due enough e mark =
        first_or_second (int_le end mark) (is_early_due trigger end mark unseen) OnTime Early
        ∙ ap (λ (t : Bool). int_le end mark || (t || (met trigger.early_bars unseen (mark -ℤ end) && nat_le 1 unseen))) e

    by : (enough : Bool) → is_enough trigger.early unseen ≡ enough
        → IsLeast trigger end false unseen (cond enough (Some least_time) (mark_from (earliest trigger.early_bars end unseen end)))
        × Due trigger end false unseen (cond enough (Some least_time) (mark_from (earliest trigger.early_bars end unseen end)))
    by true e = from_time trigger end false unseen least_time (λ mark low. due true e mark ∙ or_true (int_le end mark) ∙ grind (arith, ints))
    by false e =
        from_time trigger end false unseen (earliest trigger.early_bars end unseen end)
        (λ mark low.
        due false e mark
        ∙ ap (λ (t : Bool). int_le end mark || t) (and_swap (met trigger.early_bars unseen (mark -ℤ end)) (nat_le 1 unseen))
        ∙ sym (earliest_reached trigger.early_bars end unseen end mark low))
next_is trigger end true unseen = by (nat_le 1 unseen) refl (has_no_bars trigger.late_bars && nat_le trigger.late unseen) refl
  where
    due : (some counted : Bool) → nat_le 1 unseen ≡ some → (has_no_bars trigger.late_bars && nat_le trigger.late unseen) ≡ counted → (mark : ℤ)
        → is_some (firing trigger end mark true unseen) ≡ (some && ((met trigger.late_bars unseen (mark -ℤ end) || counted) || int_le (end +ℤ trigger.lateness) mark))
    due some counted e f mark =
        some_if (is_late_due trigger end mark unseen) Late
        ∙ (λ i. e i && ((met trigger.late_bars unseen (mark -ℤ end) || f i) || int_le (end +ℤ trigger.lateness) mark))

    by : (some : Bool) → nat_le 1 unseen ≡ some → (counted : Bool) → (has_no_bars trigger.late_bars && nat_le trigger.late unseen) ≡ counted
        → IsLeast trigger end true unseen (cond some (cond counted (Some least_time) (mark_from (earliest trigger.late_bars end unseen (end +ℤ trigger.lateness)))) None)
        × Due trigger end true unseen (cond some (cond counted (Some least_time) (mark_from (earliest trigger.late_bars end unseen (end +ℤ trigger.lateness)))) None)
    by false e counted f = never trigger end true unseen (λ mark. due false counted e f mark)
    by true e true f =
        from_time trigger end true unseen least_time
        (λ mark low.
        due true true e f mark
        ∙ ap (λ (t : Bool). t || int_le (end +ℤ trigger.lateness) mark) (or_true (met trigger.late_bars unseen (mark -ℤ end)))
        ∙ grind (arith, ints))
    by true e false f =
        from_time trigger end true unseen (earliest trigger.late_bars end unseen (end +ℤ trigger.lateness))
        (λ mark low.
        due true false e f mark
        ∙ ap (λ (t : Bool). t || int_le (end +ℤ trigger.lateness) mark) (or_false (met trigger.late_bars unseen (mark -ℤ end)))
        ∙ or_swap (met trigger.late_bars unseen (mark -ℤ end)) (int_le (end +ℤ trigger.lateness) mark)
        ∙ ap (λ (t : Bool). int_le (end +ℤ trigger.lateness) mark || (t && met trigger.late_bars unseen (mark -ℤ end))) (sym e)
        ∙ sym (earliest_reached trigger.late_bars end unseen (end +ℤ trigger.lateness) mark low))

past_rises : (delay : Option ℤ) (past later : ℤ) → past ≤ℤ later → is_past delay past ≡ true → is_past delay later ≡ true
past_rises None past later h e = refl
past_rises (Some delay) past later h e = grind (arith, ints)

or_rises : (a b more others : Bool) → (a ≡ true → more ≡ true) → (b ≡ true → others ≡ true) → (a || b) ≡ true → (more || others) ≡ true
or_rises true b more others first second is = or_left more others (first refl)
or_rises false b more others first second is = or_right more others (second is)

and_rises : (a b c : Bool) → (b ≡ true → c ≡ true) → (a && b) ≡ true → (a && c) ≡ true
and_rises true b c onward is = onward is
and_rises false b c onward is = absurd (false≢true is)

-- a bar that is met stays met
met_rises : (bars : List Bar) (unseen : ℕ) (past later : ℤ) → past ≤ℤ later → met bars unseen past ≡ true → met bars unseen later ≡ true
met_rises [] unseen past later h is = is
met_rises (bar ∷ bars) unseen past later h is =
    or_rises (is_bar_met unseen past bar) (met bars unseen past) (is_bar_met unseen later bar) (met bars unseen later)
    (and_rises (nat_le bar.count unseen) (is_past bar.delay past) (is_past bar.delay later) (past_rises bar.delay past later h))
    (met_rises bars unseen past later h) is

past_more : (end mark later : ℤ) → mark ≤ℤ later → (mark -ℤ end) ≤ℤ (later -ℤ end)
past_more end mark later h = omega (arith, ints, h)

upto_more : (end mark later : ℤ) → mark ≤ℤ later → int_le end mark ≡ true → int_le end later ≡ true
upto_more end mark later h is = grind (arith, ints)

late_rises : (trigger : Trigger) (end mark later : ℤ) (unseen : ℕ) → mark ≤ℤ later
    → is_late_due trigger end mark unseen ≡ true → is_late_due trigger end later unseen ≡ true
late_rises trigger end mark later unseen h =
    let counted : Bool = has_no_bars trigger.late_bars && nat_le trigger.late unseen in
    and_rises (nat_le 1 unseen) (is_late_enough trigger (mark -ℤ end) unseen || is_expired trigger end mark) (is_late_enough trigger (later -ℤ end) unseen || is_expired trigger end later)
    (or_rises (is_late_enough trigger (mark -ℤ end) unseen) (is_expired trigger end mark) (is_late_enough trigger (later -ℤ end) unseen) (is_expired trigger end later)
    (or_rises (met trigger.late_bars unseen (mark -ℤ end)) counted (met trigger.late_bars unseen (later -ℤ end)) counted
    (met_rises trigger.late_bars unseen (mark -ℤ end) (later -ℤ end) (past_more end mark later h)) (λ e. e))
    (upto_more (end +ℤ trigger.lateness) mark later h))

early_rises : (trigger : Trigger) (end mark later : ℤ) (unseen : ℕ) → mark ≤ℤ later
    → is_early_due trigger end mark unseen ≡ true → is_early_due trigger end later unseen ≡ true
early_rises trigger end mark later unseen h =
    or_rises (is_enough trigger.early unseen) (met trigger.early_bars unseen (mark -ℤ end) && nat_le 1 unseen)
    (is_enough trigger.early unseen) (met trigger.early_bars unseen (later -ℤ end) && nat_le 1 unseen) (λ e. e)
    (λ e.
    let parts = and_parts (met trigger.early_bars unseen (mark -ℤ end)) (nat_le 1 unseen) e in
    and_from (met trigger.early_bars unseen (later -ℤ end)) (nat_le 1 unseen)
    (met_rises trigger.early_bars unseen (mark -ℤ end) (later -ℤ end) (past_more end mark later h) parts.0) parts.1)

-- a pane that is due stays due
pub firing_rises : (trigger : Trigger) (end mark later : ℤ) (on_time : Bool) (unseen : ℕ) → mark ≤ℤ later
    → IsSome (firing trigger end mark on_time unseen) → IsSome (firing trigger end later on_time unseen)
firing_rises trigger end mark later false unseen h some =
    first_or_second (int_le end later) (is_early_due trigger end later unseen) OnTime Early
    ∙ or_rises (int_le end mark) (is_early_due trigger end mark unseen) (int_le end later) (is_early_due trigger end later unseen)
    (upto_more end mark later h) (early_rises trigger end mark later unseen h)
    (sym (first_or_second (int_le end mark) (is_early_due trigger end mark unseen) OnTime Early) ∙ some)
firing_rises trigger end mark later true unseen h some =
    some_if (is_late_due trigger end later unseen) Late
    ∙ late_rises trigger end mark later unseen h (sym (some_if (is_late_due trigger end mark unseen) Late) ∙ some)

pub late_stays : (trigger : Trigger) (end mark later : ℤ) (unseen : ℕ) → mark ≤ℤ later
    → firing trigger end mark true unseen ≡ Some Late → firing trigger end later true unseen ≡ Some Late
late_stays trigger end mark later unseen h fires =
    ap (λ (t : Bool). cond t (Some Late) None)
    (late_rises trigger end mark later unseen h (sym (some_if (is_late_due trigger end mark unseen) Late) ∙ ap is_some fires))

pub least_at : (trigger : Trigger) (end : ℤ) (on_time : Bool) (unseen : ℕ) (next : Option ℤ) → next ≡ next_mark trigger end on_time unseen → IsLeast trigger end on_time unseen next
least_at trigger end on_time unseen next same = subst (IsLeast trigger end on_time unseen) (sym same) (next_is trigger end on_time unseen).0

pub due_at : (trigger : Trigger) (end : ℤ) (on_time : Bool) (unseen : ℕ) (next : Option ℤ) → next ≡ next_mark trigger end on_time unseen → Due trigger end on_time unseen next
due_at trigger end on_time unseen next same = subst (Due trigger end on_time unseen) (sym same) (next_is trigger end on_time unseen).1
