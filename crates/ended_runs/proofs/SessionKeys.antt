-- One key of a Group of sessions, where no later window begins before the mark: the windows of its panes are the sessions of all own windows.
use Rattle.std.proofs.Common.{◌≡◌, ◌⊎◌, inl, inr, ℕ, zero, suc, ◌-◌, ◌<◌, ◌≤◌, ℤ, true, List, length, get_or, refl, sym, ap, subst, ◌∙◌, arith}
use Rattle.std.specs.Prelude.{◌==◌, ◌&&◌, ◌≤ℤ◌, nat_le}
use Rattle.std.specs.List.{All, count_by}
use Rattle.std.proofs.lemmas.Bool.{and_parts, and_from, cases_lt, eq-eqb, eqb-true}
use Rattle.std.proofs.lemmas.Bool.Decides.{nat_tests}
use Rattle.std.proofs.lemmas.Int.{ints}
use Rattle.beam_values.specs.Intervals.{Interval}
use Rattle.beam_values.specs.Sessions.{IsNonEmpty, IsSessionOf, LiesIn}
use Rattle.beam_values.specs.Spans.{same_span}
use Rattle.beam_values.specs.Times.{final_mark}
use Rattle.beam_values.specs.declared.cell.Pane.{Pane}
use Rattle.beam_values.specs.declared.value.Value.{Value}
use Rattle.beam_values.proofs.Sessions.{one_that_holds, session_moved}
use Rattle.beam_model.specs.Panes.{IsLegalHistory, Stands, Taken, arrives, is_of_window}
use Rattle.beam_model.specs.Plans.{default_trigger}
use Rattle.group_cells.proofs.Counting.{any_counted, count_member}
use Rattle.group_cells.proofs.WindowTests.{lies_from, span_itself, span_sound}
use Rattle.ended_runs.proofs.Passing.{IsFiredPane, IsLone, IsWhole, all_in_time, any_of_kept, fired_upto, from_count, pane_passed, passing, whole_pane}
use Rattle.ended_runs.proofs.SessionsStay.{first_lies, gone_ends, merged_session, session_stays}

module _ (node : ℕ) (key : Value) (mark : ℕ → ℤ) (last : ℕ) (taken dropped : List Taken) (panes : List Pane)
    (history : IsLegalHistory (record { merges = true; trigger = default_trigger }) node key mark last taken dropped panes)
    (rises : (a b : ℕ) → a ≤ b → b ≤ last → mark a ≤ℤ mark b) (timely : All (λ t. mark (t.commit - 1) ≤ℤ t.element.span.start) taken)
    (some : All (λ t. IsNonEmpty t.element.span) taken) where
  abbrev MergedStands : ℕ → Interval → Type 0
  MergedStands c w = Stands (record { merges = true; trigger = default_trigger }) mark (arrives taken) c w

  -- an own window of an element that arrived by commit c
  pub record ArrivedBy (c : ℕ) (s : Interval) : Type 0 where
    pub k : ℕ
    pub d : Taken
    pub inside : k < length taken
    pub within : (get_or taken k d).commit ≤ c
    pub is : (get_or taken k d).element.span ≡ s

  -- an own window of an element that arrived after commit c
  record ArrivedAfter (c : ℕ) (s : Interval) : Type 0 where
    k : ℕ
    d : Taken
    inside : k < length taken
    after : c < (get_or taken k d).commit
    is : (get_or taken k d).element.span ≡ s

  pub arrived_some : (c : ℕ) (s : Interval) → ArrivedBy c s → IsNonEmpty s
  arrived_some c s arrived = subst IsNonEmpty arrived.is (some arrived.k arrived.d arrived.inside)

  -- an own window that arrives after a commit begins no earlier than its mark
  later_begins : (c : ℕ) (s : Interval) → ArrivedAfter c s → mark c ≤ℤ s.start
  later_begins c s arrived =
      let t = get_or taken arrived.k arrived.d in
      let in_time = all_in_time true node key mark last taken dropped panes history rises arrived.k arrived.d arrived.inside in
      let begins = timely arrived.k arrived.d arrived.inside in
      let after = arrived.after in
      let within = in_time.within in
      let rise = rises c (t.commit - 1) (omega (arith, after)) (omega (arith, within)) in
      subst (λ (v : Interval). mark c ≤ℤ v.start) arrived.is (omega (arith, ints, rise, begins))

  arrived_after : (c : ℕ) (s : Interval) → arrives taken (suc c) s ≡ true → ArrivedAfter c s
  arrived_after c s arrived = by (passing (λ t. t.commit == suc c && same_span t.element.span s) taken (from_count (λ t. t.commit == suc c && same_span t.element.span s) taken arrived))
    where
      by : (k : ℕ) × (d : Taken) × (k < length taken) × (((get_or taken k d).commit == suc c && same_span (get_or taken k d).element.span s) ≡ true) → ArrivedAfter c s
      by (k, d, inside, passes) =
          let parts = and_parts ((get_or taken k d).commit == suc c) (same_span (get_or taken k d).element.span s) passes in
          let at : (get_or taken k d).commit ≡ suc c = eqb-true (get_or taken k d).commit (suc c) parts.0 in
          record { k = k; d = d; inside = inside; after = omega (arith, at); is = span_sound (get_or taken k d).element.span s parts.1 }

  arrived_now : (c : ℕ) (k : ℕ) (d : Taken) → k < length taken → (get_or taken k d).commit ≡ c → arrives taken c (get_or taken k d).element.span ≡ true
  arrived_now c k d inside at =
      test (count_by (λ t. t.commit == c && same_span t.element.span (get_or taken k d).element.span) taken)
      (count_member (λ (t : Taken). t.commit == c && same_span t.element.span (get_or taken k d).element.span) taken k d inside
      (and_from ((get_or taken k d).commit == c) (same_span (get_or taken k d).element.span (get_or taken k d).element.span) (eq-eqb (get_or taken k d).commit c at) (span_itself (get_or taken k d).element.span)))
    where
      test : (n : ℕ) → 1 ≤ n → nat_le 1 n ≡ true
      test n h = grind (arith, nat_tests)

  -- ---- what stands

  pub record AreStanding (c : ℕ) : Type 0 where
    pub each : (w : Interval) → MergedStands c w → IsSessionOf (ArrivedBy c) w
    pub cover : (s : Interval) → ArrivedBy c s → (w : Interval) × MergedStands c w × LiesIn s w

  abbrev ArrivesNow : ℕ → Interval → Type 0
  ArrivesNow c s = arrives taken c s ≡ true

  to_next : (c : ℕ) (s : Interval) → ArrivedBy c s ⊎ ArrivesNow (suc c) s → ArrivedBy (suc c) s
  to_next c s (inl arrived) = let low = arrived.within in record { k = arrived.k; d = arrived.d; inside = arrived.inside; within = omega (arith, low); is = arrived.is }
  to_next c s (inr new) = by (passing (λ t. t.commit == suc c && same_span t.element.span s) taken (from_count (λ t. t.commit == suc c && same_span t.element.span s) taken new))
    where
      by : (k : ℕ) × (d : Taken) × (k < length taken) × (((get_or taken k d).commit == suc c && same_span (get_or taken k d).element.span s) ≡ true) → ArrivedBy (suc c) s
      by (k, d, inside, passes) =
          let parts = and_parts ((get_or taken k d).commit == suc c) (same_span (get_or taken k d).element.span s) passes in
          let at : (get_or taken k d).commit ≡ suc c = eqb-true (get_or taken k d).commit (suc c) parts.0 in
          record { k = k; d = d; inside = inside; within = omega (arith, at); is = span_sound (get_or taken k d).element.span s parts.1 }

  from_next : (c : ℕ) (s : Interval) → ArrivedBy (suc c) s → ArrivedBy c s ⊎ ArrivesNow (suc c) s
  from_next c s arrived = elim (cases_lt c (get_or taken arrived.k arrived.d).commit) [
    | inl now ↦
        let low = arrived.within in
        inr (subst (ArrivesNow (suc c)) arrived.is (arrived_now (suc c) arrived.k arrived.d arrived.inside (omega (arith, now, low))))
    | inr before ↦ inl (record { k = arrived.k; d = arrived.d; inside = arrived.inside; within = before; is = arrived.is })
  ]

  standing_next : (c : ℕ) → suc c ≤ last → AreStanding c → AreStanding (suc c)
  standing_next c within now = record { each = each; cover = cover }
    where
      later : (s : Interval) → ArrivesNow (suc c) s → mark c ≤ℤ s.start
      later s new = later_begins c s (arrived_after c s new)

      each : (w : Interval) → MergedStands (suc c) w → IsSessionOf (ArrivedBy (suc c)) w
      each w (inl gone) =
          session_moved (λ s. ArrivedBy c s ⊎ ArrivesNow (suc c) s) (ArrivedBy (suc c)) w (to_next c) (from_next c)
          (session_stays (ArrivedBy c) (ArrivesNow (suc c)) (mark c) w (now.each w gone.0) (gone_ends (mark c) w gone.1) later)
      each w (inr session) =
          session_moved (λ s. ArrivedBy c s ⊎ ArrivesNow (suc c) s) (ArrivedBy (suc c)) w (to_next c) (from_next c)
          (merged_session (ArrivedBy c) (ArrivesNow (suc c)) (MergedStands c) (mark c) now.each now.cover later w session)

      deeper : (s t w : Interval) → LiesIn s t → LiesIn t w → LiesIn s w
      deeper s t w h k = let a = h.0 in let b = h.1 in let x = k.0 in let y = k.1 in (omega (arith, ints, a, x), omega (arith, ints, b, y))

      cover : (s : Interval) → ArrivedBy (suc c) s → (w : Interval) × MergedStands (suc c) w × LiesIn s w
      cover s arrived = elim (from_next c s arrived) [
        | inl before ↦
            let at = now.cover s before in
            let next = history.onward c within at.0 at.1 in
            (next.0, next.1, deeper s at.0 next.0 at.2 next.2)
        | inr new ↦ history.placed (suc c) within s new
      ]

  -- after each commit the windows that stand are the sessions of all own windows so far
  pub standing : (c : ℕ) → c ≤ last → AreStanding c
  standing zero within = record {
    each = λ w stands. absurd stands;
    cover = λ s arrived.
        let first = (all_in_time true node key mark last taken dropped panes history rises arrived.k arrived.d arrived.inside).first in
        let low = arrived.within in
        absurd (never first low);
  }
    where
      never : {n : ℕ} → 1 ≤ n → n ≤ 0 → ⊥
      never a b = omega (arith, a, b)
  standing (suc c) within = standing_next c within (standing c (omega (arith, within)))

  -- a session whose end the mark has passed stays one to the end
  pub to_end : (c : ℕ) → c ≤ last → (w : Interval) → IsSessionOf (ArrivedBy c) w → w.end ≤ℤ mark c → IsSessionOf (ArrivedBy last) w
  to_end c within w session passed =
      session_moved (λ s. ArrivedBy c s ⊎ ArrivedAfter c s) (ArrivedBy last) w to from (session_stays (ArrivedBy c) (ArrivedAfter c) (mark c) w session passed (later_begins c))
    where
      to : (s : Interval) → ArrivedBy c s ⊎ ArrivedAfter c s → ArrivedBy last s
      to s (inl arrived) = let low = arrived.within in record { k = arrived.k; d = arrived.d; inside = arrived.inside; within = omega (arith, low, within); is = arrived.is }
      to s (inr arrived) =
          let upto = (all_in_time true node key mark last taken dropped panes history rises arrived.k arrived.d arrived.inside).within in
          record { k = arrived.k; d = arrived.d; inside = arrived.inside; within = upto; is = arrived.is }

      from : (s : Interval) → ArrivedBy last s → ArrivedBy c s ⊎ ArrivedAfter c s
      from s arrived = elim (cases_lt c (get_or taken arrived.k arrived.d).commit) [
        | inl after ↦ inr (record { k = arrived.k; d = arrived.d; inside = arrived.inside; after = after; is = arrived.is })
        | inr before ↦ inl (record { k = arrived.k; d = arrived.d; inside = arrived.inside; within = before; is = arrived.is })
      ]

  abbrev pub IsFinal : Interval → Type 0
  IsFinal w = IsSessionOf (ArrivedBy last) w

  -- ---- panes

  pub pane_final : (p : Pane) → IsFiredPane true node key mark last taken dropped panes history rises p → IsFinal p.element.span
  pane_final p fired =
      to_end p.commit fired.within p.element.span ((standing p.commit fired.within).each p.element.span fired.stands)
      (pane_passed true node key mark last taken dropped panes history rises p fired)

  pub own_lone : All (IsLone true node key mark last taken dropped panes history rises) taken
  own_lone k d inside p q first second own other =
      one_that_holds (ArrivedBy last) (get_or taken k d).element.span q.element.span p.element.span (some k d inside)
      (lies_from (get_or taken k d).element.span q.element.span other) (lies_from (get_or taken k d).element.span p.element.span own) (pane_final q second) (pane_final p first)

  pub key_whole : (p : Pane) → IsFiredPane true node key mark last taken dropped panes history rises p → IsWhole true node key mark last taken dropped panes history rises p
  key_whole p fired = whole_pane true node key mark last taken dropped panes history rises own_lone p fired

  -- ---- the end

  -- each element lies in a session that stands at the end
  pub covered : (k : ℕ) (d : Taken) → k < length taken → (w : Interval) × MergedStands last w × IsFinal w × LiesIn (get_or taken k d).element.span w
  covered k d inside =
      let upto = (all_in_time true node key mark last taken dropped panes history rises k d inside).within in
      let at = (standing last (omega arith)).cover (get_or taken k d).element.span (record { k = k; d = d; inside = inside; within = upto; is = refl }) in
      (at.0, at.1, (standing last (omega arith)).each at.0 at.1, at.2)

  module _ (final : mark last ≡ final_mark) (early : All (λ t. t.element.span.end ≤ℤ final_mark) taken) where
    -- each session of all own windows has fired
    pub final_fires : (w : Interval) → IsFinal w → 1 ≤ count_by (is_of_window w) panes
    final_fires w session =
        let s = first_lies (ArrivedBy last) w (arrived_some last) session in
        let arrived = s.1 in
        let at = covered arrived.k arrived.d arrived.inside in
        let lies : LiesIn (get_or taken arrived.k arrived.d).element.span w = subst (λ (v : Interval). LiesIn v w) (sym arrived.is) s.2 in
        let same : at.0 ≡ w = one_that_holds (ArrivedBy last) (get_or taken arrived.k arrived.d).element.span at.0 w (some arrived.k arrived.d arrived.inside) at.3 lies at.2 session in
        let stands : MergedStands last w = subst (MergedStands last) same at.1 in
        let ends = session.ends in
        let in_time = all_in_time true node key mark last taken dropped panes history rises arrived.k arrived.d arrived.inside in
        let first = in_time.first in
        let upto = in_time.within in
        let passed : w.end ≤ℤ mark last = subst (λ (m : ℤ). w.end ≤ℤ m) (sym final) (subst (λ (z : ℤ). z ≤ℤ final_mark) (ap (λ (v : Interval). v.end) ends.1.is ∙ ends.2) (early ends.1.k ends.1.d ends.1.inside)) in
        any_counted (is_of_window w) panes
        (any_of_kept (is_of_window w) (λ p. nat_le p.commit last) panes
        (fired_upto true node key mark last taken dropped panes history rises last w (omega (arith, first, upto)) (omega arith) stands passed))
