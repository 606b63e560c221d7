-- The windows that stand where they merge, where each own window has the gap's length and is in time.
use Rattle.std.proofs.Common.{◌≡◌, ◌⊎◌, inl, inr, ℕ, zero, suc, ◌≤◌, ◌<ℤ◌, ℤ, pos, Bool, true, false, ap, subst, arith}
use Rattle.std.specs.Prelude.{◌≤ℤ◌, ◌+ℤ◌}
use Rattle.std.proofs.lemmas.Bool.{cases_lt}
use Rattle.std.proofs.lemmas.Int.{ints}
use Rattle.beam_values.specs.Firing.{is_expired}
use Rattle.beam_values.specs.Intervals.{Interval}
use Rattle.beam_values.specs.Sessions.{IsApart, IsNonEmpty, LiesIn, IsSessionOf}
use Rattle.beam_values.specs.declared.plan.Trigger.{Trigger}
use Rattle.beam_values.proofs.Sessions.{one_or_apart}
use Rattle.beam_model.specs.Panes.{GroupRules, StandsNext, Stands}
use Rattle.group_cells.proofs.WindowTests.{same_interval, one_of_both}

abbrev pub IsExpired : Trigger → ℤ → Interval → Type 0
IsExpired trigger mark w = is_expired trigger w.end mark ≡ true

abbrev pub IsOpen : Trigger → ℤ → Interval → Type 0
IsOpen trigger mark w = is_expired trigger w.end mark ≡ false

pub expired_ends : (trigger : Trigger) (mark : ℤ) (w : Interval) → IsExpired trigger mark w → (w.end +ℤ trigger.lateness) ≤ℤ mark
expired_ends trigger mark w h = grind (arith, ints)

pub open_ends : (trigger : Trigger) (mark : ℤ) (w : Interval) → IsOpen trigger mark w → mark <ℤ (w.end +ℤ trigger.lateness)
open_ends trigger mark w h = grind (arith, ints)

pub ends_open : (trigger : Trigger) (mark : ℤ) (w : Interval) → mark <ℤ (w.end +ℤ trigger.lateness) → IsOpen trigger mark w
ends_open trigger mark w h = grind (arith, ints)

-- an own window of the gap's length that isn't too late
pub record IsInTime (trigger : Trigger) (gap mark : ℤ) (v : Interval) : Type 0 where
  pub long : v.end ≡ v.start +ℤ gap
  pub in_time : IsOpen trigger mark v

-- the windows that merge: those that stood and aren't expired, and those that arrived
abbrev pub Merging : Trigger → ℤ → (Interval → Type 0) → (Interval → Type 0) → Interval → Type 0
Merging trigger mark stood arrived v = (stood v × IsOpen trigger mark v) ⊎ arrived v

abbrev pub merging_rules : Trigger → GroupRules
merging_rules trigger = record { merges = true; trigger = trigger }

abbrev pub MergedNext : Trigger → ℤ → (Interval → Type 0) → (Interval → Type 0) → Interval → Type 0
MergedNext trigger mark stood arrived w = StandsNext (merging_rules trigger) mark stood arrived w

-- ---- one commit

module _ (trigger : Trigger) (gap mark : ℤ) (some : pos 0 <ℤ gap) (stood arrived : Interval → Type 0) (in_time : (v : Interval) → arrived v → IsInTime trigger gap mark v) where
  -- a window that takes part in merging ends later than an expired one
  pub ends_later : (w v : Interval) → IsExpired trigger mark w → Merging trigger mark stood arrived v → w.end <ℤ v.end
  ends_later w v gone (inl s) = let a = open_ends trigger mark v s.1 in let b = expired_ends trigger mark w gone in omega (arith, ints)
  ends_later w v gone (inr c) = let a = open_ends trigger mark v (in_time v c).in_time in let b = expired_ends trigger mark w gone in omega (arith, ints)

  new_outside : (own w : Interval) → arrived own → IsExpired trigger mark w → LiesIn own w → ⊥
  new_outside own w c gone lies = let later = ends_later w own gone (inr c) in omega (arith, ints)

  -- An own window that lies in an expired one lies in no session: each window that merges ends later than the expired one. If the session begins with an own
  -- window, that one begins later too, since all are as long.
  not_in_session : (own w s : Interval) → own.end ≡ own.start +ℤ gap → IsExpired trigger mark w → LiesIn own w
      → ((v : Interval) → stood v → LiesIn own v → v ≡ w)
      → IsSessionOf (Merging trigger mark stood arrived) s → LiesIn own s → ⊥
  not_in_session own w s long gone lies one session within = by session.begins.0 session.begins.1 session.begins.2
    where
      by : (v : Interval) → Merging trigger mark stood arrived v → v.start ≡ s.start → ⊥
      by v (inl old) e =
          let later = ends_later w v gone (inl old) in
          let same = one v old.0 (omega (arith, ints), omega (arith, ints)) in
          let ends : v.end ≡ w.end = ap (λ (u : Interval). u.end) same in
          omega (arith, ints)
      by v (inr new) e =
          let later = ends_later w v gone (inr new) in
          let at = (in_time v new).long in
          omega (arith, ints)

  -- an own window belongs to one window after the commit, where it belonged to one at most before
  pub one_after : (own a b : Interval) → own.end ≡ own.start +ℤ gap → ((v w : Interval) → stood v → stood w → LiesIn own v → LiesIn own w → v ≡ w)
      → MergedNext trigger mark stood arrived a → MergedNext trigger mark stood arrived b → LiesIn own a → LiesIn own b → a ≡ b
  one_after own a b long one (inl x) (inl y) p q = one a b x.0 y.0 p q
  one_after own a b long one (inl x) (inr y) p q = absurd (not_in_session own a b long x.1 p (λ v s lies. one v a s x.0 lies p) y q)
  one_after own a b long one (inr x) (inl y) p q = absurd (not_in_session own b a long y.1 q (λ v s lies. one v b s y.0 lies q) x p)
  one_after own a b long one (inr x) (inr y) p q =
      let ordered : IsNonEmpty own = omega (arith, ints) in
      one_of_both own a b ordered p q (one_or_apart (Merging trigger mark stood arrived) a b x y)

  -- an own window that arrived now belongs to a session alone
  pub one_now : (own a b : Interval) → arrived own → MergedNext trigger mark stood arrived a → MergedNext trigger mark stood arrived b → LiesIn own a → LiesIn own b → a ≡ b
  one_now own a b now (inl x) y p q = absurd (new_outside own a now x.1 p)
  one_now own a b now (inr x) (inl y) p q = absurd (new_outside own b now y.1 q)
  one_now own a b now (inr x) (inr y) p q =
      let at = (in_time own now).long in
      let ordered : IsNonEmpty own = omega (arith, ints) in
      one_of_both own a b ordered p q (one_or_apart (Merging trigger mark stood arrived) a b x y)

  -- a session that lies in a window that stood is that window
  pub session_stood : (s w : Interval) → IsSessionOf (Merging trigger mark stood arrived) s → stood w → LiesIn s w → s ≡ w
  session_stood s w session old lies = by (is_expired trigger w.end mark) refl_
    where
      refl_ : is_expired trigger w.end mark ≡ is_expired trigger w.end mark
      refl_ = λ i. is_expired trigger w.end mark

      by : (b : Bool) → is_expired trigger w.end mark ≡ b → s ≡ w
      by false is_open = elim (session.apart w (inl (old, is_open))) [
        | inl inner ↦ same_interval s w (omega (arith, ints)) (omega (arith, ints))
        | inr apart ↦ let ordered = session.ordered in absurd (omega (arith, ints))
      ]
      by true gone = let ends = session.ends in let later = ends_later w ends.0 gone ends.1 in let e = ends.2 in absurd (omega (arith, ints))

-- ---- all commits

module _ (trigger : Trigger) (gap : ℤ) (some : pos 0 <ℤ gap) (mark : ℕ → ℤ) (arrived : ℕ → Interval → Bool) (last : ℕ)
    (first : (v : Interval) → arrived 0 v ≡ true → ⊥)
    (in_time : (c : ℕ) → suc c ≤ last → (v : Interval) → arrived (suc c) v ≡ true → IsInTime trigger gap (mark c) v) where
  abbrev stands : ℕ → Interval → Type 0
  stands c w = Stands (merging_rules trigger) mark arrived c w

  long : (c : ℕ) → c ≤ last → (v : Interval) → arrived c v ≡ true → v.end ≡ v.start +ℤ gap
  long zero within v h = absurd (first v h)
  long (suc c) within v h = (in_time c within v h).long

  -- each own window that arrived belongs to one window that stands
  pub one : (c : ℕ) → c ≤ last → (d : ℕ) → d ≤ c → (own a b : Interval) → arrived d own ≡ true → stands c a → stands c b → LiesIn own a → LiesIn own b → a ≡ b
  one zero within d early own a b h x y p q = absurd x
  one (suc c) within d early own a b h x y p q = elim (cases_lt d (suc c)) [
    | inl earlier ↦
        one_after trigger gap (mark c) some (stands c) (λ v. arrived (suc c) v ≡ true) (in_time c within) own a b (long d (omega arith) own h)
        (λ v w s t l k. one c (omega arith) d (omega arith) own v w h s t l k) x y p q
    | inr now ↦
        let at : d ≡ suc c = omega arith in
        one_now trigger gap (mark c) some (stands c) (λ v. arrived (suc c) v ≡ true) (in_time c within) own a b
        (subst (λ (n : ℕ). arrived n own ≡ true) at h) x y p q
  ]

  -- no window that stands is empty
  pub ordered : (c : ℕ) → (w : Interval) → stands c w → IsNonEmpty w
  ordered zero w h = absurd h
  ordered (suc c) w (inl old) = ordered c w old.0
  ordered (suc c) w (inr session) = session.ordered

  module _ (rises : (c : ℕ) → suc c ≤ last → mark c ≤ℤ mark (suc c)) where
    closed : (a b : ℤ) (w : Interval) → a ≤ℤ b → IsExpired trigger a w → IsOpen trigger b w → ⊥
    closed a b w up gone is_open = let x = expired_ends trigger a w gone in let y = open_ends trigger b w is_open in omega (arith, ints)

    -- windows that stand and are open are one or apart
    pub open_apart : (c : ℕ) → c ≤ last → (a b : Interval) → stands c a → stands c b → IsOpen trigger (mark c) a → IsOpen trigger (mark c) b → (a ≡ b) ⊎ IsApart a b
    open_apart zero within a b x y p q = absurd x
    open_apart (suc c) within a b (inl x) y p q = absurd (closed (mark c) (mark (suc c)) a (rises c within) x.1 p)
    open_apart (suc c) within a b (inr x) (inl y) p q = absurd (closed (mark c) (mark (suc c)) b (rises c within) y.1 q)
    open_apart (suc c) within a b (inr x) (inr y) p q = one_or_apart (Merging trigger (mark c) (stands c) (λ v. arrived (suc c) v ≡ true)) a b x y

  module _ (onward : (c : ℕ) → suc c ≤ last → (v : Interval) → stands c v → (w : Interval) × stands (suc c) w × LiesIn v w) where
    -- a window that stood after commit d lies in one that stands after commit c, the same or a later one
    pub still : (d c : ℕ) → d ≤ c → c ≤ last → (v : Interval) → stands d v → (w : Interval) × stands c w × LiesIn v w
    still d zero early within v h = let at : d ≡ 0 = omega arith in absurd (subst (λ (n : ℕ). stands n v) at h)
    still d (suc c) early within v h = elim (cases_lt d (suc c)) [
      | inl earlier ↦
          let w = still d c (omega arith) (omega arith) v h in
          let u = onward c within w.0 w.1 in
          let inner = w.2 in
          let outer = u.2 in
          (u.0, u.1, (omega (arith, ints), omega (arith, ints)))
      | inr now ↦ let at : d ≡ suc c = omega arith in (v, subst (λ (n : ℕ). stands n v) at h, (omega (arith, ints), omega (arith, ints)))
    ]
