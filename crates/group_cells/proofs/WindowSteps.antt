-- What a commit does to the windows that stand, whether they merge or not.
use Rattle.std.proofs.Common.{◌≡◌, ◌⊎◌, inl, inr, ℕ, zero, suc, ◌≤◌, ◌<ℤ◌, ℤ, pos, Bool, true, false, refl, sym, subst, ◌∙◌, arith}
use Rattle.std.specs.Prelude.{◌&&◌, not, ◌≤ℤ◌, ◌+ℤ◌, List, [], ◌∷◌}
use Rattle.std.proofs.lemmas.Bool.{cases_lt, cases_Bool, and_parts, not-true}
use Rattle.std.proofs.lemmas.Int.{ints}
use Rattle.beam_values.specs.Firing.{is_expired}
use Rattle.beam_values.specs.Intervals.{Interval}
use Rattle.beam_values.specs.Sessions.{IsApart, IsNonEmpty, LiesIn, IsSessionOf}
use Rattle.beam_values.specs.Spans.{same_span, lies_in}
use Rattle.beam_values.specs.declared.plan.Trigger.{Trigger}
use Rattle.beam_values.proofs.Sessions.{one_or_apart}
use Rattle.beam_model.specs.Panes.{GroupRules, StandsNext, Stands}
use Rattle.group_cells.specs.Placing.{is_absorbed}
use Rattle.group_cells.proofs.WindowTests.{fits, span_itself, span_sound, off_itself, lies_from, lies_test, lies_itself, lies_onward, one_of_both}
use Rattle.group_cells.proofs.StandingWindows.{IsExpired, IsOpen, open_ends, ends_open, IsInTime, Merging, merging_rules, MergedNext, session_stood, one_after, one_now, one, ordered, open_apart, still}

-- a window is in a list
abbrev pub IsIn : Interval → List Interval → Type 0
IsIn w [] = ⊥
IsIn w (x ∷ xs) = (w ≡ x) ⊎ IsIn w xs

-- What is asked of the windows that stand before and after a commit (`S` and `T`), where a cell is opened for each of the listed ones.
pub record IsStep (rules : GroupRules) (mark : ℕ → ℤ) (arrived : ℕ → Interval → Bool) (c : ℕ) (new : Interval → Type 0) (S T : Interval → Type 0) (ls : List Interval) : Type 0 where
  -- a window that stood after some earlier commit and stands after this one stood right before it
  pub still : (d : ℕ) → d ≤ c → (w : Interval) → Stands rules mark arrived d w → T w → S w
  -- an own window belongs to one window
  pub alone : (own : Interval) → ((d : ℕ) × (d ≤ c) × (arrived d own ≡ true)) ⊎ new own → (a b : Interval) → T a → T b → fits rules.merges own a ≡ true → fits rules.merges own b ≡ true → a ≡ b
  -- a window that a standing one absorbs doesn't stand afterwards, and lies in the window that absorbs it
  pub gone : (s w : Interval) → T s → is_absorbed rules (mark c) s w ≡ true → T w → ⊥
  pub alone_before : (s w : Interval) → S s → S w → is_absorbed rules (mark c) s w ≡ true → ⊥
  pub lies : (s w : Interval) → is_absorbed rules (mark c) s w ≡ true → LiesIn w s
  pub carries : (s w own : Interval) → is_absorbed rules (mark c) s w ≡ true → fits rules.merges own w ≡ true → fits rules.merges own s ≡ true
  pub not_itself : (s : Interval) → is_absorbed rules (mark c) s s ≡ false
  -- afterwards stand the listed windows, and those of before that none of them absorbs
  pub stays : (w : Interval) → S w → ((s : Interval) → IsIn s ls → is_absorbed rules (mark c) s w ≡ false) → T w
  pub each : (s : Interval) → IsIn s ls → T s
  pub only : (w : Interval) → T w → S w ⊎ IsIn w ls
  pub onward : (v : Interval) → S v → (w : Interval) × T w × LiesIn v w
  pub placed : (v : Interval) → new v → (w : Interval) × T w × LiesIn v w × (fits rules.merges v w ≡ true)

-- the listed window around a window, if there is one
listed_around : (v : Interval) (ls : List Interval) → ((l : Interval) × IsIn l ls × LiesIn v l) ⊎ ((l : Interval) → IsIn l ls → LiesIn v l → ⊥)
listed_around v [] = inr (λ l h k. h)
listed_around v (x ∷ ls) = by (cases_Bool (lies_in v x)) (listed_around v ls)
  where
    by : (lies_in v x ≡ true) ⊎ (lies_in v x ≡ false) → ((l : Interval) × IsIn l ls × LiesIn v l) ⊎ ((l : Interval) → IsIn l ls → LiesIn v l → ⊥)
        → ((l : Interval) × IsIn l (x ∷ ls) × LiesIn v l) ⊎ ((l : Interval) → IsIn l (x ∷ ls) → LiesIn v l → ⊥)
    by (inl on) rest = inl (x, inl refl, lies_from v x on)
    by (inr off) (inl found) = inl (found.0, inr found.1, found.2)
    by (inr off) (inr none) = inr (λ l h lies. elim h [
      | inl e ↦ let no_ : true ≡ false = sym (lies_test v x (subst (λ (u : Interval). LiesIn v u) e lies)) ∙ off in absurd (cc)
      | inr later ↦ none l later lies
    ])

abbrev pub plain_rules : Trigger → GroupRules
plain_rules trigger = record { merges = false; trigger = trigger }

module _ (trigger : Trigger) (mark : ℕ → ℤ) (arrived : ℕ → Interval → Bool) (c : ℕ) (new : Interval → Type 0) (ls : List Interval) where
  -- ---- windows that don't merge

  module _ (listed : (v : Interval) → new v → IsIn v ls) (those : (v : Interval) → IsIn v ls → new v) where
    later : (d e : ℕ) → d ≤ e → (w : Interval) → Stands (plain_rules trigger) mark arrived d w → Stands (plain_rules trigger) mark arrived e w
    later d zero early w h = let at : d ≡ 0 = omega arith in subst (λ (n : ℕ). Stands (plain_rules trigger) mark arrived n w) at h
    later d (suc e) early w h = elim (cases_lt d (suc e)) [
      | inl before ↦ inl (later d e (omega arith) w h)
      | inr now ↦ let at : d ≡ suc e = omega arith in subst (λ (n : ℕ). Stands (plain_rules trigger) mark arrived n w) at h
    ]

    pub plain_step : IsStep (plain_rules trigger) mark arrived c new (Stands (plain_rules trigger) mark arrived c)
        (StandsNext (plain_rules trigger) (mark c) (Stands (plain_rules trigger) mark arrived c) new) ls
    plain_step = record {
      still = λ d early w h t. later d c early w h;
      alone = λ own from a b s t p q. sym (span_sound own a p) ∙ span_sound own b q;
      gone = λ s w t e. absurd (cc);
      alone_before = λ s w a b e. absurd (cc);
      lies = λ s w e. absurd (cc);
      carries = λ s w own e. absurd (cc);
      not_itself = λ s. refl;
      stays = λ w s untaken. inl s;
      each = λ s inside. inr (those s inside);
      only = λ w t. elim t [ inl s ↦ inl s | inr n ↦ inr (listed w n) ];
      onward = λ v s. (v, inl s, lies_itself v);
      placed = λ v n. (v, inr n, lies_itself v, span_itself v);
    }

  -- ---- windows that merge

  record Absorbed (s w : Interval) : Type 0 where
    is_open : IsOpen trigger (mark c) w
    lies : LiesIn w s
    other : same_span w s ≡ false

  absorbed : (s w : Interval) → is_absorbed (merging_rules trigger) (mark c) s w ≡ true → Absorbed s w
  absorbed s w e =
      let p = and_parts (not (is_expired trigger w.end (mark c))) (lies_in w s && not (same_span w s)) e in
      let q = and_parts (lies_in w s) (not (same_span w s)) p.1 in
      record { is_open = not-true (is_expired trigger w.end (mark c)) p.0; lies = lies_from w s q.0; other = not-true (same_span w s) q.1 }

  -- an open window that lies in one and isn't absorbed by it is that window
  unabsorbed : (s w : Interval) → is_absorbed (merging_rules trigger) (mark c) s w ≡ false → IsOpen trigger (mark c) w → LiesIn w s → w ≡ s
  unabsorbed s w e is_open lies =
      let b : lies_in w s ≡ true = lies_test w s lies in
      span_sound w s (by (is_expired trigger w.end (mark c)) (lies_in w s) (same_span w s) is_open b e)
    where
      by : (x y z : Bool) → x ≡ false → y ≡ true → (not x && (y && not z)) ≡ false → z ≡ true
      by false true true p q r = refl
      by false true false p q r = absurd (cc)
      by false false z p q r = absurd (cc)
      by true y z p q r = absurd (cc)

  module _ (gap : ℤ) (some : pos 0 <ℤ gap) (first : (v : Interval) → arrived 0 v ≡ true → ⊥)
      (in_time : (d : ℕ) → suc d ≤ c → (v : Interval) → arrived (suc d) v ≡ true → IsInTime trigger gap (mark d) v)
      (rises : (d : ℕ) → suc d ≤ c → mark d ≤ℤ mark (suc d))
      (onward : (d : ℕ) → suc d ≤ c → (v : Interval) → Stands (merging_rules trigger) mark arrived d v → (w : Interval) × Stands (merging_rules trigger) mark arrived (suc d) w × LiesIn v w)
      (new_in_time : (v : Interval) → new v → IsInTime trigger gap (mark c) v)
      (sessions : (s : Interval) → IsIn s ls → IsSessionOf (Merging trigger (mark c) (Stands (merging_rules trigger) mark arrived c) new) s)
      (covers : (v : Interval) → new v → (l : Interval) × IsIn l ls × LiesIn v l) where
    abbrev S : Interval → Type 0
    S w = Stands (merging_rules trigger) mark arrived c w

    abbrev M : Interval → Type 0
    M w = Merging trigger (mark c) S new w

    abbrev T : Interval → Type 0
    T w = MergedNext trigger (mark c) S new w

    stood_ordered : (w : Interval) → S w → IsNonEmpty w
    stood_ordered = ordered trigger gap some mark arrived c first in_time c

    merging_ordered : (v : Interval) → M v → IsNonEmpty v
    merging_ordered v (inl s) = stood_ordered v s.0
    merging_ordered v (inr n) = let at = (new_in_time v n).long in omega (arith, ints)

    two_open : (a b : Interval) → S a × IsOpen trigger (mark c) a → S b × IsOpen trigger (mark c) b → (a ≡ b) ⊎ IsApart a b
    two_open a b x y = open_apart trigger gap some mark arrived c first in_time rises c (omega arith) a b x.0 y.0 x.1 y.1

    apart_inside : (u l v : Interval) → LiesIn u l → IsApart v l → IsApart u v
    apart_inside u l v lies (inl a) = inr (omega (arith, ints))
    apart_inside u l v lies (inr a) = inl (omega (arith, ints))

    -- an open window that lies in no listed session is a session itself
    itself : (v : Interval) → S v → IsOpen trigger (mark c) v → ((l : Interval) → IsIn l ls → LiesIn v l → ⊥) → IsSessionOf M v
    itself v s is_open off = record {
      ordered = stood_ordered v s;
      begins = (v, inl (s, is_open), refl);
      ends = (v, inl (s, is_open), refl);
      joined = λ x inside. (v, inl (s, is_open), inside);
      apart = λ u m. elim m [
        | inl other ↦ elim (two_open u v other (s, is_open)) [ inl same ↦ inl (subst (λ (w : Interval). LiesIn u w) same (lies_itself u)) | inr away ↦ inr away ]
        | inr n ↦
            let l = covers u n in
            elim ((sessions l.0 l.1).apart v (inl (s, is_open))) [ inl inner ↦ absurd (off l.0 l.1 inner) | inr away ↦ inr (apart_inside u l.0 v l.2 away) ]
      ];
    }

    -- each open window lies in a listed session, or is one itself
    settled : (v : Interval) → S v → IsOpen trigger (mark c) v → ((l : Interval) × IsIn l ls × LiesIn v l) ⊎ IsSessionOf M v
    settled v s is_open = elim (listed_around v ls) [ inl found ↦ inl found | inr off ↦ inr (itself v s is_open off) ]

    -- a session is listed, or stood before
    listed : (s : Interval) → IsSessionOf M s → S s ⊎ IsIn s ls
    listed s session =
        let v = session.begins in
        let some_ = merging_ordered v.0 v.1 in
        let has_some = session.ordered in
        let starts = v.2 in
        let inside : LiesIn v.0 s = elim (session.apart v.0 v.1) [ inl inner ↦ inner | inr away ↦ absurd (omega (arith, ints)) ] in
        by v.0 v.1 some_ inside
      where
        in_list : (v l : Interval) → IsNonEmpty v → LiesIn v s → IsIn l ls → LiesIn v l → IsIn s ls
        in_list v l full inside at lies =
            subst (λ (u : Interval). IsIn u ls) (sym (one_of_both v s l full inside lies (one_or_apart M s l session (sessions l at)))) at

        by : (v : Interval) → M v → IsNonEmpty v → LiesIn v s → S s ⊎ IsIn s ls
        by v (inl old) full inside = elim (settled v old.0 old.1) [
          | inl l ↦ inr (in_list v l.0 full inside l.1 l.2)
          | inr own ↦ inl (subst S (sym (one_of_both v s v full inside (lies_itself v) (one_or_apart M s v session own))) old.0)
        ]
        by v (inr n) full inside = let l = covers v n in inr (in_list v l.0 full inside l.1 l.2)

    open_or_expired : (w : Interval) → IsOpen trigger (mark c) w ⊎ IsExpired trigger (mark c) w
    open_or_expired w = elim (cases_Bool (is_expired trigger w.end (mark c))) [ inl gone ↦ inr gone | inr is_open ↦ inl is_open ]

    session_still : (d : ℕ) → d ≤ c → (w : Interval) → Stands (merging_rules trigger) mark arrived d w → T w → S w
    session_still d early w h (inl x) = x.0
    session_still d early w h (inr session) =
        let u = still trigger gap some mark arrived c first in_time onward d c early (omega arith) w h in
        subst S (sym (session_stood trigger gap (mark c) some S new new_in_time w u.0 session u.1 u.2)) u.1

    long : (d : ℕ) → d ≤ c → (v : Interval) → arrived d v ≡ true → v.end ≡ v.start +ℤ gap
    long zero within v h = absurd (first v h)
    long (suc d) within v h = (in_time d within v h).long

    session_alone : (own : Interval) → ((d : ℕ) × (d ≤ c) × (arrived d own ≡ true)) ⊎ new own → (a b : Interval) → T a → T b → lies_in own a ≡ true → lies_in own b ≡ true → a ≡ b
    session_alone own (inl at) a b s t p q =
        one_after trigger gap (mark c) some S new new_in_time own a b (long at.0 at.1 own at.2)
        (λ v w x y k l. one trigger gap some mark arrived c first in_time c (omega arith) at.0 at.1 own v w at.2 x y k l) s t (lies_from own a p) (lies_from own b q)
    session_alone own (inr now) a b s t p q = one_now trigger gap (mark c) some S new new_in_time own a b now s t (lies_from own a p) (lies_from own b q)

    not_both : (w : Interval) → IsExpired trigger (mark c) w → IsOpen trigger (mark c) w → ⊥
    not_both w gone is_open = let no_ : true ≡ false = sym gone ∙ is_open in absurd (cc)

    -- a window around an open one is open
    open_around : (w s : Interval) → IsOpen trigger (mark c) w → LiesIn w s → IsOpen trigger (mark c) s
    open_around w s is_open lies = let a = open_ends trigger (mark c) w is_open in ends_open trigger (mark c) s (omega (arith, ints))

    session_gone : (s w : Interval) → T s → Absorbed s w → T w → ⊥
    session_gone s w s_stands a (inl x) = not_both w x.1 a.is_open
    session_gone s w (inl x) a (inr session) = not_both s x.1 (open_around w s a.is_open a.lies)
    session_gone s w (inr y) a (inr x) =
        elim (one_or_apart M w s x y) [
          | inl same ↦ off_itself w s same a.other
          | inr away ↦ let lies = a.lies in let some_ = x.ordered in absurd (omega (arith, ints))
        ]

    session_before : (s w : Interval) → S s → S w → Absorbed s w → ⊥
    session_before s w x y a =
        let lies = a.lies in
        elim (two_open w s (y, a.is_open) (x, open_around w s a.is_open a.lies)) [
          | inl same ↦ off_itself w s same a.other
          | inr away ↦ let some_ = stood_ordered w y in absurd (omega (arith, ints))
        ]

    absorbs_not : (s : Interval) → (b : Bool) → is_absorbed (merging_rules trigger) (mark c) s s ≡ b → b ≡ false
    absorbs_not s true e = absurd (off_itself s s refl (absorbed s s e).other)
    absorbs_not s false e = refl

    pub session_step : IsStep (merging_rules trigger) mark arrived c new S T ls
    session_step = record {
      still = session_still;
      alone = session_alone;
      gone = λ s w t e. session_gone s w t (absorbed s w e);
      alone_before = λ s w x y e. session_before s w x y (absorbed s w e);
      lies = λ s w e. (absorbed s w e).lies;
      carries = λ s w own e b. lies_test own s (lies_onward own w s (lies_from own w b) (absorbed s w e).lies);
      not_itself = λ s. absorbs_not s (is_absorbed (merging_rules trigger) (mark c) s s) refl;
      stays = λ w s untaken. elim (open_or_expired w) [
        | inl is_open ↦ elim (settled w s is_open) [
          | inl l ↦
              let same = unabsorbed l.0 w (untaken l.0 l.1) is_open l.2 in
              inr (subst (λ (u : Interval). IsSessionOf M u) (sym same) (sessions l.0 l.1))
          | inr own ↦ inr own
        ]
        | inr gone ↦ inl (s, gone)
      ];
      each = λ s inside. inr (sessions s inside);
      only = λ w t. elim t [ inl x ↦ inl x.0 | inr session ↦ listed w session ];
      onward = λ v s. elim (open_or_expired v) [
        | inl is_open ↦ elim (settled v s is_open) [ inl l ↦ (l.0, inr (sessions l.0 l.1), l.2) | inr own ↦ (v, inr own, lies_itself v) ]
        | inr gone ↦ (v, inl (s, gone), lies_itself v)
      ];
      placed = λ v n. let l = covers v n in (l.0, inr (sessions l.0 l.1), l.2, lies_test v l.0 l.2);
    }
