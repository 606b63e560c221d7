-- The timer that comes first among those below a name.
use Rattle.std.proofs.Common.{◌≡◌, ℕ, ◌+◌, ◌<◌, ◌≤◌, ◌⊎◌, inl, inr, Bool, true, false, ℤ, ◌<ℤ◌, ◌≤ℤ◌, List, length, Option, Some, None, refl, sym, ap, subst, if◌then◌else◌, ◌∙◌, arith}
use Rattle.std.specs.Prelude.{int_le}
use Rattle.std.specs.Option.{MatchOption}
use Rattle.std.proofs.lemmas.Int.{ints, by_lt_z}
use Rattle.std.proofs.lemmas.Bool.{cases_lt}
use Rattle.std.proofs.lemmas.List.{get_or_past}
use Rattle.beam_values.specs.States.{timer_of, ComesNoLater, IsFirstTimer, IsNoneDue}
use Rattle.beam_values.specs.declared.log.Timer.{Timer}
use Rattle.timer_core.specs.FirstTimers.{IsNoneSet, IsLeastTime, earlier}

pub record IsFirstBelow (timers : List (Option ℤ)) (k : ℕ) (timer : Timer) : Type 0 where
  pub is_set : timer_of timers timer.name ≡ Some timer.time
  pub below : timer.name < k
  pub first : (name : ℕ) (time : ℤ) → name < k → timer_of timers name ≡ Some time → ComesNoLater timer name time

abbrev pub IsFirstSoFar : List (Option ℤ) → ℕ → Option Timer → Type 0
IsFirstSoFar timers k None = (name : ℕ) → name < k → timer_of timers name ≡ None
IsFirstSoFar timers k (Some timer) = IsFirstBelow timers k timer

apart : {X : Type 0} {x : X} {o : Option X} → o ≡ None → o ≡ Some x → ⊥
apart e f = cc

same : {X : Type 0} {x y : X} {o : Option X} → o ≡ Some x → o ≡ Some y → x ≡ y
same e f = cc

-- the last of the names below the next one, or one before
at_or_below : (name k : ℕ) → name < k + 1 → (name < k) ⊎ (name ≡ k)
at_or_below name k lt = elim (cases_lt name k) [ inl h ↦ inl h | inr h ↦ inr (omega arith) ]

module _ (timers : List (Option ℤ)) (k : ℕ) where
  abbrev with : ℤ → Timer
  with time = record { name = k; time = time }

  unset_too : timer_of timers k ≡ None → (name : ℕ) → ((name < k) → timer_of timers name ≡ None) → name < k + 1 → timer_of timers name ≡ None
  unset_too unset name before lt =
      elim (at_or_below name k lt) [ inl h ↦ before h | inr e ↦ ap (timer_of timers) e ∙ unset ]

  kept : (timer : Timer) → IsFirstBelow timers k timer → ((time : ℤ) → timer_of timers k ≡ Some time → ComesNoLater timer k time) → IsFirstBelow timers (k + 1) timer
  kept timer h here = record {
    is_set = h.is_set;
    below = omega (arith, h.below);
    first = λ name time lt is.
        elim (at_or_below name k lt) [
          | inl l ↦ h.first name time l is
          | inr e ↦ subst (λ (n : ℕ). ComesNoLater timer n time) (sym e) (here time (sym (ap (timer_of timers) e) ∙ is))
        ];
  }

  alone : (time : ℤ) → timer_of timers k ≡ Some time → ((name : ℕ) (other : ℤ) → name < k → timer_of timers name ≡ Some other → ComesNoLater (with time) name other)
      → IsFirstBelow timers (k + 1) (with time)
  alone time e before = record {
    is_set = e;
    below = omega arith;
    first = λ name other lt is.
        elim (at_or_below name k lt) [
          | inl l ↦ before name other l is
          | inr n ↦ inr (same e (sym (ap (timer_of timers) n) ∙ is), omega arith)
        ];
  }

  -- the later name comes second where the times are equal
  no_earlier : (timer : Timer) (time other : ℤ) → timer.name < k → timer.time ≤ℤ time → time ≡ other → ComesNoLater timer k other
  no_earlier timer time other lt le e =
      by_lt_z timer.time time
      (λ h. inl (omega (arith, ints)))
      (λ h. inr (omega (arith, ints), omega arith))

  sooner : (timer : Timer) (time : ℤ) (name : ℕ) (other : ℤ) → time <ℤ timer.time → ComesNoLater timer name other → ComesNoLater (with time) name other
  sooner timer time name other lt (inl h) = inl (omega (arith, ints))
  sooner timer time name other lt (inr h) = inl (omega (arith, ints, h.0))

  chosen : (timer : Timer) (time : ℤ) (b : Bool) → int_le timer.time time ≡ b → IsFirstBelow timers k timer → timer_of timers k ≡ Some time
      → IsFirstSoFar timers (k + 1) (if b then Some timer else Some (with time))
  chosen timer time true test h e = kept timer h (λ other is. no_earlier timer time other h.below (omega (arith, ints)) (same e is))
  chosen timer time false test h e = alone time e (λ name other lt is. sooner timer time name other (omega (arith, ints)) (h.first name other lt is))

  more_of : (first : Option Timer) (o : Option ℤ) → timer_of timers k ≡ o → IsFirstSoFar timers k first → IsFirstSoFar timers (k + 1) (earlier first k o)
  more_of None None e h = λ name lt. unset_too e name (h name) lt
  more_of (Some timer) None e h = kept timer h (λ time is. absurd (apart e is))
  more_of None (Some time) e h = alone time e (λ name other lt is. absurd (apart (h name lt) is))
  more_of (Some timer) (Some time) e h = chosen timer time (int_le timer.time time) refl h e

  pub first_more : (first : Option Timer) → IsFirstSoFar timers k first → IsFirstSoFar timers (k + 1) (earlier first k (timer_of timers k))
  first_more first h = more_of first (timer_of timers k) refl h

pub first_none : (timers : List (Option ℤ)) → IsFirstSoFar timers 0 None
first_none timers name lt = absurd (omega arith)

past : (timers : List (Option ℤ)) (name : ℕ) → length timers ≤ name → timer_of timers name ≡ None
past timers name le = get_or_past timers name None le

pub first_all : (timers : List (Option ℤ)) (first : Option Timer) → IsFirstSoFar timers (length timers) first → MatchOption first (IsNoneSet timers) (IsFirstTimer timers)
first_all timers None h = λ name. elim (cases_lt name (length timers)) [ inl l ↦ h name l | inr g ↦ past timers name g ]
first_all timers (Some timer) h = record {
  is_set = h.is_set;
  first = λ name time is.
      elim (cases_lt name (length timers)) [
        | inl l ↦ h.first name time l is
        | inr g ↦ absurd (apart (past timers name g) is)
      ];
}

-- what the first timer says of those that are due, and of the least time
pub none_due : (timers : List (Option ℤ)) (mark : ℤ) → IsNoneSet timers → IsNoneDue timers mark
none_due timers mark none name time is = absurd (apart (none name) is)

no_later : (timer : Timer) (name : ℕ) (time : ℤ) → ComesNoLater timer name time → timer.time ≤ℤ time
no_later timer name time (inl h) = omega (arith, ints)
no_later timer name time (inr h) = omega (arith, ints, h.0)

pub none_due_yet : (timers : List (Option ℤ)) (timer : Timer) (mark : ℤ) → IsFirstTimer timers timer → mark <ℤ timer.time → IsNoneDue timers mark
none_due_yet timers timer mark h lt name time is = omega (arith, ints, no_later timer name time (h.first name time is))

pub least_of_first : (timers : List (Option ℤ)) (timer : Timer) → IsFirstTimer timers timer → IsLeastTime timers timer.time
least_of_first timers timer h = record {
  name = timer.name;
  is_set = h.is_set;
  least = λ other later is. no_later timer other later (h.first other later is);
}

-- a step of the loop over the names
pub first_step : (timers : List (Option ℤ)) (k : ℕ) (first next : Option Timer) (read : Option ℤ) → IsFirstSoFar timers k first → next ≡ earlier first k read → read ≡ timer_of timers k
    → IsFirstSoFar timers (k + 1) next
first_step timers k first next read h e is =
    subst (IsFirstSoFar timers (k + 1)) (sym (e ∙ ap (earlier first k) is)) (first_more timers k first h)
