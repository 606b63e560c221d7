-- The first timer by a pass over the names is the one that comes first.
use Rattle.std.proofs.Common.{◌≡◌, ℕ, ◌+◌, ℤ, List, [], ◌∷◌, ◌++◌, length, Option, Some, None, refl, sym, ap, subst, inl, inr, arith}
use Rattle.std.specs.Option.{MatchOption}
use Rattle.std.proofs.lemmas.Int.{ints}
use Rattle.std.proofs.lemmas.List.{get_or_at, append_assoc, length-append}
use Rattle.beam_values.specs.States.{ComesNoLater, IsFirstTimer}
use Rattle.beam_values.specs.declared.log.Timer.{Timer}
use Rattle.timer_core.specs.FirstTimers.{IsNoneSet, earlier}
use Rattle.timer_core.proofs.FirstSoFar.{IsFirstSoFar, first_none, first_more, first_all}
use Rattle.stateful_core.specs.Taking.{first_from, first_timer}

first_along : (before timers : List (Option ℤ)) (k : ℕ) (first : Option Timer) → length before ≡ k → IsFirstSoFar (before ++ timers) k first
    → IsFirstSoFar (before ++ timers) (k + length timers) (first_from k first timers)
first_along before [] k first e h = subst (λ (n : ℕ). IsFirstSoFar (before ++ []) n first) (omega arith) h
first_along before (time ∷ timers) k first e h =
    let whole : List (Option ℤ) = before ++ time ∷ timers in
    let moved : whole ≡ (before ++ time ∷ []) ++ timers = sym (append_assoc before (time ∷ []) timers) in
    let here : IsFirstSoFar whole (k + 1) (earlier first k time) =
    subst (λ (o : Option ℤ). IsFirstSoFar whole (k + 1) (earlier first k o)) (get_or_at before time timers None k e) (first_more whole k first h) in
    let onward = first_along (before ++ time ∷ []) timers (k + 1) (earlier first k time) (omega (arith, e, length-append before (time ∷ [])))
    (subst (λ (l : List (Option ℤ)). IsFirstSoFar l (k + 1) (earlier first k time)) moved here) in
    subst (λ (n : ℕ). IsFirstSoFar whole n (first_from (k + 1) (earlier first k time) timers)) (omega arith)
    (subst (λ (l : List (Option ℤ)). IsFirstSoFar l (k + 1 + length timers) (first_from (k + 1) (earlier first k time) timers)) (sym moved) onward)

pub first_found : (timers : List (Option ℤ)) → MatchOption (first_timer timers) (IsNoneSet timers) (IsFirstTimer timers)
first_found timers =
    first_all timers (first_timer timers)
    (subst (λ (n : ℕ). IsFirstSoFar timers n (first_timer timers)) (omega arith) (first_along [] timers 0 None refl (first_none timers)))

-- there is one
same_pair : (a b : Timer) → a.name ≡ b.name → a.time ≡ b.time → a ≡ b
same_pair a b e f = λ i. record { name = e i; time = f i }

by_order : (a b : Timer) → ComesNoLater a b.name b.time → ComesNoLater b a.name a.time → a ≡ b
by_order a b (inl h) (inl k) = absurd (omega (arith, ints))
by_order a b (inl h) (inr k) = absurd (omega (arith, ints, k.0))
by_order a b (inr h) (inl k) = absurd (omega (arith, ints, h.0))
by_order a b (inr h) (inr k) = same_pair a b (omega (arith, h.1, k.1)) h.0

pub one_first : (timers : List (Option ℤ)) (a b : Timer) → IsFirstTimer timers a → IsFirstTimer timers b → a ≡ b
one_first timers a b h k = by_order a b (h.first b.name b.time k.is_set) (k.first a.name a.time h.is_set)

unset : (timers : List (Option ℤ)) (timer : Timer) → IsNoneSet timers → IsFirstTimer timers timer → ⊥
unset timers timer h k = absurd (let e = h timer.name in let f = k.is_set in cc)

found_is : (timers : List (Option ℤ)) (timer : Timer) (found : Option Timer) → MatchOption found (IsNoneSet timers) (IsFirstTimer timers) → IsFirstTimer timers timer → found ≡ Some timer
found_is timers timer None m h = absurd (unset timers timer m h)
found_is timers timer (Some other) m h = ap Some (one_first timers other timer m h)

pub first_is : (timers : List (Option ℤ)) (timer : Timer) → IsFirstTimer timers timer → first_timer timers ≡ Some timer
first_is timers timer h = found_is timers timer (first_timer timers) (first_found timers) h

pub is_first : (timers : List (Option ℤ)) (timer : Timer) → first_timer timers ≡ Some timer → IsFirstTimer timers timer
is_first timers timer e = subst (λ (o : Option Timer). MatchOption o (IsNoneSet timers) (IsFirstTimer timers)) e (first_found timers)

pub no_first : (timers : List (Option ℤ)) → first_timer timers ≡ None → IsNoneSet timers
no_first timers e = subst (λ (o : Option Timer). MatchOption o (IsNoneSet timers) (IsFirstTimer timers)) e (first_found timers)
