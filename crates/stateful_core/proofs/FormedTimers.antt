-- Timers that are set, as data, and the timers that this data stands for.
use Rattle.std.proofs.Common.{◌≡◌, ℕ, zero, suc, ◌+◌, ◌<◌, ◌≤◌, ◌==◌, ℤ, Bool, true, false, cond, List, [], ◌∷◌, ◌++◌, length, drop, get_or, replicate}
use Rattle.std.proofs.Common.{Option, Some, None, refl, sym, ap, subst, ◌∙◌, arith, append_assoc, eq-eqb}
use Rattle.std.specs.Prelude.{count_by, fold, slice_set}
use Rattle.std.specs.List.{All}
use Rattle.std.proofs.lemmas.List.{append-nil}
use Rattle.std.proofs.lemmas.List.Elements.{All-cons, All-head, All-nil, All-tail}
use Rattle.beam_values.specs.States.{timer_of}
use Rattle.beam_values.specs.declared.plan.Node.{Node}
use Rattle.beam_values.specs.declared.plan.NodeKind.{NodeKind}
use Rattle.beam_values.specs.declared.plan.NodeKind.TheVariants.{Stateful}
use Rattle.beam_values.specs.declared.plan.StateKind.{StateKind}
use Rattle.stateful_core.specs.Data.{is_timer, timer_holds_of, timers_from, times_of}
use Rattle.stateful_core.specs.Restoring.{one_timer}
use Rattle.stateful_core.specs.SaneData.{AreTimersAllowed, AreTimersAllowedAt, AreTimersAllowedIn}
use Rattle.stateful_core.specs.Taking.{is_some}
use Rattle.stateful_core.specs.Timers.{AreTimersAt, AreTimersIn, IsAllowed}
use Rattle.stateful_core.specs.declared.data.SetTimer.{SetTimer}
use Rattle.stateful_core.proofs.OfSane.{set_name}
use Rattle.stateful_core.proofs.OnceOnly.{counted}
use Rattle.stateful_core.proofs.TreeSteps.{set_sized, set_there}

-- ---- given out

pub none_from : (name : ℕ) (times : List (Option ℤ)) → timers_from name times [] ≡ []
none_from name [] = refl
none_from name (None ∷ times) = refl
none_from name (Some time ∷ times) = refl

from_one : (name k : ℕ) (times holds : List (Option ℤ)) → timers_from name (drop k times) (drop k holds)
    ≡ one_timer name (timer_of times k) (timer_of holds k) ++ timers_from (suc name) (drop (suc k) times) (drop (suc k) holds)
from_one name zero [] holds = refl
from_one name zero (None ∷ times) [] = sym (none_from (suc name) times)
from_one name zero (Some time ∷ times) [] = sym (none_from (suc name) times)
from_one name zero (None ∷ times) (hold ∷ holds) = refl
from_one name zero (Some time ∷ times) (None ∷ holds) = refl
from_one name zero (Some time ∷ times) (Some hold ∷ holds) = refl
from_one name (suc k) [] holds = refl
from_one name (suc k) (time ∷ times) [] = none_from name (drop k times) ∙ rest (timer_of times k)
  where
    rest : (o : Option ℤ) → [] ≡ one_timer name o None ++ timers_from (suc name) (drop (suc k) times) []
    rest None = sym (none_from (suc name) (drop (suc k) times))
    rest (Some t) = sym (none_from (suc name) (drop (suc k) times))
from_one name (suc k) (time ∷ times) (hold ∷ holds) = from_one name k times holds

pub given_more : (name next : ℕ) (times holds : List (Option ℤ)) (set after all : List SetTimer) → next ≡ name + 1
    → after ≡ set ++ one_timer name (timer_of times name) (timer_of holds name)
    → set ++ timers_from name (drop name times) (drop name holds) ≡ all → after ++ timers_from next (drop next times) (drop next holds) ≡ all
given_more name next times holds set after all one more so_far =
    let up : next ≡ suc name = omega (arith, one) in
    ap (λ n. after ++ timers_from n (drop n times) (drop n holds)) up
    ∙ ap (λ l. l ++ timers_from (suc name) (drop (suc name) times) (drop (suc name) holds)) more
    ∙ append_assoc set (one_timer name (timer_of times name) (timer_of holds name)) (timers_from (suc name) (drop (suc name) times) (drop (suc name) holds))
    ∙ ap (λ l. set ++ l) (sym (from_one name name times holds))
    ∙ so_far

dropped : {X : Type 0} (k : ℕ) (xs : List X) → length xs ≤ k → drop k xs ≡ []
dropped zero [] h = refl
dropped (suc k) [] h = refl
dropped zero (x ∷ xs) h = absurd (omega arith)
dropped (suc k) (x ∷ xs) h = dropped k xs (omega arith)

pub given_all : (name : ℕ) (times holds : List (Option ℤ)) (set all : List SetTimer) → length holds ≤ name
    → set ++ timers_from name (drop name times) (drop name holds) ≡ all → set ≡ all
given_all name times holds set all past so_far =
    sym (append-nil set) ∙ ap (λ l. set ++ l) (sym (ap (timers_from name (drop name times)) (dropped name holds past) ∙ none_from name (drop name times)))
    ∙ so_far

-- ---- made again

abbrev with_time : List (Option ℤ) → SetTimer → List (Option ℤ)
with_time times set = slice_set times set.timer.name (Some set.timer.time)

abbrev with_hold : List (Option ℤ) → SetTimer → List (Option ℤ)
with_hold holds set = slice_set holds set.timer.name (Some set.hold)

-- a timer that is set stays set
one_stays : (times : List (Option ℤ)) (n name : ℕ) (time : ℤ) → is_some (timer_of times name) ≡ true
    → is_some (timer_of (slice_set times n (Some time)) name) ≡ true
one_stays [] n name time h = h
one_stays (x ∷ times) zero zero time h = refl
one_stays (x ∷ times) zero (suc name) time h = h
one_stays (x ∷ times) (suc n) zero time h = h
one_stays (x ∷ times) (suc n) (suc name) time h = one_stays times n name time h

stays : (timers : List SetTimer) (times : List (Option ℤ)) (name : ℕ) → is_some (timer_of times name) ≡ true
    → is_some (timer_of (fold with_time times timers) name) ≡ true
stays [] times name h = h
stays (s ∷ timers) times name h = stays timers (with_time times s) name (one_stays times s.timer.name name s.timer.time h)

-- where timer 0 alone is set, each of the data is timer 0
is_zero : (first : Option ℤ) (times : List (Option ℤ)) (s : SetTimer) (rest : List SetTimer) → length times ≡ 8 → s.timer.name < 8
    → fold with_time (with_time times s) rest ≡ first ∷ replicate 7 None → s.timer.name ≡ 0
is_zero first times s rest sized less is = by (timer_of (first ∷ replicate 7 None) s.timer.name) refl
    (sym (ap (λ (l : List (Option ℤ)). is_some (timer_of l s.timer.name)) is)
    ∙ stays rest (with_time times s) s.timer.name (ap is_some (set_there times s.timer.name (Some s.timer.time) None (omega (arith, sized, less)))))
  where
    by : (o : Option ℤ) → timer_of (first ∷ replicate 7 None) s.timer.name ≡ o → is_some o ≡ true → s.timer.name ≡ 0
    by None e f = absurd (cc)
    by (Some time) e f = (set_name first s.timer.name time e).0

-- ---- what a function sets

pub allowed_none : (work : StateKind) (timers : List SetTimer) → length timers ≡ 0 → AreTimersAllowed work timers
allowed_none work [] none = record {
  named = All-nil (λ (s : SetTimer). s.timer.name < 8);
  once = λ name. omega arith;
  allowed = record { first = None; is = refl; allowed = tt };
}
allowed_none work (s ∷ timers) none = absurd (omega (arith, none))

one_of : (timers : List SetTimer) (d : SetTimer) → length timers ≡ 1 → timers ≡ get_or timers 0 d ∷ []
one_of [] d e = absurd (omega (arith, e))
one_of (s ∷ []) d e = refl
one_of (s ∷ t ∷ timers) d e = absurd (omega (arith, e))

pub at_most_one : (p : SetTimer → Bool) (s : SetTimer) → count_by p (s ∷ []) ≤ 1
at_most_one p s = by (p s) (counted p s [])
  where
    by : (b : Bool) → count_by p (s ∷ []) ≡ cond b 1 0 + count_by p [] → count_by p (s ∷ []) ≤ 1
    by true e = omega (arith, e)
    by false e = omega (arith, e)

first_set : (s : SetTimer) → s.timer.name ≡ 0 → times_of (s ∷ []) ≡ Some s.timer.time ∷ replicate 7 None
first_set s zero_is = ap (λ n. slice_set (replicate 8 None) n (Some s.timer.time)) zero_is

allowed_first : (work : StateKind) (s : SetTimer) → s.timer.name ≡ 0 → IsAllowed work (Some s.timer.time) → AreTimersAllowed work (s ∷ [])
allowed_first work s zero_is may = record {
  named = All-cons (λ (t : SetTimer). t.timer.name < 8) s [] (omega (arith, zero_is)) (All-nil (λ (t : SetTimer). t.timer.name < 8));
  once = λ name. at_most_one (is_timer name) s;
  allowed = record { first = Some s.timer.time; is = first_set s zero_is; allowed = may };
}

first_allowed : (work : StateKind) (s : SetTimer) → AreTimersAllowed work (s ∷ []) → (s.timer.name ≡ 0) × IsAllowed work (Some s.timer.time)
first_allowed work s h =
    let zero_is = is_zero h.allowed.first (replicate 8 None) s [] refl (All-head (λ (t : SetTimer). t.timer.name < 8) s [] h.named) h.allowed.is in
    (zero_is, subst (IsAllowed work) (same (sym h.allowed.is ∙ first_set s zero_is)) h.allowed.allowed)
  where
    same : h.allowed.first ∷ replicate 7 None ≡ Some s.timer.time ∷ replicate 7 None → h.allowed.first ≡ Some s.timer.time
    same e = cc

pub one_long : (n : ℕ) → (n == 0) ≡ false → n ≤ 1 → n ≡ 1
one_long zero e most = absurd (cc)
one_long (suc n) e most = omega (arith, most)

pub allowed_one : (work : StateKind) (timers : List SetTimer) (d : SetTimer) → length timers ≡ 1 → (get_or timers 0 d).timer.name ≡ 0
    → IsAllowed work (Some (get_or timers 0 d).timer.time) → AreTimersAllowed work timers
allowed_one work timers d one zero_is may = subst (AreTimersAllowed work) (sym (one_of timers d one)) (allowed_first work (get_or timers 0 d) zero_is may)

pub one_allowed : (work : StateKind) (timers : List SetTimer) (d : SetTimer) → length timers ≡ 1 → AreTimersAllowed work timers
    → ((get_or timers 0 d).timer.name ≡ 0) × IsAllowed work (Some (get_or timers 0 d).timer.time)
one_allowed work timers d one h = first_allowed work (get_or timers 0 d) (subst (AreTimersAllowed work) (one_of timers d one) h)

two_allowed : (work : StateKind) (s t : SetTimer) (rest : List SetTimer) → AreTimersAllowed work (s ∷ t ∷ rest) → ⊥
two_allowed work s t rest h =
    let named = All-tail (λ (x : SetTimer). x.timer.name < 8) s (t ∷ rest) h.named in
    let a = is_zero h.allowed.first (replicate 8 None) s (t ∷ rest) refl (All-head (λ (x : SetTimer). x.timer.name < 8) s (t ∷ rest) h.named) h.allowed.is in
    let b = is_zero h.allowed.first (with_time (replicate 8 None) s) t rest (set_sized (replicate 8 None) s.timer.name (Some s.timer.time))
    (All-head (λ (x : SetTimer). x.timer.name < 8) t rest named)
    h.allowed.is in
    omega (arith, h.once 0, counted (is_timer 0) s (t ∷ rest), counted (is_timer 0) t rest, zero_counts s a, zero_counts t b)
  where
    zero_counts : (x : SetTimer) → x.timer.name ≡ 0 → cond {A = ℕ} (is_timer 0 x) 1 0 ≡ 1
    zero_counts x e = ap (λ (b : Bool). cond {A = ℕ} b 1 0) (eq-eqb x.timer.name 0 e)

pub some_allowed : (work : StateKind) (timers : List SetTimer) → 1 < length timers → AreTimersAllowed work timers → ⊥
some_allowed work [] more h = omega (arith, more)
some_allowed work (s ∷ []) more h = omega (arith, more)
some_allowed work (s ∷ t ∷ rest) more h = two_allowed work s t rest h

pub record AreAll (timers : List SetTimer) (found : Option Node) : Type 0 where
  pub named : All (λ (s : SetTimer). s.timer.name < 8) timers
  pub once : (name : ℕ) → count_by (is_timer name) timers ≤ 1
  pub are_in : AreTimersIn found (times_of timers)

pub allowed_in : (found : Option Node) (timers : List SetTimer) → AreTimersAllowedIn found timers → AreAll timers found
allowed_in (Some node) timers h =
    let parts = at_kind node.kind h in
    record { named = parts.0; once = parts.1; are_in = parts.2 }
  where
    at_kind : (kind : NodeKind) → AreTimersAllowedAt kind timers
        → (All (λ (s : SetTimer). s.timer.name < 8) timers × ((name : ℕ) → count_by (is_timer name) timers ≤ 1) × AreTimersAt kind (times_of timers))
    at_kind (Stateful work args log) k = (k.named, k.once, k.allowed)
    at_kind _ k = absurd k
allowed_in None timers h = absurd h

pub in_allowed : (found : Option Node) (timers : List SetTimer) → AreAll timers found → AreTimersAllowedIn found timers
in_allowed (Some node) timers h = at_kind node.kind h.are_in
  where
    at_kind : (kind : NodeKind) → AreTimersAt kind (times_of timers) → AreTimersAllowedAt kind timers
    at_kind (Stateful work args log) k = record { named = h.named; once = h.once; allowed = k }
    at_kind _ k = absurd k
in_allowed None timers h = absurd h.are_in

-- ---- the holds of what is made again

holds_kept : (timers : List SetTimer) (holds : List (Option ℤ)) → length (fold with_hold holds timers) ≡ length holds
holds_kept [] holds = refl
holds_kept (s ∷ timers) holds = holds_kept timers (with_hold holds s) ∙ set_sized holds s.timer.name (Some s.hold)

pub holds_sized : (timers : List SetTimer) → length (timer_holds_of timers) ≡ 8
holds_sized timers = holds_kept timers (replicate 8 None)

abbrev AreSetAlike : List (Option ℤ) → List (Option ℤ) → Type 0
AreSetAlike holds times = (name : ℕ) → is_some (timer_of holds name) ≡ is_some (timer_of times name)

one_alike : (holds times : List (Option ℤ)) (n : ℕ) (hold time : ℤ) → length holds ≡ length times → AreSetAlike holds times
    → AreSetAlike (slice_set holds n (Some hold)) (slice_set times n (Some time))
one_alike [] [] n hold time sized h name = refl
one_alike [] (t ∷ times) n hold time sized h name = absurd (omega (arith, sized))
one_alike (x ∷ holds) [] n hold time sized h name = absurd (omega (arith, sized))
one_alike (x ∷ holds) (t ∷ times) zero hold time sized h zero = refl
one_alike (x ∷ holds) (t ∷ times) zero hold time sized h (suc name) = h (suc name)
one_alike (x ∷ holds) (t ∷ times) (suc n) hold time sized h zero = h 0
one_alike (x ∷ holds) (t ∷ times) (suc n) hold time sized h (suc name) = one_alike holds times n hold time (omega (arith, sized)) (λ k. h (suc k)) name

all_alike : (timers : List SetTimer) (holds times : List (Option ℤ)) → length holds ≡ length times → AreSetAlike holds times
    → AreSetAlike (fold with_hold holds timers) (fold with_time times timers)
all_alike [] holds times sized h = h
all_alike (s ∷ timers) holds times sized h =
    all_alike timers (with_hold holds s) (with_time times s)
    (set_sized holds s.timer.name (Some s.hold) ∙ sized ∙ sym (set_sized times s.timer.name (Some s.timer.time)))
    (one_alike holds times s.timer.name s.hold s.timer.time sized h)

pub holds_alike : (timers : List SetTimer) → AreSetAlike (timer_holds_of timers) (times_of timers)
holds_alike timers = all_alike timers (replicate 8 None) (replicate 8 None) refl (λ name. refl)
