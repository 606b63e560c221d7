-- Numbers of milliseconds, windows and pane tags that were written are read, and what is read was written.
use Rattle.std.proofs.Common.{◌≡◌, ℕ, zero, suc, ◌+◌, ◌-◌, ◌^◌, ◌<◌, ◌≤◌, true, false, cond, ◌&&◌, ℤ, pos, negsuc, ◌<ℤ◌, FitsSigned, w64, List, [], ◌∷◌, ◌++◌, length, take, drop, nat_lt, Result, Ok, Err, refl, sym, ap, subst, ◌∙◌, arith, inl, inr, lt-ltb, le-ltb, ltb-true, ltb-false}
use Rattle.std.specs.Int.{to_be_bytes, from_be_bytes}
use Rattle.std.specs.Int.Signed.{lt_z, le_z}
use Rattle.std.proofs.lemmas.Bool.{cases_lt, ne_eqb, and_parts, and_from}
use Rattle.std.proofs.lemmas.Int.{ints}
use Rattle.std.proofs.lemmas.List.{take-append-drop, length-append, length-take}
use Rattle.std.proofs.lemmas.Nat.{be_bytes_8, from_be_bytes-to_be_bytes_8}
use Rattle.beam_values.specs.declared.element.PaneTag.{PaneTag}
use Rattle.beam_values.specs.declared.element.Timing.{Timing}
use Rattle.beam_values.specs.declared.element.Timing.TheVariants.{Early, OnTime, Late, Unknown}
use Rattle.beam_values.specs.Intervals.{Interval}
use Rattle.beam_values.specs.Spelling.{varint, sign_flipped, ms_spelling, pane_spelling}
use Rattle.beam_values.specs.Times.{IsTime, least_time, greatest_time}
use Rattle.beam_values.specs.Timings.{timing_number}
use Rattle.beam_coders.specs.declared.refusal.CoderRefusal.{CoderRefusal}
use Rattle.beam_coders.specs.declared.refusal.CoderRefusal.TheVariants.{Short, Range}
use Rattle.beam_coders.specs.Reading.{◌>>=◌, varint_at, unflipped, ms_at, time_at, span_at, timing_of, pane_at}
use Rattle.beam_coders.proofs.Parts.{IsBytes, IsBytes-drop, IsBytes-take, IsBytes-rest, bind_ok, guard_ok, guard_passed, ok_is, Takes, Takes-then, Takes-byte}
use Rattle.beam_coders.proofs.VarintLaws.{varint_takes, varint_again}

-- ---- milliseconds

unflip_fits : (n : ℕ) → n < 2 ^ 64 → (sign_flipped (unflipped n) ≡ n) × FitsSigned w64 (unflipped n)
unflip_fits n small =
    elim (cases_lt n (2 ^ 63)) [
      | inl low ↦ rw (lt-ltb n (2 ^ 63) low) (omega arith, record { sfits = omega arith })
      | inr high ↦ rw (le-ltb n (2 ^ 63) high) (omega arith, record { sfits = omega arith })
    ]

flip_small : (ms : ℤ) → FitsSigned w64 ms → sign_flipped ms < 2 ^ 64
flip_small (pos n) f = omega (arith, f.sfits)
flip_small (negsuc n) f = omega (arith, f.sfits)

unflip_again : (ms : ℤ) → FitsSigned w64 ms → unflipped (sign_flipped ms) ≡ ms
unflip_again (pos n) f = let back : 2 ^ 63 + n - 2 ^ 63 ≡ n = omega arith in rw (le-ltb (2 ^ 63 + n) (2 ^ 63) (omega arith)) (ap pos back)
unflip_again (negsuc n) f =
    let low : 2 ^ 63 - 1 - n < 2 ^ 63 = omega (arith, f.sfits) in
    let back : 2 ^ 63 - 1 - (2 ^ 63 - 1 - n) ≡ n = omega (arith, f.sfits) in
    rw (lt-ltb (2 ^ 63 - 1 - n) (2 ^ 63) low) (ap negsuc back)

be_small : (bytes : List ℕ) → IsBytes bytes → from_be_bytes w64 bytes < 2 ^ 64
be_small bytes fits = omega (arith, fits 0, fits 1, fits 2, fits 3, fits 4, fits 5, fits 6, fits 7)

pub record MsReadSo (bytes : List ℕ) (x : ℤ × List ℕ) : Type 0 where
  pub takes : Takes bytes (ms_spelling x.0) x.1
  pub word : FitsSigned w64 x.0

pub ms_takes : (bytes : List ℕ) (x : ℤ × List ℕ) → IsBytes bytes → ms_at bytes ≡ Ok x → MsReadSo bytes x
unfolding ms_at ms_spelling
ms_takes bytes x fits e =
    let g = guard_ok (nat_lt (length bytes) 8) Short (unflipped (from_be_bytes w64 (take 8 bytes)), drop 8 bytes) x e in
    let long : 8 ≤ length bytes = ltb-false (length bytes) 8 g.0 in
    let front = IsBytes-take 8 bytes fits in
    let n = from_be_bytes w64 (take 8 bytes) in
    let number = unflip_fits n (be_small (take 8 bytes) front) in
    let same : to_be_bytes w64 (sign_flipped (unflipped n)) ≡ take 8 bytes = ap (to_be_bytes w64) number.0 ∙ be_bytes_8 (take 8 bytes) n (omega (arith, length-take 8 bytes)) front refl in
    let whole : bytes ≡ to_be_bytes w64 (sign_flipped (unflipped n)) ++ drop 8 bytes = sym (take-append-drop 8 bytes) ∙ ap (λ (t : List ℕ). t ++ drop 8 bytes) (sym same) in
    subst (MsReadSo bytes) g.1 record { takes = record { parts = whole; rest_fits = IsBytes-drop 8 bytes fits }; word = number.1 }

pub ms_again : (ms : ℤ) (rest : List ℕ) → FitsSigned w64 ms → ms_at (ms_spelling ms ++ rest) ≡ Ok (ms, rest)
unfolding ms_at ms_spelling
ms_again ms rest f =
    let text = to_be_bytes w64 (sign_flipped ms) in
    let long : nat_lt (length (text ++ rest)) 8 ≡ false = le-ltb (length (text ++ rest)) 8 (omega (arith, length-append text rest)) in
    let number : unflipped (from_be_bytes w64 text) ≡ ms = ap unflipped (from_be_bytes-to_be_bytes_8 (sign_flipped ms) (flip_small ms f)) ∙ unflip_again ms f in
    rw long (ap (λ (k : ℤ). Ok (k, rest)) number)

-- ---- times

pub record TimeReadSo (bytes : List ℕ) (x : ℤ × List ℕ) : Type 0 where
  pub takes : Takes bytes (ms_spelling x.0) x.1
  pub within : IsTime x.0

in_bounds : (t : ℤ) → (le_z least_time t && le_z t greatest_time) ≡ true → IsTime t
in_bounds t e =
    let p = and_parts (le_z least_time t) (le_z t greatest_time) e in
    (grind (arith, ints, p.0), grind (arith, ints, p.1))

bounds_hold : (t : ℤ) → IsTime t → (le_z least_time t && le_z t greatest_time) ≡ true
bounds_hold t h = and_from (le_z least_time t) (le_z t greatest_time) (grind (arith, ints, h.0)) (grind (arith, ints, h.1))

pub time_takes : (bytes : List ℕ) (x : ℤ × List ℕ) → IsBytes bytes → time_at bytes ≡ Ok x → TimeReadSo bytes x
unfolding time_at
time_takes bytes x fits e =
    let a = bind_ok (ms_at bytes) (λ ms. cond (le_z least_time ms.0 && le_z ms.0 greatest_time) (Ok ms) (Err Range)) x e in
    let g = guard_passed (le_z least_time a.0.0 && le_z a.0.0 greatest_time) Range a.0 x a.2 in
    subst (TimeReadSo bytes) g.1 record { takes = (ms_takes bytes a.0 fits a.1).takes; within = in_bounds a.0.0 g.0 }

time_fits : (t : ℤ) → IsTime t → FitsSigned w64 t
time_fits (pos n) h = record { sfits = omega (arith, ints, h.1) }
time_fits (negsuc n) h = record { sfits = omega (arith, ints, h.0) }

pub time_again : (t : ℤ) (rest : List ℕ) → IsTime t → time_at (ms_spelling t ++ rest) ≡ Ok (t, rest)
unfolding time_at
time_again t rest h = rw (ms_again t rest (time_fits t h), bounds_hold t h) refl

-- ---- windows

pub record SpanReadSo (bytes : List ℕ) (x : Interval × List ℕ) : Type 0 where
  pub takes : Takes bytes (ms_spelling x.0.start ++ ms_spelling x.0.end) x.1
  pub start : FitsSigned w64 x.0.start
  pub end : FitsSigned w64 x.0.end
  pub ordered : x.0.start <ℤ x.0.end

pub span_takes : (bytes : List ℕ) (x : Interval × List ℕ) → IsBytes bytes → span_at bytes ≡ Ok x → SpanReadSo bytes x
unfolding span_at
span_takes bytes x fits e =
    let a = bind_ok (ms_at bytes) (λ start. ms_at start.1 >>= λ end. cond (lt_z start.0 end.0) (Ok (record { start = start.0; end = end.0 }, end.1)) (Err Range)) x e in
    let start = a.0 in
    let b = bind_ok (ms_at start.1) (λ end. cond (lt_z start.0 end.0) (Ok (record { start = start.0; end = end.0 }, end.1)) (Err Range)) x a.2 in
    let end = b.0 in
    let made : Interval × List ℕ = (record { start = start.0; end = end.0 }, end.1) in
    let g = guard_passed (lt_z start.0 end.0) Range made x b.2 in
    let first = ms_takes bytes start fits a.1 in
    let second = ms_takes start.1 end first.takes.rest_fits b.1 in
    let both = Takes-then bytes (ms_spelling start.0) start.1 (ms_spelling end.0) end.1 first.takes second.takes in
    let ordered : start.0 <ℤ end.0 = grind (arith, ints, g.0) in
    subst (SpanReadSo bytes) g.1 record { takes = both; start = first.word; end = second.word; ordered = ordered }

pub span_again : (s : Interval) (rest : List ℕ) → FitsSigned w64 s.start → FitsSigned w64 s.end → s.start <ℤ s.end → span_at (ms_spelling s.start ++ (ms_spelling s.end ++ rest)) ≡ Ok (s, rest)
unfolding span_at
span_again s rest f g ordered =
    let test : lt_z s.start s.end ≡ true = grind (arith, ints, ordered) in
    rw (ms_again s.start (ms_spelling s.end ++ rest) f, ms_again s.end rest g, test) refl

-- ---- pane tags

pub record PaneReadSo (bytes : List ℕ) (x : PaneTag × List ℕ) : Type 0 where
  pub takes : Takes bytes (pane_spelling x.0) x.1
  pub index : x.0.index < 2 ^ 32

timing_again : (t : Timing) → timing_of (timing_number t) ≡ Ok t
timing_again Early = refl
timing_again OnTime = refl
timing_again Late = refl
timing_again Unknown = refl

abbrev timed : Timing → Result Timing CoderRefusal
timed t = Ok t

timing_only : (byte : ℕ) (t : Timing) → timing_of byte ≡ timed t → byte ≡ timing_number t
timing_only zero t e = ap timing_number (ok_is Early t e)
timing_only (suc zero) t e = ap timing_number (ok_is OnTime t e)
timing_only (suc (suc zero)) t e = ap timing_number (ok_is Late t e)
timing_only (suc (suc (suc zero))) t e = ap timing_number (ok_is Unknown t e)
timing_only (suc (suc (suc (suc byte)))) t e = absurd (cc (above (suc (suc (suc (suc byte)))) (omega arith), e))
  where
    above : (k : ℕ) → 3 < k → timing_of k ≡ Err Range
    above k h = rw (ne_eqb k 0 (omega arith), ne_eqb k 1 (omega arith), ne_eqb k 2 (omega arith), ne_eqb k 3 (omega arith)) refl

pub pane_takes : (bytes : List ℕ) (x : PaneTag × List ℕ) → IsBytes bytes → pane_at bytes ≡ Ok x → PaneReadSo bytes x
unfolding pane_at
pane_takes [] x fits e = absurd cc
pane_takes (byte ∷ bytes) x fits e =
    let a = bind_ok (timing_of byte) (λ timing. varint_at 64 bytes >>= λ index. cond (nat_lt index.0 (2 ^ 32)) (Ok (record { timing = timing; index = index.0 }, index.1)) (Err Range)) x e in
    let timing = a.0 in
    let b = bind_ok (varint_at 64 bytes) (λ index. cond (nat_lt index.0 (2 ^ 32)) (Ok (record { timing = timing; index = index.0 }, index.1)) (Err Range)) x a.2 in
    let index = b.0 in
    let made : PaneTag × List ℕ = (record { timing = timing; index = index.0 }, index.1) in
    let g = guard_passed (nat_lt index.0 (2 ^ 32)) Range made x b.2 in
    let number = varint_takes 64 bytes index (IsBytes-rest byte bytes fits) b.1 in
    let whole : Takes (byte ∷ bytes) (byte ∷ varint index.0) index.1 = Takes-byte byte bytes (varint index.0) index.1 number.0 in
    let named : Takes (byte ∷ bytes) (pane_spelling made.0) index.1 = subst (λ (k : ℕ). Takes (byte ∷ bytes) (k ∷ varint index.0) index.1) (timing_only byte timing a.1) whole in
    subst (PaneReadSo (byte ∷ bytes)) g.1 record { takes = named; index = ltb-true index.0 (2 ^ 32) g.0 }

pub pane_again : (p : PaneTag) (rest : List ℕ) → p.index < 2 ^ 32 → pane_at (pane_spelling p ++ rest) ≡ Ok (p, rest)
unfolding pane_at
pane_again p rest small = rw (timing_again p.timing, varint_again 64 p.index rest (omega arith), lt-ltb p.index (2 ^ 32) small) refl
