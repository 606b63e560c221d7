-- A list to which the windows up to a time are added one by one.
use Rattle.std.proofs.Common.{negsuc, ◌≡◌, ◌<◌, ℤ, pos, ◌+ℤ◌, ◌-ℤ◌, ◌<ℤ◌, ◌≤ℤ◌, List, [], ◌∷◌, ◌++◌, length, take, sym, ap, ◌∙◌, append_assoc, arith}
use Rattle.std.proofs.lemmas.Int.{ints}
use Rattle.std.proofs.Math.Seq.{take-append_seam}
use Rattle.std.proofs.lemmas.List.{append-nil}
use Rattle.beam_values.specs.Intervals.{Interval}
use Rattle.beam_values.specs.Windows.{window_from, or_zero}
use Rattle.windowing.specs.Strategies.{windows_up_to}
use Rattle.windowing.proofs.Sliding.{up_to_more, up_to_none}

pub record IsUnderWay (size period time first : ℤ) (old out : List Interval) (start : ℤ) : Type 0 where
  pub done : List Interval
  pub added : out ≡ old ++ done
  pub whole : done ++ windows_up_to size period time start ≡ windows_up_to size period time first

module _ (size period time first : ℤ) (old : List Interval) where
  pub under_way_first : (start : ℤ) → start ≡ first → IsUnderWay size period time first old old start
  under_way_first start e = record { done = []; added = sym (append-nil old); whole = ap (windows_up_to size period time) e }

  pub under_way_more : (out new : List Interval) (start next : ℤ) (span : Interval) → IsUnderWay size period time first old out start
      → pos 1 ≤ℤ period → start ≤ℤ time → span ≡ window_from size start → new ≡ out ++ span ∷ [] → next ≡ start +ℤ period
      → IsUnderWay size period time first old new next
  under_way_more out new start next span h some le is pushed step = record {
    done = h.done ++ span ∷ [];
    added = pushed ∙ ap (λ (xs : List Interval). xs ++ span ∷ []) h.added ∙ append_assoc old h.done (span ∷ []);
    whole =
        append_assoc h.done (span ∷ []) (windows_up_to size period time next)
        ∙ ap (λ (z : ℤ). h.done ++ (span ∷ windows_up_to size period time z)) step
        ∙ ap (λ (s : Interval). h.done ++ (s ∷ windows_up_to size period time (start +ℤ period))) is
        ∙ ap (λ (xs : List Interval). h.done ++ xs) (sym (up_to_more size period time start some le))
        ∙ h.whole;
  }

  pub under_way_all : (out : List Interval) (start : ℤ) → IsUnderWay size period time first old out start → pos 1 ≤ℤ period → time <ℤ start
      → out ≡ old ++ windows_up_to size period time first
  under_way_all out start h some lt =
      h.added
      ∙ ap (λ (xs : List Interval). old ++ xs)
      (sym (append-nil h.done) ∙ ap (λ (xs : List Interval). h.done ++ xs) (sym (up_to_none size period time start some lt)) ∙ h.whole)

  pub under_way_kept : (out : List Interval) (start : ℤ) → IsUnderWay size period time first old out start → take (length old) out ≡ old
  under_way_kept out start h = ap (take (length old)) h.added ∙ take-append_seam old h.done

-- each window brings the time nearer
pub nearer : (period time start next : ℤ) → pos 1 ≤ℤ period → start ≤ℤ time → next ≡ start +ℤ period
    → or_zero ((time +ℤ pos 1) -ℤ next) < or_zero ((time +ℤ pos 1) -ℤ start)
nearer period time start next some le step =
    falls ((time +ℤ pos 1) -ℤ next) ((time +ℤ pos 1) -ℤ start) (omega (arith, ints)) (omega (arith, ints))
  where
    falls : (a b : ℤ) → a <ℤ b → pos 1 ≤ℤ b → or_zero a < or_zero b
    falls (pos m) (pos n) lt some = omega (arith, ints)
    falls (negsuc m) (pos n) lt some = omega (arith, ints)
    falls a (negsuc n) lt some = absurd (omega (arith, ints))
