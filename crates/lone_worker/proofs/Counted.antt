-- Fails are counted from round to round.
use Rattle.std.proofs.Common.{◌≡◌, inl, inr, ℕ, ◌+◌, ◌≤◌, Bool, true, false, refl, ap, sym, subst, arith}
use Rattle.std.specs.Prelude.{Option, Some, None, nat_le}
use Rattle.std.proofs.lemmas.Bool.Decides.{nat_tests}
use Rattle.beam_values.specs.declared.fault.Cause.{Cause}
use Rattle.beam_values.specs.declared.fault.Cause.TheVariants.{Call, Read}
use Rattle.beam_ports.specs.Counts.{Rose, greatest_count, rise}
use Rattle.beam_ports.specs.Observed.{ObservedStore}
use Rattle.book_core.specs.Book.{SeenBook}
use Rattle.chain_exec.specs.Causes.{ObservedShelf}
use Rattle.bundle_work.specs.Bundles.{IsCountedAs}
use Rattle.lone_worker.specs.Alone.{CountsFail, CountsNone, FailsOnce, IsSpentBy, IsStopCounted, IsUnspent, RisesWith}
use Rattle.lone_worker.specs.declared.alone.AloneEnd.{AloneEnd}
use Rattle.lone_worker.specs.declared.alone.AloneEnd.TheVariants as ends

unspent_stops : (shelf : ObservedShelf) (store : ObservedStore) (end : Option AloneEnd) → IsUnspent end → IsStopCounted shelf store end
unspent_stops shelf store None unspent = tt
unspent_stops shelf store (Some ends.Finished) unspent = tt
unspent_stops shelf store (Some ends.Paused) unspent = tt
unspent_stops shelf store (Some ends.Stopped) unspent = tt
unspent_stops shelf store (Some (ends.Spent note)) unspent = absurd unspent
unspent_stops shelf store (Some ends.NoMemory) unspent = tt

spent_counted : (shelf : ObservedShelf) (store : ObservedStore) (cause : Cause) (end : Option AloneEnd) → IsSpentBy cause end → IsCountedAs shelf store cause → IsStopCounted shelf store end
spent_counted shelf store cause None by rose = tt
spent_counted shelf store cause (Some ends.Finished) by rose = tt
spent_counted shelf store cause (Some ends.Paused) by rose = tt
spent_counted shelf store cause (Some ends.Stopped) by rose = tt
spent_counted shelf store cause (Some (ends.Spent note)) by rose = subst (IsCountedAs shelf store) (sym by) rose
spent_counted shelf store cause (Some ends.NoMemory) by rose = tt

-- a book that stays
pub none_where : (b new : SeenBook) (end : Option AloneEnd) → new ≡ b → IsUnspent end → CountsNone b new end
none_where b new end same unspent = record { calls = ap (λ (x : SeenBook). x.calls) same; reads = ap (λ (x : SeenBook). x.reads) same; unspent = unspent }

pub fails_none : (shelf : ObservedShelf) (store : ObservedStore) (b new : SeenBook) (end : Option AloneEnd) → CountsNone b new end → FailsOnce shelf store b new end
fails_none shelf store b new end none =
    let calls = none.calls in
    let reads = none.reads in
    record { calls = inl (omega (arith, calls)); reads = inl (omega (arith, reads)); cause = unspent_stops shelf store end none.unspent }

-- a fail that was counted
pub fails_one : (shelf : ObservedShelf) (store : ObservedStore) (b new : SeenBook) (at : ℕ) (cause : Cause) (end : Option AloneEnd) → CountsFail at cause b new end → IsCountedAs shelf store cause
    → FailsOnce shelf store b new end
fails_one shelf store b new at Call end counts rose =
    let calls = counts.calls in
    let reads = counts.reads in
    record { calls = inr (omega (arith, calls), rose); reads = inl (omega (arith, reads)); cause = spent_counted shelf store Call end counts.spent rose }
fails_one shelf store b new at Read end counts rose =
    let calls = counts.calls in
    let reads = counts.reads in
    record { calls = inl (omega (arith, calls)); reads = inr (omega (arith, reads), rose); cause = spent_counted shelf store Read end counts.spent rose }

-- what came before counted none
pub fails_from : (shelf : ObservedShelf) (store : ObservedStore) (b mid new : SeenBook) (end : Option AloneEnd) → mid.calls ≡ b.calls → mid.reads ≡ b.reads → FailsOnce shelf store mid new end
    → FailsOnce shelf store b new end
fails_from shelf store b mid new end calls reads once = record {
  calls = subst (λ (n : ℕ). RisesWith n new.calls shelf.before shelf.after) calls once.calls;
  reads = subst (λ (n : ℕ). RisesWith n new.reads store.before store.after) reads once.reads;
  cause = once.cause;
}

-- fails that rose by no more than a count of faults since its first value do so still
pub rises_on : (base first before after fails later : ℕ) → first ≤ before → before ≤ after → fails ≤ base + rise first before → RisesWith fails later before after → later ≤ greatest_count
    → later ≤ base + rise first after
rises_on base first before after fails later low high was (inl stays) few = kept (nat_le greatest_count before) (nat_le greatest_count after) refl refl
  where
    kept : (b a : Bool) → nat_le greatest_count before ≡ b → nat_le greatest_count after ≡ a → later ≤ base + rise first after
    kept true true is_b is_a = grind (arith, nat_tests)
    kept true false is_b is_a = grind (arith, nat_tests)
    kept false true is_b is_a = grind (arith, nat_tests)
    kept false false is_b is_a = grind (arith, nat_tests)
rises_on base first before after fails later low high was (inr (one, rose)) few = kept (nat_le greatest_count before) (nat_le greatest_count after) refl refl
  where
    kept : (b a : Bool) → nat_le greatest_count before ≡ b → nat_le greatest_count after ≡ a → later ≤ base + rise first after
    kept true true is_b is_a = grind (arith, nat_tests)
    kept true false is_b is_a = grind (arith, nat_tests)
    kept false true is_b is_a = grind (arith, nat_tests)
    kept false false is_b is_a = grind (arith, nat_tests)

-- a count that rose since a later value rose since an earlier one
rose_since : (first before after : ℕ) → first ≤ before → Rose before after → Rose first after
rose_since first before after low rose = kept (nat_le greatest_count after) refl
  where
    kept : (a : Bool) → nat_le greatest_count after ≡ a → Rose first after
    kept true is = grind (arith, nat_tests)
    kept false is = grind (arith, nat_tests)

cause_since : (shelf later : ObservedShelf) (store reads : ObservedStore) (cause : Cause) → shelf.before ≤ later.before → later.after ≡ shelf.after → store.before ≤ reads.before → reads.after ≡ store.after
    → IsCountedAs later reads cause → IsCountedAs shelf store cause
cause_since shelf later store reads Call low same low' same' rose = subst (Rose shelf.before) same (rose_since shelf.before later.before later.after low rose)
cause_since shelf later store reads Read low same low' same' rose = subst (Rose store.before) same' (rose_since store.before reads.before reads.after low' rose)

-- what was counted in the last round was counted in all
pub stop_since : (shelf later : ObservedShelf) (store reads : ObservedStore) (end : Option AloneEnd) → shelf.before ≤ later.before → later.after ≡ shelf.after → store.before ≤ reads.before → reads.after ≡ store.after
    → IsStopCounted later reads end → IsStopCounted shelf store end
stop_since shelf later store reads None low same low' same' stop = tt
stop_since shelf later store reads (Some ends.Finished) low same low' same' stop = tt
stop_since shelf later store reads (Some ends.Paused) low same low' same' stop = tt
stop_since shelf later store reads (Some ends.Stopped) low same low' same' stop = tt
stop_since shelf later store reads (Some (ends.Spent note)) low same low' same' stop = cause_since shelf later store reads note.cause low same low' same' stop
stop_since shelf later store reads (Some ends.NoMemory) low same low' same' stop = tt
