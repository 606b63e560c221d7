-- Works one after another, each honest, and what was counted over them.
use Rattle.std.proofs.Common.{ℕ, ◌≤◌, Bool, List, [], ◌∷◌, ◌++◌, arith}
use Rattle.std.specs.Prelude.{Option, Some, None}
use Rattle.std.proofs.lemmas.List.Elements.{All-append, All-cons, All-nil}
use Rattle.beam_values.specs.declared.fault.Cause.{Cause}
use Rattle.beam_values.specs.declared.fault.Cause.TheVariants.{Call, Read}
use Rattle.beam_values.specs.declared.file_text.FileText.{FileText}
use Rattle.beam_ports.specs.Observed.{ObservedStore, observed_store}
use Rattle.chain_exec.specs.Causes.{ObservedShelf, observed_shelf}
use Rattle.known_jobs.specs.Calls.{CanFailAs}
use Rattle.known_jobs.specs.Jobs.{KnownJob}
use Rattle.bundle_work.specs.Bundles.{IsCountedAs}
use Rattle.lone_worker.specs.Work.{Base, IsSound}
use Rattle.schedule_replay.specs.Standing.{AreHonest, counts_after, counts_before}
use Rattle.schedule_replay.specs.Works.{AreBefore, Counts, IsCountedBy, IsHonestWork, IsTraced, Worked}

-- ---- counts

before_same : (a : Counts) → AreBefore a a
before_same a = record { shelf = omega arith; store = omega arith }

before_then : (a b c : Counts) → AreBefore a b → AreBefore b c → AreBefore a c
before_then a b c one two = record { shelf = omega (arith, one.shelf, two.shelf); store = omega (arith, one.store, two.store) }

traced_behind : (a b c : Counts) (works : List Worked) → AreBefore a b → IsTraced b c works → IsTraced a c works
traced_behind a b c [] first traced = before_then a b c first traced
traced_behind a b c (work ∷ works) first traced = (traced.0, traced.1, before_then a b traced.0 first traced.2, traced.3, traced.4, traced.5)

traced_then : (a b c : Counts) (works others : List Worked) → IsTraced a b works → IsTraced b c others → IsTraced a c (works ++ others)
traced_then a b c [] others one two = traced_behind a b c others one two
traced_then a b c (work ∷ works) others one two = (one.0, one.1, one.2, one.3, one.4, traced_then one.1 b c works others one.5 two)

-- ---- one call

module _ (base : Base) (shelf : ObservedShelf) (store : ObservedStore) (calls : shelf.before ≤ shelf.after) (reads : store.before ≤ store.after) where
  rises : AreBefore (counts_before shelf store) (counts_after shelf store)
  rises = record { shelf = calls; store = reads }

  -- nothing was worked
  pub honest_none : AreHonest base shelf store []
  honest_none = record { each = All-nil (IsHonestWork base.setting.known base.setting.plan); traced = rises }

  -- one work met no poison
  pub honest_sound : (known : KnownJob) → IsSound base.setting (Some known) → AreHonest base shelf store (record { job = known.job; attempted = known.attempted; fault = None } ∷ [])
  honest_sound known sound =
      let work : Worked = record { job = known.job; attempted = known.attempted; fault = None } in
      let one = IsHonestWork base.setting.known base.setting.plan in
      record {
        each = All-cons one work [] sound (All-nil one);
        traced = (counts_before shelf store, counts_after shelf store, before_same (counts_before shelf store), rises, tt, before_same (counts_after shelf store));
      }

  counted_by : (cause : Cause) → IsCountedAs shelf store cause → IsCountedBy (counts_before shelf store) (counts_after shelf store) cause
  counted_by Call is = is
  counted_by Read is = is

  -- or it failed
  pub honest_fault : (known : KnownJob) (at : ℕ) (cause : Cause) → IsCountedAs shelf store cause → CanFailAs base.setting (Some known) at cause
      → AreHonest base shelf store (record { job = known.job; attempted = known.attempted; fault = Some (record { at = at; cause = cause }) } ∷ [])
  honest_fault known at cause counted honest =
      let work : Worked = record { job = known.job; attempted = known.attempted; fault = Some (record { at = at; cause = cause }) } in
      let one = IsHonestWork base.setting.known base.setting.plan in
      record {
        each = All-cons one work [] honest.1 (All-nil one);
        traced = (counts_before shelf store, counts_after shelf store, before_same (counts_before shelf store), rises, counted_by cause counted, before_same (counts_after shelf store));
      }

-- ---- calls one after another, at one kit

module _ (base : Base) {F S : Type 0} (strict : F → Bool) (faults : F → ℕ) (files : S → Option (List FileText)) (reads : S → ℕ) where
  pub honest_then : (shelf mid_shelf last_shelf : F) (store mid_store last_store : S) (works others : List Worked)
      → AreHonest base (observed_shelf strict faults shelf mid_shelf) (observed_store files reads store mid_store) works
      → AreHonest base (observed_shelf strict faults mid_shelf last_shelf) (observed_store files reads mid_store last_store) others
      → AreHonest base (observed_shelf strict faults shelf last_shelf) (observed_store files reads store last_store) (works ++ others)
  honest_then shelf mid_shelf last_shelf store mid_store last_store works others one two = record {
    each = All-append (IsHonestWork base.setting.known base.setting.plan) works others one.each two.each;
    traced = traced_then (record { shelf = faults shelf; store = reads store }) (record { shelf = faults mid_shelf; store = reads mid_store })
        (record { shelf = faults last_shelf; store = reads last_store }) works others one.traced two.traced;
  }
