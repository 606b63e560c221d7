-- A run on one kit alone: what it knows, what was counted, and the data that it hands out.
use Rattle.std.proofs.Common.{◌≡◌, ◌⊎◌, ℕ, ◌+◌, ◌<◌, ◌≤◌, Bool, true, false, List, [], ◌∷◌, length, refl, sym, ap, subst, ◌∙◌, arith}
use Rattle.std.specs.Prelude.{Option, Some, None, nat_le, slice_get}
use Rattle.std.specs.List.{All, list_all}
use Rattle.std.proofs.lemmas.Bool.Decides.{nat_tests}
use Rattle.std.proofs.lemmas.List.Elements.{All-cons, All-head, All-nil}
use Rattle.beam_ports.specs.Counts.{Rose, greatest_count, rise}
use Rattle.beam_ports.specs.Observed.{observed_store}
use Rattle.beam_ports.specs.declared.store.Store.{Ghosts as StoreGhosts}
use Rattle.beam_values.specs.declared.fault.Cause.{Cause}
use Rattle.beam_values.specs.declared.fault.Cause.TheVariants.{Call, Read}
use Rattle.beam_values.specs.declared.fault.FaultNote.{FaultNote}
use Rattle.beam_values.specs.declared.outcome.StopCause.{StopCause}
use Rattle.beam_values.specs.declared.outcome.StopCause.TheVariants as stop
use Rattle.book_core.specs.Book.{SeenBook}
use Rattle.book_core.specs.Steps.{IsFree, IsIdle}
use Rattle.book_core.specs.Work.{Surroundings}
use Rattle.book_core.specs.declared.live.Live.{Live}
use Rattle.bundle_work.specs.Bundles.{IsCountedAs}
use Rattle.bundle_work.specs.Kits.{IsKitFor}
use Rattle.bundle_work.specs.Openings.{AreOpened, file_names}
use Rattle.bundle_work.specs.Reading.{opened_lengths}
use Rattle.bundle_work.specs.declared.kit.Kit.{Kit}
use Rattle.chain_exec.specs.Causes.{observed_shelf}
use Rattle.command_ends.specs.declared.status.Status.{Status}
use Rattle.command_ends.specs.declared.status.Status.TheVariants as status
use Rattle.dofn_traits.specs.declared.shelf.Shelf.{Ghosts as ShelfGhosts}
use Rattle.known_jobs.specs.Jobs.{setting_for}
use Rattle.run_engine.specs.Kits.{ObservedKits, observed_kits}
use Rattle.run_engine.specs.PlanRun.{IsStatusAfter}
use Rattle.run_engine.specs.SetAside.{calls_counted, reads_counted}
use Rattle.run_engine.proofs.PlanRuns.{kits_fit, told_of}

-- ---- slots

one_slot : (slots : List (Option Live)) → All (λ slot. slot ≡ None) slots → length slots ≡ 1 → slots ≡ None ∷ []
one_slot [] idle one = absurd (omega (arith, one))
one_slot (slot ∷ []) idle one = ap (λ (s : Option Live). s ∷ []) (All-head (λ (s : Option Live). s ≡ None) slot [] idle)
one_slot (slot ∷ other ∷ slots) idle one = absurd (omega (arith, one))

-- a book with one slot has one still, which works nothing
pub still_free : (slots later : List (Option Live)) → slots ≡ None ∷ [] → All (λ slot. slot ≡ None) later → length later ≡ length slots → later ≡ None ∷ []
still_free slots later first idle same = one_slot later idle (same ∙ ap length first)

-- so it is at first
pub one_free : (b : SeenBook) → b.slots ≡ None ∷ [] → IsFree b 0
one_free b is = ap (λ (slots : List (Option Live)). slice_get slots 0) is

pub one_idle : (b : SeenBook) → b.slots ≡ None ∷ [] → IsIdle b
one_idle b is =
    subst (All (λ (slot : Option Live). slot ≡ None)) (sym is) (All-cons (λ (slot : Option Live). slot ≡ None) None [] refl (All-nil (λ (slot : Option Live). slot ≡ None)))

-- ---- counts

-- a rise is itself how far a count rises that begins at none
rise_from_none : (rose : ℕ) → rose ≤ greatest_count → rose ≤ rise 0 (rose + 0)
rise_from_none rose low = by (nat_le greatest_count (rose + 0)) refl
  where
    by : (t : Bool) → nat_le greatest_count (rose + 0) ≡ t → rose ≤ rise 0 (rose + 0)
    by true is = grind (arith, nat_tests)
    by false is = grind (arith, nat_tests)

rise_low : (before after : ℕ) → rise before after ≤ greatest_count
rise_low before after = by (nat_le greatest_count after) refl
  where
    by : (t : Bool) → nat_le greatest_count after ≡ t → rise before after ≤ greatest_count
    by true is = grind (arith, nat_tests)
    by false is = grind (arith, nat_tests)

pub rise_alone : (before after : ℕ) → rise before after ≤ rise 0 (rise before after + 0)
rise_alone before after = rise_from_none (rise before after) (rise_low before after)

still_more : (count base rose more : ℕ) → count ≤ base + rose → rose ≤ more → count ≤ base + more
still_more count base rose more few low = omega (arith, few, low)

-- ---- one kit

module _ {F S : Type 0} (f : ShelfGhosts F) (s : StoreGhosts S) where
  -- its store's files, and whether its shelf is strict
  abbrev pub known_of : Kit F S → Surroundings
  known_of kit = record { told = told_of f.strict s.files s.opened (kit ∷ []); strict = list_all (λ kit. f.strict kit.shelf) (kit ∷ []) }

  abbrev pub seen_alone : Kit F S → Kit F S → ObservedKits
  seen_alone old new = observed_kits f s (old ∷ []) (new ∷ [])

  pub kit_alone : (b : SeenBook) (kit : Kit F S) → AreOpened (s.files kit.store) (s.opened kit.store) (file_names b.plan) kit.files → opened_lengths b.plan kit.files ≡ b.files
      → IsKitFor f.strict s.files s.opened (setting_for (known_of kit) b) kit
  kit_alone b kit opened lengths = (kits_fit f.strict s.files s.opened (setting_for (known_of kit) b) (kit ∷ []) refl (record { each = (opened, tt); lengths = tt }) lengths).0

  module _ (old new : Kit F S) where
    pub calls_alone : (calls base : ℕ) → calls ≤ base + rise (f.faults old.shelf) (f.faults new.shelf) → calls ≤ base + calls_counted (seen_alone old new)
    calls_alone calls base few =
        still_more calls base (rise (f.faults old.shelf) (f.faults new.shelf)) (calls_counted (seen_alone old new)) few (rise_alone (f.faults old.shelf) (f.faults new.shelf))

    pub reads_alone : (reads base : ℕ) → reads ≤ base + rise (s.faults old.store) (s.faults new.store) → reads ≤ base + reads_counted (seen_alone old new)
    reads_alone reads base few =
        still_more reads base (rise (s.faults old.store) (s.faults new.store)) (reads_counted (seen_alone old new)) few (rise_alone (s.faults old.store) (s.faults new.store))

    pub counted_alone : (cause : Cause) → IsCountedAs (observed_shelf f.strict f.faults old.shelf new.shelf) (observed_store s.files s.faults old.store new.store) cause
        → IsCountedAs (seen_alone old new).shelf (seen_alone old new).store cause
    counted_alone Call rose = omega (arith, rose, rise_alone (f.faults old.shelf) (f.faults new.shelf))
    counted_alone Read rose = omega (arith, rose, rise_alone (s.faults old.store) (s.faults new.store))

-- ---- the status of an end

pub status_spent : (stopped : Option StopCause) (note : FaultNote) (s : Status) → stopped ≡ Some (stop.Spent note) → IsStatusAfter stopped s → s ≡ status.WorkFault note
status_spent stopped note s is after = subst (λ (x : Option StopCause). IsStatusAfter x s) is after

pub status_running : (stopped : Option StopCause) (s : Status) → stopped ≡ None → IsStatusAfter stopped s → s ≡ status.Ok
status_running stopped s is after = subst (λ (x : Option StopCause). IsStatusAfter x s) is after
