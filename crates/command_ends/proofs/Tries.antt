-- Failures that are counted from one call to the next.
use Rattle.std.proofs.Common.{◌≡◌, ℕ, ◌+◌, ◌-◌, ◌≤◌, refl, subst, ◌∙◌, arith}
use Rattle.std.specs.Prelude.{true}
use Rattle.std.proofs.lemmas.Bool.Decides.{nat_tests}
use Rattle.beam_ports.specs.Counts.{greatest_count, rise}
use Rattle.beam_ports.specs.declared.sink.Sink.{Ghosts as SinkGhosts}
use Rattle.beam_ports.specs.declared.store.Store.{Ghosts as StoreGhosts}
use Rattle.command_ends.specs.Retrying.{AreCounted, KeepsTrying, KeepsWriting, RoseBy, RoseByFewer, TriesSink, TriesStore}
use Rattle.command_ends.specs.declared.retrying.RetryingSink.{RetryingSink}
use Rattle.command_ends.specs.declared.retrying.RetryingStore.{RetryingStore}
use Rattle.command_ends.specs.declared.status.Status.{Status}
use Rattle.command_ends.specs.declared.status.Status.TheVariants as status

pub counted_none : (failed before : ℕ) → AreCounted failed failed before before
counted_none failed before = λ below. omega arith

pub counted_more : (failed mid later before between after : ℕ) → between ≤ after → AreCounted failed mid before between → AreCounted mid later between after
    → AreCounted failed later before after
counted_more failed mid later before between after rises one two = λ below. omega (arith, one (omega (arith, below, rises)), two below)

-- what failed was counted
pub counted_rise : (failed later before after : ℕ) → later ≤ greatest_count → AreCounted failed later before after → later ≤ failed + rise before after
counted_rise failed later before after few counted = grind (arith, nat_tests)

-- ---- counts that are exact

-- a later failure, with those before
pub rose_onward : (before between now failed mid later : ℕ) → failed ≤ mid → mid ≤ later → RoseBy before between (mid - failed) → RoseBy between now (later - mid)
    → RoseBy before now (later - failed)
rose_onward before between now failed mid later one two first second = omega (arith, first, second)

rose_then : (before between now failed attempts : ℕ) → failed ≤ attempts → RoseBy before between failed → RoseBy between now (attempts - failed) → RoseBy before now attempts
rose_then before between now failed attempts few first second = omega (arith, first, second)

fewer_then : (before between now failed attempts : ℕ) → failed ≤ attempts → RoseBy before between failed → RoseByFewer between now (attempts - failed) → RoseByFewer before now attempts
fewer_then before between now failed attempts few first second = omega (arith, first, second)

-- ---- a store

module _ {S : Type 0} (s : StoreGhosts S) where
  pub store_fewer : (most kit : ℕ) (old new : S) (end : Status) → (s.counts_exactly ≡ true → RoseByFewer (s.faults old) (s.faults new) most) → (end ≡ status.SourceFault kit → ⊥)
      → TriesStore s most kit old new end
  store_fewer most kit old new end fewer other = λ exactly. record { given_up = λ is. absurd (other is); patient = λ same. fewer exactly }

  -- it was not called
  pub store_same : (most kit : ℕ) (old new : S) (end : Status) → old ≡ new → 1 ≤ most → (end ≡ status.SourceFault kit → ⊥) → TriesStore s most kit old new end
  store_same most kit old new end same some other =
      store_fewer most kit old new end (λ exactly. subst (λ (later : S). RoseByFewer (s.faults old) (s.faults later) most) same (omega arith)) other

  -- it was called before too
  pub store_onward : (attempts failed kit : ℕ) (old mid new : S) (end : Status) → failed ≤ attempts → (s.counts_exactly ≡ true → RoseBy (s.faults old) (s.faults mid) failed)
      → TriesStore s (attempts - failed) kit mid new end → TriesStore s attempts kit old new end
  store_onward attempts failed kit old mid new end few before told = λ exactly. record {
    given_up = λ is. rose_then (s.faults old) (s.faults mid) (s.faults new) failed attempts few (before exactly) ((told exactly).given_up is);
    patient = λ other. fewer_then (s.faults old) (s.faults mid) (s.faults new) failed attempts few (before exactly) ((told exactly).patient other);
  }

  pub trying_same : (store : RetryingStore S) → KeepsTrying s store store
  trying_same store = record {
    same = refl;
    attempts = refl;
    grows = omega arith;
    counted = counted_none store.failed (s.faults store.store.now);
    exact = λ exactly. omega arith;
    counts = omega arith;
    files = refl;
    openings = λ file opening is. is;
  }

  pub trying_onward : (old mid new : RetryingStore S) → KeepsTrying s old mid → KeepsTrying s mid new → KeepsTrying s old new
  trying_onward old mid new one two = record {
    same = two.same ∙ one.same;
    attempts = two.attempts ∙ one.attempts;
    grows = omega (arith, one.grows, two.grows);
    counted = counted_more old.failed mid.failed new.failed (s.faults old.store.now) (s.faults mid.store.now) (s.faults new.store.now) two.counts one.counted two.counted;
    exact = λ exactly.
        rose_onward (s.faults old.store.now) (s.faults mid.store.now) (s.faults new.store.now) old.failed mid.failed new.failed one.grows two.grows (one.exact exactly) (two.exact exactly);
    counts = omega (arith, one.counts, two.counts);
    files = two.files ∙ one.files;
    openings = λ file opening is. two.openings file opening (one.openings file opening is);
  }

-- ---- a sink

module _ {W : Type 0} (w : SinkGhosts W) where
  pub sink_fewer : (most : ℕ) (old new : W) (end : Status) → (w.counts_exactly ≡ true → RoseByFewer (w.faults old) (w.faults new) most) → (end ≡ status.SinkFault → ⊥)
      → TriesSink w most old new end
  sink_fewer most old new end fewer other = λ exactly. record { given_up = λ is. absurd (other is); patient = λ same. fewer exactly }

  -- nothing was written to it
  pub sink_same : (most : ℕ) (old new : W) (end : Status) → old ≡ new → 1 ≤ most → (end ≡ status.SinkFault → ⊥) → TriesSink w most old new end
  sink_same most old new end same some other =
      sink_fewer most old new end (λ exactly. subst (λ (later : W). RoseByFewer (w.faults old) (w.faults later) most) same (omega arith)) other

  -- two ends that both tell of no fault
  pub sink_alike : (most : ℕ) (old new : W) (end other : Status) → (end ≡ status.SinkFault → ⊥) → (other ≡ status.SinkFault → ⊥) → TriesSink w most old new end
      → TriesSink w most old new other
  sink_alike most old new end other is isnt told = sink_fewer most old new other (λ exactly. (told exactly).patient is) isnt

  pub writing_same : (sink : RetryingSink W) → KeepsWriting w sink sink
  writing_same sink = record {
    same = refl;
    attempts = refl;
    grows = omega arith;
    counted = counted_none sink.failed (w.faults sink.sink.now);
    exact = λ exactly. omega arith;
    counts = omega arith;
  }

  pub writing_onward : (old mid new : RetryingSink W) → KeepsWriting w old mid → KeepsWriting w mid new → KeepsWriting w old new
  writing_onward old mid new one two = record {
    same = two.same ∙ one.same;
    attempts = two.attempts ∙ one.attempts;
    grows = omega (arith, one.grows, two.grows);
    counted = counted_more old.failed mid.failed new.failed (w.faults old.sink.now) (w.faults mid.sink.now) (w.faults new.sink.now) two.counts one.counted two.counted;
    exact = λ exactly.
        rose_onward (w.faults old.sink.now) (w.faults mid.sink.now) (w.faults new.sink.now) old.failed mid.failed new.failed one.grows two.grows (one.exact exactly) (two.exact exactly);
    counts = omega (arith, one.counts, two.counts);
  }
