-- Calls that are made again where they fail, and how many have failed.
use Rattle.std.specs.Prelude.{◌≡◌, ℕ, ◌+◌, ◌-◌, ◌<◌, ◌≤◌, min, max, true, Result, Ok, Err}
use Rattle.std.specs.Borrow.{MutBor}
use Rattle.beam_ports.specs.Counts.{greatest_count}
use Rattle.beam_ports.specs.Files.{KeepsOpenings}
use Rattle.beam_ports.specs.declared.refusal.Failed.{Failed as FailedCall}
use Rattle.beam_ports.specs.declared.refusal.OpenRefusal.{OpenRefusal}
use Rattle.beam_ports.specs.declared.refusal.OpenRefusal.TheVariants.{Absent, Failed}
use Rattle.beam_ports.specs.declared.sink.Sink.{Ghosts as SinkGhosts}
use Rattle.beam_ports.specs.declared.store.Opened.{Opened}
use Rattle.beam_ports.specs.declared.store.Store.{Ghosts as StoreGhosts}
use Rattle.command_ends.specs.declared.retrying.RetryingSink.{RetryingSink}
use Rattle.command_ends.specs.declared.retrying.RetryingStore.{RetryingStore}
use Rattle.command_ends.specs.declared.status.Status.{Status}
use Rattle.command_ends.specs.declared.status.Status.TheVariants.{SinkFault, SourceFault}

-- ---- counts that are exact

-- a count that is kept rose by so many: it stays at its end
abbrev pub RoseBy : ℕ → ℕ → ℕ → Type 0
RoseBy before now k = now ≡ max before (min (before + k) greatest_count)

-- it rose by fewer
abbrev pub RoseByFewer : ℕ → ℕ → ℕ → Type 0
RoseByFewer before now k = now < before + k

-- where the end is so: the count rose by as many as may be at the end that tells of it, and else by fewer
pub record RoseAsTold (before now most : ℕ) (told end : Status) : Type 0 where
  pub given_up : end ≡ told → RoseBy before now most
  pub patient : (end ≡ told → ⊥) → RoseByFewer before now most

-- a store, that of the kit of this number, failed as often as the end tells, if it counts exactly; so many calls may fail
abbrev pub TriesStore : {S : Type 0} → StoreGhosts S → ℕ → ℕ → S → S → Status → Type 0
TriesStore s most kit old new end = s.counts_exactly ≡ true → RoseAsTold (s.faults old) (s.faults new) most (SourceFault kit) end

-- a sink that text is written to
abbrev pub TriesSink : {W : Type 0} → SinkGhosts W → ℕ → W → W → Status → Type 0
TriesSink w most old new end = w.counts_exactly ≡ true → RoseAsTold (w.faults old) (w.faults new) most SinkFault end

-- a sink that notes are written to: no more is written after the first failure
abbrev pub TriesOnce : {N : Type 0} → SinkGhosts N → N → N → Type 0
TriesOnce n old new = n.counts_exactly ≡ true → n.faults new ≤ n.faults old + 1

-- ---- one call

-- how many calls failed: this one, or none
abbrev pub failed_opening : Result Opened OpenRefusal → ℕ
failed_opening (Ok file) = 0
failed_opening (Err Absent) = 0
failed_opening (Err Failed) = 1

abbrev pub failed_call : Result ℕ FailedCall → ℕ
failed_call (Ok count) = 0
failed_call (Err refusal) = 1

-- failures before and after calls: as long as the count of faults isn't at its end, they rise by no more than it does
abbrev pub AreCounted : ℕ → ℕ → ℕ → ℕ → Type 0
AreCounted failed later before after = after < greatest_count → later + before ≤ failed + after

-- ---- a store

-- the store whose calls are made again
abbrev pub store_in : {S : Type 0} → RetryingStore S → S
store_in retrying = retrying.store.now

-- how many of its calls have failed, with those before
abbrev pub failures_of : {S : Type 0} → RetryingStore S → ℕ
failures_of retrying = retrying.failed

-- this store is lent to it, and had failed so often before
pub record IsRetrying {S : Type 0} (retrying : RetryingStore S) (lent : MutBor S) (failed attempts : ℕ) : Type 0 where
  pub same : retrying.store.ghost_name ≡ lent.ghost_name
  pub is : retrying.store.now ≡ lent.now
  pub before : retrying.failed ≡ failed
  pub most : retrying.attempts ≡ attempts

-- more of its calls may fail
abbrev pub IsPatient : {S : Type 0} → RetryingStore S → Type 0
IsPatient store = store.failed < store.attempts

-- just as many have failed as may
abbrev pub IsGivenUp : {S : Type 0} → RetryingStore S → Type 0
IsGivenUp store = store.failed ≡ store.attempts

-- the status tells that it was given up, exactly where it was
abbrev pub GivesUpExactly : {S : Type 0} → RetryingStore S → Status → Type 0
GivesUpExactly store (SourceFault kit) = IsGivenUp store
GivesUpExactly store _ = IsPatient store

-- What calls leave of it: it is over the same store, which tells the same files, and what was opened stays open. No failure is forgotten, and each was counted;
-- where the store counts exactly, no call failed that isn't among them.
pub record KeepsTrying {S : Type 0} (s : StoreGhosts S) (old new : RetryingStore S) : Type 0 where
  pub same : new.store.ghost_name ≡ old.store.ghost_name
  pub attempts : new.attempts ≡ old.attempts
  pub grows : old.failed ≤ new.failed
  pub counted : AreCounted old.failed new.failed (s.faults old.store.now) (s.faults new.store.now)
  pub exact : s.counts_exactly ≡ true → RoseBy (s.faults old.store.now) (s.faults new.store.now) (new.failed - old.failed)
  pub counts : s.faults old.store.now ≤ s.faults new.store.now
  pub files : s.files new.store.now ≡ s.files old.store.now
  pub openings : KeepsOpenings (s.opened old.store.now) (s.opened new.store.now)

-- ---- a sink

-- the sink whose writes are made again
abbrev pub sink_in : {W : Type 0} → RetryingSink W → W
sink_in retrying = retrying.sink.now

-- this sink is lent to it, and no write has failed
pub record IsRetryingSink {W : Type 0} (retrying : RetryingSink W) (lent : MutBor W) (attempts : ℕ) : Type 0 where
  pub same : retrying.sink.ghost_name ≡ lent.ghost_name
  pub is : retrying.sink.now ≡ lent.now
  pub before : retrying.failed ≡ 0
  pub most : retrying.attempts ≡ attempts

-- more of its writes may fail
abbrev pub IsSinkPatient : {W : Type 0} → RetryingSink W → Type 0
IsSinkPatient sink = sink.failed < sink.attempts

-- just as many have failed as may
abbrev pub IsSinkGivenUp : {W : Type 0} → RetryingSink W → Type 0
IsSinkGivenUp sink = sink.failed ≡ sink.attempts

-- what writes leave of it: it is over the same sink, no failure is forgotten, and each was counted; where the sink counts exactly, no other write failed
pub record KeepsWriting {W : Type 0} (w : SinkGhosts W) (old new : RetryingSink W) : Type 0 where
  pub same : new.sink.ghost_name ≡ old.sink.ghost_name
  pub attempts : new.attempts ≡ old.attempts
  pub grows : old.failed ≤ new.failed
  pub counted : AreCounted old.failed new.failed (w.faults old.sink.now) (w.faults new.sink.now)
  pub exact : w.counts_exactly ≡ true → RoseBy (w.faults old.sink.now) (w.faults new.sink.now) (new.failed - old.failed)
  pub counts : w.faults old.sink.now ≤ w.faults new.sink.now
