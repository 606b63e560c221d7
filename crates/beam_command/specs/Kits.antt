-- The kits that a command uses, and what it observes at them.
use Rattle.std.specs.Prelude.{◌≡◌, ℕ, List, [], ◌∷◌, map, take, drop, Option, Some, None}
use Rattle.beam_ports.specs.Observed.{ObservedStore, observed_sink}
use Rattle.beam_ports.specs.declared.sink.Sink.{Ghosts as SinkGhosts}
use Rattle.beam_ports.specs.declared.store.Store.{Ghosts as StoreGhosts}
use Rattle.beam_values.specs.declared.file_text.FileText.{FileText}
use Rattle.beam_values.specs.declared.outcome.Outcome.{Outcome}
use Rattle.beam_text.specs.declared.refusal.ScheduleRefusal.TheVariants as refusal
use Rattle.combine_lift.specs.declared.refusal.LiftRefusal.TheVariants as lift
use Rattle.command_words.specs.Commands.{Asked, Panes, Run, Replay, Drill, Combine}
use Rattle.dofn_traits.specs.declared.shelf.Shelf.{Ghosts as ShelfGhosts}
use Rattle.bundle_work.specs.Kits.{EachBecomes, told_by}
use Rattle.bundle_work.specs.declared.kit.Kit.{Kit}
use Rattle.run_engine.specs.Kits.{KeepsKit, ObservedKits, observed_kits}
use Rattle.run_engine.specs.Openings.{AreOpenedByAll, TriesKits}
use Rattle.run_engine.specs.PlanRun.{lengths_of_first}
use Rattle.command_ends.specs.declared.status.Status.{Status}
use Rattle.command_ends.specs.declared.status.Status.TheVariants as status
use Rattle.beam_command.specs.Observing.{Observed}
use Rattle.beam_command.specs.Promises.{IsPlanAsked}

-- ---- the kits in use

-- how many workers are asked for: a replay has one, whatever its slots, and what runs nothing has none
abbrev pub workers_of : Option Asked → ℕ
workers_of (Some (Panes file size options)) = options.workers
workers_of (Some (Run name options)) = options.workers
workers_of (Some (Replay name schedule options)) = 1
workers_of (Some (Drill count number options)) = options.workers
workers_of (Some (Combine name options)) = options.workers
workers_of _ = 0

-- the kits in use are the first ones, one for each worker as far as there are kits
abbrev pub in_use : {K : Type 0} → Option Asked → List K → List K
in_use asked kits = take (workers_of asked) kits

-- What is told of the files that a command opens, where its kits tell this. A drill opens none, and that is all that there is to tell: so nothing said of it
-- depends on what stores tell.
abbrev pub told_for : Option Asked → Option (List FileText) → Option (List FileText)
told_for (Some (Drill count number options)) files = Some []
told_for _ files = files

-- the files that these kits tell: those of the first, where all others tell the same
abbrev pub told_files : {F S : Type 0} → (S → Option (List FileText)) → List (Kit F S) → Option (List FileText)
told_files files kits = told_by (map (λ kit. files kit.store) kits)

-- the files that the first of these kits tells
abbrev pub first_files : {F S : Type 0} → (S → Option (List FileText)) → List (Kit F S) → Option (List FileText)
first_files files [] = None
first_files files (first ∷ others) = files first.store

-- ---- what is observed

-- at these kits and at the output
abbrev pub observed_at : {F S W : Type 0} → ShelfGhosts F → StoreGhosts S → SinkGhosts W → List (Kit F S) → List (Kit F S) → W → W → Observed
observed_at f s w olds news out_old out_new = record { kits = observed_kits f s olds news; out = observed_sink w.faults w.taken out_old out_new }

-- a store whose files are told: there are none
abbrev pub without_files : ObservedStore → ObservedStore
without_files store = record { files = Some []; before = store.before; after = store.after }

abbrev pub stores_for : Option Asked → List ObservedStore → List ObservedStore
stores_for (Some (Drill count number options)) stores = map without_files stores
stores_for _ stores = stores

-- the kits as a command sees them
abbrev pub kits_for : Option Asked → ObservedKits → ObservedKits
kits_for asked kits = record {
  shelf = kits.shelf;
  store = record { files = told_for asked kits.store.files; before = kits.store.before; after = kits.store.after };
  stores = stores_for asked kits.stores;
}

abbrev pub observed_for : {F S W : Type 0} → ShelfGhosts F → StoreGhosts S → SinkGhosts W → Option Asked → List (Kit F S) → List (Kit F S) → W → W → Observed
observed_for f s w asked olds news out_old out_new =
    record { kits = kits_for asked (observed_kits f s olds news); out = observed_sink w.faults w.taken out_old out_new }

-- the same, at the kits in use
abbrev pub observed_in_use : {F S W : Type 0} → ShelfGhosts F → StoreGhosts S → SinkGhosts W → Option Asked → List (Kit F S) → List (Kit F S) → W → W → Observed
observed_in_use f s w asked olds news out_old out_new = observed_for f s w asked (in_use asked olds) (in_use asked news) out_old out_new

-- ---- what a command leaves of its kits

-- the end came before any work
abbrev pub HasNotBegun : Status → Type 0
HasNotBegun status.Help = Unit {0}
HasNotBegun status.Usage = Unit {0}
HasNotBegun (status.BadPlan refusal) = Unit {0}
HasNotBegun (status.NoSource name) = Unit {0}
HasNotBegun (status.SourceFault kit) = Unit {0}
HasNotBegun (status.FileChanged name first other) = Unit {0}
HasNotBegun (status.BadSchedule (refusal.Length len)) = Unit {0}
HasNotBegun (status.NotLifted lift.Shape) = Unit {0}
HasNotBegun _ = ⊥

-- Where the end came before any work, the store of each of these kits failed as often as the end tells, if it counts exactly. In the work reading may fail too.
abbrev pub TriesUnbegun : {F S : Type 0} → StoreGhosts S → ℕ → ℕ → List (Kit F S) → List (Kit F S) → Status → Type 0
TriesUnbegun s attempts failed olds news end = HasNotBegun end → TriesKits s attempts failed olds news end

-- the shelf is what it was
abbrev pub KeepsShelf : {F S : Type 0} → Kit F S → Kit F S → Type 0
KeepsShelf old new = new.shelf ≡ old.shelf

-- There are as many kits as before; each shelf is what it was where the end came before any work, and the kits that aren't in use stay as they were.
pub record AreKitsLeft {F S : Type 0} (f : ShelfGhosts F) (s : StoreGhosts S) (asked : Option Asked) (status : Status) (olds news : List (Kit F S)) : Type 0 where
  pub idle : HasNotBegun status → EachBecomes olds news KeepsShelf
  pub kept : EachBecomes olds news (KeepsKit f s)
  pub unused : drop (workers_of asked) news ≡ drop (workers_of asked) olds

-- ---- an outcome, and the files that were opened for it

-- Every one of these kits has opened each file of the outcome's plan, and the items have the lengths that the first of them met.
pub record IsOutcomeOfOpened {F S : Type 0} (s : StoreGhosts S) (kits : List (Kit F S)) (o : Outcome) : Type 0 where
  pub opens : AreOpenedByAll s.files s.opened o.plan kits
  pub lengths : o.files ≡ lengths_of_first o.plan kits

-- The outcome's plan is the one of the first kit's file, where that store tells its files, and the kits in use have opened its files.
pub record IsOutcomeOfKits {F S : Type 0} (s : StoreGhosts S) (asked : Option Asked) (olds news : List (Kit F S)) (o : Outcome) : Type 0 where
  pub plan : IsPlanAsked (first_files s.files olds) asked o.plan
  pub opened : IsOutcomeOfOpened s (in_use asked news) o
