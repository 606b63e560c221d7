-- How a run of a plan ends: the outcome is the data of the run's own final book.
use Rattle.std.specs.Prelude.{◌≡◌, ◌⊎◌, ℕ, ◌+◌, ◌≤◌, true, false, List, [], ◌∷◌, map, Option, Some, None}
use Rattle.std.specs.List.{All}
use Rattle.beam_values.specs.Nodes.{has_kind, is_source_kind}
use Rattle.beam_values.specs.Storable.{IsStorable}
use Rattle.beam_values.specs.declared.fault.Cause.TheVariants.{Read}
use Rattle.beam_values.specs.declared.fault.FaultNote.{FaultNote}
use Rattle.beam_values.specs.declared.options.Options.{Options}
use Rattle.beam_values.specs.declared.outcome.Outcome.{Outcome}
use Rattle.beam_values.specs.declared.file_text.FileText.{FileText}
use Rattle.beam_values.specs.declared.outcome.StopCause.{StopCause}
use Rattle.beam_values.specs.declared.outcome.StopCause.TheVariants as stop
use Rattle.beam_values.specs.declared.piece.FileLen.{FileLen}
use Rattle.beam_values.specs.declared.plan.Plan.{Plan}
use Rattle.beam_ports.specs.Counts.{rise}
use Rattle.beam_model.specs.Positions.{item_len, items}
use Rattle.beam_ports.specs.Observed.{WhereTold}
use Rattle.book_core.specs.Book.{SeenBook, sets_aside}
use Rattle.book_core.specs.Calls.{IsOutcomeOf}
use Rattle.book_core.specs.Runs.{AreLengthsOf, AreTold, HonestlyReached, IsEnded}
use Rattle.book_core.specs.Work.{Surroundings}
use Rattle.bundle_work.specs.Bundles.{IsCountedAs}
use Rattle.bundle_work.specs.Reading.{opened_lengths}
use Rattle.bundle_work.specs.declared.kit.Kit.{Kit}
use Rattle.run_engine.specs.Kits.{ObservedKits}
use Rattle.run_engine.specs.declared.run_end.RunEnd.{RunEnd}
use Rattle.command_ends.specs.declared.status.Status.{Status}
use Rattle.command_ends.specs.declared.status.Status.TheVariants as status

-- the surroundings of a run: the files, where the stores tell them, and whether the shelves fail on poison alone
abbrev pub surroundings_of : ObservedKits → Surroundings
surroundings_of kits = record { told = kits.store.files; strict = kits.shelf.strict }

-- The outcome is the data of a book for which P holds, and which a run of this plan reached whose fails are all honest.
pub record IsOutcomeWhere (known : Surroundings) (plan : Plan) (options : Options) (P : SeenBook → Type 0) (o : Outcome) : Type 0 where
  pub book : SeenBook
  pub reached : HonestlyReached known book
  pub of_plan : book.plan ≡ plan
  pub with_options : book.options ≡ options
  pub lengths : WhereTold known.told (λ told. AreTold told book)
  pub is : P book
  pub of_book : IsOutcomeOf book o
  -- the numbers in panes have 64 bits
  pub storable : All (λ pane. IsStorable pane.element.value) o.panes

-- the book is ended, and each call and each read that failed was counted
pub record IsEndedBy (kits : ObservedKits) (b : SeenBook) : Type 0 where
  pub ended : IsEnded b
  pub calls : b.calls ≤ rise kits.shelf.before kits.shelf.after
  pub reads : b.reads ≤ rise kits.store.before kits.store.after

-- The book was stopped by a fail with this note, and each call and each read that failed was counted. Where positions are set aside it was a read, or of a node
-- that is no source.
pub record IsStoppedBy (kits : ObservedKits) (note : FaultNote) (b : SeenBook) : Type 0 where
  pub noted : b.stopped ≡ Some (stop.Spent note)
  pub beside : sets_aside b.plan ≡ true → (note.cause ≡ Read) ⊎ (has_kind is_source_kind b.plan note.node ≡ false)
  pub calls : b.calls ≤ rise kits.shelf.before kits.shelf.after
  pub reads : b.reads ≤ rise kits.store.before kits.store.after

-- work failed as often as it may, and each time it was counted
pub record IsSpent (kits : ObservedKits) (attempts : ℕ) (note : FaultNote) : Type 0 where
  pub attempt : note.attempt ≡ attempts
  pub counted : attempts ≤ rise kits.shelf.before kits.shelf.after + rise kits.store.before kits.store.after
  pub cause : IsCountedAs kits.shelf kits.store note.cause

-- Ok: the book is ended, and what failed was counted. A work fault: a fail stopped it, and its data is handed out. Else there was no memory, and nothing is.
abbrev pub IsPlanEnd : ObservedKits → Plan → Options → Status → Option Outcome → Type 0
IsPlanEnd kits plan options status.Ok outcome =
    (o : Outcome) × (outcome ≡ Some o) × IsOutcomeWhere (surroundings_of kits) plan options (IsEndedBy kits) o
IsPlanEnd kits plan options (status.WorkFault note) outcome =
    ((o : Outcome) × (outcome ≡ Some o) × IsOutcomeWhere (surroundings_of kits) plan options (IsStoppedBy kits note) o)
    × IsSpent kits options.attempts note
IsPlanEnd kits plan options status.NoMemory outcome = outcome ≡ None
IsPlanEnd kits plan options _ outcome = ⊥

-- ---- the lengths that a run works with

-- of the items of a plan, as the first of these kits has opened them
abbrev pub lengths_of_first : {F S : Type 0} → Plan → List (Kit F S) → List FileLen
lengths_of_first plan [] = []
lengths_of_first plan (first ∷ others) = opened_lengths plan first.files

-- ---- within a run

-- the lengths of the items of a plan, as they were opened; and where the files are told, as they are
pub record AreFirstLengths (told : Option (List FileText)) (plan : Plan) (lengths : List FileLen) : Type 0 where
  pub each : AreLengthsOf (items [] plan) lengths
  pub told_are : WhereTold told (λ files. lengths ≡ map item_len (items files plan))

-- the status of a run whose book was stopped so, or wasn't
abbrev pub IsStatusAfter : Option StopCause → Status → Type 0
IsStatusAfter None s = s ≡ status.Ok
IsStatusAfter (Some (stop.Spent note)) s = s ≡ status.WorkFault note
IsStatusAfter (Some stop.NoMemory) s = ⊥

-- the data of the book is handed out, with the status that it tells
pub record IsEndOfBook (b : SeenBook) (end : RunEnd) : Type 0 where
  pub outcome : Outcome
  pub some : end.outcome ≡ Some outcome
  pub of_book : IsOutcomeOf b outcome
  pub storable : All (λ pane. IsStorable pane.element.value) outcome.panes
  pub tells : IsStatusAfter b.stopped end.status

-- or there was no memory, and nothing is
pub record IsMemoryEnd (end : RunEnd) : Type 0 where
  pub status : end.status ≡ status.NoMemory
  pub none : end.outcome ≡ None
