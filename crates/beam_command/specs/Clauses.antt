-- What the clauses of a command speak of, and what they say, each in one word.
use Rattle.std.specs.Prelude.{◌≡◌, ℕ, ◌≤◌, false, List, [], length, map, Option, Some, None, Vec, IfSome}
use Rattle.std.specs.declared.alloc.Global.{Global}
use Rattle.std.specs.declared.string.String.{String}
use Rattle.beam_ports.specs.Observed.{ObservedSink, WhereTold}
use Rattle.beam_ports.specs.declared.sink.Sink.{Ghosts as SinkGhosts}
use Rattle.beam_ports.specs.declared.store.Store.{Ghosts as StoreGhosts}
use Rattle.beam_values.specs.declared.file_text.FileText.{FileText}
use Rattle.beam_values.specs.declared.outcome.Outcome.{Outcome}
use Rattle.beam_model.specs.Account.{IsAccounted}
use Rattle.beam_model.specs.Covers.{IsCovered}
use Rattle.beam_model.specs.Plain.{ArePlainlyWritten, ArePlainlyWrittenWhere}
use Rattle.beam_model.specs.Positions.{item_len, items}
use Rattle.command_words.specs.Commands.{Asked, Panes, Run, Replay, Drill, Combine, command_of, words_of}
use Rattle.dofn_traits.specs.declared.shelf.Shelf.{Ghosts as ShelfGhosts}
use Rattle.book_core.specs.Book.{sets_aside}
use Rattle.bundle_work.specs.Kits.{EachBecomes}
use Rattle.bundle_work.specs.declared.kit.Kit.{Kit}
use Rattle.run_engine.specs.SetAside.{HasDeadLetters}
use Rattle.run_engine.specs.declared.run_end.RunEnd.{RunEnd}
use Rattle.command_ends.specs.Writing.{IsWritten}
use Rattle.command_ends.specs.declared.status.Status.{Status}
use Rattle.command_ends.specs.declared.status.Status.TheVariants as status
use Rattle.ended_runs.specs.Sides.{AreSidesGivenWhere}
use Rattle.beam_command.specs.Asking.{WhereDrill, WherePipeline}
use Rattle.beam_command.specs.Drilling.{IsDrillText}
use Rattle.beam_command.specs.Observing.{Observed, AreFound}
use Rattle.beam_command.specs.Ends.{HasRun, IsEndOf}
use Rattle.beam_command.specs.Kits.{AreKitsLeft, IsOutcomeOfKits, TriesUnbegun, in_use, observed_in_use, told_files, told_for}
use Rattle.beam_command.specs.Promises.{AsksPlainPlan, IsPlanAsked}
use Rattle.beam_command.specs.ReplayEnds.{text_attempts}

-- ---- what they speak of

-- what the words of a command line ask for
abbrev pub asked_by : List (String Global) → Option Asked
asked_by words = command_of (words_of words)

-- what is asked for, and what is told of the files that it opens
pub record Asking : Type 0 where
  pub asked : Option Asked
  pub files : Option (List FileText)

abbrev pub asking : {F S : Type 0} → StoreGhosts S → List (String Global) → Vec (Kit F S) Global → Asking
asking s words kits = record { asked = asked_by words; files = told_for (asked_by words) (told_files s.files (in_use (asked_by words) kits.items)) }

-- what was observed at the kits in use and at the output
abbrev pub observed_by : {F S W : Type 0} → ShelfGhosts F → StoreGhosts S → SinkGhosts W → List (String Global) → Vec (Kit F S) Global → Vec (Kit F S) Global → W → W → Observed
observed_by f s w words olds news out_old out_new = observed_in_use f s w (asked_by words) olds.items news.items out_old out_new

-- ---- what they say of an end

-- it is one of those of what is asked for
abbrev pub EndsAsAsked : Option Asked → Observed → RunEnd → Type 0
EndsAsAsked asked observed end = IsEndOf asked observed end.status end.outcome

-- its outcome, if it has one, is of what the kits opened
abbrev pub EndsWithOpened : {F S : Type 0} → StoreGhosts S → List (String Global) → Vec (Kit F S) Global → Vec (Kit F S) Global → RunEnd → Type 0
EndsWithOpened s words olds news end = IfSome end.outcome (IsOutcomeOfKits s (asked_by words) olds.items news.items)

-- the kits are as it leaves them
abbrev pub LeavesKits : {F S : Type 0} → ShelfGhosts F → StoreGhosts S → List (String Global) → Vec (Kit F S) Global → Vec (Kit F S) Global → RunEnd → Type 0
LeavesKits f s words olds news end = AreKitsLeft f s (asked_by words) end.status olds.items news.items

-- how often what is asked for opens, reads and writes at most, where that fails
abbrev pub attempts_of : Option Asked → ℕ
attempts_of (Some (Panes file size options)) = options.attempts
attempts_of (Some (Run name options)) = options.attempts
attempts_of (Some (Replay name schedule options)) = options.attempts
attempts_of (Some (Drill count number options)) = options.attempts
attempts_of (Some (Combine name options)) = options.attempts
attempts_of _ = text_attempts

-- the stores of the kits in use failed as often as it tells
abbrev pub TriesInUse : {F S : Type 0} → StoreGhosts S → List (String Global) → Vec (Kit F S) Global → Vec (Kit F S) Global → RunEnd → Type 0
TriesInUse s words olds news end =
    let asked = asked_by words in
    TriesUnbegun s (attempts_of asked) 0 (in_use asked olds.items) (in_use asked news.items) end.status

-- no count of a kit fell
abbrev pub CountsOnward : {F S : Type 0} → ShelfGhosts F → StoreGhosts S → Kit F S → Kit F S → Type 0
CountsOnward f s old new = (f.faults old.shelf ≤ f.faults new.shelf) × (s.faults old.store ≤ s.faults new.store)

-- nothing was written and nothing is handed out, there are as many kits as before, and no count of theirs fell
pub record LeavesNothing {F S : Type 0} (f : ShelfGhosts F) (s : StoreGhosts S) (olds news : Vec (Kit F S) Global) (out : ObservedSink) (end : RunEnd) : Type 0 where
  pub unwritten : out.taken_after ≡ out.taken_before
  pub no_outcome : end.outcome ≡ None
  pub many : length news.items ≡ length olds.items
  pub counts : EachBecomes olds.items news.items (CountsOnward f s)

-- ---- what they say of the outcome of a run that came to its end

-- It is of the plan that is asked for. Where the files are told, each one that the plan reads is there, and the items have their lengths.
pub record IsOfAsked (asking : Asking) (o : Outcome) : Type 0 where
  pub plan : IsPlanAsked asking.files asking.asked o.plan
  pub found : AreFound asking.files o.plan
  pub lengths : WhereTold asking.files (λ told. o.files ≡ map item_len (items told o.plan))

-- each offset of each item is in exactly one committed range or is a dead position, and there is none of a plan of version 1
pub record IsPartitioned (o : Outcome) : Type 0 where
  pub cover : IsCovered o
  pub no_dead : sets_aside o.plan ≡ false → o.dead ≡ []

-- its dead positions, of a run that came to its end
abbrev pub SetsAside : Option Asked → Observed → RunEnd → Type 0
SetsAside asked observed end =
    WherePipeline asked (λ own options. HasRun end.status end.outcome (HasDeadLetters observed.kits options.attempts))

-- where the files are told: what arrived is what flows, each once, but for the dead positions
abbrev pub IsAccountedFor : Asking → Outcome → Type 0
IsAccountedFor asking o = WhereTold asking.files (λ told. IsAccounted (items told o.plan) o)

-- Where the files are told: what was written is plain grouping at each Write with the default trigger and sound estimators above it. So it is for `panes` and
-- for `drill` at each Write.
pub record IsPlain (asking : Asking) (o : Outcome) : Type 0 where
  pub where_sound : WhereTold asking.files (λ told. ArePlainlyWrittenWhere (items told o.plan) o)
  pub always : AsksPlainPlan asking.asked → WhereTold asking.files (λ told. ArePlainlyWritten (items told o.plan) o)

-- where the files are told: what each side input without sessions gave, with default triggers and sound estimators above it
abbrev pub GivesSides : Asking → Outcome → Type 0
GivesSides asking o = WhereTold asking.files (λ told. AreSidesGivenWhere (items told o.plan) o)

-- ---- what they say of what was printed

-- the text of a drill that came to its end was written, whatever the kits told, counted and did
abbrev pub IsDrillPrinted : ObservedSink → ℕ → ℕ → ℕ → Status → Type 0
IsDrillPrinted out attempts count number status.Ok = (text : List ℕ) × IsDrillText count number text × IsWritten out attempts text status.Ok
IsDrillPrinted out attempts count number status.SinkFault = (text : List ℕ) × IsDrillText count number text × IsWritten out attempts text status.SinkFault
IsDrillPrinted out attempts count number _ = Unit {0}

abbrev pub PrintsDrill : Option Asked → ObservedSink → RunEnd → Type 0
PrintsDrill asked out end = WhereDrill asked (λ count number options. IsDrillPrinted out options.attempts count number end.status)
