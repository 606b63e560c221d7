-- What ranges of source items leave in a table, and why work on them was given up.
use Rattle.std.specs.Prelude.{◌≡◌, ◌⊎◌, ℕ, ◌+◌, ◌-◌, ◌<◌, ◌≤◌, ◌==◌, ◌&&◌, Bool, true, List, [], ◌∷◌, ◌++◌, length, map, Some, Result, Ok, Err}
use Rattle.std.specs.List.{count_by, list_any}
use Rattle.beam_values.specs.declared.arrival.Arrival.{Arrival}
use Rattle.beam_values.specs.declared.fault.Cause.{Cause}
use Rattle.beam_values.specs.declared.fault.Cause.TheVariants.{Call, Read}
use Rattle.beam_values.specs.declared.fault.FaultNote.{FaultNote}
use Rattle.beam_values.specs.declared.piece.Done.{Done}
use Rattle.beam_values.specs.declared.piece.Piece.{Piece}
use Rattle.beam_values.specs.declared.plan.Plan.{Plan}
use Rattle.beam_values.specs.declared.value.Value.{Value}
use Rattle.beam_model.specs.Chains.{Arrives}
use Rattle.beam_model.specs.Coverings.{spread_done, spread_dones}
use Rattle.beam_model.specs.Positions.{SourceItem, items}
use Rattle.beam_model.specs.Premises.{done_range}
use Rattle.beam_model.specs.Spread.{first_poison, is_poison}
use Rattle.beam_ports.specs.Counts.{rise}
use Rattle.beam_ports.specs.Observed.{ObservedStore, WhereTold}
use Rattle.book_core.specs.Work.{Surroundings}
use Rattle.bundle_work.specs.Bundles.{IsCountedAs}
use Rattle.chain_exec.specs.Causes.{ObservedShelf}
use Rattle.chain_exec.specs.declared.refusal.ExecRefusal.{ExecRefusal}
use Rattle.chain_exec.specs.declared.refusal.ExecRefusal.TheVariants.{Faulted}
use Rattle.chain_exec.specs.declared.refusal.ExecRefusal.TheVariants as exec
use Rattle.split_core.specs.Partition.{range_of}
use Rattle.combine_lift.specs.Tables.{Added, Table, StandsFor}
use Rattle.combine_lift.specs.declared.refusal.LiftRefusal.TheVariants as lift
use Rattle.combine_laws.specs.Brought.{added_by, is_arrival, is_untaken}
use Rattle.combine_laws.specs.Combined.{most_parts}
use Rattle.combine_plan.specs.declared.refusal.CombineRefusal.{CombineRefusal}
use Rattle.combine_plan.specs.declared.refusal.CombineRefusal.TheVariants.{Lift, Fault, NoMemory}

-- ---- what ranges leave in a table

-- Ranges were worked, and what they bring came to a table in this order. Where the lines `0 a 3` and `1000 b -5` were, that is 3 to "a" and -5 to "b".
pub record HasFolded {A : Type 0} (stands : A → List Value → Type 0) (known : Surroundings) (plan : Plan) (ranges : List Done) (old new : Table A) : Type 0 where
  pub arrivals : List Arrival
  pub told : WhereTold known.told (λ files. map Arrives arrivals ≡ spread_dones plan (items files plan) ranges)
  pub parts : new.parts ≡ old.parts + length arrivals
  pub standing : (added : List Added) → StandsFor stands old added → StandsFor stands new (added ++ added_by arrivals)

-- the same of a table that had nothing before
pub record IsFold {A : Type 0} (stands : A → List Value → Type 0) (known : Surroundings) (plan : Plan) (ranges : List Done) (table : Table A) : Type 0 where
  pub arrivals : List Arrival
  pub told : WhereTold known.told (λ files. map Arrives arrivals ≡ spread_dones plan (items files plan) ranges)
  pub standing : StandsFor stands table (added_by arrivals)

-- ---- failures

-- a position of the range is poison, at this node
pub record IsPoisonWithin (plan : Plan) (items : List SourceItem) (range : Done) (node : ℕ) : Type 0 where
  pub at : ℕ
  pub from : range.range.from ≤ at
  pub below : at < range.range.to
  pub poison : first_poison (spread_done plan items (done_range range.node range.item at (at + 1))) ≡ Some node

-- Work on a range failed, at this node, and was counted by its cause: a call at the shelf, a read at the store. Over strict shelves a call fails at poison alone.
-- A read fails at the source.
pub record HasFailed (known : Surroundings) (shelf : ObservedShelf) (store : ObservedStore) (plan : Plan) (range : Done) (at : ℕ) (cause : Cause) : Type 0 where
  pub counted : IsCountedAs shelf store cause
  pub call : cause ≡ Call → known.strict ≡ true → WhereTold known.told (λ files. IsPoisonWithin plan (items files plan) range at)
  pub read : cause ≡ Read → at ≡ range.node

-- Work on ranges failed so often, by its causes, and each time that was counted. Over strict shelves calls fail only where some position is poison.
pub record AreTries (known : Surroundings) (shelf : ObservedShelf) (store : ObservedStore) (plan : Plan) (ranges : List Done) (tries : ℕ) : Type 0 where
  pub calls : ℕ
  pub reads : ℕ
  pub all : tries ≡ calls + reads
  pub calls_counted : calls ≤ rise shelf.before shelf.after
  pub reads_counted : reads ≤ rise store.before store.after
  pub poison : 0 < calls → known.strict ≡ true → WhereTold known.told (λ files. list_any is_poison (spread_dones plan (items files plan) ranges) ≡ true)

-- some position of the item is poison, at the node of the note
pub record IsPoisonItem (plan : Plan) (items : List SourceItem) (note : FaultNote) : Type 0 where
  pub at : ℕ
  pub poison : first_poison (spread_done plan items (done_range note.node note.item at (at + 1))) ≡ Some note.at

-- Work on one of the ranges was given up, after so many attempts. Where a read failed last the note is of the source alone.
pub record IsSpent (known : Surroundings) (shelf : ObservedShelf) (store : ObservedStore) (plan : Plan) (attempts : ℕ) (ranges : List Done) (note : FaultNote) : Type 0 where
  pub listed : list_any (λ range. range.node == note.node && range.item == note.item) ranges ≡ true
  pub attempt : note.attempt ≡ attempts
  pub tries : AreTries known shelf store plan ranges attempts
  pub cause : IsCountedAs shelf store note.cause
  pub call : note.cause ≡ Call → known.strict ≡ true → WhereTold known.told (λ files. IsPoisonItem plan (items files plan) note)
  pub read : note.cause ≡ Read → note.at ≡ note.node

-- ---- refusals

-- Why ranges were not folded into a table that had so many parts: work was given up; or a part came that isn't taken, or one more than can be counted; or
-- there was no memory.
abbrev pub IsFoldRefused : (Value → Bool) → Surroundings → ObservedShelf → ObservedStore → Plan → ℕ → List Done → ℕ → CombineRefusal → Type 0
IsFoldRefused takes known shelf store plan attempts ranges parts (Fault note) = IsSpent known shelf store plan attempts ranges note
IsFoldRefused takes known shelf store plan attempts ranges parts (Lift lift.Part) =
    WhereTold known.told (λ files. list_any (is_untaken takes) (spread_dones plan (items files plan) ranges) ≡ true)
IsFoldRefused takes known shelf store plan attempts ranges parts (Lift lift.Many) =
    WhereTold known.told (λ files. most_parts < parts + count_by is_arrival (spread_dones plan (items files plan) ranges))
IsFoldRefused takes known shelf store plan attempts ranges parts NoMemory = Unit {0}
IsFoldRefused takes known shelf store plan attempts ranges parts _ = ⊥

-- why arrivals were not added to a table that had so many parts
abbrev pub IsAddRefused : (Value → Bool) → ℕ → List Arrival → CombineRefusal → Type 0
IsAddRefused takes parts arrivals (Lift lift.Part) = list_any (λ arrival. is_untaken takes (Arrives arrival)) arrivals ≡ true
IsAddRefused takes parts arrivals (Lift lift.Many) = most_parts < parts + length arrivals
IsAddRefused takes parts arrivals NoMemory = Unit {0}
IsAddRefused takes parts arrivals _ = ⊥

-- ---- one bundle of a piece

-- the range of a piece from its start up to that of another
abbrev pub range_before : Piece → Piece → Done
range_before rest left = done_range rest.node rest.item rest.range.from left.range.from

-- the work failed once more, and was counted, or it didn't
abbrev pub FailsAgain : Surroundings → ObservedShelf → ObservedStore → Plan → Piece → ℕ → Type 0
FailsAgain known shelf store plan rest attempts =
    (attempts ≡ rest.attempts) ⊎ ((attempts ≡ rest.attempts + 1) × (at : ℕ) × (cause : Cause) × HasFailed known shelf store plan (range_of rest) at cause)

-- a bundle of a piece was worked, and this is left behind it; or it failed, and all is left, with one more attempt
pub record IsBundleDone {A : Type 0} (stands : A → List Value → Type 0) (known : Surroundings) (shelf : ObservedShelf) (store : ObservedStore) (plan : Plan) (attempts : ℕ) (rest left : Piece)
    (old new : Table A) : Type 0 where
  pub same : left ≡ record rest { range = record { from = left.range.from; to = rest.range.to }; attempts = left.attempts }
  pub behind : rest.range.from ≤ left.range.from
  pub within : left.range.from ≤ rest.range.to
  pub limit : left.attempts < attempts
  pub less : (rest.range.to - left.range.from) + (attempts - left.attempts) < (rest.range.to - rest.range.from) + (attempts - rest.attempts)
  pub folded : HasFolded stands known plan (range_before rest left ∷ []) old new
  pub fails : FailsAgain known shelf store plan rest left.attempts

-- Lines of a piece were worked, and this is left behind them, maybe all; where the work failed, it has one more attempt.
pub record IsLeftBehind {A : Type 0} (stands : A → List Value → Type 0) (known : Surroundings) (shelf : ObservedShelf) (store : ObservedStore) (plan : Plan) (attempts : ℕ) (rest left : Piece)
    (old new : Table A) : Type 0 where
  pub same : left ≡ record rest { range = record { from = left.range.from; to = rest.range.to }; attempts = left.attempts }
  pub behind : rest.range.from ≤ left.range.from
  pub within : left.range.from ≤ rest.range.to
  pub limit : left.attempts < attempts
  pub more : rest.attempts ≤ left.attempts
  pub folded : HasFolded stands known plan (range_before rest left ∷ []) old new
  pub fails : FailsAgain known shelf store plan rest left.attempts

-- its last attempt failed, of this note
pub record IsLastFailure (known : Surroundings) (shelf : ObservedShelf) (store : ObservedStore) (plan : Plan) (attempts : ℕ) (rest : Piece) (note : FaultNote) : Type 0 where
  pub node : note.node ≡ rest.node
  pub item : note.item ≡ rest.item
  pub attempt : note.attempt ≡ attempts
  pub last : rest.attempts + 1 ≡ attempts
  pub failed : HasFailed known shelf store plan (range_of rest) note.at note.cause

abbrev pub IsBundleRefused : (Value → Bool) → Surroundings → ObservedShelf → ObservedStore → Plan → ℕ → Piece → ℕ → CombineRefusal → Type 0
IsBundleRefused takes known shelf store plan attempts rest parts (Fault note) = IsLastFailure known shelf store plan attempts rest note
IsBundleRefused takes known shelf store plan attempts rest parts refusal = IsFoldRefused takes known shelf store plan attempts (range_of rest ∷ []) parts refusal

-- work on a range was refused: it failed, or there was no memory
abbrev pub IsWorkFailed : Surroundings → ObservedShelf → ObservedStore → Plan → Done → ExecRefusal → Type 0
IsWorkFailed known shelf store plan range (Faulted at cause) = HasFailed known shelf store plan range at cause
IsWorkFailed known shelf store plan range exec.NoMemory = Unit {0}

-- the piece is tried again, or it was the last attempt
abbrev pub IsTriedAgain : Piece → ℕ → Cause → ℕ → Result Piece CombineRefusal → Type 0
IsTriedAgain piece at cause attempts (Ok left) = (left ≡ record piece { attempts = piece.attempts + 1 }) × (piece.attempts + 1 < attempts)
IsTriedAgain piece at cause attempts (Err refusal) =
    (refusal ≡ Fault (record { node = piece.node; item = piece.item; at = at; attempt = attempts; cause = cause })) × (piece.attempts + 1 ≡ attempts)

-- the same where work failed; where there was no memory nothing is tried again
abbrev pub IsFailedAgain : Piece → ExecRefusal → ℕ → Result Piece CombineRefusal → Type 0
IsFailedAgain piece (Faulted at cause) attempts result = IsTriedAgain piece at cause attempts result
IsFailedAgain piece exec.NoMemory attempts result = result ≡ Err NoMemory

-- two tables were not joined, which have so many parts together
abbrev pub IsJoinRefused : ℕ → CombineRefusal → Type 0
IsJoinRefused parts (Lift lift.Many) = most_parts < parts
IsJoinRefused parts NoMemory = Unit {0}
IsJoinRefused parts _ = ⊥
