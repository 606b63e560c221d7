-- What a slot works, position by position: how its work goes on, what it brings to the commit, and how it fails.
use Rattle.std.specs.Prelude.{◌≡◌, ◌⊎◌, ℕ, ◌+◌, ◌<◌, ◌≤◌, ℤ, Bool, true, false, List, [], ◌∷◌, map, Option, Some, None, slice_get}
use Rattle.std.specs.List.{list_any}
use Rattle.beam_ports.specs.Files.{KeepsOpenings, Opening}
use Rattle.beam_ports.specs.Observed.{ObservedStore}
use Rattle.beam_values.specs.Times.{least_time}
use Rattle.beam_values.specs.declared.fault.FaultNote.{FaultNote}
use Rattle.beam_values.specs.declared.file_text.FileText.{FileText}
use Rattle.beam_values.specs.declared.piece.FileLen.{FileLen}
use Rattle.beam_values.specs.declared.piece.Piece.{Piece}
use Rattle.beam_values.specs.declared.plan.Plan.{Plan}
use Rattle.beam_model.specs.Chains.{Output}
use Rattle.beam_model.specs.Coverings.{item_at, spread_of}
use Rattle.beam_model.specs.Estimators.{emission_at}
use Rattle.beam_model.specs.Positions.{Emission, Emits, Poison, SourceItem, next_position}
use Rattle.beam_model.specs.Spread.{is_poison}
use Rattle.bundle_commit.specs.declared.job.Job.{Job}
use Rattle.bundle_commit.specs.declared.job.Job.TheVariants as job
use Rattle.bundle_commit.specs.declared.job.Receipt.{Receipt}
use Rattle.book_core.specs.Changes.{cut_to}
use Rattle.book_core.specs.Work.{is_known, items_told, job_outputs}
use Rattle.chain_exec.specs.Causes.{ObservedShelf}
use Rattle.known_jobs.specs.Calls.{CanCommitAs, CanFailAs, holds_end}
use Rattle.known_jobs.specs.Jobs.{KnownJob, Setting}
use Rattle.sdf_library.specs.Paging.{Paged}
use Rattle.bundle_work.specs.Bundles.{HasClaimed, IsCountedAs}
use Rattle.bundle_work.specs.Reading.{AreReaders, IsReading, is_reader_for, length_in}
use Rattle.bundle_work.specs.Stretches.{IsWorkedOver}
use Rattle.bundle_work.specs.declared.reading.Reader.{Reader}
use Rattle.lone_worker.specs.declared.work.ClaimEnd.{ClaimEnd}
use Rattle.lone_worker.specs.declared.work.ClaimEnd.TheVariants as claim
use Rattle.lone_worker.specs.declared.work.Stage.{Stage}
use Rattle.lone_worker.specs.declared.work.Stage.TheVariants as stage
use Rattle.lone_worker.specs.declared.work.Work.{Work}

-- ---- a job that begins

-- the position that is claimed first
abbrev pub first_of : Job → ℕ
first_of (job.Span piece) = piece.range.from
first_of _ = 0

abbrev pub seen_of : Job → ℤ
seen_of (job.Span piece) = piece.seen
seen_of _ = least_time

-- a spent piece is committed as it was taken
abbrev pub stage_by : Option FaultNote → Stage
stage_by None = stage.Open
stage_by (Some note) = stage.Over

abbrev pub first_stage : Job → Stage
first_stage (job.Span piece) = stage_by piece.spent
first_stage _ = stage.Open

-- ---- what may be done

abbrev pub may_claim_in : Job → Stage → Bool
may_claim_in (job.Span piece) stage.Open = true
may_claim_in _ _ = false

abbrev pub may_run_in : Job → Stage → Bool
may_run_in (job.Span piece) stage = false
may_run_in _ stage.Open = true
may_run_in _ _ = false

-- ---- what lies under the work

-- what is known outside the book; and the files as they were opened when the work began, with a reader for each item
pub record Base : Type 0 where
  pub setting : Setting
  pub opened : ℕ → Option Opening
  pub readers : List Reader

-- the readers are those of the plan, and what is read now was opened when the work began
pub record IsReadingOn (base : Base) (opened : ℕ → Option Opening) (readers : List Reader) (place : ℕ) (pager : Paged) : Type 0 where
  pub first : AreReaders base.setting.known.told base.opened base.setting.plan base.readers
  pub lengths : map length_in base.readers ≡ base.setting.files
  pub kept : KeepsOpenings base.opened opened
  pub same : readers ≡ base.readers
  pub now : IsReading base.setting.known.told opened base.setting.plan readers place pager

-- ---- how far the work is

-- The range is the one that was taken, which was split since at most, with this attempted.
pub record IsRangeOf (piece : Piece) (attempted : Option ℕ) (known : Option KnownJob) : Type 0 where
  pub now : Piece
  pub claimed : HasClaimed piece now attempted known
  pub ordered : now.range.from ≤ now.range.to

abbrev pub nothing_staged : Piece → Receipt
nothing_staged piece = record { arrivals = []; seen = piece.seen; logged = None }

-- the piece isn't spent, and nothing of it was claimed yet
pub record IsFresh (piece : Piece) (known : Option KnownJob) (next : ℕ) (staged : Receipt) : Type 0 where
  pub fresh : piece.spent ≡ None
  pub range : IsRangeOf piece None known
  pub first : next ≡ piece.range.from
  pub empty : staged ≡ nothing_staged piece

-- the piece isn't spent, the positions up to the last claimed one are worked, and this is the next one
pub record IsGoing (base : Base) (piece : Piece) (known : Option KnownJob) (next : ℕ) (staged : Receipt) : Type 0 where
  pub fresh : piece.spent ≡ None
  pub last : ℕ
  pub range : IsRangeOf piece (Some last) known
  pub inside : last < range.now.range.to
  pub place : ℕ
  pub reader : Reader
  pub at : slice_get base.readers place ≡ Some reader
  pub is_for : is_reader_for piece reader ≡ true
  pub worked : IsWorkedOver base.setting.plan (base.opened reader.file) reader.len piece piece.range.from (last + 1) next (nothing_staged piece) staged

-- a claim was refused: some position was attempted
pub record IsRangeTried (piece : Piece) (known : Option KnownJob) : Type 0 where
  pub last : ℕ
  pub range : IsRangeOf piece (Some last) known

-- a range that is over has what it brings; a spent piece is over as it was taken, and brings nothing
abbrev pub IsRangeOver : Base → Option FaultNote → Piece → Option KnownJob → Receipt → Type 0
IsRangeOver base None piece known staged = IsRangeTried piece known × CanCommitAs base.setting known staged
IsRangeOver base (Some note) piece known staged = IsRangeOf piece None known × (staged ≡ nothing_staged piece)

-- the work failed at a position of the range
pub record IsRangeFailed (piece : Piece) (known : Option KnownJob) : Type 0 where
  pub last : ℕ
  pub range : IsRangeOf piece (Some last) known
  pub from_start : piece.range.from ≤ last
  pub inside : last < range.now.range.to

abbrev pub IsRangeAt : Base → Option KnownJob → Piece → ℕ → Stage → Receipt → Type 0
IsRangeAt base known piece next stage.Open staged = IsFresh piece known next staged ⊎ IsGoing base piece known next staged
IsRangeAt base known piece next stage.Over staged = IsRangeOver base piece.spent piece known staged
IsRangeAt base known piece next (stage.Faulted at cause) staged = IsRangeFailed piece known

-- a batch or a key job that was run has what it brings
abbrev pub IsWholeAt : Base → Option KnownJob → Stage → Option Receipt → Type 0
IsWholeAt base known stage.Open receipt = receipt ≡ None
IsWholeAt base known stage.Over None = ⊥
IsWholeAt base known stage.Over (Some receipt) = CanCommitAs base.setting known receipt
IsWholeAt base known (stage.Faulted at cause) receipt = Unit {0}

abbrev pub IsJobAt : Base → Option KnownJob → Job → Work → Type 0
IsJobAt base known (job.Span piece) work = IsRangeAt base known piece work.next work.stage work.staged × (work.receipt ≡ None)
IsJobAt base known other work = (known ≡ Some (record { job = other; attempted = None })) × IsWholeAt base known work.stage work.receipt

-- what is known to be worked is this
abbrev pub IsWorkAt : Base → Option KnownJob → Work → Type 0
IsWorkAt base known work = IsJobAt base known work.job work

-- what it brings
abbrev pub receipt_or : Option Receipt → Receipt → Receipt
receipt_or (Some receipt) staged = receipt
receipt_or None staged = staged

abbrev pub receipt_of : Work → Receipt
receipt_of work = receipt_or work.receipt work.staged

-- ---- what a work was to bring

-- of a range at its last attempted position, of a batch and a key job all
abbrev pub outputs_at : Option (List FileText) → Plan → Job → Option ℕ → List Output
outputs_at told plan (job.Span piece) None = []
outputs_at told plan (job.Span piece) (Some p) = spread_of plan (record { from = p; to = p + 1 }) (item_at (items_told told plan) piece.node piece.item)
outputs_at told plan other attempted = job_outputs told plan other

-- that is known: of a position where its item is, of a batch and a key job always
abbrev pub is_known_work : Option (List FileText) → Plan → Job → Bool
is_known_work told plan (job.Span piece) = is_known told plan piece.node
is_known_work told plan other = true

-- where it is known, nothing of it is poison
abbrev pub IsSound : Setting → Option KnownJob → Type 0
IsSound setting None = ⊥
IsSound setting (Some known) =
    is_known_work setting.known.told setting.plan known.job ≡ true → list_any is_poison (outputs_at setting.known.told setting.plan known.job known.attempted) ≡ false

-- ---- the position after one

-- where the item is known, the one that its source gives
abbrev pub IsNextIn : Option SourceItem → ℕ → ℕ → Type 0
IsNextIn None p next = Unit {0}
IsNextIn (Some item) p next = next ≡ next_position item.work item.file p

abbrev pub IsNextWhere : Bool → Option (List FileText) → Plan → Piece → ℕ → ℕ → Type 0
IsNextWhere true told plan piece p next = IsNextIn (item_at (items_told told plan) piece.node piece.item) p next
IsNextWhere false told plan piece p next = Unit {0}

-- it lies behind the position, and in the item
pub record IsNextAfter (told : Option (List FileText)) (plan : Plan) (files : List FileLen) (piece : Piece) (p next : ℕ) : Type 0 where
  pub behind : p < next
  pub inside : list_any (holds_end (cut_to piece (record { from = p; to = next }))) files ≡ true
  pub known : IsNextWhere (is_known told plan piece.node) told plan piece p next

abbrev pub IsNextOfJob : Option (List FileText) → Plan → List FileLen → Job → ℕ → ℕ → Type 0
IsNextOfJob told plan files (job.Span piece) p next = IsNextAfter told plan files piece p next
IsNextOfJob told plan files _ p next = ⊥

-- ---- whether a position emitted a value

abbrev pub has_value : Emission → Bool
has_value (Emits [] declared) = false
has_value (Emits (value ∷ values) declared) = true
has_value Poison = false

abbrev pub emits_value : Option SourceItem → ℕ → Bool
emits_value None p = false
emits_value (Some item) p = has_value (emission_at item p)

-- that is so where the item is known
abbrev pub IsEmittedWhere : Bool → Option (List FileText) → Plan → Piece → ℕ → Bool → Type 0
IsEmittedWhere true told plan piece p emitted = emitted ≡ emits_value (item_at (items_told told plan) piece.node piece.item) p
IsEmittedWhere false told plan piece p emitted = Unit {0}

abbrev pub IsEmittedBy : Option (List FileText) → Plan → Job → ℕ → Bool → Type 0
IsEmittedBy told plan (job.Span piece) p emitted = IsEmittedWhere (is_known told plan piece.node) told plan piece p emitted
IsEmittedBy told plan _ p emitted = ⊥

-- ---- what comes of a claim and a run

-- it failed for an honest cause, which was counted
abbrev pub IsFaultOf : Setting → ObservedShelf → ObservedStore → Option KnownJob → Stage → Type 0
IsFaultOf setting shelf store known (stage.Faulted at cause) = IsCountedAs shelf store cause × CanFailAs setting known at cause
IsFaultOf setting shelf store known _ = ⊥

abbrev pub is_granted : ClaimEnd → Bool
is_granted claim.Refused = false
is_granted _ = true

-- What came of it, by what is known after the claim. A position that was worked met no poison.
abbrev pub IsClaimDone : Setting → ObservedShelf → ObservedStore → Option KnownJob → Work → Work → ClaimEnd → Type 0
IsClaimDone setting shelf store known old new claim.Refused = new ≡ record old { stage = stage.Over }
IsClaimDone setting shelf store known old new (claim.Worked emitted) =
    (new ≡ record old { next = new.next; staged = new.staged }) × IsNextOfJob setting.known.told setting.plan setting.files old.job old.next new.next
    × IsEmittedBy setting.known.told setting.plan old.job old.next emitted × IsSound setting known
IsClaimDone setting shelf store known old new claim.Faulted = (new ≡ record old { stage = new.stage; staged = new.staged }) × IsFaultOf setting shelf store known new.stage

abbrev pub IsRunDone : Setting → ObservedShelf → ObservedStore → Option KnownJob → Work → Work → Bool → Type 0
IsRunDone setting shelf store known old new true = (new ≡ record old { stage = stage.Over; receipt = new.receipt }) × IsSound setting known
IsRunDone setting shelf store known old new false = (new ≡ record old { stage = new.stage }) × IsFaultOf setting shelf store known new.stage
