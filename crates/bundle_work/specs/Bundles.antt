-- What a worker's work on one job brings, or why it was refused.
use Rattle.std.specs.Prelude.{◌≡◌, ℕ, ◌<◌, ◌≤◌, ◌≤ℤ◌, ◌+ℤ◌, true, Bool, List, [], Option, Some, None, IsSome, Result, OnOk, IfErr}
use Rattle.std.specs.Option.{ForSome}
use Rattle.beam_values.specs.Strategies.{greatest_length}
use Rattle.beam_values.specs.Times.{greatest_time}
use Rattle.beam_values.specs.declared.fault.Cause.{Cause}
use Rattle.beam_values.specs.declared.fault.Cause.TheVariants.{Call, Read}
use Rattle.beam_values.specs.declared.file_text.FileText.{FileText}
use Rattle.beam_values.specs.declared.piece.Piece.{Piece}
use Rattle.beam_values.specs.declared.plan.Plan.{Plan}
use Rattle.beam_model.specs.Chains.{Output, Arrives, PoisonAt}
use Rattle.beam_model.specs.Positions.{Emission, SourceItem}
use Rattle.beam_model.specs.Reach.{reaches_barrier}
use Rattle.beam_ports.specs.Counts.{Rose}
use Rattle.beam_ports.specs.Files.{Opening}
use Rattle.beam_ports.specs.Observed.{ObservedStore}
use Rattle.book_core.specs.Changes.{cut_to}
use Rattle.book_core.specs.Work.{Surroundings, IsHonest, IsPlausible, IsWorkOn, worked_to}
use Rattle.bundle_commit.specs.declared.job.Job.{Job}
use Rattle.bundle_commit.specs.declared.job.Job.TheVariants as job
use Rattle.bundle_commit.specs.declared.job.Receipt.{Receipt}
use Rattle.chain_exec.specs.Causes.{ObservedShelf}
use Rattle.chain_exec.specs.Positions.{IsEmissionAt, IsPositionRefused, IsWorked, StoreCounts}
use Rattle.chain_exec.specs.Sources.{IsCounted, IsHeldFor, IsText, SourceWork, source_at}
use Rattle.chain_exec.specs.declared.position.Step.{Step}
use Rattle.chain_exec.specs.declared.refusal.ExecRefusal.{ExecRefusal}
use Rattle.chain_exec.specs.declared.refusal.ExecRefusal.TheVariants.{Faulted, NoMemory}
use Rattle.group_cells.specs.Commits.{HasGap}
use Rattle.sdf_library.specs.Paging.{Paged}
use Rattle.known_jobs.specs.Calls.{CanFailAs, FailsInside}
use Rattle.known_jobs.specs.Jobs.{KnownJob, Setting}
use Rattle.bundle_work.specs.Outside.{IsKitKept}
use Rattle.bundle_work.specs.declared.kit.Kit.{Kit}

-- ---- what positions leave

-- how far the count of faults of a store rose
abbrev pub counts_of : {S : Type 0} → (S → ℕ) → S → S → StoreCounts
counts_of fails_of store store_after = record { before = fails_of store; after = fails_of store_after }

-- a position of this source can be worked with this pager
pub record CanRead (plan : Plan) (node : ℕ) (opening : Option Opening) (pager : Paged) : Type 0 where
  pub source : IsSome (source_at plan node)
  pub counted : ForSome (source_at plan node) (λ source. IsCounted source pager)
  pub held : ForSome (source_at plan node) (λ source. IsHeldFor source.work opening pager)

-- Work on positions of a source leaves the pager of the same file, which serves it still, and keeps the kit.
pub record StaysAble {F S : Type 0} (faults_of : F → ℕ) (is_strict : F → Bool) (fails_of : S → ℕ) (files_of : S → Option (List FileText)) (opened : S → ℕ → Option Opening)
    (plan : Plan) (node : ℕ) (kit after : Kit F S) (pager later : Paged) : Type 0 where
  pub able : CanRead plan node (opened after.store later.file) later
  pub file : later.file ≡ pager.file
  pub len : later.len ≡ pager.len
  pub kept : IsKitKept faults_of is_strict fails_of files_of opened kit.shelf after.shelf kit.store after.store
  pub files : after.files ≡ kit.files

-- ---- a piece

-- the item of a piece, where its text is this
abbrev pub item_of : Piece → SourceWork → List ℕ → SourceItem
item_of piece source text = record { node = piece.node; item = piece.item; work = source.work; args = source.args; file = text; left_out = [] }

-- An output is poison, or arrives at a barrier that the source reaches. A window at a Group of sessions is as long as the gap, and none ends later than one
-- of the greatest time can. No time is above the greatest.
abbrev pub IsFit : Plan → ℕ → Output → Type 0
IsFit plan source (Arrives arrival) =
    (reaches_barrier plan source arrival.node ≡ true) × HasGap plan arrival × (arrival.element.span.end ≤ℤ (greatest_time +ℤ greatest_length))
    × (arrival.element.time ≤ℤ greatest_time)
IsFit plan source (PoisonAt node) = Unit {0}

-- a position was worked: one emission was staged, and it is that of the position where the text is known
pub record HasWorked (plan : Plan) (node : ℕ) (opening : Option Opening) (len p : ℕ) (old new : Receipt) (step : Step) : Type 0 where
  pub emitted : Emission
  pub worked : IsWorked plan node emitted old new step
  pub told : ForSome (source_at plan node) (λ source. IsEmissionAt source opening len p emitted step.next)

abbrev pub IsRefusedAt : ObservedShelf → StoreCounts → Plan → ℕ → Option Opening → ℕ → ℕ → ExecRefusal → Type 0
IsRefusedAt shelf store plan node opening len p refusal = ForSome (source_at plan node) (λ source. IsPositionRefused shelf store plan node source opening len p refusal)

-- The pass knows a range of which positions were attempted up to this one, if any: the piece, which others may have shortened.
pub record HasClaimed (piece now : Piece) (attempted : Option ℕ) (known : Option KnownJob) : Type 0 where
  pub is : known ≡ Some (record { job = job.Span now; attempted = attempted })
  pub same : now ≡ cut_to piece (record { from = piece.range.from; to = now.range.to })
  pub below : now.range.to ≤ piece.range.to

-- the start of the piece, which isn't spent, was claimed, and the range ends here now
pub record HasClaimedTo (piece : Piece) (end : ℕ) (known : Option KnownJob) : Type 0 where
  pub fresh : piece.spent ≡ None
  pub now : Piece
  pub claimed : HasClaimed piece now (Some piece.range.from) known
  pub ends : now.range.to ≡ end

-- The receipt of a piece up to its last attempted position. Where the text is known it has the outputs of these positions, and in any case it is plausible;
-- what was seen is a time by its type.
pub record IsPieceWorked (plan : Plan) (opening : Option Opening) (len : ℕ) (piece : Piece) (attempted : Option ℕ) (receipt : Receipt) : Type 0 where
  pub told : ForSome (source_at plan piece.node) (λ source. (text : List ℕ) → IsText source.work opening len text
      → IsWorkOn plan piece (worked_to piece attempted) (item_of piece source text) receipt)
  pub plausible : receipt.seen ≤ℤ greatest_time → IsPlausible plan piece receipt
  pub logged : receipt.logged ≡ None

-- work on the last attempted position was refused
pub record IsPieceRefused (shelf : ObservedShelf) (store : StoreCounts) (plan : Plan) (opening : Option Opening) (len : ℕ) (piece : Piece) (attempted : Option ℕ) (refusal : ExecRefusal) : Type 0 where
  pub p : ℕ
  pub last : attempted ≡ Some p
  pub from_start : piece.range.from ≤ p
  pub inside : p < piece.range.to
  pub refused : IsRefusedAt shelf store plan piece.node opening len p refusal

-- Positions of a piece were attempted, from its start on: the claimed ones are worked, or work on the last of them was refused.
pub record IsPieceEnd {U : Type 0} (shelf : ObservedShelf) (store : StoreCounts) (plan : Plan) (opening : Option Opening) (len : ℕ) (piece : Piece) (known : Option KnownJob) (receipt : Receipt)
    (result : Result U ExecRefusal) : Type 0 where
  pub now : Piece
  pub last : ℕ
  pub claimed : HasClaimed piece now (Some last) known
  pub worked : OnOk result (IsPieceWorked plan opening len now (Some last) receipt)
  pub refused : IfErr result (IsPieceRefused shelf store plan opening len now (Some last))

-- ---- a job

-- what failed last was counted: a read at the store, a call at the shelf
abbrev pub IsCountedAs : ObservedShelf → ObservedStore → Cause → Type 0
IsCountedAs shelf store Call = Rose shelf.before shelf.after
IsCountedAs shelf store Read = Rose store.before store.after

-- Work on a job was refused: it failed, that was counted, and is honest to tell of the job. Or there was no memory.
abbrev pub IsWorkRefused : Surroundings → ObservedShelf → ObservedStore → Plan → Job → Option ℕ → ExecRefusal → Type 0
IsWorkRefused known shelf store plan job attempted (Faulted at cause) = IsCountedAs shelf store cause × IsHonest known plan job attempted at cause
IsWorkRefused known shelf store plan job attempted NoMemory = Unit {0}

-- the same of the job as the pass knows it, of a range at a position that lies in it
abbrev pub IsJobRefused : Setting → ObservedShelf → ObservedStore → Option KnownJob → ExecRefusal → Type 0
IsJobRefused setting shelf store known (Faulted at cause) = IsCountedAs shelf store cause × CanFailAs setting known at cause × FailsInside known
IsJobRefused setting shelf store known NoMemory = Unit {0}
