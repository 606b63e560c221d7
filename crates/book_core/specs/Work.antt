-- What work on a job brings, whether it is poison, and when it may be said to have failed.
use Rattle.std.specs.Prelude.{◌≡◌, ◌⊎◌, ℕ, ◌+◌, ◌<◌, ◌≤◌, min, ℤ, ◌≤ℤ◌, ◌+ℤ◌, ◌-◌, Bool, true, false, not, ◌||◌, List, [], map, fold, unwrap_or, Option, Some, None}
use Rattle.std.specs.List.{All, list_any}
use Rattle.std.specs.Option.{option_map}
use Rattle.beam_values.specs.Checked.{reads_file}
use Rattle.beam_values.specs.Lines.{offsets}
use Rattle.beam_values.specs.Nodes.{has_kind}
use Rattle.beam_values.specs.Strategies.{greatest_length}
use Rattle.beam_values.specs.Times.{greatest_time}
use Rattle.beam_values.specs.Tracking.{first_unattempted}
use Rattle.beam_values.specs.declared.fault.Cause.{Cause}
use Rattle.beam_values.specs.declared.fault.Cause.TheVariants.{Call, Read}
use Rattle.beam_values.specs.declared.fault.FaultNote.{FaultNote}
use Rattle.beam_values.specs.declared.file_text.FileText.{FileText}
use Rattle.beam_values.specs.declared.piece.Piece.{Piece}
use Rattle.beam_values.specs.declared.plan.Estimator.{Estimator}
use Rattle.beam_values.specs.declared.plan.NodeKind.{NodeKind}
use Rattle.beam_values.specs.declared.plan.NodeKind.TheVariants.{Source}
use Rattle.beam_values.specs.declared.plan.Plan.{Plan}
use Rattle.beam_model.specs.Chains.{Output, Arrives}
use Rattle.beam_model.specs.Coverings.{item_at, spread_of}
use Rattle.beam_model.specs.Estimators.{emission_at, seen_with}
use Rattle.beam_model.specs.Flow.{batch_outputs}
use Rattle.beam_model.specs.Holds.{estimator_of}
use Rattle.beam_model.specs.Positions.{SourceItem, items}
use Rattle.beam_model.specs.Reach.{reaches_barrier}
use Rattle.beam_model.specs.Spread.{spread_range, is_poison, first_poison}
use Rattle.bundle_commit.specs.declared.job.Job.{Job}
use Rattle.bundle_commit.specs.declared.job.Job.TheVariants as job
use Rattle.bundle_commit.specs.declared.job.Logged.{Logged}
use Rattle.bundle_commit.specs.declared.job.Receipt.{Receipt}
use Rattle.group_cells.specs.Commits.{HasGap}
use Rattle.stateful_core.specs.Facts.{Folded}
use Rattle.stateful_core.specs.KeyWork.{IsGivenOfKey, key_outputs}

-- The surroundings of a book: the files, where the stores tell them, and whether every shelf fails on poison alone.
pub record Surroundings : Type 0 where
  pub told : Option (List FileText)
  pub strict : Bool

-- ---- what a source item emits

abbrev pub reads_file_in : NodeKind → Bool
reads_file_in (Source work args files estimator) = reads_file work
reads_file_in _ = false

-- the node is a source of files
abbrev pub is_file_source : Plan → ℕ → Bool
is_file_source = has_kind reads_file_in

abbrev pub is_told : Option (List FileText) → Bool
is_told None = false
is_told (Some files) = true

-- the item is known whole: it is of told files, or is counted or made
abbrev pub is_known : Option (List FileText) → Plan → ℕ → Bool
is_known told plan node = is_told told || not (is_file_source plan node)

abbrev pub items_told : Option (List FileText) → Plan → List SourceItem
items_told told plan = items (unwrap_or told []) plan

-- ---- what was seen

-- what an estimator has seen after the positions of `[from, to)`, where it had seen `seen` before them
abbrev pub seen_over : Estimator → SourceItem → ℕ → ℕ → ℤ → ℤ
seen_over estimator item from to seen = fold (λ before p. seen_with estimator before (emission_at item p)) seen (offsets from (to - from))

-- ---- what a finished job brings

-- Of a range, all positions from its start up to the last attempted one that lies in it; where none was attempted, none. Of `[0, 27)` with 9 attempted it
-- is worked up to 10, with 27 attempted up to 27.
abbrev pub worked_to : Piece → Option ℕ → ℕ
worked_to piece attempted = min (first_unattempted piece.range.from attempted) piece.range.to

-- the receipt has the outputs of the item's positions from the piece's start up to there, and none of them is poison
pub record IsWorkOn (plan : Plan) (piece : Piece) (upto : ℕ) (item : SourceItem) (receipt : Receipt) : Type 0 where
  pub arrivals : map Arrives receipt.arrivals ≡ spread_range plan item piece.range.from upto
  pub seen : receipt.seen ≡ seen_over (estimator_of plan piece.node) item piece.range.from upto piece.seen

-- What is asked where the bytes aren't known: arrivals are at barriers that the source reaches, own windows at Groups of sessions are as long as the
-- gap, and what was seen doesn't fall. No window ends later than a window of the greatest time, and no time is above the greatest, also of what was seen.
pub record IsPlausible (plan : Plan) (piece : Piece) (receipt : Receipt) : Type 0 where
  pub at_barriers : All (λ arrival. reaches_barrier plan piece.node arrival.node ≡ true) receipt.arrivals
  pub gaps : All (HasGap plan) receipt.arrivals
  pub ends : All (λ arrival. arrival.element.span.end ≤ℤ (greatest_time +ℤ greatest_length)) receipt.arrivals
  pub times : All (λ arrival. arrival.element.time ≤ℤ greatest_time) receipt.arrivals
  pub seen : piece.seen ≤ℤ receipt.seen
  pub seen_time : receipt.seen ≤ℤ greatest_time

abbrev pub IsWorkOnItem : Plan → Piece → ℕ → Option SourceItem → Receipt → Type 0
IsWorkOnItem plan piece upto (Some item) receipt = IsWorkOn plan piece upto item receipt
IsWorkOnItem plan piece upto None receipt = (receipt.arrivals ≡ []) × (receipt.seen ≡ piece.seen)

abbrev pub IsWorkOnRange : Bool → Option (List FileText) → Plan → Piece → ℕ → Receipt → Type 0
IsWorkOnRange true told plan piece upto receipt = IsWorkOnItem plan piece upto (item_at (items_told told plan) piece.node piece.item) receipt
IsWorkOnRange false told plan piece upto receipt = IsPlausible plan piece receipt

-- what calls left and logged, as definitions see it
abbrev pub folded_by : Logged → Folded
folded_by logged = record { kept = record { cells = logged.state; timers = logged.timers }; entries = logged.entries }

-- nothing was worked of a spent piece: its receipt brings nothing, and has seen nothing more
abbrev pub IsOfSpent : Option FaultNote → Piece → Receipt → Type 0
IsOfSpent None piece receipt = Unit {0}
IsOfSpent (Some note) piece receipt = (receipt.arrivals ≡ []) × (receipt.seen ≡ piece.seen)

-- A receipt is what the plan gives for a job, of a range up to its last attempted position. Only of a key job it has a log: the fold of the node's function over
-- the inputs, with entries under commit 0, since no worker knows which commit it will be. Of a node that takes each value once, a job on "x", "x" and "y" of
-- key "a" from the fresh state brings the chains of ("a", "x") and ("a", "y"), leaves the bag "x", "y", and logs three entries, the second without outputs.
abbrev pub IsGiven : Option (List FileText) → Plan → Job → Option ℕ → Receipt → Type 0
IsGiven told plan (job.Span piece) attempted receipt =
    IsWorkOnRange (is_known told plan piece.node) told plan piece (worked_to piece attempted) receipt × (receipt.logged ≡ None)
    × IsOfSpent piece.spent piece receipt
IsGiven told plan (job.Batch node first panes attempts) attempted receipt =
    (map Arrives receipt.arrivals ≡ batch_outputs plan node panes) × (receipt.logged ≡ None)
IsGiven told plan (job.Key node cell key span inputs state timers attempts) attempted receipt =
    IsGivenOfKey plan node key span inputs (record { cells = state; timers = timers }) receipt.arrivals (option_map folded_by receipt.logged)

-- ---- poison and faults

-- all that a job would bring, of a range all its positions
abbrev pub job_outputs : Option (List FileText) → Plan → Job → List Output
job_outputs told plan (job.Span piece) = spread_of plan piece.range (item_at (items_told told plan) piece.node piece.item)
job_outputs told plan (job.Batch node first panes attempts) = batch_outputs plan node panes
job_outputs told plan (job.Key node cell key span inputs state timers attempts) = key_outputs plan node key span inputs (record { cells = state; timers = timers })

-- where the files are told, a job that is poison
abbrev pub IsPoisonJob : Option (List FileText) → Plan → Job → Type 0
IsPoisonJob told plan job = list_any is_poison (job_outputs told plan job) ≡ true

-- the last attempted position lies in the range, and it alone is poison at this node
abbrev pub IsPoisonAttempt : Option (List FileText) → Plan → Piece → Option ℕ → ℕ → Type 0
IsPoisonAttempt told plan piece None at = ⊥
IsPoisonAttempt told plan piece (Some p) at =
    (piece.range.from ≤ p) × (p < piece.range.to)
    × (first_poison (spread_of plan (record { from = p; to = p + 1 }) (item_at (items_told told plan) piece.node piece.item)) ≡ Some at)

-- A fail is honest: a read failed of a source of files; or a call did, where some shelf may fail at anything, or the files aren't known, or what was called
-- on is poison.
abbrev pub IsHonestCall : Surroundings → Plan → Job → Option ℕ → ℕ → Type 0
IsHonestCall known plan (job.Span piece) attempted at =
    (is_known known.told plan piece.node ≡ false) ⊎ IsPoisonAttempt known.told plan piece attempted at
IsHonestCall known plan (job.Batch node first panes attempts) attempted at = first_poison (batch_outputs plan node panes) ≡ Some at
IsHonestCall known plan (job.Key node cell key span inputs state timers attempts) attempted at =
    first_poison (key_outputs plan node key span inputs (record { cells = state; timers = timers })) ≡ Some at

abbrev pub IsHonestRead : Plan → Job → ℕ → Type 0
IsHonestRead plan (job.Span piece) at = (is_file_source plan piece.node ≡ true) × (at ≡ piece.node)
IsHonestRead plan _ at = ⊥

abbrev pub IsHonest : Surroundings → Plan → Job → Option ℕ → ℕ → Cause → Type 0
IsHonest known plan job attempted at Call = (known.strict ≡ false) ⊎ IsHonestCall known plan job attempted at
IsHonest known plan job attempted at Read = IsHonestRead plan job at
