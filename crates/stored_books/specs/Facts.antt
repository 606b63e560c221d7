-- What is tested of data: the facts of a sane book, said of the data that stands for it.
use Rattle.std.specs.Prelude.{◌≡◌, ℕ, ◌<◌, ◌≤◌, true, List, [], length, sum_by}
use Rattle.std.specs.List.{All}
use Rattle.std.specs.List.Sorted.{IsSorted}
use Rattle.beam_ports.specs.Counts.{greatest_count}
use Rattle.beam_values.specs.Cells.{pane_cmp}
use Rattle.beam_values.specs.Marks.{AreMarks}
use Rattle.beam_values.specs.Nodes.{is_group, is_write}
use Rattle.beam_values.specs.declared.marks.CommitMarks.{CommitMarks}
use Rattle.beam_values.specs.declared.plan.Plan.{Plan}
use Rattle.beam_model.specs.Positions.{items}
use Rattle.group_cells.specs.Sane.{ArePanesCounted, AreSaneCells}
use Rattle.piece_checks.specs.Attempts.{AreFaultsEnough, IsPieceTried, IsTried}
use Rattle.piece_checks.specs.MarksOfCommits.{NeverFall}
use Rattle.piece_checks.specs.Orders.{dead_cmp, done_cmp}
use Rattle.piece_checks.specs.Places.{AreHeldOnce}
use Rattle.piece_checks.specs.Tiles.{AreTiled}
use Rattle.piece_checks.specs.declared.attempts.Faults.{Faults}
use Rattle.split_core.specs.Order.{IsAscending}
use Rattle.split_core.specs.Partition.{IsListed}
use Rattle.stateful_core.specs.Data.{AreKeysFormed, cells_of_data}
use Rattle.stateful_core.specs.Facts.{AreKeysSane}
use Rattle.stateful_core.specs.declared.data.KeyData.{KeyData}
use Rattle.book_core.specs.Runs.{AreLengthsOf, AreOptions}
use Rattle.book_core.specs.Sane.{AscendByPane}
use Rattle.book_core.specs.declared.data.BookData.{BookData}
use Rattle.book_core.specs.declared.live.Batch.{Batch}
use Rattle.stored_books.specs.Held.{held_places, last_marks_of, least_hold_of}

-- what doesn't change while a run goes on
pub record AreSettings (plan : Plan) (d : BookData) : Type 0 where
  pub of_plan : d.plan ≡ plan
  pub options : AreOptions d.options
  pub lengths : AreLengthsOf (items [] plan) d.files

-- places are numbered with 32 bits
pub record AreListsShort (d : BookData) : Type 0 where
  pub commits : length d.commits < 4294967295
  pub panes : length d.panes < 4294967295
  pub dropped : length d.dropped < 4294967295
  pub cells : length d.cells < 4294967295
  pub keys : length d.keys < 4294967295
  pub waiting : sum_by (λ key. length key.waiting) d.keys < 4294967295
  pub pending : length d.pending < 4294967295

pub record AreListsInOrder (d : BookData) : Type 0 where
  pub pending : IsAscending d.pending
  pub done : IsSorted done_cmp d.done
  pub dead : IsSorted dead_cmp d.dead
  pub panes : IsSorted pane_cmp d.panes

pub record AreAtOwnNodes (plan : Plan) (d : BookData) : Type 0 where
  pub panes : All (λ pane. is_group plan pane.node ≡ true) d.panes
  pub commits : All (λ pane. pane.commit < length d.commits) d.panes
  pub dropped : All (λ lost. is_group plan lost.node ≡ true) d.dropped
  pub written : All (λ arrival. is_write plan arrival.node ≡ true) d.written

-- ---- source items

pub record AreRangesSane (d : BookData) : Type 0 where
  pub pending : All (λ piece. IsListed d.files piece.node piece.item) d.pending
  pub done : All (λ one. IsListed d.files one.node one.item) d.done
  pub tiled : AreTiled d.files d.pending d.done d.dead

-- ---- attempts

abbrev pub faults_of : BookData → Faults
faults_of d = record { calls = d.calls; reads = d.reads }

pub record ArePiecesTried (d : BookData) : Type 0 where
  pub fewer : length d.dead < length d.commits
  pub each : All (IsPieceTried d.options.attempts) d.pending
  pub enough : AreFaultsEnough (faults_of d) d.options.attempts (length d.dead) d.pending
  -- as numbers of 64 bits are
  pub calls : d.calls ≤ greatest_count
  pub reads : d.reads ≤ greatest_count

-- a batch has a pane
pub record IsBatchTried (faults : Faults) (limit : ℕ) (batch : Batch) : Type 0 where
  pub some : 1 ≤ length batch.panes
  pub tried : IsTried faults limit batch.attempts

abbrev pub AreBatchesTried : Faults → ℕ → List Batch → Type 0
AreBatchesTried faults limit batches = All (IsBatchTried faults limit) batches

abbrev pub AreKeysTried : Faults → ℕ → List KeyData → Type 0
AreKeysTried faults limit keys = All (λ key. IsTried faults limit key.attempts) keys

pub record AreJobsTried (d : BookData) : Type 0 where
  pub pieces : ArePiecesTried d
  pub batches : AreBatchesTried (faults_of d) d.options.attempts d.returned
  pub keys : AreKeysTried (faults_of d) d.options.attempts d.keys

-- ---- panes that wait

pub record AreInOrder (d : BookData) : Type 0 where
  pub there : All (λ waiting. waiting.pane < length d.panes) d.waiting
  pub order : AscendByPane d.waiting
  pub batches : All (λ batch. AscendByPane batch.panes) d.returned

pub record AreWaitingSane (d : BookData) : Type 0 where
  pub order : AreInOrder d
  pub once : AreHeldOnce d.panes (held_places d)

-- ---- marks and cells

pub record AreMarksSane (plan : Plan) (d : BookData) : Type 0 where
  pub sized : All (λ commit. length commit.marks ≡ length plan.nodes) d.commits
  pub never_fall : NeverFall d.commits
  pub last : AreMarks plan (least_hold_of plan d) (last_marks_of d.commits)

pub record AreCellsTested (plan : Plan) (d : BookData) : Type 0 where
  pub cells : AreSaneCells plan (last_marks_of d.commits) d.cells
  pub counted : ArePanesCounted (length d.panes) d.cells

pub record AreKeysTested (plan : Plan) (keys : List KeyData) : Type 0 where
  pub formed : AreKeysFormed keys
  pub sane : (commits : List CommitMarks) → AreKeysSane plan commits (cells_of_data keys)

-- ---- together

-- each list by itself
pub record AreListsTested (plan : Plan) (d : BookData) : Type 0 where
  pub short : AreListsShort d
  pub nodes : AreAtOwnNodes plan d
  pub order : AreListsInOrder d
  pub jobs : AreJobsTried d

-- the lists among each other
pub record IsStateTested (plan : Plan) (d : BookData) : Type 0 where
  pub ranges : AreRangesSane d
  pub waiting : AreWaitingSane d
  pub marks : AreMarksSane plan d
  pub cells : AreCellsTested plan d
  pub keys : AreKeysTested plan d.keys

pub record IsTested (plan : Plan) (d : BookData) : Type 0 where
  pub settings : AreSettings plan d
  pub lists : AreListsTested plan d
  pub state : IsStateTested plan d
