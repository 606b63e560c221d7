-- Every step of key cells keeps what holds of them where a run made them: how each came about.
use Rattle.std.proofs.Common.{◌≡◌, ℕ, ◌+◌, ◌-◌, ◌≤◌, Bool, true, false, List, [], length, Option, Some, None, refl, sym, subst}
use Rattle.std.specs.Prelude.{slice_get, unwrap_or}
use Rattle.std.specs.List.{All}
use Rattle.std.specs.Option.{option_map}
use Rattle.std.proofs.lemmas.List.Elements.{All-nil, All-push, All-weaker, All-map}
use Rattle.beam_values.specs.Marks.{marks_at}
use Rattle.beam_values.specs.Nodes.{is_stateful, is_stateful_kind}
use Rattle.beam_values.specs.States.{fresh_state}
use Rattle.beam_values.specs.declared.arrival.Arrival.{Arrival}
use Rattle.beam_values.specs.declared.log.KeyLog.{KeyLog}
use Rattle.beam_values.specs.declared.log.LogEntry.{LogEntry}
use Rattle.beam_values.specs.declared.marks.CommitMarks.{CommitMarks}
use Rattle.beam_values.specs.declared.marks.StageMarks.{StageMarks}
use Rattle.beam_values.specs.declared.plan.Node.{Node}
use Rattle.beam_values.specs.declared.plan.NodeKind.{NodeKind}
use Rattle.beam_values.specs.declared.plan.NodeKind.TheVariants.{Stateful}
use Rattle.beam_values.specs.declared.plan.Plan.{Plan}
use Rattle.beam_model.specs.Logs.{Leads, LeadsAt, LeadsIn, IsLegalLog, AreLogsLegal}
use Rattle.beam_model.specs.Panes.{mark_after, IsCommit}
use Rattle.stateful_core.specs.Cells.{KeyCell, belongs, logs_of}
use Rattle.stateful_core.specs.declared.waiting.Waiting.{Waiting}
use Rattle.stateful_core.specs.Facts.{IsOfCell, IsCellSane, IsCellKept, AreKeysKept, AreDoneOf, IsCellThrough, Later}
use Rattle.stateful_core.specs.Placing.{Done, fresh_cell, waits, with_waiting, finish, place}
use Rattle.stateful_core.specs.Taking.{is_ready, with_job, tried, change}
use Rattle.stateful_core.proofs.Cellwise.{kept_later, done_kept}
use Rattle.stateful_core.proofs.EachCell.{cell_at, all_each, done_each, changed_each}
use Rattle.stateful_core.proofs.OnceOnly.{belongs_keyed}
use Rattle.stateful_core.proofs.SaneSteps.{place_sane, take_sane, give_back_sane}

-- ---- an arrival

waiting_kept : (plan : Plan) (commits : List CommitMarks) (cell : KeyCell) (w : Waiting) → IsCellKept plan commits cell → IsOfCell cell w → IsCellKept plan commits (with_waiting cell w)
waiting_kept plan commits cell w h of = record {
  leads = h.leads;
  of_commits = h.of_commits;
  elements = All-push (IsOfCell cell) cell.waiting w h.elements of;
}

fresh_at : (commits : List CommitMarks) (kind : NodeKind) (log : KeyLog) → log.entries ≡ [] → is_stateful_kind kind ≡ true → LeadsAt commits kind log fresh_state
fresh_at commits (Stateful work args logged) log e h = subst (λ (entries : List LogEntry). Leads commits work args log fresh_state 1 entries fresh_state) (sym e) refl
fresh_at commits _ log e h = absurd (cc)

abbrev is_stateful_in : Option Node → Bool
is_stateful_in found = unwrap_or (option_map (λ n. is_stateful_kind n.kind) found) false

fresh_in : (commits : List CommitMarks) (found : Option Node) (log : KeyLog) → log.entries ≡ [] → is_stateful_in found ≡ true → LeadsIn commits found log fresh_state
fresh_in commits (Some node) log e h = fresh_at commits node.kind log e h
fresh_in commits None log e h = absurd (cc)

fresh_kept : (plan : Plan) (commits : List CommitMarks) (arrival : Arrival) → is_stateful plan arrival.node ≡ true → IsCellKept plan commits (fresh_cell arrival)
fresh_kept plan commits arrival h = record {
  leads = fresh_in commits (slice_get plan.nodes arrival.node) (fresh_cell arrival).log refl h;
  of_commits = All-nil (λ (entry : LogEntry). IsCommit (length commits - 1) entry.commit);
  elements = All-nil (IsOfCell (fresh_cell arrival));
}

of_cell : (before : List StageMarks) (arrival : Arrival) (cell : KeyCell) → belongs arrival cell ≡ true → IsOfCell cell (waits before arrival)
of_cell before arrival cell h = let parts = belongs_keyed arrival cell h in (parts.0, parts.1)

-- ---- a commit

finish_kept : (plan : Plan) (commits others : List CommitMarks) (before : List StageMarks) (done : Option Done) (cells : List KeyCell)
    → Later commits others → AreDoneOf plan (length commits) cells done → AreKeysKept plan commits cells → All (IsCellKept plan others) (finish before done cells)
finish_kept plan commits others before None cells later made h = All-weaker (IsCellKept plan commits) (IsCellKept plan others) (kept_later plan commits others later) cells h.each
finish_kept plan commits others before (Some done) cells later made h =
    let own = cell_at (IsCellKept plan commits) cells done.cell made.cell made.is_at h.each in
    let live = (cell_at (IsCellSane plan commits) cells done.cell made.cell made.is_at h.sane.each).works in
    done_each (IsCellKept plan others) before done cells made.cell made.is_at (done_kept plan commits others later before made.cell done made.count own live made.works made.folds)
    (All-weaker (IsCellKept plan commits) (IsCellKept plan others) (kept_later plan commits others later) cells h.each)

-- the whole of it
pub place_kept : (plan : Plan) (commits others : List CommitMarks) (before : List StageMarks) (done : Option Done) (arrivals : List Arrival) (cells : List KeyCell)
    → Later commits others → AreDoneOf plan (length commits) cells done → AreKeysKept plan commits cells → AreKeysKept plan others (place plan before done arrivals cells)
place_kept plan commits others before done arrivals cells later made h = record {
  sane = place_sane plan commits others before (length commits) done arrivals cells later made h.sane;
  each = all_each (IsCellKept plan others) plan before (fresh_kept plan others)
      (λ arrival cell e k. waiting_kept plan others cell (waits before arrival) k (of_cell before arrival cell e)) arrivals (finish before done cells)
      (finish_kept plan commits others before done cells later made h);
}

-- ---- a job is taken or given back

same_kept : (plan : Plan) (commits : List CommitMarks) (cell : KeyCell) (live : Option ℕ) (attempts : ℕ) → IsCellKept plan commits cell
    → IsCellKept plan commits (record cell { live = live; attempts = attempts })
same_kept plan commits cell live attempts h = record { leads = h.leads; of_commits = h.of_commits; elements = h.elements }

pub give_back_kept : (plan : Plan) (commits : List CommitMarks) (at : ℕ) (cells : List KeyCell) (cell : KeyCell) → slice_get cells at ≡ Some cell
    → AreKeysKept plan commits cells → AreKeysKept plan commits (change tried at cells)
give_back_kept plan commits at cells cell e h = record {
  sane = give_back_sane plan commits at cells cell e h.sane;
  each = changed_each (IsCellKept plan commits) tried at cells cell e
      (same_kept plan commits cell None (cell.attempts + 1) (cell_at (IsCellKept plan commits) cells at cell e h.each)) h.each;
}

pub take_kept : (plan : Plan) (commits : List CommitMarks) (marks : List StageMarks) (bundle at : ℕ) (cells : List KeyCell) (cell : KeyCell) → 1 ≤ bundle
    → ((node : ℕ) → (marks_at marks node).mark_in ≡ mark_after commits node (length commits - 1))
    → slice_get cells at ≡ Some cell → is_ready marks cell ≡ true
    → AreKeysKept plan commits cells → AreKeysKept plan commits (change (with_job bundle) at cells)
take_kept plan commits marks bundle at cells cell one last e ready h = record {
  sane = take_sane plan commits marks bundle at cells cell one last e ready h.sane;
  each = changed_each (IsCellKept plan commits) (with_job bundle) at cells cell e
      (same_kept plan commits cell (with_job bundle cell).live cell.attempts (cell_at (IsCellKept plan commits) cells at cell e h.each)) h.each;
}

-- ---- at the end

pub ended_legal : (plan : Plan) (commits : List CommitMarks) (cells : List KeyCell) → All (λ commit. length commit.marks ≡ length plan.nodes) commits
    → AreKeysKept plan commits cells → All IsCellThrough cells → AreLogsLegal plan commits (logs_of cells)
ended_legal plan commits cells sized h through = record {
  sized = sized;
  of_commits = All-map (λ (log : KeyLog). All (λ entry. IsCommit (length commits - 1) entry.commit) log.entries) (λ (c : KeyCell). c.log) cells
      (All-weaker (IsCellKept plan commits) (λ (c : KeyCell). All (λ entry. IsCommit (length commits - 1) entry.commit) c.log.entries) (λ c k. k.of_commits) cells h.each);
  each = All-map (IsLegalLog plan commits) (λ (c : KeyCell). c.log) cells
      (All-weaker (λ (c : KeyCell). IsCellKept plan commits c × IsCellThrough c) (λ (c : KeyCell). IsLegalLog plan commits c.log) (λ c k. (c.kept, k.0.leads, k.1.1)) cells
      (λ n d less. (h.each n d less, through n d less)));
  once = h.sane.once;
}
