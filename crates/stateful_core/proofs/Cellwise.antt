-- One cell at a time: how it came about, one commit and one job later.
use Rattle.std.proofs.Common.{◌≡◌, ℕ, zero, suc, ◌-◌, ◌<◌, ◌≤◌, ℤ, ◌≤ℤ◌, List, [], ◌++◌, length, take, Option, Some, None, sym, subst, arith}
use Rattle.std.specs.Prelude.{slice_get, unwrap_or}
use Rattle.std.specs.List.{All}
use Rattle.std.proofs.lemmas.List.Elements.{All-append, All-drop, All-take, All-weaker}
use Rattle.beam_values.specs.States.{KeptState, fresh_state}
use Rattle.beam_values.specs.declared.log.KeyLog.{KeyLog}
use Rattle.beam_values.specs.declared.log.LogEntry.{LogEntry}
use Rattle.beam_values.specs.declared.log.LogInput.{LogInput}
use Rattle.beam_values.specs.declared.log.Timer.{Timer}
use Rattle.beam_values.specs.declared.marks.CommitMarks.{CommitMarks}
use Rattle.beam_values.specs.declared.marks.StageMarks.{StageMarks}
use Rattle.beam_values.specs.declared.plan.Args.{Args}
use Rattle.beam_values.specs.declared.plan.Node.{Node}
use Rattle.beam_values.specs.declared.plan.NodeKind.{NodeKind}
use Rattle.beam_values.specs.declared.plan.NodeKind.TheVariants.{Stateful}
use Rattle.beam_values.specs.declared.plan.Plan.{Plan}
use Rattle.beam_values.specs.declared.plan.StateKind.{StateKind}
use Rattle.beam_model.specs.Logs.{Leads, LeadsAt, LeadsIn}
use Rattle.beam_model.specs.Panes.{mark_after, IsCommit}
use Rattle.stateful_core.specs.Cells.{KeyCell}
use Rattle.stateful_core.specs.Facts.{Folded, folded, folded_at, folded_in, IsOfCell, IsLiveAs, IsCellKept, Later}
use Rattle.stateful_core.specs.Placing.{Done, with_done}
use Rattle.stateful_core.specs.Taking.{inputs_of, timer_inputs}
use Rattle.stateful_core.proofs.Leading.{leads_under, leads_append, elements_lead, timer_leads, folded_commits}
use Rattle.stateful_core.proofs.FirstTimer.{first_is}

-- ---- the node of a cell

module _ (commits others : List CommitMarks) (n : ℕ) (log : KeyLog) (same : (d : ℕ) → d < n → mark_after others log.node d ≡ mark_after commits log.node d)
    (within : All (λ entry. IsCommit n entry.commit) log.entries) where
  at_under : (kind : NodeKind) (end : KeptState) → LeadsAt commits kind log end → LeadsAt others kind log end
  at_under (Stateful work args logged) end h = leads_under commits others n work args log fresh_state 1 log.entries end same within h
  at_under _ end h = absurd h

  pub in_under : (found : Option Node) (end : KeptState) → LeadsIn commits found log end → LeadsIn others found log end
  in_under (Some node) end h = at_under node.kind end h
  in_under None end h = absurd h

-- ---- more calls

module _ (commits : List CommitMarks) (log : KeyLog) (c : ℕ) (one : 1 ≤ c) (upto : All (λ entry. entry.commit ≤ c) log.entries) (inputs : List LogInput) (kept : KeptState) (all : Folded)
    (legal : (work : StateKind) (args : Args) → folded work args log.key log.span c kept inputs ≡ Some all → Leads commits work args log kept c all.entries all.kept) where
  abbrev longer_log : KeyLog
  longer_log = record log { entries = log.entries ++ all.entries }

  at_more : (kind : NodeKind) → folded_at kind log.key log.span c kept inputs ≡ Some all → LeadsAt commits kind log kept → LeadsAt commits kind longer_log all.kept
  at_more (Stateful work args logged) e h = leads_append commits work args log fresh_state 1 c log.entries all.entries kept all.kept one upto h (legal work args e)
  at_more _ e h = absurd h

  pub in_more : (found : Option Node) → folded_in found log.key log.span c kept inputs ≡ Some all → LeadsIn commits found log kept → LeadsIn commits found longer_log all.kept
  in_more (Some node) e h = at_more node.kind e h
  in_more None e h = absurd h

at_commits : (kind : NodeKind) (log : KeyLog) (c : ℕ) (kept : KeptState) (inputs : List LogInput) (all : Folded)
    → folded_at kind log.key log.span c kept inputs ≡ Some all → All (λ entry. entry.commit ≡ c) all.entries
at_commits (Stateful work args logged) log c kept inputs all e = folded_commits [] work args log c inputs kept all e
at_commits _ log c kept inputs all e = absurd (cc)

pub in_commits : (found : Option Node) (log : KeyLog) (c : ℕ) (kept : KeptState) (inputs : List LogInput) (all : Folded)
    → folded_in found log.key log.span c kept inputs ≡ Some all → All (λ entry. entry.commit ≡ c) all.entries
in_commits (Some node) log c kept inputs all e = at_commits node.kind log c kept inputs all e
in_commits None log c kept inputs all e = absurd (cc)

-- ---- one commit later

module _ (plan : Plan) (commits others : List CommitMarks) (later : Later commits others) where
  commits_later : (c : ℕ) → IsCommit (length commits - 1) c → IsCommit (length others - 1) c
  commits_later c h = (h.0, omega (arith, h.1, later.sized, later.some))

  leads_later : (cell : KeyCell) → IsCellKept plan commits cell → LeadsIn others (slice_get plan.nodes cell.log.node) cell.log cell.kept
  leads_later cell h =
      in_under commits others (length commits - 1) cell.log (λ d less. later.same cell.log.node d (omega (arith, less))) h.of_commits (slice_get plan.nodes cell.log.node) cell.kept h.leads

  entries_later : (cell : KeyCell) → IsCellKept plan commits cell → All (λ entry. IsCommit (length others - 1) entry.commit) cell.log.entries
  entries_later cell h =
      All-weaker (λ (entry : LogEntry). IsCommit (length commits - 1) entry.commit) (λ (entry : LogEntry). IsCommit (length others - 1) entry.commit)
      (λ entry k. commits_later entry.commit k) cell.log.entries h.of_commits

  pub kept_later : (cell : KeyCell) → IsCellKept plan commits cell → IsCellKept plan others cell
  kept_later cell h = record {
    leads = leads_later cell h;
    of_commits = entries_later cell h;
    elements = h.elements;
  }

  -- a job is done in the new commit
  job_legal : (cell : KeyCell) (count : ℕ) (all : Folded) → IsCellKept plan commits cell → IsLiveAs commits cell (Some count) → (work : StateKind) (args : Args)
      → folded work args cell.log.key cell.log.span (length commits) cell.kept (inputs_of cell count) ≡ Some all
      → Leads others work args cell.log cell.kept (length commits) all.entries all.kept
  job_legal cell zero all h works work args e =
      timer_leads others work args cell.log (length commits) works.0 cell.kept all works.1
      (subst (λ (m : ℤ). works.0.time ≤ℤ m) (sym (later.same cell.log.node (length commits - 1) (omega (arith, later.some)))) works.2)
      (subst (λ (o : Option Timer). folded work args cell.log.key cell.log.span (length commits) cell.kept (timer_inputs o) ≡ Some all) (first_is cell.kept.timers works.0 works.1) e)
  job_legal cell (suc n) all h works work args e =
      elements_lead others work args cell.log (length commits) (take (suc n) cell.waiting) cell.kept all (All-take (IsOfCell cell) (suc n) cell.waiting h.elements) e

  pub done_kept : (before : List StageMarks) (cell : KeyCell) (done : Done) (count : ℕ) → IsCellKept plan commits cell → IsLiveAs commits cell cell.live → cell.live ≡ Some count
      → folded_in (slice_get plan.nodes cell.log.node) cell.log.key cell.log.span (length commits) cell.kept (inputs_of cell count) ≡ Some (record { kept = done.kept; entries = done.entries })
      → IsCellKept plan others (with_done before done cell)
  done_kept before cell done count h worked live e =
      let all : Folded = record { kept = done.kept; entries = done.entries } in
      let found = slice_get plan.nodes cell.log.node in
      let works : IsLiveAs commits cell (Some count) = subst (IsLiveAs commits cell) live worked in
      record {
        leads = in_more others cell.log (length commits) later.some
            (All-weaker (λ (entry : LogEntry). IsCommit (length commits - 1) entry.commit) (λ (entry : LogEntry). entry.commit ≤ length commits)
            (λ entry k. omega (arith, k.1)) cell.log.entries h.of_commits)
            (inputs_of cell count) cell.kept all (job_legal cell count all h works) found e (leads_later cell h);
        of_commits = All-append (λ (entry : LogEntry). IsCommit (length others - 1) entry.commit) cell.log.entries done.entries (entries_later cell h)
            (All-weaker (λ (entry : LogEntry). entry.commit ≡ length commits) (λ (entry : LogEntry). IsCommit (length others - 1) entry.commit)
            (λ entry k. (omega (arith, k, later.some), omega (arith, k, later.sized))) done.entries
            (in_commits found cell.log (length commits) cell.kept (inputs_of cell count) all e));
        elements = All-drop (IsOfCell cell) (unwrap_or cell.live 0) cell.waiting h.elements;
      }
