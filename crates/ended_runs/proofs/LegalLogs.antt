-- The logs of an outcome are legal: they are those of the book's key cells in another order, and legal logs don't look at the order.
use Rattle.std.proofs.Common.{ℕ, ◌-◌, ◌≤◌, List, length, sym, subst}
use Rattle.std.specs.List.{All}
use Rattle.std.specs.List.Sorted.{IsPermutation}
use Rattle.std.proofs.lemmas.List.Sorted.{All-permutation}
use Rattle.beam_values.specs.declared.log.KeyLog.{KeyLog}
use Rattle.beam_values.specs.declared.marks.CommitMarks.{CommitMarks}
use Rattle.beam_values.specs.declared.outcome.Outcome.{Outcome}
use Rattle.beam_values.specs.declared.plan.Plan.{Plan}
use Rattle.beam_values.proofs.Bags.{bag_count, bag_from_permutation}
use Rattle.beam_model.specs.Logs.{AreLogsLegal, IsLegalLog, is_log_of}
use Rattle.beam_model.specs.Panes.{IsCommit}
use Rattle.stateful_core.specs.Cells.{logs_of}
use Rattle.stateful_core.specs.Facts.{AreKeysKept}
use Rattle.stateful_core.proofs.Keeping.{ended_legal}
use Rattle.book_core.specs.Book.{SeenBook}
use Rattle.book_core.specs.Calls.{IsOutcomeOf}
use Rattle.book_core.specs.Facts.{AreMarksKept}
use Rattle.book_core.specs.Runs.{IsThrough}

logs_alike : (plan : Plan) (commits : List CommitMarks) (logs more : List KeyLog) → IsPermutation logs more → AreLogsLegal plan commits logs → AreLogsLegal plan commits more
logs_alike plan commits logs more moved h = record {
  sized = h.sized;
  of_commits = All-permutation (λ log. All (λ entry. IsCommit (length commits - 1) entry.commit) log.entries) logs more moved h.of_commits;
  each = All-permutation (IsLegalLog plan commits) logs more moved h.each;
  once = λ node key span.
      subst (λ (n : ℕ). n ≤ 1) (bag_count (is_log_of node key span) logs more (bag_from_permutation logs more moved)) (h.once node key span);
}

pub outcome_logs_legal : (b : SeenBook) (o : Outcome) → AreMarksKept b → AreKeysKept b.plan b.commits b.keys → IsThrough b → IsOutcomeOf b o → AreLogsLegal o.plan o.commits o.logs
outcome_logs_legal b o marks kept through of =
    subst (λ (p : Plan). AreLogsLegal p o.commits o.logs) (sym of.plan)
    (subst (λ (l : List CommitMarks). AreLogsLegal b.plan l o.logs) (sym of.commits)
    (logs_alike b.plan b.commits (logs_of b.keys) o.logs of.logs (ended_legal b.plan b.commits b.keys marks.sized kept through.keyed)))
