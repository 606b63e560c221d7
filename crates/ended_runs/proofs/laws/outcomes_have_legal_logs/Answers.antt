use Rattle.book_core.proofs.AllKept.{reached_logged}
use Rattle.book_core.proofs.SaneAlways.{reached_sane}
use Rattle.ended_runs.proofs.LegalLogs.{outcome_logs_legal}
use Rattle.ended_runs.proofs.laws.outcomes_have_legal_logs.Goals as goal

pub returns : goal.returns
returns c told b o reached through of = let sane = reached_sane told b reached in outcome_logs_legal b o sane.marks (reached_logged told b reached) through of
