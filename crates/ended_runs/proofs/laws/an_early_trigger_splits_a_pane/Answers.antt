use Rattle.ended_runs.proofs.EarlyPane.{file, no_estimator_is_sound}
use Rattle.ended_runs.proofs.EarlyPaneRun.{final_book, final_outcome, the_run, nothing_is_dropped, its_writing_is_not_plain}
use Rattle.ended_runs.proofs.Pipeline.{told}
use Rattle.ended_runs.proofs.laws.an_early_trigger_splits_a_pane.Goals as goal

pub returns : goal.returns
returns c = (told file, final_book, final_outcome, 4, the_run, no_estimator_is_sound, nothing_is_dropped, its_writing_is_not_plain)
