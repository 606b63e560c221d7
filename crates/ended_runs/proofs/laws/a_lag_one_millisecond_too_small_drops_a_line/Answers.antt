use Rattle.std.specs.Prelude.{pos}
use Rattle.ended_runs.proofs.LateLine.{file, triggers_are_default}
use Rattle.ended_runs.proofs.LateLineRun.{final_book, final_outcome, the_run, a_line_is_dropped, its_writing_is_not_plain}
use Rattle.ended_runs.proofs.Pipeline.{told}
use Rattle.ended_runs.proofs.laws.a_lag_one_millisecond_too_small_drops_a_line.Goals as goal

pub returns : goal.returns
returns c = (told file, final_book, final_outcome, 4, the_run, triggers_are_default (pos 5000), a_line_is_dropped, its_writing_is_not_plain)
