use Rattle.schedule_replay.proofs.Runs.{lines_run, replay_runs}
use Rattle.schedule_replay.proofs.laws.worked_lines_make_a_run.Goals as goal

pub returns : goal.returns
returns c = record { lines = lines_run; replay = replay_runs }
