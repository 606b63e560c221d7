use Rattle.run_engine.proofs.SameItems.{reached_of_items, run_of_items}
use Rattle.run_engine.proofs.laws.runs_are_of_their_items.Goals as goal

pub returns : goal.returns
returns c = record {
  reached = λ known other told files b tells others same weaker reached. reached_of_items known other told files tells others weaker b same reached;
  onward = λ known other told files b next steps tells others same weaker run. run_of_items known other told files tells others weaker steps b next same run;
}
