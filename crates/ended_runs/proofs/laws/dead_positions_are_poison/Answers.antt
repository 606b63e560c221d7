use Rattle.ended_runs.proofs.DeadPoison.{book_poison, outcome_poison}
use Rattle.ended_runs.proofs.laws.dead_positions_are_poison.Goals as goal

pub returns : goal.returns
returns c = record {
  book = λ known told b tells strict reached. book_poison known told tells strict b reached;
  outcome = λ known told b o tells strict reached of. outcome_poison known told tells strict b o reached of;
}
