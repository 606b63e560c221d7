use Rattle.std.proofs.Common.{rules}
use Rattle.piece_checks.proofs.Ascending.{ascend_answer}
use Rattle.piece_checks.proofs.places.ascend.Goals as goal

pub returns : goal.returns
returns c = ascend_answer c.args.places.now c.is_sorted_by.result c.is_sorted_by.ensures.cases (λ a r q k. search rules)
