use Rattle.std.proofs.Common.{rules}
use Rattle.stored_books.proofs.WaitingRises.{ascend_answer}
use Rattle.stored_books.proofs.waiting.ascend.Goals as goal

pub returns : goal.returns
returns c = ascend_answer c.args.waiting.now c.is_sorted_by.result c.is_sorted_by.ensures.cases (λ a r q k. search rules)
