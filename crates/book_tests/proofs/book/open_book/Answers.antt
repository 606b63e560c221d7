use Rattle.std.proofs.Common.{◌≡◌, sym, ap, subst, ◌∙◌}
use Rattle.beam_values.specs.declared.plan.Plan.{Plan}
use Rattle.beam_model.specs.Chains.{chain}
use Rattle.book_core.specs.Book.{SeenBook}
use Rattle.book_tests.proofs.book.open_book.Goals as goal

pub returns-clause-onward : goal.returns-clause-onward
returns-clause-onward c = λ e. ap (λ (p : Plan). chain p 2 e) (ap (λ (b : SeenBook). b.plan) c.in_ok-opening.ensures.is ∙ c.in-Ok.ensures.same) ∙ c.in_ok-minutes.ensures.onward e
