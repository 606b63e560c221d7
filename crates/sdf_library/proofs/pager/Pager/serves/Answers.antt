use Rattle.std.proofs.Common.{arith}
use Rattle.std.proofs.lemmas.Bool.Decides.{nat_tests}
use Rattle.sdf_library.proofs.Pages.{served_from}
use Rattle.sdf_library.proofs.pager.Pager.serves.Goals as goal

pub returns-else-self-saturating_sub-clause-serves : goal.returns-else-self-saturating_sub-clause-serves
returns-else-self-saturating_sub-clause-serves c = (
  λ is. absurd (grind (arith, nat_tests, is, c.if-self-saturating_sub.false)),
  λ serves. grind (arith, nat_tests, served_from c.args.self.now c.args.p serves, c.saturating_sub.ensures),
)
