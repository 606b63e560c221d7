use Rattle.std.proofs.Common.{ℕ, subst}
use Rattle.std.specs.Prelude.{Option}
use Rattle.book_core.specs.Calls.{Makes}
use Rattle.book_core.specs.Steps.{Split, SplitAt}
use Rattle.worker_table.proofs.Stepping.{always_cut}
use Rattle.worker_table.proofs.acts.HelpingOtherAct.act.Goals as goal

pub unreachable-requires : goal.unreachable-requires
unreachable-requires c = always_cut _ _ c.args.self.slot c.in-Some.other c.in-Ok-None.field-0 c.in-Some.ensures c.in-Ok-None.ensures.ok c.in-Ok-None.field-0-is

pub returns-in-Ok-Some : goal.returns-in-Ok-Some
returns-in-Ok-Some c = (
  c.in-Some.ensures,
  subst (λ (at : Option ℕ). Makes c.args.book.now c.in-Some.other (Split 1 2) (SplitAt at) c.split.new.self) c.in-Ok-Some.field-0-is c.in-Ok-Some.ensures.ok,
)
