use Rattle.std.proofs.Common.{Option, ℤ, subst, sym}
use Rattle.group_cells.specs.Looking.{IsNextDue}
use Rattle.group_cells.proofs.DueFirst.{next_is}
use Rattle.group_cells.proofs.DueRanges.{keys_forward}
use Rattle.beam_values.specs.Times.{final_mark}
use Rattle.group_cells.proofs.groups.due.DueCells.next.Goals as goal

pub first_between-requires : goal.first_between-requires
first_between-requires c = keys_forward c.args.node final_mark c.first.result c.last.result c.first.ensures c.last.ensures.value c.last.ensures.reached

pub returns : goal.returns
returns c = λ plan cells h none.
    subst (λ (o : Option ℤ). IsNextDue plan c.args.node cells o) (sym c.moment_in.ensures)
    (next_is plan c.args.self.now cells c.args.node c.first.result c.last.result c.first_between.result h none c.the_next_mark_is_the_least.ensures c.first.ensures c.last.ensures.value c.first_between.ensures)
