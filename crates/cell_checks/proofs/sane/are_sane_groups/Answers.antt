use Rattle.std.proofs.Common.{arith, sym, ◌∙◌}
use Rattle.std.proofs.lemmas.Bool.{false≢true}
use Rattle.cell_checks.proofs.Steps.{all_from_both, count_sorted, next_from_all, own_from_all, own_in_order}
use Rattle.cell_checks.proofs.sane.are_sane_groups.Goals as goal

pub count_own-count-requires : goal.count_own-count-requires
count_own-count-requires c =
    count_sorted c.args.listed.now c.split_at.result.1.now c.split_at-in-loop-at.result.1.now c.index-left-0.result c.loop-at.at c.split_at.ensures.back c.split_at-in-loop-at.ensures.back (omega arith)
    c.index-left-0.is c.requires

pub is_sane_at-requires : goal.is_sane_at-requires
is_sane_at-requires c =
    own_in_order c.args.listed.now c.split_at.result.1.now c.split_at-in-loop-at.result.1.now c.index-left-0.result c.loop-at.at c.split_at.ensures.back c.split_at-in-loop-at.ensures.back (omega arith)
    c.index-left-0.is c.requires c.args.plan.now c.args.marks.now c.split_at-in-loop-at-2.result.0.now c.count_own-count.result c.split_at-in-loop-at-2.ensures.front c.count_own-count.ensures.own
    c.count_own-count.ensures.others

pub returns-then-not-is_sane_at : goal.returns-then-not-is_sane_at
returns-then-not-is_sane_at c = (
  (λ no. absurd (false≢true no)),
  (λ sane.
      absurd (false≢true (sym c.if-not-is_sane_at.true
      ∙ c.is_sane_at.ensures.1 (own_from_all c.args.listed.now c.split_at.result.1.now c.split_at-in-loop-at.result.1.now c.index-left-0.result c.loop-at.at c.split_at.ensures.back
      c.split_at-in-loop-at.ensures.back (omega arith) c.index-left-0.is c.requires c.args.plan.now c.args.marks.now c.split_at-in-loop-at-2.result.0.now c.count_own-count.result
      c.split_at-in-loop-at-2.ensures.front c.count_own-count.ensures.own c.count_own-count.ensures.others (c.loop-at.invariant.1 sane))))),
)

pub loop-at-preserved : goal.loop-at-preserved
loop-at-preserved c = (
  (λ sane.
      c.loop-at.invariant.0 (all_from_both c.args.listed.now c.split_at.result.1.now c.split_at-in-loop-at.result.1.now c.index-left-0.result c.loop-at.at c.split_at.ensures.back
      c.split_at-in-loop-at.ensures.back (omega arith) c.index-left-0.is c.requires c.args.plan.now c.args.marks.now c.split_at-in-loop-at-2.result.0.now c.count_own-count.result
      c.split_at-in-loop-at-2.ensures.front c.count_own-count.ensures.own c.count_own-count.ensures.others (c.is_sane_at.ensures.0 c.if-not-is_sane_at.false) sane)),
  (λ sane.
      next_from_all c.args.listed.now c.split_at.result.1.now c.split_at-in-loop-at.result.1.now c.index-left-0.result c.loop-at.at c.split_at.ensures.back
      c.split_at-in-loop-at.ensures.back (omega arith) c.index-left-0.is c.requires c.args.plan.now c.args.marks.now c.split_at-in-loop-at-2.result.0.now c.count_own-count.result
      c.split_at-in-loop-at-2.ensures.front c.count_own-count.ensures.own c.count_own-count.ensures.others (c.loop-at.invariant.1 sane)),
)
