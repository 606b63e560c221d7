use Rattle.std.proofs.Common.{◌++◌, ◌∙◌}
use Rattle.windowing.proofs.Quotients.{quotients, difference_fits, difference_counts, next_fits, first_fits, from_first}
use Rattle.windowing.proofs.assignment.push_sliding.Goals as goal

pub overflow_sub-count : goal.overflow_sub-count
overflow_sub-count c =
    difference_fits c.args.size c.args.period c.args.time c.div_euclid-before.result c.div_euclid.result
    (quotients c.args.size c.args.period c.args.time c.ms-ms.result c.div_euclid-before.result c.div_euclid.result c.requires.size_in c.requires.period_in c.ms-ms.ensures.value c.ms-ms.ensures.within c.div_euclid-before.ensures c.div_euclid.ensures)

pub overflow_cast-count : goal.overflow_cast-count
overflow_cast-count c =
    difference_counts c.args.size c.args.period c.args.time c.div_euclid-before.result c.div_euclid.result
    (quotients c.args.size c.args.period c.args.time c.ms-ms.result c.div_euclid-before.result c.div_euclid.result c.requires.size_in c.requires.period_in c.ms-ms.ensures.value c.ms-ms.ensures.within c.div_euclid-before.ensures c.div_euclid.ensures)

pub overflow_add-before : goal.overflow_add-before
overflow_add-before c =
    next_fits c.args.size c.args.period c.args.time c.div_euclid-before.result c.div_euclid.result
    (quotients c.args.size c.args.period c.args.time c.ms-ms.result c.div_euclid-before.result c.div_euclid.result c.requires.size_in c.requires.period_in c.ms-ms.ensures.value c.ms-ms.ensures.within c.div_euclid-before.ensures c.div_euclid.ensures)

pub overflow_mul-period : goal.overflow_mul-period
overflow_mul-period c =
    first_fits c.args.size c.args.period c.args.time c.div_euclid-before.result c.div_euclid.result
    (quotients c.args.size c.args.period c.args.time c.ms-ms.result c.div_euclid-before.result c.div_euclid.result c.requires.size_in c.requires.period_in c.ms-ms.ensures.value c.ms-ms.ensures.within c.div_euclid-before.ensures c.div_euclid.ensures) c.requires.size_in c.requires.period_in c.ms-ms.ensures.within

pub returns-clause-ok : goal.returns-clause-ok
returns-clause-ok c =
    let all = from_first c.args.size c.args.period c.args.time c.div_euclid-before.result c.div_euclid.result (quotients c.args.size c.args.period c.args.time c.ms-ms.result c.div_euclid-before.result c.div_euclid.result c.requires.size_in c.requires.period_in c.ms-ms.ensures.value c.ms-ms.ensures.within c.div_euclid-before.ensures c.div_euclid.ensures) c.requires.size_in c.requires.period_in c.ms-ms.ensures.within in
    c.in_default.ensures.ok ∙ (λ i. c.reserve.ensures i ++ all i)
