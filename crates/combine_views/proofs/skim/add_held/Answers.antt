use Rattle.std.proofs.Common.{arith, pos, refl}
use Rattle.beam_values.specs.declared.plan.Args.TheVariants.{Number}
use Rattle.beam_values.specs.declared.plan.SourceKind.TheVariants.{Lines}
use Rattle.combine_views.proofs.Skimming.{next_found, next_within}
use Rattle.combine_views.proofs.skim.add_held.Goals as goal

pub overflow_sub-at : goal.overflow_sub-at
overflow_sub-at g c =
    let low = (c.requires.serves.view Lines (Number (pos 0)) refl).from_base refl in
    omega (arith, c.bytes-look.ensures.base)

pub returns-clause-next : goal.returns-clause-next
returns-clause-next g c =
    next_found c.args.pager.now c.args.p c.bytes-look.result.base c.first_line-line.result.next c.split_at.result.1.now c.bytes-look.result.bytes.now c.requires.serves c.bytes-look.ensures.base
    c.bytes-look.ensures.bytes c.split_at.ensures.back c.first_line-line.ensures.next

pub returns-clause-within : goal.returns-clause-within
returns-clause-within g c =
    next_within c.args.pager.now c.args.p c.bytes-look.result.base c.first_line-line.result.next c.split_at.result.1.now c.bytes-look.result.bytes.now c.requires.serves c.bytes-look.ensures.base
    c.bytes-look.ensures.bytes c.split_at.ensures.back c.first_line-line.ensures.next c.requires.whole
