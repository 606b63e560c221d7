use Rattle.combine_views.proofs.EachGiven.{key_field_gives, swap_gives, values_gives}
use Rattle.combine_views.proofs.each_word.given_of_each.Goals as goal

pub returns-in-KeyField-None-default : goal.returns-in-KeyField-None-default
returns-in-KeyField-None-default c =
    let each = c.args.each.now in
    key_field_gives c.args.args.now each.part each.time each.span c.args.work each.key c.in-KeyField-None-default.is-0 c.in-KeyField-None-default.is-1

pub returns-in-Swap-Some-default : goal.returns-in-Swap-Some-default
returns-in-Swap-Some-default c =
    let each = c.args.each.now in
    swap_gives c.args.args.now each.part each.time each.span c.args.work each.key c.in-Swap-Some-default.key c.in-Swap-Some-default.is-0 c.in-Swap-Some-default.is-1

pub returns-in-Values-Some-default : goal.returns-in-Values-Some-default
returns-in-Values-Some-default c =
    let each = c.args.each.now in
    values_gives c.args.args.now each.part each.time each.span c.args.work each.key c.in-Values-Some-default.field-0-1 c.in-Values-Some-default.is-0 c.in-Values-Some-default.is-1
