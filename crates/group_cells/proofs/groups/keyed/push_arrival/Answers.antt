use Rattle.std.proofs.Common.{◌∙◌}
use Rattle.std.proofs.lemmas.Result.{on_ok_weaker}
use Rattle.group_cells.specs.declared.groups.keyed.GroupKey.{GroupKey}
use Rattle.group_cells.proofs.KeyMaps.{arrived_more}
use Rattle.group_cells.proofs.groups.keyed.push_arrival.Goals as goal

pub returns-clause-lists : goal.returns-clause-lists
returns-clause-lists c =
    let key : GroupKey = record { node = c.args.arrival.node; key = c.in_ok-copy_key.field-0 } in
    on_ok_weaker c.push.result
    (λ after before were q. after q ∙ arrived_more c.args.lists.now before c.args.arrival key q were (λ i. record { node = c.args.arrival.node; key = c.in_ok-copy_key.ensures i })) c.push.ensures.others
