use Rattle.std.proofs.Common.{◌≡◌, rules}
use Rattle.pane_triggers.specs.NextMarks.{next_mark}
use Rattle.pane_triggers.proofs.DueMarks.{due_at, least_at}
use Rattle.pane_triggers.proofs.next.next_mark.Goals as goal

pub returns-else-is_enough-clause-least : goal.returns-else-is_enough-clause-least
returns-else-is_enough-clause-least c =
    let same : c.mark_from.result ≡ next_mark c.args.t.now c.args.end c.args.on_time c.args.unseen = search rules in
    least_at c.args.t.now c.args.end c.args.on_time c.args.unseen c.mark_from.result same

pub returns-else-is_enough-clause-due : goal.returns-else-is_enough-clause-due
returns-else-is_enough-clause-due c =
    let same : c.mark_from.result ≡ next_mark c.args.t.now c.args.end c.args.on_time c.args.unseen = search rules in
    due_at c.args.t.now c.args.end c.args.on_time c.args.unseen c.mark_from.result same

pub returns-else-is_empty-clause-least : goal.returns-else-is_empty-clause-least
returns-else-is_empty-clause-least c =
    let same : c.mark_from-else-is_empty.result ≡ next_mark c.args.t.now c.args.end c.args.on_time c.args.unseen = search rules in
    least_at c.args.t.now c.args.end c.args.on_time c.args.unseen c.mark_from-else-is_empty.result same

pub returns-else-is_empty-clause-due : goal.returns-else-is_empty-clause-due
returns-else-is_empty-clause-due c =
    let same : c.mark_from-else-is_empty.result ≡ next_mark c.args.t.now c.args.end c.args.on_time c.args.unseen = search rules in
    due_at c.args.t.now c.args.end c.args.on_time c.args.unseen c.mark_from-else-is_empty.result same
