use Rattle.std.proofs.Common.{◌≡◌, ◌+◌, ap, refl, rules, sym, ◌∙◌}
use Rattle.group_cells.specs.Cells.{unseen_in}
use Rattle.group_cells.specs.Placing.{with_entry}
use Rattle.group_cells.proofs.DueKeys.{count_read, moments_stay}
use Rattle.group_cells.proofs.DueSteps.{unseen_more}
use Rattle.group_cells.proofs.groups.due.DueCells.expect_entry.Goals as goal

pub returns-then-is_due_regardless-clause-count : goal.returns-then-is_due_regardless-clause-count
returns-then-is_due_regardless-clause-count c = λ cells h found.
    let was = count_read c.args.plan.now c.args.self.now cells c.args.place c.args.cell.now c.index-was.result.now h found c.index-was.ensures in
    let more : c.in_ok-count.count ≡ c.index-was.result.now + 1 = search rules in
    more ∙ ap (λ n. n + 1) was

pub returns-then-is_due_regardless-clause-ok : goal.returns-then-is_due_regardless-clause-ok
returns-then-is_due_regardless-clause-ok c = λ cells entry h found unshown.
    moments_stay c.args.plan.now c.args.self.now cells c.args.place c.args.cell.now (with_entry entry c.args.cell.now) h.moments found
    (c.is_due_regardless.ensures c.if-is_due_regardless.true entry) refl

pub returns-clause-count : goal.returns-clause-count
returns-clause-count c = λ cells h found.
    let was = count_read c.args.plan.now c.args.self.now cells c.args.place c.args.cell.now c.index-was.result.now h found c.index-was.ensures in
    let more : c.in_ok-count.count ≡ c.index-was.result.now + 1 = search rules in
    more ∙ ap (λ n. n + 1) was

pub returns-clause-ok : goal.returns-clause-ok
returns-clause-ok c = λ cells entry h found unshown.
    let cell = c.args.cell.now in
    let was = count_read c.args.plan.now c.args.self.now cells c.args.place cell c.index-was.result.now h found c.index-was.ensures in
    let more : c.in_ok-count.count ≡ c.index-was.result.now + 1 = search rules in
    let then : c.in_ok-count.count ≡ unseen_in (with_entry entry cell).entries = more ∙ ap (λ n. n + 1) was ∙ sym (unseen_more cell.entries entry unshown) in
    c.in_ok-change.ensures.ok c.args.plan.now cells cell (with_entry entry cell) h.moments found (c.moment_with-left.ensures cell.entries cell.next_index was)
    (c.moment_with-entered.ensures (with_entry entry cell).entries cell.next_index then) refl refl
