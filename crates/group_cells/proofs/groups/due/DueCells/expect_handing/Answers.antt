use Rattle.std.proofs.Common.{◌≡◌, ◌+◌, ap₂, refl, rules, sym, ◌∙◌}
use Rattle.std.specs.Prelude.{slice_set}
use Rattle.group_cells.specs.Cells.{unseen_in}
use Rattle.group_cells.specs.Handing.{given_way, with_entries}
use Rattle.group_cells.proofs.DueKeys.{count_read}
use Rattle.group_cells.proofs.DueSteps.{unseen_both}
use Rattle.group_cells.proofs.GivenWay.{read_later}
use Rattle.group_cells.proofs.groups.due.DueCells.expect_handing.Goals as goal

pub returns-clause-count : goal.returns-clause-count
returns-clause-count c = λ cells h found there.
    let own = count_read c.args.plan.now c.args.self.now cells c.args.place c.args.cell.now c.index-own.result.now h found c.index-own.ensures in
    let others = count_read c.args.plan.now c.args.self.now cells c.args.last c.args.taker.now c.index-others.result.now h there c.index-others.ensures in
    let both : c.in_ok-count.count ≡ c.index-own.result.now + c.index-others.result.now = search rules in
    both ∙ ap₂ (λ a b. a + b) own others

pub returns-clause-ok : goal.returns-clause-ok
returns-clause-ok c = λ session cells h found there apart.
    let plan = c.args.plan.now in
    let cell = c.args.cell.now in
    let taker = c.args.taker.now in
    let own = count_read plan c.args.self.now cells c.args.place cell c.index-own.result.now h found c.index-own.ensures in
    let others = count_read plan c.args.self.now cells c.args.last taker c.index-others.result.now h there c.index-others.ensures in
    let both : c.in_ok-count.count ≡ c.index-own.result.now + c.index-others.result.now = search rules in
    let full : c.in_ok-count.count ≡ unseen_in (with_entries cell.entries taker).entries = both ∙ ap₂ (λ a b. a + b) own others ∙ sym (unseen_both taker.entries cell.entries) in
    c.in_ok-change-2.ensures.ok plan (slice_set cells c.args.place (given_way session cell)) taker (with_entries cell.entries taker)
    (c.in_ok-change.ensures.ok plan cells cell (given_way session cell) h.moments found (c.moment_with-given.ensures cell.entries cell.next_index own) refl refl refl)
    (read_later cells c.args.place c.args.last (given_way session cell) taker apart there)
    (c.moment_with-left.ensures taker.entries taker.next_index others) (c.moment_with-entered.ensures (with_entries cell.entries taker).entries taker.next_index full) refl refl
