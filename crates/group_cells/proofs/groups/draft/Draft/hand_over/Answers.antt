use Rattle.std.proofs.Common.{◌≡◌, ◌∙◌, ◌+◌, ap, arith, get_or, length, rules, sym}
use Rattle.std.proofs.lemmas.Result.{on_ok_weaker}
use Rattle.group_cells.proofs.GivenWay.{goes_over, past_over, stays_over, stood}
use Rattle.group_cells.proofs.groups.draft.Draft.hand_over.Goals as goal

pub returns-then-cells-place-clause-ok : goal.returns-then-cells-place-clause-ok
returns-then-cells-place-clause-ok c = λ front taker whole.
    past_over c.args.rules.now c.args.before c.args.span c.args.self.now.cells front taker c.args.place whole (omega (arith, c.if-cells-place.true, ap length c.cells-cells.ensures))

pub returns-then-not-gives_way-clause-ok : goal.returns-then-not-gives_way-clause-ok
returns-then-not-gives_way-clause-ok c = λ front taker whole.
    stays_over c.args.rules.now c.args.before c.args.span c.args.self.now.cells front taker c.args.place whole c.index-cells-place.result
    (omega (arith, c.if-cells-place.false, ap length c.cells-cells.ensures)) (c.index-cells-place.is ∙ ap (λ l. get_or l c.args.place c.index-cells-place.result) c.cells-cells.ensures)
    (sym c.gives_way.ensures ∙ c.if-not-gives_way.true)

pub give_way-requires-clause-before : goal.give_way-requires-clause-before
give_way-requires-clause-before c =
    let last_ : c.in_ok-last.last + 1 ≡ length c.cells-cells.result.now = search rules in
    omega (arith, last_, c.if-cells-place.false)

pub give_way-requires-clause-last : goal.give_way-requires-clause-last
give_way-requires-clause-last c =
    let last_ : c.in_ok-last.last + 1 ≡ length c.cells-cells.result.now = search rules in
    last_ ∙ ap length c.cells-cells.ensures

pub give_way-requires-clause-stands : goal.give_way-requires-clause-stands
give_way-requires-clause-stands c =
    stood c.args.rules.now c.args.before c.args.span c.args.self.now.cells c.args.place c.index-cells-place.result
    (c.index-cells-place.is ∙ ap (λ l. get_or l c.args.place c.index-cells-place.result) c.cells-cells.ensures) (sym c.gives_way.ensures ∙ c.if-not-gives_way.false)

pub returns-clause-ok : goal.returns-clause-ok
returns-clause-ok c =
    let last_ : c.in_ok-last.last + 1 ≡ length c.cells-cells.result.now = search rules in
    on_ok_weaker c.give_way.result
    (λ gone front taker whole.
    goes_over c.args.rules.now c.args.before c.args.span c.args.self.now.cells front taker c.args.place whole c.index-cells-place.result
    (omega (arith, c.if-cells-place.false, ap length c.cells-cells.ensures)) (c.index-cells-place.is ∙ ap (λ l. get_or l c.args.place c.index-cells-place.result) c.cells-cells.ensures)
    c.in_ok-last.last c.give_way.new.self.cells (last_ ∙ ap length c.cells-cells.ensures) gone (sym c.gives_way.ensures ∙ c.if-not-gives_way.false))
    c.give_way.ensures.ok
