use Rattle.std.proofs.Common.{◌≡◌, false, List, [], length, sym, ap, ◌∙◌, arith}
use Rattle.std.specs.Option.{option_map}
use Rattle.beam_values.specs.declared.arrival.Arrival.{Arrival}
use Rattle.stateful_core.specs.Opening.{done_of}
use Rattle.stateful_core.specs.Placing.{place}
use Rattle.book_core.specs.KeyCells.{cells_in, has_stateful}
use Rattle.book_core.proofs.CommitStep.{no_longer}
use Rattle.book_core.proofs.ToKeys.{all_other, is_other, no_stateful_at, none_counted, none_placed, others_many}
use Rattle.book_core.proofs.keyed.place.Goals as goal

pub returns-then-not-has_stateful-clause-cells : goal.returns-then-not-has_stateful-clause-cells
returns-then-not-has_stateful-clause-cells c =
    let no : has_stateful c.args.plan.now ≡ false = sym c.has_stateful.ensures ∙ c.if-not-has_stateful.true in
    let none : cells_in c.args.keys.now ≡ [] = c.requires.none no in
    none ∙ sym (ap (place c.args.plan.now c.args.before.now (option_map done_of c.args.done) c.args.arrivals.now) none
    ∙ none_placed c.args.plan.now (no_stateful_at c.args.plan.now no) c.args.before.now (option_map done_of c.args.done) c.args.arrivals.now)

pub returns-then-not-has_stateful-clause-left : goal.returns-then-not-has_stateful-clause-left
returns-then-not-has_stateful-clause-left c =
    let no : has_stateful c.args.plan.now ≡ false = sym c.has_stateful.ensures ∙ c.if-not-has_stateful.true in sym (all_other c.args.plan.now (no_stateful_at c.args.plan.now no) c.args.arrivals.now)

pub returns-then-not-has_stateful-clause-many : goal.returns-then-not-has_stateful-clause-many
returns-then-not-has_stateful-clause-many c =
    let no : has_stateful c.args.plan.now ≡ false = sym c.has_stateful.ensures ∙ c.if-not-has_stateful.true in sym (none_counted c.args.plan.now (no_stateful_at c.args.plan.now no) c.args.arrivals.now)

pub overflow_sub-result : goal.overflow_sub-result
overflow_sub-result c =
    omega (
      arith,
      c.len-came.ensures,
      c.len.ensures,
      ap (λ (l : List Arrival). length l) c.place.ensures.left,
      no_longer (is_other c.args.plan.now) c.args.arrivals.now,
    )

pub returns-clause-many : goal.returns-clause-many
returns-clause-many c =
    omega (
      arith,
      c.len-came.ensures,
      c.len.ensures,
      ap (λ (l : List Arrival). length l) c.place.ensures.left,
      others_many c.args.plan.now c.args.arrivals.now,
    )
