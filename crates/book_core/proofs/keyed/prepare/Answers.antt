use Rattle.std.proofs.Common.{◌≡◌, false, List, [], refl, sym, ap, ◌∙◌}
use Rattle.std.specs.Option.{option_copied, option_map}
use Rattle.std.proofs.lemmas.Result.{IfOk-weaker}
use Rattle.stateful_core.specs.Cells.{KeyCell, key_holds}
use Rattle.stateful_core.specs.Opening.{done_of}
use Rattle.stateful_core.specs.Placing.{place}
use Rattle.book_core.specs.KeyCells.{cells_in, has_stateful}
use Rattle.book_core.proofs.CommitFired.{least_alone}
use Rattle.book_core.proofs.ToKeys.{no_stateful_at, none_placed}
use Rattle.book_core.proofs.keyed.prepare.Goals as goal

-- without a Stateful node no key cell stands, so none holds a node back
pub returns-then-not-has_stateful-clause-least : goal.returns-then-not-has_stateful-clause-least
returns-then-not-has_stateful-clause-least c =
    let no : has_stateful c.args.plan.now ≡ false = sym c.has_stateful.ensures ∙ c.if-not-has_stateful.true in
    let none : cells_in c.args.keys.now ≡ [] = c.requires.none no in
    let came = key_holds (place c.args.plan.now c.args.before.now (option_map done_of (option_copied c.args.done)) c.args.arrivals.now (cells_in c.args.keys.now)) in
    let empty : came ≡ [] =
    ap (λ (cells : List KeyCell). key_holds (place c.args.plan.now c.args.before.now (option_map done_of (option_copied c.args.done)) c.args.arrivals.now cells)) none
    ∙ ap key_holds (none_placed c.args.plan.now (no_stateful_at c.args.plan.now no) c.args.before.now (option_map done_of (option_copied c.args.done)) c.args.arrivals.now) in
    IfOk-weaker c.least_with.result _ _ (λ least each. least_alone c.args.plan.now c.args.held.now came [] least.items c.requires.held empty refl each) c.least_with.ensures.each
