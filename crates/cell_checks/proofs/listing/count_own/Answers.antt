use Rattle.std.proofs.Common.{◌≡◌, List, true, take, sym, subst, arith, ◌∙◌}
use Rattle.std.specs.Borrow.{Bor}
use Rattle.std.specs.List.{All}
use Rattle.std.proofs.lemmas.List.{length-map}
use Rattle.std.proofs.lemmas.List.Elements.{All-push}
use Rattle.beam_values.specs.declared.cell.Cell.{Cell}
use Rattle.cell_checks.specs.Listing.{cells_in}
use Rattle.cell_checks.proofs.Runs.{is_with, run_ends}
use Rattle.cell_checks.proofs.Takers.{one_more, place_read}
use Rattle.cell_checks.proofs.listing.count_own.Goals as goal

pub returns-then-not-is_cell_at_key-clause-others : goal.returns-then-not-is_cell_at_key-clause-others
returns-then-not-is_cell_at_key-clause-others c =
    let listed = c.args.others.now in
    let cell : Cell = c.index-others-at.result.now in
    run_ends c.args.first.now (cells_in listed) c.loop-at.at cell c.requires (omega (arith, length-map listed (λ (place : Bor Cell). place.now)))
    (sym (place_read listed c.loop-at.at c.index-others-at.result cell (omega arith) c.index-others-at.is))
    (sym c.is_cell_at_key.ensures ∙ c.if-not-is_cell_at_key.true)

pub loop-at-preserved : goal.loop-at-preserved
loop-at-preserved c =
    let listed = c.args.others.now in
    let first = c.args.first.now in
    subst (λ (l : List Cell). All (λ cell. is_with first cell ≡ true) l) (sym (one_more listed c.loop-at.at c.index-others-at.result (omega arith) c.index-others-at.is))
    (All-push (λ (cell : Cell). is_with first cell ≡ true) (take c.loop-at.at (cells_in listed)) c.index-others-at.result.now c.loop-at.invariant
    (sym c.is_cell_at_key.ensures ∙ c.if-not-is_cell_at_key.false))
