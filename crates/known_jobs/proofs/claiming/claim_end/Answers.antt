use Rattle.std.proofs.Common.{◌≡◌, sym, subst, ◌∙◌}
use Rattle.std.specs.Prelude.{Option, Some, IsSomeAnd}
use Rattle.beam_values.specs.declared.piece.Piece.{Piece}
use Rattle.book_core.specs.Calls.{live_piece}
use Rattle.known_jobs.proofs.Claims.{claimed_live, claimed_step}
use Rattle.known_jobs.proofs.claiming.claim_end.Goals as goal

pub unreachable-requires : goal.unreachable-requires
unreachable-requires c = claimed_live _ _ c.args.slot c.args.p c.claim-granted.result c.claim-granted.ensures (sym c.live.ensures ∙ c.in_default.is)

pub returns-clause-step : goal.returns-clause-step
returns-clause-step c =
    let found : live_piece c.claim-granted.new.self c.args.slot ≡ Some c.in-Some.piece = sym c.live.ensures ∙ c.in-Some.is in
    claimed_step _ _ c.args.slot c.args.p c.claim-granted.result c.in-Some.piece c.to.result c.claim-granted.ensures found c.to.ensures.value

pub returns-clause-end : goal.returns-clause-end
returns-clause-end c =
    let found : live_piece c.claim-granted.new.self c.args.slot ≡ Some c.in-Some.piece = sym c.live.ensures ∙ c.in-Some.is in
    subst (λ (o : Option Piece). IsSomeAnd o (λ piece. piece.range.to ≡ c.to.result)) (sym found) (sym c.to.ensures.value)
