use Rattle.std.proofs.Common.{◌≡◌, ◌↔◌, ◌≢◌, Bool, List, IsTrue, reverse, sym, ap, ◌∙◌, subst, rules}
use Rattle.std.specs.List.{All}
use Rattle.std.specs.Ordering.{nat_cmp}
use Rattle.std.specs.Result.{is_err}
use Rattle.std.proofs.lemmas.Fn.{always_returns_same}
use Rattle.beam_values.specs.declared.piece.Piece.{Piece}
use Rattle.split_core.specs.SeenPieces.{SeenPieces}
use Rattle.split_core.specs.Order.{IsAscending}
use Rattle.split_core.proofs.Ordered.{search_fails}
use Rattle.split_core.proofs.pieces.Pieces.finished.Goals as goal

pub returns : goal.returns
returns c =
    let items = c.as_slice.result.now in
    let node = c.args.node in
    let same = ap (λ (h : SeenPieces). h.pending) c.self.view_is in
    let found =
    c.binary_search_by.ensures.position (λ y. nat_cmp node y.node)
    (always_returns_same _ (λ a r. r ≡ nat_cmp node a.0.now.node) _ (λ a r f k. search rules)) in
    let up = subst (λ (l : List Piece). IsAscending (reverse l)) (sym c.as_slice.ensures) c.self.invariant.ascending in
    subst (λ (b : Bool). IsTrue b ↔ All (λ piece. piece.node ≢ node) c.args.self.now.pending) (sym c.is_err.ensures.value)
    (subst (λ (l : List Piece). IsTrue (is_err c.binary_search_by.result) ↔ All (λ piece. piece.node ≢ node) l) (ap reverse c.as_slice.ensures ∙ same)
    (search_fails items node c.binary_search_by.result up c.binary_search_by.ensures.bound found))
