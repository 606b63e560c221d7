use Rattle.std.proofs.Common.{◌∷◌, ◌≤◌, sym, subst}
use Rattle.beam_values.specs.Bags.{IsSameBag}
use Rattle.watermarks.specs.Holds.{SeenHolds}
use Rattle.book_core.proofs.HeldMarks.{removed, room_kept}
use Rattle.book_core.proofs.held.remove.Goals as goal

pub returns-clause-removed : goal.returns-clause-removed
returns-clause-removed c =
    removed c.args.held.now c.args.node c.args.mark c.index-held-node.result c.remove.new.self c.requires.within c.index-held-node.is
    (subst (λ (h : SeenHolds). IsSameBag h.marks (c.args.mark ∷ c.remove.new.self.marks)) (sym c.index-held-node.is) c.remove.ensures.taken)

pub returns-clause-kept : goal.returns-clause-kept
returns-clause-kept c =
    room_kept c.args.held.now c.args.node c.index-held-node.result c.remove.new.self c.requires.within c.index-held-node.is
    (subst (λ (h : SeenHolds). h.room ≤ c.remove.new.self.room) (sym c.index-held-node.is) c.remove.ensures.kept)
