use Rattle.std.proofs.Common.{◌∷◌, ◌+◌, ◌≤◌, sym, subst}
use Rattle.beam_values.specs.Bags.{IsSameBag}
use Rattle.watermarks.specs.Holds.{SeenHolds}
use Rattle.book_core.proofs.HeldMarks.{added, room_set}
use Rattle.book_core.proofs.held.add_kept.Goals as goal

pub returns-clause-added : goal.returns-clause-added
returns-clause-added c =
    added c.args.held.now c.args.node c.args.mark c.index-held-node.result c.add.new.self c.requires.within c.index-held-node.is
    (subst (λ (h : SeenHolds). IsSameBag c.add.new.self.marks (c.args.mark ∷ h.marks)) (sym c.index-held-node.is) c.in-Ok.ensures.ok)

pub returns-clause-used : goal.returns-clause-used
returns-clause-used c =
    room_set c.args.held.now c.args.node c.index-held-node.result c.add.new.self 1 c.requires.within c.index-held-node.is
    (subst (λ (h : SeenHolds). h.room ≤ c.add.new.self.room + 1) (sym c.index-held-node.is) c.in-Ok.ensures.used)
