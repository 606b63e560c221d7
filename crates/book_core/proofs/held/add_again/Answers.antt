use Rattle.std.proofs.Common.{◌∷◌, ◌≤◌, length, sym, subst, ap, arith}
use Rattle.beam_values.specs.Bags.{IsSameBag}
use Rattle.watermarks.specs.Holds.{SeenHolds}
use Rattle.book_core.proofs.HeldMarks.{added, among_new, longer_new, marks_read, room_kept}
use Rattle.book_core.proofs.held.add_again.Goals as goal

pub add_again-requires-clause-few : goal.add_again-requires-clause-few
add_again-requires-clause-few c =
    omega (
      arith,
      ap length (marks_read c.args.held.now c.args.node c.index-held-node.result c.requires.within c.index-held-node.is),
      ap (λ (h : SeenHolds). length h.marks) c.index-held-node.is,
      c.requires.few,
    )

pub returns-clause-added : goal.returns-clause-added
returns-clause-added c =
    added c.args.held.now c.args.node c.args.mark c.index-held-node.result c.add_again.new.self c.requires.within c.index-held-node.is
    (subst (λ (h : SeenHolds). IsSameBag c.add_again.new.self.marks (c.args.mark ∷ h.marks)) (sym c.index-held-node.is) c.add_again.ensures.added)

pub returns-clause-among : goal.returns-clause-among
returns-clause-among c =
    among_new c.args.held.now c.args.node c.args.mark c.index-held-node.result c.add_again.new.self c.requires.within
    (subst (λ (h : SeenHolds). IsSameBag c.add_again.new.self.marks (c.args.mark ∷ h.marks)) (sym c.index-held-node.is) c.add_again.ensures.added)

pub returns-clause-longer : goal.returns-clause-longer
returns-clause-longer c =
    longer_new c.args.held.now c.args.node c.args.mark c.index-held-node.result c.add_again.new.self c.requires.within c.index-held-node.is
    (subst (λ (h : SeenHolds). IsSameBag c.add_again.new.self.marks (c.args.mark ∷ h.marks)) (sym c.index-held-node.is) c.add_again.ensures.added)

pub returns-clause-kept : goal.returns-clause-kept
returns-clause-kept c =
    room_kept c.args.held.now c.args.node c.index-held-node.result c.add_again.new.self c.requires.within c.index-held-node.is
    (subst (λ (h : SeenHolds). h.room ≤ c.add_again.new.self.room) (sym c.index-held-node.is) c.add_again.ensures.kept)
