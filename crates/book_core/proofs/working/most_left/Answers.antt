use Rattle.std.proofs.Common.{◌≡◌, ℕ, ◌+◌, length, arith, sym, subst, ◌∙◌}
use Rattle.std.specs.Prelude.{Option}
use Rattle.book_core.specs.NextFor.{IsBestOf}
use Rattle.book_core.proofs.NextFor.{best_more, best_past, best_at, left_from}
use Rattle.book_core.proofs.working.most_left.Goals as goal
use Rattle.book_core.proofs.working.most_left.Goals.{then-other-slot, else-other-slot}

pub loop-other-preserved : goal.loop-other-preserved
loop-other-preserved c = elim c.if-other-slot.branch [
  | then-other-slot w ↦
      subst (λ (b : Option (ℕ × ℕ)). IsBestOf c.args.slots.now c.args.slot (c.loop-other.other + 1) b) (sym (w.best-is ∙ w.better-best.ensures))
      (best_more c.args.slots.now c.args.slot c.loop-other.other c.loop-other.best w.left_if_split.result w.if-other-slot.true
      (left_from c.args.slots.now c.loop-other.other w.left_if_split.result w.left_if_split.ensures) c.loop-other.invariant)
  | else-other-slot w ↦
      subst (λ (b : Option (ℕ × ℕ)). IsBestOf c.args.slots.now c.args.slot (c.loop-other.other + 1) b) (sym w.best-is)
      (subst (λ (n : ℕ). IsBestOf c.args.slots.now c.args.slot (n + 1) c.loop-other.best) (sym w.if-other-slot.false)
      (best_past c.args.slots.now c.args.slot c.loop-other.best (subst (λ (n : ℕ). IsBestOf c.args.slots.now c.args.slot n c.loop-other.best) w.if-other-slot.false c.loop-other.invariant)))
]

pub returns-in-Some : goal.returns-in-Some
returns-in-Some c =
    let end : c.loop-other.other ≡ length c.args.slots.now = omega arith in
    best_at c.args.slots.now c.args.slot c.loop-other.other (length c.args.slots.now) c.loop-other.best c.in-Some.chosen c.in-Some.field-0-1 end c.in-Some.is c.loop-other.invariant
