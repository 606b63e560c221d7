use Rattle.std.proofs.Common.{refl, subst, sym}
use Rattle.std.specs.List.{Contains}
use Rattle.std.proofs.lemmas.List.Elements.{Contains-append_left, Contains-push}
use Rattle.group_cells.proofs.DueKeys.{moments_noted}
use Rattle.group_cells.proofs.groups.due.DueCells.note.Goals as goal

pub returns-clause-kept : goal.returns-clause-kept
returns-clause-kept c =
    moments_noted c.args.self.now (record { unseen = c.args.self.now.unseen; moments = c.args.self.now.moments; moved = c.push.new.self }) refl
    (λ q there. subst (λ l. Contains l q) (sym c.in_ok-push.ensures.items) (Contains-append_left c.args.self.now.moved.items _ q there))

pub returns-clause-before : goal.returns-clause-before
returns-clause-before c = λ q there. subst (λ l. Contains l q) (sym c.in_ok-push.ensures.items) (Contains-append_left c.args.self.now.moved.items _ q there)

pub returns-clause-noted : goal.returns-clause-noted
returns-clause-noted c = subst (λ l. Contains l c.args.key) (sym c.in_ok-push.ensures.items) (Contains-push c.args.self.now.moved.items c.args.key)
