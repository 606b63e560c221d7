use Rattle.std.proofs.Common.{ℤ, ap, rules, subst, sym, ◌∙◌}
use mir.Val.{SFits}
use mir.Syntax.{w64}
use Rattle.std.proofs.lemmas.Int.{to_z-of_z}
use Rattle.std.specs.List.{Contains}
use Rattle.std.proofs.lemmas.Result.{on_ok_weaker}
use Rattle.group_cells.specs.Due.{is_key_of}
use Rattle.group_cells.specs.declared.groups.due.DueKey.{DueKey}
use Rattle.group_cells.proofs.DueKeys.{key_of_moment, no_key}
use Rattle.group_cells.proofs.groups.due.DueCells.leave.Goals as goal

pub returns-in-None-clause-left : goal.returns-in-None-clause-left
returns-in-None-clause-left c = λ q is. absurd (no_key c.args.node c.args.place c.args.moment q c.in-None.is is)

pub returns-in-Some-clause-left : goal.returns-in-Some-clause-left
returns-in-Some-clause-left c =
    let m = c.in-Some.moment in
    let fits : SFits w64 m = search rules in
    on_ok_weaker c.note.result
    (λ noted q is. subst (Contains c.note.new.self.moved.items) (sym (key_of_moment c.args.node c.args.place c.in-Some.moment q (sym (ap (λ m. is_key_of c.args.node c.args.place m q) c.in-Some.is) ∙ is))) (subst (λ (z : ℤ). let k : DueKey = record { node = c.args.node; moment = z; place = c.args.place } in Contains c.note.new.self.moved.items k) (to_z-of_z w64 m fits) noted))
    c.note.ensures.noted
