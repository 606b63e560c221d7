use Rattle.std.proofs.Common.{◌≡◌, ℤ, ap, rules, subst, sym, true, ◌∙◌}
use mir.Val.{SFits}
use mir.Syntax.{w64}
use Rattle.std.proofs.lemmas.Int.{to_z-of_z}
use Rattle.std.specs.BTreeSet.{contains}
use Rattle.std.proofs.lemmas.Result.{on_ok_weaker}
use Rattle.group_cells.specs.Due.{due_cmp, is_key_of}
use Rattle.group_cells.specs.declared.groups.due.DueKey.{DueKey}
use Rattle.group_cells.proofs.DueKeys.{key_of_moment, no_key}
use Rattle.group_cells.proofs.groups.due.DueCells.enter.Goals as goal

pub returns-in-None-clause-entered : goal.returns-in-None-clause-entered
returns-in-None-clause-entered c = λ q is. absurd (no_key c.args.node c.args.place c.args.moment q c.in-None.is is)

pub returns-in-Some-clause-entered : goal.returns-in-Some-clause-entered
returns-in-Some-clause-entered c =
    let m = c.in-Some.moment in
    let fits : SFits w64 m = search rules in
    on_ok_weaker c.add.result
    (λ added q is. subst (λ (k : DueKey). contains due_cmp c.add.new.self.moments k ≡ true) (sym (key_of_moment c.args.node c.args.place c.in-Some.moment q (sym (ap (λ m. is_key_of c.args.node c.args.place m q) c.in-Some.is) ∙ is))) (subst (λ (z : ℤ). let k : DueKey = record { node = c.args.node; moment = z; place = c.args.place } in contains due_cmp c.add.new.self.moments k ≡ true) (to_z-of_z w64 m fits) added))
    c.add.ensures.added
