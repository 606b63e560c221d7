use Rattle.std.proofs.Common.{ℤ, ap, rules, sym, true, cond, ◌∙◌}
use mir.Val.{SFits}
use mir.Syntax.{w64}
use Rattle.std.proofs.lemmas.Int.{to_z-of_z}
use Rattle.std.specs.BTreeSet.{contains}
use Rattle.std.specs.Prelude.{Some, Option}
use Rattle.std.proofs.lemmas.Result.{on_ok_weaker}
use Rattle.group_cells.specs.Due.{due_cmp, is_key_of}
use Rattle.group_cells.proofs.DueKeys.{none_put}
use Rattle.group_cells.proofs.groups.due.DueCells.put_in.Goals as goal

pub returns-in-None-clause-moments : goal.returns-in-None-clause-moments
returns-in-None-clause-moments c = λ q. none_put c.args.node c.args.place c.args.moment q (contains due_cmp c.args.self.now.moments q) c.in-None.is

pub returns-in-Some-clause-moments : goal.returns-in-Some-clause-moments
returns-in-Some-clause-moments c =
    let m = c.in-Some.moment in
    let fits : SFits w64 m = search rules in
    on_ok_weaker c.put_key_in.result
    (λ put q.
    let as_ = λ (o : Option ℤ). cond (is_key_of c.args.node c.args.place o q) true (contains due_cmp c.args.self.now.moments q) in
    put q ∙ ap (λ (z : ℤ). as_ (Some z)) (to_z-of_z w64 m fits) ∙ ap as_ (sym c.in-Some.is))
    c.put_key_in.ensures.moments
