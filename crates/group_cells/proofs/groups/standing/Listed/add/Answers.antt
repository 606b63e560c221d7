use Rattle.std.proofs.Common.{◌≡◌, ◌∙◌, Some, ap, arith, cond, to_z, of_z, w64}
use Rattle.std.specs.Ordering.{int_cmp, is_eq}
use Rattle.std.proofs.lemmas.Int.{to_z-of_z}
use Rattle.group_cells.specs.KnownWindows.{window_at}
use Rattle.group_cells.proofs.ListedWindows.{listed_with}
use Rattle.group_cells.proofs.groups.standing.Listed.add.Goals as goal

pub returns-clause-listed : goal.returns-clause-listed
returns-clause-listed c = λ test h alone.
    let m = c.args.self.now.by_end in
    let same : to_z w64 (of_z w64 c.end.result) ≡ c.end.result = grind (arith, to_z-of_z, c.end.type_inv) in
    let ends = same ∙ c.end.ensures.value in
    listed_with test m c.insert.new.self c.args.span c.args.place h c.end.ensures.ordered alone
    (λ q. c.in_ok-insert.ensures.updates.0 q ∙ ap (λ z. cond (is_eq (int_cmp z q)) (Some (record { span = c.args.span; place = c.args.place })) (window_at m q)) ends)
