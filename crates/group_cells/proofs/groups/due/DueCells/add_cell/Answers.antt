use Rattle.std.proofs.Common.{◌≡◌, ap, arith, length-append, rules, ◌∷◌, [], ◌∙◌}
use Rattle.std.proofs.lemmas.Result.{on_ok_weaker}
use Rattle.group_cells.specs.Cells.{unseen_in}
use Rattle.group_cells.proofs.DueKeys.{counts_pushed, moments_put}
use Rattle.group_cells.proofs.groups.due.DueCells.add_cell.Goals as goal

pub returns-clause-due : goal.returns-clause-due
returns-clause-due c =
    on_ok_weaker c.put_in.result
    (λ put cells end h.
    let cell = c.args.cell.now in
    let counted : c.unseen-count.result ≡ unseen_in cell.entries = c.unseen-count.ensures ∙ ap unseen_in c.as_slice.ensures in
    record {
      counts = counts_pushed c.args.self.now cells cell c.unseen-count.result c.put_in.new.self.unseen.items h.counts counted (search rules);
      moments = moments_put c.args.plan.now c.args.self.now c.put_in.new.self cells c.args.place cell c.moment_with-moment.result h.moments end
          (c.moment_with-moment.ensures cell.entries cell.next_index counted) (search rules) put;
      small = omega (arith, length-append cells (cell ∷ []));
    })
    c.put_in.ensures.moments
