use Rattle.std.proofs.Common.{◌≡◌, ap, rules, sym, ◌∙◌}
use Rattle.std.proofs.lemmas.Result.{on_ok_weaker}
use Rattle.cell_index.specs.declared.index_key.CellKey.{CellKey}
use Rattle.combine_lift.specs.Indexed.{cell_of}
use Rattle.combine_lift.proofs.rows_index.add_row.Goals as goal

pub returns : goal.returns
returns g c =
    let same : c.in_ok-place.place ≡ c.args.place = search rules in
    on_ok_weaker c.add.result
    (λ more cells h at. more cells (cell_of c.args.row.now) h (same ∙ at) (sym (ap (λ (k : CellKey). k.node) c.in_ok-key.ensures)) (sym (ap (λ (k : CellKey). k.key) c.in_ok-key.ensures))
    (sym (ap (λ (k : CellKey). k.span) c.in_ok-key.ensures)))
    c.add.ensures.ok
