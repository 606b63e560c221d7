use Rattle.std.proofs.Common.{◌≡◌, ap, arith, length, subst, sym}
use Rattle.cell_index.specs.Indexes.{IsIndexOf}
use Rattle.cell_index.specs.declared.index_key.CellKey.{CellKey}
use Rattle.group_cells.proofs.groups.draft.remove_last.Goals as goal

pub returns-clause-index : goal.returns-clause-index
returns-clause-index c = λ h.
    let place : c.len.result ≡ length c.pop.new.self.items = omega (arith, c.len.ensures, c.pop.new.self.ok) in
    c.remove_last.ensures c.pop.new.self.items c.in-Some.cell (subst (IsIndexOf c.args.index.now) c.in-Some.ensures.items h) place (sym (ap (λ (k : CellKey). k.node) c.key_of_cell-key.ensures))
    (sym (ap (λ (k : CellKey). k.key) c.key_of_cell-key.ensures)) (sym (ap (λ (k : CellKey). k.span) c.key_of_cell-key.ensures))
