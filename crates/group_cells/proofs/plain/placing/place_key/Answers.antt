use Rattle.std.proofs.Common.{arith, ap, length, map}
use Rattle.std.proofs.lemmas.List.{length-map}
use Rattle.std.proofs.lemmas.Result.{on_ok_weaker}
use Rattle.beam_values.specs.declared.element.Element.{Element}
use Rattle.group_cells.specs.Plain.{opening_of}
use Rattle.group_cells.specs.Rounds.{entry_of}
use Rattle.group_cells.proofs.FiredFew.{all_opened_few, all_put_few}
use Rattle.group_cells.proofs.plain.placing.place_key.Goals as goal

pub returns-clause-grown : goal.returns-clause-grown
returns-clause-grown c =
    let rules = c.args.rules.now in
    let node = c.args.node in
    let key = c.args.key.now in
    let windows = c.as_slice-4.result.now in
    on_ok_weaker c.put_all.result
    (λ e. omega (
      arith,
      ap length e,
      all_put_few rules node key (map (entry_of c.args.commit) c.args.own) c.open_all.new.cells.items,
      ap length c.in_ok-open_all.ensures,
      all_opened_few rules c.args.before node (map (opening_of key) windows) c.args.cells.now.items,
      length-map windows (opening_of key),
      ap length c.as_slice-4.ensures,
      c.in_ok-windows.ensures.few,
      ap length c.as_slice-2.ensures,
      ap length c.in_ok-spans.ensures,
      length-map c.as_slice.result.now (λ (e : Element). e.span),
      ap length c.as_slice.ensures,
    ))
    c.put_all.ensures
