use Rattle.std.proofs.Common.{◌≡◌, ◌≤◌, sym, true, ◌∙◌}
use Rattle.std.specs.Prelude.{nat_le}
use Rattle.std.proofs.lemmas.Bool.{le-leb, leb-true}
use Rattle.std.proofs.lemmas.List.Elements.{All-weaker}
use Rattle.beam_values.specs.declared.cell.Cell.{Cell}
use Rattle.cell_checks.proofs.Tests.{all_pass, passes_all}
use Rattle.cell_checks.proofs.counted.are_panes_counted.Goals as goal

pub returns : goal.returns
returns c =
    let most = c.args.most in
    let cells = c.args.cells.now in
    let is = c.are_counted.ensures in (
      (λ yes. All-weaker (λ (cell : Cell). nat_le cell.next_index most ≡ true) (λ (cell : Cell). cell.next_index ≤ most) (λ cell h. leb-true cell.next_index most h) cells
          (all_pass (λ (cell : Cell). nat_le cell.next_index most) cells (sym is ∙ yes))),
      (λ all. is ∙ passes_all (λ (cell : Cell). nat_le cell.next_index most) cells
          (All-weaker (λ (cell : Cell). cell.next_index ≤ most) (λ (cell : Cell). nat_le cell.next_index most ≡ true) (λ cell h. le-leb cell.next_index most h) cells all)),
    )
