use Rattle.std.proofs.Common.{List, None, ap, arith, length, refl, subst, sym, true, ◌≡◌}
use Rattle.std.proofs.lemmas.List.Elements.{All-nil}
use Rattle.beam_values.specs.Nodes.{is_group}
use Rattle.beam_values.specs.declared.cell.Cell.{Cell}
use Rattle.group_cells.specs.Arrivals.{UnmergedStand}
use Rattle.group_cells.specs.Plain.{AreCells}
use Rattle.group_cells.specs.KeyLists.{led_key_cmp}
use Rattle.group_cells.specs.KnownWindows.{known_of, AreStanding, IsKnownOf}
use Rattle.group_cells.specs.declared.groups.keyed.GroupKey.{GroupKey}
use Rattle.group_cells.specs.declared.groups.standing.Known.{Known}
use Rattle.std.specs.Map.{lookup}
use Rattle.std.specs.Ordering.{is_eq}
use Rattle.std.specs.Prelude.{[]}
use Rattle.beam_model.specs.Panes.{rules_of}
use Rattle.group_cells.proofs.groups.Groups.new.Goals as goal

pub invariant_of-result : goal.invariant_of-result
invariant_of-result c =
    let plan = c.in_ok-new.field-0 in
    let none = sym c.new-2.ensures.cells in
    let unknown : (q : GroupKey) → known_of c.new-4.result q ≡ None =
    λ q. ap (λ (es : List (GroupKey × Known)). lookup (λ k. is_eq (led_key_cmp q k)) es) c.new-4.ensures.empty in
    record {
      cells = subst (λ (l : List Cell). AreCells plan l) none (record {
        groups = All-nil (λ (cell : Cell). is_group plan cell.node ≡ true);
        once = λ node key w. omega arith;
      });
      stand = subst (λ (l : List Cell). UnmergedStand plan l) none (record { each = λ node key group unmerged. tt });
      rest = c.new-2.ensures.rest plan;
      standing_are = subst (λ (l : List Cell). AreStanding plan c.new-4.result l) none (record {
        each = λ q at merges. subst (IsKnownOf (rules_of plan q.node) q.node q.key []) (sym (unknown q)) (λ place. refl);
      });
      small = omega (arith, ap length c.new-2.ensures.cells);
    }
