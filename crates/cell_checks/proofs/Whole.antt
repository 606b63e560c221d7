-- All cells, and those of each Group and key.
use Rattle.std.proofs.Common.{◌≡◌, true, List, get_or, Option, Some, None, refl, ap}
use Rattle.std.specs.Prelude.{is_none}
use Rattle.std.specs.List.{All, list_all}
use Rattle.std.specs.List.Sorted.{IsPermutation}
use Rattle.std.proofs.lemmas.Bool.{and_from, and_parts, false≢true}
use Rattle.std.proofs.lemmas.List.Elements.{All-weaker}
use Rattle.std.proofs.lemmas.List.Sorted.{IsPermutation-sym}
use Rattle.beam_values.specs.Marks.{marks_at}
use Rattle.beam_values.specs.Nodes.{is_group}
use Rattle.beam_values.specs.declared.cell.Cell.{Cell}
use Rattle.beam_values.specs.declared.marks.StageMarks.{StageMarks}
use Rattle.beam_values.specs.declared.plan.Plan.{Plan}
use Rattle.beam_model.specs.Panes.{rules_of}
use Rattle.group_cells.specs.Cells.{firing_of}
use Rattle.group_cells.specs.Commits.{IsAtGroup}
use Rattle.group_cells.specs.Sane.{AreSaneCells, FiresNoMore}
use Rattle.cell_checks.specs.Listing.{AreSaneGroups, is_settled}
use Rattle.cell_checks.proofs.Moved.{groups_moved}
use Rattle.cell_checks.proofs.Tests.{all_pass, passes_all}

none_from : {X : Type 0} (o : Option X) → is_none o ≡ true → o ≡ None
none_from None h = refl
none_from (Some x) h = absurd (false≢true h)

module _ (plan : Plan) (marks : List StageMarks) where
  parts : (cell : Cell) → is_settled plan marks cell ≡ true → (is_group plan cell.node ≡ true) × FiresNoMore plan marks cell
  parts cell h =
      let firing = firing_of (rules_of plan cell.node) (marks_at marks cell.node).mark_in cell in
      let both = and_parts (is_group plan cell.node) (is_none firing) h in
      (both.0, none_from firing both.1)

  from_parts : (cell : Cell) → is_group plan cell.node ≡ true → FiresNoMore plan marks cell → is_settled plan marks cell ≡ true
  from_parts cell group none = and_from (is_group plan cell.node) (is_none (firing_of (rules_of plan cell.node) (marks_at marks cell.node).mark_in cell)) group (ap is_none none)

  pub sane_from : (cells listed : List Cell) → list_all (is_settled plan marks) cells ≡ true → IsPermutation cells listed → AreSaneGroups plan marks listed → AreSaneCells plan marks cells
  sane_from cells listed settled moved sane = record {
    at_groups = All-weaker (λ cell. is_settled plan marks cell ≡ true) (IsAtGroup plan) (λ cell h. (parts cell h).0) cells each;
    once = record { each = λ node key group. (groups.each node key group).once };
    merged = record { each = λ node key group. (groups.each node key group).merged };
    settled = All-weaker (λ cell. is_settled plan marks cell ≡ true) (FiresNoMore plan marks) (λ cell h. (parts cell h).1) cells each;
    apart = record { each = λ node key group merges. (groups.each node key group).apart merges };
  }
    where
      each : All (λ cell. is_settled plan marks cell ≡ true) cells
      each = all_pass (is_settled plan marks) cells settled

      groups : AreSaneGroups plan marks cells
      groups = groups_moved plan marks listed cells (IsPermutation-sym cells listed moved) sane

  pub groups_from : (cells listed : List Cell) → IsPermutation cells listed → AreSaneCells plan marks cells → AreSaneGroups plan marks listed
  groups_from cells listed moved sane = groups_moved plan marks cells listed moved (record {
    each = λ node key group. record {
      once = sane.once.each node key group;
      merged = sane.merged.each node key group;
      apart = sane.apart.each node key group;
    };
  })

  pub settled_from : (cells : List Cell) → AreSaneCells plan marks cells → list_all (is_settled plan marks) cells ≡ true
  settled_from cells sane = passes_all (is_settled plan marks) cells (λ k d within. from_parts (get_or cells k d) (sane.at_groups k d within) (sane.settled k d within))
