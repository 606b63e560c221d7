-- What holds of the cells of each Group and key holds of all cells of Groups.
use Rattle.std.proofs.Common.{◌≡◌, ℕ, true, List, get_or}
use Rattle.std.specs.List.{All}
use Rattle.std.proofs.lemmas.List.Elements.{All-contains, Contains-get_or}
use Rattle.beam_values.specs.Nodes.{is_group}
use Rattle.beam_values.specs.declared.cell.Cell.{Cell}
use Rattle.beam_values.specs.declared.plan.Plan.{Plan}
use Rattle.beam_values.specs.declared.value.Value.{Value}
use Rattle.beam_model.specs.Panes.{is_cell_at_key}
use Rattle.session_merge.proofs.Lists.{contains_filter}
use Rattle.group_cells.specs.Commits.{IsAtGroup, cells_keyed}
use Rattle.group_cells.proofs.Alike.{group_itself}

pub each_key : (plan : Plan) (Q : Cell → Type 0) (cells : List Cell) → All (IsAtGroup plan) cells
    → ((node : ℕ) (key : Value) → is_group plan node ≡ true → All Q (cells_keyed node key cells)) → All Q cells
each_key plan Q cells at each k d within =
    let cell = get_or cells k d in
    All-contains Q (cells_keyed cell.node cell.key cells) cell (each cell.node cell.key (at k d within))
    (contains_filter (is_cell_at_key cell.node cell.key) cells cell (Contains-get_or cells k d within) (group_itself cell.node cell.key))
