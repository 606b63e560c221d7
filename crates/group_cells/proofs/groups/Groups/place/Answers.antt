use Rattle.std.proofs.Common.{ap, ◌∙◌}
use Rattle.cell_index.specs.Places.{place_of}
use Rattle.group_cells.specs.Commits.{SeenGroups}
use Rattle.group_cells.proofs.groups.Groups.place.Goals as goal

pub returns-in-None : goal.returns-in-None
returns-in-None c =
    c.place_among.ensures ∙ ap (place_of c.args.node c.args.key.now c.args.span) (c.as_slice.ensures.value ∙ ap (λ (g : SeenGroups). g.cells) c.self.view_is)
