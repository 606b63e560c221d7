use Rattle.std.proofs.lemmas.List.Elements.{All-from_recursion}
use Rattle.std.specs.Prelude.{◌≡◌, true}
use Rattle.beam_model.specs.Positions.{items}
use Rattle.beam_model.specs.Spread.{spread_all}
use Rattle.combine_laws.specs.Brought.{is_brought}
use Rattle.combine_laws.proofs.Causes.{all_brought}
use Rattle.combine_laws.proofs.laws.positions_bring_to_the_group.Goals as goal

pub returns : goal.returns
returns c plan checked files group function work liftable has =
    All-from_recursion (λ output. is_brought group output ≡ true) (spread_all plan (items files plan)) (all_brought plan checked files group function work liftable has)
