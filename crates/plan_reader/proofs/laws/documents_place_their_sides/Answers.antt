use Rattle.plan_reader.proofs.Sides.{sides_placed}
use Rattle.plan_reader.proofs.laws.documents_place_their_sides.Goals as goal

pub returns : goal.returns
returns c = sides_placed
