use Rattle.split_core.proofs.Cutting.{held_same}
use Rattle.split_core.proofs.laws.the_order_of_items_and_ranges_is_no_matter.Goals as goal

pub returns : goal.returns
returns c = λ items others pending out outs. held_same items others pending out outs
