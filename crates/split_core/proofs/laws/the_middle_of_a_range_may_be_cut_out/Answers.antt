use Rattle.split_core.proofs.Cutting.{middle_cut_out}
use Rattle.split_core.proofs.laws.the_middle_of_a_range_may_be_cut_out.Goals as goal

pub returns : goal.returns
returns c = λ out rest others node item from s t to attempts seen. middle_cut_out out rest others node item from s t to attempts seen
