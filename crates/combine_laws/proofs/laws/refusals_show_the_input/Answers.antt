use Rattle.combine_laws.proofs.Causes.{meets_many, meets_part, meets_poison, meets_sum}
use Rattle.combine_laws.proofs.laws.refusals_show_the_input.Goals as goal

pub returns : goal.returns
returns c = record {
  part = meets_part;
  many = meets_many;
  sum = meets_sum;
  poison = meets_poison;
}
