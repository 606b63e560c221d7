use Rattle.combine_plan.proofs.TakenParts.{all_taken, numbers_taken}
use Rattle.combine_plan.proofs.plan.combine_lifted.Goals as goal

pub combine_with-requires-clause-taken : goal.combine_with-requires-clause-taken
combine_with-requires-clause-taken g c κs within = λ acc parts stands. numbers_taken parts stands.numbers

pub combine_with-requires-in-CountSeq-clause-taken : goal.combine_with-requires-in-CountSeq-clause-taken
combine_with-requires-in-CountSeq-clause-taken g c κs within = λ acc parts stands. all_taken parts

pub combine_with-requires-in-MaxSeq-clause-taken : goal.combine_with-requires-in-MaxSeq-clause-taken
combine_with-requires-in-MaxSeq-clause-taken g c κs within = λ acc parts stands. numbers_taken parts stands.numbers
