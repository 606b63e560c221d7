use Rattle.std.proofs.Common.{◌≡◌, ℕ, zero, suc, [], ◌∷◌, refl}
use Rattle.beam_values.specs.Times.{final_mark}
use Rattle.watermarks.specs.Holds.{hold_at}
use Rattle.group_cells.proofs.RisenMarks.{rises_to_final}
use Rattle.book_tests.proofs.groups.a_group_takes_elements_and_fires_at_the_end.Goals as goal

all_final : (n : ℕ) → hold_at (final_mark ∷ final_mark ∷ final_mark ∷ []) n ≡ final_mark
all_final zero = refl
all_final (suc zero) = refl
all_final (suc (suc zero)) = refl
all_final (suc (suc (suc n))) = refl

pub commit-requires-clause-rises : goal.commit-requires-clause-rises
commit-requires-clause-rises g c =
    rises_to_final c.in_ok-plan.plan _ (hold_at (final_mark ∷ final_mark ∷ final_mark ∷ [])) c.stage_marks.new.marks c.in_ok-plan.ensures.checked c.stage_marks.ensures all_final
