-- No mark falls where no hold does.
use Rattle.std.proofs.Common.{◌≡◌, ℕ, zero, suc, ◌<◌, ℤ, ◌≤ℤ◌, List, [], ◌∷◌, length, refl, ap, arith}
use Rattle.std.specs.Prelude.{Some, slice_get}
use Rattle.std.specs.Int.{int_min}
use Rattle.std.proofs.lemmas.Int.{clamps, ints}
use Rattle.beam_values.specs.Checked.{IsChecked}
use Rattle.beam_values.specs.Marks.{AreMarks, mark_into, marks_at}
use Rattle.beam_values.specs.Times.{final_mark}
use Rattle.beam_values.specs.declared.marks.StageMarks.{StageMarks}
use Rattle.beam_values.specs.declared.plan.Node.{Node}
use Rattle.beam_values.specs.declared.plan.Plan.{Plan}
use Rattle.watermarks.specs.Holds.{hold_at}
use Rattle.watermarks.proofs.Rising.{marks_rise}
use Rattle.group_cells.specs.Commits.{RisesFrom}

found : (nodes : List Node) (k : ℕ) → k < length nodes → (node : Node) × (slice_get nodes k ≡ Some node)
found [] k within = absurd (omega arith)
found (x ∷ nodes) zero within = (x, refl)
found (x ∷ nodes) (suc k) within = found nodes k (omega arith)

upto_hold : (s : StageMarks) (i h l : ℤ) → s ≡ record { mark_in = i; mark_out = int_min i h } → h ≤ℤ l → s.mark_out ≤ℤ l
upto_hold s i h l e le = let out = ap (λ (x : StageMarks). x.mark_out) e in omega (arith, ints, clamps, out, le)

same_upto : (x : ℤ) → x ≤ℤ x
same_upto x = omega (arith, ints)

upwards : (a b : ℤ) → a ≤ℤ b → (n : ℕ) → hold_at (a ∷ final_mark ∷ final_mark ∷ []) n ≤ℤ hold_at (b ∷ final_mark ∷ final_mark ∷ []) n
upwards a b le zero = le
upwards a b le (suc zero) = same_upto final_mark
upwards a b le (suc (suc zero)) = same_upto final_mark
upwards a b le (suc (suc (suc n))) = same_upto final_mark

pub rises_from : (plan : Plan) (a b : ℤ) (before : List StageMarks) → IsChecked plan → AreMarks plan (hold_at (a ∷ final_mark ∷ final_mark ∷ [])) before → a ≤ℤ b
    → RisesFrom plan (hold_at (b ∷ final_mark ∷ final_mark ∷ [])) before
rises_from plan a b before checked are le = λ marks become.
    marks_rise plan (hold_at (a ∷ final_mark ∷ final_mark ∷ [])) (hold_at (b ∷ final_mark ∷ final_mark ∷ [])) before marks checked are become (λ n within.
    let node = found plan.nodes n within in
    upto_hold (marks_at before n) (mark_into before node.0.inputs) (hold_at (a ∷ final_mark ∷ final_mark ∷ []) n) (hold_at (b ∷ final_mark ∷ final_mark ∷ []) n) (are.each n node.0 node.1) (upwards a b le n))
