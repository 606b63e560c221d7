-- Marks at the nodes above one are marks, where what holds these back is.
use Rattle.std.proofs.Common.{◌≡◌, inl, inr, ℕ, zero, suc, ◌<◌, ℤ, true, List, [], ◌∷◌, length, map, get_or, refl, sym, subst, ◌∙◌, eq-eqb, arith}
use Rattle.std.specs.Prelude.{Some, ◌==◌, fold, slice_get}
use Rattle.std.specs.Int.{int_min}
use Rattle.std.specs.List.{All}
use Rattle.std.proofs.lemmas.Int.{ints, fold-int_min_reached}
use Rattle.std.proofs.lemmas.List.{get_or_past}
use Rattle.std.proofs.lemmas.List.Elements.{All-contains, All-map}
use Rattle.std.proofs.lemmas.Option.{slice_get-get_or, slice_get_cases}
use Rattle.beam_values.specs.Checked.{IsChecked}
use Rattle.beam_values.specs.Marks.{AreMarks, mark_into, marks_at}
use Rattle.beam_values.specs.Nodes.{is_above}
use Rattle.beam_values.specs.Times.{IsMark, final_mark}
use Rattle.beam_values.specs.declared.marks.StageMarks.{StageMarks}
use Rattle.beam_values.specs.declared.plan.Node.{Node}
use Rattle.beam_values.specs.declared.plan.Plan.{Plan}
use Rattle.beam_model.proofs.Above.{above_above, above_by_one_input, checked_inputs_lower}
use Rattle.stateful_core.proofs.Found.{any_at}
use Rattle.watermarks.proofs.NodeMarks.{final_stage, marks_at-is}
use Rattle.watermarks.proofs.Rising.{AreStageMarks}

final_is_mark : IsMark final_mark
final_is_mark = (omega (arith, ints), λ above. refl)

-- the least of marks is one
least_of : (a : ℤ) (xs : List ℤ) → IsMark a → All IsMark xs → IsMark (fold int_min a xs)
least_of a xs first all = elim (fold-int_min_reached a xs (fold int_min a xs) refl) [
  | inl same ↦ subst IsMark (sym same) first
  | inr among ↦ All-contains IsMark xs (fold int_min a xs) all among
]

module _ (plan : Plan) (hold : ℕ → ℤ) (marks : List StageMarks) (to : ℕ) (checked : IsChecked plan) (are : AreMarks plan hold marks)
    (holds : (n : ℕ) → is_above plan n to ≡ true → IsMark (hold n)) where
  -- each input of a node above is above too
  input_above : (n k d : ℕ) (node : Node) → slice_get plan.nodes n ≡ Some node → k < length node.inputs → is_above plan n to ≡ true → is_above plan (get_or node.inputs k d) to ≡ true
  input_above n k d node at inside above =
      let input = get_or node.inputs k d in
      let among = any_at (λ i. i == input) node.inputs k input (slice_get-get_or node.inputs k d inside) (eq-eqb input input refl) in
      above_above plan (checked_inputs_lower plan checked) input n (above_by_one_input plan input n input node at among (inl refl)) to above

  abbrev out : ℕ → ℤ
  out i = (marks_at marks i).mark_out

  pub marks_above : (bound n : ℕ) → n < bound → is_above plan n to ≡ true → AreStageMarks (marks_at marks n)
  marks_above zero n less above = absurd (omega (arith, less))
  marks_above (suc bound) n less above = by (λ i lower up. marks_above bound i (omega (arith, lower, less)) up)
    where
      only : (k : ℕ) (d : ℤ) → k < 1 → IsMark (get_or (hold n ∷ []) k d)
      only zero d inside = holds n above
      only (suc k) d inside = absurd (omega (arith, inside))

      here : ((i : ℕ) → i < n → is_above plan i to ≡ true → AreStageMarks (marks_at marks i)) → (node : Node) → slice_get plan.nodes n ≡ Some node → AreStageMarks (marks_at marks n)
      here earlier node at =
          let into : IsMark (mark_into marks node.inputs) =
          least_of final_mark (map out node.inputs) final_is_mark
          (All-map IsMark out node.inputs
          (λ k d inside. (earlier (get_or node.inputs k d) (checked_inputs_lower plan checked n node at k d inside) (input_above n k d node at inside above)).1)) in
          subst AreStageMarks (sym (are.each n node at)) (into, least_of (mark_into marks node.inputs) (hold n ∷ []) into only)

      by : ((i : ℕ) → i < n → is_above plan i to ≡ true → AreStageMarks (marks_at marks i)) → AreStageMarks (marks_at marks n)
      by earlier = elim (slice_get_cases plan.nodes n).1 [
        | inl found ↦ here earlier found.0 found.2
        | inr past ↦ subst AreStageMarks (sym (marks_at-is marks n ∙ get_or_past marks n final_stage (omega (arith, are.sized, past.0)))) (final_is_mark, final_is_mark)
      ]
