-- The least hold of a cell.
use Rattle.std.proofs.Common.{◌≡◌, ℕ, ℤ, cond, List, [], ◌∷◌, ◌++◌, map, drop, Option, Some, None, refl, sym, ap, ◌∙◌}
use Rattle.std.specs.Prelude.{fold, ◌==◌, unwrap_or}
use Rattle.std.specs.Int.{int_min}
use Rattle.std.specs.List.{filter, flat_map}
use Rattle.std.proofs.lemmas.Bool.{eq-eqb, ne_eqb}
use Rattle.beam_values.specs.Marks.{least_mark, marks_at}
use Rattle.beam_values.specs.Times.{final_mark}
use Rattle.beam_values.specs.declared.marks.StageMarks.{StageMarks}
use Rattle.beam_model.specs.Holds.{Hold, least_hold, marks_held}
use Rattle.stateful_core.specs.Cells.{KeyCell, cell_holds, element_hold, timer_hold}
use Rattle.stateful_core.specs.Least.{holds_from}
use Rattle.stateful_core.specs.Minima.{lowered}
use Rattle.stateful_core.specs.Placing.{Done, timer_holds_after, with_done}
use Rattle.stateful_core.specs.Queues.{holds_of}
use Rattle.stateful_core.specs.declared.waiting.Waiting.{Waiting}

own_held : (node : ℕ) (hold : ℤ) (holds : List Hold) (mark : ℤ) → fold int_min mark (marks_held ((record { node = node; mark = hold }) ∷ holds) node) ≡ fold int_min (int_min mark hold) (marks_held holds node)
own_held node hold holds mark =
    ap (λ b. fold int_min mark (map (λ (h : Hold). h.mark) (cond b ((record { node = node; mark = hold }) ∷ filter (λ h. h.node == node) holds) (filter (λ h. h.node == node) holds)))) (eq-eqb node node refl)

other_held : (node n : ℕ) (hold : ℤ) (holds : List Hold) → (node ≡ n → ⊥) → marks_held ((record { node = node; mark = hold }) ∷ holds) n ≡ marks_held holds n
other_held node n hold holds differ =
    ap (λ b. map (λ (h : Hold). h.mark) (cond b ((record { node = node; mark = hold }) ∷ filter (λ h. h.node == n) holds) (filter (λ h. h.node == n) holds))) (ne_eqb node n differ)

-- ---- element by element, and timer by timer

elements_least : (node : ℕ) (waiting : List Waiting) (holds : List Hold) (mark : ℤ)
    → fold int_min mark (marks_held (map (element_hold node) waiting ++ holds) node) ≡ fold int_min (fold int_min mark (holds_of waiting)) (marks_held holds node)
elements_least node [] holds mark = refl
elements_least node (w ∷ waiting) holds mark = own_held node w.hold (map (element_hold node) waiting ++ holds) mark ∙ elements_least node waiting holds (int_min mark w.hold)

timers_least : (node : ℕ) (timers : List (Option ℤ)) (mark : ℤ) → fold int_min mark (marks_held (flat_map (timer_hold node) timers) node) ≡ fold lowered mark timers
timers_least node [] mark = refl
timers_least node (None ∷ timers) mark = timers_least node timers mark
timers_least node (Some hold ∷ timers) mark = own_held node hold (flat_map (timer_hold node) timers) mark ∙ timers_least node timers (int_min mark hold)

pub least_from : (node from : ℕ) (waiting : List Waiting) (timers : List (Option ℤ)) (least : ℤ) → least ≡ fold int_min final_mark (holds_of (drop from waiting))
    → fold lowered least timers ≡ least_hold (holds_from node from waiting timers) node
least_from node from waiting timers least is =
    ap (λ m. fold lowered m timers) is ∙ sym (timers_least node timers (fold int_min final_mark (holds_of (drop from waiting))))
    ∙ sym (elements_least node (drop from waiting) (flat_map (timer_hold node) timers) final_mark)

pub done_holds : (before : List StageMarks) (done : Done) (cell : KeyCell) (from : ℕ) (mark : ℤ) (timers : List (Option ℤ)) → from ≡ unwrap_or cell.live 0
    → mark ≡ (marks_at before cell.log.node).mark_out → timers ≡ timer_holds_after mark cell.timer_holds cell.kept.timers done.kept.timers
    → holds_from cell.log.node from cell.waiting timers ≡ cell_holds (with_done before done cell)
done_holds before done cell from mark timers f m t = λ i.
    holds_from cell.log.node (f i) cell.waiting ((t ∙ ap (λ x. timer_holds_after x cell.timer_holds cell.kept.timers done.kept.timers) m) i)

-- ---- of another node

no_elements : (node n : ℕ) (waiting : List Waiting) (holds : List Hold) → (node ≡ n → ⊥) → marks_held (map (element_hold node) waiting ++ holds) n ≡ marks_held holds n
no_elements node n [] holds differ = refl
no_elements node n (w ∷ waiting) holds differ = other_held node n w.hold (map (element_hold node) waiting ++ holds) differ ∙ no_elements node n waiting holds differ

no_timers : (node n : ℕ) (timers : List (Option ℤ)) → (node ≡ n → ⊥) → marks_held (flat_map (timer_hold node) timers) n ≡ []
no_timers node n [] differ = refl
no_timers node n (None ∷ timers) differ = no_timers node n timers differ
no_timers node n (Some hold ∷ timers) differ = other_held node n hold (flat_map (timer_hold node) timers) differ ∙ no_timers node n timers differ

pub held_elsewhere : (cell : KeyCell) (n : ℕ) → (cell.log.node ≡ n → ⊥) → least_hold (cell_holds cell) n ≡ final_mark
held_elsewhere cell n differ =
    ap least_mark (no_elements cell.log.node n cell.waiting (flat_map (timer_hold cell.log.node) cell.timer_holds) differ ∙ no_timers cell.log.node n cell.timer_holds differ)
