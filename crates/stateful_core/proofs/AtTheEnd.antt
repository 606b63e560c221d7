-- Where no cell is ready or worked, nothing waits and no timer is set: every timer is due once nothing else holds the marks back.
use Rattle.std.proofs.Common.{◌≡◌, ℕ, zero, suc, ◌<◌, ◌≤◌, ℤ, ◌≤ℤ◌, Bool, true, false, cond, List, [], ◌∷◌, ◌++◌, length, map, Option, Some, None, refl, ap, subst, ◌∙◌, inl, inr, arith}
use Rattle.std.specs.Prelude.{slice_get, fold, int_le, ◌||◌, ◌==◌}
use Rattle.std.specs.Int.{int_min}
use Rattle.std.specs.List.{All, filter, flat_map, slice_index_or}
use Rattle.std.proofs.lemmas.Bool.{cases_lt, cases_eq, ne_eqb, and_cases, or_parts}
use Rattle.std.proofs.lemmas.Int.{ints, clamps}
use Rattle.std.proofs.lemmas.List.Elements.{All-nil, All-cons, All-head, All-tail, filter-append}
use Rattle.beam_values.specs.Marks.{least_mark, marks_at, mark_into, AreMarks}
use Rattle.beam_values.specs.States.{timer_of}
use Rattle.beam_values.specs.Times.{greatest_time, final_mark}
use Rattle.beam_values.specs.declared.log.Timer.{Timer}
use Rattle.beam_values.specs.declared.marks.CommitMarks.{CommitMarks}
use Rattle.beam_values.specs.declared.marks.StageMarks.{StageMarks}
use Rattle.beam_values.specs.declared.plan.Node.{Node}
use Rattle.beam_values.specs.declared.plan.NodeKind.TheVariants.{Flatten}
use Rattle.beam_values.specs.declared.plan.Plan.{Plan}
use Rattle.beam_model.specs.Holds.{Hold, least_hold}
use Rattle.stateful_core.specs.Cells.{KeyCell, element_hold, timer_hold, cell_holds, key_holds}
use Rattle.stateful_core.specs.declared.waiting.Waiting.{Waiting}
use Rattle.stateful_core.specs.Facts.{AreKeysSane, IsCellThrough}
use Rattle.stateful_core.specs.Taking.{first_timer, if_due, is_some, is_free, has_waiting, is_ready, next_place}
use Rattle.stateful_core.proofs.FirstTimer.{is_first, no_first}
use Rattle.stateful_core.proofs.NextReady.{next_none}
use Rattle.stateful_core.proofs.OfSane.{cell_time, cell_within}

-- ---- a free cell that isn't ready where the mark is final

module _ (marks : List StageMarks) (cell : KeyCell) where
  abbrev mark : ℤ
  mark = (marks_at marks cell.log.node).mark_in

  none_waits : (waiting : List Waiting) → has_waiting waiting ≡ false → waiting ≡ []
  none_waits [] e = refl
  none_waits (w ∷ ws) e = absurd (cc)

  none_due : mark ≡ final_mark → ((name : ℕ) (time : ℤ) → timer_of cell.kept.timers name ≡ Some time → time ≤ℤ greatest_time)
      → (found : Option Timer) → first_timer cell.kept.timers ≡ found → is_some (if_due mark found) ≡ false → (name : ℕ) → timer_of cell.kept.timers name ≡ None
  none_due final bound None e off = no_first cell.kept.timers e
  none_due final bound (Some timer) e off =
      absurd (by (int_le timer.time mark) refl off)
    where
      at : timer.time ≤ℤ greatest_time
      at = bound timer.name timer.time (is_first cell.kept.timers timer e).is_set

      by : (b : Bool) → int_le timer.time mark ≡ b → is_some (cond b (Some timer) None) ≡ false → ⊥
      by true f k = cc
      by false f k = omega (arith, ints, at, final)

  through : mark ≡ final_mark → ((name : ℕ) (time : ℤ) → timer_of cell.kept.timers name ≡ Some time → time ≤ℤ greatest_time)
      → is_free cell ≡ true → is_ready marks cell ≡ false → IsCellThrough cell
  through final bound free off =
      elim (and_cases (is_free cell) (has_waiting cell.waiting || is_some (if_due mark (first_timer cell.kept.timers))) off) [
        | inl taken ↦ absurd (both (is_free cell) free taken)
        | inr off2 ↦
            let parts = or_parts (has_waiting cell.waiting) (is_some (if_due mark (first_timer cell.kept.timers))) off2 in
            (none_waits cell.waiting parts.0, none_due final bound (first_timer cell.kept.timers) refl parts.1)
      ]
    where
      both : (b : Bool) → b ≡ true → b ≡ false → ⊥
      both b e f = cc

-- ---- no hold is left of it

unset_holds : (node : ℕ) (holds : List (Option ℤ)) → ((name : ℕ) → is_some (timer_of holds name) ≡ false) → flat_map (timer_hold node) holds ≡ []
unset_holds node [] h = refl
unset_holds node (None ∷ holds) h = unset_holds node holds (λ name. h (suc name))
unset_holds node (Some mark ∷ holds) h = absurd (let e = h 0 in cc)

pub no_holds : (cell : KeyCell) → ((name : ℕ) → is_some (timer_of cell.timer_holds name) ≡ is_some (timer_of cell.kept.timers name)) → IsCellThrough cell → cell_holds cell ≡ []
no_holds cell same h =
    ap (λ (ws : List Waiting). map (element_hold cell.log.node) ws ++ flat_map (timer_hold cell.log.node) cell.timer_holds) h.0
    ∙ unset_holds cell.log.node cell.timer_holds (λ name. same name ∙ ap is_some (h.1 name))

-- holds of other nodes
abbrev pub at_node : ℕ → Hold → Bool
at_node n hold = hold.node == n

other_elements : (n node : ℕ) → (node == n) ≡ false → (waiting : List Waiting) → filter (at_node n) (map (element_hold node) waiting) ≡ []
other_elements n node e [] = refl
other_elements n node e (w ∷ waiting) =
    ap (λ b. cond b (element_hold node w ∷ filter (at_node n) (map (element_hold node) waiting)) (filter (at_node n) (map (element_hold node) waiting))) e
    ∙ other_elements n node e waiting

other_timers : (n node : ℕ) → (node == n) ≡ false → (holds : List (Option ℤ)) → filter (at_node n) (flat_map (timer_hold node) holds) ≡ []
other_timers n node e [] = refl
other_timers n node e (None ∷ holds) = other_timers n node e holds
other_timers n node e (Some mark ∷ holds) =
    ap (λ b. cond b (record { node = node; mark = mark } ∷ filter (at_node n) (flat_map (timer_hold node) holds)) (filter (at_node n) (flat_map (timer_hold node) holds))) e
    ∙ other_timers n node e holds

pub other_holds : (n : ℕ) (cell : KeyCell) → (cell.log.node == n) ≡ false → filter (at_node n) (cell_holds cell) ≡ []
other_holds n cell e =
    filter-append (at_node n) (map (element_hold cell.log.node) cell.waiting) (flat_map (timer_hold cell.log.node) cell.timer_holds)
    ∙ ap (λ (l : List Hold). l ++ filter (at_node n) (flat_map (timer_hold cell.log.node) cell.timer_holds)) (other_elements n cell.log.node e cell.waiting)
    ∙ other_timers n cell.log.node e cell.timer_holds

none_at : (n : ℕ) (cells : List KeyCell) → All (λ c. c.log.node ≡ n → cell_holds c ≡ []) cells → filter (at_node n) (key_holds cells) ≡ []
none_at n [] h = refl
none_at n (cell ∷ cells) h =
    let rest = none_at n cells (All-tail (λ (c : KeyCell). c.log.node ≡ n → cell_holds c ≡ []) cell cells h) in
    let own : filter (at_node n) (cell_holds cell) ≡ [] =
    elim (cases_eq cell.log.node n) [
      | inl e ↦ ap (filter (at_node n)) (All-head (λ (c : KeyCell). c.log.node ≡ n → cell_holds c ≡ []) cell cells h e)
      | inr ne ↦ other_holds n cell (ne_eqb cell.log.node n ne)
    ] in
    filter-append (at_node n) (cell_holds cell) (key_holds cells) ∙ ap (λ (l : List Hold). l ++ filter (at_node n) (key_holds cells)) own ∙ rest

-- ---- node by node

min_final : int_min final_mark final_mark ≡ final_mark
min_final = omega (arith, ints, clamps)

all_final : (marks : List ℤ) → All (λ m. m ≡ final_mark) marks → least_mark marks ≡ final_mark
all_final [] h = refl
all_final (m ∷ marks) h =
    ap (λ (x : ℤ). fold int_min (int_min final_mark x) marks) (All-head (λ (x : ℤ). x ≡ final_mark) m marks h)
    ∙ ap (λ (x : ℤ). fold int_min x marks) min_final ∙ all_final marks (All-tail (λ (x : ℤ). x ≡ final_mark) m marks h)

module _ (plan : Plan) (commits : List CommitMarks) (marks : List StageMarks) (cells : List KeyCell) (sane : AreKeysSane plan commits cells)
    (lower : (n : ℕ) (node : Node) → slice_get plan.nodes n ≡ Some node → All (λ input. input < n) node.inputs)
    (are : AreMarks plan (least_hold (key_holds cells)) marks) (free : All (λ c. is_free c ≡ true) cells) (none : next_place marks cells ≡ None) where
  abbrev IsFinal : ℕ → Type 0
  IsFinal n = (marks_at marks n).mark_out ≡ final_mark

  into : (inputs : List ℕ) (n : ℕ) → ((i : ℕ) → i < n → IsFinal i) → All (λ input. input < n) inputs → All (λ m. m ≡ final_mark) (map (λ input. (marks_at marks input).mark_out) inputs)
  into [] n before h = All-nil (λ (m : ℤ). m ≡ final_mark)
  into (i ∷ inputs) n before h =
      All-cons (λ (m : ℤ). m ≡ final_mark) (marks_at marks i).mark_out (map (λ input. (marks_at marks input).mark_out) inputs)
      (before i (All-head (λ (x : ℕ). x < n) i inputs h)) (into inputs n before (All-tail (λ (x : ℕ). x < n) i inputs h))

  abbrev IsDoneAt : ℕ → KeyCell → Type 0
  IsDoneAt n c = c.log.node ≡ n → IsCellThrough c

  got : {X : Type 0} (xs : List X) (k : ℕ) (d : X) → k < length xs → slice_get xs k ≡ Some (slice_index_or xs k d)
  got [] k d h = absurd (omega arith)
  got (x ∷ xs) zero d h = refl
  got (x ∷ xs) (suc k) d h = got xs k d (omega arith)

  at_final : (n : ℕ) → (marks_at marks n).mark_in ≡ final_mark → All (IsDoneAt n) cells
  at_final n final k d less e =
      let cell = slice_index_or cells k d in
      through marks cell (ap (λ i. (marks_at marks i).mark_in) e ∙ final)
      (cell_time plan commits cell (sane.each k d less)) (free k d less) (next_none marks cells none k cell (got cells k d less))

  no_holds_at : (n : ℕ) → All (IsDoneAt n) cells → All (λ c. c.log.node ≡ n → cell_holds c ≡ []) cells
  no_holds_at n done k d less e = no_holds (slice_index_or cells k d) (sane.each k d less).holds (done k d less e)

  step : (n : ℕ) → n < length plan.nodes → ((i : ℕ) → i < n → IsFinal i) → IsFinal n × All (IsDoneAt n) cells
  step n less before =
      let node = slice_index_or plan.nodes n (record { kind = Flatten; inputs = [] }) in
      let at : slice_get plan.nodes n ≡ Some node = got plan.nodes n (record { kind = Flatten; inputs = [] }) less in
      let is = are.each n node at in
      let final_in : mark_into marks node.inputs ≡ final_mark = all_final (map (λ input. (marks_at marks input).mark_out) node.inputs) (into node.inputs n before (lower n node at)) in
      let done = at_final n (ap (λ (s : StageMarks). s.mark_in) is ∙ final_in) in
      let hold : least_hold (key_holds cells) n ≡ final_mark = ap (λ (l : List Hold). least_mark (map (λ (h : Hold). h.mark) l)) (none_at n cells (no_holds_at n done)) in
      (ap (λ (s : StageMarks). s.mark_out) is ∙ ap (λ (m : ℤ). int_min m (least_hold (key_holds cells) n)) final_in ∙ ap (int_min final_mark) hold ∙ min_final, done)

  upto : (n : ℕ) → n ≤ length plan.nodes → (i : ℕ) → i < n → IsFinal i × All (IsDoneAt i) cells
  upto zero h i less = absurd (omega arith)
  upto (suc n) h i less =
      let before = upto n (omega (arith, h)) in
      elim (cases_lt i n) [
        | inl lt ↦ before i lt
        | inr ge ↦ subst (λ (k : ℕ). IsFinal k × All (IsDoneAt k) cells) (omega (arith, less, ge)) (step n (omega (arith, h)) (λ k lt. (before k lt).0))
      ]

  pub nothing_left : All IsCellThrough cells
  nothing_left k d less =
      let cell = slice_index_or cells k d in
      let inside = cell_within plan commits cell (sane.each k d less) in
      (upto (length plan.nodes) (omega arith) cell.log.node inside).1 k d less refl

  pub all_marks_final : (n : ℕ) → n < length plan.nodes → (marks_at marks n).mark_out ≡ final_mark
  all_marks_final n less = (upto (length plan.nodes) (omega arith) n less).0
