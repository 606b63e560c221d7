-- A commit moves no mark before its job's node, nor the mark into it, and fires no pane there: node after node.
use Rattle.std.proofs.Common.{◌≡◌, ℕ, zero, suc, ◌<◌, ◌≤◌, ℤ, Bool, true, false, cond, List, [], ◌∷◌, ◌++◌, length, map, refl, sym, ap, subst, ◌∙◌, arith}
use Rattle.std.specs.Prelude.{Option, Some, None, ◌==◌, nat_lt, slice_get}
use Rattle.std.specs.List.{All}
use Rattle.std.proofs.lemmas.Bool.Decides.{nat_tests}
use Rattle.std.proofs.lemmas.List.{get_or_past}
use Rattle.std.proofs.lemmas.List.Elements.{All-nil, All-cons, All-head, All-tail, All-weaker}
use Rattle.beam_values.specs.Marks.{marks_at, node_marks}
use Rattle.beam_values.specs.Nodes.{is_group}
use Rattle.beam_values.specs.declared.arrival.Arrival.{Arrival}
use Rattle.beam_values.specs.declared.cell.Cell.{Cell}
use Rattle.beam_values.specs.declared.cell.Pane.{Pane}
use Rattle.beam_values.specs.declared.fault.FaultNote.{FaultNote}
use Rattle.beam_values.specs.declared.file_text.FileText.{FileText}
use Rattle.beam_values.specs.declared.marks.StageMarks.{StageMarks}
use Rattle.beam_values.specs.declared.plan.Node.{Node}
use Rattle.beam_values.specs.declared.plan.Plan.{Plan}
use Rattle.beam_model.specs.Holds.{Hold, pane_hold, least_hold}
use Rattle.bundle_commit.specs.declared.job.Logged.{Logged}
use Rattle.bundle_commit.specs.declared.job.Receipt.{Receipt}
use Rattle.group_cells.proofs.KeptSane.{quiet_kept}
use Rattle.watermarks.proofs.CheckedNodes.{inputs_lower}
use Rattle.watermarks.proofs.NodeMarks.{final_stage, marks_at-is, node_marks-alike}
use Rattle.book_core.specs.Book.{SeenBook, last_marks}
use Rattle.book_core.specs.Changes.{with_slot, committed, key_done_of, keys_after, residual_of}
use Rattle.book_core.specs.Committing.{job_holds, node_of, pane_holds, residual_holds, residual_in, residual_with}
use Rattle.std.specs.Int.{int_min}
use Rattle.stateful_core.specs.Cells.{key_holds}
use Rattle.stateful_core.specs.KeyWork.{numbered_entry}
use Rattle.stateful_core.specs.Placing.{place}
use Rattle.stateful_core.specs.declared.key_job.KeyTurn.{KeyTurn}
use Rattle.stateful_core.proofs.KeyCommit.{least_stays}
use Rattle.book_core.specs.Facts.{AreTurnsKept}
use Rattle.book_core.specs.Indexes.{all_holds, own_holds}
use Rattle.book_core.specs.Sane.{IsSane}
use Rattle.book_core.specs.Steps.{IsWorking}
use Rattle.book_core.specs.Work.{worked_to}
use Rattle.book_core.specs.declared.live.Live.{Live}
use Rattle.book_core.specs.declared.live.Live.TheVariants as live
use Rattle.book_core.specs.declared.live.WaitingPane.{WaitingPane}
use Rattle.book_core.proofs.Cases.{Commits}
use Rattle.book_core.proofs.CommitHolds.{after_commit, without_job}
use Rattle.book_core.proofs.HeldOnce.{group_within}
use Rattle.book_core.proofs.HoldBags.{least_of_all, least_of_bag}
use Rattle.book_core.proofs.KeysKept.{keys_elsewhere}
use Rattle.book_core.proofs.LeastHolds.{least_without}
use Rattle.book_core.proofs.Onward.{ArriveBehind, given_arrives}
use Rattle.book_core.proofs.Turns.{turn_at}

-- ---- holds of other nodes are no matter

other_node : (n m : ℕ) → m < n → (n == m) ≡ false
other_node n m less = grind (arith, nat_tests)

job_elsewhere : (plan : Plan) (job : Live) (m : ℕ) → m < node_of job → All (λ (h : Hold). (h.node == m) ≡ false) (job_holds plan job)
job_elsewhere plan (live.Span piece attempted) m less = All-cons (λ (h : Hold). (h.node == m) ≡ false) _ [] (other_node piece.node m less) (All-nil (λ (h : Hold). (h.node == m) ≡ false))
job_elsewhere plan (live.Batch batch) m less = each batch.panes
  where
    each : (panes : List WaitingPane) → All (λ (h : Hold). (h.node == m) ≡ false) (pane_holds batch.node panes)
    each [] = All-nil (λ (h : Hold). (h.node == m) ≡ false)
    each (w ∷ ws) = All-cons (λ (h : Hold). (h.node == m) ≡ false) _ (pane_holds batch.node ws) (other_node batch.node m less) (each ws)
job_elsewhere plan (live.Key turn) m less = All-nil (λ (h : Hold). (h.node == m) ≡ false)

residual_elsewhere : (plan : Plan) (job : Live) (receipt : Receipt) (m : ℕ) → m < node_of job → All (λ (h : Hold). (h.node == m) ≡ false) (residual_holds plan (residual_in job receipt))
residual_elsewhere plan (live.Batch batch) receipt m less = All-nil (λ (h : Hold). (h.node == m) ≡ false)
residual_elsewhere plan (live.Key turn) receipt m less = All-nil (λ (h : Hold). (h.node == m) ≡ false)
residual_elsewhere plan (live.Span piece attempted) receipt m less = by_spent piece.spent (by (nat_lt (worked_to piece attempted) piece.range.to))
  where
    by_spent : (spent : Option FaultNote) → All (λ (h : Hold). (h.node == m) ≡ false) (residual_holds plan (residual_of piece attempted receipt))
        → All (λ (h : Hold). (h.node == m) ≡ false) (residual_holds plan (residual_with spent piece attempted receipt))
    by_spent None h = h
    by_spent (Some note) h = All-nil (λ (h : Hold). (h.node == m) ≡ false)

    by : (t : Bool) → All (λ (h : Hold). (h.node == m) ≡ false) (residual_holds plan (cond t (Some (record piece { range = record { from = worked_to piece attempted; to = piece.range.to }; seen = receipt.seen; attempts = 0 })) None))
    by true = All-cons (λ (h : Hold). (h.node == m) ≡ false) _ [] (other_node piece.node m less) (All-nil (λ (h : Hold). (h.node == m) ≡ false))
    by false = All-nil (λ (h : Hold). (h.node == m) ≡ false)

-- key cells hold a node before the job's as they did
keys_still : (b : SeenBook) (slot : ℕ) (job : Live) (receipt : Receipt) (m : ℕ) → AreTurnsKept b → IsWorking b slot job → m < node_of job → All (λ (a : Arrival). a.node ≡ m → ⊥) receipt.arrivals
    → least_hold (key_holds (keys_after b job receipt)) m ≡ least_hold (key_holds b.keys) m
keys_still b slot (live.Span piece attempted) receipt m turns works less none = keys_elsewhere b.plan (last_marks b) receipt.arrivals b.keys m none
keys_still b slot (live.Batch batch) receipt m turns works less none = keys_elsewhere b.plan (last_marks b) receipt.arrivals b.keys m none
keys_still b slot (live.Key turn) receipt m turns works less none = by receipt.logged
  where
    differs : (k : ℕ) → turn.node ≡ k → k ≡ m → ⊥
    differs k is at = omega (arith, is, at, less)

    by : (logged : Option Logged) → least_hold (key_holds (place b.plan (last_marks b) (key_done_of (length b.commits) turn.cell logged) receipt.arrivals b.keys)) m ≡ least_hold (key_holds b.keys) m
    by None = keys_elsewhere b.plan (last_marks b) receipt.arrivals b.keys m none
    by (Some logged) =
        let own = turn_at b slot turn turns works in
        least_stays b.plan (last_marks b) (record {
          cell = turn.cell;
          kept = record { cells = logged.state; timers = logged.timers };
          entries = map (numbered_entry (length b.commits)) logged.entries;
        }) receipt.arrivals b.keys own.cell m own.is_at (differs own.cell.log.node (ap (λ (t : KeyTurn). t.node) own.is)) none

-- none of the panes is of this node
abbrev pub NoneAt : ℕ → List Pane → Type 0
NoneAt m panes = All (λ (p : Pane). p.node ≡ m → ⊥) panes

panes_elsewhere : (before : List StageMarks) (m : ℕ) (panes : List Pane) → NoneAt m panes → All (λ (h : Hold). (h.node == m) ≡ false) (map (pane_hold before) panes)
panes_elsewhere before m [] none = All-nil (λ (h : Hold). (h.node == m) ≡ false)
panes_elsewhere before m (p ∷ ps) none =
    All-cons (λ (h : Hold). (h.node == m) ≡ false) (pane_hold before p) (map (pane_hold before) ps) (differs p.node m (All-head (λ (q : Pane). q.node ≡ m → ⊥) p ps none))
    (panes_elsewhere before m ps (All-tail (λ (q : Pane). q.node ≡ m → ⊥) p ps none))
  where
    differs : (a b : ℕ) → (a ≡ b → ⊥) → (a == b) ≡ false
    differs a b other = grind (arith, nat_tests)

-- ---- a commit

module _ (told : Option (List FileText)) (b : SeenBook) (slot : ℕ) (job : Live) (receipt : Receipt) (cells : List Cell) (fired : List Pane) (marks : List StageMarks)
    (sane : IsSane b) (made : Commits told b slot job receipt cells fired marks) where
  abbrev n : ℕ
  n = node_of job

  abbrev before : List StageMarks
  before = last_marks b

  behind : ArriveBehind n receipt.arrivals
  behind = given_arrives told b.plan sane.formed.checked b.panes job receipt made.given

  at_groups : All (λ p. is_group b.plan p.node ≡ true) fired
  at_groups = made.rounds.at_groups

  -- a Group to which nothing came, and into which no mark moved
  none_here : (m : ℕ) → m ≤ n → (marks_at before m).mark_in ≡ (marks_at marks m).mark_in → is_group b.plan m ≡ true → NoneAt m fired
  none_here m upto same group =
      (quiet_kept b.plan (length b.commits) before marks receipt.arrivals b.cells cells fired m group sane.cells.cells
      (All-weaker (λ (a : Arrival). n < a.node) (λ (a : Arrival). a.node ≡ m → ⊥) (λ a less is. above a.node less is) receipt.arrivals behind) same made.rounds).0
    where
      above : (k : ℕ) → n < k → k ≡ m → ⊥
      above k less is = omega (arith, less, is, upto)

  -- ---- node after node

  -- the mark into a node up to the job's stays, and nothing fires there; before the job's node, so does the mark after it
  pub record IsStill (m : ℕ) : Type 0 where
    pub into : m ≤ n → (marks_at before m).mark_in ≡ (marks_at marks m).mark_in
    pub none : m ≤ n → NoneAt m fired
    pub after : m < n → marks_at before m ≡ marks_at marks m

  none_of : (m : ℕ) → m ≤ n → (marks_at before m).mark_in ≡ (marks_at marks m).mark_in → NoneAt m fired
  none_of m upto same = by (is_group b.plan m) refl
    where
      by : (t : Bool) → is_group b.plan m ≡ t → NoneAt m fired
      by true group = none_here m upto same group
      by false off = All-weaker (λ (p : Pane). is_group b.plan p.node ≡ true) (λ (p : Pane). p.node ≡ m → ⊥) (λ p is at. clash p.node is at) fired at_groups
        where
          clash : (k : ℕ) → is_group b.plan k ≡ true → k ≡ m → ⊥
          clash k is at = let no : true ≡ false = sym is ∙ ap (is_group b.plan) at ∙ off in absurd (cc)

  at_nodes : All (λ p. p.node < length b.queues) fired
  at_nodes =
      All-weaker (λ (p : Pane). is_group b.plan p.node ≡ true) (λ (p : Pane). p.node < length b.queues)
      (λ p e. subst (λ (k : ℕ). p.node < k) (sym sane.formed.queues) (group_within b.plan p.node e)) fired at_groups

  all_elsewhere : (m : ℕ) → m < n → All (λ (a : Arrival). a.node ≡ m → ⊥) receipt.arrivals
  all_elsewhere m less = All-weaker (λ (a : Arrival). n < a.node) (λ (a : Arrival). a.node ≡ m → ⊥) (λ a behind_job is. beyond_it a.node behind_job is) receipt.arrivals behind
    where
      beyond_it : (k : ℕ) → n < k → k ≡ m → ⊥
      beyond_it k above is = omega (arith, above, is, less)

  same_own : (m : ℕ) → m < n → NoneAt m fired → least_hold (own_holds b) m ≡ least_hold (own_holds (committed b slot job receipt cells fired marks)) m
  same_own m less none =
      let without = own_holds (with_slot b slot None) in
      let left = residual_holds b.plan (residual_in job receipt) in
      least_of_bag (own_holds b) (job_holds b.plan job ++ without) (without_job b slot job made.works) m
      ∙ least_without (job_holds b.plan job) without m (job_elsewhere b.plan job m less)
      ∙ sym (least_without left without m (residual_elsewhere b.plan job receipt m less))
      ∙ sym (least_without (map (pane_hold before) fired) (left ++ without) m (panes_elsewhere before m fired none))
      ∙ least_of_bag (map (pane_hold before) fired ++ (left ++ without)) (own_holds (committed b slot job receipt cells fired marks)) (after_commit b slot job receipt cells fired marks at_nodes) m

  same_hold : (m : ℕ) → m < n → NoneAt m fired → least_hold (all_holds b) m ≡ least_hold (all_holds (committed b slot job receipt cells fired marks)) m
  same_hold m less none =
      least_of_all b m
      ∙ ap (λ (k : ℤ). int_min k (least_hold (own_holds b) m)) (sym (keys_still b slot job receipt m sane.turns made.works less (all_elsewhere m less)))
      ∙ ap (λ (k : ℤ). int_min (least_hold (key_holds (keys_after b job receipt)) m) k) (same_own m less none)
      ∙ sym (least_of_all (committed b slot job receipt cells fired marks) m)

  past : (m : ℕ) → length b.plan.nodes ≤ m → marks_at before m ≡ marks_at marks m
  past m out =
      marks_at-is before m ∙ get_or_past before m final_stage (omega (arith, sane.marks.last.sized, out))
      ∙ sym (marks_at-is marks m ∙ get_or_past marks m final_stage (omega (arith, made.marked.sized, out)))

  still_past : (m : ℕ) → length b.plan.nodes ≤ m → IsStill m
  still_past m out =
      let same = ap (λ (s : StageMarks). s.mark_in) (past m out) in
      record { into = λ upto. same; none = λ upto. none_of m upto same; after = λ less. past m out }

  still_node : (m : ℕ) (node : Node) → slice_get b.plan.nodes m ≡ Some node → ((k : ℕ) → k < m → IsStill k) → IsStill m
  still_node m node at earlier_nodes = record { into = into; none = λ upto. none_of m upto (into upto); after = after }
    where
      inputs_same : m ≤ n → (h : ℤ) → node_marks before node.inputs h ≡ node_marks marks node.inputs h
      inputs_same upto h =
          node_marks-alike before marks m node h (λ k less. (earlier_nodes k less).after (omega (arith, less, upto))) (inputs_lower b.plan m node sane.formed.checked at)

      into : m ≤ n → (marks_at before m).mark_in ≡ (marks_at marks m).mark_in
      into upto =
          ap (λ (s : StageMarks). s.mark_in) (sane.marks.last.each m node at)
          ∙ ap (λ (s : StageMarks). s.mark_in) (inputs_same upto (least_hold (all_holds b) m))
          ∙ sym (ap (λ (s : StageMarks). s.mark_in) (made.marked.each m node at))

      after : m < n → marks_at before m ≡ marks_at marks m
      after less =
          let upto : m ≤ n = omega (arith, less) in
          sane.marks.last.each m node at
          ∙ inputs_same upto (least_hold (all_holds b) m)
          ∙ ap (node_marks marks node.inputs) (same_hold m less (none_of m upto (into upto)))
          ∙ sym (made.marked.each m node at)

  pub still_upto : (bound m : ℕ) → m < bound → IsStill m
  still_upto zero m less = absurd (omega (arith, less))
  still_upto (suc bound) m less = by (slice_get b.plan.nodes m) refl (λ k lower. still_upto bound k (omega (arith, lower, less)))
    where
      beyond : (nodes : List Node) (k : ℕ) → slice_get nodes k ≡ None → length nodes ≤ k
      beyond [] k e = omega arith
      beyond (x ∷ nodes) zero e = absurd (cc)
      beyond (x ∷ nodes) (suc k) e = omega (arith, beyond nodes k e)

      by : (found : Option Node) → slice_get b.plan.nodes m ≡ found → ((k : ℕ) → k < m → IsStill k) → IsStill m
      by None at earlier_nodes = still_past m (beyond b.plan.nodes m at)
      by (Some node) at earlier_nodes = still_node m node at earlier_nodes

  pub none_fires : (m : ℕ) → m ≤ n → NoneAt m fired
  none_fires m upto = (still_upto (suc m) m (omega arith)).none upto
