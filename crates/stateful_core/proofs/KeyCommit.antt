-- A commit of a key job from its receipt; and what no commit changes before the job's node.
use Rattle.std.proofs.Common.{◌≡◌, ℕ, zero, suc, ℤ, Bool, true, false, cond, List, [], ◌∷◌, ◌++◌, map, Option, Some, None, refl, sym, ap, ◌∙◌}
use Rattle.std.specs.Prelude.{slice_get, slice_set}
use Rattle.std.specs.List.{All, filter}
use Rattle.std.proofs.lemmas.Bool.{ne_eqb}
use Rattle.std.proofs.lemmas.List.{append-nil}
use Rattle.std.proofs.lemmas.List.Elements.{All-head, All-tail, filter-append}
use Rattle.std.proofs.lemmas.Option.{same_Some}
use Rattle.beam_values.specs.Marks.{least_mark}
use Rattle.beam_values.specs.Nodes.{is_stateful}
use Rattle.beam_values.specs.declared.arrival.Arrival.{Arrival}
use Rattle.beam_values.specs.declared.marks.CommitMarks.{CommitMarks}
use Rattle.beam_values.specs.declared.marks.StageMarks.{StageMarks}
use Rattle.beam_values.specs.declared.plan.Node.{Node}
use Rattle.beam_values.specs.declared.plan.NodeKind.{NodeKind}
use Rattle.beam_values.specs.declared.plan.NodeKind.TheVariants.{Stateful}
use Rattle.beam_values.specs.declared.plan.Plan.{Plan}
use Rattle.beam_model.specs.Holds.{Hold, arrival_hold, least_hold}
use Rattle.stateful_core.specs.Cells.{KeyCell, cell_holds, key_holds}
use Rattle.stateful_core.specs.Facts.{Folded, AreKeysSane, IsCellSane}
use Rattle.stateful_core.specs.KeyWork.{IsGivenOfKey, KeyCommit}
use Rattle.stateful_core.specs.Lasting.{arrival_holds}
use Rattle.stateful_core.specs.Placing.{Done, with_done, set_done, finish, place}
use Rattle.stateful_core.specs.Taking.{inputs_of}
use Rattle.stateful_core.specs.Timers.{AreTimersAt, AreTimersIn}
use Rattle.stateful_core.specs.Working.{AreWorkedOnce}
use Rattle.stateful_core.proofs.AtTheEnd.{at_node, other_holds}
use Rattle.stateful_core.proofs.EachCell.{cell_at}
use Rattle.stateful_core.proofs.HoldsKept.{place_holds_bag}
use Rattle.stateful_core.proofs.KeyGiven.{IsCalled, IsCalledIn, key_given}
use Rattle.stateful_core.proofs.LeastOf.{least_of_bag}
use Rattle.stateful_core.proofs.WorkedOnce.{worked_live}

at_called : (kind : NodeKind) (timers : List (Option ℤ)) → AreTimersAt kind timers → IsCalled kind
at_called (Stateful work args logged) timers h = tt
at_called _ timers h = absurd h

in_called : (found : Option Node) (timers : List (Option ℤ)) → AreTimersIn found timers → IsCalledIn found
in_called (Some node) timers h = at_called node.kind timers h
in_called None timers h = absurd h

pub key_commit : {X : Type 0} (keys : X → List ℕ) (plan : Plan) (commits : List CommitMarks) (cells : List KeyCell) (slots : List X) (slot at c : ℕ) (x : X) (arrivals : List Arrival) (logged : Option Folded)
    → AreKeysSane plan commits cells → AreWorkedOnce keys slots cells → slice_get slots slot ≡ Some x → keys x ≡ at ∷ []
    → ((cell : KeyCell) (count : ℕ) → slice_get cells at ≡ Some cell → cell.live ≡ Some count
    → IsGivenOfKey plan cell.log.node cell.log.key cell.log.span (inputs_of cell count) cell.kept arrivals logged)
    → KeyCommit plan c cells at arrivals logged
key_commit keys plan commits cells slots slot at c x arrivals logged sane once e works given =
    let found = worked_live keys slots cells slot at x once e works in
    let cell = found.0 in
    let count = found.1 in
    let is = given cell count found.2 found.3 in
    let node = slice_get plan.nodes cell.log.node in
    let own = cell_at (IsCellSane plan commits) cells at cell found.2 sane.each in
    let placed = key_given plan cell.log.node node cell.log.key cell.log.span (inputs_of cell count) cell.kept c arrivals logged (in_called node cell.kept.timers own.timers) is.arrives is.logs in
    record {
      all = placed.all;
      was = placed.was;
      cell = cell;
      is_at = found.2;
      made = record { cell = cell; is_at = found.2; count = count; works = found.3; folds = placed.folds };
      brings = placed.brings;
    }

-- ---- holds of other nodes

set_other : (before : List StageMarks) (done : Done) (m : ℕ) (cells : List KeyCell) (i : ℕ) (cell : KeyCell) → slice_get cells i ≡ Some cell → (cell.log.node ≡ m → ⊥)
    → filter (at_node m) (key_holds (slice_set cells i (with_done before done cell))) ≡ filter (at_node m) (key_holds cells)
set_other before done m [] i cell e ne = refl
set_other before done m (c ∷ cells) zero cell e ne =
    let same = same_Some c cell e in
    let new = other_holds m (with_done before done cell) (ne_eqb cell.log.node m ne) in
    let old = other_holds m c (ne_eqb c.log.node m (λ f. ne (sym (ap (λ (x : KeyCell). x.log.node) same) ∙ f))) in
    filter-append (at_node m) (cell_holds (with_done before done cell)) (key_holds cells) ∙ ap (λ l. l ++ filter (at_node m) (key_holds cells)) (new ∙ sym old)
    ∙ sym (filter-append (at_node m) (cell_holds c) (key_holds cells))
set_other before done m (c ∷ cells) (suc i) cell e ne =
    filter-append (at_node m) (cell_holds c) (key_holds (slice_set cells i (with_done before done cell)))
    ∙ ap (λ l. filter (at_node m) (cell_holds c) ++ l) (set_other before done m cells i cell e ne)
    ∙ sym (filter-append (at_node m) (cell_holds c) (key_holds cells))

none_arrive : (plan : Plan) (before : List StageMarks) (m : ℕ) (arrivals : List Arrival) → All (λ a. a.node ≡ m → ⊥) arrivals → filter (at_node m) (arrival_holds plan before arrivals) ≡ []
none_arrive plan before m [] h = refl
none_arrive plan before m (a ∷ arrivals) h = by (is_stateful plan a.node) (none_arrive plan before m arrivals (All-tail (λ (x : Arrival). x.node ≡ m → ⊥) a arrivals h))
  where
    by : (b : Bool) → filter (at_node m) (arrival_holds plan before arrivals) ≡ []
        → filter (at_node m) (map (arrival_hold before) (cond b (a ∷ filter (λ x. is_stateful plan x.node) arrivals) (filter (λ x. is_stateful plan x.node) arrivals))) ≡ []
    by true rest =
        ap (λ b. cond b (arrival_hold before a ∷ filter (at_node m) (arrival_holds plan before arrivals)) (filter (at_node m) (arrival_holds plan before arrivals)))
        (ne_eqb a.node m (All-head (λ (x : Arrival). x.node ≡ m → ⊥) a arrivals h)) ∙ rest
    by false rest = rest

-- so marks move behind the job's node alone
pub least_stays : (plan : Plan) (before : List StageMarks) (done : Done) (arrivals : List Arrival) (cells : List KeyCell) (cell : KeyCell) (m : ℕ) → slice_get cells done.cell ≡ Some cell → (cell.log.node ≡ m → ⊥)
    → All (λ a. a.node ≡ m → ⊥) arrivals → least_hold (key_holds (place plan before (Some done) arrivals cells)) m ≡ least_hold (key_holds cells) m
least_stays plan before done arrivals cells cell m e ne none =
    let finished = finish before (Some done) cells in
    let same : filter (at_node m) (key_holds finished) ≡ filter (at_node m) (key_holds cells) =
    ap (λ (o : Option KeyCell). filter (at_node m) (key_holds (set_done before done o cells))) e ∙ set_other before done m cells done.cell cell e ne in
    least_of_bag (key_holds (place plan before (Some done) arrivals cells)) (key_holds finished ++ arrival_holds plan before arrivals) (place_holds_bag plan before arrivals finished) m
    ∙ ap (λ (l : List Hold). least_mark (map (λ (h : Hold). h.mark) l))
    (filter-append (at_node m) (key_holds finished) (arrival_holds plan before arrivals) ∙ (λ i. same i ++ none_arrive plan before m arrivals none i) ∙ append-nil (filter (at_node m) (key_holds cells)))
