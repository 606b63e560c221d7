use Rattle.std.proofs.Common.{◌≡◌, ℕ, ◌+◌, ◌-◌, ◌<◌, [], ◌∷◌, ◌++◌, List, length, arith, refl, sym, subst, ap, ◌∙◌}
use Rattle.std.specs.Prelude.{false, slice_get, unwrap_or, option_to_list, Option, None}
use Rattle.std.specs.List.{All, filter}
use Rattle.std.specs.List.Sorted.{IsSorted}
use Rattle.std.specs.Option.{ForSome, option_copied, option_map}
use Rattle.std.proofs.lemmas.List.{length-set}
use Rattle.beam_values.specs.Nodes.{is_stateful, is_write}
use Rattle.beam_values.specs.declared.arrival.Arrival.{Arrival}
use Rattle.beam_values.specs.declared.cell.Pane.{Pane}
use Rattle.beam_values.specs.declared.marks.CommitMarks.{CommitMarks}
use Rattle.beam_values.specs.declared.marks.StageMarks.{StageMarks}
use Rattle.beam_values.specs.declared.piece.Dead.{Dead}
use Rattle.beam_values.specs.declared.piece.Done.{Done}
use Rattle.beam_values.specs.declared.piece.Piece.{Piece}
use Rattle.beam_values.specs.declared.plan.Plan.{Plan}
use Rattle.group_cells.specs.Commits.{as_commit, HasGap, RisesFrom, SeenGroups}
use Rattle.stateful_core.specs.Cells.{key_holds}
use Rattle.bundle_commit.specs.declared.job.Logged.{Logged}
use Rattle.stateful_core.specs.Opening.{IsStanding, done_of}
use Rattle.stateful_core.specs.Placing.{Done as KeyDone, place}
use Rattle.book_core.specs.Book.{SeenBook, last_marks, waiting_in}
use Rattle.book_core.specs.KeyCells.{CanPlace, cells_in, logged_of}
use Rattle.book_core.specs.Changes.{dead_cmp, done_cmp, key_done, keys_after, with_residual, with_slot}
use Rattle.book_core.specs.Committing.{job_holds, node_of, with_done_in, with_dead_in}
use Rattle.book_core.specs.Indexes.{AreHeldIn, own_holds, least_with, room_in}
use Rattle.book_core.specs.Inside.{data_of}
use Rattle.book_core.specs.Steps.{CanCommit, IsCommitting, IsWithinLimits}
use Rattle.book_core.specs.declared.live.Live.{Live}
use Rattle.book_core.proofs.CommitCalls.{are_fired, few_left, holds_there, waits_there, freed_there, gaps_there, given_there, indexed_as, job_attempted, job_back, job_held, job_stands, job_within, kept_there, left_room, left_there, rises_there, same_back}
use Rattle.book_core.proofs.CommitHolds.{kept_holds}
use Rattle.book_core.proofs.CommitStep.{AreFired, commit_indexed, commit_written, no_longer}
use Rattle.book_core.proofs.Gaps.{keyed_long}
use Rattle.book_core.proofs.KeysKept.{none_keyed}
use Rattle.book_core.proofs.KeyDones.{job_waits, logged_same}
use Rattle.book_core.proofs.ToKeys.{is_other, left_counted, left_few, left_placed, left_prepared, no_stateful_at, others_written}
use Rattle.book_core.proofs.Rooms.{lists_length, lists_of}
use Rattle.book_core.proofs.Steady.{works_within}
use Rattle.book_core.proofs.book.Book.commit.Goals as goal

pub has_numbers-requires-clause-commits : goal.has_numbers-requires-clause-commits
has_numbers-requires-clause-commits c = c.self.invariant.indexed.sane.formed.within.commits

pub has_numbers-requires-clause-panes : goal.has_numbers-requires-clause-panes
has_numbers-requires-clause-panes c = c.self.invariant.indexed.sane.formed.within.panes

pub has_numbers-requires-clause-dropped : goal.has_numbers-requires-clause-dropped
has_numbers-requires-clause-dropped c = c.self.invariant.indexed.sane.formed.within.dropped

pub keep_room-requires-clause-queues : goal.keep_room-requires-clause-queues
keep_room-requires-clause-queues c =
    sym (lists_length c.self.inside.queues.items) ∙ c.self.invariant.indexed.sane.formed.queues ∙ ap (λ (plan : Plan). length plan.nodes) (sym c.plan-plan.ensures.value)

pub keep_room-requires-clause-own : goal.keep_room-requires-clause-own
keep_room-requires-clause-own c =
    let can : CanCommit None (data_of c.self.inside) c.args.slot c.args.receipt =
    subst (λ (b : SeenBook). CanCommit None b c.args.slot c.args.receipt) (sym c.self.view_is) c.requires in
    let node_is : c.own_in-own.result.node ≡ node_of can.job = c.own_in-own.ensures.node can.job (ap (λ (l : List (Option Live)). slice_get l c.args.slot) c.as_slice.ensures.value ∙ can.works) in
    omega (
      arith,
      node_is,
      job_within (data_of c.self.inside) c.args.slot can.job c.args.receipt c.self.inside.held c.self.inside.pieces.room c.self.inside.returned.room can.works c.self.invariant.indexed,
      ap (λ (plan : Plan). length plan.nodes) c.plan-plan.ensures.value,
    )

pub take_out-requires : goal.take_out-requires
take_out-requires c =
    let can : CanCommit None (data_of c.self.inside) c.args.slot c.args.receipt =
    subst (λ (b : SeenBook). CanCommit None b c.args.slot c.args.receipt) (sym c.self.view_is) c.requires in
    works_within (data_of c.self.inside) c.args.slot can.job can.works

pub residual_of-residual-requires : goal.residual_of-residual-requires
residual_of-residual-requires c =
    job_attempted (data_of c.self.inside) c.args.slot c.in-Some.job c.args.receipt c.self.inside.held c.self.inside.pieces.room c.self.inside.returned.room c.in-Some.ensures.job c.self.invariant.indexed

pub free_job-requires-clause-holds : goal.free_job-requires-clause-holds
free_job-requires-clause-holds c =
    let rest = own_holds (with_slot (data_of c.self.inside) c.args.slot None) in (
      rest,
      subst (λ (plan : Plan). AreHeldIn c.keep_room.new.held (job_holds plan c.in-Some.job ++ rest)) (sym c.plan-plan.ensures.value)
          (job_held (data_of c.self.inside) c.args.slot c.in-Some.job c.args.receipt c.self.inside.held c.self.inside.pieces.room c.self.inside.returned.room c.in-Some.ensures.job c.self.invariant.indexed c.keep_room.new.held c.in-Ok.ensures.marks),
    )

pub hold_residual-requires-clause-within : goal.hold_residual-requires-clause-within
hold_residual-requires-clause-within c =
    subst (λ (r : Option Piece). ForSome r (λ piece. piece.node < length c.free_job.new.held)) (sym c.residual_of-residual.ensures)
    (left_there (λ n. n < length c.free_job.new.held) c.in-Some.job c.args.receipt (omega (arith, c.free_job.ensures.sized, c.in-Ok.ensures.sized, c.self.invariant.indexed.sized, job_within (data_of c.self.inside) c.args.slot c.in-Some.job c.args.receipt c.self.inside.held c.self.inside.pieces.room c.self.inside.returned.room c.in-Some.ensures.job c.self.invariant.indexed)))

pub hold_residual-requires-clause-room : goal.hold_residual-requires-clause-room
hold_residual-requires-clause-room c =
    let node_is : c.own_in-own.result.node ≡ node_of c.in-Some.job = c.own_in-own.ensures.node c.in-Some.job (ap (λ (l : List (Option Live)). slice_get l c.args.slot) c.as_slice.ensures.value ∙ c.in-Some.ensures.job) in
    subst (λ (r : Option Piece). ForSome r (λ piece. 0 < room_in c.free_job.new.held piece.node)) (sym c.residual_of-residual.ensures)
    (left_there (λ n. 0 < room_in c.free_job.new.held n) c.in-Some.job c.args.receipt
    (omega (arith, c.in-Ok.ensures.own, ap (room_in c.keep_room.new.held) node_is, c.free_job.ensures.kept (node_of c.in-Some.job))))

pub fire-fired-requires-clause-gaps : goal.fire-fired-requires-clause-gaps
fire-fired-requires-clause-gaps c =
    let can : CanCommit None (data_of c.self.inside) c.args.slot c.args.receipt =
    subst (λ (b : SeenBook). CanCommit None b c.args.slot c.args.receipt) (sym c.self.view_is) c.requires in
    let given = given_there None (data_of c.self.inside) c.args.slot c.in-Some.job c.args.receipt can c.in-Some.ensures.job in
    subst (λ (plan : Plan). All (HasGap plan) c.args.receipt.arrivals) (sym c.plan-plan.ensures.value)
    (gaps_there (data_of c.self.inside) c.args.slot c.in-Some.job c.args.receipt c.self.inside.held c.self.inside.pieces.room c.self.inside.returned.room c.in-Some.ensures.job c.self.invariant.indexed (record {
      inputs = λ n node at. c.nodes_take_elements_of_their_strategy.ensures.inputs c.self.inside.graph n node c.self.invariant.indexed.sane.formed.checked at;
      own = c.strategies_follow_kinds.ensures.own c.self.inside.graph;
      onward = c.strategies_follow_kinds.ensures.onward c.self.inside.graph;
      keyed = keyed_long c.stateful_nodes_have_no_sessions.ensures c.self.inside.graph c.self.invariant.indexed.sane.formed.checked;
    }) given)

pub fire-fired-requires-clause-none : goal.fire-fired-requires-clause-none
fire-fired-requires-clause-none c = λ none.
    none_keyed c.self.inside.graph c.self.inside.results.commits.items (cells_in c.self.inside.keys)
    (λ n. subst (λ (plan : Plan). is_stateful plan n ≡ false) c.plan-plan.ensures.value (no_stateful_at c.plan-plan.result.now none n)) c.self.invariant.indexed.sane.keys

pub fire-fired-requires-clause-rises : goal.fire-fired-requires-clause-rises
fire-fired-requires-clause-rises c =
    let can : CanCommit None (data_of c.self.inside) c.args.slot c.args.receipt =
    subst (λ (b : SeenBook). CanCommit None b c.args.slot c.args.receipt) (sym c.self.view_is) c.requires in
    let given = given_there None (data_of c.self.inside) c.args.slot c.in-Some.job c.args.receipt can c.in-Some.ensures.job in
    let freed : AreHeldIn c.free_job.new.held (own_holds (with_slot (data_of c.self.inside) c.args.slot None)) =
    freed_there (data_of c.self.inside) c.args.slot c.in-Some.job c.args.receipt c.self.inside.held c.self.inside.pieces.room c.self.inside.returned.room c.in-Some.ensures.job c.self.invariant.indexed c.plan-plan.result.now c.plan-plan.ensures.value
    c.keep_room.new.held c.free_job.new.held c.in-Ok.ensures.marks c.free_job.ensures.freed in
    let kept : AreHeldIn c.hold_residual.new.held (kept_holds (data_of c.self.inside) c.args.slot c.in-Some.job c.args.receipt) =
    kept_there (data_of c.self.inside) c.args.slot c.in-Some.job c.args.receipt c.self.inside.held c.self.inside.pieces.room c.self.inside.returned.room c.in-Some.ensures.job c.self.invariant.indexed c.plan-plan.result.now c.plan-plan.ensures.value
    c.residual_of-residual.result c.residual_of-residual.ensures c.free_job.new.held c.hold_residual.new.held c.hold_residual.ensures.held freed in
    let before_is : c.last_marks-before.result.now ≡ last_marks (data_of c.self.inside) =
    c.last_marks-before.ensures ∙ ap (λ (l : List CommitMarks). unwrap_or (option_map (λ (m : CommitMarks). m.marks) (slice_get l (length l - 1))) []) c.in-Ok.ensures.commits in
    let number_is : c.len-number.result ≡ length c.self.inside.results.commits.items = c.len-number.ensures ∙ ap (λ (l : List CommitMarks). length l) c.in-Ok.ensures.commits in
    let done_is : option_map done_of (option_copied c.as_ref.result) ≡ key_done (length c.self.inside.results.commits.items) c.in-Some.job c.args.receipt.logged =
    ap (option_map done_of) c.as_ref.ensures.value ∙ c.key_done-done.ensures ∙ ap (λ (n : ℕ). key_done n c.in-Some.job c.args.receipt.logged) number_is in
    let came = λ (o : Option KeyDone) (plan : Plan) (l : List StageMarks). key_holds (place plan l o c.args.receipt.arrivals (cells_in c.self.inside.keys)) in
    let own = key_done (length c.self.inside.results.commits.items) c.in-Some.job c.args.receipt.logged in
    subst (λ (o : Option KeyDone). RisesFrom c.plan-plan.result.now (least_with c.hold_residual.new.held (came o c.plan-plan.result.now c.last_marks-before.result.now)) c.last_marks-before.result.now) (sym done_is)
    (subst (λ (plan : Plan). RisesFrom plan (least_with c.hold_residual.new.held (came own plan c.last_marks-before.result.now)) c.last_marks-before.result.now) (sym c.plan-plan.ensures.value)
    (subst (λ (l : List StageMarks). RisesFrom c.self.inside.graph (least_with c.hold_residual.new.held (came own c.self.inside.graph l)) l) (sym before_is)
    (rises_there (data_of c.self.inside) c.args.slot c.in-Some.job c.args.receipt c.self.inside.held c.self.inside.pieces.room c.self.inside.returned.room c.in-Some.ensures.job c.self.invariant.indexed c.hold_residual.new.held given kept)))

pub free_residual-requires-clause-holds : goal.free_residual-requires-clause-holds
free_residual-requires-clause-holds c =
    let freed : AreHeldIn c.free_job.new.held (own_holds (with_slot (data_of c.self.inside) c.args.slot None)) =
    freed_there (data_of c.self.inside) c.args.slot c.in-Some.job c.args.receipt c.self.inside.held c.self.inside.pieces.room c.self.inside.returned.room c.in-Some.ensures.job c.self.invariant.indexed c.plan-plan.result.now c.plan-plan.ensures.value
    c.keep_room.new.held c.free_job.new.held c.in-Ok.ensures.marks c.free_job.ensures.freed in
    (own_holds (with_slot (data_of c.self.inside) c.args.slot None), c.hold_residual.ensures.held (own_holds (with_slot (data_of c.self.inside) c.args.slot None)) freed)

pub hold_job-requires-clause-within : goal.hold_job-requires-clause-within
hold_job-requires-clause-within c =
    omega (arith, c.free_residual.ensures.sized, c.hold_residual.ensures.sized, c.free_job.ensures.sized, c.in-Ok.ensures.sized, c.self.invariant.indexed.sized, job_within (data_of c.self.inside) c.args.slot c.in-Some.job c.args.receipt c.self.inside.held c.self.inside.pieces.room c.self.inside.returned.room c.in-Some.ensures.job c.self.invariant.indexed)

pub index_mut-requires : goal.index_mut-requires
index_mut-requires c =
    omega (
      arith,
      works_within (data_of c.self.inside) c.args.slot c.in-Some.job c.in-Some.ensures.job,
      ap (λ (l : List (Option Live)). length l) c.in-Some.ensures.free,
      length-set c.self.inside.slots.items c.args.slot None,
      c.take_out.new.slots.ok,
    )

pub invariant_of-self-in_default-fired : goal.invariant_of-self-in_default-fired
invariant_of-self-in_default-fired c =
    let freed : AreHeldIn c.free_job.new.held (own_holds (with_slot (data_of c.self.inside) c.args.slot None)) =
    freed_there (data_of c.self.inside) c.args.slot c.in-Some.job c.args.receipt c.self.inside.held c.self.inside.pieces.room c.self.inside.returned.room c.in-Some.ensures.job c.self.invariant.indexed c.plan-plan.result.now c.plan-plan.ensures.value
    c.keep_room.new.held c.free_job.new.held c.in-Ok.ensures.marks c.free_job.ensures.freed in
    let rest = own_holds (with_slot (data_of c.self.inside) c.args.slot None) in
    let back : AreHeldIn c.hold_job.new.held (own_holds (data_of c.self.inside)) =
    job_back (data_of c.self.inside) c.args.slot c.in-Some.job c.args.receipt c.self.inside.held c.self.inside.pieces.room c.self.inside.returned.room c.in-Some.ensures.job c.self.invariant.indexed c.hold_job.new.held
    (subst (λ (plan : Plan). AreHeldIn c.hold_job.new.held (job_holds plan c.in-Some.job ++ rest)) c.plan-plan.ensures.value
    (c.hold_job.ensures.held rest (c.free_residual.ensures.freed rest (c.hold_residual.ensures.held rest freed)))) in
    record {
      indexed =
          indexed_as (data_of c.self.inside) _ c.self.inside.held c.hold_job.new.held c.self.inside.pieces.room c.self.inside.returned.room
          (same_back (data_of c.self.inside) c.args.slot c.in-Some.job c.self.inside.groups c.fire-fired.new.groups c.take_out.new.slots.items _ _ _ _ _ _ _ c.in-Some.ensures.job c.in-Some.ensures.free
          c.in_default-fired.ensures.err.0 refl refl c.in-Ok.ensures.queued c.in-Ok.ensures.panes c.in-Ok.ensures.done c.in-Ok.ensures.dead c.in-Ok.ensures.written c.in-Ok.ensures.commits c.in_default-fired.ensures.keys)
          back (c.hold_job.ensures.sized ∙ c.free_residual.ensures.sized ∙ c.hold_residual.ensures.sized ∙ c.free_job.ensures.sized ∙ c.in-Ok.ensures.sized) c.self.invariant.indexed;
      grouped = ap (λ (g : SeenGroups). g.plan) c.in_default-fired.ensures.err.0 ∙ c.self.invariant.grouped;
      counted = c.self.invariant.counted ∙ ap waiting_in (sym c.in_default-fired.ensures.keys);
    }

pub returns-in_default-fired-clause-err : goal.returns-in_default-fired-clause-err
returns-in_default-fired-clause-err c =
    let can : CanCommit None (data_of c.self.inside) c.args.slot c.args.receipt =
    subst (λ (b : SeenBook). CanCommit None b c.args.slot c.args.receipt) (sym c.self.view_is) c.requires in
    let given = given_there None (data_of c.self.inside) c.args.slot c.in-Some.job c.args.receipt can c.in-Some.ensures.job in (
      ap (λ (a : List Arrival). record { arrivals = a; seen = c.args.receipt.seen; logged = c.logged_of.result }) c.in_default-fired.ensures.err.1
          ∙ ap (λ (l : Option Logged). record { arrivals = c.args.receipt.arrivals; seen = c.args.receipt.seen; logged = l })
          (c.logged_of.ensures ∙ ap logged_of c.key_done-done.ensures ∙ logged_same None (data_of c.self.inside) c.in-Some.job c.args.receipt c.len-number.result given),
      same_back (data_of c.self.inside) c.args.slot c.in-Some.job c.self.inside.groups c.fire-fired.new.groups c.take_out.new.slots.items _ _ _ _ _ _ _ c.in-Some.ensures.job c.in-Some.ensures.free
          c.in_default-fired.ensures.err.0 refl refl c.in-Ok.ensures.queued c.in-Ok.ensures.panes c.in-Ok.ensures.done c.in-Ok.ensures.dead c.in-Ok.ensures.written c.in-Ok.ensures.commits c.in_default-fired.ensures.keys
          ∙ c.self.view_is,
    )

pub overflow_add-self : goal.overflow_add-self
overflow_add-self c =
    omega (
      arith,
      c.if-not-have_numbers.ensures.waiting refl,
      c.place-waiting.ensures.many,
      c.len-count.ensures,
      left_few c.plan-plan.result.now c.args.receipt.arrivals c.fire-fired.new.arrivals c.in-Ok-fired.ensures.committed.others,
    )

pub overflow_sub-self : goal.overflow_sub-self
overflow_sub-self c =
    let can : CanCommit None (data_of c.self.inside) c.args.slot c.args.receipt =
    subst (λ (b : SeenBook). CanCommit None b c.args.slot c.args.receipt) (sym c.self.view_is) c.requires in
    let given = given_there None (data_of c.self.inside) c.args.slot c.in-Some.job c.args.receipt can c.in-Some.ensures.job in
    omega (
      arith,
      c.elements_of.ensures,
      c.self.invariant.counted,
      job_waits None (data_of c.self.inside) c.args.slot c.in-Some.job c.args.receipt c.self.invariant.indexed.sane.keys c.self.invariant.indexed.sane.turns c.in-Some.ensures.job given,
    )

pub place-waiting-requires-clause-can : goal.place-waiting-requires-clause-can
place-waiting-requires-clause-can c =
    left_prepared c.plan-plan.result.now c.args.receipt.arrivals c.fire-fired.new.arrivals c.in-Ok-fired.ensures.committed.others (option_map done_of c.key_done-done.result) c.fire-fired.new.keys
    (subst (λ (o : Option KeyDone). CanPlace c.plan-plan.result.now o c.args.receipt.arrivals c.fire-fired.new.keys) (ap (option_map done_of) c.as_ref.ensures.value) c.in-Ok-fired.ensures.prepared)

pub place-waiting-requires-clause-none : goal.place-waiting-requires-clause-none
place-waiting-requires-clause-none c = λ none.
    c.in-Ok-fired.ensures.keys
    ∙ none_keyed c.self.inside.graph c.self.inside.results.commits.items (cells_in c.self.inside.keys)
    (λ n. subst (λ (plan : Plan). is_stateful plan n ≡ false) c.plan-plan.ensures.value (no_stateful_at c.plan-plan.result.now none n)) c.self.invariant.indexed.sane.keys

pub fire-fired-requires-clause-stands : goal.fire-fired-requires-clause-stands
fire-fired-requires-clause-stands c =
    subst (IsStanding (cells_in c.self.inside.keys)) (sym (ap (option_map done_of) c.as_ref.ensures.value ∙ c.key_done-done.ensures))
    (job_stands (data_of c.self.inside) c.args.slot c.in-Some.job c.len-number.result c.args.receipt.logged c.in-Some.ensures.job c.self.invariant.indexed.sane.turns)

pub put_back-requires : goal.put_back-requires
put_back-requires c =
    subst (λ (r : Option Piece). ForSome r (λ _. 0 < c.self.inside.pieces.room)) (sym c.residual_of-residual.ensures)
    (left_room (data_of c.self.inside) c.args.slot c.in-Some.job c.args.receipt c.self.inside.held c.self.inside.pieces.room c.self.inside.returned.room c.in-Some.ensures.job c.self.invariant.indexed)

pub done_of-requires : goal.done_of-requires
done_of-requires c =
    job_attempted (data_of c.self.inside) c.args.slot c.in-Some.job c.args.receipt c.self.inside.held c.self.inside.pieces.room c.self.inside.returned.room c.in-Some.ensures.job c.self.invariant.indexed

pub add-requires-clause-done_sorted : goal.add-requires-clause-done_sorted
add-requires-clause-done_sorted c =
    subst (λ (l : List Done). IsSorted done_cmp l) (sym c.in-Ok.ensures.done) c.self.invariant.indexed.sane.formed.done

pub add-requires-clause-dead_sorted : goal.add-requires-clause-dead_sorted
add-requires-clause-dead_sorted c =
    subst (λ (l : List Dead). IsSorted dead_cmp l) (sym c.in-Ok.ensures.dead) c.self.invariant.indexed.sane.formed.dead

pub add-requires-clause-room : goal.add-requires-clause-room
add-requires-clause-room c = record {
  panes = omega (arith, c.in-Ok.ensures.results.panes, c.in-Ok-fired.ensures.few, ap length c.cells.ensures, c.len-count.ensures);
  done = c.in-Ok.ensures.results.done;
  dead = c.in-Ok.ensures.results.dead;
  written = omega (
    arith,
    c.in-Ok.ensures.results.written,
    few_left c.plan-plan.result.now c.args.receipt.arrivals c.fire-fired.new.arrivals c.len-count.result c.in-Ok-fired.ensures.committed.others c.len-count.ensures,
    ap length c.place-waiting.ensures.left,
    no_longer (is_other c.plan-plan.result.now) c.fire-fired.new.arrivals,
  );
  commits = c.in-Ok.ensures.results.commits;
}

-- as many wait as did, with those that came and without those of the job
counts : (waiting many elements was rest keyed worked after : ℕ) → waiting ≡ was → many ≡ keyed → elements ≡ worked → rest + worked ≡ was → after ≡ rest + keyed → (waiting + many) - elements ≡ after
counts waiting many elements was rest keyed worked after a b c d e = omega (arith, a, b, c, d, e)

pub invariant_of-self-2 : goal.invariant_of-self-2
invariant_of-self-2 c =
    let can : CanCommit None (data_of c.self.inside) c.args.slot c.args.receipt =
    subst (λ (b : SeenBook). CanCommit None b c.args.slot c.args.receipt) (sym c.self.view_is) c.requires in
    let freed : AreHeldIn c.free_job.new.held (own_holds (with_slot (data_of c.self.inside) c.args.slot None)) =
    freed_there (data_of c.self.inside) c.args.slot c.in-Some.job c.args.receipt c.self.inside.held c.self.inside.pieces.room c.self.inside.returned.room c.in-Some.ensures.job c.self.invariant.indexed c.plan-plan.result.now c.plan-plan.ensures.value
    c.keep_room.new.held c.free_job.new.held c.in-Ok.ensures.marks c.free_job.ensures.freed in
    let kept : AreHeldIn c.hold_residual.new.held (kept_holds (data_of c.self.inside) c.args.slot c.in-Some.job c.args.receipt) =
    kept_there (data_of c.self.inside) c.args.slot c.in-Some.job c.args.receipt c.self.inside.held c.self.inside.pieces.room c.self.inside.returned.room c.in-Some.ensures.job c.self.invariant.indexed c.plan-plan.result.now c.plan-plan.ensures.value
    c.residual_of-residual.result c.residual_of-residual.ensures c.free_job.new.held c.hold_residual.new.held c.hold_residual.ensures.held freed in
    let before_is : c.last_marks-before.result.now ≡ last_marks (data_of c.self.inside) =
    c.last_marks-before.ensures ∙ ap (λ (l : List CommitMarks). unwrap_or (option_map (λ (m : CommitMarks). m.marks) (slice_get l (length l - 1))) []) c.in-Ok.ensures.commits in
    let number_is : c.len-number.result ≡ length c.self.inside.results.commits.items = c.len-number.ensures ∙ ap (λ (l : List CommitMarks). length l) c.in-Ok.ensures.commits in
    let done_is : option_map done_of c.key_done-done.result ≡ key_done (length c.self.inside.results.commits.items) c.in-Some.job c.args.receipt.logged =
    c.key_done-done.ensures ∙ ap (λ (n : ℕ). key_done n c.in-Some.job c.args.receipt.logged) number_is in
    let left = c.in-Ok-fired.ensures.committed.others in
    let keys_are : cells_in c.place-waiting.new.keys ≡ keys_after (data_of c.self.inside) c.in-Some.job c.args.receipt =
    left_placed c.plan-plan.result.now c.args.receipt.arrivals c.fire-fired.new.arrivals left c.self.inside.graph c.last_marks-before.result.now (last_marks (data_of c.self.inside))
    (key_done (length c.self.inside.results.commits.items) c.in-Some.job c.args.receipt.logged) (cells_in c.self.inside.keys) c.place-waiting.new.keys c.fire-fired.new.keys c.plan-plan.ensures.value before_is c.in-Ok-fired.ensures.keys
    (c.place-waiting.ensures.cells ∙ ap (λ (o : Option KeyDone). place c.plan-plan.result.now c.last_marks-before.result.now o c.fire-fired.new.arrivals (cells_in c.fire-fired.new.keys)) done_is) in
    let fired : AreFired (data_of c.self.inside) c.args.slot c.in-Some.job c.args.receipt c.self.inside.groups c.fire-fired.new.groups c.in-Ok-fired.fired.panes c.in-Ok-fired.fired.marks
    c.fire-fired.new.arrivals c.hold_residual.new.held =
    are_fired (data_of c.self.inside) c.args.slot c.in-Some.job c.args.receipt c.self.inside.groups c.fire-fired.new.groups c.in-Ok-fired.fired.panes c.in-Ok-fired.fired.marks
    c.fire-fired.new.arrivals c.hold_residual.new.held c.plan-plan.result.now c.len-number.result c.last_marks-before.result.now (option_map done_of (option_copied c.as_ref.result))
    c.plan-plan.ensures.value number_is before_is (ap (option_map done_of) c.as_ref.ensures.value ∙ done_is) c.in-Some.ensures.job refl refl c.in-Ok-fired.ensures.committed c.in-Ok-fired.ensures.rounds c.in-Ok-fired.ensures.few kept
    (c.if-not-has_numbers.ensures.commits refl)
    (omega (arith, c.if-not-has_numbers.ensures.panes refl, c.len-count.ensures))
    (omega (arith, c.if-not-has_numbers.ensures.dropped refl, c.len-count.ensures))
    (omega (arith, c.if-not-has_numbers.ensures.cells refl, c.in-Ok-fired.ensures.grown, c.len-count.ensures))
    (omega (arith, c.if-not-have_numbers.ensures.cells refl, c.len-count.ensures))
    (omega (arith, c.if-not-have_numbers.ensures.waiting refl, c.len-count.ensures, c.self.invariant.counted)) in
    record {
      indexed =
          commit_indexed (data_of c.self.inside) c.args.slot c.in-Some.job c.args.receipt c.self.inside.groups c.fire-fired.new.groups c.in-Ok-fired.fired.panes c.in-Ok-fired.fired.marks
          c.fire-fired.new.arrivals c.hold_residual.new.held fired c.self.invariant.indexed.sane
          c.take_out.new.slots.items c.put_back.new.pieces.pending (lists_of c.wait_all.new.queues.items) (cells_in c.place-waiting.new.keys) c.add.new.self.panes.items c.add.new.self.done.items c.add.new.self.dead.items c.add.new.self.written.items c.add.new.self.commits.items
          (record {
            slots_are = c.in-Some.ensures.free;
            pending_are = c.put_back.ensures.pending ∙ ap (λ (r : Option Piece). with_residual r c.self.inside.pieces.pending) c.residual_of-residual.ensures;
            queues_are =
                waits_there c.last_marks-before.result.now (last_marks (data_of c.self.inside)) c.len-first.result (length c.self.inside.results.panes.items) c.as_slice-2.result.now c.in-Ok-fired.fired.panes
                (lists_of c.keep_room.new.queues.items) (lists_of c.self.inside.queues.items) (lists_of c.wait_all.new.queues.items) before_is
                (c.len-first.ensures ∙ ap (λ (l : List Pane). length l) c.in-Ok.ensures.panes) c.as_slice-2.ensures c.in-Ok.ensures.queued c.wait_all.ensures.queues;
            keys_are = keys_are;
            panes_are = c.add.ensures.panes ∙ ap (λ (l : List Pane). l ++ c.in-Ok-fired.fired.panes) c.in-Ok.ensures.panes;
            done_are =
                c.add.ensures.done ∙ ap (λ (l : List Done). with_done_in c.done_of.result l) c.in-Ok.ensures.done
                ∙ ap (λ (d : Option Done). with_done_in d c.self.inside.results.done.items) c.done_of.ensures;
            dead_are =
                c.add.ensures.dead ∙ ap (λ (l : List Dead). with_dead_in c.dead_of.result l) c.in-Ok.ensures.dead
                ∙ ap (λ (d : Option Dead). with_dead_in d c.self.inside.results.dead.items) c.dead_of.ensures;
            written_are =
                c.add.ensures.written ∙ ap (λ (l : List Arrival). c.keep_room.new.results.written.items ++ filter (λ arrival. is_write c.plan-plan.result.now arrival.node) l) c.place-waiting.ensures.left
                ∙ ap (λ (l : List Arrival). c.keep_room.new.results.written.items ++ l) (others_written c.plan-plan.result.now c.fire-fired.new.arrivals)
                ∙ ap (λ (l : List Arrival). l ++ filter (λ arrival. is_write c.plan-plan.result.now arrival.node) c.fire-fired.new.arrivals) c.in-Ok.ensures.written
                ∙ ap (λ (plan : Plan). c.self.inside.results.written.items ++ filter (λ arrival. is_write plan arrival.node) c.fire-fired.new.arrivals) c.plan-plan.ensures.value;
            commits_are = c.add.ensures.commits ∙ ap (λ (l : List CommitMarks). l ++ as_commit c.in-Ok-fired.fired.marks ∷ []) c.in-Ok.ensures.commits;
          })
          can c.self.inside.held c.wait_all.new.held c.self.inside.pieces.room c.put_back.new.pieces.room c.self.inside.returned.room c.self.invariant.indexed
          (holds_there c.last_marks-before.result.now (last_marks (data_of c.self.inside)) c.as_slice-2.result.now c.in-Ok-fired.fired.panes c.hold_residual.new.held c.wait_all.new.held
          before_is c.as_slice-2.ensures c.wait_all.ensures.held)
          (c.wait_all.ensures.sized ∙ c.hold_residual.ensures.sized ∙ c.free_job.ensures.sized ∙ c.in-Ok.ensures.sized)
          (omega (arith, c.put_back.ensures.used, ap (λ (r : Option Piece). length (option_to_list r)) c.residual_of-residual.ensures));
      grouped = c.in-Ok-fired.ensures.committed.plan_stays ∙ c.self.invariant.grouped;
      counted =
          counts _ _ _ _ _ _ _ _ c.self.invariant.counted c.place-waiting.ensures.many c.elements_of.ensures
          (job_waits None (data_of c.self.inside) c.args.slot c.in-Some.job c.args.receipt c.self.invariant.indexed.sane.keys c.self.invariant.indexed.sane.turns c.in-Some.ensures.job
          (given_there None (data_of c.self.inside) c.args.slot c.in-Some.job c.args.receipt can c.in-Some.ensures.job))
          (left_counted c.plan-plan.result.now c.args.receipt.arrivals c.fire-fired.new.arrivals left c.self.inside.graph (last_marks (data_of c.self.inside))
          (key_done (length c.self.inside.results.commits.items) c.in-Some.job c.args.receipt.logged) (cells_in c.self.inside.keys) c.plan-plan.ensures.value)
          ∙ ap waiting_in (sym keys_are);
    }

pub returns-clause-ok : goal.returns-clause-ok
returns-clause-ok c = λ told can.
    let freed : AreHeldIn c.free_job.new.held (own_holds (with_slot (data_of c.self.inside) c.args.slot None)) =
    freed_there (data_of c.self.inside) c.args.slot c.in-Some.job c.args.receipt c.self.inside.held c.self.inside.pieces.room c.self.inside.returned.room c.in-Some.ensures.job c.self.invariant.indexed c.plan-plan.result.now c.plan-plan.ensures.value
    c.keep_room.new.held c.free_job.new.held c.in-Ok.ensures.marks c.free_job.ensures.freed in
    let kept : AreHeldIn c.hold_residual.new.held (kept_holds (data_of c.self.inside) c.args.slot c.in-Some.job c.args.receipt) =
    kept_there (data_of c.self.inside) c.args.slot c.in-Some.job c.args.receipt c.self.inside.held c.self.inside.pieces.room c.self.inside.returned.room c.in-Some.ensures.job c.self.invariant.indexed c.plan-plan.result.now c.plan-plan.ensures.value
    c.residual_of-residual.result c.residual_of-residual.ensures c.free_job.new.held c.hold_residual.new.held c.hold_residual.ensures.held freed in
    let before_is : c.last_marks-before.result.now ≡ last_marks (data_of c.self.inside) =
    c.last_marks-before.ensures ∙ ap (λ (l : List CommitMarks). unwrap_or (option_map (λ (m : CommitMarks). m.marks) (slice_get l (length l - 1))) []) c.in-Ok.ensures.commits in
    let number_is : c.len-number.result ≡ length c.self.inside.results.commits.items = c.len-number.ensures ∙ ap (λ (l : List CommitMarks). length l) c.in-Ok.ensures.commits in
    let done_is : option_map done_of c.key_done-done.result ≡ key_done (length c.self.inside.results.commits.items) c.in-Some.job c.args.receipt.logged =
    c.key_done-done.ensures ∙ ap (λ (n : ℕ). key_done n c.in-Some.job c.args.receipt.logged) number_is in
    let left = c.in-Ok-fired.ensures.committed.others in
    let keys_are : cells_in c.place-waiting.new.keys ≡ keys_after (data_of c.self.inside) c.in-Some.job c.args.receipt =
    left_placed c.plan-plan.result.now c.args.receipt.arrivals c.fire-fired.new.arrivals left c.self.inside.graph c.last_marks-before.result.now (last_marks (data_of c.self.inside))
    (key_done (length c.self.inside.results.commits.items) c.in-Some.job c.args.receipt.logged) (cells_in c.self.inside.keys) c.place-waiting.new.keys c.fire-fired.new.keys c.plan-plan.ensures.value before_is c.in-Ok-fired.ensures.keys
    (c.place-waiting.ensures.cells ∙ ap (λ (o : Option KeyDone). place c.plan-plan.result.now c.last_marks-before.result.now o c.fire-fired.new.arrivals (cells_in c.fire-fired.new.keys)) done_is) in
    let fired : AreFired (data_of c.self.inside) c.args.slot c.in-Some.job c.args.receipt c.self.inside.groups c.fire-fired.new.groups c.in-Ok-fired.fired.panes c.in-Ok-fired.fired.marks
    c.fire-fired.new.arrivals c.hold_residual.new.held =
    are_fired (data_of c.self.inside) c.args.slot c.in-Some.job c.args.receipt c.self.inside.groups c.fire-fired.new.groups c.in-Ok-fired.fired.panes c.in-Ok-fired.fired.marks
    c.fire-fired.new.arrivals c.hold_residual.new.held c.plan-plan.result.now c.len-number.result c.last_marks-before.result.now (option_map done_of (option_copied c.as_ref.result))
    c.plan-plan.ensures.value number_is before_is (ap (option_map done_of) c.as_ref.ensures.value ∙ done_is) c.in-Some.ensures.job refl refl c.in-Ok-fired.ensures.committed c.in-Ok-fired.ensures.rounds c.in-Ok-fired.ensures.few kept
    (c.if-not-has_numbers.ensures.commits refl)
    (omega (arith, c.if-not-has_numbers.ensures.panes refl, c.len-count.ensures))
    (omega (arith, c.if-not-has_numbers.ensures.dropped refl, c.len-count.ensures))
    (omega (arith, c.if-not-has_numbers.ensures.cells refl, c.in-Ok-fired.ensures.grown, c.len-count.ensures))
    (omega (arith, c.if-not-have_numbers.ensures.cells refl, c.len-count.ensures))
    (omega (arith, c.if-not-have_numbers.ensures.waiting refl, c.len-count.ensures, c.self.invariant.counted)) in
    let seen = data_of (record c.self.inside {
      pieces = c.put_back.new.pieces;
      slots = c.take_out.new.slots;
      queues = c.wait_all.new.queues;
      groups = c.fire-fired.new.groups;
      keys = c.place-waiting.new.keys;
      waiting = (c.self.inside.waiting + c.place-waiting.result) - c.elements_of.result;
      results = c.add.new.self;
      held = c.wait_all.new.held;
    }) in
    subst (λ (b : SeenBook). IsCommitting told b c.args.slot c.args.receipt seen × IsWithinLimits seen) c.self.view_is
    (commit_written (data_of c.self.inside) c.args.slot c.in-Some.job c.args.receipt c.self.inside.groups c.fire-fired.new.groups c.in-Ok-fired.fired.panes c.in-Ok-fired.fired.marks
    c.fire-fired.new.arrivals c.hold_residual.new.held fired c.self.invariant.indexed.sane
    c.take_out.new.slots.items c.put_back.new.pieces.pending (lists_of c.wait_all.new.queues.items) (cells_in c.place-waiting.new.keys) c.add.new.self.panes.items c.add.new.self.done.items c.add.new.self.dead.items c.add.new.self.written.items c.add.new.self.commits.items
    (record {
      slots_are = c.in-Some.ensures.free;
      pending_are = c.put_back.ensures.pending ∙ ap (λ (r : Option Piece). with_residual r c.self.inside.pieces.pending) c.residual_of-residual.ensures;
      queues_are =
          waits_there c.last_marks-before.result.now (last_marks (data_of c.self.inside)) c.len-first.result (length c.self.inside.results.panes.items) c.as_slice-2.result.now c.in-Ok-fired.fired.panes
          (lists_of c.keep_room.new.queues.items) (lists_of c.self.inside.queues.items) (lists_of c.wait_all.new.queues.items) before_is
          (c.len-first.ensures ∙ ap (λ (l : List Pane). length l) c.in-Ok.ensures.panes) c.as_slice-2.ensures c.in-Ok.ensures.queued c.wait_all.ensures.queues;
      keys_are = keys_are;
      panes_are = c.add.ensures.panes ∙ ap (λ (l : List Pane). l ++ c.in-Ok-fired.fired.panes) c.in-Ok.ensures.panes;
      done_are =
          c.add.ensures.done ∙ ap (λ (l : List Done). with_done_in c.done_of.result l) c.in-Ok.ensures.done
          ∙ ap (λ (d : Option Done). with_done_in d c.self.inside.results.done.items) c.done_of.ensures;
      dead_are =
          c.add.ensures.dead ∙ ap (λ (l : List Dead). with_dead_in c.dead_of.result l) c.in-Ok.ensures.dead
          ∙ ap (λ (d : Option Dead). with_dead_in d c.self.inside.results.dead.items) c.dead_of.ensures;
      written_are =
          c.add.ensures.written ∙ ap (λ (l : List Arrival). c.keep_room.new.results.written.items ++ filter (λ arrival. is_write c.plan-plan.result.now arrival.node) l) c.place-waiting.ensures.left
          ∙ ap (λ (l : List Arrival). c.keep_room.new.results.written.items ++ l) (others_written c.plan-plan.result.now c.fire-fired.new.arrivals)
          ∙ ap (λ (l : List Arrival). l ++ filter (λ arrival. is_write c.plan-plan.result.now arrival.node) c.fire-fired.new.arrivals) c.in-Ok.ensures.written
          ∙ ap (λ (plan : Plan). c.self.inside.results.written.items ++ filter (λ arrival. is_write plan arrival.node) c.fire-fired.new.arrivals) c.plan-plan.ensures.value;
      commits_are = c.add.ensures.commits ∙ ap (λ (l : List CommitMarks). l ++ as_commit c.in-Ok-fired.fired.marks ∷ []) c.in-Ok.ensures.commits;
    })
    told (subst (λ (b : SeenBook). CanCommit told b c.args.slot c.args.receipt) (sym c.self.view_is) can))
