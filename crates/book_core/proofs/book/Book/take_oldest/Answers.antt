use Rattle.std.proofs.Common.{◌≡◌, ◌≤◌, ◌+◌, List, length, drop, arith, refl, sym, subst, ap, ◌∙◌}
use Rattle.std.specs.Prelude.{Option, Some, slice_set}
use Rattle.std.specs.List.{flat_map}
use Rattle.std.proofs.lemmas.Option.{slice_get_within}
use Rattle.book_core.specs.Book.{SeenBook, batch_of, queue_at}
use Rattle.book_core.specs.DueAt.{IsDueAs}
use Rattle.book_core.specs.Inside.{data_of}
use Rattle.book_core.specs.Jobs.{first_due, job_of}
use Rattle.book_core.specs.Steps.{IsRunning, IsFree, Take, TakenJob}
use Rattle.book_core.specs.declared.due.DueAt.TheVariants as at
use Rattle.beam_values.specs.declared.cell.Pane.{Pane}
use Rattle.book_core.specs.declared.live.Batch.{Batch}
use Rattle.book_core.specs.declared.live.Live.{Live}
use Rattle.book_core.specs.declared.live.Live.TheVariants as live
use Rattle.book_core.proofs.Rooms.{lists_of, lists_length, lists_set, queue_in}
use Rattle.book_core.proofs.Steady.{makes_seen}
use Rattle.book_core.proofs.Takings.{makes_oldest, oldest_indexed, oldest_within, more_batches, batch_is, oldest_batch, same_returned}
use Rattle.book_core.proofs.book.Book.take_oldest.Goals as goal

pub index-queue-requires : goal.index-queue-requires
index-queue-requires c =
    let within = oldest_within (data_of c.self.inside) c.args.node (subst (λ (b : SeenBook). IsDueAs b (first_due b) (Some (at.Oldest c.args.node))) (sym c.self.view_is) c.requires.due) in
    omega (arith, within, lists_length c.self.inside.queues.items, c.self.inside.queues.ok)

pub index_mut-queue-requires : goal.index_mut-queue-requires
index_mut-queue-requires c =
    let within = oldest_within (data_of c.self.inside) c.args.node (subst (λ (b : SeenBook). IsDueAs b (first_due b) (Some (at.Oldest c.args.node))) (sym c.self.view_is) c.requires.due) in
    omega (arith, within, lists_length c.self.inside.queues.items, c.self.inside.queues.ok)

pub index_mut-requires : goal.index_mut-requires
index_mut-requires c =
    let free = subst (λ (b : SeenBook). IsFree b c.args.slot) (sym c.self.view_is) c.requires.free in
    omega (arith, slice_get_within c.self.inside.slots.items c.args.slot _ free, c.self.inside.slots.ok)

pub invariant_of-self-2 : goal.invariant_of-self-2
invariant_of-self-2 c = record {
  indexed =
      let running = subst IsRunning (sym c.self.view_is) c.requires.running in
      let free = subst (λ (b : SeenBook). IsFree b c.args.slot) (sym c.self.view_is) c.requires.free in
      let due = subst (λ (b : SeenBook). IsDueAs b (first_due b) (Some (at.Oldest c.args.node))) (sym c.self.view_is) c.requires.due in
      let within = oldest_within (data_of c.self.inside) c.args.node due in
      let read : queue_at (data_of c.self.inside) c.args.node ≡ c.index-queue.result.now.panes =
      queue_in (data_of c.self.inside) c.args.node c.self.inside.queues.items c.index-queue.result.now refl (omega (arith, within, lists_length c.self.inside.queues.items)) c.index-queue.ensures in
      let lent : queue_at (data_of c.self.inside) c.args.node ≡ c.index_mut-queue.result.now.panes =
      queue_in (data_of c.self.inside) c.args.node c.self.inside.queues.items c.index_mut-queue.result.now refl (omega (arith, within, lists_length c.self.inside.queues.items)) c.index_mut-queue.ensures.value in
      let batch : record { node = c.args.node; panes = c.in_ok-panes.panes; attempts = 0 } ≡ oldest_batch (data_of c.self.inside) c.args.node =
      batch_is (data_of c.self.inside) c.args.node c.in_ok-panes.panes c.index-queue.result.now.panes c.in_ok-panes.ensures read in
      let queues : lists_of (slice_set c.self.inside.queues.items c.args.node c.remove_oldest.new.self)
      ≡ slice_set (lists_of c.self.inside.queues.items) c.args.node (drop c.self.inside.options.bundle (queue_at (data_of c.self.inside) c.args.node)) =
      lists_set c.self.inside.queues.items c.args.node c.remove_oldest.new.self ∙ ap (slice_set (lists_of c.self.inside.queues.items) c.args.node) (c.remove_oldest.ensures ∙ ap (drop c.self.inside.options.bundle) (sym lent)) in
      let slots : slice_set c.self.inside.slots.items c.args.slot (Some (live.Batch (record { node = c.args.node; panes = c.in_ok-panes.panes; attempts = 0 })))
      ≡ slice_set c.self.inside.slots.items c.args.slot (Some (live.Batch (oldest_batch (data_of c.self.inside) c.args.node))) =
      ap (λ (x : Batch). slice_set c.self.inside.slots.items c.args.slot (Some (live.Batch x))) batch in
      let room : length (flat_map batch_of c.self.inside.slots.items) + 1 ≤ c.reserve.new.self.room =
      omega (arith, c.in_ok-reserve.ensures.ok, c.count_batches.ensures.exact, ap (λ (l : List (Option Live)). length (flat_map batch_of l)) c.as_slice-2.ensures.value) in
      more_batches _ c.self.inside.held c.self.inside.pieces.room c.reserve.new.self.room c.reserve.new.self.room c.reserve.new.self.items c.in_ok-reserve.ensures.items (omega arith)
      (oldest_indexed (data_of c.self.inside) c.args.slot c.args.node running free due c.self.invariant.indexed.sane c.self.inside.held c.self.inside.pieces.room c.self.inside.returned.room c.reserve.new.self.room
      _ _ queues slots room c.self.invariant.indexed);
  grouped = c.self.invariant.grouped;
  counted = c.self.invariant.counted;
}

pub returns-clause-ok : goal.returns-clause-ok
returns-clause-ok c =
    let running = subst IsRunning (sym c.self.view_is) c.requires.running in
    let free = subst (λ (b : SeenBook). IsFree b c.args.slot) (sym c.self.view_is) c.requires.free in
    let due = subst (λ (b : SeenBook). IsDueAs b (first_due b) (Some (at.Oldest c.args.node))) (sym c.self.view_is) c.requires.due in
    let within = oldest_within (data_of c.self.inside) c.args.node due in
    let read : queue_at (data_of c.self.inside) c.args.node ≡ c.index-queue.result.now.panes =
    queue_in (data_of c.self.inside) c.args.node c.self.inside.queues.items c.index-queue.result.now refl (omega (arith, within, lists_length c.self.inside.queues.items)) c.index-queue.ensures in
    let lent : queue_at (data_of c.self.inside) c.args.node ≡ c.index_mut-queue.result.now.panes =
    queue_in (data_of c.self.inside) c.args.node c.self.inside.queues.items c.index_mut-queue.result.now refl (omega (arith, within, lists_length c.self.inside.queues.items)) c.index_mut-queue.ensures.value in
    let batch : record { node = c.args.node; panes = c.in_ok-panes.panes; attempts = 0 } ≡ oldest_batch (data_of c.self.inside) c.args.node =
    batch_is (data_of c.self.inside) c.args.node c.in_ok-panes.panes c.index-queue.result.now.panes c.in_ok-panes.ensures read in
    let queues : lists_of (slice_set c.self.inside.queues.items c.args.node c.remove_oldest.new.self)
    ≡ slice_set (lists_of c.self.inside.queues.items) c.args.node (drop c.self.inside.options.bundle (queue_at (data_of c.self.inside) c.args.node)) =
    lists_set c.self.inside.queues.items c.args.node c.remove_oldest.new.self ∙ ap (slice_set (lists_of c.self.inside.queues.items) c.args.node) (c.remove_oldest.ensures ∙ ap (drop c.self.inside.options.bundle) (sym lent)) in
    let slots : slice_set c.self.inside.slots.items c.args.slot (Some (live.Batch (record { node = c.args.node; panes = c.in_ok-panes.panes; attempts = 0 })))
    ≡ slice_set c.self.inside.slots.items c.args.slot (Some (live.Batch (oldest_batch (data_of c.self.inside) c.args.node))) =
    ap (λ (x : Batch). slice_set c.self.inside.slots.items c.args.slot (Some (live.Batch x))) batch in
    makes_seen (data_of c.self.inside) _ _ c.args.slot Take (TakenJob c.in_ok-job.job) c.self.view_is
    (same_returned (data_of c.self.inside) _ c.args.slot c.in_ok-job.job c.reserve.new.self.items c.in_ok-reserve.ensures.items
    (makes_oldest (data_of c.self.inside) c.args.slot c.args.node running free due c.self.invariant.indexed.sane c.in_ok-job.job _ _
    (c.in_ok-job.ensures ∙ ap (λ (l : List Pane). job_of l (live.Batch (record { node = c.args.node; panes = c.in_ok-panes.panes; attempts = 0 }))) c.as_slice.ensures ∙ ap (λ (x : Batch). job_of c.self.inside.results.panes.items (live.Batch x)) batch) queues slots))
