-- Every book is well formed: from the opening on.
use Rattle.std.proofs.Common.{◌≡◌, ℕ, ◌+◌, ◌*◌, ◌≤◌, Bool, true, false, cond, List, [], ◌∷◌, length, refl, sym, ap, subst, ◌∙◌, arith}
use Rattle.std.specs.Prelude.{Option, Some, None, slice_get, fold}
use Rattle.std.specs.List.{enumerate_from}
use Rattle.std.specs.List.Sorted.{IsSorted}
use Rattle.std.specs.Cmp.{IsTotalOrder}
use Rattle.std.proofs.lemmas.Cmp.{nat_cmp_total, on_total, then_total}
use Rattle.std.proofs.lemmas.List.{length-map, length-set}
use Rattle.std.proofs.lemmas.List.FromFn.{length-enumerate_from}
use Rattle.beam_values.specs.Checked.{IsChecked}
use Rattle.beam_values.specs.declared.fault.Cause.{Cause}
use Rattle.beam_values.specs.declared.fault.Cause.TheVariants.{Call, Read}
use Rattle.beam_values.specs.declared.fault.FaultNote.{FaultNote}
use Rattle.beam_values.specs.declared.file_text.FileText.{FileText}
use Rattle.beam_values.specs.declared.outcome.StopCause.{StopCause}
use Rattle.beam_values.specs.declared.outcome.StopCause.TheVariants as stop
use Rattle.beam_values.specs.declared.piece.Dead.{Dead}
use Rattle.beam_values.specs.declared.piece.Done.{Done}
use Rattle.beam_values.specs.declared.piece.FileLen.{FileLen}
use Rattle.beam_values.specs.declared.piece.Piece.{Piece}
use Rattle.beam_values.specs.declared.plan.Plan.{Plan}
use Rattle.beam_model.specs.Positions.{items}
use Rattle.bundle_commit.specs.declared.job.Receipt.{Receipt}
use Rattle.split_core.specs.Order.{IsAscending, with_piece, with_pieces, first_pieces}
use Rattle.split_core.proofs.Ordered.{ascending_with_piece, ascending_with_pieces, length-with_piece}
use Rattle.book_core.specs.Book.{SeenBook, piece_of, live_pieces, most_parts, places_kept, sets_aside, waiting_in}
use Rattle.book_core.specs.Changes.{with_slot, split_off, committed, or_stopped, done_cmp, done_of, done_with, done_after, dead_cmp, dead_of, dead_with, dead_after, residual_of, with_residual, pending_with, pending_after, given_back, tried_piece, counted, stopped_where, ends_run, is_broken, broken, broken_parts, note_of}
use Rattle.book_core.specs.Facts.{IsWellFormed}
use Rattle.stateful_core.specs.Cells.{KeyCell}
use Rattle.stateful_core.specs.Taking.{tried}
use Rattle.stateful_core.specs.declared.place.Place.{Place}
use Rattle.book_core.specs.Jobs.{GivenBack, Oldest, Next, next_job, with_key, without_due}
use Rattle.book_core.specs.Runs.{IsOpening, AreOptions, AreLengthsOf}
use Rattle.book_core.specs.Steps.{IsWorking, IsWithinLimits}
use Rattle.book_core.specs.declared.live.Batch.{Batch}
use Rattle.book_core.specs.declared.live.Live.{Live}
use Rattle.book_core.specs.declared.live.Live.TheVariants as live
use Rattle.book_core.proofs.Broken.{broken_few, broken_is}
use Rattle.book_core.proofs.Cases.{Keeps, Anything, AreAlways, kept_alone, enrolled}
use Rattle.book_core.proofs.InOrder.{sorted_none, sorted_put}
use Rattle.book_core.proofs.Slotted.{flat_set_weighs, sum_ones}
use Rattle.book_core.proofs.KeyChanges.{change_many, change_weighs}
use Rattle.book_core.proofs.Taking.{IsAmong, IsNextCell, IsOldest, take_cases}

-- ---- done ranges stay in order, and dead positions

pub done_total : IsTotalOrder done_cmp
done_total =
    then_total (on_total (λ (d : Done). d.node) nat_cmp_total)
    (then_total (on_total (λ (d : Done). d.item) nat_cmp_total)
    (then_total (on_total (λ (d : Done). d.range.from) nat_cmp_total) (on_total (λ (d : Done). d.range.to) nat_cmp_total)))

pub dead_total : IsTotalOrder dead_cmp
dead_total =
    then_total (on_total (λ (d : Dead). d.node) nat_cmp_total)
    (then_total (on_total (λ (d : Dead). d.item) nat_cmp_total) (on_total (λ (d : Dead). d.at) nat_cmp_total))

-- ---- lists that don't grow

-- a slot is set
pieces_set : (b : SeenBook) (slot : ℕ) (old new : Option Live) → slice_get b.slots slot ≡ Some old
    → length (live_pieces (with_slot b slot new)) + length (piece_of old) ≡ length (live_pieces b) + length (piece_of new)
pieces_set b slot old new at =
    omega (
      arith,
      flat_set_weighs piece_of b.slots slot (λ (p : Piece). 1) old new at,
      sum_ones (live_pieces b),
      sum_ones (live_pieces (with_slot b slot new)),
      sum_ones (piece_of old),
      sum_ones (piece_of new),
    )

-- the places kept for pieces that are worked
kept_less : (plan : Plan) (few many : ℕ) → few ≤ many → most_parts plan few ≤ most_parts plan many
kept_less plan few many less = by (sets_aside plan)
  where
    by : (t : Bool) → cond t (3 * few) few ≤ cond t (3 * many) many
    by true = omega arith
    by false = less

kept_one : (plan : Plan) (few many : ℕ) → few + 1 ≡ many → most_parts plan few + 1 ≤ most_parts plan many
kept_one plan few many more = by (sets_aside plan)
  where
    by : (t : Bool) → cond t (3 * few) few + 1 ≤ cond t (3 * many) many
    by true = omega arith
    by false = omega arith

kept_three : (plan : Plan) (few many : ℕ) → sets_aside plan ≡ true → few + 1 ≡ many → most_parts plan few + 3 ≤ most_parts plan many
kept_three plan few many aside more = by (sets_aside plan) aside
  where
    by : (t : Bool) → t ≡ true → cond t (3 * few) few + 3 ≤ cond t (3 * many) many
    by true e = omega arith
    by false e = absurd (cc)

-- the lists of one book are no longer than those of the other
record AreWithin (old new : SeenBook) : Type 0 where
  commits : length new.commits ≤ length old.commits
  panes : length new.panes ≤ length old.panes
  dropped : length new.dropped ≤ length old.dropped
  cells : length new.cells ≤ length old.cells
  keys : length new.keys ≤ length old.keys
  waiting : waiting_in new.keys ≤ waiting_in old.keys
  slots : length new.slots ≤ length old.slots
  pieces : length new.pending + places_kept new ≤ length old.pending + places_kept old

limits_onward : (old new : SeenBook) → AreWithin old new → IsWithinLimits old → IsWithinLimits new
limits_onward old new a h = record {
  commits = omega (arith, a.commits, h.commits);
  panes = omega (arith, a.panes, h.panes);
  dropped = omega (arith, a.dropped, h.dropped);
  cells = omega (arith, a.cells, h.cells);
  keys = omega (arith, a.keys, h.keys);
  waiting = omega (arith, a.waiting, h.waiting);
  slots = omega (arith, a.slots, h.slots);
  pieces = omega (arith, a.pieces, h.pieces);
}

-- ---- what doesn't change, and lists in order

-- the same but for what is given
record StaysFormed (old new : SeenBook) : Type 0 where
  plan : new.plan ≡ old.plan
  options : new.options ≡ old.options
  files : new.files ≡ old.files
  queues : length new.queues ≡ length old.queues
  ascending : IsAscending old.pending → IsAscending new.pending
  done : IsSorted done_cmp old.done → IsSorted done_cmp new.done
  dead : IsSorted dead_cmp old.dead → IsSorted dead_cmp new.dead

formed_onward : (old new : SeenBook) → StaysFormed old new → IsWellFormed old → IsWithinLimits new → IsWellFormed new
formed_onward old new stays h within = record {
  checked = subst IsChecked (sym stays.plan) h.checked;
  allowed = subst AreOptions (sym stays.options) h.allowed;
  lengths = subst (AreLengthsOf (items [] new.plan)) (sym stays.files) (subst (λ (p : Plan). AreLengthsOf (items [] p) old.files) (sym stays.plan) h.lengths);
  queues = stays.queues ∙ h.queues ∙ ap (λ (p : Plan). length p.nodes) (sym stays.plan);
  ascending = stays.ascending h.ascending;
  done = stays.done h.done;
  dead = stays.dead h.dead;
  within = within;
}

-- ---- take

take_formed : (b : SeenBook) (slot : ℕ) (next : Next) → IsWellFormed b → next_job b ≡ Some next → IsWithinLimits (with_slot next.rest slot (Some next.job))
    → IsWellFormed (with_slot next.rest slot (Some next.job))
take_formed b slot next h is =
    take_cases b (λ (n : Next). IsWithinLimits (with_slot n.rest slot (Some n.job)) → IsWellFormed (with_slot n.rest slot (Some n.job))) given waits keyed pending next is
  where
    given : (batch : Batch) → IsAmong b.returned batch → IsWithinLimits (with_slot (without_due b (GivenBack batch)).rest slot (Some (live.Batch batch)))
        → IsWellFormed (with_slot (without_due b (GivenBack batch)).rest slot (Some (live.Batch batch)))
    given batch among within =
        formed_onward b (with_slot (without_due b (GivenBack batch)).rest slot (Some (live.Batch batch)))
        (record { plan = refl; options = refl; files = refl; queues = refl; ascending = λ up. up; done = λ up. up; dead = λ up. up }) h within

    waits : (batch : Batch) → IsOldest b batch → IsWithinLimits (with_slot (without_due b (Oldest batch)).rest slot (Some (live.Batch batch)))
        → IsWellFormed (with_slot (without_due b (Oldest batch)).rest slot (Some (live.Batch batch)))
    waits batch oldest within =
        formed_onward b (with_slot (without_due b (Oldest batch)).rest slot (Some (live.Batch batch)))
        (record { plan = refl; options = refl; files = refl; queues = length-set b.queues batch.node _; ascending = λ up. up; done = λ up. up; dead = λ up. up }) h within

    keyed : (place : Place) (cell : KeyCell) → IsNextCell b place cell → IsWithinLimits (with_slot (with_key b place.at cell).rest slot (Some (with_key b place.at cell).job))
        → IsWellFormed (with_slot (with_key b place.at cell).rest slot (Some (with_key b place.at cell).job))
    keyed place cell found within =
        formed_onward b (with_slot (with_key b place.at cell).rest slot (Some (with_key b place.at cell).job))
        (record { plan = refl; options = refl; files = refl; queues = refl; ascending = λ up. up; done = λ up. up; dead = λ up. up }) h within

    pending : (piece : Piece) (later : List Piece) → b.pending ≡ piece ∷ later
        → IsWithinLimits (with_slot (record b { pending = later }) slot (Some (live.Span piece None)))
        → IsWellFormed (with_slot (record b { pending = later }) slot (Some (live.Span piece None)))
    pending piece later e within =
        formed_onward b (with_slot (record b { pending = later }) slot (Some (live.Span piece None)))
        (record { plan = refl; options = refl; files = refl; queues = refl; ascending = λ up. (subst IsAscending e up).1; done = λ up. up; dead = λ up. up }) h within

-- ---- a commit

pending_up : (pending : List Piece) (job : Live) (receipt : Receipt) → IsAscending pending → IsAscending (pending_after pending job receipt)
pending_up pending (live.Span piece attempted) receipt up = by piece.spent
  where
    by_left : (left : Option Piece) → IsAscending (with_residual left pending)
    by_left None = up
    by_left (Some left) = ascending_with_piece left pending up

    by : (spent : Option FaultNote) → IsAscending (pending_with spent piece attempted receipt pending)
    by None = by_left (residual_of piece attempted receipt)
    by (Some note) = up
pending_up pending (live.Batch batch) receipt up = up
pending_up pending (live.Key turn) receipt up = up

done_up : (done : List Done) (job : Live) → IsSorted done_cmp done → IsSorted done_cmp (done_after done job)
done_up done (live.Span piece attempted) up = by piece.spent
  where
    by : (spent : Option FaultNote) → IsSorted done_cmp (done_with spent piece attempted done)
    by None = sorted_put done_cmp done_total (done_of piece attempted) done up
    by (Some note) = up
done_up done (live.Batch batch) up = up
done_up done (live.Key turn) up = up

dead_up : (dead : List Dead) (job : Live) → IsSorted dead_cmp dead → IsSorted dead_cmp (dead_after dead job)
dead_up dead (live.Span piece attempted) up = by piece.spent
  where
    by : (spent : Option FaultNote) → IsSorted dead_cmp (dead_with spent piece dead)
    by None = up
    by (Some note) = sorted_put dead_cmp dead_total (dead_of piece note) dead up
dead_up dead (live.Batch batch) up = up
dead_up dead (live.Key turn) up = up

-- ---- a fail

back_formed : (b : SeenBook) (slot : ℕ) (job : Live) (at : ℕ) (cause : Cause) → IsWellFormed b → IsWorking b slot job → IsWellFormed (given_back (with_slot b slot None) job at cause)
back_formed b slot (live.Span piece attempted) at cause h works =
    let new = given_back (with_slot b slot None) (live.Span piece attempted) at cause in
    formed_onward b new (record {
      plan = refl;
      options = refl;
      files = refl;
      queues = refl;
      ascending = ascending_with_piece (tried_piece piece) b.pending;
      done = λ up. up;
      dead = λ up. up;
    }) h
    (limits_onward b new (record {
      commits = omega arith;
      panes = omega arith;
      dropped = omega arith;
      cells = omega arith;
      keys = omega arith;
      waiting = omega arith;
      slots = omega (arith, length-set b.slots slot None);
      pieces = omega (
        arith,
        kept_one b.plan (length (live_pieces (with_slot b slot None))) (length (live_pieces b)) (omega (arith, pieces_set b slot (Some (live.Span piece attempted)) None works)),
        length-with_piece (tried_piece piece) b.pending,
      );
    }) h.within)
back_formed b slot (live.Batch batch) at cause h works =
    let new = given_back (with_slot b slot None) (live.Batch batch) at cause in
    formed_onward b new (record { plan = refl; options = refl; files = refl; queues = refl; ascending = λ up. up; done = λ up. up; dead = λ up. up }) h
    (limits_onward b new (record {
      commits = omega arith;
      panes = omega arith;
      dropped = omega arith;
      cells = omega arith;
      keys = omega arith;
      waiting = omega arith;
      slots = omega (arith, length-set b.slots slot None);
      pieces = omega (
        arith,
        kept_less b.plan (length (live_pieces (with_slot b slot None))) (length (live_pieces b)) (omega (arith, pieces_set b slot (Some (live.Batch batch)) None works)),
      );
    }) h.within)
back_formed b slot (live.Key turn) at cause h works =
    let new = given_back (with_slot b slot None) (live.Key turn) at cause in
    formed_onward b new (record { plan = refl; options = refl; files = refl; queues = refl; ascending = λ up. up; done = λ up. up; dead = λ up. up }) h
    (limits_onward b new (record {
      commits = omega arith;
      panes = omega arith;
      dropped = omega arith;
      cells = omega arith;
      keys = omega (arith, change_many tried turn.cell b.keys);
      waiting = omega (arith, change_weighs (λ (cell : KeyCell). length cell.waiting) tried (λ cell. refl) turn.cell b.keys);
      slots = omega (arith, length-set b.slots slot None);
      pieces = omega (
        arith,
        kept_less b.plan (length (live_pieces (with_slot b slot None))) (length (live_pieces b)) (omega (arith, pieces_set b slot (Some (live.Key turn)) None works)),
      );
    }) h.within)

with_pieces_length : (pieces l : List Piece) → length (with_pieces pieces l) ≡ length pieces + length l
with_pieces_length [] l = omega arith
with_pieces_length (piece ∷ pieces) l = omega (arith, with_pieces_length pieces (with_piece piece l), length-with_piece piece l)

broken_formed : (b : SeenBook) (slot : ℕ) (piece : Piece) (attempted : Option ℕ) (note : FaultNote) → IsWellFormed b → IsWorking b slot (live.Span piece attempted)
    → is_broken b (live.Span piece attempted) Call ≡ true → IsWellFormed (broken b slot piece attempted note)
broken_formed b slot piece attempted note h works is =
    let new = broken b slot piece attempted note in
    formed_onward b new (record {
      plan = refl;
      options = refl;
      files = refl;
      queues = refl;
      ascending = ascending_with_pieces (broken_parts piece attempted note) b.pending;
      done = λ up. up;
      dead = λ up. up;
    }) h
    (limits_onward b new (record {
      commits = omega arith;
      panes = omega arith;
      dropped = omega arith;
      cells = omega arith;
      keys = omega arith;
      waiting = omega arith;
      slots = omega (arith, length-set b.slots slot None);
      pieces = omega (
        arith,
        kept_three b.plan (length (live_pieces (with_slot b slot None))) (length (live_pieces b)) (broken_is b piece attempted is).1
            (omega (arith, pieces_set b slot (Some (live.Span piece attempted)) None works)),
        with_pieces_length (broken_parts piece attempted note) b.pending,
        broken_few piece attempted note,
      );
    }) h.within)

counted_formed : (b : SeenBook) (cause : Cause) → IsWellFormed b → IsWellFormed (counted b cause)
counted_formed b Call h = record { checked = h.checked; allowed = h.allowed; lengths = h.lengths; queues = h.queues; ascending = h.ascending; done = h.done; dead = h.dead; within = limits_onward b (counted b Call) (record { commits = omega arith; panes = omega arith; dropped = omega arith; cells = omega arith; keys = omega arith; waiting = omega arith; slots = omega arith; pieces = omega arith }) h.within }
counted_formed b Read h = record { checked = h.checked; allowed = h.allowed; lengths = h.lengths; queues = h.queues; ascending = h.ascending; done = h.done; dead = h.dead; within = limits_onward b (counted b Read) (record { commits = omega arith; panes = omega arith; dropped = omega arith; cells = omega arith; keys = omega arith; waiting = omega arith; slots = omega arith; pieces = omega arith }) h.within }

stop_formed : (b : SeenBook) (stopped : Option StopCause) → IsWellFormed b → IsWellFormed (record b { stopped = stopped })
stop_formed b stopped h = record { checked = h.checked; allowed = h.allowed; lengths = h.lengths; queues = h.queues; ascending = h.ascending; done = h.done; dead = h.dead; within = limits_onward b (record b { stopped = stopped }) (record { commits = omega arith; panes = omega arith; dropped = omega arith; cells = omega arith; keys = omega arith; waiting = omega arith; slots = omega arith; pieces = omega arith }) h.within }

stop_where_formed : (spent : Bool) (b : SeenBook) (note : FaultNote) → IsWellFormed b → IsWellFormed (stopped_where spent b note)
stop_where_formed true b note h = stop_formed b (or_stopped b.stopped (stop.Spent note)) h
stop_where_formed false b note h = h

-- ---- each step

pieces_up : (chunk : ℕ) (files : List FileLen) (pending : List Piece) → IsAscending pending
    → IsAscending (fold (λ pieces file. with_pieces (first_pieces file.node file.item file.len chunk) pieces) pending files)
pieces_up chunk [] pending up = up
pieces_up chunk (file ∷ files) pending up =
    pieces_up chunk files (with_pieces (first_pieces file.node file.item file.len chunk) pending)
    (ascending_with_pieces (first_pieces file.node file.item file.len chunk) pending up)

opening_formed : (b first : SeenBook) → IsOpening b.plan b.files b.options first → IsWellFormed first
opening_formed b first opening = subst IsWellFormed (sym opening.is) (record {
  checked = opening.checked;
  allowed = opening.allowed;
  lengths = opening.lengths;
  queues = length-map b.plan.nodes _;
  ascending = pieces_up b.options.chunk b.files [] tt;
  done = sorted_none done_cmp;
  dead = sorted_none dead_cmp;
  within = subst IsWithinLimits opening.is opening.within;
})

pub keeps_formed : (told : Option (List FileText)) → Keeps told Anything IsWellFormed
keeps_formed told = record {
  opens = opening_formed;
  enrolls = λ b known h within.
      formed_onward b (enrolled b) (record { plan = refl; options = refl; files = refl; queues = refl; ascending = λ up. up; done = λ up. up; dead = λ up. up }) h within;
  takes = λ b slot next known h running free is within. take_formed b slot next h is within;
  claims = λ b slot p piece attempted known h works may.
      let new = with_slot b slot (Some (live.Span piece (Some p))) in
      formed_onward b new (record { plan = refl; options = refl; files = refl; queues = refl; ascending = λ up. up; done = λ up. up; dead = λ up. up }) h
      (limits_onward b new (record {
        commits = omega arith;
        panes = omega arith;
        dropped = omega arith;
        cells = omega arith;
        keys = omega arith;
        waiting = omega arith;
        slots = omega (arith, length-set b.slots slot (Some (live.Span piece (Some p))));
        pieces = omega (
          arith,
          kept_less b.plan (length (live_pieces new)) (length (live_pieces b))
              (omega (arith, pieces_set b slot (Some (live.Span piece attempted)) (Some (live.Span piece (Some p))) works.works)),
        );
      }) h.within);
  splits = λ b slot at piece attempted known h works inside behind within.
      formed_onward b (split_off b slot piece attempted at) (record {
        plan = refl;
        options = refl;
        files = refl;
        queues = refl;
        ascending = ascending_with_piece _ b.pending;
        done = λ up. up;
        dead = λ up. up;
      }) h within;
  commits = λ b slot job receipt cells fired marks known h made.
      formed_onward b (committed b slot job receipt cells fired marks) (record {
        plan = refl;
        options = refl;
        files = refl;
        queues = length-map (enumerate_from 0 b.queues) _ ∙ length-enumerate_from 0 b.queues;
        ascending = pending_up b.pending job receipt;
        done = done_up b.done job;
        dead = dead_up b.dead job;
      }) h made.within;
  fails = λ b slot at job cause known h works fresh unbroken.
      stop_where_formed (ends_run b job cause) (counted (given_back (with_slot b slot None) job at cause) cause) (note_of job at cause)
      (counted_formed (given_back (with_slot b slot None) job at cause) cause (back_formed b slot job at cause h works));
  breaks = λ b slot at piece attempted known h works fresh is. broken_formed b slot piece attempted (note_of (live.Span piece attempted) at Call) h works is;
  stops = λ b known h. stop_formed b (or_stopped b.stopped stop.NoMemory) h;
}

pub formed_always : (told : Option (List FileText)) → AreAlways told IsWellFormed
formed_always told = kept_alone told IsWellFormed (keeps_formed told)
