use Rattle.std.proofs.Common.{◌≡◌, ◌+◌, ◌∷◌, ◌++◌, List, true, false, map, sym, subst, ap, ◌∙◌, arith}
use Rattle.std.specs.Prelude.{slice_get, Contains, Some, None, nat_le}
use Rattle.beam_model.specs.Holds.{Hold, piece_hold}
use Rattle.beam_values.specs.declared.fault.Cause.{Cause}
use Rattle.beam_values.specs.declared.fault.FaultNote.{FaultNote}
use Rattle.beam_values.specs.declared.plan.Plan.{Plan}
use Rattle.retry_core.specs.Shares.{share_after}
use Rattle.split_core.specs.Order.{with_pieces}
use Rattle.book_core.specs.Book.{SeenBook, waiting_in}
use Rattle.book_core.specs.Calls.{CanFail}
use Rattle.book_core.specs.Changes.{attempts_of, broken_parts, may_break, note_of}
use Rattle.book_core.specs.Facts.{HasTurn}
use Rattle.book_core.specs.Indexes.{is_spent, marks_in, AreHeldIn}
use Rattle.book_core.specs.Inside.{data_of}
use Rattle.book_core.specs.KeyCells.{cells_in}
use Rattle.book_core.specs.Steps.{Fail, Retried}
use Rattle.book_core.specs.declared.live.Live.{Live}
use Rattle.book_core.specs.declared.live.Live.TheVariants as live
use Rattle.book_core.proofs.Broken.{broken_is}
use Rattle.book_core.proofs.Failures.{IsWrittenBroken, back_waiting, below_limit, break_among, break_few, break_room, break_within, breaks_if, broken_indexed, can_fresh, ends_unless, fail_indexed, few_attempts, limit_is, makes_break, places_free, range_breaks}
use Rattle.book_core.proofs.Limits.{batches_after}
use Rattle.book_core.proofs.Slots.{All-slice_get}
use Rattle.book_core.proofs.Steady.{makes_seen}
use Rattle.book_core.proofs.book.Book.fail.Goals as goal

pub note_of-note-requires : goal.note_of-note-requires
note_of-note-requires c =
    let b = data_of c.self.inside in
    few_attempts b c.args.slot c.in-Some.job c.self.invariant.indexed.sane c.in-Some.ensures.job
    (can_fresh b c.args.slot c.in-Some.job (subst (λ (d : SeenBook). CanFail d c.args.slot) (sym c.self.view_is) c.requires) c.in-Some.ensures.job)

pub next_attempt-next-requires : goal.next_attempt-next-requires
next_attempt-next-requires c =
    let b = data_of c.self.inside in
    let fresh = can_fresh b c.args.slot c.in-Some.job (subst (λ (d : SeenBook). CanFail d c.args.slot) (sym c.self.view_is) c.requires) c.in-Some.ensures.job in
    omega (arith, c.attempts_of.ensures, below_limit b c.args.slot c.in-Some.job c.self.invariant.indexed.sane c.in-Some.ensures.job fresh)

-- ---- the range is broken

pub break_range-requires-clause-room : goal.break_range-requires-clause-room
break_range-requires-clause-room c =
    let b = data_of c.self.inside in
    let found = c.in-Some-broken_range.ensures in
    let works : slice_get b.slots c.args.slot ≡ Some (Some (live.Span c.in-Some-broken_range.piece c.in-Some-broken_range.attempted)) =
    c.in-Some.ensures.job ∙ ap (λ (job : Live). Some (Some job)) found.0 in
    let limit = limit_is b c.in-Some.job c.attempts_of.result c.next_attempt-next.result c.attempts_of.ensures c.next_attempt-next.ensures in
    let breaks =
    range_breaks b c.in-Some.job c.args.cause c.in-Some-broken_range.piece c.in-Some-broken_range.attempted found.0 found.1
    (breaks_if b c.in-Some.job c.args.cause c.plan-plan.result.now (is_spent c.next_attempt-next.result) true c.plan-plan.ensures.value limit found.2) in
    omega (arith, break_room b c.self.inside.held c.self.inside.pieces.room c.self.inside.returned.room c.args.slot c.in-Some-broken_range.piece c.in-Some-broken_range.attempted works c.self.invariant.indexed (broken_is b c.in-Some-broken_range.piece c.in-Some-broken_range.attempted breaks).1)

pub break_range-requires-clause-within : goal.break_range-requires-clause-within
break_range-requires-clause-within c =
    let b = data_of c.self.inside in
    let found = c.in-Some-broken_range.ensures in
    let works : slice_get b.slots c.args.slot ≡ Some (Some (live.Span c.in-Some-broken_range.piece c.in-Some-broken_range.attempted)) =
    c.in-Some.ensures.job ∙ ap (λ (job : Live). Some (Some job)) found.0 in
    break_within b c.self.inside.held c.self.inside.pieces.room c.self.inside.returned.room c.args.slot c.in-Some-broken_range.piece c.in-Some-broken_range.attempted works c.self.invariant.indexed

pub break_range-requires-clause-among : goal.break_range-requires-clause-among
break_range-requires-clause-among c =
    let b = data_of c.self.inside in
    let found = c.in-Some-broken_range.ensures in
    let works : slice_get b.slots c.args.slot ≡ Some (Some (live.Span c.in-Some-broken_range.piece c.in-Some-broken_range.attempted)) =
    c.in-Some.ensures.job ∙ ap (λ (job : Live). Some (Some job)) found.0 in
    subst (λ (plan : Plan). Contains (marks_in c.self.inside.held c.in-Some-broken_range.piece.node) (piece_hold plan c.in-Some-broken_range.piece).mark) (sym c.plan-plan.ensures.value)
    (break_among b c.self.inside.held c.self.inside.pieces.room c.self.inside.returned.room c.args.slot c.in-Some-broken_range.piece c.in-Some-broken_range.attempted works c.self.invariant.indexed)

pub break_range-requires-clause-few : goal.break_range-requires-clause-few
break_range-requires-clause-few c =
    let b = data_of c.self.inside in
    let found = c.in-Some-broken_range.ensures in
    let works : slice_get b.slots c.args.slot ≡ Some (Some (live.Span c.in-Some-broken_range.piece c.in-Some-broken_range.attempted)) =
    c.in-Some.ensures.job ∙ ap (λ (job : Live). Some (Some job)) found.0 in
    break_few b c.self.inside.held c.self.inside.pieces.room c.self.inside.returned.room c.args.slot c.in-Some-broken_range.piece c.in-Some-broken_range.attempted works c.self.invariant.indexed

pub invariant_of-self : goal.invariant_of-self
invariant_of-self c =
    let b = data_of c.self.inside in
    let found = c.in-Some-broken_range.ensures in
    let works : slice_get b.slots c.args.slot ≡ Some (Some (live.Span c.in-Some-broken_range.piece c.in-Some-broken_range.attempted)) =
    c.in-Some.ensures.job ∙ ap (λ (job : Live). Some (Some job)) found.0 in
    let limit = limit_is b c.in-Some.job c.attempts_of.result c.next_attempt-next.result c.attempts_of.ensures c.next_attempt-next.ensures in
    let breaks =
    range_breaks b c.in-Some.job c.args.cause c.in-Some-broken_range.piece c.in-Some-broken_range.attempted found.0 found.1
    (breaks_if b c.in-Some.job c.args.cause c.plan-plan.result.now (is_spent c.next_attempt-next.result) true c.plan-plan.ensures.value limit found.2) in
    let fresh = can_fresh b c.args.slot (live.Span c.in-Some-broken_range.piece c.in-Some-broken_range.attempted) (subst (λ (d : SeenBook). CanFail d c.args.slot) (sym c.self.view_is) c.requires) works in
    let note_is = c.note_of-note.ensures ∙ ap (λ (job : Live). note_of job c.args.at c.args.cause) found.0 ∙ ap (note_of (live.Span c.in-Some-broken_range.piece c.in-Some-broken_range.attempted) c.args.at) found.1 in
    let written : IsWrittenBroken b c.args.slot c.args.at c.in-Some-broken_range.piece c.in-Some-broken_range.attempted c.take_out.new.slots.items c.break_range.new.pieces.pending c.rise.new.self = record {
      works = works;
      fresh = fresh;
      breaks = breaks;
      slots_are = c.in-Some.ensures.free;
      pending_is = c.break_range.ensures.pending
          ∙ ap (λ (note : FaultNote). with_pieces (broken_parts c.in-Some-broken_range.piece c.in-Some-broken_range.attempted note) c.self.inside.pieces.pending) note_is;
      share_is = c.rise.ensures ∙ ap (λ (cause : Cause). share_after c.self.inside.faults cause 1) found.1;
    } in
    let add : (holds : List Hold) → AreHeldIn c.self.inside.held (piece_hold c.self.inside.graph c.in-Some-broken_range.piece ∷ holds)
    → AreHeldIn c.break_range.new.held (map (piece_hold c.self.inside.graph) (broken_parts c.in-Some-broken_range.piece c.in-Some-broken_range.attempted c.note_of-note.result) ++ holds) =
    subst (λ (plan : Plan). (holds : List Hold) → AreHeldIn c.self.inside.held (piece_hold plan c.in-Some-broken_range.piece ∷ holds)
    → AreHeldIn c.break_range.new.held (map (piece_hold plan) (broken_parts c.in-Some-broken_range.piece c.in-Some-broken_range.attempted c.note_of-note.result) ++ holds))
    c.plan-plan.ensures.value c.break_range.ensures.held in
    record {
      indexed =
          broken_indexed b c.args.slot c.args.at c.in-Some-broken_range.piece c.in-Some-broken_range.attempted _ _ _ written
          c.self.inside.held c.break_range.new.held c.self.inside.pieces.room c.self.inside.returned.room c.break_range.new.pieces.room c.self.invariant.indexed c.break_range.ensures.used
          (λ holds h. subst (λ (note : FaultNote). AreHeldIn c.break_range.new.held (map (piece_hold c.self.inside.graph) (broken_parts c.in-Some-broken_range.piece c.in-Some-broken_range.attempted note) ++ holds)) note_is (add holds h))
          c.break_range.ensures.sized;
      grouped = c.self.invariant.grouped;
      counted = c.self.invariant.counted;
    }

pub returns-in-Some-broken_range : goal.returns-in-Some-broken_range
returns-in-Some-broken_range c =
    let b = data_of c.self.inside in
    let found = c.in-Some-broken_range.ensures in
    let works : slice_get b.slots c.args.slot ≡ Some (Some (live.Span c.in-Some-broken_range.piece c.in-Some-broken_range.attempted)) =
    c.in-Some.ensures.job ∙ ap (λ (job : Live). Some (Some job)) found.0 in
    let limit = limit_is b c.in-Some.job c.attempts_of.result c.next_attempt-next.result c.attempts_of.ensures c.next_attempt-next.ensures in
    let breaks =
    range_breaks b c.in-Some.job c.args.cause c.in-Some-broken_range.piece c.in-Some-broken_range.attempted found.0 found.1
    (breaks_if b c.in-Some.job c.args.cause c.plan-plan.result.now (is_spent c.next_attempt-next.result) true c.plan-plan.ensures.value limit found.2) in
    let fresh = can_fresh b c.args.slot (live.Span c.in-Some-broken_range.piece c.in-Some-broken_range.attempted) (subst (λ (d : SeenBook). CanFail d c.args.slot) (sym c.self.view_is) c.requires) works in
    let note_is = c.note_of-note.ensures ∙ ap (λ (job : Live). note_of job c.args.at c.args.cause) found.0 ∙ ap (note_of (live.Span c.in-Some-broken_range.piece c.in-Some-broken_range.attempted) c.args.at) found.1 in
    let written : IsWrittenBroken b c.args.slot c.args.at c.in-Some-broken_range.piece c.in-Some-broken_range.attempted c.take_out.new.slots.items c.break_range.new.pieces.pending c.rise.new.self = record {
      works = works;
      fresh = fresh;
      breaks = breaks;
      slots_are = c.in-Some.ensures.free;
      pending_is = c.break_range.ensures.pending
          ∙ ap (λ (note : FaultNote). with_pieces (broken_parts c.in-Some-broken_range.piece c.in-Some-broken_range.attempted note) c.self.inside.pieces.pending) note_is;
      share_is = c.rise.ensures ∙ ap (λ (cause : Cause). share_after c.self.inside.faults cause 1) found.1;
    } in
    makes_seen b _ _ c.args.slot (Fail c.args.at c.args.cause) Retried c.self.view_is
    (makes_break b c.args.slot c.args.at c.in-Some-broken_range.piece c.in-Some-broken_range.attempted _ _ _ written c.args.cause found.1)

-- ---- the job is given back

pub give_back-requires-clause-pieces : goal.give_back-requires-clause-pieces
give_back-requires-clause-pieces c = omega (arith, places_free (data_of c.self.inside) c.args.slot c.in-Some.job c.in-Some.ensures.job, c.self.invariant.indexed.pieces)

pub give_back-requires-clause-batches : goal.give_back-requires-clause-batches
give_back-requires-clause-batches c = omega (arith, batches_after c.self.inside.slots.items c.args.slot (Some c.in-Some.job) None c.in-Some.ensures.job, c.self.invariant.indexed.batches)

pub give_back-requires-clause-turn : goal.give_back-requires-clause-turn
give_back-requires-clause-turn c =
    All-slice_get (HasTurn (data_of c.self.inside).keys) c.self.inside.slots.items c.args.slot (Some c.in-Some.job) c.in-Some.ensures.job c.self.invariant.indexed.sane.turns.turns

pub invariant_of-self-2 : goal.invariant_of-self-2
invariant_of-self-2 c =
    let b = data_of c.self.inside in
    let limit = limit_is b c.in-Some.job c.attempts_of.result c.next_attempt-next.result c.attempts_of.ensures c.next_attempt-next.ensures in
    let whole = breaks_if b c.in-Some.job c.args.cause c.plan-plan.result.now (is_spent c.next_attempt-next.result) false c.plan-plan.ensures.value limit c.in_default-broken_range.ensures in
    record {
      indexed =
          fail_indexed b c.args.slot c.args.at c.in-Some.job c.args.cause (is_spent c.next_attempt-next.result) c.note_of-note.result _ _ _ _ _ _
          (record {
            works = c.in-Some.ensures.job;
            fresh = can_fresh b c.args.slot c.in-Some.job (subst (λ (d : SeenBook). CanFail d c.args.slot) (sym c.self.view_is) c.requires) c.in-Some.ensures.job;
            whole = whole;
            spent_is = limit ∙ ends_unless (nat_le b.options.attempts (attempts_of c.in-Some.job + 1)) (may_break b.plan c.in-Some.job c.args.cause) whole;
            note_is = c.note_of-note.ensures;
            slots_are = c.in-Some.ensures.free;
            pending_is = c.give_back.ensures.pending;
            returned_is = c.give_back.ensures.returned;
            keys_are = c.give_back.ensures.keys;
            share_is = c.rise.ensures;
            stopped_is = c.stopped_after-self-inside.ensures;
          })
          c.self.inside.held c.self.inside.pieces.room c.self.inside.returned.room _ _ c.self.invariant.indexed c.give_back.ensures.pieces_room c.give_back.ensures.batches_room;
      grouped = c.self.invariant.grouped;
      counted = c.self.invariant.counted ∙ sym (ap waiting_in c.give_back.ensures.keys ∙ back_waiting (cells_in c.self.inside.keys) c.in-Some.job);
    }
