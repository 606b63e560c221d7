use Rattle.std.proofs.Common.{arith, sym, subst, Option, Bor, ◌≡◌, ◌≤◌, ◌<◌, Some, length}
use Rattle.std.specs.Prelude.{slice_get}
use Rattle.std.specs.Option.{option_map, option_copied}
use Rattle.std.proofs.lemmas.List.{length-map}
use Rattle.std.proofs.lemmas.Result.{IfOk-weaker}
use Rattle.stateful_core.specs.Opening.{CanFinishAny, IsStanding, done_of}
use Rattle.stateful_core.specs.Seen.{cell_of, cells_of}
use Rattle.stateful_core.specs.declared.key_job.KeyDone.{KeyDone}
use Rattle.stateful_core.specs.declared.slot.Slot.{Slot}
use Rattle.stateful_core.proofs.keys.keep_entries.Goals as goal

pub keep_entries_at-requires : goal.keep_entries_at-requires
keep_entries_at-requires c =
    let inside : c.in-Some.done.now.cell < length (cells_of c.args.slots.now) =
    subst (λ (o : Option (Bor KeyDone)). IsStanding (cells_of c.args.slots.now) (option_map done_of (option_copied o))) c.in-Some.is c.requires in
    omega (arith, inside, length-map c.args.slots.now cell_of)

pub returns-in-Some-clause-finishes : goal.returns-in-Some-clause-finishes
returns-in-Some-clause-finishes c =
    IfOk-weaker c.keep_entries_at.result
    (λ _. (slot : Slot) × (slice_get c.keep_entries_at.new.slots c.in-Some.done.now.cell ≡ Some slot) × (c.len.result ≤ slot.entries.room))
    (λ _. CanFinishAny c.keep_entries_at.new.slots (option_map done_of (option_copied c.args.done)))
    (λ _ h. subst (λ (o : Option (Bor KeyDone)). CanFinishAny c.keep_entries_at.new.slots (option_map done_of (option_copied o))) (sym c.in-Some.is)
    (record { slot = h.0; is_at = h.1; room = omega (arith, h.2, c.len.ensures) }))
    c.keep_entries_at.ensures.room
