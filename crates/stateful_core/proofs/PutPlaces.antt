-- An arrival is put at its cell, and the room that is left.
use Rattle.std.proofs.Common.{◌≡◌, ℕ, zero, suc, true, false, cond, List, [], ◌∷◌, ◌++◌, take, Option, Some, None, refl, sym, ap, ◌∙◌}
use Rattle.std.specs.Prelude.{slice_get, slice_set}
use Rattle.std.specs.Option.{option_map}
use Rattle.std.proofs.lemmas.List.{map-set}
use Rattle.std.proofs.lemmas.List.Elements.{All-head, All-tail}
use Rattle.std.proofs.lemmas.Option.{slice_get-map, same_Some}
use Rattle.beam_values.specs.Nodes.{is_stateful}
use Rattle.beam_values.specs.declared.arrival.Arrival.{Arrival}
use Rattle.beam_values.specs.declared.marks.StageMarks.{StageMarks}
use Rattle.beam_values.specs.declared.plan.Plan.{Plan}
use Rattle.stateful_core.specs.Cells.{KeyCell, belongs}
use Rattle.stateful_core.specs.Opening.{put_in, put_one, put_all, IsCellAt, IsAdded}
use Rattle.stateful_core.specs.Placing.{Done, waits, with_waiting, set_done, with_done, finish}
use Rattle.stateful_core.specs.Seen.{cell_of, cells_of}
use Rattle.stateful_core.specs.declared.slot.Slot.{Slot}
use Rattle.stateful_core.specs.declared.waiting.Waiting.{Waiting}

-- ---- where it is put

pub put_at : (before : List StageMarks) (arrival : Arrival) (cells : List KeyCell) (at : ℕ) (h : IsCellAt arrival cells at)
    → put_in before arrival cells ≡ slice_set cells at (with_waiting h.cell (waits before arrival))
put_at before arrival [] at h = refl
put_at before arrival (c ∷ cells) zero h =
    let same = same_Some c h.cell h.is_at in
    ap (λ b. cond b (with_waiting c (waits before arrival) ∷ cells) (c ∷ put_in before arrival cells)) (ap (belongs arrival) same ∙ h.own)
    ∙ ap (λ (x : KeyCell). with_waiting x (waits before arrival) ∷ cells) same
put_at before arrival (c ∷ cells) (suc at) h =
    let other = All-head (λ (x : KeyCell). belongs arrival x ≡ false) c (take at cells) h.before in
    ap (λ b. cond b (with_waiting c (waits before arrival) ∷ cells) (c ∷ put_in before arrival cells)) other
    ∙ ap (λ l. c ∷ l)
    (put_at before arrival cells at (record { cell = h.cell; is_at = h.is_at; own = h.own; before = All-tail (λ (x : KeyCell). belongs arrival x ≡ false) c (take at cells) h.before }))

pub put_is : (plan : Plan) (before : List StageMarks) (arrival : Arrival) (slots after : List Slot) (at : ℕ) (waiting : Waiting)
    → is_stateful plan arrival.node ≡ true → waiting ≡ waits before arrival → IsCellAt arrival (cells_of slots) at
    → ((slot : Slot) → slice_get slots at ≡ Some slot → IsAdded slots at slot waiting after)
    → cells_of after ≡ put_one plan before (cells_of slots) arrival
put_is plan before arrival slots after at waiting on is h added = by (slice_get slots at) refl
  where
    by : (found : Option Slot) → slice_get slots at ≡ found → cells_of after ≡ put_one plan before (cells_of slots) arrival
    by None e = absurd (none (sym (slice_get-map cell_of slots at ∙ ap (option_map cell_of) e) ∙ h.is_at))
      where
        none : None ≡ Some h.cell → ⊥
        none f = cc
    by (Some slot) e =
        let more = added slot e in
        let same : cell_of slot ≡ h.cell = same_Some (cell_of slot) h.cell (sym (slice_get-map cell_of slots at ∙ ap (option_map cell_of) e) ∙ h.is_at) in
        ap cells_of more.set ∙ map-set cell_of slots at more.new
        ∙ ap (slice_set (cells_of slots) at) (more.more.cell ∙ (λ i. with_waiting (same i) (is i)))
        ∙ sym (put_at before arrival (cells_of slots) at h)
        ∙ sym (ap (λ b. cond b (put_in before arrival (cells_of slots)) (cells_of slots)) on)

-- ---- a job that is done

pub finish_is : (before : List StageMarks) (done : Done) (slots : List Slot) (old new : Slot) → slice_get slots done.cell ≡ Some old
    → cell_of new ≡ with_done before done (cell_of old) → cells_of (slice_set slots done.cell new) ≡ finish before (Some done) (cells_of slots)
finish_is before done slots old new at is =
    let there : slice_get (cells_of slots) done.cell ≡ Some (cell_of old) = slice_get-map cell_of slots done.cell ∙ ap (option_map cell_of) at in
    map-set cell_of slots done.cell new ∙ ap (slice_set (cells_of slots) done.cell) is
    ∙ sym (ap (λ (found : Option KeyCell). set_done before done found (cells_of slots)) there)

pub put_more : (plan : Plan) (before : List StageMarks) (yielded : List Arrival) (arrival : Arrival) (cells : List KeyCell)
    → put_all plan before (yielded ++ arrival ∷ []) cells ≡ put_one plan before (put_all plan before yielded cells) arrival
put_more plan before [] arrival cells = refl
put_more plan before (a ∷ yielded) arrival cells = put_more plan before yielded arrival (put_one plan before cells a)
