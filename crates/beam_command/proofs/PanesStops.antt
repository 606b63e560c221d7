-- What stops a run of `panes` over a strict shelf, where nothing fails outside, is poison.
use Rattle.std.proofs.Common.{◌≡◌, inl, inr, ℕ, zero, suc, ℤ, true, false, List, [], ◌∷◌, Option, Some, None, refl, sym, ap, subst, ◌∙◌}
use Rattle.std.specs.List.{All, flat_map}
use Rattle.std.proofs.lemmas.Bool.{false≢true}
use Rattle.std.proofs.lemmas.List.Elements.{All-head}
use Rattle.beam_values.specs.Intervals.{Interval}
use Rattle.beam_values.specs.Nodes.{is_group}
use Rattle.beam_values.specs.States.{KeptState}
use Rattle.beam_values.specs.declared.cell.Pane.{Pane}
use Rattle.beam_values.specs.declared.fault.Cause.{Cause}
use Rattle.beam_values.specs.declared.fault.Cause.TheVariants.{Call}
use Rattle.beam_values.specs.declared.fault.FaultNote.{FaultNote}
use Rattle.beam_values.specs.declared.file_text.FileText.{FileText}
use Rattle.beam_values.specs.declared.log.LogInput.{LogInput}
use Rattle.beam_values.specs.declared.piece.Piece.{Piece}
use Rattle.beam_values.specs.declared.plan.Plan.{Plan}
use Rattle.beam_values.specs.declared.value.Value.{Value}
use Rattle.beam_model.specs.Plans.{panes_plan}
use Rattle.beam_model.specs.Positions.{items}
use Rattle.beam_model.specs.Spread.{HasPoison, first_poison}
use Rattle.beam_model.specs.Flow.{batch_outputs}
use Rattle.stateful_core.specs.KeyWork.{key_outputs}
use Rattle.book_core.specs.Book.{SeenBook, batch_of, held_at, held_in, live_batches, panes_of, queued}
use Rattle.book_core.specs.Changes.{note_of}
use Rattle.book_core.specs.Facts.{AreKept, IsHeldPane}
use Rattle.book_core.specs.Jobs.{attempted_of, job_of}
use Rattle.book_core.specs.Steps.{IsWorking}
use Rattle.book_core.specs.Work.{IsHonest, IsPoisonAttempt, Surroundings, is_known}
use Rattle.book_core.specs.declared.live.Batch.{Batch}
use Rattle.book_core.specs.declared.live.Live.{Live}
use Rattle.book_core.specs.declared.live.Live.TheVariants as live
use Rattle.book_core.specs.declared.live.WaitingPane.{WaitingPane}
use Rattle.book_core.proofs.Slots.{All-slice_get}
use Rattle.book_core.proofs.Slotted.{All-append_right, All-flat_at, All-of_flat_map}
use Rattle.ended_runs.specs.Stops.{IsHonestStop}
use Rattle.ended_runs.proofs.Poisons.{first_holds}
use Rattle.beam_command.proofs.PanesPoison.{Comes, attempt_is_poison, panes_come}

only_group : (file : List ℕ) (size : ℤ) (node : ℕ) → is_group (panes_plan file size) node ≡ true → node ≡ 3
only_group file size zero is = absurd (false≢true is)
only_group file size (suc zero) is = absurd (false≢true is)
only_group file size (suc (suc zero)) is = absurd (false≢true is)
only_group file size (suc (suc (suc zero))) is = refl
only_group file size (suc (suc (suc (suc zero)))) is = absurd (false≢true is)
only_group file size (suc (suc (suc (suc (suc node))))) is = absurd (false≢true is)

-- no node is Stateful, so a key job brings nothing
pub no_key_outputs : (file : List ℕ) (size : ℤ) (node : ℕ) (key : Value) (span : Interval) (inputs : List LogInput) (kept : KeptState)
    → key_outputs (panes_plan file size) node key span inputs kept ≡ []
no_key_outputs file size zero key span inputs kept = refl
no_key_outputs file size (suc zero) key span inputs kept = refl
no_key_outputs file size (suc (suc zero)) key span inputs kept = refl
no_key_outputs file size (suc (suc (suc zero))) key span inputs kept = refl
no_key_outputs file size (suc (suc (suc (suc zero)))) key span inputs kept = refl
no_key_outputs file size (suc (suc (suc (suc (suc node))))) key span inputs kept = refl

same_note : (note : FaultNote) (attempts : ℕ) → note.node ≡ 0 → note.item ≡ 0 → note.at ≡ 0 → note.attempt ≡ attempts → note.cause ≡ Call
    → note ≡ record { node = 0; item = 0; at = 0; attempt = attempts; cause = Call }
same_note note attempts node item at attempt cause = λ i. record { node = node i; item = item i; at = at i; attempt = attempt i; cause = cause i }

module _ (file : List ℕ) (size : ℤ) (b : SeenBook) (of : b.plan ≡ panes_plan file size) (kept : AreKept b) where
  abbrev plan : Plan
  plan = panes_plan file size

  -- a batch has panes of the Group alone
  pub batch_held : (slot : ℕ) (batch : Batch) → IsWorking b slot (live.Batch batch) → All (IsHeldPane b) (held_at batch.node batch.panes)
  batch_held slot batch works =
      let lives = All-append_right (IsHeldPane b) (flat_map held_in b.returned) (flat_map held_in (live_batches b)) (All-append_right (IsHeldPane b) (queued b) _ kept.held.panes) in
      All-head (λ (x : Batch). All (IsHeldPane b) (held_in x)) batch []
      (All-flat_at batch_of b.slots slot (λ (x : Batch). All (IsHeldPane b) (held_in x)) (Some (live.Batch batch)) works
      (All-of_flat_map (IsHeldPane b) held_in (live_batches b) lives))

  batch_at_group : (node : ℕ) (waiting : WaitingPane) (later : List WaitingPane) → All (IsHeldPane b) (held_at node (waiting ∷ later)) → node ≡ 3
  batch_at_group node waiting later held =
      let first = All-head (IsHeldPane b) _ _ held in
      let group = All-slice_get (λ (pane : Pane). is_group b.plan pane.node ≡ true) b.panes waiting.pane first.0 first.1 kept.cells.legal.panes_at in
      sym first.2 ∙ only_group file size first.0.node (subst (λ (p : Plan). is_group p first.0.node ≡ true) of group)

  -- and they are no poison
  pub batch_comes : (node at : ℕ) (panes : List WaitingPane) → All (IsHeldPane b) (held_at node panes) → first_poison (batch_outputs plan node (panes_of b.panes panes)) ≡ Some at → ⊥
  batch_comes node at [] held first = absurd cc
  batch_comes node at (waiting ∷ later) held first =
      let own = subst (λ (n : ℕ). first_poison (batch_outputs plan n (panes_of b.panes (waiting ∷ later))) ≡ Some at) (batch_at_group node waiting later held) first in
      first_holds Comes (batch_outputs plan 3 (panes_of b.panes (waiting ∷ later))) at (panes_come file size (panes_of b.panes (waiting ∷ later))) own

  module _ (known : Surroundings) (told : List FileText) (tells : known.told ≡ Some told) (strict : known.strict ≡ true) (slot : ℕ) (note : FaultNote) (cause : note.cause ≡ Call)
      (attempts : ℕ) (spent : note.attempt ≡ attempts) where
    abbrev IsFirst : Type 0
    IsFirst = (note ≡ record { node = 0; item = 0; at = 0; attempt = attempts; cause = Call }) × HasPoison plan (items told plan)

    of_attempt : (piece : Piece) (attempted : Option ℕ) → note ≡ note_of (live.Span piece attempted) note.at note.cause → IsPoisonAttempt (Some told) plan piece attempted note.at → IsFirst
    of_attempt piece None is attempt = absurd attempt
    of_attempt piece (Some p) is attempt =
        let found = attempt_is_poison file size told piece.node piece.item p note.at attempt.2 in
        (same_note note attempts (ap (λ (n : FaultNote). n.node) is ∙ found.0) (ap (λ (n : FaultNote). n.item) is ∙ found.1) found.2 spent cause, found.3)

    of_job : (job : Live) → IsWorking b slot job → note ≡ note_of job note.at note.cause → IsHonest known plan (job_of b.panes job) (attempted_of job) note.at Call → IsFirst
    of_job (live.Span piece attempted) works is honest = elim honest [
      | inl loose ↦ absurd (false≢true (sym loose ∙ strict))
      | inr called ↦ elim called [
        | inl unknown ↦ absurd (false≢true (sym (subst (λ (t : Option (List FileText)). is_known t plan piece.node ≡ false) tells unknown)))
        | inr attempt ↦ of_attempt piece attempted is (subst (λ (t : Option (List FileText)). IsPoisonAttempt t plan piece attempted note.at) tells attempt)
      ]
    ]
    of_job (live.Batch batch) works is honest = elim honest [
      | inl loose ↦ absurd (false≢true (sym loose ∙ strict))
      | inr called ↦ absurd (batch_comes batch.node note.at batch.panes (batch_held slot batch works) called)
    ]
    of_job (live.Key turn) works is honest = elim honest [
      | inl loose ↦ absurd (false≢true (sym loose ∙ strict))
      | inr called ↦
          absurd (let none = no_key_outputs file size turn.node turn.key turn.span turn.inputs (record { cells = turn.state; timers = turn.timers }) in
          let first : None ≡ Some note.at = sym (ap first_poison none) ∙ called in cc)
    ]

-- the fault is that of the source's function, and a position is poison
pub stop_is_poison : (file : List ℕ) (size : ℤ) (known : Surroundings) (told : List FileText) (b : SeenBook) (note : FaultNote) → known.told ≡ Some told → known.strict ≡ true
    → b.plan ≡ panes_plan file size → note.cause ≡ Call → (stop : IsHonestStop known b note) → AreKept stop.before
    → (note ≡ record { node = 0; item = 0; at = 0; attempt = b.options.attempts; cause = Call }) × HasPoison (panes_plan file size) (items told (panes_plan file size))
stop_is_poison file size known told b note tells strict of cause stop kept =
    let plan = stop.plan ∙ of in
    of_job file size stop.before plan kept known told tells strict stop.slot note cause b.options.attempts stop.spent stop.job stop.works stop.tells
    (subst (λ (p : Plan). IsHonest known p (job_of stop.before.panes stop.job) (attempted_of stop.job) note.at Call) plan
    (subst (λ (c : Cause). IsHonest known stop.before.plan (job_of stop.before.panes stop.job) (attempted_of stop.job) note.at c) cause stop.honest))
