-- How a replay ends where few reads and writes fail.
use Rattle.std.proofs.Common.{◌≡◌, inl, inr, ℕ, ◌<◌, List, length, map, Option, Some, None, refl, sym, ap, subst, ◌∙◌, arith}
use Rattle.beam_values.specs.declared.file_text.FileText.{FileText}
use Rattle.beam_values.specs.declared.options.Options.{Options}
use Rattle.beam_values.specs.declared.outcome.Outcome.{Outcome}
use Rattle.beam_values.specs.declared.plan.Plan.{Plan}
use Rattle.beam_model.specs.Positions.{item_len, items}
use Rattle.beam_ports.specs.Counts.{rise}
use Rattle.beam_ports.specs.Observed.{ObservedStore, WhereTold}
use Rattle.beam_text.specs.declared.refusal.ScheduleRefusal.{ScheduleRefusal}
use Rattle.beam_text.specs.declared.refusal.ScheduleRefusal.TheVariants as refusal
use Rattle.command_words.specs.Commands.{Asked, Help, Panes, Run, Replay, Make, Drill, Combine}
use Rattle.run_engine.specs.Openings.{IsOpeningRefused}
use Rattle.command_ends.specs.ScheduleFiles.{HasLengthOf, IsScheduleUnread, longest_schedule}
use Rattle.command_ends.specs.declared.status.Status.{Status}
use Rattle.command_ends.specs.declared.status.Status.TheVariants as status
use Rattle.beam_command.specs.Asking.{WhereReplay}
use Rattle.beam_command.specs.Completeness.{AreReadFaultsFew, HasAcceptedSchedule, HasReplayInputs, IsEndOfClean, IsEndOfFewReads, IsEndOfReplay}
use Rattle.beam_command.specs.Ends.{IsEndOf}
use Rattle.beam_command.specs.Observing.{Observed}
use Rattle.beam_command.specs.ReplayEnds.{AreInputsOf, IsLineBad, IsRefusedOf, IsReplayEnd, IsReplayUnbegun, Replayed}
use Rattle.beam_command.proofs.Completeness.{not_failed, opened, plan_read, read_is}
use Rattle.beam_command.proofs.Stores.{AreOfOne, IsOneOf, told_here}

-- ---- where the files are told

module _ (observed : Observed) (of_one : AreOfOne observed.kits) (told : List FileText) (tells : observed.kits.store.files ≡ Some told) (name schedule : List ℕ) (options : Options)
    (few : AreReadFaultsFew options.attempts observed) where
  module _ (inputs : HasReplayInputs told name schedule) where
    -- a schedule that is there isn't too long
    not_long : (len : ℕ) → longest_schedule < len → HasLengthOf told schedule len → ⊥
    not_long len long has =
        let read = inputs.1.schedule_read.is told refl in
        let text : has.0 ≡ inputs.0.schedule = cc (has.1, read) in
        absurd (omega (arith, long, ap length text, has.2, inputs.1.schedule_read.short))

    schedule_read : (first : ObservedStore) → IsOneOf observed.kits.store first → (s : Status) → IsScheduleUnread first schedule 0 options.attempts s → s ≡ status.NoMemory
    schedule_read first one (status.NoSource absent) unread =
        let none = unread.1 told (told_here observed.kits.store first told one tells) in
        let there = inputs.1.schedule_read.is told refl in
        absurd (cc (none, there))
    schedule_read first one (status.SourceFault kit) unread = absurd (omega (arith, unread.1, one.counts, few.store))
    schedule_read first one (status.BadSchedule (refusal.Length len)) unread =
        absurd (not_long len unread.0 (unread.1 told (told_here observed.kits.store first told one tells)))
    schedule_read first one (status.BadSchedule (refusal.Line number)) unread = absurd unread
    schedule_read first one (status.BadSchedule (refusal.NotAllowed number)) unread = absurd unread
    schedule_read first one status.NoMemory unread = refl
    schedule_read first one status.Ok unread = absurd unread
    schedule_read first one status.Help unread = absurd unread
    schedule_read first one (status.NotLifted unlifted) unread = absurd unread
    schedule_read first one status.Usage unread = absurd unread
    schedule_read first one (status.BadPlan why) unread = absurd unread
    schedule_read first one (status.WorkFault note) unread = absurd unread
    schedule_read first one status.SinkFault unread = absurd unread
    schedule_read first one (status.FileChanged changed len other) unread = absurd unread

    -- with all there, a replay that worked no line had no memory
    began : (s : Status) → IsReplayUnbegun observed.kits name schedule options.attempts s → s ≡ status.NoMemory
    began s why =
        let one = of_one 0 why.0 why.1 in
        elim why.2 [
          | inl refused ↦ plan_read observed of_one told tells options.attempts few.store name inputs.0.plan inputs.1.plan why.0 one s refused
          | inr other ↦ elim other [
            | inl missed ↦ schedule_read why.0 one s missed.2
            | inr sources ↦
                opened observed of_one told tells options.attempts few.store inputs.0.plan inputs.1.found s
                (subst (λ (p : Plan). IsOpeningRefused observed.kits.stores p options.attempts 0 s)
                (read_is why.0 told (told_here observed.kits.store why.0 told one tells) name inputs.0.plan sources.plan inputs.1.plan sources.read) sources.refused)
          ]
        ]

    abbrev Worked : Status → Type 0
    Worked s = IsEndOfReplay s

    unbegun : (s : Status) → IsReplayUnbegun observed.kits name schedule options.attempts s → IsEndOfReplay s
    unbegun s why = subst Worked (sym (began s why)) tt

    replayed : (s : Status) → IsReplayEnd observed name schedule options s → IsEndOfReplay s
    replayed status.Ok end = tt
    replayed status.SinkFault end = absurd (omega (arith, end.2.0, few.out))
    replayed status.NoMemory end = tt
    replayed (status.BadSchedule (refusal.Line number)) end = tt
    replayed (status.BadSchedule (refusal.NotAllowed number)) end = tt
    replayed (status.BadSchedule (refusal.Length len)) end = absurd (not_long len end.1.long (end.1.is told tells))
    replayed (status.BadPlan why) end = unbegun (status.BadPlan why) end.1
    replayed (status.NoSource absent) end = unbegun (status.NoSource absent) end.1
    replayed (status.SourceFault kit) end = unbegun (status.SourceFault kit) end.1
    replayed (status.WorkFault note) end = absurd end.1
    replayed (status.FileChanged changed len other) end = absurd end.1
    replayed status.Help end = absurd end.1
    replayed (status.NotLifted unlifted) end = absurd end.1
    replayed status.Usage end = absurd end.1

  -- ---- a schedule that is accepted

  module _ (accepted : HasAcceptedSchedule observed told name schedule options) where
    inputs : HasReplayInputs told name schedule
    inputs = (accepted.0, accepted.1)

    -- what a replay works on is one
    same_inputs : (other : Replayed) → AreInputsOf observed.kits.store.files name schedule other → other ≡ accepted.0
    same_inputs other are =
        let plan = read_is observed.kits.store told tells name accepted.0.plan other.plan accepted.1.plan are.plan in
        let own = accepted.1.schedule_read.is told refl in
        let also = are.schedule_read.is told tells in
        let text : other.schedule ≡ accepted.0.schedule = cc (own, also) in
        let files = are.lengths.told_are told tells ∙ ap (λ (p : Plan). map item_len (items told p)) plan ∙ sym (accepted.1.lengths.told_are told refl) in
        λ i. record { plan = plan i; files = files i; schedule = text i }

    never_bad : (why : ScheduleRefusal) → IsLineBad observed.kits name schedule options why → ⊥
    never_bad why bad = accepted.2 why (subst (λ (of : Replayed). IsRefusedOf observed.kits options of why) (same_inputs bad.inputs bad.are) bad.refused)

    cleanly_unbegun : (s : Status) → IsReplayUnbegun observed.kits name schedule options.attempts s → IsEndOfClean s
    cleanly_unbegun s why = inr (began inputs s why)

    cleanly_replayed : (s : Status) → IsReplayEnd observed name schedule options s → IsEndOfClean s
    cleanly_replayed status.Ok end = inl refl
    cleanly_replayed status.SinkFault end = absurd (omega (arith, end.2.0, few.out))
    cleanly_replayed status.NoMemory end = inr refl
    cleanly_replayed (status.BadSchedule (refusal.Line number)) end = absurd (never_bad (refusal.Line number) end.1)
    cleanly_replayed (status.BadSchedule (refusal.NotAllowed number)) end = absurd (never_bad (refusal.NotAllowed number) end.1)
    cleanly_replayed (status.BadSchedule (refusal.Length len)) end = absurd (not_long inputs len end.1.long (end.1.is told tells))
    cleanly_replayed (status.BadPlan why) end = cleanly_unbegun (status.BadPlan why) end.1
    cleanly_replayed (status.NoSource absent) end = cleanly_unbegun (status.NoSource absent) end.1
    cleanly_replayed (status.SourceFault kit) end = cleanly_unbegun (status.SourceFault kit) end.1
    cleanly_replayed (status.WorkFault note) end = absurd end.1
    cleanly_replayed (status.FileChanged changed len other) end = absurd end.1
    cleanly_replayed status.Help end = absurd end.1
    cleanly_replayed (status.NotLifted unlifted) end = absurd end.1
    cleanly_replayed status.Usage end = absurd end.1

-- where its plan, its schedule and its files are there, a replay prints or refuses a line
pub replay : (asked : Option Asked) (observed : Observed) → AreOfOne observed.kits → (s : Status) (outcome : Option Outcome) → IsEndOf asked observed s outcome
    → WhereReplay asked (λ name schedule options. AreReadFaultsFew options.attempts observed
    → WhereTold observed.kits.store.files (λ told. HasReplayInputs told name schedule → IsEndOfReplay s))
replay None observed of_one s outcome end = tt
replay (Some Help) observed of_one s outcome end = tt
replay (Some (Panes file size options)) observed of_one s outcome end = tt
replay (Some (Run name options)) observed of_one s outcome end = tt
replay (Some (Replay name schedule options)) observed of_one s outcome end = λ few told tells inputs. replayed observed of_one told tells name schedule options few inputs s end.0
replay (Some (Make count number)) observed of_one s outcome end = tt
replay (Some (Drill count number options)) observed of_one s outcome end = tt
replay (Some (Combine name options)) observed of_one s outcome end = tt

-- and where no line is refused, it prints
pub replay_accepted : (asked : Option Asked) (observed : Observed) → AreOfOne observed.kits → (s : Status) (outcome : Option Outcome) → IsEndOf asked observed s outcome
    → WhereReplay asked (λ name schedule options. AreReadFaultsFew options.attempts observed
    → WhereTold observed.kits.store.files (λ told. HasAcceptedSchedule observed told name schedule options → IsEndOfClean s))
replay_accepted None observed of_one s outcome end = tt
replay_accepted (Some Help) observed of_one s outcome end = tt
replay_accepted (Some (Panes file size options)) observed of_one s outcome end = tt
replay_accepted (Some (Run name options)) observed of_one s outcome end = tt
replay_accepted (Some (Replay name schedule options)) observed of_one s outcome end = λ few told tells accepted.
    cleanly_replayed observed of_one told tells name schedule options few accepted s end.0
replay_accepted (Some (Make count number)) observed of_one s outcome end = tt
replay_accepted (Some (Drill count number options)) observed of_one s outcome end = tt
replay_accepted (Some (Combine name options)) observed of_one s outcome end = tt

-- ---- whatever the stores tell

module _ (observed : Observed) (of_one : AreOfOne observed.kits) (name schedule : List ℕ) (options : Options) (few : rise observed.kits.store.before observed.kits.store.after < options.attempts) where
  no_fault : (kit : ℕ) → IsReplayUnbegun observed.kits name schedule options.attempts (status.SourceFault kit) → ⊥
  no_fault kit why =
      let one = of_one 0 why.0 why.1 in
      elim why.2 [
        | inl refused ↦ absurd (omega (arith, refused.1, one.counts, few))
        | inr other ↦ elim other [
          | inl missed ↦ absurd (omega (arith, missed.2.1, one.counts, few))
          | inr sources ↦ not_failed observed of_one options.attempts few kit sources.refused
        ]
      ]

  ends_of_few : (s : Status) → IsReplayEnd observed name schedule options s → IsEndOfFewReads options.attempts observed.out s
  ends_of_few status.Ok end = tt
  ends_of_few status.SinkFault end = end.2.0
  ends_of_few status.NoMemory end = tt
  ends_of_few (status.BadSchedule why) end = tt
  ends_of_few (status.NotLifted why) end = end.1
  ends_of_few (status.BadPlan why) end = tt
  ends_of_few (status.NoSource absent) end = tt
  ends_of_few (status.SourceFault kit) end = absurd (no_fault kit end.1)
  ends_of_few (status.WorkFault note) end = absurd end.1
  ends_of_few (status.FileChanged changed len other) end = absurd end.1
  ends_of_few status.Help end = absurd end.1
  ends_of_few status.Usage end = absurd end.1

-- with few faults at its store nothing of a replay failed as often as it may, but for its sink
pub few_reads : (asked : Option Asked) (observed : Observed) → AreOfOne observed.kits → (s : Status) (outcome : Option Outcome) → IsEndOf asked observed s outcome
    → WhereReplay asked (λ name schedule options. rise observed.kits.store.before observed.kits.store.after < options.attempts → IsEndOfFewReads options.attempts observed.out s)
few_reads None observed of_one s outcome end = tt
few_reads (Some Help) observed of_one s outcome end = tt
few_reads (Some (Panes file size options)) observed of_one s outcome end = tt
few_reads (Some (Run name options)) observed of_one s outcome end = tt
few_reads (Some (Replay name schedule options)) observed of_one s outcome end = λ few. ends_of_few observed of_one name schedule options few s end.0
few_reads (Some (Make count number)) observed of_one s outcome end = tt
few_reads (Some (Drill count number options)) observed of_one s outcome end = tt
few_reads (Some (Combine name options)) observed of_one s outcome end = tt
