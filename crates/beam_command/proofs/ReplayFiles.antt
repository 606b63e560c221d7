-- The files of a replay, seen from before both of them were read: why the schedule was not, and how often the store failed.
use Rattle.std.proofs.Common.{◌≡◌, ℕ, ◌+◌, ◌≤◌, List, Option, Result, Ok, Err, IfOk, IfErr, subst, arith}
use Rattle.beam_values.specs.declared.file_text.FileText.{FileText}
use Rattle.beam_ports.specs.Counts.{rise}
use Rattle.beam_ports.specs.Observed.{ObservedStore}
use Rattle.beam_ports.proofs.Rises.{rises_add}
use Rattle.beam_text.specs.declared.refusal.ScheduleRefusal.TheVariants as refusal
use Rattle.command_ends.specs.ScheduleFiles.{IsScheduleUnread}
use Rattle.command_ends.specs.declared.status.Status.{Status}
use Rattle.command_ends.specs.declared.status.Status.TheVariants as status

-- ---- of an answer

pub if_ok : {A E : Type 0} (P Q : A → Type 0) → ((a : A) → P a → Q a) → (r : Result A E) → IfOk r P → IfOk r Q
if_ok P Q holds (Ok a) h = holds a h
if_ok P Q holds (Err e) h = tt

pub if_err : {A E : Type 0} (P Q : E → Type 0) → ((e : E) → P e → Q e) → (r : Result A E) → IfErr r P → IfErr r Q
if_err P Q holds (Ok a) h = tt
if_err P Q holds (Err e) h = holds e h

-- ---- of the files

-- a store that failed so often before one call, and so often before and in it
module _ (first before after failed : ℕ) (earlier : first ≤ before) (later : before ≤ after) (counted : failed ≤ rise first before) where
  pub failed_since : (count : ℕ) → count ≤ 4294967295 → count ≤ failed + rise before after → count ≤ rise first after
  failed_since count small many = omega (arith, small, many, counted, rises_add first before after earlier later)

  module _ (files own : Option (List FileText)) (same : own ≡ files) (name : List ℕ) (attempts : ℕ) (small : attempts ≤ 4294967295) where
    abbrev whole : ObservedStore
    whole = record { files = files; before = first; after = after }

    abbrev late : Option (List FileText) → ObservedStore
    late told = record { files = told; before = before; after = after }

    by_status : (s : Status) → IsScheduleUnread (late files) name failed attempts s → IsScheduleUnread whole name 0 attempts s
    by_status (status.NoSource absent) why = why
    by_status (status.SourceFault kit) why = let many = failed_since attempts small why.1 in (why.0, omega (arith, many))
    by_status (status.BadSchedule (refusal.Length len)) why = why
    by_status (status.BadSchedule (refusal.Line number)) why = absurd why
    by_status (status.BadSchedule (refusal.NotAllowed number)) why = absurd why
    by_status status.NoMemory why = tt
    by_status status.Ok why = absurd why
    by_status status.Help why = absurd why
    by_status (status.NotLifted unlifted) why = absurd why
    by_status status.Usage why = absurd why
    by_status (status.BadPlan refusal) why = absurd why
    by_status (status.WorkFault note) why = absurd why
    by_status status.SinkFault why = absurd why
    by_status (status.FileChanged changed len other) why = absurd why

    pub unread_since : (s : Status) → IsScheduleUnread (late own) name failed attempts s → IsScheduleUnread whole name 0 attempts s
    unread_since s why = by_status s (subst (λ (told : Option (List FileText)). IsScheduleUnread (late told) name failed attempts s) same why)
