-- Plans that set positions aside: which positions are dead where a run came to its end, and when it comes there.
use Rattle.std.specs.Prelude.{◌≡◌, ℕ, ◌+◌, ◌*◌, ◌<◌, ◌≤◌, true, false, List, [], length, Option, Some}
use Rattle.std.specs.List.{All}
use Rattle.beam_values.specs.declared.file_text.FileText.{FileText}
use Rattle.beam_values.specs.declared.options.Options.{Options}
use Rattle.beam_values.specs.declared.outcome.Outcome.{Outcome}
use Rattle.beam_values.specs.declared.plan.Plan.{Plan}
use Rattle.beam_ports.specs.Counts.{rise}
use Rattle.beam_ports.specs.Observed.{WhereTold}
use Rattle.book_core.specs.Book.{sets_aside}
use Rattle.book_core.specs.Facts.{IsLastCall}
use Rattle.ended_runs.specs.DeadLetters.{ArePoisonDead, HasNoPoisonPosition, IsPoisonDead}
use Rattle.ended_runs.specs.Unpoisoned.{TakesNoPoison, TakesNoPoisonBeside}
use Rattle.command_ends.specs.declared.status.Status.{Status}
use Rattle.command_ends.specs.declared.status.Status.TheVariants as status
use Rattle.run_engine.specs.Kits.{ObservedKits}
use Rattle.run_engine.specs.PlanRun.{surroundings_of}

-- how many faults were counted in functions, and how many in stores
abbrev pub calls_counted : ObservedKits → ℕ
calls_counted kits = rise kits.shelf.before kits.shelf.after

abbrev pub reads_counted : ObservedKits → ℕ
reads_counted kits = rise kits.store.before kits.store.after

-- ---- dead positions

-- A plan of version 1 has none. Work on each one failed as often as it may, the last time in a call, and each of these fails was counted: of two dead positions
-- with 3 attempts at least 6. Where the files are told, each position that is poison by itself is dead; and where functions fail on poison alone, no other one is.
pub record HasDeadLetters (kits : ObservedKits) (attempts : ℕ) (o : Outcome) : Type 0 where
  pub none : sets_aside o.plan ≡ false → o.dead ≡ []
  pub notes : All (λ d. IsLastCall attempts d.note) o.dead
  pub counted : attempts * length o.dead ≤ calls_counted kits + reads_counted kits
  pub poison : WhereTold kits.store.files (λ told. ArePoisonDead told o)
  pub only : kits.shelf.strict ≡ true → WhereTold kits.store.files (λ told. All (IsPoisonDead told o.plan) o.dead)

-- P holds of the outcome of a run that came to its end
abbrev pub AtOk : Status → Option Outcome → (Outcome → Type 0) → Type 0
AtOk status.Ok (Some o) P = P o
AtOk s outcome P = Unit {0}

-- ---- runs that come to their end

abbrev pub EndsWell : Status → Type 0
EndsWell status.Ok = Unit {0}
EndsWell status.NoMemory = Unit {0}
EndsWell _ = ⊥

-- A run ends Ok, or there is no memory, where fewer faults are counted than a job has attempts. So it does too over functions that fail on poison alone: where
-- no job that is taken is poison, of told files, and fewer faults are counted in stores than a job has attempts; and where no batch and no key job that is
-- taken is poison, if positions are set aside and no fault is counted in a store, or if of told files no position is poison and fewer faults are counted in
-- stores than a job has attempts.
pub record ComesToItsEnd (kits : ObservedKits) (plan : Plan) (options : Options) (s : Status) : Type 0 where
  pub few : calls_counted kits + reads_counted kits < options.attempts → EndsWell s
  pub no_job : (told : List FileText) → kits.store.files ≡ Some told → kits.shelf.strict ≡ true → TakesNoPoison (surroundings_of kits) plan options
      → reads_counted kits < options.attempts → EndsWell s
  pub no_read : sets_aside plan ≡ true → kits.shelf.strict ≡ true → TakesNoPoisonBeside (surroundings_of kits) plan options → reads_counted kits ≡ 0 → EndsWell s
  pub no_poison : (told : List FileText) → kits.store.files ≡ Some told → HasNoPoisonPosition told plan → kits.shelf.strict ≡ true
      → TakesNoPoisonBeside (surroundings_of kits) plan options → reads_counted kits < options.attempts → EndsWell s
