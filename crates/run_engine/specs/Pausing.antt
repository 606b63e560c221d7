-- A run on one kit alone that pauses: the book that it is given back with, or how it was refused.
--
-- Over one file of 27 bytes, with bundles of one position: asked for 2 commits, the book has the opening and two commits, done are `[0, 1)` and `[1, 10)`, and
-- `[10, 27)` is pending. Asked for 1000, it is ended with fewer.
use Rattle.std.specs.Prelude.{◌≡◌, ◌⊎◌, ℕ, ◌+◌, ◌≤◌, List, [], ◌∷◌, length, Option, None}
use Rattle.beam_values.specs.declared.file_text.FileText.{FileText}
use Rattle.beam_values.specs.declared.options.Options.{Options}
use Rattle.beam_values.specs.declared.plan.Plan.{Plan}
use Rattle.beam_ports.specs.Files.{Opening}
use Rattle.beam_ports.specs.Observed.{WhereTold}
use Rattle.beam_ports.specs.declared.store.Opened.{Opened}
use Rattle.book_core.specs.Book.{SeenBook}
use Rattle.book_core.specs.Runs.{AreTold, HonestlyReached, IsEnded, IsOpening}
use Rattle.book_core.specs.Steps.{IsRunning, IsWithinLimits}
use Rattle.bundle_work.specs.Openings.{AreOpened, file_names}
use Rattle.bundle_work.specs.Reading.{opened_lengths}
use Rattle.command_ends.specs.declared.status.Status.TheVariants as status
use Rattle.run_engine.specs.Kits.{ObservedKits}
use Rattle.run_engine.specs.PlanRun.{AreFirstLengths, IsPlanEnd, surroundings_of}
use Rattle.run_engine.specs.SetAside.{calls_counted, reads_counted}
use Rattle.run_engine.specs.declared.run_end.RunEnd.{RunEnd}

-- A run of this plan reached it whose fails are all honest, each call and each read that failed was counted, and its one slot works nothing.
pub record IsPaused (kits : ObservedKits) (plan : Plan) (options : Options) (commits : ℕ) (b : SeenBook) : Type 0 where
  pub reached : HonestlyReached (surroundings_of kits) b
  pub of_plan : b.plan ≡ plan
  pub with_options : b.options ≡ options
  pub lengths : WhereTold kits.store.files (λ told. AreTold told b)
  pub slot : b.slots ≡ None ∷ []
  pub running : IsRunning b
  -- just so many commits after the opening, or fewer where it is ended
  pub stops : (length b.commits ≡ commits + 1) ⊎ ((length b.commits ≤ commits) × IsEnded b)
  pub calls : b.calls ≤ calls_counted kits
  pub reads : b.reads ≤ reads_counted kits

-- it was given up by a fault, as a run of the plan is; or there was no memory
pub record IsPauseRefused (kits : ObservedKits) (plan : Plan) (options : Options) (refusal : RunEnd) : Type 0 where
  pub given_up : refusal.status ≡ status.Ok → ⊥
  pub end : IsPlanEnd kits plan options refusal.status refusal.outcome

-- ---- within a pause

-- a store has opened the files of the plan so
pub record AreOpenedSomehow (plan : Plan) (files : List Opened) : Type 0 where
  pub told : Option (List FileText)
  pub opened : ℕ → Option Opening
  pub are : AreOpened told opened (file_names plan) files

-- the book of a run as it is opened over these files, with one slot
pub record IsFirstBook (plan : Plan) (files : List Opened) (options : Options) (b : SeenBook) : Type 0 where
  pub first : SeenBook
  pub opening : IsOpening plan (opened_lengths plan files) options first
  pub is : b ≡ record first { slots = None ∷ [] }
  pub within : IsWithinLimits b
  pub lengths : (told : Option (List FileText)) (opened : ℕ → Option Opening) → AreOpened told opened (file_names plan) files → AreFirstLengths told plan b.files
