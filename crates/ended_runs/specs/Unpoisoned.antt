-- Runs that take no poison: none at all, or none beside ranges.
use Rattle.std.specs.Prelude.{◌≡◌, ℕ, None}
use Rattle.beam_values.specs.declared.options.Options.{Options}
use Rattle.beam_values.specs.declared.plan.Plan.{Plan}
use Rattle.beam_ports.specs.Observed.{WhereTold}
use Rattle.bundle_commit.specs.declared.job.Job.{Job}
use Rattle.bundle_commit.specs.declared.job.Job.TheVariants as job
use Rattle.book_core.specs.Book.{SeenBook}
use Rattle.book_core.specs.Runs.{AreTold, HonestlyReached}
use Rattle.book_core.specs.Steps.{IsTaking}
use Rattle.book_core.specs.Work.{IsPoisonJob, Surroundings}

-- Over these files, from an opening of this plan with their lengths and these options, no run takes a job that is so.
abbrev pub TakesNo : (Plan → Job → Type 0) → Surroundings → Plan → Options → Type 0
TakesNo IsBad known plan options =
    (b new : SeenBook) (slot : ℕ) (job : Job) → HonestlyReached known b → b.plan ≡ plan → b.options ≡ options → WhereTold known.told (λ told. AreTold told b)
    → IsTaking b slot job new → IsBad plan job → ⊥

abbrev pub TakesNoPoison : Surroundings → Plan → Options → Type 0
TakesNoPoison known plan options = TakesNo (IsPoisonJob known.told) known plan options

-- a batch or a key job that is poison, whatever the files are: it reads none
abbrev pub IsPoisonBeside : Plan → Job → Type 0
IsPoisonBeside plan (job.Span piece) = ⊥
IsPoisonBeside plan other = IsPoisonJob None plan other

-- ranges may be poison
abbrev pub TakesNoPoisonBeside : Surroundings → Plan → Options → Type 0
TakesNoPoisonBeside known plan options = TakesNo IsPoisonBeside known plan options
