-- What comes of one position of a file.
use Rattle.std.specs.Prelude.{◌≡◌, ℕ, List, Option}
use Rattle.beam_values.specs.declared.plan.Plan.{Plan}
use Rattle.beam_values.specs.declared.plan.SourceKind.{SourceKind}
use Rattle.beam_values.specs.declared.value.Value.{Value}
use Rattle.beam_ports.specs.Counts.{Rose}
use Rattle.beam_ports.specs.Files.{Opening}
use Rattle.combine_lift.specs.Tables.{Table}
use Rattle.combine_views.specs.Skims.{HasWorkedAt}
use Rattle.combine_views.specs.declared.skim.Step.{Step}
use Rattle.combine_views.specs.declared.skim.Step.TheVariants.{Added, Untold, Failed}

abbrev pub IsStep : {A : Type 0} → (A → List Value → Type 0) → Plan → ℕ → SourceKind → Option Opening → ℕ → ℕ → ℕ → ℕ → Table A → Table A → Step → Type 0
IsStep stands plan source work opening len p before after old new (Added next) = HasWorkedAt stands plan source work opening len p next old new
IsStep stands plan source work opening len p before after old new Untold = new ≡ old
IsStep stands plan source work opening len p before after old new Failed = (new ≡ old) × Rose before after
