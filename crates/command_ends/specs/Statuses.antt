-- The exit status of each end of a command.
use Rattle.std.specs.Prelude.{◌≡◌, ◌⊎◌, ℕ, List}
use Rattle.command_ends.specs.declared.status.Status.{Status}
use Rattle.command_ends.specs.declared.status.Status.TheVariants as status

abbrev pub number_of : Status → ℕ
number_of status.Ok = 0
number_of status.Help = 0
number_of status.Usage = 2
number_of (status.BadPlan refusal) = 3
number_of (status.NoSource name) = 4
number_of (status.SourceFault kit) = 5
number_of (status.WorkFault note) = 6
number_of status.SinkFault = 7
number_of status.NoMemory = 8
number_of (status.FileChanged name first other) = 9
number_of (status.BadSchedule refusal) = 10
number_of (status.NotLifted refusal) = 11

-- that no file of this name is there, or that there was no memory to say so
abbrev pub IsNoSourceOrNoMemory : List ℕ → Status → Type 0
IsNoSourceOrNoMemory name s = (s ≡ status.NoSource name) ⊎ (s ≡ status.NoMemory)
