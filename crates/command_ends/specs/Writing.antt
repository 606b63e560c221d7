-- What was written of a text.
use Rattle.std.specs.Prelude.{◌≡◌, ℕ, ◌<◌, ◌≤◌, List, length, take}
use Rattle.beam_ports.specs.Counts.{rise}
use Rattle.beam_ports.specs.Observed.{ObservedSink}
use Rattle.beam_ports.specs.Sinks.{then_taken}
use Rattle.command_ends.specs.declared.status.Status.{Status}
use Rattle.command_ends.specs.declared.status.Status.TheVariants as status

-- a text was written whole, or less of it where the sink failed as often as it may
abbrev pub IsWritten : ObservedSink → ℕ → List ℕ → Status → Type 0
IsWritten out attempts text status.SinkFault =
    (attempts ≤ rise out.before out.after) × ((n : ℕ) × (n < length text) × (out.taken_after ≡ then_taken out.taken_before (take n text)))
IsWritten out attempts text s = out.taken_after ≡ then_taken out.taken_before text

-- a text was written, or its writing failed
abbrev pub IsTextEnd : ObservedSink → ℕ → List ℕ → Status → Type 0
IsTextEnd out attempts text status.Ok = IsWritten out attempts text status.Ok
IsTextEnd out attempts text status.SinkFault = IsWritten out attempts text status.SinkFault
IsTextEnd out attempts text _ = ⊥
