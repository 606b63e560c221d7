-- A sink in memory: what contracts see of it, and what a write leaves.
use Rattle.std.specs.Prelude.{ℕ, List, ◌++◌, take, Result, Ok, Err}
use Rattle.beam_ports.specs.declared.refusal.Failed.{Failed}
use Rattle.beam_ports.specs.Counts.{raised}

pub record SinkMemory : Type 0 where
  pub taken : List ℕ
  pub most : ℕ
  pub failing : List ℕ
  pub calls : ℕ
  pub faults : ℕ

-- the sink after a write of these bytes that was answered so
abbrev pub after_write : SinkMemory → List ℕ → Result ℕ Failed → SinkMemory
after_write sink bytes (Ok count) = record sink { taken = sink.taken ++ take count bytes; calls = raised sink.calls }
after_write sink bytes (Err _) = record sink { calls = raised sink.calls; faults = raised sink.faults }
