-- How a share of the faults rises (the bound is that of 64 bits).
use Rattle.std.specs.Prelude.{ℕ, ◌+◌, min}
use Rattle.beam_values.specs.declared.fault.Cause.{Cause}
use Rattle.beam_values.specs.declared.fault.Cause.TheVariants.{Call, Read}
use Rattle.retry_core.specs.declared.share.FaultShare.{FaultShare}

-- a count that stays at the greatest number once it is there
abbrev pub risen : ℕ → ℕ → ℕ
risen count n = min (count + n) 18446744073709551615

abbrev pub share_after : FaultShare → Cause → ℕ → FaultShare
share_after share Call n = record share { calls = risen share.calls n }
share_after share Read n = record share { reads = risen share.reads n }
