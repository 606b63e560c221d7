-- Counts that rise by one at each call that fails, and at no other.
use Rattle.std.specs.Prelude.{ℕ, Result, Ok, Err}
use Rattle.beam_ports.specs.declared.refusal.Failed.{Failed as FailedCall}
use Rattle.beam_ports.specs.declared.refusal.OpenRefusal.{OpenRefusal}
use Rattle.beam_ports.specs.declared.refusal.OpenRefusal.TheVariants.{Absent, Failed}
use Rattle.beam_ports.specs.declared.store.Opened.{Opened}
use Rattle.beam_ports.specs.Counts.{raised}

-- the count after an opening that was answered so
abbrev pub after_opening : ℕ → Result Opened OpenRefusal → ℕ
after_opening count (Ok file) = count
after_opening count (Err Absent) = count
after_opening count (Err Failed) = raised count

-- the count after a read or a write that was answered so
abbrev pub after_answer : ℕ → Result ℕ FailedCall → ℕ
after_answer count (Ok taken) = count
after_answer count (Err failed) = raised count
