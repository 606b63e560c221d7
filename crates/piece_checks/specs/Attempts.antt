-- How often jobs failed that aren't worked, of a book that isn't stopped.
use Rattle.std.specs.Prelude.{◌≡◌, ℕ, ◌+◌, ◌*◌, ◌<◌, ◌≤◌, List, sum_by, Option, Some, None}
use Rattle.beam_values.specs.declared.fault.FaultNote.{FaultNote}
use Rattle.beam_values.specs.declared.piece.Piece.{Piece}
use Rattle.piece_checks.specs.declared.attempts.Faults.{Faults}

-- A piece failed less often than it may, or is spent: then it is one position, and failed as often. With a limit of 3, `[0, 27)` may have 2 attempts, and
-- `[9, 10)` be spent with 3; not so `[9, 11)`, nor `[9, 10)` with 2.
abbrev pub IsTriedAs : ℕ → Option FaultNote → Piece → Type 0
IsTriedAs limit None piece = piece.attempts < limit
IsTriedAs limit (Some note) piece = (piece.range.to ≡ piece.range.from + 1) × (piece.attempts ≡ limit)

abbrev pub IsPieceTried : ℕ → Piece → Type 0
IsPieceTried limit piece = IsTriedAs limit piece.spent piece

-- The faults that were counted are enough for the limit at each of so many dead positions and the attempts of all pieces. After three calls and a read failed,
-- with a limit of 3, there may be one dead position beside a piece with 1 attempt.
abbrev pub AreFaultsEnough : Faults → ℕ → ℕ → List Piece → Type 0
AreFaultsEnough faults limit dead pieces = limit * dead + sum_by (λ piece. piece.attempts) pieces ≤ faults.calls + faults.reads

-- a job by itself
abbrev pub IsTried : Faults → ℕ → ℕ → Type 0
IsTried faults limit attempts = (attempts < limit) × (attempts ≤ faults.calls + faults.reads)
