-- What a worker knows of a piece that it shares with no other.
use Rattle.std.specs.Prelude.{ℕ, ◌≤◌, Option, Some, None}

-- the last position that was attempted, if there is one, doesn't lie before the start
abbrev pub IsFromStart : ℕ → Option ℕ → Type 0
IsFromStart from None = Unit {0}
IsFromStart from (Some last) = from ≤ last
