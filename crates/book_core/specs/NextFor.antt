-- How the slot whose range is split is found: slot after slot, the best so far.
use Rattle.std.specs.Prelude.{◌≡◌, ℕ, ◌+◌, ◌<◌, nat_lt, if◌then◌else◌, List, slice_get, Option, Some, None}
use Rattle.beam_values.specs.Tracking.{split_point_of}
use Rattle.beam_values.specs.declared.piece.Piece.{Piece}
use Rattle.book_core.specs.Book.{tracker_of}
use Rattle.book_core.specs.Steps.{left_behind, IsBefore}
use Rattle.book_core.specs.declared.live.Live.{Live}
use Rattle.book_core.specs.declared.live.Live.TheVariants as live

-- the range that a slot works isn't spent and would split at a half, and so much of it is left, its last attempted position not counted
pub record IsLeftOf (slots : List (Option Live)) (slot left : ℕ) : Type 0 where
  pub piece : Piece
  pub attempted : Option ℕ
  pub works : slice_get slots slot ≡ Some (Some (live.Span piece attempted))
  pub fresh : piece.spent ≡ None
  pub splits : split_point_of (tracker_of piece attempted) 1 2 < piece.range.to
  pub is : left + 1 ≡ left_behind piece attempted

abbrev pub better_of : Option (ℕ × ℕ) → ℕ → Option ℕ → Option (ℕ × ℕ)
better_of None other None = None
better_of None other (Some left) = Some (other, left)
better_of (Some best) other None = Some best
better_of (Some best) other (Some left) = if nat_lt best.1 left then Some (other, left) else Some best

-- of the slots below `count` but this one, none that would split has more left, and none lower has as much
abbrev pub IsBestOf : List (Option Live) → ℕ → ℕ → Option (ℕ × ℕ) → Type 0
IsBestOf slots slot count None = (other left : ℕ) → other < count → (other ≡ slot → ⊥) → IsLeftOf slots other left → ⊥
IsBestOf slots slot count (Some (chosen, most)) =
    (chosen ≡ slot → ⊥) × (chosen < count) × IsLeftOf slots chosen most
    × ((other left : ℕ) → other < count → (other ≡ slot → ⊥) → IsLeftOf slots other left → IsBefore most chosen left other)

abbrev pub IsMostOf : List (Option Live) → ℕ → ℕ → Option ℕ → Type 0
IsMostOf slots slot count None = IsBestOf slots slot count None
IsMostOf slots slot count (Some chosen) = (most : ℕ) × IsBestOf slots slot count (Some (chosen, most))
