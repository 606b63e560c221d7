-- How pieces are dealt to kits.
use Rattle.std.specs.Prelude.{◌≡◌, ℕ, ◌<◌, true, List, [], ◌∷◌, ◌++◌, map, slice_get, slice_set, Some}
use Rattle.std.specs.List.{flat_map, list_any, sum_by}
use Rattle.beam_values.specs.declared.piece.Done.{Done}
use Rattle.beam_values.specs.declared.piece.FileLen.{FileLen}
use Rattle.beam_values.specs.declared.piece.Piece.{Piece}
use Rattle.known_jobs.specs.Calls.{holds_end}
use Rattle.known_jobs.specs.Jobs.{Setting}
use Rattle.split_core.specs.Partition.{range_of}

-- the hands have all pieces together, each once: the hands of 1 and 3, and of 2, those of 1, 2 and 3
pub record AreDealt (pieces : List Piece) (hands : List (List Piece)) : Type 0 where
  pub weighs : (weight : Piece → ℕ) → sum_by (λ hand. sum_by weight hand) hands ≡ sum_by weight pieces

-- one more piece came to the hand at this place
pub record IsGiven (at : ℕ) (piece : Piece) (old new : List (List Piece)) : Type 0 where
  pub hand : List Piece
  pub there : slice_get old at ≡ Some hand
  pub hands : new ≡ slice_set old at (hand ++ piece ∷ [])

-- the ranges of all hands, one hand after another
abbrev pub ranges_in : List (List Piece) → List Done
ranges_in hands = flat_map (λ hand. map range_of hand) hands

-- a piece lies in an item of these lengths, unless it is empty
abbrev pub IsWithin : List FileLen → Piece → Type 0
IsWithin lengths piece = piece.range.from < piece.range.to → list_any (holds_end piece) lengths ≡ true

abbrev pub IsInside : Setting → Piece → Type 0
IsInside setting piece = IsWithin setting.files piece
