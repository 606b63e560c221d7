-- The order of pending pieces, and how an item is cut at first (Splittable DoFn: initial splitting of a restriction).
use Rattle.std.specs.Prelude.{◌≡◌, ℕ, ◌+◌, ◌*◌, Bool, false, List, [], ◌∷◌, map, fold, min, All, if◌then◌else◌, None}
use Rattle.std.specs.Int.{div_ceil}
use Rattle.std.specs.declared.cmp.Ordering.{Ordering}
use Rattle.std.specs.Ordering.{on, then_cmp, nat_cmp, int_cmp, is_lt}
use Rattle.beam_values.specs.Lines.{offsets}
use Rattle.beam_values.specs.Times.{least_time}
use Rattle.beam_values.specs.declared.piece.Piece.{Piece}

-- pieces by their node, their item, the ends of their range, what was seen before them, and how often they failed
abbrev pub piece_cmp : Piece → Piece → Ordering
piece_cmp =
    then_cmp (on (λ piece. piece.node) nat_cmp)
    (then_cmp (on (λ piece. piece.item) nat_cmp)
    (then_cmp (on (λ piece. piece.range.from) nat_cmp)
    (then_cmp (on (λ piece. piece.range.to) nat_cmp)
    (then_cmp (on (λ piece. piece.seen) int_cmp) (on (λ piece. piece.attempts) nat_cmp)))))

-- the first is strictly lower than the second
abbrev pub is_lower : Piece → Piece → Bool
is_lower a b = is_lt (piece_cmp a b)

-- a piece is put behind the pieces at the front that are lower
abbrev pub with_piece : Piece → List Piece → List Piece
with_piece piece [] = piece ∷ []
with_piece piece (other ∷ others) = if is_lower other piece then other ∷ with_piece piece others else piece ∷ other ∷ others

-- several pieces are put in, one after another
abbrev pub with_pieces : List Piece → List Piece → List Piece
with_pieces pieces pending = fold (λ held piece. with_piece piece held) pending pieces

-- the piece of a chunk: no longer than a chunk, up to the end of the item
abbrev pub first_piece : ℕ → ℕ → ℕ → ℕ → ℕ → Piece
first_piece node item chunk len i = record {
  node = node;
  item = item;
  range = record { from = i * chunk; to = min ((i + 1) * chunk) len };
  seen = least_time;
  attempts = 0;
  spent = None;
}

-- an item is cut into chunks from its start on, the last of which may be shorter
abbrev pub first_pieces : ℕ → ℕ → ℕ → ℕ → List Piece
first_pieces node item len chunk = map (first_piece node item chunk len) (offsets 0 (div_ceil len chunk))

-- no piece is strictly lower than one before it
abbrev pub IsAscending : List Piece → Type 0
IsAscending [] = Unit {0}
IsAscending (piece ∷ pieces) = All (λ other. is_lower other piece ≡ false) pieces × IsAscending pieces
