-- What a step does to the pieces of a book, pending and live together: some go out, and some come in.
use Rattle.std.proofs.Common.{◌≡◌, ◌⊎◌, inl, inr, ℕ, ◌+◌, List, [], ◌∷◌, ◌++◌, refl, sym, subst, append-nil, arith}
use Rattle.std.specs.Prelude.{slice_get, slice_set, Contains, Option, Some, None}
use Rattle.std.specs.List.{All, flat_map, sum_by}
use Rattle.std.proofs.lemmas.List.Sums.{sum_by-cons, sum_by-append}
use Rattle.std.proofs.lemmas.List.Elements.{All-nil, All-head, All-tail, All-append, All-cons, All-contains, All-contains_itself, All-weaker}
use Rattle.beam_values.specs.declared.piece.Piece.{Piece}
use Rattle.split_core.specs.Order.{with_piece, with_pieces}
use Rattle.split_core.proofs.Ordered.{bag_with_piece}
use Rattle.book_core.specs.Book.{SeenBook, live_pieces, piece_of}
use Rattle.book_core.specs.declared.live.Live.{Live}
use Rattle.book_core.specs.declared.live.Live.TheVariants as live
use Rattle.book_core.proofs.Broken.{All-with_pieces}
use Rattle.book_core.proofs.OpenedPieces.{enrolled_of}
use Rattle.book_core.proofs.Slotted.{All-append_left, All-append_right, All-flat_at, All-flat_set, flat_set_weighs}

with_pieces_sum : (w : Piece → ℕ) (pieces l : List Piece) → sum_by w (with_pieces pieces l) ≡ sum_by w pieces + sum_by w l
with_pieces_sum w [] l = omega arith
with_pieces_sum w (piece ∷ pieces) l =
    omega (arith, with_pieces_sum w pieces (with_piece piece l), (bag_with_piece piece l).weighs w, sum_by-cons w piece l, sum_by-cons w piece pieces)

-- the pieces of these lists, and of a book
abbrev pub pieces_in : List Piece → List (Option Live) → List Piece
pieces_in pending slots = pending ++ flat_map piece_of slots

abbrev pub all_pieces : SeenBook → List Piece
all_pieces b = b.pending ++ live_pieces b

-- a piece of the one list or the other
abbrev IsEither : List Piece → List Piece → Piece → Type 0
IsEither old into piece = Contains old piece ⊎ Contains into piece

pub record Moves (old new out into : List Piece) : Type 0 where
  pub weighs : (w : Piece → ℕ) → sum_by w new + sum_by w out ≡ sum_by w old + sum_by w into
  pub each : All (IsEither old into) new
  pub outs : All (Contains old) out

module _ (old new out into : List Piece) (moves : Moves old new out into) (P : Piece → Type 0) where
  -- what holds of the pieces, and of those that come in, holds of them afterwards
  pub moved_all : All P old → All P into → All P new
  moved_all h k = All-weaker (IsEither old into) P (λ piece at. elim at [ inl was ↦ All-contains P old piece h was | inr came ↦ All-contains P into piece k came ]) new moves.each

  pub out_all : All P old → All P out
  out_all h = All-weaker (Contains old) P (λ piece was. All-contains P old piece h was) out moves.outs

all_either : (old new into : List Piece) → ((P : Piece → Type 0) → All P old → All P into → All P new) → All (IsEither old into) new
all_either old new into each =
    each (IsEither old into)
    (All-weaker (Contains old) (IsEither old into) (λ piece at. inl at) old (All-contains_itself old))
    (All-weaker (Contains into) (IsEither old into) (λ piece at. inr at) into (All-contains_itself into))

pub same_pieces : (l : List Piece) → Moves l l [] []
same_pieces l = record { weighs = λ w. refl; each = all_either l l [] (λ P h k. h); outs = All-nil (Contains l) }

-- a slot is set, and these pieces are pending again
module _ (pending parts : List Piece) (slots : List (Option Live)) (slot : ℕ) (old : Option Live) (at : slice_get slots slot ≡ Some old) where
  pub set_pieces : (new : Option Live) → Moves (pieces_in pending slots) (pieces_in (with_pieces parts pending) (slice_set slots slot new)) (piece_of old) (parts ++ piece_of new)
  set_pieces new = record {
    weighs = λ w. omega (
      arith,
      sum_by-append w (with_pieces parts pending) (flat_map piece_of (slice_set slots slot new)),
      sum_by-append w pending (flat_map piece_of slots),
      sum_by-append w parts (piece_of new),
      with_pieces_sum w parts pending,
      flat_set_weighs piece_of slots slot w old new at,
    );
    each = all_either (pieces_in pending slots) (pieces_in (with_pieces parts pending) (slice_set slots slot new)) (parts ++ piece_of new) (λ P h k.
        All-append P (with_pieces parts pending) (flat_map piece_of (slice_set slots slot new))
        (All-with_pieces P parts pending (All-append_left P parts (piece_of new) k) (All-append_left P pending (flat_map piece_of slots) h))
        (All-flat_set piece_of slots slot P new (All-append_right P parts (piece_of new) k) (All-append_right P pending (flat_map piece_of slots) h)));
    outs = All-flat_at piece_of slots slot (Contains (pieces_in pending slots)) old at
        (All-append_right (Contains (pieces_in pending slots)) pending (flat_map piece_of slots) (All-contains_itself (pieces_in pending slots)));
  }

  -- the slot is free again
  pub freed_pieces : Moves (pieces_in pending slots) (pieces_in (with_pieces parts pending) (slice_set slots slot None)) (piece_of old) parts
  freed_pieces =
      subst (Moves (pieces_in pending slots) (pieces_in (with_pieces parts pending) (slice_set slots slot None)) (piece_of old)) (append-nil parts) (set_pieces None)

-- a slot goes on with the same piece
pub claimed_pieces : (pending : List Piece) (slots : List (Option Live)) (slot : ℕ) (piece : Piece) (attempted new : Option ℕ) → slice_get slots slot ≡ Some (Some (live.Span piece attempted))
    → Moves (pieces_in pending slots) (pieces_in pending (slice_set slots slot (Some (live.Span piece new)))) [] []
claimed_pieces pending slots slot piece attempted new at =
    let old = pieces_in pending slots in
    let now = pieces_in pending (slice_set slots slot (Some (live.Span piece new))) in
    let m = set_pieces pending [] slots slot (Some (live.Span piece attempted)) at (Some (live.Span piece new)) in
    record {
      weighs = λ w. omega (arith, m.weighs w);
      each = all_either old now [] (λ P h k. moved_all old now (piece ∷ []) (piece ∷ []) m P h (out_all old now (piece ∷ []) (piece ∷ []) m P h));
      outs = All-nil (Contains old);
    }

-- the first piece is taken
pub taken_pieces : (pending later : List Piece) (piece : Piece) (slots : List (Option Live)) (slot : ℕ) → pending ≡ piece ∷ later → slice_get slots slot ≡ Some None
    → Moves (pieces_in pending slots) (pieces_in later (slice_set slots slot (Some (live.Span piece None)))) [] []
taken_pieces pending later piece slots slot e free =
    let job = Some (live.Span piece None) in
    let old = pieces_in (piece ∷ later) slots in
    let now = pieces_in later (slice_set slots slot job) in
    subst (λ (l : List Piece). Moves (pieces_in l slots) now [] []) (sym e) (record {
      weighs = λ w. omega (
        arith,
        sum_by-append w later (flat_map piece_of (slice_set slots slot job)),
        sum_by-append w (piece ∷ later) (flat_map piece_of slots),
        sum_by-cons w piece later,
        sum_by-cons w piece [],
        flat_set_weighs piece_of slots slot w None job free,
      );
      each = all_either old now [] (λ P h k.
          let pieces = All-append_left P (piece ∷ later) (flat_map piece_of slots) h in
          All-append P later (flat_map piece_of (slice_set slots slot job))
          (All-tail P piece later pieces)
          (All-flat_set piece_of slots slot P job (All-cons P piece [] (All-head P piece later pieces) (All-nil P)) (All-append_right P (piece ∷ later) (flat_map piece_of slots) h)));
      outs = All-nil (Contains old);
    })

-- one slot more
pub enrolled_pieces : (pending : List Piece) (slots : List (Option Live)) → Moves (pieces_in pending slots) (pieces_in pending (slots ++ None ∷ [])) [] []
enrolled_pieces pending slots =
    subst (λ (l : List Piece). Moves (pieces_in pending slots) (pending ++ l) [] []) (sym (enrolled_of piece_of slots refl)) (same_pieces (pieces_in pending slots))
