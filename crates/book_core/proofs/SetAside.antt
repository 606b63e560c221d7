-- Spent pieces are one position each, and failed as often as they may; and so are dead positions, which are fewer than the commits. Plans of version 1 have none.
use Rattle.std.proofs.Common.{◌≡◌, ℕ, ◌+◌, Bool, true, false, cond, List, [], ◌∷◌, ◌++◌, length, refl, sym, ap, subst, arith}
use Rattle.std.specs.Prelude.{Option, Some, None}
use Rattle.std.specs.List.{All, sum_by}
use Rattle.std.specs.Ordering.{is_lt}
use Rattle.std.proofs.lemmas.List.Elements.{All-nil, All-append, All-head}
use Rattle.std.proofs.lemmas.List.Sums.{sum_by-cons}
use Rattle.beam_values.specs.declared.fault.FaultNote.{FaultNote}
use Rattle.beam_values.specs.declared.options.Options.{Options}
use Rattle.beam_values.specs.declared.piece.Dead.{Dead}
use Rattle.beam_values.specs.declared.piece.FileLen.{FileLen}
use Rattle.beam_values.specs.declared.piece.Piece.{Piece}
use Rattle.book_core.specs.Book.{SeenBook, sets_aside}
use Rattle.book_core.specs.Changes.{dead_cmp, dead_of, with_dead}
use Rattle.book_core.specs.Facts.{AreSetAside, AreSpentWell, IsLastCall, IsNoneAside, IsNotedAs, IsSpentAs, IsSpentWell}
use Rattle.book_core.specs.Runs.{IsOpening, pieces_of}
use Rattle.book_core.specs.Steps.{Action}
use Rattle.book_core.proofs.PieceMoves.{all_pieces}
use Rattle.book_core.proofs.OpenedPieces.{all_pieces as opened_all}
use Rattle.book_core.proofs.Slotted.{sum_ones}
use Rattle.book_core.proofs.Sources.{Kind, Buries, SourceStep, commits_by, dead_by, dead_kept, pieces_kept}

-- one dead position more
module _ (f : Dead → ℕ) where
  pub one_more_dead : (new : Dead) (dead : List Dead) → sum_by f (with_dead new dead) ≡ f new + sum_by f dead
  one_more_dead new [] = sum_by-cons f new []
  one_more_dead new (d ∷ dead) = by (is_lt (dead_cmp d new)) (one_more_dead new dead)
    where
      by : (t : Bool) → sum_by f (with_dead new dead) ≡ f new + sum_by f dead → sum_by f (cond t (d ∷ with_dead new dead) (new ∷ d ∷ dead)) ≡ f new + sum_by f (d ∷ dead)
      by true h = omega (arith, h, sum_by-cons f d (with_dead new dead), sum_by-cons f d dead)
      by false h = sum_by-cons f new (d ∷ dead)

pub dead_more : (kind : Kind) (dead : List Dead) → length (dead_by kind dead) ≡ length dead + commits_by kind
dead_more (Buries piece note) dead =
    omega (arith, one_more_dead (λ d. 1) (dead_of piece note) dead, sum_ones dead, sum_ones (with_dead (dead_of piece note) dead))
dead_more _ dead = omega arith

-- ---- spent pieces and dead positions

abbrev pub IsAside : ℕ → Piece → Type 0
IsAside limit piece = IsSpentAs limit piece.spent piece

abbrev IsNoted : ℕ → Piece → Type 0
IsNoted limit piece = IsNotedAs limit piece.spent

fresh_aside : (limit : ℕ) (piece : Piece) (spent : Option FaultNote) → spent ≡ None → IsSpentAs limit spent piece
fresh_aside limit piece None e = tt
fresh_aside limit piece (Some note) e = absurd (cc)

pub was_spent : (limit : ℕ) (piece : Piece) (spent : Option FaultNote) (note : FaultNote) → spent ≡ Some note → IsSpentAs limit spent piece → IsSpentWell limit piece
was_spent limit piece None note e h = absurd (cc)
was_spent limit piece (Some other) note e h = h

fresh_noted : (limit : ℕ) (spent : Option FaultNote) → spent ≡ None → IsNotedAs limit spent
fresh_noted limit None e = tt
fresh_noted limit (Some note) e = absurd (cc)

was_noted : (limit : ℕ) (spent : Option FaultNote) (note : FaultNote) → spent ≡ Some note → IsNotedAs limit spent → IsLastCall limit note
was_noted limit None note e h = absurd (cc)
was_noted limit (Some other) note e h = let same : other ≡ note = cc in subst (IsLastCall limit) same h

no_none : {X : Type 0} (some : Option X) (x : X) → some ≡ Some x → some ≡ None → ⊥
no_none some x e f = cc

not_both : (t : Bool) → t ≡ true → t ≡ false → ⊥
not_both t e f = cc

none_in : {X : Type 0} (xs : List X) → All (λ x. ⊥) xs → xs ≡ []
none_in [] h = refl
none_in {X} (x ∷ xs) h = absurd (All-head (λ (y : X). ⊥) x xs h)

all_none : {X : Type 0} (xs : List X) → xs ≡ [] → All (λ x. ⊥) xs
all_none {X} xs e = subst (All (λ (x : X). ⊥)) (sym e) (All-nil (λ (x : X). ⊥))

module _ (b : SeenBook) (slot : ℕ) (action : Action) (new : SeenBook) (s : SourceStep b slot action new) where
  none_kept : sets_aside b.plan ≡ false → IsNoneAside b → IsNoneAside new
  none_kept one h = record {
    pieces = pieces_kept b slot action new s (λ piece. piece.spent ≡ None) (λ piece fresh. fresh)
        (λ piece attempted note breaks range. absurd (not_both (sets_aside b.plan) breaks.aside one)) h.pieces;
    dead = none_in new.dead
        (dead_kept b slot action new s (λ d. ⊥) (λ piece. piece.spent ≡ None) (λ piece note spent fresh. no_none piece.spent note spent fresh) h.pieces (all_none b.dead h.dead));
  }

  pub spent_kept : AreSpentWell b → AreSpentWell new
  spent_kept h =
      let limit = b.options.attempts in
      record {
        pieces = subst (λ (o : Options). All (IsAside o.attempts) (all_pieces new)) (sym s.options)
            (pieces_kept b slot action new s (IsAside limit) (λ piece fresh. fresh_aside limit piece piece.spent fresh)
            (λ piece attempted note breaks range. record { one = range; tried = omega (arith, breaks.below, breaks.limit) })
            h.pieces);
        fewer = omega (arith, h.fewer, s.commits, ap (λ (l : List Dead). length l) s.dead, dead_more s.kind b.dead);
      }

  pub aside_kept : AreSetAside b → AreSetAside new
  aside_kept h =
      let limit = b.options.attempts in
      record {
        pieces = subst (λ (o : Options). All (IsNoted o.attempts) (all_pieces new)) (sym s.options)
            (pieces_kept b slot action new s (IsNoted limit) (λ piece fresh. fresh_noted limit piece.spent fresh)
            (λ piece attempted note breaks range. record { cause = breaks.cause; attempt = omega (arith, breaks.attempt, breaks.below, breaks.limit) })
            h.pieces);
        dead = subst (λ (o : Options). All (λ (d : Dead). IsLastCall o.attempts d.note) new.dead) (sym s.options)
            (dead_kept b slot action new s (λ d. IsLastCall limit d.note) (IsNoted limit) (λ piece note spent was. was_noted limit piece.spent note spent was) h.pieces h.dead);
        none = λ one.
            let was : sets_aside b.plan ≡ false = subst (λ p. sets_aside p ≡ false) s.plan one in
            none_kept was (h.none was);
      }

-- ---- the opening

-- the pieces of an opening were never tried, and none of them is spent
pub first_all : (P : Piece → Type 0) → ((piece : Piece) → piece.attempts ≡ 0 → piece.spent ≡ None → P piece) → (chunk : ℕ) (files : List FileLen) → All P (pieces_of chunk files ++ [])
first_all P each chunk files =
    All-append P (pieces_of chunk files) [] (opened_all P (λ node item c len i. each _ refl refl) chunk files [] (All-nil P)) (All-nil P)

pub opening_spent : (b first : SeenBook) → IsOpening b.plan b.files b.options first → AreSpentWell first
opening_spent b first opening = subst AreSpentWell (sym opening.is) (record {
  pieces = first_all (IsAside b.options.attempts) (λ piece untried fresh. fresh_aside b.options.attempts piece piece.spent fresh) b.options.chunk b.files;
  fewer = omega arith;
})

pub opening_aside : (b first : SeenBook) → IsOpening b.plan b.files b.options first → AreSetAside first
opening_aside b first opening = subst AreSetAside (sym opening.is) (record {
  pieces = first_all (IsNoted b.options.attempts) (λ piece untried fresh. fresh_noted b.options.attempts piece.spent fresh) b.options.chunk b.files;
  dead = All-nil (λ (d : Dead). IsLastCall b.options.attempts d.note);
  none = λ one. record { pieces = first_all (λ piece. piece.spent ≡ None) (λ piece untried fresh. fresh) b.options.chunk b.files; dead = refl };
})
