-- The limit for each dead position, and the attempts of all pieces, are together no more than the jobs that failed at all.
use Rattle.std.proofs.Common.{◌≡◌, ℕ, zero, suc, ◌+◌, ◌*◌, ◌<◌, ◌≤◌, Bool, true, false, cond, ℤ, List, [], ◌∷◌, ◌++◌, length, refl, sym, ap, subst, arith}
use Rattle.std.specs.Prelude.{nat_lt, Option, Some, None}
use Rattle.std.specs.List.{All, sum_by}
use Rattle.std.proofs.Math.Nat.{mul-add}
use Rattle.std.proofs.lemmas.List.Elements.{All-head, All-tail, All-weaker}
use Rattle.std.proofs.lemmas.List.Sums.{sum_by-cons, sum_by-append}
use Rattle.beam_ports.specs.Counts.{greatest_count}
use Rattle.beam_values.specs.declared.fault.FaultNote.{FaultNote}
use Rattle.beam_values.specs.declared.piece.Dead.{Dead}
use Rattle.beam_values.specs.declared.piece.Piece.{Piece}
use Rattle.book_core.specs.Book.{SeenBook, live_pieces, sets_aside}
use Rattle.book_core.specs.Changes.{blamed, broken_parts, cut_around, cut_to, part_of, rest_of, spent_piece, tried_piece}
use Rattle.book_core.specs.Facts.{AreSpentWell, IsSpentAs, IsWellFormed}
use Rattle.book_core.specs.Runs.{IsOpening, pieces_of}
use Rattle.book_core.specs.Steps.{Action}
use Rattle.book_core.specs.Work.{worked_to}
use Rattle.book_core.proofs.PieceMoves.{all_pieces, out_all}
use Rattle.book_core.proofs.SetAside.{IsAside, dead_more, first_all, was_spent}
use Rattle.book_core.proofs.Slotted.{All-append_right, one_weighs}
use Rattle.book_core.proofs.Sources.{AreLiveSound, IsAllowed, Kind, Stays, Splits, Does, Buries, Tries, Breaks, SourceStep, commits_by, fails_by, into_of, out_of, residual_piece, residual_pieces}

abbrev tries : Piece → ℕ
tries piece = piece.attempts

abbrev pub AreTogether : SeenBook → Type 0
AreTogether b = b.options.attempts * length b.dead + sum_by (λ piece. piece.attempts) (b.pending ++ live_pieces b) ≤ b.calls + b.reads

-- ---- every kind

part_tries : (piece : Piece) (from to : ℕ) → sum_by tries (part_of piece from to) ≡ 0
part_tries piece from to = by (nat_lt from to)
  where
    by : (t : Bool) → sum_by tries (cond t (rest_of piece (record { from = from; to = to }) ∷ []) []) ≡ 0
    by true = one_weighs tries (rest_of piece (record { from = from; to = to }))
    by false = refl

-- of the parts only a spent piece has attempts, one more than before
broken_tries : (piece : Piece) (attempted : Option ℕ) (note : FaultNote) → sum_by tries (broken_parts piece attempted note) ≤ piece.attempts + 1
broken_tries piece attempted note = by (nat_lt (piece.range.from + 1) piece.range.to)
  where
    by_offset : (inside : Bool) → sum_by tries (cond inside (spent_piece piece note ∷ []) (rest_of piece piece.range ∷ [])) ≤ piece.attempts + 1
    by_offset true = omega (arith, one_weighs tries (spent_piece piece note))
    by_offset false = omega (arith, one_weighs tries (rest_of piece piece.range))

    around : (q : ℕ) → sum_by tries (cut_around piece q) ≡ 0
    around q = omega (
      arith,
      sum_by-append tries (part_of piece piece.range.from q) (part_of piece q (q + 1) ++ part_of piece (q + 1) piece.range.to),
      sum_by-append tries (part_of piece q (q + 1)) (part_of piece (q + 1) piece.range.to),
      part_tries piece piece.range.from q,
      part_tries piece q (q + 1),
      part_tries piece (q + 1) piece.range.to,
    )

    by : (long : Bool) → sum_by tries (cond long (cut_around piece (blamed piece attempted)) (cond (nat_lt piece.range.from piece.range.to) (spent_piece piece note ∷ []) (rest_of piece piece.range ∷ []))) ≤ piece.attempts + 1
    by true = omega (arith, around (blamed piece attempted))
    by false = by_offset (nat_lt piece.range.from piece.range.to)

residual_tries : (piece : Piece) (attempted : Option ℕ) (seen : ℤ) → sum_by tries (residual_pieces piece attempted seen) ≡ 0
residual_tries piece attempted seen = by (nat_lt (worked_to piece attempted) piece.range.to)
  where
    by : (t : Bool) → sum_by tries (cond t (residual_piece piece attempted seen ∷ []) []) ≡ 0
    by true = one_weighs tries (residual_piece piece attempted seen)
    by false = refl

kind_tries : (b : SeenBook) (slot : ℕ) (action : Action) (kind : Kind) → IsAllowed b slot action kind → All (IsAside b.options.attempts) (out_of kind)
    → b.options.attempts * commits_by kind + sum_by tries (into_of kind) ≤ sum_by tries (out_of kind) + fails_by kind
kind_tries b slot action Stays allowed h = omega arith
kind_tries b slot action (Splits piece at) allowed h =
    let rest = rest_of piece (record { from = at; to = piece.range.to }) in
    let front = cut_to piece (record { from = piece.range.from; to = at }) in
    omega (arith, sum_by-cons tries rest (front ∷ []), one_weighs tries front, one_weighs tries piece)
kind_tries b slot action (Does piece attempted seen) allowed h = omega (arith, residual_tries piece attempted seen)
kind_tries b slot action (Buries piece note) allowed h =
    omega (arith, one_weighs tries piece, (was_spent b.options.attempts piece piece.spent note allowed (All-head (IsAside b.options.attempts) piece [] h)).tried)
kind_tries b slot action (Tries piece) allowed h = omega (arith, one_weighs tries piece, one_weighs tries (tried_piece piece))
kind_tries b slot action (Breaks piece attempted note) allowed h = omega (arith, one_weighs tries piece, broken_tries piece attempted note)

-- ---- the sum can't come near the greatest count

few_tries : (xs : List Piece) → All (λ piece. piece.attempts ≤ 1000) xs → sum_by tries xs ≤ 1000 * length xs
few_tries [] all = omega arith
few_tries (x ∷ xs) all =
    omega (arith, sum_by-cons tries x xs, All-head (λ (p : Piece). p.attempts ≤ 1000) x xs all, few_tries xs (All-tail (λ (p : Piece). p.attempts ≤ 1000) x xs all))

product_most : (limit n : ℕ) → limit ≤ 1000 → limit * n ≤ 1000 * n
product_most limit zero h = omega arith
product_most limit (suc n) h = omega (arith, product_most limit n h, h, mul-add limit 1 n)

kept_most : (t : Bool) (n : ℕ) → n ≤ cond t (3 * n) n
kept_most true n = omega arith
kept_most false n = omega arith

-- a live range is below the limit, or spent
live_most : (limit : ℕ) (piece : Piece) (spent : Option FaultNote) → (spent ≡ None → piece.attempts < limit) → IsSpentAs limit spent piece → piece.attempts ≤ limit
live_most limit piece None below h = omega (arith, below refl)
live_most limit piece (Some note) below h = omega (arith, h.tried)

module _ (b : SeenBook) (formed : IsWellFormed b) (aside : AreSpentWell b) (sound : AreLiveSound b) (pending_most : All (λ piece. piece.attempts ≤ b.options.attempts) b.pending) where
  live_few : All (λ piece. piece.attempts ≤ 1000) (live_pieces b)
  live_few k d inside =
      let most = formed.allowed.attempts.1 in
      let spent = All-append_right (IsAside b.options.attempts) b.pending (live_pieces b) aside.pieces k d inside in
      omega (arith, most, live_most b.options.attempts _ _ (sound.below k d inside) spent)

  few_together : b.options.attempts * length b.dead + sum_by tries (all_pieces b) < greatest_count
  few_together =
      let most = formed.allowed.attempts.1 in
      omega (
        arith,
        product_most b.options.attempts (length b.dead) most,
        sum_by-append tries b.pending (live_pieces b),
        few_tries b.pending (All-weaker (λ (p : Piece). p.attempts ≤ b.options.attempts) (λ p. p.attempts ≤ 1000) (λ p low. omega (arith, low, most)) b.pending pending_most),
        few_tries (live_pieces b) live_few,
        kept_most (sets_aside b.plan) (length (live_pieces b)),
        formed.within.pieces,
        formed.within.commits,
        aside.fewer,
      )

  pub together_kept : (slot : ℕ) (action : Action) (new : SeenBook) → SourceStep b slot action new → AreTogether b → AreTogether new
  together_kept slot action new s h =
      let limit : new.options.attempts ≡ b.options.attempts = ap (λ o. o.attempts) s.options in
      let dead : length new.dead ≡ length b.dead + commits_by s.kind = omega (arith, ap (λ (l : List Dead). length l) s.dead, dead_more s.kind b.dead) in
      let product : new.options.attempts * length new.dead ≡ b.options.attempts * (length b.dead + commits_by s.kind) = (λ i. limit i * dead i) in
      omega (
        arith,
        s.fails (b.options.attempts * length b.dead + sum_by tries (all_pieces b)) h few_together,
        product,
        mul-add b.options.attempts (length b.dead) (commits_by s.kind),
        s.moves.weighs tries,
        kind_tries b slot action s.kind s.allowed (out_all (all_pieces b) (all_pieces new) (out_of s.kind) (into_of s.kind) s.moves (IsAside b.options.attempts) aside.pieces),
      )

-- ---- the opening

none_tried : (xs : List Piece) → All (λ piece. piece.attempts ≡ 0) xs → sum_by tries xs ≡ 0
none_tried [] all = refl
none_tried (x ∷ xs) all =
    omega (
      arith,
      sum_by-cons tries x xs,
      All-head (λ (p : Piece). p.attempts ≡ 0) x xs all,
      none_tried xs (All-tail (λ (p : Piece). p.attempts ≡ 0) x xs all),
    )

pub opening_together : (b first : SeenBook) → IsOpening b.plan b.files b.options first → AreTogether first
opening_together b first opening =
    let untried = first_all (λ (p : Piece). p.attempts ≡ 0) (λ piece untried fresh. untried) b.options.chunk b.files in
    subst AreTogether (sym opening.is) (omega (arith, none_tried (pieces_of b.options.chunk b.files ++ []) untried))
