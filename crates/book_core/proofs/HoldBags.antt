-- The holds of a book as one bag: which steps leave each node's least hold.
use Rattle.std.proofs.Common.{◌≡◌, ℕ, ◌+◌, ◌≤◌, ℤ, Bool, true, false, cond, List, [], ◌∷◌, ◌++◌, length, map, refl, sym, ap, ◌∙◌, arith}
use Rattle.std.specs.Prelude.{Option, Some, None, ◌==◌, slice_get, fold}
use Rattle.std.specs.Int.{int_min}
use Rattle.std.specs.List.{All, filter, sum_by}
use Rattle.std.proofs.lemmas.Int.{ints, clamps}
use Rattle.std.proofs.lemmas.List.{length-map}
use Rattle.std.proofs.lemmas.List.Concat.{flat_map-append}
use Rattle.std.proofs.lemmas.List.Elements.{All-head, All-tail, All-map}
use Rattle.std.proofs.lemmas.List.Sums.{sum_by-cons, sum_by-append}
use Rattle.beam_values.specs.Bags.{IsSameBag}
use Rattle.beam_values.specs.Marks.{least_mark, node_marks, AreMarks}
use Rattle.beam_values.specs.Times.{final_mark}
use Rattle.beam_values.proofs.Bags.{bag_filter, bag_map, sum_by-map}
use Rattle.beam_values.specs.declared.marks.StageMarks.{StageMarks}
use Rattle.beam_values.specs.declared.fault.Cause.{Cause}
use Rattle.beam_values.specs.declared.fault.FaultNote.{FaultNote}
use Rattle.beam_values.specs.declared.piece.Piece.{Piece}
use Rattle.beam_values.specs.declared.plan.Plan.{Plan}
use Rattle.beam_model.specs.Holds.{Hold, piece_hold, marks_held, least_hold}
use Rattle.split_core.specs.Order.{with_piece, with_pieces}
use Rattle.split_core.proofs.Ordered.{bag_with_piece}
use Rattle.watermarks.proofs.BagMembers.{bag_least}
use Rattle.book_core.specs.Book.{SeenBook, piece_of, live_pieces, held, hold_of}
use Rattle.book_core.specs.Changes.{with_slot, cut_to, rest_of, split_off, given_back, tried_piece, broken, broken_parts}
use Rattle.book_core.specs.Facts.{AreHeldOnce}
use Rattle.book_core.specs.Jobs.{GivenBack, Oldest, Next, next_job, with_key, without_due}
use Rattle.book_core.specs.Steps.{IsWorking, IsFree}
use Rattle.book_core.specs.declared.live.Live.{Live}
use Rattle.book_core.specs.declared.live.Live.TheVariants as live
use Rattle.book_core.proofs.Broken.{broken_all, broken_some}
use Rattle.book_core.proofs.HeldMoves.{take_moves, set_moves, enroll_moves, back_moves}
use Rattle.book_core.proofs.Slotted.{flat_set_weighs, one_weighs}
use Rattle.book_core.proofs.Taking.{take_cases}
use Rattle.stateful_core.specs.Cells.{key_holds}
use Rattle.book_core.specs.Indexes.{all_holds, own_holds}
use Rattle.book_core.proofs.LeastHolds.{least_of_both}

-- ---- the least of a bag

pub least_of_bag : (hs ks : List Hold) → IsSameBag hs ks → (n : ℕ) → least_hold hs n ≡ least_hold ks n
least_of_bag hs ks same n =
    bag_least (marks_held hs n) (marks_held ks n)
    (bag_map (λ (hold : Hold). hold.mark) (filter (λ hold. hold.node == n) hs) (filter (λ hold. hold.node == n) ks) (bag_filter (λ (hold : Hold). hold.node == n) hs ks same))

min_twice : (a x : ℤ) → int_min (int_min a x) x ≡ int_min a x
min_twice a x = omega (arith, ints, clamps)

-- a hold that is there already is no matter
pub least_twice : (h : Hold) (hs : List Hold) (n : ℕ) → least_hold (h ∷ h ∷ hs) n ≡ least_hold (h ∷ hs) n
least_twice h hs n = by (h.node == n)
  where
    by : (t : Bool)
        → least_mark (map (λ (hold : Hold). hold.mark) (cond t (h ∷ cond t (h ∷ filter (λ hold. hold.node == n) hs) (filter (λ hold. hold.node == n) hs)) (cond t (h ∷ filter (λ hold. hold.node == n) hs) (filter (λ hold. hold.node == n) hs))))
        ≡ least_mark (map (λ (hold : Hold). hold.mark) (cond t (h ∷ filter (λ hold. hold.node == n) hs) (filter (λ hold. hold.node == n) hs)))
    by true = ap (λ (m : ℤ). fold int_min m (map (λ (hold : Hold). hold.mark) (filter (λ hold. hold.node == n) hs))) (min_twice final_mark h.mark)
    by false = refl

pub marks_of_least : (plan : Plan) (hs ks : List Hold) (marks : List StageMarks) → ((n : ℕ) → least_hold hs n ≡ least_hold ks n)
    → AreMarks plan (least_hold hs) marks → AreMarks plan (least_hold ks) marks
marks_of_least plan hs ks marks same h = record {
  sized = h.sized;
  each = λ n node at. h.each n node at ∙ ap (node_marks marks node.inputs) (same n);
}

-- ---- all holds of a book

abbrev piece_weight : Plan → (Hold → ℕ) → Piece → ℕ
piece_weight plan w piece = w (piece_hold plan piece)

pub holds_weigh : (w : Hold → ℕ) (b : SeenBook)
    → sum_by w (own_holds b) ≡ sum_by (piece_weight b.plan w) b.pending + sum_by (piece_weight b.plan w) (live_pieces b) + sum_by (λ h. w (hold_of h)) (held b)
holds_weigh w b =
    omega (
      arith,
      sum_by-append w (map (piece_hold b.plan) (b.pending ++ live_pieces b)) (map hold_of (held b)),
      sum_by-map w (piece_hold b.plan) (b.pending ++ live_pieces b),
      sum_by-append (piece_weight b.plan w) b.pending (live_pieces b),
      sum_by-map w hold_of (held b),
    )

pub piece_set_weighs : (w : Piece → ℕ) (b : SeenBook) (slot : ℕ) (old new : Option Live) → slice_get b.slots slot ≡ Some old
    → sum_by w (live_pieces (with_slot b slot new)) + sum_by w (piece_of old) ≡ sum_by w (live_pieces b) + sum_by w (piece_of new)
piece_set_weighs w b slot old new at = flat_set_weighs piece_of b.slots slot w old new at

pub with_piece_weight : (w : Piece → ℕ) (piece : Piece) (pending : List Piece) → sum_by w (with_piece piece pending) ≡ w piece + sum_by w pending
with_piece_weight w piece pending = (bag_with_piece piece pending).weighs w ∙ sum_by-cons w piece pending

pub with_pieces_weight : (w : Piece → ℕ) (pieces l : List Piece) → sum_by w (with_pieces pieces l) ≡ sum_by w pieces + sum_by w l
with_pieces_weight w [] l = omega arith
with_pieces_weight w (piece ∷ pieces) l =
    omega (arith, with_pieces_weight w pieces (with_piece piece l), with_piece_weight w piece l, sum_by-cons w piece pieces)

-- ---- which steps leave the bag

pub enroll_holds : (b : SeenBook) → IsSameBag (own_holds (record b { slots = b.slots ++ None ∷ [] })) (own_holds b)
enroll_holds b = record {
  weighs = λ w. omega (
    arith,
    holds_weigh w b,
    holds_weigh w (record b { slots = b.slots ++ None ∷ [] }),
    (enroll_moves b).weighs (λ h. w (hold_of h)),
    ap (sum_by (piece_weight b.plan w)) (flat_map-append piece_of b.slots (None ∷ [])),
    sum_by-append (piece_weight b.plan w) (live_pieces b) [],
  );
}

pub take_holds : (b : SeenBook) (slot : ℕ) (next : Next) → AreHeldOnce b → IsFree b slot → next_job b ≡ Some next
    → IsSameBag (own_holds (with_slot next.rest slot (Some next.job))) (own_holds b)
take_holds b slot next once free is =
    take_cases b (λ (n : Next). IsSameBag (held (with_slot n.rest slot (Some n.job))) (held b) → IsSameBag (own_holds (with_slot n.rest slot (Some n.job))) (own_holds b))
    (λ batch among moves. record {
      weighs = λ w. omega (
        arith,
        holds_weigh w b,
        holds_weigh w (with_slot (without_due b (GivenBack batch)).rest slot (Some (live.Batch batch))),
        moves.weighs (λ h. w (hold_of h)),
        piece_set_weighs (piece_weight b.plan w) b slot None (Some (live.Batch batch)) free,
      );
    })
    (λ batch oldest moves. record {
      weighs = λ w. omega (
        arith,
        holds_weigh w b,
        holds_weigh w (with_slot (without_due b (Oldest batch)).rest slot (Some (live.Batch batch))),
        moves.weighs (λ h. w (hold_of h)),
        piece_set_weighs (piece_weight b.plan w) b slot None (Some (live.Batch batch)) free,
      );
    })
    (λ place cell found moves. record {
      weighs = λ w. omega (
        arith,
        holds_weigh w b,
        holds_weigh w (with_slot (with_key b place.at cell).rest slot (Some (with_key b place.at cell).job)),
        moves.weighs (λ h. w (hold_of h)),
        piece_set_weighs (piece_weight b.plan w) b slot None (Some (with_key b place.at cell).job) free,
      );
    })
    (λ piece later e moves. record {
      weighs = λ w. omega (
        arith,
        holds_weigh w b,
        holds_weigh w (with_slot (record b { pending = later }) slot (Some (live.Span piece None))),
        moves.weighs (λ h. w (hold_of h)),
        piece_set_weighs (piece_weight b.plan w) b slot None (Some (live.Span piece None)) free,
        one_weighs (piece_weight b.plan w) piece,
        ap (sum_by (piece_weight b.plan w)) e,
        sum_by-cons (piece_weight b.plan w) piece later,
      );
    })
    next is (take_moves b slot free once next is)

pub claim_holds : (b : SeenBook) (slot p : ℕ) (piece : Piece) (attempted : Option ℕ) → IsWorking b slot (live.Span piece attempted)
    → IsSameBag (own_holds (with_slot b slot (Some (live.Span piece (Some p))))) (own_holds b)
claim_holds b slot p piece attempted works = record {
  weighs = λ w. omega (
    arith,
    holds_weigh w b,
    holds_weigh w (with_slot b slot (Some (live.Span piece (Some p)))),
    (set_moves b slot (Some (live.Span piece attempted)) (Some (live.Span piece (Some p))) works refl refl).weighs (λ h. w (hold_of h)),
    piece_set_weighs (piece_weight b.plan w) b slot (Some (live.Span piece attempted)) (Some (live.Span piece (Some p))) works,
  );
}

pub back_holds : (b : SeenBook) (slot : ℕ) (job : Live) (at : ℕ) (cause : Cause) → IsWorking b slot job → IsSameBag (own_holds (given_back (with_slot b slot None) job at cause)) (own_holds b)
back_holds b slot (live.Span piece attempted) at cause works = record {
  weighs = λ w. omega (
    arith,
    holds_weigh w b,
    holds_weigh w (given_back (with_slot b slot None) (live.Span piece attempted) at cause),
    (back_moves b slot (live.Span piece attempted) at cause works).weighs (λ h. w (hold_of h)),
    piece_set_weighs (piece_weight b.plan w) b slot (Some (live.Span piece attempted)) None works,
    with_piece_weight (piece_weight b.plan w) (tried_piece piece) b.pending,
    one_weighs (piece_weight b.plan w) piece,
  );
}
back_holds b slot (live.Key turn) at cause works = record {
  weighs = λ w. omega (
    arith,
    holds_weigh w b,
    holds_weigh w (given_back (with_slot b slot None) (live.Key turn) at cause),
    (back_moves b slot (live.Key turn) at cause works).weighs (λ h. w (hold_of h)),
    piece_set_weighs (piece_weight b.plan w) b slot (Some (live.Key turn)) None works,
  );
}
back_holds b slot (live.Batch batch) at cause works = record {
  weighs = λ w. omega (
    arith,
    holds_weigh w b,
    holds_weigh w (given_back (with_slot b slot None) (live.Batch batch) at cause),
    (back_moves b slot (live.Batch batch) at cause works).weighs (λ h. w (hold_of h)),
    piece_set_weighs (piece_weight b.plan w) b slot (Some (live.Batch batch)) None works,
  );
}

-- ---- a range that is worked

-- it holds its source once, besides what else holds the book
without_range : (b : SeenBook) (slot : ℕ) (piece : Piece) (attempted : Option ℕ) → IsWorking b slot (live.Span piece attempted)
    → IsSameBag (own_holds b) (piece_hold b.plan piece ∷ own_holds (with_slot b slot None))
without_range b slot piece attempted works = record {
  weighs = λ w. omega (
    arith,
    holds_weigh w b,
    holds_weigh w (with_slot b slot None),
    (set_moves b slot (Some (live.Span piece attempted)) None works refl refl).weighs (λ h. w (hold_of h)),
    piece_set_weighs (piece_weight b.plan w) b slot (Some (live.Span piece attempted)) None works,
    one_weighs (piece_weight b.plan w) piece,
    sum_by-cons w (piece_hold b.plan piece) (own_holds (with_slot b slot None)),
  );
}

-- ---- a split doubles the hold of its piece

module _ (b : SeenBook) (slot at : ℕ) (piece : Piece) (attempted : Option ℕ) (works : IsWorking b slot (live.Span piece attempted)) where
  abbrev front : Piece
  front = cut_to piece (record { from = piece.range.from; to = at })

  abbrev rest : Piece
  rest = rest_of piece (record { from = at; to = piece.range.to })

  new_bag : IsSameBag (own_holds (split_off b slot piece attempted at)) (piece_hold b.plan piece ∷ piece_hold b.plan piece ∷ own_holds (with_slot b slot None))
  new_bag = record {
    weighs = λ w. omega (
      arith,
      holds_weigh w b,
      holds_weigh w (with_slot b slot None),
      holds_weigh w (split_off b slot piece attempted at),
      (set_moves b slot (Some (live.Span piece attempted)) None works refl refl).weighs (λ h. w (hold_of h)),
      (set_moves b slot (Some (live.Span piece attempted)) (Some (live.Span front attempted)) works refl refl).weighs (λ h. w (hold_of h)),
      piece_set_weighs (piece_weight b.plan w) b slot (Some (live.Span piece attempted)) None works,
      piece_set_weighs (piece_weight b.plan w) b slot (Some (live.Span piece attempted)) (Some (live.Span front attempted)) works,
      with_piece_weight (piece_weight b.plan w) rest b.pending,
      one_weighs (piece_weight b.plan w) piece,
      one_weighs (piece_weight b.plan w) front,
      sum_by-cons w (piece_hold b.plan piece) (piece_hold b.plan piece ∷ own_holds (with_slot b slot None)),
      sum_by-cons w (piece_hold b.plan piece) (own_holds (with_slot b slot None)),
    );
  }

  pub split_least : (n : ℕ) → least_hold (own_holds (split_off b slot piece attempted at)) n ≡ least_hold (own_holds b) n
  split_least n =
      least_of_bag (own_holds (split_off b slot piece attempted at)) (piece_hold b.plan piece ∷ piece_hold b.plan piece ∷ own_holds (with_slot b slot None)) new_bag n
      ∙ least_twice (piece_hold b.plan piece) (own_holds (with_slot b slot None)) n
      ∙ sym (least_of_bag (own_holds b) (piece_hold b.plan piece ∷ own_holds (with_slot b slot None)) (without_range b slot piece attempted works) n)

-- ---- the parts of a broken range hold as the whole did

least_many : (h : Hold) (ks hs : List Hold) (n : ℕ) → All (λ (k : Hold). k ≡ h) ks → 1 ≤ length ks → least_hold (ks ++ hs) n ≡ least_hold (h ∷ hs) n
least_many h [] hs n same some = absurd (omega (arith, some))
least_many h (k ∷ []) hs n same some = ap (λ (x : Hold). least_hold (x ∷ hs) n) (All-head (λ (x : Hold). x ≡ h) k [] same)
least_many h (k ∷ j ∷ ks) hs n same some =
    let later = All-tail (λ (x : Hold). x ≡ h) k (j ∷ ks) same in
    let second = All-head (λ (x : Hold). x ≡ h) j ks later in
    ap (λ (x : Hold). least_hold (x ∷ j ∷ (ks ++ hs)) n) (All-head (λ (x : Hold). x ≡ h) k (j ∷ ks) same)
    ∙ ap (λ (x : Hold). least_hold (h ∷ x ∷ (ks ++ hs)) n) second
    ∙ least_twice h (ks ++ hs) n
    ∙ ap (λ (x : Hold). least_hold (x ∷ (ks ++ hs)) n) (sym second)
    ∙ least_many h (j ∷ ks) hs n later (omega arith)

module _ (b : SeenBook) (slot : ℕ) (piece : Piece) (attempted : Option ℕ) (note : FaultNote) (works : IsWorking b slot (live.Span piece attempted)) where
  abbrev parts : List Piece
  parts = broken_parts piece attempted note

  pub broken_bag : IsSameBag (own_holds (broken b slot piece attempted note)) (map (piece_hold b.plan) parts ++ own_holds (with_slot b slot None))
  broken_bag = record {
    weighs = λ w. omega (
      arith,
      holds_weigh w (with_slot b slot None),
      holds_weigh w (broken b slot piece attempted note),
      with_pieces_weight (piece_weight b.plan w) parts b.pending,
      sum_by-append w (map (piece_hold b.plan) parts) (own_holds (with_slot b slot None)),
      sum_by-map w (piece_hold b.plan) parts,
    );
  }

  parts_hold : All (λ (part : Piece). piece_hold b.plan part ≡ piece_hold b.plan piece) parts
  parts_hold = broken_all (λ part. piece_hold b.plan part ≡ piece_hold b.plan piece) piece attempted note (λ from to low high. refl) (λ one. refl)

  pub broken_least : (n : ℕ) → least_hold (own_holds (broken b slot piece attempted note)) n ≡ least_hold (own_holds b) n
  broken_least n =
      let h = piece_hold b.plan piece in
      let rest = own_holds (with_slot b slot None) in
      least_of_bag (own_holds (broken b slot piece attempted note)) (map (piece_hold b.plan) parts ++ rest) broken_bag n
      ∙ least_many h (map (piece_hold b.plan) parts) rest n (All-map (λ (k : Hold). k ≡ h) (piece_hold b.plan) parts parts_hold)
      (omega (arith, length-map parts (piece_hold b.plan), broken_some piece attempted note))
      ∙ sym (least_of_bag (own_holds b) (h ∷ rest) (without_range b slot piece attempted works) n)

-- ---- what key cells hold

-- all holds are those of pieces and panes, and those of key cells
pub all_of : (b : SeenBook) → IsSameBag (all_holds b) (own_holds b ++ key_holds b.keys)
all_of b = record {
  weighs = λ w. omega (
    arith,
    sum_by-append w (map (piece_hold b.plan) (b.pending ++ live_pieces b)) (map hold_of (held b) ++ key_holds b.keys),
    sum_by-append w (map hold_of (held b)) (key_holds b.keys),
    sum_by-append w (own_holds b) (key_holds b.keys),
    sum_by-append w (map (piece_hold b.plan) (b.pending ++ live_pieces b)) (map hold_of (held b)),
  );
}

pub least_of_all : (b : SeenBook) (n : ℕ) → least_hold (all_holds b) n ≡ int_min (least_hold (key_holds b.keys) n) (least_hold (own_holds b) n)
least_of_all b n = least_of_bag (all_holds b) (own_holds b ++ key_holds b.keys) (all_of b) n ∙ least_of_both (own_holds b) (key_holds b.keys) n

-- where key cells hold as before, each node's least hold stays with that of pieces and panes
pub least_as : (old new : SeenBook) → key_holds new.keys ≡ key_holds old.keys → ((n : ℕ) → least_hold (own_holds new) n ≡ least_hold (own_holds old) n)
    → (n : ℕ) → least_hold (all_holds new) n ≡ least_hold (all_holds old) n
least_as old new keys own n =
    least_of_all new n ∙ ap (λ (m : ℤ). int_min (least_hold (key_holds new.keys) n) m) (own n)
    ∙ ap (λ (l : List Hold). int_min (least_hold l n) (least_hold (own_holds old) n)) keys ∙ sym (least_of_all old n)
