-- The cover is kept: by first pieces, by what is taken, and by what comes back.
use Rattle.std.proofs.Common.{◌≡◌, ℕ, ◌+◌, ◌≤◌, Bool, true, false, cond, ◌&&◌, ◌==◌, List, [], ◌∷◌, ◌++◌, reverse, Option, Some, None, refl, sym, ap, ◌∙◌, subst, eq-eqb, arith}
use Rattle.std.specs.Option.{MatchOption, IfSome}
use Rattle.std.specs.List.{All, sum_by}
use Rattle.std.proofs.lemmas.Bool.{false≢true, eqb-true}
use Rattle.std.proofs.lemmas.List.Elements.{All-nil, All-cons, All-head, All-tail, All-weaker, All-append, All-map}
use Rattle.std.proofs.lemmas.List.Sums.{sum_by-cons, sum_by_push}
use Rattle.beam_values.specs.Cover.{times_at, whole}
use Rattle.beam_values.specs.declared.piece.Done.{Done}
use Rattle.beam_values.specs.declared.piece.FileLen.{FileLen}
use Rattle.beam_values.specs.declared.piece.Piece.{Piece}
use Rattle.split_core.specs.Order.{with_piece, with_pieces, first_piece, first_pieces}
use Rattle.split_core.specs.Partition.{IsListed, IsOut, range_of, IsPartition, IsCutOut}
use Rattle.split_core.proofs.Ordered.{All-with_piece, bag_with_piece, reverse-push}
use Rattle.split_core.proofs.Chunks.{first_times}

abbrev pub file_at : ℕ → ℕ → FileLen → Bool
file_at node item file = file.node == node && file.item == item

abbrev pub part_at : ℕ → ℕ → Done → Bool
part_at node item part = part.node == node && part.item == item

abbrev pub counted : Bool → ℕ
counted b = cond b 1 0

pub both_same : (node item : ℕ) → (node == node && item == item) ≡ true
both_same node item = ap (λ b. b && item == item) (eq-eqb node node refl) ∙ eq-eqb item item refl

both_equal : (a b c d : ℕ) → (a == b && c == d) ≡ true → (a ≡ b) × (c ≡ d)
both_equal a b c d e = by_test (a == b) refl e
  where
    by_test : (t : Bool) → (a == b) ≡ t → (t && c == d) ≡ true → (a ≡ b) × (c ≡ d)
    by_test true same e = (eqb-true a b same, eqb-true c d e)
    by_test false same e = absurd (false≢true e)

listed_more : (items : List FileLen) (file : FileLen) (node item : ℕ) → IsListed items node item → IsListed (items ++ file ∷ []) node item
listed_more items file node item h = omega (arith, sum_by_push (λ f. counted (file_at node item f)) items file)

listed_new : (items : List FileLen) (node item len : ℕ) → IsListed (items ++ record { node = node; item = item; len = len } ∷ []) node item
listed_new items node item len =
    let one : counted (node == node && item == item) ≡ 1 = ap counted (both_same node item) in
    omega (arith, sum_by_push (λ f. counted (file_at node item f)) items (record { node = node; item = item; len = len }), one)

-- what holds of both holds of what is put together
All-with_pieces : (P : Piece → Type 0) (pieces l : List Piece) → All P pieces → All P l → All P (with_pieces pieces l)
All-with_pieces P [] l new old = old
All-with_pieces P (piece ∷ pieces) l new old =
    All-with_pieces P pieces (with_piece piece l) (All-tail P piece pieces new) (All-with_piece P piece l (All-head P piece pieces new) old)

module _ (w : Piece → ℕ) where
  weight_with_piece : (piece : Piece) (l : List Piece) → sum_by w (with_piece piece l) ≡ w piece + sum_by w l
  weight_with_piece piece l = (bag_with_piece piece l).weighs w ∙ sum_by-cons w piece l

  weight_with_pieces : (pieces l : List Piece) → sum_by w (with_pieces pieces l) ≡ sum_by w pieces + sum_by w l
  weight_with_pieces [] l = omega arith
  weight_with_pieces (piece ∷ pieces) l =
      omega (arith, weight_with_pieces pieces (with_piece piece l), weight_with_piece piece l, sum_by-cons w piece pieces)

module _ (items : List FileLen) where
  abbrev piece_listed : Piece → Type 0
  piece_listed piece = IsListed items piece.node piece.item

  abbrev part_listed : Done → Type 0
  part_listed part = IsListed items part.node part.item

  pub held_take : (piece : Piece) (pending : List Piece) (out : List Done) → IsPartition items (piece ∷ pending) out
      → IsPartition items pending (out ++ range_of piece ∷ [])
  held_take piece pending out held = record {
    pending_listed = All-tail piece_listed piece pending held.pending_listed;
    out_listed = All-append part_listed out (range_of piece ∷ []) held.out_listed
        (All-cons part_listed (range_of piece) [] (All-head piece_listed piece pending held.pending_listed) (All-nil part_listed));
    times = λ place.
        let w : Piece → ℕ = λ p. times_at p.node p.item p.range place in
        let v : Done → ℕ = λ d. times_at d.node d.item d.range place in
        omega (arith, held.times place, sum_by-cons w piece pending, sum_by_push v out (range_of piece));
  }

  pub held_initial : (node item len chunk : ℕ) (pending : List Piece) (out : List Done) → 1 ≤ chunk → IsPartition items pending out
      → IsPartition (items ++ record { node = node; item = item; len = len } ∷ []) (with_pieces (first_pieces node item len chunk) pending) out
  held_initial node item len chunk pending out some held =
      let file : FileLen = record { node = node; item = item; len = len } in
      let pieces = first_pieces node item len chunk in
      let listed : Piece → Type 0 = λ p. IsListed (items ++ file ∷ []) p.node p.item in
      let new : All listed pieces = All-map listed (first_piece node item chunk len) _ (λ k d below. listed_new items node item len) in
      record {
        pending_listed = All-with_pieces listed pieces pending new
            (All-weaker piece_listed listed (λ p h. listed_more items file p.node p.item h) pending held.pending_listed);
        out_listed = All-weaker part_listed (λ d. IsListed (items ++ file ∷ []) d.node d.item) (λ d h. listed_more items file d.node d.item h) out held.out_listed;
        times = λ place.
            let w : Piece → ℕ = λ p. times_at p.node p.item p.range place in
            let u : FileLen → ℕ = λ f. times_at f.node f.item (whole f.len) place in
            omega (arith, held.times place, weight_with_pieces w pieces pending, first_times node item chunk len place some, sum_by_push u items file);
      }

  -- an item of which a range is out is listed
  pub listed_where_out : (node item : ℕ) (out : List Done) → All part_listed out → IsOut out node item → IsListed items node item
  listed_where_out node item [] all here = absurd (omega (arith, here))
  listed_where_out node item (part ∷ parts) all here =
      by_test (part_at node item part) refl (listed_where_out node item parts (All-tail part_listed part parts all))
    where
      by_test : (t : Bool) → part_at node item part ≡ t → (IsOut parts node item → IsListed items node item) → IsListed items node item
      by_test true e behind =
          let same = both_equal part.node node part.item item e in
          subst (λ i. IsListed items node i) same.1 (subst (λ n. IsListed items n part.item) same.0 (All-head part_listed part parts all))
      by_test false e behind =
          behind (omega (arith, here, sum_by-cons (λ d. counted (part_at node item d)) part parts, ap counted e))

  pub held_put : (piece : Piece) (pending : List Piece) (out rest : List Done) → IsCutOut out piece rest → IsPartition items pending out
      → IsPartition items (with_piece piece pending) rest
  held_put piece pending out rest cut held = record {
    pending_listed = All-with_piece piece_listed piece pending (listed_where_out piece.node piece.item out held.out_listed cut.piece_out) held.pending_listed;
    out_listed = All-weaker (λ d. IsOut out d.node d.item) part_listed (λ d h. listed_where_out d.node d.item out held.out_listed h) rest cut.rest_out;
    times = λ place.
        let w : Piece → ℕ = λ p. times_at p.node p.item p.range place in
        omega (arith, held.times place, cut.times place, weight_with_piece w piece pending);
  }

-- what a pop takes is out
pub popped_cover : (before after pending : List Piece) (r : Option Piece) → reverse before ≡ pending
    → MatchOption r (before ≡ []) (λ last. before ≡ after ++ last ∷ [])
    → IfSome r (λ piece. (items : List FileLen) (out : List Done) → IsPartition items pending out → IsPartition items (reverse after) (out ++ range_of piece ∷ []))
popped_cover before after pending None same popped = tt
popped_cover before after pending (Some last) same popped = λ items out held.
    held_take items last (reverse after) out
    (subst (λ (l : List Piece). IsPartition items l out) (sym same ∙ ap reverse popped ∙ reverse-push after last) held)
