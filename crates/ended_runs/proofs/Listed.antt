-- Source items are listed once, so what partitions a book's listed offsets covers them.
use Rattle.std.proofs.Common.{◌≡◌, ℕ, ◌+◌, ◌≤◌, min, ◌==◌, Bool, true, false, ◌&&◌, if◌then◌else◌, List, [], ◌∷◌, ◌++◌, refl, sym, ap, ap₂, ◌∙◌, arith}
use Rattle.std.specs.Prelude.{Option, Some, None, nat_le, nat_lt}
use Rattle.std.proofs.lemmas.Bool.{eqb-true, and_parts}
use Rattle.std.proofs.lemmas.Bool.Decides.{nat_tests}
use Rattle.std.proofs.lemmas.List.Sums.{sum_by-cons}
use Rattle.beam_values.specs.Cover.{Place, times_at, times_dead, times_done, times_listed, times_pending, whole}
use Rattle.beam_values.specs.Intervals.{Offsets, times_in}
use Rattle.beam_values.specs.declared.piece.FileLen.{FileLen}
use Rattle.beam_values.specs.declared.piece.Piece.{Piece}
use Rattle.beam_model.specs.Coverings.{AreDistinct, is_item, item_at}
use Rattle.beam_model.specs.Positions.{SourceItem, items}
use Rattle.beam_model.proofs.Coverings.{plan_distinct}
use Rattle.book_core.specs.Book.{SeenBook, live_pieces}
use Rattle.book_core.specs.Facts.{ArePartitioned, IsWellFormed}
use Rattle.book_core.specs.Runs.{AreLengthsOf}
use Rattle.book_core.specs.Steps.{IsIdle}
use Rattle.book_core.proofs.NothingLeft.{idle_pieces}

held_once : (range : Offsets) (p : ℕ) → times_in range p ≤ 1
held_once range p = by (nat_le range.from p && nat_lt p range.to)
  where
    by : (t : Bool) → (if t then 1 else 0) ≤ 1
    by true = omega arith
    by false = omega arith

module _ (place : Place) where
  abbrev is_here : SourceItem → Bool
  is_here = is_item place.node place.item

  abbrev found_in : List SourceItem → Option SourceItem
  found_in items = item_at items place.node place.item

  named_alike : (x : SourceItem) (f : FileLen) → f.node ≡ x.node → f.item ≡ x.item → (f.node == place.node && f.item == place.item) ≡ is_here x
  named_alike x f node item = ap₂ (λ n i. n == place.node && i == place.item) node item

  away_from : (x : SourceItem) (f : FileLen) → f.node ≡ x.node → f.item ≡ x.item → is_here x ≡ false → times_at f.node f.item (whole f.len) place ≡ 0
  away_from x f node item away = ap (λ (t : Bool). if t then times_in (whole f.len) place.offset else 0) (named_alike x f node item ∙ away)

  listed_first : (f : FileLen) (fs : List FileLen) → times_listed (f ∷ fs) place ≡ times_at f.node f.item (whole f.len) place + times_listed fs place
  listed_first f fs = sum_by-cons (λ (file : FileLen). times_at file.node file.item (whole file.len) place) f fs

  none_listed : (items : List SourceItem) (files : List FileLen) → AreLengthsOf items files → found_in items ≡ None → times_listed files place ≡ 0
  none_listed [] [] lengths none = refl
  none_listed [] (f ∷ fs) lengths none = absurd lengths
  none_listed (x ∷ xs) [] lengths none = absurd lengths
  none_listed (x ∷ xs) (f ∷ fs) lengths none = by (is_here x) refl none (none_listed xs fs lengths.1)
    where
      by : (t : Bool) → is_here x ≡ t → (if t then Some x else found_in xs) ≡ None → (found_in xs ≡ None → times_listed fs place ≡ 0) → times_listed (f ∷ fs) place ≡ 0
      by true here never onward = absurd (cc)
      by false away rest onward = omega (arith, listed_first f fs, away_from x f lengths.0.0 lengths.0.1 away, onward rest)

  listed_once : (items : List SourceItem) (files : List FileLen) → AreLengthsOf items files → AreDistinct items → times_listed files place ≤ 1
  listed_once [] [] lengths distinct = omega arith
  listed_once [] (f ∷ fs) lengths distinct = absurd lengths
  listed_once (x ∷ xs) [] lengths distinct = absurd lengths
  listed_once (x ∷ xs) (f ∷ fs) lengths distinct = by (is_here x) refl (listed_once xs fs lengths.1 distinct.1)
    where
      bounded : (t : Bool) → (if t then times_in (whole f.len) place.offset else 0) ≤ 1
      bounded true = held_once (whole f.len) place.offset
      bounded false = omega arith

      by : (t : Bool) → is_here x ≡ t → times_listed fs place ≤ 1 → times_listed (f ∷ fs) place ≤ 1
      by true here later =
          let parts = and_parts (x.node == place.node) (x.item == place.item) here in
          let none : found_in xs ≡ None = sym (ap₂ (item_at xs) (eqb-true x.node place.node parts.0) (eqb-true x.item place.item parts.1)) ∙ distinct.0 in
          omega (arith, listed_first f fs, bounded (f.node == place.node && f.item == place.item), none_listed xs fs lengths.1 none)
      by false away later = omega (arith, listed_first f fs, away_from x f lengths.0.0 lengths.0.1 away, later)

least_one : (n : ℕ) → n ≤ 1 → n ≡ min 1 n
least_one n low = grind (arith, nat_tests)

-- what a book with nothing pending or worked has done or set aside covers its items
pub done_covers : (b : SeenBook) → ArePartitioned b → IsWellFormed b → b.pending ≡ [] → IsIdle b → (place : Place)
    → times_done b.done place + times_dead b.dead place ≡ min 1 (times_listed b.files place)
done_covers b partitioned formed pending idle place =
    let none : times_pending (b.pending ++ live_pieces b) place ≡ 0 = ap₂ (λ (ps qs : List Piece). times_pending (ps ++ qs) place) pending (idle_pieces b idle) in
    let all : times_done b.done place + times_dead b.dead place ≡ times_listed b.files place = omega (arith, partitioned.times place, none) in
    all ∙ least_one (times_listed b.files place) (listed_once place (items [] b.plan) b.files formed.lengths (plan_distinct [] b.plan))
