-- Parts in order hold each offset just as often as the items do where they are the items, one part behind another, and nowhere else.
use Rattle.std.proofs.Common.{◌≡◌, ℕ, zero, suc, ◌+◌, ◌<◌, ◌≤◌, ◌≢◌, Bool, true, false, ◌&&◌, ◌==◌, List, [], ◌∷◌, length, drop, drop_of_length-le, length-drop, sum_by, refl, sym, ap, ◌∙◌, eqb-true, false-eqb, arith}
use Rattle.std.specs.Prelude.{if◌then◌else◌}
use Rattle.std.specs.List.{All}
use Rattle.std.proofs.lemmas.Bool.{false≢true}
use Rattle.std.proofs.lemmas.Bool.Decides.{nat_tests}
use Rattle.std.proofs.lemmas.List.Elements.{All-cons, All-head, All-tail, All-weaker}
use Rattle.std.proofs.lemmas.List.Sums.{sum_by-cons}
use Rattle.beam_values.specs.Cover.{Place, times_at, times_listed, whole}
use Rattle.beam_values.specs.Intervals.{Offsets}
use Rattle.beam_values.specs.declared.piece.FileLen.{FileLen}
use Rattle.piece_checks.specs.Parts.{offsets_of, times_part}
use Rattle.piece_checks.specs.Tiles.{fills, is_next, AreItemsAscending, IsItemBelow}
use Rattle.piece_checks.specs.declared.parts.Part.{Part}
use Rattle.piece_checks.proofs.PlaceOrder.{IsNoLater, IsHeldIn, cut_at, held_in, held_once, no_later-refl, reached}

abbrev pub times_parts : List Part → Place → ℕ
times_parts parts place = sum_by (λ part. times_part part place) parts

abbrev pub IsPart : Part → Type 0
IsPart part = part.first ≤ part.last

abbrev pub start : Part → Place
start part = record { node = part.node; item = part.item; offset = part.first }

-- no part begins before one in front of it
abbrev pub Ascend : List Part → Type 0
Ascend [] = Unit {0}
Ascend (part ∷ parts) = All (λ later. IsNoLater (start part) (start later)) parts × Ascend parts

-- ---- items, the first of them from an offset on

abbrev place_in : FileLen → ℕ → Place
place_in file at = record { node = file.node; item = file.item; offset = at }

abbrev rest_of : FileLen → ℕ → Offsets
rest_of file at = record { from = at; to = file.len }

abbrev pub times_from : List FileLen → ℕ → Place → ℕ
times_from [] at place = 0
times_from (file ∷ files) at place = times_at file.node file.item (rest_of file at) place + times_listed files place

abbrev pub IsWithin : List FileLen → ℕ → Type 0
IsWithin [] at = Unit {0}
IsWithin (file ∷ files) at = at < file.len

abbrev pub HasOffsets : FileLen → Type 0
HasOffsets file = 0 < file.len

pub from_start : (files : List FileLen) (place : Place) → times_from files 0 place ≡ times_listed files place
from_start [] place = refl
from_start (file ∷ files) place = sym (sum_by-cons (λ f. times_at f.node f.item (whole f.len) place) file files)

pub within_first : (files : List FileLen) → All HasOffsets files → IsWithin files 0
within_first [] some = tt
within_first (file ∷ files) some = All-head HasOffsets file files some

-- ---- what is held lies no earlier than what holds it

part_begins : (part : Part) (place : Place) → 1 ≤ times_part part place → IsNoLater (start part) place
part_begins part place h =
    let held = held_in part.node part.item (offsets_of part) place h in
    record { node = omega arith; item = λ n. omega arith; offset = λ n i. omega arith }

file_begins : (file : FileLen) (place : Place) → 1 ≤ times_at file.node file.item (whole file.len) place → IsNoLater (place_in file 0) place
file_begins file place h =
    let held = held_in file.node file.item (whole file.len) place h in
    record { node = omega arith; item = λ n. omega arith; offset = λ n i. omega arith }

part_holds_start : (part : Part) → IsPart part → times_part part (start part) ≡ 1
part_holds_start part some =
    held_once part.node part.item (offsets_of part) (start part) (record { node_is = refl; item_is = refl; from = omega arith; to = omega arith })

file_holds_start : (file : FileLen) (at : ℕ) → at < file.len → times_at file.node file.item (rest_of file at) (place_in file at) ≡ 1
file_holds_start file at within =
    held_once file.node file.item (rest_of file at) (place_in file at) (record { node_is = refl; item_is = refl; from = omega arith; to = omega arith })

parts_reached : (part : Part) (parts : List Part) → Ascend (part ∷ parts) → (place : Place) → 1 ≤ times_parts (part ∷ parts) place → IsNoLater (start part) place
parts_reached part parts asc place h =
    reached start times_part part_begins (start part) (part ∷ parts)
    (All-cons (λ later. IsNoLater (start part) (start later)) part parts (no_later-refl (start part)) asc.0) place h

-- where the items behind one begin: behind its end, whatever that is
abbrev past : FileLen → Place
past file = record { node = file.node; item = file.item + 1; offset = 0 }

past_begins : (file later : FileLen) → IsItemBelow file later → IsNoLater (past file) (place_in later 0)
past_begins file later below = record { node = below.node; item = λ n. omega arith; offset = λ n i. omega arith }

others_reached : (file : FileLen) (files : List FileLen) → AreItemsAscending (file ∷ files) → (place : Place) → 1 ≤ times_listed files place → IsNoLater (past file) place
others_reached file files asc place h =
    reached (λ f. place_in f 0) (λ f. times_at f.node f.item (whole f.len)) file_begins (past file) files
    (All-weaker (IsItemBelow file) (λ later. IsNoLater (past file) (place_in later 0)) (past_begins file) files asc.0) place h

items_reached : (file : FileLen) (files : List FileLen) (at : ℕ) → AreItemsAscending (file ∷ files) → (place : Place) → 1 ≤ times_from (file ∷ files) at place
    → IsNoLater (place_in file at) place
items_reached file files at asc place h =
    by_times (times_at file.node file.item (rest_of file at) place) h (held_in file.node file.item (rest_of file at) place) (others_reached file files asc place)
  where
    by_times : (n : ℕ) → 1 ≤ n + times_listed files place → (1 ≤ n → IsHeldIn file.node file.item (rest_of file at) place)
        → (1 ≤ times_listed files place → IsNoLater (past file) place) → IsNoLater (place_in file at) place
    by_times zero some here later =
        let behind = later (omega arith) in
        record { node = behind.node; item = λ n. omega arith; offset = λ n i. absurd (omega arith) }
    by_times (suc n) some here later =
        let held = here (omega arith) in
        record { node = omega arith; item = λ n. omega arith; offset = λ n i. omega arith }

-- ---- where each offset is held as often, the first part is next

record IsNext (file : FileLen) (at : ℕ) (part : Part) : Type 0 where
  node : part.node ≡ file.node
  item : part.item ≡ file.item
  first : part.first ≡ at
  last : part.last < file.len

next_passes : (file : FileLen) (at : ℕ) (part : Part) → IsNext file at part → is_next file at part ≡ true
next_passes file at part n = grind (arith, nat_tests)

next_is : (file : FileLen) (at : ℕ) (part : Part) → is_next file at part ≡ true → IsNext file at part
next_is file at part e = record {
  node = grind (arith, nat_tests);
  item = grind (arith, nat_tests);
  first = grind (arith, nat_tests);
  last = grind (arith, nat_tests);
}

abbrev AreHeldAlike : List FileLen → ℕ → List Part → Type 0
AreHeldAlike files at parts = (place : Place) → times_parts parts place ≡ times_from files at place

module _ (file : FileLen) (files : List FileLen) (at : ℕ) (part : Part) (parts : List Part) where
  abbrev end : Place
  end = place_in file file.len

  -- no part of the item passes its end
  within_end : AreItemsAscending (file ∷ files) → at < file.len → AreHeldAlike (file ∷ files) at (part ∷ parts)
      → part.node ≡ file.node → part.item ≡ file.item → part.first ≡ at → file.len ≤ part.last → ⊥
  within_end asc within same n i f past_it =
      let one : times_part part end ≡ 1 =
      held_once part.node part.item (offsets_of part) end (record { node_is = n; item_is = i; from = omega arith; to = omega arith }) in
      let not_here : 1 ≤ times_at file.node file.item (rest_of file at) end → ⊥ =
      λ h. let held = held_in file.node file.item (rest_of file at) end h in omega arith in
      let behind : IsNoLater (past file) end =
      others_reached file files asc end (omega (arith, one, not_here, same end, sum_by-cons (λ p. times_part p end) part parts)) in
      omega (arith, behind.item refl)

  first_is_next : AreItemsAscending (file ∷ files) → at < file.len → IsPart part → Ascend (part ∷ parts) → AreHeldAlike (file ∷ files) at (part ∷ parts)
      → IsNext file at part
  first_is_next asc within some ordered same =
      let a : IsNoLater (place_in file at) (start part) =
      items_reached file files at asc (start part)
      (omega (arith, part_holds_start part some, same (start part), sum_by-cons (λ p. times_part p (start part)) part parts)) in
      let b : IsNoLater (start part) (place_in file at) =
      parts_reached part parts ordered (place_in file at) (omega (arith, file_holds_start file at within, same (place_in file at))) in
      let n : part.node ≡ file.node = omega arith in
      let i : part.item ≡ file.item = omega arith in
      let f : part.first ≡ at = omega arith in
      record { node = n; item = i; first = f; last = below (within_end asc within same n i f) }
    where
      below : (file.len ≤ part.last → ⊥) → part.last < file.len
      below past_it = omega arith

  -- what is left once the next part is taken away
  module _ (next : IsNext file at part) where
    part_alike : (place : Place) → times_part part place ≡ times_at file.node file.item (record { from = at; to = part.last + 1 }) place
    part_alike place =
        ap (λ n. times_at n part.item (offsets_of part) place) next.node
        ∙ ap (λ i. times_at file.node i (offsets_of part) place) next.item
        ∙ ap (λ f. times_at file.node file.item (record { from = f; to = part.last + 1 }) place) next.first

    whole_taken : part.last + 1 ≡ file.len → (place : Place) → times_part part place ≡ times_at file.node file.item (rest_of file at) place
    whole_taken e place = part_alike place ∙ ap (λ t. times_at file.node file.item (record { from = at; to = t }) place) e

    front_taken : IsPart part → (place : Place)
        → times_at file.node file.item (rest_of file at) place ≡ times_part part place + times_at file.node file.item (rest_of file (part.last + 1)) place
    front_taken some place =
        omega (arith, part_alike place, cut_at file.node file.item at (part.last + 1) file.len place (omega (arith, next.first)) (omega (arith, next.last)))

  abbrev on_from : Bool → Bool
  on_from done = if done then fills files 0 parts else fills (file ∷ files) (part.last + 1) parts

  next_fills : is_next file at part ≡ true → (done : Bool) → (part.last + 1 == file.len) ≡ done → fills (file ∷ files) at (part ∷ parts) ≡ on_from done
  next_fills next done e = ap (λ b. b && on_from (part.last + 1 == file.len)) next ∙ ap on_from e

  filled_parts : fills (file ∷ files) at (part ∷ parts) ≡ true → (is_next file at part ≡ true) × (on_from (part.last + 1 == file.len) ≡ true)
  filled_parts is = both (is_next file at part) is
    where
      both : (b : Bool) → (b && on_from (part.last + 1 == file.len)) ≡ true → (b ≡ true) × (on_from (part.last + 1 == file.len) ≡ true)
      both true e = (refl, e)
      both false e = absurd (false≢true e)

-- ---- both ways

pub alike_fills : (files : List FileLen) (at : ℕ) (parts : List Part) → AreItemsAscending files → All HasOffsets files → IsWithin files at → All IsPart parts → Ascend parts
    → AreHeldAlike files at parts → fills files at parts ≡ true
alike_fills [] at [] asc some within are ordered same = refl
alike_fills (file ∷ files) at [] asc some within are ordered same =
    absurd (omega (arith, same (place_in file at), file_holds_start file at within))
alike_fills [] at (part ∷ parts) asc some within are ordered same =
    absurd (omega (
      arith,
      same (start part),
      part_holds_start part (All-head IsPart part parts are),
      sum_by-cons (λ p. times_part p (start part)) part parts,
    ))
alike_fills (file ∷ files) at (part ∷ parts) asc some within are ordered same =
    by_end (part.last + 1 == file.len) refl
    (alike_fills files 0 parts asc.1 later_some (within_first files later_some) later_are ordered.1)
    (λ less. alike_fills (file ∷ files) (part.last + 1) parts asc some less later_are ordered.1)
  where
    later_some : All HasOffsets files
    later_some = All-tail HasOffsets file files some

    later_are : All IsPart parts
    later_are = All-tail IsPart part parts are

    first : IsPart part
    first = All-head IsPart part parts are

    next : IsNext file at part
    next = first_is_next file files at part parts asc within first ordered same

    below : (part.last + 1 ≢ file.len) → part.last < file.len → part.last + 1 < file.len
    below differ within = omega arith

    by_end : (done : Bool) → (part.last + 1 == file.len) ≡ done → (AreHeldAlike files 0 parts → fills files 0 parts ≡ true)
        → (part.last + 1 < file.len → AreHeldAlike (file ∷ files) (part.last + 1) parts → fills (file ∷ files) (part.last + 1) parts ≡ true)
        → fills (file ∷ files) at (part ∷ parts) ≡ true
    by_end true e others rest =
        next_fills file files at part parts (next_passes file at part next) true e
        ∙ others (λ place.
        omega (
          arith,
          same place,
          whole_taken file files at part parts next (eqb-true (part.last + 1) file.len e) place,
          sum_by-cons (λ p. times_part p place) part parts,
          from_start files place,
        ))
    by_end false e others rest =
        next_fills file files at part parts (next_passes file at part next) false e
        ∙ rest (below (false-eqb (part.last + 1) file.len (sym e)) next.last) (λ place.
        omega (arith, same place, front_taken file files at part parts next first place, sum_by-cons (λ p. times_part p place) part parts))

pub fills_alike : (files : List FileLen) (at : ℕ) (parts : List Part) → All IsPart parts → fills files at parts ≡ true → AreHeldAlike files at parts
fills_alike [] at [] are is place = refl
fills_alike (file ∷ files) at [] are is place = absurd (false≢true is)
fills_alike [] at (part ∷ parts) are is place = absurd (false≢true is)
fills_alike (file ∷ files) at (part ∷ parts) are is place =
    by_end (part.last + 1 == file.len) refl
    (λ fills_others. fills_alike files 0 parts later_are fills_others place)
    (λ fills_rest. fills_alike (file ∷ files) (part.last + 1) parts later_are fills_rest place)
  where
    later_are : All IsPart parts
    later_are = All-tail IsPart part parts are

    filled : (is_next file at part ≡ true) × (on_from file files at part parts (part.last + 1 == file.len) ≡ true)
    filled = filled_parts file files at part parts is

    next : IsNext file at part
    next = next_is file at part filled.0

    by_end : (done : Bool) → (part.last + 1 == file.len) ≡ done
        → (fills files 0 parts ≡ true → times_parts parts place ≡ times_from files 0 place)
        → (fills (file ∷ files) (part.last + 1) parts ≡ true → times_parts parts place ≡ times_from (file ∷ files) (part.last + 1) place)
        → times_parts (part ∷ parts) place ≡ times_from (file ∷ files) at place
    by_end true e others rest =
        omega (
          arith,
          others (sym (ap (on_from file files at part parts) e) ∙ filled.1),
          whole_taken file files at part parts next (eqb-true (part.last + 1) file.len e) place,
          sum_by-cons (λ p. times_part p place) part parts,
          from_start files place,
        )
    by_end false e others rest =
        omega (
          arith,
          rest (sym (ap (on_from file files at part parts) e) ∙ filled.1),
          front_taken file files at part parts next (All-head IsPart part parts are) place,
          sum_by-cons (λ p. times_part p place) part parts,
        )

-- without a part more, the items are filled where none is left
pub all_filled : (files : List FileLen) (place at : ℕ) → place ≤ length files → (place == length files) ≡ fills (drop place files) at []
all_filled files place at within = by (place == length files) refl
  where
    some_left : (left : List FileLen) → 0 < length left → false ≡ fills left at []
    some_left [] some = absurd (omega (arith, some))
    some_left (file ∷ left) some = refl

    by : (full : Bool) → (place == length files) ≡ full → full ≡ fills (drop place files) at []
    by true e = sym (ap (λ left. fills left at []) (drop_of_length-le files {i = place} (omega (arith, eqb-true place (length files) e))))
    by false e = some_left (drop place files) (omega (arith, length-drop place files, false-eqb place (length files) (sym e)))
