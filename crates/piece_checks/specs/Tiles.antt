-- Whether ranges and dead positions fill the items (Splittable DoFn: restrictions partition their element).
use Rattle.std.specs.Prelude.{◌≡◌, ℕ, ◌+◌, ◌<◌, ◌≤◌, ◌==◌, ◌&&◌, nat_lt, Bool, true, false, if◌then◌else◌, List, [], ◌∷◌, drop, Option, Some, None}
use Rattle.std.specs.List.{All}
use Rattle.beam_values.specs.Cover.{Place, times_dead, times_done, times_listed, times_pending}
use Rattle.beam_values.specs.declared.piece.Dead.{Dead}
use Rattle.beam_values.specs.declared.piece.Done.{Done}
use Rattle.beam_values.specs.declared.piece.FileLen.{FileLen}
use Rattle.beam_values.specs.declared.piece.Piece.{Piece}
use Rattle.piece_checks.specs.declared.parts.Part.{Part}
use Rattle.piece_checks.specs.declared.tiles.Front.{Front}

-- an item is listed before another: by its node, and within a node by its number
pub record IsItemBelow (a b : FileLen) : Type 0 where
  pub node : a.node ≤ b.node
  pub item : a.node ≡ b.node → a.item < b.item

-- Each item is listed once, in order. The items 0 and 1 of node 0 and 0 of node 2 are so.
abbrev pub AreItemsAscending : List FileLen → Type 0
AreItemsAscending [] = Unit {0}
AreItemsAscending (file ∷ files) = All (IsItemBelow file) files × AreItemsAscending files

-- Each offset of each item lies in just one pending or done range or is one dead position, and no other offset does. Of an item of 27 bytes `[0, 10)` may be
-- done, 10 dead and `[11, 27)` pending, and `[1000, 1000)` too, which holds no offset; with `[10, 27)` pending, 10 is held twice.
pub record AreTiled (files : List FileLen) (pending : List Piece) (done : List Done) (dead : List Dead) : Type 0 where
  pub times : (place : Place) → times_pending pending place + times_done done place + times_dead dead place ≡ times_listed files place

-- ---- the test: items are filled from the first on, by parts in order

abbrev pub has_offsets : FileLen → Bool
has_offsets file = nat_lt 0 file.len

-- a part begins where an item is filled up to, and lies in it
abbrev pub is_next : FileLen → ℕ → Part → Bool
is_next file at part = part.node == file.node && part.item == file.item && part.first == at && nat_lt part.last file.len

-- Parts, one behind another, are the first item from an offset on, and the others whole. Of items of 27 and 5 offsets, from 10 on, these are `[10, 27)` of the
-- first and `[0, 5)` of the second.
abbrev pub fills : List FileLen → ℕ → List Part → Bool
fills [] at [] = true
fills (file ∷ files) at [] = false
fills [] at (part ∷ parts) = false
fills (file ∷ files) at (part ∷ parts) =
    is_next file at part && (if part.last + 1 == file.len then fills files 0 parts else fills (file ∷ files) (part.last + 1) parts)

-- and from how far the items are filled on
abbrev pub fills_on : List FileLen → Option Front → List Part → Bool
fills_on files None parts = false
fills_on files (Some front) parts = fills (drop front.place files) front.at parts
