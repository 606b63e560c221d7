-- How often ranges of source items hold an offset. What is worked once, and only once, is held once (Splittable DoFn: restrictions partition their element).
use Rattle.std.specs.Prelude.{ℕ, ◌+◌, List, ◌==◌, ◌&&◌, if◌then◌else◌, sum_by}
use Rattle.beam_values.specs.Intervals.{Offsets, times_in}
use Rattle.beam_values.specs.declared.piece.Dead.{Dead}
use Rattle.beam_values.specs.declared.piece.Done.{Done}
use Rattle.beam_values.specs.declared.piece.FileLen.{FileLen}
use Rattle.beam_values.specs.declared.piece.Piece.{Piece}

-- an offset of a source item
pub record Place : Type 0 where
  pub node : ℕ
  pub item : ℕ
  pub offset : ℕ

-- how often a range of this item holds a place: once or not at all
abbrev pub times_at : ℕ → ℕ → Offsets → Place → ℕ
times_at node item range place = if node == place.node && item == place.item then times_in range place.offset else 0

abbrev pub times_done : List Done → Place → ℕ
times_done done place = sum_by (λ d. times_at d.node d.item d.range place) done

-- a position by itself is `[at, at + 1)`
abbrev pub single : ℕ → Offsets
single at = record { from = at; to = at + 1 }

abbrev pub times_dead : List Dead → Place → ℕ
times_dead dead place = sum_by (λ d. times_at d.node d.item (single d.at) place) dead

abbrev pub times_pending : List Piece → Place → ℕ
times_pending pieces place = sum_by (λ piece. times_at piece.node piece.item piece.range place) pieces

-- the whole of an item is `[0, len)`
abbrev pub whole : ℕ → Offsets
whole len = record { from = 0; to = len }

abbrev pub times_listed : List FileLen → Place → ℕ
times_listed files place = sum_by (λ file. times_at file.node file.item (whole file.len) place) files
