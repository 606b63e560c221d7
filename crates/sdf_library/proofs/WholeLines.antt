-- Which lines end within what a pager holds: after more was read, and after what stands in front was given up.
use Rattle.std.proofs.Common.{◌≡◌, ℕ, ◌-◌, ◌<◌, ◌≤◌, inl, inr, true, List, ◌++◌, ◌||◌, length, take, drop, min, get_or, sym, ap, ◌∙◌, arith}
use Rattle.std.specs.Prelude.{slice_index}
use Rattle.std.specs.List.{list_any}
use Rattle.std.proofs.lemmas.Bool.{cases_lt, false≢true}
use Rattle.std.proofs.lemmas.List.{drop-append-le, drop-drop, drop_all, get_or-drop, length-drop, take-append-drop}
use Rattle.std.proofs.lemmas.List.Folds.{list_any-append, list_any_at}
use Rattle.beam_values.specs.Lines.{is_line_feed}
use Rattle.sdf_library.specs.Paging.{AreWhole}

-- an LF ends the line at each offset up to its own
pub feed_from : (text : List ℕ) (at k : ℕ) → at < length text → k ≤ at → is_line_feed (slice_index text at) ≡ true → list_any is_line_feed (drop k text) ≡ true
feed_from text at k within from feed =
    list_any_at is_line_feed (drop k text) (at - k) 0 (omega (arith, length-drop k text, within, from))
    (ap is_line_feed (get_or-drop k text (at - k) 0 ∙ ap (λ n. get_or text n 0) (omega (arith, from))) ∙ feed)

-- an offset at which a line is whole is held
whole_within : (text : List ℕ) (k : ℕ) → list_any is_line_feed (drop k text) ≡ true → k < length text
whole_within text k whole = elim (cases_lt k (length text)) [
  | inl within ↦ within
  | inr past ↦ absurd (false≢true (sym (ap (list_any is_line_feed) (drop_all k text past)) ∙ whole))
]

-- what stands before `first` is given up
pub whole_later : (base first : ℕ) (bytes : List ℕ) (to : ℕ) → base ≤ first → AreWhole base bytes to
    → AreWhole first (drop (min (first - base) (length bytes)) bytes) to
whole_later base first bytes to from whole at above below =
    let here = whole at (omega (arith, from, above)) below in
    let within = whole_within bytes (at - base) here in
    ap (list_any is_line_feed) (drop-drop (at - first) (min (first - base) (length bytes)) bytes
    ∙ ap (λ n. drop n bytes) (omega (arith, from, above, within))) ∙ here

-- more is held behind
pub whole_longer : (base : ℕ) (old new : List ℕ) (to : ℕ) → take (length old) new ≡ old → AreWhole base old to → AreWhole base new to
whole_longer base old new to front whole at above below =
    let here = whole at above below in
    let within = whole_within old (at - base) here in
    let rest = drop (length old) new in
    let joined : new ≡ old ++ rest = sym (take-append-drop (length old) new) ∙ ap (λ f. f ++ rest) front in
    ap (λ text. list_any is_line_feed (drop (at - base) text)) joined
    ∙ ap (list_any is_line_feed) (drop-append-le (at - base) old rest (omega (arith, within)))
    ∙ list_any-append is_line_feed (drop (at - base) old) rest
    ∙ ap (λ any. any || list_any is_line_feed rest) here
