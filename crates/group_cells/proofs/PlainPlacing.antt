-- Entries of one Group and key go to cells in a list of all.
use Rattle.std.proofs.Common.{◌≡◌, ℕ, ◌+◌, ◌<◌, ◌≤◌, Bool, true, false, cond, List, [], ◌∷◌, ◌++◌, length, get_or, set, take, drop, sym, ap, ◌∙◌, arith, append_assoc, append-nil}
use Rattle.std.proofs.lemmas.List.{take_more, drop_more, drop_all, take_all, set_at, length-take, get_or_default, take-append-drop}
use Rattle.beam_values.specs.declared.cell.Cell.{Cell}
use Rattle.beam_values.specs.declared.cell.Entry.{Entry}
use Rattle.beam_values.specs.declared.value.Value.{Value}
use Rattle.beam_model.specs.Panes.{GroupRules}
use Rattle.group_cells.specs.Placing.{with_entry}
use Rattle.group_cells.specs.Plain.{put_at, takes_at}

module _ (rules : GroupRules) (node : ℕ) (key : Value) (entry : Entry) (cells : List Cell) where
  -- no cell before a place takes the entry
  abbrev pub NoneBefore : ℕ → Type 0
  NoneBefore i = put_at rules node key entry cells ≡ take i cells ++ put_at rules node key entry (drop i cells)

  split : (i : ℕ) (d : Cell) → i < length cells → cells ≡ take i cells ++ get_or cells i d ∷ drop (i + 1) cells
  split i d within = sym (take-append-drop i cells) ∙ ap (λ l. take i cells ++ l) (drop_more cells i d within)

  pub none_more : (i : ℕ) (x : Cell) → i < length cells → x ≡ get_or cells i x → takes_at rules node key entry x ≡ false → NoneBefore i → NoneBefore (i + 1)
  none_more i x within is off before =
      before
      ∙ ap (λ l. take i cells ++ put_at rules node key entry l) (drop_more cells i x within)
      ∙ ap (λ y. take i cells ++ put_at rules node key entry (y ∷ drop (i + 1) cells)) (sym is)
      ∙ ap (λ (b : Bool). take i cells ++ cond b (with_entry entry x ∷ drop (i + 1) cells) (x ∷ put_at rules node key entry (drop (i + 1) cells))) off
      ∙ sym (append_assoc (take i cells) (x ∷ []) (put_at rules node key entry (drop (i + 1) cells)))
      ∙ ap (λ l. l ++ put_at rules node key entry (drop (i + 1) cells)) (ap (λ y. take i cells ++ y ∷ []) is ∙ sym (take_more cells i x within))

  pub put_found : (i : ℕ) (x : Cell) → i < length cells → x ≡ get_or cells i x → takes_at rules node key entry x ≡ true → NoneBefore i
      → (d : Cell) → put_at rules node key entry cells ≡ set cells i (with_entry entry (get_or cells i d))
  put_found i x within is on before d =
      let rest = drop (i + 1) cells in
      let same : x ≡ get_or cells i d = is ∙ get_or_default cells i x d within in
      before
      ∙ ap (λ l. take i cells ++ put_at rules node key entry l) (drop_more cells i x within)
      ∙ ap (λ y. take i cells ++ put_at rules node key entry (y ∷ rest)) (sym is)
      ∙ ap (λ (b : Bool). take i cells ++ cond b (with_entry entry x ∷ rest) (x ∷ put_at rules node key entry rest)) on
      ∙ ap (λ y. take i cells ++ with_entry entry y ∷ rest) same
      ∙ sym (ap (λ l. set l i (with_entry entry (get_or cells i d))) (split i d within)
      ∙ set_at (take i cells) (get_or cells i d) rest (with_entry entry (get_or cells i d)) i (omega (arith, length-take i cells)))

  pub put_nowhere : (i : ℕ) → length cells ≤ i → NoneBefore i → put_at rules node key entry cells ≡ cells
  put_nowhere i past before =
      before ∙ (λ j. take_all i cells past j ++ put_at rules node key entry (drop_all i cells past j)) ∙ append-nil cells
