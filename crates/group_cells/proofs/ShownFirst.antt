-- The first entries of a cell, which a pane has shown, and the others.
use Rattle.std.proofs.Common.{◌≡◌, ℕ, true, false, not, List, [], ◌∷◌, ◌++◌, map, take, drop, refl, sym, ap, ◌∙◌}
use Rattle.std.specs.List.{All, filter}
use Rattle.std.proofs.lemmas.List.{take-append-drop}
use Rattle.std.proofs.lemmas.List.Elements.{All-head, All-tail, All-weaker}
use Rattle.beam_values.specs.declared.cell.Entry.{Entry}
use Rattle.group_cells.specs.Cells.{shown, AreShownTo}
use Rattle.group_cells.proofs.Counting.{filter_right}
use Rattle.group_cells.proofs.Writes.{written}

-- what is unseen lies behind them
pub unseen_from : (end : ℕ) (entries : List Entry) → AreShownTo end entries → filter (λ entry. not entry.shown) (drop end entries) ≡ filter (λ entry. not entry.shown) entries
unseen_from end entries h =
    sym (filter_right (λ (entry : Entry). not entry.shown) (take end entries) (drop end entries)
    (All-weaker (λ (entry : Entry). entry.shown ≡ true) (λ entry. not entry.shown ≡ false) (λ entry e. ap not e) (take end entries) h.shown))
    ∙ ap (filter (λ entry. not entry.shown)) (take-append-drop end entries)

shown_already : (entries : List Entry) → All (λ entry. entry.shown ≡ true) entries → map shown entries ≡ entries
shown_already [] h = refl
shown_already (entry ∷ entries) h =
    let here : entry.shown ≡ true = All-head (λ (e : Entry). e.shown ≡ true) entry entries h in
    let rest : map shown entries ≡ entries = shown_already entries (All-tail (λ (e : Entry). e.shown ≡ true) entry entries h) in
    (λ i. record entry { shown = sym here i } ∷ rest i)

-- to show them again changes nothing
pub shown_start : (end : ℕ) (entries : List Entry) → AreShownTo end entries → entries ≡ written shown entries end
shown_start end entries h = sym (ap (λ l. l ++ drop end entries) (shown_already (take end entries) h.shown) ∙ take-append-drop end entries)
