-- A cell that fired becomes again what it was before.
use Rattle.std.proofs.Common.{◌≡◌, ℕ, suc, ◌+◌, ◌<◌, ◌≤◌, Bool, List, [], ◌∷◌, ◌++◌, length, map, get_or, take, drop, Some, refl, sym, ap, ◌∙◌, arith, append_assoc}
use Rattle.std.specs.Prelude.{slice_get, slice_set}
use Rattle.std.proofs.lemmas.List.{take_more, drop_more, set_at, length-take, length-drop, length-append, get_or_at}
use Rattle.beam_values.specs.declared.cell.Cell.{Cell}
use Rattle.beam_values.specs.declared.cell.Entry.{Entry}
use Rattle.beam_values.specs.declared.element.Timing.{Timing}
use Rattle.group_cells.specs.Cells.{once_fired, shown}
use Rattle.group_cells.specs.Unfiring.{shown_as, unfired, was_shown, AreShownAs}
use Rattle.group_cells.specs.declared.groups.fired.Shown.{Shown}

-- ---- what was shown before

shown_back : (was : ℕ → Bool) (from_ : ℕ) (entries : List Entry) → ((place : ℕ) (entry : Entry) → slice_get entries place ≡ Some entry → was (from_ + place) ≡ entry.shown)
    → shown_as was from_ (map shown entries) ≡ entries
shown_back was from_ [] h = refl
shown_back was from_ (entry ∷ entries) h =
    let start : from_ ≡ from_ + 0 = omega arith in
    let here : was from_ ≡ entry.shown = ap was start ∙ h 0 entry refl in
    let rest : shown_as was (from_ + 1) (map shown entries) ≡ entries =
    shown_back was (from_ + 1) entries (λ place e found. let next : (from_ + 1) + place ≡ from_ + suc place = omega arith in ap was next ∙ h (suc place) e found) in
    (λ i. record entry { shown = here i } ∷ rest i)

-- of a cell that fired
pub unfired_back : (timing : Timing) (cell : Cell) (held : Shown) → AreShownAs (was_shown held) cell.entries
    → unfired (record { next_index = cell.next_index; on_time = cell.on_time; shown = held }) (once_fired (Some timing) cell) ≡ cell
unfired_back timing cell held h =
    ap (λ (es : List Entry). let c : Cell = record cell { entries = es } in c)
    (shown_back (was_shown held) 0 cell.entries (λ place entry found. let same : 0 + place ≡ place = omega arith in ap (was_shown held) same ∙ h place entry found))

-- so are the entries before a place
abbrev pub AreShownBelow : (ℕ → Bool) → ℕ → List Entry → Type 0
AreShownBelow was end entries = (place : ℕ) (entry : Entry) → place < end → slice_get entries place ≡ Some entry → was place ≡ entry.shown

-- ---- the entries are put back in turn

shown_as-append : (was : ℕ → Bool) (from_ : ℕ) (xs ys : List Entry) → shown_as was from_ (xs ++ ys) ≡ shown_as was from_ xs ++ shown_as was (from_ + length xs) ys
shown_as-append was from_ [] ys = let none : from_ ≡ from_ + 0 = omega arith in ap (λ n. shown_as was n ys) none
shown_as-append was from_ (x ∷ xs) ys =
    let next : (from_ + 1) + length xs ≡ from_ + suc (length xs) = omega arith in
    ap (λ l. record x { shown = was from_ } ∷ l) (shown_as-append was (from_ + 1) xs ys ∙ ap (λ n. shown_as was (from_ + 1) xs ++ shown_as was n ys) next)

length-shown_as : (was : ℕ → Bool) (from_ : ℕ) (xs : List Entry) → length (shown_as was from_ xs) ≡ length xs
length-shown_as was from_ [] = refl
length-shown_as was from_ (x ∷ xs) = ap suc (length-shown_as was (from_ + 1) xs)

-- those before a place are put back, and the others aren't yet
abbrev pub shown_upto : (ℕ → Bool) → List Entry → ℕ → List Entry
shown_upto was xs i = shown_as was 0 (take i xs) ++ drop i xs

upto_length : (was : ℕ → Bool) (xs items : List Entry) (i : ℕ) → i ≤ length items → items ≡ shown_upto was xs i → length items ≡ length xs
upto_length was xs items i within is =
    omega (arith, ap length is, length-append (shown_as was 0 (take i xs)) (drop i xs), length-shown_as was 0 (take i xs), length-take i xs, length-drop i xs)

pub shown_more : (was : ℕ → Bool) (xs items : List Entry) (i : ℕ) (x y : Entry) → i < length items → items ≡ shown_upto was xs i → x ≡ get_or items i x
    → y ≡ record x { shown = was i } → slice_set items i y ≡ shown_upto was xs (i + 1)
shown_more was xs items i x y within is at made =
    let sizes : length items ≡ length xs = upto_length was xs items i (omega arith) is in
    let inside : i < length xs = omega arith in
    let taken : length (take i xs) ≡ i = omega (arith, length-take i xs) in
    let front : length (shown_as was 0 (take i xs)) ≡ i = omega (arith, length-shown_as was 0 (take i xs)) in
    let whole : items ≡ shown_as was 0 (take i xs) ++ get_or xs i x ∷ drop (i + 1) xs = is ∙ ap (λ l. shown_as was 0 (take i xs) ++ l) (drop_more xs i x inside) in
    let same : x ≡ get_or xs i x = at ∙ ap (λ l. get_or l i x) whole ∙ get_or_at (shown_as was 0 (take i xs)) (get_or xs i x) (drop (i + 1) xs) x i front in
    let next : 0 + length (take i xs) ≡ i = omega arith in
    ap (λ l. slice_set l i y) whole ∙ set_at (shown_as was 0 (take i xs)) (get_or xs i x) (drop (i + 1) xs) y i front
    ∙ ap (λ z. shown_as was 0 (take i xs) ++ z ∷ drop (i + 1) xs) (made ∙ ap (λ (e : Entry). let back : Entry = record e { shown = was i } in back) same)
    ∙ sym (append_assoc (shown_as was 0 (take i xs)) (record (get_or xs i x) { shown = was i } ∷ []) (drop (i + 1) xs))
    ∙ ap (λ l. l ++ drop (i + 1) xs)
    (sym (ap (shown_as was 0) (take_more xs i x inside) ∙ shown_as-append was 0 (take i xs) (get_or xs i x ∷ [])
    ∙ ap (λ n. shown_as was 0 (take i xs) ++ record (get_or xs i x) { shown = was n } ∷ []) next))
