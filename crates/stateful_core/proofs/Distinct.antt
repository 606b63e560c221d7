-- When no two cells are of one node, key and window, and how an index tells it.
use Rattle.std.proofs.Common.{◌≡◌, ℕ, zero, suc, ◌+◌, ◌<◌, ◌≤◌, Bool, true, false, cond, List, [], ◌∷◌, ◌++◌, length, take, drop, get_or, Option, Some}
use Rattle.std.proofs.Common.{None, refl, sym, ap, subst, ◌∙◌, arith}
use Rattle.std.specs.Prelude.{count_by, ◌||◌}
use Rattle.std.specs.BTreeMap as tree
use Rattle.std.specs.BTreeMap.{BTreeMap}
use Rattle.std.specs.List.{All, list_any}
use Rattle.std.specs.Option.{is_some}
use Rattle.std.proofs.lemmas.List.{map-append, take_all, take_more}
use Rattle.std.proofs.lemmas.List.Elements.{All-cons, All-head, All-nil, All-tail}
use Rattle.beam_values.specs.Intervals.{Interval}
use Rattle.beam_values.specs.declared.log.KeyLog.{KeyLog}
use Rattle.beam_values.specs.declared.value.Value.{Value}
use Rattle.beam_model.specs.Logs.{is_log_of}
use Rattle.cell_index.specs.Indexes.{cell_key_cmp}
use Rattle.cell_index.specs.declared.index_key.CellKey.{CellKey}
use Rattle.cell_index.proofs.Indexing.{same_place}
use Rattle.stateful_core.specs.Cells.{KeyCell, is_cell_of, logs_of}
use Rattle.stateful_core.specs.Data.{cell_of_data, cells_of_data}
use Rattle.stateful_core.specs.Facts.{AreOnce}
use Rattle.stateful_core.specs.Names.{is_name, name_of, names_of}
use Rattle.stateful_core.specs.declared.data.KeyData.{KeyData}
use Rattle.stateful_core.proofs.OnceOnly.{counted, log_told, own_log}
use Rattle.stateful_core.proofs.OpenFirst.{any_append}

-- whether a cell is of the node, key and window of this one
abbrev pub is_like : KeyCell → KeyCell → Bool
is_like cell other = is_cell_of cell.log.node cell.log.key cell.log.span other

abbrev pub AreUnlike : KeyCell → List KeyCell → Type 0
AreUnlike cell cells = All (λ other. is_like cell other ≡ false) cells

not_true : (b : Bool) → (b ≡ true → ⊥) → b ≡ false
not_true true h = absurd (h refl)
not_true false h = refl

counted_if : (b : Bool) → b ≡ true → cond {A = ℕ} b 1 0 ≡ 1
counted_if b e = ap (λ (x : Bool). cond {A = ℕ} x 1 0) e

not_counted : (b : Bool) → b ≡ false → cond {A = ℕ} b 1 0 ≡ 0
not_counted b e = ap (λ (x : Bool). cond {A = ℕ} x 1 0) e

-- one of its own is among them
counts_own : (p : KeyLog → Bool) (cells more : List KeyCell) (cell : KeyCell) → p cell.log ≡ true → 1 ≤ count_by p (logs_of (cells ++ cell ∷ more))
counts_own p [] more cell e = omega (arith, counted p cell.log (logs_of more), counted_if (p cell.log) e)
counts_own p (c ∷ cells) more cell e = omega (arith, counted p c.log (logs_of (cells ++ cell ∷ more)), counts_own p cells more cell e)

own : (cell : KeyCell) → is_log_of cell.log.node cell.log.key cell.log.span cell.log ≡ true
own cell = own_log cell.log.node cell.log.key cell.log.span cell.log refl refl refl

pub apart_of : (cells more : List KeyCell) (cell : KeyCell) → AreOnce (cells ++ cell ∷ more) → AreUnlike cell cells
apart_of [] more cell once = All-nil (λ other. is_like cell other ≡ false)
apart_of (c ∷ cells) more cell once = All-cons (λ other. is_like cell other ≡ false) c cells
    (not_true (is_like cell c)
    (λ e.
    let few = once cell.log.node cell.log.key cell.log.span in
    omega (arith, few, counted test c.log (logs_of (cells ++ cell ∷ more)), counted_if (test c.log) e, counts_own test cells more cell (own cell))))
    (apart_of cells more cell (λ node key span. omega (arith, once node key span, counted (is_log_of node key span) c.log (logs_of (cells ++ cell ∷ more)))))
  where
    test : KeyLog → Bool
    test log = is_log_of cell.log.node cell.log.key cell.log.span log

-- ---- one more, which is like no other

count_pushed : (p : KeyLog → Bool) (cells : List KeyCell) (cell : KeyCell)
    → count_by p (logs_of (cells ++ cell ∷ [])) ≡ count_by p (logs_of cells) + cond (p cell.log) 1 0
count_pushed p [] cell = omega (arith, counted p cell.log [])
count_pushed p (c ∷ cells) cell = omega (arith, counted p c.log (logs_of (cells ++ cell ∷ [])), counted p c.log (logs_of cells), count_pushed p cells cell)

alike : (node : ℕ) (key : Value) (span : Interval) (cell other : KeyCell) → is_log_of node key span cell.log ≡ true
    → is_log_of node key span other.log ≡ true → is_like cell other ≡ true
alike node key span cell other e f =
    let a = log_told node key span cell.log e in
    let b = log_told node key span other.log f in
    own_log cell.log.node cell.log.key cell.log.span other.log (b.node_is ∙ sym a.node_is) (b.key_is ∙ sym a.key_is) (b.span_is ∙ sym a.span_is)

none_counted : (node : ℕ) (key : Value) (span : Interval) (cells : List KeyCell) (cell : KeyCell) → is_log_of node key span cell.log ≡ true
    → AreUnlike cell cells
    → count_by (is_log_of node key span) (logs_of cells) ≡ 0
none_counted node key span [] cell e h = refl
none_counted node key span (c ∷ cells) cell e h =
    let first = not_true (is_log_of node key span c.log) (λ f. unlike (is_like cell c) (alike node key span cell c e f)
    (All-head (λ other. is_like cell other ≡ false) c cells h)) in
    let rest = none_counted node key span cells cell e (All-tail (λ other. is_like cell other ≡ false) c cells h) in
    omega (arith, counted (is_log_of node key span) c.log (logs_of cells), not_counted (is_log_of node key span c.log) first, rest)
  where
    unlike : (b : Bool) → b ≡ true → b ≡ false → ⊥
    unlike b f g = cc

pub once_pushed : (cells : List KeyCell) (cell : KeyCell) → AreOnce cells → AreUnlike cell cells → AreOnce (cells ++ cell ∷ [])
once_pushed cells cell once h node key span = by (is_log_of node key span cell.log) refl
  where
    by : (b : Bool) → is_log_of node key span cell.log ≡ b → count_by (is_log_of node key span) (logs_of (cells ++ cell ∷ [])) ≤ 1
    by true e =
        omega (
          arith,
          count_pushed (is_log_of node key span) cells cell,
          counted_if (is_log_of node key span cell.log) e,
          none_counted node key span cells cell e h,
        )
    by false e = omega (arith, count_pushed (is_log_of node key span) cells cell, not_counted (is_log_of node key span cell.log) e, once node key span)

pub once_none : AreOnce []
once_none node key span = omega arith

-- ---- an index that has a number for each name

abbrev is_any_of : CellKey → List KeyCell → Bool
is_any_of wanted cells = list_any (is_name wanted) (names_of cells)

abbrev number_if : Bool → Option ℕ
number_if told = cond told (Some 0) None

pub record AreNoted (places : BTreeMap CellKey ℕ) (cells : List KeyCell) : Type 0 where
  pub finds : (wanted : CellKey) → tree.get cell_key_cmp places wanted ≡ number_if (is_any_of wanted cells)

pub noted_none : (places : BTreeMap CellKey ℕ) → ((wanted : CellKey) → tree.get cell_key_cmp places wanted ≡ None) → AreNoted places []
noted_none places h = record { finds = h }

pub noted_more : (old new : BTreeMap CellKey ℕ) (cells : List KeyCell) (cell : KeyCell) → tree.Updates cell_key_cmp old new (name_of cell) (Some 0)
    → AreNoted old cells
    → AreNoted new (cells ++ cell ∷ [])
noted_more old new cells cell updates h = record {
  finds = λ wanted.
      updates.0 wanted
      ∙ ap (λ b. cond {A = Option ℕ} b (Some 0) (tree.get cell_key_cmp old wanted)) (same_place (name_of cell) wanted)
      ∙ ap (λ o. cond {A = Option ℕ} (is_name wanted (name_of cell)) (Some 0) o) (h.finds wanted)
      ∙ joined (is_any_of wanted cells) (is_name wanted (name_of cell))
      ∙ ap number_if (sym (ap (list_any (is_name wanted)) (map-append name_of cells (cell ∷ []))
      ∙ any_append (is_name wanted) (names_of cells) (name_of cell ∷ [])));
}
  where
    joined : (a b : Bool) → cond {A = Option ℕ} b (Some 0) (number_if a) ≡ number_if (a || (b || false))
    joined true true = refl
    joined true false = refl
    joined false true = refl
    joined false false = refl

neither : (a b : Bool) → (a || b) ≡ false → (a ≡ false) × (b ≡ false)
neither true b e = absurd (cc)
neither false b e = (refl, e)

unlike_any : (cell : KeyCell) (cells : List KeyCell) → is_any_of (name_of cell) cells ≡ false → AreUnlike cell cells
unlike_any cell [] e = All-nil (λ other. is_like cell other ≡ false)
unlike_any cell (c ∷ cells) e =
    let parts = neither (is_like cell c) (is_any_of (name_of cell) cells) e in
    All-cons (λ other. is_like cell other ≡ false) c cells parts.0 (unlike_any cell cells parts.1)

any_unlike : (cell : KeyCell) (cells : List KeyCell) → AreUnlike cell cells → is_any_of (name_of cell) cells ≡ false
any_unlike cell [] h = refl
any_unlike cell (c ∷ cells) h =
    ap (λ b. b || is_any_of (name_of cell) cells) (All-head (λ other. is_like cell other ≡ false) c cells h)
    ∙ any_unlike cell cells (All-tail (λ other. is_like cell other ≡ false) c cells h)

pub unlike_found : (places : BTreeMap CellKey ℕ) (cells : List KeyCell) (cell : KeyCell) → AreNoted places cells
    → tree.get cell_key_cmp places (name_of cell) ≡ None → AreUnlike cell cells
unlike_found places cells cell h e = unlike_any cell cells (by (is_any_of (name_of cell) cells) (sym (h.finds (name_of cell)) ∙ e))
  where
    by : (b : Bool) → number_if b ≡ None → b ≡ false
    by true f = absurd (cc)
    by false f = refl

pub twice_found : (places : BTreeMap CellKey ℕ) (cells more : List KeyCell) (cell : KeyCell) (number : ℕ) → AreNoted places cells
    → tree.get cell_key_cmp places (name_of cell) ≡ Some number → AreOnce (cells ++ cell ∷ more) → ⊥
twice_found places cells more cell number h e once =
    by (is_any_of (name_of cell) cells) (sym (h.finds (name_of cell)) ∙ e) (any_unlike cell cells (apart_of cells more cell once))
  where
    by : (b : Bool) → number_if b ≡ Some number → b ≡ false → ⊥
    by b f g =
        let none : None ≡ Some number = ap number_if (sym g) ∙ f in cc

-- ---- of data

pub split_data : (keys : List KeyData) (i : ℕ) (d : KeyData) → i < length keys
    → cells_of_data keys ≡ cells_of_data (take i keys) ++ cell_of_data (get_or keys i d) ∷ cells_of_data (drop (suc i) keys)
split_data [] i d less = absurd (omega arith)
split_data (k ∷ keys) zero d less = refl
split_data (k ∷ keys) (suc i) d less = ap (λ l. cell_of_data k ∷ l) (split_data keys i d (omega arith))

-- a key is apart from those before it
pub next_apart : (keys yielded left rest : List KeyData) (own : KeyData) (cells : List KeyCell) → keys ≡ yielded ++ left → left ≡ own ∷ rest
    → cells ≡ cells_of_data yielded
    → AreOnce (cells_of_data keys) → AreUnlike (cell_of_data own) cells
next_apart keys yielded left rest own cells whole steps is once =
    subst (AreUnlike (cell_of_data own)) (sym is)
    (apart_of (cells_of_data yielded) (cells_of_data rest) (cell_of_data own)
    (subst AreOnce (ap cells_of_data (whole ∙ ap (λ l. yielded ++ l) steps) ∙ map-append cell_of_data yielded (own ∷ rest)) once))

module _ (keys : List KeyData) (i : ℕ) (own : KeyData) (name : CellKey) (less : i < length keys) (read : own ≡ get_or keys i own)
    (named : name ≡ name_of (cell_of_data own)) where
  data_more : cells_of_data (take (i + 1) keys) ≡ cells_of_data (take i keys) ++ cell_of_data own ∷ []
  data_more =
      ap cells_of_data (take_more keys i own less) ∙ map-append cell_of_data (take i keys) (get_or keys i own ∷ [])
      ∙ ap (λ (k : KeyData). cells_of_data (take i keys) ++ cell_of_data k ∷ []) (sym read)

  pub noted_key : (old new : BTreeMap CellKey ℕ) → tree.Updates cell_key_cmp old new name (Some 0) → AreNoted old (cells_of_data (take i keys))
      → AreNoted new (cells_of_data (take (i + 1) keys))
  noted_key old new updates h =
      subst (AreNoted new) (sym data_more)
      (noted_more old new (cells_of_data (take i keys)) (cell_of_data own)
      (subst (λ (n : CellKey). tree.Updates cell_key_cmp old new n (Some 0)) named updates) h)

  pub once_key : (places : BTreeMap CellKey ℕ) (found : Option ℕ) → found ≡ tree.get cell_key_cmp places name → is_some found ≡ false
      → AreNoted places (cells_of_data (take i keys))
      → AreOnce (cells_of_data (take i keys)) → AreOnce (cells_of_data (take (i + 1) keys))
  once_key places found is none h once =
      subst AreOnce (sym data_more)
      (once_pushed (cells_of_data (take i keys)) (cell_of_data own) once
      (unlike_found places (cells_of_data (take i keys)) (cell_of_data own) h (ap (tree.get cell_key_cmp places) (sym named) ∙ sym is ∙ no_number found none)))
    where
      no_number : (o : Option ℕ) → is_some o ≡ false → o ≡ None
      no_number None e = refl
      no_number (Some n) e = absurd (cc)

  pub twice_key : (places : BTreeMap CellKey ℕ) (found : Option ℕ) → found ≡ tree.get cell_key_cmp places name → is_some found ≡ true
      → AreNoted places (cells_of_data (take i keys))
      → AreOnce (cells_of_data keys) → ⊥
  twice_key places found is some h once =
      by found refl some
    where
      whole : cells_of_data keys ≡ cells_of_data (take i keys) ++ cell_of_data own ∷ cells_of_data (drop (suc i) keys)
      whole = split_data keys i own less ∙ ap (λ (k : KeyData). cells_of_data (take i keys) ++ cell_of_data k ∷ cells_of_data (drop (suc i) keys)) (sym read)

      by : (o : Option ℕ) → found ≡ o → is_some o ≡ true → ⊥
      by None e f = absurd (cc)
      by (Some n) e f =
          twice_found places (cells_of_data (take i keys)) (cells_of_data (drop (suc i) keys)) (cell_of_data own) n h
          (ap (tree.get cell_key_cmp places) (sym named) ∙ sym is ∙ e) (subst AreOnce whole once)

pub once_all : (keys : List KeyData) (i : ℕ) → length keys ≤ i → AreOnce (cells_of_data (take i keys)) → AreOnce (cells_of_data keys)
once_all keys i past once = subst (λ (l : List KeyData). AreOnce (cells_of_data l)) (take_all i keys past) once
