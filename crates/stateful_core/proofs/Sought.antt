-- The number of a cell that is looked for by what it is of.
use Rattle.std.proofs.Common.{◌≡◌, ℕ, zero, suc, Bool, true, false, List, [], ◌∷◌, Option, Some, None, refl, sym, ap, ◌∙◌}
use Rattle.std.specs.Prelude.{slice_get}
use Rattle.std.specs.BTreeMap as tree
use Rattle.std.specs.BTreeMap.{BTreeMap}
use Rattle.std.specs.List.{position}
use Rattle.std.specs.Option.{option_map}
use Rattle.std.proofs.lemmas.Option.{same_Some, slice_get-map}
use Rattle.cell_index.specs.Indexes.{cell_key_cmp}
use Rattle.cell_index.specs.declared.index_key.CellKey.{CellKey}
use Rattle.cell_index.proofs.Indexing.{position_no, position_yes}
use Rattle.stateful_core.specs.Cells.{KeyCell, is_cell_of, number_of}
use Rattle.stateful_core.specs.Names.{AreFound, name_of, names_of}
use Rattle.stateful_core.specs.Routes.{is_cell_at, is_in}
use Rattle.stateful_core.proofs.ByIndex.{not_both}

abbrev cell_test : CellKey → KeyCell → Bool
cell_test wanted = is_cell_of wanted.node wanted.key wanted.span

abbrev test_at : CellKey → List KeyCell → ℕ → Bool
test_at wanted cells at = is_cell_at wanted.node wanted.key wanted.span cells at

record IsThere (wanted : CellKey) (cells : List KeyCell) (at : ℕ) : Type 0 where
  cell : KeyCell
  is_at : slice_get cells at ≡ Some cell
  own : cell_test wanted cell ≡ true

there : (wanted : CellKey) (cells : List KeyCell) (at : ℕ) → test_at wanted cells at ≡ true → IsThere wanted cells at
there wanted cells at e = by (slice_get cells at) refl e
  where
    by : (o : Option KeyCell) → slice_get cells at ≡ o → is_in wanted.node wanted.key wanted.span o ≡ true → IsThere wanted cells at
    by None f g = absurd (cc)
    by (Some cell) f g = record { cell = cell; is_at = f; own = g }

found_at : (places : BTreeMap CellKey ℕ) (cells : List KeyCell) (wanted : CellKey) (at : ℕ) → AreFound places (names_of cells) → test_at wanted cells at ≡ true
    → tree.get cell_key_cmp places wanted ≡ Some at
found_at places cells wanted at h e =
    let t = there wanted cells at e in
    h.finds wanted at (name_of t.cell) (slice_get-map name_of cells at ∙ ap (option_map name_of) t.is_at) t.own

-- ---- the first that passes

record IsFirst (p : KeyCell → Bool) (cells : List KeyCell) : Type 0 where
  at : ℕ
  number : position p cells ≡ Some at
  cell : KeyCell
  is_at : slice_get cells at ≡ Some cell
  own : p cell ≡ true

first_in : (p : KeyCell → Bool) (cells : List KeyCell) (at : ℕ) (cell : KeyCell) → slice_get cells at ≡ Some cell → p cell ≡ true → IsFirst p cells
first_in p [] at cell e own = absurd (cc)
first_in p (c ∷ cells) at cell e own = by (p c) refl at e (λ k f. first_in p cells k cell f own)
  where
    by : (b : Bool) → p c ≡ b → (i : ℕ) → slice_get (c ∷ cells) i ≡ Some cell → ((k : ℕ) → slice_get cells k ≡ Some cell → IsFirst p cells) → IsFirst p (c ∷ cells)
    by true f i g rest = record { at = 0; number = position_yes p c cells f; cell = c; is_at = refl; own = f }
    by false f zero g rest = absurd (not_both (p c) (ap p (same_Some c cell g) ∙ own) f)
    by false f (suc i) g rest =
        let r = rest i g in
        record { at = suc r.at; number = position_no p c cells f ∙ ap (option_map suc) r.number; cell = r.cell; is_at = r.is_at; own = r.own }

none_in : (p : KeyCell → Bool) (cells : List KeyCell) → ((at : ℕ) (cell : KeyCell) → slice_get cells at ≡ Some cell → p cell ≡ false) → position p cells ≡ None
none_in p [] h = refl
none_in p (c ∷ cells) h = position_no p c cells (h 0 c refl) ∙ ap (option_map suc) (none_in p cells (λ at cell e. h (suc at) cell e))

-- ---- by the index

pub number_there : (places : BTreeMap CellKey ℕ) (cells : List KeyCell) (wanted : CellKey) (at : ℕ) → AreFound places (names_of cells) → test_at wanted cells at ≡ true
    → Some at ≡ number_of wanted.node wanted.key wanted.span cells
number_there places cells wanted at h e =
    let t = there wanted cells at e in
    let r = first_in (cell_test wanted) cells at t.cell t.is_at t.own in
    sym (found_at places cells wanted at h e) ∙ found_at places cells wanted r.at h (ap (is_in wanted.node wanted.key wanted.span) r.is_at ∙ r.own) ∙ sym r.number

-- where the number to which the index leads isn't the cell's, there is no such cell
pub no_number : (places : BTreeMap CellKey ℕ) (cells : List KeyCell) (wanted : CellKey) → AreFound places (names_of cells)
    → ((at : ℕ) → tree.get cell_key_cmp places wanted ≡ Some at → test_at wanted cells at ≡ false) → None ≡ number_of wanted.node wanted.key wanted.span cells
no_number places cells wanted h other = sym (none_in (cell_test wanted) cells (λ at cell e. off at cell e (cell_test wanted cell) refl))
  where
    off : (at : ℕ) (cell : KeyCell) → slice_get cells at ≡ Some cell → (b : Bool) → cell_test wanted cell ≡ b → b ≡ false
    off at cell e false f = refl
    off at cell e true f =
        let on : test_at wanted cells at ≡ true = ap (is_in wanted.node wanted.key wanted.span) e ∙ f in
        absurd (not_both (test_at wanted cells at) on (other at (found_at places cells wanted at h on)))
