-- Which cell is worked next, and that nothing is left where none is.
use Rattle.std.proofs.Common.{◌≡◌, ℕ, zero, suc, ◌+◌, ◌<◌, ◌≤◌, Bool, true, false, List, [], ◌∷◌, ◌++◌, length, Option, Some, None, refl, sym, ap, subst, ◌∙◌, ◌⊎◌, inl, inr, arith, append_assoc}
use Rattle.std.specs.Prelude.{slice_get, nat_lt, fold}
use Rattle.std.specs.List.{enumerate_from}
use Rattle.std.specs.Option.{MatchOption}
use Rattle.std.proofs.lemmas.Bool.{cond_both, ltb-true, ltb-false, cases_lt}
use Rattle.std.proofs.lemmas.List.{length-append, append-nil}
use Rattle.std.proofs.lemmas.Option.{slice_get_within}
use Rattle.beam_values.specs.declared.marks.StageMarks.{StageMarks}
use Rattle.stateful_core.specs.Cells.{KeyCell}
use Rattle.stateful_core.specs.declared.place.Place.{Place}
use Rattle.stateful_core.specs.Taking.{is_ready, sooner, or_sooner, next_place, IsFirstReady}

-- ---- one item more

pub got_before : {X : Type 0} (xs : List X) (x y : X) (i : ℕ) → slice_get xs i ≡ Some y → slice_get (xs ++ x ∷ []) i ≡ Some y
got_before [] x y i e = absurd (cc)
got_before (z ∷ xs) x y zero e = e
got_before (z ∷ xs) x y (suc i) e = got_before xs x y i e

pub got_last : {X : Type 0} (xs : List X) (x : X) → slice_get (xs ++ x ∷ []) (length xs) ≡ Some x
got_last [] x = refl
got_last (z ∷ xs) x = got_last xs x

pub got_cases : {X : Type 0} (xs : List X) (x y : X) (i : ℕ) → slice_get (xs ++ x ∷ []) i ≡ Some y → (slice_get xs i ≡ Some y) ⊎ ((i ≡ length xs) × (x ≡ y))
got_cases [] x y zero e = inr (refl, cc)
got_cases [] x y (suc i) e = absurd (cc)
got_cases (z ∷ xs) x y zero e = inl e
got_cases (z ∷ xs) x y (suc i) e = elim (got_cases xs x y i e) [ inl h ↦ inl h | inr h ↦ inr (ap suc h.0, h.1) ]

module _ (marks : List StageMarks) where
  -- of the cells so far
  abbrev IsNoneReady : List KeyCell → Type 0
  IsNoneReady cells = (at : ℕ) (other : KeyCell) → slice_get cells at ≡ Some other → is_ready marks other ≡ false

  abbrev IsBest : List KeyCell → Option Place → Type 0
  IsBest cells best = MatchOption best (IsNoneReady cells) (IsFirstReady marks cells)

  not_both : (b : Bool) → b ≡ true → b ≡ false → ⊥
  not_both b e f = cc

  -- a cell that isn't ready changes nothing
  passed : (cells : List KeyCell) (cell : KeyCell) (best : Option Place) → is_ready marks cell ≡ false → IsBest cells best → IsBest (cells ++ cell ∷ []) best
  passed cells cell None off h = λ at other e. elim (got_cases cells cell other at e) [ inl f ↦ h at other f | inr f ↦ ap (is_ready marks) (sym f.1) ∙ off ]
  passed cells cell (Some place) off h = record {
    cell = h.cell;
    is_at = got_before cells cell h.cell place.at h.is_at;
    ready = h.ready;
    node_is = h.node_is;
    first = λ at other e on. elim (got_cases cells cell other at e) [
      | inl f ↦ h.first at other f on
      | inr f ↦ absurd (not_both (is_ready marks other) on (ap (is_ready marks) (sym f.1) ∙ off))
    ];
  }

  abbrev last_place : List KeyCell → KeyCell → Place
  last_place cells cell = record { at = length cells; node = cell.log.node }

  -- a ready cell is the first of all
  alone : (cells : List KeyCell) (cell : KeyCell) → is_ready marks cell ≡ true
      → ((at : ℕ) (other : KeyCell) → slice_get cells at ≡ Some other → is_ready marks other ≡ true → cell.log.node < other.log.node)
      → IsFirstReady marks (cells ++ cell ∷ []) (last_place cells cell)
  alone cells cell on above = record {
    cell = cell;
    is_at = got_last cells cell;
    ready = on;
    node_is = refl;
    first = λ at other e ready. elim (got_cases cells cell other at e) [
      | inl f ↦ inl (above at other f ready)
      | inr f ↦ inr (ap (λ (c : KeyCell). c.log.node) f.1, omega (arith, f.0))
    ];
  }

  -- a ready cell of no lower node comes behind
  behind : (cells : List KeyCell) (cell : KeyCell) (place : Place) → place.node ≤ cell.log.node → IsFirstReady marks cells place → IsFirstReady marks (cells ++ cell ∷ []) place
  behind cells cell place low h = record {
    cell = h.cell;
    is_at = got_before cells cell h.cell place.at h.is_at;
    ready = h.ready;
    node_is = h.node_is;
    first = λ at other e on. elim (got_cases cells cell other at e) [ inl f ↦ h.first at other f on | inr f ↦ by other at f.0 (ap (λ (c : KeyCell). c.log.node) f.1) ];
  }
    where
      inside : place.at < length cells
      inside = slice_get_within cells place.at h.cell h.is_at

      by : (other : KeyCell) (at : ℕ) → at ≡ length cells → cell.log.node ≡ other.log.node → (place.node < other.log.node) ⊎ ((place.node ≡ other.log.node) × (place.at ≤ at))
      by other at e f = elim (cases_lt place.node other.log.node) [ inl lt ↦ inl lt | inr ge ↦ inr (omega (arith, low, f, ge), omega (arith, e, inside)) ]

  lower_first : (node : ℕ) (place : Place) (other : KeyCell) (at : ℕ) → node < place.node → (place.node < other.log.node) ⊎ ((place.node ≡ other.log.node) × (place.at ≤ at)) → node < other.log.node
  lower_first node place other at lt (inl h) = omega (arith, lt, h)
  lower_first node place other at lt (inr h) = omega (arith, lt, h.0)

  joined : (cells : List KeyCell) (cell : KeyCell) (best : Option Place) → is_ready marks cell ≡ true → IsBest cells best → IsBest (cells ++ cell ∷ []) (sooner best (last_place cells cell))
  joined cells cell None on h = alone cells cell on (λ at other e ready. absurd (not_both (is_ready marks other) ready (h at other e)))
  joined cells cell (Some place) on h =
      cond_both (nat_lt cell.log.node place.node) (Some (last_place cells cell)) (Some place) (IsBest (cells ++ cell ∷ []))
      (λ lt. alone cells cell on (λ at other e ready. lower_first cell.log.node place other at (ltb-true cell.log.node place.node lt) (h.first at other e ready)))
      (λ ge. behind cells cell place (ltb-false cell.log.node place.node ge) h)

  pub one_more : (cells : List KeyCell) (cell : KeyCell) (best : Option Place) → IsBest cells best → IsBest (cells ++ cell ∷ []) (or_sooner marks best (length cells, cell))
  one_more cells cell best h =
      cond_both (is_ready marks cell) (sooner best (last_place cells cell)) best (IsBest (cells ++ cell ∷ [])) (λ on. joined cells cell best on h) (λ off. passed cells cell best off h)

  along : (before cells : List KeyCell) (k : ℕ) (best : Option Place) → length before ≡ k → IsBest before best → IsBest (before ++ cells) (fold (or_sooner marks) best (enumerate_from k cells))
  along before [] k best e h = subst (λ (l : List KeyCell). IsBest l best) (sym (append-nil before)) h
  along before (cell ∷ cells) k best e h =
      let here : IsBest (before ++ cell ∷ []) (or_sooner marks best (k, cell)) =
      subst (λ (n : ℕ). IsBest (before ++ cell ∷ []) (or_sooner marks best (n, cell))) e (one_more before cell best h) in
      subst (λ (l : List KeyCell). IsBest l (fold (or_sooner marks) (or_sooner marks best (k, cell)) (enumerate_from (k + 1) cells))) (append_assoc before (cell ∷ []) cells)
      (along (before ++ cell ∷ []) cells (k + 1) (or_sooner marks best (k, cell)) (omega (arith, e, length-append before (cell ∷ []))) here)

  pub next_is : (cells : List KeyCell) → IsBest cells (next_place marks cells)
  next_is cells = along [] cells 0 None refl (λ at other e. absurd (cc))

  pub next_found : (cells : List KeyCell) (place : Place) → next_place marks cells ≡ Some place → IsFirstReady marks cells place
  next_found cells place e = subst (IsBest cells) e (next_is cells)

  pub next_none : (cells : List KeyCell) → next_place marks cells ≡ None → (at : ℕ) (other : KeyCell) → slice_get cells at ≡ Some other → is_ready marks other ≡ false
  next_none cells e = subst (IsBest cells) e (next_is cells)
