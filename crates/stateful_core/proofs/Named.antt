-- No step changes the node, key and window of a cell.
use Rattle.std.proofs.Common.{◌≡◌, ℕ, suc, ◌<◌, Bool, true, false, cond, List, [], ◌∷◌, ◌++◌, length, map, take, Option, Some, None, refl, sym, ap, subst, ◌∙◌, arith}
use Rattle.std.specs.Prelude.{slice_get}
use Rattle.std.specs.List.{filter}
use Rattle.std.specs.Option.{option_map}
use Rattle.std.proofs.lemmas.List.{append-nil, map-append}
use Rattle.std.proofs.lemmas.List.Elements.{All-cons, All-nil}
use Rattle.std.proofs.lemmas.Option.{same_Some}
use Rattle.std.specs.BTreeMap.{BTreeMap}
use Rattle.beam_values.specs.Nodes.{is_stateful}
use Rattle.beam_values.specs.declared.arrival.Arrival.{Arrival}
use Rattle.beam_values.specs.declared.marks.StageMarks.{StageMarks}
use Rattle.beam_values.specs.declared.plan.Plan.{Plan}
use Rattle.cell_index.specs.declared.index_key.CellKey.{CellKey}
use Rattle.cell_index.proofs.Indexing.{position_no, position_yes}
use Rattle.stateful_core.specs.Cells.{KeyCell, belongs}
use Rattle.stateful_core.specs.Names.{AreFound, AreRoutes, AreStored, arrival_name, is_name, name_of, names_of, number_in, routes_of}
use Rattle.stateful_core.specs.Opening.{IsCellAt, put_all, put_in, put_one}
use Rattle.stateful_core.specs.Placing.{Done, finish, set_done, waits, with_done, with_waiting}
use Rattle.stateful_core.specs.Seen.{cells_of}
use Rattle.stateful_core.specs.Taking.{change, set_by, tried, with_job}
use Rattle.stateful_core.specs.declared.slot.Slot.{Slot}
use Rattle.stateful_core.proofs.ByIndex.{found_front}
use Rattle.stateful_core.proofs.Came.{map_set_same}

names_change : (f : KeyCell → KeyCell) → ((cell : KeyCell) → name_of (f cell) ≡ name_of cell) → (at : ℕ) (cells : List KeyCell) → names_of (change f at cells) ≡ names_of cells
names_change f same at cells = by (slice_get cells at) refl
  where
    by : (found : Option KeyCell) → slice_get cells at ≡ found → names_of (set_by f found at cells) ≡ names_of cells
    by None e = refl
    by (Some cell) e = map_set_same name_of cells at cell (f cell) e (same cell)

pub names_finish : (before : List StageMarks) (done : Option Done) (cells : List KeyCell) → names_of (finish before done cells) ≡ names_of cells
names_finish before None cells = refl
names_finish before (Some done) cells = by (slice_get cells done.cell) refl
  where
    by : (found : Option KeyCell) → slice_get cells done.cell ≡ found → names_of (set_done before done found cells) ≡ names_of cells
    by None e = refl
    by (Some cell) e = map_set_same name_of cells done.cell cell (with_done before done cell) e refl

names_in : (before : List StageMarks) (arrival : Arrival) (cells : List KeyCell) → names_of (put_in before arrival cells) ≡ names_of cells
names_in before arrival [] = refl
names_in before arrival (cell ∷ cells) = by (belongs arrival cell) (names_in before arrival cells)
  where
    by : (b : Bool) → names_of (put_in before arrival cells) ≡ names_of cells
        → names_of (cond b (with_waiting cell (waits before arrival) ∷ cells) (cell ∷ put_in before arrival cells)) ≡ name_of cell ∷ names_of cells
    by true h = refl
    by false h = ap (λ l. name_of cell ∷ l) h

pub names_one : (plan : Plan) (before : List StageMarks) (cells : List KeyCell) (arrival : Arrival) → names_of (put_one plan before cells arrival) ≡ names_of cells
names_one plan before cells arrival = by (is_stateful plan arrival.node) (names_in before arrival cells)
  where
    by : (b : Bool) → names_of (put_in before arrival cells) ≡ names_of cells → names_of (cond b (put_in before arrival cells) cells) ≡ names_of cells
    by true h = h
    by false h = refl

pub names_put : (plan : Plan) (before : List StageMarks) (arrivals : List Arrival) (cells : List KeyCell) → names_of (put_all plan before arrivals cells) ≡ names_of cells
names_put plan before [] cells = refl
names_put plan before (arrival ∷ arrivals) cells = names_put plan before arrivals (put_one plan before cells arrival) ∙ names_one plan before cells arrival

-- ---- what is stored stays found

pub stored_as : (places : BTreeMap CellKey ℕ) (slots after fresh : List Slot) → length after ≡ length slots → names_of (cells_of after) ≡ names_of (cells_of slots)
    → AreStored places slots fresh → AreStored places after fresh
stored_as places slots after fresh sized same h = record {
  few = omega (arith, sized, h.few);
  found = subst (AreFound places)
      (map-append name_of (cells_of slots) (cells_of fresh) ∙ ap (λ l. l ++ names_of (cells_of fresh)) (sym same) ∙ sym (map-append name_of (cells_of after) (cells_of fresh)))
      h.found;
}

pub stored_job : (places : BTreeMap CellKey ℕ) (slots after fresh : List Slot) (bundle at : ℕ) → length after ≡ length slots → cells_of after ≡ change (with_job bundle) at (cells_of slots)
    → AreStored places slots fresh → AreStored places after fresh
stored_job places slots after fresh bundle at sized is = stored_as places slots after fresh sized (ap names_of is ∙ names_change (with_job bundle) (λ cell. refl) at (cells_of slots))

pub stored_tried : (places : BTreeMap CellKey ℕ) (slots after fresh : List Slot) (at : ℕ) → length after ≡ length slots → cells_of after ≡ change tried at (cells_of slots)
    → AreStored places slots fresh → AreStored places after fresh
stored_tried places slots after fresh at sized is = stored_as places slots after fresh sized (ap names_of is ∙ names_change tried (λ cell. refl) at (cells_of slots))

-- ---- where a route leads

pub first_at : (arrival : Arrival) (cells : List KeyCell) (at : ℕ) → number_in (names_of cells) (arrival_name arrival) ≡ Some at → IsCellAt arrival cells at
first_at arrival [] at e = absurd (cc)
first_at arrival (c ∷ cells) at e = by (belongs arrival c) refl (number_in (names_of cells) (arrival_name arrival)) refl (λ k f. first_at arrival cells k f)
  where
    here : belongs arrival c ≡ true → at ≡ 0 → IsCellAt arrival (c ∷ cells) at
    here f z = subst (IsCellAt arrival (c ∷ cells)) (sym z) (record { cell = c; is_at = refl; own = f; before = All-nil (λ (x : KeyCell). belongs arrival x ≡ false) })

    there : belongs arrival c ≡ false → (k : ℕ) → at ≡ suc k → IsCellAt arrival cells k → IsCellAt arrival (c ∷ cells) at
    there f k z h = subst (IsCellAt arrival (c ∷ cells)) (sym z) (record {
      cell = h.cell;
      is_at = h.is_at;
      own = h.own;
      before = All-cons (λ (x : KeyCell). belongs arrival x ≡ false) c (take k cells) f h.before;
    })

    by : (b : Bool) → belongs arrival c ≡ b → (o : Option ℕ) → number_in (names_of cells) (arrival_name arrival) ≡ o
        → ((k : ℕ) → number_in (names_of cells) (arrival_name arrival) ≡ Some k → IsCellAt arrival cells k) → IsCellAt arrival (c ∷ cells) at
    by true f o g rest = here f (same_Some at 0 (sym e ∙ position_yes (is_name (arrival_name arrival)) (name_of c) (names_of cells) f))
    by false f None g rest = absurd (none (sym e ∙ position_no (is_name (arrival_name arrival)) (name_of c) (names_of cells) f ∙ ap (option_map suc) g))
      where
        none : Some at ≡ None → ⊥
        none h = cc
    by false f (Some k) g rest =
        there f k (same_Some at (suc k) (sym e ∙ position_no (is_name (arrival_name arrival)) (name_of c) (names_of cells) f ∙ ap (option_map suc) g)) (rest k g)

module _ (plan : Plan) (names : List CellKey) (arrival : Arrival) (rest : List Arrival) where
  rest_are : is_stateful plan arrival.node ≡ true → routes_of plan names (arrival ∷ rest) ≡ number_in names (arrival_name arrival) ∷ routes_of plan names rest
  rest_are on = ap (λ b. map (λ a. number_in names (arrival_name a)) (cond b (arrival ∷ filter (λ a. is_stateful plan a.node) rest) (filter (λ a. is_stateful plan a.node) rest))) on

  rest_same : is_stateful plan arrival.node ≡ false → routes_of plan names (arrival ∷ rest) ≡ routes_of plan names rest
  rest_same off = ap (λ b. map (λ a. number_in names (arrival_name a)) (cond b (arrival ∷ filter (λ a. is_stateful plan a.node) rest) (filter (λ a. is_stateful plan a.node) rest))) off

  -- a route is there for an arrival at a Stateful node
  pub has_route : (routes : List ℕ) → is_stateful plan arrival.node ≡ true → AreRoutes plan names (arrival ∷ rest) routes → routes ≡ [] → ⊥
  has_route routes on h none =
      let e : [] ≡ number_in names (arrival_name arrival) ∷ routes_of plan names rest = ap (map (λ r. Some r)) (sym none) ∙ h.are ∙ rest_are on in cc

  pub own_route : (at : ℕ) (routes popped : List ℕ) → is_stateful plan arrival.node ≡ true → AreRoutes plan names (arrival ∷ rest) routes → routes ≡ at ∷ popped
      → number_in names (arrival_name arrival) ≡ Some at
  own_route at routes popped on h is =
      let e : Some at ∷ map (λ r. Some r) popped ≡ number_in names (arrival_name arrival) ∷ routes_of plan names rest = ap (map (λ r. Some r)) (sym is) ∙ h.are ∙ rest_are on in cc

  pub rest_routes : (at : ℕ) (routes popped : List ℕ) → is_stateful plan arrival.node ≡ true → AreRoutes plan names (arrival ∷ rest) routes → routes ≡ at ∷ popped → AreRoutes plan names rest popped
  rest_routes at routes popped on h is =
      let e : Some at ∷ map (λ r. Some r) popped ≡ number_in names (arrival_name arrival) ∷ routes_of plan names rest = ap (map (λ r. Some r)) (sym is) ∙ h.are ∙ rest_are on in
      record { are = cc }

  pub past_routes : (routes : List ℕ) → is_stateful plan arrival.node ≡ false → AreRoutes plan names (arrival ∷ rest) routes → AreRoutes plan names rest routes
  past_routes routes off h = record { are = h.are ∙ rest_same off }

-- ---- what stands, with and without new cells

pub bare : (places : BTreeMap CellKey ℕ) (slots fresh : List Slot) → AreStored places slots fresh → AreFound places (names_of (cells_of slots))
bare places slots fresh h =
    found_front places (names_of (cells_of slots)) (names_of (cells_of fresh)) (subst (AreFound places) (map-append name_of (cells_of slots) (cells_of fresh)) h.found)

pub stored_bare : (places : BTreeMap CellKey ℕ) (slots fresh : List Slot) → fresh ≡ [] → length slots < 4294967296 → AreFound places (names_of (cells_of slots)) → AreStored places slots fresh
stored_bare places slots fresh none few found = record {
  few = few;
  found = subst (AreFound places) (sym (ap names_of (ap (λ (l : List Slot). cells_of slots ++ cells_of l) none ∙ append-nil (cells_of slots)))) found;
}

pub found_as : (places : BTreeMap CellKey ℕ) (slots after : List Slot) → cells_of after ≡ cells_of slots → AreFound places (names_of (cells_of slots)) → AreFound places (names_of (cells_of after))
found_as places slots after same h = subst (λ (l : List KeyCell). AreFound places (names_of l)) (sym same) h

pub stored_with : (places : BTreeMap CellKey ℕ) (slots after fresh opened : List Slot) → cells_of after ≡ cells_of slots → cells_of opened ≡ cells_of fresh → length after < 4294967296
    → AreFound places (names_of (cells_of slots ++ cells_of fresh)) → AreStored places after opened
stored_with places slots after fresh opened same new few found = record {
  few = few;
  found = subst (λ (l : List KeyCell). AreFound places (names_of l)) (λ i. sym same i ++ sym new i) found;
}
