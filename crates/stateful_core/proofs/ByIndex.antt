-- How an arrival finds its cell by the index, and how the index follows the cells.
use Rattle.std.proofs.Common.{◌≡◌, ℕ, zero, suc, ◌+◌, ◌<◌, ◌≤◌, ◌==◌, ◌&&◌, ℤ, Bool, true, false, cond, List, [], ◌∷◌, ◌++◌, length, map, get_or, Option, Some, None, Result, Ok, Err, refl, sym, ap, subst, ◌∙◌, inl, inr, arith, append_assoc}
use Rattle.std.specs.Prelude.{slice_get, ◌||◌, not, IfOk, OnErr}
use Rattle.std.specs.BTreeMap as tree
use Rattle.std.specs.BTreeMap.{BTreeMap}
use Rattle.std.specs.List.{filter}
use Rattle.std.specs.Map.{lookup}
use Rattle.std.specs.Option.{option_map, option_or}
use Rattle.std.specs.Ordering.{is_eq, int_eq}
use Rattle.std.specs.Str.{bytes_eq}
use Rattle.std.proofs.lemmas.Bool.Decides.{Decides-int_eq, Decides-eqb}
use Rattle.std.proofs.lemmas.List.{append-nil, length-append, length-map, map-append}
use Rattle.std.proofs.lemmas.List.Elements.{filter-append}
use Rattle.std.proofs.lemmas.Option.{same_Some, slice_get-get_or, slice_get-map, slice_get_past, slice_get_within}
use Rattle.std.proofs.lemmas.Slice.Eq.{bytes_eq-Decides}
use Rattle.beam_values.specs.Nodes.{is_stateful}
use Rattle.beam_values.specs.Spans.{same_span}
use Rattle.beam_values.specs.Spelling.{spelling}
use Rattle.beam_values.specs.declared.arrival.Arrival.{Arrival}
use Rattle.beam_values.specs.declared.plan.Plan.{Plan}
use Rattle.cell_index.specs.Indexes.{cell_key_cmp}
use Rattle.cell_index.specs.declared.index_key.CellKey.{CellKey}
use Rattle.cell_index.proofs.Indexing.{place_pushed, position_no, position_yes, same_place}
use Rattle.stateful_core.specs.Cells.{KeyCell, belongs}
use Rattle.stateful_core.specs.Names.{AreFound, AreRoutes, arrival_name, is_name, name_of, names_of, number_in, routes_of}
use Rattle.stateful_core.specs.Opening.{fresh_one, is_any}
use Rattle.stateful_core.specs.Placing.{fresh_cell}
use Rattle.stateful_core.specs.Routes.{IsNumbered, belongs_at, belongs_to, opened_for}
use Rattle.stateful_core.specs.Seen.{cell_of, cells_of}
use Rattle.stateful_core.specs.declared.slot.Slot.{Slot}
use Rattle.stateful_core.proofs.Found.{any_at}
use Rattle.stateful_core.proofs.NextReady.{got_cases, got_last}
use Rattle.stateful_core.proofs.OnceOnly.{own_fresh}
use Rattle.stateful_core.proofs.OpenFirst.{any_append}

-- ---- two lists, one behind the other

pub got_front : {X : Type 0} (xs ys : List X) (at : ℕ) → at < length xs → slice_get (xs ++ ys) at ≡ slice_get xs at
got_front [] ys at h = absurd (omega arith)
got_front (x ∷ xs) ys zero h = refl
got_front (x ∷ xs) ys (suc at) h = got_front xs ys at (omega arith)

pub got_behind : {X : Type 0} (xs ys : List X) (k at : ℕ) → at ≡ length xs + k → slice_get (xs ++ ys) at ≡ slice_get ys k
got_behind [] ys k at e =
    let f : at ≡ k = omega (arith, e) in ap (slice_get ys) f
got_behind (x ∷ xs) ys k zero e = absurd (omega (arith, e))
got_behind (x ∷ xs) ys k (suc at) e = got_behind xs ys k at (omega (arith, e))

-- ---- names

both : (a b : Bool) → (a && b) ≡ true → (a ≡ true) × (b ≡ true)
both true b e = (refl, e)
both false b e = absurd (cc)

pub not_both : (b : Bool) → b ≡ true → b ≡ false → ⊥
not_both b e f = cc

abbrev named_by : CellKey → ℕ → List ℕ → ℤ → ℤ → Bool
named_by name node spelled start end = name.node == node && bytes_eq (spelling name.key) spelled && (int_eq name.span.start start && int_eq name.span.end end)

-- what is of one name has the same names
alike : (wanted x name : CellKey) → is_name wanted x ≡ true → is_name wanted name ≡ is_name x name
alike wanted x name e =
    let all = both (x.node == wanted.node && bytes_eq (spelling x.key) (spelling wanted.key)) (same_span x.span wanted.span) e in
    let keyed = both (x.node == wanted.node) (bytes_eq (spelling x.key) (spelling wanted.key)) all.0 in
    let ends = both (int_eq x.span.start wanted.span.start) (int_eq x.span.end wanted.span.end) all.1 in
    ap (λ n. named_by name n (spelling wanted.key) wanted.span.start wanted.span.end) (sym ((Decides-eqb x.node wanted.node).0 keyed.0))
    ∙ ap (λ s. named_by name x.node s wanted.span.start wanted.span.end) (sym ((bytes_eq-Decides (spelling x.key) (spelling wanted.key)).0 keyed.1))
    ∙ ap (λ t. named_by name x.node (spelling x.key) t wanted.span.end) (sym ((Decides-int_eq x.span.start wanted.span.start).0 ends.0))
    ∙ ap (λ t. named_by name x.node (spelling x.key) x.span.start t) (sym ((Decides-int_eq x.span.end wanted.span.end).0 ends.1))

-- ---- the index

pub found_front : (places : BTreeMap CellKey ℕ) (xs ys : List CellKey) → AreFound places (xs ++ ys) → AreFound places xs
found_front places xs ys h = record { finds = λ wanted at name e same. h.finds wanted at name (got_front xs ys at (slice_get_within xs at name e) ∙ e) same }

pub found_first : (places : BTreeMap CellKey ℕ) (cells more : List KeyCell) → AreFound places (names_of (cells ++ more)) → AreFound places (names_of cells)
found_first places cells more h = found_front places (names_of cells) (names_of more) (subst (AreFound places) (map-append name_of cells more) h)

pub found_unchanged : (old new : BTreeMap CellKey ℕ) (names : List CellKey) → tree.IsUnchanged old new → AreFound old names → AreFound new names
found_unchanged old new names same h = record {
  finds = λ wanted at name e is. ap (λ es. lookup (λ q. is_eq (cell_key_cmp wanted q)) es) same ∙ h.finds wanted at name e is;
}

-- one name more, which no other is
pub found_more : (old new : BTreeMap CellKey ℕ) (x : CellKey) (number : ℕ) (names : List CellKey) → tree.Updates cell_key_cmp old new x (Some number) → number ≡ length names
    → ((at : ℕ) (name : CellKey) → slice_get names at ≡ Some name → is_name x name ≡ false) → AreFound old names → AreFound new (names ++ x ∷ [])
found_more old new x number names updates behind apart h = record {
  finds = λ wanted at name e same. elim (got_cases names x name at e) [
    | inl f ↦ standing wanted at name f same (is_eq (cell_key_cmp x wanted)) refl
    | inr f ↦ own wanted at name f.0 f.1 same
  ];
}
  where
    standing : (wanted : CellKey) (at : ℕ) (name : CellKey) → slice_get names at ≡ Some name → is_name wanted name ≡ true → (t : Bool) → is_eq (cell_key_cmp x wanted) ≡ t
        → tree.get cell_key_cmp new wanted ≡ Some at
    standing wanted at name f same true e = absurd (not_both (is_name x name) (sym (alike wanted x name (sym (same_place x wanted) ∙ e)) ∙ same) (apart at name f))
    standing wanted at name f same false e = updates.0 wanted ∙ ap (λ b. cond {A = Option ℕ} b (Some number) (tree.get cell_key_cmp old wanted)) e ∙ h.finds wanted at name f same

    own : (wanted : CellKey) (at : ℕ) (name : CellKey) → at ≡ length names → x ≡ name → is_name wanted name ≡ true → tree.get cell_key_cmp new wanted ≡ Some at
    own wanted at name i f same =
        updates.0 wanted
        ∙ ap (λ b. cond {A = Option ℕ} b (Some number) (tree.get cell_key_cmp old wanted)) (same_place x wanted ∙ ap (is_name wanted) f ∙ same)
        ∙ ap (λ n. Some n) (behind ∙ sym i)

-- ---- the cell of an arrival

pub record IsOwn (arrival : Arrival) (cells : List KeyCell) (at : ℕ) : Type 0 where
  pub cell : KeyCell
  pub is_at : slice_get cells at ≡ Some cell
  pub own : belongs arrival cell ≡ true

own_at : (arrival : Arrival) (cells : List KeyCell) (at : ℕ) → belongs_at arrival cells at ≡ true → IsOwn arrival cells at
own_at arrival cells at e = by (slice_get cells at) refl e
  where
    by : (o : Option KeyCell) → slice_get cells at ≡ o → belongs_to arrival o ≡ true → IsOwn arrival cells at
    by None f g = absurd (cc)
    by (Some cell) f g = record { cell = cell; is_at = f; own = g }

at_own : (arrival : Arrival) (cells : List KeyCell) (at : ℕ) (cell : KeyCell) → slice_get cells at ≡ Some cell → belongs arrival cell ≡ true → belongs_at arrival cells at ≡ true
at_own arrival cells at cell e own = ap (belongs_to arrival) e ∙ own

found_number : (places : BTreeMap CellKey ℕ) (cells : List KeyCell) (arrival : Arrival) (at : ℕ) → AreFound places (names_of cells) → belongs_at arrival cells at ≡ true
    → tree.get cell_key_cmp places (arrival_name arrival) ≡ Some at
found_number places cells arrival at h e =
    let c = own_at arrival cells at e in
    h.finds (arrival_name arrival) at (name_of c.cell) (slice_get-map name_of cells at ∙ ap (option_map name_of) c.is_at) c.own

record IsFirst (arrival : Arrival) (cells : List KeyCell) : Type 0 where
  at : ℕ
  number : number_in (names_of cells) (arrival_name arrival) ≡ Some at
  own : belongs_at arrival cells at ≡ true

first_in : (arrival : Arrival) (cells : List KeyCell) (at : ℕ) (cell : KeyCell) → slice_get cells at ≡ Some cell → belongs arrival cell ≡ true → IsFirst arrival cells
first_in arrival [] at cell e own = absurd (cc)
first_in arrival (c ∷ cells) at cell e own = by (belongs arrival c) refl at e (λ k f. first_in arrival cells k cell f own)
  where
    by : (b : Bool) → belongs arrival c ≡ b → (i : ℕ) → slice_get (c ∷ cells) i ≡ Some cell → ((k : ℕ) → slice_get cells k ≡ Some cell → IsFirst arrival cells) → IsFirst arrival (c ∷ cells)
    by true f i g rest = record { at = 0; number = position_yes (is_name (arrival_name arrival)) (name_of c) (names_of cells) f; own = f }
    by false f zero g rest = absurd (not_both (belongs arrival c) (ap (belongs arrival) (same_Some c cell g) ∙ own) f)
    by false f (suc i) g rest =
        let r = rest i g in
        record {
          at = suc r.at;
          number = position_no (is_name (arrival_name arrival)) (name_of c) (names_of cells) f ∙ ap (option_map suc) r.number;
          own = r.own;
        }

pub number_is : (places : BTreeMap CellKey ℕ) (cells : List KeyCell) (arrival : Arrival) (at : ℕ) → AreFound places (names_of cells) → belongs_at arrival cells at ≡ true
    → number_in (names_of cells) (arrival_name arrival) ≡ Some at
number_is places cells arrival at h e =
    let c = own_at arrival cells at e in
    let r = first_in arrival cells at c.cell c.is_at c.own in
    r.number ∙ sym (found_number places cells arrival r.at h r.own) ∙ found_number places cells arrival at h e

any_place : (arrival : Arrival) (cells : List KeyCell) → is_any arrival cells ≡ true → (at : ℕ) × (belongs_at arrival cells at ≡ true)
any_place arrival [] e = absurd (cc)
any_place arrival (c ∷ cells) e = by (belongs arrival c) refl e (any_place arrival cells)
  where
    by : (b : Bool) → belongs arrival c ≡ b → (b || is_any arrival cells) ≡ true → (is_any arrival cells ≡ true → (at : ℕ) × (belongs_at arrival cells at ≡ true))
        → (at : ℕ) × (belongs_at arrival (c ∷ cells) at ≡ true)
    by true f g rest = (0, f)
    by false f g rest = let r = rest g in (suc r.0, r.1)

-- where the number that is found isn't the arrival's, no cell is
pub none_is : (places : BTreeMap CellKey ℕ) (cells : List KeyCell) (arrival : Arrival) → AreFound places (names_of cells)
    → ((at : ℕ) → tree.get cell_key_cmp places (arrival_name arrival) ≡ Some at → belongs_at arrival cells at ≡ false) → is_any arrival cells ≡ false
none_is places cells arrival h other = by (is_any arrival cells) refl
  where
    by : (b : Bool) → is_any arrival cells ≡ b → b ≡ false
    by true e = let r = any_place arrival cells e in absurd (not_both (belongs_at arrival cells r.0) r.1 (other r.0 (found_number places cells arrival r.0 h r.1)))
    by false e = refl

neither : (a b : Bool) → (a || b) ≡ false → (a ≡ false) × (b ≡ false)
neither true b e = absurd (cc)
neither false b e = (refl, e)

apart : (arrival : Arrival) (cells : List KeyCell) → is_any arrival cells ≡ false → (at : ℕ) (name : CellKey) → slice_get (names_of cells) at ≡ Some name → is_name (arrival_name arrival) name ≡ false
apart arrival [] e at name f = absurd (cc)
apart arrival (c ∷ cells) e zero name f =
    ap (is_name (arrival_name arrival)) (sym (same_Some (name_of c) name f)) ∙ (neither (belongs arrival c) (is_any arrival cells) e).0
apart arrival (c ∷ cells) e (suc at) name f = apart arrival cells (neither (belongs arrival c) (is_any arrival cells) e).1 at name f

-- ---- an arrival has a number

pub numbered_old : (cells fresh : List KeyCell) (arrival : Arrival) (places : BTreeMap CellKey ℕ) (number : ℕ) → AreFound places (names_of (cells ++ fresh))
    → belongs_at arrival (cells ++ fresh) number ≡ true → IsNumbered cells arrival places number fresh fresh
numbered_old cells fresh arrival places number h e = record {
  fresh = by (is_any arrival cells) (is_any arrival fresh) (sym (any_append (belongs arrival) cells fresh) ∙ any);
  found = h;
  at = number_is places (cells ++ fresh) arrival number h e;
}
  where
    any : is_any arrival (cells ++ fresh) ≡ true
    any = let c = own_at arrival (cells ++ fresh) number e in any_at (belongs arrival) (cells ++ fresh) number c.cell c.is_at c.own

    by : (a b : Bool) → (a || b) ≡ true → fresh ≡ cond (not a && not b) (fresh ++ fresh_cell arrival ∷ []) fresh
    by true b f = refl
    by false true f = refl
    by false false f = absurd (cc)

pub numbered_new : (cells fresh after : List KeyCell) (arrival : Arrival) (old new : BTreeMap CellKey ℕ) (number : ℕ) → AreFound old (names_of (cells ++ fresh))
    → is_any arrival (cells ++ fresh) ≡ false → after ≡ fresh ++ fresh_cell arrival ∷ [] → number ≡ length cells + length fresh
    → tree.Updates cell_key_cmp old new (arrival_name arrival) (Some number) → IsNumbered cells arrival new number fresh after
numbered_new cells fresh after arrival old new number h none opens behind updates = record {
  fresh = opens ∙ by (is_any arrival cells) (is_any arrival fresh) (sym (any_append (belongs arrival) cells fresh) ∙ none);
  found = found;
  at = number_is new (cells ++ after) arrival number found
      (at_own arrival (cells ++ after) number (fresh_cell arrival) (ap (λ l. slice_get l number) stand ∙ ap (slice_get ((cells ++ fresh) ++ fresh_cell arrival ∷ [])) last ∙ got_last (cells ++ fresh) (fresh_cell arrival))
      (own_fresh arrival));
}
  where
    stand : cells ++ after ≡ (cells ++ fresh) ++ fresh_cell arrival ∷ []
    stand = ap (λ l. cells ++ l) opens ∙ sym (append_assoc cells fresh (fresh_cell arrival ∷ []))

    last : number ≡ length (cells ++ fresh)
    last = omega (arith, behind, length-append cells fresh)

    names : names_of (cells ++ after) ≡ names_of (cells ++ fresh) ++ arrival_name arrival ∷ []
    names = ap names_of stand ∙ map-append name_of (cells ++ fresh) (fresh_cell arrival ∷ [])

    found : AreFound new (names_of (cells ++ after))
    found = subst (AreFound new) (sym names)
        (found_more old new (arrival_name arrival) number (names_of (cells ++ fresh)) updates (last ∙ sym (length-map (cells ++ fresh) name_of)) (apart arrival (cells ++ fresh) none) h)

    by : (a b : Bool) → (a || b) ≡ false → fresh ++ fresh_cell arrival ∷ [] ≡ cond (not a && not b) (fresh ++ fresh_cell arrival ∷ []) fresh
    by true b f = absurd (cc)
    by false true f = absurd (cc)
    by false false f = refl

-- the same of a call that may fail
pub opened_or_not : {E : Type 0} (slots fresh after : List Slot) (arrival : Arrival) (old new : BTreeMap CellKey ℕ) (key : CellKey) (r : Result ℕ E) → key ≡ arrival_name arrival
    → AreFound old (names_of (cells_of slots ++ cells_of fresh)) → is_any arrival (cells_of slots ++ cells_of fresh) ≡ false → OnErr r (tree.IsUnchanged old new)
    → IfOk r (λ _. cells_of after ≡ cells_of fresh ++ fresh_cell arrival ∷ []) → IfOk r (λ number. number ≡ length slots + length fresh)
    → IfOk r (λ number. tree.Updates cell_key_cmp old new key (Some number))
    → AreFound new (names_of (cells_of slots)) × IfOk r (λ number. IsNumbered (cells_of slots) arrival new number (cells_of fresh) (cells_of after))
opened_or_not slots fresh after arrival old new key (Err e) keyed h none stays opens behind updates =
    (found_first new (cells_of slots) (cells_of fresh) (found_unchanged old new (names_of (cells_of slots ++ cells_of fresh)) stays h), tt)
opened_or_not slots fresh after arrival old new key (Ok number) keyed h none stays opens behind updates =
    let there : number ≡ length (cells_of slots) + length (cells_of fresh) = omega (arith, behind, length-map slots cell_of, length-map fresh cell_of) in
    let numbered = numbered_new (cells_of slots) (cells_of fresh) (cells_of after) arrival old new number h none opens there
    (subst (λ (k : CellKey). tree.Updates cell_key_cmp old new k (Some number)) keyed updates) in
    (found_first new (cells_of slots) (cells_of after) numbered.found, numbered)

-- ---- routes

-- more names behind leave the numbers that are found
kept_with_more : (names : List CellKey) (x wanted : CellKey) (at : ℕ) → number_in names wanted ≡ Some at → number_in (names ++ x ∷ []) wanted ≡ Some at
kept_with_more names x wanted at e = place_pushed (is_name wanted) names x ∙ ap (λ o. option_or o (cond (is_name wanted x) (Some (length names)) None)) e

kept_opened : (cells fresh : List KeyCell) (arrival : Arrival) (b : Bool) (wanted : CellKey) (at : ℕ) → number_in (names_of (cells ++ fresh)) wanted ≡ Some at
    → number_in (names_of (cells ++ cond b (fresh ++ fresh_cell arrival ∷ []) fresh)) wanted ≡ Some at
kept_opened cells fresh arrival true wanted at e =
    ap (λ l. number_in l wanted) (ap names_of (sym (append_assoc cells fresh (fresh_cell arrival ∷ []))) ∙ map-append name_of (cells ++ fresh) (fresh_cell arrival ∷ []))
    ∙ kept_with_more (names_of (cells ++ fresh)) (arrival_name arrival) wanted at e
kept_opened cells fresh arrival false wanted at e = e

routes_grow : (names more : List CellKey) → ((wanted : CellKey) (at : ℕ) → number_in names wanted ≡ Some at → number_in more wanted ≡ Some at)
    → (arrivals : List Arrival) (routes : List ℕ) → map (λ r. Some r) routes ≡ map (λ a. number_in names (arrival_name a)) arrivals
    → map (λ r. Some r) routes ≡ map (λ a. number_in more (arrival_name a)) arrivals
routes_grow names more grows [] routes e = e
routes_grow names more grows (a ∷ arrivals) [] e = absurd (cc)
routes_grow names more grows (a ∷ arrivals) (r ∷ routes) e =
    let first : Some r ≡ number_in names (arrival_name a) = cc in
    let rest : map (λ r. Some r) routes ≡ map (λ a. number_in names (arrival_name a)) arrivals = cc in
    let onward = routes_grow names more grows arrivals routes rest in
    let here = sym (grows (arrival_name a) r (sym first)) in
    λ i. here i ∷ onward i

module _ (plan : Plan) where
  abbrev passes : Arrival → Bool
  passes a = is_stateful plan a.node

  one_more : (names : List CellKey) (arrivals : List Arrival) (arrival : Arrival)
      → routes_of plan names (arrivals ++ arrival ∷ []) ≡ routes_of plan names arrivals ++ cond (is_stateful plan arrival.node) (number_in names (arrival_name arrival) ∷ []) []
  one_more names arrivals arrival =
      ap (map (λ a. number_in names (arrival_name a))) (filter-append passes arrivals (arrival ∷ []))
      ∙ map-append (λ a. number_in names (arrival_name a)) (filter passes arrivals) (filter passes (arrival ∷ []))
      ∙ ap (λ l. routes_of plan names arrivals ++ l) (by (is_stateful plan arrival.node))
    where
      by : (b : Bool) → map (λ a. number_in names (arrival_name a)) (cond b (arrival ∷ []) []) ≡ cond b (number_in names (arrival_name arrival) ∷ []) []
      by true = refl
      by false = refl

  -- an arrival at another node has none
  pub routes_past : (names : List CellKey) (arrivals : List Arrival) (arrival : Arrival) (routes : List ℕ) → is_stateful plan arrival.node ≡ false → AreRoutes plan names arrivals routes
      → AreRoutes plan names (arrivals ++ arrival ∷ []) routes
  routes_past names arrivals arrival routes off h = record {
    are = h.are ∙ sym (append-nil (routes_of plan names arrivals))
        ∙ sym (one_more names arrivals arrival ∙ ap (λ b. routes_of plan names arrivals ++ cond b (number_in names (arrival_name arrival) ∷ []) []) off);
  }

  pub routes_more : (cells fresh after : List KeyCell) (places : BTreeMap CellKey ℕ) (arrivals : List Arrival) (arrival : Arrival) (routes : List ℕ) (number : ℕ)
      → is_stateful plan arrival.node ≡ true → IsNumbered cells arrival places number fresh after → AreRoutes plan (names_of (cells ++ fresh)) arrivals routes
      → AreRoutes plan (names_of (cells ++ after)) (arrivals ++ arrival ∷ []) (routes ++ number ∷ [])
  routes_more cells fresh after places arrivals arrival routes number on h before = record {
    are = map-append (λ r. Some r) routes (number ∷ [])
        ∙ (λ i. grown i ++ sym h.at i ∷ [])
        ∙ sym (one_more (names_of (cells ++ after)) arrivals arrival
        ∙ ap (λ b. routes_of plan (names_of (cells ++ after)) arrivals ++ cond b (number_in (names_of (cells ++ after)) (arrival_name arrival) ∷ []) []) on);
  }
    where
      grown : map (λ r. Some r) routes ≡ routes_of plan (names_of (cells ++ after)) arrivals
      grown = routes_grow (names_of (cells ++ fresh)) (names_of (cells ++ after))
          (λ wanted at e. ap (λ l. number_in (names_of (cells ++ l)) wanted) h.fresh ∙ kept_opened cells fresh arrival (not (is_any arrival cells) && not (is_any arrival fresh)) wanted at e)
          (filter passes arrivals) routes before.are

  pub routes_none : (names : List CellKey) → AreRoutes plan names [] []
  routes_none names = record { are = refl }

  pub fresh_past : (cells fresh : List KeyCell) (arrival : Arrival) → is_stateful plan arrival.node ≡ false → fresh ≡ fresh_one plan cells fresh arrival
  fresh_past cells fresh arrival off = sym (ap (λ b. cond (b && (not (is_any arrival cells) && not (is_any arrival fresh))) (fresh ++ fresh_cell arrival ∷ []) fresh) off)

  pub fresh_here : (cells fresh : List KeyCell) (arrival : Arrival) → is_stateful plan arrival.node ≡ true → opened_for cells arrival fresh ≡ fresh_one plan cells fresh arrival
  fresh_here cells fresh arrival on = sym (ap (λ b. cond (b && (not (is_any arrival cells) && not (is_any arrival fresh))) (fresh ++ fresh_cell arrival ∷ []) fresh) on)

-- ---- what stands at a number

pub at_front : (arrival : Arrival) (slots : List Slot) (more : List KeyCell) (at : ℕ) (slot : Slot) → at < length slots → slot ≡ get_or slots at slot
    → belongs arrival (cell_of slot) ≡ belongs_at arrival (cells_of slots ++ more) at
at_front arrival slots more at slot less read =
    let inside : at < length (cells_of slots) = omega (arith, less, length-map slots cell_of) in
    sym (ap (belongs_to arrival) (got_front (cells_of slots) more at inside ∙ slice_get-map cell_of slots at ∙ ap (option_map cell_of) (slice_get-get_or slots at slot less ∙ ap (λ (s : Slot). Some s) (sym read))))

pub at_behind : (arrival : Arrival) (slots fresh : List Slot) (at behind : ℕ) (slot : Slot) → at ≡ length slots + behind → behind < length fresh → slot ≡ get_or fresh behind slot
    → belongs arrival (cell_of slot) ≡ belongs_at arrival (cells_of slots ++ cells_of fresh) at
at_behind arrival slots fresh at behind slot e less read =
    let from : at ≡ length (cells_of slots) + behind = omega (arith, e, length-map slots cell_of) in
    sym (ap (belongs_to arrival) (got_behind (cells_of slots) (cells_of fresh) behind at from ∙ slice_get-map cell_of fresh behind ∙ ap (option_map cell_of) (slice_get-get_or fresh behind slot less ∙ ap (λ (s : Slot). Some s) (sym read))))

pub at_nowhere : (arrival : Arrival) (slots fresh : List Slot) (at behind : ℕ) → at ≡ length slots + behind → length fresh ≤ behind → false ≡ belongs_at arrival (cells_of slots ++ cells_of fresh) at
at_nowhere arrival slots fresh at behind e past =
    let from : at ≡ length (cells_of slots) + behind = omega (arith, e, length-map slots cell_of) in
    sym (ap (belongs_to arrival) (got_behind (cells_of slots) (cells_of fresh) behind at from ∙ slice_get-map cell_of fresh behind ∙ ap (option_map cell_of) (slice_get_past fresh behind past)))
