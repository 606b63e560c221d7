-- Where windows don't merge: opening windows and putting entries, one arrival after another, is opening them all and then putting all.
use Rattle.std.proofs.Common.{◌≡◌, ℕ, ◌&&◌, ◌||◌, ℤ, Bool, true, false, not, cond, List, [], ◌∷◌, ◌++◌, map, Some, refl, sym, ap, ◌∙◌}
use Rattle.std.specs.List.{list_any, flat_map, fold}
use Rattle.std.proofs.lemmas.Bool.{false≢true}
use Rattle.beam_values.specs.Firing.{is_expired}
use Rattle.beam_values.specs.Grouping.{key_of}
use Rattle.beam_values.specs.Intervals.{Interval}
use Rattle.beam_values.specs.Spans.{same_span, lies_in}
use Rattle.beam_values.specs.declared.cell.Cell.{Cell}
use Rattle.beam_values.specs.declared.cell.Entry.{Entry}
use Rattle.beam_values.specs.declared.element.Element.{Element}
use Rattle.beam_values.specs.declared.value.Value.{Value}
use Rattle.beam_model.specs.Panes.{GroupRules, is_cell_at_key}
use Rattle.cell_index.specs.Places.{is_cell_of}
use Rattle.group_cells.specs.Arrivals.{arrived, AreOwn}
use Rattle.group_cells.specs.Placing.{Opening, takes, with_entry, fresh_cell, put, put_all, opened, opened_all, stands_as, once_opened, handed_over, gives_way, is_absorbed, is_standing}
use Rattle.group_cells.specs.Rounds.{entry_of}
use Rattle.group_cells.proofs.Alike.{same_group, group_asked, span_back, span_itself}

-- no window gives way
no_way : (rules : GroupRules) (before : ℤ) (session : Interval) → rules.merges ≡ false → (cell : Cell) → gives_way rules before session cell ≡ false
no_way rules before session unmerged cell = by_test (is_standing cell.merged_into)
  where
    by_test : (s : Bool) → (s && is_absorbed rules before session cell.span) ≡ false
    by_test true = ap (λ m. m && (not (is_expired rules.trigger cell.span.end before) && (lies_in cell.span session && not (same_span cell.span session)))) unmerged
    by_test false = refl

all_stay : (rules : GroupRules) (before : ℤ) (session : Interval) → rules.merges ≡ false → (cells : List Cell) → map (once_opened rules before session) cells ≡ cells
all_stay rules before session unmerged [] = refl
all_stay rules before session unmerged (cell ∷ cells) =
    ap (λ b. cond b (record cell { entries = []; merged_into = Some session }) cell ∷ map (once_opened rules before session) cells) (no_way rules before session unmerged cell)
    ∙ ap (λ l. cell ∷ l) (all_stay rules before session unmerged cells)

none_handed : (rules : GroupRules) (before : ℤ) (session : Interval) → rules.merges ≡ false → (cells : List Cell) → flat_map (handed_over rules before session) cells ≡ []
none_handed rules before session unmerged [] = refl
none_handed rules before session unmerged (cell ∷ cells) =
    ap (λ b. cond {A = List Entry} b cell.entries [] ++ flat_map (handed_over rules before session) cells) (no_way rules before session unmerged cell)
    ∙ none_handed rules before session unmerged cells

-- so opening a window only puts its cell behind the others, where none stands for it
abbrev opened_plainly : ℕ → List Cell → Opening → List Cell
opened_plainly node cells opening =
    cond (list_any (stands_as opening.span) cells) cells (cells ++ fresh_cell node opening.key opening.span [] ∷ [])

opens_plainly : (rules : GroupRules) (before : ℤ) (node : ℕ) (cells : List Cell) (o : Opening) → rules.merges ≡ false → opened rules before node cells o ≡ opened_plainly node cells o
opens_plainly rules before node cells o unmerged =
    ap (λ l. cond (list_any (stands_as o.span) cells) cells (l ++ fresh_cell node o.key o.span (flat_map (handed_over rules before o.span) cells) ∷ [])) (all_stay rules before o.span unmerged cells)
    ∙ ap (λ es. cond (list_any (stands_as o.span) cells) cells (cells ++ fresh_cell node o.key o.span es ∷ [])) (none_handed rules before o.span unmerged cells)

abbrev pub opening_of : Element → Opening
opening_of e = record { key = key_of e; span = e.span }

takes_own : (rules : GroupRules) (entry : Entry) (cell : Cell) → rules.merges ≡ false → takes rules entry cell ≡ (is_standing cell.merged_into && same_span entry.element.span cell.span)
takes_own rules entry cell unmerged = ap (λ b. is_standing cell.merged_into && cond b (lies_in entry.element.span cell.span) (same_span entry.element.span cell.span)) unmerged

-- an entry goes to the cells that stand for its window
takes_as : (rules : GroupRules) (entry : Entry) (cell : Cell) → rules.merges ≡ false → takes rules entry cell ≡ stands_as entry.element.span cell
takes_as rules entry cell unmerged =
    takes_own rules entry cell unmerged ∙ ap (λ b. is_standing cell.merged_into && b) (span_back entry.element.span cell.span)

-- a cell of the node and key that stands is that of its window alone
own_as : (n : ℕ) (k : Value) (key : Value) (span : Interval) (cell : Cell) → same_group n k n key ≡ true → is_cell_at_key n k cell ≡ true → is_standing cell.merged_into ≡ true
    → stands_as span cell ≡ is_cell_of n key span cell
own_as n k key span cell same at stands =
    ap (λ b. b && same_span cell.span span) stands
    ∙ sym (ap (λ b. b && same_span cell.span span) (group_asked n k n key cell.node cell.key same ∙ at))

-- opening and putting, as it goes among the cells of one node and key
put_once : (rules : GroupRules) (n : ℕ) (k key : Value) (entry : Entry) → rules.merges ≡ false → same_group n k n key ≡ true → (cells : List Cell) → AreOwn n k cells
    → put rules entry (opened_plainly n cells (record { key = key; span = entry.element.span })) ≡ arrived n key entry.element.span entry cells
put_once rules n k key entry unmerged same [] own =
    ap (λ b. cond b (with_entry entry (fresh_cell n key entry.element.span []) ∷ []) (fresh_cell n key entry.element.span [] ∷ []))
    (takes_as rules entry (fresh_cell n key entry.element.span []) unmerged ∙ span_itself entry.element.span)
put_once rules n k key entry unmerged same (cell ∷ cells) own = by_test (stands_as entry.element.span cell) refl (put_once rules n k key entry unmerged same cells own.2)
  where
    span : Interval
    span = entry.element.span

    here : stands_as entry.element.span cell ≡ is_cell_of n key entry.element.span cell
    here = own_as n k key entry.element.span cell same own.0 own.1

    behind : (u : Bool) → takes rules entry cell ≡ false
        → put rules entry (cond u (cell ∷ cells) (cell ∷ (cells ++ fresh_cell n key entry.element.span [] ∷ [])))
        ≡ cell ∷ put rules entry (cond u cells (cells ++ fresh_cell n key entry.element.span [] ∷ []))
    behind true e = ap (λ b. cond b (with_entry entry cell ∷ cells) (cell ∷ put rules entry cells)) e
    behind false e =
        ap (λ b. cond b (with_entry entry cell ∷ (cells ++ fresh_cell n key entry.element.span [] ∷ [])) (cell ∷ put rules entry (cells ++ fresh_cell n key entry.element.span [] ∷ []))) e

    by_test : (t : Bool) → stands_as entry.element.span cell ≡ t
        → put rules entry (opened_plainly n cells (record { key = key; span = entry.element.span })) ≡ arrived n key entry.element.span entry cells
        → put rules entry (cond (t || list_any (stands_as entry.element.span) cells) (cell ∷ cells) (cell ∷ (cells ++ fresh_cell n key entry.element.span [] ∷ [])))
        ≡ arrived n key entry.element.span entry (cell ∷ cells)
    by_test true e ih =
        ap (λ b. cond b (with_entry entry cell ∷ cells) (cell ∷ put rules entry cells)) (takes_as rules entry cell unmerged ∙ e)
        ∙ sym (ap (λ b. cond b (with_entry entry cell ∷ cells) (cell ∷ arrived n key entry.element.span entry cells)) (sym here ∙ e))
    by_test false e ih =
        behind (list_any (stands_as entry.element.span) cells) (takes_as rules entry cell unmerged ∙ e)
        ∙ ap (λ l. cell ∷ l) ih
        ∙ sym (ap (λ b. cond b (with_entry entry cell ∷ cells) (cell ∷ arrived n key entry.element.span entry cells)) (sym here ∙ e))

pub own_arrived : (n : ℕ) (k key : Value) (span : Interval) (entry : Entry) → same_group n k n key ≡ true → (cells : List Cell) → AreOwn n k cells → AreOwn n k (arrived n key span entry cells)
own_arrived n k key span entry same [] own = (same, refl, tt)
own_arrived n k key span entry same (cell ∷ cells) own = by_test (is_cell_of n key span cell) (own_arrived n k key span entry same cells own.2)
  where
    by_test : (t : Bool) → AreOwn n k (arrived n key span entry cells) → AreOwn n k (cond t (with_entry entry cell ∷ cells) (cell ∷ arrived n key span entry cells))
    by_test true ih = own
    by_test false ih = (own.0, own.1, ih)

-- putting an entry leaves which windows stand
stand_put : (rules : GroupRules) (entry : Entry) (w : Interval) (cells : List Cell) → list_any (stands_as w) (put rules entry cells) ≡ list_any (stands_as w) cells
stand_put rules entry w [] = refl
stand_put rules entry w (cell ∷ cells) = by_test (takes rules entry cell) (stand_put rules entry w cells)
  where
    by_test : (t : Bool) → list_any (stands_as w) (put rules entry cells) ≡ list_any (stands_as w) cells
        → list_any (stands_as w) (cond t (with_entry entry cell ∷ cells) (cell ∷ put rules entry cells)) ≡ list_any (stands_as w) (cell ∷ cells)
    by_test true ih = refl
    by_test false ih = ap (λ b. stands_as w cell || b) ih

or_true : (a : Bool) → (a || true) ≡ true
or_true true = refl
or_true false = refl

any_more : (p : Cell → Bool) (cells more : List Cell) → list_any p cells ≡ true → list_any p (cells ++ more) ≡ true
any_more p [] more h = absurd (false≢true h)
any_more p (cell ∷ cells) more h = by_test (p cell) h (λ k. any_more p cells more k)
  where
    by_test : (t : Bool) → (t || list_any p cells) ≡ true → (list_any p cells ≡ true → list_any p (cells ++ more) ≡ true) → (t || list_any p (cells ++ more)) ≡ true
    by_test true e ih = refl
    by_test false e ih = ih e

any_last : (p : Cell → Bool) (cells : List Cell) (last : Cell) → p last ≡ true → list_any p (cells ++ last ∷ []) ≡ true
any_last p [] last h = ap (λ b. b || false) h
any_last p (cell ∷ cells) last h = ap (λ b. p cell || b) (any_last p cells last h) ∙ or_true (p cell)

-- what some cell takes doesn't go behind
put_within : (rules : GroupRules) (entry : Entry) (cells more : List Cell) → list_any (takes rules entry) cells ≡ true → put rules entry (cells ++ more) ≡ put rules entry cells ++ more
put_within rules entry [] more h = absurd (false≢true h)
put_within rules entry (cell ∷ cells) more h = by_test (takes rules entry cell) h (λ k. put_within rules entry cells more k)
  where
    by_test : (t : Bool) → (t || list_any (takes rules entry) cells) ≡ true
        → (list_any (takes rules entry) cells ≡ true → put rules entry (cells ++ more) ≡ put rules entry cells ++ more)
        → cond t (with_entry entry cell ∷ (cells ++ more)) (cell ∷ put rules entry (cells ++ more)) ≡ cond t (with_entry entry cell ∷ cells) (cell ∷ put rules entry cells) ++ more
    by_test true e ih = refl
    by_test false e ih = ap (λ l. cell ∷ l) (ih e)

-- an entry that a cell takes may be put before or after a window is opened
put_past_one : (rules : GroupRules) (before : ℤ) (node : ℕ) (entry : Entry) (o : Opening) (cells : List Cell) → rules.merges ≡ false → list_any (takes rules entry) cells ≡ true
    → opened rules before node (put rules entry cells) o ≡ put rules entry (opened rules before node cells o)
put_past_one rules before node entry o cells unmerged h =
    opens_plainly rules before node (put rules entry cells) o unmerged
    ∙ ap (λ b. cond b (put rules entry cells) (put rules entry cells ++ fresh_cell node o.key o.span [] ∷ [])) (stand_put rules entry o.span cells)
    ∙ by_test (list_any (stands_as o.span) cells)
    ∙ sym (ap (put rules entry) (opens_plainly rules before node cells o unmerged))
  where
    by_test : (t : Bool)
        → cond t (put rules entry cells) (put rules entry cells ++ fresh_cell node o.key o.span [] ∷ []) ≡ put rules entry (cond t cells (cells ++ fresh_cell node o.key o.span [] ∷ []))
    by_test true = refl
    by_test false = sym (put_within rules entry cells (fresh_cell node o.key o.span [] ∷ []) h)

takes_opened : (rules : GroupRules) (before : ℤ) (node : ℕ) (entry : Entry) (o : Opening) (cells : List Cell) → rules.merges ≡ false → list_any (takes rules entry) cells ≡ true
    → list_any (takes rules entry) (opened rules before node cells o) ≡ true
takes_opened rules before node entry o cells unmerged h =
    ap (list_any (takes rules entry)) (opens_plainly rules before node cells o unmerged) ∙ by_test (list_any (stands_as o.span) cells)
  where
    by_test : (t : Bool) → list_any (takes rules entry) (cond t cells (cells ++ fresh_cell node o.key o.span [] ∷ [])) ≡ true
    by_test true = h
    by_test false = any_more (takes rules entry) cells (fresh_cell node o.key o.span [] ∷ []) h

put_past : (rules : GroupRules) (before : ℤ) (node : ℕ) (entry : Entry) → rules.merges ≡ false → (os : List Opening) (cells : List Cell) → list_any (takes rules entry) cells ≡ true
    → opened_all rules before node os (put rules entry cells) ≡ put rules entry (opened_all rules before node os cells)
put_past rules before node entry unmerged [] cells h = refl
put_past rules before node entry unmerged (o ∷ os) cells h =
    ap (opened_all rules before node os) (put_past_one rules before node entry o cells unmerged h)
    ∙ put_past rules before node entry unmerged os (opened rules before node cells o) (takes_opened rules before node entry o cells unmerged h)

any_alike : (p q : Cell → Bool) → ((cell : Cell) → p cell ≡ q cell) → (cells : List Cell) → list_any p cells ≡ list_any q cells
any_alike p q same [] = refl
any_alike p q same (cell ∷ cells) = ap (λ b. b || list_any p cells) (same cell) ∙ ap (λ b. q cell || b) (any_alike p q same cells)

-- once its window is open, a cell takes an entry
taken_then : (rules : GroupRules) (before : ℤ) (node : ℕ) (key : Value) (entry : Entry) (cells : List Cell) → rules.merges ≡ false
    → list_any (takes rules entry) (opened rules before node cells (record { key = key; span = entry.element.span })) ≡ true
taken_then rules before node key entry cells unmerged =
    ap (list_any (takes rules entry)) (opens_plainly rules before node cells (record { key = key; span = entry.element.span }) unmerged)
    ∙ by_test (list_any (stands_as entry.element.span) cells) refl
  where
    by_test : (t : Bool) → list_any (stands_as entry.element.span) cells ≡ t
        → list_any (takes rules entry) (cond t cells (cells ++ fresh_cell node key entry.element.span [] ∷ [])) ≡ true
    by_test true e = any_alike (takes rules entry) (stands_as entry.element.span) (λ cell. takes_as rules entry cell unmerged) cells ∙ e
    by_test false e =
        any_last (takes rules entry) cells (fresh_cell node key entry.element.span [])
        (takes_as rules entry (fresh_cell node key entry.element.span []) unmerged ∙ span_itself entry.element.span)

-- the elements of a commit one by one
abbrev pub arrived_all : ℕ → ℕ → List Element → List Cell → List Cell
arrived_all n c es cells = fold (λ cells e. arrived n (key_of e) e.span (entry_of c e) cells) cells es

abbrev pub AreKeyed : ℕ → Value → List Element → Type 0
AreKeyed n k [] = Unit {0}
AreKeyed n k (e ∷ es) = (same_group n k n (key_of e) ≡ true) × AreKeyed n k es

-- is opening all their windows and putting all
pub arrived_as_put : (rules : GroupRules) (before : ℤ) (n : ℕ) (k : Value) (c : ℕ) → rules.merges ≡ false → (es : List Element) → AreKeyed n k es → (cells : List Cell) → AreOwn n k cells
    → arrived_all n c es cells ≡ put_all rules (map (entry_of c) es) (opened_all rules before n (map opening_of es) cells)
arrived_as_put rules before n k c unmerged [] keyed cells own = refl
arrived_as_put rules before n k c unmerged (e ∷ es) keyed cells own =
    arrived_as_put rules before n k c unmerged es keyed.1 (arrived n (key_of e) e.span (entry_of c e) cells) (own_arrived n k (key_of e) e.span (entry_of c e) keyed.0 cells own)
    ∙ ap (λ l. put_all rules (map (entry_of c) es) (opened_all rules before n (map opening_of es) l))
    (sym (put_once rules n k (key_of e) (entry_of c e) unmerged keyed.0 cells own)
    ∙ ap (put rules (entry_of c e)) (sym (opens_plainly rules before n cells (opening_of e) unmerged)))
    ∙ ap (put_all rules (map (entry_of c) es))
    (put_past rules before n (entry_of c e) unmerged (map opening_of es) (opened rules before n cells (opening_of e))
    (taken_then rules before n (key_of e) (entry_of c e) cells unmerged))
