-- Opening all new cells first, and then putting each arrival at its cell, places the same.
use Rattle.std.proofs.Common.{◌≡◌, ℕ, zero, suc, Bool, true, false, cond, List, [], ◌∷◌, ◌++◌, Option, Some, None, refl, sym, ap, ◌∙◌, append_assoc}
use Rattle.std.specs.Prelude.{slice_get, slice_set, fold, ◌&&◌, ◌||◌, not}
use Rattle.std.specs.List.{list_any}
use Rattle.std.proofs.lemmas.List.{append-nil}
use Rattle.std.proofs.lemmas.Option.{same_Some}
use Rattle.beam_values.specs.Nodes.{is_stateful}
use Rattle.beam_values.specs.declared.arrival.Arrival.{Arrival}
use Rattle.beam_values.specs.declared.marks.StageMarks.{StageMarks}
use Rattle.beam_values.specs.declared.plan.Plan.{Plan}
use Rattle.stateful_core.specs.Cells.{KeyCell, belongs}
use Rattle.stateful_core.specs.Opening.{is_any, fresh_one, fresh_all, put_in, put_one, put_all, HasCell}
use Rattle.stateful_core.specs.Placing.{Done, fresh_cell, waits, with_waiting, place_in, place_one, place_all, set_done, with_done, finish, place}
use Rattle.stateful_core.proofs.OnceOnly.{own_fresh}

pub any_append : {X : Type 0} (p : X → Bool) (xs ys : List X) → list_any p (xs ++ ys) ≡ (list_any p xs || list_any p ys)
any_append p [] ys = refl
any_append p (x ∷ xs) ys = ap (λ b. p x || b) (any_append p xs ys) ∙ assoc (p x) (list_any p xs) (list_any p ys)
  where
    assoc : (a b c : Bool) → (a || (b || c)) ≡ ((a || b) || c)
    assoc true b c = refl
    assoc false b c = refl

any_set : {X : Type 0} (p : X → Bool) (xs : List X) (i : ℕ) (x y : X) → slice_get xs i ≡ Some x → p y ≡ p x → list_any p (slice_set xs i y) ≡ list_any p xs
any_set p [] i x y at same = refl
any_set p (z ∷ xs) zero x y at same = ap (λ b. b || list_any p xs) (same ∙ ap p (sym (same_Some z x at)))
any_set p (z ∷ xs) (suc i) x y at same = ap (λ b. p z || b) (any_set p xs i x y at same)

-- ---- putting changes no cell's key and window

module _ (before : List StageMarks) (arrival other : Arrival) where
  any_in : (cells : List KeyCell) → is_any other (put_in before arrival cells) ≡ is_any other cells
  any_in [] = refl
  any_in (cell ∷ cells) = by (belongs arrival cell) (any_in cells)
    where
      by : (b : Bool) → is_any other (put_in before arrival cells) ≡ is_any other cells
          → is_any other (cond b (with_waiting cell (waits before arrival) ∷ cells) (cell ∷ put_in before arrival cells)) ≡ (belongs other cell || is_any other cells)
      by true h = refl
      by false h = ap (λ b. belongs other cell || b) h

  pub any_put : (plan : Plan) (cells : List KeyCell) → is_any other (put_one plan before cells arrival) ≡ is_any other cells
  any_put plan cells = by (is_stateful plan arrival.node)
    where
      by : (b : Bool) → is_any other (cond b (put_in before arrival cells) cells) ≡ is_any other cells
      by true = any_in cells
      by false = refl

pub any_put_all : (plan : Plan) (before : List StageMarks) (other : Arrival) (arrivals : List Arrival) (cells : List KeyCell) → is_any other (put_all plan before arrivals cells) ≡ is_any other cells
any_put_all plan before other [] cells = refl
any_put_all plan before other (arrival ∷ arrivals) cells = any_put_all plan before other arrivals (put_one plan before cells arrival) ∙ any_put before arrival other plan cells

-- ---- one arrival

abbrev pub new_for : Plan → List KeyCell → Arrival → List KeyCell
new_for plan cells arrival = cond (is_stateful plan arrival.node && not (is_any arrival cells)) (fresh_cell arrival ∷ []) []

module _ (before : List StageMarks) (arrival : Arrival) where
  there : (cells : List KeyCell) → is_any arrival cells ≡ true → place_in before arrival cells ≡ put_in before arrival cells
  there [] h = absurd (cc)
  there (cell ∷ cells) h = by (belongs arrival cell) h (there cells)
    where
      by : (b : Bool) → (b || is_any arrival cells) ≡ true → (is_any arrival cells ≡ true → place_in before arrival cells ≡ put_in before arrival cells)
          → cond b (with_waiting cell (waits before arrival) ∷ cells) (cell ∷ place_in before arrival cells)
          ≡ cond b (with_waiting cell (waits before arrival) ∷ cells) (cell ∷ put_in before arrival cells)
      by true e k = refl
      by false e k = ap (λ l. cell ∷ l) (k e)

  fresh_put : put_in before arrival (fresh_cell arrival ∷ []) ≡ with_waiting (fresh_cell arrival) (waits before arrival) ∷ []
  fresh_put = ap (λ b. cond b (with_waiting (fresh_cell arrival) (waits before arrival) ∷ []) (fresh_cell arrival ∷ [])) (own_fresh arrival)

  absent : (cells : List KeyCell) → is_any arrival cells ≡ false → place_in before arrival cells ≡ put_in before arrival (cells ++ fresh_cell arrival ∷ [])
  absent [] h = sym fresh_put
  absent (cell ∷ cells) h = by (belongs arrival cell) h (absent cells)
    where
      by : (b : Bool) → (b || is_any arrival cells) ≡ false → (is_any arrival cells ≡ false → place_in before arrival cells ≡ put_in before arrival (cells ++ fresh_cell arrival ∷ []))
          → cond b (with_waiting cell (waits before arrival) ∷ cells) (cell ∷ place_in before arrival cells)
          ≡ cond b (with_waiting cell (waits before arrival) ∷ (cells ++ fresh_cell arrival ∷ [])) (cell ∷ put_in before arrival (cells ++ fresh_cell arrival ∷ []))
      by true e k = absurd (cc)
      by false e k = ap (λ l. cell ∷ l) (k e)

  one_opened : (plan : Plan) (cells : List KeyCell) → place_one plan before cells arrival ≡ put_one plan before (cells ++ new_for plan cells arrival) arrival
  one_opened plan cells = by (is_stateful plan arrival.node) (is_any arrival cells) refl
    where
      by : (s b : Bool) → is_any arrival cells ≡ b
          → cond s (place_in before arrival cells) cells
          ≡ cond s (put_in before arrival (cells ++ cond (s && not b) (fresh_cell arrival ∷ []) [])) (cells ++ cond (s && not b) (fresh_cell arrival ∷ []) [])
      by true true e = there cells e ∙ ap (put_in before arrival) (sym (append-nil cells))
      by true false e = absent cells e
      by false b e = sym (append-nil cells)

  -- and then it has a cell
  has_new : (plan : Plan) (cells : List KeyCell) → HasCell plan (cells ++ new_for plan cells arrival) arrival
  has_new plan cells on = by (is_any arrival cells) refl
    where
      by : (b : Bool) → is_any arrival cells ≡ b → is_any arrival (cells ++ cond (is_stateful plan arrival.node && not (is_any arrival cells)) (fresh_cell arrival ∷ []) []) ≡ true
      by true e = any_append (belongs arrival) cells (new_for plan cells arrival) ∙ ap (λ b. b || is_any arrival (new_for plan cells arrival)) e
      by false e =
          any_append (belongs arrival) cells (new_for plan cells arrival)
          ∙ (λ i. (e i || is_any arrival (cond (on i && not (e i)) (fresh_cell arrival ∷ []) [])))
          ∙ ap (λ b. b || false) (own_fresh arrival)

  -- where it has a cell, more cells behind are no matter
  before_more : (cells more : List KeyCell) → is_any arrival cells ≡ true → put_in before arrival (cells ++ more) ≡ put_in before arrival cells ++ more
  before_more [] more h = absurd (cc)
  before_more (cell ∷ cells) more h = by (belongs arrival cell) h (before_more cells more)
    where
      by : (b : Bool) → (b || is_any arrival cells) ≡ true → (is_any arrival cells ≡ true → put_in before arrival (cells ++ more) ≡ put_in before arrival cells ++ more)
          → cond b (with_waiting cell (waits before arrival) ∷ (cells ++ more)) (cell ∷ put_in before arrival (cells ++ more))
          ≡ cond b (with_waiting cell (waits before arrival) ∷ cells) (cell ∷ put_in before arrival cells) ++ more
      by true e k = refl
      by false e k = ap (λ l. cell ∷ l) (k e)

  one_more : (plan : Plan) (cells more : List KeyCell) → HasCell plan cells arrival → put_one plan before (cells ++ more) arrival ≡ put_one plan before cells arrival ++ more
  one_more plan cells more h = by (is_stateful plan arrival.node) refl
    where
      by : (b : Bool) → is_stateful plan arrival.node ≡ b → cond b (put_in before arrival (cells ++ more)) (cells ++ more) ≡ cond b (put_in before arrival cells) cells ++ more
      by true e = before_more cells more (h e)
      by false e = refl

-- ---- all of them

abbrev pub opened_by : Plan → List Arrival → List KeyCell → List KeyCell
opened_by plan [] cells = []
opened_by plan (arrival ∷ arrivals) cells = new_for plan cells arrival ++ opened_by plan arrivals (cells ++ new_for plan cells arrival)

-- it depends on which keys and windows stand alone
abbrev SameAny : List KeyCell → List KeyCell → Type 0
SameAny xs ys = (other : Arrival) → is_any other xs ≡ is_any other ys

new_same : (plan : Plan) (xs ys : List KeyCell) (arrival : Arrival) → SameAny xs ys → new_for plan xs arrival ≡ new_for plan ys arrival
new_same plan xs ys arrival h = ap (λ b. cond (is_stateful plan arrival.node && not b) (fresh_cell arrival ∷ []) []) (h arrival)

opened_same : (plan : Plan) (arrivals : List Arrival) (xs ys : List KeyCell) → SameAny xs ys → opened_by plan arrivals xs ≡ opened_by plan arrivals ys
opened_same plan [] xs ys h = refl
opened_same plan (arrival ∷ arrivals) xs ys h =
    let new = new_same plan xs ys arrival h in
    let onward = opened_same plan arrivals (xs ++ new_for plan xs arrival) (ys ++ new_for plan ys arrival)
    (λ other. any_append (belongs other) xs (new_for plan xs arrival) ∙ (λ i. (h other i || is_any other (new i))) ∙ sym (any_append (belongs other) ys (new_for plan ys arrival))) in
    λ i. new i ++ onward i

pub place_opened : (plan : Plan) (before : List StageMarks) (arrivals : List Arrival) (cells : List KeyCell)
    → place_all plan before arrivals cells ≡ put_all plan before arrivals (cells ++ opened_by plan arrivals cells)
place_opened plan before [] cells = sym (append-nil cells)
place_opened plan before (arrival ∷ arrivals) cells =
    let new = new_for plan cells arrival in
    let stands = cells ++ new in
    let rest = opened_by plan arrivals stands in
    let one = one_opened before arrival plan cells in
    let same = opened_same plan arrivals (put_one plan before stands arrival) stands (λ other. any_put before arrival other plan stands) in
    ap (λ l. place_all plan before arrivals l) one
    ∙ place_opened plan before arrivals (put_one plan before stands arrival)
    ∙ ap (λ l. put_all plan before arrivals (put_one plan before stands arrival ++ l)) same
    ∙ ap (put_all plan before arrivals) (sym (one_more before arrival plan stands rest (has_new before arrival plan cells)))
    ∙ ap (λ l. put_all plan before arrivals (put_one plan before l arrival)) (append_assoc cells new rest)

-- the cells that are opened one after another
fresh_are : (plan : Plan) (arrivals : List Arrival) (cells fresh : List KeyCell) → fold (fresh_one plan cells) fresh arrivals ≡ fresh ++ opened_by plan arrivals (cells ++ fresh)
fresh_are plan [] cells fresh = sym (append-nil fresh)
fresh_are plan (arrival ∷ arrivals) cells fresh =
    fresh_are plan arrivals cells (fresh_one plan cells fresh arrival) ∙ one
  where
    nor : (s a b : Bool) → (s && (not a && not b)) ≡ (s && not (a || b))
    nor true true b = refl
    nor true false b = refl
    nor false a b = refl

    test : (is_stateful plan arrival.node && (not (is_any arrival cells) && not (is_any arrival fresh))) ≡ (is_stateful plan arrival.node && not (is_any arrival (cells ++ fresh)))
    test = nor (is_stateful plan arrival.node) (is_any arrival cells) (is_any arrival fresh)
        ∙ ap (λ b. is_stateful plan arrival.node && not b) (sym (any_append (belongs arrival) cells fresh))

    by : (b : Bool) → cond b (fresh ++ fresh_cell arrival ∷ []) fresh ≡ fresh ++ cond b (fresh_cell arrival ∷ []) []
    by true = refl
    by false = sym (append-nil fresh)

    added : fresh_one plan cells fresh arrival ≡ fresh ++ new_for plan (cells ++ fresh) arrival
    added = ap (λ b. cond b (fresh ++ fresh_cell arrival ∷ []) fresh) test ∙ by (is_stateful plan arrival.node && not (is_any arrival (cells ++ fresh)))

    one : fresh_one plan cells fresh arrival ++ opened_by plan arrivals (cells ++ fresh_one plan cells fresh arrival)
        ≡ fresh ++ (new_for plan (cells ++ fresh) arrival ++ opened_by plan arrivals ((cells ++ fresh) ++ new_for plan (cells ++ fresh) arrival))
    one = ap (λ l. l ++ opened_by plan arrivals (cells ++ l)) added
        ∙ append_assoc fresh (new_for plan (cells ++ fresh) arrival) (opened_by plan arrivals (cells ++ (fresh ++ new_for plan (cells ++ fresh) arrival)))
        ∙ ap (λ l. fresh ++ (new_for plan (cells ++ fresh) arrival ++ opened_by plan arrivals l)) (sym (append_assoc cells fresh (new_for plan (cells ++ fresh) arrival)))

pub fresh_opened : (plan : Plan) (arrivals : List Arrival) (cells : List KeyCell) → fresh_all plan cells arrivals ≡ opened_by plan arrivals cells
fresh_opened plan arrivals cells = fresh_are plan arrivals cells [] ∙ ap (opened_by plan arrivals) (append-nil cells)

-- ---- a job that is done opens none

finish_any : (before : List StageMarks) (done : Option Done) (cells : List KeyCell) → SameAny (finish before done cells) cells
finish_any before None cells other = refl
finish_any before (Some done) cells other = by (slice_get cells done.cell) refl
  where
    by : (found : Option KeyCell) → slice_get cells done.cell ≡ found → is_any other (set_done before done found cells) ≡ is_any other cells
    by None e = refl
    by (Some cell) e = any_set (belongs other) cells done.cell cell (with_done before done cell) e refl

pub place_is_put : (plan : Plan) (before : List StageMarks) (done : Option Done) (arrivals : List Arrival) (cells : List KeyCell)
    → place plan before done arrivals cells ≡ put_all plan before arrivals (finish before done cells ++ fresh_all plan cells arrivals)
place_is_put plan before done arrivals cells =
    place_opened plan before arrivals (finish before done cells)
    ∙ ap (λ l. put_all plan before arrivals (finish before done cells ++ l))
    (opened_same plan arrivals (finish before done cells) cells (finish_any before done cells) ∙ sym (fresh_opened plan arrivals cells))
