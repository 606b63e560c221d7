-- Each live key cell is worked by one slot: kept by every step.
use Rattle.std.proofs.Common.{◌≡◌, ℕ, zero, suc, ◌+◌, ◌≤◌, Bool, true, false, cond, List, [], ◌∷◌, ◌++◌, Option, Some, None, refl, sym, ap, ◌∙◌, ◌⊎◌, inl, inr, arith}
use Rattle.std.specs.Prelude.{slice_get, slice_set, ◌==◌}
use Rattle.std.specs.List.{count_by, sum_by, flat_map}
use Rattle.std.proofs.lemmas.Bool.{cond_both, cases_eq, eqb-true, eq-eqb, ne_eqb}
use Rattle.std.proofs.lemmas.List.{append-nil}
use Rattle.std.proofs.lemmas.List.Concat.{flat_map-append}
use Rattle.std.proofs.lemmas.List.Sums.{sum_by-cons, sum_by-append}
use Rattle.std.proofs.lemmas.Option.{same_Some}
use Rattle.beam_values.specs.Nodes.{is_stateful}
use Rattle.beam_values.specs.declared.arrival.Arrival.{Arrival}
use Rattle.beam_values.specs.declared.marks.StageMarks.{StageMarks}
use Rattle.beam_values.specs.declared.plan.Plan.{Plan}
use Rattle.stateful_core.specs.Cells.{KeyCell, belongs}
use Rattle.stateful_core.specs.Placing.{Done, waits, with_waiting, place_in, place_one, place_all, with_done, set_done, finish, place}
use Rattle.stateful_core.specs.Taking.{is_some, is_free, with_job, tried, set_by, change}
use Rattle.stateful_core.specs.Working.{is_live, is_live_at, is_number, AreWorkedOnce}
use Rattle.stateful_core.proofs.Found.{set_got}
use Rattle.stateful_core.proofs.JobStays.{get_other}
use Rattle.std.proofs.lemmas.Option.{slice_get_within}

-- ---- slots

pub flat_set : {X : Type 0} (w : ℕ → ℕ) (keys : X → List ℕ) (slots : List X) (slot : ℕ) (x y : X) → slice_get slots slot ≡ Some x
    → sum_by w (flat_map keys (slice_set slots slot y)) + sum_by w (keys x) ≡ sum_by w (flat_map keys slots) + sum_by w (keys y)
flat_set w keys [] slot x y e = absurd (cc)
flat_set w keys (z ∷ slots) zero x y e =
    omega (arith, ap (λ v. sum_by w (keys v)) (same_Some z x e), sum_by-append w (keys y) (flat_map keys slots), sum_by-append w (keys z) (flat_map keys slots))
flat_set w keys (z ∷ slots) (suc slot) x y e =
    omega (arith, flat_set w keys slots slot x y e, sum_by-append w (keys z) (flat_map keys (slice_set slots slot y)), sum_by-append w (keys z) (flat_map keys slots))

one_key : (at key : ℕ) → count_by (is_number at) (key ∷ []) ≡ cond (key == at) 1 0 + 0
one_key at key = sum_by-cons (λ k. cond (is_number at k) 1 0) key []

-- ---- cells: what placing, taking and giving back leave live

live_in : (before : List StageMarks) (arrival : Arrival) (cells : List KeyCell) (at : ℕ) → is_live_at (place_in before arrival cells) at ≡ is_live_at cells at
live_in before arrival [] zero = refl
live_in before arrival [] (suc at) = refl
live_in before arrival (cell ∷ cells) at = by (belongs arrival cell) at (live_in before arrival cells)
  where
    by : (b : Bool) (k : ℕ) → ((j : ℕ) → is_live_at (place_in before arrival cells) j ≡ is_live_at cells j)
        → is_live_at (cond b (with_waiting cell (waits before arrival) ∷ cells) (cell ∷ place_in before arrival cells)) k ≡ is_live_at (cell ∷ cells) k
    by true zero h = refl
    by true (suc k) h = refl
    by false zero h = refl
    by false (suc k) h = h k

live_all : (plan : Plan) (before : List StageMarks) (arrivals : List Arrival) (cells : List KeyCell) (at : ℕ) → is_live_at (place_all plan before arrivals cells) at ≡ is_live_at cells at
live_all plan before [] cells at = refl
live_all plan before (arrival ∷ arrivals) cells at =
    live_all plan before arrivals (place_one plan before cells arrival) at
    ∙ cond_both (is_stateful plan arrival.node) (place_in before arrival cells) cells (λ (l : List KeyCell). is_live_at l at ≡ is_live_at cells at) (λ _. live_in before arrival cells at) (λ _. refl)

-- one cell becomes another
live_set : (cells : List KeyCell) (i : ℕ) (cell new : KeyCell) (at : ℕ) → slice_get cells i ≡ Some cell
    → is_live_at (slice_set cells i new) at ≡ cond (i == at) (is_some new.live) (is_live_at cells at)
live_set cells i cell new at e = by (cases_eq i at)
  where
    by : (i ≡ at) ⊎ (i ≡ at → ⊥) → is_live_at (slice_set cells i new) at ≡ cond (i == at) (is_some new.live) (is_live_at cells at)
    by (inl same) =
        ap (λ k. is_live_at (slice_set cells i new) k) (sym same) ∙ ap is_live (set_got cells i new (slice_get_within cells i cell e))
        ∙ sym (ap (λ b. cond b (is_some new.live) (is_live_at cells at)) (eq-eqb i at same))
    by (inr ne) = ap is_live (get_other cells i at new (λ f. ne (sym f))) ∙ sym (ap (λ b. cond b (is_some new.live) (is_live_at cells at)) (ne_eqb i at ne))

module _ {X : Type 0} (keys : X → List ℕ) where
  -- a slot that works a cell: the cell is live
  least_of : (w : ℕ → ℕ) (slots : List X) (slot : ℕ) (x : X) → slice_get slots slot ≡ Some x → sum_by w (keys x) ≤ sum_by w (flat_map keys slots)
  least_of w [] slot x e = absurd (cc)
  least_of w (z ∷ slots) zero x e = omega (arith, ap (λ v. sum_by w (keys v)) (same_Some z x e), sum_by-append w (keys z) (flat_map keys slots))
  least_of w (z ∷ slots) (suc slot) x e = omega (arith, least_of w slots slot x e, sum_by-append w (keys z) (flat_map keys slots))

  pub worked_live : (slots : List X) (cells : List KeyCell) (slot at : ℕ) (x : X) → AreWorkedOnce keys slots cells → slice_get slots slot ≡ Some x → keys x ≡ at ∷ []
      → (cell : KeyCell) × (count : ℕ) × (slice_get cells at ≡ Some cell) × (cell.live ≡ Some count)
  worked_live slots cells slot at x h e works = found (slice_get cells at) refl (is_live_at cells at) refl one
    where
      one : 1 ≤ cond (is_live_at cells at) 1 0 + 0
      one =
          omega (
            arith,
            h.once at,
            least_of (λ k. cond (is_number at k) 1 0) slots slot x e,
            ap (count_by (is_number at)) works,
            one_key at at,
            ap (λ b. cond b 1 0 + 0) (eq-eqb at at refl),
          )

      live_of : (cell : KeyCell) (live : Option ℕ) → cell.live ≡ live → is_some live ≡ true → (count : ℕ) × (cell.live ≡ Some count)
      live_of cell None f g = absurd (cc)
      live_of cell (Some count) f g = (count, f)

      found : (o : Option KeyCell) → slice_get cells at ≡ o → (b : Bool) → is_live_at cells at ≡ b → 1 ≤ cond b 1 0 + 0
          → (cell : KeyCell) × (count : ℕ) × (slice_get cells at ≡ Some cell) × (cell.live ≡ Some count)
      found o f false g k = absurd (omega (arith, k))
      found None f true g k = absurd (let s = sym g ∙ ap is_live f in cc)
      found (Some cell) f true g k = let n = live_of cell cell.live refl (sym (ap is_live f) ∙ g) in (cell, n.0, f, n.1)

  -- a slot that works no cell takes a cell that is free
  pub take_once : (slots : List X) (cells : List KeyCell) (slot at bundle : ℕ) (x y : X) (cell : KeyCell) → AreWorkedOnce keys slots cells
      → slice_get slots slot ≡ Some x → keys x ≡ [] → keys y ≡ at ∷ [] → slice_get cells at ≡ Some cell → is_free cell ≡ true
      → AreWorkedOnce keys (slice_set slots slot y) (change (with_job bundle) at cells)
  take_once slots cells slot at bundle x y cell h e none works is free = record {
    once = λ k. counts k (at == k) refl (is_live_at cells at) refl;
  }
    where
      was_free : (live : Option ℕ) → (elim live as (λ _. Bool) [ None ↦ true | Some n ↦ false ]) ≡ true → is_some live ≡ false
      was_free None f = refl
      was_free (Some n) f = absurd (cc)

      dead : is_live_at cells at ≡ false
      dead = ap is_live is ∙ was_free cell.live free

      after : (k : ℕ) → is_live_at (change (with_job bundle) at cells) k ≡ cond (at == k) true (is_live_at cells k)
      after k = ap (λ (o : Option KeyCell). is_live_at (set_by (with_job bundle) o at cells) k) is ∙ live_set cells at cell (with_job bundle cell) k is

      same_dead : (k : ℕ) → (at == k) ≡ true → is_live_at cells k ≡ false
      same_dead k t = let s : at ≡ k = eqb-true at k t in ap (is_live_at cells) (sym s) ∙ dead

      step : (k : ℕ) → count_by (is_number k) (flat_map keys (slice_set slots slot y)) ≡ cond (is_live_at cells k) 1 0 + cond (at == k) 1 0
      step k =
          omega (
            arith,
            flat_set (λ n. cond (is_number k n) 1 0) keys slots slot x y e,
            ap (count_by (is_number k)) none,
            ap (count_by (is_number k)) works,
            one_key k at,
            h.once k,
          )

      counts : (k : ℕ) (b : Bool) → (at == k) ≡ b → (d : Bool) → is_live_at cells at ≡ d
          → count_by (is_number k) (flat_map keys (slice_set slots slot y)) ≡ cond (is_live_at (change (with_job bundle) at cells) k) 1 0
      counts k true t d f =
          step k ∙ (λ i. cond (same_dead k t i) 1 0 + cond (t i) 1 0)
          ∙ sym (ap (λ b. cond b 1 0) (after k ∙ ap (λ b. cond b true (is_live_at cells k)) t))
      counts k false t d f =
          step k ∙ (λ i. cond (is_live_at cells k) 1 0 + cond (t i) 1 0) ∙ plus (cond (is_live_at cells k) 1 0)
          ∙ sym (ap (λ b. cond b 1 0) (after k ∙ ap (λ b. cond b true (is_live_at cells k)) t))
        where
          plus : (n : ℕ) → n + 0 ≡ n
          plus n = omega arith

  -- a slot ends its job: its cell isn't live any more
  end_once : (slots : List X) (cells others : List KeyCell) (slot at : ℕ) (x y : X) → AreWorkedOnce keys slots cells
      → slice_get slots slot ≡ Some x → keys x ≡ at ∷ [] → keys y ≡ [] → is_live_at cells at ≡ true
      → ((k : ℕ) → is_live_at others k ≡ cond (at == k) false (is_live_at cells k))
      → AreWorkedOnce keys (slice_set slots slot y) others
  end_once slots cells others slot at x y h e works none live after = record { once = λ k. counts k (at == k) refl }
    where
      step : (k : ℕ) → count_by (is_number k) (flat_map keys (slice_set slots slot y)) + cond (at == k) 1 0 ≡ cond (is_live_at cells k) 1 0 + 0
      step k =
          omega (
            arith,
            flat_set (λ n. cond (is_number k n) 1 0) keys slots slot x y e,
            ap (count_by (is_number k)) none,
            ap (count_by (is_number k)) works,
            one_key k at,
            h.once k,
          )

      less : (a : ℕ) → a + 1 ≡ 1 + 0 → a ≡ 0
      less a f = omega (arith, f)

      same : (a b : ℕ) → a + 0 ≡ b + 0 → a ≡ b
      same a b f = omega (arith, f)

      counts : (k : ℕ) (b : Bool) → (at == k) ≡ b → count_by (is_number k) (flat_map keys (slice_set slots slot y)) ≡ cond (is_live_at others k) 1 0
      counts k true t =
          let there : is_live_at cells k ≡ true = let s : at ≡ k = eqb-true at k t in ap (is_live_at cells) (sym s) ∙ live in
          less (count_by (is_number k) (flat_map keys (slice_set slots slot y)))
          (ap (λ b. count_by (is_number k) (flat_map keys (slice_set slots slot y)) + cond b 1 0) (sym t) ∙ step k ∙ ap (λ b. cond b 1 0 + 0) there)
          ∙ sym (ap (λ b. cond b 1 0) (after k ∙ ap (λ b. cond b false (is_live_at cells k)) t))
      counts k false t =
          same (count_by (is_number k) (flat_map keys (slice_set slots slot y))) (cond (is_live_at cells k) 1 0)
          (ap (λ b. count_by (is_number k) (flat_map keys (slice_set slots slot y)) + cond b 1 0) (sym t) ∙ step k)
          ∙ sym (ap (λ b. cond b 1 0) (after k ∙ ap (λ b. cond b false (is_live_at cells k)) t))

  pub give_back_once : (slots : List X) (cells : List KeyCell) (slot at : ℕ) (x y : X) (cell : KeyCell) → AreWorkedOnce keys slots cells
      → slice_get slots slot ≡ Some x → keys x ≡ at ∷ [] → keys y ≡ [] → slice_get cells at ≡ Some cell → AreWorkedOnce keys (slice_set slots slot y) (change tried at cells)
  give_back_once slots cells slot at x y cell h e works none is =
      let live = worked_live slots cells slot at x h e works in
      end_once slots cells (change tried at cells) slot at x y h e works none (ap is_live live.2 ∙ ap is_some live.3)
      (λ k. ap (λ (o : Option KeyCell). is_live_at (set_by tried o at cells) k) is ∙ live_set cells at cell (tried cell) k is)

  -- a commit of a key job
  pub done_once : (plan : Plan) (before : List StageMarks) (done : Done) (arrivals : List Arrival) (slots : List X) (cells : List KeyCell) (slot : ℕ) (x y : X) (cell : KeyCell) → AreWorkedOnce keys slots cells
      → slice_get slots slot ≡ Some x → keys x ≡ done.cell ∷ [] → keys y ≡ [] → slice_get cells done.cell ≡ Some cell
      → AreWorkedOnce keys (slice_set slots slot y) (place plan before (Some done) arrivals cells)
  done_once plan before done arrivals slots cells slot x y cell h e works none is =
      let live = worked_live slots cells slot done.cell x h e works in
      end_once slots cells (place plan before (Some done) arrivals cells) slot done.cell x y h e works none (ap is_live live.2 ∙ ap is_some live.3)
      (λ k. live_all plan before arrivals (finish before (Some done) cells) k
      ∙ ap (λ (o : Option KeyCell). is_live_at (set_done before done o cells) k) is ∙ live_set cells done.cell cell (with_done before done cell) k is)

  -- a commit of another job, and any step that leaves which cells a slot works
  pub other_once : (plan : Plan) (before : List StageMarks) (arrivals : List Arrival) (slots : List X) (cells : List KeyCell) (slot : ℕ) (x y : X) → AreWorkedOnce keys slots cells
      → slice_get slots slot ≡ Some x → keys x ≡ keys y → AreWorkedOnce keys (slice_set slots slot y) (place plan before None arrivals cells)
  other_once plan before arrivals slots cells slot x y h e same = record {
    once = λ k.
        omega (arith, flat_set (λ n. cond (is_number k n) 1 0) keys slots slot x y e, ap (count_by (is_number k)) same, h.once k)
        ∙ sym (ap (λ b. cond b 1 0) (live_all plan before arrivals cells k));
  }

  pub enroll_once : (slots : List X) (cells : List KeyCell) (y : X) → AreWorkedOnce keys slots cells → keys y ≡ [] → AreWorkedOnce keys (slots ++ y ∷ []) cells
  enroll_once slots cells y h none = record {
    once = λ k.
        ap (count_by (is_number k)) (flat_map-append keys slots (y ∷ []) ∙ ap (λ l. flat_map keys slots ++ (l ++ [])) none ∙ append-nil (flat_map keys slots)) ∙ h.once k;
  }
