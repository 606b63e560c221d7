-- What a commit brings to key cells: of its arrivals those at Stateful nodes, which the Groups leave.
use Rattle.std.proofs.Common.{◌≡◌, ℕ, zero, suc, ◌+◌, ◌-◌, ◌≤◌, Bool, true, false, cond, List, [], ◌∷◌, length, refl, sym, ap, subst, ◌∙◌, arith}
use Rattle.std.specs.Prelude.{Option, Some, None, not, ◌||◌, count_by, slice_get, unwrap_or}
use Rattle.std.specs.List.{filter, list_any}
use Rattle.std.specs.Option.{option_map}
use Rattle.std.proofs.lemmas.Bool.{false≢true}
use Rattle.std.proofs.lemmas.List.Filters.{length-filter_both}
use Rattle.std.proofs.lemmas.List.Sums.{sum_by-cons}
use Rattle.beam_values.specs.Nodes.{is_group, is_group_kind, is_stateful, is_stateful_kind, is_write, is_write_kind}
use Rattle.beam_values.specs.declared.arrival.Arrival.{Arrival}
use Rattle.beam_values.specs.declared.marks.StageMarks.{StageMarks}
use Rattle.beam_values.specs.declared.plan.Node.{Node}
use Rattle.beam_values.specs.declared.plan.NodeKind.{NodeKind}
use Rattle.beam_values.specs.declared.plan.NodeKind.TheVariants.{Source, ParDo, Flatten, WindowInto, Group, Stateful, Write}
use Rattle.beam_values.specs.declared.plan.Plan.{Plan}
use Rattle.group_cells.specs.Commits.{is_at_group}
use Rattle.stateful_core.specs.Cells.{KeyCell}
use Rattle.stateful_core.specs.Opening.{IsPrepared, SeenKeys}
use Rattle.stateful_core.specs.Placing.{Done, finish, place, place_all}
use Rattle.stateful_core.proofs.LeftOver.{placed_left, prepared_left}
use Rattle.book_core.specs.Book.{waiting_in}
use Rattle.book_core.specs.KeyCells.{CanPlace, cells_in, has_stateful}
use Rattle.book_core.proofs.CommitParts.{filter_within}
use Rattle.book_core.proofs.KeysKept.{all_waiting, few_counted}

-- ---- kinds of nodes

no_group : (kind : NodeKind) → is_stateful_kind kind ≡ true → is_group_kind kind ≡ false
no_group (Stateful work args log) e = refl
no_group (Source work args files estimator) e = absurd (cc)
no_group (ParDo work args) e = absurd (cc)
no_group Flatten e = absurd (cc)
no_group (WindowInto strategy) e = absurd (cc)
no_group (Group trigger) e = absurd (cc)
no_group (Write label) e = absurd (cc)

no_stateful : (kind : NodeKind) → is_write_kind kind ≡ true → is_stateful_kind kind ≡ false
no_stateful (Write label) e = refl
no_stateful (Source work args files estimator) e = absurd (cc)
no_stateful (ParDo work args) e = absurd (cc)
no_stateful Flatten e = absurd (cc)
no_stateful (WindowInto strategy) e = absurd (cc)
no_stateful (Group trigger) e = absurd (cc)
no_stateful (Stateful work args log) e = absurd (cc)

pub stateful_no_group : (plan : Plan) (node : ℕ) → is_stateful plan node ≡ true → is_group plan node ≡ false
stateful_no_group plan node e = by (slice_get plan.nodes node) e
  where
    by : (found : Option Node) → unwrap_or (option_map (λ (n : Node). is_stateful_kind n.kind) found) false ≡ true
        → unwrap_or (option_map (λ (n : Node). is_group_kind n.kind) found) false ≡ false
    by None e = absurd (cc)
    by (Some n) e = no_group n.kind e

pub write_no_stateful : (plan : Plan) (node : ℕ) → is_write plan node ≡ true → is_stateful plan node ≡ false
write_no_stateful plan node e = by (slice_get plan.nodes node) e
  where
    by : (found : Option Node) → unwrap_or (option_map (λ (n : Node). is_write_kind n.kind) found) false ≡ true
        → unwrap_or (option_map (λ (n : Node). is_stateful_kind n.kind) found) false ≡ false
    by None e = absurd (cc)
    by (Some n) e = no_stateful n.kind e

-- a plan without Stateful nodes
pub no_stateful_at : (plan : Plan) → has_stateful plan ≡ false → (n : ℕ) → is_stateful plan n ≡ false
no_stateful_at plan none n = by plan.nodes n none
  where
    found : Option Node → Bool
    found o = unwrap_or (option_map (λ (n : Node). is_stateful_kind n.kind) o) false

    at : (kind : Bool) (later : Bool) → (kind || later) ≡ false → (kind ≡ false) × (later ≡ false)
    at true later e = absurd (cc)
    at false later e = (refl, e)

    by : (nodes : List Node) (n : ℕ) → list_any (λ (node : Node). is_stateful_kind node.kind) nodes ≡ false → found (slice_get nodes n) ≡ false
    by [] n e = refl
    by (node ∷ nodes) zero e = (at (is_stateful_kind node.kind) (list_any (λ (node : Node). is_stateful_kind node.kind) nodes) e).0
    by (node ∷ nodes) (suc n) e = by nodes n (at (is_stateful_kind node.kind) (list_any (λ (node : Node). is_stateful_kind node.kind) nodes) e).1

-- ---- those at Stateful nodes

abbrev pub is_keyed : Plan → Arrival → Bool
is_keyed plan arrival = is_stateful plan arrival.node

abbrev pub is_other : Plan → Arrival → Bool
is_other plan arrival = not (is_stateful plan arrival.node)

-- the Groups leave them all
at_groups : (plan : Plan) (arrival : Arrival) → not (is_at_group plan arrival) ≡ false → is_stateful plan arrival.node ≡ false
at_groups plan arrival e = by (is_group plan arrival.node) (is_stateful plan arrival.node) refl refl e
  where
    by : (g w : Bool) → is_group plan arrival.node ≡ g → is_stateful plan arrival.node ≡ w → not g ≡ false → w ≡ false
    by g false of_group of_stateful e = refl
    by true true of_group of_stateful e = absurd (false≢true (sym (stateful_no_group plan arrival.node of_stateful) ∙ of_group))
    by false true of_group of_stateful e = absurd (cc)

pub filtered_many : {X : Type 0} (p : X → Bool) (xs : List X) → length (filter p xs) ≡ count_by p xs
filtered_many p [] = refl
filtered_many p (x ∷ xs) = by (p x) (sum_by-cons (λ y. cond (p y) 1 0) x xs) (filtered_many p xs)
  where
    by : (t : Bool) → count_by p (x ∷ xs) ≡ cond t 1 0 + count_by p xs → length (filter p xs) ≡ count_by p xs → length (cond t (x ∷ filter p xs) (filter p xs)) ≡ count_by p (x ∷ xs)
    by true e h = omega (arith, e, h)
    by false e h = omega (arith, e, h)

-- those that are written are among the others
pub others_written : (plan : Plan) (arrivals : List Arrival) → filter (λ arrival. is_write plan arrival.node) (filter (is_other plan) arrivals) ≡ filter (λ arrival. is_write plan arrival.node) arrivals
others_written plan arrivals =
    filter_within (λ (arrival : Arrival). is_write plan arrival.node) (is_other plan) (λ arrival e. ap not (write_no_stateful plan arrival.node e)) arrivals

-- so many are left
pub others_many : (plan : Plan) (arrivals : List Arrival) → length arrivals - length (filter (is_other plan) arrivals) ≡ count_by (is_keyed plan) arrivals
others_many plan arrivals =
    omega (arith, length-filter_both (is_keyed plan) (is_other plan) (λ arrival. refl) arrivals, filtered_many (is_keyed plan) arrivals)

-- where no node is Stateful, nothing waits
module _ (plan : Plan) (none : (n : ℕ) → is_stateful plan n ≡ false) where
  no_keyed : (arrivals : List Arrival) → filter (is_keyed plan) arrivals ≡ []
  no_keyed [] = refl
  no_keyed (arrival ∷ arrivals) =
      ap (λ (t : Bool). cond t (arrival ∷ filter (is_keyed plan) arrivals) (filter (is_keyed plan) arrivals)) (none arrival.node) ∙ no_keyed arrivals

  pub all_other : (arrivals : List Arrival) → filter (is_other plan) arrivals ≡ arrivals
  all_other [] = refl
  all_other (arrival ∷ arrivals) =
      ap (λ (t : Bool). cond (not t) (arrival ∷ filter (is_other plan) arrivals) (filter (is_other plan) arrivals)) (none arrival.node)
      ∙ ap (λ (l : List Arrival). arrival ∷ l) (all_other arrivals)

  pub none_counted : (arrivals : List Arrival) → count_by (is_keyed plan) arrivals ≡ 0
  none_counted arrivals = sym (filtered_many (is_keyed plan) arrivals) ∙ ap (λ (l : List Arrival). length l) (no_keyed arrivals)

  pub none_placed : (before : List StageMarks) (done : Option Done) (arrivals : List Arrival) → place plan before done arrivals [] ≡ []
  none_placed before done arrivals =
      sym (placed_left plan (is_keyed plan) (λ a off. off) before arrivals (finish before done []))
      ∙ ap (λ (l : List Arrival). place_all plan before l (finish before done [])) (no_keyed arrivals) ∙ finished done
    where
      finished : (d : Option Done) → finish before d [] ≡ []
      finished None = refl
      finished (Some d) = refl

-- what the Groups leave has all that comes to key cells
module _ (plan : Plan) (arrivals left : List Arrival) (e : left ≡ filter (λ arrival. not (is_at_group plan arrival)) arrivals) where
  -- it may be placed
  pub left_prepared : (done : Option Done) (keys : SeenKeys) → CanPlace plan done arrivals keys → CanPlace plan done left keys
  left_prepared done keys h some =
      subst (λ (l : List Arrival). IsPrepared plan done l keys) (sym e) (prepared_left plan (λ arrival. not (is_at_group plan arrival)) (at_groups plan) done arrivals keys (h some))

  -- and is, as if all were
  pub left_placed : (b : Plan) (before last : List StageMarks) (done : Option Done) (cells : List KeyCell) (new old : SeenKeys) → plan ≡ b → before ≡ last → cells_in old ≡ cells
      → cells_in new ≡ place plan before done left (cells_in old) → cells_in new ≡ place b last done arrivals cells
  left_placed b before last done cells new old of_plan of_marks of_cells is =
      is ∙ ap (λ (l : List Arrival). place plan before done l (cells_in old)) e
      ∙ placed_left plan (λ arrival. not (is_at_group plan arrival)) (at_groups plan) before arrivals (finish before done (cells_in old))
      ∙ ap (place plan before done arrivals) of_cells
      ∙ ap (λ (p : Plan). place p before done arrivals cells) of_plan ∙ ap (λ (l : List StageMarks). place b l done arrivals cells) of_marks

  keyed_same : filter (is_keyed plan) left ≡ filter (is_keyed plan) arrivals
  keyed_same =
      ap (filter (is_keyed plan)) e
      ∙ filter_within (is_keyed plan) (λ arrival. not (is_at_group plan arrival)) (λ arrival on. ap not (stateful_no_group plan arrival.node on)) arrivals

  pub left_many : count_by (is_keyed plan) left ≡ count_by (is_keyed plan) arrivals
  left_many = sym (filtered_many (is_keyed plan) left) ∙ ap (λ (l : List Arrival). length l) keyed_same ∙ filtered_many (is_keyed plan) arrivals

  pub left_few : count_by (is_keyed plan) left ≤ length arrivals
  left_few = omega (arith, left_many, few_counted (is_keyed plan) arrivals)

  -- so many elements wait then
  pub left_counted : (b : Plan) (last : List StageMarks) (done : Option Done) (cells : List KeyCell) → plan ≡ b
      → waiting_in (place b last done arrivals cells) ≡ waiting_in (finish last done cells) + count_by (is_keyed plan) left
  left_counted b last done cells of_plan =
      omega (arith, left_many, all_waiting b last arrivals (finish last done cells), ap (λ (p : Plan). count_by (is_keyed p) arrivals) of_plan)
