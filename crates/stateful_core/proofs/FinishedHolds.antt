-- The holds that a commit leaves.
use Rattle.std.proofs.Common.{◌≡◌, ℕ, ◌+◌, ◌<◌, ℤ, Bool, true, false, cond, List, [], ◌∷◌, ◌++◌, length, map, take, get_or, Option, Some, None, refl, sym, ap, subst, ◌∙◌, append_assoc}
use Rattle.std.specs.Prelude.{slice_get, unwrap_or}
use Rattle.std.specs.List.{filter}
use Rattle.std.specs.Option.{option_map}
use Rattle.std.proofs.lemmas.List.{take_more, length-set, map-append, append-nil}
use Rattle.std.proofs.lemmas.List.Elements.{filter-append}
use Rattle.std.proofs.lemmas.Option.{slice_get_within}
use Rattle.beam_values.proofs.Bags.{bag_swap, bag_sym}
use Rattle.beam_values.specs.Nodes.{is_stateful, is_stateful_kind}
use Rattle.beam_values.specs.declared.arrival.Arrival.{Arrival}
use Rattle.beam_values.specs.declared.marks.StageMarks.{StageMarks}
use Rattle.beam_values.specs.declared.plan.Node.{Node}
use Rattle.beam_values.specs.declared.plan.Plan.{Plan}
use Rattle.beam_model.specs.Holds.{Hold, arrival_hold}
use Rattle.stateful_core.specs.Cells.{KeyCell, key_holds}
use Rattle.stateful_core.specs.Lasting.{arrival_holds}
use Rattle.stateful_core.specs.Least.{AreLeast}
use Rattle.stateful_core.specs.Placing.{Done, with_done, set_done, finish, place}
use Rattle.stateful_core.proofs.HoldsKept.{place_holds_bag}
use Rattle.stateful_core.proofs.LeastOf.{are_bag}

pub finish_sized : (before : List StageMarks) (done : Option Done) (cells : List KeyCell) → length (finish before done cells) ≡ length cells
finish_sized before None cells = refl
finish_sized before (Some done) cells = by (slice_get cells done.cell)
  where
    by : (found : Option KeyCell) → length (set_done before done found cells) ≡ length cells
    by None = refl
    by (Some cell) = length-set cells done.cell (with_done before done cell)

-- ---- arrivals

pub arrivals_more : (plan : Plan) (before : List StageMarks) (arrivals : List Arrival) (at : ℕ) (arrival : Arrival) → at < length arrivals → arrival ≡ get_or arrivals at arrival
    → arrival_holds plan before (take (at + 1) arrivals) ≡ arrival_holds plan before (take at arrivals) ++ cond (is_stateful plan arrival.node) (arrival_hold before arrival ∷ []) []
arrivals_more plan before arrivals at arrival less read =
    ap (arrival_holds plan before) (take_more arrivals at arrival less ∙ ap (λ a. take at arrivals ++ a ∷ []) (sym read))
    ∙ ap (map (arrival_hold before)) (filter-append (λ a. is_stateful plan a.node) (take at arrivals) (arrival ∷ []))
    ∙ map-append (arrival_hold before) (filter (λ a. is_stateful plan a.node) (take at arrivals)) (filter (λ a. is_stateful plan a.node) (arrival ∷ []))
    ∙ ap (λ l. arrival_holds plan before (take at arrivals) ++ l) (by (is_stateful plan arrival.node))
  where
    by : (b : Bool) → map (arrival_hold before) (cond b (arrival ∷ []) []) ≡ cond b (arrival_hold before arrival ∷ []) []
    by true = refl
    by false = refl

pub stateful_within : (plan : Plan) (node : ℕ) → is_stateful plan node ≡ true → node < length plan.nodes
stateful_within plan node h = by (slice_get plan.nodes node) refl
  where
    by : (found : Option Node) → slice_get plan.nodes node ≡ found → node < length plan.nodes
    by None e = absurd (let f = ap (λ (o : Option Node). unwrap_or (option_map (λ n. is_stateful_kind n.kind) o) false) e in cc)
    by (Some n) e = slice_get_within plan.nodes node n e

-- the whole
pub placed_least : (plan : Plan) (before : List StageMarks) (done : Option Done) (arrivals : List Arrival) (cells : List KeyCell) (least : List ℤ)
    → AreLeast least (key_holds (finish before done cells) ++ arrival_holds plan before arrivals) → AreLeast least (key_holds (place plan before done arrivals cells))
placed_least plan before done arrivals cells least h =
    are_bag least (key_holds (finish before done cells) ++ arrival_holds plan before arrivals) (key_holds (place plan before done arrivals cells))
    (bag_sym (key_holds (place plan before done arrivals cells)) (key_holds (finish before done cells) ++ arrival_holds plan before arrivals) (place_holds_bag plan before arrivals (finish before done cells))) h

pub arrival_on : (plan : Plan) (before : List StageMarks) (arrival : Arrival) (least : List ℤ) (holds : List Hold) → is_stateful plan arrival.node ≡ true
    → AreLeast least (arrival_hold before arrival ∷ holds) → AreLeast least (holds ++ cond (is_stateful plan arrival.node) (arrival_hold before arrival ∷ []) [])
arrival_on plan before arrival least holds on h =
    subst (λ (l : List Hold). AreLeast least (holds ++ l)) (sym (ap (λ b. cond b (arrival_hold before arrival ∷ []) []) on))
    (are_bag least (arrival_hold before arrival ∷ holds) (holds ++ arrival_hold before arrival ∷ []) (bag_swap (arrival_hold before arrival ∷ []) holds) h)

pub arrival_off : (plan : Plan) (before : List StageMarks) (arrival : Arrival) (least : List ℤ) (holds : List Hold) → is_stateful plan arrival.node ≡ false
    → AreLeast least holds → AreLeast least (holds ++ cond (is_stateful plan arrival.node) (arrival_hold before arrival ∷ []) [])
arrival_off plan before arrival least holds off h =
    subst (λ (l : List Hold). AreLeast least (holds ++ l)) (sym (ap (λ b. cond b (arrival_hold before arrival ∷ []) []) off))
    (subst (AreLeast least) (sym (append-nil holds)) h)

pub arrival_step : (plan : Plan) (before : List StageMarks) (arrivals : List Arrival) (at : ℕ) (arrival : Arrival) (least : List ℤ) (holds : List Hold) → at < length arrivals → arrival ≡ get_or arrivals at arrival
    → AreLeast least ((holds ++ arrival_holds plan before (take at arrivals)) ++ cond (is_stateful plan arrival.node) (arrival_hold before arrival ∷ []) [])
    → AreLeast least (holds ++ arrival_holds plan before (take (at + 1) arrivals))
arrival_step plan before arrivals at arrival least holds less read h =
    subst (AreLeast least)
    (append_assoc holds (arrival_holds plan before (take at arrivals)) (cond (is_stateful plan arrival.node) (arrival_hold before arrival ∷ []) [])
    ∙ ap (λ l. holds ++ l) (sym (arrivals_more plan before arrivals at arrival less read))) h
