-- What the Groups gave at a commit, in the words of the marks that are held.
use Rattle.std.proofs.Common.{◌≡◌, ℕ, ◌<◌, ◌++◌, ℤ, List, [], length, map, take, drop, sym, ap, subst, ◌∙◌, arith}
use Rattle.std.specs.Int.{int_min}
use Rattle.std.proofs.Math.Seq.{take-append_seam}
use Rattle.std.proofs.lemmas.Option.{slice_get_within}
use Rattle.beam_values.specs.Marks.{AreMarks, node_marks}
use Rattle.beam_values.specs.declared.arrival.Arrival.{Arrival}
use Rattle.beam_values.specs.declared.cell.Pane.{Pane}
use Rattle.beam_values.specs.declared.marks.StageMarks.{StageMarks}
use Rattle.beam_values.specs.declared.plan.Plan.{Plan}
use Rattle.beam_model.specs.Holds.{Hold, pane_hold, least_hold}
use Rattle.group_cells.specs.Commits.{hold_with, IsCommitted, NoneFalls, RisesFrom, SeenGroups}
use Rattle.watermarks.specs.Holds.{SeenHolds, hold_at}
use Rattle.stateful_core.specs.Least.{AreLeast}
use Rattle.book_core.specs.Indexes.{AreLeastWith, least_in, least_with}

pub all_written : (new old : List StageMarks) (count : ℕ) (marks : List StageMarks) → marks ≡ take count (new ++ drop (length new) old) → length new ≡ count → marks ≡ new
all_written new old count marks is sized =
    is ∙ ap (λ (n : ℕ). take n (new ++ drop (length new) old)) (sym sized) ∙ take-append_seam new (drop (length new) old)

-- ---- the least of what is held and of key cells, of each node of the plan

pub least_of_each : (plan : Plan) (held : List SeenHolds) (others : List Hold) (keyed least : List ℤ) → length held ≡ length plan.nodes → length keyed ≡ length plan.nodes
    → AreLeast keyed others → ((n : ℕ) → n < length held → hold_at least n ≡ int_min (least_in held n) (hold_at keyed n)) → AreLeastWith plan held others least
least_of_each plan held others keyed least sized keyed_sized are each n less =
    each n (omega (arith, less, sized)) ∙ ap (int_min (least_in held n)) (are n (omega (arith, less, keyed_sized)))

-- where no key cell stands, what is held alone
pub least_alone : (plan : Plan) (held : List SeenHolds) (others : List Hold) (keyed least : List ℤ) → length held ≡ length plan.nodes → others ≡ [] → keyed ≡ []
    → ((n : ℕ) → n < length held → hold_at least n ≡ int_min (least_in held n) (hold_at keyed n)) → AreLeastWith plan held others least
least_alone plan held others keyed least sized none empty each n less =
    each n (omega (arith, less, sized)) ∙ ap (λ (l : List ℤ). int_min (least_in held n) (hold_at l n)) empty ∙ ap (λ (l : List Hold). least_with held l n) (sym none)

marks_within : (plan : Plan) (hold other : ℕ → ℤ) (marks : List StageMarks) → ((n : ℕ) → n < length plan.nodes → hold n ≡ other n) → AreMarks plan hold marks → AreMarks plan other marks
marks_within plan hold other marks same h = record {
  sized = h.sized;
  each = λ n node at. h.each n node at ∙ ap (λ (m : ℤ). node_marks marks node.inputs m) (same n (slice_get_within plan.nodes n node at));
}

pub rises_as : (plan : Plan) (held : List SeenHolds) (others : List Hold) (least : List ℤ) (before old : List StageMarks) → AreLeastWith plan held others least → old ≡ before
    → RisesFrom plan (least_with held others) before → RisesFrom plan (hold_at least) old
rises_as plan held others least before old e f h marks are =
    subst (λ (l : List StageMarks). NoneFalls l marks) (sym f) (h marks (marks_within plan (hold_at least) (least_with held others) marks e are))

pub fired_as : (plan : Plan) (c : ℕ) (held : List SeenHolds) (keyed : List Hold) (least : List ℤ) (before after : List StageMarks) (arrivals left : List Arrival) (old new : SeenGroups) (fired : List Pane)
    → AreLeastWith plan held keyed least
    → IsCommitted plan c before after (hold_at least) arrivals left old new fired → IsCommitted plan c before after (least_with held keyed) arrivals left old new fired
fired_as plan c held keyed least before after arrivals left old new fired e h = record {
  entries = h.entries;
  dropped = h.dropped;
  others = h.others;
  at_groups = h.at_groups;
  of_commit = h.of_commit;
  ordered = h.ordered;
  places = h.places;
  plan_stays = h.plan_stays;
  marks = marks_within plan (hold_with (hold_at least) before fired) (hold_with (least_with held keyed) before fired) after
      (λ n less. ap (λ (m : ℤ). int_min m (least_hold (map (pane_hold before) fired) n)) (e n less)) h.marks;
}
