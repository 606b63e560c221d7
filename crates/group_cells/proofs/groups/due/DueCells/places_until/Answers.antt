use Rattle.std.proofs.Common.{◌≡◌, ◌<◌, ◌^◌, ◌≤ℤ◌, List, ℕ, Contains, map, subst, sym, true}
use Rattle.std.specs.BTreeSet.{contains, keys_between}
use Rattle.std.specs.declared.ops.Bound.TheVariants.{Included}
use Rattle.std.proofs.lemmas.Result.{IfOk-weaker}
use Rattle.beam_values.specs.Times.{least_time}
use Rattle.group_cells.specs.Due.{due_cmp}
use Rattle.group_cells.specs.declared.groups.due.DueKey.{DueKey}
use Rattle.group_cells.proofs.DueRanges.{key_between, keys_forward}
use Rattle.group_cells.proofs.groups.due.DueCells.places_until.Goals as goal

pub places_between-requires : goal.places_between-requires
places_between-requires c = keys_forward c.args.node c.args.mark c.first.result c.last.result c.first.ensures c.last.ensures.value c.last.ensures.reached

pub returns : goal.returns
returns c =
    let first = c.first.result in
    let last_ = c.last.result in
    let moments = c.args.self.now.moments in
    IfOk-weaker c.places_between.result
    (λ places. places.items ≡ map (λ (k : DueKey). k.place) (keys_between due_cmp (Included first) (Included last_) moments))
    (λ places. (q : DueKey) → q.node ≡ c.args.node → least_time ≤ℤ q.moment → q.moment ≤ℤ c.args.mark → q.place < 2 ^ 32 → contains due_cmp moments q ≡ true → Contains places.items q.place)
    (λ places e q at low high fits there.
    subst (λ (l : List ℕ). Contains l q.place) (sym e)
    (key_between moments c.args.node c.args.mark first last_ q c.first.ensures c.last.ensures.value at low high fits there))
    c.places_between.ensures
