-- What is known of the windows of each Group and key, as cells of one come or change.
use Rattle.std.proofs.Common.{◌≡◌, ℕ, zero, suc, ◌==◌, ℤ, Bool, true, false, cond, List, [], ◌∷◌, ◌++◌, map, length, Option, Some, None, refl, sym, ap, subst, ◌∙◌, append-nil}
use Rattle.std.specs.Prelude.{◌&&◌, ◌||◌, not, bytes_eq}
use Rattle.std.specs.Option.{is_some}
use Rattle.std.specs.BTreeMap.{BTreeMap}
use Rattle.std.specs.List.{All, filter}
use Rattle.std.specs.Ordering.{is_eq}
use Rattle.std.proofs.lemmas.Bool.{and_parts, eqb-true, false≢true}
use Rattle.std.proofs.lemmas.List.Elements.{All-head, All-nil, All-cons, All-tail, All-weaker, filter_passes}
use Rattle.beam_values.specs.Firing.{is_expired}
use Rattle.beam_values.specs.Intervals.{Interval}
use Rattle.beam_values.specs.Marks.{marks_at}
use Rattle.beam_values.specs.Nodes.{is_group}
use Rattle.beam_values.specs.Spans.{same_span}
use Rattle.beam_values.specs.Spelling.{spelling}
use Rattle.beam_values.specs.declared.arrival.Arrival.{Arrival}
use Rattle.beam_values.specs.declared.cell.Cell.{Cell}
use Rattle.beam_values.specs.declared.cell.Pane.{Pane}
use Rattle.beam_values.specs.declared.element.Element.{Element}
use Rattle.beam_values.specs.declared.element.Timing.{Timing}
use Rattle.beam_values.specs.declared.marks.StageMarks.{StageMarks}
use Rattle.beam_values.specs.declared.plan.Plan.{Plan}
use Rattle.beam_values.specs.declared.value.Value.{Value}
use Rattle.beam_model.specs.Panes.{GroupRules, is_cell_at_key, rules_of}
use Rattle.beam_model.specs.Sessions.{is_keyed}
use Rattle.group_cells.specs.Arrivals.{merging, with_arrivals}
use Rattle.group_cells.specs.AtPlaces.{at_place}
use Rattle.group_cells.specs.Cells.{after_firing, firing_of, once_fired}
use Rattle.group_cells.specs.Commits.{arrives_in_time, cell_place, cells_keyed, elements_keyed, is_at_group, is_taken}
use Rattle.group_cells.specs.KeyLists.{led_key_cmp, stands, stands_here}
use Rattle.group_cells.specs.KnownWindows.{known_of, opens, opens_as, AreKnown, AreStanding, IsKnown, IsKnownOf}
use Rattle.group_cells.specs.Placing.{is_same_key, is_standing}
use Rattle.group_cells.specs.Plain.{AreNodesFired, ArePlacedAt, is_arrival_at}
use Rattle.group_cells.specs.declared.groups.keyed.GroupKey.{GroupKey}
use Rattle.group_cells.specs.declared.groups.standing.Known.{Known}
use Rattle.group_cells.specs.declared.groups.standing.Known.TheVariants.{Apart, Nothing}
use Rattle.group_cells.proofs.AllArrived.{all_behind}
use Rattle.group_cells.proofs.KeyMaps.{led_same}
use Rattle.group_cells.proofs.KnownCells.{known_alike, known_as, known_at, known_same, pushed_opens}
use Rattle.group_cells.proofs.ListedWindows.{listed_as}
use Rattle.group_cells.proofs.PlacedCells.{GoesOn, placed_on}
use Rattle.group_cells.proofs.PlacedKeys.{at_alike, at_itself, is_at, placed_other}
use Rattle.group_cells.proofs.Projecting.{project_merging}

-- ---- one more cell, which isn't listed

push_read : {X : Type 0} (q : X → Bool) (xs : List X) (x : X) (p : ℕ) → q x ≡ false → at_place q false (xs ++ x ∷ []) p ≡ at_place q false xs p
push_read q [] x zero off = off
push_read q [] x (suc p) off = refl
push_read q (y ∷ xs) x zero off = refl
push_read q (y ∷ xs) x (suc p) off = push_read q xs x p off

off_opens : (rules : GroupRules) (mark : ℤ) (node : ℕ) (key : Value) (cell : Cell) (s : Interval) → stands_here node key cell ≡ false → opens_as rules mark node key s cell ≡ false
off_opens rules mark node key cell s off = by (is_cell_at_key node key cell) (is_standing cell.merged_into) (not (is_expired rules.trigger cell.span.end mark)) (same_span cell.span s) off
  where
    by : (a t n e : Bool) → (a && t) ≡ false → (a && ((t && n) && e)) ≡ false
    by true true n e h = absurd (false≢true (sym h))
    by true false n e h = refl
    by false t n e h = refl

pub known_unlisted : (rules : GroupRules) (node : ℕ) (key : Value) (cells : List Cell) (cell : Cell) (o : Option Known) → stands_here node key cell ≡ false → IsKnownOf rules node key cells o
    → IsKnownOf rules node key (cells ++ cell ∷ []) o
known_unlisted rules node key cells cell None off h = λ p. push_read (stands_here node key) cells cell p off ∙ h p
known_unlisted rules node key cells cell (Some (Apart listed)) off h =
    listed_as (opens rules listed.mark node key cells) (opens rules listed.mark node key (cells ++ cell ∷ [])) listed.by_end
    (λ p s. sym (push_read (opens_as rules listed.mark node key s) cells cell p (off_opens rules listed.mark node key cell s off))) h
known_unlisted rules node key cells cell (Some Nothing) off h = tt

module _ (plan : Plan) (standing : BTreeMap GroupKey Known) (cells : List Cell) (cell : Cell) (h : AreStanding plan standing cells) where
  pub standing_unmerged : (is_group plan cell.node && (rules_of plan cell.node).merges) ≡ false → AreStanding plan standing (cells ++ cell ∷ [])
  standing_unmerged apart = record {
    each = λ q at merges. known_unlisted (rules_of plan q.node) q.node q.key cells cell (known_of standing q) (by q at merges (cell.node == q.node) refl) (h.each q at merges);
  }
    where
      by : (q : GroupKey) → is_group plan q.node ≡ true → (rules_of plan q.node).merges ≡ true → (b : Bool) → (cell.node == q.node) ≡ b → stands_here q.node q.key cell ≡ false
      by q at merges true e = absurd (false≢true (sym apart ∙ ap (λ n. is_group plan n && (rules_of plan n).merges) (eqb-true cell.node q.node e) ∙ (λ i. at i && merges i)))
      by q at merges false e = ap (λ b. (b && bytes_eq (spelling cell.key) (spelling q.key)) && stands cell) e

  pub standing_merged : stands cell ≡ false → AreStanding plan standing (cells ++ cell ∷ [])
  standing_merged off = record {
    each = λ q at merges. known_unlisted (rules_of plan q.node) q.node q.key cells cell (known_of standing q) (ap (λ b. is_cell_at_key q.node q.key cell && b) off ∙ none (is_cell_at_key q.node q.key cell)) (h.each q at merges);
  }
    where
      none : (a : Bool) → (a && false) ≡ false
      none true = refl
      none false = refl

-- ---- what is noted of one Group and key is replaced

module _ (plan : Plan) (key : GroupKey) (known : Known) (old taken put : BTreeMap GroupKey Known) (new : List Cell)
    (taken_is : (q : GroupKey) → is_eq (led_key_cmp key q) ≡ false → known_of taken q ≡ known_of old q)
    (put_is : (q : GroupKey) → known_of put q ≡ cond (is_eq (led_key_cmp key q)) (Some known) (known_of taken q))
    (here : IsKnown (rules_of plan key.node) key.node key.key new known)
    (others : (q : GroupKey) → is_group plan q.node ≡ true → (rules_of plan q.node).merges ≡ true → is_at q.node q.key key.node key.key ≡ false
    → IsKnownOf (rules_of plan q.node) q.node q.key new (known_of old q)) where
  known_is : (q : GroupKey) (b : Bool) → is_at q.node q.key key.node key.key ≡ b → known_of put q ≡ cond b (Some known) (known_of old q)
  known_is q true on = put_is q ∙ ap (λ t. cond t (Some known) (known_of taken q)) (led_same key q ∙ on)
  known_is q false off = put_is q ∙ ap (λ t. cond t (Some known) (known_of taken q)) (led_same key q ∙ off) ∙ taken_is q (led_same key q ∙ off)

  pub standing_replaced : AreStanding plan put new
  standing_replaced = record { each = λ q at merges. by q at merges (is_at q.node q.key key.node key.key) refl }
    where
      by : (q : GroupKey) → is_group plan q.node ≡ true → (rules_of plan q.node).merges ≡ true → (b : Bool) → is_at q.node q.key key.node key.key ≡ b
          → IsKnownOf (rules_of plan q.node) q.node q.key new (known_of put q)
      by q at merges false off = subst (IsKnownOf (rules_of plan q.node) q.node q.key new) (sym (known_is q false off)) (others q at merges off)
      by q at merges true on =
          subst (IsKnownOf (rules_of plan q.node) q.node q.key new) (sym (known_is q true on))
          (known_same (rules_of plan q.node) key.node key.key q.node q.key new (Some known) (λ cell. at_alike q.node q.key key.node key.key on cell.node cell.key)
          (subst (λ (n : ℕ). IsKnownOf (rules_of plan n) key.node key.key new (Some known)) (eqb-true key.node q.node (and_parts (key.node == q.node) (is_same_key key.key q.key) on).0) here))

-- of a cell that stands and comes behind the others
pub standing_more : (plan : Plan) (old taken put : BTreeMap GroupKey Known) (cells : List Cell) (cell : Cell) (key : GroupKey) (known : Known) → AreStanding plan old cells
    → key ≡ record { node = cell.node; key = cell.key }
    → ((q : GroupKey) → is_eq (led_key_cmp key q) ≡ false → known_of taken q ≡ known_of old q)
    → ((q : GroupKey) → known_of put q ≡ cond (is_eq (led_key_cmp key q)) (Some known) (known_of taken q))
    → IsKnown (rules_of plan key.node) key.node key.key (cells ++ cell ∷ []) known → AreStanding plan put (cells ++ cell ∷ [])
standing_more plan old taken put cells cell key known h keyed taken_is put_is here =
    standing_replaced plan key known old taken put (cells ++ cell ∷ []) taken_is put_is here
    (λ q at merges off. known_unlisted (rules_of plan q.node) q.node q.key cells cell (known_of old q)
    (ap (λ b. b && stands cell) (sym (ap (λ (x : GroupKey). is_at q.node q.key x.node x.key) keyed) ∙ off)) (h.each q at merges))

pub pushed_known : (plan : Plan) (rules : GroupRules) (mark : ℤ) (cells : List Cell) (cell : Cell) (place : ℕ) (key : GroupKey) (known after : Known) → rules ≡ rules_of plan key.node
    → key ≡ record { node = cell.node; key = cell.key } → place ≡ length cells → is_standing cell.merged_into ≡ true → AreKnown mark (opens rules mark key.node key.key cells) known
    → ((at : ℤ) (test : ℕ → Interval → Bool) → AreKnown at test known → AreKnown at (λ other s. test other s || (other == place && (not (is_expired rules.trigger s.end at) && same_span cell.span s))) after)
    → IsKnown (rules_of plan key.node) key.node key.key (cells ++ cell ∷ []) after
pushed_known plan rules mark cells cell place key known after same keyed behind on h step =
    subst (λ (r : GroupRules). IsKnown r key.node key.key (cells ++ cell ∷ []) after) same
    (known_at rules mark key.node key.key (cells ++ cell ∷ []) after
    (known_as mark (λ other s. opens rules mark key.node key.key cells other s || (other == place && (not (is_expired rules.trigger s.end mark) && same_span cell.span s)))
    (opens rules mark key.node key.key (cells ++ cell ∷ [])) after
    (pushed_opens rules mark key.node key.key cells cell place behind (ap (λ (k : GroupKey). is_cell_at_key k.node k.key cell) keyed ∙ at_itself cell.node cell.key) on)
    (step mark (opens rules mark key.node key.key cells) h)))

pub not_standing : (o : Option Interval) → is_some o ≡ true → is_standing o ≡ false
not_standing None e = absurd (false≢true e)
not_standing (Some into) e = refl

pub yet_standing : (o : Option Interval) → is_some o ≡ false → is_standing o ≡ true
yet_standing None e = refl
yet_standing (Some into) e = absurd (false≢true (sym e))

-- of the key that is placed it is told, and of others nothing changes
pub standing_placed : (plan : Plan) (before : ℤ) (c : ℕ) (key : GroupKey) (own : List Element) (cells placed : List Cell) (old taken put : BTreeMap GroupKey Known) (known : Known)
    → is_group plan key.node ≡ true → ArePlacedAt (rules_of plan key.node) before key.node key.key c own cells placed → AreStanding plan old cells
    → ((q : GroupKey) → is_eq (led_key_cmp key q) ≡ false → known_of taken q ≡ known_of old q)
    → ((q : GroupKey) → known_of put q ≡ cond (is_eq (led_key_cmp key q)) (Some known) (known_of taken q))
    → IsKnown (rules_of plan key.node) key.node key.key placed known → AreStanding plan put placed
standing_placed plan before c key own cells placed old taken put known group placed_are h taken_is put_is here =
    standing_replaced plan key known old taken put placed taken_is put_is here
    (λ q at merges off. known_alike (rules_of plan q.node) q.node q.key cells placed goes.0 (known_of old q) goes.1
    (ap (map (λ (cell : Cell). cell.merged_into)) (placed_other q.node q.key (rules_of plan key.node) before key.node key.key c own cells placed off placed_are)) (h.each q at merges))
  where
    goes : GoesOn cells placed
    goes = placed_on plan (rules_of plan key.node) key.node key.key group before c own cells placed placed_are

-- arrivals where windows don't merge leave it
pub standing_arrived : (plan : Plan) (before : List StageMarks) (c : ℕ) (arrivals : List Arrival) (cells : List Cell) (standing : BTreeMap GroupKey Known)
    → AreStanding plan standing cells → AreStanding plan standing (with_arrivals plan before c cells arrivals)
standing_arrived plan before c arrivals cells standing h = record {
  each = λ q at merges.
      let goes = all_behind plan before c arrivals cells in
      known_alike (rules_of plan q.node) q.node q.key cells (with_arrivals plan before c cells arrivals) goes.0 (known_of standing q) goes.1
      (ap (map (λ (cell : Cell). cell.merged_into)) (project_merging plan before c q.node q.key at merges arrivals cells)) (h.each q at merges);
}

-- and so does firing
pub standing_fired : (plan : Plan) (before : List StageMarks) (hold : ℕ → ℤ) (c : ℕ) (cells new : List Cell) (marks : List StageMarks) (fired : List Pane) (standing : BTreeMap GroupKey Known)
    → AreNodesFired plan before hold c cells new marks fired → AreStanding plan standing cells → AreStanding plan standing new
standing_fired plan before hold c cells new marks fired standing fires h = record {
  each = λ q at merges.
      known_alike (rules_of plan q.node) q.node q.key cells new [] (known_of standing q) (fires.places ∙ sym (append-nil (map cell_place cells)))
      (ap (map (λ (cell : Cell). cell.merged_into)) (fires.each q.node q.key at).0 ∙ same (rules_of plan q.node) (marks_at marks q.node).mark_in (cells_keyed q.node q.key cells)) (h.each q at merges);
}
  where
    same : (rules : GroupRules) (mark : ℤ) (xs : List Cell) → map (λ (cell : Cell). cell.merged_into) (map (after_firing rules mark) xs) ≡ map (λ (cell : Cell). cell.merged_into) xs
    same rules mark [] = refl
    same rules mark (x ∷ xs) = λ i. one (firing_of rules mark x) i ∷ same rules mark xs i
      where
        one : (t : Option Timing) → (once_fired t x).merged_into ≡ x.merged_into
        one None = refl
        one (Some timing) = refl

-- ---- what comes later is in time

pub later_in_time : (plan : Plan) (before : List StageMarks) (arrivals : List Arrival) → All (λ arrival. arrives_in_time plan before arrival ≡ true) (filter (merging plan before) arrivals)
later_in_time plan before arrivals =
    All-weaker (λ arrival. merging plan before arrival ≡ true) (λ arrival. arrives_in_time plan before arrival ≡ true)
    (λ arrival on. (and_parts (is_at_group plan arrival) (arrives_in_time plan before arrival) (and_parts (is_taken plan before arrival) ((rules_of plan arrival.node).merges) on).0).1)
    (filter (merging plan before) arrivals) (filter_passes (merging plan before) arrivals)

module _ (plan : Plan) (before : List StageMarks) (node : ℕ) (key : Value) where
  abbrev Open : Element → Type 0
  Open e = is_expired (rules_of plan node).trigger e.span.end (marks_at before node).mark_in ≡ false

  abbrev InTime : Arrival → Type 0
  InTime arrival = arrives_in_time plan before arrival ≡ true

  off : (b : Bool) → not b ≡ true → b ≡ false
  off true e = absurd (false≢true e)
  off false e = refl

  pub own_open : (all : List Arrival) → All (λ arrival. arrives_in_time plan before arrival ≡ true) all
      → All (λ e. is_expired (rules_of plan node).trigger e.span.end (marks_at before node).mark_in ≡ false) (elements_keyed node key all)
  own_open [] h = All-nil Open
  own_open (a ∷ all) h = by (is_arrival_at node key a) refl (own_open all (All-tail InTime a all h))
    where
      by : (b : Bool) → is_arrival_at node key a ≡ b → All Open (elements_keyed node key all)
          → All Open (map (λ (x : Arrival). x.element) (cond b (a ∷ filter (is_arrival_at node key) all) (filter (is_arrival_at node key) all)))
      by false e ih = ih
      by true on ih =
          All-cons Open a.element (elements_keyed node key all)
          (subst (λ (n : ℕ). is_expired (rules_of plan n).trigger a.element.span.end (marks_at before n).mark_in ≡ false) (eqb-true a.node node (and_parts (a.node == node) (is_keyed key a.element) on).0)
          (off (is_expired (rules_of plan a.node).trigger a.element.span.end (marks_at before a.node).mark_in) (All-head InTime a all h))) ih
