-- The arrivals at Groups of sessions are placed, one Group and key after another.
use Rattle.std.proofs.Common.{◌≡◌, ◌⊎◌, inl, inr, ℕ, ◌+◌, ◌==◌, ◌≤◌, ℤ, Bool, true, false, cond, List, [], ◌∷◌, map, length, refl, sym, ap, subst, ◌∙◌, arith}
use Rattle.std.specs.Prelude.{None}
use Rattle.std.specs.BTreeMap as tree
use Rattle.std.specs.BTreeMap.{BTreeMap}
use Rattle.std.specs.List.{All, filter}
use Rattle.std.proofs.lemmas.Bool.{cases_Bool, and_parts, eqb-true}
use Rattle.std.proofs.lemmas.List.{length-map}
use Rattle.std.proofs.lemmas.List.Elements.{All-head, All-tail, All-weaker, filter_passes}
use Rattle.beam_values.specs.Grouping.{key_of}
use Rattle.beam_values.specs.Intervals.{Interval}
use Rattle.beam_values.specs.Marks.{marks_at}
use Rattle.beam_values.specs.Nodes.{is_group}
use Rattle.beam_values.specs.declared.arrival.Arrival.{Arrival}
use Rattle.beam_values.specs.declared.cell.Cell.{Cell}
use Rattle.beam_values.specs.declared.element.Element.{Element}
use Rattle.beam_values.specs.declared.marks.StageMarks.{StageMarks}
use Rattle.beam_values.specs.declared.plan.Plan.{Plan}
use Rattle.beam_values.specs.declared.value.Value.{Value}
use Rattle.beam_model.specs.Panes.{GroupRules, is_cell_at_key, rules_of}
use Rattle.beam_model.specs.Sessions.{is_keyed}
use Rattle.group_cells.specs.Arrivals.{merging}
use Rattle.group_cells.specs.Commits.{cells_keyed, elements_keyed, is_taken}
use Rattle.group_cells.specs.KeyLists.{group_key_cmp, listed}
use Rattle.group_cells.specs.Placing.{is_same_key}
use Rattle.group_cells.specs.Plain.{AreAllPlaced, ArePlaced, ArePlacedAt, is_arrival_at, opened_all_at, opening_of, put_all_at}
use Rattle.group_cells.specs.Rounds.{AreSessionsOver, AreWindowsFor, entry_of, open_windows}
use Rattle.group_cells.specs.declared.groups.keyed.GroupKey.{GroupKey}
use Rattle.group_cells.proofs.FiredFew.{all_opened_few, all_put_few}
use Rattle.group_cells.proofs.KeyMaps.{listed_after, listed_alike, same_key}
use Rattle.group_cells.proofs.PlacedCells.{GoesOnAt, goes_further, placed_on_at, stays_at}
use Rattle.group_cells.proofs.PlacedInTurn.{placed_none}
use Rattle.group_cells.proofs.PlacedKeys.{at_alike, filter_same, is_at, placed_other, placed_same}

-- ---- what arrives

-- a list by key that isn't empty has an arrival of its node
pub some_arrived : (P : ℕ → Type 0) (all : List Arrival) (node : ℕ) (key : Value) (e : Element) (es : List Element) → All (λ arrival. P arrival.node) all
    → elements_keyed node key all ≡ e ∷ es → P node
some_arrived P [] node key e es h some = absurd (cc)
some_arrived P (a ∷ all) node key e es h some =
    by (is_arrival_at node key a) refl some (λ rest. some_arrived P all node key e es (All-tail (λ arrival. P arrival.node) a all h) rest)
  where
    by : (b : Bool) → is_arrival_at node key a ≡ b
        → map (λ (x : Arrival). x.element) (cond b (a ∷ filter (is_arrival_at node key) all) (filter (is_arrival_at node key) all)) ≡ e ∷ es
        → (elements_keyed node key all ≡ e ∷ es → P node) → P node
    by true on f rest =
        subst P (eqb-true a.node node (and_parts (a.node == node) (is_keyed key a.element) on).0) (All-head (λ arrival. P arrival.node) a all h)
    by false off f rest = rest f

alike_elements : (node : ℕ) (key : Value) (n : ℕ) (k : Value) (all : List Arrival) → is_at node key n k ≡ true → elements_keyed n k all ≡ elements_keyed node key all
alike_elements node key n k all on =
    ap (map (λ arrival. arrival.element)) (filter_same (is_arrival_at n k) (is_arrival_at node key) (λ arrival. at_alike node key n k on arrival.node (key_of arrival.element)) all)

alike_cells : (node : ℕ) (key : Value) (n : ℕ) (k : Value) (cells : List Cell) → is_at node key n k ≡ true → cells_keyed n k cells ≡ cells_keyed node key cells
alike_cells node key n k cells on = filter_same (is_cell_at_key n k) (is_cell_at_key node key) (λ cell. at_alike node key n k on cell.node cell.key) cells

-- ---- one Group and key after another

module _ (plan : Plan) (before : List StageMarks) (c : ℕ) (all : List Arrival) (old : List Cell) where
  abbrev Here : ℕ → Value → List Element → List Cell → List Cell → Type 0
  Here node key own cells placed = ArePlaced (rules_of plan node) (marks_at before node).mark_in node key c own cells placed

  -- of a Group and key nothing is placed yet, or all
  abbrev IsSoFar : List Element → List Cell → ℕ → Value → Type 0
  IsSoFar own cells node key =
      ((own ≡ elements_keyed node key all) × (cells_keyed node key cells ≡ cells_keyed node key old))
      ⊎ ((own ≡ []) × ArePlaced (rules_of plan node) (marks_at before node).mark_in node key c (elements_keyed node key all) (cells_keyed node key old) (cells_keyed node key cells))

  pub record ArePlacedYet (left : BTreeMap GroupKey (List Element)) (cells : List Cell) : Type 0 where
    pub each : (node : ℕ) (key : Value) → IsSoFar (listed left (record { node = node; key = key })) cells node key
    pub on : GoesOnAt plan old cells

  pub none_yet : (left : BTreeMap GroupKey (List Element)) → ((q : GroupKey) → listed left q ≡ elements_keyed q.node q.key all) → ArePlacedYet left old
  none_yet left are = record {
    each = λ node key. inl (are (record { node = node; key = key }), refl);
    on = stays_at plan old old refl;
  }

  pub all_yet : (left : BTreeMap GroupKey (List Element)) (cells : List Cell) → ((q : GroupKey) → listed left q ≡ []) → ArePlacedYet left cells → AreAllPlaced plan before c all old cells
  all_yet left cells ended h = record {
    each = λ node key. by node key (h.each node key);
    behind = h.on.goes.0;
    behind_at = h.on.at;
    places = h.on.goes.1;
  }
    where
      by : (node : ℕ) (key : Value) → IsSoFar (listed left (record { node = node; key = key })) cells node key
          → Here node key (elements_keyed node key all) (cells_keyed node key old) (cells_keyed node key cells)
      by node key (inl same) =
          let none : [] ≡ elements_keyed node key all = sym (ended (record { node = node; key = key })) ∙ same.0 in
          subst (λ (own : List Element). Here node key own (cells_keyed node key old) (cells_keyed node key cells)) none
          (subst (λ (l : List Cell). Here node key [] l (cells_keyed node key cells)) same.1
          (placed_none (rules_of plan node) (marks_at before node).mark_in node key c (cells_keyed node key cells)))
      by node key (inr done) = done.1

  module _ (left rest : BTreeMap GroupKey (List Element)) (cells placed : List Cell) (popped : GroupKey) (own : List Element)
      (own_is : listed left popped ≡ own) (updates : tree.Updates group_key_cmp left rest popped None) (yet : ArePlacedYet left cells) where
    abbrev n : ℕ
    n = popped.node

    abbrev k : Value
    k = popped.key

    left_after : (q : GroupKey) → listed rest q ≡ cond (is_at q.node q.key n k) [] (listed left q)
    left_after q = listed_after left rest popped None updates q ∙ ap (λ b. cond b [] (listed left q)) (same_key popped q)

    pub own_whole : (e : Element) (es : List Element) → own ≡ e ∷ es → (own ≡ elements_keyed n k all) × (cells_keyed n k cells ≡ cells_keyed n k old)
    own_whole e es some = by (yet.each n k)
      where
        by : IsSoFar (listed left (record { node = popped.node; key = popped.key })) cells n k → (own ≡ elements_keyed n k all) × (cells_keyed n k cells ≡ cells_keyed n k old)
        by (inl same) = (sym own_is ∙ same.0, same.1)
        by (inr done) = let no_ : e ∷ es ≡ [] = sym some ∙ sym own_is ∙ done.0 in absurd (cc)

    -- what is left of one that has nothing is nothing
    pub none_more : own ≡ [] → ArePlacedYet rest cells
    none_more none = record {
      each = λ node key. subst (λ (l : List Element). IsSoFar l cells node key) (sym (same node key)) (yet.each node key);
      on = yet.on;
    }
      where
        same : (node : ℕ) (key : Value) → listed rest (record { node = node; key = key }) ≡ listed left (record { node = node; key = key })
        same node key = by (is_at node key n k) refl
          where
            by : (b : Bool) → is_at node key n k ≡ b → listed rest (record { node = node; key = key }) ≡ listed left (record { node = node; key = key })
            by true on =
                left_after (record { node = node; key = key }) ∙ ap (λ b. cond b [] (listed left (record { node = node; key = key }))) on
                ∙ sym none ∙ sym own_is ∙ listed_alike left popped (record { node = node; key = key }) on
            by false off = left_after (record { node = node; key = key }) ∙ ap (λ b. cond b [] (listed left (record { node = node; key = key }))) off

    module _ (e : Element) (es : List Element) (some : own ≡ e ∷ es) (group : is_group plan n ≡ true)
        (placed_are : ArePlacedAt (rules_of plan n) (marks_at before n).mark_in n k c own cells placed) where
      step : (node : ℕ) (key : Value) → IsSoFar (listed left (record { node = node; key = key })) cells node key
          → (is_at node key n k ≡ true) ⊎ (is_at node key n k ≡ false) → IsSoFar (listed rest (record { node = node; key = key })) placed node key
      step node key any (inl on) =
          let whole = own_whole e es some in
          let from : cells_keyed node key cells ≡ cells_keyed node key old =
          sym (alike_cells node key n k cells on) ∙ whole.1 ∙ alike_cells node key n k old on in
          inr (
            left_after (record { node = node; key = key }) ∙ ap (λ b. cond b [] (listed left (record { node = node; key = key }))) on,
            subst (λ (l : List Element). Here node key l (cells_keyed node key old) (cells_keyed node key placed)) (whole.0 ∙ alike_elements node key n k all on)
                (subst (λ (l : List Cell). Here node key own l (cells_keyed node key placed)) from
                (subst (λ (m : ℕ). ArePlaced (rules_of plan m) (marks_at before m).mark_in node key c own (cells_keyed node key cells) (cells_keyed node key placed))
                (eqb-true n node (and_parts (n == node) (is_same_key k key) on).0)
                (placed_same node key (rules_of plan n) (marks_at before n).mark_in n k c own cells placed on placed_are))),
          )
      step node key (inl same) (inr off) = inl (
        left_after (record { node = node; key = key }) ∙ ap (λ b. cond b [] (listed left (record { node = node; key = key }))) off ∙ same.0,
        placed_other node key (rules_of plan n) (marks_at before n).mark_in n k c own cells placed off placed_are ∙ same.1,
      )
      step node key (inr done) (inr off) = inr (
        left_after (record { node = node; key = key }) ∙ ap (λ b. cond b [] (listed left (record { node = node; key = key }))) off ∙ done.0,
        subst (Here node key (elements_keyed node key all) (cells_keyed node key old))
            (sym (placed_other node key (rules_of plan n) (marks_at before n).mark_in n k c own cells placed off placed_are)) done.1,
      )

      pub placed_more : ArePlacedYet rest placed
      placed_more = record {
        each = λ node key. step node key (yet.each node key) (cases_Bool (is_at node key n k));
        on = goes_further plan old cells placed yet.on (placed_on_at plan (rules_of plan n) n k group (marks_at before n).mark_in c own cells placed placed_are);
      }

-- what is opened and put for one Group of sessions and key is placed
pub placed_by : (rules own_rules : GroupRules) (before mark : ℤ) (node : ℕ) (key : Value) (c : ℕ) (seen own : List Element) (cells opened placed : List Cell) (listed_ windows : List Interval)
    → rules ≡ own_rules → before ≡ mark → own_rules.merges ≡ true → seen ≡ own → listed_ ≡ windows
    → AreSessionsOver (map (λ e. e.span) seen) (open_windows rules before (filter (is_cell_at_key node key) cells)) windows
    → opened ≡ opened_all_at rules before node (map (opening_of key) listed_) cells → placed ≡ put_all_at rules node key (map (entry_of c) own) opened
    → ArePlacedAt own_rules mark node key c own cells placed
placed_by rules own_rules before mark node key c seen own cells opened placed listed_ windows same at merges all these sessions opened_are placed_are =
    subst (λ (r : GroupRules). ArePlacedAt r mark node key c own cells placed) same
    (subst (λ (m : ℤ). ArePlacedAt rules m node key c own cells placed) at
    (record {
      spans = windows;
      windows = subst (λ (l : List Element). AreWindowsFor rules.merges (map (λ e. e.span) l) (open_windows rules before (filter (is_cell_at_key node key) cells)) windows) all
          (subst (λ (b : Bool). AreWindowsFor b (map (λ (e : Element). e.span) seen) (open_windows rules before (filter (is_cell_at_key node key) cells)) windows)
          (sym (ap (λ (r : GroupRules). r.merges) same ∙ merges)) sessions);
      places = placed_are ∙ ap (put_all_at rules node key (map (entry_of c) own)) (opened_are ∙ ap (λ l. opened_all_at rules before node (map (opening_of key) l) cells) these);
    }))

-- and makes at most a cell for each arrival
pub placed_few : (rules : GroupRules) (before : ℤ) (node : ℕ) (key : Value) (c : ℕ) (own : List Element) (cells opened placed : List Cell) (windows : List Interval)
    → length windows ≤ length own → opened ≡ opened_all_at rules before node (map (opening_of key) windows) cells → placed ≡ put_all_at rules node key (map (entry_of c) own) opened
    → length placed ≤ length cells + length own
placed_few rules before node key c own cells opened placed windows few opened_are placed_are =
    omega (
      arith,
      few,
      ap length placed_are,
      all_put_few rules node key (map (entry_of c) own) opened,
      ap length opened_are,
      all_opened_few rules before node (map (opening_of key) windows) cells,
      length-map windows (opening_of key),
    )

-- ---- what comes later

pub later_merges : (plan : Plan) (before : List StageMarks) (arrivals : List Arrival) → All (λ arrival. (rules_of plan arrival.node).merges ≡ true) (filter (merging plan before) arrivals)
later_merges plan before arrivals =
    All-weaker (λ arrival. merging plan before arrival ≡ true) (λ arrival. (rules_of plan arrival.node).merges ≡ true)
    (λ arrival on. (and_parts (is_taken plan before arrival) ((rules_of plan arrival.node).merges) on).1) (filter (merging plan before) arrivals) (filter_passes (merging plan before) arrivals)
