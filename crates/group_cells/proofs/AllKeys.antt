-- Rounds of all Groups and keys keep what is legal.
use Rattle.std.proofs.Common.{◌≡◌, ℕ, suc, ◌-◌, ◌<◌, ◌<ℤ◌, ◌==◌, ℤ, pos, true, List, [], ◌∷◌, ◌++◌, map, length, get_or, refl, sym, ap, subst, ◌∙◌, arith}
use Rattle.std.specs.Prelude.{◌&&◌, not, ◌+ℤ◌}
use Rattle.std.specs.List.{All, filter}
use Rattle.std.proofs.lemmas.Bool.{and_from, and_parts, eqb-true, eq-eqb, not-true, not-false}
use Rattle.std.proofs.lemmas.List.Elements.{All-nil, All-cons, All-append, All-map, All-weaker, All-filter, All-contains, Contains-get_or, filter-append, filter_passes}
use Rattle.std.proofs.lemmas.Slice.Eq.{bytes_eq-Decides}
use Rattle.beam_values.specs.Checked.{IsChecked}
use Rattle.beam_values.specs.Firing.{is_expired}
use Rattle.beam_values.specs.Grouping.{key_of}
use Rattle.beam_values.specs.Intervals.{Interval}
use Rattle.beam_values.specs.Marks.{marks_at}
use Rattle.beam_values.specs.Nodes.{is_group, strategy_of}
use Rattle.beam_values.specs.Spelling.{spelling}
use Rattle.beam_values.specs.declared.arrival.Arrival.{Arrival}
use Rattle.beam_values.specs.declared.cell.Cell.{Cell}
use Rattle.beam_values.specs.declared.cell.Dropped.{Dropped}
use Rattle.beam_values.specs.declared.cell.Entry.{Entry}
use Rattle.beam_values.specs.declared.cell.Pane.{Pane}
use Rattle.beam_values.specs.declared.element.Element.{Element}
use Rattle.beam_values.specs.declared.marks.CommitMarks.{CommitMarks}
use Rattle.beam_values.specs.declared.marks.StageMarks.{StageMarks}
use Rattle.beam_values.specs.declared.plan.Plan.{Plan}
use Rattle.beam_values.specs.declared.plan.Strategy.{Strategy}
use Rattle.beam_values.specs.declared.plan.Strategy.TheVariants as strategy
use Rattle.beam_values.specs.declared.value.Value.{Value}
use Rattle.beam_model.specs.Panes.{Taken, GroupRules, rules_of, is_sessions, taken_drop, taken_by, is_at_key, taken_at, is_pane_at_key, panes_at, mark_after, is_late, IsCommit, IsLegalHistory, AreLegalCells, IsKeyed, IsLegalAt, ArePanesLegal}
use Rattle.beam_model.specs.Sessions.{is_keyed}
use Rattle.session_merge.proofs.Lists.{all_first, contains_filter}
use Rattle.group_cells.specs.Rounds.{is_in_time, entry_of, IsRound}
use Rattle.group_cells.specs.Commits.{SeenGroups, is_at_group, arrives_in_time, is_dropped, dropped_arrival, elements_keyed, cells_keyed, HasLength, HasGap, HaveGaps, NeverFalls, as_commit, KeepsLegal, AreRounds}
use Rattle.group_cells.proofs.KeptKeys.{keys_kept}
use Rattle.group_cells.proofs.KeyCells.{taken_keyed}
use Rattle.group_cells.proofs.LegalRounds.{round_history, round_cells}
use Rattle.group_cells.proofs.LongerMarks.{marks_stay, mark_before, mark_then, marks_rise, size_until, size_longer, panes_ordered}
use Rattle.group_cells.proofs.MovedEntries.{all_taken}
use Rattle.group_cells.proofs.OpenedWindows.{Gapped}
use Rattle.group_cells.proofs.PositiveGaps.{IsPositive, positive_gaps}

-- ---- gaps

pub gap_of : Strategy → ℤ
gap_of (strategy.Sessions gap) = gap
gap_of _ = pos 0

long_positive : (s : Strategy) → is_sessions s ≡ true → IsPositive s → pos 0 <ℤ gap_of s
unfolding gap_of
long_positive strategy.Global is h = absurd (cc)
long_positive (strategy.Fixed size) is h = absurd (cc)
long_positive (strategy.Sliding size period) is h = absurd (cc)
long_positive (strategy.Sessions gap) is h = h
long_positive strategy.Kept is h = absurd (cc)

has_length : (s : Strategy) → is_sessions s ≡ true → (w : Interval) → HasLength s w → w.end ≡ w.start +ℤ gap_of s
unfolding gap_of
has_length strategy.Global is w h = absurd (cc)
has_length (strategy.Fixed size) is w h = absurd (cc)
has_length (strategy.Sliding size period) is w h = absurd (cc)
has_length (strategy.Sessions gap) is w h = h
has_length strategy.Kept is w h = absurd (cc)

module _ (plan : Plan) (node : ℕ) (key : Value) (cells : List Cell) (arrivals : List Arrival) where
  gaps_old : All IsKeyed cells → HaveGaps plan (taken_by cells) → All (λ t. HasLength (strategy_of plan node) t.element.span) (all_taken node (cells_keyed node key cells))
  gaps_old keyed gaps =
      subst (λ (l : List Taken). All (λ t. HasLength (strategy_of plan node) t.element.span) l) (taken_keyed node key cells keyed)
      (λ k d within.
      let t = get_or (taken_at node key (taken_by cells)) k d in
      let here : t.node ≡ node = eqb-true t.node node ((and_parts (t.node == node) (is_keyed key t.element) (filter_passes (is_at_key node key) (taken_by cells) k d within)).0) in
      subst (λ (n : ℕ). HasLength (strategy_of plan n) t.element.span) here
      (All-filter (is_at_key node key) (λ x. HasLength (strategy_of plan x.node) x.element.span) (taken_by cells) gaps k d within))

  gaps_new : is_group plan node ≡ true → All (HasGap plan) arrivals → All (λ (e : Element). HasLength (strategy_of plan node) e.span) (elements_keyed node key arrivals)
  gaps_new at_group gaps =
      All-map (λ (e : Element). HasLength (strategy_of plan node) e.span) (λ a. a.element) (filter (λ a. (a.node == node) && is_keyed key a.element) arrivals)
      (λ k d within.
      let a = get_or (filter (λ (x : Arrival). (x.node == node) && is_keyed key x.element) arrivals) k d in
      let here : a.node ≡ node = eqb-true a.node node ((and_parts (a.node == node) (is_keyed key a.element) (filter_passes (λ x. (x.node == node) && is_keyed key x.element) arrivals k d within)).0) in
      subst (λ (n : ℕ). HasLength (strategy_of plan n) a.element.span) here
      (All-filter (λ x. (x.node == node) && is_keyed key x.element) (HasGap plan) arrivals gaps k d within (subst (λ (n : ℕ). is_group plan n ≡ true) (sym here) at_group)))

  pub gapped_at : is_group plan node ≡ true → IsChecked plan → All IsKeyed cells → HaveGaps plan (taken_by cells) → All (HasGap plan) arrivals → (c : ℕ) (mark : ℤ) → (rules_of plan node).merges ≡ true
      → Gapped (gap_of (strategy_of plan node)) (all_taken node (cells_keyed node key cells)) (map (entry_of c) (filter (is_in_time (rules_of plan node) mark) (elements_keyed node key arrivals)))
  gapped_at at_group checked keyed old new c mark merges = record {
    some = long_positive (strategy_of plan node) merges (positive_gaps plan node checked);
    old = λ k d within. has_length (strategy_of plan node) merges (get_or (all_taken node (cells_keyed node key cells)) k d).element.span (gaps_old keyed old k d within);
    new = All-map (λ (e : Entry). e.element.span.end ≡ e.element.span.start +ℤ gap_of (strategy_of plan node)) (entry_of c) (filter (is_in_time (rules_of plan node) mark) (elements_keyed node key arrivals))
        (All-filter (is_in_time (rules_of plan node) mark) (λ (e : Element). e.span.end ≡ e.span.start +ℤ gap_of (strategy_of plan node)) (elements_keyed node key arrivals)
        (λ k d within. has_length (strategy_of plan node) merges (get_or (elements_keyed node key arrivals) k d).span (gaps_new at_group new k d within)));
  }

-- ---- what is dropped

module _ (plan : Plan) (c : ℕ) (before : List StageMarks) (arrivals : List Arrival) where
  abbrev pub lost : List Dropped
  lost = map (dropped_arrival c) (filter (is_dropped plan before) arrivals)

  abbrev IsLost : Taken → Type 0
  IsLost t = (t.commit ≡ c) × (is_expired (rules_of plan t.node).trigger t.element.span.end (marks_at before t.node).mark_in ≡ true)

  all_lost : All IsLost (map taken_drop lost)
  all_lost =
      All-map IsLost taken_drop lost
      (All-map (λ (d : Dropped). IsLost (taken_drop d)) (dropped_arrival c) (filter (is_dropped plan before) arrivals)
      (All-weaker (λ a. is_dropped plan before a ≡ true) (λ a. IsLost (taken_drop (dropped_arrival c a)))
      (λ a h.
      let parts = and_parts (is_at_group plan a) (not (arrives_in_time plan before a)) h in
      (refl, not-false (is_expired (rules_of plan a.node).trigger a.element.span.end (marks_at before a.node).mark_in) (not-true (arrives_in_time plan before a) parts.1)))
      (filter (is_dropped plan before) arrivals) (filter_passes (is_dropped plan before) arrivals)))

  pub lost_at_groups : All (λ lost. is_group plan lost.node ≡ true) lost
  lost_at_groups =
      All-map (λ (d : Dropped). is_group plan d.node ≡ true) (dropped_arrival c) (filter (is_dropped plan before) arrivals)
      (All-weaker (λ a. is_dropped plan before a ≡ true) (λ a. is_group plan a.node ≡ true) (λ a h. (and_parts (is_at_group plan a) (not (arrives_in_time plan before a)) h).0)
      (filter (is_dropped plan before) arrivals) (filter_passes (is_dropped plan before) arrivals))

  pub lost_at : (node : ℕ) (key : Value)
      → All (λ t. (t.commit ≡ c) × (is_expired (rules_of plan node).trigger t.element.span.end (marks_at before node).mark_in ≡ true)) (taken_at node key (map taken_drop lost))
  lost_at node key k d within =
      let t = get_or (taken_at node key (map taken_drop lost)) k d in
      let here : t.node ≡ node = eqb-true t.node node ((and_parts (t.node == node) (is_keyed key t.element) (filter_passes (is_at_key node key) (map taken_drop lost) k d within)).0) in
      subst (λ (n : ℕ). (t.commit ≡ c) × (is_expired (rules_of plan n).trigger t.element.span.end (marks_at before n).mark_in ≡ true)) here
      (All-filter (is_at_key node key) IsLost (map taken_drop lost) all_lost k d within)

map-append : {X Y : Type 0} (f : X → Y) (xs ys : List X) → map f (xs ++ ys) ≡ map f xs ++ map f ys
map-append f [] ys = refl
map-append f (x ∷ xs) ys = ap (λ l. f x ∷ l) (map-append f xs ys)

-- each pane is of a commit so far
early_panes : (plan : Plan) (commits : List CommitMarks) (cells : List Cell) (dropped : List Dropped) (panes : List Pane) (last : ℕ) → last ≡ length commits - 1
    → ArePanesLegal plan commits cells dropped panes → All (λ pane. pane.commit < suc last) panes
early_panes plan commits cells dropped panes last is legal k d within = omega (arith, commit.1, is)
  where
    pane : Pane
    pane = get_or panes k d

    commit : IsCommit (length commits - 1) (get_or panes k d).commit
    commit =
        let p = get_or panes k d in
        let own = (legal.each p.node (key_of p.element) (legal.panes_at k d within)).history.pane_commits in
        All-contains (λ (q : Pane). IsCommit (length commits - 1) q.commit) (panes_at p.node (key_of p.element) panes) p own
        (contains_filter (is_pane_at_key p.node (key_of p.element)) panes p (Contains-get_or panes k d within)
        (and_from _ _ (eq-eqb p.node p.node refl) ((bytes_eq-Decides (spelling (key_of p.element)) (spelling (key_of p.element))).1 refl)))

-- ---- all of them

module _ (plan : Plan) (before after : List StageMarks) (arrivals : List Arrival) (old new : SeenGroups) (fired : List Pane)
    (checked : IsChecked plan) (sized : length before ≡ length plan.nodes) (resized : length after ≡ length plan.nodes) (gaps : All (HasGap plan) arrivals)
    (earlier : List CommitMarks) (panes : List Pane)
    (dropped : new.dropped ≡ old.dropped ++ map (dropped_arrival (suc (length earlier))) (filter (is_dropped plan before) arrivals))
    (rounds : AreRounds plan (suc (length earlier)) before after arrivals old.cells new.cells fired)
    (never : NeverFalls (earlier ++ as_commit before ∷ [])) (old_gaps : HaveGaps plan (taken_by old.cells))
    (legal : ArePanesLegal plan (earlier ++ as_commit before ∷ []) old.cells old.dropped panes) where
  abbrev until : List CommitMarks
  until = earlier ++ as_commit before ∷ []

  abbrev longer : List CommitMarks
  longer = earlier ++ as_commit before ∷ as_commit after ∷ []

  abbrev c : ℕ
  c = length earlier

  last_until : length until - 1 ≡ length earlier
  last_until = omega (arith, size_until earlier before after 0)

  last_longer : length longer - 1 ≡ suc (length earlier)
  last_longer = omega (arith, size_longer earlier before after 0)

  keyed_after : All IsKeyed new.cells
  keyed_after = keys_kept plan (suc (length earlier)) before after arrivals old.cells new.cells fired legal.keyed rounds

  module _ (node : ℕ) (key : Value) (group : is_group plan node ≡ true) where
    abbrev rules : GroupRules
    rules = rules_of plan node

    abbrev own : List Cell
    own = cells_keyed node key old.cells

    abbrev own_new : List Cell
    own_new = cells_keyed node key new.cells

    abbrev late : List Taken
    late = taken_at node key (map taken_drop (lost plan (suc (length earlier)) before arrivals))

    round : IsRound (rules_of plan node) node key (suc (length earlier)) (mark_after until node (length earlier)) (mark_after longer node (suc (length earlier))) (elements_keyed node key arrivals) own own_new (panes_at node key fired)
    round =
        subst (λ (m : ℤ). IsRound (rules_of plan node) node key (suc (length earlier)) m (mark_after longer node (suc (length earlier))) (elements_keyed node key arrivals) own own_new (panes_at node key fired)) (sym (mark_before earlier before after node))
        (subst (λ (m : ℤ). IsRound (rules_of plan node) node key (suc (length earlier)) (marks_at before node).mark_in m (elements_keyed node key arrivals) own own_new (panes_at node key fired)) (sym (mark_then earlier before after node))
        (rounds.each node key group))

    history : IsLegalHistory (rules_of plan node) node key (mark_after until node) (length earlier) (all_taken node own) (taken_at node key (map taken_drop old.dropped)) (panes_at node key panes)
    history =
        subst (λ (n : ℕ). IsLegalHistory (rules_of plan node) node key (mark_after until node) n (all_taken node own) (taken_at node key (map taken_drop old.dropped)) (panes_at node key panes)) last_until
        (subst (λ (l : List Taken). IsLegalHistory (rules_of plan node) node key (mark_after until node) (length until - 1) l (taken_at node key (map taken_drop old.dropped)) (panes_at node key panes)) (taken_keyed node key old.cells legal.keyed)
        (legal.each node key group).history)

    cells_tell : AreLegalCells (rules_of plan node) node (mark_after until node) (length earlier) (all_taken node own) (panes_at node key panes) own
    cells_tell =
        subst (λ (n : ℕ). AreLegalCells (rules_of plan node) node (mark_after until node) n (all_taken node own) (panes_at node key panes) own) last_until
        (subst (λ (l : List Taken). AreLegalCells (rules_of plan node) node (mark_after until node) (length until - 1) l (panes_at node key panes) own) (taken_keyed node key old.cells legal.keyed)
        (legal.each node key group).cells_tell)

    lates : All (λ t. (t.commit ≡ suc (length earlier)) × (is_late (rules_of plan node) (mark_after until node) (suc (length earlier)) t.element.span ≡ true)) late
    lates =
        subst (λ (m : ℤ). All (λ (t : Taken). (t.commit ≡ suc (length earlier)) × (is_expired (rules_of plan node).trigger t.element.span.end m ≡ true)) late) (sym (mark_before earlier before after node))
        (lost_at plan (suc (length earlier)) before arrivals node key)

    commits : All (λ pane. pane.commit ≡ suc (length earlier)) (panes_at node key fired)
    commits = All-filter (is_pane_at_key node key) (λ pane. pane.commit ≡ suc (length earlier)) fired rounds.of_commit

    dropped_here : taken_at node key (map taken_drop old.dropped) ++ late ≡ taken_at node key (map taken_drop new.dropped)
    dropped_here =
        sym (ap (λ l. taken_at node key (map taken_drop l)) dropped
        ∙ ap (taken_at node key) (map-append taken_drop old.dropped (lost plan (suc (length earlier)) before arrivals))
        ∙ filter-append (is_at_key node key) (map taken_drop old.dropped) (map taken_drop (lost plan (suc (length earlier)) before arrivals)))

    panes_here : panes_at node key panes ++ panes_at node key fired ≡ panes_at node key (panes ++ fired)
    panes_here = sym (filter-append (is_pane_at_key node key) panes fired)

    taken_here : all_taken node own_new ≡ taken_at node key (taken_by new.cells)
    taken_here = sym (taken_keyed node key new.cells keyed_after)

    legal_at : IsLegalAt plan longer new.cells new.dropped (panes ++ fired) node key
    legal_at = record {
      history =
          subst (λ (n : ℕ). IsLegalHistory (rules_of plan node) node key (mark_after longer node) n (taken_at node key (taken_by new.cells)) (taken_at node key (map taken_drop new.dropped)) (panes_at node key (panes ++ fired))) (sym last_longer)
          (subst (λ (A : Type 0). A) (λ i. IsLegalHistory (rules_of plan node) node key (mark_after longer node) (suc (length earlier)) (taken_here i) (dropped_here i) (panes_here i))
          (round_history (rules_of plan node) node key (gap_of (strategy_of plan node)) (mark_after until node) (mark_after longer node) (length earlier) (elements_keyed node key arrivals) own own_new
          (taken_at node key (map taken_drop old.dropped)) late (panes_at node key panes) (panes_at node key fired) history cells_tell (marks_rise earlier before after node never) (marks_stay earlier before after node)
          (gapped_at plan node key old.cells arrivals group checked legal.keyed old_gaps gaps (suc (length earlier)) (mark_after until node (length earlier))) lates commits round));
      cells_tell =
          subst (λ (n : ℕ). AreLegalCells (rules_of plan node) node (mark_after longer node) n (taken_at node key (taken_by new.cells)) (panes_at node key (panes ++ fired)) own_new) (sym last_longer)
          (subst (λ (A : Type 0). A) (λ i. AreLegalCells (rules_of plan node) node (mark_after longer node) (suc (length earlier)) (taken_here i) (panes_here i) own_new)
          (round_cells (rules_of plan node) node key (gap_of (strategy_of plan node)) (mark_after until node) (mark_after longer node) (length earlier) (elements_keyed node key arrivals) own own_new
          (taken_at node key (map taken_drop old.dropped)) late (panes_at node key panes) (panes_at node key fired) history cells_tell (marks_rise earlier before after node never) (marks_stay earlier before after node)
          (gapped_at plan node key old.cells arrivals group checked legal.keyed old_gaps gaps (suc (length earlier)) (mark_after until node (length earlier))) lates commits round));
    }

  abbrev HasSize : CommitMarks → Type 0
  HasSize commit = length commit.marks ≡ length plan.nodes

  pub legal_after : ArePanesLegal plan longer new.cells new.dropped (panes ++ fired)
  legal_after = record {
    sized = All-append HasSize earlier (as_commit before ∷ as_commit after ∷ []) (all_first HasSize earlier (as_commit before ∷ []) legal.sized)
        (All-cons HasSize (as_commit before) (as_commit after ∷ []) sized (All-cons HasSize (as_commit after) [] resized (All-nil HasSize)));
    cells_at = rounds.cells_at;
    dropped_at = subst (λ (l : List Dropped). All (λ lost. is_group plan lost.node ≡ true) l) (sym dropped)
        (All-append (λ (d : Dropped). is_group plan d.node ≡ true) old.dropped (lost plan (suc (length earlier)) before arrivals) legal.dropped_at (lost_at_groups plan (suc (length earlier)) before arrivals));
    panes_at = All-append (λ (pane : Pane). is_group plan pane.node ≡ true) panes fired legal.panes_at rounds.at_groups;
    each = legal_at;
    keyed = keyed_after;
    ordered = panes_ordered (suc (length earlier)) panes fired legal.ordered rounds.ordered
        (early_panes plan until old.cells old.dropped panes (length earlier) (sym last_until) legal) rounds.of_commit;
  }

-- **rounds keep what is legal**
pub keep_legal : (plan : Plan) (c : ℕ) (before after : List StageMarks) (arrivals : List Arrival) (old new : SeenGroups) (fired : List Pane)
    → IsChecked plan → length before ≡ length plan.nodes → length after ≡ length plan.nodes → All (HasGap plan) arrivals
    → new.dropped ≡ old.dropped ++ map (dropped_arrival c) (filter (is_dropped plan before) arrivals)
    → AreRounds plan c before after arrivals old.cells new.cells fired → KeepsLegal plan c before after old new fired
keep_legal plan c before after arrivals old new fired checked sized resized gaps dropped rounds earlier panes numbered never old_gaps legal =
    let is : c ≡ suc (length earlier) = omega arith in
    legal_after plan before after arrivals old new fired checked sized resized gaps earlier panes
    (subst (λ (n : ℕ). new.dropped ≡ old.dropped ++ map (dropped_arrival n) (filter (is_dropped plan before) arrivals)) is dropped)
    (subst (λ (n : ℕ). AreRounds plan n before after arrivals old.cells new.cells fired) is rounds) never old_gaps legal
