-- The cells, entries and arrivals of all Groups, and what there is of one Group and key.
use Rattle.std.proofs.Common.{◌≡◌, ℕ, ◌==◌, Bool, true, false, cond, List, [], ◌∷◌, ◌++◌, map, get_or, refl, sym, ap, subst, ◌∙◌}
use Rattle.std.specs.Prelude.{◌&&◌, bytes_eq}
use Rattle.std.specs.List.{All, filter}
use Rattle.std.proofs.lemmas.Bool.{and_from, and_parts, eqb-true, eq-eqb}
use Rattle.std.proofs.lemmas.List.Elements.{All-head, All-tail, All-append, All-map, All-weaker, filter-append, filter_passes}
use Rattle.std.proofs.lemmas.Slice.Eq.{bytes_eq-Decides}
use Rattle.beam_values.specs.Bags.{IsSameBag}
use Rattle.beam_values.specs.Grouping.{key_of}
use Rattle.beam_values.specs.Nodes.{is_group}
use Rattle.beam_values.specs.Marks.{marks_at}
use Rattle.beam_values.specs.Spelling.{spelling}
use Rattle.beam_values.specs.declared.arrival.Arrival.{Arrival}
use Rattle.beam_values.specs.declared.cell.Cell.{Cell}
use Rattle.beam_values.specs.declared.cell.Pane.{Pane}
use Rattle.beam_values.specs.declared.element.Element.{Element}
use Rattle.beam_values.specs.declared.marks.StageMarks.{StageMarks}
use Rattle.beam_values.specs.declared.plan.Plan.{Plan}
use Rattle.beam_values.specs.declared.value.Value.{Value}
use Rattle.beam_model.specs.Panes.{Taken, rules_of, taken_entry, taken_by, is_at_key, taken_at, is_cell_at_key, is_pane_at_key, IsKeyed}
use Rattle.beam_model.specs.Sessions.{is_keyed}
use Rattle.group_cells.specs.Rounds.{is_in_time, entry_of}
use Rattle.group_cells.specs.Commits.{is_at_group, arrives_in_time, is_taken, taken_arrival, elements_keyed, cells_keyed, AreRounds}
use Rattle.group_cells.proofs.Counting.{filter_all, filter_none, All-flat_map}
use Rattle.group_cells.proofs.KeptKeys.{keys_kept}
use Rattle.group_cells.proofs.KeyedBags.{one_bag}
use Rattle.group_cells.proofs.MovedEntries.{all_taken}
use Rattle.group_cells.proofs.LegalRounds.{round_entries}

-- a key is tested by its spelling alone
keys_alike : (own key : Value) (e : Element) → is_keyed own e ≡ true → is_keyed key e ≡ bytes_eq (spelling own) (spelling key)
keys_alike own key e h = ap (λ (bytes : List ℕ). bytes_eq bytes (spelling key)) ((bytes_eq-Decides (spelling (key_of e)) (spelling own)).0 h)

module _ (node : ℕ) (key : Value) where
  -- the entries of a cell are of the node and key of the cell
  entries_at : (cell : Cell) → IsKeyed cell → All (λ entry. is_at_key node key (taken_entry cell.node entry) ≡ is_cell_at_key node key cell) cell.entries
  entries_at cell keyed k d within = ap (λ b. (cell.node == node) && b) (keys_alike cell.key key (get_or cell.entries k d).element (keyed k d within))

  of_cell : (cell : Cell) → IsKeyed cell → filter (is_at_key node key) (map (taken_entry cell.node) cell.entries) ≡ cond (is_cell_at_key node key cell) (map (taken_entry node) cell.entries) []
  of_cell cell keyed = by (is_cell_at_key node key cell) refl
    where
      each : (b : Bool) → is_cell_at_key node key cell ≡ b → All (λ t. is_at_key node key t ≡ b) (map (taken_entry cell.node) cell.entries)
      each b e = All-map (λ (t : Taken). is_at_key node key t ≡ b) (taken_entry cell.node) cell.entries (λ k d within. entries_at cell keyed k d within ∙ e)

      by : (b : Bool) → is_cell_at_key node key cell ≡ b → filter (is_at_key node key) (map (taken_entry cell.node) cell.entries) ≡ cond b (map (taken_entry node) cell.entries) []
      by true e =
          let here : cell.node ≡ node = eqb-true cell.node node ((and_parts (cell.node == node) (bytes_eq (spelling cell.key) (spelling key)) e).0) in
          filter_all (is_at_key node key) (map (taken_entry cell.node) cell.entries) (each true e) ∙ ap (λ n. map (taken_entry n) cell.entries) here
      by false e = filter_none (is_at_key node key) (map (taken_entry cell.node) cell.entries) (each false e)

  -- the entries of a node and key among all cells are those of the cells of that node and key
  pub taken_keyed : (cells : List Cell) → All IsKeyed cells → taken_at node key (taken_by cells) ≡ all_taken node (cells_keyed node key cells)
  taken_keyed [] keyed = refl
  taken_keyed (cell ∷ cells) keyed =
      filter-append (is_at_key node key) (map (taken_entry cell.node) cell.entries) (taken_by cells)
      ∙ (λ i. of_cell cell (All-head IsKeyed cell cells keyed) i ++ taken_keyed cells (All-tail IsKeyed cell cells keyed) i)
      ∙ by (is_cell_at_key node key cell)
    where
      by : (b : Bool) → cond b (map (taken_entry node) cell.entries) [] ++ all_taken node (cells_keyed node key cells) ≡ all_taken node (cond b (cell ∷ cells_keyed node key cells) (cells_keyed node key cells))
      by true = refl
      by false = refl

  pub cells_here : (cells : List Cell) → All (λ cell. cell.node ≡ node) (cells_keyed node key cells)
  cells_here cells =
      All-weaker (λ cell. is_cell_at_key node key cell ≡ true) (λ cell. cell.node ≡ node)
      (λ cell h. eqb-true cell.node node ((and_parts (cell.node == node) (bytes_eq (spelling cell.key) (spelling key)) h).0)) (cells_keyed node key cells) (filter_passes (is_cell_at_key node key) cells)

  -- the arrivals in time of a node and key
  module _ (plan : Plan) (c : ℕ) (before : List StageMarks) (group : is_group plan node ≡ true) where
    abbrev in_time : Element → Bool
    in_time e = is_in_time (rules_of plan node) (marks_at before node).mark_in e

    abbrev taken_of : List Arrival → List Taken
    taken_of arrivals = taken_at node key (map (taken_arrival c) (filter (is_taken plan before) arrivals))

    abbrev entries_of : List Element → List Taken
    entries_of elements = map (taken_entry node) (map (entry_of c) (filter in_time elements))

    is_taken_here : (a : Arrival) → a.node ≡ node → is_taken plan before a ≡ in_time a.element
    is_taken_here a here =
        (λ i. is_group plan (here i) && is_in_time (rules_of plan (here i)) (marks_at before (here i)).mark_in a.element)
        ∙ ap (λ b. b && in_time a.element) group

    pub taken_arrivals : (arrivals : List Arrival) → taken_of arrivals ≡ entries_of (elements_keyed node key arrivals)
    taken_arrivals [] = refl
    taken_arrivals (a ∷ arrivals) =
        left (is_taken plan before a)
        ∙ step (is_taken plan before a) (a.node == node) (is_keyed key a.element) (in_time a.element) refl refl refl (taken_arrivals arrivals)
        ∙ sym (right (a.node == node) (is_keyed key a.element))
      where
        left : (b : Bool) → filter (is_at_key node key) (map (taken_arrival c) (cond b (a ∷ filter (is_taken plan before) arrivals) (filter (is_taken plan before) arrivals)))
            ≡ cond b (cond ((a.node == node) && is_keyed key a.element) (taken_arrival c a ∷ taken_of arrivals) (taken_of arrivals))
            (taken_of arrivals)
        left true = refl
        left false = refl

        kept_one : (b : Bool) (e : Element) (rest : List Element) → map (taken_entry node) (map (entry_of c) (cond b (e ∷ filter in_time rest) (filter in_time rest)))
            ≡ cond b (taken_entry node (entry_of c e) ∷ map (taken_entry node) (map (entry_of c) (filter in_time rest)))
            (map (taken_entry node) (map (entry_of c) (filter in_time rest)))
        kept_one true e rest = refl
        kept_one false e rest = refl

        right : (b k : Bool) → map (taken_entry node) (map (entry_of c) (filter in_time
            (map (λ (x : Arrival). x.element) (cond (b && k) (a ∷ filter (λ x. (x.node == node) && is_keyed key x.element) arrivals) (filter (λ x. (x.node == node) && is_keyed key x.element) arrivals)))))
            ≡ cond (b && k) (cond (in_time a.element) (taken_entry node (entry_of c a.element) ∷ entries_of (elements_keyed node key arrivals))
            (entries_of (elements_keyed node key arrivals)))
            (entries_of (elements_keyed node key arrivals))
        right true true = kept_one (in_time a.element) a.element (elements_keyed node key arrivals)
        right true false = refl
        right false k = refl

        step : (t n k i : Bool) → is_taken plan before a ≡ t → (a.node == node) ≡ n → in_time a.element ≡ i
            → taken_of arrivals ≡ entries_of (elements_keyed node key arrivals)
            → cond t (cond (n && k) (taken_arrival c a ∷ taken_of arrivals) (taken_of arrivals))
            (taken_of arrivals)
            ≡ cond (n && k) (cond i (taken_entry node (entry_of c a.element) ∷ entries_of (elements_keyed node key arrivals))
            (entries_of (elements_keyed node key arrivals)))
            (entries_of (elements_keyed node key arrivals))
        step true true true i e f g same =
            let here = eqb-true a.node node f in
            let it : i ≡ true = sym g ∙ sym (is_taken_here a here) ∙ e in
            (λ j. record { node = here j; element = a.element; commit = c } ∷ same j)
            ∙ sym (ap (λ b. cond b (taken_entry node (entry_of c a.element) ∷ entries_of (elements_keyed node key arrivals)) (entries_of (elements_keyed node key arrivals))) it)
        step false true true i e f g same =
            let here = eqb-true a.node node f in
            let it : i ≡ false = sym g ∙ sym (is_taken_here a here) ∙ e in
            same ∙ sym (ap (λ b. cond b (taken_entry node (entry_of c a.element) ∷ entries_of (elements_keyed node key arrivals)) (entries_of (elements_keyed node key arrivals))) it)
        step true true false i e f g same = same
        step false true false i e f g same = same
        step true false k i e f g same = same
        step false false k i e f g same = same

-- ---- rounds lose no entry

abbrev like : Taken → Taken → Bool
like t u = is_at_key t.node (key_of t.element) u

like_itself : (t : Taken) → like t t ≡ true
like_itself t = and_from _ _ (eq-eqb t.node t.node refl) ((bytes_eq-Decides (spelling (key_of t.element)) (spelling (key_of t.element))).1 refl)

abbrev AtGroup : Plan → Taken → Type 0
AtGroup plan t = is_group plan t.node ≡ true

-- what cells at Groups have is at Groups
pub taken_at_groups : (plan : Plan) (cells : List Cell) → All (λ cell. is_group plan cell.node ≡ true) cells → All (AtGroup plan) (taken_by cells)
taken_at_groups plan cells at =
    All-flat_map (AtGroup plan) (λ cell. map (taken_entry cell.node) cell.entries) cells
    (λ k d within. All-map (AtGroup plan) (taken_entry (get_or cells k d).node) (get_or cells k d).entries (λ i e inside. at k d within))

pub all_entries : (plan : Plan) (c : ℕ) (before after : List StageMarks) (arrivals : List Arrival) (cells new : List Cell) (fired : List Pane)
    → All IsKeyed cells → All (λ cell. is_group plan cell.node ≡ true) cells → AreRounds plan c before after arrivals cells new fired
    → IsSameBag (taken_by new) (taken_by cells ++ map (taken_arrival c) (filter (is_taken plan before) arrivals))
all_entries plan c before after arrivals cells new fired keyed at rounds =
    one_bag (AtGroup plan) like like_itself (taken_by new) (taken_by cells ++ map (taken_arrival c) (filter (is_taken plan before) arrivals))
    (taken_at_groups plan new rounds.cells_at)
    (All-append (AtGroup plan) (taken_by cells) (map (taken_arrival c) (filter (is_taken plan before) arrivals)) (taken_at_groups plan cells at)
    (All-map (AtGroup plan) (taken_arrival c) (filter (is_taken plan before) arrivals)
    (All-weaker (λ a. is_taken plan before a ≡ true) (λ a. is_group plan a.node ≡ true) (λ a h. (and_parts (is_at_group plan a) (arrives_in_time plan before a) h).0)
    (filter (is_taken plan before) arrivals) (filter_passes (is_taken plan before) arrivals))))
    (λ t group. of_key t.node (key_of t.element) group)
  where
    of_key : (node : ℕ) (key : Value) → is_group plan node ≡ true
        → IsSameBag (filter (is_at_key node key) (taken_by new)) (filter (is_at_key node key) (taken_by cells ++ map (taken_arrival c) (filter (is_taken plan before) arrivals)))
    of_key node key group =
        subst (λ (l : List Taken). IsSameBag l (filter (is_at_key node key) (taken_by cells ++ map (taken_arrival c) (filter (is_taken plan before) arrivals)))) (sym (taken_keyed node key new (keys_kept plan c before after arrivals cells new fired keyed rounds)))
        (subst (λ (l : List Taken). IsSameBag (all_taken node (cells_keyed node key new)) l)
        (sym (filter-append (is_at_key node key) (taken_by cells) (map (taken_arrival c) (filter (is_taken plan before) arrivals))
        ∙ (λ i. taken_keyed node key cells keyed i ++ taken_arrivals node key plan c before group arrivals i)))
        (round_entries (rules_of plan node) node key c (marks_at before node).mark_in (marks_at after node).mark_in (elements_keyed node key arrivals) (cells_keyed node key cells) (cells_keyed node key new)
        (filter (is_pane_at_key node key) fired) (rounds.each node key group)))
