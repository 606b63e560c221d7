-- All arrivals of a commit, as they go among the cells of one Group and key.
use Rattle.std.proofs.Common.{◌≡◌, ℕ, ◌==◌, ◌&&◌, Bool, true, false, cond, List, [], ◌∷◌, map, refl, sym, ap, ◌∙◌}
use Rattle.std.specs.List.{filter, fold}
use Rattle.std.specs.Str.{bytes_eq}
use Rattle.std.proofs.lemmas.Bool.Decides.{Decides-eqb}
use Rattle.beam_values.specs.Grouping.{key_of}
use Rattle.beam_values.specs.Marks.{marks_at}
use Rattle.beam_values.specs.Nodes.{is_group}
use Rattle.beam_values.specs.Spelling.{spelling}
use Rattle.beam_values.specs.declared.arrival.Arrival.{Arrival}
use Rattle.beam_values.specs.declared.cell.Cell.{Cell}
use Rattle.beam_values.specs.declared.element.Element.{Element}
use Rattle.beam_values.specs.declared.marks.StageMarks.{StageMarks}
use Rattle.beam_values.specs.declared.plan.Plan.{Plan}
use Rattle.beam_values.specs.declared.value.Value.{Value}
use Rattle.beam_model.specs.Panes.{GroupRules, rules_of, is_cell_at_key}
use Rattle.beam_model.specs.Sessions.{is_keyed}
use Rattle.group_cells.specs.Arrivals.{arrived, with_arrival, with_arrivals}
use Rattle.group_cells.specs.Commits.{elements_keyed, is_taken}
use Rattle.group_cells.specs.Rounds.{is_in_time, entry_of}
use Rattle.group_cells.proofs.Alike.{and_parts, same_group}
use Rattle.group_cells.proofs.Unmerged.{arrived_all}
use Rattle.group_cells.proofs.Arriving.{arrived_elsewhere, arrived_here}

-- an element in time among all cells, or among those of its node and key
abbrev pub with_taken : GroupRules → ℕ → ℕ → List Cell → Element → List Cell
with_taken rules m c cells e = cond rules.merges cells (arrived m (key_of e) e.span (entry_of c e) cells)

taken_own : (rules : GroupRules) (n : ℕ) (k : Value) (c : ℕ) (e : Element) (cells : List Cell) → same_group n k n (key_of e) ≡ true
    → filter (is_cell_at_key n k) (with_taken rules n c cells e) ≡ with_taken rules n c (filter (is_cell_at_key n k) cells) e
taken_own rules n k c e cells same = by_merges rules.merges
  where
    by_merges : (b : Bool) → filter (is_cell_at_key n k) (cond b cells (arrived n (key_of e) e.span (entry_of c e) cells))
        ≡ cond b (filter (is_cell_at_key n k) cells) (arrived n (key_of e) e.span (entry_of c e) (filter (is_cell_at_key n k) cells))
    by_merges true = refl
    by_merges false = arrived_here n k n (key_of e) e.span (entry_of c e) same cells

taken_elsewhere : (rules : GroupRules) (n : ℕ) (k : Value) (m : ℕ) (c : ℕ) (e : Element) (cells : List Cell) → same_group n k m (key_of e) ≡ false
    → filter (is_cell_at_key n k) (with_taken rules m c cells e) ≡ filter (is_cell_at_key n k) cells
taken_elsewhere rules n k m c e cells away = by_merges rules.merges
  where
    by_merges : (b : Bool) → filter (is_cell_at_key n k) (cond b cells (arrived m (key_of e) e.span (entry_of c e) cells)) ≡ filter (is_cell_at_key n k) cells
    by_merges true = refl
    by_merges false = arrived_elsewhere n k m (key_of e) e.span (entry_of c e) away cells

-- an arrival of another node or key changes nothing here
one_elsewhere : (plan : Plan) (before : List StageMarks) (c n : ℕ) (k : Value) (a : Arrival) (cells : List Cell) → same_group n k a.node (key_of a.element) ≡ false
    → filter (is_cell_at_key n k) (with_arrival plan before c cells a) ≡ filter (is_cell_at_key n k) cells
one_elsewhere plan before c n k a cells away = by_taken (is_taken plan before a)
  where
    by_taken : (b : Bool) → filter (is_cell_at_key n k) (cond b (with_taken (rules_of plan a.node) a.node c cells a.element) cells) ≡ filter (is_cell_at_key n k) cells
    by_taken true = taken_elsewhere (rules_of plan a.node) n k a.node c a.element cells away
    by_taken false = refl

abbrev pub in_time_at : Plan → List StageMarks → ℕ → Element → Bool
in_time_at plan before n e = is_in_time (rules_of plan n) (marks_at before n).mark_in e

abbrev one_at : Plan → List StageMarks → ℕ → ℕ → Element → List Cell → List Cell
one_at plan before c m e cells = cond (is_group plan m && in_time_at plan before m e) (with_taken (rules_of plan m) m c cells e) cells

pub one_here : (plan : Plan) (before : List StageMarks) (c n : ℕ) (k : Value) (a : Arrival) (cells : List Cell) → is_group plan n ≡ true → same_group n k a.node (key_of a.element) ≡ true
    → filter (is_cell_at_key n k) (with_arrival plan before c cells a)
    ≡ cond (in_time_at plan before n a.element) (with_taken (rules_of plan n) n c (filter (is_cell_at_key n k) cells) a.element) (filter (is_cell_at_key n k) cells)
one_here plan before c n k a cells group same =
    let both = and_parts (a.node == n) (bytes_eq (spelling (key_of a.element)) (spelling k)) same in
    let at : a.node ≡ n = (Decides-eqb a.node n).0 both.0 in
    let here : same_group n k n (key_of a.element) ≡ true = ap (λ m. m == n && bytes_eq (spelling (key_of a.element)) (spelling k)) (sym at) ∙ same in
    ap (λ m. filter (is_cell_at_key n k) (one_at plan before c m a.element cells)) at
    ∙ ap (λ b. filter (is_cell_at_key n k) (cond (b && in_time_at plan before n a.element) (with_taken (rules_of plan n) n c cells a.element) cells)) group
    ∙ by_time (in_time_at plan before n a.element) here
  where
    by_time : (b : Bool) → same_group n k n (key_of a.element) ≡ true
        → filter (is_cell_at_key n k) (cond b (with_taken (rules_of plan n) n c cells a.element) cells)
        ≡ cond b (with_taken (rules_of plan n) n c (filter (is_cell_at_key n k) cells) a.element) (filter (is_cell_at_key n k) cells)
    by_time true here = taken_own (rules_of plan n) n k c a.element cells here
    by_time false here = refl

-- those in time, one by one
pub project : (plan : Plan) (before : List StageMarks) (c n : ℕ) (k : Value) → is_group plan n ≡ true → (arrivals : List Arrival) (cells : List Cell)
    → filter (is_cell_at_key n k) (with_arrivals plan before c cells arrivals)
    ≡ fold (with_taken (rules_of plan n) n c) (filter (is_cell_at_key n k) cells) (filter (in_time_at plan before n) (elements_keyed n k arrivals))
project plan before c n k group [] cells = refl
project plan before c n k group (a ∷ arrivals) cells =
    project plan before c n k group arrivals (with_arrival plan before c cells a)
    ∙ by_test (same_group n k a.node (key_of a.element)) (in_time_at plan before n a.element) refl refl
  where
    rest : List Element
    rest = filter (in_time_at plan before n) (elements_keyed n k arrivals)

    by_test : (t u : Bool) → same_group n k a.node (key_of a.element) ≡ t → in_time_at plan before n a.element ≡ u
        → fold (with_taken (rules_of plan n) n c) (filter (is_cell_at_key n k) (with_arrival plan before c cells a)) (filter (in_time_at plan before n) (elements_keyed n k arrivals))
        ≡ fold (with_taken (rules_of plan n) n c) (filter (is_cell_at_key n k) cells)
        (filter (in_time_at plan before n) (map (λ arrival. arrival.element) (cond t (a ∷ filter (λ arrival. arrival.node == n && is_keyed k arrival.element) arrivals) (filter (λ arrival. arrival.node == n && is_keyed k arrival.element) arrivals))))
    by_test false u e f =
        ap (λ l. fold (with_taken (rules_of plan n) n c) l (filter (in_time_at plan before n) (elements_keyed n k arrivals))) (one_elsewhere plan before c n k a cells e)
    by_test true true e f =
        ap (λ l. fold (with_taken (rules_of plan n) n c) l (filter (in_time_at plan before n) (elements_keyed n k arrivals)))
        (one_here plan before c n k a cells group e ∙ ap (λ b. cond b (with_taken (rules_of plan n) n c (filter (is_cell_at_key n k) cells) a.element) (filter (is_cell_at_key n k) cells)) f)
        ∙ sym (ap (λ b. fold (with_taken (rules_of plan n) n c) (filter (is_cell_at_key n k) cells) (cond b (a.element ∷ filter (in_time_at plan before n) (elements_keyed n k arrivals)) (filter (in_time_at plan before n) (elements_keyed n k arrivals)))) f)
    by_test true false e f =
        ap (λ l. fold (with_taken (rules_of plan n) n c) l (filter (in_time_at plan before n) (elements_keyed n k arrivals)))
        (one_here plan before c n k a cells group e ∙ ap (λ b. cond b (with_taken (rules_of plan n) n c (filter (is_cell_at_key n k) cells) a.element) (filter (is_cell_at_key n k) cells)) f)
        ∙ sym (ap (λ b. fold (with_taken (rules_of plan n) n c) (filter (is_cell_at_key n k) cells) (cond b (a.element ∷ filter (in_time_at plan before n) (elements_keyed n k arrivals)) (filter (in_time_at plan before n) (elements_keyed n k arrivals)))) f)

-- at a node that is no Group nothing arrives
pub project_none : (plan : Plan) (before : List StageMarks) (c n : ℕ) (k : Value) → is_group plan n ≡ false → (arrivals : List Arrival) (cells : List Cell)
    → filter (is_cell_at_key n k) (with_arrivals plan before c cells arrivals) ≡ filter (is_cell_at_key n k) cells
project_none plan before c n k none [] cells = refl
project_none plan before c n k none (a ∷ arrivals) cells =
    project_none plan before c n k none arrivals (with_arrival plan before c cells a) ∙ by_test (same_group n k a.node (key_of a.element)) refl
  where
    by_test : (t : Bool) → same_group n k a.node (key_of a.element) ≡ t → filter (is_cell_at_key n k) (with_arrival plan before c cells a) ≡ filter (is_cell_at_key n k) cells
    by_test false e = one_elsewhere plan before c n k a cells e
    by_test true e =
        let at : a.node ≡ n = (Decides-eqb a.node n).0 (and_parts (a.node == n) (bytes_eq (spelling (key_of a.element)) (spelling k)) e).0 in
        ap (λ m. filter (is_cell_at_key n k) (one_at plan before c m a.element cells)) at
        ∙ ap (λ b. filter (is_cell_at_key n k) (cond (b && in_time_at plan before n a.element) (with_taken (rules_of plan n) n c cells a.element) cells)) none

own_only : (rules : GroupRules) (n c : ℕ) → rules.merges ≡ true → (es : List Element) (cells : List Cell) → fold (with_taken rules n c) cells es ≡ cells
own_only rules n c merges [] cells = refl
own_only rules n c merges (e ∷ es) cells =
    ap (λ b. fold (with_taken rules n c) (cond b cells (arrived n (key_of e) e.span (entry_of c e) cells)) es) merges ∙ own_only rules n c merges es cells

own_all : (rules : GroupRules) (n c : ℕ) → rules.merges ≡ false → (es : List Element) (cells : List Cell) → fold (with_taken rules n c) cells es ≡ arrived_all n c es cells
own_all rules n c unmerged [] cells = refl
own_all rules n c unmerged (e ∷ es) cells =
    ap (λ b. fold (with_taken rules n c) (cond b cells (arrived n (key_of e) e.span (entry_of c e) cells)) es) unmerged
    ∙ own_all rules n c unmerged es (arrived n (key_of e) e.span (entry_of c e) cells)

-- where windows merge, nothing changes yet
pub project_merging : (plan : Plan) (before : List StageMarks) (c n : ℕ) (k : Value) → is_group plan n ≡ true → (rules_of plan n).merges ≡ true → (arrivals : List Arrival) (cells : List Cell)
    → filter (is_cell_at_key n k) (with_arrivals plan before c cells arrivals) ≡ filter (is_cell_at_key n k) cells
project_merging plan before c n k group merges arrivals cells =
    project plan before c n k group arrivals cells ∙ own_only (rules_of plan n) n c merges (filter (in_time_at plan before n) (elements_keyed n k arrivals)) (filter (is_cell_at_key n k) cells)

-- and where they don't, all are in their places
pub project_unmerged : (plan : Plan) (before : List StageMarks) (c n : ℕ) (k : Value) → is_group plan n ≡ true → (rules_of plan n).merges ≡ false → (arrivals : List Arrival) (cells : List Cell)
    → filter (is_cell_at_key n k) (with_arrivals plan before c cells arrivals)
    ≡ arrived_all n c (filter (in_time_at plan before n) (elements_keyed n k arrivals)) (filter (is_cell_at_key n k) cells)
project_unmerged plan before c n k group unmerged arrivals cells =
    project plan before c n k group arrivals cells ∙ own_all (rules_of plan n) n c unmerged (filter (in_time_at plan before n) (elements_keyed n k arrivals)) (filter (is_cell_at_key n k) cells)
