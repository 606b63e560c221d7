-- The arrivals of a commit are placed: those at Groups whose windows don't merge one by one, and then the others Group by Group and key by key.
use Rattle.std.proofs.Common.{◌≡◌, ℕ, ◌==◌, ◌&&◌, ℤ, Bool, true, false, cond, List, [], ◌∷◌, map, refl, sym, ap, subst, ◌∙◌, arith}
use Rattle.std.specs.List.{All, Contains, filter}
use Rattle.std.proofs.lemmas.Bool.{false≢true}
use Rattle.std.proofs.lemmas.Bool.Decides.{Decides-eqb}
use Rattle.std.proofs.lemmas.List.Elements.{All-nil, All-cons}
use Rattle.beam_values.specs.Grouping.{key_of}
use Rattle.beam_values.specs.Intervals.{Interval}
use Rattle.beam_values.specs.Marks.{marks_at}
use Rattle.beam_values.specs.Nodes.{is_group}
use Rattle.beam_values.specs.declared.arrival.Arrival.{Arrival}
use Rattle.beam_values.specs.declared.cell.Cell.{Cell}
use Rattle.beam_values.specs.declared.cell.Entry.{Entry}
use Rattle.beam_values.specs.declared.element.Element.{Element}
use Rattle.beam_values.specs.declared.marks.StageMarks.{StageMarks}
use Rattle.beam_values.specs.declared.plan.Plan.{Plan}
use Rattle.beam_values.specs.declared.value.Value.{Value}
use Rattle.beam_model.specs.Panes.{GroupRules, rules_of, is_cell_at_key}
use Rattle.beam_model.specs.Sessions.{is_keyed}
use Rattle.cell_index.specs.Places.{is_cell_of}
use Rattle.group_cells.specs.Arrivals.{arrived, with_arrival, with_arrivals, merging, UnmergedStand, AreOwn}
use Rattle.group_cells.specs.Commits.{CellPlace, cell_place, elements_keyed, is_taken, is_at_group, arrives_in_time}
use Rattle.group_cells.specs.Placing.{Opening, is_same_key, fresh_cell, with_entry, opened_all}
use Rattle.group_cells.specs.Plain.{AreAllPlaced, ArePlaced, is_arrival_at}
use Rattle.group_cells.specs.Rounds.{AreWindowsFor, entry_of, open_windows}
use Rattle.group_cells.proofs.Alike.{and_parts, both_true}
use Rattle.group_cells.proofs.PlacedCells.{GoesOn, GoesOnAt, goes_further, stays_at}
use Rattle.group_cells.proofs.PlainRounds.{in_time_keyed}
use Rattle.group_cells.proofs.Projecting.{project_none, project_merging, project_unmerged}
use Rattle.group_cells.proofs.Unmerged.{AreKeyed, arrived_all, arrived_as_put, opening_of, own_arrived}

-- ---- lists

both_filters : {X : Type 0} (p q r : X → Bool) → ((x : X) → r x ≡ true → p x ≡ true → q x ≡ true) → (xs : List X) → filter r (filter (λ x. p x && q x) xs) ≡ filter r (filter p xs)
both_filters p q r h [] = refl
both_filters p q r h (x ∷ xs) = by (p x) (q x) (r x) refl refl refl (both_filters p q r h xs)
  where
    by : (a b d : Bool) → p x ≡ a → q x ≡ b → r x ≡ d → filter r (filter (λ y. p y && q y) xs) ≡ filter r (filter p xs)
        → filter r (cond (a && b) (x ∷ filter (λ y. p y && q y) xs) (filter (λ y. p y && q y) xs)) ≡ filter r (cond a (x ∷ filter p xs) (filter p xs))
    by false b d e f g ih = ih
    by true true d e f g ih = ap (λ l. cond (r x) (x ∷ l) l) ih
    by true false true e f g ih = absurd (false≢true (sym f ∙ h x g e))
    by true false false e f g ih = ih ∙ sym (ap (λ b. cond b (x ∷ filter r (filter p xs)) (filter r (filter p xs))) g)

no_filter : {X : Type 0} (p q r : X → Bool) → ((x : X) → r x ≡ true → q x ≡ false) → (xs : List X) → filter r (filter (λ x. p x && q x) xs) ≡ []
no_filter p q r h [] = refl
no_filter p q r h (x ∷ xs) = by (p x) (q x) (r x) refl refl (no_filter p q r h xs)
  where
    by : (a b d : Bool) → q x ≡ b → r x ≡ d → filter r (filter (λ y. p y && q y) xs) ≡ []
        → filter r (cond (a && b) (x ∷ filter (λ y. p y && q y) xs) (filter (λ y. p y && q y) xs)) ≡ []
    by false b d f g ih = ih
    by true false d f g ih = ih
    by true true true f g ih = absurd (false≢true (sym (h x g) ∙ f))
    by true true false f g ih = ap (λ b. cond b (x ∷ filter r (filter (λ y. p y && q y) xs)) (filter r (filter (λ y. p y && q y) xs))) g ∙ ih

-- ---- which arrivals are left for later

node_is : (n : ℕ) (k : Value) (a : Arrival) → is_arrival_at n k a ≡ true → a.node ≡ n
node_is n k a e = (Decides-eqb a.node n).0 (and_parts (a.node == n) (is_keyed k a.element) e).0

all_merge : (plan : Plan) (before : List StageMarks) (n : ℕ) (k : Value) → (rules_of plan n).merges ≡ true → (arrivals : List Arrival)
    → elements_keyed n k (filter (merging plan before) arrivals) ≡ elements_keyed n k (filter (is_taken plan before) arrivals)
all_merge plan before n k merges arrivals =
    ap (map (λ (a : Arrival). a.element))
    (both_filters (is_taken plan before) (λ a. (rules_of plan a.node).merges) (is_arrival_at n k) (λ a e f. ap (λ m. (rules_of plan m).merges) (node_is n k a e) ∙ merges) arrivals)

none_taken : (plan : Plan) (before : List StageMarks) (n : ℕ) (k : Value) → is_group plan n ≡ false → (arrivals : List Arrival)
    → elements_keyed n k (filter (merging plan before) arrivals) ≡ elements_keyed n k (filter (is_taken plan before) arrivals)
none_taken plan before n k none arrivals =
    ap (map (λ (a : Arrival). a.element))
    (both_filters (is_taken plan before) (λ a. (rules_of plan a.node).merges) (is_arrival_at n k)
    (λ a e f. absurd (false≢true (sym none ∙ ap (is_group plan) (sym (node_is n k a e)) ∙ (and_parts (is_at_group plan a) (arrives_in_time plan before a) f).0))) arrivals)

none_merge : (plan : Plan) (before : List StageMarks) (n : ℕ) (k : Value) → (rules_of plan n).merges ≡ false → (arrivals : List Arrival)
    → elements_keyed n k (filter (merging plan before) arrivals) ≡ []
none_merge plan before n k unmerged arrivals =
    ap (map (λ (a : Arrival). a.element))
    (no_filter (is_taken plan before) (λ a. (rules_of plan a.node).merges) (is_arrival_at n k) (λ a e. ap (λ m. (rules_of plan m).merges) (node_is n k a e) ∙ unmerged) arrivals)

-- where nothing comes and no window merges, nothing changes
none_placed : (rules : GroupRules) (before : ℤ) (node : ℕ) (key : Value) (c : ℕ) (cells placed : List Cell) → rules.merges ≡ false → ArePlaced rules before node key c [] cells placed → placed ≡ cells
none_placed rules before node key c cells placed unmerged h =
    let windows : AreWindowsFor false [] (open_windows rules before cells) (map (λ (o : Opening). o.span) h.openings) =
    subst (λ b. AreWindowsFor b [] (open_windows rules before cells) (map (λ (o : Opening). o.span) h.openings)) unmerged h.windows in
    h.places ∙ ap (λ os. opened_all rules before node os cells) (no_opening h.openings windows)
  where
    no_opening : (os : List Opening) → ((w : Interval) → (Contains (map (λ (o : Opening). o.span) os) w → Contains [] w) × (Contains [] w → Contains (map (λ (o : Opening). o.span) os) w)) → os ≡ []
    no_opening [] f = refl
    no_opening (o ∷ os) f = let inside = (f o.span).0 (0, omega arith, refl) in absurd (omega (arith, inside.1))

-- ---- of one Group and key

keyed_elements : (n : ℕ) (k : Value) (arrivals : List Arrival) → AreKeyed n k (elements_keyed n k arrivals)
keyed_elements n k [] = tt
keyed_elements n k (a ∷ arrivals) = by (is_arrival_at n k a) refl (keyed_elements n k arrivals)
  where
    by : (t : Bool) → is_arrival_at n k a ≡ t → AreKeyed n k (elements_keyed n k arrivals)
        → AreKeyed n k (map (λ (b : Arrival). b.element) (cond t (a ∷ filter (is_arrival_at n k) arrivals) (filter (is_arrival_at n k) arrivals)))
    by true e ih = (both_true (n == n) (is_keyed k a.element) ((Decides-eqb n n).1 refl) (and_parts (a.node == n) (is_keyed k a.element) e).1, ih)
    by false e ih = ih

keyed_openings : (n : ℕ) (k : Value) (es : List Element) → AreKeyed n k es → All (λ (o : Opening). is_same_key o.key k ≡ true) (map opening_of es)
keyed_openings n k [] h = All-nil (λ (o : Opening). is_same_key o.key k ≡ true)
keyed_openings n k (e ∷ es) h =
    All-cons (λ (o : Opening). is_same_key o.key k ≡ true) (opening_of e) (map opening_of es) (and_parts (n == n) (is_keyed k e) h.0).1 (keyed_openings n k es h.1)

same_windows : (es : List Element) → map (λ (o : Opening). o.span) (map opening_of es) ≡ map (λ (e : Element). e.span) es
same_windows [] = refl
same_windows (e ∷ es) = ap (λ l. e.span ∷ l) (same_windows es)

own_windows : (rules : GroupRules) (es : List Element) (open_ : List Interval) → rules.merges ≡ false
    → AreWindowsFor rules.merges (map (λ (e : Element). e.span) es) open_ (map (λ (o : Opening). o.span) (map opening_of es))
own_windows rules es open_ unmerged =
    subst (λ b. AreWindowsFor b (map (λ (e : Element). e.span) es) open_ (map (λ (o : Opening). o.span) (map opening_of es))) (sym unmerged)
    (subst (λ (l : List Interval). AreWindowsFor false (map (λ (e : Element). e.span) es) open_ l) (sym (same_windows es)) (λ w. ((λ h. h), (λ h. h))))

-- ---- what stays

arrived_on : (plan : Plan) (node : ℕ) (key : Value) (span : Interval) (entry : Entry) → is_group plan node ≡ true → (cells : List Cell) → GoesOnAt plan cells (arrived node key span entry cells)
arrived_on plan node key span entry group [] = record {
  goes = (cell_place (fresh_cell node key span (entry ∷ [])) ∷ [], refl);
  at = All-cons (λ (place : CellPlace). is_group plan place.node ≡ true) (cell_place (fresh_cell node key span (entry ∷ []))) [] group (All-nil (λ (place : CellPlace). is_group plan place.node ≡ true));
}
arrived_on plan node key span entry group (cell ∷ cells) = by (is_cell_of node key span cell) (arrived_on plan node key span entry group cells)
  where
    by : (t : Bool) → GoesOnAt plan cells (arrived node key span entry cells) → GoesOnAt plan (cell ∷ cells) (cond t (with_entry entry cell ∷ cells) (cell ∷ arrived node key span entry cells))
    by true ih = stays_at plan (cell ∷ cells) (with_entry entry cell ∷ cells) refl
    by false ih = record { goes = (ih.goes.0, ap (λ l. cell_place cell ∷ l) ih.goes.1); at = ih.at }

one_on : (plan : Plan) (before : List StageMarks) (c : ℕ) (a : Arrival) (cells : List Cell) → GoesOnAt plan cells (with_arrival plan before c cells a)
one_on plan before c a cells = by (is_taken plan before a) refl (rules_of plan a.node).merges
  where
    by : (t : Bool) → is_taken plan before a ≡ t → (m : Bool)
        → GoesOnAt plan cells (cond t (cond m cells (arrived a.node (key_of a.element) a.element.span (entry_of c a.element) cells)) cells)
    by true e true = stays_at plan cells cells refl
    by true e false = arrived_on plan a.node (key_of a.element) a.element.span (entry_of c a.element) (and_parts (is_at_group plan a) (arrives_in_time plan before a) e).0 cells
    by false e m = stays_at plan cells cells refl

all_on : (plan : Plan) (before : List StageMarks) (c : ℕ) (arrivals : List Arrival) (cells : List Cell) → GoesOnAt plan cells (with_arrivals plan before c cells arrivals)
all_on plan before c [] cells = stays_at plan cells cells refl
all_on plan before c (a ∷ arrivals) cells =
    let one = with_arrival plan before c cells a in
    goes_further plan cells one (with_arrivals plan before c one arrivals) (one_on plan before c a cells) (all_on plan before c arrivals one)

pub all_behind : (plan : Plan) (before : List StageMarks) (c : ℕ) (arrivals : List Arrival) (cells : List Cell) → GoesOn cells (with_arrivals plan before c cells arrivals)
all_behind plan before c arrivals cells = (all_on plan before c arrivals cells).goes

-- ---- all together

module _ (plan : Plan) (before : List StageMarks) (c : ℕ) (arrivals : List Arrival) (old placed : List Cell) where
  abbrev mid : List Cell
  mid = with_arrivals plan before c old arrivals

  abbrev taken_own : ℕ → Value → List Element
  taken_own n k = elements_keyed n k (filter (is_taken plan before) arrivals)

  abbrev keyed_in : ℕ → Value → List Cell → List Cell
  keyed_in n k cells = filter (is_cell_at_key n k) cells

  abbrev Here : ℕ → Value → List Element → List Cell → List Cell → Type 0
  Here n k own from to = ArePlaced (rules_of plan n) (marks_at before n).mark_in n k c own from to

  later : (n : ℕ) (k : Value) → elements_keyed n k (filter (merging plan before) arrivals) ≡ taken_own n k → keyed_in n k mid ≡ keyed_in n k old
      → Here n k (elements_keyed n k (filter (merging plan before) arrivals)) (keyed_in n k mid) (keyed_in n k placed) → Here n k (taken_own n k) (keyed_in n k old) (keyed_in n k placed)
  later n k same stays h =
      subst (λ (l : List Element). Here n k l (keyed_in n k old) (keyed_in n k placed)) same
      (subst (λ (l : List Cell). Here n k (elements_keyed n k (filter (merging plan before) arrivals)) l (keyed_in n k placed)) stays h)

  -- of a Group whose windows don't merge
  now_own : (n : ℕ) (k : Value) → is_group plan n ≡ true → (rules_of plan n).merges ≡ false → keyed_in n k mid ≡ arrived_all n c (taken_own n k) (keyed_in n k old)
  now_own n k group unmerged =
      project_unmerged plan before c n k group unmerged arrivals old
      ∙ sym (ap (λ (l : List Element). arrived_all n c l (keyed_in n k old)) (in_time_keyed plan before n k arrivals group))

  stays_own : (n : ℕ) (k : Value) → (rules_of plan n).merges ≡ false → AreAllPlaced plan before c (filter (merging plan before) arrivals) mid placed → keyed_in n k placed ≡ keyed_in n k mid
  stays_own n k unmerged h =
      none_placed (rules_of plan n) (marks_at before n).mark_in n k c (keyed_in n k mid) (keyed_in n k placed) unmerged
      (subst (λ (l : List Element). Here n k l (keyed_in n k mid) (keyed_in n k placed)) (none_merge plan before n k unmerged arrivals) (h.each n k))

  at_once : (n : ℕ) (k : Value) → is_group plan n ≡ true → (rules_of plan n).merges ≡ false → UnmergedStand plan old
      → AreAllPlaced plan before c (filter (merging plan before) arrivals) mid placed → Here n k (taken_own n k) (keyed_in n k old) (keyed_in n k placed)
  at_once n k group unmerged stand h = record {
    openings = map opening_of (taken_own n k);
    keyed = keyed_openings n k (taken_own n k) (keyed_elements n k (filter (is_taken plan before) arrivals));
    windows = own_windows (rules_of plan n) (taken_own n k) (open_windows (rules_of plan n) (marks_at before n).mark_in (keyed_in n k old)) unmerged;
    places =
        stays_own n k unmerged h ∙ now_own n k group unmerged
        ∙ arrived_as_put (rules_of plan n) (marks_at before n).mark_in n k c unmerged (taken_own n k) (keyed_elements n k (filter (is_taken plan before) arrivals)) (keyed_in n k old)
        (stand.each n k group unmerged);
  }

  each_placed : UnmergedStand plan old → AreAllPlaced plan before c (filter (merging plan before) arrivals) mid placed → (n : ℕ) (k : Value) → Here n k (taken_own n k) (keyed_in n k old) (keyed_in n k placed)
  each_placed stand h n k = by (is_group plan n) refl (rules_of plan n).merges refl
    where
      by : (g : Bool) → is_group plan n ≡ g → (m : Bool) → (rules_of plan n).merges ≡ m → Here n k (taken_own n k) (keyed_in n k old) (keyed_in n k placed)
      by false e m f = later n k (none_taken plan before n k e arrivals) (project_none plan before c n k e arrivals old) (h.each n k)
      by true e true f = later n k (all_merge plan before n k f arrivals) (project_merging plan before c n k e f arrivals old) (h.each n k)
      by true e false f = at_once n k e f stand h

  pub all_placed : UnmergedStand plan old → AreAllPlaced plan before c (filter (merging plan before) arrivals) mid placed → AreAllPlaced plan before c (filter (is_taken plan before) arrivals) old placed
  all_placed stand h =
      let on = goes_further plan old mid placed (all_on plan before c arrivals old) (record { goes = (h.behind, h.places); at = h.behind_at }) in
      record {
        each = each_placed stand h;
        behind = on.goes.0;
        behind_at = on.at;
        places = on.goes.1;
      }

  -- and those windows that don't merge stand
  own_all_arrived : (n : ℕ) (k : Value) (es : List Element) → AreKeyed n k es → (cells : List Cell) → AreOwn n k cells → AreOwn n k (arrived_all n c es cells)
  own_all_arrived n k [] keyed cells own = own
  own_all_arrived n k (e ∷ es) keyed cells own =
      own_all_arrived n k es keyed.1 (arrived n (key_of e) e.span (entry_of c e) cells) (own_arrived n k (key_of e) e.span (entry_of c e) keyed.0 cells own)

  pub all_stand : UnmergedStand plan old → AreAllPlaced plan before c (filter (merging plan before) arrivals) mid placed → UnmergedStand plan placed
  all_stand stand h = record {
    each = λ n k group unmerged.
        subst (AreOwn n k) (sym (stays_own n k unmerged h ∙ now_own n k group unmerged))
        (own_all_arrived n k (taken_own n k) (keyed_elements n k (filter (is_taken plan before) arrivals)) (keyed_in n k old) (stand.each n k group unmerged));
  }

pub joined : (plan : Plan) (before : List StageMarks) (c : ℕ) (arrivals later : List Arrival) (old from placed : List Cell) → later ≡ filter (merging plan before) arrivals
    → from ≡ with_arrivals plan before c old arrivals → AreAllPlaced plan before c later from placed
    → AreAllPlaced plan before c (filter (merging plan before) arrivals) (with_arrivals plan before c old arrivals) placed
joined plan before c arrivals later old from placed same is h =
    subst (λ (l : List Arrival). AreAllPlaced plan before c l (with_arrivals plan before c old arrivals) placed) same
    (subst (λ (l : List Cell). AreAllPlaced plan before c later l placed) is h)
