-- The arrivals that Groups take are placed, one Group and key after another.
use Rattle.std.proofs.Common.{◌≡◌, ◌⊎◌, inl, inr, ℕ, suc, ◌==◌, ◌<◌, ◌≤◌, ℤ, Bool, true, false, cond, List, [], ◌∷◌, map, length, refl, sym, ap, subst, ◌∙◌, arith}
use Rattle.std.specs.Prelude.{not, Some, slice_get}
use Rattle.std.specs.List.{All, filter}
use Rattle.std.proofs.lemmas.Bool.{cases_Bool, and_parts, eqb-true}
use Rattle.std.proofs.lemmas.List.Elements.{All-nil, All-head, All-filter}
use Rattle.beam_values.specs.Grouping.{key_of}
use Rattle.beam_values.specs.Marks.{marks_at}
use Rattle.beam_values.specs.Nodes.{is_group}
use Rattle.beam_values.specs.declared.arrival.Arrival.{Arrival}
use Rattle.beam_values.specs.declared.cell.Cell.{Cell}
use Rattle.beam_values.specs.declared.element.Element.{Element}
use Rattle.beam_values.specs.declared.marks.StageMarks.{StageMarks}
use Rattle.beam_values.specs.declared.plan.Plan.{Plan}
use Rattle.beam_values.specs.declared.value.Value.{Value}
use Rattle.beam_model.specs.Panes.{GroupRules, rules_of}
use Rattle.group_cells.specs.Commits.{cells_keyed, elements_keyed}
use Rattle.group_cells.specs.Placing.{Opening, is_same_key}
use Rattle.group_cells.specs.Plain.{AreAllPlaced, ArePlaced, ArePlacedAt, is_arrival_at}
use Rattle.group_cells.specs.Rounds.{AreWindowsFor, open_windows}
use Rattle.group_cells.proofs.PlacedKeys.{at_alike, at_apart, at_itself, filter_same, is_at, placed_other, placed_same}
use Rattle.group_cells.proofs.PlacedCells.{GoesOnAt, goes_further, placed_on_at, stays_at}

-- ---- filters

filter_both : {X : Type 0} (p q : X → Bool) → ((x : X) → q x ≡ true → p x ≡ false) → (xs : List X) → filter p (filter (λ x. not (q x)) xs) ≡ filter p xs
filter_both p q h [] = refl
filter_both p q h (x ∷ xs) = by (q x) refl (filter_both p q h xs)
  where
    by : (b : Bool) → q x ≡ b → filter p (filter (λ y. not (q y)) xs) ≡ filter p xs
        → filter p (cond (not b) (x ∷ filter (λ y. not (q y)) xs) (filter (λ y. not (q y)) xs)) ≡ cond (p x) (x ∷ filter p xs) (filter p xs)
    by true e r = r ∙ sym (ap (λ b. cond b (x ∷ filter p xs) (filter p xs)) (h x e))
    by false e r = ap (λ l. cond (p x) (x ∷ l) l) r

filter_other : {X : Type 0} (p : X → Bool) (xs : List X) → filter p (filter (λ x. not (p x)) xs) ≡ []
filter_other p [] = refl
filter_other p (x ∷ xs) = by (p x) refl (filter_other p xs)
  where
    by : (b : Bool) → p x ≡ b → filter p (filter (λ y. not (p y)) xs) ≡ []
        → filter p (cond (not b) (x ∷ filter (λ y. not (p y)) xs) (filter (λ y. not (p y)) xs)) ≡ []
    by true e r = r
    by false e r = ap (λ b. cond b (x ∷ filter p (filter (λ y. not (p y)) xs)) (filter p (filter (λ y. not (p y)) xs))) e ∙ r

fewer : {X : Type 0} (p : X → Bool) (xs : List X) → length (filter p xs) ≤ length xs
fewer p [] = omega arith
fewer p (x ∷ xs) = by (p x) (fewer p xs)
  where
    by : (b : Bool) → length (filter p xs) ≤ length xs → length (cond b (x ∷ filter p xs) (filter p xs)) ≤ suc (length xs)
    by true h = omega arith
    by false h = omega arith

-- ---- where nothing comes, nothing is placed

pub placed_none : (rules : GroupRules) (before : ℤ) (node : ℕ) (key : Value) (c : ℕ) (cells : List Cell) → ArePlaced rules before node key c [] cells cells
placed_none rules before node key c cells = record {
  openings = [];
  keyed = All-nil (λ (opening : Opening). is_same_key opening.key key ≡ true);
  windows = by rules.merges;
  places = refl;
}
  where
    by : (b : Bool) → AreWindowsFor b [] (open_windows rules before cells) []
    by false = λ w. ((λ h. h), (λ h. h))
    by true = record { each = λ k d l. absurd (omega arith); covers = λ k d l. absurd (omega arith) }

module _ (plan : Plan) (before : List StageMarks) (c : ℕ) (all : List Arrival) (old : List Cell) where
  abbrev Here : ℕ → Value → List Element → List Cell → List Cell → Type 0
  Here node key own cells placed = ArePlaced (rules_of plan node) (marks_at before node).mark_in node key c own cells placed

  -- of a Group and key nothing is placed yet, or all
  abbrev pub SoFar : List Arrival → List Cell → ℕ → Value → Type 0
  SoFar left cells node key =
      ((elements_keyed node key left ≡ elements_keyed node key all) × (cells_keyed node key cells ≡ cells_keyed node key old))
      ⊎ ((elements_keyed node key left ≡ []) × ArePlaced (rules_of plan node) (marks_at before node).mark_in node key c (elements_keyed node key all) (cells_keyed node key old) (cells_keyed node key cells))

  pub record AreSoFar (left : List Arrival) (cells : List Cell) : Type 0 where
    pub each : (node : ℕ) (key : Value) → SoFar left cells node key
    pub groups : All (λ arrival. is_group plan arrival.node ≡ true) left
    pub on : GoesOnAt plan old cells

  pub so_far_none : All (λ arrival. is_group plan arrival.node ≡ true) all → AreSoFar all old
  so_far_none groups = record {
    each = λ node key. inl (refl, refl);
    groups = groups;
    on = stays_at plan old old refl;
  }

  pub so_far_all : (left : List Arrival) (cells : List Cell) → left ≡ [] → AreSoFar left cells → AreAllPlaced plan before c all old cells
  so_far_all left cells ended h = record {
    each = λ node key. by node key (h.each node key);
    behind = h.on.goes.0;
    behind_at = h.on.at;
    places = h.on.goes.1;
  }
    where
      by : (node : ℕ) (key : Value) → SoFar left cells node key → Here node key (elements_keyed node key all) (cells_keyed node key old) (cells_keyed node key cells)
      by node key (inl same) =
          let none : [] ≡ elements_keyed node key all = sym (ap (elements_keyed node key) ended) ∙ same.0 in
          subst (λ (own : List Element). Here node key own (cells_keyed node key old) (cells_keyed node key cells)) none
          (subst (λ (l : List Cell). Here node key [] l (cells_keyed node key cells)) same.1
          (placed_none (rules_of plan node) (marks_at before node).mark_in node key c (cells_keyed node key cells)))
      by node key (inr done) = done.1

  module _ (left : List Arrival) (cells : List Cell) (first : Arrival) (rest : List Arrival) (n : ℕ) (k : Value) (others : List Arrival) (placed : List Cell)
      (is : left ≡ first ∷ rest) (n_is : n ≡ first.node) (k_is : k ≡ key_of first.element)
      (others_are : others ≡ filter (λ arrival. not (is_arrival_at n k arrival)) left)
      (placed_are : ArePlacedAt (rules_of plan n) (marks_at before n).mark_in n k c (elements_keyed n k left) cells placed) where
    first_at : is_arrival_at n k first ≡ true
    first_at = (λ i. is_at n k (sym n_is i) (sym k_is i)) ∙ at_itself n k

    pub fewer_left : length others < length left
    fewer_left =
        let gone : others ≡ filter (λ arrival. not (is_arrival_at n k arrival)) rest =
        others_are ∙ ap (filter (λ arrival. not (is_arrival_at n k arrival))) is
        ∙ ap (λ b. cond (not b) (first ∷ filter (λ arrival. not (is_arrival_at n k arrival)) rest) (filter (λ arrival. not (is_arrival_at n k arrival)) rest)) first_at in
        omega (arith, ap length gone, ap length is, fewer (λ arrival. not (is_arrival_at n k arrival)) rest)

    here_some : (node : ℕ) (key : Value) → is_at node key n k ≡ true → elements_keyed node key left ≡ [] → ⊥
    here_some node key on none =
        let at : is_arrival_at node key first ≡ true = sym (at_alike node key n k on first.node (key_of first.element)) ∙ first_at in
        let some : elements_keyed node key left ≡ first.element ∷ elements_keyed node key rest =
        ap (elements_keyed node key) is ∙ ap (λ b. map (λ arrival. arrival.element) (cond b (first ∷ filter (is_arrival_at node key) rest) (filter (is_arrival_at node key) rest))) at in
        let no_ : first.element ∷ elements_keyed node key rest ≡ [] = sym some ∙ none in cc

    alike_elements : (node : ℕ) (key : Value) → is_at node key n k ≡ true → elements_keyed n k left ≡ elements_keyed node key left
    alike_elements node key on =
        ap (map (λ arrival. arrival.element)) (filter_same (is_arrival_at n k) (is_arrival_at node key) (λ arrival. at_alike node key n k on arrival.node (key_of arrival.element)) left)

    other_elements : (node : ℕ) (key : Value) → is_at node key n k ≡ false → elements_keyed node key others ≡ elements_keyed node key left
    other_elements node key off =
        ap (elements_keyed node key) others_are
        ∙ ap (map (λ arrival. arrival.element)) (filter_both (is_arrival_at node key) (is_arrival_at n k) (λ arrival. at_apart node key n k off arrival.node (key_of arrival.element)) left)

    here_placed : (node : ℕ) (key : Value) → is_at node key n k ≡ true → Here node key (elements_keyed n k left) (cells_keyed node key cells) (cells_keyed node key placed)
    here_placed node key on =
        subst (λ (m : ℕ). ArePlaced (rules_of plan m) (marks_at before m).mark_in node key c (elements_keyed n k left) (cells_keyed node key cells) (cells_keyed node key placed))
        (eqb-true n node (and_parts (n == node) (is_same_key k key) on).0)
        (placed_same node key (rules_of plan n) (marks_at before n).mark_in n k c (elements_keyed n k left) cells placed on placed_are)

    step : (node : ℕ) (key : Value) → SoFar left cells node key → (is_at node key n k ≡ true) ⊎ (is_at node key n k ≡ false) → SoFar others placed node key
    step node key (inl same) (inl on) = inr (
      ap (elements_keyed node key) others_are
          ∙ ap (map (λ arrival. arrival.element)) (ap (λ (p : Arrival → Bool). filter (is_arrival_at node key) (filter (λ arrival. not (p arrival)) left)) (λ i arrival. at_alike node key n k on arrival.node (key_of arrival.element) i)
          ∙ filter_other (is_arrival_at node key) left),
      subst (λ (own : List Element). Here node key own (cells_keyed node key old) (cells_keyed node key placed)) (alike_elements node key on ∙ same.0)
          (subst (λ (l : List Cell). Here node key (elements_keyed n k left) l (cells_keyed node key placed)) same.1 (here_placed node key on)),
    )
    step node key (inr done) (inl on) = absurd (here_some node key on done.0)
    step node key (inl same) (inr off) = inl (other_elements node key off ∙ same.0, placed_other node key (rules_of plan n) (marks_at before n).mark_in n k c (elements_keyed n k left) cells placed off placed_are ∙ same.1)
    step node key (inr done) (inr off) = inr (
      other_elements node key off ∙ done.0,
      subst (Here node key (elements_keyed node key all) (cells_keyed node key old)) (sym (placed_other node key (rules_of plan n) (marks_at before n).mark_in n k c (elements_keyed n k left) cells placed off placed_are)) done.1,
    )

    pub so_far_more : AreSoFar left cells → AreSoFar others placed
    so_far_more h = record {
      each = λ node key. step node key (h.each node key) (cases_Bool (is_at node key n k));
      groups = subst (All (λ arrival. is_group plan arrival.node ≡ true)) (sym others_are) (All-filter (λ arrival. not (is_arrival_at n k arrival)) (λ arrival. is_group plan arrival.node ≡ true) left h.groups);
      on = goes_further plan old cells placed h.on (placed_on_at plan (rules_of plan n) n k group (marks_at before n).mark_in c (elements_keyed n k left) cells placed placed_are);
    }
      where
        group : is_group plan n ≡ true
        group = ap (is_group plan) n_is ∙ All-head (λ arrival. is_group plan arrival.node ≡ true) first rest (subst (All (λ arrival. is_group plan arrival.node ≡ true)) is h.groups)

pub first_of_all : (left : List Arrival) (first : Arrival) → slice_get left 0 ≡ Some first → (rest : List Arrival) × (left ≡ first ∷ rest)
first_of_all [] first h = absurd (cc)
first_of_all (a ∷ rest) first h = (rest, ap (λ x. x ∷ rest) (cc))
