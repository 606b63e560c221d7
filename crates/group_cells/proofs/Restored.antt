-- What of the cells of a book that was stored the type of Groups keeps.
use Rattle.std.proofs.Common.{◌≡◌, ℕ, ◌≤◌, ◌==◌, Bool, true, false, cond, List, [], ◌∷◌, get_or, refl, sym, ap, subst, ◌∙◌, arith}
use Rattle.std.specs.Prelude.{bytes_eq}
use Rattle.std.specs.List.{All, count_by, filter}
use Rattle.std.proofs.lemmas.Bool.{eqb-true, false≢true}
use Rattle.std.proofs.lemmas.List.Elements.{All-head, All-tail, All-weaker, filter_passes}
use Rattle.std.proofs.lemmas.List.Sums.{sum_by-cons}
use Rattle.beam_values.specs.Nodes.{is_group}
use Rattle.beam_values.specs.Spans.{same_span}
use Rattle.beam_values.specs.Spelling.{spelling}
use Rattle.beam_values.specs.declared.cell.Cell.{Cell}
use Rattle.beam_values.specs.declared.marks.StageMarks.{StageMarks}
use Rattle.beam_values.specs.declared.plan.Plan.{Plan}
use Rattle.beam_values.specs.declared.value.Value.{Value}
use Rattle.beam_model.specs.Panes.{GroupRules, is_cell_at_key, rules_of}
use Rattle.group_cells.specs.Arrivals.{AreOwn, UnmergedStand}
use Rattle.group_cells.specs.Commits.{cells_keyed}
use Rattle.group_cells.specs.Placing.{is_standing, stands_as}
use Rattle.group_cells.specs.Plain.{AreCells, StandOnce}
use Rattle.group_cells.specs.Sane.{AreSaneCells, HasTaker}
use Rattle.group_cells.proofs.Alike.{and_parts}
use Rattle.group_cells.proofs.Counting.{filter_none}

-- what passes a test passes a wider one
count_fewer : {X : Type 0} (p q : X → Bool) → ((x : X) → p x ≡ true → q x ≡ true) → (xs : List X) → count_by p xs ≤ count_by q xs
count_fewer p q more [] = omega arith
count_fewer p q more (x ∷ xs) = by (p x) refl (count_fewer p q more xs)
  where
    by : (t : Bool) → p x ≡ t → count_by p xs ≤ count_by q xs → count_by p (x ∷ xs) ≤ count_by q (x ∷ xs)
    by true e fewer =
        let here : cond {A = ℕ} (p x) 1 0 ≡ 1 = ap (λ (b : Bool). cond {A = ℕ} b 1 0) e in
        let there : cond {A = ℕ} (q x) 1 0 ≡ 1 = ap (λ (b : Bool). cond {A = ℕ} b 1 0) (more x e) in
        omega (arith, sum_by-cons (λ (y : _). cond {A = ℕ} (p y) 1 0) x xs, sum_by-cons (λ (y : _). cond {A = ℕ} (q y) 1 0) x xs)
    by false e fewer =
        let here : cond {A = ℕ} (p x) 1 0 ≡ 0 = ap (λ (b : Bool). cond {A = ℕ} b 1 0) e in
        omega (arith, sum_by-cons (λ (y : _). cond {A = ℕ} (p y) 1 0) x xs, sum_by-cons (λ (y : _). cond {A = ℕ} (q y) 1 0) x xs)

module _ (plan : Plan) (marks : List StageMarks) (cells : List Cell) (sane : AreSaneCells plan marks cells) where
  none_elsewhere : (node : ℕ) (key : Value) → is_group plan node ≡ false → cells_keyed node key cells ≡ []
  none_elsewhere node key off = filter_none (is_cell_at_key node key) cells (λ k d within. by (get_or cells k d) (sane.at_groups k d within) (is_cell_at_key node key (get_or cells k d)) refl)
    where
      by : (cell : Cell) → is_group plan cell.node ≡ true → (t : Bool) → is_cell_at_key node key cell ≡ t → is_cell_at_key node key cell ≡ false
      by cell group true e =
          let here : cell.node ≡ node = eqb-true cell.node node (and_parts (cell.node == node) (bytes_eq (spelling cell.key) (spelling key)) e).0 in
          absurd (false≢true (sym off ∙ sym (ap (is_group plan) here) ∙ group))
      by cell group false e = e

  stand_once : StandOnce cells
  stand_once node key w = by (is_group plan node) refl
    where
      by : (t : Bool) → is_group plan node ≡ t → count_by (stands_as w) (filter (is_cell_at_key node key) cells) ≤ 1
      by true group =
          let fewer = count_fewer (stands_as w) (λ cell. same_span cell.span w) (λ cell e. (and_parts (is_standing cell.merged_into) (same_span cell.span w) e).1) (cells_keyed node key cells) in
          omega (arith, fewer, sane.once.each node key group w)
      by false off = subst (λ (own : List Cell). count_by (stands_as w) own ≤ 1) (sym (none_elsewhere node key off)) (omega arith)

  pub are_cells : AreCells plan cells
  are_cells = record { groups = sane.at_groups; once = stand_once }

  pub unmerged_stand : UnmergedStand plan cells
  unmerged_stand = record {
    each = λ node key group unmerged.
        own_of node key (cells_keyed node key cells) (filter_passes (is_cell_at_key node key) cells)
        (All-weaker (HasTaker (rules_of plan node) (cells_keyed node key cells)) (λ (cell : Cell). is_standing cell.merged_into ≡ true)
        (λ cell taker. stands (rules_of plan node) unmerged cell taker (is_standing cell.merged_into) refl) (cells_keyed node key cells) (sane.merged.each node key group));
  }
    where
      stands : (rules : GroupRules) → rules.merges ≡ false → (cell : Cell) {own : List Cell} → HasTaker rules own cell → (t : Bool) → is_standing cell.merged_into ≡ t → is_standing cell.merged_into ≡ true
      stands rules unmerged cell taker true e = e
      stands rules unmerged cell taker false e = absurd (false≢true (sym unmerged ∙ (taker e).merges))

      own_of : (n : ℕ) (k : Value) (own : List Cell) → All (λ cell. is_cell_at_key n k cell ≡ true) own → All (λ cell. is_standing cell.merged_into ≡ true) own → AreOwn n k own
      own_of n k [] at stand = tt
      own_of n k (cell ∷ own) at stand = (
        All-head (λ c. is_cell_at_key n k c ≡ true) cell own at,
        All-head (λ c. is_standing c.merged_into ≡ true) cell own stand,
        own_of n k own (All-tail (λ c. is_cell_at_key n k c ≡ true) cell own at) (All-tail (λ c. is_standing c.merged_into ≡ true) cell own stand),
      )
