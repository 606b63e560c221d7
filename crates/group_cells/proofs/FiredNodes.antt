-- Panes of nodes, one node after another.
use Rattle.std.proofs.Common.{◌≡◌, ◌⊎◌, inl, inr, ℕ, ◌+◌, ◌-◌, ◌==◌, ◌<◌, ◌≤◌, ℤ, Bool, true, false, cond, List, [], ◌∷◌, ◌++◌, map, length, get_or, refl, sym, ap, ◌∙◌, arith}
use Rattle.std.specs.Prelude.{bytes_eq, Option, Some, None}
use Rattle.std.specs.List.{All, filter}
use Rattle.std.specs.List.Sorted.{IsSorted}
use Rattle.std.specs.Ordering.{is_lt, nat_cmp, ordering_then}
use Rattle.std.specs.declared.cmp.Ordering.TheVariants.{Equal, Greater}
use Rattle.std.specs.Cmp.{IsTotalOrder, nat_cmp_is}
use Rattle.std.proofs.lemmas.Bool.{and_parts, cases_lt, eqb-true}
use Rattle.std.proofs.lemmas.Cmp.{int_cmp_total, nat_cmp_total, nat_list_cmp_total, on_total, then_total, tied_itself}
use Rattle.std.proofs.lemmas.List.{get_or_append_left, get_or-append_right, length-append, map-append}
use Rattle.std.proofs.lemmas.List.Elements.{All-head, All-tail, filter-append}
use Rattle.beam_values.specs.Cells.{pane_cmp, span_cmp}
use Rattle.beam_values.specs.Grouping.{key_of}
use Rattle.beam_values.specs.Intervals.{Interval}
use Rattle.beam_values.specs.Orders.{bytes_cmp}
use Rattle.beam_values.specs.Spelling.{spelling}
use Rattle.beam_values.specs.declared.cell.Cell.{Cell}
use Rattle.beam_values.specs.declared.cell.Pane.{Pane}
use Rattle.beam_values.specs.declared.element.Timing.{Timing}
use Rattle.beam_values.specs.declared.marks.StageMarks.{StageMarks}
use Rattle.beam_values.specs.declared.value.Value.{Value}
use Rattle.beam_model.specs.Holds.{Hold, marks_held, pane_hold}
use Rattle.beam_model.specs.Panes.{GroupRules, is_cell_at_key}
use Rattle.group_cells.specs.Cells.{after_firing, firing_of, once_fired}
use Rattle.group_cells.specs.Commits.{cell_place, cells_keyed}
use Rattle.group_cells.specs.Plain.{after_node, firing_at}

span_total : IsTotalOrder span_cmp
span_total = then_total (on_total (λ (w : Interval). w.start) int_cmp_total) (on_total (λ (w : Interval). w.end) int_cmp_total)

pub pane_total : IsTotalOrder pane_cmp
pane_total =
    then_total (on_total (λ (p : Pane). p.commit) nat_cmp_total)
    (then_total (on_total (λ (p : Pane). p.node) nat_cmp_total)
    (then_total (on_total (λ (p : Pane). spelling (key_of p.element)) nat_list_cmp_total) (on_total (λ (p : Pane). p.element.span) span_total)))

-- ---- sorted lists end to end

-- where each of the first ones comes before each of the others
pub sorted_append : (xs ys : List Pane) → IsSorted pane_cmp xs → IsSorted pane_cmp ys → All (λ a. All (λ b. is_lt (pane_cmp b a) ≡ false) ys) xs → IsSorted pane_cmp (xs ++ ys)
sorted_append xs ys up also across k d z within = by (cases_lt (k + 1) (length xs)) (cases_lt k (length xs))
  where
    by : (k + 1 < length xs) ⊎ (length xs ≤ k + 1) → (k < length xs) ⊎ (length xs ≤ k) → is_lt (pane_cmp (get_or (xs ++ ys) (k + 1) d) (get_or (xs ++ ys) k d)) ≡ false
    by (inl less) _ =
        (λ i. is_lt (pane_cmp (get_or_append_left xs ys d (k + 1) less i) (get_or_append_left xs ys d k (omega arith) i))) ∙ up k d (omega arith) less
    by (inr more) (inl here) =
        let first : 0 < length ys = omega (arith, length-append xs ys) in
        let at : (k + 1) - length xs ≡ 0 = omega arith in
        (λ i. is_lt (pane_cmp ((get_or-append_right xs ys (length xs) (k + 1) d refl more ∙ ap (λ j. get_or ys j d) at) i) (get_or_append_left xs ys d k here i)))
        ∙ across k d here 0 d first
    by (inr more) (inr past) =
        let next : (k + 1) - length xs ≡ (k - length xs) + 1 = omega arith in
        (λ i. is_lt (pane_cmp ((get_or-append_right xs ys (length xs) (k + 1) d refl more ∙ ap (λ j. get_or ys j d) next) i) (get_or-append_right xs ys (length xs) k d refl past i)))
        ∙ also (k - length xs) d (omega arith) (omega (arith, length-append xs ys))

tied : (m n : ℕ) → m ≡ n → nat_cmp m n ≡ Equal
tied m n e = ap (nat_cmp m) (sym e) ∙ tied_itself nat_cmp_total m

greater : (m n : ℕ) → n < m → nat_cmp m n ≡ Greater
greater m n less = sym (nat_cmp_is m n Greater less)

pub later : (c : ℕ) (a b : Pane) → a.commit ≡ c → b.commit ≡ c → a.node < b.node → is_lt (pane_cmp b a) ≡ false
later c a b p q less =
    (λ i. is_lt (ordering_then (tied b.commit a.commit (q ∙ sym p) i) (ordering_then (greater b.node a.node less i)
    (ordering_then (bytes_cmp (spelling (key_of b.element)) (spelling (key_of a.element))) (span_cmp b.element.span a.element.span)))))

-- ---- holds

module _ (before : List StageMarks) where
  pub held_append : (xs ys : List Pane) (k : ℕ) → marks_held (map (pane_hold before) (xs ++ ys)) k ≡ marks_held (map (pane_hold before) xs) k ++ marks_held (map (pane_hold before) ys) k
  held_append xs ys k =
      ap (λ (l : List Hold). map (λ hold. hold.mark) (filter (λ hold. hold.node == k) l)) (map-append (pane_hold before) xs ys)
      ∙ ap (map (λ hold. hold.mark)) (filter-append (λ (hold : Hold). hold.node == k) (map (pane_hold before) xs) (map (pane_hold before) ys))
      ∙ map-append (λ hold. hold.mark) (filter (λ hold. hold.node == k) (map (pane_hold before) xs)) (filter (λ hold. hold.node == k) (map (pane_hold before) ys))

  pub held_off : (xs : List Pane) (k : ℕ) → All (λ pane. (pane.node == k) ≡ false) xs → marks_held (map (pane_hold before) xs) k ≡ []
  held_off [] k h = refl
  held_off (x ∷ xs) k h =
      ap (λ b. map (λ hold. hold.mark) (cond b (pane_hold before x ∷ filter (λ hold. hold.node == k) (map (pane_hold before) xs)) (filter (λ hold. hold.node == k) (map (pane_hold before) xs))))
      (All-head (λ pane. (pane.node == k) ≡ false) x xs h)
      ∙ held_off xs k (All-tail (λ pane. (pane.node == k) ≡ false) x xs h)

  pub held_on : (xs : List Pane) (k : ℕ) → All (λ pane. (pane.node == k) ≡ true) xs → marks_held (map (pane_hold before) xs) k ≡ map (λ pane. (pane_hold before pane).mark) xs
  held_on [] k h = refl
  held_on (x ∷ xs) k h =
      ap (λ b. map (λ hold. hold.mark) (cond b (pane_hold before x ∷ filter (λ hold. hold.node == k) (map (pane_hold before) xs)) (filter (λ hold. hold.node == k) (map (pane_hold before) xs))))
      (All-head (λ pane. (pane.node == k) ≡ true) x xs h)
      ∙ ap (λ l. (pane_hold before x).mark ∷ l) (held_on xs k (All-tail (λ pane. (pane.node == k) ≡ true) x xs h))

-- ---- cells of a node fire

pub after_kept : (t : Option Timing) (cell : Cell) → cell_place (once_fired t cell) ≡ cell_place cell
after_kept None cell = refl
after_kept (Some timing) cell = refl

module _ (rules : GroupRules) (n : ℕ) (mark : ℤ) (node : ℕ) (key : Value) where
  keeps_at : (t : Option Timing) (cell : Cell) → is_cell_at_key node key (once_fired t cell) ≡ is_cell_at_key node key cell
  keeps_at None cell = refl
  keeps_at (Some timing) cell = refl

  -- those of another node stay
  pub node_other : (node == n) ≡ false → (cells : List Cell) → cells_keyed node key (map (after_node rules n mark) cells) ≡ cells_keyed node key cells
  node_other off [] = refl
  node_other off (cell ∷ cells) =
      ap (λ b. cond b (after_node rules n mark cell ∷ cells_keyed node key (map (after_node rules n mark) cells)) (cells_keyed node key (map (after_node rules n mark) cells))) (keeps_at (firing_at rules n mark cell) cell)
      ∙ by (is_cell_at_key node key cell) refl (node_other off cells)
    where
      by : (b : Bool) → is_cell_at_key node key cell ≡ b → cells_keyed node key (map (after_node rules n mark) cells) ≡ cells_keyed node key cells
          → cond b (after_node rules n mark cell ∷ cells_keyed node key (map (after_node rules n mark) cells)) (cells_keyed node key (map (after_node rules n mark) cells))
          ≡ cond b (cell ∷ cells_keyed node key cells) (cells_keyed node key cells)
      by true on h =
          let at : cell.node ≡ node = eqb-true cell.node node (and_parts (cell.node == node) (bytes_eq (spelling cell.key) (spelling key)) on).0 in
          let other : (cell.node == n) ≡ false = ap (λ m. m == n) at ∙ off in
          (λ i. once_fired (cond (other i) (firing_of rules mark cell) None) cell ∷ h i)
      by false on h = h

-- those of the node fire
pub node_own : (rules : GroupRules) (n : ℕ) (mark : ℤ) (key : Value) (cells : List Cell) → cells_keyed n key (map (after_node rules n mark) cells) ≡ map (after_firing rules mark) (cells_keyed n key cells)
node_own rules n mark key [] = refl
node_own rules n mark key (cell ∷ cells) =
    ap (λ b. cond b (after_node rules n mark cell ∷ cells_keyed n key (map (after_node rules n mark) cells)) (cells_keyed n key (map (after_node rules n mark) cells))) (keeps_at rules n mark n key (firing_at rules n mark cell) cell)
    ∙ by (is_cell_at_key n key cell) refl (node_own rules n mark key cells)
  where
    by : (b : Bool) → is_cell_at_key n key cell ≡ b → cells_keyed n key (map (after_node rules n mark) cells) ≡ map (after_firing rules mark) (cells_keyed n key cells)
        → cond b (after_node rules n mark cell ∷ cells_keyed n key (map (after_node rules n mark) cells)) (cells_keyed n key (map (after_node rules n mark) cells))
        ≡ map (after_firing rules mark) (cond b (cell ∷ cells_keyed n key cells) (cells_keyed n key cells))
    by true on h =
        let own : (cell.node == n) ≡ true = (and_parts (cell.node == n) (bytes_eq (spelling cell.key) (spelling key)) on).0 in
        (λ i. once_fired (cond (own i) (firing_of rules mark cell) None) cell ∷ h i)
    by false on h = h
