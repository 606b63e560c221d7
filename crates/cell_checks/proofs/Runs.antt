-- Listed cells stand Group by Group and key by key.
use Rattle.std.proofs.Common.{◌≡◌, ℕ, suc, ◌+◌, ◌<◌, ◌==◌, ◌&&◌, ℤ, Bool, true, false, List, [], ◌∷◌, ◌++◌, length, get_or, map, take, drop, refl, sym, ap, subst, ◌∙◌, arith, add-one}
use Rattle.std.specs.Prelude.{bytes_eq}
use Rattle.std.specs.Cmp.{IsTotalOrder, IsStrictWeakOrder, tied_then}
use Rattle.std.specs.List.{All}
use Rattle.std.specs.List.Sorted.{IsSorted}
use Rattle.std.specs.Ordering.{is_eq, is_lt, nat_cmp, on, ordering_reverse, ordering_then}
use Rattle.std.specs.declared.cmp.Ordering.{Ordering}
use Rattle.std.specs.declared.cmp.Ordering.TheVariants.{Less, Equal, Greater}
use Rattle.std.proofs.lemmas.Bool.{and_from, and_parts, eqb-true, eq-eqb, false≢true, true≢false}
use Rattle.std.proofs.lemmas.Cmp.{back_total, int_cmp_total, nat_cmp_total, nat_list_cmp_total, on_total, then_total}
use Rattle.std.proofs.lemmas.List.{get_or-drop, get_or-take, get_or_default, get_or-map, length-drop, length-map, length-take, take-append-drop}
use Rattle.std.proofs.lemmas.List.Elements.{All-cons, All-nil, All-weaker}
use Rattle.std.proofs.lemmas.List.Sorted.{ranks_by, sorted_far}
use Rattle.std.proofs.lemmas.Map.Text.{is_eq-slice_cmp}
use Rattle.std.proofs.lemmas.Slice.Eq.{bytes_eq-Decides}
use Rattle.beam_values.specs.Marks.{marks_at}
use Rattle.beam_values.specs.Nodes.{is_group}
use Rattle.beam_values.specs.Orders.{value_cmp}
use Rattle.beam_values.specs.Sessions.{IsNonEmpty}
use Rattle.beam_values.specs.Spelling.{spelling}
use Rattle.beam_values.specs.declared.cell.Cell.{Cell}
use Rattle.beam_values.specs.declared.marks.StageMarks.{StageMarks}
use Rattle.beam_values.specs.declared.plan.Plan.{Plan}
use Rattle.beam_values.specs.declared.value.Value.{Value}
use Rattle.beam_model.specs.Panes.{GroupRules, is_cell_at_key, rules_of}
use Rattle.cell_index.proofs.Indexing.{nat_tied}
use Rattle.group_cells.specs.Commits.{cells_keyed}
use Rattle.group_cells.specs.Sane.{HasTaker}
use Rattle.group_cells.proofs.Counting.{filter_front, filter_none, filter_right}
use Rattle.group_cells.proofs.StillOpen.{none_contained}
use Rattle.cell_checks.specs.Listing.{AreSaneGroups, IsSaneGroup, group_cmp, listing_cmp, window_cmp}

-- ---- the order

pub group_total : IsTotalOrder group_cmp
group_total = then_total (on_total (λ (cell : Cell). cell.node) nat_cmp_total) (on_total (λ (cell : Cell). spelling cell.key) nat_list_cmp_total)

pub listing_total : IsTotalOrder listing_cmp
listing_total =
    then_total group_total
    (then_total (on_total (λ (cell : Cell). cell.span.start) int_cmp_total) (back_total (on_total (λ (cell : Cell). cell.span.end) int_cmp_total)))

listing_weak : IsStrictWeakOrder (λ (a b : Cell). is_lt (listing_cmp a b))
listing_weak = ranks_by listing_total (λ (cell : Cell). cell)

pub sorted_map : {A B : Type 0} (f : A → B) (R : B → B → Ordering) (xs : List A) → IsSorted (λ x y. R (f x) (f y)) xs → IsSorted R (map f xs)
sorted_map f R [] up k d z l = absurd (omega arith)
sorted_map f R (x ∷ xs) up k d z l =
    let within : k + 1 < length (x ∷ xs) = omega (arith, length-map (x ∷ xs) f) in
    ap (λ y. is_lt (R y (get_or (map f (x ∷ xs)) k d))) (get_or-map f (x ∷ xs) (k + 1) x d within)
    ∙ ap (λ y. is_lt (R (f (get_or (x ∷ xs) (k + 1) x)) y)) (get_or-map f (x ∷ xs) k x d (omega arith))
    ∙ up k x z within

-- ---- one Group and key

abbrev pub is_with : Cell → Cell → Bool
is_with first cell = is_cell_at_key first.node first.key cell

with_itself : (first : Cell) → is_with first first ≡ true
with_itself first =
    and_from (first.node == first.node) (bytes_eq (spelling first.key) (spelling first.key)) (eq-eqb first.node first.node refl) ((bytes_eq-Decides (spelling first.key) (spelling first.key)).1 refl)

-- cells of one node and key are of every node and key alike
pub alike : (first cell : Cell) (node : ℕ) (key : Value) → is_with first cell ≡ true → is_cell_at_key node key cell ≡ is_cell_at_key node key first
alike first cell node key same =
    let parts = and_parts (cell.node == first.node) (bytes_eq (spelling cell.key) (spelling first.key)) same in
    let nodes : cell.node ≡ first.node = eqb-true cell.node first.node parts.0 in
    let keys : spelling cell.key ≡ spelling first.key = (bytes_eq-Decides (spelling cell.key) (spelling first.key)).0 parts.1 in
    λ i. (nodes i == node) && bytes_eq (keys i) (spelling key)

pub asked : (first cell : Cell) (node : ℕ) (key : Value) → is_cell_at_key node key first ≡ true → is_with first cell ≡ is_cell_at_key node key cell
asked first cell node key at =
    let parts = and_parts (first.node == node) (bytes_eq (spelling first.key) (spelling key)) at in
    let nodes : first.node ≡ node = eqb-true first.node node parts.0 in
    let keys : spelling first.key ≡ spelling key = (bytes_eq-Decides (spelling first.key) (spelling key)).0 parts.1 in
    λ i. (cell.node == nodes i) && bytes_eq (spelling cell.key) (keys i)

tied : (first cell : Cell) → is_eq (group_cmp cell first) ≡ is_with first cell
tied first cell =
    sym (tied_then (nat_cmp cell.node first.node) (value_cmp cell.key first.key))
    ∙ ap (λ (b : Bool). b && is_eq (value_cmp cell.key first.key)) (nat_tied cell.node first.node)
    ∙ ap (λ (b : Bool). (cell.node == first.node) && b) (is_eq-slice_cmp (spelling cell.key) (spelling first.key))

equal_from : (r : Ordering) → is_eq r ≡ true → r ≡ Equal
equal_from Less h = absurd (false≢true h)
equal_from Equal h = refl
equal_from Greater h = absurd (false≢true h)

tied_with : (first a b : Cell) → is_with first a ≡ true → is_with first b ≡ true → group_cmp b a ≡ Equal
tied_with first a b with_a with_b = equal_from (group_cmp b a) (tied a b ∙ asked a b first.node first.key with_a ∙ with_b)

-- within a Group and key cells are listed by their windows
window_from : (first a b : Cell) → is_with first a ≡ true → is_with first b ≡ true → is_lt (listing_cmp b a) ≡ false → is_lt (window_cmp b.span a.span) ≡ false
window_from first a b with_a with_b up = sym (ap (λ r. is_lt (ordering_then r (window_cmp b.span a.span))) (tied_with first a b with_a with_b)) ∙ up

pub own_sorted : (first : Cell) (cells : List Cell) → IsSorted listing_cmp cells → (n : ℕ) → All (λ cell. is_with first cell ≡ true) (take n cells)
    → IsSorted (on (λ (cell : Cell). cell.span) window_cmp) (take n cells)
own_sorted first cells up n own k d from within =
    let small : k + 1 < n = omega (arith, length-take n cells) in
    let inside : k + 1 < length cells = omega (arith, length-take n cells) in
    let here = get_or-take n cells k d (omega arith) in
    let next = get_or-take n cells (k + 1) d small in
    window_from first (get_or (take n cells) k d) (get_or (take n cells) (k + 1) d) (own k d (omega arith)) (own (k + 1) d within)
    (ap (λ c. is_lt (listing_cmp c (get_or (take n cells) k d))) next ∙ ap (λ c. is_lt (listing_cmp (get_or cells (k + 1) d) c)) here ∙ up k d (omega arith) inside)

pub rest_sorted : (cells : List Cell) → IsSorted listing_cmp cells → (n : ℕ) → IsSorted listing_cmp (drop n cells)
rest_sorted cells up n k d from within =
    let inside : (n + k) + 1 < length cells = omega (arith, length-drop n cells) in
    let place : n + (k + 1) ≡ (n + k) + 1 = omega arith in
    ap (λ c. is_lt (listing_cmp c (get_or (drop n cells) k d))) (get_or-drop n cells (k + 1) d ∙ ap (λ m. get_or cells m d) place)
    ∙ ap (λ c. is_lt (listing_cmp (get_or cells ((n + k) + 1) d) c)) (get_or-drop n cells k d) ∙ up (n + k) d (omega arith) inside

-- what stands between two cells of one Group and key is of it
between : (a b c : Cell) → is_lt (listing_cmp b a) ≡ false → is_lt (listing_cmp c b) ≡ false → group_cmp c a ≡ Equal → group_cmp b a ≡ Equal
between a b c first second same = by (group_cmp b a) refl
  where
    by : (r : Ordering) → group_cmp b a ≡ r → r ≡ Equal
    by Less e = absurd (true≢false (sym (ap (λ r. is_lt (ordering_then r (window_cmp b.span a.span))) e) ∙ first))
    by Equal e = refl
    by Greater e =
        let less : group_cmp c b ≡ Less = group_total.congr c a b same ∙ group_total.antisymm a b ∙ ap ordering_reverse e in
        absurd (true≢false (sym (ap (λ r. is_lt (ordering_then r (window_cmp c.span b.span))) less) ∙ second))

-- once a cell isn't of the Group and key, none behind it is
pub run_ends : (first : Cell) (cells : List Cell) (at : ℕ) (cell : Cell) → IsSorted listing_cmp (first ∷ cells) → at < length cells → cell ≡ get_or cells at cell
    → is_with first cell ≡ false → All (λ c. is_with first c ≡ false) (drop at cells)
run_ends first cells at cell up within here off k d inside = by (is_with first (get_or (drop at cells) k d)) refl
  where
    there : get_or (drop at cells) k d ≡ get_or cells (at + k) d
    there = get_or-drop at cells k d

    far : is_lt (listing_cmp (get_or cells at cell) first) ≡ false
    far = sorted_far (λ (a b : Cell). is_lt (listing_cmp a b)) listing_weak (first ∷ cells) up 0 (suc at) cell (omega arith) (omega arith)

    farther : is_lt (listing_cmp (get_or cells (at + k) cell) (get_or cells at cell)) ≡ false
    farther = sorted_far (λ (a b : Cell). is_lt (listing_cmp a b)) listing_weak (first ∷ cells) up (suc at) (suc (at + k)) cell (omega arith) (omega (arith, length-drop at cells))

    by : (t : Bool) → is_with first (get_or (drop at cells) k d) ≡ t → t ≡ false
    by false e = refl
    by true e =
        let last : Cell = get_or cells (at + k) cell in
        let is_last : get_or (drop at cells) k d ≡ last = there ∙ get_or_default cells (at + k) d cell (omega (arith, length-drop at cells)) in
        let with_last : is_with first last ≡ true = sym (ap (is_with first) is_last) ∙ e in
        let tie = between first (get_or cells at cell) last far farther (equal_from (group_cmp last first) (tied first last ∙ with_last)) in
        absurd (false≢true (sym off ∙ ap (is_with first) here ∙ sym (tied first (get_or cells at cell)) ∙ ap is_eq tie))

-- ---- the cells of each Group and key, where those of the first are known

pub none_sane : (rules : GroupRules) (mark : ℤ) → IsSaneGroup rules mark []
none_sane rules mark = record {
  once = λ w. omega arith;
  merged = All-nil (HasTaker rules []);
  apart = λ merges. record { some = All-nil IsNonEmpty; each = λ a b p q. absurd (none_contained a p) };
}

module _ (plan : Plan) (marks : List StageMarks) (first : Cell) (own rest : List Cell)
    (same : All (λ cell. is_with first cell ≡ true) own) (other : All (λ cell. is_with first cell ≡ false) rest) where
  abbrev pub IsSaneAt : ℕ → List Cell → Type 0
  IsSaneAt node cells = IsSaneGroup (rules_of plan node) (marks_at marks node).mark_in cells

  none_left : (node : ℕ) (key : Value) → is_cell_at_key node key first ≡ true → All (λ cell. is_cell_at_key node key cell ≡ false) rest
  none_left node key at =
      All-weaker (λ (cell : Cell). is_with first cell ≡ false) (λ (cell : Cell). is_cell_at_key node key cell ≡ false) (λ cell off. sym (asked first cell node key at) ∙ off) rest other

  keyed_here : (node : ℕ) (key : Value) → is_cell_at_key node key first ≡ true → cells_keyed node key (own ++ rest) ≡ own
  keyed_here node key at =
      filter_front (is_cell_at_key node key) own rest
      (All-weaker (λ (cell : Cell). is_with first cell ≡ true) (λ (cell : Cell). is_cell_at_key node key cell ≡ true) (λ cell e. alike first cell node key e ∙ at) own same)
      (none_left node key at)

  keyed_there : (node : ℕ) (key : Value) → is_cell_at_key node key first ≡ false → cells_keyed node key (own ++ rest) ≡ cells_keyed node key rest
  keyed_there node key off =
      filter_right (is_cell_at_key node key) own rest
      (All-weaker (λ (cell : Cell). is_with first cell ≡ true) (λ (cell : Cell). is_cell_at_key node key cell ≡ false) (λ cell e. alike first cell node key e ∙ off) own same)

  pub own_sane : AreSaneGroups plan marks (own ++ rest) → is_group plan first.node ≡ true → IsSaneAt first.node own
  own_sane sane group = subst (IsSaneAt first.node) (keyed_here first.node first.key (with_itself first)) (sane.each first.node first.key group)

  pub rest_sane : AreSaneGroups plan marks (own ++ rest) → AreSaneGroups plan marks rest
  rest_sane sane = record { each = λ node key group. by node key group (is_cell_at_key node key first) refl }
    where
      by : (node : ℕ) (key : Value) → is_group plan node ≡ true → (t : Bool) → is_cell_at_key node key first ≡ t → IsSaneAt node (cells_keyed node key rest)
      by node key group true at = subst (IsSaneAt node) (sym (filter_none (is_cell_at_key node key) rest (none_left node key at))) (none_sane (rules_of plan node) (marks_at marks node).mark_in)
      by node key group false off = subst (IsSaneAt node) (keyed_there node key off) (sane.each node key group)

  pub both_sane : (is_group plan first.node ≡ true → IsSaneAt first.node own) → AreSaneGroups plan marks rest → AreSaneGroups plan marks (own ++ rest)
  both_sane here sane = record { each = λ node key group. by node key group (is_cell_at_key node key first) refl }
    where
      by : (node : ℕ) (key : Value) → is_group plan node ≡ true → (t : Bool) → is_cell_at_key node key first ≡ t → IsSaneAt node (cells_keyed node key (own ++ rest))
      by node key group true at =
          let nodes : first.node ≡ node = eqb-true first.node node ((and_parts (first.node == node) (bytes_eq (spelling first.key) (spelling key)) at).0) in
          subst (IsSaneAt node) (sym (keyed_here node key at)) (subst (λ (n : ℕ). IsSaneAt n own) nodes (here (ap (is_group plan) nodes ∙ group)))
      by node key group false off = subst (IsSaneAt node) (sym (keyed_there node key off)) (sane.each node key group)

-- ---- the first cells of a list

pub own_with : (first : Cell) (others : List Cell) (count : ℕ) → All (λ cell. is_with first cell ≡ true) (take count others)
    → All (λ cell. is_with first cell ≡ true) (take (count + 1) (first ∷ others))
own_with first others count own =
    subst (λ (n : ℕ). All (λ cell. is_with first cell ≡ true) (take n (first ∷ others))) (sym (add-one count))
    (All-cons (λ cell. is_with first cell ≡ true) first (take count others) (with_itself first) own)

pub rest_without : (first : Cell) (others : List Cell) (count : ℕ) → All (λ cell. is_with first cell ≡ false) (drop count others)
    → All (λ cell. is_with first cell ≡ false) (drop (count + 1) (first ∷ others))
rest_without first others count rest = subst (λ (n : ℕ). All (λ cell. is_with first cell ≡ false) (drop n (first ∷ others))) (sym (add-one count)) rest

module _ (plan : Plan) (marks : List StageMarks) (left : List Cell) (first : Cell) (others : List Cell) (count : ℕ) (is : left ≡ first ∷ others)
    (own : All (λ cell. is_with first cell ≡ true) (take count others)) (rest : All (λ cell. is_with first cell ≡ false) (drop count others)) where
  same_cells : All (λ cell. is_with first cell ≡ true) (take (count + 1) left)
  same_cells = subst (λ (l : List Cell). All (λ cell. is_with first cell ≡ true) (take (count + 1) l)) (sym is) (own_with first others count own)

  other_cells : All (λ cell. is_with first cell ≡ false) (drop (count + 1) left)
  other_cells = subst (λ (l : List Cell). All (λ cell. is_with first cell ≡ false) (drop (count + 1) l)) (sym is) (rest_without first others count rest)

  parted : left ≡ take (count + 1) left ++ drop (count + 1) left
  parted = sym (take-append-drop (count + 1) left)

  abbrev pub IsFirstSane : Type 0
  IsFirstSane = is_group plan first.node ≡ true → IsSaneGroup (rules_of plan first.node) (marks_at marks first.node).mark_in (take (count + 1) left)

  pub own_windows : IsSorted listing_cmp left → IsSorted (on (λ (cell : Cell). cell.span) window_cmp) (take (count + 1) left)
  own_windows up = own_sorted first left up (count + 1) same_cells

  pub first_sane : AreSaneGroups plan marks left → IsFirstSane
  first_sane sane = own_sane plan marks first (take (count + 1) left) (drop (count + 1) left) same_cells other_cells (subst (AreSaneGroups plan marks) parted sane)

  pub left_sane : AreSaneGroups plan marks left → AreSaneGroups plan marks (drop (count + 1) left)
  left_sane sane = rest_sane plan marks first (take (count + 1) left) (drop (count + 1) left) same_cells other_cells (subst (AreSaneGroups plan marks) parted sane)

  pub all_sane : IsFirstSane → AreSaneGroups plan marks (drop (count + 1) left) → AreSaneGroups plan marks left
  all_sane here sane =
      subst (AreSaneGroups plan marks) (sym parted)
      (both_sane plan marks first (take (count + 1) left) (drop (count + 1) left) same_cells other_cells here sane)
