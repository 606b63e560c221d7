-- The first ready cell, by a search of each node's list.
use Rattle.std.proofs.Common.{◌≡◌, ℕ, zero, suc, ◌<◌, ◌≤◌, ◌==◌, ℤ, ◌<ℤ◌, ◌≤ℤ◌, Bool, true, false, cond, List, [], ◌∷◌, ◌++◌, length, get_or, Option, Some, None, refl, sym, ap, subst, ◌∙◌, ◌⊎◌, inl, inr, arith}
use Rattle.std.specs.Prelude.{slice_get, int_le, int_lt, nat_lt}
use Rattle.std.specs.Int.{int_min}
use Rattle.std.specs.Option.{MatchOption, option_map}
use Rattle.std.proofs.lemmas.Bool.{cases_lt, cond_both, ltb-false, ltb-true}
use Rattle.std.proofs.lemmas.Bool.Decides.{Decides-eqb}
use Rattle.std.proofs.lemmas.Int.{ints}
use Rattle.std.proofs.lemmas.List.Quantifiers.{position-Some}
use Rattle.std.proofs.lemmas.Option.{same_Some, slice_get-get_or}
use Rattle.beam_values.specs.Marks.{marks_at}
use Rattle.beam_values.specs.Times.{IsMark, final_mark, greatest_time}
use Rattle.beam_values.specs.declared.marks.StageMarks.{StageMarks}
use Rattle.mark_trees.specs.Halves.{first_due, is_due, no_marks}
use Rattle.mark_trees.specs.declared.twin_marks.TwinMarks.{TwinMarks}
use Rattle.cell_index.proofs.Indexing.{position_no, position_yes}
use Rattle.stateful_core.specs.Cells.{KeyCell}
use Rattle.stateful_core.specs.Taking.{IsFirstReady, is_ready, next_place, sooner}
use Rattle.stateful_core.specs.Trees.{AreTrees, IsAmong, IsBestAmong, IsFirstAmong, IsIdle, IsNoneAmong, IsTreeBut, entry_at, is_ready_at}
use Rattle.stateful_core.specs.declared.node_tree.NodeTree.{NodeTree}
use Rattle.stateful_core.specs.declared.place.Place.{Place}
use Rattle.stateful_core.proofs.NextReady.{got_before, got_cases, got_last, next_found, next_none}

not_both : (b : Bool) → b ≡ true → b ≡ false → ⊥
not_both b e f = cc

pub le_true : (a b : ℤ) → a ≤ℤ b → int_le a b ≡ true
le_true a b h = by (int_le a b) refl
  where
    by : (t : Bool) → int_le a b ≡ t → t ≡ true
    by true e = refl
    by false e = absurd (omega (arith, ints, e, h))

pub le_false : (a b : ℤ) → b <ℤ a → int_le a b ≡ false
le_false a b h = by (int_le a b) refl
  where
    by : (t : Bool) → int_le a b ≡ t → t ≡ false
    by true e = absurd (omega (arith, ints, e, h))
    by false e = refl

pub min_is : (mark : ℤ) (f : ℤ → Bool) (t : Bool) → (greatest_time <ℤ mark → f greatest_time ≡ t) → (mark ≤ℤ greatest_time → f mark ≡ t) → f (int_min mark greatest_time) ≡ t
min_is mark f t above below = by (int_lt greatest_time mark) refl
  where
    by : (b : Bool) → int_lt greatest_time mark ≡ b → f (cond b greatest_time mark) ≡ t
    by true e = above (omega (arith, ints, e))
    by false e = below (omega (arith, ints, e))

pub none_idle : IsIdle no_marks
none_idle = record { never = λ mark m. min_is mark (λ b. int_le final_mark b) false (λ above. refl) (λ below. le_false final_mark mark (omega (arith, ints, below))); free = refl }

pub past_none : {X : Type 0} (xs : List X) (at : ℕ) → slice_get xs at ≡ None → length xs ≤ at
past_none [] at e = omega arith
past_none (x ∷ xs) zero e = absurd (cc)
past_none (x ∷ xs) (suc at) e = let h = past_none xs at e in omega (arith, h)

-- ---- in the list of one node

module _ (node : ℕ) (entries : List TwinMarks) (cells : List KeyCell) (marks : List StageMarks) (mark bound : ℤ) (is : mark ≡ (marks_at marks node).mark_in) (m : IsMark mark)
    (bound_is : bound ≡ int_min mark greatest_time) (h : IsTreeBut None node entries cells) where
  idle_off : (entry : TwinMarks) → IsIdle entry → is_due bound entry ≡ false
  idle_off entry i = ap (λ b. is_due b entry) bound_is ∙ i.never mark m

  abbrev open_hole : (at : ℕ) → None ≡ Some at → ⊥
  open_hole at e = cc

  -- a cell of the node is due just where it is ready
  own_due : (at : ℕ) (cell : KeyCell) → slice_get cells at ≡ Some cell → cell.log.node ≡ node → is_due bound (entry_at entries at) ≡ is_ready marks cell
  own_due at cell e own =
      ap (λ b. is_due b (entry_at entries at)) bound_is
      ∙ (h.own at cell e own (open_hole at)).due mark m
      ∙ ap (λ k. is_ready_at k cell) (is ∙ ap (λ n. (marks_at marks n).mark_in) (sym own))

  pub is_first : (at : ℕ) (trees : List NodeTree) → first_due bound entries ≡ Some at → IsAmong trees node → ((n : ℕ) → IsAmong trees n → n ≡ node)
      → IsFirstAmong trees marks cells (record { at = at; node = node })
  is_first at trees e among alone = by (slice_get cells at) refl
    where
      found : (at < length entries) × (is_due bound (get_or entries at no_marks) ≡ true) × ((k : ℕ) → k < at → is_due bound (get_or entries k no_marks) ≡ false)
      found = position-Some (is_due bound) entries at no_marks e

      first : (i : ℕ) (other : KeyCell) → slice_get cells i ≡ Some other → IsAmong trees other.log.node → is_ready marks other ≡ true
          → (node < other.log.node) ⊎ ((node ≡ other.log.node) × (at ≤ i))
      first i other f in_ on =
          let same = alone other.log.node in_ in
          elim (cases_lt i at) [
            | inl lt ↦ absurd (not_both (is_due bound (entry_at entries i)) (own_due i other f same ∙ on) (found.2 i lt))
            | inr ge ↦ inr (sym same, ge)
          ]

      own : (cell : KeyCell) → slice_get cells at ≡ Some cell → (t : Bool) → (cell.log.node == node) ≡ t → IsFirstAmong trees marks cells (record { at = at; node = node })
      own cell f true g =
          let same = (Decides-eqb cell.log.node node).0 g in
          record {
            cell = cell;
            is_at = f;
            ready = sym (own_due at cell f same) ∙ found.1;
            node_is = sym same;
            among = among;
            first = first;
          }
      own cell f false g =
          absurd (not_both (is_due bound (entry_at entries at)) found.1
          (idle_off (entry_at entries at) (h.other at cell f (λ same. not_both (cell.log.node == node) ((Decides-eqb cell.log.node node).1 same) g))))

      by : (o : Option KeyCell) → slice_get cells at ≡ o → IsFirstAmong trees marks cells (record { at = at; node = node })
      by None f = absurd (not_both (is_due bound (entry_at entries at)) found.1 (idle_off (entry_at entries at) (h.idle at (past_none cells at f))))
      by (Some cell) f = own cell f (cell.log.node == node) refl

  pub is_none : (trees : List NodeTree) → first_due bound entries ≡ None → ((n : ℕ) → IsAmong trees n → n ≡ node) → IsNoneAmong trees marks cells
  is_none trees e alone = record { none = λ at other f among. off at other f (alone other.log.node among) (is_ready marks other) refl }
    where
      not_due : (xs : List TwinMarks) (k : ℕ) → first_due bound xs ≡ None → is_due bound (get_or xs k no_marks) ≡ true → ⊥
      not_due [] k none on = not_both (is_due bound no_marks) on (idle_off no_marks none_idle)
      not_due (x ∷ xs) k none on = by (is_due bound x) refl k on (not_due xs)
        where
          by : (b : Bool) → is_due bound x ≡ b → (i : ℕ) → is_due bound (get_or (x ∷ xs) i no_marks) ≡ true
              → ((j : ℕ) → first_due bound xs ≡ None → is_due bound (get_or xs j no_marks) ≡ true → ⊥) → ⊥
          by true f i g rest = some 0 (sym none ∙ position_yes (is_due bound) x xs f)
            where
              some : (j : ℕ) → None ≡ Some j → ⊥
              some j z = cc
          by false f zero g rest = not_both (is_due bound x) g f
          by false f (suc i) g rest = rest i (mapped (first_due bound xs) (sym (position_no (is_due bound) x xs f) ∙ none)) g
            where
              mapped : (o : Option ℕ) → option_map suc o ≡ None → o ≡ None
              mapped None z = refl
              mapped (Some j) z = absurd (cc)

      off : (at : ℕ) (other : KeyCell) → slice_get cells at ≡ Some other → other.log.node ≡ node → (b : Bool) → is_ready marks other ≡ b → b ≡ false
      off at other f same true g = absurd (not_due entries at e (own_due at other f same ∙ g))
      off at other f same false g = refl

-- ---- among more nodes

among_cases : (trees : List NodeTree) (tree : NodeTree) (n : ℕ) → IsAmong (trees ++ tree ∷ []) n → IsAmong trees n ⊎ (tree.node ≡ n)
among_cases trees tree n (k, t, e, f) = elim (got_cases trees tree t k e) [ inl g ↦ inl (k, t, g, f) | inr g ↦ inr (ap (λ (x : NodeTree). x.node) g.1 ∙ f) ]

in_front : (trees : List NodeTree) (tree : NodeTree) (n : ℕ) → IsAmong trees n → IsAmong (trees ++ tree ∷ []) n
in_front trees tree n (k, t, e, f) = (k, t, got_before trees tree t k e, f)

at_the_end : (trees : List NodeTree) (tree : NodeTree) → IsAmong (trees ++ tree ∷ []) tree.node
at_the_end trees tree = (length trees, tree, got_last trees tree, refl)

pub alone_among : (tree : NodeTree) (n : ℕ) → IsAmong (tree ∷ []) n → n ≡ tree.node
alone_among tree n (zero, t, e, f) = sym (ap (λ (x : NodeTree). x.node) (same_Some tree t e) ∙ f)
alone_among tree n (suc k, t, e, f) = absurd (cc)

pub alone_there : (tree : NodeTree) → IsAmong (tree ∷ []) tree.node
alone_there tree = (0, tree, refl, refl)

module _ (trees : List NodeTree) (tree : NodeTree) (marks : List StageMarks) (cells : List KeyCell) where
  abbrev all : List NodeTree
  all = trees ++ tree ∷ []

  abbrev Later : Place → ℕ → KeyCell → Type 0
  Later place at other = (place.node < other.log.node) ⊎ ((place.node ≡ other.log.node) × (place.at ≤ at))

  own_list : (other : KeyCell) → tree.node ≡ other.log.node → IsAmong (tree ∷ []) other.log.node
  own_list other e = (0, tree, refl, e)

  both_none : IsNoneAmong trees marks cells → IsNoneAmong (tree ∷ []) marks cells → IsNoneAmong all marks cells
  both_none h k = record {
    none = λ at other e among. elim (among_cases trees tree other.log.node among) [ inl f ↦ h.none at other e f | inr f ↦ k.none at other e (own_list other f) ];
  }

  left_alone : (place : Place) → IsFirstAmong trees marks cells place → IsNoneAmong (tree ∷ []) marks cells → IsFirstAmong all marks cells place
  left_alone place h k = record {
    cell = h.cell;
    is_at = h.is_at;
    ready = h.ready;
    node_is = h.node_is;
    among = in_front trees tree place.node h.among;
    first = λ at other e among on. elim (among_cases trees tree other.log.node among) [
      | inl f ↦ h.first at other e f on
      | inr f ↦ absurd (not_both (is_ready marks other) on (k.none at other e (own_list other f)))
    ];
  }

  right_alone : (place : Place) → IsNoneAmong trees marks cells → IsFirstAmong (tree ∷ []) marks cells place → IsFirstAmong all marks cells place
  right_alone place h k = record {
    cell = k.cell;
    is_at = k.is_at;
    ready = k.ready;
    node_is = k.node_is;
    among = subst (IsAmong all) (sym (alone_among tree place.node k.among)) (at_the_end trees tree);
    first = λ at other e among on. elim (among_cases trees tree other.log.node among) [
      | inl f ↦ absurd (not_both (is_ready marks other) on (h.none at other e f))
      | inr f ↦ k.first at other e (own_list other f) on
    ];
  }

  lower : (node : ℕ) (place : Place) (at : ℕ) (other : KeyCell) → node < place.node → Later place at other → node < other.log.node
  lower node place at other lt (inl h) = omega (arith, lt, h)
  lower node place at other lt (inr h) = omega (arith, lt, h.0)

  right_first : (a b : Place) → b.node < a.node → IsFirstAmong trees marks cells a → IsFirstAmong (tree ∷ []) marks cells b → IsFirstAmong all marks cells b
  right_first a b lt h k = record {
    cell = k.cell;
    is_at = k.is_at;
    ready = k.ready;
    node_is = k.node_is;
    among = subst (IsAmong all) (sym (alone_among tree b.node k.among)) (at_the_end trees tree);
    first = λ at other e among on. elim (among_cases trees tree other.log.node among) [
      | inl f ↦ inl (lower b.node a at other lt (h.first at other e f on))
      | inr f ↦ k.first at other e (own_list other f) on
    ];
  }

  left_first : (a b : Place) → a.node ≤ b.node → IsFirstAmong trees marks cells a → IsFirstAmong (tree ∷ []) marks cells b → IsFirstAmong all marks cells a
  left_first a b le h k = record {
    cell = h.cell;
    is_at = h.is_at;
    ready = h.ready;
    node_is = h.node_is;
    among = in_front trees tree a.node h.among;
    first = λ at other e among on. elim (among_cases trees tree other.log.node among) [
      | inl f ↦ h.first at other e f on
      | inr f ↦ by at other e on (k.first at other e (own_list other f) on)
    ];
  }
    where
      by : (at : ℕ) (other : KeyCell) → slice_get cells at ≡ Some other → is_ready marks other ≡ true → Later b at other → Later a at other
      by at other e on (inl lt) = inl (omega (arith, le, lt))
      by at other e on (inr f) =
          elim (cases_lt a.node other.log.node) [
            | inl lt ↦ inl lt
            | inr ge ↦
                let same : a.node ≡ other.log.node = omega (arith, le, f.0, ge) in
                h.first at other e (subst (IsAmong trees) same h.among) on
          ]

  -- the better of two
  pub merged : (best found : Option Place) → IsBestAmong trees marks cells best → IsBestAmong (tree ∷ []) marks cells found
      → MatchOption found (IsBestAmong all marks cells best) (λ place. IsBestAmong all marks cells (sooner best place))
  merged None None h k = both_none h k
  merged (Some a) None h k = left_alone a h k
  merged None (Some b) h k = right_alone b h k
  merged (Some a) (Some b) h k =
      cond_both (nat_lt b.node a.node) (Some b) (Some a) (IsBestAmong all marks cells)
      (λ lt. right_first a b (ltb-true b.node a.node lt) h k)
      (λ ge. left_first a b (ltb-false b.node a.node ge) h k)

-- ---- of all

same_place : (a b : Place) → a.node ≡ b.node → a.at ≡ b.at → a ≡ b
same_place a b e f = λ i. record { at = f i; node = e i }

one_place : (marks : List StageMarks) (cells : List KeyCell) (a b : Place) → IsFirstReady marks cells a → IsFirstReady marks cells b → a ≡ b
one_place marks cells a b h k = by (h.first b.at k.cell k.is_at k.ready) (k.first a.at h.cell h.is_at h.ready)
  where
    by : (a.node < k.cell.log.node) ⊎ ((a.node ≡ k.cell.log.node) × (a.at ≤ b.at)) → (b.node < h.cell.log.node) ⊎ ((b.node ≡ h.cell.log.node) × (b.at ≤ a.at)) → a ≡ b
    by (inl x) (inl y) = absurd (omega (arith, x, y, h.node_is, k.node_is))
    by (inl x) (inr y) = absurd (omega (arith, x, y.0, h.node_is, k.node_is))
    by (inr x) (inl y) = absurd (omega (arith, x.0, y, h.node_is, k.node_is))
    by (inr x) (inr y) = same_place a b (x.0 ∙ sym k.node_is) (omega (arith, x.1, y.1))

pub next_of_all : (trees : List NodeTree) (marks : List StageMarks) (cells : List KeyCell) (best : Option Place) → AreTrees trees cells → IsBestAmong trees marks cells best
    → best ≡ next_place marks cells
next_of_all trees marks cells None h k = by (next_place marks cells) refl
  where
    by : (o : Option Place) → next_place marks cells ≡ o → None ≡ o
    by None e = refl
    by (Some place) e =
        let f = next_found marks cells place e in
        let t = h.has place.at f.cell f.is_at in
        absurd (not_both (is_ready marks f.cell) f.ready (k.none place.at f.cell f.is_at t))
next_of_all trees marks cells (Some place) h k = by (next_place marks cells) refl
  where
    first : IsFirstReady marks cells place
    first = record {
      cell = k.cell;
      is_at = k.is_at;
      ready = k.ready;
      node_is = k.node_is;
      first = λ at other e on. k.first at other e (h.has at other e) on;
    }

    by : (o : Option Place) → next_place marks cells ≡ o → Some place ≡ o
    by None e = absurd (not_both (is_ready marks k.cell) k.ready (next_none marks cells e place.at k.cell k.is_at))
    by (Some other) e = ap (λ p. Some p) (one_place marks cells place other first (next_found marks cells other e))

pub best_of_none : (marks : List StageMarks) (cells : List KeyCell) → IsBestAmong [] marks cells None
best_of_none marks cells = record { none = λ at other e among. absurd (nobody among.0 among.1 among.2) }
  where
    nobody : (k : ℕ) (tree : NodeTree) → slice_get [] k ≡ Some tree → ⊥
    nobody k tree e = cc

pub tree_there : (trees : List NodeTree) (k : ℕ) (tree : NodeTree) → k < length trees → tree ≡ get_or trees k tree → slice_get trees k ≡ Some tree
tree_there trees k tree less read = slice_get-get_or trees k tree less ∙ ap (λ t. Some t) (sym read)
