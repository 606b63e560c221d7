-- The least hold of a node, as its list tells it.
use Rattle.std.proofs.Common.{◌≡◌, ℕ, zero, suc, ◌+◌, ◌<◌, ◌==◌, ℤ, Bool, true, false, cond, List, [], ◌∷◌, ◌++◌, length, map, take, get_or, Option, Some, None, refl, sym, ap, subst, ◌∙◌, ◌⊎◌, inl, inr, arith}
use Rattle.std.specs.Prelude.{slice_get, slice_set, fold}
use Rattle.std.specs.Int.{int_min}
use Rattle.std.specs.List.{filter}
use Rattle.std.proofs.lemmas.Bool.{cases_eq}
use Rattle.std.proofs.lemmas.Bool.Decides.{Decides-eqb}
use Rattle.std.proofs.lemmas.Int.{ints, clamps}
use Rattle.std.proofs.lemmas.List.{map-append, take_more}
use Rattle.std.proofs.lemmas.List.Elements.{filter-append}
use Rattle.std.proofs.lemmas.List.Sums.{fold-append}
use Rattle.std.proofs.lemmas.Option.{same_Some, slice_get_within}
use Rattle.beam_values.proofs.Bags.{bag_swap}
use Rattle.beam_values.specs.Marks.{least_mark}
use Rattle.beam_values.specs.Times.{final_mark}
use Rattle.beam_values.specs.declared.marks.StageMarks.{StageMarks}
use Rattle.beam_model.specs.Holds.{Hold, least_hold, marks_held}
use Rattle.mark_trees.specs.Halves.{least_of, lesser, no_marks}
use Rattle.mark_trees.specs.declared.twin_marks.TwinMarks.{TwinMarks}
use Rattle.stateful_core.specs.Cells.{KeyCell, cell_holds, key_holds}
use Rattle.stateful_core.specs.Least.{AreLeast, tree_hold}
use Rattle.stateful_core.specs.Placing.{Done, finish, set_done, with_done}
use Rattle.stateful_core.specs.Trees.{AreRenewed, AreTrees, AreTreesBut, IsAmong, IsEntryOf, IsIdle, IsTreeBut, entry_at, renewed}
use Rattle.stateful_core.specs.declared.node_tree.NodeTree.{NodeTree}
use Rattle.stateful_core.proofs.CellHolds.{held_elsewhere}
use Rattle.stateful_core.proofs.LeastOf.{are_bag, other_least, own_least}
use Rattle.stateful_core.proofs.ByIndex.{not_both}
use Rattle.stateful_core.proofs.FirstOfTrees.{past_none}
use Rattle.stateful_core.proofs.Roomy.{set_cases}
use Rattle.stateful_core.proofs.TreeSteps.{set_else, set_got, set_got_other, set_sized, set_there}

-- ---- the least of two lists

-- from a lower start
from_lower : (a : ℤ) (xs : List ℤ) → fold int_min a xs ≡ int_min a (fold int_min a xs)
from_lower a [] = omega (arith, ints, clamps)
from_lower a (x ∷ xs) = lower_by a (int_min a x) xs (omega (arith, ints, clamps))
  where
    lower_by : (b c : ℤ) (ys : List ℤ) → c ≡ int_min b c → fold int_min c ys ≡ int_min b (fold int_min c ys)
    lower_by b c [] e = e
    lower_by b c (y ∷ ys) e = lower_by b (int_min c y) ys (omega (arith, ints, clamps, e))

min_from : (a b : ℤ) (xs : List ℤ) → fold int_min (int_min a b) xs ≡ int_min a (fold int_min b xs)
min_from a b [] = refl
min_from a b (x ∷ xs) = ap (λ m. fold int_min m xs) swap ∙ min_from a (int_min b x) xs
  where
    swap : int_min (int_min a b) x ≡ int_min a (int_min b x)
    swap = omega (arith, ints, clamps)

-- both at once
two_least : (xs ys : List ℤ) → least_mark (xs ++ ys) ≡ int_min (least_mark xs) (least_mark ys)
two_least xs ys =
    fold-append int_min final_mark xs ys
    ∙ ap (λ m. fold int_min m ys) (from_lower final_mark xs ∙ flip)
    ∙ min_from (least_mark xs) final_mark ys
  where
    flip : int_min final_mark (least_mark xs) ≡ int_min (least_mark xs) final_mark
    flip = omega (arith, ints, clamps)

pub both_least : (xs ys : List Hold) (n : ℕ) → least_hold (xs ++ ys) n ≡ int_min (least_hold xs n) (least_hold ys n)
both_least xs ys n =
    ap (λ l. least_mark (map (λ (h : Hold). h.mark) l)) (filter-append (λ hold. hold.node == n) xs ys)
    ∙ ap least_mark (map-append (λ (h : Hold). h.mark) (filter (λ hold. hold.node == n) xs) (filter (λ hold. hold.node == n) ys))
    ∙ two_least (marks_held xs n) (marks_held ys n)

at_most : (holds : List Hold) (n : ℕ) → int_min final_mark (least_hold holds n) ≡ least_hold holds n
at_most holds n = sym (from_lower final_mark (marks_held holds n))

-- ---- the list of one node

abbrev pub holds_in : Option KeyCell → List Hold
holds_in None = []
holds_in (Some cell) = cell_holds cell

-- at each number the list has the least hold of the cell there, if it is of the node
abbrev pub Tells : ℕ → List TwinMarks → List KeyCell → Type 0
Tells node entries cells = (at : ℕ) → (entry_at entries at).hold ≡ least_hold (holds_in (slice_get cells at)) node

hold_along : (entry : TwinMarks) (entries : List TwinMarks) → (fold lesser entry entries).hold ≡ fold int_min entry.hold (map (λ (e : TwinMarks). e.hold) entries)
hold_along entry [] = refl
hold_along entry (e ∷ entries) = hold_along (lesser entry e) entries

first_least : (entry : TwinMarks) (entries : List TwinMarks) → (least_of (entry ∷ entries)).hold ≡ int_min entry.hold (least_of entries).hold
first_least entry entries =
    hold_along (lesser no_marks entry) entries
    ∙ ap (λ m. fold int_min m (map (λ (e : TwinMarks). e.hold) entries)) flip
    ∙ min_from entry.hold final_mark (map (λ (e : TwinMarks). e.hold) entries)
    ∙ ap (λ m. int_min entry.hold m) (sym (hold_along no_marks entries))
  where
    flip : int_min final_mark entry.hold ≡ int_min entry.hold final_mark
    flip = omega (arith, ints, clamps)

none_held : (node : ℕ) (cells : List KeyCell) → ((at : ℕ) → final_mark ≡ least_hold (holds_in (slice_get cells at)) node) → final_mark ≡ least_hold (key_holds cells) node
none_held node [] h = refl
none_held node (cell ∷ cells) h =
    (λ i. int_min (h 0 i) (none_held node cells (λ at. h (suc at)) i)) ∙ sym (both_least (cell_holds cell) (key_holds cells) node)

pub told_least : (node : ℕ) (entries : List TwinMarks) (cells : List KeyCell) → Tells node entries cells → (least_of entries).hold ≡ least_hold (key_holds cells) node
told_least node [] cells h = none_held node cells h
told_least node (entry ∷ entries) [] h =
    first_least entry entries ∙ (λ i. int_min (h 0 i) (told_least node entries [] (λ at. h (suc at)) i))
told_least node (entry ∷ entries) (cell ∷ cells) h =
    first_least entry entries ∙ (λ i. int_min (h 0 i) (told_least node entries cells (λ at. h (suc at)) i)) ∙ sym (both_least (cell_holds cell) (key_holds cells) node)

-- ---- of all nodes

-- each list does, and each cell's node has one
pub record AreHeld (trees : List NodeTree) (cells : List KeyCell) : Type 0 where
  pub each : (k : ℕ) (tree : NodeTree) → slice_get trees k ≡ Some tree → Tells tree.node tree.marks cells
  pub has : (at : ℕ) (cell : KeyCell) → slice_get cells at ≡ Some cell → IsAmong trees cell.log.node

-- the least of a node is that of its lists, or there is none
either : (trees : List NodeTree) (n : ℕ) (least : ℤ) → int_min final_mark least ≡ least → ((k : ℕ) (tree : NodeTree) → slice_get trees k ≡ Some tree → tree.node ≡ n → (least_of tree.marks).hold ≡ least)
    → (least_hold (map tree_hold trees) n ≡ least) ⊎ ((IsAmong trees n → ⊥) × (least_hold (map tree_hold trees) n ≡ final_mark))
either [] n least most h = inr (λ a. nobody a.0 a.1 a.2, refl)
  where
    nobody : (k : ℕ) (tree : NodeTree) → slice_get [] k ≡ Some tree → ⊥
    nobody k tree e = cc
either (tree ∷ trees) n least most h = by (cases_eq tree.node n) (either trees n least most (λ k t e same. h (suc k) t e same))
  where
    by : (tree.node ≡ n) ⊎ (tree.node ≡ n → ⊥) → (least_hold (map tree_hold trees) n ≡ least) ⊎ ((IsAmong trees n → ⊥) × (least_hold (map tree_hold trees) n ≡ final_mark))
        → (least_hold (map tree_hold (tree ∷ trees)) n ≡ least) ⊎ ((IsAmong (tree ∷ trees) n → ⊥) × (least_hold (map tree_hold (tree ∷ trees)) n ≡ final_mark))
    by (inl same) (inl e) =
        let own = h 0 tree refl same in
        let twice : int_min least least ≡ least = omega (arith, ints, clamps) in
        inl (own_least tree.node (least_of tree.marks).hold (map tree_hold trees) n same ∙ (λ i. int_min (e i) (own i)) ∙ twice)
    by (inl same) (inr e) =
        let own = h 0 tree refl same in
        inl (own_least tree.node (least_of tree.marks).hold (map tree_hold trees) n same ∙ (λ i. int_min (e.1 i) (own i)) ∙ most)
    by (inr differ) (inl e) = inl (other_least tree.node (least_of tree.marks).hold (map tree_hold trees) n differ ∙ e)
    by (inr differ) (inr e) = inr (λ a. nobody a.0 a.1 a.2 a.3, other_least tree.node (least_of tree.marks).hold (map tree_hold trees) n differ ∙ e.1)
      where
        nobody : (k : ℕ) (t : NodeTree) → slice_get (tree ∷ trees) k ≡ Some t → t.node ≡ n → ⊥
        nobody zero t f same = differ (ap (λ (x : NodeTree). x.node) (same_Some tree t f) ∙ same)
        nobody (suc k) t f same = e.0 (k, t, f, same)

least_told : (trees : List NodeTree) (cells : List KeyCell) → AreHeld trees cells → (n : ℕ) → least_hold (map tree_hold trees) n ≡ least_hold (key_holds cells) n
least_told trees cells h n =
    by (either trees n (least_hold (key_holds cells) n) (at_most (key_holds cells) n)
    (λ k tree e same. told_least tree.node tree.marks cells (h.each k tree e) ∙ ap (least_hold (key_holds cells)) same))
  where
    none : (IsAmong trees n → ⊥) → (at : ℕ) → final_mark ≡ least_hold (holds_in (slice_get cells at)) n
    none nobody at = there (slice_get cells at) refl
      where
        there : (o : Option KeyCell) → slice_get cells at ≡ o → final_mark ≡ least_hold (holds_in o) n
        there None e = refl
        there (Some cell) e = sym (held_elsewhere cell n (λ same. nobody (subst (IsAmong trees) same (h.has at cell e))))

    by : (least_hold (map tree_hold trees) n ≡ least_hold (key_holds cells) n) ⊎ ((IsAmong trees n → ⊥) × (least_hold (map tree_hold trees) n ≡ final_mark))
        → least_hold (map tree_hold trees) n ≡ least_hold (key_holds cells) n
    by (inl e) = e
    by (inr e) = e.1 ∙ none_held n cells (none e.0)

pub least_of_trees : (trees : List NodeTree) (cells : List KeyCell) (least : List ℤ) → AreHeld trees cells → AreLeast least (map tree_hold trees) → AreLeast least (key_holds cells)
least_of_trees trees cells least h told n less = told n less ∙ least_told trees cells h n

-- one list more
pub trees_more : (trees : List NodeTree) (k : ℕ) (tree : NodeTree) (least : List ℤ) → k < length trees → tree ≡ get_or trees k tree
    → AreLeast least (tree_hold tree ∷ map tree_hold (take k trees)) → AreLeast least (map tree_hold (take (k + 1) trees))
trees_more trees k tree least less read h =
    let grown : map tree_hold (take (k + 1) trees) ≡ map tree_hold (take k trees) ++ tree_hold tree ∷ [] =
    ap (map tree_hold) (take_more trees k tree less ∙ ap (λ (t : NodeTree). take k trees ++ t ∷ []) (sym read)) ∙ map-append tree_hold (take k trees) (tree ∷ []) in
    subst (AreLeast least) (sym grown)
    (are_bag least (tree_hold tree ∷ map tree_hold (take k trees)) (map tree_hold (take k trees) ++ tree_hold tree ∷ []) (bag_swap (tree_hold tree ∷ []) (map tree_hold (take k trees))) h)

-- ---- what the lists of the cells tell

tells : (tree : NodeTree) (cells : List KeyCell) → IsTreeBut None tree.node tree.marks cells → Tells tree.node tree.marks cells
tells tree cells t at = by (slice_get cells at) refl
  where
    by : (o : Option KeyCell) → slice_get cells at ≡ o → (entry_at tree.marks at).hold ≡ least_hold (holds_in o) tree.node
    by None e = (t.idle at (past_none cells at e)).free
    by (Some cell) e = elim (cases_eq cell.log.node tree.node) [
      | inl same ↦ (t.own at cell e same (λ z. none at z)).held ∙ ap (least_hold (cell_holds cell)) same
      | inr differ ↦ (t.other at cell e differ).free ∙ sym (held_elsewhere cell tree.node differ)
    ]
      where
        none : (i : ℕ) → None ≡ Some i → ⊥
        none i z = cc

pub trees_held : (trees : List NodeTree) (cells : List KeyCell) → AreTrees trees cells → AreHeld trees cells
trees_held trees cells h = record { each = λ k tree e. tells tree cells (h.each k tree e); has = h.has }

-- another entry for the cell with one number
module _ (trees after : List NodeTree) (cells : List KeyCell) (at : ℕ) (cell : KeyCell) (entry : TwinMarks) (there : slice_get cells at ≡ Some cell)
    (h : AreTrees trees cells) (sets : AreRenewed trees after cell.log.node at entry) where
  old_of : (k : ℕ) (tree : NodeTree) → slice_get after k ≡ Some tree → (old : NodeTree) × (slice_get trees k ≡ Some old) × (tree ≡ renewed cell.log.node at entry old)
  old_of k tree e = sets.done k tree (slice_get_within after k tree e) e

  still_among : (node : ℕ) → IsAmong trees node → IsAmong after node
  still_among node a = let n = sets.forth a.0 a.1 a.2 in (a.0, n.0, n.1, n.2 ∙ a.3)

  -- what is at another number stands
  own_open : (old : NodeTree) → old.node ≡ cell.log.node → IsTreeBut None old.node old.marks cells → IsTreeBut (Some at) old.node (slice_set old.marks at entry) cells
  own_open old same t = record {
    own = λ i c e own apart. subst (IsEntryOf c) (sym (set_else old.marks at i entry no_marks (λ z. apart (ap (λ k. Some k) (sym z))))) (t.own i c e own (λ z. none i z));
    other = λ i c e differ. subst IsIdle (sym (set_else old.marks at i entry no_marks (λ z. differ (here i c e z)))) (t.other i c e differ);
    long = λ i c e own. let less = t.long i c e own in omega (arith, less, set_sized old.marks at entry);
    idle = λ i past. let within = slice_get_within cells at cell there in
        subst IsIdle (sym (set_else old.marks at i entry no_marks (λ z. absurd (omega (arith, z, past, within))))) (t.idle i past);
  }
    where
      none : (i : ℕ) → None ≡ Some i → ⊥
      none i z = cc

      here : (i : ℕ) (c : KeyCell) → slice_get cells i ≡ Some c → i ≡ at → c.log.node ≡ old.node
      here i c e z = sym (ap (λ (x : KeyCell). x.log.node) (same_Some cell c (sym there ∙ ap (slice_get cells) (sym z) ∙ e))) ∙ sym same

  other_open : (old : NodeTree) → IsTreeBut None old.node old.marks cells → IsTreeBut (Some at) old.node old.marks cells
  other_open old t = record { own = λ i c e own apart. t.own i c e own (λ z. none i z); other = t.other; long = t.long; idle = t.idle }
    where
      none : (i : ℕ) → None ≡ Some i → ⊥
      none i z = cc

  pub set_open : AreTreesBut (Some at) after cells
  set_open = record {
    each = λ k tree e. let o = old_of k tree e in subst (λ (t : NodeTree). IsTreeBut (Some at) t.node t.marks cells) (sym o.2) (one o.0 (h.each k o.0 o.1));
    has = λ i c e. still_among c.log.node (h.has i c e);
  }
    where
      one : (old : NodeTree) → IsTreeBut None old.node old.marks cells → IsTreeBut (Some at) old.node (renewed cell.log.node at entry old).marks cells
      one old t = by (old.node == cell.log.node) refl
        where
          by : (b : Bool) → (old.node == cell.log.node) ≡ b → IsTreeBut (Some at) old.node (cond b (slice_set old.marks at entry) old.marks) cells
          by true e = own_open old ((Decides-eqb old.node cell.log.node).0 e) t
          by false e = other_open old t

  -- with another cell there
  module _ (new : KeyCell) (node : new.log.node ≡ cell.log.node) (is : entry.hold ≡ least_hold (cell_holds new) cell.log.node) where
    new_there : slice_get (slice_set cells at new) at ≡ Some new
    new_there = set_got cells at new (slice_get_within cells at cell there)

    seen : (n i : ℕ) (o : Option KeyCell) → slice_get (slice_set cells at new) i ≡ o → least_hold (holds_in o) n ≡ least_hold (holds_in (slice_get (slice_set cells at new) i)) n
    seen n i o e = sym (ap (λ (x : Option KeyCell). least_hold (holds_in x) n) e)

    own_told : (old : NodeTree) → old.node ≡ cell.log.node → IsTreeBut None old.node old.marks cells → Tells old.node (slice_set old.marks at entry) (slice_set cells at new)
    own_told old same t i = elim (cases_eq i at) [
      | inl here ↦
          ap (λ k. (entry_at (slice_set old.marks at entry) k).hold) here
          ∙ ap (λ (e : TwinMarks). e.hold) (set_there old.marks at entry no_marks (t.long at cell there (sym same)))
          ∙ is ∙ ap (least_hold (cell_holds new)) (sym same)
          ∙ seen old.node i (Some new) (ap (slice_get (slice_set cells at new)) here ∙ new_there)
      | inr apart ↦
          ap (λ (e : TwinMarks). e.hold) (set_else old.marks at i entry no_marks apart)
          ∙ tells old cells t i
          ∙ seen old.node i (slice_get cells i) (set_got_other cells at i new apart)
    ]

    other_told : (old : NodeTree) → (old.node ≡ cell.log.node → ⊥) → IsTreeBut None old.node old.marks cells → Tells old.node old.marks (slice_set cells at new)
    other_told old differ t i = elim (cases_eq i at) [
      | inl here ↦
          ap (λ k. (entry_at old.marks k).hold) here
          ∙ (t.other at cell there (λ z. differ (sym z))).free
          ∙ sym (held_elsewhere new old.node (λ z. differ (sym (sym node ∙ z))))
          ∙ seen old.node i (Some new) (ap (slice_get (slice_set cells at new)) here ∙ new_there)
      | inr apart ↦ tells old cells t i ∙ seen old.node i (slice_get cells i) (set_got_other cells at i new apart)
    ]

    pub set_held : AreHeld after (slice_set cells at new)
    set_held = record {
      each = λ k tree e. let o = old_of k tree e in subst (λ (t : NodeTree). Tells t.node t.marks (slice_set cells at new)) (sym o.2) (one o.0 (h.each k o.0 o.1));
      has = λ i c e. still_among c.log.node (elim (set_cases cells at i new c e) [
        | inl f ↦ subst (IsAmong trees) (sym node ∙ ap (λ (x : KeyCell). x.log.node) f.1) (h.has at cell there)
        | inr f ↦ h.has i c f
      ]);
    }
      where
        one : (old : NodeTree) → IsTreeBut None old.node old.marks cells → Tells old.node (renewed cell.log.node at entry old).marks (slice_set cells at new)
        one old t = by (old.node == cell.log.node) refl
          where
            by : (b : Bool) → (old.node == cell.log.node) ≡ b → Tells old.node (cond b (slice_set old.marks at entry) old.marks) (slice_set cells at new)
            by true e = own_told old ((Decides-eqb old.node cell.log.node).0 e) t
            by false e = other_told old (λ same. not_both (old.node == cell.log.node) ((Decides-eqb old.node cell.log.node).1 same) e) t

-- the job of a cell is done
pub done_held : (before : List StageMarks) (done : Done) (trees after : List NodeTree) (cells : List KeyCell) (cell : KeyCell) (entry : TwinMarks) → slice_get cells done.cell ≡ Some cell
    → entry.hold ≡ least_hold (cell_holds (with_done before done cell)) cell.log.node → AreTrees trees cells → AreRenewed trees after cell.log.node done.cell entry
    → AreHeld after (finish before (Some done) cells)
done_held before done trees after cells cell entry there is h sets =
    subst (AreHeld after) (sym (ap (λ (o : Option KeyCell). set_done before done o cells) there))
    (set_held trees after cells done.cell cell entry there h sets (with_done before done cell) refl is)
