-- How the lists of nodes follow the cells.
use Rattle.std.proofs.Common.{◌≡◌, ℕ, zero, suc, ◌+◌, ◌<◌, ◌≤◌, ◌==◌, ℤ, Bool, true, false, cond, List, [], ◌∷◌, ◌++◌, length, get_or, Option, Some, None, refl, sym, ap, subst, ◌∙◌, ◌⊎◌, inl, inr, arith}
use Rattle.std.specs.Prelude.{slice_get, slice_set, fold, ◌&&◌, not}
use Rattle.std.specs.List.{All}
use Rattle.std.proofs.lemmas.Bool.{cases_lt}
use Rattle.std.proofs.lemmas.Bool.Decides.{Decides-eqb}
use Rattle.std.proofs.lemmas.List.{length-append}
use Rattle.std.proofs.lemmas.List.Elements.{All-nil, All-push}
use Rattle.std.specs.Option.{option_map}
use Rattle.std.proofs.lemmas.Option.{get_or_from_slice_get, same_Some, slice_get-get_or, slice_get-map, slice_get_within}
use Rattle.mark_trees.specs.Halves.{no_marks}
use Rattle.mark_trees.specs.declared.twin_marks.TwinMarks.{TwinMarks}
use Rattle.beam_model.specs.Holds.{least_hold}
use Rattle.beam_values.specs.Nodes.{is_stateful}
use Rattle.beam_values.specs.Times.{final_mark}
use Rattle.beam_values.specs.declared.arrival.Arrival.{Arrival}
use Rattle.beam_values.specs.declared.marks.StageMarks.{StageMarks}
use Rattle.beam_values.specs.declared.plan.Plan.{Plan}
use Rattle.stateful_core.specs.Cells.{KeyCell, cell_holds}
use Rattle.stateful_core.specs.Opening.{IsCellAt, fresh_all, fresh_one, is_any, put_in, put_one}
use Rattle.stateful_core.specs.Placing.{Done, finish, fresh_cell, set_done, waits, with_done, with_waiting}
use Rattle.stateful_core.specs.Seen.{cell_of, cells_of}
use Rattle.stateful_core.specs.Taking.{change, set_by}
use Rattle.stateful_core.specs.Trees.{AreLonger, AreRenewed, AreTrees, AreTreesBut, HasPlace, HavePlaces, IsAmong, IsEntryOf, IsIdle, IsLonger, IsRenewed, IsSetLonger, IsTreeBut, entry_at, is_ready_at, renewed}
use Rattle.stateful_core.specs.declared.node_tree.NodeTree.{NodeTree}
use Rattle.stateful_core.specs.declared.slot.Slot.{Slot}
use Rattle.stateful_core.proofs.FirstOfTrees.{none_idle}
use Rattle.stateful_core.proofs.NextReady.{got_before, got_cases}
use Rattle.stateful_core.proofs.PutPlaces.{put_at}
use Rattle.stateful_core.proofs.Roomy.{set_cases}

not_both : (b : Bool) → b ≡ true → b ≡ false → ⊥
not_both b e f = cc

pub set_there : {X : Type 0} (xs : List X) (i : ℕ) (x d : X) → i < length xs → get_or (slice_set xs i x) i d ≡ x
set_there [] i x d h = absurd (omega arith)
set_there (y ∷ xs) zero x d h = refl
set_there (y ∷ xs) (suc i) x d h = set_there xs i x d (omega arith)

pub set_else : {X : Type 0} (xs : List X) (i j : ℕ) (x d : X) → (j ≡ i → ⊥) → get_or (slice_set xs i x) j d ≡ get_or xs j d
set_else [] i j x d h = refl
set_else (y ∷ xs) zero zero x d h = absurd (h refl)
set_else (y ∷ xs) zero (suc j) x d h = refl
set_else (y ∷ xs) (suc i) zero x d h = refl
set_else (y ∷ xs) (suc i) (suc j) x d h = set_else xs i j x d (λ e. h (ap suc e))

pub set_sized : {X : Type 0} (xs : List X) (i : ℕ) (x : X) → length (slice_set xs i x) ≡ length xs
set_sized [] i x = refl
set_sized (y ∷ xs) zero x = refl
set_sized (y ∷ xs) (suc i) x = ap suc (set_sized xs i x)

-- ---- a cell changes, and its entry is made anew

module _ (cells : List KeyCell) (at : ℕ) (old new : KeyCell) (there : slice_get cells at ≡ Some old) (node : new.log.node ≡ old.log.node) where
  abbrev after : List KeyCell
  after = slice_set cells at new

  changed_one : (n : ℕ) (entries : List TwinMarks) → IsTreeBut None n entries cells → IsTreeBut (Some at) n entries after
  changed_one n entries h = record {
    own = λ i c e same apart. elim (set_cases cells at i new c e) [ inl f ↦ absurd (apart (ap (λ k. Some k) (sym f.0))) | inr f ↦ h.own i c f same (λ z. none i z) ];
    other = λ i c e differ. elim (set_cases cells at i new c e) [
      | inl f ↦ subst (λ k. IsIdle (entry_at entries k)) (sym f.0) (h.other at old there (λ same. differ (ap (λ (x : KeyCell). x.log.node) (sym f.1) ∙ node ∙ same)))
      | inr f ↦ h.other i c f differ
    ];
    long = λ i c e same. elim (set_cases cells at i new c e) [
      | inl f ↦ let less = h.long at old there (sym node ∙ ap (λ (x : KeyCell). x.log.node) f.1 ∙ same) in omega (arith, f.0, less)
      | inr f ↦ h.long i c f same
    ];
    idle = λ i less. h.idle i (omega (arith, less, set_sized cells at new));
  }
    where
      none : (i : ℕ) → None ≡ Some i → ⊥
      none i z = cc

  pub changed : (trees : List NodeTree) → AreTrees trees cells → AreTreesBut (Some at) trees after
  changed trees h = record {
    each = λ k tree e. changed_one tree.node tree.marks (h.each k tree e);
    has = λ i c e. elim (set_cases cells at i new c e) [
      | inl f ↦ subst (IsAmong trees) (sym node ∙ ap (λ (x : KeyCell). x.log.node) f.1) (h.has at old there)
      | inr f ↦ h.has i c f
    ];
  }

module _ (cells : List KeyCell) (at : ℕ) (cell : KeyCell) (there : slice_get cells at ≡ Some cell) (entry : TwinMarks) (is : IsEntryOf cell entry) where
  full : (n : ℕ) (entries : List TwinMarks) → n ≡ cell.log.node → IsTreeBut (Some at) n entries cells → IsTreeBut None n (slice_set entries at entry) cells
  full n entries own h = record {
    own = λ i c e same _. by i c e same (i == at) refl;
    other = λ i c e differ. by_other i c e differ (i == at) refl;
    long = λ i c e same. let less = h.long i c e same in omega (arith, less, set_sized entries at entry);
    idle = λ i less. by_idle i less;
  }
    where
      apart : (i : ℕ) → (i == at) ≡ false → i ≡ at → ⊥
      apart i f e = not_both (i == at) ((Decides-eqb i at).1 e) f

      by : (i : ℕ) (c : KeyCell) → slice_get cells i ≡ Some c → c.log.node ≡ n → (b : Bool) → (i == at) ≡ b → IsEntryOf c (entry_at (slice_set entries at entry) i)
      by i c e same true f =
          let here = (Decides-eqb i at).0 f in
          let c_is : cell ≡ c = same_Some cell c (sym there ∙ ap (slice_get cells) (sym here) ∙ e) in
          let less = h.long at cell there (sym own) in
          subst (λ (x : KeyCell). IsEntryOf x (entry_at (slice_set entries at entry) i)) c_is
          (subst (IsEntryOf cell) (sym (ap (entry_at (slice_set entries at entry)) here ∙ set_there entries at entry no_marks less)) is)
      by i c e same false f =
          subst (IsEntryOf c) (sym (set_else entries at i entry no_marks (apart i f))) (h.own i c e same (λ z. apart i f (sym (same_Some at i z))))

      by_other : (i : ℕ) (c : KeyCell) → slice_get cells i ≡ Some c → (c.log.node ≡ n → ⊥) → (b : Bool) → (i == at) ≡ b → IsIdle (entry_at (slice_set entries at entry) i)
      by_other i c e differ true f =
          let here = (Decides-eqb i at).0 f in
          let c_is : cell ≡ c = same_Some cell c (sym there ∙ ap (slice_get cells) (sym here) ∙ e) in
          absurd (differ (ap (λ (x : KeyCell). x.log.node) (sym c_is) ∙ sym own))
      by_other i c e differ false f = subst IsIdle (sym (set_else entries at i entry no_marks (apart i f))) (h.other i c e differ)

      by_idle : (i : ℕ) → length cells ≤ i → IsIdle (entry_at (slice_set entries at entry) i)
      by_idle i less =
          let within = slice_get_within cells at cell there in
          subst IsIdle (sym (set_else entries at i entry no_marks (λ e. absurd (omega (arith, e, less, within))))) (h.idle i less)

  past : (n : ℕ) (entries : List TwinMarks) → (n ≡ cell.log.node → ⊥) → IsTreeBut (Some at) n entries cells → IsTreeBut None n entries cells
  past n entries differ h = record {
    own = λ i c e same _. h.own i c e same (λ z. differ (here i c e z same));
    other = h.other;
    long = h.long;
    idle = h.idle;
  }
    where
      here : (i : ℕ) (c : KeyCell) → slice_get cells i ≡ Some c → Some at ≡ Some i → c.log.node ≡ n → n ≡ cell.log.node
      here i c e z same =
          let c_is : cell ≡ c = same_Some cell c (sym there ∙ ap (slice_get cells) (same_Some at i z) ∙ e) in sym same ∙ ap (λ (x : KeyCell). x.log.node) (sym c_is)

  pub renewed_one : (tree : NodeTree) → IsTreeBut (Some at) tree.node tree.marks cells → IsTreeBut None tree.node (renewed cell.log.node at entry tree).marks cells
  renewed_one tree h = by (tree.node == cell.log.node) refl
    where
      by : (b : Bool) → (tree.node == cell.log.node) ≡ b → IsTreeBut None tree.node (cond b (slice_set tree.marks at entry) tree.marks) cells
      by true e = full tree.node tree.marks ((Decides-eqb tree.node cell.log.node).0 e) h
      by false e = past tree.node tree.marks (λ same. not_both (tree.node == cell.log.node) ((Decides-eqb tree.node cell.log.node).1 same) e) h

pub renewed_all : (trees after : List NodeTree) (at : ℕ) (cells : List KeyCell) (cell : KeyCell) (entry : TwinMarks) (k : ℕ) → length after ≤ k → IsRenewed trees after cell.log.node at entry k
    → IsEntryOf cell entry → slice_get cells at ≡ Some cell → AreTreesBut (Some at) trees cells → AreTrees after cells
renewed_all trees after at cells cell entry k all h is there before = record {
  each = λ i tree e.
      let r = h.done i tree (let w = slice_get_within after i tree e in omega (arith, w, all)) e in
      subst (λ (t : NodeTree). IsTreeBut None t.node t.marks cells) (sym r.2) (renewed_one cells at cell there entry is r.0 (before.each i r.0 r.1));
  has = λ i c e. let a = before.has i c e in let n = h.forth a.0 a.1 a.2 in (a.0, n.0, n.1, n.2 ∙ a.3);
}

-- ---- longer lists

pub longer_keep : (old new : List NodeTree) (hole : Option ℕ) (cells : List KeyCell) → AreLonger old new → AreTreesBut hole old cells → AreTreesBut hole new cells
longer_keep old new hole cells longer h = record {
  each = λ k tree e.
      let b = longer.back k tree e in
      let was = h.each k b.0 b.1 in
      record {
        own = λ at cell f same apart. subst (IsEntryOf cell) (sym (b.2.entries at)) (was.own at cell f (same ∙ b.2.node) apart);
        other = λ at cell f differ. subst IsIdle (sym (b.2.entries at)) (was.other at cell f (λ same. differ (same ∙ sym b.2.node)));
        long = λ at cell f same. let less = was.long at cell f (same ∙ b.2.node) in omega (arith, less, b.2.long);
        idle = λ at less. subst IsIdle (sym (b.2.entries at)) (was.idle at less);
      };
  has = λ at cell f. let a = h.has at cell f in let n = longer.forth a.0 a.1 a.2 in (a.0, n.0, n.1, n.2 ∙ a.3);
}

pub longer_place : (old new : List NodeTree) (node at : ℕ) → AreLonger old new → HasPlace old node at → HasPlace new node at
longer_place old new node at longer h = record {
  among = let a = h.among in let n = longer.forth a.0 a.1 a.2 in (a.0, n.0, n.1, n.2 ∙ a.3);
  long = λ k tree e same. let b = longer.back k tree e in let less = h.long k b.0 b.1 (sym b.2.node ∙ same) in omega (arith, less, b.2.long);
}

same_longer : (tree : NodeTree) → IsLonger tree tree
same_longer tree = record { node = refl; entries = λ i. refl; long = omega arith }

pub all_same : (trees : List NodeTree) → AreLonger trees trees
all_same trees = record { back = λ k tree e. (tree, e, same_longer tree); forth = λ k tree e. (tree, e, refl) }

then_longer : (a b c : NodeTree) → IsLonger a b → IsLonger b c → IsLonger a c
then_longer a b c h k = record { node = k.node ∙ h.node; entries = λ i. k.entries i ∙ h.entries i; long = omega (arith, h.long, k.long) }

pub longer_then : (a b c : List NodeTree) → AreLonger a b → AreLonger b c → AreLonger a c
longer_then a b c h k = record {
  back = λ i tree e. let x = k.back i tree e in let y = h.back i x.0 x.1 in (y.0, y.1, then_longer y.0 x.0 tree y.2 x.2);
  forth = λ i tree e. let x = h.forth i tree e in let y = k.forth i x.0 x.1 in (y.0, y.1, y.2 ∙ x.2);
}

pub set_got : {X : Type 0} (xs : List X) (i : ℕ) (x : X) → i < length xs → slice_get (slice_set xs i x) i ≡ Some x
set_got [] i x h = absurd (omega arith)
set_got (y ∷ xs) zero x h = refl
set_got (y ∷ xs) (suc i) x h = set_got xs i x (omega arith)

pub set_got_other : {X : Type 0} (xs : List X) (i j : ℕ) (x : X) → (j ≡ i → ⊥) → slice_get (slice_set xs i x) j ≡ slice_get xs j
set_got_other [] i j x h = refl
set_got_other (y ∷ xs) zero zero x h = absurd (h refl)
set_got_other (y ∷ xs) zero (suc j) x h = refl
set_got_other (y ∷ xs) (suc i) zero x h = refl
set_got_other (y ∷ xs) (suc i) (suc j) x h = set_got_other xs i j x (λ e. h (ap suc e))

pub one_longer : (trees after : List NodeTree) (k : ℕ) (tree : NodeTree) → slice_get trees k ≡ Some tree → IsSetLonger trees k tree after → AreLonger trees after
one_longer trees after k tree there s = subst (AreLonger trees) (sym s.set) (record {
  back = λ i t e. elim (set_cases trees k i s.new t e) [
    | inl f ↦ (tree, ap (slice_get trees) f.0 ∙ there, subst (IsLonger tree) f.1 s.longer)
    | inr f ↦ (t, f, same_longer t)
  ];
  forth = λ i t e. by i t e (i == k) refl;
})
  where
    by : (i : ℕ) (t : NodeTree) → slice_get trees i ≡ Some t → (b : Bool) → (i == k) ≡ b → (now : NodeTree) × (slice_get (slice_set trees k s.new) i ≡ Some now) × (now.node ≡ t.node)
    by i t e true f =
        let here = (Decides-eqb i k).0 f in
        let t_is : tree ≡ t = same_Some tree t (sym there ∙ ap (slice_get trees) (sym here) ∙ e) in
        (s.new, ap (slice_get (slice_set trees k s.new)) here ∙ set_got trees k s.new (slice_get_within trees k tree there), s.longer.node ∙ ap (λ (x : NodeTree). x.node) t_is)
    by i t e false f = (t, set_got_other trees k i s.new (λ g. not_both (i == k) ((Decides-eqb i k).1 g) f) ∙ e, refl)

-- ---- a node that no cell is of

module _ (trees : List NodeTree) (tree : NodeTree) (none : IsAmong trees tree.node → ⊥) (empty : (i : ℕ) → entry_at tree.marks i ≡ no_marks) where
  idle_there : (i : ℕ) → IsIdle (entry_at tree.marks i)
  idle_there i = subst IsIdle (sym (empty i)) none_idle

  pub added : (hole : Option ℕ) (cells : List KeyCell) → AreTreesBut hole trees cells → AreTreesBut hole (trees ++ tree ∷ []) cells
  added hole cells h = record {
    each = λ k t e. elim (got_cases trees tree t k e) [ inl f ↦ h.each k t f | inr f ↦ subst (λ (x : NodeTree). IsTreeBut hole x.node x.marks cells) f.1 here ];
    has = λ at cell f. let a = h.has at cell f in (a.0, a.1, got_before trees tree a.1 a.0 a.2, a.3);
  }
    where
      nobody : (at : ℕ) (cell : KeyCell) → slice_get cells at ≡ Some cell → cell.log.node ≡ tree.node → ⊥
      nobody at cell f same = none (subst (IsAmong trees) same (h.has at cell f))

      here : IsTreeBut hole tree.node tree.marks cells
      here = record {
        own = λ at cell f same apart. absurd (nobody at cell f same);
        other = λ at cell f differ. idle_there at;
        long = λ at cell f same. absurd (nobody at cell f same);
        idle = λ at less. idle_there at;
      }

  pub added_place : (node at : ℕ) → HasPlace trees node at → HasPlace (trees ++ tree ∷ []) node at
  added_place node at h = record {
    among = let a = h.among in (a.0, a.1, got_before trees tree a.1 a.0 a.2, a.3);
    long = λ k t e same. elim (got_cases trees tree t k e) [
      | inl f ↦ h.long k t f same
      | inr f ↦ absurd (none (subst (IsAmong trees) (sym same ∙ sym (ap (λ (x : NodeTree). x.node) f.1)) h.among))
    ];
  }

-- ---- new cells

-- never ready, and without a hold
pub record IsQuiet (cell : KeyCell) : Type 0 where
  pub never : (mark : ℤ) → is_ready_at mark cell ≡ false
  pub free : least_hold (cell_holds cell) cell.log.node ≡ final_mark

pub opened : (trees : List NodeTree) (cells fresh : List KeyCell) → AreTrees trees cells
    → ((k : ℕ) (cell : KeyCell) → slice_get fresh k ≡ Some cell → HasPlace trees cell.log.node (length cells + k) × IsQuiet cell) → AreTrees trees (cells ++ fresh)
opened trees cells fresh h new = record {
  each = λ k tree e.
      let was = h.each k tree e in
      record {
        own = λ at cell f same _. elim (behind cells fresh at cell f) [
          | inl g ↦ was.own at cell g same (λ z. cc)
          | inr g ↦
              let idle = was.idle at (omega (arith, g.1)) in
              let quiet = (new g.0 cell g.2).1 in
              record { due = λ mark m. idle.never mark m ∙ sym (quiet.never mark); held = idle.free ∙ sym quiet.free }
        ];
        other = λ at cell f differ. elim (behind cells fresh at cell f) [ inl g ↦ was.other at cell g differ | inr g ↦ was.idle at (omega (arith, g.1)) ];
        long = λ at cell f same. elim (behind cells fresh at cell f) [
          | inl g ↦ was.long at cell g same
          | inr g ↦ let less = (new g.0 cell g.2).0.long k tree e (sym same) in omega (arith, less, g.1)
        ];
        idle = λ at less. was.idle at (omega (arith, less, length-append cells fresh));
      };
  has = λ at cell f. elim (behind cells fresh at cell f) [ inl g ↦ h.has at cell g | inr g ↦ (new g.0 cell g.2).0.among ];
}
  where
    behind : {X : Type 0} (xs ys : List X) (at : ℕ) (y : X) → slice_get (xs ++ ys) at ≡ Some y → (slice_get xs at ≡ Some y) ⊎ ((k : ℕ) × (at ≡ length xs + k) × (slice_get ys k ≡ Some y))
    behind [] ys at y e = inr (at, omega arith, e)
    behind (x ∷ xs) ys zero y e = inl e
    behind (x ∷ xs) ys (suc at) y e = elim (behind xs ys at y e) [ inl g ↦ inl g | inr g ↦ inr (g.0, omega (arith, g.1), g.2) ]

-- ---- a step of making entries anew

pub renewed_none : (trees : List NodeTree) (node at : ℕ) (entry : TwinMarks) → IsRenewed trees trees node at entry 0
renewed_none trees node at entry = record {
  done = λ i tree less e. absurd (omega (arith, less));
  left = λ i tree less e. e;
  forth = λ i tree e. (tree, e, refl);
}

pub renewed_done : (trees after : List NodeTree) (node at : ℕ) (entry : TwinMarks) (k : ℕ) → length after ≤ k → IsRenewed trees after node at entry k → AreRenewed trees after node at entry
renewed_done trees after node at entry k all h = record {
  done = λ i tree less e. h.done i tree (omega (arith, less, all)) e;
  left = λ i tree past e. absurd (let w = slice_get_within after i tree e in omega (arith, w, past));
  forth = h.forth;
}

pub renewed_more : (trees after new : List NodeTree) (node at : ℕ) (entry : TwinMarks) (k : ℕ) → k < length after
    → ((tree : NodeTree) → slice_get after k ≡ Some tree → new ≡ slice_set after k (renewed node at entry tree)) → IsRenewed trees after node at entry k
    → IsRenewed trees new node at entry (k + 1)
renewed_more trees after new node at entry k less sets h = by (slice_get after k) refl
  where
    past : (xs : List NodeTree) (i : ℕ) → slice_get xs i ≡ None → i < length xs → ⊥
    past [] i e l = absurd (omega (arith, l))
    past (x ∷ xs) zero e l = absurd (cc)
    past (x ∷ xs) (suc i) e l = past xs i e (omega (arith, l))

    by : (o : Option NodeTree) → slice_get after k ≡ o → IsRenewed trees new node at entry (k + 1)
    by None e = absurd (past after k e less)
    by (Some t) e = subst (λ (l : List NodeTree). IsRenewed trees l node at entry (k + 1)) (sym (sets t e)) (record {
      done = λ i tree l f. by_done i tree l f (i == k) refl;
      left = λ i tree l f. h.left i tree (omega (arith, l)) (sym (set_got_other after k i (renewed node at entry t) (λ g. absurd (omega (arith, g, l)))) ∙ f);
      forth = λ i tree f. let n = h.forth i tree f in by_forth i tree n.0 n.1 n.2 (i == k) refl;
    })
      where
        by_done : (i : ℕ) (tree : NodeTree) → i < k + 1 → slice_get (slice_set after k (renewed node at entry t)) i ≡ Some tree → (b : Bool) → (i == k) ≡ b
            → (old : NodeTree) × (slice_get trees i ≡ Some old) × (tree ≡ renewed node at entry old)
        by_done i tree l f true g =
            let here = (Decides-eqb i k).0 g in
            let is : tree ≡ renewed node at entry t =
            same_Some tree (renewed node at entry t) (sym f ∙ ap (slice_get (slice_set after k (renewed node at entry t))) here ∙ set_got after k (renewed node at entry t) less) in
            (t, ap (slice_get trees) here ∙ h.left k t (omega arith) e, is)
        by_done i tree l f false g =
            let apart = λ (z : i ≡ k). not_both (i == k) ((Decides-eqb i k).1 z) g in
            h.done i tree (below i l apart) (sym (set_got_other after k i (renewed node at entry t) apart) ∙ f)
          where
            below : (j : ℕ) → j < k + 1 → (j ≡ k → ⊥) → j < k
            below j l_ differ = elim (cases_lt j k) [ inl lt ↦ lt | inr ge ↦ absurd (differ (omega (arith, l_, ge))) ]

        by_forth : (i : ℕ) (tree now : NodeTree) → slice_get after i ≡ Some now → now.node ≡ tree.node → (b : Bool) → (i == k) ≡ b
            → (out : NodeTree) × (slice_get (slice_set after k (renewed node at entry t)) i ≡ Some out) × (out.node ≡ tree.node)
        by_forth i tree now f same true g =
            let here = (Decides-eqb i k).0 g in
            let is : t ≡ now = same_Some t now (sym e ∙ ap (slice_get after) (sym here) ∙ f) in
            (renewed node at entry t, ap (slice_get (slice_set after k (renewed node at entry t))) here ∙ set_got after k (renewed node at entry t) less, ap (λ (x : NodeTree). x.node) is ∙ same)
        by_forth i tree now f same false g = (now, set_got_other after k i (renewed node at entry t) (λ z. not_both (i == k) ((Decides-eqb i k).1 z) g) ∙ f, same)

pub push_same : (entries : List TwinMarks) (i : ℕ) → entry_at (entries ++ no_marks ∷ []) i ≡ entry_at entries i
push_same [] zero = refl
push_same [] (suc i) = refl
push_same (x ∷ entries) zero = refl
push_same (x ∷ entries) (suc i) = push_same entries i

-- ---- lists that have grown so far

pub record IsGrown (trees after : List NodeTree) (node at k : ℕ) : Type 0 where
  pub longer : AreLonger trees after
  pub done : (j : ℕ) (tree : NodeTree) → j < k → slice_get after j ≡ Some tree → tree.node ≡ node → at < length tree.marks

pub grown_none : (trees : List NodeTree) (node at : ℕ) → IsGrown trees trees node at 0
grown_none trees node at = record { longer = all_same trees; done = λ j tree less e same. absurd (omega (arith, less)) }

pub grown_more : (trees after new : List NodeTree) (node at k : ℕ) → k < length after → ((tree : NodeTree) → slice_get after k ≡ Some tree → IsSetLonger after k tree new)
    → ((tree : NodeTree) → slice_get new k ≡ Some tree → tree.node ≡ node → at < length tree.marks) → IsGrown trees after node at k → IsGrown trees new node at (k + 1)
grown_more trees after new node at k less sets fits h = by (slice_get after k) refl
  where
    past : (xs : List NodeTree) (i : ℕ) → slice_get xs i ≡ None → i < length xs → ⊥
    past [] i e l = absurd (omega (arith, l))
    past (x ∷ xs) zero e l = absurd (cc)
    past (x ∷ xs) (suc i) e l = past xs i e (omega (arith, l))

    by : (o : Option NodeTree) → slice_get after k ≡ o → IsGrown trees new node at (k + 1)
    by None e = absurd (past after k e less)
    by (Some t) e = record {
      longer = longer_then trees after new h.longer (one_longer after new k t e (sets t e));
      done = λ j tree l f same. done j tree l f same (j == k) refl;
    }
      where
        done : (j : ℕ) (tree : NodeTree) → j < k + 1 → slice_get new j ≡ Some tree → tree.node ≡ node → (b : Bool) → (j == k) ≡ b → at < length tree.marks
        done j tree l f same true g = fits tree (ap (slice_get new) (sym ((Decides-eqb j k).0 g)) ∙ f) same
        done j tree l f same false g =
            let apart = λ (z : j ≡ k). not_both (j == k) ((Decides-eqb j k).1 z) g in
            let s = sets t e in
            h.done j tree (elim (cases_lt j k) [ inl lt ↦ lt | inr ge ↦ absurd (apart (omega (arith, l, ge))) ])
            (sym (set_got_other after k j s.new apart) ∙ sym (ap (λ (m : List NodeTree). slice_get m j) s.set) ∙ f) same

pub set_past : (entries : List TwinMarks) (i : ℕ) (entry : TwinMarks) → length entries ≤ i → entries ≡ slice_set entries i entry
set_past [] i entry h = refl
set_past (x ∷ entries) zero entry h = absurd (omega (arith, h))
set_past (x ∷ entries) (suc i) entry h = ap (λ l. x ∷ l) (set_past entries i entry (omega (arith, h)))

pub renewed_on : (node at : ℕ) (entry : TwinMarks) (tree : NodeTree) → tree.node ≡ node → record tree { marks = slice_set tree.marks at entry } ≡ renewed node at entry tree
renewed_on node at entry tree e = sym (ap (λ b. record tree { marks = cond b (slice_set tree.marks at entry) tree.marks }) ((Decides-eqb tree.node node).1 e))

pub renewed_off : (node at : ℕ) (entry : TwinMarks) (tree : NodeTree) → (tree.node ≡ node → ⊥) → tree ≡ renewed node at entry tree
renewed_off node at entry tree differ = by (tree.node == node) refl
  where
    by : (b : Bool) → (tree.node == node) ≡ b → tree ≡ record tree { marks = cond b (slice_set tree.marks at entry) tree.marks }
    by true e = absurd (differ ((Decides-eqb tree.node node).0 e))
    by false e = refl

pub renewed_place : (trees after : List NodeTree) (node at : ℕ) (entry : TwinMarks) (k : ℕ) → length after ≤ k → IsRenewed trees after node at entry k
    → (n i : ℕ) → HasPlace trees n i → HasPlace after n i
renewed_place trees after node at entry k all h n i place = record {
  among = let a = place.among in let out = h.forth a.0 a.1 a.2 in (a.0, out.0, out.1, out.2 ∙ a.3);
  long = λ j tree e same.
      let r = h.done j tree (let w = slice_get_within after j tree e in omega (arith, w, all)) e in
      let less = place.long j r.0 r.1 (sym (ap (λ (t : NodeTree). t.node) r.2) ∙ same) in
      let sized : length tree.marks ≡ length r.0.marks = ap (λ (t : NodeTree). length t.marks) r.2 ∙ kept r.0 (r.0.node == node) in
      omega (arith, less, sized);
}
  where
    kept : (t : NodeTree) (b : Bool) → length (cond b (slice_set t.marks at entry) t.marks) ≡ length t.marks
    kept t true = set_sized t.marks at entry
    kept t false = refl

-- ---- the steps of key cells

got : {X : Type 0} (xs : List X) (i : ℕ) → i < length xs → (x : X) × (slice_get xs i ≡ Some x)
got [] i h = absurd (omega arith)
got (x ∷ xs) zero h = (x, refl)
got (x ∷ xs) (suc i) h = got xs i (omega arith)

pub changed_by : (f : KeyCell → KeyCell) → ((cell : KeyCell) → (f cell).log.node ≡ cell.log.node) → (cells : List KeyCell) (at : ℕ) → at < length cells → (trees : List NodeTree)
    → AreTrees trees cells → AreTreesBut (Some at) trees (change f at cells)
changed_by f same cells at less trees h =
    let cell = got cells at less in
    subst (AreTreesBut (Some at) trees) (sym (ap (λ (o : Option KeyCell). set_by f o at cells) cell.1)) (changed cells at cell.0 (f cell.0) cell.1 (same cell.0) trees h)

pub changed_done : (before : List StageMarks) (done : Done) (cells : List KeyCell) → done.cell < length cells → (trees : List NodeTree) → AreTrees trees cells
    → AreTreesBut (Some done.cell) trees (finish before (Some done) cells)
changed_done before done cells less trees h =
    let cell = got cells done.cell less in
    subst (AreTreesBut (Some done.cell) trees) (sym (ap (λ (o : Option KeyCell). set_done before done o cells) cell.1))
    (changed cells done.cell cell.0 (with_done before done cell.0) cell.1 refl trees h)

pub changed_put : (plan : Plan) (before : List StageMarks) (arrival : Arrival) (cells after : List KeyCell) (at : ℕ) → is_stateful plan arrival.node ≡ true → IsCellAt arrival cells at
    → after ≡ put_one plan before cells arrival → (trees : List NodeTree) → AreTrees trees cells → AreTreesBut (Some at) trees after
changed_put plan before arrival cells after at on there is trees h =
    subst (AreTreesBut (Some at) trees) (sym (is ∙ ap (λ b. cond b (put_in before arrival cells) cells) on ∙ put_at before arrival cells at there))
    (changed cells at there.cell (with_waiting there.cell (waits before arrival)) there.is_at refl trees h)

pub fresh_quiet : (arrival : Arrival) → IsQuiet (fresh_cell arrival)
fresh_quiet arrival = record { never = λ mark. refl; free = refl }

all_quiet : (plan : Plan) (cells : List KeyCell) (arrivals : List Arrival) (fresh : List KeyCell) → All IsQuiet fresh → All IsQuiet (fold (fresh_one plan cells) fresh arrivals)
all_quiet plan cells [] fresh h = h
all_quiet plan cells (arrival ∷ arrivals) fresh h =
    all_quiet plan cells arrivals (fresh_one plan cells fresh arrival)
    (by (is_stateful plan arrival.node && (not (is_any arrival cells) && not (is_any arrival fresh))))
  where
    by : (b : Bool) → All IsQuiet (cond b (fresh ++ fresh_cell arrival ∷ []) fresh)
    by true = All-push IsQuiet fresh (fresh_cell arrival) h (fresh_quiet arrival)
    by false = h

pub quiet_at : (plan : Plan) (cells : List KeyCell) (arrivals : List Arrival) (fresh : List KeyCell) → fresh ≡ fresh_all plan cells arrivals → (k : ℕ) (cell : KeyCell)
    → slice_get fresh k ≡ Some cell → IsQuiet cell
quiet_at plan cells arrivals fresh is k cell e =
    let all : All IsQuiet fresh = subst (All IsQuiet) (sym is) (all_quiet plan cells arrivals [] (All-nil IsQuiet)) in
    subst IsQuiet (get_or_from_slice_get fresh k cell cell e) (all k cell (slice_get_within fresh k cell e))

pub longer_set : (tree : NodeTree) (marks : List TwinMarks) → ((i : ℕ) → entry_at marks i ≡ entry_at tree.marks i) → length tree.marks ≤ length marks → IsLonger tree (record tree { marks = marks })
longer_set tree marks same long = record { node = refl; entries = same; long = long }

pub in_longer : (trees after : List NodeTree) (k : ℕ) → k < length trees → ((tree : NodeTree) → slice_get trees k ≡ Some tree → IsSetLonger trees k tree after) → AreLonger trees after
in_longer trees after k less sets = let tree = got trees k less in one_longer trees after k tree.0 tree.1 (sets tree.0 tree.1)

pub all_grown : (trees after : List NodeTree) (node at k : ℕ) → length after ≤ k → IsGrown trees after node at k → (j : ℕ) (tree : NodeTree) → slice_get after j ≡ Some tree → tree.node ≡ node
    → at < length tree.marks
all_grown trees after node at k all h j tree e same = h.done j tree (let w = slice_get_within after j tree e in omega (arith, w, all)) e same

-- ---- places for new cells

pub places_more : (trees more : List NodeTree) (fresh : List Slot) (first k number : ℕ) (slot : Slot) → k < length fresh → slot ≡ get_or fresh k slot → number ≡ first + k
    → HasPlace more slot.node number → ((n i : ℕ) → HasPlace trees n i → HasPlace more n i)
    → ((j : ℕ) (s : Slot) → j < k → slice_get fresh j ≡ Some s → HasPlace trees s.node (first + j))
    → (j : ℕ) (s : Slot) → j < k + 1 → slice_get fresh j ≡ Some s → HasPlace more s.node (first + j)
places_more trees more fresh first k number slot inside read is here keeps before j s less e = by (j == k) refl
  where
    at_k : j ≡ k → slot ≡ s
    at_k same = same_Some slot s (ap (λ (x : Slot). Some x) read ∙ sym (slice_get-get_or fresh k slot inside) ∙ ap (slice_get fresh) (sym same) ∙ e)

    by : (b : Bool) → (j == k) ≡ b → HasPlace more s.node (first + j)
    by true f =
        let same = (Decides-eqb j k).0 f in
        let number_is : number ≡ first + j = omega (arith, is, same) in
        subst (HasPlace more s.node) number_is (subst (λ (x : Slot). HasPlace more x.node number) (at_k same) here)
    by false f =
        let apart = λ (z : j ≡ k). not_both (j == k) ((Decides-eqb j k).1 z) f in
        keeps s.node (first + j) (before j s (elim (cases_lt j k) [ inl lt ↦ lt | inr ge ↦ absurd (apart (omega (arith, less, ge))) ]) e)

pub places_all : (trees : List NodeTree) (fresh : List Slot) (first k : ℕ) → length fresh ≤ k
    → ((j : ℕ) (s : Slot) → j < k → slice_get fresh j ≡ Some s → HasPlace trees s.node (first + j)) → HavePlaces trees first (cells_of fresh)
places_all trees fresh first k all h = record { each = λ j cell e. by j cell (slice_get fresh j) refl (sym (slice_get-map cell_of fresh j) ∙ e) }
  where
    by : (j : ℕ) (cell : KeyCell) (o : Option Slot) → slice_get fresh j ≡ o → option_map cell_of (slice_get fresh j) ≡ Some cell → HasPlace trees cell.log.node (first + j)
    by j cell None f e = absurd (none (sym (ap (option_map cell_of) f) ∙ e))
      where
        none : None ≡ Some cell → ⊥
        none z = cc
    by j cell (Some s) f e =
        let is : cell_of s ≡ cell = same_Some (cell_of s) cell (sym (ap (option_map cell_of) f) ∙ e) in
        subst (λ (x : KeyCell). HasPlace trees x.log.node (first + j)) is
        (h j s (let w = slice_get_within fresh j s f in omega (arith, w, all)) f)
