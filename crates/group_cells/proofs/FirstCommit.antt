-- Before the first commit nothing is there, and that is legal; marks that don't fall go on so.
use Rattle.std.proofs.Common.{◌≡◌, ◌⊎◌, inl, inr, ℕ, zero, suc, ◌<◌, ◌≤◌, ℤ, true, false, List, [], ◌∷◌, ◌++◌, length, length-append, slice_get, Some, refl, sym, subst, ◌∙◌, arith}
use Rattle.std.proofs.lemmas.Bool.{cases_lt}
use Rattle.std.proofs.lemmas.List.Elements.{All-nil, All-cons}
use Rattle.std.proofs.lemmas.Option.{slice_get_within}
use Rattle.beam_values.specs.Intervals.{Interval}
use Rattle.beam_values.specs.Nodes.{is_group}
use Rattle.beam_values.specs.declared.cell.Cell.{Cell}
use Rattle.beam_values.specs.declared.cell.Dropped.{Dropped}
use Rattle.beam_values.specs.declared.cell.Pane.{Pane}
use Rattle.beam_values.specs.declared.marks.CommitMarks.{CommitMarks}
use Rattle.beam_values.specs.declared.marks.StageMarks.{StageMarks}
use Rattle.beam_values.specs.declared.plan.Plan.{Plan}
use Rattle.beam_values.specs.declared.value.Value.{Value}
use Rattle.beam_model.specs.Panes.{Taken, GroupRules, rules_of, mark_after, is_late, arrives, Stands, IsCommit, IsLegalHistory, HasEntries, TellsPanes, AreLegalCells, IsKeyed, ArePanesLegal}
use Rattle.group_cells.specs.Commits.{NoneFalls, NeverFalls, as_commit}

none_stands : (rules : GroupRules) (mark : ℕ → ℤ) (c : ℕ) (w : Interval) → c ≤ 0 → Stands rules mark (arrives []) c w → ⊥
none_stands rules mark zero w within h = h
none_stands rules mark (suc c) w within h = absurd (omega arith)

first_history : (rules : GroupRules) (node : ℕ) (key : Value) (mark : ℕ → ℤ) → IsLegalHistory rules node key mark 0 [] [] []
first_history rules node key mark = record {
  kept = refl;
  late = All-nil (λ (t : Taken). is_late rules mark t.commit t.element.span ≡ true);
  taken_commits = refl;
  dropped_commits = All-nil (λ (t : Taken). IsCommit 0 t.commit);
  pane_commits = All-nil (λ (pane : Pane). IsCommit 0 pane.commit);
  onward = λ c h. absurd (omega arith);
  placed = λ c h v k. let no_ : false ≡ true = k in absurd (cc);
  fired = λ c w from within. absurd (omega arith);
  only = All-nil (λ (pane : Pane). Stands rules mark (arrives []) pane.commit pane.element.span);
}

first_cells : (rules : GroupRules) (node : ℕ) (mark : ℕ → ℤ) → AreLegalCells rules node mark 0 [] [] []
first_cells rules node mark = record {
  has = All-nil (λ (cell : Cell). HasEntries rules node mark 0 [] cell.span cell.entries cell.merged_into);
  tells = All-nil (TellsPanes rules node []);
  once = λ w. omega arith;
  ever = λ c w h k. absurd (none_stands rules mark c w h k);
}

-- after the opening, before the first commit
pub nothing_legal : (plan : Plan) (opening : CommitMarks) → length opening.marks ≡ length plan.nodes → ArePanesLegal plan (opening ∷ []) [] [] []
nothing_legal plan opening sized = record {
  sized = All-cons (λ (commit : CommitMarks). length commit.marks ≡ length plan.nodes) opening [] sized (All-nil (λ (commit : CommitMarks). length commit.marks ≡ length plan.nodes));
  cells_at = All-nil (λ (cell : Cell). is_group plan cell.node ≡ true);
  dropped_at = All-nil (λ (lost : Dropped). is_group plan lost.node ≡ true);
  panes_at = All-nil (λ (pane : Pane). is_group plan pane.node ≡ true);
  each = λ node key group. record {
    history = first_history (rules_of plan node) node key (mark_after (opening ∷ []) node);
    cells_tell = first_cells (rules_of plan node) node (mark_after (opening ∷ []) node);
  };
  keyed = All-nil IsKeyed;
  ordered = λ k d from within. absurd (omega arith);
}

same_some : {X : Type 0} (x y : X) → Some x ≡ Some y → x ≡ y
same_some x y e = cc

before_last : {X : Type 0} (xs : List X) (y : X) (i : ℕ) → i < length xs → slice_get (xs ++ y ∷ []) i ≡ slice_get xs i
before_last [] y i within = absurd (omega arith)
before_last (x ∷ xs) y zero within = refl
before_last (x ∷ xs) y (suc i) within = before_last xs y i (omega arith)

at_last : {X : Type 0} (xs : List X) (y : X) → slice_get (xs ++ y ∷ []) (length xs) ≡ Some y
at_last [] y = refl
at_last (x ∷ xs) y = at_last xs y

-- one more commit at which no mark falls
pub never_longer : (earlier : List CommitMarks) (before after : List StageMarks) → NeverFalls (earlier ++ as_commit before ∷ []) → NoneFalls before after
    → NeverFalls ((earlier ++ as_commit before ∷ []) ++ as_commit after ∷ [])
never_longer earlier before after never rise = record { each = each }
  where
    until : List CommitMarks
    until = earlier ++ as_commit before ∷ []

    size : length (earlier ++ as_commit before ∷ []) ≡ suc (length earlier)
    size = omega (arith, length-append earlier (as_commit before ∷ []))

    each : (c : ℕ) (old new : CommitMarks) → slice_get ((earlier ++ as_commit before ∷ []) ++ as_commit after ∷ []) c ≡ Some old
        → slice_get ((earlier ++ as_commit before ∷ []) ++ as_commit after ∷ []) (suc c) ≡ Some new → NoneFalls old.marks new.marks
    each c old new p q = by (cases_lt (suc c) (length (earlier ++ as_commit before ∷ [])))
      where
        by : (suc c < length (earlier ++ as_commit before ∷ [])) ⊎ (length (earlier ++ as_commit before ∷ []) ≤ suc c) → NoneFalls old.marks new.marks
        by (inl inside) = never.each c old new
            (sym (before_last (earlier ++ as_commit before ∷ []) (as_commit after) c (omega arith)) ∙ p)
            (sym (before_last (earlier ++ as_commit before ∷ []) (as_commit after) (suc c) inside) ∙ q)
        by (inr past) =
            let within = slice_get_within ((earlier ++ as_commit before ∷ []) ++ as_commit after ∷ []) (suc c) new q in
            let is : c ≡ length earlier = omega (arith, size, length-append (earlier ++ as_commit before ∷ []) (as_commit after ∷ [])) in
            let first : as_commit before ≡ old = same_some (as_commit before) old
            (sym (at_last earlier (as_commit before)) ∙ sym (before_last (earlier ++ as_commit before ∷ []) (as_commit after) (length earlier) (omega (arith, size)))
            ∙ subst (λ (n : ℕ). slice_get ((earlier ++ as_commit before ∷ []) ++ as_commit after ∷ []) n ≡ Some old) is p) in
            let next : suc c ≡ length (earlier ++ as_commit before ∷ []) = omega (arith, size) in
            let second : as_commit after ≡ new = same_some (as_commit after) new
            (sym (at_last (earlier ++ as_commit before ∷ []) (as_commit after)) ∙ subst (λ (n : ℕ). slice_get ((earlier ++ as_commit before ∷ []) ++ as_commit after ∷ []) n ≡ Some new) next q) in
            subst (λ (x : CommitMarks). NoneFalls x.marks new.marks) first (subst (λ (x : CommitMarks). NoneFalls before x.marks) second rise)
