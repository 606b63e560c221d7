-- The marks after each commit, where one commit is added; panes in order, where later ones are added.
use Rattle.std.proofs.Common.{◌≡◌, ◌⊎◌, inl, inr, ℕ, zero, suc, ◌+◌, ◌-◌, ◌<◌, ◌≤◌, ℤ, Bool, false, List, [], ◌∷◌, ◌++◌, length, get_or, length-append, refl, sym, ap, subst, ◌∙◌, arith, slice_get, Option, Some}
use Rattle.std.specs.Prelude.{◌≤ℤ◌, unwrap_or}
use Rattle.std.specs.List.{All}
use Rattle.std.specs.List.Sorted.{IsSorted, IsSortedBy}
use Rattle.std.specs.Option.{option_map}
use Rattle.std.specs.Ordering.{is_lt}
use Rattle.std.proofs.lemmas.Bool.{cases_lt}
use Rattle.std.proofs.lemmas.Bool.Decides.{nat_tests}
use Rattle.std.proofs.lemmas.List.{get_or_append_left, get_or-append_right}
use Rattle.std.proofs.lemmas.Option.{slice_get-get_or}
use Rattle.beam_values.specs.Cells.{pane_cmp}
use Rattle.beam_values.specs.Marks.{marks_at}
use Rattle.beam_values.specs.declared.cell.Pane.{Pane}
use Rattle.beam_values.specs.declared.marks.CommitMarks.{CommitMarks}
use Rattle.beam_values.specs.declared.marks.StageMarks.{StageMarks}
use Rattle.beam_model.specs.Panes.{mark_after}
use Rattle.group_cells.specs.Commits.{NeverFalls, as_commit}

get_within : {X : Type 0} (xs ys zs : List X) (i : ℕ) → i < length xs → slice_get (xs ++ ys) i ≡ slice_get (xs ++ zs) i
get_within [] ys zs i within = absurd (omega arith)
get_within (x ∷ xs) ys zs zero within = refl
get_within (x ∷ xs) ys zs (suc i) within = get_within xs ys zs i (omega arith)

get_next : {X : Type 0} (xs : List X) (y : X) (ys : List X) → slice_get (xs ++ y ∷ ys) (length xs) ≡ Some y
get_next [] y ys = refl
get_next (x ∷ xs) y ys = get_next xs y ys

get_second : {X : Type 0} (xs : List X) (y z : X) (zs : List X) → slice_get (xs ++ y ∷ z ∷ zs) (suc (length xs)) ≡ Some z
get_second [] y z zs = refl
get_second (x ∷ xs) y z zs = get_second xs y z zs

module _ (earlier : List CommitMarks) (before after : List StageMarks) (node : ℕ) where
  abbrev pub until : List CommitMarks
  until = earlier ++ as_commit before ∷ []

  abbrev pub longer : List CommitMarks
  longer = earlier ++ as_commit before ∷ as_commit after ∷ []

  abbrev read : Option CommitMarks → ℤ
  read found = (marks_at (unwrap_or (option_map (λ (commit : CommitMarks). commit.marks) found) []) node).mark_in

  same_at : (i : ℕ) → i ≤ length earlier → slice_get longer i ≡ slice_get until i
  same_at i within = elim (cases_lt i (length earlier)) [
    | inl inside ↦ get_within earlier (as_commit before ∷ as_commit after ∷ []) (as_commit before ∷ []) i inside
    | inr last ↦
        let is : i ≡ length earlier = omega arith in
        subst (λ (n : ℕ). slice_get longer n ≡ slice_get until n) (sym is)
        (get_next earlier (as_commit before) (as_commit after ∷ []) ∙ sym (get_next earlier (as_commit before) []))
  ]

  pub marks_stay : (i : ℕ) → i ≤ length earlier → mark_after longer node i ≡ mark_after until node i
  marks_stay i within = ap read (same_at i within)

  pub mark_before : mark_after until node (length earlier) ≡ (marks_at before node).mark_in
  mark_before = ap read (get_next earlier (as_commit before) [])

  pub mark_then : mark_after longer node (suc (length earlier)) ≡ (marks_at after node).mark_in
  mark_then = ap read (get_second earlier (as_commit before) (as_commit after) [])

  pub size_until : length until ≡ suc (length earlier)
  size_until = omega (arith, length-append earlier (as_commit before ∷ []))

  pub size_longer : length longer ≡ suc (suc (length earlier))
  size_longer = omega (arith, length-append earlier (as_commit before ∷ as_commit after ∷ []))

  pub marks_rise : NeverFalls until → (d : ℕ) → suc d ≤ length earlier → mark_after until node d ≤ℤ mark_after until node (suc d)
  marks_rise never d within =
      let old = get_or until d (as_commit before) in
      let new = get_or until (suc d) (as_commit before) in
      let at_old = slice_get-get_or until d (as_commit before) (omega (arith, size_until)) in
      let at_new = slice_get-get_or until (suc d) (as_commit before) (omega (arith, size_until)) in
      subst (λ (found : Option CommitMarks). read found ≤ℤ mark_after until node (suc d)) (sym at_old)
      (subst (λ (found : Option CommitMarks). (marks_at old.marks node).mark_in ≤ℤ read found) (sym at_new)
      (never.each d old new at_old at_new node).0)

-- ---- lists in order

pub sorted_append : {X : Type 0} (lt : X → X → Bool) (P Q : X → Type 0) (xs ys : List X) → IsSortedBy lt xs → IsSortedBy lt ys → All P xs → All Q ys
    → ((x y : X) → P x → Q y → lt y x ≡ false) → IsSortedBy lt (xs ++ ys)
sorted_append lt P Q xs ys first second all others across k d from within = by (cases_lt (k + 1) (length xs)) (cases_lt k (length xs))
  where
    in_front : (i : ℕ) → i < length xs → get_or (xs ++ ys) i d ≡ get_or xs i d
    in_front i inside = get_or_append_left xs ys d i inside

    behind : (i : ℕ) → length xs ≤ i → get_or (xs ++ ys) i d ≡ get_or ys (i - length xs) d
    behind i past = get_or-append_right xs ys (length xs) i d refl past

    sizes : length (xs ++ ys) ≡ length xs + length ys
    sizes = length-append xs ys

    by : (k + 1 < length xs) ⊎ (length xs ≤ k + 1) → (k < length xs) ⊎ (length xs ≤ k) → lt (get_or (xs ++ ys) (k + 1) d) (get_or (xs ++ ys) k d) ≡ false
    by (inl inside) any = ap (λ x. lt x (get_or (xs ++ ys) k d)) (in_front (k + 1) inside) ∙ ap (λ x. lt (get_or xs (k + 1) d) x) (in_front k (omega arith)) ∙ first k d from inside
    by (inr past) (inl inside) =
        ap (λ x. lt x (get_or (xs ++ ys) k d)) (behind (k + 1) past) ∙ ap (λ x. lt (get_or ys (k + 1 - length xs) d) x) (in_front k inside)
        ∙ across (get_or xs k d) (get_or ys (k + 1 - length xs) d) (all k d inside) (others (k + 1 - length xs) d (omega (arith, sizes)))
    by (inr past) (inr later) =
        let next : k + 1 - length xs ≡ (k - length xs) + 1 = omega arith in
        ap (λ x. lt x (get_or (xs ++ ys) k d)) (behind (k + 1) past ∙ ap (λ i. get_or ys i d) next) ∙ ap (λ x. lt (get_or ys ((k - length xs) + 1) d) x) (behind k later)
        ∙ second (k - length xs) d (omega arith) (omega (arith, sizes))

-- a pane of a later commit isn't less
later_not_less : (x y : Pane) → x.commit < y.commit → is_lt (pane_cmp y x) ≡ false
later_not_less x y earlier = grind (arith, nat_tests)

-- panes of a commit stand behind those of earlier ones
pub panes_ordered : (c : ℕ) (panes newest : List Pane) → IsSorted pane_cmp panes → IsSorted pane_cmp newest → All (λ pane. pane.commit < c) panes → All (λ pane. pane.commit ≡ c) newest
    → IsSorted pane_cmp (panes ++ newest)
panes_ordered c panes newest first second all others =
    sorted_append (λ x y. is_lt (pane_cmp x y)) (λ pane. pane.commit < c) (λ pane. pane.commit ≡ c) panes newest first second all others
    (λ x y p q. later_not_less x y (omega (arith, p, q)))
