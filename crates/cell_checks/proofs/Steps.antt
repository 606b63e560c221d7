-- A step over the cells that are listed: those of one Group and key are tested, and left behind.
use Rattle.std.proofs.Common.{◌≡◌, ℕ, ◌+◌, ◌<◌, true, false, List, ◌∷◌, length, get_or, take, drop, sym, ap, subst, ◌∙◌, arith}
use Rattle.std.specs.Borrow.{Bor}
use Rattle.std.specs.List.{All}
use Rattle.std.specs.List.Sorted.{IsSorted}
use Rattle.std.specs.Ordering.{on}
use Rattle.std.proofs.lemmas.List.{drop-drop, drop-map, drop_more, length-drop, take-map}
use Rattle.beam_values.specs.Marks.{marks_at}
use Rattle.beam_values.specs.Nodes.{is_group}
use Rattle.beam_values.specs.declared.cell.Cell.{Cell}
use Rattle.beam_values.specs.declared.marks.StageMarks.{StageMarks}
use Rattle.beam_values.specs.declared.plan.Plan.{Plan}
use Rattle.beam_model.specs.Panes.{rules_of}
use Rattle.cell_checks.specs.Listing.{AreSaneGroups, IsSaneGroup, cells_in, listing_cmp, window_cmp}
use Rattle.cell_checks.proofs.Runs.{all_sane, first_sane, is_with, left_sane, own_windows, rest_sorted}

module _ (listed left others : List (Bor Cell)) (first : Bor Cell) (at : ℕ) (left_is : left ≡ drop at listed) (others_is : others ≡ drop 1 left)
    (within : at < length listed) (first_is : first ≡ get_or left 0 first) (up : IsSorted listing_cmp (cells_in listed)) where
  left_cells : cells_in left ≡ drop at (cells_in listed)
  left_cells = ap cells_in left_is ∙ sym (drop-map (λ (cell : Bor Cell). cell.now) at listed)

  shape : cells_in left ≡ first.now ∷ cells_in others
  shape =
      let some : 0 < length left = omega (arith, ap length left_is, length-drop at listed) in
      ap cells_in (drop_more left 0 first some ∙ (λ i. sym first_is i ∷ sym others_is i))

  left_sorted : IsSorted listing_cmp (cells_in left)
  left_sorted = subst (IsSorted listing_cmp) (sym left_cells) (rest_sorted (cells_in listed) up at)

  pub count_sorted : IsSorted listing_cmp (first.now ∷ cells_in others)
  count_sorted = subst (IsSorted listing_cmp) shape left_sorted

  module _ (plan : Plan) (marks : List StageMarks) (own : List (Bor Cell)) (count : ℕ) (own_is : own ≡ take (count + 1) left)
      (same : All (λ cell. is_with first.now cell ≡ true) (take count (cells_in others))) (rest : All (λ cell. is_with first.now cell ≡ false) (drop count (cells_in others))) where
    own_cells : cells_in own ≡ take (count + 1) (cells_in left)
    own_cells = ap cells_in own_is ∙ sym (take-map (λ (cell : Bor Cell). cell.now) (count + 1) left)

    next_cells : drop (count + 1) (cells_in left) ≡ drop (at + (count + 1)) (cells_in listed)
    next_cells = ap (drop (count + 1)) left_cells ∙ drop-drop (count + 1) at (cells_in listed)

    pub own_in_order : IsSorted (on (λ (cell : Cell). cell.span) window_cmp) (cells_in own)
    own_in_order =
        subst (IsSorted (on (λ (cell : Cell). cell.span) window_cmp)) (sym own_cells)
        (own_windows plan marks (cells_in left) first.now (cells_in others) count shape same rest left_sorted)

    abbrev pub IsOwnSane : Type 0
    IsOwnSane = is_group plan first.now.node ≡ true → IsSaneGroup (rules_of plan first.now.node) (marks_at marks first.now.node).mark_in (cells_in own)

    pub own_from_all : AreSaneGroups plan marks (drop at (cells_in listed)) → IsOwnSane
    own_from_all sane group =
        subst (IsSaneGroup (rules_of plan first.now.node) (marks_at marks first.now.node).mark_in) (sym own_cells)
        (first_sane plan marks (cells_in left) first.now (cells_in others) count shape same rest (subst (AreSaneGroups plan marks) (sym left_cells) sane) group)

    pub next_from_all : AreSaneGroups plan marks (drop at (cells_in listed)) → AreSaneGroups plan marks (drop (at + (count + 1)) (cells_in listed))
    next_from_all sane =
        subst (AreSaneGroups plan marks) next_cells
        (left_sane plan marks (cells_in left) first.now (cells_in others) count shape same rest (subst (AreSaneGroups plan marks) (sym left_cells) sane))

    pub all_from_both : IsOwnSane → AreSaneGroups plan marks (drop (at + (count + 1)) (cells_in listed)) → AreSaneGroups plan marks (drop at (cells_in listed))
    all_from_both here next =
        subst (AreSaneGroups plan marks) left_cells
        (all_sane plan marks (cells_in left) first.now (cells_in others) count shape same rest
        (λ group. subst (IsSaneGroup (rules_of plan first.now.node) (marks_at marks first.now.node).mark_in) own_cells (here group))
        (subst (AreSaneGroups plan marks) (sym next_cells) next))
