-- The pane of a cell holds the parts of its entries.
use Rattle.std.proofs.Common.{◌≡◌, ℕ, List, [], ◌∷◌, map, refl, sym, ap, subst, ◌∙◌}
use Rattle.std.specs.List.{filter}
use Rattle.std.specs.List.Sorted.{IsSorted}
use Rattle.std.specs.Cmp.{IsTotalOrder}
use Rattle.std.proofs.lemmas.Cmp.{nat_list_cmp_total, on_total}
use Rattle.std.proofs.lemmas.Slice.Eq.{bytes_eq-Decides}
use Rattle.beam_values.specs.Bags.{IsSameBag}
use Rattle.beam_values.specs.Grouping.{key_of, part_of, pane_as}
use Rattle.beam_values.specs.Intervals.{Interval}
use Rattle.beam_values.specs.Orders.{value_cmp}
use Rattle.beam_values.specs.Spelling.{spelling}
use Rattle.beam_values.specs.declared.cell.Entry.{Entry}
use Rattle.beam_values.specs.declared.cell.Pane.{Pane}
use Rattle.beam_values.specs.declared.element.PaneTag.{PaneTag}
use Rattle.beam_values.specs.declared.element.Timing.{Timing}
use Rattle.beam_values.specs.declared.plan.Mode.{Mode}
use Rattle.beam_values.specs.declared.plan.Mode.TheVariants.{Discarding, Accumulating}
use Rattle.beam_values.specs.declared.value.Value.{Value}
use Rattle.beam_values.specs.declared.value.Value.TheViews.{out-roll-Value}
use Rattle.beam_model.specs.Panes.{taken_entry, IsPaneOf}
use Rattle.group_cells.specs.Cells.{entries_held}
use Rattle.group_cells.specs.Firings.{is_held}

-- the entries that a cell still holds are those that pass `is_held`
pub held_filtered : (mode : Mode) (entries : List Entry) → filter (is_held mode) entries ≡ entries_held mode entries
held_filtered Discarding entries = refl
held_filtered Accumulating [] = refl
held_filtered Accumulating (e ∷ es) = ap (λ l. e ∷ l) (held_filtered Accumulating es)

pub value_total : IsTotalOrder value_cmp
value_total = on_total spelling nat_list_cmp_total

pub parts_of_taken : (node : ℕ) (entries : List Entry) → map (λ entry. part_of entry.element) entries ≡ map (λ t. part_of t.element) (map (taken_entry node) entries)
parts_of_taken node [] = refl
parts_of_taken node (e ∷ es) = ap (λ l. part_of e.element ∷ l) (parts_of_taken node es)

pub pane_key : (tag : PaneTag) (key : Value) (w : Interval) (parts : List Value) → key_of (pane_as tag key w parts) ≡ key
pane_key tag key w parts = simp out-roll-Value refl

pub is_pane : (node : ℕ) (key : Value) (c : ℕ) (w : Interval) (timing : Timing) (index : ℕ) (entries : List Entry) (pane : Pane) (parts : List Value)
    → pane.element ≡ pane_as (record { timing = timing; index = index }) key w parts → pane.node ≡ node → pane.commit ≡ c
    → IsSorted value_cmp parts → IsSameBag parts (map (λ entry. part_of entry.element) entries)
    → IsPaneOf node key c w timing index (map (taken_entry node) entries) pane
is_pane node key c w timing index entries pane parts made at of_commit up same =
    let keyed : key_of pane.element ≡ key = ap key_of made ∙ pane_key (record { timing = timing; index = index }) key w parts in
    record {
      parts = parts;
      holds = made ∙ ap (λ k. pane_as (record { timing = timing; index = index }) k w parts) (sym keyed);
      keyed = (bytes_eq-Decides (spelling (key_of pane.element)) (spelling key)).1 (ap spelling keyed);
      ascending = up;
      all = subst (λ (l : List Value). IsSameBag parts l) (parts_of_taken node entries) same;
      here = at;
      commit = of_commit;
    }
