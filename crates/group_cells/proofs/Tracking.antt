-- The cells of a commit keep what they are found and due by.
use Rattle.std.proofs.Common.{◌≡◌, ℕ, ◌+◌, ◌<◌, ◌≤◌, ◌^◌, List, [], ◌∷◌, ◌++◌, length, map, Some, sym, ap, subst, ◌∙◌, arith, length-append}
use Rattle.std.proofs.Math.ListN.{length-set}
use Rattle.std.specs.Prelude.{slice_get, slice_set}
use Rattle.std.proofs.lemmas.List.{length-map}
use Rattle.beam_values.specs.Intervals.{Interval}
use Rattle.beam_values.specs.declared.cell.Cell.{Cell}
use Rattle.beam_values.specs.declared.plan.Plan.{Plan}
use Rattle.cell_index.specs.Indexes.{IsIndexOf}
use Rattle.cell_index.specs.declared.index.CellIndex.{CellIndex}
use Rattle.group_cells.specs.Cells.{unseen_in}
use Rattle.group_cells.specs.Drafts.{IsTracked}
use Rattle.group_cells.specs.Due.{AreMoments, IsDueOf, KeepsMoments}
use Rattle.group_cells.specs.Handing.{given_way, with_entries, HasGivenWay}
use Rattle.group_cells.specs.Undoing.{undone_all}
use Rattle.group_cells.specs.declared.groups.draft.Change.TheVariants.{Opened}
use Rattle.group_cells.specs.declared.groups.draft.Tracked.{Tracked}
use Rattle.group_cells.proofs.DueKeys.{counts_pushed, counts_set, set_mapped}
use Rattle.group_cells.proofs.DueSteps.{unseen_both}
use Rattle.group_cells.proofs.GivenWay.{given_index}
use Rattle.group_cells.proofs.Taking.{index_replaced}
use Rattle.group_cells.proofs.Undoing.{open_step}

pub counted_there : (plan : Plan) (tracked : Tracked) (place : ℕ) → IsTracked plan tracked → place < length tracked.cells.items → place < length tracked.due.unseen.items
counted_there plan tracked place h within =
    subst (λ (n : ℕ). place < n) (sym (ap length h.due.counts ∙ length-map tracked.cells.items (λ (cell : Cell). unseen_in cell.entries))) within

-- the cells stayed as they were
pub same_tracked : (plan : Plan) (old new : Tracked) → IsDueOf plan old.due old.cells.items → AreMoments plan old.due (undone_all old.changes.items old.cells.items)
    → new.cells.items ≡ old.cells.items → IsIndexOf new.index old.cells.items → KeepsMoments old.due new.due → new.due.unseen.items ≡ old.due.unseen.items
    → undone_all new.changes.items new.cells.items ≡ undone_all old.changes.items old.cells.items → IsTracked plan new
same_tracked plan old new due begun same index keeps counts undone = record {
  index = subst (IsIndexOf new.index) (sym same) index;
  due = record {
    counts = counts ∙ due.counts ∙ ap (map (λ (cell : Cell). unseen_in cell.entries)) (sym same);
    moments = subst (AreMoments plan new.due) (sym same) (keeps plan old.cells.items due.moments);
    small = subst (λ (l : List Cell). length l ≤ 2 ^ 32) (sym same) due.small;
  };
  begun = subst (AreMoments plan new.due) (sym undone) (keeps plan (undone_all old.changes.items old.cells.items) begun);
}

pub kept_tracked : (plan : Plan) (old new : Tracked) → IsTracked plan old → new.cells.items ≡ old.cells.items
    → ((cells : List Cell) → IsIndexOf old.index cells → IsIndexOf new.index cells) → KeepsMoments old.due new.due → new.due.unseen.items ≡ old.due.unseen.items
    → undone_all new.changes.items new.cells.items ≡ undone_all old.changes.items old.cells.items → IsTracked plan new
kept_tracked plan old new h same index keeps counts undone = same_tracked plan old new h.due h.begun same (index old.cells.items h.index) keeps counts undone

-- a cell became another of its node, key and window
pub set_tracked : (plan : Plan) (old new : Tracked) (place : ℕ) (before cell : Cell) (count : ℕ) → IsTracked plan old → slice_get old.cells.items place ≡ Some before
    → (cell.node ≡ before.node) × (cell.key ≡ before.key) × (cell.span ≡ before.span) → new.cells.items ≡ slice_set old.cells.items place cell → new.index ≡ old.index
    → AreMoments plan new.due (slice_set old.cells.items place cell) → KeepsMoments old.due new.due
    → new.due.unseen.items ≡ slice_set old.due.unseen.items place count → count ≡ unseen_in cell.entries
    → undone_all new.changes.items new.cells.items ≡ undone_all old.changes.items old.cells.items → IsTracked plan new
set_tracked plan old new place before cell count h found named is index moments keeps counts counted undone = record {
  index = subst (λ (i : CellIndex). IsIndexOf i new.cells.items) (sym index) (index_replaced old.index old.cells.items new.cells.items place before cell found named is h.index);
  due = record {
    counts = counts_set old.due old.cells.items place cell count new.due.unseen.items h.due.counts counted counts ∙ ap (map (λ (c : Cell). unseen_in c.entries)) (sym is);
    moments = subst (AreMoments plan new.due) (sym is) moments;
    small = subst (λ (l : List Cell). length l ≤ 2 ^ 32) (sym is) (subst (λ (n : ℕ). n ≤ 2 ^ 32) (sym (length-set old.cells.items place cell)) h.due.small);
  };
  begun = subst (AreMoments plan new.due) (sym undone) (keeps plan (undone_all old.changes.items old.cells.items) h.begun);
}

-- a cell gave its entries to the last one
pub handed_tracked : (plan : Plan) (old new : Tracked) (session : Interval) (place last_ : ℕ) (cell taker : Cell) (count : ℕ) → IsTracked plan old
    → place < last_ → last_ + 1 ≡ length old.cells.items → slice_get old.cells.items place ≡ Some cell → slice_get old.cells.items last_ ≡ Some taker
    → HasGivenWay session place last_ old.cells.items new.cells.items → new.index ≡ old.index
    → AreMoments plan new.due (slice_set (slice_set old.cells.items place (given_way session cell)) last_ (with_entries cell.entries taker)) → KeepsMoments old.due new.due
    → new.due.unseen.items ≡ slice_set (slice_set old.due.unseen.items place 0) last_ count → count ≡ unseen_in cell.entries + unseen_in taker.entries
    → undone_all new.changes.items new.cells.items ≡ undone_all old.changes.items old.cells.items → IsTracked plan new
handed_tracked plan old new session place last_ cell taker count h before ends found there gone_ index moments keeps counts counted undone =
    let left : Cell = given_way session cell in
    let full : Cell = with_entries cell.entries taker in
    let is : new.cells.items ≡ slice_set (slice_set old.cells.items place left) last_ full = gone_ cell taker found there in
    let long : length new.cells.items ≡ length old.cells.items = ap length is ∙ length-set (slice_set old.cells.items place left) last_ full ∙ length-set old.cells.items place left in
    let full_count : count ≡ unseen_in full.entries = counted ∙ sym (unseen_both taker.entries cell.entries) in
    record {
      index = subst (λ (i : CellIndex). IsIndexOf i new.cells.items) (sym index) (given_index session old.cells.items place last_ before ends old.index new.cells.items gone_ h.index);
      due = record {
        counts =
            counts
            ∙ ap (λ (l : List ℕ). slice_set (slice_set l place 0) last_ count) h.due.counts
            ∙ ap (λ (l : List ℕ). slice_set l last_ count) (set_mapped (λ c. unseen_in c.entries) old.cells.items place left)
            ∙ ap (λ (n : ℕ). slice_set (map (λ (c : Cell). unseen_in c.entries) (slice_set old.cells.items place left)) last_ n) full_count
            ∙ set_mapped (λ c. unseen_in c.entries) (slice_set old.cells.items place left) last_ full
            ∙ ap (map (λ (c : Cell). unseen_in c.entries)) (sym is);
        moments = subst (AreMoments plan new.due) (sym is) moments;
        small = subst (λ (n : ℕ). n ≤ 2 ^ 32) (sym long) h.due.small;
      };
      begun = subst (AreMoments plan new.due) (sym undone) (keeps plan (undone_all old.changes.items old.cells.items) h.begun);
    }

-- a cell was put behind the others
pub opened_undone : (old new : Tracked) (cell : Cell) → new.cells.items ≡ old.cells.items ++ cell ∷ [] → new.changes.items ≡ old.changes.items ++ Opened ∷ []
    → undone_all new.changes.items new.cells.items ≡ undone_all old.changes.items old.cells.items
opened_undone old new cell is changes =
    ap (λ cs. undone_all cs new.cells.items) changes ∙ ap (undone_all (old.changes.items ++ Opened ∷ [])) is ∙ open_step old.changes.items old.cells.items cell

pub opened_tracked : (plan : Plan) (old new : Tracked) (cell : Cell) (count : ℕ) → IsDueOf plan old.due old.cells.items
    → AreMoments plan old.due (undone_all old.changes.items old.cells.items) → length old.cells.items < 2 ^ 32
    → new.cells.items ≡ old.cells.items ++ cell ∷ [] → IsIndexOf new.index (old.cells.items ++ cell ∷ [])
    → AreMoments plan new.due (old.cells.items ++ cell ∷ []) → KeepsMoments old.due new.due
    → new.due.unseen.items ≡ old.due.unseen.items ++ count ∷ [] → count ≡ unseen_in cell.entries
    → new.changes.items ≡ old.changes.items ++ Opened ∷ [] → IsTracked plan new
opened_tracked plan old new cell count due begun few is index moments keeps counts counted changes =
    let long : length (old.cells.items ++ cell ∷ []) ≡ length old.cells.items + 1 = length-append old.cells.items (cell ∷ []) in
    let small : length (old.cells.items ++ cell ∷ []) ≤ 2 ^ 32 = omega (arith, long, few) in
    record {
      index = subst (IsIndexOf new.index) (sym is) index;
      due = record {
        counts = counts_pushed old.due old.cells.items cell count new.due.unseen.items due.counts counted counts ∙ ap (map (λ (c : Cell). unseen_in c.entries)) (sym is);
        moments = subst (AreMoments plan new.due) (sym is) moments;
        small = subst (λ (l : List Cell). length l ≤ 2 ^ 32) (sym is) small;
      };
      begun = subst (AreMoments plan new.due) (sym (opened_undone old new cell is changes)) (keeps plan (undone_all old.changes.items old.cells.items) begun);
    }
