-- The least holds after a job, where other cells hold its node back further than its own cell.
use Rattle.std.proofs.Common.{◌≡◌, ℕ, zero, suc, ℤ, List, [], ◌∷◌, length, Option, Some, ap, subst, sym, ◌∙◌, ◌⊎◌, inl, inr, arith}
use Rattle.std.specs.Prelude.{◌<ℤ◌, slice_get, slice_set}
use Rattle.std.specs.Int.{int_min}
use Rattle.std.proofs.lemmas.Bool.{cases_eq}
use Rattle.std.proofs.lemmas.Int.{ints, clamps}
use Rattle.std.proofs.lemmas.Option.{same_Some}
use Rattle.beam_values.specs.declared.marks.StageMarks.{StageMarks}
use Rattle.beam_model.specs.Holds.{least_hold}
use Rattle.watermarks.specs.Holds.{hold_at}
use Rattle.stateful_core.specs.Cells.{KeyCell, cell_holds, key_holds}
use Rattle.stateful_core.specs.Least.{AreLeast}
use Rattle.stateful_core.specs.Placing.{Done, finish, set_done, with_done}
use Rattle.stateful_core.proofs.CellHolds.{held_elsewhere}
use Rattle.stateful_core.proofs.LeastOf.{other_least, own_least}
use Rattle.stateful_core.proofs.TreeHolds.{both_least}

flipped : (a b : ℤ) → int_min a b ≡ int_min b a
flipped a b = omega (arith, ints, clamps)

joined : (a b c : ℤ) → int_min a (int_min b c) ≡ int_min (int_min a b) c
joined a b c = omega (arith, ints, clamps)

-- the least of a node, before and after: that of the other cells and of the one
record IsReplaced (cells : List KeyCell) (at : ℕ) (cell new : KeyCell) (n : ℕ) : Type 0 where
  rest : ℤ
  was : least_hold (key_holds cells) n ≡ int_min rest (least_hold (cell_holds cell) n)
  is : least_hold (key_holds (slice_set cells at new)) n ≡ int_min rest (least_hold (cell_holds new) n)

replaced : (cells : List KeyCell) (at : ℕ) (cell new : KeyCell) (n : ℕ) → slice_get cells at ≡ Some cell → IsReplaced cells at cell new n
replaced [] at cell new n e = absurd (cc)
replaced (x ∷ cells) zero cell new n e = record {
  rest = least_hold (key_holds cells) n;
  was = both_least (cell_holds x) (key_holds cells) n
      ∙ flipped (least_hold (cell_holds x) n) (least_hold (key_holds cells) n)
      ∙ ap (λ (c : KeyCell). int_min (least_hold (key_holds cells) n) (least_hold (cell_holds c) n)) (same_Some x cell e);
  is = both_least (cell_holds new) (key_holds cells) n ∙ flipped (least_hold (cell_holds new) n) (least_hold (key_holds cells) n);
}
replaced (x ∷ cells) (suc at) cell new n e =
    let r = replaced cells at cell new n e in
    let first = least_hold (cell_holds x) n in
    record {
      rest = int_min first r.rest;
      was = both_least (cell_holds x) (key_holds cells) n ∙ ap (int_min first) r.was ∙ joined first r.rest (least_hold (cell_holds cell) n);
      is = both_least (cell_holds x) (key_holds (slice_set cells at new)) n ∙ ap (int_min first) r.is ∙ joined first r.rest (least_hold (cell_holds new) n);
    }

below_own : (all rest own new after : ℤ) → all ≡ int_min rest own → all <ℤ own → after ≡ int_min rest new → int_min all new ≡ after
below_own all rest own new after was less is = omega (arith, ints, clamps, was, less, is)

pub beside_held : (before : List StageMarks) (done : Done) (cells : List KeyCell) (cell : KeyCell) (old new : List ℤ) (hold : ℤ) → slice_get cells done.cell ≡ Some cell
    → AreLeast old (key_holds cells) → hold_at old cell.log.node <ℤ least_hold (cell_holds cell) cell.log.node
    → hold ≡ least_hold (cell_holds (with_done before done cell)) cell.log.node → length new ≡ length old
    → AreLeast new (record { node = cell.log.node; mark = hold } ∷ key_holds cells) → AreLeast new (key_holds (finish before (Some done) cells))
beside_held before done cells cell old new hold there was below is sized h n less =
    h n less ∙ by (cases_eq cell.log.node n) ∙ ap (λ l. least_hold (key_holds l) n) (sym (ap (λ (o : Option KeyCell). set_done before done o cells) there))
  where
    after : KeyCell
    after = with_done before done cell

    by : (cell.log.node ≡ n) ⊎ (cell.log.node ≡ n → ⊥)
        → least_hold (record { node = cell.log.node; mark = hold } ∷ key_holds cells) n ≡ least_hold (key_holds (slice_set cells done.cell after)) n
    by (inl same) =
        let r = replaced cells done.cell cell after n there in
        let own = least_hold (cell_holds cell) n in
        let less_own : least_hold (key_holds cells) n <ℤ least_hold (cell_holds cell) n =
        subst (λ (all : ℤ). all <ℤ least_hold (cell_holds cell) n) (was n (omega (arith, less, sized)))
        (subst (λ (k : ℕ). hold_at old k <ℤ least_hold (cell_holds cell) k) same below) in
        own_least cell.log.node hold (key_holds cells) n same
        ∙ ap (int_min (least_hold (key_holds cells) n)) (is ∙ ap (least_hold (cell_holds after)) same)
        ∙ below_own (least_hold (key_holds cells) n) r.rest own (least_hold (cell_holds after) n) (least_hold (key_holds (slice_set cells done.cell after)) n) r.was less_own r.is
    by (inr differ) =
        let r = replaced cells done.cell cell after n there in
        other_least cell.log.node hold (key_holds cells) n differ
        ∙ r.was ∙ ap (int_min r.rest) (held_elsewhere cell n differ ∙ sym (held_elsewhere after n differ)) ∙ sym r.is
