-- Where no position of an item is poison, no range is.
use Rattle.std.proofs.Common.{◌≡◌, inl, inr, ℕ, zero, suc, ◌-◌, ◌≤◌, ◌||◌, Bool, true, false, cond, List, [], refl, sym, ap, ap₂, subst, ◌∙◌, arith}
use Rattle.std.specs.Prelude.{Option, Some, None, nat_lt}
use Rattle.std.specs.List.{flat_map, list_any}
use Rattle.std.proofs.lemmas.Bool.{cases_lt, false≢true}
use Rattle.std.proofs.lemmas.Bool.Decides.{nat_tests}
use Rattle.std.proofs.lemmas.List.Folds.{list_any-append}
use Rattle.beam_values.specs.Lines.{offsets}
use Rattle.beam_values.specs.declared.file_text.FileText.{FileText}
use Rattle.beam_values.specs.declared.piece.Piece.{Piece}
use Rattle.beam_values.specs.declared.plan.Plan.{Plan}
use Rattle.beam_model.specs.Chains.{Output}
use Rattle.beam_model.specs.Coverings.{item_at, spread_of}
use Rattle.beam_model.specs.Positions.{SourceItem, emission_within, items, len_of, nothing}
use Rattle.beam_model.specs.Spread.{emission_outputs, is_left_out, is_poison, outputs_at}
use Rattle.beam_model.proofs.DeadPositions.{found_is}
use Rattle.book_core.specs.Book.{SeenBook}
use Rattle.book_core.specs.Work.{Surroundings, items_told}
use Rattle.book_core.specs.declared.live.Live.TheVariants as live
use Rattle.ended_runs.specs.DeadLetters.{HasNoPoisonPosition}
use Rattle.ended_runs.proofs.TakesUnpoisoned.{WorksNoPoisonBeside}
use Rattle.ended_runs.proofs.Unpoisoned.{WorksNoPoison}

clean_along : (at : ℕ → List Output) → ((p : ℕ) → list_any is_poison (at p) ≡ false) → (from n : ℕ) → list_any is_poison (flat_map at (offsets from n)) ≡ false
unfolding offsets
clean_along at none from zero = refl
clean_along at none from (suc n) =
    list_any-append is_poison (at from) (flat_map at (offsets (suc from) n)) ∙ ap₂ (λ s t. s || t) (none from) (clean_along at none (suc from) n)

-- an item brings nothing from its end on
nothing_behind : (plan : Plan) (item : SourceItem) (p : ℕ) → len_of item ≤ p → list_any is_poison (outputs_at plan item p) ≡ false
nothing_behind plan item p behind =
    ap (λ (t : Bool). list_any is_poison (cond (is_left_out item p) [] (emission_outputs plan item.node (cond t (emission_within item.work item.args item.file p) nothing)))) (not_below p (len_of item) behind)
    ∙ by (is_left_out item p)
  where
    not_below : (a c : ℕ) → c ≤ a → nat_lt a c ≡ false
    not_below a c h = grind (arith, nat_tests)

    by : (t : Bool) → list_any is_poison (cond t [] (emission_outputs plan item.node nothing)) ≡ false
    by true = refl
    by false = refl

module _ (told : List FileText) (plan : Plan) (none : HasNoPoisonPosition told plan) where
  position_clean : (node number : ℕ) (item : SourceItem) → item_at (items told plan) node number ≡ Some item → (p : ℕ) → list_any is_poison (outputs_at plan item p) ≡ false
  position_clean node number item found p = elim (cases_lt p (len_of item)) [
    | inl inside ↦
        let same = found_is (items told plan) node number item found in
        none item p (ap₂ (item_at (items told plan)) same.0 same.1 ∙ found, inside)
    | inr behind ↦ nothing_behind plan item p behind
  ]

  piece_clean : (piece : Piece) (found : Option SourceItem) → item_at (items told plan) piece.node piece.item ≡ found → list_any is_poison (spread_of plan piece.range found) ≡ false
  piece_clean piece None at = refl
  piece_clean piece (Some item) at =
      clean_along (outputs_at plan item) (position_clean piece.node piece.item item at) piece.range.from (piece.range.to - piece.range.from)

-- what a slot works is no poison then
pub works_none : (known : Surroundings) (told : List FileText) (tells : known.told ≡ Some told) (b : SeenBook) → HasNoPoisonPosition told b.plan → WorksNoPoisonBeside b → WorksNoPoison known b
works_none known told tells b none beside slot (live.Span piece attempted) works poison =
    false≢true (sym (piece_clean told b.plan none piece (item_at (items told b.plan) piece.node piece.item) refl)
    ∙ subst (λ (t : Option (List FileText)). list_any is_poison (spread_of b.plan piece.range (item_at (items_told t b.plan) piece.node piece.item)) ≡ true) tells poison)
works_none known told tells b none beside slot (live.Batch batch) works poison = beside slot (live.Batch batch) works poison
works_none known told tells b none beside slot (live.Key turn) works poison = beside slot (live.Key turn) works poison
