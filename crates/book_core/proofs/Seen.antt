-- What a receipt has seen is no lower than what its piece had.
use Rattle.std.proofs.Common.{ℕ, ◌-◌, ℤ, Bool, true, false, List, [], ◌∷◌, sym, subst, arith}
use Rattle.std.specs.Prelude.{Option, Some, None, ◌≤ℤ◌, fold}
use Rattle.std.proofs.lemmas.Int.{ints}
use Rattle.beam_values.specs.Lines.{offsets}
use Rattle.beam_values.specs.declared.file_text.FileText.{FileText}
use Rattle.beam_values.specs.declared.piece.Piece.{Piece}
use Rattle.beam_values.specs.declared.plan.Estimator.{Estimator}
use Rattle.beam_values.specs.declared.plan.Plan.{Plan}
use Rattle.beam_model.specs.Coverings.{item_at}
use Rattle.beam_model.specs.Estimators.{emission_at, latest_time, seen_with}
use Rattle.beam_model.specs.Holds.{estimator_of}
use Rattle.beam_model.specs.Positions.{Emission, Emits, Poison, SourceItem}
use Rattle.bundle_commit.specs.declared.job.Receipt.{Receipt}
use Rattle.watermarks.proofs.Rising.{seen_rises}
use Rattle.book_core.specs.Work.{seen_over, items_told, IsWorkOnItem, IsWorkOnRange}

pub with_rises : (e : Estimator) (seen : ℤ) (emission : Emission) → seen ≤ℤ seen_with e seen emission
with_rises e seen (Emits values declared) = seen_rises e seen (latest_time values) declared
with_rises e seen Poison = omega (arith, ints)

further : (a b c : ℤ) → a ≤ℤ b → b ≤ℤ c → a ≤ℤ c
further a b c p q = omega (arith, ints)

fold_rises : (e : Estimator) (item : SourceItem) (ps : List ℕ) (seen : ℤ) → seen ≤ℤ fold (λ before p. seen_with e before (emission_at item p)) seen ps
fold_rises e item [] seen = omega (arith, ints)
fold_rises e item (p ∷ ps) seen =
    further seen (seen_with e seen (emission_at item p)) _ (with_rises e seen (emission_at item p)) (fold_rises e item ps (seen_with e seen (emission_at item p)))

pub over_rises : (e : Estimator) (item : SourceItem) (from to : ℕ) (seen : ℤ) → seen ≤ℤ seen_over e item from to seen
over_rises e item from to seen = fold_rises e item (offsets from (to - from)) seen

item_rises : (plan : Plan) (piece : Piece) (upto : ℕ) (item : Option SourceItem) (receipt : Receipt) → IsWorkOnItem plan piece upto item receipt → piece.seen ≤ℤ receipt.seen
item_rises plan piece upto (Some item) receipt h =
    subst (λ (t : ℤ). piece.seen ≤ℤ t) (sym h.seen) (over_rises (estimator_of plan piece.node) item piece.range.from upto piece.seen)
item_rises plan piece upto None receipt h = omega (arith, ints, h.1)

pub receipt_rises : (known : Bool) (told : Option (List FileText)) (plan : Plan) (piece : Piece) (upto : ℕ) (receipt : Receipt) → IsWorkOnRange known told plan piece upto receipt
    → piece.seen ≤ℤ receipt.seen
receipt_rises true told plan piece upto receipt h = item_rises plan piece upto (item_at (items_told told plan) piece.node piece.item) receipt h
receipt_rises false told plan piece upto receipt h = h.seen
