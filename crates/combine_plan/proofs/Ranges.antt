-- What ranges of one item bring, cut in two or three.
use Rattle.std.proofs.Common.{◌≡◌, ℕ, ◌≤◌, List, [], ◌∷◌, ◌++◌, refl, sym, ap, ◌∙◌}
use Rattle.std.specs.Prelude.{Option, Some, None}
use Rattle.std.proofs.lemmas.List.{append-nil}
use Rattle.beam_values.specs.declared.piece.Done.{Done}
use Rattle.beam_values.specs.declared.plan.Plan.{Plan}
use Rattle.beam_values.proofs.Spreads.{spread-empty, spread-join}
use Rattle.beam_model.specs.Chains.{Output}
use Rattle.beam_model.specs.Coverings.{item_at, spread_done, spread_dones, spread_of}
use Rattle.beam_model.specs.Positions.{SourceItem}
use Rattle.beam_model.specs.Premises.{done_range}
use Rattle.beam_model.specs.Spread.{outputs_at}

pub one_range : (plan : Plan) (items : List SourceItem) (range : Done) → spread_dones plan items (range ∷ []) ≡ spread_done plan items range
one_range plan items range = append-nil (spread_done plan items range)

module _ (plan : Plan) (items : List SourceItem) (node item : ℕ) where
  abbrev brings : ℕ → ℕ → List Output
  brings from to = spread_done plan items (done_range node item from to)

  -- an empty range brings nothing
  pub range_empty : (from to : ℕ) → to ≤ from → brings from to ≡ []
  range_empty from to empty = by (item_at items node item)
    where
      by : (found : Option SourceItem) → spread_of plan (record { from = from; to = to }) found ≡ []
      by None = refl
      by (Some it) = spread-empty (outputs_at plan it) from to empty

  pub range_join : (from middle to : ℕ) → from ≤ middle → middle ≤ to → brings from to ≡ brings from middle ++ brings middle to
  range_join from middle to low high = by (item_at items node item)
    where
      by : (found : Option SourceItem)
          → spread_of plan (record { from = from; to = to }) found ≡ spread_of plan (record { from = from; to = middle }) found ++ spread_of plan (record { from = middle; to = to }) found
      by None = refl
      by (Some it) = spread-join (outputs_at plan it) from middle to low high

  -- the two parts one after another are the whole
  pub parts_join : (from middle to : ℕ) → from ≤ middle → middle ≤ to
      → spread_dones plan items (done_range node item from middle ∷ done_range node item middle to ∷ []) ≡ spread_dones plan items (done_range node item from to ∷ [])
  parts_join from middle to low high =
      ap (λ (l : List Output). brings from middle ++ l) (one_range plan items (done_range node item middle to))
      ∙ sym (range_join from middle to low high)
      ∙ sym (one_range plan items (done_range node item from to))
