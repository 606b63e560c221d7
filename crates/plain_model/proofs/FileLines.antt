-- The lines of a file, one position after another.
use Rattle.std.proofs.Common.{◌≡◌, ℕ, ◌+◌, Bool, true, false, List, [], ◌∷◌, ◌++◌, sym, ap, ◌∙◌, arith, if◌then◌else◌}
use Rattle.std.proofs.lemmas.List.{append-nil}
use Rattle.beam_values.specs.Lines.{starts_line, line_at, spread}
use Rattle.beam_values.proofs.Spreads.{spread-join, spread-single}
use Rattle.plain_model.specs.Emissions.{line_from}

module _ (file : List ℕ) (lines : List (List ℕ)) (p : ℕ) (so_far : lines ≡ spread (line_from file) 0 p) where
  more : lines ++ line_from file p ≡ spread (line_from file) 0 (p + 1)
  more =
      ap (λ (l : List (List ℕ)). l ++ line_from file p) so_far
      ∙ ap (λ (l : List (List ℕ)). spread (line_from file) 0 p ++ l) (sym (spread-single (line_from file) p))
      ∙ sym (spread-join (line_from file) 0 p (p + 1) (omega arith) (omega arith))

  -- a position where a line starts adds it
  pub line_more : (line : List ℕ) (new : List (List ℕ)) → starts_line file p ≡ true → line ≡ line_at file p → new ≡ lines ++ line ∷ []
      → new ≡ spread (line_from file) 0 (p + 1)
  line_more line new starts is pushed =
      pushed
      ∙ ap (λ (l : List ℕ). lines ++ l ∷ []) is
      ∙ ap (λ (b : Bool). lines ++ (if b then line_at file p ∷ [] else [])) (sym starts)
      ∙ more

  -- any other position adds none
  pub line_same : starts_line file p ≡ false → lines ≡ spread (line_from file) 0 (p + 1)
  line_same starts =
      sym (append-nil lines) ∙ ap (λ (b : Bool). lines ++ (if b then line_at file p ∷ [] else [])) (sym starts) ∙ more
