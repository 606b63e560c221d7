-- Reading a value: a step for each case.
use Rattle.std.proofs.Common.{◌≡◌, ◌≢◌, ℕ, suc, ◌-◌, List, [], ◌∷◌, Result, Err, refl, sym, ap, subst, ◌∙◌, arith}
use Rattle.beam_values.specs.declared.value.Value.{Value}
use Rattle.beam_coders.specs.declared.refusal.CoderRefusal.TheVariants.{Short, Deep}
use Rattle.beam_coders.specs.declared.refusal.ReadRefusal.{ReadRefusal}
use Rattle.beam_coders.specs.Answers.{Gives}
use Rattle.beam_coders.specs.Reading.{value_at, tagged_at}

pub read_deep : (depth : ℕ) (bytes : List ℕ) → depth ≡ 0 → value_at depth bytes ≡ Err Deep
unfolding value_at
read_deep depth bytes e = ap (λ (d : ℕ). value_at d bytes) e

above_zero : (depth : ℕ) → depth ≢ 0 → depth ≡ suc (depth - 1)
above_zero depth h = omega (arith, h)

pub read_none : (depth : ℕ) (bytes : List ℕ) → depth ≢ 0 → bytes ≡ [] → value_at depth bytes ≡ Err Short
unfolding value_at
read_none depth bytes h e = rw (above_zero depth h, e) refl

pub value_at-tag : (depth tag : ℕ) (bytes rest : List ℕ) → depth ≢ 0 → bytes ≡ tag ∷ rest → value_at depth bytes ≡ tagged_at (value_at (depth - 1)) tag rest
unfolding value_at
value_at-tag depth tag bytes rest h e = ap (value_at depth) e ∙ ap (λ (d : ℕ). value_at d (tag ∷ rest)) (above_zero depth h)

pub read_tag : {X : Type 0} (view : X → Value × List ℕ) (depth tag : ℕ) (bytes rest : List ℕ) → depth ≢ 0 → bytes ≡ tag ∷ rest
    → (r : Result X ReadRefusal) → Gives view r (tagged_at (value_at (depth - 1)) tag rest) → Gives view r (value_at depth bytes)
read_tag view depth tag bytes rest h e r given = subst (Gives view r) (sym (value_at-tag depth tag bytes rest h e)) given
