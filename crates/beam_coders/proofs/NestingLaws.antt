-- The nesting of each form of value.
use Rattle.std.proofs.Common.{◌≡◌, ℕ, ◌+◌, ◌≤◌, max, ℤ, List, [], ◌∷◌, map, sym, ap, ◌∙◌, arith}
use Rattle.std.specs.List.{AllByRecursion}
use Rattle.beam_values.specs.declared.value.Value.{Value}
use Rattle.beam_values.specs.declared.value.Value.TheVariants.{Null, Int, Blob, Pair, Seq, rolls-Null, rolls-Int, rolls-Blob, rolls-Pair, rolls-Seq}
use Rattle.beam_values.specs.declared.value.Value.TheOpen as layer
use Rattle.beam_values.specs.declared.value.Value.TheFolds.{fold-roll-Value}
use Rattle.beam_coders.specs.Readable.{greatest_of, nesting_step, nesting}

pub nesting-Null : nesting Null ≡ 1
nesting-Null = ap nesting (sym rolls-Null) ∙ fold-roll-Value ℕ nesting_step layer.Null

pub nesting-Int : (n : ℤ) → nesting (Int n) ≡ 1
nesting-Int n = ap nesting (sym (rolls-Int n)) ∙ fold-roll-Value ℕ nesting_step (layer.Int n)

pub nesting-Blob : (bytes : List ℕ) → nesting (Blob bytes) ≡ 1
nesting-Blob bytes = ap nesting (sym (rolls-Blob bytes)) ∙ fold-roll-Value ℕ nesting_step (layer.Blob bytes)

pub nesting-Pair : (key value : Value) → nesting (Pair key value) ≡ 1 + max (nesting key) (nesting value)
nesting-Pair key value = ap nesting (sym (rolls-Pair key value)) ∙ fold-roll-Value ℕ nesting_step (layer.Pair key value)

pub nesting-Seq : (items : List Value) → nesting (Seq items) ≡ 1 + greatest_of (map nesting items)
nesting-Seq items = ap nesting (sym (rolls-Seq items)) ∙ fold-roll-Value ℕ nesting_step (layer.Seq items)

-- each item is nested in at most so many
pub greatest_within : (d : ℕ) (items : List Value) → AllByRecursion (λ v. nesting v ≤ d) items → greatest_of (map nesting items) ≤ d
greatest_within d [] h = omega arith
greatest_within d (v ∷ vs) h = omega (arith, h.0, greatest_within d vs h.1)

pub all_within : (d : ℕ) (items : List Value) → greatest_of (map nesting items) ≤ d → AllByRecursion (λ v. nesting v ≤ d) items
all_within d [] h = tt
all_within d (v ∷ vs) h = (omega arith, all_within d vs (omega arith))
