-- What has been written once each part of a spelling stands.
use Rattle.std.proofs.Common.{◌≡◌, ℕ, List, ◌∷◌, [], ◌++◌, length, sym, ap, ◌∙◌, append_assoc}
use Rattle.std.specs.List.{flat_map}
use Rattle.beam_values.specs.declared.value.Value.{Value}
use Rattle.beam_values.specs.declared.value.Value.TheVariants.{Pair, Seq}
use Rattle.beam_values.specs.Spelling.{varint, spelling}
use Rattle.beam_values.proofs.Induction.{spelling-Pair, spelling-Seq}

-- a byte and two parts after it
three_parts : (old a b c front back : List ℕ) (byte : ℕ) → a ≡ old ++ byte ∷ [] → b ≡ a ++ front → c ≡ b ++ back → c ≡ old ++ byte ∷ (front ++ back)
three_parts old a b c front back byte p q r =
    r ∙ ap (λ (text : List ℕ). text ++ back) (q ∙ ap (λ (text : List ℕ). text ++ front) p) ∙ append_assoc (old ++ byte ∷ []) front back ∙ append_assoc old (byte ∷ []) (front ++ back)

pub pair_written : (old a b c : List ℕ) (key value : Value) → a ≡ old ++ 3 ∷ [] → b ≡ a ++ spelling key → c ≡ b ++ spelling value → c ≡ old ++ spelling (Pair key value)
pair_written old a b c key value p q r = three_parts old a b c (spelling key) (spelling value) 3 p q r ∙ ap (λ (text : List ℕ). old ++ text) (sym (spelling-Pair key value))

pub seq_written : (old a b : List ℕ) (items : List Value) → a ≡ old ++ 4 ∷ varint (length items) → b ≡ a ++ flat_map spelling items → b ≡ old ++ spelling (Seq items)
seq_written old a b items p q =
    q ∙ ap (λ (text : List ℕ). text ++ flat_map spelling items) p ∙ append_assoc old (4 ∷ varint (length items)) (flat_map spelling items) ∙ ap (λ (text : List ℕ). old ++ text) (sym (spelling-Seq items))
