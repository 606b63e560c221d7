-- The texts of values whose parts were added one after another.
use Rattle.std.proofs.Common.{◌≡◌, ℕ, List, [], ◌∷◌, ◌++◌, map, sym, ap, ◌∙◌, append_assoc}
use Rattle.beam_values.specs.Texts.{joined, value_text_step, value_text}
use Rattle.beam_values.specs.declared.value.Value.{Value}
use Rattle.beam_values.specs.declared.value.Value.TheOpen as layer
use Rattle.beam_values.specs.declared.value.Value.TheFolds.{fold-roll-Value}
use Rattle.beam_values.specs.declared.value.Value.TheVariants.{Pair, Seq, rolls-Pair, rolls-Seq}

value_text-Pair : (key part : Value) → value_text (Pair key part) ≡ 40 ∷ (value_text key ++ 44 ∷ (value_text part ++ 41 ∷ []))
value_text-Pair key part = ap value_text (sym (rolls-Pair key part)) ∙ fold-roll-Value (List ℕ) value_text_step (layer.Pair key part)

value_text-Seq : (items : List Value) → value_text (Seq items) ≡ 91 ∷ (joined (map value_text items) ++ 93 ∷ [])
value_text-Seq items = ap value_text (sym (rolls-Seq items)) ∙ fold-roll-Value (List ℕ) value_text_step (layer.Seq items)

-- a byte, a text, and a byte
between : (old a b new text : List ℕ) (first last : ℕ) → a ≡ old ++ first ∷ [] → b ≡ a ++ text → new ≡ b ++ last ∷ []
    → new ≡ old ++ first ∷ (text ++ last ∷ [])
between old a b new text first last p q r =
    r ∙ ap (λ (l : List ℕ). l ++ last ∷ []) (q ∙ ap (λ (l : List ℕ). l ++ text) p)
    ∙ append_assoc (old ++ first ∷ []) text (last ∷ []) ∙ append_assoc old (first ∷ []) (text ++ last ∷ [])

pub seq_added : (v : Value) (items : List Value) (old a b new : List ℕ) → v ≡ Seq items → a ≡ old ++ 91 ∷ [] → b ≡ a ++ joined (map value_text items)
    → new ≡ b ++ 93 ∷ [] → new ≡ old ++ value_text v
seq_added v items old a b new is p q r =
    between old a b new (joined (map value_text items)) 91 93 p q r ∙ ap (λ (l : List ℕ). old ++ l) (sym (ap value_text is ∙ value_text-Seq items))

pub pair_added : (v key part : Value) (old a b d e new : List ℕ) → v ≡ Pair key part → a ≡ old ++ 40 ∷ [] → b ≡ a ++ value_text key → d ≡ b ++ 44 ∷ []
    → e ≡ d ++ value_text part → new ≡ e ++ 41 ∷ [] → new ≡ old ++ value_text v
pair_added v key part old a b d e new is p q r s t =
    between b d e new (value_text part) 44 41 r s t
    ∙ ap (λ (l : List ℕ). l ++ 44 ∷ (value_text part ++ 41 ∷ [])) (q ∙ ap (λ (l : List ℕ). l ++ value_text key) p)
    ∙ append_assoc (old ++ 40 ∷ []) (value_text key) (44 ∷ (value_text part ++ 41 ∷ []))
    ∙ append_assoc old (40 ∷ []) (value_text key ++ 44 ∷ (value_text part ++ 41 ∷ []))
    ∙ ap (λ (l : List ℕ). old ++ l) (sym (ap value_text is ∙ value_text-Pair key part))
