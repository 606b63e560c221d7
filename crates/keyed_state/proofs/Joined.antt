-- Runs one behind another, and what they hold.
use Rattle.std.proofs.Common.{◌≡◌, ℕ, ◌+◌, ◌<◌, Bool, true, false, ◌||◌, List, [], ◌∷◌, ◌++◌, length, get_or, take, drop, refl, sym, ap, ◌∙◌}
use Rattle.std.specs.List.{flat_map}
use Rattle.std.proofs.lemmas.List.{append-nil, take-append-drop, take_more}
use Rattle.std.proofs.lemmas.List.Concat.{flat_map-append, flat_map-cons}
use Rattle.std.proofs.lemmas.List.Folds.{list_any-append}
use Rattle.std.specs.Prelude.{bytes_eq}
use Rattle.beam_values.specs.Spelling.{spelling}
use Rattle.beam_values.specs.declared.value.Value.{Value}
use Rattle.keyed_state.specs.Bags.{holds_value, joined}

abbrev id : List Value → List Value
id run = run

pub joined_one : (run : List Value) → joined (run ∷ []) ≡ run
joined_one run = flat_map-cons id run [] ∙ append-nil run

pub joined-append : (runs more : List (List Value)) → joined (runs ++ more) ≡ joined runs ++ joined more
joined-append runs more = flat_map-append id runs more

pub held-append : (xs ys : List Value) (v : Value) → holds_value (xs ++ ys) v ≡ (holds_value xs v || holds_value ys v)
held-append xs ys v = list_any-append (λ held. bytes_eq (spelling held) (spelling v)) xs ys

module _ (runs : List (List Value)) (i : ℕ) (run : List Value) (inside : i < length runs) (is : run ≡ get_or runs i run) where
  pub joined_more : joined (take (i + 1) runs) ≡ joined (take i runs) ++ run
  joined_more =
      ap joined (take_more runs i run inside ∙ ap (λ r. take i runs ++ r ∷ []) (sym is))
      ∙ joined-append (take i runs) (run ∷ []) ∙ ap (λ l. joined (take i runs) ++ l) (joined_one run)

  pub held_more : (v : Value) → holds_value (joined (take (i + 1) runs)) v ≡ (holds_value (joined (take i runs)) v || holds_value run v)
  held_more v = ap (λ l. holds_value l v) joined_more ∙ held-append (joined (take i runs)) run v

  -- a value of one of them is one of all
  pub held_here : (v : Value) → holds_value run v ≡ true → holds_value (joined runs) v ≡ true
  held_here v held =
      ap (λ l. holds_value (joined l) v) (sym (take-append-drop (i + 1) runs))
      ∙ ap (λ l. holds_value l v) (joined-append (take (i + 1) runs) (drop (i + 1) runs))
      ∙ held-append (joined (take (i + 1) runs)) (joined (drop (i + 1) runs)) v
      ∙ ap (λ b. b || holds_value (joined (drop (i + 1) runs)) v) (held_more v ∙ ap (λ b. holds_value (joined (take i runs)) v || b) held ∙ or_true (holds_value (joined (take i runs)) v))
    where
      or_true : (b : Bool) → (b || true) ≡ true
      or_true true = refl
      or_true false = refl
