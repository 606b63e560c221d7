-- What functions give of each word.
use Rattle.std.proofs.Common.{◌≡◌, ℕ, ℤ, List, [], ◌∷◌, Option, Some, None, refl, ap, ◌∙◌}
use Rattle.beam_values.specs.Grouping.{part_of}
use Rattle.beam_values.specs.Intervals.{Interval}
use Rattle.beam_values.specs.declared.plan.Args.{Args}
use Rattle.beam_values.specs.declared.plan.FnKind.{FnKind}
use Rattle.beam_values.specs.declared.plan.FnKind.TheVariants.{KeyField, Swap, Values}
use Rattle.beam_values.specs.declared.value.Value.{Value}
use Rattle.beam_values.specs.declared.value.Value.TheViews.{out-roll-Value}
use Rattle.beam_model.specs.Functions.{emits, keyed_text, valued}
use Rattle.beam_model.specs.Values.{blob, pair}
use Rattle.combine_views.specs.Words.{IsWord, bytes_shown, element_of_word}
use Rattle.combine_views.specs.declared.each_word.EachWord.{EachWord}
use Rattle.combine_views.specs.declared.each_word.Shown.{Shown}
use Rattle.combine_views.specs.declared.each_word.Shown.TheVariants.{Word, Empty}
use Rattle.combine_views.proofs.EachText.{keyed_word}

keyed_shown : (part : Shown) (word : List ℕ) → IsWord word → keyed_text (bytes_shown part word) ≡ pair (blob (bytes_shown part word)) (blob [])
keyed_shown Word word is = keyed_word word is
keyed_shown Empty word is = refl

module _ (args : Args) (part : Shown) (time : ℤ) (span : Interval) (work : FnKind) (found : Option Shown) where
  abbrev each : Option Shown → EachWord
  each key = record { key = key; part = part; time = time; span = span }

  abbrev Gives : EachWord → Type 0
  Gives given = (word : List ℕ) → IsWord word → emits work args (element_of_word (each found) word) ≡ Some (element_of_word given word ∷ [])

  same : (kind : FnKind) (key : Option Shown) → work ≡ kind → found ≡ key → (word : List ℕ)
      → emits work args (element_of_word (each found) word) ≡ emits kind args (element_of_word (each key) word)
  same kind key is has word = ap (λ (w : FnKind). emits w args (element_of_word (each found) word)) is ∙ ap (λ (k : Option Shown). emits kind args (element_of_word (each k) word)) has

  pub key_field_gives : work ≡ KeyField → found ≡ None → Gives (record { key = Some part; part = Empty; time = time; span = span })
  key_field_gives is has word letters =
      same KeyField None is has word ∙ simp out-roll-Value (ap (λ (v : Value). Some (valued (element_of_word (each None) word) v ∷ [])) (keyed_shown part word letters))

  pub swap_gives : (key : Shown) → work ≡ Swap → found ≡ Some key → Gives (record { key = Some part; part = key; time = time; span = span })
  swap_gives key is has word letters = same Swap (Some key) is has word ∙ simp out-roll-Value refl

  pub values_gives : (key : Shown) → work ≡ Values → found ≡ Some key → Gives (each None)
  values_gives key is has word letters = same Values (Some key) is has word ∙ simp out-roll-Value refl

-- the part of a word that isn't shown there is no text
pub part_of_none : (key : Option Shown) (part : Shown) (time : ℤ) (span : Interval) (word : List ℕ) → part ≡ Empty
    → part_of (element_of_word (record { key = key; part = part; time = time; span = span }) word) ≡ blob []
part_of_none None part time span word is =
    simp out-roll-Value (ap (λ (p : Shown). blob (bytes_shown p word)) is)
part_of_none (Some key) part time span word is =
    simp out-roll-Value (ap (λ (p : Shown). blob (bytes_shown p word)) is)
