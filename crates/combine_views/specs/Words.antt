-- The words of a text, where the same becomes of each.
use Rattle.std.specs.Prelude.{◌≡◌, ℕ, true, List, [], ◌∷◌, Option, Some, None}
use Rattle.std.specs.Char.{is_ascii_alphanumeric}
use Rattle.std.specs.List.{list_all}
use Rattle.beam_values.specs.declared.element.Element.{Element}
use Rattle.beam_values.specs.declared.element.Timing.TheVariants.{Unknown}
use Rattle.beam_values.specs.declared.plan.Plan.{Plan}
use Rattle.beam_values.specs.declared.value.Value.{Value}
use Rattle.beam_model.specs.Chains.{chain}
use Rattle.beam_model.specs.Values.{blob, pair}
use Rattle.combine_views.specs.Lines.{AreAtBarrier}
use Rattle.combine_views.specs.declared.each_word.EachWord.{EachWord}
use Rattle.combine_views.specs.declared.each_word.Shown.{Shown}
use Rattle.combine_views.specs.declared.each_word.Shown.TheVariants.{Word, Empty}

abbrev pub IsWord : List ℕ → Type 0
IsWord text = list_all is_ascii_alphanumeric text ≡ true

abbrev pub bytes_shown : Shown → List ℕ → List ℕ
bytes_shown Word word = word
bytes_shown Empty word = []

abbrev pub value_of_word : Option Shown → Shown → List ℕ → Value
value_of_word None part word = blob (bytes_shown part word)
value_of_word (Some key) part word = pair (blob (bytes_shown key word)) (blob (bytes_shown part word))

-- Where words are keys of no text, "to" is the element `("to", "")`.
abbrev pub element_of_word : EachWord → List ℕ → Element
element_of_word each word =
    record { value = value_of_word each.key each.part word; time = each.time; span = each.span; pane = record { timing = Unknown; index = 0 } }

-- each word that a node puts out arrives, as one element
abbrev pub AreWordsAtBarrier : Plan → ℕ → EachWord → EachWord → Type 0
AreWordsAtBarrier plan from each there = (word : List ℕ) → IsWord word → AreAtBarrier (chain plan from (element_of_word each word)) (element_of_word there word ∷ [])
