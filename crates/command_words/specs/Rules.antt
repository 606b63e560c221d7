-- What words ask for, rule by rule.
use Rattle.std.specs.Prelude.{◌≡◌, ℕ, pos, ◌≤◌, List, [], ◌∷◌, length, codes}
use Rattle.beam_values.specs.Strategies.{greatest_length}
use Rattle.beam_values.specs.Windows.{or_zero}
use Rattle.beam_values.specs.declared.options.Options.{Options}
use Rattle.command_words.specs.Commands.{Asked, Help, Panes, Run, Replay, Make, Drill, Combine, AsksHelp, default_of, greatest_of}
use Rattle.command_words.specs.Grammar.{AreParts}
use Rattle.command_words.specs.Numbers.{IsNumberWithin, number_of_text}
use Rattle.command_words.specs.Parts.{Part, positional_words, texts_of}
use Rattle.command_words.specs.declared.setting.Setting.{Setting}
use Rattle.command_words.specs.declared.setting.Setting.TheVariants.{Workers, Bundle, Chunk, Attempts}

-- an option is not given and has its default, or it is given once, as a number within its bounds
pub data IsValue (setting : Setting) (parts : List Part) (value : ℕ) : Type 0 where
  ByDefault : texts_of setting parts ≡ [] → value ≡ default_of setting → IsValue setting parts value
  Given : (text : List ℕ) → texts_of setting parts ≡ text ∷ [] → IsNumberWithin 1 (greatest_of setting) text → value ≡ number_of_text text
      → IsValue setting parts value

-- each option of the command
pub record AreGiven (parts : List Part) (options : Options) : Type 0 where
  pub workers : IsValue Workers parts options.workers
  pub bundle : IsValue Bundle parts options.bundle
  pub chunk : IsValue Chunk parts options.chunk
  pub attempts : IsValue Attempts parts options.attempts

-- no option is given
pub record HasNoOption (parts : List Part) : Type 0 where
  pub workers : texts_of Workers parts ≡ []
  pub bundle : texts_of Bundle parts ≡ []
  pub chunk : texts_of Chunk parts ≡ []
  pub attempts : texts_of Attempts parts ≡ []

-- What these words ask for, the name of the program first. `beam_run run p --workers=2` asks for the run of `p` with two workers:
-- after the command there are `p` as a positional word and workers with `2`.
pub data Asks : List (List ℕ) → Asked → Type 0 where
  ForHelp : (words : List (List ℕ)) → AsksHelp words → Asks words Help
  ForPanes : (program : List ℕ) (words : List (List ℕ)) (parts : List Part) (file size : List ℕ) (options : Options)
      → AreParts words parts → positional_words parts ≡ file ∷ (size ∷ []) → AreGiven parts options
      → 1 ≤ length file → length file ≤ 4096 → IsNumberWithin 1 (or_zero greatest_length) size
      → Asks (program ∷ (codes "panes" ∷ words)) (Panes file (pos (number_of_text size)) options)
  ForRun : (program : List ℕ) (words : List (List ℕ)) (parts : List Part) (plan : List ℕ) (options : Options)
      → AreParts words parts → positional_words parts ≡ plan ∷ [] → AreGiven parts options
      → Asks (program ∷ (codes "run" ∷ words)) (Run plan options)
  ForReplay : (program : List ℕ) (words : List (List ℕ)) (parts : List Part) (plan schedule : List ℕ) (options : Options)
      → AreParts words parts → positional_words parts ≡ plan ∷ (schedule ∷ []) → AreGiven parts options
      → Asks (program ∷ (codes "replay" ∷ words)) (Replay plan schedule options)
  ForMake : (program : List ℕ) (words : List (List ℕ)) (parts : List Part) (count number : List ℕ)
      → AreParts words parts → positional_words parts ≡ count ∷ (number ∷ []) → HasNoOption parts
      → IsNumberWithin 0 1000000 count → IsNumberWithin 0 1000000 number
      → Asks (program ∷ (codes "make" ∷ words)) (Make (number_of_text count) (number_of_text number))
  ForDrill : (program : List ℕ) (words : List (List ℕ)) (parts : List Part) (count number : List ℕ) (options : Options)
      → AreParts words parts → positional_words parts ≡ count ∷ (number ∷ []) → AreGiven parts options
      → IsNumberWithin 0 1000000 count → IsNumberWithin 0 1000000 number
      → Asks (program ∷ (codes "drill" ∷ words)) (Drill (number_of_text count) (number_of_text number) options)
  ForCombine : (program : List ℕ) (words : List (List ℕ)) (parts : List Part) (plan : List ℕ) (options : Options)
      → AreParts words parts → positional_words parts ≡ plan ∷ [] → AreGiven parts options
      → Asks (program ∷ (codes "combine" ∷ words)) (Combine plan options)

-- by no rule do these words ask for anything
abbrev pub IsRefused : List (List ℕ) → Type 0
IsRefused words = (asked : Asked) → Asks words asked → ⊥
