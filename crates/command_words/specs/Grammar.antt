-- Which words are which parts, as a grammar: each line is a form that the words after the name of a command may have.
use Rattle.std.specs.Prelude.{◌≡◌, ℕ, false, List, [], ◌∷◌, ◌++◌, map, codes}
use Rattle.command_words.specs.Parts.{Part, Chosen, Positional, is_dashed}
use Rattle.command_words.specs.declared.setting.Setting.{Setting}
use Rattle.command_words.specs.declared.setting.Setting.TheVariants.{Workers, Bundle, Chunk, Attempts}

abbrev pub name_of : Setting → List ℕ
name_of Workers = codes "--workers"
name_of Bundle = codes "--bundle"
name_of Chunk = codes "--chunk"
name_of Attempts = codes "--attempts"

-- `--name=value`
abbrev pub whole_word : Setting → List ℕ → List ℕ
whole_word setting text = name_of setting ++ 61 ∷ text

-- The parts of words. `--workers 2 f -- -x` is an option in two words, then a word, then the end: workers with `2`, and `f` and `-x`
-- as positional words.
pub data AreParts : List (List ℕ) → List Part → Type 0 where
  -- no words
  NoWords : AreParts [] []
  -- `--`, and any words
  AfterEnd : (words : List (List ℕ)) → AreParts (codes "--" ∷ words) (map Positional words)
  -- a word that isn't dashed
  Word : (word : List ℕ) (words : List (List ℕ)) (parts : List Part)
      → is_dashed word ≡ false → AreParts words parts → AreParts (word ∷ words) (Positional word ∷ parts)
  -- `--name=value`
  InOneWord : (setting : Setting) (text : List ℕ) (words : List (List ℕ)) (parts : List Part)
      → AreParts words parts → AreParts (whole_word setting text ∷ words) (Chosen setting text ∷ parts)
  -- `--name value`
  InTwoWords : (setting : Setting) (text : List ℕ) (words : List (List ℕ)) (parts : List Part)
      → is_dashed text ≡ false → AreParts words parts → AreParts (name_of setting ∷ (text ∷ words)) (Chosen setting text ∷ parts)
