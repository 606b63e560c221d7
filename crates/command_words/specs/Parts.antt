-- The words after the name of a command, cut into options and positional words.
use Rattle.std.specs.Prelude.{ℕ, ◌==◌, Bool, true, false, ◌&&◌, nat_lt, if◌then◌else◌, List, [], ◌∷◌, map, length, slice_index, codes, Option, Some, None}
use Rattle.std.specs.List.{position_or_len, before_first, after_first}
use Rattle.std.specs.Option.{option_map}
use Rattle.std.specs.Str.{bytes_eq}
use Rattle.command_words.specs.declared.setting.Setting.{Setting}
use Rattle.command_words.specs.declared.setting.Setting.TheVariants.{Workers, Bundle, Chunk, Attempts}

-- the option that a word names
abbrev pub setting_named : List ℕ → Option Setting
setting_named name =
    if bytes_eq name (codes "--workers") then Some Workers
    else (if bytes_eq name (codes "--bundle") then Some Bundle
    else (if bytes_eq name (codes "--chunk") then Some Chunk
    else (if bytes_eq name (codes "--attempts") then Some Attempts
    else None)))

abbrev pub is_same_setting : Setting → Setting → Bool
is_same_setting Workers Workers = true
is_same_setting Bundle Bundle = true
is_same_setting Chunk Chunk = true
is_same_setting Attempts Attempts = true
is_same_setting a b = false

-- `--`, which ends the options
abbrev pub ends_options : List ℕ → Bool
ends_options word = bytes_eq word (codes "--")

-- a word of more than one byte that begins with `-`; the word `-` is positional
abbrev pub is_dashed : List ℕ → Bool
is_dashed word = nat_lt 1 (length word) && (slice_index word 0 == 45)

-- a part of a command line: an option with the text of its value, or a positional word
pub data Part : Type 0 where
  Chosen : Setting → List ℕ → Part
  Positional : List ℕ → Part

-- what a dashed word is: a whole option, the name of one whose value is the next word, or no option of the command
pub data Dashed : Type 0 where
  Whole : Setting → List ℕ → Dashed
  Name : Setting → Dashed
  Unknown : Dashed

abbrev pub is_equals : ℕ → Bool
is_equals byte = byte == 61

abbrev pub whole_option : List ℕ → Option Setting → Dashed
whole_option value None = Unknown
whole_option value (Some setting) = Whole setting value

abbrev pub option_name : Option Setting → Dashed
option_name None = Unknown
option_name (Some setting) = Name setting

-- `--name=value`, cut at its first `=`, or `--name`
abbrev pub dashed_word : List ℕ → Dashed
dashed_word word =
    if nat_lt (position_or_len is_equals word) (length word)
    then whole_option (after_first is_equals word) (setting_named (before_first is_equals word))
    else option_name (setting_named word)

abbrev pub then_part : Part → Option (List Part) → Option (List Part)
then_part part parts = option_map (λ rest. part ∷ rest) parts

-- what follows a dashed word: the parts of the words after it, or of its value and those after that
abbrev pub after_dashed : Dashed → Option (List Part) → (Setting → Option (List Part)) → Option (List Part)
after_dashed (Whole setting text) parts valued = then_part (Chosen setting text) parts
after_dashed (Name setting) parts valued = valued setting
after_dashed Unknown parts valued = None

abbrev mutual
  -- The parts that these words are, or none where a word is refused. `--workers 2 f -- -x` is workers with `2`, then `f` and
  -- `-x` as positional words; `--workers` alone, `-x` and `--workers -- 2` are refused.
  pub parts_of : List (List ℕ) → Option (List Part)
  parts_of [] = Some []
  parts_of (word ∷ words) =
      if ends_options word then Some (map Positional words)
      else (if is_dashed word then after_dashed (dashed_word word) (parts_of words) (λ setting. parts_from_value setting words)
      else then_part (Positional word) (parts_of words))

  -- the same where the first word is the value of an option
  pub parts_from_value : Setting → List (List ℕ) → Option (List Part)
  parts_from_value setting [] = None
  parts_from_value setting (word ∷ words) = if is_dashed word then None else then_part (Chosen setting word) (parts_of words)

-- the texts that an option is given, in their order
abbrev pub texts_of : Setting → List Part → List (List ℕ)
texts_of setting [] = []
texts_of setting (Chosen chosen text ∷ parts) =
    if is_same_setting setting chosen then text ∷ texts_of setting parts else texts_of setting parts
texts_of setting (Positional word ∷ parts) = texts_of setting parts

-- the positional words, in their order
abbrev pub positional_words : List Part → List (List ℕ)
positional_words [] = []
positional_words (Chosen setting text ∷ parts) = positional_words parts
positional_words (Positional word ∷ parts) = word ∷ positional_words parts
