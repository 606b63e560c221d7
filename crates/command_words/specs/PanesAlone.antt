-- `panes FILE SIZE` in four words, as it is written without options.
use Rattle.std.specs.Prelude.{◌≡◌, ◌≢◌, ◌⊎◌, ℕ, ◌<◌, ◌≤◌, List, [], length, slice_index, codes}
use Rattle.std.specs.List.{slice_index_or}
use Rattle.beam_values.specs.Strategies.{greatest_length}
use Rattle.beam_values.specs.Windows.{or_zero}
use Rattle.beam_values.specs.declared.options.Options.{Options}
use Rattle.command_words.specs.Commands.{default_of}
use Rattle.command_words.specs.Numbers.{IsNumberWithin}
use Rattle.command_words.specs.declared.setting.Setting.TheVariants.{Workers, Bundle, Chunk, Attempts}

-- 1 to 4096 bytes, of which the first is no `-` where there are more
pub record IsPlainFileName (text : List ℕ) : Type 0 where
  pub some : 0 < length text
  pub short : length text ≤ 4096
  pub positional : (slice_index text 0 ≢ 45) ⊎ (length text ≡ 1)

abbrev pub file_word : List (List ℕ) → List ℕ
file_word words = slice_index_or words 2 []

abbrev pub size_word : List (List ℕ) → List ℕ
size_word words = slice_index_or words 3 []

-- the four words are the program's name, `panes`, a file's name and a size
pub record IsPanesAlone (words : List (List ℕ)) : Type 0 where
  pub four : length words ≡ 4
  pub command : slice_index_or words 1 [] ≡ codes "panes"
  pub file : IsPlainFileName (file_word words)
  pub size : IsNumberWithin 1 (or_zero greatest_length) (size_word words)

abbrev pub default_options : Options
default_options = record {
  workers = default_of Workers;
  bundle = default_of Bundle;
  chunk = default_of Chunk;
  attempts = default_of Attempts;
}
