-- What the words of a command line ask for.
use Rattle.std.specs.Prelude.{◌≡◌, ◌⊎◌, ℕ, ◌≤◌, ℤ, pos, Bool, true, false, ◌&&◌, ◌||◌, nat_le, if◌then◌else◌, List, [], ◌∷◌, map, length, codes, Option, Some, None}
use Rattle.std.specs.List.{slice_index_or}
use Rattle.std.specs.Option.{option_map, option_and_then}
use Rattle.std.specs.Str.{bytes_eq}
use Rattle.std.specs.String.{string_bytes}
use Rattle.std.specs.declared.alloc.Global.{Global}
use Rattle.std.specs.declared.string.String.{String}
use Rattle.beam_values.specs.Strategies.{IsLength, greatest_length}
use Rattle.beam_values.specs.Windows.{or_zero}
use Rattle.beam_values.specs.declared.options.Options.{Options}
use Rattle.command_words.specs.Numbers.{number_within}
use Rattle.command_words.specs.Parts.{Part, parts_of, texts_of, positional_words}
use Rattle.command_words.specs.declared.name.CommandName.{CommandName}
use Rattle.command_words.specs.declared.name.CommandName.TheVariants as commands
use Rattle.command_words.specs.declared.setting.Setting.{Setting}
use Rattle.command_words.specs.declared.setting.Setting.TheVariants.{Workers, Bundle, Chunk, Attempts}

-- the words of a command line as bytes, the program's name first
abbrev pub words_of : List (String Global) → List (List ℕ)
words_of words = map string_bytes words

-- what a command line asks for
pub data Asked : Type 0 where
  Help : Asked
  -- the panes of a file, in windows of this size
  Panes : List ℕ → ℤ → Options → Asked
  -- the run of a plan
  Run : List ℕ → Options → Asked
  -- the run of a plan under a schedule
  Replay : List ℕ → List ℕ → Options → Asked
  -- so many made lines, after a number
  Make : ℕ → ℕ → Asked
  -- a run over these lines
  Drill : ℕ → ℕ → Options → Asked
  -- what is combined of a plan
  Combine : List ℕ → Options → Asked

-- an option's value is a number from 1 to this one
abbrev pub greatest_of : Setting → ℕ
greatest_of Workers = 16
greatest_of Bundle = 1000000
greatest_of Chunk = 1099511627776
greatest_of Attempts = 1000

abbrev pub default_of : Setting → ℕ
default_of Workers = 4
default_of Bundle = 64
default_of Chunk = 65536
default_of Attempts = 3

-- each option lies in its bounds
pub record AreOptions (options : Options) : Type 0 where
  pub some_workers : 1 ≤ options.workers
  pub few_workers : options.workers ≤ 16
  pub some_bundle : 1 ≤ options.bundle
  pub small_bundle : options.bundle ≤ 1000000
  pub some_chunk : 1 ≤ options.chunk
  pub small_chunk : options.chunk ≤ 1099511627776
  pub some_attempts : 1 ≤ options.attempts
  pub few_attempts : options.attempts ≤ 1000

-- what is asked lies in its bounds
abbrev pub IsAllowed : Asked → Type 0
IsAllowed Help = Unit {0}
IsAllowed (Panes file size options) = (1 ≤ length file) × (length file ≤ 4096) × IsLength size × AreOptions options
IsAllowed (Run plan options) = AreOptions options
IsAllowed (Replay plan schedule options) = AreOptions options
IsAllowed (Make count number) = (count ≤ 1000000) × (number ≤ 1000000)
IsAllowed (Drill count number options) = (count ≤ 1000000) × (number ≤ 1000000) × AreOptions options
IsAllowed (Combine plan options) = AreOptions options

-- the value of an option that is given with these texts: at most one
abbrev pub value_of_texts : Setting → List (List ℕ) → Option ℕ
value_of_texts setting [] = Some (default_of setting)
value_of_texts setting (text ∷ []) = number_within 1 (greatest_of setting) text
value_of_texts setting (text ∷ (another ∷ texts)) = None

abbrev pub value_of : Setting → List Part → Option ℕ
value_of setting parts = value_of_texts setting (texts_of setting parts)

abbrev pub options_of : List Part → Option Options
options_of parts =
    option_and_then (λ workers. option_and_then (λ bundle. option_and_then (λ chunk.
    option_map (λ attempts. record { workers = workers; bundle = bundle; chunk = chunk; attempts = attempts })
    (value_of Attempts parts)) (value_of Chunk parts)) (value_of Bundle parts)) (value_of Workers parts)

-- the name of a file has 1 to 4096 bytes
abbrev pub is_file_name : List ℕ → Bool
is_file_name word = nat_le 1 (length word) && nat_le (length word) 4096

-- the size of a window is 1 to `greatest_length` milliseconds
abbrev pub size_of : List ℕ → Option ℤ
size_of word = option_map pos (number_within 1 (or_zero greatest_length) word)

-- FILE SIZE
abbrev pub panes_of : List (List ℕ) → Option Options → Option Asked
panes_of (file ∷ (size ∷ [])) options =
    if is_file_name file then option_and_then (λ size. option_map (λ options. Panes file size options) options) (size_of size) else None
panes_of words options = None

-- PLAN
abbrev pub run_of : List (List ℕ) → Option Options → Option Asked
run_of (plan ∷ []) options = option_map (λ options. Run plan options) options
run_of words options = None

-- PLAN SCHEDULE
abbrev pub replay_of : List (List ℕ) → Option Options → Option Asked
replay_of (plan ∷ (schedule ∷ [])) options = option_map (λ options. Replay plan schedule options) options
replay_of words options = None

-- a count of made lines, or the number that they are made after
abbrev pub count_of : List ℕ → Option ℕ
count_of word = number_within 0 1000000 word

-- COUNT NUMBER
abbrev pub make_of : List (List ℕ) → Option Asked
make_of (count ∷ (number ∷ [])) = option_and_then (λ count. option_map (λ number. Make count number) (count_of number)) (count_of count)
make_of words = None

abbrev pub drill_of : List (List ℕ) → Option Options → Option Asked
drill_of (count ∷ (number ∷ [])) options =
    option_and_then (λ count. option_and_then (λ number. option_map (λ options. Drill count number options) options) (count_of number)) (count_of count)
drill_of words options = None

abbrev pub combine_of : List (List ℕ) → Option Options → Option Asked
combine_of (plan ∷ []) options = option_map (λ options. Combine plan options) options
combine_of words options = None

-- of no option there is a text
abbrev pub is_none_of : List (List ℕ) → Bool
is_none_of [] = true
is_none_of (text ∷ texts) = false

abbrev pub has_no_option : List Part → Bool
has_no_option parts =
    is_none_of (texts_of Workers parts) && is_none_of (texts_of Bundle parts) && is_none_of (texts_of Chunk parts) && is_none_of (texts_of Attempts parts)

abbrev pub asks_help : List ℕ → Bool
asks_help word = bytes_eq word (codes "help") || (bytes_eq word (codes "--help") || bytes_eq word (codes "-h"))

-- the command of a name
abbrev pub command_name : List ℕ → Option CommandName
command_name name =
    if bytes_eq name (codes "panes") then Some commands.Panes
    else (if bytes_eq name (codes "run") then Some commands.Run
    else (if bytes_eq name (codes "replay") then Some commands.Replay
    else (if bytes_eq name (codes "make") then Some commands.Make
    else (if bytes_eq name (codes "drill") then Some commands.Drill
    else (if bytes_eq name (codes "combine") then Some commands.Combine
    else None)))))

-- what a command asks for by the parts of its words; one that takes no options is refused with one
abbrev pub asked_by : CommandName → List Part → Option Asked
asked_by commands.Panes parts = panes_of (positional_words parts) (options_of parts)
asked_by commands.Run parts = run_of (positional_words parts) (options_of parts)
asked_by commands.Replay parts = replay_of (positional_words parts) (options_of parts)
asked_by commands.Make parts = if has_no_option parts then make_of (positional_words parts) else None
asked_by commands.Drill parts = drill_of (positional_words parts) (options_of parts)
asked_by commands.Combine parts = combine_of (positional_words parts) (options_of parts)

-- what a command asks for with the words after its name
abbrev pub command_named : List ℕ → List (List ℕ) → Option Asked
command_named name words =
    if asks_help name then Some Help else option_and_then (λ command. option_and_then (asked_by command) (parts_of words)) (command_name name)

-- What these words ask for, the name of the program first, or none where the rules refuse them.
abbrev pub command_of : List (List ℕ) → Option Asked
command_of (program ∷ (name ∷ words)) = command_named name words
command_of words = None

-- help is asked for: the word after the program's name is one of these
abbrev pub AsksHelp : List (List ℕ) → Type 0
AsksHelp words =
    (slice_index_or words 1 [] ≡ codes "help") ⊎ (slice_index_or words 1 [] ≡ codes "--help") ⊎ (slice_index_or words 1 [] ≡ codes "-h")
