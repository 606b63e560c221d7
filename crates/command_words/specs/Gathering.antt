-- What one pass over the words keeps of them, and what a command asks for by that.
use Rattle.std.specs.Prelude.{ℕ, Bool, ◌&&◌, if◌then◌else◌, List, [], ◌∷◌, Option, Some, None, Result, Ok, Err}
use Rattle.std.specs.Option.{option_map, option_and_then}
use Rattle.beam_values.specs.declared.options.Options.{Options}
use Rattle.command_words.specs.Commands.{Asked, Panes, Run, Replay, Make, Drill, Combine, count_of, default_of, greatest_of, is_file_name, size_of}
use Rattle.command_words.specs.Few.{Few, Nothing, One, Two, few, is_nothing, with_text}
use Rattle.command_words.specs.Numbers.{number_within}
use Rattle.command_words.specs.Parts.{Part, Chosen, Positional, texts_of, positional_words}
use Rattle.command_words.specs.Shown.{shown_few}
use Rattle.command_words.specs.declared.gathered.Gathered.{Gathered}
use Rattle.command_words.specs.declared.name.CommandName.{CommandName}
use Rattle.command_words.specs.declared.name.CommandName.TheVariants as commands
use Rattle.command_words.specs.declared.setting.Setting.{Setting}
use Rattle.command_words.specs.declared.setting.Setting.TheVariants.{Workers, Bundle, Chunk, Attempts}
use Rattle.command_words.specs.declared.usage.Usage.{Usage}

-- of each option its texts, and the positional words
pub record Gathering : Type 0 where
  pub workers : Few
  pub bundle : Few
  pub chunk : Few
  pub attempts : Few
  pub positional : Few

abbrev pub gathering_of : List Part → Gathering
gathering_of parts = record {
  workers = few (texts_of Workers parts);
  bundle = few (texts_of Bundle parts);
  chunk = few (texts_of Chunk parts);
  attempts = few (texts_of Attempts parts);
  positional = few (positional_words parts);
}

-- the same with one more part after them
abbrev pub with_part : Gathering → Part → Gathering
with_part gathering (Chosen Workers text) = record gathering { workers = with_text gathering.workers text }
with_part gathering (Chosen Bundle text) = record gathering { bundle = with_text gathering.bundle text }
with_part gathering (Chosen Chunk text) = record gathering { chunk = with_text gathering.chunk text }
with_part gathering (Chosen Attempts text) = record gathering { attempts = with_text gathering.attempts text }
with_part gathering (Positional word) = record gathering { positional = with_text gathering.positional word }

abbrev pub with_parts : Gathering → List Part → Gathering
with_parts gathering [] = gathering
with_parts gathering (part ∷ parts) = with_parts (with_part gathering part) parts

abbrev pub shown_gathered : Gathered → Gathering
shown_gathered gathered = record {
  workers = shown_few gathered.workers;
  bundle = shown_few gathered.bundle;
  chunk = shown_few gathered.chunk;
  attempts = shown_few gathered.attempts;
  positional = shown_few gathered.positional;
}

-- what was gathered, or none where a word was refused
abbrev pub shown_gathering : Result Gathered Usage → Option Gathering
shown_gathering (Ok gathered) = Some (shown_gathered gathered)
shown_gathering (Err usage) = None

-- the value of an option that has these texts
abbrev pub value_of_few : Setting → Few → Option ℕ
value_of_few setting Nothing = Some (default_of setting)
value_of_few setting (One text) = number_within 1 (greatest_of setting) text
value_of_few setting texts = None

abbrev pub options_gathered : Gathering → Option Options
options_gathered gathering =
    option_and_then (λ workers. option_and_then (λ bundle. option_and_then (λ chunk.
    option_map (λ attempts. record { workers = workers; bundle = bundle; chunk = chunk; attempts = attempts })
    (value_of_few Attempts gathering.attempts)) (value_of_few Chunk gathering.chunk)) (value_of_few Bundle gathering.bundle))
    (value_of_few Workers gathering.workers)

abbrev pub panes_of_few : Few → Option Options → Option Asked
panes_of_few (Two file size) options =
    if is_file_name file then option_and_then (λ size. option_map (λ options. Panes file size options) options) (size_of size) else None
panes_of_few words options = None

abbrev pub run_of_few : Few → Option Options → Option Asked
run_of_few (One plan) options = option_map (λ options. Run plan options) options
run_of_few words options = None

abbrev pub replay_of_few : Few → Option Options → Option Asked
replay_of_few (Two plan schedule) options = option_map (λ options. Replay plan schedule options) options
replay_of_few words options = None

abbrev pub make_of_few : Few → Option Asked
make_of_few (Two count number) = option_and_then (λ count. option_map (λ number. Make count number) (count_of number)) (count_of count)
make_of_few words = None

abbrev pub drill_of_few : Few → Option Options → Option Asked
drill_of_few (Two count number) options =
    option_and_then (λ count. option_and_then (λ number. option_map (λ options. Drill count number options) options) (count_of number)) (count_of count)
drill_of_few words options = None

abbrev pub combine_of_few : Few → Option Options → Option Asked
combine_of_few (One plan) options = option_map (λ options. Combine plan options) options
combine_of_few words options = None

abbrev pub has_none_gathered : Gathering → Bool
has_none_gathered gathering = is_nothing gathering.workers && is_nothing gathering.bundle && is_nothing gathering.chunk && is_nothing gathering.attempts

abbrev pub panes_gathered : Gathering → Option Asked
panes_gathered gathering = panes_of_few gathering.positional (options_gathered gathering)

abbrev pub run_gathered : Gathering → Option Asked
run_gathered gathering = run_of_few gathering.positional (options_gathered gathering)

abbrev pub replay_gathered : Gathering → Option Asked
replay_gathered gathering = replay_of_few gathering.positional (options_gathered gathering)

abbrev pub make_gathered : Gathering → Option Asked
make_gathered gathering = if has_none_gathered gathering then make_of_few gathering.positional else None

abbrev pub drill_gathered : Gathering → Option Asked
drill_gathered gathering = drill_of_few gathering.positional (options_gathered gathering)

abbrev pub combine_gathered : Gathering → Option Asked
combine_gathered gathering = combine_of_few gathering.positional (options_gathered gathering)

-- what a command asks for by what was gathered
abbrev pub asked_gathered : CommandName → Gathering → Option Asked
asked_gathered commands.Panes gathering = panes_gathered gathering
asked_gathered commands.Run gathering = run_gathered gathering
asked_gathered commands.Replay gathering = replay_gathered gathering
asked_gathered commands.Make gathering = make_gathered gathering
asked_gathered commands.Drill gathering = drill_gathered gathering
asked_gathered commands.Combine gathering = combine_gathered gathering
