-- What one pass over the words keeps is enough for what they ask.
use Rattle.std.proofs.Common.{◌≡◌, ℕ, Bool, false, if◌then◌else◌, List, [], ◌∷◌, Option, Some, None, refl, ap, ◌∙◌}
use Rattle.std.specs.Option.{option_map, option_and_then}
use Rattle.beam_values.specs.declared.options.Options.{Options}
use Rattle.command_words.specs.Commands.{Asked, asked_by, asks_help, command_name, command_named, combine_of, drill_of, has_no_option, is_none_of, make_of, options_of, panes_of, replay_of, run_of, value_of_texts}
use Rattle.command_words.specs.Few.{Few, Nothing, More, few, is_nothing, with_text}
use Rattle.command_words.specs.Gathering.{Gathering, asked_gathered, combine_of_few, drill_of_few, gathering_of, has_none_gathered, make_of_few, options_gathered, panes_of_few, replay_of_few, run_of_few, value_of_few, with_part, with_parts}
use Rattle.command_words.specs.Parts.{Part, parts_of, Chosen, Positional, texts_of, positional_words}
use Rattle.command_words.specs.declared.name.CommandName.{CommandName}
use Rattle.command_words.specs.declared.name.CommandName.TheVariants as commands
use Rattle.command_words.specs.declared.setting.Setting.{Setting}
use Rattle.command_words.specs.declared.setting.Setting.TheVariants.{Workers, Bundle, Chunk, Attempts}

abbrev with_texts : Few → List (List ℕ) → Few
with_texts texts [] = texts
with_texts texts (text ∷ more) = with_texts (with_text texts text) more

more_stays : (texts : List (List ℕ)) → with_texts More texts ≡ More
more_stays [] = refl
more_stays (text ∷ texts) = more_stays texts

all_are_few : (texts : List (List ℕ)) → with_texts Nothing texts ≡ few texts
all_are_few [] = refl
all_are_few (a ∷ []) = refl
all_are_few (a ∷ (b ∷ [])) = refl
all_are_few (a ∷ (b ∷ (c ∷ texts))) = more_stays texts

by_field : (g : Gathering) (parts : List Part) → with_parts g parts ≡ record {
  workers = with_texts g.workers (texts_of Workers parts);
  bundle = with_texts g.bundle (texts_of Bundle parts);
  chunk = with_texts g.chunk (texts_of Chunk parts);
  attempts = with_texts g.attempts (texts_of Attempts parts);
  positional = with_texts g.positional (positional_words parts);
}
by_field g [] = refl
by_field g (Chosen Workers text ∷ parts) = by_field (with_part g (Chosen Workers text)) parts
by_field g (Chosen Bundle text ∷ parts) = by_field (with_part g (Chosen Bundle text)) parts
by_field g (Chosen Chunk text ∷ parts) = by_field (with_part g (Chosen Chunk text)) parts
by_field g (Chosen Attempts text ∷ parts) = by_field (with_part g (Chosen Attempts text)) parts
by_field g (Positional word ∷ parts) = by_field (with_part g (Positional word)) parts

abbrev pub nothing_gathered : Gathering
nothing_gathered = record { workers = Nothing; bundle = Nothing; chunk = Nothing; attempts = Nothing; positional = Nothing }

gathers_all : (parts : List Part) → with_parts nothing_gathered parts ≡ gathering_of parts
gathers_all parts = by_field nothing_gathered parts ∙ simp all_are_few

value_is : (setting : Setting) (texts : List (List ℕ)) → value_of_few setting (few texts) ≡ value_of_texts setting texts
value_is setting [] = refl
value_is setting (text ∷ []) = refl
value_is setting (a ∷ (b ∷ [])) = refl
value_is setting (a ∷ (b ∷ (c ∷ texts))) = refl

options_are : (parts : List Part) → options_gathered (gathering_of parts) ≡ options_of parts
options_are parts = simp value_is

panes_are : (words : List (List ℕ)) (options : Option Options) → panes_of_few (few words) options ≡ panes_of words options
panes_are [] options = refl
panes_are (a ∷ []) options = refl
panes_are (a ∷ (b ∷ [])) options = refl
panes_are (a ∷ (b ∷ (c ∷ words))) options = refl

run_is : (words : List (List ℕ)) (options : Option Options) → run_of_few (few words) options ≡ run_of words options
run_is [] options = refl
run_is (a ∷ []) options = refl
run_is (a ∷ (b ∷ [])) options = refl
run_is (a ∷ (b ∷ (c ∷ words))) options = refl

replay_are : (words : List (List ℕ)) (options : Option Options) → replay_of_few (few words) options ≡ replay_of words options
replay_are [] options = refl
replay_are (a ∷ []) options = refl
replay_are (a ∷ (b ∷ [])) options = refl
replay_are (a ∷ (b ∷ (c ∷ words))) options = refl

make_are : (words : List (List ℕ)) → make_of_few (few words) ≡ make_of words
make_are [] = refl
make_are (a ∷ []) = refl
make_are (a ∷ (b ∷ [])) = refl
make_are (a ∷ (b ∷ (c ∷ words))) = refl

drill_are : (words : List (List ℕ)) (options : Option Options) → drill_of_few (few words) options ≡ drill_of words options
drill_are [] options = refl
drill_are (a ∷ []) options = refl
drill_are (a ∷ (b ∷ [])) options = refl
drill_are (a ∷ (b ∷ (c ∷ words))) options = refl

combine_is : (words : List (List ℕ)) (options : Option Options) → combine_of_few (few words) options ≡ combine_of words options
combine_is [] options = refl
combine_is (a ∷ []) options = refl
combine_is (a ∷ (b ∷ [])) options = refl
combine_is (a ∷ (b ∷ (c ∷ words))) options = refl

none_are : (texts : List (List ℕ)) → is_nothing (few texts) ≡ is_none_of texts
none_are [] = refl
none_are (a ∷ []) = refl
none_are (a ∷ (b ∷ [])) = refl
none_are (a ∷ (b ∷ (c ∷ texts))) = refl

no_option_are : (parts : List Part) → has_none_gathered (gathering_of parts) ≡ has_no_option parts
no_option_are parts = simp none_are

-- what was gathered of parts asks for the same as the parts themselves
same_asked : (command : CommandName) (parts : List Part) → asked_gathered command (gathering_of parts) ≡ asked_by command parts
same_asked commands.Panes parts = panes_are (positional_words parts) (options_gathered (gathering_of parts)) ∙ ap (panes_of (positional_words parts)) (options_are parts)
same_asked commands.Run parts = run_is (positional_words parts) (options_gathered (gathering_of parts)) ∙ ap (run_of (positional_words parts)) (options_are parts)
same_asked commands.Replay parts = replay_are (positional_words parts) (options_gathered (gathering_of parts)) ∙ ap (replay_of (positional_words parts)) (options_are parts)
same_asked commands.Make parts =
    ap (λ (none : Bool). if none then make_of_few (few (positional_words parts)) else None) (no_option_are parts)
    ∙ ap (λ (asked : Option Asked). if has_no_option parts then asked else None) (make_are (positional_words parts))
same_asked commands.Drill parts = drill_are (positional_words parts) (options_gathered (gathering_of parts)) ∙ ap (drill_of (positional_words parts)) (options_are parts)
same_asked commands.Combine parts = combine_is (positional_words parts) (options_gathered (gathering_of parts)) ∙ ap (combine_of (positional_words parts)) (options_are parts)

pub asks_gathered : (command : CommandName) (parts : Option (List Part)) (g : Gathering) → Some g ≡ option_map gathering_of parts
    → asked_gathered command g ≡ option_and_then (asked_by command) parts
asks_gathered command None g h = cc
asks_gathered command (Some parts) g h =
    let same : g ≡ gathering_of parts = cc in
    ap (asked_gathered command) same ∙ same_asked command parts

pub asks_for_nothing : (parts : Option (List Part)) (ask : List Part → Option Asked) → None ≡ option_map gathering_of parts → option_and_then ask parts ≡ None
asks_for_nothing None ask h = refl
asks_for_nothing (Some parts) ask h = cc

pub gathers : (parts : Option (List Part)) → option_map (with_parts nothing_gathered) parts ≡ option_map gathering_of parts
gathers None = refl
gathers (Some parts) = ap (λ g. Some g) (gathers_all parts)

-- what a command of this name asks for with the words whose parts are these
pub named_as : (name : List ℕ) (words : List (List ℕ)) (command : CommandName) → asks_help name ≡ false → command_name name ≡ Some command
    → command_named name words ≡ option_and_then (asked_by command) (parts_of words)
named_as name words command no_help is = rw (no_help, is) refl
