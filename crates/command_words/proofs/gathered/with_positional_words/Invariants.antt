use Rattle.std.proofs.Common.{◌≡◌, map, drop}
use Rattle.command_words.specs.Commands.{words_of}
use Rattle.command_words.specs.Gathering.{shown_gathered, with_parts}
use Rattle.command_words.specs.Parts.{Positional}
use Rattle.command_words.proofs.gathered.with_positional_words.Given as goal

abbrev pub invariant-loop-word : goal.invariant-loop-word
invariant-loop-word l =
    with_parts (shown_gathered l.gathered) (map Positional (words_of (drop l.word-index l.words)))
    ≡ with_parts (shown_gathered l.initial.gathered) (map Positional (words_of l.words))
