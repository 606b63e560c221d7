use Rattle.std.proofs.Common.{◌≡◌, length}
use Rattle.std.specs.Option.{option_map}
use Rattle.command_words.specs.Commands.{words_of}
use Rattle.command_words.specs.Gathering.{gathering_of, shown_gathered, with_parts}
use Rattle.command_words.specs.Parts.{parts_of}
use Rattle.command_words.proofs.gathered.gather.Given as goal

abbrev pub invariant-loop-left : goal.invariant-loop-left
invariant-loop-left l =
    option_map (with_parts (shown_gathered l.gathered)) (parts_of (words_of l.left)) ≡ option_map gathering_of (parts_of (words_of l.words))

abbrev pub decreases-loop-left : goal.decreases-loop-left
decreases-loop-left l = length l.left
