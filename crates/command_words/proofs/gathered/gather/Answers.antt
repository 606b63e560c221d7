use Rattle.command_words.specs.Commands.{words_of}
use Rattle.command_words.specs.Parts.{parts_of}
use Rattle.command_words.proofs.Gatherings.{gathers}
use Rattle.command_words.proofs.gathered.gather.Goals as goal

pub loop-left-init : goal.loop-left-init
loop-left-init c = gathers (parts_of (words_of c.args.words.now))
