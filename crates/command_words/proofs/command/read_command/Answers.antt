use Rattle.std.proofs.Common.{◌∙◌, sym}
use Rattle.command_words.specs.Commands.{words_of}
use Rattle.command_words.specs.Gathering.{shown_gathered}
use Rattle.command_words.specs.Parts.{parts_of}
use Rattle.command_words.proofs.Gatherings.{asks_gathered, named_as}
use Rattle.command_words.proofs.command.read_command.Goals as goal

pub returns-clause-exact : goal.returns-clause-exact
returns-clause-exact c =
    let name = c.args.name.now in
    let words = words_of c.args.words.now in
    let command = c.in_ok-command.command in
    c.ask.ensures.exact
    ∙ asks_gathered command (parts_of words) (shown_gathered c.in_ok-gathered.gathered) c.in_ok-gathered.ensures
    ∙ sym (named_as name words command (sym c.asks_help.ensures ∙ c.if-asks_help.false) (sym c.named.ensures ∙ c.in_ok-command.ensures.ok_part))
