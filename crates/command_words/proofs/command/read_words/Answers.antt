use Rattle.std.proofs.Common.{◌≡◌, arith}
use Rattle.std.proofs.lemmas.Grind.{common_steps}
use Rattle.command_words.specs.Commands.{command_of, words_of}
use Rattle.command_words.specs.Shown.{shown_answer}
use Rattle.command_words.proofs.Rules.{asked_by_the_rules, help_by_the_rules, refused_by_the_rules}
use Rattle.command_words.proofs.command.read_words.Goals as goal

pub returns-clause-asked : goal.returns-clause-asked
returns-clause-asked c =
    let exact : shown_answer c.read_command.result ≡ command_of (words_of c.args.words.now) = grind (arith, common_steps) in
    asked_by_the_rules (words_of c.args.words.now) c.read_command.result exact

pub returns-clause-help : goal.returns-clause-help
returns-clause-help c =
    let exact : shown_answer c.read_command.result ≡ command_of (words_of c.args.words.now) = grind (arith, common_steps) in
    help_by_the_rules (words_of c.args.words.now) c.read_command.result exact

pub returns-clause-usage : goal.returns-clause-usage
returns-clause-usage c =
    let exact : shown_answer c.read_command.result ≡ command_of (words_of c.args.words.now) = grind (arith, common_steps) in
    refused_by_the_rules (words_of c.args.words.now) c.read_command.result exact
