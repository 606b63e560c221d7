use Rattle.command_words.proofs.Rules.{rules_are_followed, rules_are_met}
use Rattle.command_words.proofs.laws.words_ask_by_the_rules.Goals as goal

pub returns : goal.returns
returns c = λ words asked. (rules_are_met words asked, rules_are_followed words asked)
