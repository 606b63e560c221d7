use Rattle.command_words.proofs.Grammar.{grammar_is_read, read_is_grammar}
use Rattle.command_words.proofs.laws.parts_are_those_of_the_grammar.Goals as goal

pub returns : goal.returns
returns c = λ words parts. (read_is_grammar words parts, grammar_is_read words parts)
