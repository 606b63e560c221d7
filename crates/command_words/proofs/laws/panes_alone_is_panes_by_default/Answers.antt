use Rattle.command_words.proofs.PanesByDefault.{taken, refused}
use Rattle.command_words.proofs.laws.panes_alone_is_panes_by_default.Goals as goal

pub returns-clause-taken : goal.returns-clause-taken
returns-clause-taken c = taken

pub returns-clause-refused : goal.returns-clause-refused
returns-clause-refused c = refused
