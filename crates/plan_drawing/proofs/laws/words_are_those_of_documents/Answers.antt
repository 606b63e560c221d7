use Rattle.plan_drawing.proofs.Read.{functions_read, modes_read, sources_read, stateful_read}
use Rattle.plan_drawing.proofs.laws.words_are_those_of_documents.Goals as goal

pub returns : goal.returns
returns c = record { sources = sources_read; functions = functions_read; stateful = stateful_read; modes = modes_read }
