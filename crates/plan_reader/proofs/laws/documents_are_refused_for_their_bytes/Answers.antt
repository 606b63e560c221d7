use Rattle.plan_reader.proofs.Documents.{length_of_bytes, syntax_of_text}
use Rattle.plan_reader.proofs.laws.documents_are_refused_for_their_bytes.Goals as goal

pub returns : goal.returns
returns c = record { length = length_of_bytes; syntax = syntax_of_text }
