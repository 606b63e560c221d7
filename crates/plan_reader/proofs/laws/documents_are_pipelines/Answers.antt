use Rattle.plan_reader.proofs.Documents.{are_pipelines, have_their_version}
use Rattle.plan_reader.proofs.laws.documents_are_pipelines.Goals as goal

pub returns : goal.returns
returns c = record { pipeline = are_pipelines; version = have_their_version }
