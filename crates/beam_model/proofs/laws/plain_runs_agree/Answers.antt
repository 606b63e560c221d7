use Rattle.beam_model.proofs.Runs.{arrived_agree, put_out_agree}
use Rattle.beam_model.proofs.laws.plain_runs_agree.Goals as goal

pub returns : goal.returns
returns c = record { arrived = arrived_agree; put_out = put_out_agree }
