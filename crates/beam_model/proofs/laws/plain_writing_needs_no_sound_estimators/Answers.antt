use Rattle.beam_model.proofs.laws.plain_writing_needs_no_sound_estimators.Goals as goal

pub returns : goal.returns
returns c items o written node write stateless triggers sound = written node write stateless
