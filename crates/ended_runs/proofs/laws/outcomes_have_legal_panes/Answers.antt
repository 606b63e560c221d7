use Rattle.ended_runs.proofs.Ordered.{outcome_legal}
use Rattle.ended_runs.proofs.laws.outcomes_have_legal_panes.Goals as goal

pub returns : goal.returns
returns c told b o reached of = outcome_legal b o (c.cells_are_kept.ensures.cells told b reached).legal of
