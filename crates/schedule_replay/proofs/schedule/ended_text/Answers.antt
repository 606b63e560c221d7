use Rattle.std.proofs.Common.{◌∙◌}
use Rattle.std.proofs.lemmas.Result.{err_from_is_err_and}
use Rattle.schedule_replay.proofs.schedule.ended_text.Goals as goal

pub push_ending-requires : goal.push_ending-requires
push_ending-requires c = c.requires

pub returns-in_err-push_ending-clause-text : goal.returns-in_err-push_ending-clause-text
returns-in_err-push_ending-clause-text c = let p = err_from_is_err_and c.from_residual.result c.from_residual.ensures.1 in rw p.1 tt

pub returns-in_err-push_ending-clause-storable : goal.returns-in_err-push_ending-clause-storable
returns-in_err-push_ending-clause-storable c = c.look_at_panes.ensures

pub returns-in_err-from_list-clause-text : goal.returns-in_err-from_list-clause-text
returns-in_err-from_list-clause-text c = let p = err_from_is_err_and c.from_residual-in_err-from_list.result c.from_residual-in_err-from_list.ensures.1 in rw p.1 tt

pub returns-in_err-from_list-clause-storable : goal.returns-in_err-from_list-clause-storable
returns-in_err-from_list-clause-storable c = c.look_at_panes.ensures

pub returns-clause-text : goal.returns-clause-text
returns-clause-text c = let ends = c.in_ok-push_ending.ensures in (ends.0, ends.1, c.in_ok-from_list.ensures ∙ ends.2)

pub returns-clause-storable : goal.returns-clause-storable
returns-clause-storable c = c.look_at_panes.ensures
