use Rattle.std.proofs.Common.{[], rules}
use Rattle.std.proofs.lemmas.Result.{err_from_is_err_and}
use Rattle.schedule_replay.specs.Shown.{shown}
use Rattle.schedule_replay.proofs.schedule.printed.Goals as goal

pub printed_lines-requires : goal.printed_lines-requires
printed_lines-requires g c = let r = c.requires in (search rules, (search rules, (r.plan, (r.kit, (r.standing, r.short)))))

pub ended_text-requires : goal.ended_text-requires
ended_text-requires g c = record { standing = c.in_ok-lines.ensures.standing }

pub returns-clause-text : goal.returns-clause-text
returns-clause-text g c =
    let worked = c.in_ok-lines.ensures.worked in
    (worked.0, record { end = shown c.printed_lines.new.stand; lines = c.in_ok-lines.lines; worked = worked.1; ends = c.in_ok-ended_text.ensures.text; storable = c.ended_text.ensures.storable })

pub returns-clause-kept : goal.returns-clause-kept
returns-clause-kept g c = c.printed_lines.ensures.kept

pub returns-clause-files : goal.returns-clause-files
returns-clause-files g c = c.printed_lines.ensures.files

pub returns-in_err-lines-clause-text : goal.returns-in_err-lines-clause-text
returns-in_err-lines-clause-text g c = let p = err_from_is_err_and c.from_residual.result c.from_residual.ensures.1 in rw p.1 tt

pub returns-in_err-lines-clause-refused : goal.returns-in_err-lines-clause-refused
returns-in_err-lines-clause-refused g c = let p = err_from_is_err_and c.from_residual.result c.from_residual.ensures.1 in rw (p.1, p.2) c.in_err-lines.ensures.refused

pub returns-in_err-lines-clause-kept : goal.returns-in_err-lines-clause-kept
returns-in_err-lines-clause-kept g c = c.printed_lines.ensures.kept

pub returns-in_err-lines-clause-files : goal.returns-in_err-lines-clause-files
returns-in_err-lines-clause-files g c = c.printed_lines.ensures.files

pub returns-in_err-ended_text-clause-text : goal.returns-in_err-ended_text-clause-text
returns-in_err-ended_text-clause-text g c = let p = err_from_is_err_and c.from_residual-in_err-ended_text.result c.from_residual-in_err-ended_text.ensures.1 in rw p.1 tt

pub returns-in_err-ended_text-clause-refused : goal.returns-in_err-ended_text-clause-refused
returns-in_err-ended_text-clause-refused g c = let p = err_from_is_err_and c.from_residual-in_err-ended_text.result c.from_residual-in_err-ended_text.ensures.1 in rw (p.1, p.2) ([], tt)

pub returns-in_err-ended_text-clause-kept : goal.returns-in_err-ended_text-clause-kept
returns-in_err-ended_text-clause-kept g c = c.printed_lines.ensures.kept

pub returns-in_err-ended_text-clause-files : goal.returns-in_err-ended_text-clause-files
returns-in_err-ended_text-clause-files g c = c.printed_lines.ensures.files
