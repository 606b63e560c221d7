use Rattle.std.proofs.Common.{List, [], ◌∷◌, sym, subst}
use Rattle.turn_desk.specs.Notes.{opening_note}
use Rattle.book_core.specs.Book.{SeenBook}
use Rattle.worker_table.specs.Fits.{Fits}
use Rattle.known_jobs.specs.Jobs.{Setting}
use Rattle.worker_table.specs.Notes.{Owner, fresh}
use Rattle.worker_table.proofs.Opened.{opened_fits}
use Rattle.worker_table.proofs.pass.Table.new.Goals as goal

pub new_with-requires : goal.new_with-requires
new_with-requires g c =
    let ready = opened_fits g.known c.args.book c.requires.0 c.requires.1 in
    subst (λ (z : Setting × SeenBook × List Owner). Fits z.0 z.1 z.2 (opening_note (fresh ∷ [])))
    (λ k. (sym c.picked-setting.ensures k, sym c.in_ok-book.ensures.ok k, sym c.nobody-owners.ensures k)) ready
