use Rattle.std.proofs.Common.{◌≡◌, ◌≤◌, sym, subst}
use Rattle.std.specs.List.{AllByRecursion, sum_by}
use Rattle.turn_desk.specs.Notes.{IsSound, size_of}
use Rattle.book_core.specs.Book.{SeenBook}
use Rattle.book_core.proofs.AllKept.{honest_reached}
use Rattle.worker_table.specs.Ends.{IsEnded}
use Rattle.worker_table.specs.Fits.{Fits, IsBookOf}
use Rattle.worker_table.specs.Notes.{Entry}
use Rattle.worker_table.specs.Passes.{note_in, note_of_pass, setting_of}
use Rattle.worker_table.proofs.Counting.{calls_within, ended_all, reads_within}
use Rattle.worker_table.proofs.pass.Table.close.Goals as goal

pub returns-clause-book : goal.returns-clause-book
returns-clause-book c = subst (IsBookOf (setting_of c.args.self)) (sym c.into_inner.ensures) c.close-book.ensures.fits.book

pub returns-clause-sound : goal.returns-clause-sound
returns-clause-sound c = subst (λ p. IsSound (note_in p)) (sym c.in-Some.is) c.close-book.ensures.sound

pub returns-clause-fits : goal.returns-clause-fits
returns-clause-fits c =
    let held = c.close-book.result in
    let setting = setting_of c.args.self in
    let noted = subst (λ p. Fits setting held.book.value held.owners.value (note_in p)) (sym c.in-Some.is) c.close-book.ensures.fits in
    (held.owners.value, subst (λ (x : SeenBook). Fits setting x held.owners.value (note_of_pass c.args.pass)) (sym c.into_inner.ensures) noted)

pub returns-clause-ended : goal.returns-clause-ended
returns-clause-ended c =
    let b = c.close-book.result.book.value in
    let fit = c.close-book.ensures.fits in
    let setting = setting_of c.args.self in
    let reached = honest_reached setting.known b fit.book.reached in
    let all = ended_all b _ _ _ (λ left. c.books_with_no_job_left_are_through.ensures setting.known.told b reached left.0 left.1) fit.entries in
    let noted = subst (λ p. AllByRecursion (λ (e : Entry). IsEnded b e.ending) (note_in p).about) (sym c.in-Some.is) all in
    subst (λ (x : SeenBook). AllByRecursion (λ (e : Entry). IsEnded x e.ending) (note_of_pass c.args.pass).about) (sym c.into_inner.ensures) noted

pub returns-clause-calls : goal.returns-clause-calls
returns-clause-calls c =
    let b = c.close-book.result.book.value in
    let end = c.close-book.ensures in
    let all = subst (λ p. size_of (note_in p) ≡ 4294967296) c.in-Some.is c.requires.all in
    let within = calls_within _ b _ _ end.sound all end.fits in
    let noted = subst (λ p. b.calls ≤ sum_by (λ (e : Entry). e.calls) (note_in p).about) (sym c.in-Some.is) within in
    subst (λ (x : SeenBook). x.calls ≤ sum_by (λ (e : Entry). e.calls) (note_of_pass c.args.pass).about) (sym c.into_inner.ensures) noted

pub returns-clause-reads : goal.returns-clause-reads
returns-clause-reads c =
    let b = c.close-book.result.book.value in
    let end = c.close-book.ensures in
    let all = subst (λ p. size_of (note_in p) ≡ 4294967296) c.in-Some.is c.requires.all in
    let within = reads_within _ b _ _ end.sound all end.fits in
    let noted = subst (λ p. b.reads ≤ sum_by (λ (e : Entry). e.reads) (note_in p).about) (sym c.in-Some.is) within in
    subst (λ (x : SeenBook). x.reads ≤ sum_by (λ (e : Entry). e.reads) (note_of_pass c.args.pass).about) (sym c.into_inner.ensures) noted
