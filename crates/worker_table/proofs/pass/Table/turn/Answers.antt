use Rattle.std.proofs.Common.{◌≡◌, List, refl, sym, ap, subst, arith, ◌∙◌}
use Rattle.turn_desk.specs.declared.held.Note.{Note}
use Rattle.turn_desk.specs.Notes.{IsSound}
use Rattle.turn_desk.specs.Seen.{constant_of, lent_value, note_of, present_value, turn_note}
use Rattle.book_core.specs.Book.{SeenBook}
use Rattle.worker_table.specs.Fits.{Fits}
use Rattle.worker_table.specs.Moves.{note_after, number_in, owners_after}
use Rattle.worker_table.specs.Notes.{Entry}
use Rattle.worker_table.specs.Passes.{note_in, note_of_pass}
use Rattle.worker_table.specs.Turns.{first_entry}
use Rattle.worker_table.specs.declared.held.Shared.{Shared}
use Rattle.worker_table.proofs.Turning.{keeps_others, known_lent, moved, seat_noted, turned}
use Rattle.worker_table.proofs.pass.Table.turn.Goals as goal

pub act-answer-requires : goal.act-answer-requires
act-answer-requires g c =
    let t = c.take-turn.ensures in
    let setting = constant_of c.args.self.now.desk in
    let lent : Shared = lent_value c.take-turn.result in
    let m : Note (List Entry) = note_of_pass c.args.pass.now in
    let begun : note_of c.stand.new.pass ≡ m = c.stand.ensures.note ∙ ap note_in (sym c.in-Some.is ∙ c.take.ensures.value) in
    let sound : IsSound m = subst IsSound begun t.sound in
    let fits : Fits setting lent.book.value lent.owners.value m = subst (Fits setting lent.book.value lent.owners.value) begun t.fits in
    let shown : c.deref_mut.result.now ≡ lent.book.value = c.deref_mut.ensures.value ∙ ap (λ (x : Shared). x.book.value) (c.value-shared.ensures.value ∙ t.value) in
    let known = known_lent setting lent.book.value lent.owners.value m sound fits in
    subst (g.A.Act.asks c.args.act) (sym shown) (g.met.A.Act.carries c.args.act setting (first_entry m) lent.book.value known c.requires.may)

pub give-own-requires-clause-moves : goal.give-own-requires-clause-moves
give-own-requires-clause-moves g c =
    let t = c.take-turn.ensures in
    let setting = constant_of c.args.self.now.desk in
    let lent : Shared = lent_value c.take-turn.result in
    let m : Note (List Entry) = note_of_pass c.args.pass.now in
    let begun : note_of c.stand.new.pass ≡ m = c.stand.ensures.note ∙ ap note_in (sym c.in-Some.is ∙ c.take.ensures.value) in
    let sound : IsSound m = subst IsSound begun t.sound in
    let fits : Fits setting lent.book.value lent.owners.value m = subst (Fits setting lent.book.value lent.owners.value) begun t.fits in
    let shown : c.deref_mut.result.now ≡ lent.book.value = c.deref_mut.ensures.value ∙ ap (λ (x : Shared). x.book.value) (c.value-shared.ensures.value ∙ t.value) in
    let known = known_lent setting lent.book.value lent.owners.value m sound fits in
    let made = subst (λ (b : SeenBook). g.A.Act.makes c.args.act b c.act-answer.result c.act-answer.new.book) shown c.act-answer.ensures in
    let deed = g.A.Act.deed c.args.act c.act-answer.result in
    let does = g.met.A.Act.does c.args.act c.act-answer.result setting (first_entry m) lent.book.value c.act-answer.new.book known c.requires.may made in
    let same : g.A.Act.deed c.of-asked.result.value c.of.result.value ≡ deed = λ k. g.A.Act.deed (c.of-asked.ensures k) (c.of.ensures k) in
    let owned = c.owned_by-shared.ensures ∙ (λ k.
    let note = turn_note (c.of-begun.ensures k) in
    owners_after (number_in note.numbers) (first_entry note) (g.A.Act.deed c.of-asked.result.value (sym c.of.ensures k)) (present_value (c.of-begun.ensures k)).owners.value)
    ∙ ap (λ (x : Shared). owners_after (number_in (turn_note c.take-turn.result).numbers) (first_entry (turn_note c.take-turn.result)) (g.A.Act.deed c.of-asked.result.value c.of.result.value) x.owners.value) t.value in
    moved setting.known lent.book.value c.act-answer.new.book lent.owners.value _ m (turn_note c.take-turn.result) deed (g.A.Act.deed c.of-asked.result.value c.of.result.value) (t.note ∙ begun) same does owned

pub returns-clause-turn : goal.returns-clause-turn
returns-clause-turn g c =
    let t = c.take-turn.ensures in
    let setting = constant_of c.args.self.now.desk in
    let lent : Shared = lent_value c.take-turn.result in
    let m : Note (List Entry) = note_of_pass c.args.pass.now in
    let begun : note_of c.stand.new.pass ≡ m = c.stand.ensures.note ∙ ap note_in (sym c.in-Some.is ∙ c.take.ensures.value) in
    let sound : IsSound m = subst IsSound begun t.sound in
    let fits : Fits setting lent.book.value lent.owners.value m = subst (Fits setting lent.book.value lent.owners.value) begun t.fits in
    let shown : c.deref_mut.result.now ≡ lent.book.value = c.deref_mut.ensures.value ∙ ap (λ (x : Shared). x.book.value) (c.value-shared.ensures.value ∙ t.value) in
    let made = subst (λ (b : SeenBook). g.A.Act.makes c.args.act b c.act-answer.result c.act-answer.new.book) shown c.act-answer.ensures in
    let is : note_of c.stand-2.new.pass ≡ note_after (g.A.Act.deed c.args.act c.act-answer.result) lent.book.value m c.act-answer.new.book =
    c.stand-2.ensures.note ∙ c.give-own.ensures.note
    ∙ (λ k. note_after (g.A.Act.deed (c.of-asked.ensures k) (c.of.ensures k)) lent.book.value ((t.note ∙ begun) k) c.act-answer.new.book) in
    turned setting lent.book.value c.act-answer.new.book lent.owners.value m (note_of c.stand-2.new.pass) (g.A.Act.deed c.args.act c.act-answer.result) _ sound fits made is

pub returns-clause-others : goal.returns-clause-others
returns-clause-others g c = keeps_others _ _ _ _ _ (returns-clause-turn g c)

pub returns-clause-seat : goal.returns-clause-seat
returns-clause-seat g c =
    let count = (returns-clause-others g c).count in
    let some = seat_noted c.args.self.now.desk c.args.pass.now.pass c.args.pass.now.slot c.requires.table in
    (c.stand-2.ensures.desk, refl, omega (arith, count, some))
