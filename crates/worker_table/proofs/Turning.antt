-- From an act to the turn that it makes, and from that to the turn that a call speaks of.
use Rattle.std.proofs.Common.{◌≡◌, ℕ, ◌<◌, List, [], ◌∷◌, length, refl, sym, ap, ◌∙◌, subst, arith}
use Rattle.std.specs.Prelude.{Option, Some, None, Result, Ok, Err, IsSomeAnd}
use Rattle.bundle_commit.specs.declared.job.Receipt.{Receipt}
use Rattle.turn_desk.specs.declared.desk.Desk.{Desk}
use Rattle.turn_desk.specs.declared.desk.Pass.{Pass}
use Rattle.turn_desk.specs.declared.held.Held.{Ghosts}
use Rattle.turn_desk.specs.declared.held.Note.{Note}
use Rattle.turn_desk.specs.Notes.{IsSound}
use Rattle.book_core.specs.Book.{SeenBook}
use Rattle.book_core.specs.Steps.{Commit}
use Rattle.book_core.specs.Work.{Surroundings}
use Rattle.book_core.specs.declared.live.Unplaced.{Unplaced}
use Rattle.known_jobs.specs.Calls.{CanCommitAs}
use Rattle.worker_table.specs.Calls.{Helping, IsHelpAnswer, Placing, commit_answer, help_deed}
use Rattle.known_jobs.specs.Carried.{can_commit}
use Rattle.worker_table.specs.Fits.{Fits, FitEntries, FitsEntry, IsBookOf, IsKnownIn, IsSlotOf}
use Rattle.worker_table.specs.Laws.{first_fits}
use Rattle.worker_table.specs.Moves.{Deed, Steps, Does, Moves, entry_after, entry_in, first_after, note_after, number_in, owners_after}
use Rattle.known_jobs.specs.Jobs.{Setting}
use Rattle.worker_table.specs.Notes.{Owner, Entry}
use Rattle.worker_table.specs.Passes.{IsOf, IsSeatOf, note_in, slot_of}
use Rattle.worker_table.specs.Turns.{HasCommitted, HasHelped, KeepsOthers, Turned, first_entry, later_of}
use Rattle.worker_table.specs.declared.help.Help.{Help}
use Rattle.worker_table.specs.declared.help.Help.TheVariants as help
use Rattle.worker_table.specs.declared.pass.Table.{Table}
use Rattle.worker_table.specs.declared.pass.WorkerPass.{WorkerPass}

known_by : (setting : Setting) (b : SeenBook) (owners : List Owner) (number : ℕ) (e : Entry) → IsBookOf setting b → FitsEntry b owners number e → IsKnownIn setting b e
known_by setting b owners number e book fit = record { plan = book.plan; job = λ i slot. (subst (IsSlotOf b owners number e.job e.calls e.reads) slot fit.slot).1 }

-- what is noted of a pass, of the book that its turn lends
pub known_lent : (setting : Setting) (b : SeenBook) (owners : List Owner) (m : Note (List Entry)) → IsSound m → Fits setting b owners m → IsKnownIn setting b (first_entry m)
known_lent setting b owners m sound fit = known_by setting b owners _ (first_entry m) fit.book (first_fits b owners m.numbers m.about sound.own fit.entries)

first_is : (deed : Deed) (b b' : SeenBook) (owners : List Owner) (ns : List ℕ) (es : List Entry) → 0 < length ns → FitEntries b owners ns es → entry_in (first_after deed b es b') ≡ entry_after deed b (entry_in es) b'
first_is deed b b' owners (n ∷ ns) (e ∷ es) some fit = refl
first_is deed b b' owners [] es some fit = absurd (omega arith)
first_is deed b b' owners (n ∷ ns) [] some fit = absurd fit

pub turned : (setting : Setting) (b b' : SeenBook) (owners : List Owner) (m n : Note (List Entry)) (deed : Deed) (makes : SeenBook → SeenBook → Type 0) → IsSound m → Fits setting b owners m → makes b b'
    → n ≡ note_after deed b m b' → Turned setting m n deed makes
turned setting b b' owners m n deed makes sound fit made is = record {
  lent = b;
  back = b';
  book = fit.book;
  owners = owners;
  fits = fit;
  fit = first_fits b owners m.numbers m.about sound.own fit.entries;
  made = made;
  note = is;
  first = ap first_entry is ∙ first_is deed b b' owners m.numbers m.about sound.own fit.entries;
}

-- and the move that it is, where the turn has the note tn, and the deed is named by what is remembered of the act
pub moved : (known : Surroundings) (b b' : SeenBook) (owners owners' : List Owner) (m tn : Note (List Entry)) (deed did : Deed) → tn ≡ m → did ≡ deed → Does known (first_entry m) b deed b'
    → owners' ≡ owners_after (number_in tn.numbers) (first_entry tn) did owners → Moves known b owners tn b' owners' (note_after did b tn b')
moved known b b' owners owners' m tn deed did noted is does owned =
    record { deed = did; does = subst (λ (z : Entry × Deed). Does known z.0 b z.1 b') (λ k. (first_entry (sym noted k), sym is k)) does; owners_of = owned; note = refl }

later_stay : (deed : Deed) (b b' : SeenBook) (es : List Entry) → (later_of (first_after deed b es b') ≡ later_of es) × (length (first_after deed b es b') ≡ length es)
later_stay deed b b' [] = (refl, refl)
later_stay deed b b' (e ∷ es) = (refl, refl)

pub keeps_others : (setting : Setting) (m n : Note (List Entry)) (deed : Deed) (makes : SeenBook → SeenBook → Type 0) → Turned setting m n deed makes → KeepsOthers m n
keeps_others setting m n deed makes turn = record {
  numbers = ap (λ (z : Note (List Entry)). z.numbers) turn.note;
  free = ap (λ (z : Note (List Entry)). z.free) turn.note;
  others = ap (λ (z : Note (List Entry)). later_of z.about) turn.note ∙ (later_stay deed turn.lent turn.back m.about).0;
  count = ap (λ (z : Note (List Entry)). length z.about) turn.note ∙ (later_stay deed turn.lent turn.back m.about).1;
}

module _ (setting : Setting) (m n : Note (List Entry)) where
  -- the same turn, of which something else is said
  pub retold : (deed : Deed) (makes means : SeenBook → SeenBook → Type 0) (turn : Turned setting m n deed makes) → means turn.lent turn.back → Turned setting m n deed means
  retold deed makes means turn made =
      record { lent = turn.lent; back = turn.back; book = turn.book; owners = turn.owners; fits = turn.fits; fit = turn.fit; made = made; note = turn.note; first = turn.first }

  pub known_turned : (deed : Deed) (makes : SeenBook → SeenBook → Type 0) (turn : Turned setting m n deed makes) → IsKnownIn setting turn.lent (first_entry m)
  known_turned deed makes turn = known_by setting turn.lent turn.owners _ (first_entry m) turn.book turn.fit

  pub commit_turn : {U : Type 0} (i : ℕ) (receipt : Receipt) (answer : Result U Unplaced) → (first_entry m).slot ≡ Some i → CanCommitAs setting (first_entry m).job receipt
      → Turned setting m n (Steps i Commit (commit_answer answer)) (λ b new. Placing b i receipt answer new) → HasCommitted setting m n i receipt answer
  commit_turn {U} i receipt (Ok u) slot given turn =
      retold _ _ _ turn (turn.made setting.known.told (can_commit setting turn.lent i (first_entry m).job turn.book.plan ((known_turned _ _ turn).job i slot) receipt given).1)
  commit_turn {U} i receipt (Err unplaced) slot given turn =
      retold _ _ _ turn ((can_commit setting turn.lent i (first_entry m).job turn.book.plan ((known_turned _ _ turn).job i slot) receipt given).1, turn.made.1)

  pub help_turn : {E : Type 0} (i : ℕ) (found : Help) (answer : Result (Option ℕ) E) → IsHelpAnswer found answer → Turned setting m n (help_deed found) (λ b new. Helping b i found new) → HasHelped setting m n i answer
  help_turn {E} i help.Nobody (Ok None) same turn = turn
  help_turn {E} i (help.Cut other at) (Ok (Some p)) same turn =
      subst (λ (q : ℕ). HasHelped {E = E} setting m n i (Ok (Some q))) (sym same) (other, retold _ _ _ turn (turn.made.0, turn.made.1 setting.known.told))
  help_turn {E} i (help.Refused other) (Err none) same turn = (other, turn)
  help_turn {E} i _ _ same turn = absurd same

-- ---- the pass of a table

-- a pass knows the slot that is noted
noted_slot : {V C : Type 0} {g : Ghosts V (List Entry) C} (desk : Desk V (List Entry) C) (pass : Option (Pass V (List Entry) C g)) (slot : Option ℕ) → IsSeatOf desk pass slot → (first_entry (note_in pass)).slot ≡ slot
noted_slot {V} {C} {g} desk (Some pass) slot seat = seat.1
noted_slot {V} {C} {g} desk None slot seat = absurd seat

pub seat_noted : {V C : Type 0} {g : Ghosts V (List Entry) C} (desk : Desk V (List Entry) C) (pass : Option (Pass V (List Entry) C g)) (slot : Option ℕ) → IsSeatOf desk pass slot → 0 < length (note_in pass).about
seat_noted {V} {C} {g} desk (Some pass) slot seat = seat.2
seat_noted {V} {C} {g} desk None slot seat = absurd seat

pub seated : (table : Table) (old new : WorkerPass) → IsOf table old → IsSeatOf table.desk new.pass (slot_of new) → new.slot ≡ old.slot → slot_of new ≡ slot_of old → IsOf table new
seated table old new was seat kept stays = subst (IsSeatOf table.desk new.pass) (stays ∙ noted_slot table.desk old.pass old.slot was ∙ sym kept) seat

pub at_slot : (P : ℕ → Type 0) (slot : Option ℕ) (i : ℕ) → slot ≡ Some i → P i → IsSomeAnd slot P
at_slot P slot i is p = subst (λ (s : Option ℕ). IsSomeAnd s P) (sym is) p
