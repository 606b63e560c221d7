-- The four laws of the book under the desk: a deed leaves what it asks for of the pass that moves, of all others and of the numbers that are free.
use Rattle.std.proofs.Common.{◌≡◌, ◌≢◌, inl, inr, ℕ, zero, suc, ◌+◌, ◌<◌, ◌≤◌, List, [], ◌∷◌, ◌++◌, length, length-append, Bool, refl, sym, ap, ◌∙◌, subst, arith}
use Rattle.std.specs.Prelude.{Option, Some, None, slice_get, slice_set}
use Rattle.std.proofs.lemmas.List.Sums.{sum_by_push}
use Rattle.std.proofs.lemmas.Option.{slice_get_within}
use native.Mathlib.Decide.{dec_le}
use Rattle.beam_values.specs.declared.fault.Cause.TheVariants.{Call, Read}
use Rattle.beam_values.specs.declared.outcome.StopCause.TheVariants as stop
use Rattle.turn_desk.specs.declared.held.Note.{Note}
use Rattle.turn_desk.specs.Notes.{Each, AreDistinct, IsNotFree, IsSound, IsApart, HasSameNumbers, kept_part, given_part, joined_note}
use Rattle.book_core.specs.Book.{SeenBook, last_commit, slot_at}
use Rattle.book_core.specs.Changes.{cut_to, or_stopped}
use Rattle.book_core.specs.Runs.{IsHonestAction}
use Rattle.book_core.specs.Steps.{Action, Answer, Enroll, Enrolled, Fail, IsRunning, NoMemory, Noted, Split, SplitAt, Step, Stop}
use Rattle.book_core.specs.declared.live.Live.{Live}
use Rattle.book_core.specs.declared.live.Live.TheVariants as live
use Rattle.worker_table.specs.Fits.{AreOwners, Fits, FitEntries, FitsEntry, IsBookOf, IsSlotOf, OwnsNone}
use Rattle.known_jobs.specs.Jobs.{IsJobOf, known_at, Setting, KnownJob}
use Rattle.worker_table.specs.Frames.{Frame, ending_made, ending_stays, step_fails, step_frame, step_slots}
use Rattle.worker_table.specs.Honest.{book_more, worked_fired}
use Rattle.known_jobs.specs.Known.{known_later, known_now, known_split, split_behind}
use Rattle.worker_table.specs.Moves.{Deed, Steps, Stops, Enrolls, FindsNone, Helps, Does, IsOwnAction, Moves, entry_after, entry_in, first_after, number_in, owners_after}
use Rattle.known_jobs.specs.Calls.{calls_after, reads_after}
use Rattle.worker_table.specs.Notes.{Owner, owner_of, Entry, LastTurn, fresh}
use Rattle.worker_table.specs.Places.{each_behind, each_set, end_elsewhere, end_here, is_or_not, set_elsewhere, set_here, set_length, set_only, sum_set}

-- ---- passes that don't move

slot_stays : (b b' : SeenBook) (owners owners' : List Owner) (number : ℕ) (known : Option KnownJob) (calls reads : ℕ) (slot : Option ℕ)
    → ((i : ℕ) → slice_get owners i ≡ Some (owner_of number calls reads) → slice_get owners' i ≡ Some (owner_of number calls reads))
    → ((i : ℕ) → slice_get owners i ≡ Some (owner_of number calls reads) → IsJobOf b.panes known (slot_at b i) → IsJobOf b'.panes known (slot_at b' i))
    → IsSlotOf b owners number known calls reads slot → IsSlotOf b' owners' number known calls reads slot
slot_stays b b' owners owners' number known calls reads None own now fit = fit
slot_stays b b' owners owners' number known calls reads (Some i) own now fit = (own i fit.0, now i fit.0 fit.1)

-- a slot that the step left as it was
job_stays : (b b' : SeenBook) (i j : ℕ) (known : Option KnownJob) → Frame b i b' → j ≢ i → IsJobOf b.panes known (slot_at b j) → IsJobOf b'.panes known (slot_at b' j)
job_stays b b' i j known frame apart fit =
    let there = subst (IsJobOf b.panes known) (sym (frame.others j apart)) fit in
    subst (λ p. IsJobOf p known (slot_at b' j)) (sym frame.panes.1) (known_later b.panes frame.panes.0 known (slot_at b' j) there)

-- the step was of slot i, which is the mover's
other_slot : (b b' : SeenBook) (i : ℕ) (owners owners' : List Owner) (number mover : ℕ) (e : Entry) → Frame b i b' → number ≢ mover
    → ((j : ℕ) → j ≢ i → slice_get owners' j ≡ slice_get owners j)
    → ((o : Owner) → slice_get owners i ≡ Some o → o.number ≡ mover)
    → ((o : Owner) → slice_get owners' i ≡ Some o → o.number ≡ mover)
    → FitsEntry b owners number e → FitsEntry b' owners' number e
other_slot b b' i owners owners' number mover e frame apart same mine mine' fit =
    let own : Owner = owner_of number e.calls e.reads in
    let away : (j : ℕ) → slice_get owners j ≡ Some own → j ≢ i = λ j at f. apart (mine own (sym (ap (slice_get owners) f) ∙ at)) in
    let away' : (j : ℕ) (o : Owner) → slice_get owners' j ≡ Some o → o.number ≡ number → j ≢ i = λ j o at n f. apart (sym n ∙ mine' o (sym (ap (slice_get owners') f) ∙ at)) in
    record {
      alone = λ j o at n. fit.alone j o (sym (same j (away' j o at n)) ∙ at) n;
      slot = slot_stays b b' owners owners' number e.job e.calls e.reads e.slot (λ j at. same j (away j at) ∙ at) (λ j at job. job_stays b b' i j e.job frame (away j at) job) fit.slot;
      seen = let a = fit.seen in let c = frame.commits in omega arith;
      ending = ending_stays b b' e.ending frame.stopped frame.left fit.ending;
    }

-- the book as it is after a stop
stopped_entry : (b b' : SeenBook) (owners : List Owner) (number : ℕ) (e : Entry) → Frame b 0 b' → b' ≡ record b { stopped = or_stopped b.stopped stop.NoMemory } → FitsEntry b owners number e → FitsEntry b' owners number e
stopped_entry b b' owners number e frame is fit = record {
  alone = fit.alone;
  slot = subst (λ (x : SeenBook). IsSlotOf x owners number e.job e.calls e.reads e.slot) (sym is)
      (slot_stays b (record b { stopped = or_stopped b.stopped stop.NoMemory }) owners owners number e.job e.calls e.reads e.slot (λ j at. at) (λ j at job. job) fit.slot);
  seen = let a = fit.seen in let c = frame.commits in omega arith;
  ending = ending_stays b b' e.ending frame.stopped frame.left fit.ending;
}

-- any split leaves each entry, also that of the slot whose range it is
split_entry : (setting : Setting) (b b' : SeenBook) (i : ℕ) (answer : Answer) (owners : List Owner) (number : ℕ) (e : Entry) → Step setting.known.told b i (Split 1 2) answer b' → FitsEntry b owners number e → FitsEntry b' owners number e
split_entry setting b b' i (SplitAt (Some at)) owners number e step fit =
    let frame = step_frame setting.known.told b b' i (Split 1 2) (SplitAt (Some at)) step in
    let piece = step.0.piece in
    let attempted = step.0.attempted in
    let cut : Live = live.Span (cut_to piece (record { from = piece.range.from; to = at })) attempted in
    let here : slot_at b' i ≡ Some (Some cut) = ap (λ (x : SeenBook). slot_at x i) step.0.is ∙ set_here b.slots i (Some (live.Span piece attempted)) (Some cut) step.0.works.works in
    let stays : (j : ℕ) → IsJobOf b.panes e.job (slot_at b j) → IsJobOf b'.panes e.job (slot_at b' j) = λ j job. elim (is_or_not j i) as (λ _. IsJobOf b'.panes e.job (slot_at b' j)) [
      | inl f ↦
          let was = subst (IsJobOf b.panes e.job) (ap (slot_at b) f ∙ step.0.works.works) job in
          let split = known_split b.panes e.job piece attempted at (split_behind piece attempted 1 2 at step.0.point) step.0.inside was in
          subst (λ (z : List _ × Option (Option Live)). IsJobOf z.0 e.job z.1) (λ k. (sym (ap (λ (x : SeenBook). x.panes) step.0.is) k, sym (ap (slot_at b') f ∙ here) k)) split
      | inr f ↦ job_stays b b' i j e.job frame f job
    ] in
    record {
      alone = fit.alone;
      slot = slot_stays b b' owners owners number e.job e.calls e.reads e.slot (λ j at. at) (λ j at job. stays j job) fit.slot;
      seen = let a = fit.seen in let c = frame.commits in omega arith;
      ending = ending_stays b b' e.ending frame.stopped frame.left fit.ending;
    }
split_entry setting b b' i (SplitAt None) owners number e step fit = subst (λ (x : SeenBook). FitsEntry x owners number e) (sym step.1) fit
split_entry setting b b' i NoMemory owners number e step fit = subst (λ (x : SeenBook). FitsEntry x owners number e) (sym step) fit
split_entry setting b b' i _ owners number e step fit = absurd step

-- ---- what a turn leaves

-- for the book, for the pass that moves, for each other pass and for each free number
record Leaves (setting : Setting) (b b' : SeenBook) (owners owners' : List Owner) (number : ℕ) (e' : Entry) : Type 0 where
  book : IsBookOf setting b'
  owners_of : AreOwners b' owners'
  own : FitsEntry b' owners' number e'
  others : (k : ℕ) (f : Entry) → k ≢ number → FitsEntry b owners k f → FitsEntry b' owners' k f
  none : (k : ℕ) → k ≢ number → OwnsNone owners k → OwnsNone owners' k

calls_add : (action : Action) (n : ℕ) → calls_after action n ≡ n + calls_after action 0
calls_add (Fail at Call) n = omega arith
calls_add action n = omega arith

reads_add : (action : Action) (n : ℕ) → reads_after action n ≡ n + reads_after action 0
reads_add (Fail at Read) n = omega arith
reads_add action n = omega arith

none_set : (owners : List Owner) (i k : ℕ) (new : Owner) → new.number ≢ k → OwnsNone owners k → OwnsNone (slice_set owners i new) k
none_set owners i k new apart none j o at n = elim (is_or_not j i) as (λ _. ⊥) [
  | inl f ↦ let z : slice_get (slice_set owners i new) i ≡ Some o = sym (ap (slice_get (slice_set owners i new)) f) ∙ at in apart (ap (λ (x : Owner). x.number) (set_only owners i new o z) ∙ n)
  | inr d ↦ none j o (sym (set_elsewhere owners i j new d) ∙ at) n
]

-- a step of the pass's own slot
module _ (setting : Setting) (b b' : SeenBook) (owners : List Owner) (number i : ℕ) (action : Action) (answer : Answer) (e : Entry)
    (below : number < 4294967296) (book : IsBookOf setting b) (owned : AreOwners b owners) (fit : FitsEntry b owners number e) (slot : e.slot ≡ Some i) (own : IsOwnAction action)
    (step : Step setting.known.told b i action answer b') (honest : IsHonestAction setting.known b i action) where
  new : Owner
  new = owner_of number (calls_after action e.calls) (reads_after action e.reads)

  at : (slice_get owners i ≡ Some (owner_of number e.calls e.reads)) × IsJobOf b.panes e.job (slot_at b i)
  at = subst (IsSlotOf b owners number e.job e.calls e.reads) slot fit.slot

  frame : Frame b i b'
  frame = step_frame setting.known.told b b' i action answer step

  book_after : IsBookOf setting b'
  book_after = book_more setting b b' i action answer step honest book

  own_after : FitsEntry b' (slice_set owners i new) number (entry_after (Steps i action answer) b e b')
  unfolding new
  own_after =
      let inside : i < length b'.slots = let w = slice_get_within owners i _ at.0 in let l = step_slots setting.known.told b b' i action answer own step in let s = owned.each in omega arith in
      record {
        alone = λ j o is n. elim (is_or_not j i) as (λ _. e.slot ≡ Some j) [
          | inl f ↦ slot ∙ ap Some (sym f)
          | inr d ↦ fit.alone j o (sym (set_elsewhere owners i j new d) ∙ is) n
        ];
        slot = subst (IsSlotOf b' (slice_set owners i new) number (known_at b' i) new.calls new.reads) (sym slot)
            (set_here owners i _ new at.0, known_now b'.panes (slot_at b' i) (λ batch works. worked_fired setting b' book_after i batch works) (λ none. beyond b'.slots i inside none));
        seen = omega arith;
        ending = ending_made setting.known.told b b' i action answer e.ending step fit.ending;
      }
    where
      beyond : {X : Type 0} (xs : List X) (i : ℕ) → i < length xs → slice_get xs i ≡ None → ⊥
      beyond [] i h e = absurd (omega arith)
      beyond (x ∷ xs) zero h e = cc
      beyond (x ∷ xs) (suc i) h e = beyond xs i (omega arith) e

  owned_after : AreOwners b' (slice_set owners i new)
  unfolding new
  owned_after =
      let fails = step_fails setting.known.told b b' i action answer step in
      record {
        each = set_length owners i new ∙ owned.each ∙ sym (step_slots setting.known.told b b' i action answer own step);
        calls = let s = sum_set (λ (o : Owner). o.calls) owners i _ new at.0 in let a = fails.calls in let k = owned.calls in omega (arith, calls_add action b.calls, calls_add action e.calls);
        reads = let s = sum_set (λ (o : Owner). o.reads) owners i _ new at.0 in let a = fails.reads in let k = owned.reads in omega (arith, reads_add action b.reads, reads_add action e.reads);
        numbers = each_set (λ o. o.number < 4294967296) owners i new below owned.numbers;
      }

  steps_leave : Leaves setting b b' owners (slice_set owners i new) number (entry_after (Steps i action answer) b e b')
  unfolding new
  steps_leave = record {
    book = book_after;
    owners_of = owned_after;
    own = own_after;
    others = λ k f apart its. other_slot b b' i owners (slice_set owners i new) k number f frame apart
        (λ j d. set_elsewhere owners i j new d)
        (λ o is. let z : Some (owner_of number e.calls e.reads) ≡ Some o = sym at.0 ∙ is in let w : owner_of number e.calls e.reads ≡ o = cc in sym (ap (λ (x : Owner). x.number) w))
        (λ o is. let z : Some new ≡ Some o = sym (set_here owners i _ new at.0) ∙ is in let w : new ≡ o = cc in sym (ap (λ (x : Owner). x.number) w))
        its;
    none = λ k apart none. none_set owners i k new (λ f. apart (sym f)) none;
  }

-- ---- the other turns

-- the entry fits whatever is said of turns and of splits
pub noted_turn : (b : SeenBook) (owners : List Owner) (number turns : ℕ) (owes : Bool) (last : Option LastTurn) (e : Entry) → FitsEntry b owners number e
    → FitsEntry b owners number (record e { owes_split = owes; seen = last_commit b; turns = turns; last = last })
noted_turn b owners number turns owes last e fit = record { alone = fit.alone; slot = fit.slot; seen = omega arith; ending = fit.ending }

rest_leaves : (setting : Setting) (b : SeenBook) (owners : List Owner) (number turns : ℕ) (owes : Bool) (last : Option LastTurn) (e : Entry) → IsBookOf setting b → AreOwners b owners → FitsEntry b owners number e
    → Leaves setting b b owners owners number (record e { owes_split = owes; seen = last_commit b; turns = turns; last = last })
rest_leaves setting b owners number turns owes last e book owned fit = record { book = book; owners_of = owned; own = noted_turn b owners number turns owes last e fit; others = λ k f apart its. its; none = λ k apart none. none }

-- the owners of a book with as many slots, which counts no more fails
same_owners : (b b' : SeenBook) (owners : List Owner) → length b'.slots ≡ length b.slots → b'.calls ≤ b.calls → b'.reads ≤ b.reads → AreOwners b owners → AreOwners b' owners
same_owners b b' owners slots calls reads owned = record { each = owned.each ∙ sym slots; calls = let k = owned.calls in omega arith; reads = let k = owned.reads in omega arith; numbers = owned.numbers }

stop_leaves : (setting : Setting) (b b' : SeenBook) (owners : List Owner) (number : ℕ) (e : Entry) → IsBookOf setting b → AreOwners b owners → FitsEntry b owners number e → Step setting.known.told b 0 Stop Noted b'
    → Leaves setting b b' owners owners number (entry_after Stops b e b')
stop_leaves setting b b' owners number e book owned fit step =
    let told = setting.known.told in
    let frame = step_frame told b b' 0 Stop Noted step in
    let fails = step_fails told b b' 0 Stop Noted step in
    let own = stopped_entry b b' owners number e frame step fit in
    record {
      book = book_more setting b b' 0 Stop Noted step tt book;
      owners_of = same_owners b b' owners (step_slots told b b' 0 Stop Noted tt step) fails.calls fails.reads owned;
      own = record { alone = own.alone; slot = own.slot; seen = omega arith; ending = subst (λ (x : SeenBook). IsRunning x → ⊥) (sym step) (or_stops b.stopped) };
      others = λ k f apart its. stopped_entry b b' owners k f frame step its;
      none = λ k apart none. none;
    }
  where
    or_stops : (kept : Option _) → or_stopped kept stop.NoMemory ≡ None → ⊥
    or_stops None h = cc
    or_stops (Some kept) h = cc

help_leaves : (setting : Setting) (b b' : SeenBook) (owners : List Owner) (number i : ℕ) (answer : Answer) (e : Entry) → IsBookOf setting b → AreOwners b owners → FitsEntry b owners number e
    → Step setting.known.told b i (Split 1 2) answer b' → Leaves setting b b' owners owners number (entry_after (Helps i answer) b e b')
help_leaves setting b b' owners number i answer e book owned fit step =
    let told = setting.known.told in
    let fails = step_fails told b b' i (Split 1 2) answer step in
    record {
      book = book_more setting b b' i (Split 1 2) answer step tt book;
      owners_of = same_owners b b' owners (step_slots told b b' i (Split 1 2) answer tt step) fails.calls fails.reads owned;
      own = noted_turn b' owners number _ _ _ e (split_entry setting b b' i answer owners number e step fit);
      others = λ k f apart its. split_entry setting b b' i answer owners k f step its;
      none = λ k apart none. none;
    }

-- the pass gets a slot
module _ (setting : Setting) (b b' : SeenBook) (owners : List Owner) (number i got : ℕ) (e : Entry)
    (below : number < 4294967296) (book : IsBookOf setting b) (owned : AreOwners b owners) (fit : FitsEntry b owners number e) (slot : e.slot ≡ None)
    (step : Step setting.known.told b i Enroll (Enrolled got) b') where
  at_end : i ≡ length b.slots
  at_end = step.1 ∙ step.0

  gets : Owner
  gets = owner_of number 0 0

  slot_frame : Frame b i b'
  slot_frame = step_frame setting.known.told b b' i Enroll (Enrolled got) step

  enroll_own : FitsEntry b' (owners ++ gets ∷ []) number (entry_after (Enrolls i (Enrolled got)) b e b')
  unfolding gets
  enroll_own =
      let nothing = subst (IsSlotOf b owners number e.job e.calls e.reads) slot fit.slot in
      let here : slot_at b' i ≡ Some None = ap (λ (x : SeenBook). slot_at x i) step.2 ∙ end_here b.slots None i at_end in
      let owns : slice_get (owners ++ gets ∷ []) i ≡ Some (owner_of number e.calls e.reads) =
      end_here owners gets i (at_end ∙ sym owned.each) ∙ (λ k. Some (owner_of number (sym nothing.1 k) (sym nothing.2 k))) in
      let free : IsJobOf b'.panes e.job (slot_at b' i) = subst (λ (z : Option KnownJob × Option (Option Live)). IsJobOf b'.panes z.0 z.1) (λ k. (sym nothing.0 k, sym here k)) tt in
      record {
        alone = λ j o at m. elim (is_or_not j i) as (λ _. Some i ≡ Some j) [
          | inl f ↦ ap Some (sym f)
          | inr d ↦
              let z : e.slot ≡ Some j = fit.alone j o (sym (end_elsewhere owners gets j (λ f. d (f ∙ owned.each ∙ sym at_end))) ∙ at) m in
              let w : None ≡ Some j = sym slot ∙ z in cc
        ];
        slot = (owns, free);
        seen = omega arith;
        ending = ending_stays b b' e.ending slot_frame.stopped slot_frame.left fit.ending;
      }

  enroll_owners : AreOwners b' (owners ++ gets ∷ [])
  unfolding gets
  enroll_owners =
      let fails = step_fails setting.known.told b b' i Enroll (Enrolled got) step in
      record {
        each = let l = ap (λ (x : SeenBook). length x.slots) step.2 in let k = owned.each in omega (arith, length-append b.slots (None ∷ []), length-append owners (gets ∷ []));
        calls = let k = owned.calls in let c = fails.calls in omega (arith, sum_by_push (λ (o : Owner). o.calls) owners gets);
        reads = let k = owned.reads in let c = fails.reads in omega (arith, sum_by_push (λ (o : Owner). o.reads) owners gets);
        numbers = each_behind (λ o. o.number < 4294967296) owners gets below owned.numbers;
      }

  enroll_leaves : Leaves setting b b' owners (owners ++ gets ∷ []) number (entry_after (Enrolls i (Enrolled got)) b e b')
  unfolding gets
  enroll_leaves = record {
    book = book_more setting b b' i Enroll (Enrolled got) step tt book;
    owners_of = enroll_owners;
    own = enroll_own;
    others = λ k f apart its. other_slot b b' i owners (owners ++ gets ∷ []) k number f slot_frame apart
        (λ j d. end_elsewhere owners gets j (λ f. d (f ∙ owned.each ∙ sym at_end)))
        (λ o at. let w = slice_get_within owners i o at in let s = owned.each in absurd (omega (arith, at_end)))
        (λ o at. let z : Some gets ≡ Some o = sym (end_here owners gets i (at_end ∙ sym owned.each)) ∙ at in let w : gets ≡ o = cc in sym (ap (λ (x : Owner). x.number) w))
        its;
    none = λ k apart none j o at m. elim (is_or_not j (length owners)) as (λ _. ⊥) [
      | inl f ↦ let z : Some gets ≡ Some o = sym (end_here owners gets j f) ∙ at in let w : gets ≡ o = cc in apart (sym m ∙ sym (ap (λ (x : Owner). x.number) w))
      | inr d ↦ none j o (sym (end_elsewhere owners gets j d) ∙ at) m
    ];
  }

deed_leaves : (setting : Setting) (b b' : SeenBook) (owners : List Owner) (number : ℕ) (e : Entry) (deed : Deed) → number < 4294967296 → IsBookOf setting b → AreOwners b owners → FitsEntry b owners number e
    → Does setting.known e b deed b' → Leaves setting b b' owners (owners_after number e deed owners) number (entry_after deed b e b')
unfolding new gets
deed_leaves setting b b' owners number e (Steps i action answer) below book owned fit does = steps_leave setting b b' owners number i action answer e below book owned fit does.0 does.1 does.2 does.3
deed_leaves setting b b' owners number e Stops below book owned fit does = stop_leaves setting b b' owners number e book owned fit does
deed_leaves setting b b' owners number e (Enrolls i (Enrolled got)) below book owned fit does = enroll_leaves setting b b' owners number i got e below book owned fit does.0 does.1
deed_leaves setting b b' owners number e (Enrolls i NoMemory) below book owned fit does =
    subst (λ (x : SeenBook). Leaves setting b x owners owners number (entry_after (Enrolls i NoMemory) b e x)) (sym does.1) (rest_leaves setting b owners number _ _ _ e book owned fit)
deed_leaves setting b b' owners number e (Enrolls i _) below book owned fit does = absurd does.1
deed_leaves setting b b' owners number e FindsNone below book owned fit does =
    subst (λ (x : SeenBook). Leaves setting b x owners owners number (entry_after FindsNone b e x)) (sym does.3) (rest_leaves setting b owners number _ _ _ e book owned fit)
deed_leaves setting b b' owners number e (Helps i answer) below book owned fit does = help_leaves setting b b' owners number i answer e book owned fit does.3

-- ---- the laws

others_stay : (b b' : SeenBook) (owners owners' : List Owner) (number : ℕ) → ((k : ℕ) (f : Entry) → k ≢ number → FitsEntry b owners k f → FitsEntry b' owners' k f)
    → (ns : List ℕ) (es : List Entry) → Each (λ k. k ≢ number) ns → FitEntries b owners ns es → FitEntries b' owners' ns es
others_stay b b' owners owners' number kept [] [] away fit = tt
others_stay b b' owners owners' number kept (n ∷ ns) (e ∷ es) away fit = (kept n e away.0 fit.0, others_stay b b' owners owners' number kept ns es away.1 fit.1)
others_stay b b' owners owners' number kept [] (e ∷ es) away fit = absurd fit
others_stay b b' owners owners' number kept (n ∷ ns) [] away fit = absurd fit

free_apart : (free number : ℕ) → IsNotFree free number → (k : ℕ) → 0 < k → k ≤ free → k ≢ number
free_apart free number taken k some within e = let z : number ≡ 0 = taken (omega (arith, e)) in omega (arith, e)

-- what holds of each number holds of the first one
first_of : (P : ℕ → Type 0) (ns : List ℕ) → 0 < length ns → Each P ns → P (number_in ns)
first_of P (n ∷ ns) some each = each.0
first_of P [] some each = absurd (omega arith)

pub first_fits : (b : SeenBook) (owners : List Owner) (ns : List ℕ) (es : List Entry) → 0 < length ns → FitEntries b owners ns es → FitsEntry b owners (number_in ns) (entry_in es)
first_fits b owners (n ∷ ns) (e ∷ es) some fit = fit.0
first_fits b owners [] es some fit = absurd (omega arith)
first_fits b owners (n ∷ ns) [] some fit = absurd fit

entries_after : (b b' : SeenBook) (owners owners' : List Owner) (deed : Deed) (ns : List ℕ) (es : List Entry) → AreDistinct ns → FitEntries b owners ns es
    → FitsEntry b' owners' (number_in ns) (entry_after deed b (entry_in es) b') → ((k : ℕ) (f : Entry) → k ≢ number_in ns → FitsEntry b owners k f → FitsEntry b' owners' k f)
    → FitEntries b' owners' ns (first_after deed b es b')
entries_after b b' owners owners' deed [] [] distinct fit own kept = tt
entries_after b b' owners owners' deed (n ∷ ns) (e ∷ es) distinct fit own kept = (own, others_stay b b' owners owners' n kept ns es distinct.0 fit.1)
entries_after b b' owners owners' deed [] (e ∷ es) distinct fit own kept = absurd fit
entries_after b b' owners owners' deed (n ∷ ns) [] distinct fit own kept = absurd fit

module _ (setting : Setting) (b b' : SeenBook) (owners owners' : List Owner) (m n : Note (List Entry)) (sound : IsSound m) (fit : Fits setting b owners m)
    (move : Moves setting.known b owners m b' owners' n) where
  move_leaves : Leaves setting b b' owners owners' (number_in m.numbers) (entry_after move.deed b (entry_in m.about) b')
  move_leaves =
      subst (λ (os : List Owner). Leaves setting b b' owners os (number_in m.numbers) (entry_after move.deed b (entry_in m.about) b')) (sym move.owners_of)
      (deed_leaves setting b b' owners (number_in m.numbers) (entry_in m.about) move.deed (first_of (λ x. x < 4294967296) m.numbers sound.own sound.below) fit.book fit.owners_of
      (first_fits b owners m.numbers m.about sound.own fit.entries) move.does)

  still_none : (free : ℕ) → Each (IsNotFree free) m.numbers → ((k : ℕ) → 0 < k → k ≤ free → OwnsNone owners k) → (k : ℕ) → 0 < k → k ≤ free → OwnsNone owners' k
  still_none free taken none k some within = move_leaves.none k (free_apart free (number_in m.numbers) (first_of (IsNotFree free) m.numbers sound.own taken) k some within) (none k some within)

  pub mover_fits : Fits setting b' owners' n × HasSameNumbers m n
  mover_fits = (
    subst (Fits setting b' owners') (sym move.note) (record {
      book = move_leaves.book;
      owners_of = move_leaves.owners_of;
      entries = entries_after b b' owners owners' move.deed m.numbers m.about sound.distinct fit.entries move_leaves.own move_leaves.others;
      free = still_none m.free sound.taken fit.free;
    }),
    (ap (λ (z : Note (List Entry)). z.numbers) move.note, ap (λ (z : Note (List Entry)). z.free) move.note),
  )

  pub others_fit : (other : Note (List Entry)) → IsApart m other → Fits setting b owners other → Fits setting b' owners' other
  others_fit other apart theirs = record {
    book = move_leaves.book;
    owners_of = move_leaves.owners_of;
    entries = others_stay b b' owners owners' (number_in m.numbers) move_leaves.others other.numbers other.about
        (first_of (λ x. Each (λ y. y ≢ x) other.numbers) m.numbers sound.own apart.lists) theirs.entries;
    free = still_none other.free apart.first theirs.free;
  }

fresh_fits : (b : SeenBook) (owners : List Owner) (number : ℕ) → OwnsNone owners number → FitsEntry b owners number fresh
fresh_fits b owners number none = record { alone = λ i o at n. absurd (none i o at n); slot = (refl, refl, refl); seen = omega arith; ending = tt }

pub parts_fit : (setting : Setting) (b : SeenBook) (owners : List Owner) (m : Note (List Entry)) → IsSound m → 0 < m.free → Fits setting b owners m
    → Fits setting b owners (kept_part m.about m) × Fits setting b owners (given_part (fresh ∷ []) m)
parts_fit setting b owners m sound some fit = (
  record { book = fit.book; owners_of = fit.owners_of; entries = fit.entries; free = λ n positive below. fit.free n positive (omega arith) },
  record { book = fit.book; owners_of = fit.owners_of; entries = (fresh_fits b owners m.free (fit.free m.free some (omega arith)), tt); free = λ n positive below. absurd (omega arith) },
)

entries_append : (b : SeenBook) (owners : List Owner) (ms ns : List ℕ) (es fs : List Entry) → FitEntries b owners ms es → FitEntries b owners ns fs → FitEntries b owners (ms ++ ns) (es ++ fs)
entries_append b owners [] ns [] fs h k = k
entries_append b owners (m ∷ ms) ns (e ∷ es) fs h k = (h.0, entries_append b owners ms ns es fs h.1 k)
entries_append b owners [] ns (e ∷ es) fs h k = absurd h
entries_append b owners (m ∷ ms) ns [] fs h k = absurd h

pub join_fits : (setting : Setting) (b : SeenBook) (owners : List Owner) (m n : Note (List Entry)) → IsSound m → IsSound n → IsApart m n → Fits setting b owners m → Fits setting b owners n
    → Fits setting b owners (joined_note (m.about ++ n.about) m n)
join_fits setting b owners m n sound sound' apart fit fit' = record {
  book = fit.book;
  owners_of = fit.owners_of;
  entries = entries_append b owners m.numbers n.numbers m.about n.about fit.entries fit'.entries;
  free = λ k some below. elim (dec_le k m.free) as (λ _. OwnsNone owners k) [
    | yes within ↦ fit.free k some within
    | no beyond ↦ fit'.free k some (let one = apart.free in grind arith)
  ];
}

-- a book with no slot and no fail fits the note of the first pass
pub opening_fits : (setting : Setting) (b : SeenBook) → IsBookOf setting b → b.slots ≡ [] → b.calls ≡ 0 → b.reads ≡ 0 → Fits setting b [] (record { numbers = 0 ∷ []; free = 4294967295; about = fresh ∷ [] })
opening_fits setting b book none calls reads = record {
  book = book;
  owners_of = record { each = sym (ap length none); calls = omega arith; reads = omega arith; numbers = tt };
  entries = (fresh_fits b [] 0 (λ i o at. cc), tt);
  free = λ n some within i o at. cc;
}
