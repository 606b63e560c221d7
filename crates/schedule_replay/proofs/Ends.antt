-- What is printed behind the last line of a schedule.
use Rattle.std.proofs.Common.{◌≡◌, ℕ, List, [], ◌++◌, refl, sym, subst, ap, ◌∙◌}
use Rattle.std.specs.Prelude.{Result, Ok, Err, OnOk}
use Rattle.std.specs.List.{flat_map}
use Rattle.std.proofs.lemmas.List.{append-nil}
use Rattle.beam_text.specs.Parts.{AppendsText}
use Rattle.book_core.specs.Book.{SeenBook}
use Rattle.schedule_replay.specs.Printing.{AreRangesPrinted}
use Rattle.schedule_replay.specs.Replays.{IsEnding, IsFinished, IsRendered, break, done_line, live_line, pending_line, position_of}
use Rattle.schedule_replay.proofs.Printing.{printed_behind}

module _ (b : SeenBook) (old mid : List ℕ) (ranges : AreRangesPrinted b old mid) where
  abbrev dones : List ℕ
  dones = flat_map done_line b.done

  abbrev lives : List ℕ
  lives = flat_map live_line ranges.live

  abbrev pendings : List ℕ
  pendings = flat_map pending_line b.pending

  abbrev positions : List ℕ
  positions = flat_map position_of b.dead

  -- nothing more
  pub ends_there : (IsFinished b → ⊥) → AppendsText (IsEnding b) old mid
  ends_there unfinished = (
    break ++ (dones ++ (lives ++ (pendings ++ (positions ++ [])))),
    record { live = ranges.live; all = ranges.all; ascending = ranges.ascending; rest = []; finished = λ is. absurd (unfinished is); unfinished = λ _. refl; printed = refl },
    ranges.printed ∙ ap (λ (l : List ℕ). old ++ (break ++ (dones ++ (lives ++ (pendings ++ l))))) (sym (append-nil positions)),
  )

  -- the rendering
  pub ends_rendered : (new : List ℕ) → IsFinished b → ((text : List ℕ) × IsRendered b text × (new ≡ mid ++ (break ++ text))) → AppendsText (IsEnding b) old new
  ends_rendered new finished outcome =
      let more = break ++ outcome.0 in (
        break ++ (dones ++ (lives ++ (pendings ++ (positions ++ more)))),
        record { live = ranges.live; all = ranges.all; ascending = ranges.ascending; rest = more; finished = λ _. (outcome.0, outcome.1, refl); unfinished = λ un. absurd (un finished); printed = refl },
        outcome.2 ∙ ap (λ (l : List ℕ). l ++ more) ranges.printed ∙ printed_behind old break dones lives pendings positions more,
      )

-- the rendering is that of the book as a take left it, which is the same
pub ends_finished : {T E : Type 0} (b left : SeenBook) (old mid new : List ℕ) → AreRangesPrinted b old mid → IsFinished b × (left ≡ b) → (r : Result T E)
    → OnOk r ((text : List ℕ) × IsRendered left text × (new ≡ mid ++ (break ++ text))) → OnOk r (AppendsText (IsEnding b) old new)
ends_finished b left old mid new ranges finished (Ok x) text = ends_rendered b old mid ranges new finished.0 (text.0, subst (λ (s : SeenBook). IsRendered s text.0) finished.1 text.1, text.2)
ends_finished b left old mid new ranges finished (Err e) text = tt
