-- Lines of a schedule are worked one after another, up to one that is refused.
use Rattle.std.proofs.Common.{◌≡◌, ℕ, ◌+◌, Bool, true, List, [], ◌∷◌, ◌++◌, length, take, append_assoc, refl, sym, ap, ◌∙◌, subst, arith}
use Rattle.std.specs.Prelude.{Option, Some, slice_get}
use Rattle.std.specs.List.{All}
use Rattle.std.proofs.Math.Seq.{take-append_seam}
use Rattle.std.proofs.lemmas.List.{append-nil}
use Rattle.beam_values.specs.Storable.{IsStorable}
use Rattle.beam_values.specs.declared.cell.Pane.{Pane}
use Rattle.beam_values.specs.declared.file_text.FileText.{FileText}
use Rattle.beam_text.specs.declared.refusal.ScheduleRefusal.TheVariants as refusal
use Rattle.beam_ports.specs.Observed.{ObservedStore, observed_store}
use Rattle.book_core.specs.Runs.{MadeStep}
use Rattle.chain_exec.specs.Causes.{ObservedShelf, observed_shelf}
use Rattle.lone_worker.specs.Work.{Base}
use Rattle.schedule_words.specs.Schedules.{line_of}
use Rattle.schedule_words.specs.declared.line.Line.{Line}
use Rattle.schedule_replay.specs.Reaching.{AreLinesWorked, IsLineRefused, IsWorkRefused}
use Rattle.schedule_replay.specs.Replays.{AreWorked, IsReachedLine, IsWorkedLine}
use Rattle.schedule_replay.specs.Standing.{IsWorked, counts_after, counts_before}
use Rattle.schedule_replay.specs.Stands.{Stand, is_allowed}
use Rattle.schedule_replay.specs.Works.{Worked}
use Rattle.schedule_replay.specs.declared.schedule.ReplayRefusal.{ReplayRefusal}
use Rattle.schedule_replay.specs.declared.schedule.ReplayRefusal.TheVariants.{Bad, NoMemory}
use Rattle.schedule_replay.proofs.Traces.{honest_none, honest_then}

-- ---- one more line

worked_more : (told : Option (List FileText)) (s : Stand) (lines : List (List ℕ)) (steps : List MadeStep) (works : List Worked) (text : List ℕ) (mid : Stand) → AreWorked told s lines steps works text mid
    → (words : List ℕ) (own : List MadeStep) (own_works : List Worked) (line : List ℕ) (end : Stand) → IsWorkedLine told mid words own own_works line end
    → AreWorked told s (lines ++ words ∷ []) (steps ++ own) (works ++ own_works) (text ++ line) end
worked_more told s [] steps works text mid are words own own_works line end one = (
  end,
  own,
  [],
  own_works,
  [],
  line,
  [],
  subst (λ (x : Stand). IsWorkedLine told x words own own_works line end) are.3 one,
  (refl, refl, refl, refl),
  ap (λ (t : List MadeStep). t ++ own) are.0 ∙ sym (append-nil own),
  ap (λ (t : List Worked). t ++ own_works) are.1 ∙ sym (append-nil own_works),
  ap (λ (t : List ℕ). t ++ line) are.2 ∙ sym (append-nil line),
)
worked_more told s (first ∷ lines) steps works text mid are words own own_works line end one = (
  are.0,
  are.1,
  are.2 ++ own,
  are.3,
  are.4 ++ own_works,
  are.5,
  are.6 ++ line,
  are.7,
  worked_more told are.0 lines are.2 are.4 are.6 mid are.8 words own own_works line end one,
  ap (λ (t : List MadeStep). t ++ own) are.9 ∙ append_assoc are.1 are.2 own,
  ap (λ (t : List Worked). t ++ own_works) are.10 ∙ append_assoc are.3 are.4 own_works,
  ap (λ (t : List ℕ). t ++ line) are.11 ∙ append_assoc are.5 are.6 line,
)

module _ (base : Base) {F S : Type 0} (strict : F → Bool) (faults : F → ℕ) (files : S → Option (List FileText)) (reads : S → ℕ) where
  pub lines_none : (shelf : F) (store : S) (start : Stand) (out : List ℕ)
      → AreLinesWorked base (observed_shelf strict faults shelf shelf) (observed_store files reads store store) start [] start out out
  lines_none shelf store start out = record {
    steps = [];
    works = [];
    text = [];
    worked = (refl, refl, refl, refl);
    honest = honest_none base (observed_shelf strict faults shelf shelf) (observed_store files reads store store) (omega arith) (omega arith);
    printed = sym (append-nil out);
  }

  pub lines_more : (shelf mid_shelf last_shelf : F) (store mid_store last_store : S) (start mid end : Stand) (done : List (List ℕ)) (words : List ℕ) (one : Line) (old out new text : List ℕ)
      → AreLinesWorked base (observed_shelf strict faults shelf mid_shelf) (observed_store files reads store mid_store) start done mid old out → line_of words ≡ Some one → is_allowed mid one ≡ true
      → IsWorked base (observed_shelf strict faults mid_shelf last_shelf) (observed_store files reads mid_store last_store) mid end one text → new ≡ out ++ text
      → AreLinesWorked base (observed_shelf strict faults shelf last_shelf) (observed_store files reads store last_store) start (done ++ words ∷ []) end old new
  lines_more shelf mid_shelf last_shelf store mid_store last_store start mid end done words one old out new text are is allowed work printed = record {
    steps = are.steps ++ work.steps;
    works = are.works ++ work.works;
    text = are.text ++ text;
    worked = worked_more base.setting.known.told start done are.steps are.works are.text mid are.worked words work.steps work.works text end
        (record { one = one; is = is; allowed = allowed; done = work.done });
    honest = honest_then base strict faults files reads shelf mid_shelf last_shelf store mid_store last_store are.works work.works are.honest work.honest;
    printed = printed ∙ ap (λ (t : List ℕ). t ++ text) are.printed ∙ append_assoc old are.text text;
  }

-- ---- the line behind those that were worked

get_behind : {A : Type 0} (xs ys : List A) (y : A) → slice_get (xs ++ y ∷ ys) (length xs) ≡ Some y
get_behind [] ys y = refl
get_behind (x ∷ xs) ys y = get_behind xs ys y

module _ (base : Base) (shelf : ObservedShelf) (store : ObservedStore) (start s : Stand) (lines done later : List (List ℕ)) (words : List ℕ) (is : lines ≡ done ++ words ∷ later) (old new : List ℕ)
    (are : AreLinesWorked base shelf store start done s old new) (storable : All (λ (pane : Pane). IsStorable pane.element.value) s.book.panes) where
  reached : (number : ℕ) → number ≡ length done + 1 → IsReachedLine base.setting.known (counts_before shelf store) (counts_after shelf store) base.setting.plan start lines number words s
  reached number counted =
      let front : take (length done) lines ≡ done = ap (take (length done)) is ∙ take-append_seam done (words ∷ later) in
      record {
        at = length done;
        counted = counted;
        is = ap (λ (l : List (List ℕ)). slice_get l (length done)) is ∙ get_behind done later words;
        steps = are.steps;
        works = are.works;
        text = are.text;
        worked = subst (λ (l : List (List ℕ)). AreWorked base.setting.known.told start l are.steps are.works are.text s) (sym front) are.worked;
        honest = are.honest;
        storable = storable;
      }

  pub refused_at : (number : ℕ) → number ≡ length done + 1 → (why : ReplayRefusal) → IsLineRefused words s number why → IsWorkRefused base shelf store start lines why
  refused_at number counted (Bad (refusal.Line at)) refused = (words, s, reached at (refused.0 ∙ counted), refused.1)
  refused_at number counted (Bad (refusal.NotAllowed at)) refused = (words, s, reached at (refused.0 ∙ counted), refused.1, refused.2, refused.3)
  refused_at number counted (Bad (refusal.Length len)) refused = absurd refused
  refused_at number counted NoMemory refused = absurd refused
