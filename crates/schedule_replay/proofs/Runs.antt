-- The steps of worked lines make a run of the book.
use Rattle.std.proofs.Common.{ℕ, List, [], ◌∷◌, ◌++◌, refl, sym, ap, subst}
use Rattle.std.specs.Prelude.{Option}
use Rattle.beam_values.specs.declared.file_text.FileText.{FileText}
use Rattle.beam_values.specs.declared.options.Options.{Options}
use Rattle.beam_values.specs.declared.piece.FileLen.{FileLen}
use Rattle.beam_values.specs.declared.plan.Plan.{Plan}
use Rattle.book_core.specs.Book.{SeenBook}
use Rattle.book_core.specs.Runs.{IsOpening, MadeStep, Run}
use Rattle.book_core.specs.Steps.{Action, Answer, Claim, Claimed, Commit, Committed, Fail, Split, SplitAt, Take}
use Rattle.schedule_words.specs.Schedules.{lines_of}
use Rattle.schedule_words.specs.declared.line.Line.{Line}
use Rattle.schedule_words.specs.declared.line.Line.TheVariants as line
use Rattle.schedule_replay.specs.Drains.{AreDrained, Drained, drain_line, steps_of}
use Rattle.schedule_replay.specs.Lines.{IsOneDone, IsStepMade, fault_of}
use Rattle.schedule_replay.specs.Replays.{AreWorked, IsLineDone, IsReplay, enrolls}
use Rattle.schedule_replay.specs.Stands.{Stand, work_at}
use Rattle.schedule_replay.specs.Works.{Worked}

module _ (told : Option (List FileText)) where
  runs_on : (steps others : List MadeStep) (b mid end : SeenBook) → Run told b steps mid → Run told mid others end → Run told b (steps ++ others) end
  runs_on [] others b mid end one two = subst (λ (x : SeenBook). Run told x others end) one two
  runs_on (made ∷ steps) others b mid end one two = (one.0, one.1, runs_on steps others one.0 mid end one.2 two)

  step_runs : (slot : ℕ) (action : Action) (answer : Answer) (b new : SeenBook) (steps : List MadeStep) → IsStepMade told slot action answer b new steps → Run told b steps new
  step_runs slot action answer b new steps made = subst (λ (l : List MadeStep). Run told b l new) (sym made.made) (new, made.step, refl)

  -- ---- a line

  one_runs : (s new : Stand) (one : Line) (steps : List MadeStep) (works : List Worked) (text : List ℕ) → IsOneDone told s one steps works text new → Run told s.book steps new.book
  one_runs s new (line.Take slot) steps works text done = step_runs slot Take done.0 s.book new.book steps done.2.made
  one_runs s new (line.Claim slot) steps works text done = step_runs slot (Claim done.work.next) (Claimed done.granted) s.book new.book steps done.made
  one_runs s new (line.RunJob slot) steps works text done = subst (λ (l : List MadeStep). Run told s.book l new.book) (sym done.none) done.same
  one_runs s new (line.Split slot num den) steps works text done = step_runs slot (Split num den) (SplitAt done.at) s.book new.book steps done.made
  one_runs s new (line.Commit slot) steps works text done = step_runs slot Commit Committed s.book new.book steps done.made
  one_runs s new (line.Fail slot) steps works text done =
      step_runs slot (Fail (fault_of done.work.job done.work.stage).at (fault_of done.work.job done.work.stage).cause) done.answer s.book new.book steps done.made
  one_runs s new line.Drain steps works text done = absurd done

  drained_runs : (bundle emitted : ℕ) (s : Stand) (lines : List Drained) (last : ℕ) (end : Stand) → AreDrained told bundle emitted s lines last end → Run told s.book (steps_of lines) end.book
  drained_runs bundle emitted s [] last end are = ap (λ (x : Stand). x.book) are.1
  drained_runs bundle emitted s (one ∷ later) last end are =
      runs_on one.steps (steps_of later) s.book one.stand.book end.book (one_runs s one.stand (drain_line bundle emitted (work_at s 0)) one.steps one.works one.text are.0.done)
      (drained_runs bundle one.emitted one.stand later last end are.1)

  line_runs : (s new : Stand) (one : Line) (steps : List MadeStep) (works : List Worked) (text : List ℕ) → IsLineDone told s one steps works text new → Run told s.book steps new.book
  line_runs s new line.Drain steps works text done =
      subst (λ (l : List MadeStep). Run told s.book l new.book) (sym done.made)
      (runs_on (steps_of done.lines) done.last_steps s.book done.mid.book new.book (drained_runs s.book.options.bundle 0 s done.lines done.emitted done.mid done.drained)
      (step_runs 0 Take done.answer done.mid.book new.book done.last_steps done.last.made))
  line_runs s new (line.Take slot) steps works text done = one_runs s new (line.Take slot) steps works text done
  line_runs s new (line.Claim slot) steps works text done = one_runs s new (line.Claim slot) steps works text done
  line_runs s new (line.RunJob slot) steps works text done = one_runs s new (line.RunJob slot) steps works text done
  line_runs s new (line.Split slot num den) steps works text done = one_runs s new (line.Split slot num den) steps works text done
  line_runs s new (line.Commit slot) steps works text done = one_runs s new (line.Commit slot) steps works text done
  line_runs s new (line.Fail slot) steps works text done = one_runs s new (line.Fail slot) steps works text done

  -- ---- lines, and a whole replay

  pub lines_run : (s end : Stand) (lines : List (List ℕ)) (steps : List MadeStep) (works : List Worked) (text : List ℕ) → AreWorked told s lines steps works text end → Run told s.book steps end.book
  lines_run s end [] steps works text are = subst (λ (l : List MadeStep). Run told s.book l end.book) (sym are.0) (ap (λ (x : Stand). x.book) are.3)
  lines_run s end (words ∷ lines) steps works text are =
      subst (λ (l : List MadeStep). Run told s.book l end.book) (sym are.9)
      (runs_on are.1 are.2 s.book are.0.book end.book (line_runs s are.0 are.7.one are.1 are.3 are.5 are.7.done) (lines_run are.0 end lines are.2 are.4 are.6 are.8))

  pub replay_runs : (plan : Plan) (files : List FileLen) (options : Options) (schedule : List ℕ) (steps : List MadeStep) (works : List Worked) (book : SeenBook) (text : List ℕ)
      → IsReplay told plan files options schedule steps works book text → (first : SeenBook) × IsOpening plan files options first × Run told first steps book
  replay_runs plan files options schedule steps works book text is =
      let own : Run told is.start.book is.own book =
      subst (λ (b : SeenBook). Run told is.start.book is.own b) is.is (lines_run is.start is.end (lines_of schedule) is.own works is.lines is.worked)
      in (
        is.begins.first,
        is.begins.opening,
        subst (λ (l : List MadeStep). Run told is.begins.first l book) (sym is.made)
            (runs_on (enrolls options.workers) is.own is.begins.first is.start.book book is.begins.enrolled own),
      )
