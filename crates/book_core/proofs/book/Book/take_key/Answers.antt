use Rattle.std.proofs.Common.{◌≡◌, ◌<◌, length, refl, sym, subst, ap, ◌∙◌}
use Rattle.std.proofs.lemmas.Option.{slice_get_within}
use Rattle.std.specs.Prelude.{List, [], Option, None}
use Rattle.beam_values.specs.declared.marks.StageMarks.{StageMarks}
use Rattle.stateful_core.specs.Taking.{IsTaken, IsTakenOrNone, change, with_job}
use Rattle.stateful_core.specs.declared.key_job.KeyTurn.{KeyTurn}
use Rattle.book_core.specs.Book.{SeenBook, last_marks}
use Rattle.book_core.specs.Inside.{data_of}
use Rattle.book_core.specs.Jobs.{first_due, job_of}
use Rattle.book_core.specs.KeyCells.{cells_in}
use Rattle.book_core.specs.Steps.{IsRunning, IsFree, Take, TakenJob}
use Rattle.book_core.specs.declared.live.Live.TheVariants as live
use Rattle.book_core.proofs.Steady.{makes_seen}
use Rattle.book_core.proofs.Takings.{key_counted, key_indexed, makes_key}
use Rattle.book_core.proofs.book.Book.take_key.Goals as goal

-- what is handed out is the next job at the last marks, which is worked from now on
taken : (c : goal.After-key_job) → IsTaken (last_marks (data_of c.self.inside)) (data_of c.self.inside).options.bundle (data_of c.self.inside).keys c.in-Some.turn (cells_in c.start_job.new.self)
taken c =
    let b = data_of c.self.inside in
    let next = subst (λ (m : List StageMarks). IsTaken m b.options.bundle b.keys c.in-Some.turn c.in_ok-turn.ensures.0) c.last_marks-marks.ensures
    (subst (λ (o : Option KeyTurn). IsTakenOrNone c.last_marks-marks.result.now b.options.bundle b.keys o c.in_ok-turn.ensures.0) c.in-Some.is c.in_ok-turn.ensures.1) in
    record {
      place = next.place;
      next = next.next;
      cell = next.cell;
      is_at = next.is_at;
      handed = next.handed;
      is = c.start_job.ensures ∙ ap (λ (turn : KeyTurn). change (with_job b.options.bundle) turn.cell b.keys) next.handed;
    }

-- and so is what the slot keeps
kept : (c : goal.After-key_job) → IsTaken (last_marks (data_of c.self.inside)) (data_of c.self.inside).options.bundle (data_of c.self.inside).keys c.in_ok-worked.worked (cells_in c.start_job.new.self)
kept c =
    subst (λ (turn : KeyTurn). IsTaken (last_marks (data_of c.self.inside)) (data_of c.self.inside).options.bundle (data_of c.self.inside).keys turn (cells_in c.start_job.new.self))
    (sym c.in_ok-worked.ensures) (taken c)

-- its cell stands
pub start_job-requires : goal.start_job-requires
start_job-requires c =
    let b = data_of c.self.inside in
    let next = subst (λ (o : Option KeyTurn). IsTakenOrNone c.last_marks-marks.result.now b.options.bundle b.keys o c.in_ok-turn.ensures.0) c.in-Some.is c.in_ok-turn.ensures.1 in
    subst (λ (turn : KeyTurn). turn.cell < length b.keys) (sym next.handed) (slice_get_within b.keys next.place.at next.cell next.is_at)

pub invariant_of-self : goal.invariant_of-self
invariant_of-self c =
    let b = data_of c.self.inside in
    let running = subst IsRunning (sym c.self.view_is) c.requires.running in
    let free = subst (λ (x : SeenBook). IsFree x c.args.slot) (sym c.self.view_is) c.requires.free in
    let none = subst (λ (x : SeenBook). first_due x ≡ None) (sym c.self.view_is) c.requires.none in
    record {
      indexed =
          key_indexed b c.args.slot c.in_ok-worked.worked (cells_in c.start_job.new.self) _ running free none (kept c) refl c.self.invariant.indexed.sane
          c.self.inside.held c.self.inside.pieces.room c.self.inside.returned.room c.self.invariant.indexed;
      grouped = c.self.invariant.grouped;
      counted =
          c.self.invariant.counted
          ∙ sym (key_counted b c.args.slot c.in_ok-worked.worked (cells_in c.start_job.new.self) _ running free none (kept c) refl c.self.invariant.indexed.sane);
    }

pub returns-clause-ok : goal.returns-clause-ok
returns-clause-ok c =
    let b = data_of c.self.inside in
    makes_seen b _ _ c.args.slot Take (TakenJob c.key_job.result) c.self.view_is
    (makes_key b c.args.slot c.in_ok-worked.worked (cells_in c.start_job.new.self) _ (subst IsRunning (sym c.self.view_is) c.requires.running)
    (subst (λ (x : SeenBook). IsFree x c.args.slot) (sym c.self.view_is) c.requires.free) (subst (λ (x : SeenBook). first_due x ≡ None) (sym c.self.view_is) c.requires.none)
    (kept c) refl c.self.invariant.indexed.sane c.key_job.result (c.key_job.ensures ∙ ap (λ (t : KeyTurn). job_of [] (live.Key t)) (sym c.in_ok-worked.ensures)))
