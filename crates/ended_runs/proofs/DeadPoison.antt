-- Where the files are told and calls fail on poison alone, what an honest run sets aside is poison.
use Rattle.std.proofs.Common.{◌≡◌, inl, inr, ℕ, ◌+◌, true, List, [], ◌∷◌, ◌++◌, sym, subst, ◌∙◌}
use Rattle.std.specs.Prelude.{Option, Some, None}
use Rattle.std.specs.List.{All, list_any}
use Rattle.std.proofs.lemmas.Bool.{false≢true}
use Rattle.std.proofs.lemmas.List.Elements.{All-nil}
use Rattle.beam_values.specs.Cover.{single}
use Rattle.beam_values.specs.Intervals.{Offsets}
use Rattle.beam_values.specs.declared.cell.Pane.{Pane}
use Rattle.beam_values.specs.declared.fault.Cause.TheVariants.{Call}
use Rattle.beam_values.specs.declared.fault.FaultNote.{FaultNote}
use Rattle.beam_values.specs.declared.file_text.FileText.{FileText}
use Rattle.beam_values.specs.declared.outcome.Outcome.{Outcome}
use Rattle.beam_values.specs.declared.piece.Piece.{Piece}
use Rattle.beam_values.specs.declared.plan.Plan.{Plan}
use Rattle.beam_model.specs.Coverings.{item_at, spread_of}
use Rattle.beam_model.specs.Spread.{is_poison}
use Rattle.book_core.specs.Book.{SeenBook, live_pieces}
use Rattle.book_core.specs.Calls.{IsOutcomeOf}
use Rattle.book_core.specs.Jobs.{job_of}
use Rattle.book_core.specs.Runs.{HonestRun, HonestlyReached, IsHonestAction, IsOpening, MadeStep}
use Rattle.book_core.specs.Steps.{Action, Fail}
use Rattle.book_core.specs.Work.{IsHonest, Surroundings, items_told}
use Rattle.book_core.specs.declared.live.Live.TheVariants as live
use Rattle.book_core.proofs.AllKept.{honest_reached}
use Rattle.book_core.proofs.SaneAlways.{reached_sane}
use Rattle.book_core.proofs.SetAside.{first_all}
use Rattle.book_core.proofs.Sources.{AreLiveSound, IsBreaking, SourceStep, dead_kept, pieces_kept, source_step}
use Rattle.ended_runs.specs.DeadLetters.{AreDeadPoison, IsPoisonDead, IsPoisonPosition, IsPoisonWhereSpent}
use Rattle.ended_runs.proofs.Stopped.{honest_more, opening_reached}
use Rattle.ended_runs.proofs.Unpoisoned.{call_is_poison}

not_some : (spent : Option FaultNote) (note : FaultNote) → spent ≡ None → spent ≡ Some note → ⊥
not_some spent note fresh e = cc

module _ (known : Surroundings) (told : List FileText) (tells : known.told ≡ Some told) (strict : known.strict ≡ true) where
  -- an honest fail of a call on a range of one position: it is poison
  one_poison : (plan : Plan) (panes : List Pane) (piece : Piece) (attempted : Option ℕ) (at : ℕ) → piece.range.to ≡ piece.range.from + 1
      → IsHonest known plan (job_of panes (live.Span piece attempted)) attempted at Call → IsPoisonPosition told plan piece.node piece.item piece.range.from
  one_poison plan panes piece attempted at one honest = elim honest [
    | inl loose ↦ absurd (false≢true (sym loose ∙ strict))
    | inr called ↦
        subst (λ (t : Option (List FileText)). list_any is_poison (spread_of plan (single piece.range.from) (item_at (items_told t plan) piece.node piece.item)) ≡ true) tells
        (subst (λ (o : Offsets). list_any is_poison (spread_of plan o (item_at (items_told known.told plan) piece.node piece.item)) ≡ true)
        (λ i. record { from = piece.range.from; to = one i })
        (call_is_poison known told tells plan panes (live.Span piece attempted) at called))
  ]

  -- ---- one step

  breaks_poison : (b : SeenBook) (slot : ℕ) (action : Action) → IsHonestAction known b slot action → (piece : Piece) (attempted : Option ℕ) (note : FaultNote)
      → IsBreaking b slot action piece attempted note → piece.range.to ≡ piece.range.from + 1 → IsPoisonPosition told b.plan piece.node piece.item piece.range.from
  breaks_poison b slot action honest piece attempted note breaks one =
      let failed : IsHonestAction known b slot (Fail note.at Call) = subst (IsHonestAction known b slot) breaks.asked honest in
      one_poison b.plan b.panes piece attempted note.at one (failed (live.Span piece attempted) breaks.works)

  step_poison : (b new : SeenBook) (slot : ℕ) (action : Action) → SourceStep b slot action new → IsHonestAction known b slot action → AreDeadPoison told b → AreDeadPoison told new
  step_poison b new slot action s honest h = record {
    pieces = subst (λ (p : Plan). All (IsPoisonWhereSpent told p) (new.pending ++ live_pieces new)) (sym s.plan)
        (pieces_kept b slot action new s (IsPoisonWhereSpent told b.plan) (λ piece fresh note e. absurd (not_some piece.spent note fresh e))
        (λ piece attempted note breaks one other e. breaks_poison b slot action honest piece attempted note breaks one) h.pieces);
    dead = subst (λ (p : Plan). All (IsPoisonDead told p) new.dead) (sym s.plan)
        (dead_kept b slot action new s (IsPoisonDead told b.plan) (IsPoisonWhereSpent told b.plan) (λ piece note spent poison. poison note spent) h.pieces h.dead);
  }

  -- ---- all steps

  live_sound : (b : SeenBook) → HonestlyReached known b → AreLiveSound b
  live_sound b reached =
      let sane = reached_sane known.told b (honest_reached known b reached) in
      record { attempted = sane.attempted; below = sane.attempts.worked_pieces }

  run_poison : (steps : List MadeStep) (b last : SeenBook) → HonestRun known b steps last → HonestlyReached known b → AreDeadPoison told b → AreDeadPoison told last
  run_poison [] b last run reached h = subst (AreDeadPoison told) (sym run) h
  run_poison (made ∷ later) b last run reached h =
      run_poison later run.0 last run.3 (honest_more known b run.0 made run.1 run.2 reached)
      (step_poison b run.0 made.slot made.action (source_step known.told b run.0 made.slot made.action made.answer run.1 (live_sound b reached)) run.2 h)

  opening_poison : (b first : SeenBook) → IsOpening b.plan b.files b.options first → AreDeadPoison told first
  opening_poison b first opening = subst (AreDeadPoison told) (sym opening.is) (record {
    pieces = first_all (IsPoisonWhereSpent told b.plan) (λ piece untried fresh note e. absurd (not_some piece.spent note fresh e)) b.options.chunk b.files;
    dead = All-nil (IsPoisonDead told b.plan);
  })

  pub book_poison : (b : SeenBook) → HonestlyReached known b → AreDeadPoison told b
  book_poison b reached =
      run_poison reached.steps reached.first b reached.run (opening_reached known b reached.first reached.opening) (opening_poison b reached.first reached.opening)

  pub outcome_poison : (b : SeenBook) (o : Outcome) → HonestlyReached known b → IsOutcomeOf b o → All (IsPoisonDead told o.plan) o.dead
  outcome_poison b o reached of =
      subst (λ (p : Plan). All (IsPoisonDead told p) o.dead) (sym of.plan) (subst (All (IsPoisonDead told b.plan)) (sym of.dead) (book_poison b reached).dead)
