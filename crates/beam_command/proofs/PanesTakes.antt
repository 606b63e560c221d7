-- A run of `panes` over files without poison takes none.
use Rattle.std.proofs.Common.{◌≡◌, ℕ, zero, suc, ℤ, true, false, List, [], ◌∷◌, Option, Some, None, slice_get, refl, sym, ap, subst, ◌∙◌}
use Rattle.std.specs.Prelude.{slice_set}
use Rattle.std.specs.List.{list_any}
use Rattle.beam_values.specs.declared.cell.Pane.{Pane}
use Rattle.beam_values.specs.declared.file_text.FileText.{FileText}
use Rattle.beam_values.specs.declared.options.Options.{Options}
use Rattle.beam_values.specs.declared.plan.Plan.{Plan}
use Rattle.beam_model.specs.Plans.{panes_plan}
use Rattle.beam_model.specs.Positions.{items}
use Rattle.beam_model.specs.Spread.{HasPoison, is_poison}
use Rattle.beam_model.specs.Flow.{batch_outputs}
use Rattle.book_core.specs.Book.{SeenBook, panes_of}
use Rattle.book_core.specs.Facts.{AreKept}
use Rattle.book_core.specs.Jobs.{Due, GivenBack, Oldest, job_of, without_due}
use Rattle.book_core.specs.Runs.{HonestlyReached}
use Rattle.book_core.specs.Steps.{IsWorking, Take, TakenJob}
use Rattle.book_core.specs.Work.{IsPoisonJob, Surroundings}
use Rattle.book_core.specs.declared.live.Live.{Live}
use Rattle.book_core.specs.declared.live.Live.TheVariants as live
use Rattle.ended_runs.proofs.Stopped.{honest_more}
use Rattle.ended_runs.proofs.Unpoisoned.{take_keeps}
use Rattle.ended_runs.specs.Unpoisoned.{TakesNoPoison}
use Rattle.beam_command.proofs.PanesPoison.{poison_is_first, range_is_poison}
use Rattle.beam_command.proofs.PanesStops.{batch_comes, batch_held, no_key_outputs}

get_set : {X : Type 0} (xs : List X) (i : ℕ) (old new : X) → slice_get xs i ≡ Some old → slice_get (slice_set xs i new) i ≡ Some new
get_set [] i old new at = absurd cc
get_set (x ∷ xs) zero old new at = refl
get_set (x ∷ xs) (suc i) old new at = get_set xs i old new at

abbrev Worked : Type 0
Worked = Plan × (List Pane × List (Option Live))

abbrev worked_of : SeenBook → Worked
worked_of b = (b.plan, (b.panes, b.slots))

due_worked : (b : SeenBook) (d : Due) → worked_of (without_due b d).rest ≡ worked_of b
due_worked b (GivenBack batch) = refl
due_worked b (Oldest batch) = refl

module _ (file : List ℕ) (size : ℤ) (told : List FileText) (clean : HasPoison (panes_plan file size) (items told (panes_plan file size)) → ⊥) where
  abbrev plan : Plan
  plan = panes_plan file size

  -- what a slot works is no poison
  works_none : (b : SeenBook) → b.plan ≡ plan → AreKept b → (slot : ℕ) (job : Live) → IsWorking b slot job → IsPoisonJob (Some told) plan (job_of b.panes job) → ⊥
  works_none b of kept slot (live.Span piece attempted) works poison =
      clean (range_is_poison file size told piece.node piece.item piece.range.from piece.range.to poison)
  works_none b of kept slot (live.Batch batch) works poison =
      let first = poison_is_first (batch_outputs plan batch.node (panes_of b.panes batch.panes)) poison in
      batch_comes file size b of kept batch.node first.0 batch.panes (batch_held file size b of kept slot batch works) first.1
  works_none b of kept slot (live.Key turn) works poison =
      absurd (let none = no_key_outputs file size turn.node turn.key turn.span turn.inputs (record { cells = turn.state; timers = turn.timers }) in
      let any : false ≡ true = sym (ap (list_any is_poison) none) ∙ poison in cc)

  abbrev seen : Surroundings
  seen = record { told = Some told; strict = true }

  pub takes_none : (options : Options) → ((b : SeenBook) → HonestlyReached seen b → AreKept b) → TakesNoPoison seen plan options
  takes_none options kept b new slot job reached of with_options lengths step poison =
      let rest = take_keeps worked_of b (λ ps. refl) (due_worked b) (λ cells. refl) step.next step.is_next in
      let now = ap worked_of step.is ∙ ap (λ (w : Worked). (w.0, (w.1.0, slice_set w.1.1 slot (Some step.next.job)))) rest in
      let works : IsWorking new slot step.next.job =
      ap (λ (w : Worked). slice_get w.1.1 slot) now ∙ get_set b.slots slot None (Some step.next.job) step.free in
      let after = honest_more seen b new (record { slot = slot; action = Take; answer = TakenJob job }) step tt reached in
      let same_job : job ≡ job_of new.panes step.next.job = step.handed ∙ ap (λ (panes : List Pane). job_of panes step.next.job) (sym (ap (λ (w : Worked). w.1.0) now)) in
      works_none new (ap (λ (w : Worked). w.0) now ∙ of) (kept new after) slot step.next.job works (subst (IsPoisonJob (Some told) plan) same_job poison)
