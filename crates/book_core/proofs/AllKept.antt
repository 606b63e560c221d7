-- What is kept of books that runs reach: besides that they are sane, what holds whatever the files are, and what holds where they are told.
use Rattle.std.proofs.Common.{◌≡◌, ℕ}
use Rattle.std.specs.Prelude.{[], ◌∷◌, List, Option, Some, None}
use Rattle.beam_values.specs.declared.file_text.FileText.{FileText}
use Rattle.beam_values.specs.declared.options.Options.{Options}
use Rattle.beam_values.specs.declared.piece.FileLen.{FileLen}
use Rattle.beam_values.specs.declared.plan.Plan.{Plan}
use Rattle.book_core.specs.Book.{SeenBook}
use Rattle.book_core.specs.Facts.{AreCellsKept, AreKept, AreKeptOf, AreSeenBefore, AreSetAside, IsBalanced, IsEarlyBook}
use Rattle.book_core.specs.Jobs.{next_job}
use Rattle.book_core.specs.Runs.{HonestRun, HonestlyReached, IsOpening, IsThrough, MadeStep, Reached, Run, opened}
use Rattle.book_core.specs.Sane.{AreKeptWith, IsSane}
use Rattle.book_core.specs.Steps.{Action, Answer, IsIdle, Step}
use Rattle.book_core.specs.Work.{Surroundings}
use Rattle.book_core.proofs.BalancedAlways.{keeps_balanced}
use Rattle.book_core.proofs.Cases.{AreAlways, Both, always_reached, kept_with, step_keeps}
use Rattle.book_core.proofs.CellsAlways.{StrategiesOfPlans, keeps_celled}
use Rattle.book_core.proofs.EarlyAlways.{keeps_early}
use Rattle.book_core.proofs.EarlyEnds.{WindowsOfKind}
use Rattle.book_core.proofs.Ended.{SettingsOfPlans, kept_through}
use Rattle.book_core.proofs.KeysLogged.{AreKeysLogged, keeps_logged}
use Rattle.book_core.proofs.SaneAlways.{sane_always, step_sane}
use Rattle.book_core.proofs.SeenAlways.{AreWithin, keeps_seen}
use Rattle.book_core.proofs.SetAside.{aside_kept, opening_aside}
use Rattle.book_core.proofs.Sources.{AreLiveSound, source_step}

-- ---- whatever the files are

kept_from : (b : SeenBook) → IsSane b → AreCellsKept b → AreSetAside b → AreKept b
kept_from b sane cells aside = record {
  partitioned = sane.partitioned;
  attempted = sane.attempted;
  marks = sane.marks;
  cells = cells;
  held = sane.held;
  writes = sane.writes;
  attempts = sane.attempts;
  aside = aside;
  formed = sane.formed;
  stop = sane.stop;
}

aside_step : (told : Option (List FileText)) (b new : SeenBook) (slot : ℕ) (action : Action) (answer : Answer) → Step told b slot action answer new → IsSane b → AreSetAside b → AreSetAside new
aside_step told b new slot action answer step sane h =
    let sound : AreLiveSound b = record { attempted = sane.attempted; below = sane.attempts.worked_pieces } in
    aside_kept b slot action new (source_step told b new slot action answer step sound) h

pub aside_always : (told : Option (List FileText)) → AreAlways told (Both IsSane AreSetAside)
aside_always told = record {
  opens = λ b first opening. ((sane_always told).opens b first opening, opening_aside b first opening);
  steps = λ b new slot action answer step h. (step_sane told b new slot action answer step h.0, aside_step told b new slot action answer step h.0 h.1);
}

pub reached_aside : (told : Option (List FileText)) (b : SeenBook) → Reached told b → AreSetAside b
reached_aside told b reached = (always_reached told (Both IsSane AreSetAside) (aside_always told) b reached).1

logged_always : (told : Option (List FileText)) → AreAlways told (Both IsSane AreKeysLogged)
logged_always told = kept_with told IsSane AreKeysLogged (sane_always told) (keeps_logged told)

pub reached_logged : (told : Option (List FileText)) (b : SeenBook) → Reached told b → AreKeysLogged b
reached_logged told b reached = (always_reached told (Both IsSane AreKeysLogged) (logged_always told) b reached).1

module _ (strategies : StrategiesOfPlans) (settings : SettingsOfPlans) (windows : WindowsOfKind) where
  pub kept_always : (told : Option (List FileText)) → AreAlways told AreKeptWith
  kept_always told = record {
    opens = λ b first opening.
        let sane = (sane_always told).opens b first opening in
        record {
          sane = sane;
          kept = kept_from first sane ((keeps_celled strategies told).opens b first opening) (opening_aside b first opening);
          keys = (keeps_logged told).opens b first opening;
          early = (keeps_early strategies windows settings told).opens b first opening;
        };
    steps = λ b new slot action answer step h.
        let sane = step_sane told b new slot action answer step h.sane in
        record {
          sane = sane;
          kept = kept_from new sane (step_keeps told IsSane AreCellsKept (keeps_celled strategies told) b new slot action answer step h.sane h.kept.cells)
              (aside_step told b new slot action answer step h.sane h.kept.aside);
          keys = step_keeps told IsSane AreKeysLogged (keeps_logged told) b new slot action answer step h.sane h.keys;
          early = step_keeps told (Both (Both IsSane AreCellsKept) AreKeysLogged) IsEarlyBook (keeps_early strategies windows settings told) b new slot action answer step
              ((h.sane, h.kept.cells), h.keys) h.early;
        };
  }

  pub opened_kept : (plan : Plan) (files : List FileLen) (options : Options) (first : SeenBook) → IsOpening plan files options first → AreKeptWith first
  opened_kept plan files options first opening = (kept_always None).opens (opened plan files options []) first opening

  pub reached_kept_with : (told : Option (List FileText)) (b : SeenBook) → Reached told b → AreKeptWith b
  reached_kept_with told = always_reached told AreKeptWith (kept_always told)

  -- what has no job left is through
  pub reached_through : (told : Option (List FileText)) (b : SeenBook) → Reached told b → next_job b ≡ None → IsIdle b → IsThrough b
  reached_through told b reached = kept_through settings b (reached_kept_with told b reached)

  -- ---- and where the files are told

  module _ (told : List FileText) where
    pub step_kept_of : (b new : SeenBook) (slot : ℕ) (action : Action) (answer : Answer) → Step (Some told) b slot action answer new → AreKeptWith b → AreKeptOf told b → AreKeptOf told new
    step_kept_of b new slot action answer step kept h = record {
      balanced = step_keeps (Some told) AreKeptWith (IsBalanced told) (keeps_balanced told) b new slot action answer step kept h.balanced;
      seen = step_keeps (Some told) AreWithin (AreSeenBefore told) (keeps_seen told) b new slot action answer step kept.sane.attempted h.seen;
    }

    first_kept_of : (b first : SeenBook) → IsOpening b.plan b.files b.options first → AreKeptOf told first
    first_kept_of b first opening = record { balanced = (keeps_balanced told).opens b first opening; seen = (keeps_seen told).opens b first opening }

    pub opened_kept_of : (plan : Plan) (files : List FileLen) (options : Options) (first : SeenBook) → IsOpening plan files options first → AreKeptOf told first
    opened_kept_of plan files options first opening = first_kept_of (opened plan files options []) first opening

    both_always : AreAlways (Some told) (Both AreKeptWith (AreKeptOf told))
    both_always = record {
      opens = λ b first opening. ((kept_always (Some told)).opens b first opening, first_kept_of b first opening);
      steps = λ b new slot action answer step h. ((kept_always (Some told)).steps b new slot action answer step h.0, step_kept_of b new slot action answer step h.0 h.1);
    }

    pub reached_kept_of : (b : SeenBook) → Reached (Some told) b → AreKeptOf told b
    reached_kept_of b reached = (always_reached (Some told) (Both AreKeptWith (AreKeptOf told)) both_always b reached).1

-- what was seen before each piece is known of books that runs reach, whatever the plan
seen_always : (told : List FileText) → AreAlways (Some told) (Both IsSane (AreSeenBefore told))
seen_always told = record {
  opens = λ b first opening. ((sane_always (Some told)).opens b first opening, (keeps_seen told).opens b first opening);
  steps = λ b new slot action answer step h. (
    step_sane (Some told) b new slot action answer step h.0,
    step_keeps (Some told) AreWithin (AreSeenBefore told) (keeps_seen told) b new slot action answer step h.0.attempted h.1,
  );
}

pub reached_seen : (told : List FileText) (b : SeenBook) → Reached (Some told) b → AreSeenBefore told b
reached_seen told b reached = (always_reached (Some told) (Both IsSane (AreSeenBefore told)) (seen_always told) b reached).1

-- ---- honest runs are runs

honest_run : (known : Surroundings) (steps : List MadeStep) (b end : SeenBook) → HonestRun known b steps end → Run known.told b steps end
honest_run known [] b end run = run
honest_run known (made ∷ later) b end run = (run.0, run.1, honest_run known later run.0 end run.3)

pub honest_reached : (known : Surroundings) (b : SeenBook) → HonestlyReached known b → Reached known.told b
honest_reached known b h = record { first = h.first; opening = h.opening; steps = h.steps; run = honest_run known h.steps h.first b h.run }
