-- Runs of honest steps follow on one another, and claims are such a run, which changes nothing but what the slot has attempted.
use Rattle.std.proofs.Common.{◌≡◌, ℕ, Bool, List, [], ◌∷◌, ◌++◌, length, refl, sym, ap, subst, ◌∙◌}
use Rattle.std.specs.Prelude.{Some}
use Rattle.book_core.specs.Book.{SeenBook}
use Rattle.book_core.specs.Left.{rounds_left}
use Rattle.book_core.specs.Runs.{HonestRun, IsHonestAction, MadeStep}
use Rattle.book_core.specs.Steps.{Action, Answer, Claim, Claimed, IsClaiming, Step}
use Rattle.book_core.specs.Work.{Surroundings}
use Rattle.book_core.specs.declared.live.Live.TheVariants as live
use Rattle.book_core.proofs.Reaching.{HasSamePlan, step_same}
use Rattle.known_jobs.specs.Jobs.{Setting}
use Rattle.lone_worker.specs.Alone.{IsBookIn, IsIdleBut, IsRunOn}
use Rattle.lone_worker.specs.Claims.{AreClaims, ClaimsLead, MadeClaim}
use Rattle.lone_worker.proofs.Slots.{same_slots, still_but}

-- ---- runs

pub run_none : (known : Surroundings) (b : SeenBook) → IsRunOn known b b
run_none known b = record { steps = []; run = refl }

pub run_where : (known : Surroundings) (b new : SeenBook) → new ≡ b → IsRunOn known b new
run_where known b new is = record { steps = []; run = is }

pub run_one : (known : Surroundings) (b new : SeenBook) (slot : ℕ) (action : Action) (answer : Answer) → Step known.told b slot action answer new → IsHonestAction known b slot action → IsRunOn known b new
run_one known b new slot action answer step honest = record { steps = record { slot = slot; action = action; answer = answer } ∷ []; run = (new, step, honest, refl) }

run_on : (known : Surroundings) (steps others : List MadeStep) (b mid new : SeenBook) → HonestRun known b steps mid → HonestRun known mid others new → HonestRun known b (steps ++ others) new
run_on known [] others b mid new one two = subst (λ (x : SeenBook). HonestRun known x others new) one two
run_on known (made ∷ steps) others b mid new one two = (one.0, one.1, one.2, run_on known steps others one.0 mid new one.3 two)

pub run_onward : (known : Surroundings) (b mid new : SeenBook) → IsRunOn known b mid → IsRunOn known mid new → IsRunOn known b new
run_onward known b mid new one two = record { steps = one.steps ++ two.steps; run = run_on known one.steps two.steps b mid new one.run two.run }

-- ---- what no run changes

pub in_same : (setting : Setting) (b new : SeenBook) → HasSamePlan b new → IsBookIn setting b → IsBookIn setting new
in_same setting b new same is = record { plan = same.plan ∙ is.plan; files = same.files ∙ is.files; options = same.options ∙ is.options }

run_same : (setting : Setting) (known : Surroundings) (steps : List MadeStep) (b new : SeenBook) → HonestRun known b steps new → IsBookIn setting b → IsBookIn setting new
run_same setting known [] b new run is = subst (IsBookIn setting) (sym run) is
run_same setting known (made ∷ steps) b new run is =
    run_same setting known steps run.0 new run.3 (in_same setting b run.0 (step_same known.told b run.0 made.slot made.action made.answer run.1) is)

pub in_after : (setting : Setting) (known : Surroundings) (b new : SeenBook) → IsRunOn known b new → IsBookIn setting b → IsBookIn setting new
in_after setting known b new run is = run_same setting known run.steps b new run.run is

-- ---- claims

-- what claims leave of a book
pub record KeepsRound (setting : Setting) (slot : ℕ) (b new : SeenBook) : Type 0 where
  pub run : IsRunOn setting.known b new
  pub stopped : new.stopped ≡ b.stopped
  pub slots : length new.slots ≡ length b.slots
  pub commits : new.commits ≡ b.commits
  pub calls : new.calls ≡ b.calls
  pub reads : new.reads ≡ b.reads
  pub rounds : rounds_left new ≡ rounds_left b
  pub others : IsIdleBut b slot → IsIdleBut new slot

keeps_where : (setting : Setting) (slot : ℕ) (b new : SeenBook) → new ≡ b → KeepsRound setting slot b new
keeps_where setting slot b new is =
    subst (KeepsRound setting slot b) (sym is) (record { run = run_none setting.known b; stopped = refl; slots = refl; commits = refl; calls = refl; reads = refl; rounds = refl; others = λ others. others })

module _ (setting : Setting) (slot : ℕ) (bounded : (b new : SeenBook) (slot p : ℕ) (granted : Bool) → IsClaiming b slot p granted new → rounds_left new ≡ rounds_left b) where
  leads_keep : (claims : List MadeClaim) (b new : SeenBook) → ClaimsLead slot b claims new → KeepsRound setting slot b new
  leads_keep [] b new lead = keeps_where setting slot b new lead
  leads_keep (claim ∷ claims) b new lead =
      let next = lead.0 in
      let step = lead.1 in
      let later = leads_keep claims next new lead.2 in
      record {
        run = run_onward setting.known b next new (run_one setting.known b next slot (Claim claim.p) (Claimed claim.granted) step tt) later.run;
        stopped = later.stopped ∙ ap (λ (x : SeenBook). x.stopped) step.is;
        slots = later.slots ∙ same_slots b next slot (Some (live.Span step.piece (Some claim.p))) (ap (λ (x : SeenBook). x.slots) step.is);
        commits = later.commits ∙ ap (λ (x : SeenBook). x.commits) step.is;
        calls = later.calls ∙ ap (λ (x : SeenBook). x.calls) step.is;
        reads = later.reads ∙ ap (λ (x : SeenBook). x.reads) step.is;
        rounds = later.rounds ∙ bounded b next slot claim.p claim.granted step;
        others = λ others. later.others (still_but b next slot (live.Span step.piece (Some claim.p)) (ap (λ (x : SeenBook). x.slots) step.is) others);
      }

  pub claims_keep : (b new : SeenBook) → AreClaims slot b new → KeepsRound setting slot b new
  claims_keep b new are = leads_keep are.claims b new are.lead
