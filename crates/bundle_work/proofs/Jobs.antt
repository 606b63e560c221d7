-- What is given for a job, or honest to tell of it, as the pass knows it.
use Rattle.std.proofs.Common.{◌≡◌, ◌∙◌, inl, inr, ℕ, Bool, true, false, List, map, refl, sym, ap, subst}
use Rattle.std.specs.Prelude.{Option, Some, None, IsSome, IsSomeAnd, slice_get, unwrap_or}
use Rattle.std.specs.Option.{option_and_then, option_map}
use Rattle.beam_values.specs.Nodes.{is_stateful, is_stateful_kind}
use Rattle.beam_values.specs.declared.cell.Pane.{Pane}
use Rattle.beam_values.specs.declared.fault.Cause.TheVariants.{Call, Read}
use Rattle.beam_values.specs.declared.file_text.FileText.{FileText}
use Rattle.beam_values.specs.declared.plan.Node.{Node}
use Rattle.beam_values.specs.declared.plan.NodeKind.{NodeKind}
use Rattle.beam_values.specs.declared.plan.NodeKind.TheVariants.{Stateful}
use Rattle.beam_values.specs.declared.plan.Plan.{Plan}
use Rattle.beam_model.specs.Chains.{Arrives}
use Rattle.beam_model.specs.Flow.{batch_outputs}
use Rattle.beam_ports.specs.Observed.{ObservedStore}
use Rattle.book_core.specs.Work.{Surroundings, IsGiven, IsHonest, folded_by}
use Rattle.bundle_commit.specs.declared.job.Job.{Job}
use Rattle.bundle_commit.specs.declared.job.Job.TheVariants as job
use Rattle.bundle_commit.specs.declared.job.Receipt.{Receipt}
use Rattle.chain_exec.specs.Causes.{IsCallRefused, ObservedShelf}
use Rattle.chain_exec.specs.KeyCalls.{folded_of, folded_of_job, outputs_of_job, state_work_at, state_work_in, state_work_of}
use Rattle.chain_exec.specs.declared.refusal.ExecRefusal.{ExecRefusal}
use Rattle.chain_exec.specs.declared.refusal.ExecRefusal.TheVariants.{Faulted, NoMemory}
use Rattle.known_jobs.specs.Calls.{CanCommitAs, CanFailAs, FailsInside, IsAttemptedInside, IsFreshJob}
use Rattle.known_jobs.specs.Jobs.{KnownJob, Setting}
use Rattle.bundle_work.specs.Bundles.{IsJobRefused, IsWorkRefused}

module _ (setting : Setting) (plan : Plan) (same : plan ≡ setting.plan) (work : Job) (attempted : Option ℕ) (known : Option KnownJob)
    (is : known ≡ Some (record { job = work; attempted = attempted })) where
  pub job_given : (receipt : Receipt) → IsGiven None plan work attempted receipt → IsGiven setting.known.told plan work attempted receipt → CanCommitAs setting known receipt
  job_given receipt untold told =
      subst (λ (k : Option KnownJob). CanCommitAs setting k receipt) (sym is)
      (subst (λ (p : Plan). IsGiven None p work attempted receipt × IsGiven setting.known.told p work attempted receipt) same (untold, told))

  pub job_refused : IsFreshJob work → IsAttemptedInside work attempted → (shelf : ObservedShelf) (store : ObservedStore) (refusal : ExecRefusal)
      → IsWorkRefused setting.known shelf store plan work attempted refusal → IsJobRefused setting shelf store known refusal
  job_refused fresh inside shelf store NoMemory refused = tt
  job_refused fresh inside shelf store (Faulted at cause) refused = (
    refused.0,
    subst (λ (k : Option KnownJob). CanFailAs setting k at cause) (sym is) (fresh, subst (λ (p : Plan). IsHonest setting.known p work attempted at cause) same refused.1),
    subst FailsInside (sym is) inside,
  )

-- ---- a batch

pub batch_refused : (known : Surroundings) (plan : Plan) (node first attempts : ℕ) (panes : List Pane) (shelf : ObservedShelf) (store : ObservedStore) → (known.strict ≡ true → shelf.strict ≡ true)
    → (refusal : ExecRefusal) → IsCallRefused shelf (batch_outputs plan node panes) refusal → IsWorkRefused known shelf store plan (job.Batch node first panes attempts) None refusal
batch_refused known plan node first attempts panes shelf store stricter NoMemory refused = tt
batch_refused known plan node first attempts panes shelf store stricter (Faulted at Read) refused = absurd refused
batch_refused known plan node first attempts panes shelf store stricter (Faulted at Call) refused = (refused.0, by known.strict refl)
  where
    by : (strict : Bool) → known.strict ≡ strict → IsHonest known plan (job.Batch node first panes attempts) None at Call
    by false is = inl is
    by true is = inr (refused.1 (stricter is))

-- ---- the job of a key cell

kind_works : (kind : NodeKind) → is_stateful_kind kind ≡ true → IsSome (state_work_in kind)
kind_works (Stateful work args log) e = refl
kind_works _ e = absurd (cc)

-- a Stateful node has a function that is called
pub node_works : (plan : Plan) (node : ℕ) → is_stateful plan node ≡ true → IsSome (state_work_at plan node)
node_works plan node e = by (slice_get plan.nodes node) e
  where
    by : (found : Option Node) → unwrap_or (option_map (λ (n : Node). is_stateful_kind n.kind) found) false ≡ true → IsSome (option_and_then (λ (n : Node). state_work_in n.kind) found)
    by None e = absurd (cc)
    by (Some n) e = kind_works n.kind e

noted : {A B : Type 0} (f g : A → B) → ((x : A) → f x ≡ g x) → (found : Option B) (logged : Option A) → IsSomeAnd logged (λ l. found ≡ Some (g l)) → option_map f logged ≡ found
noted {A} {B} f g same found (Some l) e = ap Some (same l) ∙ sym e
noted {A} {B} f g same found None e = absurd e

pub key_given : (told : Option (List FileText)) (plan : Plan) (work : Job) (receipt : Receipt) → IsSome (state_work_of plan work) → map Arrives receipt.arrivals ≡ outputs_of_job plan work
    → IsSomeAnd receipt.logged (λ logged. folded_of_job plan work ≡ Some (folded_of logged)) → IsGiven told plan work None receipt
key_given told plan (job.Key node cell key span inputs state timers attempts) receipt works arrives logs = record {
  arrives = arrives;
  logs = noted folded_by folded_of (λ l. refl) (folded_of_job plan (job.Key node cell key span inputs state timers attempts)) receipt.logged logs;
}
key_given told plan (job.Span piece) receipt works arrives logs = absurd (cc)
key_given told plan (job.Batch node first panes attempts) receipt works arrives logs = absurd (cc)

pub key_refused : (known : Surroundings) (plan : Plan) (work : Job) (shelf : ObservedShelf) (store : ObservedStore) → (known.strict ≡ true → shelf.strict ≡ true) → IsSome (state_work_of plan work)
    → (refusal : ExecRefusal) → IsCallRefused shelf (outputs_of_job plan work) refusal → IsWorkRefused known shelf store plan work None refusal
key_refused known plan (job.Key node cell key span inputs state timers attempts) shelf store stricter works NoMemory refused = tt
key_refused known plan (job.Key node cell key span inputs state timers attempts) shelf store stricter works (Faulted at Read) refused = absurd refused
key_refused known plan (job.Key node cell key span inputs state timers attempts) shelf store stricter works (Faulted at Call) refused = (refused.0, by known.strict refl)
  where
    by : (strict : Bool) → known.strict ≡ strict → IsHonest known plan (job.Key node cell key span inputs state timers attempts) None at Call
    by false is = inl is
    by true is = inr (refused.1 (stricter is))
key_refused known plan (job.Span piece) shelf store stricter works refusal refused = absurd (cc)
key_refused known plan (job.Batch node first panes attempts) shelf store stricter works refusal refused = absurd (cc)
