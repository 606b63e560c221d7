-- Logs that grow: what leads from the fresh state to a cell's goes on to lead there.
use Rattle.std.proofs.Common.{◌≡◌, ℕ, ◌-◌, ◌<◌, ◌≤◌, ℤ, ◌≤ℤ◌, true, List, [], ◌∷◌, ◌++◌, map, Option, Some, None, refl, sym, ap, subst, ◌∙◌, arith}
use Rattle.std.specs.List.{All}
use Rattle.std.specs.Option.{option_map}
use Rattle.std.proofs.lemmas.List.Elements.{All-nil, All-cons, All-head, All-tail}
use Rattle.std.proofs.lemmas.Option.{option_and_then_some, same_Some}
use Rattle.beam_values.specs.States.{KeptState, IsFirstTimer}
use Rattle.beam_values.specs.declared.log.KeyLog.{KeyLog}
use Rattle.beam_values.specs.declared.log.LogEntry.{LogEntry}
use Rattle.beam_values.specs.declared.log.LogInput.{LogInput}
use Rattle.beam_values.specs.declared.log.LogInput.TheVariants.{Arrived, Fired}
use Rattle.beam_values.specs.declared.log.Timer.{Timer}
use Rattle.beam_values.specs.declared.marks.CommitMarks.{CommitMarks}
use Rattle.beam_values.specs.declared.plan.Args.{Args}
use Rattle.beam_values.specs.declared.plan.StateKind.{StateKind}
use Rattle.beam_model.specs.Logs.{IsLegalInput, Leads}
use Rattle.beam_model.specs.Panes.{mark_after, IsCommit}
use Rattle.beam_model.specs.Sessions.{is_keyed}
use Rattle.beam_model.specs.Steps.{Stepped, steps}
use Rattle.stateful_core.specs.declared.waiting.Waiting.{Waiting}
use Rattle.stateful_core.specs.Facts.{Folded, noted, folded}
use Rattle.stateful_core.specs.Taking.{element_inputs}

map_some : {A B P : Type 0} (f : A → B) (o : Option A) (y : B) → option_map f o ≡ Some y → ((x : A) → o ≡ Some x → f x ≡ y → P) → P
map_some f None y e k = absurd (cc)
map_some f (Some x) y e k = k x refl (cc)

-- ---- another log of the same place, and more commits

module _ (commits others : List CommitMarks) (n : ℕ) where
  legal_under : (log : KeyLog) (kept : KeptState) (c : ℕ) (input : LogInput) → ((d : ℕ) → d < n → mark_after others log.node d ≡ mark_after commits log.node d)
      → IsCommit n c → IsLegalInput commits log kept c input → IsLegalInput others log kept c input
  legal_under log kept c (Arrived e) same within h = h
  legal_under log kept c (Fired timer) same within h =
      (h.0, subst (λ (m : ℤ). timer.time ≤ℤ m) (sym (same (c - 1) (omega (arith, within.0, within.1)))) h.1)

  module _ (kind : StateKind) (args : Args) where
    pub leads_under : (log : KeyLog) (kept : KeptState) (c : ℕ) (entries : List LogEntry) (end : KeptState)
        → ((d : ℕ) → d < n → mark_after others log.node d ≡ mark_after commits log.node d)
        → All (λ entry. IsCommit n entry.commit) entries
        → Leads commits kind args log kept c entries end → Leads others kind args log kept c entries end
    leads_under log kept c [] end same within h = h
    leads_under log kept c (entry ∷ later) end same within h = (
      h.0,
      legal_under log kept entry.commit entry.input same (All-head (λ (e : LogEntry). IsCommit n e.commit) entry later within) h.1,
      (h.2.0, h.2.1, leads_under log h.2.0 entry.commit later end same (All-tail (λ (e : LogEntry). IsCommit n e.commit) entry later within) h.2.2),
    )

module _ (commits : List CommitMarks) (kind : StateKind) (args : Args) (log : KeyLog) where
  pub leads_append : (kept : KeptState) (first c : ℕ) (entries more : List LogEntry) (middle end : KeptState)
      → first ≤ c → All (λ entry. entry.commit ≤ c) entries
      → Leads commits kind args log kept first entries middle → Leads commits kind args log middle c more end
      → Leads commits kind args log kept first (entries ++ more) end
  leads_append kept first c [] [] middle end low within h k = h ∙ k
  leads_append kept first c [] (entry ∷ more) middle end low within h k =
      subst (λ (s : KeptState). Leads commits kind args log s first (entry ∷ more) end) (sym h) (omega (arith, low, k.0), k.1, k.2)
  leads_append kept first c (entry ∷ later) more middle end low within h k = (
    h.0,
    h.1,
    (
      h.2.0,
      h.2.1,
      leads_append h.2.0 entry.commit c later more middle end (All-head (λ (e : LogEntry). e.commit ≤ c) entry later within)
          (All-tail (λ (e : LogEntry). e.commit ≤ c) entry later within) h.2.2 k,
    ),
  )

-- ---- what was worked is legal

module _ (commits : List CommitMarks) (kind : StateKind) (args : Args) (log : KeyLog) (c : ℕ) where
  -- one call more
  folded_more : (kept : KeptState) (input : LogInput) (inputs : List LogInput) (all : Folded)
      → IsLegalInput commits log kept c input
      → ((s : Stepped) (rest : Folded) → steps kind args log.key log.span input kept ≡ Some s → folded kind args log.key log.span c s.kept inputs ≡ Some rest
      → Leads commits kind args log s.kept c rest.entries rest.kept)
      → folded kind args log.key log.span c kept (input ∷ inputs) ≡ Some all → Leads commits kind args log kept c all.entries all.kept
  folded_more kept input inputs all legal goes e =
      option_and_then_some (λ (s : Stepped). option_map (noted c input s.outputs) (folded kind args log.key log.span c s.kept inputs)) (steps kind args log.key log.span input kept) all e
      (λ s at f. map_some (noted c input s.outputs) (folded kind args log.key log.span c s.kept inputs) all f
      (λ rest on is. subst (λ (r : Folded). Leads commits kind args log kept c r.entries r.kept) is (omega arith, legal, (s.kept, at, goes s rest at on))))

  nothing_folded : (kept : KeptState) (all : Folded) → folded kind args log.key log.span c kept [] ≡ Some all → Leads commits kind args log kept c all.entries all.kept
  nothing_folded kept all e =
      subst (λ (r : Folded). Leads commits kind args log kept c r.entries r.kept) (same_Some (record { kept = kept; entries = [] }) all e) refl

  -- a timer that comes first, and that the mark before the commit has reached
  pub timer_leads : (timer : Timer) (kept : KeptState) (all : Folded) → IsFirstTimer kept.timers timer → timer.time ≤ℤ mark_after commits log.node (c - 1)
      → folded kind args log.key log.span c kept (Fired timer ∷ []) ≡ Some all → Leads commits kind args log kept c all.entries all.kept
  timer_leads timer kept all first due e = folded_more kept (Fired timer) [] all (first, due) (λ s rest at on. nothing_folded s.kept rest on) e

  pub elements_lead : (waiting : List Waiting) (kept : KeptState) (all : Folded)
      → All (λ w. (is_keyed log.key w.element ≡ true) × (w.element.span ≡ log.span)) waiting
      → folded kind args log.key log.span c kept (element_inputs waiting) ≡ Some all → Leads commits kind args log kept c all.entries all.kept
  elements_lead [] kept all h e = nothing_folded kept all e
  elements_lead (w ∷ waiting) kept all h e =
      folded_more kept (Arrived w.element) (element_inputs waiting) all (All-head (λ (v : Waiting). (is_keyed log.key v.element ≡ true) × (v.element.span ≡ log.span)) w waiting h)
      (λ s rest at on. elements_lead waiting s.kept rest (All-tail (λ (v : Waiting). (is_keyed log.key v.element ≡ true) × (v.element.span ≡ log.span)) w waiting h) on) e

  -- each entry is of that commit
  pub folded_commits : (inputs : List LogInput) (kept : KeptState) (all : Folded)
      → folded kind args log.key log.span c kept inputs ≡ Some all → All (λ entry. entry.commit ≡ c) all.entries
  folded_commits [] kept all e =
      subst (λ (r : Folded). All (λ entry. entry.commit ≡ c) r.entries) (same_Some (record { kept = kept; entries = [] }) all e) (All-nil (λ (entry : LogEntry). entry.commit ≡ c))
  folded_commits (input ∷ inputs) kept all e =
      option_and_then_some (λ (s : Stepped). option_map (noted c input s.outputs) (folded kind args log.key log.span c s.kept inputs)) (steps kind args log.key log.span input kept) all e
      (λ s at f. map_some (noted c input s.outputs) (folded kind args log.key log.span c s.kept inputs) all f
      (λ rest on is. subst (λ (r : Folded). All (λ entry. entry.commit ≡ c) r.entries) is
      (All-cons (λ (entry : LogEntry). entry.commit ≡ c) (record { input = input; commit = c; outputs = s.outputs }) rest.entries refl (folded_commits inputs s.kept rest on))))

  -- and their inputs are those of the job, in order
  pub folded_inputs : (inputs : List LogInput) (kept : KeptState) (all : Folded)
      → folded kind args log.key log.span c kept inputs ≡ Some all → map (λ entry. entry.input) all.entries ≡ inputs
  folded_inputs [] kept all e =
      subst (λ (r : Folded). map (λ (entry : LogEntry). entry.input) r.entries ≡ []) (same_Some (record { kept = kept; entries = [] }) all e) refl
  folded_inputs (input ∷ inputs) kept all e =
      option_and_then_some (λ (s : Stepped). option_map (noted c input s.outputs) (folded kind args log.key log.span c s.kept inputs)) (steps kind args log.key log.span input kept) all e
      (λ s at f. map_some (noted c input s.outputs) (folded kind args log.key log.span c s.kept inputs) all f
      (λ rest on is. subst (λ (r : Folded). map (λ (entry : LogEntry). entry.input) r.entries ≡ input ∷ inputs) is
      (ap (λ l. input ∷ l) (folded_inputs inputs s.kept rest on))))
