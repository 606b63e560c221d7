-- What a command leaves of each kit, and what is so of the outcome that it hands out.
use Rattle.std.proofs.Common.{◌≡◌, ℕ, ◌<◌, List, [], ◌∷◌, ◌++◌, length, get_or, set, Option, Some, None, inl, inr, refl, sym, ap, subst, ◌∙◌, arith}
use Rattle.std.specs.Prelude.{IfSome}
use Rattle.std.specs.List.{AllByRecursion}
use Rattle.beam_values.specs.declared.file_text.FileText.{FileText}
use Rattle.beam_values.specs.declared.options.Options.{Options}
use Rattle.beam_values.specs.declared.outcome.Outcome.{Outcome}
use Rattle.beam_values.specs.declared.plan.Plan.{Plan}
use Rattle.beam_ports.specs.Observed.{ObservedSink}
use Rattle.beam_ports.specs.declared.store.Store.{Ghosts as StoreGhosts}
use Rattle.beam_ports.specs.declared.store.Opened.{Opened}
use Rattle.command_words.specs.Commands.{Asked}
use Rattle.dofn_traits.specs.declared.shelf.Shelf.{Ghosts as ShelfGhosts}
use Rattle.bundle_work.specs.Kits.{EachBecomes}
use Rattle.bundle_work.specs.Openings.{AreOpened, file_names}
use Rattle.bundle_work.specs.Outside.{IsKitKept, IsStoreKept}
use Rattle.bundle_work.specs.declared.kit.Kit.{Kit}
use Rattle.bundle_work.proofs.Answered.{kit_onward, kit_same}
use Rattle.run_engine.specs.Kits.{KeepsKit, ObservedKits, OpensKit, RunsKit}
use Rattle.run_engine.specs.Openings.{AgreeInLength, AgreeWithFirst, AreOpenedByAll}
use Rattle.run_engine.specs.PlanRun.{IsPlanEnd, lengths_of_first}
use Rattle.bundle_work.specs.Reading.{opened_lengths}
use Rattle.command_ends.specs.declared.status.Status.{Status}
use Rattle.command_ends.specs.declared.status.Status.TheVariants as status
use Rattle.run_engine.proofs.Opens.{become_onward, opened_later, same_become}
use Rattle.command_ends.specs.Notes.{StaysOrNoMemory}
use Rattle.beam_command.specs.Kits.{AreKitsLeft, HasNotBegun, IsOutcomeOfOpened, KeepsShelf, first_files}
use Rattle.beam_command.specs.Pipelines.{IsRunPrinted}
use Rattle.beam_command.specs.declared.pipeline.Report.{Report}

-- ---- what becomes of each

module _ {A : Type 0} (P : A → A → Type 0) where
  -- there are as many as before
  pub become_length : (olds news : List A) → EachBecomes olds news P → length news ≡ length olds
  become_length [] [] each = refl
  become_length [] (new ∷ news) each = absurd each
  become_length (old ∷ olds) [] each = absurd each
  become_length (old ∷ olds) (new ∷ news) each = omega (arith, become_length olds news each.1)

  -- with others behind that stay
  pub become_front : ((x : A) → P x x) → (olds news back : List A) → EachBecomes olds news P → EachBecomes (olds ++ back) (news ++ back) P
  become_front stays [] [] back each = same_become P stays back
  become_front stays [] (new ∷ news) back each = absurd each
  become_front stays (old ∷ olds) [] back each = absurd each
  become_front stays (old ∷ olds) (new ∷ news) back each = (each.0, become_front stays olds news back each.1)

  -- the first one alone
  pub become_first : ((x : A) → P x x) → (xs : List A) (d new : A) → 0 < length xs → P (get_or xs 0 d) new → EachBecomes xs (set xs 0 new) P
  become_first stays [] d new some one = absurd (omega arith)
  become_first stays (x ∷ xs) d new some one = (one, same_become P stays xs)

pub become_weaker : {A : Type 0} (P Q : A → A → Type 0) → ((old new : A) → P old new → Q old new) → (olds news : List A) → EachBecomes olds news P → EachBecomes olds news Q
become_weaker P Q holds [] [] each = tt
become_weaker P Q holds [] (new ∷ news) each = absurd each
become_weaker P Q holds (old ∷ olds) [] each = absurd each
become_weaker P Q holds (old ∷ olds) (new ∷ news) each = (holds old new each.0, become_weaker P Q holds olds news each.1)

-- ---- what holds of an outcome

pub if_some : {A : Type 0} (P Q : A → Type 0) → ((a : A) → P a → Q a) → (o : Option A) → IfSome o P → IfSome o Q
if_some P Q holds None h = tt
if_some P Q holds (Some a) h = holds a h

pub if_both : {A : Type 0} (P Q R : A → Type 0) → ((a : A) → P a → Q a → R a) → (o : Option A) → IfSome o P → IfSome o Q → IfSome o R
if_both P Q R holds None p q = tt
if_both P Q R holds (Some a) p q = holds a p q

pub if_none : {A : Type 0} (P : A → Type 0) (o : Option A) → o ≡ None → IfSome o P
if_none P None is = tt
if_none P (Some a) is = absurd (cc)

pub if_same : {A : Type 0} (P : A → Type 0) (o : Option A) (a : A) → o ≡ Some a → P a → IfSome o P
if_same P None a is h = absurd (cc)
if_same P (Some b) a is h = let same : b ≡ a = cc in subst P (sym same) h

-- the outcome that is handed out after a text was written is the run's
pub printed_some : (out : ObservedSink) (attempts : ℕ) (report : Report) (o : Outcome) (s : Status) (outcome : Option Outcome) (P : Outcome → Type 0) → P o
    → IsRunPrinted out attempts report o s outcome → IfSome outcome P
printed_some out attempts report o status.Ok outcome P holds printed = if_same P outcome o printed.0 holds
printed_some out attempts report o status.SinkFault outcome P holds printed = if_same P outcome o printed.0 holds
printed_some out attempts report o status.NoMemory outcome P holds printed = if_none P outcome printed.0
printed_some out attempts report o status.Help outcome P holds printed = absurd printed
printed_some out attempts report o status.Usage outcome P holds printed = absurd printed
printed_some out attempts report o (status.BadPlan refusal) outcome P holds printed = absurd printed
printed_some out attempts report o (status.NoSource name) outcome P holds printed = absurd printed
printed_some out attempts report o (status.SourceFault kit) outcome P holds printed = absurd printed
printed_some out attempts report o (status.FileChanged name len other) outcome P holds printed = absurd printed
printed_some out attempts report o (status.WorkFault note) outcome P holds printed = absurd printed
printed_some out attempts report o (status.BadSchedule why) outcome P holds printed = absurd printed
printed_some out attempts report o (status.NotLifted why) outcome P holds printed = absurd printed

pub printed_begun : (out : ObservedSink) (attempts : ℕ) (report : Report) (o : Outcome) (s : Status) (outcome : Option Outcome) → IsRunPrinted out attempts report o s outcome → HasNotBegun s
    → ⊥
printed_begun out attempts report o status.Ok outcome printed none = none
printed_begun out attempts report o status.SinkFault outcome printed none = none
printed_begun out attempts report o status.NoMemory outcome printed none = none
printed_begun out attempts report o status.Help outcome printed none = printed
printed_begun out attempts report o status.Usage outcome printed none = printed
printed_begun out attempts report o (status.BadPlan refusal) outcome printed none = printed
printed_begun out attempts report o (status.NoSource name) outcome printed none = printed
printed_begun out attempts report o (status.SourceFault kit) outcome printed none = printed
printed_begun out attempts report o (status.FileChanged name len other) outcome printed none = printed
printed_begun out attempts report o (status.WorkFault note) outcome printed none = none
printed_begun out attempts report o (status.BadSchedule why) outcome printed none = printed
printed_begun out attempts report o (status.NotLifted why) outcome printed none = printed

module _ (seen : ObservedKits) (plan : Plan) (options : Options) where
  -- of a run that came to its end, whose text was written or not
  module _ (reached : Status) (own : Option Outcome) (ended : IsPlanEnd seen plan options reached own) (is : reached ≡ status.Ok) (out : ObservedSink) (attempts : ℕ) (report : Report)
      (s : Status) (outcome : Option Outcome) (printed : (o : Outcome) → own ≡ Some o → IsRunPrinted out attempts report o s outcome) where
    through : IsPlanEnd seen plan options status.Ok own
    through = subst (λ (st : Status). IsPlanEnd seen plan options st own) is ended

    pub finished_some : (P : Outcome → Type 0) → IfSome own P → IfSome outcome P
    finished_some P holds = by own refl holds
      where
        by : (o : Option Outcome) → own ≡ o → IfSome o P → IfSome outcome P
        by None none h = let never : None ≡ Some through.0 = sym none ∙ through.1 in absurd (cc)
        by (Some o) same h = printed_some out attempts report o s outcome P h (printed o same)

    pub finished_begun : HasNotBegun s → ⊥
    finished_begun none = printed_begun out attempts report through.0 s outcome (printed through.0 through.1) none

  pub run_begun : (s : Status) (outcome : Option Outcome) → IsPlanEnd seen plan options s outcome → HasNotBegun s → ⊥
  run_begun status.Ok outcome end none = none
  run_begun (status.WorkFault note) outcome end none = none
  run_begun status.NoMemory outcome end none = none
  run_begun status.SinkFault outcome end none = end
  run_begun status.Help outcome end none = end
  run_begun status.Usage outcome end none = end
  run_begun (status.BadPlan refusal) outcome end none = end
  run_begun (status.NoSource name) outcome end none = end
  run_begun (status.SourceFault kit) outcome end none = end
  run_begun (status.FileChanged name len other) outcome end none = end
  run_begun (status.BadSchedule why) outcome end none = end
  run_begun (status.NotLifted why) outcome end none = end

  -- the outcome of a run is of its plan
  pub run_of_plan : (s : Status) (outcome : Option Outcome) → IsPlanEnd seen plan options s outcome → IfSome outcome (λ o. o.plan ≡ plan)
  run_of_plan status.Ok outcome end = if_same (λ (o : Outcome). o.plan ≡ plan) outcome end.0 end.1 (end.2.of_book.plan ∙ end.2.of_plan)
  run_of_plan (status.WorkFault note) outcome end = if_same (λ (o : Outcome). o.plan ≡ plan) outcome end.0.0 end.0.1 (end.0.2.of_book.plan ∙ end.0.2.of_plan)
  run_of_plan status.NoMemory outcome end = if_none (λ (o : Outcome). o.plan ≡ plan) outcome end
  run_of_plan status.SinkFault outcome end = absurd end
  run_of_plan status.Help outcome end = absurd end
  run_of_plan status.Usage outcome end = absurd end
  run_of_plan (status.BadPlan refusal) outcome end = absurd end
  run_of_plan (status.NoSource name) outcome end = absurd end
  run_of_plan (status.SourceFault kit) outcome end = absurd end
  run_of_plan (status.FileChanged name len other) outcome end = absurd end
  run_of_plan (status.BadSchedule why) outcome end = absurd end
  run_of_plan (status.NotLifted why) outcome end = absurd end

-- ---- the kits of a run

module _ {F S : Type 0} (of_shelf : ShelfGhosts F) (of_store : StoreGhosts S) where
  abbrev Keeps : Kit F S → Kit F S → Type 0
  Keeps = KeepsKit of_shelf of_store

  abbrev Runs : Kit F S → Kit F S → Type 0
  Runs = RunsKit of_shelf of_store

  pub keeps_same : (kit : Kit F S) → KeepsKit of_shelf of_store kit kit
  keeps_same kit = kit_same of_shelf.faults of_shelf.strict of_store.faults of_store.files of_store.opened kit.shelf kit.store

  pub all_same : (kits : List (Kit F S)) → EachBecomes kits kits (KeepsKit of_shelf of_store)
  all_same kits = same_become Keeps keeps_same kits

  pub keeps_onward : (old mid new : Kit F S) → KeepsKit of_shelf of_store old mid → KeepsKit of_shelf of_store mid new → KeepsKit of_shelf of_store old new
  keeps_onward old mid new one two =
      kit_onward of_shelf.faults of_shelf.strict of_store.faults of_store.files of_store.opened old.shelf mid.shelf new.shelf old.store mid.store new.store one two

  -- a store was used, and the shelf wasn't
  pub store_used : (old : Kit F S) (shelf : F) (store : S) (own : List Opened) → shelf ≡ old.shelf → IsStoreKept of_store.faults of_store.files of_store.opened old.store store
      → KeepsKit of_shelf of_store old (record { shelf = shelf; store = store; files = own })
  store_used old shelf store own same kept =
      subst (λ (f : F). IsKitKept of_shelf.faults of_shelf.strict of_store.faults of_store.files of_store.opened old.shelf f old.store store) (sym same)
      (record { counts = omega arith; strict = refl; reading = kept })

  opens_keeps : (old mid : Kit F S) → OpensKit of_store old mid → Keeps old mid
  opens_keeps old mid is = store_used old mid.shelf mid.store mid.files is.0 is.1

  pub kept_opened : (olds mids : List (Kit F S)) → EachBecomes olds mids (OpensKit of_store) → EachBecomes olds mids (KeepsKit of_shelf of_store)
  kept_opened olds mids each = become_weaker (OpensKit of_store) Keeps opens_keeps olds mids each

  pub kept_run : (olds mids news : List (Kit F S)) → EachBecomes olds mids (OpensKit of_store) → EachBecomes mids news (RunsKit of_shelf of_store)
      → EachBecomes olds news (KeepsKit of_shelf of_store)
  kept_run olds mids news one two = become_onward (OpensKit of_store) Runs Keeps (λ old mid new o r. keeps_onward old mid new (opens_keeps old mid o) r.1) olds mids news one two

  -- what was opened is open after the run
  all_opened : (plan : Plan) (mids news : List (Kit F S)) → EachBecomes mids news Runs
      → AllByRecursion (λ kit. AreOpened (of_store.files kit.store) (of_store.opened kit.store) (file_names plan) kit.files) mids
      → AllByRecursion (λ kit. AreOpened (of_store.files kit.store) (of_store.opened kit.store) (file_names plan) kit.files) news
  all_opened plan [] [] each are = tt
  all_opened plan [] (new ∷ news) each are = absurd each
  all_opened plan (mid ∷ mids) [] each are = absurd each
  all_opened plan (mid ∷ mids) (new ∷ news) each are = (
    subst (λ (own : List Opened). AreOpened (of_store.files new.store) (of_store.opened new.store) (file_names plan) own) (sym each.0.0)
        (subst (λ (told : Option (List FileText)). AreOpened told (of_store.opened new.store) (file_names plan) mid.files) (sym each.0.1.reading.files)
        (opened_later (of_store.files mid.store) (of_store.opened mid.store) (of_store.opened new.store) each.0.1.reading.openings (file_names plan) mid.files are.0)),
    all_opened plan mids news each.1 are.1,
  )

  all_agree : (first : List Opened) (mids news : List (Kit F S)) → EachBecomes mids news Runs → AllByRecursion (λ kit. AgreeInLength first kit.files) mids
      → AllByRecursion (λ kit. AgreeInLength first kit.files) news
  all_agree first [] [] each agree = tt
  all_agree first [] (new ∷ news) each agree = absurd each
  all_agree first (mid ∷ mids) [] each agree = absurd each
  all_agree first (mid ∷ mids) (new ∷ news) each agree = (subst (AgreeInLength first) (sym each.0.0) agree.0, all_agree first mids news each.1 agree.1)

  agree_still : (mids news : List (Kit F S)) → EachBecomes mids news Runs → AgreeWithFirst mids → AgreeWithFirst news
  agree_still [] [] each agree = tt
  agree_still [] (new ∷ news) each agree = absurd each
  agree_still (mid ∷ mids) [] each agree = absurd each
  agree_still (mid ∷ mids) (new ∷ news) each agree =
      subst (λ (first : List Opened). AllByRecursion (λ kit. AgreeInLength first kit.files) news) (sym each.0.0) (all_agree mid.files mids news each.1 agree)

  lengths_still : (plan : Plan) (mids news : List (Kit F S)) → EachBecomes mids news Runs → lengths_of_first plan mids ≡ lengths_of_first plan news
  lengths_still plan [] [] each = refl
  lengths_still plan [] (new ∷ news) each = absurd each
  lengths_still plan (mid ∷ mids) [] each = absurd each
  lengths_still plan (mid ∷ mids) (new ∷ news) each = ap (opened_lengths plan) (sym each.0.0)

  pub outcome_opened : (plan : Plan) (mids news : List (Kit F S)) (seen : ObservedKits) (options : Options) (s : Status) (outcome : Option Outcome)
      → AreOpenedByAll of_store.files of_store.opened plan mids → EachBecomes mids news (RunsKit of_shelf of_store)
      → IsPlanEnd seen plan options s outcome → IfSome outcome (λ o. o.files ≡ lengths_of_first plan mids)
      → IfSome outcome (λ o. (o.plan ≡ plan) × IsOutcomeOfOpened of_store news o)
  outcome_opened plan mids news seen options s outcome are each end lengths = by outcome (run_of_plan seen plan options s outcome end) lengths
    where
      by : (o : Option Outcome) → IfSome o (λ o. o.plan ≡ plan) → IfSome o (λ o. o.files ≡ lengths_of_first plan mids)
          → IfSome o (λ o. (o.plan ≡ plan) × IsOutcomeOfOpened of_store news o)
      by None of long = tt
      by (Some o) of long = (
        of,
        record {
          opens = subst (λ (p : Plan). AreOpenedByAll of_store.files of_store.opened p news) (sym of)
              (record { each = all_opened plan mids news each are.each; lengths = agree_still mids news each are.lengths });
          lengths = long ∙ lengths_still plan mids news each ∙ ap (λ (p : Plan). lengths_of_first p news) (sym of);
        },
      )

module _ {F S : Type 0} (of_store : StoreGhosts S) where
  -- where files were opened at most, each shelf is what it was
  pub idle_opened : (olds mids : List (Kit F S)) → EachBecomes olds mids (OpensKit of_store) → EachBecomes olds mids KeepsShelf
  idle_opened olds mids each = become_weaker (OpensKit of_store) KeepsShelf (λ old mid is. is.0) olds mids each

pub idle_same : {F S : Type 0} (kits : List (Kit F S)) → EachBecomes kits kits KeepsShelf
idle_same kits = same_become KeepsShelf (λ kit. refl) kits

-- ---- the first kit

pub first_front : {F S : Type 0} (files : S → Option (List FileText)) (kits front back : List (Kit F S)) → kits ≡ front ++ back → 0 < length front
    → first_files files front ≡ first_files files kits
first_front files kits [] back are some = absurd (omega arith)
first_front files kits (kit ∷ front) back are some = sym (ap (first_files files) are)

pub first_got : {F S : Type 0} (files : S → Option (List FileText)) (kits : List (Kit F S)) (d : Kit F S) → 0 < length kits → files (get_or kits 0 d).store ≡ first_files files kits
first_got files [] d some = absurd (omega arith)
first_got files (kit ∷ kits) d some = refl

-- ---- the note of an end

-- an end before the run is as it was before its note
not_begun_before : (before after : Status) → StaysOrNoMemory before after → HasNotBegun after → HasNotBegun before
not_begun_before before after stays none = elim stays [
  | inl same ↦ subst HasNotBegun same none
  | inr long ↦ absurd (subst HasNotBegun long.0 none)
]

pub left_before_note : {F S : Type 0} (of_shelf : ShelfGhosts F) (of_store : StoreGhosts S) (asked : Option Asked) (olds news : List (Kit F S)) (before after : Status)
    → StaysOrNoMemory before after → AreKitsLeft of_shelf of_store asked before olds news → AreKitsLeft of_shelf of_store asked after olds news
left_before_note of_shelf of_store asked olds news before after stays left =
    record { idle = λ none. left.idle (not_begun_before before after stays none); kept = left.kept; unused = left.unused }

-- an outcome that is handed out after the note was there before
pub still_some : {A : Type 0} (P : A → Type 0) (s : Status) (before after : Option A) → (s ≡ status.NoMemory → after ≡ None) → ((s ≡ status.NoMemory → ⊥) → after ≡ before) → IfSome before P
    → IfSome after P
still_some P s before after none stays h = by s refl
  where
    kept : after ≡ before → IfSome after P
    kept same = subst (λ (o : Option _). IfSome o P) (sym same) h

    by : (own : Status) → s ≡ own → IfSome after P
    by status.NoMemory is = if_none P after (none is)
    by status.Ok is = kept (stays (λ no. cc))
    by status.Help is = kept (stays (λ no. cc))
    by status.Usage is = kept (stays (λ no. cc))
    by (status.BadPlan refusal) is = kept (stays (λ no. cc))
    by (status.NoSource name) is = kept (stays (λ no. cc))
    by (status.SourceFault kit) is = kept (stays (λ no. cc))
    by (status.WorkFault note) is = kept (stays (λ no. cc))
    by (status.FileChanged name first other) is = kept (stays (λ no. cc))
    by (status.BadSchedule why) is = kept (stays (λ no. cc))
    by (status.NotLifted why) is = kept (stays (λ no. cc))
    by status.SinkFault is = kept (stays (λ no. cc))
