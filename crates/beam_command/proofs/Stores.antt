-- The stores of the kits in use: what holds of each, where they are observed as one, and what calls leave of them.
use Rattle.std.proofs.Common.{◌≡◌, ◌⊎◌, inl, inr, ℕ, zero, suc, ◌+◌, ◌<◌, ◌≤◌, ◌&&◌, List, [], ◌∷◌, length, map, Option, Some, None, slice_get, refl, sym, ap, subst, ◌∙◌, arith}
use Rattle.std.specs.List.{AllByRecursion, list_all}
use Rattle.std.proofs.lemmas.Bool.Decides.{nat_tests}
use Rattle.beam_values.specs.declared.file_text.FileText.{FileText}
use Rattle.beam_values.specs.declared.options.Options.{Options}
use Rattle.beam_values.specs.declared.outcome.Outcome.{Outcome}
use Rattle.beam_values.specs.declared.plan.Plan.{Plan}
use Rattle.beam_ports.specs.Counts.{rise}
use Rattle.beam_ports.specs.Observed.{ObservedStore, observed_store}
use Rattle.beam_ports.specs.declared.store.Store.{Ghosts as StoreGhosts}
use Rattle.chain_exec.specs.Causes.{ObservedShelf}
use Rattle.dofn_traits.specs.declared.shelf.Shelf.{Ghosts as ShelfGhosts}
use Rattle.bundle_work.specs.Kits.{EachBecomes, observed_shelves, sum_rises, told_by}
use Rattle.bundle_work.specs.declared.kit.Kit.{Kit}
use Rattle.bundle_work.proofs.Told.{told_by_each}
use Rattle.run_engine.specs.Kits.{ObservedKits, OpensKit, observed_each, observed_kits}
use Rattle.run_engine.specs.Openings.{AreOpenedByAll}
use Rattle.run_engine.specs.PlanRun.{IsPlanEnd}
use Rattle.command_ends.specs.declared.status.Status.{Status}
use Rattle.command_words.specs.Commands.{Asked, Help, Panes, Run, Replay, Make, Drill, Combine}
use Rattle.beam_command.specs.Kits.{kits_for, without_files}
use Rattle.beam_command.specs.Observing.{AreFound}
use Rattle.beam_command.proofs.Graphs.{are_found, ended_since}

-- ---- each store, where all are observed as one

-- what all tell this one tells, and its count rose by no more
pub record IsOneOf (whole store : ObservedStore) : Type 0 where
  pub files : (whole.files ≡ None) ⊎ (whole.files ≡ store.files)
  pub counts : rise store.before store.after ≤ rise whole.before whole.after

abbrev EachIsOf : List ObservedStore → ObservedStore → Type 0
EachIsOf stores whole = (at : ℕ) (store : ObservedStore) → slice_get stores at ≡ Some store → IsOneOf whole store

abbrev pub AreOfOne : ObservedKits → Type 0
AreOfOne kits = EachIsOf kits.stores kits.store

pub told_here : (whole store : ObservedStore) (told : List FileText) → IsOneOf whole store → whole.files ≡ Some told → store.files ≡ Some told
told_here whole store told one tells = elim one.files [ inl none ↦ absurd (cc) | inr same ↦ sym same ∙ tells ]

pub tells_first : (first : Option (List FileText)) (others : List (Option (List FileText))) (told : List FileText) → told_by (first ∷ others) ≡ Some told → first ≡ Some told
tells_first first others told tells = elim (told_by_each (first ∷ others)).0 [ inl none ↦ absurd (cc) | inr same ↦ sym same ∙ tells ]

within_sum : (before after total : ℕ) → rise before after ≤ total → rise before after ≤ rise 0 total
within_sum before after total within = grind (arith, nat_tests)

module _ {F S : Type 0} (of_store : StoreGhosts S) where
  module _ (known : Option (List FileText)) (total : ℕ) where
    each_of_one : (olds news : List (Kit F S)) → AllByRecursion (λ told. (known ≡ None) ⊎ (known ≡ told)) (map (λ kit. of_store.files kit.store) olds)
        → sum_rises (λ kit. of_store.faults kit.store) olds news ≤ total → EachIsOf (observed_each of_store.files of_store.faults olds news) (record { files = known; before = 0; after = total })
    each_of_one [] news tells counted at store is = absurd (cc)
    each_of_one (old ∷ olds) [] tells counted at store is = absurd (cc)
    each_of_one (old ∷ olds) (new ∷ news) tells counted zero store is =
        let same : observed_store of_store.files of_store.faults old.store new.store ≡ store = cc in
        subst (λ (s : ObservedStore). IsOneOf (record { files = known; before = 0; after = total }) s) same
        (record { files = tells.0; counts = within_sum (of_store.faults old.store) (of_store.faults new.store) total (omega (arith, counted)) })
    each_of_one (old ∷ olds) (new ∷ news) tells counted (suc at) store is = each_of_one olds news tells.1 (omega (arith, counted)) at store is

  -- the store of the first kit is observed
  pub first_is_seen : (R : Kit F S → Kit F S → Type 0) (olds news : List (Kit F S)) → 0 < length olds → EachBecomes olds news R
      → (first : ObservedStore) × (slice_get (observed_each of_store.files of_store.faults olds news) 0 ≡ Some first)
  first_is_seen R [] news some each = absurd (omega arith)
  first_is_seen R (old ∷ olds) [] some each = absurd each
  first_is_seen R (old ∷ olds) (new ∷ news) some each = (observed_store of_store.files of_store.faults old.store new.store, refl)

  pub are_of_one : (of_shelf : ShelfGhosts F) (olds news : List (Kit F S)) → AreOfOne (observed_kits of_shelf of_store olds news)
  are_of_one of_shelf olds news =
      each_of_one (told_by (map (λ kit. of_store.files kit.store) olds)) (sum_rises (λ kit. of_store.faults kit.store) olds news) olds news (told_by_each (map (λ kit. of_store.files kit.store) olds)) (omega arith)

-- ---- the same, as a command sees its stores

same_store : (a b : ObservedStore) → Some a ≡ Some b → a ≡ b
same_store a b same = cc

module _ (whole : ObservedStore) where
  abbrev untold : ObservedStore
  untold = without_files whole

  each_untold : (stores : List ObservedStore) → EachIsOf stores whole → EachIsOf (map without_files stores) untold
  each_untold [] each at store is = absurd (cc)
  each_untold (first ∷ others) each zero store is =
      let counts : rise first.before first.after ≤ rise whole.before whole.after = (each 0 first refl).counts in
      subst (IsOneOf untold) (same_store (without_files first) store is) (record { files = inr refl; counts = counts })
  each_untold (first ∷ others) each (suc at) store is = each_untold others (λ k own has. each (suc k) own has) at store is

pub seen_of_one : (asked : Option Asked) (kits : ObservedKits) → AreOfOne kits → AreOfOne (kits_for asked kits)
seen_of_one None kits of_one = of_one
seen_of_one (Some Help) kits of_one = of_one
seen_of_one (Some (Panes file size options)) kits of_one = of_one
seen_of_one (Some (Run name options)) kits of_one = of_one
seen_of_one (Some (Replay name schedule options)) kits of_one = of_one
seen_of_one (Some (Combine name options)) kits of_one = of_one
seen_of_one (Some (Make count number)) kits of_one = of_one
seen_of_one (Some (Drill count number options)) kits of_one = each_untold kits.store kits.stores of_one

-- ---- what is observed since an earlier call

pub rise_since : (first before after : ℕ) → first ≤ before → rise before after ≤ rise first after
rise_since first before after earlier = grind (arith, nat_tests)

module _ {F S : Type 0} (of_shelf : ShelfGhosts F) (of_store : StoreGhosts S) where
  abbrev Stays : Kit F S → Kit F S → Type 0
  Stays = OpensKit of_store

  strict_same : (olds mids : List (Kit F S)) → EachBecomes olds mids Stays → list_all (λ kit. of_shelf.strict kit.shelf) mids ≡ list_all (λ kit. of_shelf.strict kit.shelf) olds
  strict_same [] [] stay = refl
  strict_same [] (mid ∷ mids) stay = absurd stay
  strict_same (old ∷ olds) [] stay = absurd stay
  strict_same (old ∷ olds) (mid ∷ mids) stay = λ i. of_shelf.strict (stay.0.0 i) && strict_same olds mids stay.1 i

  calls_same : (olds mids news : List (Kit F S)) → EachBecomes olds mids Stays → sum_rises (λ kit. of_shelf.faults kit.shelf) mids news ≡ sum_rises (λ kit. of_shelf.faults kit.shelf) olds news
  calls_same [] [] news stay = refl
  calls_same [] (mid ∷ mids) news stay = absurd stay
  calls_same (old ∷ olds) [] news stay = absurd stay
  calls_same (old ∷ olds) (mid ∷ mids) [] stay = refl
  calls_same (old ∷ olds) (mid ∷ mids) (new ∷ news) stay = λ i. rise (of_shelf.faults (stay.0.0 i)) (of_shelf.faults new.shelf) + calls_same olds mids news stay.1 i

  tellings_same : (olds mids : List (Kit F S)) → EachBecomes olds mids Stays → map (λ kit. of_store.files kit.store) mids ≡ map (λ kit. of_store.files kit.store) olds
  tellings_same [] [] stay = refl
  tellings_same [] (mid ∷ mids) stay = absurd stay
  tellings_same (old ∷ olds) [] stay = absurd stay
  tellings_same (old ∷ olds) (mid ∷ mids) stay = λ i. stay.0.1.files i ∷ tellings_same olds mids stay.1 i

  -- the count of all stores rose by as much at least
  pub rises_since : (olds mids news : List (Kit F S)) → EachBecomes olds mids Stays → sum_rises (λ kit. of_store.faults kit.store) mids news ≤ sum_rises (λ kit. of_store.faults kit.store) olds news
  rises_since [] [] news stay = omega arith
  rises_since [] (mid ∷ mids) news stay = absurd stay
  rises_since (old ∷ olds) [] news stay = absurd stay
  rises_since (old ∷ olds) (mid ∷ mids) [] stay = omega arith
  rises_since (old ∷ olds) (mid ∷ mids) (new ∷ news) stay =
      omega (arith, rises_since olds mids news stay.1, rise_since (of_store.faults old.store) (of_store.faults mid.store) (of_store.faults new.store) stay.0.1.counts)

  pub shelves_since : (olds mids news : List (Kit F S)) → EachBecomes olds mids Stays → observed_shelves of_shelf.strict of_shelf.faults mids news ≡ observed_shelves of_shelf.strict of_shelf.faults olds news
  shelves_since olds mids news stay = λ i. record { strict = strict_same olds mids stay i; before = 0; after = calls_same olds mids news stay i }

  pub told_since : (olds mids : List (Kit F S)) → EachBecomes olds mids Stays → told_by (map (λ kit. of_store.files kit.store) mids) ≡ told_by (map (λ kit. of_store.files kit.store) olds)
  told_since olds mids stay = ap told_by (tellings_same olds mids stay)

  -- a run with the kits after their files were opened, seen from the call that opened them
  since_opening : (olds mids news : List (Kit F S)) (plan : Plan) (options : Options) (s : Status) (outcome : Option Outcome) → EachBecomes olds mids Stays
      → IsPlanEnd (observed_kits of_shelf of_store mids news) plan options s outcome → IsPlanEnd (observed_kits of_shelf of_store olds news) plan options s outcome
  since_opening olds mids news plan options s outcome stay end =
      let less = sum_rises (λ (kit : Kit F S). of_store.faults kit.store) mids news in
      let more = sum_rises (λ (kit : Kit F S). of_store.faults kit.store) olds news in
      let each = observed_each of_store.files of_store.faults olds news in
      subst (λ (seen : ObservedShelf × Option (List FileText)). IsPlanEnd (record { shelf = seen.0; store = record { files = seen.1; before = 0; after = more }; stores = each }) plan options s outcome)
      (λ i. (shelves_since olds mids news stay i, told_since olds mids stay i))
      (ended_since (observed_shelves of_shelf.strict of_shelf.faults mids news) (told_by (map (λ (kit : Kit F S). of_store.files kit.store) mids)) less more
      (observed_each of_store.files of_store.faults mids news) each (rises_since olds mids news stay) plan options s outcome end)

  -- files that all have opened are there
  pub opened_are_there : (olds mids : List (Kit F S)) (plan : Plan) → 0 < length olds → EachBecomes olds mids Stays → AreOpenedByAll of_store.files of_store.opened plan mids
      → AreFound (told_by (map (λ kit. of_store.files kit.store) olds)) plan
  opened_are_there [] mids plan some stay are = absurd (omega arith)
  opened_are_there (old ∷ olds) [] plan some stay are = absurd stay
  opened_are_there (old ∷ olds) (mid ∷ mids) plan some stay are = λ told tells.
      are_found (of_store.files mid.store) (of_store.opened mid.store) plan mid.files are.each.0 told
      (stay.0.1.files ∙ tells_first (of_store.files old.store) (map (λ (kit : Kit F S). of_store.files kit.store) olds) told tells)

  pub run_opened : (olds mids news : List (Kit F S)) (plan : Plan) (options : Options) (s : Status) (outcome : Option Outcome) → 0 < length olds
      → EachBecomes olds mids (OpensKit of_store) → AreOpenedByAll of_store.files of_store.opened plan mids
      → IsPlanEnd (observed_kits of_shelf of_store mids news) plan options s outcome
      → AreFound (told_by (map (λ kit. of_store.files kit.store) olds)) plan × IsPlanEnd (observed_kits of_shelf of_store olds news) plan options s outcome
  run_opened olds mids news plan options s outcome some stay are end =
      (opened_are_there olds mids plan some stay are, since_opening olds mids news plan options s outcome stay end)
