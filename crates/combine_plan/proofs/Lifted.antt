-- What folding and the last job show of the whole input: that what was combined is plain, and the cause of each refusal.
use Rattle.std.proofs.Common.{◌≡◌, inl, inr, ℕ, ◌<◌, ◌≤◌, Bool, true, List, [], map, Some, sym, subst, ◌∙◌, add-zero, zero-add, arith}
use Rattle.std.specs.Prelude.{◌==◌, ◌&&◌}
use Rattle.std.specs.List.{All, count_by, list_all, list_any}
use Rattle.beam_values.specs.Bags.{IsSameBag}
use Rattle.beam_values.specs.Checked.{IsChecked}
use Rattle.beam_values.specs.Intervals.{Interval}
use Rattle.beam_values.specs.Storable.{IsStorable}
use Rattle.beam_values.specs.declared.arrival.Arrival.{Arrival}
use Rattle.beam_values.specs.declared.element.Element.{Element}
use Rattle.beam_values.specs.declared.fault.Cause.{Cause}
use Rattle.beam_values.specs.declared.fault.Cause.TheVariants.{Call, Read}
use Rattle.beam_values.specs.declared.fault.FaultNote.{FaultNote}
use Rattle.beam_values.specs.declared.file_text.FileText.{FileText}
use Rattle.beam_values.specs.declared.piece.Done.{Done}
use Rattle.beam_values.specs.declared.plan.FnKind.{FnKind}
use Rattle.beam_values.specs.declared.plan.Plan.{Plan}
use Rattle.beam_values.specs.declared.value.Value.{Value}
use Rattle.beam_model.specs.Coverings.{spread_dones}
use Rattle.beam_model.specs.Positions.{items}
use Rattle.beam_model.specs.Spread.{spread_all}
use Rattle.beam_ports.specs.Counts.{Rose, rise}
use Rattle.beam_ports.specs.Observed.{ObservedStore, WhereTold}
use Rattle.book_core.specs.Work.{Surroundings}
use Rattle.bundle_work.specs.Bundles.{IsCountedAs}
use Rattle.chain_exec.specs.Causes.{ObservedShelf}
use Rattle.combine_lift.specs.Folds.{AreFolds}
use Rattle.combine_lift.specs.Lifting.{IsLiftable}
use Rattle.combine_lift.specs.Tables.{Table, Added, StandsFor, parts_of}
use Rattle.combine_lift.specs.declared.combined.Combined.{Combined}
use Rattle.combine_lift.specs.declared.refusal.LiftRefusal.TheVariants as lift
use Rattle.combine_laws.specs.Brought.{added_by, is_arrival, is_untaken}
use Rattle.combine_laws.specs.Combined.{HasFunction, IsCombined, MeetsPoison, most_parts, takes_of}
use Rattle.combine_laws.specs.Lasting.{HasLasted, combined_element}
use Rattle.combine_laws.proofs.Causes.{has_poison, meets_many, meets_part, meets_poison, meets_sum, standing_taken}
use Rattle.combine_laws.proofs.PlainCombining.{combined_plain}
use Rattle.combine_plan.specs.Combined.{IsGivenUp, IsLiftedRefused}
use Rattle.combine_plan.specs.Folding.{IsFold, IsFoldRefused, IsSpent}
use Rattle.combine_plan.specs.Lasting.{IsLastRefused, IsLastSpent}
use Rattle.combine_plan.specs.declared.refusal.CombineRefusal.{CombineRefusal}
use Rattle.combine_plan.specs.declared.refusal.CombineRefusal.TheVariants.{Lift, Fault, NoMemory}

-- a cause that is a call was counted at the shelf
call_counted : (shelf : ObservedShelf) (store : ObservedStore) (cause : Cause) → cause ≡ Call → Rose shelf.before shelf.after → IsCountedAs shelf store cause
call_counted shelf store cause is rose = subst (IsCountedAs shelf store) (sym is) rose

-- Where the ranges that were worked bring what all positions do, and come of items of the plan.
module _ (known : Surroundings) (shelf : ObservedShelf) (store : ObservedStore) (plan : Plan) (checked : IsChecked plan) (attempts group function : ℕ) (work : FnKind) (liftable : IsLiftable plan)
    (has : HasFunction plan group function work) (ranges : List Done)
    (all : WhereTold known.told (λ files. IsSameBag (spread_dones plan (items files plan) ranges) (spread_all plan (items files plan))))
    (takes : Value → Bool) (same_takes : (part : Value) → takes part ≡ takes_of work part) where
  abbrev Refused : CombineRefusal → Type 0
  Refused = IsLiftedRefused known shelf store plan attempts group function work

  -- both take the same
  takes_is : takes ≡ takes_of work
  takes_is = λ i part. same_takes part i

  -- ---- folding

  given_up : ((node item : ℕ) → list_any (λ range. range.node == node && range.item == item) ranges ≡ true → list_any (λ it. it.node == node && it.item == item) (items [] plan) ≡ true)
      → (note : FaultNote) → IsSpent known shelf store plan attempts ranges note → IsGivenUp known shelf store plan attempts group function work note
  given_up of_items note spent = record {
    place = inl (of_items note.node note.item spent.listed);
    attempt = spent.attempt;
    calls = spent.tries.calls;
    reads = spent.tries.reads;
    all = spent.tries.all;
    calls_counted = spent.tries.calls_counted;
    reads_counted = spent.tries.reads_counted;
    cause = spent.cause;
    poison = λ some strict told is.
        inl (has_poison plan checked told group function work liftable has ranges (all told is) (spent.tries.poison some strict told is));
    at = λ call strict told is. inl (spent.call call strict told is);
    read = spent.read;
  }

  pub fold_refused : ((node item : ℕ) → list_any (λ range. range.node == node && range.item == item) ranges ≡ true → list_any (λ it. it.node == node && it.item == item) (items [] plan) ≡ true)
      → (refusal : CombineRefusal) → IsFoldRefused takes known shelf store plan attempts ranges 0 refusal → Refused refusal
  fold_refused of_items (Fault note) spent = given_up of_items note spent
  fold_refused of_items (Lift lift.Part) some = λ told is.
      meets_part plan checked told group function work liftable has ranges (all told is)
      (subst (λ (t : Value → Bool). list_any (is_untaken t) (spread_dones plan (items told plan) ranges) ≡ true) takes_is (some told is))
  fold_refused of_items (Lift lift.Many) more = λ told is.
      meets_many plan checked told group function work liftable has ranges (all told is)
      (subst (λ (n : ℕ). most_parts < n) (zero-add (count_by is_arrival (spread_dones plan (items told plan) ranges))) (more told is))
  fold_refused of_items (Lift lift.Sum) never = absurd never
  fold_refused of_items (Lift lift.Shape) never = absurd never
  fold_refused of_items NoMemory none = tt

  -- ---- the last job

  -- What was folded lies in a table, whose accumulators stand for taken parts alone, and the rows are its folds.
  module _ {A : Type 0} (stands : A → List Value → Type 0) (taken : (acc : A) (parts : List Value) → stands acc parts → list_all takes parts ≡ true)
      (table : Table A) (fold : IsFold stands known plan ranges table) (rows : List Combined) (rows_folds : (added : List Added) → StandsFor stands table added → AreFolds work added rows) where
    folds : AreFolds work (added_by fold.arrivals) rows
    folds = rows_folds (added_by fold.arrivals) fold.standing

    taken_parts : (key : Value) (span : Interval) → list_all (takes_of work) (parts_of key span (added_by fold.arrivals)) ≡ true
    taken_parts key span =
        subst (λ (t : Value → Bool). list_all t (parts_of key span (added_by fold.arrivals)) ≡ true) takes_is
        (standing_taken stands takes taken table (added_by fold.arrivals) fold.standing key span)

    pub lasted_combined : (written : List Arrival) → HasLasted plan function rows written → WhereTold known.told (λ files. IsCombined plan (items files plan) group function work written)
    lasted_combined written lasted told is =
        combined_plain plan checked told group function work liftable has ranges (all told is) fold.arrivals (fold.told told is) rows folds written lasted

    -- The shelf of the job is one of all shelves, or what was observed at it was observed there.
    module _ (own : ObservedShelf) (strict : known.strict ≡ true → own.strict ≡ true) (rises : rise own.before own.after ≤ rise shelf.before shelf.after) (some : 1 ≤ attempts) where
      last_given_up : (elements : List Element) → map combined_element rows ≡ map Some elements → All (λ element. IsStorable element.value) elements → (note : FaultNote)
          → IsLastSpent own plan function attempts elements note → IsGivenUp known shelf store plan attempts group function work note
      last_given_up elements each storable note spent =
          let counted : attempts ≤ rise own.before own.after = spent.counted in
          record {
            place = inr (spent.node, spent.item, spent.cause);
            attempt = spent.attempt;
            calls = attempts;
            reads = 0;
            all = sym (add-zero attempts);
            calls_counted = omega (arith, counted, rises);
            reads_counted = omega arith;
            cause = call_counted shelf store note.cause spent.cause (omega (arith, counted, rises, some));
            poison = λ more is_strict told is. inr (note.at, poison told is is_strict);
            at = λ call is_strict told is. inr (record { node = spent.node; item = spent.item; poison = poison told is is_strict });
            read = λ is. absurd (call_no_read (sym spent.cause ∙ is));
          }
        where
          call_no_read : Call ≡ Read → ⊥
          call_no_read e = cc

          poison : (told : List FileText) → known.told ≡ Some told → known.strict ≡ true → MeetsPoison plan (items told plan) group function work note.at
          poison told is is_strict =
              meets_poison plan checked told group function work liftable has ranges (all told is) fold.arrivals (fold.told told is) rows folds elements note.at each storable (spent.poison (strict is_strict))

      pub last_refused : (refusal : CombineRefusal) → IsLastRefused own plan function attempts rows refusal → Refused refusal
      last_refused (Fault note) refused = last_given_up refused.0 refused.1 refused.2 note refused.3
      last_refused (Lift lift.Sum) missing = λ told is.
          meets_sum plan checked told group function work liftable has ranges (all told is) fold.arrivals (fold.told told is) rows folds taken_parts missing
      last_refused (Lift lift.Part) never = absurd never
      last_refused (Lift lift.Many) never = absurd never
      last_refused (Lift lift.Shape) never = absurd never
      last_refused NoMemory none = tt
