-- What was folded into a table, range after range.
use Rattle.std.proofs.Common.{◌≡◌, ℕ, ◌≤◌, List, [], ◌∷◌, ◌++◌, refl, sym, ap, ap₂, subst, ◌∙◌, append_assoc, arith}
use Rattle.std.proofs.lemmas.Grind.{flat_map-append}
use Rattle.std.proofs.lemmas.List.{append-nil, length-append, map-append}
use Rattle.beam_values.specs.declared.arrival.Arrival.{Arrival}
use Rattle.beam_values.specs.declared.piece.Done.{Done}
use Rattle.beam_values.specs.declared.plan.Plan.{Plan}
use Rattle.beam_values.specs.declared.value.Value.{Value}
use Rattle.beam_model.specs.Chains.{Arrives}
use Rattle.beam_model.specs.Coverings.{spread_done, spread_dones}
use Rattle.beam_model.specs.Positions.{SourceItem, items}
use Rattle.beam_model.specs.Premises.{done_range}
use Rattle.book_core.specs.Work.{Surroundings}
use Rattle.combine_lift.specs.Tables.{Added, Table, StandsFor}
use Rattle.combine_laws.specs.Brought.{added_by, added_of}
use Rattle.combine_plan.specs.Folding.{HasFolded, IsFold}
use Rattle.combine_plan.proofs.Ranges.{one_range, parts_join, range_empty}

module _ {A : Type 0} (stands : A → List Value → Type 0) (known : Surroundings) (plan : Plan) where
  abbrev Folded : List Done → Table A → Table A → Type 0
  Folded ranges old new = HasFolded stands known plan ranges old new

  pub folded_none : (table : Table A) → Folded [] table table
  folded_none table = record {
    arrivals = [];
    told = λ files is. refl;
    parts = omega arith;
    standing = λ added stood. subst (StandsFor stands table) (sym (append-nil added)) stood;
  }

  -- the same of other ranges that bring the same
  folded_as : (ranges others : List Done) (old new : Table A) → ((items : List SourceItem) → spread_dones plan items ranges ≡ spread_dones plan items others) → Folded ranges old new → Folded others old new
  folded_as ranges others old new same folded =
      record { arrivals = folded.arrivals; told = λ files is. folded.told files is ∙ same (items files plan); parts = folded.parts; standing = folded.standing }

  pub folded_then : (ranges more : List Done) (old mid new : Table A) → Folded ranges old mid → Folded more mid new → Folded (ranges ++ more) old new
  folded_then ranges more old mid new first next = record {
    arrivals = first.arrivals ++ next.arrivals;
    told = λ files is.
        map-append Arrives first.arrivals next.arrivals
        ∙ ap₂ (λ a b. a ++ b) (first.told files is) (next.told files is)
        ∙ sym (flat_map-append (spread_done plan (items files plan)) ranges more);
    parts = omega (arith, first.parts, next.parts, length-append first.arrivals next.arrivals);
    standing = λ added stood.
        subst (StandsFor stands new)
        (append_assoc added (added_by first.arrivals) (added_by next.arrivals)
        ∙ ap (λ (l : List Added). added ++ l) (sym (map-append (λ (arrival : Arrival). added_of arrival.element) first.arrivals next.arrivals)))
        (next.standing (added ++ added_by first.arrivals) (first.standing added stood));
  }

  -- of a table that had nothing before
  pub folded_from : (ranges : List Done) (start table : Table A) → StandsFor stands start [] → Folded ranges start table → IsFold stands known plan ranges table
  folded_from ranges start table nothing folded = record { arrivals = folded.arrivals; told = folded.told; standing = folded.standing [] nothing }

  -- of a table that stands for what the other one does
  pub fold_kept : (ranges : List Done) (table new : Table A) → ((added : List Added) → StandsFor stands table added → StandsFor stands new added)
      → IsFold stands known plan ranges table → IsFold stands known plan ranges new
  fold_kept ranges table new keeps fold = record { arrivals = fold.arrivals; told = fold.told; standing = keeps (added_by fold.arrivals) fold.standing }

  module _ (node item : ℕ) where
    abbrev span : ℕ → ℕ → List Done
    span from to = done_range node item from to ∷ []

    -- an empty range leaves a table as it was
    pub folded_empty : (from to : ℕ) (table : Table A) → to ≤ from → Folded (span from to) table table
    folded_empty from to table empty =
        folded_as [] (span from to) table table (λ its. sym (one_range plan its (done_range node item from to) ∙ range_empty plan its node item from to empty)) (folded_none table)

    -- a range more behind the first one
    pub folded_more : (from middle to : ℕ) (old mid new : Table A) → from ≤ middle → middle ≤ to → Folded (span from middle) old mid → Folded (span middle to) mid new → Folded (span from to) old new
    folded_more from middle to old mid new low high first next =
        folded_as (span from middle ++ span middle to) (span from to) old new (λ its. parts_join plan its node item from middle to low high) (folded_then (span from middle) (span middle to) old mid new first next)
