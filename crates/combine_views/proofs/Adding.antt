-- Elements that arrive are as many parts more.
use Rattle.std.proofs.Common.{◌≡◌, ◌⊎◌, inl, inr, ℕ, Bool, true, false, List, [], ◌∷◌, ◌++◌, length, map, take, refl, sym, ap, subst, ◌∙◌, append_assoc, length-append, arith}
use Rattle.std.specs.Prelude.{Result, Ok, Err, IfOk, OnErr}
use Rattle.std.specs.Bool.{OnFalse, OnTrue}
use Rattle.std.proofs.lemmas.Bool.{false≢true}
use Rattle.std.proofs.lemmas.List.{length-map, map-append, take-map, take_at}
use Rattle.beam_values.specs.declared.arrival.Arrival.{Arrival}
use Rattle.beam_values.specs.declared.element.Element.{Element}
use Rattle.beam_values.specs.declared.value.Value.{Value}
use Rattle.beam_model.specs.Chains.{Arrives, Output}
use Rattle.combine_lift.specs.Tables.{Added, StandsFor, Table}
use Rattle.combine_laws.specs.Brought.{added_by, added_of}
use Rattle.combine_views.specs.Lines.{AreAtBarrier, HasAdded, HasAddedSome, HasTaken, HasTakenSome, HasTakenUpTo}

-- all that outputs bring
module _ {A : Type 0} (stands : A → List Value → Type 0) (outputs : List Output) (elements : List Element) (old new : Table A) (at : AreAtBarrier outputs elements) where
  of_arrivals : (arrivals : List Arrival) → map added_of (map (λ arrival. arrival.element) arrivals) ≡ added_by arrivals
  of_arrivals [] = refl
  of_arrivals (arrival ∷ arrivals) = ap (λ (more : List Added). added_of arrival.element ∷ more) (of_arrivals arrivals)

  taken_added : HasTaken stands elements old new → HasAdded stands outputs old new
  taken_added taken = record {
    arrivals = at.arrivals;
    all = at.all;
    parts = omega (arith, taken.parts, ap (λ (l : List Element). length l) at.are, length-map at.arrivals (λ (arrival : Arrival). arrival.element));
    standing = λ added stood.
        subst (λ (more : List Added). StandsFor stands new (added ++ more)) (ap (map added_of) (sym at.are) ∙ of_arrivals at.arrivals) (taken.standing added stood);
  }

  pub added_if : {E : Type 0} (answer : Result Bool E) → IfOk answer (λ known. OnTrue known (HasTaken stands elements old new))
      → IfOk answer (λ known. OnTrue known (HasAdded stands outputs old new))
  added_if (Ok true) taken = taken_added taken
  added_if (Ok false) taken = tt
  added_if (Err refusal) taken = tt

-- and of the first ones
module _ {A : Type 0} (stands : A → List Value → Type 0) (outputs : List Output) (elements : List Element) (old new : Table A) (at : AreAtBarrier outputs elements) where
  first_at : (count : ℕ) → AreAtBarrier (take count outputs) (take count elements)
  first_at count = record {
    arrivals = take count at.arrivals;
    all = sym (take-map Arrives count at.arrivals) ∙ ap (take count) at.all;
    are = sym (take-map (λ (arrival : Arrival). arrival.element) count at.arrivals) ∙ ap (take count) at.are;
  }

  pub added_some_if : {T E : Type 0} (answer : Result T E) → OnErr answer (HasTakenSome stands elements old new) → OnErr answer (HasAddedSome stands outputs old new)
  added_some_if (Ok known) some = tt
  added_some_if (Err refusal) some =
      record {
        count = some.count;
        less =
            omega (
              arith,
              some.less,
              ap (λ (l : List Output). length l) at.all,
              length-map at.arrivals Arrives,
              ap (λ (l : List Element). length l) at.are,
              length-map at.arrivals (λ (arrival : Arrival). arrival.element),
            );
        first = taken_added stands (take some.count outputs) (take some.count elements) old new (first_at some.count) some.first;
      }

-- ---- one element after another

module _ {A : Type 0} (stands : A → List Value → Type 0) (elements rest : List Element) (old mid new : Table A) where
  pub one_more : (e : Element) → HasTakenUpTo stands elements (e ∷ rest) old mid → HasTaken stands (e ∷ []) mid new → HasTakenUpTo stands elements rest old new
  one_more e up one = record {
    front = up.front ++ e ∷ [];
    all = append_assoc up.front (e ∷ []) rest ∙ up.all;
    taken = record {
      parts = omega (arith, up.taken.parts, one.parts, length-append up.front (e ∷ []));
      standing = λ added stood.
          subst (StandsFor stands new)
          (append_assoc added (map added_of up.front) (added_of e ∷ []) ∙ ap (λ (l : List Added). added ++ l) (sym (map-append added_of up.front (e ∷ []))))
          (one.standing (added ++ map added_of up.front) (up.taken.standing added stood));
    };
  }

  -- where the next one didn't come
  pub some_taken : {T E : Type 0} (answer : Result T E) (e : Element) → HasTakenUpTo stands elements (e ∷ rest) old mid → new ≡ mid → OnErr answer (HasTakenSome stands elements old new)
  some_taken (Ok known) e up is = tt
  some_taken (Err refusal) e up is = record {
    count = length up.front;
    less = omega (arith, ap (λ (l : List Element). length l) up.all, length-append up.front (e ∷ rest));
    first =
        subst (λ (l : List Element). HasTaken stands l old new) (sym (ap (take (length up.front)) (sym up.all) ∙ take_at up.front (e ∷ rest) (length up.front) refl))
        (subst (λ (t : Table A). HasTaken stands up.front old t) (sym is) up.taken);
  }

  -- no part is taken where none was
  pub still_kept : (taken empty : Bool) → taken ≡ false → taken ≡ empty → OnFalse taken (new ≡ mid) → (mid ≡ old) ⊎ (empty ≡ true) → new ≡ old
  still_kept taken empty untaken is kept (inl same) = subst (λ (b : Bool). OnFalse b (new ≡ mid)) untaken kept ∙ same
  still_kept taken empty untaken is kept (inr all) = absurd (false≢true (sym untaken ∙ is ∙ all))
