-- What follows of a call that answers exactly what is seen.
use Rattle.std.proofs.Common.{◌≡◌, ◌≢◌, ℕ, Bool, true, false, List, Result, Ok, Err, refl, sym, ap, ◌∙◌, subst, arith}
use Rattle.std.specs.Prelude.{IfOk, IsErrOf, ◌↔◌}
use Rattle.std.proofs.lemmas.Bool.{cond-true, cond-false}
use Rattle.std.proofs.lemmas.Bool.Decides.{nat_tests}
use Rattle.beam_ports.specs.Counts.{Rose, raised}
use Rattle.beam_values.specs.declared.plan.Args.{Args}
use Rattle.beam_values.specs.declared.plan.SourceKind.{SourceKind}
use Rattle.beam_model.specs.Positions as model
use Rattle.beam_model.specs.Positions.{emission}
use Rattle.dofn_traits.specs.Calls.{is_cut_short, IsView, IsViewOf, IsFound, IsNextWithin, IsUnharmed, AddsEmission}
use Rattle.dofn_traits.specs.declared.calls.CallRefusal.{CallRefusal}
use Rattle.dofn_traits.specs.declared.calls.CallRefusal.TheVariants.{Failed, NoMemory}
use Rattle.dofn_traits.specs.declared.calls.Emission.{Emission}
use Rattle.dofn_traits.specs.declared.calls.Found.{Found}
use Rattle.dofn_traits.specs.declared.calls.Found.TheVariants.{Here, More}
use Rattle.sdf_library.specs.Sources.{CutShort, Whole, Tells, emission_seen, next_seen, seen, counted}
use Rattle.sdf_library.proofs.Views.{emission_is_seen, next_is_seen, next_seen_within}

-- ---- of what is seen

cut_asks : (old new : Emission) (answer : Result Found CallRefusal) → Tells CutShort old new answer → (answer ≡ Ok More) × (new ≡ old)
cut_asks old new (Ok More) is = (refl, is)
cut_asks old new (Ok (Here at)) is = absurd is
cut_asks old new (Err e) is = absurd is

whole_finds : (emission : model.Emission) (next : ℕ) (old new : Emission) (found : Found) → Tells (Whole emission next) old new (Ok found)
    → (found ≡ Here next) × AddsEmission emission old new
whole_finds (model.Emits values declared) next old new (Here at) is = (ap Here is.0, is.1)
whole_finds (model.Emits values declared) next old new More is = absurd is
whole_finds model.Poison next old new found is = absurd is

whole_fails : (emission : model.Emission) (next : ℕ) (old new : Emission) → Tells (Whole emission next) old new (Err Failed) → emission ≡ model.Poison
whole_fails (model.Emits values declared) next old new is = absurd is
whole_fails model.Poison next old new is = refl

-- ---- of counts

raised_rose : (count : ℕ) → Rose count (raised count)
raised_rose count = grind (arith, nat_tests)

pub failure_rose : (answer : Result Found CallRefusal) (before after : ℕ) → after ≡ counted before answer → IsErrOf answer Failed → Rose before after
failure_rose (Ok found) before after is failed = cc
failure_rose (Err NoMemory) before after is failed = cc
failure_rose (Err Failed) before after is failed = rw is (raised_rose before)

unfailed_unharmed : (answer : Result Found CallRefusal) (before after : ℕ) → after ≡ counted before answer → (answer ≡ Err Failed → ⊥)
    → IsUnharmed (IsErrOf answer Failed) before after
unfailed_unharmed (Ok found) before after counts unfailed = record { answered = λ failed. cc; uncounted = counts }
unfailed_unharmed (Err NoMemory) before after counts unfailed = record { answered = λ failed. cc; uncounted = counts }
unfailed_unharmed (Err Failed) before after counts unfailed = absurd (unfailed refl)

module _ (kind : SourceKind) (args : Args) (bytes : List ℕ) (base len p : ℕ) (view : IsView kind args bytes base len p) (old new : Emission) where
  -- an answer is one to what is cut short, or to what is seen whole
  is_asked : (answer : Result Found CallRefusal) → Tells (seen kind args bytes base len p) old new answer → is_cut_short kind bytes base len p ≡ true
      → (answer ≡ Ok More) × (new ≡ old)
  is_asked answer is cut = cut_asks old new answer (subst (λ at. Tells at old new answer) (cond-true _ CutShort _ cut) is)

  is_told : (answer : Result Found CallRefusal) → Tells (seen kind args bytes base len p) old new answer → is_cut_short kind bytes base len p ≡ false
      → Tells (Whole (emission_seen kind args bytes base p) (next_seen kind bytes base p)) old new answer
  is_told answer is whole = subst (λ at. Tells at old new answer) (cond-false _ CutShort _ whole) is

  found_at : (found : Found) → Tells (seen kind args bytes base len p) old new (Ok found) → (file : List ℕ) → IsViewOf file kind args bytes base len
      → (cut : Bool) → is_cut_short kind bytes base len p ≡ cut → IsFound kind args file p old new found
  found_at found is file of true cut =
      let asked = is_asked (Ok found) is cut in
      let more : found ≡ More = cc in
      subst (IsFound kind args file p old new) (sym more) asked.1
  found_at found is file of false whole =
      let told = whole_finds _ _ old new found (is_told (Ok found) is whole) in
      subst (IsFound kind args file p old new) (sym told.0) (
        sym (next_is_seen kind args file bytes base len p view of whole),
        subst (λ emission. AddsEmission emission old new) (sym (emission_is_seen kind args file bytes base len p view of whole)) told.1,
      )

  next_at : (found : Found) → Tells (seen kind args bytes base len p) old new (Ok found) → (cut : Bool) → is_cut_short kind bytes base len p ≡ cut → IsNextWithin p len found
  next_at found is true cut =
      let asked = is_asked (Ok found) is cut in
      let more : found ≡ More = cc in
      subst (IsNextWithin p len) (sym more) tt
  next_at found is false whole =
      subst (IsNextWithin p len) (sym (whole_finds _ _ old new found (is_told (Ok found) is whole)).0) (next_seen_within kind args bytes base len p view whole)

  cut_at : (found : Found) → Tells (seen kind args bytes base len p) old new (Ok found) → found ≡ More → (cut : Bool) → is_cut_short kind bytes base len p ≡ cut
      → is_cut_short kind bytes base len p ≡ true
  cut_at found is more true cut = cut
  cut_at found is more false whole =
      let told = whole_finds _ _ old new found (is_told (Ok found) is whole) in absurd cc

  more_at : (found : Found) → Tells (seen kind args bytes base len p) old new (Ok found) → is_cut_short kind bytes base len p ≡ true → found ≡ More
  more_at found is cut = let asked = is_asked (Ok found) is cut in cc

  unfailed_at : Tells (seen kind args bytes base len p) old new (Err Failed) → (file : List ℕ) → IsViewOf file kind args bytes base len
      → (cut : Bool) → is_cut_short kind bytes base len p ≡ cut → emission kind args file p ≡ model.Poison
  unfailed_at is file of true cut = let asked = is_asked (Err Failed) is cut in absurd cc
  unfailed_at is file of false whole =
      emission_is_seen kind args file bytes base len p view of whole ∙ whole_fails _ _ old new (is_told (Err Failed) is whole)

  -- ---- what a source promises of its calls

  pub answer_found : (answer : Result Found CallRefusal) → Tells (seen kind args bytes base len p) old new answer
      → IfOk answer (λ found. (file : List ℕ) → IsViewOf file kind args bytes base len → IsFound kind args file p old new found)
  answer_found (Ok found) is = λ file of. found_at found is file of (is_cut_short kind bytes base len p) refl
  answer_found (Err e) is = tt

  pub answer_next : (answer : Result Found CallRefusal) → Tells (seen kind args bytes base len p) old new answer → IfOk answer (IsNextWithin p len)
  answer_next (Ok found) is = next_at found is (is_cut_short kind bytes base len p) refl
  answer_next (Err e) is = tt

  pub answer_unchanged : (answer : Result Found CallRefusal) → Tells (seen kind args bytes base len p) old new answer → IfOk answer (λ found. found ≡ More → new ≡ old)
  answer_unchanged (Ok found) is = λ more. (is_asked (Ok found) is (cut_at found is more (is_cut_short kind bytes base len p) refl)).1
  answer_unchanged (Err e) is = tt

  pub answer_more : (answer : Result Found CallRefusal) → Tells (seen kind args bytes base len p) old new answer
      → IfOk answer (λ found. (found ≡ More) ↔ (is_cut_short kind bytes base len p ≡ true))
  answer_more (Ok found) is = (λ more. cut_at found is more (is_cut_short kind bytes base len p) refl, more_at found is)
  answer_more (Err e) is = tt

  pub answer_unharmed : (answer : Result Found CallRefusal) (before after : ℕ) → Tells (seen kind args bytes base len p) old new answer → after ≡ counted before answer
      → (file : List ℕ) → IsViewOf file kind args bytes base len → emission kind args file p ≢ model.Poison → IsUnharmed (IsErrOf answer Failed) before after
  answer_unharmed answer before after is counts file of sound =
      unfailed_unharmed answer before after counts
      (λ failed. sound (unfailed_at (subst (Tells (seen kind args bytes base len p) old new) failed is) file of (is_cut_short kind bytes base len p) refl))

  pub answer_unharmed_more : (answer : Result Found CallRefusal) (before after : ℕ) → Tells (seen kind args bytes base len p) old new answer → after ≡ counted before answer
      → is_cut_short kind bytes base len p ≡ true → IsUnharmed (IsErrOf answer Failed) before after
  answer_unharmed_more answer before after is counts cut =
      let asked = is_asked answer is cut in unfailed_unharmed answer before after counts (λ failed. cc)
