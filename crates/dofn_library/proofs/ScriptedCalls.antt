-- What functions promise of every call holds of one that is listed, and of one that is handed on.
use Rattle.std.proofs.Common.{◌≡◌, ℕ, ◌+◌, ◌≤◌, ◌==◌, min, Bool, true, false, ◌&&◌, List, [], ◌∷◌, length, Result, refl, ap, sym, ◌∙◌, true≢false, eqb-true, arith}
use Rattle.std.proofs.lemmas.Bool.Decides.{nat_tests}
use Rattle.beam_values.specs.declared.element.Element.{Element}
use Rattle.beam_values.specs.declared.plan.Args.{Args}
use Rattle.beam_values.specs.declared.plan.FnKind.{FnKind}
use Rattle.beam_ports.specs.Counts.{Rose, greatest_count, raised}
use Rattle.beam_ports.specs.StoreMemory.{is_listed}
use Rattle.dofn_traits.specs.declared.calls.CallRefusal.{CallRefusal}
use Rattle.dofn_library.specs.Scripts.{Script, is_next_listed, script_faults, is_script_strict, IsStopped, IsPromised}

-- the sum of two counts rises with either of them, and at its end it counts as risen
own_rose : (own inner : ℕ) → Rose (min (own + inner) greatest_count) (min (raised own + inner) greatest_count)
own_rose own inner = grind (arith, nat_tests)

own_grew : (own inner : ℕ) → min (own + inner) greatest_count ≤ min (raised own + inner) greatest_count
own_grew own inner = grind (arith, nat_tests)

inner_rose : (own before after : ℕ) → Rose before after → Rose (min (own + before) greatest_count) (min (own + after) greatest_count)
inner_rose own before after rose = grind (arith, nat_tests)

inner_grew : (own before after : ℕ) → before ≤ after → min (own + before) greatest_count ≤ min (own + after) greatest_count
inner_grew own before after grew = grind (arith, nat_tests)

both_true : (first second : Bool) → (first && second) ≡ true → (first ≡ true) × (second ≡ true)
both_true true second both = (refl, both)
both_true false second both = absurd cc

-- where no call is listed, none fails by its number
none_listed : (failing : List ℕ) (calls : ℕ) (inner : Bool) → ((length failing == 0) && inner) ≡ true → (is_listed failing calls ≡ false) × (inner ≡ true)
none_listed [] calls inner strict = (refl, strict)
none_listed (call ∷ failing) calls inner strict =
    let empty : length (call ∷ failing) ≡ 0 = eqb-true _ _ (both_true _ _ strict).0 in
    absurd (omega arith)

module _ {D : Type 0} (work_of : D → FnKind) (faults_of : D → ℕ) (is_strict : D → Bool) (args : Args) (e : Element)
    (old new : Script D) (before after : List Element) (answer : Result (Unit {0}) CallRefusal) where
  abbrev Holds : Type 0
  Holds = IsPromised (λ (script : Script D). work_of script.inner) (script_faults faults_of) (is_script_strict is_strict) args e old new before after answer

  stopped_holds : is_next_listed old ≡ true → IsStopped old new before after answer → Holds
  stopped_holds listed stopped = record {
    outputs = rw stopped.answered tt;
    failed = λ failed. rw stopped.counted (own_rose old.faults (faults_of old.inner));
    counts = rw stopped.counted (own_grew old.faults (faults_of old.inner));
    unharmed = λ strict no_poison. absurd (true≢false (sym listed ∙ (none_listed old.failing old.calls (is_strict old.inner) strict).0));
    work = rw stopped.counted refl;
    strict = rw stopped.counted refl;
  }

  handed_on_holds : new ≡ record old { inner = new.inner; calls = raised old.calls } → IsPromised work_of faults_of is_strict args e old.inner new.inner before after answer → Holds
  handed_on_holds kept promised =
      let own : new.faults ≡ old.faults = ap (λ (script : Script D). script.faults) kept in
      let failing : new.failing ≡ old.failing = ap (λ (script : Script D). script.failing) kept in
      record {
        outputs = promised.outputs;
        failed = λ failed. rw own (inner_rose old.faults (faults_of old.inner) (faults_of new.inner) (promised.failed failed));
        counts = rw own (inner_grew old.faults (faults_of old.inner) (faults_of new.inner) promised.counts);
        unharmed = λ strict no_poison.
            let unharmed = promised.unharmed (none_listed old.failing old.calls (is_strict old.inner) strict).1 no_poison in
            record { answered = unharmed.answered; uncounted = rw (own, unharmed.uncounted) refl };
        work = promised.work;
        strict = rw (failing, promised.strict) refl;
      }

  pub holds : (is_next_listed old ≡ true → IsStopped old new before after answer)
      → (is_next_listed old ≡ false → new ≡ record old { inner = new.inner; calls = raised old.calls })
      → (is_next_listed old ≡ false → IsPromised work_of faults_of is_strict args e old.inner new.inner before after answer) → Holds
  holds listed kept promised = by_test (is_next_listed old) refl
    where
      by_test : (test : Bool) → is_next_listed old ≡ test → Holds
      by_test true is = stopped_holds is (listed is)
      by_test false is = handed_on_holds (kept is) (promised is)
