-- What positions emit, and refusals of work on them.
use Rattle.std.proofs.Common.{◌≡◌, ℕ, ◌+◌, ◌<◌, ◌≤◌, Bool, true, false, List, [], ◌∷◌, ◌++◌, length, get_or, map, fold, take, Option, None, refl, sym, ap, subst, ◌∙◌, arith}
use Rattle.std.specs.Prelude.{ℤ, ◌==◌, ◌↔◌, IsTrue, not}
use Rattle.std.specs.List.{All}
use Rattle.std.proofs.lemmas.List.{take_more, map-append}
use Rattle.std.proofs.lemmas.List.Elements.{All-nil, All-cons, All-append}
use Rattle.std.proofs.lemmas.Bool.{false≢true}
use Rattle.std.proofs.lemmas.Bool.Decides.{nat_tests}
use Rattle.beam_values.specs.Marks.{seen_after}
use Rattle.beam_values.specs.Times.{IsTime}
use Rattle.beam_values.specs.declared.fault.Cause.TheVariants.{Call, Read}
use Rattle.beam_values.specs.declared.plan.Estimator.{Estimator}
use Rattle.beam_values.specs.declared.plan.Plan.{Plan}
use Rattle.beam_model.specs.Chains.{Arrives}
use Rattle.beam_model.specs.Holds.{estimator_of}
use Rattle.beam_model.specs.Positions.{Emission, TimedValue, Emits}
use Rattle.beam_model.specs.Spread.{emission_outputs, first_poison}
use Rattle.beam_model.specs.Estimators.{latest_time, later_time}
use Rattle.beam_ports.specs.Files.{Opening}
use Rattle.bundle_commit.specs.declared.job.Receipt.{Receipt}
use Rattle.dofn_traits.specs.Calls.{timed_value}
use Rattle.dofn_traits.specs.declared.calls.Emission as calls
use Rattle.dofn_traits.specs.declared.calls.Timed.{Timed}
use Rattle.chain_exec.specs.Causes.{IsCallRefused}
use Rattle.chain_exec.specs.Positions.{HasValue, IsEmissionAt, IsPositionRefused, IsWorked, StoreCounts, emission_of}
use Rattle.chain_exec.specs.Sources.{SourceWork}
use Rattle.chain_exec.specs.declared.refusal.ExecRefusal.{ExecRefusal}
use Rattle.chain_exec.specs.declared.refusal.ExecRefusal.TheVariants.{Faulted, NoMemory}
use Rattle.chain_exec.proofs.Poisons.{rose_after}

latest-snoc : (start : Option ℤ) (values : List TimedValue) (v : TimedValue) → fold later_time start (values ++ v ∷ []) ≡ later_time (fold later_time start values) v
latest-snoc start [] v = refl
latest-snoc start (w ∷ values) v = latest-snoc (later_time start w) values v

-- one value more
pub latest-push : (items : List Timed) (i : ℕ) (timed : Timed) → i < length items → timed ≡ get_or items i timed
    → later_time (latest_time (map timed_value (take i items))) (timed_value timed) ≡ latest_time (map timed_value (take (i + 1) items))
latest-push items i timed inside is =
    sym (latest-snoc None (map timed_value (take i items)) (timed_value timed))
    ∙ ap latest_time (sym (map-append timed_value (take i items) (timed ∷ [])))
    ∙ ap (λ (t : Timed). latest_time (map timed_value (take i items ++ t ∷ []))) is
    ∙ ap (λ (l : List Timed). latest_time (map timed_value l)) (sym (take_more items i timed inside))

pub timely-push : (items : List Timed) (i : ℕ) (timed : Timed) → i < length items → timed ≡ get_or items i timed → IsTime timed.time
    → All (λ v. IsTime v.time) (map timed_value (take i items)) → All (λ v. IsTime v.time) (map timed_value (take (i + 1) items))
timely-push items i timed inside is within before =
    let P = λ (v : TimedValue). IsTime v.time in
    let same : map timed_value (take i items) ++ timed_value timed ∷ [] ≡ map timed_value (take (i + 1) items) =
    sym (map-append timed_value (take i items) (timed ∷ []))
    ∙ ap (λ (t : Timed). map timed_value (take i items ++ t ∷ [])) is
    ∙ ap (map timed_value) (sym (take_more items i timed inside)) in
    subst (All P) same (All-append P (map timed_value (take i items)) (timed_value timed ∷ []) before (All-cons P (timed_value timed) [] within (All-nil P)))

-- it has a value where its list isn't empty
has_value : (items : List Timed) (declared : Option ℤ) (empty : Bool) → empty ≡ (length items == 0) → IsTrue (not empty) ↔ HasValue (Emits (map timed_value items) declared)
has_value [] declared empty is = (λ some. both_ways empty is some, λ none. absurd none)
  where
    both_ways : (b : Bool) → b ≡ true → IsTrue (not b) → ⊥
    both_ways true same some = false≢true some
    both_ways false same some = false≢true same
has_value (timed ∷ items) declared empty is = (λ some. tt, λ some. ap not (is ∙ none))
  where
    none : (length (timed ∷ items) == 0) ≡ false
    none = grind (arith, nat_tests)

pub worked : (plan : Plan) (node next : ℕ) (estimator : Estimator) (out : calls.Emission) (values : List Timed) (latest : Option ℤ) (empty : Bool) (old observed new : Receipt)
    → estimator ≡ estimator_of plan node → values ≡ out.items → latest ≡ latest_time (map timed_value values) → empty ≡ (length values == 0)
    → All (λ v. IsTime v.time) (map timed_value values)
    → observed ≡ record old { seen = seen_after estimator old.seen latest out.declared } → new ≡ record observed { arrivals = new.arrivals }
    → map Arrives new.arrivals ≡ map Arrives observed.arrivals ++ emission_outputs plan node (emission_of out)
    → IsWorked plan node (emission_of out) old new (record { next = next; emitted = not empty })
worked plan node next estimator out values latest empty old observed new its same time some timely seen only staged = record {
  arrivals = staged ∙ ap (λ (r : Receipt). map Arrives r.arrivals ++ emission_outputs plan node (emission_of out)) seen;
  seen = ap (λ (r : Receipt). r.seen) only ∙ ap (λ (r : Receipt). r.seen) seen
      ∙ ap (λ (t : Option ℤ). seen_after estimator old.seen t out.declared) (time ∙ ap (λ (l : List Timed). latest_time (map timed_value l)) same)
      ∙ ap (λ (e : Estimator). seen_after e old.seen (latest_time (map timed_value out.items)) out.declared) its;
  logged = ap (λ (r : Receipt). r.logged) only ∙ ap (λ (r : Receipt). r.logged) seen;
  timely = subst (λ (l : List Timed). All (λ v. IsTime v.time) (map timed_value l)) same timely;
  emits = has_value out.items out.declared empty (some ∙ ap (λ (l : List Timed). length l == 0) same);
}

-- what an emission that a position emits brings was refused, and so the work on the position
pub position_refused : (strict sent_strict : Bool) (start before after : ℕ) (store : StoreCounts) (plan : Plan) (node : ℕ) (source : SourceWork) (opening : Option Opening) (len p next : ℕ)
    (emitted : Emission) → start ≤ before → sent_strict ≡ strict → IsEmissionAt source opening len p emitted next
    → (refusal : ExecRefusal) → IsCallRefused (record { strict = sent_strict; before = before; after = after }) (emission_outputs plan node emitted) refusal
    → IsPositionRefused (record { strict = strict; before = start; after = after }) store plan node source opening len p refusal
position_refused strict sent_strict start before after store plan node source opening len p next emitted kept same told (Faulted at Call) is =
    (rose_after start before after kept is.0, λ s text known. ap (λ (e : Emission). first_poison (emission_outputs plan node e)) (sym (told text known).0) ∙ is.1 (same ∙ s))
position_refused strict sent_strict start before after store plan node source opening len p next emitted kept same told (Faulted at Read) is = absurd is
position_refused strict sent_strict start before after store plan node source opening len p next emitted kept same told NoMemory is = tt
