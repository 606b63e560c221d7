-- What a source answers, from what it found.
use Rattle.std.proofs.Common.{◌≡◌, ℕ, ◌+◌, ◌*◌, ◌%◌, ◌-◌, ◌<◌, ◌≤◌, ℤ, pos, true, false, List, ◌∷◌, ◌++◌, codes, decimal, Result, Ok, Err, refl, sym, ap, subst, arith}
use Rattle.std.specs.Prelude.{IsErrAnd}
use Rattle.std.proofs.lemmas.Bool.{cond-true, cond-false}
use Rattle.std.proofs.lemmas.Bool.Decides.{nat_tests}
use Rattle.beam_values.specs.Checked.{is_two_upto}
use Rattle.beam_values.specs.Functions.{timed_line}
use Rattle.beam_values.specs.Lines.{starts_line, line_at}
use Rattle.beam_values.specs.declared.plan.Args.{Args}
use Rattle.beam_values.specs.declared.plan.Args.TheVariants.{Nothing, Text, Number, Two}
use Rattle.beam_values.specs.declared.plan.SourceKind.TheVariants.{Lines, TimedLines}
use Rattle.beam_values.specs.declared.value.Value.TheVariants.{Blob}
use Rattle.beam_model.specs.Functions.{first_arg, second_arg}
use Rattle.beam_model.specs.Positions as model
use Rattle.beam_model.specs.Positions.{nothing, emits_one, line_emission, made_line}
use Rattle.beam_model.proofs.MadeLines.{made_emits}
use Rattle.dofn_traits.specs.Calls.{is_cut_short, AddsEmission}
use Rattle.dofn_traits.specs.declared.calls.CallRefusal.{CallRefusal}
use Rattle.dofn_traits.specs.declared.calls.CallRefusal.TheVariants.{Failed, NoMemory}
use Rattle.dofn_traits.specs.declared.calls.Emission.{Emission}
use Rattle.dofn_traits.specs.declared.calls.Found.{Found}
use Rattle.dofn_traits.specs.declared.calls.Found.TheVariants.{Here}
use Rattle.sdf_library.specs.Sources.{Whole, Tells, Adds, seen, next_seen}

-- the refusal that `?` hands on
pub refused_with : (answer : Result Found CallRefusal) (e : CallRefusal) → IsErrAnd answer (λ refusal. refusal ≡ e) → answer ≡ Err e
refused_with (Ok found) e is = absurd is
refused_with (Err refusal) e is = ap Err is

refusal_tells : (emission : model.Emission) (next : ℕ) (old new : Emission) (e : CallRefusal) → Adds emission old new (Err e) → Tells (Whole emission next) old new (Err e)
refusal_tells (model.Emits values declared) next old new NoMemory is = tt
refusal_tells (model.Emits values declared) next old new Failed is = absurd is
refusal_tells model.Poison next old new NoMemory is = absurd is
refusal_tells model.Poison next old new Failed is = tt

-- where a line that is seen whole is refused
pub line_refused : (args : Args) (bytes : List ℕ) (base len p : ℕ) (old new : Emission) (e : CallRefusal) (answer : Result Found CallRefusal)
    → IsErrAnd answer (λ refusal. refusal ≡ e) → is_cut_short Lines bytes base len p ≡ false
    → starts_line bytes (p - base) ≡ true → Adds (line_emission (timed_line (line_at bytes (p - base)))) old new (Err e)
    → Tells (seen TimedLines args bytes base len p) old new answer
line_refused args bytes base len p old new e answer refused whole starts is =
    let line : model.Emission = line_emission (timed_line (line_at bytes (p - base))) in
    subst (Tells (seen TimedLines args bytes base len p) old new) (sym (refused_with answer e refused))
    (subst (λ at. Tells at old new (Err e)) (sym (cond-false _ _ _ whole))
    (refusal_tells _ (next_seen TimedLines bytes base p) old new e (subst (λ emission. Adds emission old new (Err e)) (sym (cond-true _ line nothing starts)) is)))

-- the limits of two arguments
pub two_within : (first second : ℕ) (args : Args) → is_two_upto first second args ≡ true → (first_arg args ≤ first) × (second_arg args ≤ second)
two_within first second Nothing is = absurd cc
two_within first second (Text text) is = absurd cc
two_within first second (Number n) is = absurd cc
two_within first second (Two a b) is = (grind (arith, nat_tests), grind (arith, nat_tests))

-- a made-up line is never poison, so it is refused for want of memory alone
pub made_refused : (number p next : ℕ) (old new : Emission) (answer : Result Found CallRefusal) → number ≤ 1000000 → p < 1000000 → IsErrAnd answer (λ refusal. refusal ≡ NoMemory)
    → Tells (Whole (line_emission (timed_line (made_line number p))) next) old new answer
made_refused number p next old new answer small below is =
    let emitted = made_emits number p (codes "k" ++ (decimal ((7 * p + number) % 16) ++ 9 ∷ decimal ((p + number) % 1000))) (pos (100 * p + (37 * (p + number)) % 100)) small below refl refl in
    subst (λ emission. Tells (Whole emission next) old new answer) emitted (subst (Tells (Whole (emits_one _ _) next) old new) (sym (refused_with answer NoMemory is)) tt)

pub made_told : (number p next : ℕ) (text : List ℕ) (time : ℤ) (old new : Emission) → number ≤ 1000000 → p < 1000000
    → text ≡ codes "k" ++ (decimal ((7 * p + number) % 16) ++ 9 ∷ decimal ((p + number) % 1000)) → time ≡ pos (100 * p + (37 * (p + number)) % 100)
    → AddsEmission (emits_one (Blob text) time) old new → Tells (Whole (line_emission (timed_line (made_line number p))) next) old new (Ok (Here next))
made_told number p next text time old new small below text_is time_is adds =
    subst (λ emission. Tells (Whole emission next) old new (Ok (Here next))) (made_emits number p text time small below text_is time_is) (refl, adds)
