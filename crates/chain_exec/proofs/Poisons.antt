-- The first poison of outputs, and refusals by it.
use Rattle.std.proofs.Common.{◌≡◌, ℕ, ◌≤◌, Bool, List, [], ◌∷◌, ◌++◌, map, Some, None, refl, sym, ap, ◌∙◌, arith, ◌+◌, ◌<◌, length, get_or, take, drop, add-one}
use Rattle.std.specs.List.{flat_map}
use Rattle.std.proofs.Math.Seq.{drop-cons}
use Rattle.std.proofs.lemmas.Bool.Decides.{nat_tests}
use Rattle.std.proofs.lemmas.Grind.{flat_map-append}
use Rattle.std.proofs.lemmas.List.{append-nil, take-append-drop, take_more}
use Rattle.beam_values.specs.declared.arrival.Arrival.{Arrival}
use Rattle.beam_values.specs.declared.fault.Cause.TheVariants.{Call, Read}
use Rattle.beam_model.specs.Chains.{Output, Arrives, PoisonAt}
use Rattle.beam_model.specs.Spread.{first_poison}
use Rattle.beam_ports.specs.Counts.{Rose}
use Rattle.chain_exec.specs.Causes.{IsCallRefused}
use Rattle.chain_exec.specs.declared.refusal.ExecRefusal.{ExecRefusal}
use Rattle.chain_exec.specs.declared.refusal.ExecRefusal.TheVariants.{Faulted, NoMemory}

-- arrivals in front of outputs don't change which poison is first
pub first_after_arrivals : (arrivals : List Arrival) (outputs : List Output) → first_poison (map Arrives arrivals ++ outputs) ≡ first_poison outputs
first_after_arrivals [] outputs = refl
first_after_arrivals (a ∷ more) outputs = first_after_arrivals more outputs

-- outputs that are the same with arrivals in front of them have the same first poison
pub same_first : (here there : List Arrival) (xs ys : List Output) → map Arrives here ++ xs ≡ map Arrives there ++ ys → first_poison xs ≡ first_poison ys
same_first here there xs ys same = sym (first_after_arrivals here xs) ∙ ap first_poison same ∙ first_after_arrivals there ys

pub first_in_front : (xs ys : List Output) (at : ℕ) → first_poison xs ≡ Some at → first_poison (xs ++ ys) ≡ Some at
first_in_front [] ys at is = absurd cc
first_in_front (Arrives a ∷ xs) ys at is = first_in_front xs ys at is
first_in_front (PoisonAt n ∷ xs) ys at is = is

pub none_in_front : (xs ys : List Output) → first_poison (xs ++ ys) ≡ None → first_poison xs ≡ None
none_in_front [] ys none = refl
none_in_front (Arrives a ∷ xs) ys none = none_in_front xs ys none
none_in_front (PoisonAt n ∷ xs) ys none = none

-- after outputs that all arrived, the first poison is that of the rest
pub first_after_none : (xs ys : List Output) → first_poison xs ≡ None → first_poison (xs ++ ys) ≡ first_poison ys
first_after_none [] ys none = refl
first_after_none (Arrives a ∷ xs) ys none = first_after_none xs ys none
first_after_none (PoisonAt n ∷ xs) ys none = absurd cc

-- what was staged has no poison
pub none_staged : (before after : List Arrival) (outputs : List Output) → map Arrives after ≡ map Arrives before ++ outputs → first_poison outputs ≡ None
none_staged before after outputs staged =
    sym (first_after_arrivals before outputs) ∙ ap first_poison (sym staged ∙ sym (append-nil (map Arrives after))) ∙ first_after_arrivals after []

-- a count that rose from a later value rose
pub rose_after : (start before after : ℕ) → start ≤ before → Rose before after → Rose start after
rose_after start before after kept rose = grind (arith, nat_tests)

-- a refusal of a part of the work is one of the whole work
pub refused_in_whole : (strict : Bool) (start before after : ℕ) (part whole : List Output) → start ≤ before
    → ((at : ℕ) → first_poison part ≡ Some at → first_poison whole ≡ Some at)
    → (refusal : ExecRefusal) → IsCallRefused (record { strict = strict; before = before; after = after }) part refusal
    → IsCallRefused (record { strict = strict; before = start; after = after }) whole refusal
refused_in_whole strict start before after part whole kept first (Faulted at Call) is = (rose_after start before after kept is.0, λ s. first at (is.1 s))
refused_in_whole strict start before after part whole kept first (Faulted at Read) is = is
refused_in_whole strict start before after part whole kept first NoMemory is = tt

module _ {X : Type 0} (brings : X → List Output) (xs : List X) (i : ℕ) (x : X) (inside : i < length xs) (is : x ≡ get_or xs i x) where
  -- the outputs of a batch are those of the items before i, of item i, and of the items after it
  pub batch_at : flat_map brings xs ≡ flat_map brings (take i xs) ++ (brings x ++ flat_map brings (drop (i + 1) xs))
  batch_at =
      let split : drop i xs ≡ get_or xs i x ∷ drop (i + 1) xs = rw add-one (drop-cons xs i x inside) in
      ap (flat_map brings) (sym (take-append-drop i xs))
      ∙ flat_map-append brings (take i xs) (drop i xs)
      ∙ ap (λ (l : List X). flat_map brings (take i xs) ++ flat_map brings l) split
      ∙ ap (λ (y : X). flat_map brings (take i xs) ++ (brings y ++ flat_map brings (drop (i + 1) xs))) (sym is)

  pub batch_more : flat_map brings (take (i + 1) xs) ≡ flat_map brings (take i xs) ++ brings x
  batch_more =
      ap (flat_map brings) (take_more xs i x inside)
      ∙ flat_map-append brings (take i xs) (get_or xs i x ∷ [])
      ∙ ap (λ (l : List Output). flat_map brings (take i xs) ++ l) (append-nil (brings (get_or xs i x)) ∙ ap brings (sym is))

  -- where nothing before it was poison, its first poison is the first of all
  pub first_of_batch : first_poison (flat_map brings (take i xs)) ≡ None
      → first_poison (flat_map brings xs) ≡ first_poison (brings x ++ flat_map brings (drop (i + 1) xs))
  first_of_batch none = ap first_poison batch_at ∙ first_after_none (flat_map brings (take i xs)) (brings x ++ flat_map brings (drop (i + 1) xs)) none
