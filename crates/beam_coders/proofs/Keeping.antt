-- Text that is only added to.
use Rattle.std.proofs.Common.{◌≡◌, ℕ, ◌≤◌, List, ◌++◌, length, take, Result, Ok, Err, OnOk, refl, sym, ap, subst, ◌∙◌, arith}
use Rattle.std.proofs.lemmas.List.{length-take, take_all, take_at, take-take}
use Rattle.beam_coders.specs.Kept.{Keeps}

pub keeps_self : (xs : List ℕ) → Keeps xs xs
keeps_self xs = record { kept = take_all (length xs) xs (omega arith) }

pub keeps_more : (xs ys : List ℕ) → Keeps xs (xs ++ ys)
keeps_more xs ys = record { kept = take_at xs ys (length xs) refl }

pub keeps_on : (xs ys zs : List ℕ) → Keeps xs ys → Keeps ys zs → Keeps xs zs
keeps_on xs ys zs k l =
    let short : length xs ≤ length ys = omega (arith, length-take (length xs) ys, ap length k.kept) in
    record { kept = sym (take-take (length xs) (length ys) zs short) ∙ ap (take (length xs)) l.kept ∙ k.kept }

-- with more at the end
pub keeps_with : (first old more new : List ℕ) → Keeps first old → new ≡ old ++ more → Keeps first new
keeps_with first old more new k e = keeps_on first old new k (subst (Keeps old) (sym e) (keeps_more old more))

pub on_ok : {X E : Type 0} (r : Result X E) {P Q : Type 0} → (P → Q) → OnOk r P → OnOk r Q
on_ok (Ok x) f p = f p
on_ok (Err e) f p = tt
