-- Text that is only added to begins as it did.
use Rattle.std.proofs.Common.{◌≡◌, ℕ, ◌≤◌, List, ◌++◌, length, take, Result, Ok, Err, OnErr, refl, sym, ap, ◌∙◌, arith}
use Rattle.std.proofs.lemmas.List.{length-take, take_at, take-take}

-- the front stays where more is put at the end
pub front_of_more : (old more new : List ℕ) → new ≡ old ++ more → take (length old) new ≡ old
front_of_more old more new e = ap (take (length old)) e ∙ take_at old more (length old) refl

-- and where the front of the longer text stays
pub front_of_front : (old longer new : List ℕ) → take (length old) longer ≡ old → take (length longer) new ≡ longer → take (length old) new ≡ old
front_of_front old longer new k l =
    let short : length old ≤ length longer = omega (arith, length-take (length old) longer, ap length k) in
    sym (take-take (length old) (length longer) new short) ∙ ap (take (length old)) l ∙ k

pub on_err : {T E P : Type 0} (r : Result T E) → P → OnErr r P
on_err (Ok x) p = tt
on_err (Err e) p = p
