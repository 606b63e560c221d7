-- A store over files that are shorter than it says opens and reads as any store does.
use Rattle.std.proofs.Common.{◌≡◌, inl, inr, ℕ, ◌<◌, IsSomeAnd, List, length, slice_get, Option, Some, None, Result, Ok, Err, IfOk, position, refl, arith}
use Rattle.std.proofs.lemmas.Option.{slice_get_cases}
use Rattle.std.proofs.lemmas.Bool.Decides.{nat_tests}
use Rattle.beam_ports.specs.declared.refusal.OpenRefusal.{OpenRefusal}
use Rattle.beam_ports.specs.declared.store.Opened.{Opened}
use Rattle.beam_ports.specs.ShrunkMemory.{AreClaimed, ShrunkMemory, claimed_opening, shrunk_at, shrunk_opening}
use Rattle.beam_values.specs.Files.{is_named}

opens_at : (claimed : List ℕ) (file : ℕ) (o : Opened) (len : Option ℕ) → slice_get claimed file ≡ len → file < length claimed → shrunk_at claimed (Some file) ≡ Ok o → IsSomeAnd (claimed_opening claimed o.file) (λ opening. opening.len ≡ o.len)
opens_at claimed file o None past within is =
    elim (slice_get_cases claimed file).1 [
      | inl there ↦ let listed = there.2 in cc
      | inr outside ↦ let beyond = outside.0 in absurd (omega arith)
    ]
opens_at claimed file o (Some len) at within is =
    let opened : o ≡ record { file = file; len = len } = grind (arith, nat_tests) in
    rw opened (rw at refl)

opens_found : (store : ShrunkMemory) (name : List ℕ) (index : Option ℕ) (o : Opened) → AreClaimed store.files store.claimed → position (is_named name) store.files ≡ index → shrunk_at store.claimed index ≡ Ok o → IsSomeAnd (claimed_opening store.claimed o.file) (λ opening. opening.len ≡ o.len)
opens_found store name None o are none is = cc
opens_found store name (Some file) o are one is =
    let each = are.each in
    opens_at store.claimed file o _ refl (grind (arith, nat_tests)) is

pub has_length : (old new : ShrunkMemory) (name : List ℕ) (answer : Result Opened OpenRefusal) → AreClaimed old.files old.claimed → answer ≡ shrunk_opening old name → new.claimed ≡ old.claimed → IfOk answer (λ o. IsSomeAnd (claimed_opening new.claimed o.file) (λ opening. opening.len ≡ o.len))
has_length old new name (Err e) are is kept = tt
has_length old new name (Ok o) are is kept = rw kept (opens_found old name _ o are refl (grind (arith)))
