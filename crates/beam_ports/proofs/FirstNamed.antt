-- The file at the first index of a name is the first file of that name.
use Rattle.std.proofs.Common.{◌≡◌, inl, inr, subst, IsSomeAnd, ℕ, ◌<◌, List, length, slice_get, Option, Some, None, Result, Ok, Err, IfOk, IsErrOf, position, find, refl, sym, ap, arith}
use Rattle.std.specs.List.{position_or_len}
use Rattle.std.specs.Option.{option_map}
use Rattle.std.proofs.lemmas.List.Folds.{find_at}
use Rattle.std.proofs.lemmas.Option.{slice_get_past, slice_get_cases}
use Rattle.std.proofs.lemmas.Bool.Decides.{nat_tests}
use Rattle.beam_ports.specs.declared.refusal.OpenRefusal.TheVariants.{Absent}
use Rattle.beam_ports.specs.declared.refusal.OpenRefusal.{OpenRefusal}
use Rattle.beam_ports.specs.declared.store.Opened.{Opened}
use Rattle.beam_values.specs.declared.file_text.FileText.{FileText}
use Rattle.beam_ports.specs.Files.{OpensText}
use Rattle.beam_values.specs.Files.{is_named, first_named}
use Rattle.beam_ports.specs.StoreMemory.{StoreMemory, opened_at, listed_opening, open_answer}

-- the first index, where it is within the list
none_found : (files : List FileText) (name : List ℕ) → position (is_named name) files ≡ None → find (is_named name) files ≡ None
none_found files name none = rw find_at (slice_get_past files (position_or_len (is_named name) files) (grind (arith, nat_tests)))

one_found : (files : List FileText) (name : List ℕ) (file : ℕ) → position (is_named name) files ≡ Some file → (find (is_named name) files ≡ slice_get files file) × (file < length files)
one_found files name file one = (grind (arith, nat_tests, find_at), grind (arith, nat_tests))

absent_at : (files : List FileText) (name : List ℕ) (index : Option ℕ) → position (is_named name) files ≡ index → opened_at files index ≡ Err Absent → first_named name files ≡ None
absent_at files name None none is = ap (λ file. option_map (λ (listed : FileText). listed.bytes) file) (none_found files name none)
absent_at files name (Some file) one is = grind (arith, nat_tests)

opens_listed : (files : List FileText) (name : List ℕ) (file : ℕ) (o : Opened) (listed : Option FileText) → slice_get files file ≡ listed → find (is_named name) files ≡ slice_get files file → file < length files → opened_at files (Some file) ≡ Ok o → OpensText (first_named name files) o.len (listed_opening files o.file)
opens_listed files name file o None past found within is =
    elim (slice_get_cases files file).1 [
      | inl there ↦ let listed = there.2 in cc
      | inr outside ↦ let beyond = outside.0 in absurd (omega arith)
    ]
opens_listed files name file o (Some listed) at found within is =
    let opened : o ≡ record { file = file; len = length listed.bytes } = grind (arith, nat_tests) in
    (listed.bytes, grind (arith), cc, grind (arith))

first_at : (files : List FileText) (name : List ℕ) (index : Option ℕ) (o : Opened) → position (is_named name) files ≡ index → opened_at files index ≡ Ok o → OpensText (first_named name files) o.len (listed_opening files o.file)
first_at files name None o none is = cc
first_at files name (Some file) o one is =
    let found = one_found files name file one in
    opens_listed files name file o (slice_get files file) refl found.0 found.1 is

pub absent : (store : StoreMemory) (name : List ℕ) (answer : Result Opened OpenRefusal) → answer ≡ open_answer store name → IsErrOf answer Absent → (told : List FileText) → store.files ≡ told → first_named name told ≡ None
absent store name answer is refused told same =
    subst (λ (files : List FileText). first_named name files ≡ None) same (absent_at store.files name _ refl (grind (arith)))

pub first : (old new : StoreMemory) (name : List ℕ) (answer : Result Opened OpenRefusal) → answer ≡ open_answer old name → new.files ≡ old.files → IfOk answer (λ o. (told : List FileText) → Some old.files ≡ Some told → OpensText (first_named name told) o.len (listed_opening new.files o.file))
first old new name (Err e) is kept = tt
first old new name (Ok o) is kept = λ told same.
    let told_is : old.files ≡ told = cc in
    let new_is : new.files ≡ told = cc in
    let opens = first_at old.files name _ o refl (grind (arith)) in
    let opens_told = subst (λ (files : List FileText). OpensText (first_named name files) o.len (listed_opening files o.file)) told_is opens in
    subst (λ (files : List FileText). OpensText (first_named name told) o.len (listed_opening files o.file)) (sym new_is) opens_told

pub has_length : (old new : StoreMemory) (name : List ℕ) (answer : Result Opened OpenRefusal) → answer ≡ open_answer old name → new.files ≡ old.files → IfOk answer (λ o. IsSomeAnd (listed_opening new.files o.file) (λ opening. opening.len ≡ o.len))
has_length old new name (Err e) is kept = tt
has_length old new name (Ok o) is kept =
    let opens = first old new name (Ok o) is kept old.files refl in
    let opened = opens.3 in
    rw opened refl
