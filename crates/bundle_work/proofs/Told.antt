-- What is told by all kits is told by each of them.
use Rattle.std.proofs.Common.{◌≡◌, ◌⊎◌, inl, inr, ℕ, ◌==◌, ◌&&◌, Bool, true, false, List, [], ◌∷◌, refl, sym, ap, ◌∙◌, subst}
use Rattle.std.specs.Prelude.{Option, Some, None, if◌then◌else◌}
use Rattle.std.specs.List.{AllByRecursion, list_all}
use Rattle.std.proofs.lemmas.Bool.{and_parts, eqb-true, false≢true}
use Rattle.beam_values.specs.declared.file_text.FileText.{FileText}
use Rattle.beam_ports.specs.Files.{Opening}
use Rattle.beam_ports.specs.declared.store.Opened.{Opened}
use Rattle.bundle_work.specs.Kits.{AreKnownBy, are_same_files, is_same_text, tells_same, told_by}
use Rattle.bundle_work.specs.Openings.{AreOpened}

pub text_same : (xs ys : List ℕ) → is_same_text xs ys ≡ true → xs ≡ ys
text_same [] [] is = refl
text_same [] (y ∷ ys) is = absurd (false≢true is)
text_same (x ∷ xs) [] is = absurd (false≢true is)
text_same (x ∷ xs) (y ∷ ys) is =
    let parts = and_parts (x == y) (is_same_text xs ys) is in
    ap (λ (n : ℕ). n ∷ xs) (eqb-true x y parts.0) ∙ ap (λ (l : List ℕ). y ∷ l) (text_same xs ys parts.1)

pub files_same : (files others : List FileText) → are_same_files files others ≡ true → files ≡ others
files_same [] [] is = refl
files_same [] (other ∷ others) is = absurd (false≢true is)
files_same (file ∷ files) [] is = absurd (false≢true is)
files_same (file ∷ files) (other ∷ others) is =
    let parts = and_parts (is_same_text file.name other.name && is_same_text file.bytes other.bytes) (are_same_files files others) is in
    let both = and_parts (is_same_text file.name other.name) (is_same_text file.bytes other.bytes) parts.0 in
    ap (λ (name : List ℕ). record { name = name; bytes = file.bytes } ∷ files) (text_same file.name other.name both.0)
    ∙ ap (λ (bytes : List ℕ). record { name = other.name; bytes = bytes } ∷ files) (text_same file.bytes other.bytes both.1)
    ∙ ap (λ (l : List FileText). other ∷ l) (files_same files others parts.1)

pub told_same : (told other : Option (List FileText)) → tells_same told other ≡ true → told ≡ other
told_same None None is = refl
told_same None (Some others) is = absurd (false≢true is)
told_same (Some files) None is = absurd (false≢true is)
told_same (Some files) (Some others) is = ap Some (files_same files others is)

abbrev nothing_told : Option (List FileText)
nothing_told = None

-- what a list of kits tells is nothing, or what each of them does
pub told_by_each : (tellings : List (Option (List FileText))) → AllByRecursion (λ told. (told_by tellings ≡ None) ⊎ (told_by tellings ≡ told)) tellings
told_by_each [] = tt
told_by_each (first ∷ others) = by (list_all (tells_same first) others) refl
  where
    each : (others : List (Option (List FileText))) → list_all (tells_same first) others ≡ true → AllByRecursion (λ told. (first ≡ None) ⊎ (first ≡ told)) others
    each [] all = tt
    each (other ∷ others) all =
        let parts = and_parts (tells_same first other) (list_all (tells_same first) others) all in
        (inr (told_same first other parts.0), each others parts.1)

    none : (others : List (Option (List FileText))) → AllByRecursion (λ told. (nothing_told ≡ nothing_told) ⊎ (nothing_told ≡ told)) others
    none [] = tt
    none (other ∷ others) = (inl refl, none others)

    by : (all : Bool) → list_all (tells_same first) others ≡ all
        → AllByRecursion (λ told. ((if all then first else None) ≡ None) ⊎ ((if all then first else None) ≡ told)) (first ∷ others)
    by true all = (inr refl, each others all)
    by false all = (inl refl, none others)

-- ---- opened files, as far as anything is known of them

pub opened_untold : (files : Option (List FileText)) (opened : ℕ → Option Opening) (names : List (List ℕ)) (opens : List Opened) → AreOpened files opened names opens → AreOpened None opened names opens
opened_untold files opened [] [] are = tt
opened_untold files opened [] (file ∷ opens) are = absurd are
opened_untold files opened (name ∷ names) [] are = absurd are
opened_untold files opened (name ∷ names) (file ∷ opens) are =
    (record { len = are.0.len; told = λ told tells. absurd (cc) }, opened_untold files opened names opens are.1)

opened_none : (known files : Option (List FileText)) (opened : ℕ → Option Opening) (names : List (List ℕ)) (opens : List Opened) → names ≡ [] → AreOpened files opened names opens → AreOpened known opened names opens
opened_none known files opened [] [] none are = tt
opened_none known files opened [] (file ∷ opens) none are = absurd are
opened_none known files opened (name ∷ names) opens none are = absurd (cc)

pub opened_known : (known files : Option (List FileText)) (opened : ℕ → Option Opening) (names : List (List ℕ)) (opens : List Opened) → AreKnownBy known files names → AreOpened files opened names opens
    → AreOpened known opened names opens
opened_known known files opened names opens (inl none) are = opened_none known files opened names opens none are
opened_known known files opened names opens (inr (inl untold)) are = subst (λ (k : Option (List FileText)). AreOpened k opened names opens) (sym untold) (opened_untold files opened names opens are)
opened_known known files opened names opens (inr (inr same)) are = subst (λ (k : Option (List FileText)). AreOpened k opened names opens) (sym same) are
