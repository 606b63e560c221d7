-- The first kit, whose shelf works one job more when all kits have folded.
use Rattle.std.proofs.Common.{◌≡◌, ℕ, ◌+◌, ◌<◌, ◌≤◌, ◌&&◌, Bool, true, false, List, [], ◌∷◌, length, refl, ◌∙◌, arith}
use Rattle.std.specs.Prelude.{Option, slice_index_or, slice_set}
use Rattle.std.specs.List.{list_all}
use Rattle.std.proofs.lemmas.Bool.Decides.{nat_tests}
use Rattle.beam_values.specs.declared.file_text.FileText.{FileText}
use Rattle.beam_ports.specs.Counts.{rise}
use Rattle.beam_ports.specs.Files.{Opening}
use Rattle.bundle_work.specs.Kits.{EachBecomes, sum_rises}
use Rattle.bundle_work.specs.Outside.{IsKitKept}
use Rattle.bundle_work.specs.declared.kit.Kit.{Kit}

first_true : (a b : Bool) → (a && b) ≡ true → a ≡ true
first_true true b both = refl
first_true false b both = both

-- how far a count rose late is within how far it rose in all, and other counts too
rise_in_all : (before between now others : ℕ) → before ≤ between → rise between now ≤ rise 0 (rise before now + others)
rise_in_all before between now others earlier = grind (arith, nat_tests)

module _ {F S : Type 0} (faults : F → ℕ) (strict : F → Bool) (fails : S → ℕ) (files : S → Option (List FileText)) (opened : S → ℕ → Option Opening) where
  abbrev pub Kept : Kit F S → Kit F S → Type 0
  Kept old new = (new.files ≡ old.files) × IsKitKept faults strict fails files opened old.shelf new.shelf old.store new.store

  abbrev pub with_shelf : Kit F S → F → Kit F S
  with_shelf kit shelf = record { shelf = shelf; store = kit.store; files = kit.files }

  pub front_kept : (olds mids : List (Kit F S)) (default : Kit F S) (shelf : F) → 0 < length olds → EachBecomes olds mids Kept → faults (slice_index_or mids 0 default).shelf ≤ faults shelf
      → strict shelf ≡ strict (slice_index_or mids 0 default).shelf → EachBecomes olds (slice_set mids 0 (with_shelf (slice_index_or mids 0 default) shelf)) Kept
  front_kept [] mids default shelf some kept counts same = absurd (omega arith)
  front_kept (old ∷ olds) [] default shelf some kept counts same = absurd kept
  front_kept (old ∷ olds) (mid ∷ mids) default shelf some kept counts same =
      ((kept.0.0, record { counts = omega (arith, kept.0.1.counts, counts); strict = same ∙ kept.0.1.strict; reading = kept.0.1.reading }), kept.1)

  pub front_strict : (olds mids : List (Kit F S)) (default : Kit F S) → 0 < length olds → EachBecomes olds mids Kept → list_all (λ kit. strict kit.shelf) olds ≡ true
      → strict (slice_index_or mids 0 default).shelf ≡ true
  front_strict [] mids default some kept all = absurd (omega arith)
  front_strict (old ∷ olds) [] default some kept all = absurd kept
  front_strict (old ∷ olds) (mid ∷ mids) default some kept all = kept.0.1.strict ∙ first_true (strict old.shelf) (list_all (λ kit. strict kit.shelf) olds) all

  pub front_rises : (olds mids : List (Kit F S)) (default : Kit F S) (shelf : F) → 0 < length olds → EachBecomes olds mids Kept
      → rise (faults (slice_index_or mids 0 default).shelf) (faults shelf) ≤ rise 0 (sum_rises (λ kit. faults kit.shelf) olds (slice_set mids 0 (with_shelf (slice_index_or mids 0 default) shelf)))
  front_rises [] mids default shelf some kept = absurd (omega arith)
  front_rises (old ∷ olds) [] default shelf some kept = absurd kept
  front_rises (old ∷ olds) (mid ∷ mids) default shelf some kept =
      rise_in_all (faults old.shelf) (faults mid.shelf) (faults shelf) (sum_rises (λ kit. faults kit.shelf) olds mids) kept.0.1.counts
