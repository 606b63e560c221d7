-- The kits of a run: what is observed of all of them, and what a call leaves of each.
use Rattle.std.specs.Prelude.{◌≡◌, ◌⊎◌, ℕ, ◌+◌, ◌==◌, ◌&&◌, if◌then◌else◌, Bool, true, false, List, [], ◌∷◌, map, Option, Some, None}
use Rattle.std.specs.List.{list_all}
use Rattle.beam_values.specs.declared.file_text.FileText.{FileText}
use Rattle.beam_ports.specs.Counts.{rise}
use Rattle.beam_ports.specs.Files.{Opening}
use Rattle.beam_ports.specs.Observed.{ObservedStore}
use Rattle.chain_exec.specs.Causes.{ObservedShelf}
use Rattle.known_jobs.specs.Jobs.{Setting}
use Rattle.bundle_work.specs.Openings.{AreOpened, file_names}
use Rattle.bundle_work.specs.Reading.{opened_lengths}
use Rattle.bundle_work.specs.declared.kit.Kit.{Kit}

-- this holds of each value as it was before a call and as it is after it, and there are as many
abbrev pub EachBecomes : {A : Type 0} → List A → List A → (A → A → Type 0) → Type 0
EachBecomes [] [] P = Unit {0}
EachBecomes (old ∷ olds) (new ∷ news) P = P old new × EachBecomes olds news P
EachBecomes _ _ P = ⊥

-- how far a count of each of them rose, all together
abbrev pub sum_rises : {A : Type 0} → (A → ℕ) → List A → List A → ℕ
sum_rises count (old ∷ olds) (new ∷ news) = rise (count old) (count new) + sum_rises count olds news
sum_rises count _ _ = 0

-- ---- files that are told

abbrev pub is_same_text : List ℕ → List ℕ → Bool
is_same_text [] [] = true
is_same_text (x ∷ xs) (y ∷ ys) = x == y && is_same_text xs ys
is_same_text _ _ = false

abbrev pub are_same_files : List FileText → List FileText → Bool
are_same_files [] [] = true
are_same_files (file ∷ files) (other ∷ others) = is_same_text file.name other.name && is_same_text file.bytes other.bytes && are_same_files files others
are_same_files _ _ = false

abbrev pub tells_same : Option (List FileText) → Option (List FileText) → Bool
tells_same (Some files) (Some others) = are_same_files files others
tells_same None None = true
tells_same _ _ = false

-- what the first tells, where all others tell the same, and else nothing
abbrev pub told_by : List (Option (List FileText)) → Option (List FileText)
told_by [] = None
told_by (first ∷ others) = if list_all (tells_same first) others then first else None

-- ---- what a call observed at all kits, as if it were one shelf and one store

-- it is strict where all are, and its count rose by the sum of the rises
abbrev pub observed_shelves : {F S : Type 0} → (F → Bool) → (F → ℕ) → List (Kit F S) → List (Kit F S) → ObservedShelf
observed_shelves strict faults olds news =
    record { strict = list_all (λ kit. strict kit.shelf) olds; before = 0; after = sum_rises (λ kit. faults kit.shelf) olds news }

abbrev pub observed_stores : {F S : Type 0} → (S → Option (List FileText)) → (S → ℕ) → List (Kit F S) → List (Kit F S) → ObservedStore
observed_stores files faults olds news =
    record { files = told_by (map (λ kit. files kit.store) olds); before = 0; after = sum_rises (λ kit. faults kit.store) olds news }

-- ---- what is asked of a kit

-- what is known of the files is nothing, or what this store tells; or there are none
abbrev pub AreKnownBy : Option (List FileText) → Option (List FileText) → List (List ℕ) → Type 0
AreKnownBy known told names = (names ≡ []) ⊎ ((known ≡ None) ⊎ (known ≡ told))

-- The kit has opened the files of the plan, and met the lengths of the book's items. What is known of the files is so of its store, and shelves are known to be
-- strict only where its own is.
pub record IsKitFor {F S : Type 0} (is_strict : F → Bool) (files_of : S → Option (List FileText)) (opened_by : S → ℕ → Option Opening) (setting : Setting) (kit : Kit F S) : Type 0 where
  pub opened : AreOpened (files_of kit.store) (opened_by kit.store) (file_names setting.plan) kit.files
  pub lengths : opened_lengths setting.plan kit.files ≡ setting.files
  pub told : AreKnownBy setting.known.told (files_of kit.store) (file_names setting.plan)
  pub strict : setting.known.strict ≡ true → is_strict kit.shelf ≡ true
