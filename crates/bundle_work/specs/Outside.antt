-- What work leaves of a shelf and a store, whatever it answers.
use Rattle.std.specs.Prelude.{◌≡◌, ℕ, ◌≤◌, Bool, List, Option}
use Rattle.beam_ports.specs.Files.{Opening, KeepsOpenings}
use Rattle.beam_values.specs.declared.file_text.FileText.{FileText}

-- What calls leave of a store: its count of faults never falls, its files stay, and what was opened stays open.
pub record IsStoreKept {S : Type 0} (fails_of : S → ℕ) (files_of : S → Option (List FileText)) (opened : S → ℕ → Option Opening) (store store_after : S) : Type 0 where
  pub counts : fails_of store ≤ fails_of store_after
  pub files : files_of store_after ≡ files_of store
  pub openings : KeepsOpenings (opened store) (opened store_after)

-- and of a shelf and a store: the count of the shelf never falls either, and its strictness stays
pub record IsKitKept {F S : Type 0} (faults_of : F → ℕ) (is_strict : F → Bool) (fails_of : S → ℕ) (files_of : S → Option (List FileText)) (opened : S → ℕ → Option Opening)
    (shelf shelf_after : F) (store store_after : S) : Type 0 where
  pub counts : faults_of shelf ≤ faults_of shelf_after
  pub strict : is_strict shelf_after ≡ is_strict shelf
  pub reading : IsStoreKept fails_of files_of opened store store_after
