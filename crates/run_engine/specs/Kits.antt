-- What is observed of the kits of a call, and what the call leaves of each.
use Rattle.std.specs.Prelude.{◌≡◌, ℕ, List, [], ◌∷◌, Option}
use Rattle.beam_ports.specs.Observed.{ObservedStore, observed_store}
use Rattle.beam_ports.specs.declared.store.Store.{Ghosts as StoreGhosts}
use Rattle.beam_values.specs.declared.file_text.FileText.{FileText}
use Rattle.chain_exec.specs.Causes.{ObservedShelf}
use Rattle.dofn_traits.specs.declared.shelf.Shelf.{Ghosts as ShelfGhosts}
use Rattle.bundle_work.specs.Kits.{observed_shelves, observed_stores}
use Rattle.bundle_work.specs.Outside.{IsKitKept, IsStoreKept}
use Rattle.bundle_work.specs.declared.kit.Kit.{Kit}

-- ---- what is observed

-- of all shelves and of all stores as if they were one, and of each store
pub record ObservedKits : Type 0 where
  pub shelf : ObservedShelf
  pub store : ObservedStore
  pub stores : List ObservedStore

-- the store of each, before a call and after it
abbrev pub observed_each : {F S : Type 0} → (S → Option (List FileText)) → (S → ℕ) → List (Kit F S) → List (Kit F S) → List ObservedStore
observed_each files faults (old ∷ olds) (new ∷ news) = observed_store files faults old.store new.store ∷ observed_each files faults olds news
observed_each files faults olds news = []

-- by what contracts know of their shelves and of their stores
abbrev pub observed_kits : {F S : Type 0} → ShelfGhosts F → StoreGhosts S → List (Kit F S) → List (Kit F S) → ObservedKits
observed_kits f s olds news = record {
  shelf = observed_shelves f.strict f.faults olds news;
  store = observed_stores s.files s.faults olds news;
  stores = observed_each s.files s.faults olds news;
}

-- ---- what is left of a kit

-- its counts never fall, its shelf is as strict, its store tells the same files, and what was opened stays open
abbrev pub KeepsKit : {F S : Type 0} → ShelfGhosts F → StoreGhosts S → Kit F S → Kit F S → Type 0
KeepsKit f s old new = IsKitKept f.faults f.strict s.faults s.files s.opened old.shelf new.shelf old.store new.store

-- at most its store was used, and it may have other files
abbrev pub OpensKit : {F S : Type 0} → StoreGhosts S → Kit F S → Kit F S → Type 0
OpensKit s old new = (new.shelf ≡ old.shelf) × IsStoreKept s.faults s.files s.opened old.store new.store

-- it was worked with, and has the files that it had
abbrev pub RunsKit : {F S : Type 0} → ShelfGhosts F → StoreGhosts S → Kit F S → Kit F S → Type 0
RunsKit f s old new = (new.files ≡ old.files) × KeepsKit f s old new
