-- How the kits of a run open the files of its plan, and why one didn't.
use Rattle.std.specs.Prelude.{◌≡◌, ℕ, zero, suc, ◌+◌, ◌-◌, ◌≤◌, List, [], ◌∷◌, ◌++◌, length, slice_get, Option, Some, None, IsSome}
use Rattle.std.specs.List.{All, AllByRecursion}
use Rattle.beam_values.specs.Files.{first_named}
use Rattle.beam_values.specs.declared.file_text.FileText.{FileText}
use Rattle.beam_values.specs.declared.plan.Plan.{Plan}
use Rattle.beam_ports.specs.Counts.{rise}
use Rattle.beam_ports.specs.Files.{Opening}
use Rattle.beam_ports.specs.Observed.{ObservedStore, WhereTold}
use Rattle.beam_ports.specs.declared.store.Opened.{Opened}
use Rattle.beam_ports.specs.declared.store.Store.{Ghosts as StoreGhosts}
use Rattle.bundle_work.specs.Openings.{AreOpened, file_names}
use Rattle.bundle_work.specs.declared.kit.Kit.{Kit}
use Rattle.command_ends.specs.Retrying.{TriesStore}
use Rattle.command_ends.specs.declared.status.Status.{Status}
use Rattle.command_ends.specs.declared.status.Status.TheVariants as status

-- ---- files that were opened

-- as far as there are files in both lists, they have the same lengths
abbrev pub AgreeInLength : List Opened → List Opened → Type 0
AgreeInLength (file ∷ files) (other ∷ others) = (other.len ≡ file.len) × AgreeInLength files others
AgreeInLength files others = Unit {0}

-- each kit's files have the lengths of the first one's
abbrev pub AgreeWithFirst : {F S : Type 0} → List (Kit F S) → Type 0
AgreeWithFirst [] = Unit {0}
AgreeWithFirst (first ∷ others) = AllByRecursion (λ kit. AgreeInLength first.files kit.files) others

-- every kit has opened each file of the plan, and all met the same lengths
pub record AreOpenedByAll {F S : Type 0} (files_of : S → Option (List FileText)) (opened_by : S → ℕ → Option Opening) (plan : Plan) (kits : List (Kit F S)) : Type 0 where
  pub each : AllByRecursion (λ kit. AreOpened (files_of kit.store) (opened_by kit.store) (file_names plan) kit.files) kits
  pub lengths : AgreeWithFirst kits

-- ---- why a file was not opened

-- where the files are told, the first of this name has this length
abbrev pub HasLength : Option (List FileText) → List ℕ → ℕ → Type 0
HasLength files name len = WhereTold files (λ told. (text : List ℕ) × (first_named name told ≡ Some text) × (length text ≡ len))

-- where the files are told, none has this name, but each of the names before it is there
abbrev pub IsFirstAbsent : Option (List FileText) → List (List ℕ) → List ℕ → Type 0
IsFirstAbsent files before name = WhereTold files (λ told. All (λ earlier. IsSome (first_named earlier told)) before × (first_named name told ≡ None))

-- a file that was opened with this length has another one than the first kit met at that place, if it met one
pub record IsChanged (first : List Opened) (at len other : ℕ) : Type 0 where
  pub file : Opened
  pub met : slice_get first at ≡ Some file
  pub len_is : file.len ≡ len
  pub differ : other ≡ len → ⊥

-- Why the kit of this number did not open every file of these names: one isn't there, and those before it are; or opening failed as often as it may; or a file
-- has another length than the first kit met; or there was no memory.
abbrev pub AreNamesRefused : Option (List FileText) → List Opened → List (List ℕ) → ℕ → Status → Type 0
AreNamesRefused files first names kit (status.NoSource name) =
    (before : List (List ℕ)) × (after : List (List ℕ)) × (names ≡ before ++ name ∷ after) × IsFirstAbsent files before name
AreNamesRefused files first names kit (status.SourceFault at) = at ≡ kit
AreNamesRefused files first names kit (status.FileChanged name len other) =
    (before : List (List ℕ)) × (after : List (List ℕ)) × (names ≡ before ++ name ∷ after) × IsChanged first (length before) len other × HasLength files name other
AreNamesRefused files first names kit status.NoMemory = Unit {0}
AreNamesRefused files first names kit _ = ⊥

-- where opening failed as often as it may, each failure was counted, beside those before
abbrev pub IsFaultCounted : ObservedStore → ℕ → ℕ → Status → Type 0
IsFaultCounted store attempts failed (status.SourceFault at) = attempts ≤ failed + rise store.before store.after
IsFaultCounted store attempts failed _ = Unit {0}

-- ---- why not every kit opened the files of a plan, by what was observed at each store

-- failures that were counted before, all of them at the first kit
abbrev pub failed_before : ℕ → ℕ → ℕ
failed_before failed zero = failed
failed_before failed (suc kit) = 0

-- at the store of one kit a name isn't there, and those before it are
pub record HasNoSource (stores : List ObservedStore) (names : List (List ℕ)) (name : List ℕ) : Type 0 where
  pub kit : ℕ
  pub store : ObservedStore
  pub at : slice_get stores kit ≡ Some store
  pub before : List (List ℕ)
  pub after : List (List ℕ)
  pub names_are : names ≡ before ++ name ∷ after
  pub absent : IsFirstAbsent store.files before name

-- the store of the kit of this number failed as often as it may
pub record HasFailed (stores : List ObservedStore) (attempts failed kit : ℕ) : Type 0 where
  pub store : ObservedStore
  pub at : slice_get stores kit ≡ Some store
  pub counted : attempts ≤ failed_before failed kit + rise store.before store.after

-- the first kit met one length of a file of the plan, and a later kit, that with number kit + 1, another one
pub record HasChanged (stores : List ObservedStore) (names : List (List ℕ)) (name : List ℕ) (len other : ℕ) : Type 0 where
  pub first : ObservedStore
  pub at_first : slice_get stores 0 ≡ Some first
  pub kit : ℕ
  pub store : ObservedStore
  pub at : slice_get stores (suc kit) ≡ Some store
  pub before : List (List ℕ)
  pub after : List (List ℕ)
  pub names_are : names ≡ before ++ name ∷ after
  pub differ : other ≡ len → ⊥
  pub len_at_first : HasLength first.files name len
  pub len_at : HasLength store.files name other

abbrev pub IsOpeningRefused : List ObservedStore → Plan → ℕ → ℕ → Status → Type 0
IsOpeningRefused stores plan attempts failed (status.NoSource name) = HasNoSource stores (file_names plan) name
IsOpeningRefused stores plan attempts failed (status.SourceFault kit) = HasFailed stores attempts failed kit
IsOpeningRefused stores plan attempts failed (status.FileChanged name len other) = HasChanged stores (file_names plan) name len other
IsOpeningRefused stores plan attempts failed status.NoMemory = Unit {0}
IsOpeningRefused stores plan attempts failed _ = ⊥

-- ---- how often the stores failed that count exactly

-- each as often as it may, with the failures before, where the end tells that its kit gave up, and else less often
abbrev pub TriesKits : {F S : Type 0} → StoreGhosts S → ℕ → ℕ → List (Kit F S) → List (Kit F S) → Status → Type 0
TriesKits s attempts failed olds news end = (kit : ℕ) (old : Kit _ _) (new : Kit _ _) → slice_get olds kit ≡ Some old → slice_get news kit ≡ Some new
    → TriesStore s (attempts - failed_before failed kit) kit old.store new.store end

-- the same of the kits after the first
abbrev pub TriesOthers : {F S : Type 0} → StoreGhosts S → ℕ → List (Kit F S) → List (Kit F S) → Status → Type 0
TriesOthers s attempts olds news end = (kit : ℕ) (old : Kit _ _) (new : Kit _ _) → slice_get olds kit ≡ Some old → slice_get news kit ≡ Some new
    → TriesStore s attempts (suc kit) old.store new.store end

-- ---- one kit

-- why one of the kits after the first did not open each file of these names, where the first one has opened `first`
pub record IsOtherRefused (stores : List ObservedStore) (first : List Opened) (names : List (List ℕ)) (attempts : ℕ) (status : Status) : Type 0 where
  pub kit : ℕ
  pub store : ObservedStore
  pub at : slice_get stores kit ≡ Some store
  pub counted : IsFaultCounted store attempts 0 status
  pub refused : AreNamesRefused store.files first names (kit + 1) status

-- ---- one file

-- why the file of one name was not opened
abbrev pub IsNameRefused : Option (List FileText) → List ℕ → ℕ → Status → Type 0
IsNameRefused files name kit (status.NoSource absent) = (absent ≡ name) × WhereTold files (λ told. first_named name told ≡ None)
IsNameRefused files name kit (status.SourceFault at) = at ≡ kit
IsNameRefused files name kit status.NoMemory = Unit {0}
IsNameRefused files name kit _ = ⊥

-- why an opened file is not taken: its length is another one, or there was no memory to say so
abbrev pub IsFileRefused : List Opened → ℕ → List ℕ → ℕ → Status → Type 0
IsFileRefused first at name len (status.FileChanged changed met other) = (changed ≡ name) × (other ≡ len) × IsChanged first at met len
IsFileRefused first at name len status.NoMemory = Unit {0}
IsFileRefused first at name len _ = ⊥

-- the first kit met this length at this place, or nothing
abbrev pub HasSameLength : List Opened → ℕ → ℕ → Type 0
HasSameLength first at len = (file : Opened) → slice_get first at ≡ Some file → len ≡ file.len
