-- What a call observed outside: its store and its sinks, before it and after it.
use Rattle.std.specs.Prelude.{◌≡◌, ℕ, List, Option, Some}
use Rattle.beam_values.specs.declared.file_text.FileText.{FileText}

-- the files of a store, where it tells them, and its count of faults
pub record ObservedStore : Type 0 where
  pub files : Option (List FileText)
  pub before : ℕ
  pub after : ℕ

-- the count of faults of a sink, and what it had taken, where it tells that
pub record ObservedSink : Type 0 where
  pub before : ℕ
  pub after : ℕ
  pub taken_before : Option (List ℕ)
  pub taken_after : Option (List ℕ)

abbrev pub observed_store : {S : Type 0} → (S → Option (List FileText)) → (S → ℕ) → S → S → ObservedStore
observed_store files faults old new = record { files = files old; before = faults old; after = faults new }

abbrev pub observed_sink : {W : Type 0} → (W → ℕ) → (W → Option (List ℕ)) → W → W → ObservedSink
observed_sink faults taken old new =
    record { before = faults old; after = faults new; taken_before = taken old; taken_after = taken new }

-- it holds of the files, where they are told; of a store that tells nothing this says nothing
abbrev pub WhereTold : Option (List FileText) → (List FileText → Type 0) → Type 0
WhereTold files P = (told : List FileText) → files ≡ Some told → P told
