-- What a reader answers, against what the grammar gives.
use Rattle.std.specs.Prelude.{◌≡◌, ℕ, List, drop, Result, Ok, Err}
use Rattle.beam_coders.specs.declared.refusal.CoderRefusal.{CoderRefusal}
use Rattle.beam_coders.specs.declared.refusal.ReadRefusal.{ReadRefusal}
use Rattle.beam_coders.specs.declared.refusal.ReadRefusal.TheVariants as refusals

-- want of memory says nothing, and any other refusal is the grammar's
abbrev pub Fails : {Y : Type 0} → ReadRefusal → Result Y CoderRefusal → Type 0
Fails refusals.NoMemory read = Unit {0}
Fails (refusals.Bad refusal) read = read ≡ Err refusal

-- the answer, seen by `view`, is that of the grammar, unless there was no memory
abbrev pub Gives : {X Y : Type 0} → (X → Y) → Result X ReadRefusal → Result Y CoderRefusal → Type 0
Gives view (Ok x) read = read ≡ Ok (view x)
Gives view (Err e) read = Fails e read

-- the same where no memory is needed
abbrev pub Read : {X Y : Type 0} → (X → Y) → Result X CoderRefusal → Result Y CoderRefusal → Type 0
Read view (Ok x) read = read ≡ Ok (view x)
Read view (Err refusal) read = read ≡ Err refusal

-- no spelling stands at the front of the bytes
abbrev pub IsBad : {X : Type 0} → Result X ReadRefusal → Type 0
IsBad (Ok x) = ⊥
IsBad (Err refusals.NoMemory) = ⊥
IsBad (Err (refusals.Bad refusal)) = Unit {0}

-- the same of an answer that has the length of a spelling in place of the bytes after it
abbrev pub GivesFront : {A : Type 0} → List ℕ → Result (A × ℕ) ReadRefusal → Result (A × List ℕ) CoderRefusal → Type 0
GivesFront bytes result read = Gives (λ x. (x.0, drop x.1 bytes)) result read
