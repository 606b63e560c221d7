-- Files that a store tells, and files that were opened.
use Rattle.std.specs.Prelude.{◌≡◌, ◌⊎◌, ◌↔◌, ℕ, ◌+◌, ◌<◌, ◌≤◌, List, length, take, drop, Option, Some}

-- what an opened file has: its length, and its bytes where the store tells them
pub record Opening : Type 0 where
  pub len : ℕ
  pub text : Option (List ℕ)

-- what was opened stays so, with the same length and bytes
abbrev pub KeepsOpenings : (ℕ → Option Opening) → (ℕ → Option Opening) → Type 0
KeepsOpenings old new = (file : ℕ) (opening : Opening) → old file ≡ Some opening → new file ≡ Some opening

-- these bytes are there, and an opening with this length is theirs
abbrev pub OpensText : Option (List ℕ) → ℕ → Option Opening → Type 0
OpensText text len opening = (bytes : List ℕ) × (text ≡ Some bytes) × (length bytes ≡ len) × (opening ≡ Some (record { len = len; text = Some bytes }))

-- a read from `at` put n bytes of the opened file at the front of a buffer
pub record IsRead (opening : Opening) (at n : ℕ) (buffer : List ℕ) : Type 0 where
  pub none : (n ≡ 0) ↔ ((opening.len ≤ at) ⊎ (length buffer ≡ 0))
  pub within : 0 < n → at + n ≤ opening.len
  pub bytes : (text : List ℕ) → opening.text ≡ Some text → take n buffer ≡ take n (drop at text)
