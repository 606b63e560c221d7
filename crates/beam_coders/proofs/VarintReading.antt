-- Reading a varint: a step for each case, and that it reads what is written, and only that.
use Rattle.std.proofs.Common.{◌≡◌, ◌≢◌, ℕ, ◌+◌, ◌-◌, ◌*◌, ◌%◌, ◌^◌, ◌<◌, ◌≤◌, true, false, cond, List, [], ◌∷◌, nat_lt, nat_eq, Ok, Err, refl, ap, ◌∙◌, arith, lt-ltb, le-ltb}
use Rattle.std.proofs.lemmas.Bool.{eq-eqb, ne_eqb}
use Rattle.std.proofs.lemmas.Nat.{pow-add}
use Rattle.std.proofs.Math.Pow.{pow_mono}
use Rattle.beam_coders.specs.declared.refusal.CoderRefusal.{CoderRefusal}
use Rattle.beam_coders.specs.declared.refusal.CoderRefusal.TheVariants.{Short, Overlong}
use Rattle.beam_coders.specs.Reading.{◌>>=◌, varint_at}

pub read_none : (bits : ℕ) (bytes : List ℕ) → bytes ≡ [] → varint_at bits bytes ≡ Err Short
unfolding varint_at
read_none bits bytes e = ap (varint_at bits) e

pub read_last : (bits byte : ℕ) (bytes rest : List ℕ) → bytes ≡ byte ∷ rest → byte < 128 → nat_lt byte (2 ^ bits) ≡ true → varint_at bits bytes ≡ Ok (byte, rest)
unfolding varint_at
read_last bits byte bytes rest e low fits = ap (varint_at bits) e ∙ rw (lt-ltb byte 128 low, fits) refl

pub read_wide : (bits byte : ℕ) (bytes rest : List ℕ) → bytes ≡ byte ∷ rest → byte < 128 → nat_lt byte (2 ^ bits) ≡ false → varint_at bits bytes ≡ Err Overlong
unfolding varint_at
read_wide bits byte bytes rest e low wide = ap (varint_at bits) e ∙ rw (lt-ltb byte 128 low, wide) refl

pub read_long : (bits byte : ℕ) (bytes rest : List ℕ) → bytes ≡ byte ∷ rest → 128 ≤ byte → bits ≤ 7 → varint_at bits bytes ≡ Err Overlong
unfolding varint_at
read_long bits byte bytes rest e high few = ap (varint_at bits) e ∙ rw (le-ltb byte 128 high, le-ltb 7 bits few) refl

pub read_on : (bits byte : ℕ) (bytes rest : List ℕ) → bytes ≡ byte ∷ rest → 128 ≤ byte → 7 < bits
    → varint_at bits bytes ≡ (varint_at (bits - 7) rest >>= λ above. cond (nat_eq above.0 0) (Err Overlong) (Ok (byte % 128 + 128 * above.0, above.1)))
unfolding varint_at
read_on bits byte bytes rest e high many = ap (varint_at bits) e ∙ rw (le-ltb byte 128 high, lt-ltb 7 bits many) refl

pub read_more : (bits byte above : ℕ) (bytes rest after : List ℕ) → bytes ≡ byte ∷ rest → 128 ≤ byte → 7 < bits → varint_at (bits - 7) rest ≡ Ok (above, after) → above ≢ 0
    → varint_at bits bytes ≡ Ok (byte % 128 + 128 * above, after)
read_more bits byte above bytes rest after e high many r positive = read_on bits byte bytes rest e high many ∙ rw (r, ne_eqb above 0 positive) refl

pub read_unneeded : (bits byte above : ℕ) (bytes rest after : List ℕ) → bytes ≡ byte ∷ rest → 128 ≤ byte → 7 < bits → varint_at (bits - 7) rest ≡ Ok (above, after) → above ≡ 0
    → varint_at bits bytes ≡ Err Overlong
read_unneeded bits byte above bytes rest after e high many r none = read_on bits byte bytes rest e high many ∙ rw (r, eq-eqb above 0 none) refl

pub read_refused : (bits byte : ℕ) (bytes rest : List ℕ) (refusal : CoderRefusal) → bytes ≡ byte ∷ rest → 128 ≤ byte → 7 < bits → varint_at (bits - 7) rest ≡ Err refusal
    → varint_at bits bytes ≡ Err refusal
read_refused bits byte bytes rest refusal e high many r = read_on bits byte bytes rest e high many ∙ rw r refl

-- ---- powers

pub seven_more : (bits : ℕ) → 7 < bits → 2 ^ bits ≡ 128 * 2 ^ (bits - 7)
seven_more bits many = let parts : bits ≡ 7 + (bits - 7) = omega arith in ap (λ (k : ℕ). 2 ^ k) parts ∙ pow-add 2 7 (bits - 7)

-- a group and the groups above it
pub joined_small : (bits byte above : ℕ) → 7 < bits → above < 2 ^ (bits - 7) → byte % 128 + 128 * above < 2 ^ bits
joined_small bits byte above many small = omega (arith, seven_more bits many)

pub within_64 : (bits : ℕ) → bits ≤ 64 → 2 ^ bits ≤ 2 ^ 64
within_64 bits le = pow_mono le

-- a last group of seven bits is always below 2 ^ 7 and more
pub low_fits : (bits group : ℕ) → 7 ≤ bits → group < 128 → nat_lt group (2 ^ bits) ≡ true
low_fits bits group many low = let wide : 2 ^ 7 ≤ 2 ^ bits = pow_mono many in lt-ltb group (2 ^ bits) (omega arith)
