-- A varint that was written is read, and what is read is the varint that was written.
use Rattle.std.proofs.Common.{◌≡◌, ◌≢◌, ℕ, zero, suc, ◌+◌, ◌-◌, ◌*◌, ◌/◌, ◌%◌, ◌^◌, ◌<◌, ◌≤◌, Bool, true, false, cond, List, [], ◌∷◌, ◌++◌, nat_lt, nat_eq, Ok, Err, refl, sym, ap, subst, ◌∙◌, arith, inl, inr, lt-ltb, ltb-true}
use Rattle.std.proofs.lemmas.Bool.{cases_lt, eqb-false}
use Rattle.std.proofs.Math.Pow.{pow_mono}
use Rattle.beam_values.specs.Spelling.{varint}
use Rattle.beam_values.proofs.Varints.{varint-last, varint-more}
use Rattle.beam_coders.specs.declared.refusal.CoderRefusal.TheVariants.{Overlong}
use Rattle.beam_coders.specs.Reading.{varint_at}
use Rattle.beam_coders.proofs.Parts.{IsBytes, IsBytes-rest, bind_ok, guard_ok, ok_is, Takes, Takes-byte}
use Rattle.beam_coders.proofs.VarintReading.{read_last, read_wide, read_long, read_on, read_more, seven_more, joined_small}

-- ---- what is read was written

varint_joined : (byte above : ℕ) → 128 ≤ byte → byte < 256 → above ≢ 0 → byte ∷ varint above ≡ varint (byte % 128 + 128 * above)
varint_joined byte above high fits positive =
    let low : (byte % 128 + 128 * above) % 128 ≡ byte % 128 = omega arith in
    let rest : (byte % 128 + 128 * above) / 128 ≡ above = omega arith in
    let back : 128 + byte % 128 ≡ byte = omega arith in
    let long : 128 ≤ byte % 128 + 128 * above = omega (arith, positive) in
    sym (varint-more (byte % 128 + 128 * above) long ∙ rw (low, rest, back) refl)

abbrev TakesVarint : ℕ → List ℕ → ℕ × List ℕ → Type 0
TakesVarint bits bytes x = Takes bytes (varint x.0) x.1 × (x.0 < 2 ^ bits)

pub varint_takes : (bits : ℕ) (bytes : List ℕ) (x : ℕ × List ℕ) → IsBytes bytes → varint_at bits bytes ≡ Ok x → TakesVarint bits bytes x
unfolding varint_at
varint_takes bits [] x fits e = absurd cc
varint_takes bits (byte ∷ more) x fits e =
    elim (cases_lt byte 128) [
      | inl low ↦ last (nat_lt byte (2 ^ bits)) refl low
      | inr high ↦ elim (cases_lt 7 bits) [
        | inl many ↦ longer high many (λ above. varint_takes (bits - 7) more above)
        | inr few ↦ absurd (cc (read_long bits byte (byte ∷ more) more refl high few, e))
      ]
    ]
  where
    last : (b : Bool) → nat_lt byte (2 ^ bits) ≡ b → byte < 128 → TakesVarint bits (byte ∷ more) x
    last true is low =
        let one : TakesVarint bits (byte ∷ more) (byte, more) = (record { parts = rw (varint-last byte low) refl; rest_fits = IsBytes-rest byte more fits }, ltb-true byte (2 ^ bits) is) in
        subst (TakesVarint bits (byte ∷ more)) (ok_is (byte, more) x (sym (read_last bits byte (byte ∷ more) more refl low is) ∙ e)) one
    last false is low = absurd (cc (read_wide bits byte (byte ∷ more) more refl low is, e))

    longer : 128 ≤ byte → 7 < bits → ((above : ℕ × List ℕ) → IsBytes more → varint_at (bits - 7) more ≡ Ok above → TakesVarint (bits - 7) more above) → TakesVarint bits (byte ∷ more) x
    longer high many inner_takes =
        let step = bind_ok (varint_at (bits - 7) more) (λ above. cond (nat_eq above.0 0) (Err Overlong) (Ok (byte % 128 + 128 * above.0, above.1))) x (sym (read_on bits byte (byte ∷ more) more refl high many) ∙ e) in
        let above = step.0 in
        let guard = guard_ok (nat_eq above.0 0) Overlong (byte % 128 + 128 * above.0, above.1) x step.2 in
        let inner = inner_takes above (IsBytes-rest byte more fits) step.1 in
        let whole : Takes (byte ∷ more) (byte ∷ varint above.0) above.1 = Takes-byte byte more (varint above.0) above.1 inner.0 in
        let joined = varint_joined byte above.0 high (fits 0) (eqb-false above.0 0 guard.0) in
        let one : TakesVarint bits (byte ∷ more) (byte % 128 + 128 * above.0, above.1) = (subst (λ (text : List ℕ). Takes (byte ∷ more) text above.1) joined whole, joined_small bits byte above.0 many inner.1) in
        subst (TakesVarint bits (byte ∷ more)) guard.1 one

-- ---- what was written is read

again_by : (fuel bits n : ℕ) (rest : List ℕ) → n < fuel → n < 2 ^ bits → varint_at bits (varint n ++ rest) ≡ Ok (n, rest)
again_by zero bits n rest h small = absurd (omega arith)
again_by (suc fuel) bits n rest h small =
    elim (cases_lt n 128) [
      | inl low ↦ read_last bits n (varint n ++ rest) rest (rw (varint-last n low) refl) low (lt-ltb n (2 ^ bits) small)
      | inr high ↦
          let many : 7 < bits = wide high in
          let room : n / 128 < 2 ^ (bits - 7) = omega (arith, seven_more bits many) in
          let inner = again_by fuel (bits - 7) (n / 128) rest (omega arith) room in
          let value : (128 + n % 128) % 128 + 128 * (n / 128) ≡ n = omega arith in
          read_more bits (128 + n % 128) (n / 128) (varint n ++ rest) (varint (n / 128) ++ rest) rest (rw (varint-more n high) refl) (omega arith) many inner (omega arith)
          ∙ ap (λ (k : ℕ). Ok (k, rest)) value
    ]
  where
    wide : 128 ≤ n → 7 < bits
    wide high =
        elim (cases_lt 7 bits) [
          | inl many ↦ many
          | inr few ↦ let little : 2 ^ bits ≤ 2 ^ 7 = pow_mono few in absurd (omega arith)
        ]

pub varint_again : (bits n : ℕ) (rest : List ℕ) → n < 2 ^ bits → varint_at bits (varint n ++ rest) ≡ Ok (n, rest)
varint_again bits n rest small = again_by (suc n) bits n rest (omega arith) small
