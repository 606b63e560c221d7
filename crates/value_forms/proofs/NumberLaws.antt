-- What every form of a number meets.
use Rattle.std.proofs.Common.{◌≡◌, ℕ, ◌+◌, ◌-◌, ◌^◌, ◌<◌, ◌≤◌, ℤ, pos, negsuc, ◌<ℤ◌, FitsSigned, w64, Bool, true, false, ◌||◌, cond, nat_lt, Some, None, refl, sym, ap, subst, ◌∙◌, arith, eqb, eqb-true, lt-ltb, le-ltb, ltb-true, inl, inr}
use Rattle.std.proofs.lemmas.Bool.{cases_lt, cases_Bool, and_from, and_parts, or_cases, or_left, or_right}
use Rattle.std.proofs.lemmas.Int.{ints}
use Rattle.std.proofs.lemmas.Option.{cond_some}
use Rattle.std.specs.Ordering.{int_eq}
use Rattle.std.specs.Prelude.{int_le}
use Rattle.beam_values.specs.declared.value.Value.{Value}
use Rattle.beam_values.specs.declared.value.Value.TheVariants.{Int}
use Rattle.beam_values.specs.Times.{least_time, greatest_time, final_mark, IsTime, IsMark}
use Rattle.beam_values.specs.Storable.{IsStorable}
use Rattle.beam_values.proofs.Storable.{Int-fits, fits-Int}
use Rattle.beam_coders.specs.Readable.{nesting}
use Rattle.beam_coders.specs.Reading.{signed}
use Rattle.beam_coders.proofs.NestingLaws.{nesting-Int}
use Rattle.value_forms.specs.Forms.{passing}
use Rattle.value_forms.specs.Numbers.{int_form, signed_form, is_time, time_form, mark_form, below, nat_form, u8_form, u32_form, bits_at, bits_form, flag_number, flag_at, flag_form}
use Rattle.value_forms.specs.Parts.{◌>>=◌, int_at}
use Rattle.value_forms.proofs.FormLaws.{IsForm, some_is, passed}
use Rattle.value_forms.proofs.PartLaws.{bind_some, int_at-Int, int_at-is}

int_shallow : (n : ℤ) → nesting (Int n) ≤ 1 + 0
int_shallow n = rw nesting-Int (omega arith)

-- the number of a value that can be stored
int_fits : (v : Value) (n : ℤ) → IsStorable v → int_at v ≡ Some n → FitsSigned w64 n
int_fits v n s e = fits-Int n (subst IsStorable (sym (int_at-is v n e)) s)

module _ (test : ℤ → Bool) (P : ℤ → Type 0) (passes : (n : ℤ) → P n → test n ≡ true) (small : (n : ℤ) → P n → FitsSigned w64 n) (meant : (n : ℤ) → FitsSigned w64 n → test n ≡ true → P n) where
  pub int_is_form : IsForm (int_form test P) P 1
  int_is_form = record {
    again = λ n h. rw (int_at-Int n, passes n h) refl;
    exact = λ v n e. let read = bind_some (int_at v) (passing test) n e in int_at-is v n (read.1 ∙ ap Some (passed test read.0 n read.2).0);
    shallow = int_shallow;
    words = λ n h. Int-fits n (small n h);
    fits = λ v n s e. let read = bind_some (int_at v) (passing test) n e in let p = passed test read.0 n read.2 in meant n (int_fits v n s (read.1 ∙ ap Some p.0)) p.1;
  }

pub signed_is_form : IsForm signed_form (FitsSigned w64) 1
signed_is_form = int_is_form (λ _. true) (FitsSigned w64) (λ n h. refl) (λ n h. h) (λ n h t. h)

time_passes : (t : ℤ) → IsTime t → is_time t ≡ true
time_passes t h = and_from (int_le least_time t) (int_le t greatest_time) (grind (arith, ints, h.0)) (grind (arith, ints, h.1))

time_small : (t : ℤ) → IsTime t → FitsSigned w64 t
time_small (pos n) h = record { sfits = omega (arith, ints, h.1) }
time_small (negsuc n) h = record { sfits = omega (arith, ints, h.0) }

time_meant : (t : ℤ) → FitsSigned w64 t → is_time t ≡ true → IsTime t
time_meant t f e =
    let p = and_parts (int_le least_time t) (int_le t greatest_time) e in
    (grind (arith, ints, p.0), grind (arith, ints, p.1))

pub time_is_form : IsForm time_form IsTime 1
time_is_form = int_is_form is_time IsTime time_passes time_small time_meant

mark_passes : (m : ℤ) → IsMark m → (is_time m || int_eq m final_mark) ≡ true
mark_passes m h =
    elim (cases_Bool (is_time m)) [
      | inl t ↦ or_left (is_time m) (int_eq m final_mark) t
      | inr f ↦
          let late : greatest_time <ℤ m = grind (arith, ints, h.0, f) in
          or_right (is_time m) (int_eq m final_mark) (rw (h.1 late) refl)
    ]

mark_small : (m : ℤ) → IsMark m → FitsSigned w64 m
mark_small (pos n) h =
    elim (cases_lt n 9223372036854776) [
      | inl low ↦ record { sfits = omega arith }
      | inr high ↦
          let late : greatest_time <ℤ pos n = omega (arith, ints) in
          let final : n ≡ 9223372036854775807 = cc (h.1 late) in
          record { sfits = omega arith }
    ]
mark_small (negsuc n) h = record { sfits = omega (arith, ints, h.0) }

final_is_mark : IsMark final_mark
final_is_mark = (grind (arith, ints), λ _. refl)

time_is_mark : (t : ℤ) → IsTime t → IsMark t
time_is_mark t h = (h.0, λ late. absurd (grind (arith, ints, h.1, late)))

mark_meant : (m : ℤ) → FitsSigned w64 m → (is_time m || int_eq m final_mark) ≡ true → IsMark m
mark_meant m f e =
    elim (or_cases (is_time m) (int_eq m final_mark) e) [
      | inl t ↦ time_is_mark m (time_meant m f t)
      | inr same ↦
          let final : m ≡ final_mark = grind (arith, ints, same) in
          subst IsMark (sym final) final_is_mark
    ]

pub mark_is_form : IsForm mark_form IsMark 1
mark_is_form = int_is_form (λ m. is_time m || int_eq m final_mark) IsMark mark_passes mark_small mark_meant

below_is : (bound : ℕ) (n : ℤ) (k : ℕ) → below bound n ≡ Some k → pos k ≡ n
below_is bound (pos m) k e = ap pos (sym (passed (λ j. nat_lt j bound) m k e).0)
below_is bound (negsuc m) k e = absurd cc

below_fits : (bound : ℕ) (n : ℤ) (k : ℕ) → below bound n ≡ Some k → k < bound
below_fits bound (pos m) k e =
    let same = cond_some (nat_lt m bound) m k e in
    subst (λ (j : ℕ). j < bound) same.1 (ltb-true m bound same.0)
below_fits bound (negsuc m) k e = absurd cc

pub nat_is_form : (bound : ℕ) → bound ≤ 2 ^ 63 → IsForm (nat_form bound) (λ n. n < bound) 1
nat_is_form bound few = record {
  again = λ n h. rw (int_at-Int (pos n), lt-ltb n bound h) refl;
  exact = λ v n e. let read = bind_some (int_at v) (below bound) n e in ap Int (below_is bound read.0 n read.2) ∙ int_at-is v read.0 read.1;
  shallow = λ n. int_shallow (pos n);
  words = λ n h. Int-fits (pos n) record { sfits = omega arith };
  fits = λ v n s e. let read = bind_some (int_at v) (below bound) n e in below_fits bound read.0 n read.2;
}

pub u8_is_form : IsForm u8_form (λ n. n < 2 ^ 8) 1
u8_is_form = nat_is_form (2 ^ 8) (omega arith)

pub u32_is_form : IsForm u32_form (λ n. n < 2 ^ 32) 1
u32_is_form = nat_is_form (2 ^ 32) (omega arith)

bits_again : (n : ℕ) → n < 2 ^ 64 → bits_at (signed n) ≡ Some n
bits_again n h =
    elim (cases_lt n (2 ^ 63)) [
      | inl low ↦ rw (lt-ltb n (2 ^ 63) low, lt-ltb n (2 ^ 63) low) refl
      | inr high ↦
          let back : 2 ^ 64 - 1 - (2 ^ 64 - 1 - n) ≡ n = omega arith in
          rw (le-ltb n (2 ^ 63) high, lt-ltb (2 ^ 64 - 1 - n) (2 ^ 63) (omega arith)) (ap Some back)
    ]

bits_small : (n : ℕ) → n < 2 ^ 64 → FitsSigned w64 (signed n)
bits_small n h =
    elim (cases_lt n (2 ^ 63)) [
      | inl low ↦ rw (lt-ltb n (2 ^ 63) low) record { sfits = omega arith }
      | inr high ↦ rw (le-ltb n (2 ^ 63) high) record { sfits = omega arith }
    ]

bits_is : (n : ℤ) (k : ℕ) → bits_at n ≡ Some k → signed k ≡ n
bits_is (pos m) k e =
    let same = cond_some (nat_lt m (2 ^ 63)) m k e in
    rw (← same.1, same.0) refl
bits_is (negsuc m) k e =
    let same = cond_some (nat_lt m (2 ^ 63)) (2 ^ 64 - 1 - m) k e in
    let low : m < 2 ^ 63 = ltb-true m (2 ^ 63) same.0 in
    let back : 2 ^ 64 - 1 - (2 ^ 64 - 1 - m) ≡ m = omega arith in
    rw (← same.1, le-ltb (2 ^ 64 - 1 - m) (2 ^ 63) (omega arith)) (ap negsuc back)

bits_fit : (n : ℤ) (k : ℕ) → bits_at n ≡ Some k → k < 2 ^ 64
bits_fit (pos m) k e =
    let same = cond_some (nat_lt m (2 ^ 63)) m k e in
    let low : m < 2 ^ 63 = ltb-true m (2 ^ 63) same.0 in
    subst (λ (j : ℕ). j < 2 ^ 64) same.1 (omega arith)
bits_fit (negsuc m) k e =
    let same = cond_some (nat_lt m (2 ^ 63)) (2 ^ 64 - 1 - m) k e in
    subst (λ (j : ℕ). j < 2 ^ 64) same.1 (omega arith)

pub bits_is_form : IsForm bits_form (λ n. n < 2 ^ 64) 1
bits_is_form = record {
  again = λ n h. rw (int_at-Int (signed n)) (bits_again n h);
  exact = λ v n e. let read = bind_some (int_at v) bits_at n e in ap Int (bits_is read.0 n read.2) ∙ int_at-is v read.0 read.1;
  shallow = λ n. int_shallow (signed n);
  words = λ n h. Int-fits (signed n) (bits_small n h);
  fits = λ v n s e. let read = bind_some (int_at v) bits_at n e in bits_fit read.0 n read.2;
}

-- ---- truth values

flag_again : (b : Bool) → (below 2 (pos (flag_number b)) >>= flag_at) ≡ Some b
flag_again false = refl
flag_again true = refl

flag_step : (n : ℕ) (b p q : Bool) → eqb n 0 ≡ p → eqb n 1 ≡ q → cond p (Some false) (cond q (Some true) None) ≡ Some b → flag_number b ≡ n
flag_step n b true q h k e = ap flag_number (sym (some_is false b e)) ∙ sym (eqb-true n 0 h)
flag_step n b false true h k e = ap flag_number (sym (some_is true b e)) ∙ sym (eqb-true n 1 k)
flag_step n b false false h k e = absurd cc

flag_is : (n : ℕ) (b : Bool) → flag_at n ≡ Some b → flag_number b ≡ n
flag_is n b e = flag_step n b (eqb n 0) (eqb n 1) refl refl e

flag_exact : (v : Value) (b : Bool) → flag_form.of v ≡ Some b → flag_form.to b ≡ v
flag_exact v b e =
    let number = bind_some (int_at v >>= below 2) flag_at b e in
    let read = bind_some (int_at v) (below 2) number.0 number.1 in
    ap (λ (n : ℕ). Int (pos n)) (flag_is number.0 b number.2) ∙ ap Int (below_is 2 read.0 number.0 read.2) ∙ int_at-is v read.0 read.1

flag_small : (b : Bool) → flag_number b < 2 ^ 63
flag_small false = omega arith
flag_small true = omega arith

pub flag_is_form : IsForm flag_form (λ _. Unit {0}) 1
flag_is_form = record {
  again = λ b _. rw (int_at-Int (pos (flag_number b))) (flag_again b);
  exact = flag_exact;
  shallow = λ b. int_shallow (pos (flag_number b));
  words = λ b _. Int-fits (pos (flag_number b)) record { sfits = omega (arith, flag_small b) };
  fits = λ v b s e. tt;
}
