-- What stands before the first TAB, where digits are read up to it.
use Rattle.std.proofs.Common.{◌≡◌, ℕ, zero, suc, ◌+◌, ◌<◌, ◌≤◌, pos, ◌-ℤ◌, Bool, true, false, eqb, List, [], ◌∷◌, ◌&&◌, length, take, drop, min, Option, Some, None, refl, sym, ap, ◌∙◌, arith, get_or, if◌then◌else◌, nat_lt, nat_le}
use Rattle.std.specs.List.{list_all, position_or_len, before_first}
use Rattle.std.specs.Option.{option_map}
use Rattle.std.specs.Char.{is_ascii_digit}
use Rattle.std.proofs.lemmas.Bool.Decides.{nat_tests, Decides-ltb}
use Rattle.std.proofs.lemmas.List.{length-take}
use Rattle.std.proofs.lemmas.List.Sums.{passes_at_first, position_or_len_is}
use Rattle.beam_values.specs.Functions.{Poison, timed_as, time_of, digits_value, is_tab, has_tab, is_time_text, magnitude}
use Rattle.beam_lines.specs.Shown.{stamp_of, stamped}

both_true : (a b : Bool) → a && b ≡ true → (a ≡ true) × (b ≡ true)
both_true true b e = (refl, e)
both_true false b e = absurd cc

digit_apart : (d : ℕ) → is_ascii_digit d ≡ true → eqb d 9 ≡ false
digit_apart d h = grind (arith, nat_tests)

pub not_tab : (byte : ℕ) → (byte ≡ 9 → ⊥) → is_tab byte ≡ false
not_tab byte never = grind (arith, nat_tests)

digit_at : (text : List ℕ) (n at : ℕ) → list_all is_ascii_digit (take n text) ≡ true → at < n → at < length text → is_ascii_digit (get_or text at 0) ≡ true
digit_at [] n at h below inside = absurd (omega (arith, inside))
digit_at (d ∷ ds) zero at h below inside = absurd (omega (arith, below))
digit_at (d ∷ ds) (suc n) zero h below inside = (both_true (is_ascii_digit d) (list_all is_ascii_digit (take n ds)) h).0
digit_at (d ∷ ds) (suc n) (suc at) h below inside =
    digit_at ds n at (both_true (is_ascii_digit d) (list_all is_ascii_digit (take n ds)) h).1 (omega (arith, below)) (omega (arith, inside))

record Parts (ds : List ℕ) : Type 0 where
  pub some : 1 ≤ length ds
  pub few : length ds ≤ 16
  pub digits : list_all is_ascii_digit ds ≡ true
  pub small : digits_value ds ≤ 9223372036854775

at_most : (a b : ℕ) → nat_le a b ≡ true → a ≤ b
at_most a b e = grind (arith, nat_tests)

parts : (ds : List ℕ) → is_time_text ds ≡ true → Parts ds
parts ds h =
    let last = both_true (nat_le 1 (length ds) && nat_le (length ds) 16 && list_all is_ascii_digit ds) (nat_le (digits_value ds) 9223372036854775) h in
    let third = both_true (nat_le 1 (length ds) && nat_le (length ds) 16) (list_all is_ascii_digit ds) last.0 in
    let two = both_true (nat_le 1 (length ds)) (nat_le (length ds) 16) third.0 in
    record { some = at_most _ _ two.0; few = at_most _ _ two.1; digits = third.1; small = at_most _ _ last.1 }

whole : (ds : List ℕ) → Parts ds → is_time_text ds ≡ true
whole ds p =
    let a : nat_le 1 (length ds) ≡ true = let e = p.some in grind (arith, nat_tests) in
    let b : nat_le (length ds) 16 ≡ true = let e = p.few in grind (arith, nat_tests) in
    let c : nat_le (digits_value ds) 9223372036854775 ≡ true = let e = p.small in grind (arith, nat_tests) in
    rw (a, b, p.digits, c) refl

module _ (text : List ℕ) (at : ℕ) (digits : list_all is_ascii_digit (take at text) ≡ true) where
  -- the first TAB is where the digits end
  pub tab_here : at < length text → is_tab (get_or text at 0) ≡ true → position_or_len is_tab text ≡ at
  tab_here inside tab =
      position_or_len_is is_tab text at 0 (omega (arith, inside))
      (λ k below. digit_apart (get_or text k 0) (digit_at text at k digits below (omega (arith, below, inside)))) (λ below. tab)

  -- no digit is a TAB
  tab_later : position_or_len is_tab text < length text → (b : Bool) → nat_lt (position_or_len is_tab text) at ≡ b → at ≤ position_or_len is_tab text
  tab_later has true e =
      let tab = passes_at_first is_tab text 0 has in
      let apart = digit_apart (get_or text (position_or_len is_tab text) 0) (digit_at text at (position_or_len is_tab text) digits ((Decides-ltb _ _).0 e) has) in
      absurd cc
  tab_later has false e = grind (arith, nat_tests)

  module _ (never : has_tab text ≡ true → Parts (before_first is_tab text) → ⊥) where
    none_by : (h t : Bool) → has_tab text ≡ h → is_time_text (before_first is_tab text) ≡ t
        → None ≡ (if h then (if t then Some (digits_value (before_first is_tab text)) else None) else None)
    none_by true true e f = absurd (never e (parts _ f))
    none_by true false e f = refl
    none_by false t e f = refl

    none : None ≡ stamp_of text
    none = none_by _ _ refl refl

  -- the number, where a TAB ends the digits
  pub stamp_here : at < length text → is_tab (get_or text at 0) ≡ true → 0 < at → at ≤ 16 → digits_value (take at text) ≤ 9223372036854775
      → Some (digits_value (take at text)) ≡ stamp_of text
  stamp_here inside tab some few small =
      let long = length-take at text in
      let yes = whole (take at text) (record { some = omega (arith, long, inside, some); few = omega (arith, long, few); digits = digits; small = small }) in
      let has : nat_lt at (length text) ≡ true = grind (arith, nat_tests) in
      sym (
      ap (λ n. if nat_lt n (length text) then magnitude (take n text) else None) (tab_here inside tab)
      ∙ ap (λ (b : Bool). if b then magnitude (take at text) else None) has
      ∙ ap (λ (b : Bool). if b then Some (digits_value (take at text)) else None) yes
      )

  has_lt : has_tab text ≡ true → position_or_len is_tab text < length text
  has_lt e = (Decides-ltb _ _).0 e

  -- no number, where a TAB ends no digit or too great a number
  pub none_here : at < length text → is_tab (get_or text at 0) ≡ true → (0 < at → digits_value (take at text) ≤ 9223372036854775 → ⊥) → None ≡ stamp_of text
  none_here inside tab never = none (λ has p.
      let here = tab_here inside tab in
      let same : before_first is_tab text ≡ take at text = ap (λ n. take n text) here in
      let long = length-take at text in
      never (omega (arith, long, ap length same, p.some)) (omega (arith, ap digits_value same, p.small)))

  -- no number, where a byte that is neither a digit nor a TAB ends the digits
  pub none_other : at < length text → is_tab (get_or text at 0) ≡ false → is_ascii_digit (get_or text at 0) ≡ false → None ≡ stamp_of text
  none_other inside apart other = none (λ has p.
      let found = has_lt has in
      let later = tab_later found _ refl in
      beyond p found later _ refl)
    where
      beyond : Parts (before_first is_tab text) → position_or_len is_tab text < length text → at ≤ position_or_len is_tab text
          → (b : Bool) → nat_lt at (position_or_len is_tab text) ≡ b → ⊥
      beyond p found later true e =
          let digit = digit_at text (position_or_len is_tab text) at p.digits ((Decides-ltb _ _).0 e) inside in
          absurd cc
      beyond p found later false e =
          let here : position_or_len is_tab text ≡ at = grind (arith, nat_tests) in
          let tab = passes_at_first is_tab text 0 found in
          absurd cc

  -- no number, where all is digits, or so much that it is too long
  pub none_at_end : at ≡ min (length text) 17 → None ≡ stamp_of text
  none_at_end end = none (λ has p.
      let found = has_lt has in
      let later = tab_later found _ refl in
      let long = length-take (position_or_len is_tab text) text in
      absurd (omega (arith, found, later, end, long, p.few)))

-- what a line is after a minus sign
pub minus : (rest : List ℕ) (m : Option ℕ) → stamp_of rest ≡ m
    → stamped (45 ∷ rest) ≡ timed_as (option_map (λ n. pos 0 -ℤ pos n) m) (drop (position_or_len is_tab rest + 1) rest)
minus rest m is =
    let p = position_or_len is_tab rest in
    let line = 45 ∷ rest in
    let first : position_or_len is_tab line ≡ suc p = omega arith in
    let back : drop (suc p + 1) line ≡ drop (p + 1) rest = ap (λ n. drop n line) (suc_first p) in
    let inside : nat_lt (suc p) (length line) ≡ has_tab rest = grind (arith, nat_tests) in
    ap (λ n. if nat_lt n (length line) then timed_as (time_of (take n line)) (drop (n + 1) line) else Poison) first
    ∙ ap (λ (t : List ℕ). if nat_lt (suc p) (length line) then timed_as (time_of (45 ∷ take p rest)) t else Poison) back
    ∙ ap (λ (b : Bool). if b then timed_as (time_of (45 ∷ take p rest)) (drop (p + 1) rest) else Poison) inside
    ∙ by_tab (has_tab rest)
    ∙ ap (λ (o : Option ℕ). timed_as (option_map (λ n. pos 0 -ℤ pos n) o) (drop (p + 1) rest)) is
  where
    suc_first : (p : ℕ) → suc p + 1 ≡ suc (p + 1)
    suc_first p = omega arith

    by_tab : (b : Bool) → (if b then timed_as (time_of (45 ∷ before_first is_tab rest)) (drop (position_or_len is_tab rest + 1) rest) else Poison)
        ≡ timed_as (option_map (λ n. pos 0 -ℤ pos n) (if b then magnitude (before_first is_tab rest) else None)) (drop (position_or_len is_tab rest + 1) rest)
    by_tab true = refl
    by_tab false = refl
