-- A made-up line is read as its number: the digits before the TAB are its time, the bytes after it its text.
use Rattle.std.proofs.Common.{◌≡◌, ℕ, ◌+◌, ◌*◌, ◌%◌, ◌-◌, ◌<◌, ◌≤◌, ℤ, pos, ◌-ℤ◌, Bool, true, false, cond, eqb, ltb, not, List, [], ◌∷◌, ◌++◌, ◌&&◌, length, take, drop, Some, None, codes, decimal, refl, sym, ap, ◌∙◌, rules, arith, append_assoc, if◌then◌else◌}
use Rattle.std.specs.List.{fold, list_all, position_or_len, before_first, after_first}
use Rattle.std.specs.Char.{is_ascii_digit}
use Rattle.std.specs.Option.{option_map}
use Rattle.std.proofs.lemmas.Bool.Decides.{nat_tests}
use Rattle.std.proofs.lemmas.List.{take_at, drop_at, length-append}
use Rattle.std.proofs.lemmas.Str.Parse.{IsNumeralModel, numerals_by_fold}
use Rattle.std.proofs.lemmas.Fmt.{digits_decimal, digits_value-decimal, length-decimal-le, decimal_nonempty}
use Rattle.beam_values.specs.Functions.{Timed, Poison, timed_line, is_tab, has_tab, is_time_text, digits_value, magnitude, time_of, timed_as, declared_as}
use Rattle.beam_values.specs.declared.value.Value.{Value}
use Rattle.beam_values.specs.declared.value.Value.TheVariants.{Blob, rolls-Blob}
use Rattle.beam_model.specs.Positions.{made_line, emits_one, line_emission}

own : IsNumeralModel (λ ds. list_all is_ascii_digit ds ≡ true) digits_value
own = numerals_by_fold _ (search rules) (λ n ds. fold (λ m digit. 10 * m + (digit - 48)) n ds) (search rules)

both_true : (a b : Bool) → a && b ≡ true → (a ≡ true) × (b ≡ true)
both_true true b e = (refl, e)
both_true false b e = absurd cc

digit_apart : (d n : ℕ) → n < 48 → is_ascii_digit d ≡ true → eqb d n ≡ false
digit_apart d n small h = grind (arith, nat_tests)

-- digits up to a TAB
tab_after : (ds rest : List ℕ) → list_all is_ascii_digit ds ≡ true → position_or_len is_tab (ds ++ 9 ∷ rest) ≡ length ds
tab_after [] rest h = refl
tab_after (d ∷ ds) rest h =
    let both = both_true (is_ascii_digit d) (list_all is_ascii_digit ds) h in
    ap (λ (b : Bool). cond (not b) (1 + position_or_len is_tab (ds ++ 9 ∷ rest)) 0) (digit_apart d 9 (omega arith) both.0)
    ∙ ap (λ (n : ℕ). 1 + n) (tab_after ds rest both.1) ∙ omega arith

-- what a line is that begins with neither a mark nor a sign, and has a TAB after its time
read_timed : (n d : ℕ) (ds whole rest : List ℕ) → eqb d 33 ≡ false → eqb d 45 ≡ false → is_time_text (d ∷ ds) ≡ true → digits_value (d ∷ ds) ≡ n
    → has_tab (d ∷ whole) ≡ true → before_first is_tab (d ∷ whole) ≡ d ∷ ds → after_first is_tab (d ∷ whole) ≡ rest
    → timed_line (d ∷ whole) ≡ Timed (pos n) rest
read_timed n d ds whole rest no_mark no_sign time value tab before after =
    let front = before_first is_tab (d ∷ whole) in
    let back = after_first is_tab (d ∷ whole) in
    ap (λ (b : Bool). if b then declared_as (time_of whole) else (if has_tab (d ∷ whole) then timed_as (time_of front) back else Poison)) no_mark
    ∙ ap (λ (b : Bool). if b then timed_as (time_of front) back else Poison) tab
    ∙ ap (λ (t : List ℕ). timed_as (time_of t) back) before
    ∙ ap (λ (t : List ℕ). timed_as (time_of (d ∷ ds)) t) after
    ∙ ap (λ (b : Bool). timed_as (if b then option_map (λ m. pos 0 -ℤ pos m) (magnitude ds) else option_map pos (magnitude (d ∷ ds))) rest) no_sign
    ∙ ap (λ (b : Bool). timed_as (option_map pos (if b then Some (digits_value (d ∷ ds)) else None)) rest) time
    ∙ ap (λ (m : ℕ). Timed (pos m) rest) value

inside : (ds rest : List ℕ) → ltb (length ds) (length (ds ++ 9 ∷ rest)) ≡ true
inside ds rest = let long = length-append ds (9 ∷ rest) in grind (arith, nat_tests)

behind : (ds rest : List ℕ) → drop (length ds + 1) (ds ++ 9 ∷ rest) ≡ rest
behind ds rest =
    ap (drop (length ds + 1)) (sym (append_assoc ds (9 ∷ []) rest))
    ∙ drop_at (ds ++ 9 ∷ []) rest (length ds + 1) (length-append ds (9 ∷ []))

timed : (n : ℕ) (ds rest : List ℕ) → is_time_text ds ≡ true → list_all is_ascii_digit ds ≡ true → digits_value ds ≡ n → timed_line (ds ++ 9 ∷ rest) ≡ Timed (pos n) rest
timed n [] rest h all e = absurd cc
timed n (d ∷ ds) rest h all e =
    let both = both_true (is_ascii_digit d) (list_all is_ascii_digit ds) all in
    let at = tab_after (d ∷ ds) rest all in
    let whole : List ℕ = (d ∷ ds) ++ 9 ∷ rest in
    read_timed n d ds (ds ++ 9 ∷ rest) rest (digit_apart d 33 (omega arith) both.0) (digit_apart d 45 (omega arith) both.0) h e
    (ap (λ (k : ℕ). ltb k (length whole)) at ∙ inside (d ∷ ds) rest)
    (ap (λ (k : ℕ). take k whole) at ∙ take_at (d ∷ ds) (9 ∷ rest) (length (d ∷ ds)) refl)
    (ap (λ (k : ℕ). drop (k + 1) whole) at ∙ behind (d ∷ ds) rest)

time_text : (n : ℕ) → n ≤ 9223372036854775 → is_time_text (decimal n) ≡ true
time_text n small =
    let all = digits_decimal own n (omega arith) in
    let value = digits_value-decimal own n (omega arith) in
    let some = decimal_nonempty n (omega arith) in
    let few = length-decimal-le 16 n (omega arith) (omega arith) (omega arith) in
    grind (arith, nat_tests)

-- what is after the time of a made-up line
abbrev text_of : ℕ → ℕ → List ℕ
text_of number p = codes "k" ++ (decimal ((7 * p + number) % 16) ++ 9 ∷ decimal ((p + number) % 1000))

made_line_is : (number p : ℕ) → number ≤ 1000000 → p < 1000000
    → timed_line (made_line number p) ≡ Timed (pos (100 * p + (37 * (p + number)) % 100)) (text_of number p)
made_line_is number p small below =
    let time : ℕ = 100 * p + (37 * (p + number)) % 100 in
    let fits : time ≤ 9223372036854775 = omega arith in
    timed time (decimal time) (text_of number p)
    (time_text time fits) (digits_decimal own time (omega arith)) (digits_value-decimal own time (omega arith))

-- a text at a time, as a made-up line has them, is what that line emits
pub made_emits : (number p : ℕ) (text : List ℕ) (time : ℤ) → number ≤ 1000000 → p < 1000000
    → text ≡ codes "k" ++ (decimal ((7 * p + number) % 16) ++ 9 ∷ decimal ((p + number) % 1000)) → time ≡ pos (100 * p + (37 * (p + number)) % 100)
    → emits_one (Blob text) time ≡ line_emission (timed_line (made_line number p))
made_emits number p text time small below is at =
    ap (λ (t : List ℕ). emits_one (Blob t) time) is
    ∙ ap (λ (t : ℤ). emits_one (Blob (text_of number p)) t) at
    ∙ ap (λ (v : Value). emits_one v (pos (100 * p + (37 * (p + number)) % 100))) (sym (rolls-Blob (text_of number p)))
    ∙ ap line_emission (sym (made_line_is number p small below))
