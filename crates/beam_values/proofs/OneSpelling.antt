-- Each value and each element has exactly one spelling, which the functions compute.
use Rattle.std.proofs.Common.{◌≡◌, ℕ, zero, suc, ◌+◌, ◌*◌, ◌/◌, ◌%◌, ◌^◌, ◌<◌, ℤ, pos, negsuc, ◌+ℤ◌, FitsSigned, w64, List, [], ◌∷◌, length, get_or, All, refl, sym, ap, subst, ◌∙◌, arith, inl, inr}
use Rattle.std.specs.Prelude.{◌↔◌}
use Rattle.std.specs.List.{flat_map, AllByRecursion}
use Rattle.std.specs.Int.{to_be_bytes, from_be_bytes}
use Rattle.std.proofs.lemmas.Bool.{cases_lt}
use Rattle.std.proofs.lemmas.Int.{ints}
use Rattle.std.proofs.lemmas.List.{get_or_past}
use Rattle.std.proofs.lemmas.List.Concat.{flat_map-cons}
use Rattle.std.proofs.lemmas.List.Elements.{All-from_recursion}
use Rattle.std.proofs.lemmas.Nat.{be_bytes_8, from_be_bytes-to_be_bytes_8}
use Rattle.beam_values.specs.declared.value.Value.{Value}
use Rattle.beam_values.specs.declared.element.PaneTag.{PaneTag}
use Rattle.beam_values.specs.declared.element.Element.{Element}
use Rattle.beam_values.specs.Timings.{timing_number}
use Rattle.beam_values.specs.Spelled.{IsVarint, last, more, Spells, null, int, blob, pair, seq, SpellsAll, none, next, SpellsMs, SpellsPane, pane, SpellsElement, element}
use Rattle.beam_values.specs.Spelling.{varint, two's_complement, spelling, sign_flipped, ms_spelling, pane_spelling, element_spelling}
use Rattle.beam_values.proofs.Induction.{value_ind, spelling-Null, spelling-Int, spelling-Blob, spelling-Pair, spelling-Seq}
use Rattle.beam_values.proofs.Varints.{varint-last, varint-more}

-- ---- varints

pub varint_only : {n : ℕ} {bytes : List ℕ} → IsVarint n bytes → bytes ≡ varint n
varint_only (last {group = group} lt) = sym (varint-last group lt)
varint_only (more {group = group} {above = above} {bytes = bytes} lt positive rest) =
    let low : (group + 128 * above) % 128 ≡ group = omega arith in
    let high : (group + 128 * above) / 128 ≡ above = omega arith in
    sym (varint-more (group + 128 * above) (omega arith) ∙ rw (low, high, ← varint_only rest) refl)

is_varint_by : (fuel n : ℕ) → n < fuel → IsVarint n (varint n)
is_varint_by zero n h = absurd (omega arith)
is_varint_by (suc fuel) n h =
    elim (cases_lt n 128) [
      | inl lt ↦ rw (varint-last n lt) (last lt)
      | inr le ↦
          let parts : n % 128 + 128 * (n / 128) ≡ n = omega arith in
          let whole : IsVarint (n % 128 + 128 * (n / 128)) ((128 + n % 128) ∷ varint (n / 128)) = more (omega arith) (omega arith) (is_varint_by fuel (n / 128) (omega arith)) in
          rw (varint-more n le) (subst (λ (k : ℕ). IsVarint k ((128 + n % 128) ∷ varint (n / 128))) parts whole)
    ]

pub is_varint : (n : ℕ) → IsVarint n (varint n)
is_varint n = is_varint_by (suc n) n (omega arith)

-- ---- values

mutual
  pub spelling_only : {v : Value} {bytes : List ℕ} → Spells v bytes → bytes ≡ spelling v
  spelling_only null = sym spelling-Null
  spelling_only (int n number) = rw (spelling-Int n, varint_only number) refl
  spelling_only (blob bytes len) = rw (spelling-Blob bytes, varint_only len) refl
  spelling_only (pair {key = key} {value = value} front back) = rw (spelling-Pair key value, spelling_only front, spelling_only back) refl
  spelling_only (seq {items = items} count back) = rw (spelling-Seq items, varint_only count, spelling_only_all back) refl

  spelling_only_all : {items : List Value} {bytes : List ℕ} → SpellsAll items bytes → bytes ≡ flat_map spelling items
  spelling_only_all none = refl
  spelling_only_all (next {item = item} {items = items} front back) = rw (flat_map-cons spelling item items, spelling_only front, spelling_only_all back) refl

all_spelled : (items : List Value) → AllByRecursion (λ v. Spells v (spelling v)) items → SpellsAll items (flat_map spelling items)
all_spelled [] h = none
all_spelled (item ∷ items) h = rw (flat_map-cons spelling item items) (next h.0 (all_spelled items h.1))

pub is_spelled : (v : Value) → Spells v (spelling v)
is_spelled =
    value_ind (λ v. Spells v (spelling v))
    (rw spelling-Null null)
    (λ n. rw (spelling-Int n) (int n (is_varint (two's_complement n))))
    (λ bytes. rw (spelling-Blob bytes) (blob bytes (is_varint (length bytes))))
    (λ key value k v. rw (spelling-Pair key value) (pair k v))
    (λ items h. rw (spelling-Seq items) (seq (is_varint (length items)) (all_spelled items h)))

pub one_spelling : (v : Value) (bytes : List ℕ) → Spells v bytes ↔ (bytes ≡ spelling v)
one_spelling v bytes = (spelling_only, λ e. subst (Spells v) (sym e) (is_spelled v))

-- ---- elements

flipped : (ms : ℤ) → FitsSigned w64 ms → ms +ℤ pos (2 ^ 63) ≡ pos (sign_flipped ms)
flipped (pos n) f = ap pos (omega arith)
flipped (negsuc n) f = omega (arith, ints, f.sfits)

flipped_fits : (ms : ℤ) → FitsSigned w64 ms → sign_flipped ms < 2 ^ 64
flipped_fits (pos n) f = omega (arith, f.sfits)
flipped_fits (negsuc n) f = omega (arith, f.sfits)

pos-same : (m n : ℕ) → pos m ≡ pos n → m ≡ n
pos-same m n e = cc

bytes_at : (bytes : List ℕ) → All (λ byte. byte < 256) bytes → (i : ℕ) → get_or bytes i 0 < 256
bytes_at bytes each i =
    elim (cases_lt i (length bytes)) [
      | inl lt ↦ each i 0 lt
      | inr le ↦ rw (get_or_past bytes i 0 le) (omega arith)
    ]

ms_only : (ms : ℤ) (bytes : List ℕ) → FitsSigned w64 ms → SpellsMs ms bytes → bytes ≡ ms_spelling ms
unfolding ms_spelling
ms_only ms bytes f s =
    let number = pos-same (from_be_bytes w64 bytes) (sign_flipped ms) (s.number ∙ flipped ms f) in
    sym (be_bytes_8 bytes (sign_flipped ms) s.eight (bytes_at bytes s.each) (sym number))

eight_bytes : (n : ℕ) → All (λ byte. byte < 256) (to_be_bytes w64 n)
eight_bytes n = All-from_recursion (λ byte. byte < 256) (to_be_bytes w64 n) (omega arith, (omega arith, (omega arith, (omega arith, (omega arith, (omega arith, (omega arith, (omega arith, tt))))))))

pub is_ms : (ms : ℤ) → FitsSigned w64 ms → SpellsMs ms (ms_spelling ms)
unfolding ms_spelling
is_ms ms f = record {
  eight = refl;
  each = eight_bytes (sign_flipped ms);
  number = ap pos (from_be_bytes-to_be_bytes_8 (sign_flipped ms) (flipped_fits ms f)) ∙ sym (flipped ms f);
}

pane_only : {p : PaneTag} {bytes : List ℕ} → SpellsPane p bytes → bytes ≡ pane_spelling p
pane_only (pane p index) = ap (λ (i : List ℕ). timing_number p.timing ∷ i) (varint_only index)

element_only : {e : Element} {bytes : List ℕ} → FitsSigned w64 e.time → FitsSigned w64 e.span.start → FitsSigned w64 e.span.end → SpellsElement e bytes → bytes ≡ element_spelling e
element_only f g h (element e {time = time} {start = start} {end = end} at from to tag value) =
    rw (ms_only e.time time f at, ms_only e.span.start start g from, ms_only e.span.end end h to, pane_only tag, spelling_only value) refl

pub one_element_spelling : (e : Element) (bytes : List ℕ) → FitsSigned w64 e.time → FitsSigned w64 e.span.start → FitsSigned w64 e.span.end
    → SpellsElement e bytes ↔ (bytes ≡ element_spelling e)
one_element_spelling e bytes f g h =
    let whole : SpellsElement e (element_spelling e) = element e (is_ms e.time f) (is_ms e.span.start g) (is_ms e.span.end h) (pane e.pane (is_varint e.pane.index)) (is_spelled e.value) in
    (element_only f g h, λ same. subst (SpellsElement e) (sym same) whole)
