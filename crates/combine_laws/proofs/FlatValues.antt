-- Values with no sequence inside, and with numbers of 64 bits. Sources emit such values, and functions make such values of such values: a sequence comes
-- only from a Group. So a function of sequences finds poison before the first Group, and no count there can leave 64 bits.
use Rattle.std.proofs.Common.{◌≡◌, ℕ, zero, suc, ◌<◌, ◌≤◌, ◌^◌, ◌-◌, ◌==◌, ℤ, pos, negsuc, ◌-ℤ◌, ◌≤ℤ◌, FitsSigned, w64, Bool, true, false, cond, ◌&&◌, List, [], ◌∷◌, length, map, Option, Some, None, refl, sym, ap, subst, ◌∙◌, arith}
use Rattle.std.specs.Prelude.{int_le, nat_le, slice_get}
use Rattle.std.specs.List.{AllByRecursion}
use Rattle.std.specs.Option.{IfSome, option_map, option_and_then}
use Rattle.std.proofs.lemmas.Bool.{and_parts, leb-true}
use Rattle.std.proofs.lemmas.Int.{ints}
use Rattle.beam_values.specs.Checked.{is_function_allowed, is_number_upto}
use Rattle.beam_values.specs.Functions.{digits_value}
use Rattle.beam_values.specs.Storable.{IsStorable}
use Rattle.beam_values.specs.Windows.{or_zero}
use Rattle.beam_values.specs.declared.element.Element.{Element}
use Rattle.beam_values.specs.declared.plan.Args.{Args}
use Rattle.beam_values.specs.declared.plan.Args.TheVariants.{Nothing, Text, Number, Two}
use Rattle.beam_values.specs.declared.plan.FnKind.{FnKind}
use Rattle.beam_values.specs.declared.plan.FnKind.TheVariants.{KeyField, Words, Field, KeepPrefix, FieldInt, Swap, Shift, SumSeq, CountSeq, MaxSeq, Unseq, Values, Tag, JoinList, JoinSingle, JoinLookup}
use Rattle.beam_values.specs.declared.value.Value.{Value}
use Rattle.beam_values.specs.declared.value.Value.TheOpen as layer
use Rattle.beam_values.specs.declared.value.Value.TheVariants.{Int, Pair, Seq, rolls-Int, rolls-Pair, rolls-Seq}
use Rattle.beam_values.specs.declared.value.Value.TheViews.{out-Value, out-roll-Value}
use Rattle.beam_values.specs.declared.value.Value.TheFolds.{map-Value, every-Value, every_here-Value, every_held-Value, every_made-Value}
use Rattle.beam_values.proofs.Induction.{value_ind}
use Rattle.beam_values.proofs.Storable.{Null-fits, Int-fits, Blob-fits, Pair-fits}
use Rattle.beam_values.specs.Grouping.{key_in, key_of, part_in, part_of}
use Rattle.beam_model.specs.Functions.{number_arg, text_arg, in_word, sum_of, greatest_of, valued, one, keyed_text, on_part, int_in, sum_in, count_in, greatest_in, from_blob, from_pair, kept_prefix, joined_values, side_parts, joins, emits}
use Rattle.beam_model.specs.Texts.{words, fields, begins_with, is_int_digits, up_to, int_of}
use Rattle.beam_model.specs.Values.{KeyedValue, null, int, blob, pair, as_blob, as_pair, as_seq, keyed_of, items_of, is_null, numbers_in}
use Rattle.pipeline_graph.proofs.BarStairs.{int_le_true}
use Rattle.combine_laws.proofs.Lists.{each_map}

abbrev pub IsFlatLayer : layer.Value-F Value → Type 0
IsFlatLayer layer.Null = Unit {0}
IsFlatLayer (layer.Int n) = FitsSigned w64 n
IsFlatLayer (layer.Blob bytes) = Unit {0}
IsFlatLayer (layer.Pair key part) = Unit {0}
IsFlatLayer (layer.Seq items) = ⊥

pub record IsFlat (v : Value) : Type 0 where
  pub every : every-Value IsFlatLayer v

-- ---- form by form

flat-null : IsFlat null
flat-null = record { every = every_made-Value IsFlatLayer layer.Null layer.Null refl tt }

pub flat-int : (n : ℤ) → FitsSigned w64 n → IsFlat (int n)
flat-int n fits = record { every = every_made-Value IsFlatLayer (layer.Int n) (layer.Int n) refl fits }

pub flat-blob : (bytes : List ℕ) → IsFlat (blob bytes)
flat-blob bytes = record { every = every_made-Value IsFlatLayer (layer.Blob bytes) (layer.Blob bytes) refl tt }

flat-pair : (key part : Value) → IsFlat key → IsFlat part → IsFlat (pair key part)
flat-pair key part first second = record { every = every_made-Value IsFlatLayer (layer.Pair key part) (layer.Pair (key, first.every) (part, second.every)) refl tt }

-- a value with the fact beside it
abbrev Flats : Type 0
Flats = (v : Value) × every-Value IsFlatLayer v

-- what is known of the form of a flat value
abbrev IsFlatForm : layer.Value-F Value → Type 0
IsFlatForm layer.Null = Unit {0}
IsFlatForm (layer.Int n) = Unit {0}
IsFlatForm (layer.Blob bytes) = Unit {0}
IsFlatForm (layer.Pair key part) = IsFlat key × IsFlat part
IsFlatForm (layer.Seq items) = ⊥

form_inside : (y : layer.Value-F Flats) (form : layer.Value-F Value) → map-Value Flats Value (λ e. e.0) y ≡ form → IsFlatLayer form → IsFlatForm form
form_inside y layer.Null is here = tt
form_inside y (layer.Int n) is here = tt
form_inside y (layer.Blob bytes) is here = tt
form_inside y (layer.Seq items) is here = here
form_inside layer.Null (layer.Pair key part) is here = absurd cc
form_inside (layer.Int n) (layer.Pair key part) is here = absurd cc
form_inside (layer.Blob bytes) (layer.Pair key part) is here = absurd cc
form_inside (layer.Seq items) (layer.Pair key part) is here = absurd cc
form_inside (layer.Pair k p) (layer.Pair key part) is here =
    let first : k.0 ≡ key = cc in
    let second : p.0 ≡ part = cc in
    (record { every = subst (every-Value IsFlatLayer) first k.1 }, record { every = subst (every-Value IsFlatLayer) second p.1 })

form_of : (v : Value) → IsFlat v → IsFlatForm (out-Value v)
form_of v flat =
    let held = every_held-Value IsFlatLayer v flat.every in
    form_inside held.0 (out-Value v) held.1 (every_here-Value IsFlatLayer v flat.every)

abbrev IsFlatKeyed : KeyedValue → Type 0
IsFlatKeyed keyed = IsFlat keyed.key × IsFlat keyed.part

keyed_flat : (v : Value) → IsFlat v → IfSome (as_pair v) IsFlatKeyed
keyed_flat v flat = by (out-Value v) (form_of v flat)
  where
    by : (form : layer.Value-F Value) → IsFlatForm form → IfSome (keyed_of form) IsFlatKeyed
    by layer.Null known = tt
    by (layer.Int n) known = tt
    by (layer.Blob bytes) known = tt
    by (layer.Pair key part) known = known
    by (layer.Seq items) known = tt

no_sequence : (v : Value) → IsFlat v → as_seq v ≡ None
no_sequence v flat = by (out-Value v) (form_of v flat)
  where
    by : (form : layer.Value-F Value) → IsFlatForm form → items_of form ≡ None
    by layer.Null known = refl
    by (layer.Int n) known = refl
    by (layer.Blob bytes) known = refl
    by (layer.Pair key part) known = refl
    by (layer.Seq items) known = absurd known

-- ---- keys and parts

pub key_flat : (e : Element) → IsFlat e.value → IsFlat (key_of e)
key_flat e flat = by (out-Value e.value) (form_of e.value flat)
  where
    by : (form : layer.Value-F Value) → IsFlatForm form → IsFlat (key_in form)
    by layer.Null known = flat-null
    by (layer.Int n) known = flat-null
    by (layer.Blob bytes) known = flat-null
    by (layer.Pair key part) known = known.0
    by (layer.Seq items) known = flat-null

pub part_flat : (e : Element) → IsFlat e.value → IsFlat (part_of e)
part_flat e flat = by (out-Value e.value) (form_of e.value flat)
  where
    by : (form : layer.Value-F Value) → IsFlatForm form → IsFlat (part_in e.value form)
    by layer.Null known = flat
    by (layer.Int n) known = flat
    by (layer.Blob bytes) known = flat
    by (layer.Pair key part) known = known.1
    by (layer.Seq items) known = flat

-- ---- what functions give

abbrev pub IsFlatElement : Element → Type 0
IsFlatElement e = IsFlat e.value

abbrev AreFlat : List Element → Type 0
AreFlat outputs = AllByRecursion IsFlatElement outputs

if_map : {X : Type 0} (f : X → List Element) → ((x : X) → AreFlat (f x)) → (found : Option X) → IfSome (option_map f found) AreFlat
if_map f flat None = tt
if_map f flat (Some x) = flat x

from_bytes : (e : Element) (give : List ℕ → Option (List Element)) → ((text : List ℕ) → IfSome (give text) AreFlat) → IfSome (from_blob e give) AreFlat
from_bytes e give flat = by (as_blob e.value)
  where
    by : (found : Option (List ℕ)) → IfSome (option_and_then give found) AreFlat
    by None = tt
    by (Some text) = flat text

from_keyed : (e : Element) → IsFlat e.value → (give : KeyedValue → Option (List Element)) → ((keyed : KeyedValue) → IsFlatKeyed keyed → IfSome (give keyed) AreFlat) → IfSome (from_pair e give) AreFlat
from_keyed e whole give flat = by (as_pair e.value) (keyed_flat e.value whole)
  where
    by : (found : Option KeyedValue) → IfSome found IsFlatKeyed → IfSome (option_and_then give found) AreFlat
    by None known = tt
    by (Some keyed) known = flat keyed known

-- a function of sequences gives nothing
nothing_folded : (e : Element) → IsFlat e.value → (change : Value → Option Value) → ((part : Value) → IsFlat part → change part ≡ None)
    → IfSome (from_pair e (λ keyed. option_map (one e) (on_part change keyed))) AreFlat
nothing_folded e whole change none =
    from_keyed e whole (λ keyed. option_map (one e) (on_part change keyed))
    (λ keyed known. subst (λ found. IfSome (option_map (one e) (option_map (pair keyed.key) found)) AreFlat) (sym (none keyed.part known.1)) tt)

no_sum : (part : Value) → IsFlat part → sum_in part ≡ None
no_sum part flat = ap (λ items. option_map int (option_and_then (λ numbers. in_word (sum_of numbers)) (option_and_then numbers_in items))) (no_sequence part flat)

no_count : (part : Value) → IsFlat part → count_in part ≡ None
no_count part flat = ap (λ items. option_map (λ them. int (pos (length them))) items) (no_sequence part flat)

no_greatest : (part : Value) → IsFlat part → greatest_in part ≡ None
no_greatest part flat = ap (λ items. option_map greatest_of (option_and_then numbers_in items)) (no_sequence part flat)

no_items : (e : Element) → IsFlat e.value → IfSome (from_pair e (λ keyed. option_map (map (λ item. valued e (pair keyed.key item))) (as_seq keyed.part))) AreFlat
no_items e whole =
    from_keyed e whole (λ keyed. option_map (map (λ item. valued e (pair keyed.key item))) (as_seq keyed.part))
    (λ keyed known. subst (λ found. IfSome (option_map (map (λ item. valued e (pair keyed.key item))) found) AreFlat) (sym (no_sequence keyed.part known.1)) tt)

no_side_parts : (keyed : KeyedValue) → IsFlatKeyed keyed → side_parts keyed ≡ None
no_side_parts keyed known = by (is_null keyed.key)
  where
    by : (b : Bool) → cond b (as_seq keyed.part) None ≡ None
    by true = no_sequence keyed.part known.1
    by false = refl

nothing_joined : (work : FnKind) (e : Element) → IsFlat e.value → IfSome (joins work e) AreFlat
nothing_joined work e whole =
    from_keyed e whole (λ keyed. option_map (map (valued e)) (option_and_then (joined_values work) (side_parts keyed)))
    (λ keyed known. subst (λ found. IfSome (option_map (map (valued e)) (option_and_then (joined_values work) found)) AreFlat) (sym (no_side_parts keyed known)) tt)

up_to_fits : (most : ℕ) (signed : ℕ → ℤ) → ((n : ℕ) → n ≤ most → FitsSigned w64 (signed n)) → (digits : List ℕ) → IfSome (up_to most signed digits) (FitsSigned w64)
up_to_fits most signed fits digits = by (is_int_digits digits && nat_le (digits_value digits) most) refl
  where
    by : (b : Bool) → (is_int_digits digits && nat_le (digits_value digits) most) ≡ b → IfSome (cond b (Some (signed (digits_value digits))) None) (FitsSigned w64)
    by true is = fits (digits_value digits) (leb-true (digits_value digits) most (and_parts (is_int_digits digits) (nat_le (digits_value digits) most) is).1)
    by false is = tt

above_fits : (n : ℕ) → n ≤ 9223372036854775807 → FitsSigned w64 (pos n)
above_fits n few = record { sfits = omega (arith, ints) }

negsuc_fits : (n : ℕ) → n < 9223372036854775808 → FitsSigned w64 (negsuc n)
negsuc_fits n few = record { sfits = omega (arith, ints) }

below_fits : (n : ℕ) → n ≤ 9223372036854775808 → FitsSigned w64 (pos 0 -ℤ pos n)
below_fits zero few = let same : pos 0 ≡ pos 0 -ℤ pos zero = omega (arith, ints) in subst (FitsSigned w64) same (above_fits 0 (omega arith))
below_fits (suc n) few = let same : negsuc n ≡ pos 0 -ℤ pos (suc n) = omega (arith, ints) in subst (FitsSigned w64) same (negsuc_fits n (omega arith))

number_fits : (text : List ℕ) → IfSome (int_of text) (FitsSigned w64)
number_fits [] = tt
number_fits (byte ∷ digits) = by (byte == 45)
  where
    by : (b : Bool) → IfSome (cond b (up_to (2 ^ 63) (λ n. pos 0 -ℤ pos n) digits) (up_to (2 ^ 63 - 1) pos (byte ∷ digits))) (FitsSigned w64)
    by true = up_to_fits (2 ^ 63) (λ n. pos 0 -ℤ pos n) below_fits digits
    by false = up_to_fits (2 ^ 63 - 1) pos above_fits (byte ∷ digits)

number_flat : (e : Element) (key : Value) → IsFlat key → (part : Value) → IfSome (option_map (one e) (option_map (pair key) (int_in part))) AreFlat
number_flat e key flat part = by (as_blob part)
  where
    of_number : (found : Option ℤ) → IfSome found (FitsSigned w64) → IfSome (option_map (one e) (option_map (pair key) (option_map int found))) AreFlat
    of_number None fits = tt
    of_number (Some n) fits = (flat-pair key (int n) flat (flat-int n fits), tt)

    by : (found : Option (List ℕ)) → IfSome (option_map (one e) (option_map (pair key) (option_map int (option_and_then int_of found)))) AreFlat
    by None = tt
    by (Some text) = of_number (int_of text) (number_fits text)

prefix_flat : (prefix : List ℕ) (e : Element) → IsFlat e.value → (text : Option (List ℕ)) → AreFlat (kept_prefix prefix e text)
prefix_flat prefix e whole None = tt
prefix_flat prefix e whole (Some text) = by (begins_with prefix text)
  where
    by : (b : Bool) → AreFlat (cond b (e ∷ []) [])
    by true = (whole, tt)
    by false = tt

tag_number : (n : ℤ) → pos 0 ≤ℤ n → n ≤ℤ pos 1 → FitsSigned w64 n
tag_number (pos n) low high = above_fits n (omega (arith, ints, high))
tag_number (negsuc n) low high = absurd (omega (arith, ints, low))

tag_fits : (args : Args) → is_number_upto (pos 1) args ≡ true → FitsSigned w64 (number_arg args)
tag_fits (Number n) allowed =
    let parts = and_parts (int_le (pos 0) n) (int_le n (pos 1)) allowed in
    let low = int_le_true (pos 0) n parts.0 in
    let high = int_le_true n (pos 1) parts.1 in
    tag_number n low high
tag_fits Nothing allowed = absurd cc
tag_fits (Text text) allowed = absurd cc
tag_fits (Two first second) allowed = absurd cc

pub emits_flat : (work : FnKind) (args : Args) → is_function_allowed work args ≡ true → (e : Element) → IsFlat e.value → IfSome (emits work args e) AreFlat
emits_flat KeyField args allowed e whole =
    from_bytes e (λ text. Some (one e (keyed_text text))) (λ text. (flat-pair _ _ (flat-blob _) (flat-blob _), tt))
emits_flat Words args allowed e whole =
    from_bytes e (λ text. Some (map (λ word. valued e (blob word)) (words text))) (λ text. each_map IsFlatElement (λ word. valued e (blob word)) flat-blob (words text))
emits_flat Field args allowed e whole =
    from_bytes e (λ text. option_map (λ field. one e (blob field)) (slice_get (fields text) (or_zero (number_arg args))))
    (λ text. if_map (λ field. one e (blob field)) (λ field. (flat-blob field, tt)) (slice_get (fields text) (or_zero (number_arg args))))
emits_flat KeepPrefix args allowed e whole = prefix_flat (text_arg args) e whole (as_blob e.value)
emits_flat FieldInt args allowed e whole =
    from_keyed e whole (λ keyed. option_map (one e) (on_part int_in keyed)) (λ keyed known. number_flat e keyed.key known.0 keyed.part)
emits_flat Swap args allowed e whole =
    from_keyed e whole (λ keyed. Some (one e (pair keyed.part keyed.key))) (λ keyed known. (flat-pair keyed.part keyed.key known.1 known.0, tt))
emits_flat Shift args allowed e whole = (whole, tt)
emits_flat SumSeq args allowed e whole = nothing_folded e whole sum_in no_sum
emits_flat CountSeq args allowed e whole = nothing_folded e whole count_in no_count
emits_flat MaxSeq args allowed e whole = nothing_folded e whole greatest_in no_greatest
emits_flat Unseq args allowed e whole = no_items e whole
emits_flat Values args allowed e whole = from_keyed e whole (λ keyed. Some (one e keyed.part)) (λ keyed known. (known.1, tt))
emits_flat Tag args allowed e whole =
    (flat-pair null (pair (int (number_arg args)) e.value) flat-null (flat-pair (int (number_arg args)) e.value (flat-int (number_arg args) (tag_fits args allowed)) whole), tt)
emits_flat JoinList args allowed e whole = nothing_joined JoinList e whole
emits_flat JoinSingle args allowed e whole = nothing_joined JoinSingle e whole
emits_flat JoinLookup args allowed e whole = nothing_joined JoinLookup e whole

-- ---- as a program can hold them

int_inside : (n : ℤ) → IsFlat (Int n) → FitsSigned w64 n
int_inside n flat = subst IsFlatLayer (ap out-Value (sym (rolls-Int n)) ∙ out-roll-Value (layer.Int n)) (every_here-Value IsFlatLayer (Int n) flat.every)

pair_inside : (key part : Value) → IsFlat (Pair key part) → IsFlat key × IsFlat part
pair_inside key part flat = subst IsFlatForm (ap out-Value (sym (rolls-Pair key part)) ∙ out-roll-Value (layer.Pair key part)) (form_of (Pair key part) flat)

not_sequence : (items : List Value) → IsFlat (Seq items) → ⊥
not_sequence items flat = subst IsFlatForm (ap out-Value (sym (rolls-Seq items)) ∙ out-roll-Value (layer.Seq items)) (form_of (Seq items) flat)

-- the numbers of a flat value have 64 bits
pub flat_storable : (v : Value) → IsFlat v → IsStorable v
flat_storable =
    value_ind (λ v. IsFlat v → IsStorable v)
    (λ flat. Null-fits)
    (λ n flat. Int-fits n (int_inside n flat))
    (λ bytes flat. Blob-fits bytes)
    (λ key part first second flat. let both = pair_inside key part flat in Pair-fits key part (first both.0) (second both.1))
    (λ items each flat. absurd (not_sequence items flat))
