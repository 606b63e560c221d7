-- What four words of `panes` without options ask for.
use Rattle.std.proofs.Common.{◌≡◌, ℕ, ℤ, pos, ◌<◌, Bool, true, false, if◌then◌else◌, nat_lt, ◌==◌, ◌&&◌, List, [], ◌∷◌, length, slice_index, codes, Option, Some, None, refl, ap, ◌∙◌, inl, inr, subst, arith}
use Rattle.std.specs.List.{slice_index_or}
use Rattle.std.specs.Option.{option_map, option_and_then}
use Rattle.std.specs.Str.Parse.{IsNumeral, without_leading_plus}
use Rattle.std.proofs.lemmas.Bool.Decides.{Decides-eqb, eqb_tells, nat_tests}
use Rattle.std.proofs.lemmas.Slice.Eq.{bytes_eq-Decides}
use Rattle.beam_values.specs.Strategies.{greatest_length}
use Rattle.beam_values.specs.Windows.{or_zero}
use Rattle.command_words.specs.Commands.{Asked, Panes, command_of, is_file_name, size_of}
use Rattle.command_words.specs.Numbers.{IsNumberWithin, number_of_text, number_within}
use Rattle.command_words.specs.PanesAlone.{IsPanesAlone, IsPlainFileName, default_options}
use Rattle.command_words.specs.Parts.{Positional, ends_options, is_dashed, parts_of, then_part}
use Rattle.command_words.proofs.Numerals.{number_within-none, number_within-some}

-- `--` is a dashed word
no_end_by : (word : List ℕ) (b : Bool) → ends_options word ≡ b → is_dashed word ≡ false → b ≡ false
no_end_by word true e undashed =
    let is : word ≡ codes "--" = (bytes_eq-Decides word (codes "--")).0 e in
    let dashed : is_dashed word ≡ true = rw is refl in
    cc
no_end_by word false e undashed = refl

no_end : (word : List ℕ) → is_dashed word ≡ false → ends_options word ≡ false
no_end word undashed = no_end_by word (ends_options word) refl undashed

pub then_positional : (word : List ℕ) (words : List (List ℕ)) → is_dashed word ≡ false → parts_of (word ∷ words) ≡ then_part (Positional word) (parts_of words)
then_positional word words undashed = let end = no_end word undashed in rw (end, undashed) refl

-- what two undashed words after `panes` ask for
abbrev by_default : List ℕ → List ℕ → Option Asked
by_default file size = if is_file_name file then option_map (λ size. Panes file size default_options) (size_of size) else None

size_decides : (file : List ℕ) (size : Option ℤ) → option_and_then (λ size. option_map (λ options. Panes file size options) (Some default_options)) size ≡ option_map (λ size. Panes file size default_options) size
size_decides file None = refl
size_decides file (Some size) = refl

undashed_words : (program file size : List ℕ) → is_dashed file ≡ false → is_dashed size ≡ false
    → command_of (program ∷ (codes "panes" ∷ (file ∷ (size ∷ [])))) ≡ by_default file size
undashed_words program file size file_undashed size_undashed =
    rw (then_positional file (size ∷ []) file_undashed, then_positional size [] size_undashed)
    (simp (size_decides file) refl)

and_false : (b : Bool) → (b && false) ≡ false
and_false true = refl
and_false false = refl

-- a number begins with no `-`
undashed_by_first : (c : ℕ) (cs : List ℕ) (b : Bool) → (c == 45) ≡ b → IsNumeral 10 (without_leading_plus (c ∷ cs)) → is_dashed (c ∷ cs) ≡ false
undashed_by_first c cs true e numeral =
    let dash : c ≡ 45 = (Decides-eqb c 45).0 e in
    let P : ℕ → Type 0 = λ c. IsNumeral 10 (without_leading_plus (c ∷ cs)) in
    let digit : 36 < 10 = (subst P dash numeral).1.0 in
    absurd (omega (arith, digit))
undashed_by_first c cs false e numeral = rw e (and_false (nat_lt 1 (length (c ∷ cs))))

number_is_undashed : (text : List ℕ) → IsNumeral 10 (without_leading_plus text) → is_dashed text ≡ false
number_is_undashed [] numeral = refl
number_is_undashed (c ∷ cs) numeral = undashed_by_first c cs (c == 45) refl numeral

plain_is_undashed : (text : List ℕ) → IsPlainFileName text → is_dashed text ≡ false
plain_is_undashed text plain = elim plain.positional [ inl other ↦ grind (arith, nat_tests) | inr one ↦ grind (arith, nat_tests) ]

plain_is_file_name : (text : List ℕ) → IsPlainFileName text → is_file_name text ≡ true
plain_is_file_name text plain = grind (arith, nat_tests, plain.some, plain.short)

undashed_is_plain : (text : List ℕ) → is_file_name text ≡ true → is_dashed text ≡ false → IsPlainFileName text
undashed_is_plain text name undashed = record {
  some = grind (arith, nat_tests);
  short = grind (arith, nat_tests);
  positional = elim (eqb_tells (slice_index text 0) 45) [ inl same ↦ inr (grind (arith, nat_tests)) | inr other ↦ inl other.1 ];
}

by_default_some : (file size : List ℕ) → IsPlainFileName file → IsNumberWithin 1 (or_zero greatest_length) size
    → by_default file size ≡ Some (Panes file (pos (number_of_text size)) default_options)
by_default_some file size plain number =
    let name = plain_is_file_name file plain in
    let some = number_within-some 1 (or_zero greatest_length) size (number.numeral, (number.least, number.greatest)) in
    rw (name, some) refl

by_default_none : (file size : List ℕ) (b : Bool) → is_file_name file ≡ b → is_dashed file ≡ false
    → (IsPlainFileName file → IsNumberWithin 1 (or_zero greatest_length) size → ⊥) → by_default file size ≡ None
by_default_none file size false no_name undashed nothing = rw no_name refl
by_default_none file size true name undashed nothing =
    let none : number_within 1 (or_zero greatest_length) size ≡ None = number_within-none 1 (or_zero greatest_length) size
    (λ within. nothing (undashed_is_plain file name undashed) (record { numeral = within.0; least = within.1.0; greatest = within.1.1 })) in
    rw (name, none) refl

pub taken : (words : List (List ℕ)) → IsPanesAlone words
    → command_of words ≡ Some (Panes (slice_index_or words 2 []) (pos (number_of_text (slice_index_or words 3 []))) default_options)
taken [] h = absurd (omega (arith, h.four))
taken (a ∷ []) h = absurd (omega (arith, h.four))
taken (a ∷ (b ∷ [])) h = absurd (omega (arith, h.four))
taken (a ∷ (b ∷ (c ∷ []))) h = absurd (omega (arith, h.four))
taken (program ∷ (name ∷ (file ∷ (size ∷ [])))) h =
    ap (λ name. command_of (program ∷ (name ∷ (file ∷ (size ∷ []))))) h.command
    ∙ undashed_words program file size (plain_is_undashed file h.file) (number_is_undashed size h.size.numeral)
    ∙ by_default_some file size h.file h.size
taken (a ∷ (b ∷ (c ∷ (d ∷ (e ∷ words))))) h = absurd (omega (arith, h.four))

pub refused : (words : List (List ℕ)) → length words ≡ 4 → slice_index_or words 1 [] ≡ codes "panes"
    → is_dashed (slice_index_or words 2 []) ≡ false → is_dashed (slice_index_or words 3 []) ≡ false → (IsPanesAlone words → ⊥) → command_of words ≡ None
refused [] four command file size nothing = absurd (omega (arith, four))
refused (a ∷ []) four command file size nothing = absurd (omega (arith, four))
refused (a ∷ (b ∷ [])) four command file size nothing = absurd (omega (arith, four))
refused (a ∷ (b ∷ (c ∷ []))) four command file size nothing = absurd (omega (arith, four))
refused (program ∷ (name ∷ (file ∷ (size ∷ [])))) four command file_undashed size_undashed nothing =
    ap (λ name. command_of (program ∷ (name ∷ (file ∷ (size ∷ []))))) command
    ∙ undashed_words program file size file_undashed size_undashed
    ∙ by_default_none file size (is_file_name file) refl file_undashed
    (λ plain number. nothing (record { four = four; command = command; file = plain; size = number }))
refused (a ∷ (b ∷ (c ∷ (d ∷ (e ∷ words))))) four command file size nothing = absurd (omega (arith, four))
