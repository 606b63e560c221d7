-- Texts that are cut at the first byte of a kind, and so the lines of a schedule one after another.
use Rattle.std.proofs.Common.{◌≡◌, ℕ, suc, ◌+◌, ◌<◌, Bool, true, false, cond, List, [], ◌∷◌, length, take, drop, Some, None, refl, sym, ap, subst, ◌∙◌, arith}
use Rattle.std.specs.Prelude.{not}
use Rattle.std.specs.List.{onto_first, position_or_len, slice_split}
use Rattle.std.proofs.lemmas.List.Splits.{slice_split-cons_no, slice_split-cons_yes, slice_split_first}
use Rattle.memchr.specs.Find.{IsFirstByte}
use Rattle.beam_values.specs.Lines.{is_line_feed}
use Rattle.beam_lines.proofs.Finding.{position_or_len_found}
use Rattle.schedule_words.specs.Schedules.{is_space, line_of_words, lines_in, lines_of}

-- ---- a cut

pub cut_some : (test : ℕ → Bool) (text : List ℕ) (at : ℕ) → IsFirstByte test text (Some at) → slice_split test text ≡ take at text ∷ slice_split test (drop (at + 1) text)
cut_some test text at found =
    let is : at ≡ position_or_len test text = position_or_len_found test text (Some at) found in
    let inside : position_or_len test text < length text = omega (arith, found.0.high) in
    slice_split_first test text 0 inside ∙ ap (λ (n : ℕ). take n text ∷ slice_split test (drop (n + 1) text)) (sym is)

whole : (test : ℕ → Bool) (text : List ℕ) → position_or_len test text ≡ length text → slice_split test text ≡ text ∷ []
whole test [] none = refl
whole test (byte ∷ bytes) none = by (test byte) refl (whole test bytes)
  where
    by : (b : Bool) → test byte ≡ b → (position_or_len test bytes ≡ length bytes → slice_split test bytes ≡ bytes ∷ []) → slice_split test (byte ∷ bytes) ≡ (byte ∷ bytes) ∷ []
    by true is later =
        let never : 0 ≡ suc (length bytes) = subst (λ (b : Bool). cond (not b) (1 + position_or_len test bytes) 0 ≡ suc (length bytes)) is none in
        absurd (omega arith)
    by false is later =
        let others : 1 + position_or_len test bytes ≡ suc (length bytes) = subst (λ (b : Bool). cond (not b) (1 + position_or_len test bytes) 0 ≡ suc (length bytes)) is none in
        slice_split-cons_no test byte bytes is ∙ ap (onto_first byte) (later (omega arith))

pub cut_none : (test : ℕ → Bool) (text : List ℕ) → IsFirstByte test text None → slice_split test text ≡ text ∷ []
cut_none test text none = whole test text (sym (position_or_len_found test text None none))

-- ---- parts

-- there is one at least
some_part : (test : ℕ → Bool) (text : List ℕ) → (first : List ℕ) × (parts : List (List ℕ)) × (slice_split test text ≡ first ∷ parts)
some_part test [] = ([], [], refl)
some_part test (byte ∷ bytes) = by (test byte) refl (some_part test bytes)
  where
    by : (b : Bool) → test byte ≡ b → ((first : List ℕ) × (parts : List (List ℕ)) × (slice_split test bytes ≡ first ∷ parts))
        → (first : List ℕ) × (parts : List (List ℕ)) × (slice_split test (byte ∷ bytes) ≡ first ∷ parts)
    by true is later = ([], slice_split test bytes, slice_split-cons_yes test byte bytes is)
    by false is later = (byte ∷ later.0, later.1, slice_split-cons_no test byte bytes is ∙ ap (onto_first byte) later.2)

-- five words or more are no line
pub five_words : (word slot num den rest : List ℕ) → line_of_words (word ∷ (slot ∷ (num ∷ (den ∷ slice_split is_space rest)))) ≡ None
five_words word slot num den rest = ap (λ (others : List (List ℕ)). line_of_words (word ∷ (slot ∷ (num ∷ (den ∷ others))))) (some_part is_space rest).2

-- ---- lines

pub line_before : (text line rest : List ℕ) → slice_split is_line_feed text ≡ line ∷ slice_split is_line_feed rest → lines_of text ≡ line ∷ lines_of rest
line_before text line rest cut =
    let parts = some_part is_line_feed rest in
    ap lines_in cut ∙ ap (λ (others : List (List ℕ)). lines_in (line ∷ others)) parts.2 ∙ ap (λ (others : List (List ℕ)). line ∷ lines_in others) (sym parts.2)

pub line_alone : (text : List ℕ) → 0 < length text → slice_split is_line_feed text ≡ text ∷ [] → lines_of text ≡ text ∷ lines_of []
line_alone [] some cut = absurd (omega arith)
line_alone (byte ∷ bytes) some cut = ap lines_in cut
