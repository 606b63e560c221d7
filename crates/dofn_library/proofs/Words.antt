-- The words of a text, from its first one on.
use Rattle.std.proofs.Common.{◌≡◌, ℕ, suc, ◌+◌, ◌<◌, ◌≤◌, Bool, true, false, not, cond, List, [], ◌∷◌, ◌++◌, length, take, drop, get_or, position, Some, None, refl, ap, ◌∙◌, sym, subst, append_assoc, append-nil, drop-cons, arith}
use Rattle.std.specs.Prelude.{if◌then◌else◌, unwrap_or}
use Rattle.std.specs.Char.{is_ascii_alphanumeric}
use Rattle.std.specs.List.{position_or_len}
use Rattle.std.proofs.lemmas.Bool.Decides.{nat_tests}
use Rattle.std.proofs.lemmas.Grind.{common_steps}
use Rattle.std.proofs.lemmas.List.{drop_all}
use Rattle.std.proofs.lemmas.List.Sums.{passes_at_first, prefix_len-le-length}
use Rattle.beam_model.specs.Texts.{run, words, words_after}

abbrev pub is_other : ℕ → Bool
is_other byte = not (is_ascii_alphanumeric byte)

-- what stands before the first word is no part of one
words_from : (text : List ℕ) → words text ≡ words (drop (position_or_len is_ascii_alphanumeric text) text)
words_from [] = refl
words_from (byte ∷ bytes) = by_test (is_ascii_alphanumeric byte) refl (words_from bytes)
  where
    by_test : (in_word : Bool) → is_ascii_alphanumeric byte ≡ in_word
        → words bytes ≡ words (drop (position_or_len is_ascii_alphanumeric bytes) bytes)
        → (if in_word then words_after (byte ∷ []) bytes else words bytes)
        ≡ words (drop (cond (not in_word) (1 + position_or_len is_ascii_alphanumeric bytes) 0) (byte ∷ bytes))
    by_test true e rest = rw e refl
    by_test false e rest =
        let one_more : 1 + position_or_len is_ascii_alphanumeric bytes ≡ suc (position_or_len is_ascii_alphanumeric bytes) = omega arith in
        rw one_more rest

-- a word goes on up to the first byte that is no part of one
abbrev ended : List ℕ → List ℕ → ℕ → List (List ℕ)
ended taken text at = run (taken ++ take at text) ++ words (drop at text)

ended-cons : (taken : List ℕ) (byte : ℕ) (bytes : List ℕ) (at : ℕ) → ended (taken ++ byte ∷ []) bytes at ≡ ended taken (byte ∷ bytes) (suc at)
ended-cons taken byte bytes at = ap (λ word. run word ++ words (drop at bytes)) (append_assoc taken (byte ∷ []) (take at bytes))

words_after_run : (taken text : List ℕ) → words_after taken text ≡ ended taken text (position_or_len is_other text)
words_after_run taken [] = grind (arith, common_steps)
words_after_run taken (byte ∷ bytes) = by_test (is_ascii_alphanumeric byte) refl (words_after_run (taken ++ byte ∷ []) bytes)
  where
    by_test : (in_word : Bool) → is_ascii_alphanumeric byte ≡ in_word
        → words_after (taken ++ byte ∷ []) bytes ≡ ended (taken ++ byte ∷ []) bytes (position_or_len is_other bytes)
        → (if in_word then words_after (taken ++ byte ∷ []) bytes else run taken ++ words bytes)
        ≡ ended taken (byte ∷ bytes) (cond (not (not in_word)) (1 + position_or_len is_other bytes) 0)
    by_test true e rest =
        let one_more : suc (position_or_len is_other bytes) ≡ 1 + position_or_len is_other bytes = omega arith in
        rest ∙ ended-cons taken byte bytes (position_or_len is_other bytes) ∙ ap (ended taken (byte ∷ bytes)) one_more
    by_test false e rest = rw (append-nil, e) refl

-- where a text begins with a word
word_here : (byte : ℕ) (bytes : List ℕ) (len : ℕ) → is_ascii_alphanumeric byte ≡ true → len ≡ position_or_len is_other (byte ∷ bytes)
    → (words (byte ∷ bytes) ≡ take len (byte ∷ bytes) ∷ words (drop len (byte ∷ bytes))) × (0 < len)
word_here byte bytes len e is =
    let one_more : len ≡ suc (position_or_len is_other bytes) =
    is ∙ ap (λ in_word. cond (not (not in_word)) (1 + position_or_len is_other bytes) 0) e ∙ omega arith in
    let ends : words (byte ∷ bytes) ≡ ended [] (byte ∷ bytes) len =
    words_after_run [] (byte ∷ bytes) ∙ ap (ended [] (byte ∷ bytes)) (sym is) in
    (ends ∙ (rw one_more refl), omega arith)

-- what a search for the end of the word finds
end_of_run : (rest : List ℕ) → unwrap_or (position is_other rest) (length rest) ≡ position_or_len is_other rest
end_of_run rest = grind (arith, nat_tests, prefix_len-le-length)

pub no_word : (text : List ℕ) → None ≡ position is_ascii_alphanumeric text → words text ≡ []
no_word text none =
    let past : length text ≤ position_or_len is_ascii_alphanumeric text = grind (arith, nat_tests) in
    words_from text ∙ ap words (drop_all (position_or_len is_ascii_alphanumeric text) text past)

-- the first word, from where it starts
pub a_word : (text rest : List ℕ) (start len : ℕ) → Some start ≡ position is_ascii_alphanumeric text → rest ≡ drop start text
    → len ≡ unwrap_or (position is_other rest) (length rest)
    → (words text ≡ take len rest ∷ words (drop len rest)) × (0 < len)
a_word text rest start len at is ends =
    let first : start ≡ position_or_len is_ascii_alphanumeric text = grind (arith, nat_tests) in
    let within : start < length text = grind (arith, nat_tests) in
    let in_word : is_ascii_alphanumeric (get_or text start 0) ≡ true =
    rw first (passes_at_first is_ascii_alphanumeric text 0 (rw (← first) within)) in
    let starts : rest ≡ get_or text start 0 ∷ drop (suc start) text = is ∙ drop-cons text start 0 within in
    let here = word_here (get_or text start 0) (drop (suc start) text) len in_word
    (ends ∙ end_of_run rest ∙ ap (position_or_len is_other) starts) in
    let begins : words text ≡ words rest = words_from text ∙ ap (λ at. words (drop at text)) (sym first) ∙ ap words (sym is) in
    let word_is : words rest ≡ take len rest ∷ words (drop len rest) =
    subst (λ it. words it ≡ take len it ∷ words (drop len it)) (sym starts) here.0 in
    (begins ∙ word_is, here.1)
