-- The parts of words are those of the grammar.
use Rattle.std.proofs.Common.{◌≡◌, ℕ, ◌<◌, Bool, true, false, if◌then◌else◌, nat_lt, List, [], ◌∷◌, ◌++◌, length, get_or, map, codes, Option, Some, None, refl, sym, ap, ◌∙◌, subst, arith}
use Rattle.std.specs.List.{after_first, before_first, position_or_len}
use Rattle.std.specs.Str.{bytes_eq}
use Rattle.std.proofs.lemmas.Bool.Decides.{Decides-eqb, Decides-ltb}
use Rattle.std.proofs.lemmas.List.Sums.{passes_at_first, split_at_first}
use Rattle.std.proofs.lemmas.Slice.Eq.{bytes_eq-Decides}
use Rattle.command_words.specs.Grammar.{AreParts, NoWords, AfterEnd, Word, InOneWord, InTwoWords, name_of, whole_word}
use Rattle.command_words.specs.Parts.{Part, Chosen, Positional, Dashed, Whole, Name, Unknown, after_dashed, dashed_word, ends_options, is_dashed, is_equals, option_name, parts_from_value, parts_of, setting_named, then_part, whole_option}
use Rattle.command_words.specs.declared.setting.Setting.{Setting}
use Rattle.command_words.specs.declared.setting.Setting.TheVariants.{Workers, Bundle, Chunk, Attempts}
use Rattle.command_words.proofs.PanesByDefault.{then_positional}

is_longer : (n : ℕ) (word : List ℕ) → n < length word → nat_lt n (length word) ≡ true
is_longer n word h = (Decides-ltb n (length word)).1 h

whole_is_dashed : (setting : Setting) (text : List ℕ) → is_dashed (whole_word setting text) ≡ true
whole_is_dashed Workers text = let longer = is_longer 1 (whole_word Workers text) (omega arith) in rw longer refl
whole_is_dashed Bundle text = let longer = is_longer 1 (whole_word Bundle text) (omega arith) in rw longer refl
whole_is_dashed Chunk text = let longer = is_longer 1 (whole_word Chunk text) (omega arith) in rw longer refl
whole_is_dashed Attempts text = let longer = is_longer 1 (whole_word Attempts text) (omega arith) in rw longer refl

whole_is_whole : (setting : Setting) (text : List ℕ) → dashed_word (whole_word setting text) ≡ Whole setting text
whole_is_whole Workers text = let longer = is_longer 9 (whole_word Workers text) (omega arith) in rw longer refl
whole_is_whole Bundle text = let longer = is_longer 8 (whole_word Bundle text) (omega arith) in rw longer refl
whole_is_whole Chunk text = let longer = is_longer 7 (whole_word Chunk text) (omega arith) in rw longer refl
whole_is_whole Attempts text = let longer = is_longer 10 (whole_word Attempts text) (omega arith) in rw longer refl

whole_goes_on : (setting : Setting) (text : List ℕ) → ends_options (whole_word setting text) ≡ false
whole_goes_on Workers text = refl
whole_goes_on Bundle text = refl
whole_goes_on Chunk text = refl
whole_goes_on Attempts text = refl

in_one_word : (setting : Setting) (text : List ℕ) (words : List (List ℕ))
    → parts_of (whole_word setting text ∷ words) ≡ then_part (Chosen setting text) (parts_of words)
in_one_word setting text words = rw (whole_goes_on setting text, whole_is_dashed setting text, whole_is_whole setting text) refl

in_two_words : (setting : Setting) (text : List ℕ) (words : List (List ℕ)) → is_dashed text ≡ false
    → parts_of (name_of setting ∷ (text ∷ words)) ≡ then_part (Chosen setting text) (parts_of words)
in_two_words Workers text words undashed = rw undashed refl
in_two_words Bundle text words undashed = rw undashed refl
in_two_words Chunk text words undashed = rw undashed refl
in_two_words Attempts text words undashed = rw undashed refl

pub grammar_is_read : (words : List (List ℕ)) (parts : List Part) → AreParts words parts → parts_of words ≡ Some parts
grammar_is_read _ _ NoWords = refl
grammar_is_read _ _ (AfterEnd words) = refl
grammar_is_read _ _ (Word word words parts undashed rest) = then_positional word words undashed ∙ ap (then_part (Positional word)) (grammar_is_read words parts rest)
grammar_is_read _ _ (InOneWord setting text words parts rest) = in_one_word setting text words ∙ ap (then_part (Chosen setting text)) (grammar_is_read words parts rest)
grammar_is_read _ _ (InTwoWords setting text words parts undashed rest) =
    in_two_words setting text words undashed ∙ ap (then_part (Chosen setting text)) (grammar_is_read words parts rest)

-- The other way: what was read is of the grammar.

named_by : (name : List ℕ) (setting : Setting) (w b c a : Bool)
    → bytes_eq name (codes "--workers") ≡ w → bytes_eq name (codes "--bundle") ≡ b → bytes_eq name (codes "--chunk") ≡ c → bytes_eq name (codes "--attempts") ≡ a
    → (if w then Some Workers else (if b then Some Bundle else (if c then Some Chunk else (if a then Some Attempts else None)))) ≡ Some setting → name ≡ name_of setting
named_by name setting true b c a we be ce ae h = let is : Workers ≡ setting = cc in (bytes_eq-Decides name (codes "--workers")).0 we ∙ ap name_of is
named_by name setting false true c a we be ce ae h = let is : Bundle ≡ setting = cc in (bytes_eq-Decides name (codes "--bundle")).0 be ∙ ap name_of is
named_by name setting false false true a we be ce ae h = let is : Chunk ≡ setting = cc in (bytes_eq-Decides name (codes "--chunk")).0 ce ∙ ap name_of is
named_by name setting false false false true we be ce ae h = let is : Attempts ≡ setting = cc in (bytes_eq-Decides name (codes "--attempts")).0 ae ∙ ap name_of is
named_by name setting false false false false we be ce ae h = cc

named_is : (name : List ℕ) (setting : Setting) → setting_named name ≡ Some setting → name ≡ name_of setting
named_is name setting h = named_by name setting _ _ _ _ refl refl refl refl h

split_at_equals : (word : List ℕ) → position_or_len is_equals word < length word → word ≡ before_first is_equals word ++ 61 ∷ after_first is_equals word
split_at_equals word inside =
    let equals : get_or word (position_or_len is_equals word) 0 ≡ 61 = (Decides-eqb (get_or word (position_or_len is_equals word) 0) 61).0 (passes_at_first is_equals word 0 inside) in
    split_at_first is_equals word 0 inside ∙ ap (λ byte. before_first is_equals word ++ byte ∷ after_first is_equals word) equals

-- what a dashed word that is read so is
abbrev DashedAs : List ℕ → Dashed → Type 0
DashedAs word (Whole setting text) = word ≡ whole_word setting text
DashedAs word (Name setting) = word ≡ name_of setting
DashedAs word Unknown = Unit {0}

dashed_by : (word : List ℕ) (b : Bool) → nat_lt (position_or_len is_equals word) (length word) ≡ b → (named parted : Option Setting)
    → setting_named word ≡ named → setting_named (before_first is_equals word) ≡ parted
    → DashedAs word (if b then whole_option (after_first is_equals word) parted else option_name named)
dashed_by word true e named None ne pe = tt
dashed_by word true e named (Some setting) ne pe =
    split_at_equals word ((Decides-ltb _ _).0 e) ∙ ap (λ name. name ++ 61 ∷ after_first is_equals word) (named_is (before_first is_equals word) setting pe)
dashed_by word false e None parted ne pe = tt
dashed_by word false e (Some setting) parted ne pe = named_is word setting ne

dashed_is : (word : List ℕ) → DashedAs word (dashed_word word)
dashed_is word = dashed_by word _ refl _ _ refl refl

value_by : (setting : Setting) (word : List ℕ) (words : List (List ℕ)) (parts : List Part) (b : Bool) (left : Option (List Part))
    → is_dashed word ≡ b → parts_of words ≡ left → (if b then None else then_part (Chosen setting word) left) ≡ Some parts
    → ((rest : List Part) → parts_of words ≡ Some rest → AreParts words rest) → AreParts (name_of setting ∷ (word ∷ words)) parts
value_by setting word words parts true left dashed is h deeper = cc
value_by setting word words parts false None dashed is h deeper = cc
value_by setting word words parts false (Some rest) dashed is h deeper =
    let all : Chosen setting word ∷ rest ≡ parts = cc in
    subst (AreParts (name_of setting ∷ (word ∷ words))) all (InTwoWords setting word words rest dashed (deeper rest is))

word_by : (word : List ℕ) (words : List (List ℕ)) (parts : List Part) (end dashed : Bool) (kind : Dashed) (left : Option (List Part))
    → ends_options word ≡ end → is_dashed word ≡ dashed → DashedAs word kind → parts_of words ≡ left
    → (if end then Some (map Positional words)
    else (if dashed then after_dashed kind left (λ setting. parts_from_value setting words) else then_part (Positional word) left)) ≡ Some parts
    → ((rest : List Part) → parts_of words ≡ Some rest → AreParts words rest)
    → ((setting : Setting) → parts_from_value setting words ≡ Some parts → AreParts (name_of setting ∷ words) parts)
    → AreParts (word ∷ words) parts
word_by word words parts true dashed kind left ends d k is h deeper valued =
    let all : map Positional words ≡ parts = cc in
    let end : codes "--" ≡ word = sym ((bytes_eq-Decides word (codes "--")).0 ends) in
    subst (λ (w : List ℕ). AreParts (w ∷ words) parts) end (subst (AreParts (codes "--" ∷ words)) all (AfterEnd words))
word_by word words parts false false kind None ends d k is h deeper valued = cc
word_by word words parts false false kind (Some rest) ends d k is h deeper valued =
    let all : Positional word ∷ rest ≡ parts = cc in
    subst (AreParts (word ∷ words)) all (Word word words rest d (deeper rest is))
word_by word words parts false true (Whole setting text) None ends d k is h deeper valued = cc
word_by word words parts false true (Whole setting text) (Some rest) ends d k is h deeper valued =
    let all : Chosen setting text ∷ rest ≡ parts = cc in
    subst (λ (w : List ℕ). AreParts (w ∷ words) parts) (sym k) (subst (AreParts (whole_word setting text ∷ words)) all (InOneWord setting text words rest (deeper rest is)))
word_by word words parts false true (Name setting) left ends d k is h deeper valued =
    subst (λ (w : List ℕ). AreParts (w ∷ words) parts) (sym k) (valued setting h)
word_by word words parts false true Unknown left ends d k is h deeper valued = cc

mutual
  pub read_is_grammar : (words : List (List ℕ)) (parts : List Part) → parts_of words ≡ Some parts → AreParts words parts
  read_is_grammar [] parts h = let all : [] ≡ parts = cc in subst (AreParts []) all NoWords
  read_is_grammar (word ∷ words) parts h =
      word_by word words parts _ _ (dashed_word word) _ refl refl (dashed_is word) refl h (read_is_grammar words) (λ setting. value_is_grammar words setting parts)

  value_is_grammar : (words : List (List ℕ)) (setting : Setting) (parts : List Part) → parts_from_value setting words ≡ Some parts → AreParts (name_of setting ∷ words) parts
  value_is_grammar [] setting parts h = cc
  value_is_grammar (word ∷ words) setting parts h = value_by setting word words parts _ _ refl refl h (read_is_grammar words)
