-- The words of a text are letters and digits.
use Rattle.std.proofs.Common.{◌≡◌, ℕ, ◌+◌, Bool, true, false, not, ◌&&◌, cond, List, [], ◌∷◌, ◌++◌, length, map, take, drop, refl, sym, ap, subst, ◌∙◌, arith}
use Rattle.std.specs.Prelude.{if◌then◌else◌}
use Rattle.std.specs.Char.{is_ascii_alphanumeric}
use Rattle.std.specs.List.{flat_map, list_all, position_or_len}
use Rattle.std.proofs.lemmas.Bool.Decides.{nat_tests}
use Rattle.std.proofs.lemmas.List.{drop_all, map-append, take_all}
use Rattle.std.proofs.lemmas.List.Folds.{list_all-append}
use Rattle.beam_values.specs.Functions.{is_tab}
use Rattle.beam_values.specs.declared.element.Element.{Element}
use Rattle.beam_values.specs.declared.plan.NodeKind.{NodeKind}
use Rattle.beam_values.specs.declared.plan.Plan.{Plan}
use Rattle.beam_model.specs.Chains.{Arrives, Output, chain}
use Rattle.beam_model.specs.Functions.{keyed_text}
use Rattle.beam_model.specs.Texts.{run, words, words_after}
use Rattle.beam_model.specs.Values.{blob, pair}
use Rattle.combine_views.specs.Lines.{AreAtBarrier}
use Rattle.combine_views.specs.Passing.{GoesOn, PutsOut}
use Rattle.combine_views.specs.Words.{AreWordsAtBarrier, IsWord, element_of_word}
use Rattle.combine_views.specs.declared.each_word.EachWord.{EachWord}

-- ---- a word has no TAB

no_tab : (byte : ℕ) → is_ascii_alphanumeric byte ≡ true → is_tab byte ≡ false
no_tab byte is = grind (arith, nat_tests)

first_is : (a b : Bool) → (a && b) ≡ true → (a ≡ true) × (b ≡ true)
first_is true true is = (refl, refl)
first_is true false is = (refl, is)
first_is false b is = absurd (grind arith)

tab_past_word : (text : List ℕ) → IsWord text → position_or_len is_tab text ≡ length text
tab_past_word [] is = refl
tab_past_word (byte ∷ bytes) is =
    let both = first_is (is_ascii_alphanumeric byte) (list_all is_ascii_alphanumeric bytes) is in
    let later = tab_past_word bytes both.1 in
    ap (λ (tab : Bool). cond (not tab) (1 + position_or_len is_tab bytes) 0) (no_tab byte both.0) ∙ omega (arith, later)

-- so KeyField makes it the key of no text
pub keyed_word : (text : List ℕ) → IsWord text → keyed_text text ≡ pair (blob text) (blob [])
keyed_word text is =
    let past = tab_past_word text is in
    ap (λ (n : ℕ). pair (blob (take n text)) (blob (drop (n + 1) text))) past
    ∙ ap (λ (front : List ℕ). pair (blob front) (blob (drop (length text + 1) text))) (take_all (length text) text (omega arith))
    ∙ ap (λ (back : List ℕ). pair (blob text) (blob back)) (drop_all (length text + 1) text (omega arith))

-- ---- and all words are such

abbrev AreWords : List (List ℕ) → Type 0
AreWords [] = Unit {0}
AreWords (word ∷ words) = IsWord word × AreWords words

run_is : (taken : List ℕ) → IsWord taken → AreWords (run taken)
run_is [] is = tt
run_is (byte ∷ bytes) is = (is, tt)

are_append : (xs ys : List (List ℕ)) → AreWords xs → AreWords ys → AreWords (xs ++ ys)
are_append [] ys are others = others
are_append (x ∷ xs) ys are others = (are.0, are_append xs ys are.1 others)

longer_is : (taken : List ℕ) (byte : ℕ) → IsWord taken → is_ascii_alphanumeric byte ≡ true → IsWord (taken ++ byte ∷ [])
longer_is taken byte is one =
    list_all-append is_ascii_alphanumeric taken (byte ∷ [])
    ∙ ap (λ (all : Bool). all && (is_ascii_alphanumeric byte && true)) is ∙ ap (λ (b : Bool). true && (b && true)) one

words_after_are : (text taken : List ℕ) → IsWord taken → AreWords (words_after taken text)
words_after_are [] taken is = run_is taken is
words_after_are (byte ∷ bytes) taken is =
    by_test (is_ascii_alphanumeric byte) (λ one. words_after_are bytes (taken ++ byte ∷ []) (longer_is taken byte is one))
    (are_append (run taken) (words_after [] bytes) (run_is taken is) (words_after_are bytes [] refl))
  where
    by_test : (in_word : Bool) → (in_word ≡ true → AreWords (words_after (taken ++ byte ∷ []) bytes)) → AreWords (run taken ++ words_after [] bytes)
        → AreWords (if in_word then words_after (taken ++ byte ∷ []) bytes else run taken ++ words_after [] bytes)
    by_test true longer ends = longer refl
    by_test false longer ends = ends

-- ---- what becomes of all words, where each arrives

module _ (plan : Plan) (next : ℕ) (each there : EachWord) (come : AreWordsAtBarrier plan next each there) where
  all_come : (texts : List (List ℕ)) → AreWords texts → AreAtBarrier (flat_map (chain plan next) (map (element_of_word each) texts)) (map (element_of_word there) texts)
  all_come [] are = record { arrivals = []; all = refl; are = refl }
  all_come (word ∷ texts) are =
      let first = come word are.0 in
      let more = all_come texts are.1 in
      record {
        arrivals = first.arrivals ++ more.arrivals;
        all = map-append Arrives first.arrivals more.arrivals
            ∙ ap (λ (l : List Output). l ++ map Arrives more.arrivals) first.all
            ∙ ap (λ (l : List Output). chain plan next (element_of_word each word) ++ l) more.all;
        are = map-append (λ arrival. arrival.element) first.arrivals more.arrivals
            ∙ ap (λ (l : List Element). l ++ map (λ arrival. arrival.element) more.arrivals) first.are
            ∙ ap (λ (l : List Element). element_of_word there word ∷ l) more.are;
      }

  pub words_come : (n : ℕ) (kind : NodeKind) → GoesOn plan n next kind → (e : Element) (text : List ℕ) → PutsOut kind e (map (element_of_word each) (words text))
      → AreAtBarrier (chain plan n e) (map (element_of_word there) (words text))
  words_come n kind goes e text puts =
      subst (λ (outputs : List Output). AreAtBarrier outputs (map (element_of_word there) (words text))) (sym (goes.all e ∙ puts next (chain plan next)))
      (all_come (words text) (words_after_are text [] refl))
