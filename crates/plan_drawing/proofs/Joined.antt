-- The text of lines, each after a line break, and lines that were added one after another.
use Rattle.std.proofs.Common.{◌≡◌, ℕ, List, [], ◌∷◌, ◌++◌, sym, ap, ◌∙◌, append_assoc}
use Rattle.std.proofs.lemmas.Grind.{flat_map-append}
use Rattle.std.proofs.lemmas.List.{append-nil}
use Rattle.std.specs.List.{flat_map}
use Rattle.plan_drawing.specs.Labels.{line_break}

abbrev next : List ℕ → List ℕ
next line = line_break ++ line

pub lines_append : (xs ys : List (List ℕ)) → flat_map (λ line. line_break ++ line) (xs ++ ys)
    ≡ flat_map (λ line. line_break ++ line) xs ++ flat_map (λ line. line_break ++ line) ys
lines_append xs ys = flat_map-append next xs ys

-- a text, and another one
pub then_text : (old mid new first second : List ℕ) → mid ≡ old ++ first → new ≡ mid ++ second → new ≡ old ++ (first ++ second)
then_text old mid new first second p q = q ∙ ap (λ (l : List ℕ). l ++ second) p ∙ append_assoc old first second

-- lines, and others
then_lines : (old mid new : List ℕ) (xs ys : List (List ℕ)) → mid ≡ old ++ flat_map next xs → new ≡ mid ++ flat_map next ys
    → new ≡ old ++ flat_map next (xs ++ ys)
then_lines old mid new xs ys p q =
    then_text old mid new (flat_map next xs) (flat_map next ys) p q ∙ ap (λ (l : List ℕ). old ++ l) (sym (lines_append xs ys))

-- lines, and one more
then_line : (old mid new line : List ℕ) (xs : List (List ℕ)) → mid ≡ old ++ flat_map next xs → new ≡ mid ++ next line
    → new ≡ old ++ flat_map next (xs ++ line ∷ [])
then_line old mid new line xs p q = then_lines old mid new xs (line ∷ []) p (q ∙ ap (λ (l : List ℕ). mid ++ l) (sym (append-nil (next line))))

-- lines, others, and others again, and two more
pub three_then_two : (old a b d e new first second : List ℕ) (xs ys zs : List (List ℕ)) → a ≡ old ++ flat_map (λ line. line_break ++ line) xs
    → b ≡ a ++ flat_map (λ line. line_break ++ line) ys → d ≡ b ++ flat_map (λ line. line_break ++ line) zs
    → e ≡ d ++ (line_break ++ first) → new ≡ e ++ (line_break ++ second)
    → new ≡ old ++ flat_map (λ line. line_break ++ line) (xs ++ ys ++ zs ++ first ∷ second ∷ [])
three_then_two old a b d e new first second xs ys zs p q r s t =
    let lines = then_lines old b d (xs ++ ys) zs (then_lines old a b xs ys p q) r in
    then_line old e new second _ (then_line old d e first _ lines s) t
    ∙ ap (λ (ls : List (List ℕ)). old ++ flat_map next ls) (append_assoc (xs ++ ys ++ zs) (first ∷ []) (second ∷ []))

-- a line, then lines, and others
pub first_then_both : (old a b new first : List ℕ) (xs ys : List (List ℕ)) → a ≡ old ++ (line_break ++ first)
    → b ≡ a ++ flat_map (λ line. line_break ++ line) xs → new ≡ b ++ flat_map (λ line. line_break ++ line) ys
    → new ≡ old ++ flat_map (λ line. line_break ++ line) (first ∷ (xs ++ ys))
first_then_both old a b new first xs ys p q r =
    then_lines old b new (first ∷ xs) ys (then_text old a b (next first) (flat_map next xs) p q) r
