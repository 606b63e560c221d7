-- Keys and windows that are alike.
use Rattle.std.proofs.Common.{◌≡◌, ℕ, ◌==◌, ◌&&◌, ℤ, Bool, true, false, refl, sym, ap, ◌∙◌}
use Rattle.std.specs.Ordering.{int_eq}
use Rattle.std.specs.Str.{bytes_eq}
use Rattle.std.proofs.lemmas.Bool.{false≢true}
use Rattle.std.proofs.lemmas.Bool.Decides.{Decides-int_eq, Decides-eqb}
use Rattle.std.proofs.lemmas.Slice.Eq.{bytes_eq-Decides}
use Rattle.beam_values.specs.Intervals.{Interval}
use Rattle.beam_values.specs.Spans.{same_span}
use Rattle.beam_values.specs.Spelling.{spelling}
use Rattle.beam_values.specs.declared.value.Value.{Value}

pub and_parts : (a b : Bool) → (a && b) ≡ true → (a ≡ true) × (b ≡ true)
and_parts true b e = (refl, e)
and_parts false b e = absurd (false≢true e)

pub both_true : (a b : Bool) → a ≡ true → b ≡ true → (a && b) ≡ true
both_true a b p q = ap (λ x. x && b) p ∙ q

pub same_truth : (a b : Bool) → (a ≡ true → b ≡ true) → (b ≡ true → a ≡ true) → a ≡ b
same_truth true b f g = sym (f refl)
same_truth false true f g = g refl
same_truth false false f g = refl

pub span_itself : (w : Interval) → same_span w w ≡ true
span_itself w = both_true _ _ ((Decides-int_eq w.start w.start).1 refl) ((Decides-int_eq w.end w.end).1 refl)

pub span_is : (v w : Interval) → same_span v w ≡ true → v ≡ w
span_is v w e =
    let ends = and_parts (int_eq v.start w.start) (int_eq v.end w.end) e in
    ap (λ (s : ℤ). let i : Interval = record { start = s; end = v.end } in i) ((Decides-int_eq v.start w.start).0 ends.0)
    ∙ ap (λ (s : ℤ). let i : Interval = record { start = w.start; end = s } in i) ((Decides-int_eq v.end w.end).0 ends.1)

pub span_back : (v w : Interval) → same_span v w ≡ same_span w v
span_back v w = same_truth _ _
    (λ e. ap (λ x. same_span x v) (sym (span_is v w e)) ∙ span_itself v)
    (λ e. ap (λ x. same_span x w) (sym (span_is w v e)) ∙ span_itself w)

pub key_itself : (k : Value) → bytes_eq (spelling k) (spelling k) ≡ true
key_itself k = (bytes_eq-Decides (spelling k) (spelling k)).1 refl

-- one node and key
abbrev pub same_group : ℕ → Value → ℕ → Value → Bool
same_group n k node key = node == n && bytes_eq (spelling key) (spelling k)

pub group_itself : (n : ℕ) (k : Value) → same_group n k n k ≡ true
group_itself n k = both_true _ _ ((Decides-eqb n n).1 refl) (key_itself k)

-- where m, l and `node`, `key` are one node and key, both compare alike with n, k
pub group_through : (n : ℕ) (k : Value) (node : ℕ) (key : Value) (m : ℕ) (l : Value) → same_group node key m l ≡ true → same_group n k m l ≡ same_group n k node key
group_through n k node key m l e =
    let both = and_parts (m == node) (bytes_eq (spelling l) (spelling key)) e in
    ap (λ x. x == n && bytes_eq (spelling l) (spelling k)) ((Decides-eqb m node).0 both.0)
    ∙ ap (λ x. node == n && bytes_eq x (spelling k)) ((bytes_eq-Decides (spelling l) (spelling key)).0 both.1)

-- where n, k and `node`, `key` are one node and key, m, l compares alike with both
pub group_asked : (n : ℕ) (k : Value) (node : ℕ) (key : Value) (m : ℕ) (l : Value) → same_group n k node key ≡ true → same_group node key m l ≡ same_group n k m l
group_asked n k node key m l e =
    let both = and_parts (node == n) (bytes_eq (spelling key) (spelling k)) e in
    ap (λ x. m == x && bytes_eq (spelling l) (spelling key)) ((Decides-eqb node n).0 both.0)
    ∙ ap (λ x. m == n && bytes_eq (spelling l) x) ((bytes_eq-Decides (spelling key) (spelling k)).0 both.1)
