-- In the plan of `panes` only positions of the one source item are poison.
use Rattle.std.proofs.Common.{◌≡◌, ℕ, zero, suc, ◌-◌, ◌||◌, ◌+◌, ◌<◌, ◌==◌, ◌&&◌, nat_lt, if◌then◌else◌, cond, ℤ, Bool, true, false, List, [], ◌∷◌, length, Some, None, refl, sym, ap, subst, ◌∙◌, arith}
use Rattle.std.specs.List.{All, flat_map, list_any}
use Rattle.std.proofs.lemmas.Bool.{false≢true}
use Rattle.std.proofs.lemmas.List.Folds.{list_any-append}
use Rattle.std.proofs.lemmas.Bool.Decides.{nat_tests}
use Rattle.std.proofs.lemmas.List.Elements.{All-append, All-head, All-tail, All-nil, All-cons}
use Rattle.beam_values.proofs.Spreads.{spread-single}
use Rattle.beam_values.specs.Functions.{TimedLine, Timed, Declared, timed_line}
use Rattle.beam_values.specs.Functions as lines
use Rattle.beam_values.specs.Lines.{line_at, offsets, spread, starts_line}
use Rattle.beam_values.specs.declared.cell.Pane.{Pane}
use Rattle.beam_values.specs.declared.file_text.FileText.{FileText}
use Rattle.beam_values.specs.declared.plan.Args.TheVariants.{Nothing}
use Rattle.beam_values.specs.declared.plan.Plan.{Plan}
use Rattle.beam_values.specs.declared.plan.SourceKind.TheVariants.{TimedLines}
use Rattle.beam_values.specs.declared.value.Value.{Value}
use Rattle.beam_values.specs.declared.value.Value.TheViews.{out-roll-Value}
use Rattle.beam_model.specs.Chains.{Output, Arrives, PoisonAt, chain}
use Rattle.beam_model.specs.Coverings.{item_at, spread_of}
use Rattle.beam_model.specs.Plans.{panes_plan}
use Rattle.beam_model.specs.Positions.{Emission, Emits, Poison, SourceItem, TimedValue, emission, items, len_of, line_emission, told_bytes}
use Rattle.beam_model.specs.Spread.{is_poison, HasPoison, emission_outputs, from_source, outputs_at, first_poison}
use Rattle.beam_model.specs.Values.{blob}
use Rattle.beam_model.specs.Flow.{batch_outputs}
use Rattle.ended_runs.proofs.Poisons.{any_at, any_left, first_holds, first_is_poison}

each_of : {X Y : Type 0} (P : Y → Type 0) (f : X → List Y) (xs : List X) → ((x : X) → All P (f x)) → All P (flat_map f xs)
each_of P f [] holds = All-nil P
each_of P f (x ∷ xs) holds = All-append P (f x) (flat_map f xs) (holds x) (each_of P f xs holds)

pub poison_is_first : (outputs : List Output) → list_any is_poison outputs ≡ true → (at : ℕ) × (first_poison outputs ≡ Some at)
poison_is_first [] any = absurd (false≢true any)
poison_is_first (Arrives arrival ∷ later) any = poison_is_first later any
poison_is_first (PoisonAt node ∷ later) any = (node, refl)

offsets-zero : (from : ℕ) → offsets from 0 ≡ []
unfolding offsets
offsets-zero from = refl

offsets-suc : (from n : ℕ) → offsets from (suc n) ≡ from ∷ offsets (suc from) n
unfolding offsets
offsets-suc from n = refl

-- what a range spreads is poison at some position
any_of_spread : (brings : ℕ → List Output) (from n : ℕ) → list_any is_poison (flat_map brings (offsets from n)) ≡ true → (p : ℕ) × (list_any is_poison (brings p) ≡ true)
any_of_spread brings from zero any = absurd (false≢true (sym (ap (λ (ps : List ℕ). list_any is_poison (flat_map brings ps)) (offsets-zero from)) ∙ any))
any_of_spread brings from (suc n) any =
    let split : (list_any is_poison (brings from) || list_any is_poison (flat_map brings (offsets (suc from) n))) ≡ true =
    sym (ap (λ (ps : List ℕ). list_any is_poison (flat_map brings ps)) (offsets-suc from n) ∙ list_any-append is_poison (brings from) (flat_map brings (offsets (suc from) n))) ∙ any in
    by (list_any is_poison (brings from)) refl split (any_of_spread brings (suc from) n)
  where
    by : (b : Bool) → list_any is_poison (brings from) ≡ b → (b || list_any is_poison (flat_map brings (offsets (suc from) n))) ≡ true
        → (list_any is_poison (flat_map brings (offsets (suc from) n)) ≡ true → (p : ℕ) × (list_any is_poison (brings p) ≡ true)) → (p : ℕ) × (list_any is_poison (brings p) ≡ true)
    by true is some later = (from, is)
    by false is some later = later some

-- ---- what comes of the Group and of the source

-- an output that is no poison
abbrev pub Comes : Output → Type 0
Comes (Arrives arrival) = Unit {0}
Comes (PoisonAt node) = ⊥

-- no poison but at node 0
abbrev IsOfSource : Output → Type 0
IsOfSource (Arrives arrival) = Unit {0}
IsOfSource (PoisonAt node) = node ≡ 0

abbrev IsText : TimedValue → Type 0
IsText v = (text : List ℕ) × (v.value ≡ blob text)

abbrev AreTexts : Emission → Type 0
AreTexts (Emits values declared) = All IsText values
AreTexts Poison = Unit {0}

module _ (file : List ℕ) (size : ℤ) where
  abbrev plan : Plan
  plan = panes_plan file size

  -- panes of the Group come to the Write
  pub panes_come : (panes : List Pane) → All Comes (batch_outputs plan 3 panes)
  panes_come panes = each_of Comes (λ (pane : Pane). chain plan 3 pane.element) panes (λ pane. All-cons Comes _ [] tt (All-nil Comes))

  -- what the source emits comes to the Group
  text_comes : (v : TimedValue) → IsText v → All IsOfSource (chain plan 0 (from_source v))
  text_comes v is =
      subst (λ (x : Value). All IsOfSource (chain plan 0 (from_source (record { value = x; time = v.time })))) (sym is.1)
      (simp out-roll-Value (All-cons IsOfSource _ [] tt (All-nil IsOfSource)))

  texts_come : (values : List TimedValue) → All IsText values → All IsOfSource (flat_map (λ v. chain plan 0 (from_source v)) values)
  texts_come [] texts = All-nil IsOfSource
  texts_come (v ∷ values) texts =
      All-append IsOfSource (chain plan 0 (from_source v)) (flat_map (λ (w : TimedValue). chain plan 0 (from_source w)) values) (text_comes v (All-head IsText v values texts))
      (texts_come values (All-tail IsText v values texts))

  emission_comes : (e : Emission) → AreTexts e → All IsOfSource (emission_outputs plan 0 e)
  emission_comes (Emits values declared) texts = texts_come values texts
  emission_comes Poison texts = All-cons IsOfSource (PoisonAt 0) [] refl (All-nil IsOfSource)

  line_texts : (line : TimedLine) → AreTexts (line_emission line)
  line_texts (Timed time text) = All-cons IsText _ [] (text, refl) (All-nil IsText)
  line_texts (Declared mark) = All-nil IsText
  line_texts lines.Poison = tt

  texts_if : (b : Bool) (e : Emission) → AreTexts e → AreTexts (if b then e else Emits [] None)
  texts_if true e texts = texts
  texts_if false e texts = All-nil IsText

  -- the one item
  abbrev source_of : List FileText → SourceItem
  source_of told = record { node = 0; item = 0; work = TimedLines; args = Nothing; file = told_bytes told file; left_out = [] }

  module _ (told : List FileText) where
    abbrev brings : ℕ → List Output
    brings = outputs_at plan (source_of told)

    abbrev line : ℕ → Emission
    line p = if starts_line (told_bytes told file) p then line_emission (timed_line (line_at (told_bytes told file) p)) else Emits [] None

    source_texts : (p : ℕ) → AreTexts (emission TimedLines Nothing (told_bytes told file) p)
    source_texts p =
        texts_if (nat_lt p (length (told_bytes told file))) (line p)
        (texts_if (starts_line (told_bytes told file) p) (line_emission (timed_line (line_at (told_bytes told file) p))) (line_texts (timed_line (line_at (told_bytes told file) p))))

    all_of_source : (p : ℕ) → All IsOfSource (brings p)
    all_of_source p = emission_comes (emission TimedLines Nothing (told_bytes told file) p) (source_texts p)

    module _ (p at : ℕ) (first : first_poison (brings p) ≡ Some at) where
      inside : p < len_of (source_of told)
      inside = by (nat_lt p (len_of (source_of told))) refl
        where
          by : (b : Bool) → nat_lt p (len_of (source_of told)) ≡ b → p < len_of (source_of told)
          by true is = grind (arith, nat_tests, is)
          by false is =
              let none : None ≡ Some at = subst (λ (b : Bool). first_poison (emission_outputs plan 0 (if b then line p else Emits [] None)) ≡ Some at) is first in
              absurd cc

      poison_found : HasPoison plan (items told plan)
      poison_found =
          any_left (spread brings 0 (len_of (source_of told))) []
          (any_at brings 0 p (len_of (source_of told)) (omega arith) inside (first_is_poison (brings p) at first))

    -- a position that is poison is of the one item, and the source's function fails on it
    pub attempt_is_poison : (node item p at : ℕ)
        → first_poison (spread_of plan (record { from = p; to = p + 1 }) (item_at (items told plan) node item)) ≡ Some at
        → (node ≡ 0) × (item ≡ 0) × (at ≡ 0) × HasPoison plan (items told plan)
    attempt_is_poison node item p at first = by (0 == node && 0 == item) refl first
      where
        by : (b : Bool) → (0 == node && 0 == item) ≡ b
            → first_poison (spread_of plan (record { from = p; to = p + 1 }) (cond b (Some (source_of told)) None)) ≡ Some at
            → (node ≡ 0) × (item ≡ 0) × (at ≡ 0) × HasPoison plan (items told plan)
        by true is of =
            let own : first_poison (brings p) ≡ Some at = ap first_poison (sym (spread-single brings p)) ∙ of in
            (grind (arith, nat_tests, is), grind (arith, nat_tests, is), first_holds IsOfSource (brings p) at (all_of_source p) own, poison_found p at own)
        by false is of = absurd cc

    -- a range that brings poison is of the one item too
    pub range_is_poison : (node item from to : ℕ) → list_any is_poison (spread_of plan (record { from = from; to = to }) (item_at (items told plan) node item)) ≡ true
        → HasPoison plan (items told plan)
    range_is_poison node item from to any = by (0 == node && 0 == item) refl any
      where
        by : (b : Bool) → (0 == node && 0 == item) ≡ b → list_any is_poison (spread_of plan (record { from = from; to = to }) (cond b (Some (source_of told)) None)) ≡ true
            → HasPoison plan (items told plan)
        by true is of =
            let found = any_of_spread brings from (to - from) of in
            let first = poison_is_first (brings found.0) found.1 in
            poison_found found.0 first.0 first.1
        by false is of = absurd (false≢true of)
