-- The times of made lines rise, so the monotonic estimator of a drill is sound.
use Rattle.std.proofs.Common.{◌≡◌, ℕ, ◌+◌, ◌*◌, ◌%◌, ◌<◌, ◌≤◌, pos, ◌≤ℤ◌, Bool, true, false, ◌&&◌, not, nat_le, nat_lt, if◌then◌else◌, List, [], ◌∷◌, ◌++◌, codes, decimal, Some, None, refl, sym, ap, subst, ◌∙◌, arith}
use Rattle.std.specs.Prelude.{Option}
use Rattle.std.specs.Option.{option_or}
use Rattle.std.specs.List.{All}
use Rattle.std.proofs.lemmas.Bool.Decides.{nat_tests}
use Rattle.std.proofs.lemmas.Int.{ints}
use Rattle.std.proofs.lemmas.List.Elements.{All-nil, All-cons}
use Rattle.beam_values.specs.Checked.{IsChecked, nodes_refusal, write_refusal}
use Rattle.beam_values.specs.Functions.{timed_line}
use Rattle.beam_values.specs.Nodes.{is_above}
use Rattle.beam_values.specs.declared.file_text.FileText.{FileText}
use Rattle.beam_values.specs.declared.graph_refusal.GraphRefusal.{GraphRefusal}
use Rattle.beam_values.specs.declared.graph_refusal.GraphRefusal.TheVariants as refusal
use Rattle.beam_values.specs.declared.plan.Args.TheVariants.{Nothing, Two}
use Rattle.beam_values.specs.declared.plan.Estimator.TheVariants.{Monotonic}
use Rattle.beam_values.specs.declared.plan.FnKind.TheVariants.{FieldInt, KeyField}
use Rattle.beam_values.specs.declared.plan.Node.{Node}
use Rattle.beam_values.specs.declared.plan.NodeKind.TheVariants.{Group, ParDo, Source, WindowInto, Write}
use Rattle.beam_values.specs.declared.plan.SourceKind.TheVariants.{Made}
use Rattle.beam_values.specs.declared.plan.Strategy.TheVariants.{Fixed}
use Rattle.beam_values.specs.declared.value.Value.TheVariants.{Blob}
use Rattle.beam_model.specs.Estimators.{AreSoundAbove, IsSoundItem, emission_at, output_times}
use Rattle.beam_model.specs.Holds.{estimator_of}
use Rattle.beam_model.specs.Plans.{default_trigger, node}
use Rattle.beam_model.specs.Positions.{Emission, SourceItem, emits_one, items, line_emission, made_item, made_line, nothing}
use Rattle.beam_model.proofs.MadeLines.{made_emits}
use Rattle.beam_command.specs.DrillPlans.{drill_plan}

-- ---- a checked drill has few lines, and they are made after a small number

abbrev first_node : ℕ → ℕ → Node
first_node count number = node (Source Made (Two count number) [] Monotonic) []

abbrev later_nodes : List Node
later_nodes =
    node (ParDo KeyField Nothing) (0 ∷ [])
    ∷ node (ParDo FieldInt Nothing) (1 ∷ [])
    ∷ node (WindowInto (Fixed (pos 60000))) (2 ∷ [])
    ∷ node (Group default_trigger) (3 ∷ [])
    ∷ node (Write (codes "out")) (4 ∷ [])
    ∷ []

-- why a drill is refused, where its numbers pass these tests
abbrev refused_where : ℕ → ℕ → Bool → Bool → Option GraphRefusal
refused_where count number few small =
    option_or
    (option_or (if not (((few && small) && true) && true) then Some (refusal.Setting 0) else None) (nodes_refusal (first_node count number ∷ []) later_nodes))
    (write_refusal (first_node count number ∷ later_nodes))

-- both tests hold
both_pass : (count number : ℕ) (few small : Bool) → refused_where count number few small ≡ None → (few ≡ true) × (small ≡ true)
both_pass count number true true none = (refl, refl)
both_pass count number true false none = absurd (cc)
both_pass count number false small none = absurd (cc)

pub drill_bounds : (count number : ℕ) → IsChecked (drill_plan count number) → (count ≤ 1000000) × (number ≤ 1000000)
drill_bounds count number checked =
    let both = both_pass count number (nat_le count 1000000) (nat_le number 1000000) checked.unrefused in
    (grind (arith, nat_tests, both.0), grind (arith, nat_tests, both.1))

-- ---- the times of its lines

abbrev line_time : ℕ → ℕ → ℕ
line_time number p = 100 * p + (37 * (p + number)) % 100

abbrev line_text : ℕ → ℕ → List ℕ
line_text number p = codes "k" ++ (decimal ((7 * p + number) % 16) ++ 9 ∷ decimal ((p + number) % 1000))

module _ (count number : ℕ) where
  -- the one item
  abbrev made : SourceItem
  made = made_item 0 Made (Two count number)

  abbrev AreRising : Emission → Emission → Type 0
  AreRising before after = All (λ seen. All (λ time. seen ≤ℤ time) (output_times after)) (output_times before)

  is_inside : (p : ℕ) → p < count → nat_lt p count ≡ true
  is_inside p inside = grind (arith, nat_tests)

  module _ (few : count ≤ 1000000) (small : number ≤ 1000000) where
    emits_time : (p : ℕ) → p < count → emission_at made p ≡ emits_one (Blob (line_text number p)) (pos (line_time number p))
    emits_time p inside =
        ap (λ (b : Bool). if b then line_emission (timed_line (made_line number p)) else nothing) (is_inside p inside)
        ∙ sym (made_emits number p (line_text number p) (pos (line_time number p)) small (omega arith) refl refl)

    later : (p q : ℕ) → p < q → pos (line_time number p) ≤ℤ pos (line_time number q)
    later p q before = omega (arith, ints)

    rising : (p q : ℕ) → p < q → q < count → AreRising (emission_at made p) (emission_at made q)
    rising p q before inside =
        let one = All-cons (λ time. pos (line_time number p) ≤ℤ time) (pos (line_time number q)) [] (later p q before) (All-nil _) in
        let both = All-cons (λ seen. All (λ time. seen ≤ℤ time) (pos (line_time number q) ∷ [])) (pos (line_time number p)) [] one (All-nil _) in
        subst (λ (e : Emission). AreRising e (emission_at made q)) (sym (emits_time p (omega (arith, before, inside))))
        (subst (λ (e : Emission). AreRising (emits_one (Blob (line_text number p)) (pos (line_time number p))) e) (sym (emits_time q inside)) both)

  pub sound_above : (told : List FileText) (node : ℕ) → IsChecked (drill_plan count number) → AreSoundAbove (drill_plan count number) (items told (drill_plan count number)) node
  sound_above told node checked =
      let bounds = drill_bounds count number checked in
      All-cons (λ (item : SourceItem). is_above (drill_plan count number) item.node node ≡ true → IsSoundItem (estimator_of (drill_plan count number) item.node) item) made []
      (λ above p q before inside. rising bounds.0 bounds.1 p q before inside)
      (All-nil (λ (item : SourceItem). is_above (drill_plan count number) item.node node ≡ true → IsSoundItem (estimator_of (drill_plan count number) item.node) item))
