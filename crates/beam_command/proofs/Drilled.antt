-- What a drill writes is plain grouping of its made lines, and its text is the summary of that.
use Rattle.std.proofs.Common.{◌≡◌, ℕ, zero, suc, ◌+◌, ◌==◌, Bool, true, false, cond, List, [], ◌∷◌, ◌++◌, length, get_or, map, sum_by, codes, decimal, refl, sym, ap, subst, ◌∙◌, arith}
use Rattle.std.specs.Fmt.{signed_decimal}
use Rattle.std.specs.List.{All, filter, flat_map}
use Rattle.std.proofs.lemmas.Bool.{false≢true}
use Rattle.std.proofs.lemmas.Bool.Decides.{nat_tests}
use Rattle.std.proofs.lemmas.List.{length-map}
use Rattle.std.proofs.lemmas.List.Elements.{All-head, All-tail}
use Rattle.beam_values.specs.Checked.{IsChecked}
use Rattle.beam_values.specs.Nodes.{HasNoStatefulAbove, is_stateful, is_write}
use Rattle.beam_values.specs.declared.arrival.Arrival.{Arrival}
use Rattle.beam_values.specs.declared.file_text.FileText.{FileText}
use Rattle.beam_values.specs.declared.outcome.Outcome.{Outcome}
use Rattle.beam_values.specs.declared.piece.Dead.{Dead}
use Rattle.beam_values.specs.declared.piece.FileLen.{FileLen}
use Rattle.beam_values.specs.declared.plan.Plan.{Plan}
use Rattle.beam_values.specs.declared.value.Value.{Value}
use Rattle.beam_model.specs.Dead.{items_without}
use Rattle.beam_model.specs.Estimators.{AreSoundAbove}
use Rattle.beam_model.specs.Flow.{elements_at, is_at}
use Rattle.beam_model.specs.Functions.{sum_of}
use Rattle.beam_model.specs.Panes.{trigger_of}
use Rattle.beam_model.specs.Plain.{ArePlainlyWritten, ArePlainlyWrittenWhere, IsPlainAt}
use Rattle.beam_model.specs.Plans.{default_trigger}
use Rattle.beam_model.specs.Positions.{SourceItem, item_len, items}
use Rattle.beam_model.specs.Rendering.{all_items_written, items_written, number_or_zero, summary, summary_line}
use Rattle.beam_model.proofs.DeadPositions.{without_none}
use Rattle.beam_command.specs.DrillPlans.{drill_plan}
use Rattle.beam_command.specs.Drilling.{IsDrillText, drill_summary}
use Rattle.beam_command.proofs.DrillLines.{sound_above}

-- ---- the plan of a drill

module _ (count number : ℕ) where
  abbrev plan : Plan
  plan = drill_plan count number

  trigger_is : (node : ℕ) → trigger_of plan node ≡ default_trigger
  trigger_is zero = refl
  trigger_is (suc zero) = refl
  trigger_is (suc (suc zero)) = refl
  trigger_is (suc (suc (suc zero))) = refl
  trigger_is (suc (suc (suc (suc zero)))) = refl
  trigger_is (suc (suc (suc (suc (suc zero))))) = refl
  trigger_is (suc (suc (suc (suc (suc (suc node)))))) = refl

  none_stateful : (node : ℕ) → is_stateful plan node ≡ false
  none_stateful zero = refl
  none_stateful (suc zero) = refl
  none_stateful (suc (suc zero)) = refl
  none_stateful (suc (suc (suc zero))) = refl
  none_stateful (suc (suc (suc (suc zero)))) = refl
  none_stateful (suc (suc (suc (suc (suc zero))))) = refl
  none_stateful (suc (suc (suc (suc (suc (suc node)))))) = refl

  only_write : (node : ℕ) → is_write plan node ≡ true → node ≡ 5
  only_write zero is = absurd (false≢true is)
  only_write (suc zero) is = absurd (false≢true is)
  only_write (suc (suc zero)) is = absurd (false≢true is)
  only_write (suc (suc (suc zero))) is = absurd (false≢true is)
  only_write (suc (suc (suc (suc zero)))) is = absurd (false≢true is)
  only_write (suc (suc (suc (suc (suc zero))))) is = refl
  only_write (suc (suc (suc (suc (suc (suc node)))))) is = absurd (false≢true is)

-- its triggers are the default ones and its estimator is sound: so what is said where that is so is said always
pub drill_plainly : (count number : ℕ) (told : List FileText) (o : Outcome) → IsChecked o.plan → o.plan ≡ drill_plan count number
    → ArePlainlyWrittenWhere (items told o.plan) o → ArePlainlyWritten (items told o.plan) o
drill_plainly count number told o checked is plain = λ node write stateless.
    plain node write stateless (λ group above. ap (λ (p : Plan). trigger_of p group) is ∙ trigger_is count number group)
    (subst (λ (p : Plan). AreSoundAbove p (items told p) node) (sym is) (sound_above count number told node (subst IsChecked is checked)))

-- ---- what arrived at the one Write

all_at : (node : ℕ) (written : List Arrival) → All (λ arrival. arrival.node ≡ node) written → filter (is_at node) written ≡ written
all_at node [] all = refl
all_at node (arrival ∷ later) all =
    let here : (arrival.node == node) ≡ true = let same = All-head (λ (a : Arrival). a.node ≡ node) arrival later all in grind (arith, nat_tests, same) in
    ap (λ (b : Bool). cond b (arrival ∷ filter (is_at node) later) (filter (is_at node) later)) here
    ∙ ap (λ (rest : List Arrival). arrival ∷ rest) (all_at node later (All-tail (λ (a : Arrival). a.node ≡ node) arrival later all))

items_same : (written : List Arrival) → flat_map (λ arrival. items_written arrival.element) written ≡ flat_map items_written (map (λ arrival. arrival.element) written)
items_same [] = refl
items_same (arrival ∷ later) = ap (λ (rest : List Value). items_written arrival.element ++ rest) (items_same later)

-- ---- the text

-- what a summary is of
abbrev summed : ℕ → ℕ → List Value → List ℕ
summed lines panes values =
    summary_line (codes "lines") (decimal lines)
    ++ (summary_line (codes "panes") (decimal panes)
    ++ (summary_line (codes "values") (decimal (length values))
    ++ summary_line (codes "sum") (signed_decimal (sum_of (map number_or_zero values)))))

module _ (count number : ℕ) (o : Outcome) (is : o.plan ≡ drill_plan count number) (written : All (λ arrival. is_write o.plan arrival.node ≡ true) o.written) where
  at_write : All (λ arrival. arrival.node ≡ 5) o.written
  at_write k d within =
      let arrival = get_or o.written k d in
      only_write count number arrival.node (subst (λ (p : Plan). is_write p arrival.node ≡ true) is (written k d within))

  elements_are : elements_at 5 o.written ≡ map (λ arrival. arrival.element) o.written
  elements_are = ap (map (λ (arrival : Arrival). arrival.element)) (all_at 5 o.written at_write)

  summary_is : o.files ≡ map item_len (items [] o.plan) → summary o ≡ drill_summary count (elements_at 5 o.written)
  summary_is lengths =
      let files : o.files ≡ map item_len (items [] (drill_plan count number)) = lengths ∙ ap (λ (p : Plan). map item_len (items [] p)) is in
      let panes : length o.written ≡ length (elements_at 5 o.written) =
      sym (length-map o.written (λ (arrival : Arrival). arrival.element)) ∙ ap length (sym elements_are) in
      let values : all_items_written o ≡ flat_map items_written (elements_at 5 o.written) = items_same o.written ∙ ap (flat_map items_written) (sym elements_are) in
      let all : 0 + count ≡ count = omega arith in
      let lines : sum_by (λ (file : FileLen). file.len) o.files ≡ count = ap (sum_by (λ (file : FileLen). file.len)) files ∙ all in
      λ i. summed (lines i) (panes i) (values i)

pub drill_text : (count number : ℕ) (o : Outcome) → IsChecked o.plan → o.plan ≡ drill_plan count number → o.dead ≡ [] → o.files ≡ map item_len (items [] o.plan)
    → All (λ arrival. is_write o.plan arrival.node ≡ true) o.written → ArePlainlyWrittenWhere (items [] o.plan) o → IsDrillText count number (summary o)
drill_text count number o checked is none lengths written where_sound =
    let stateless : HasNoStatefulAbove o.plan 5 = λ upper above. ap (λ (p : Plan). is_stateful p upper) is ∙ none_stateful count number upper in
    let plain = drill_plainly count number [] o checked is where_sound 5 (ap (λ (p : Plan). is_write p 5) is) stateless in
    let whole : items_without o.dead (items [] o.plan) ≡ items [] (drill_plan count number) =
    ap (λ (d : List Dead). items_without d (items [] o.plan)) none ∙ without_none (items [] o.plan) ∙ ap (items []) is in
    record {
      elements = elements_at 5 o.written;
      plain = subst (λ (l : List SourceItem). IsPlainAt (drill_plan count number) l 5 (elements_at 5 o.written)) whole
          (subst (λ (p : Plan). IsPlainAt p (items_without o.dead (items [] o.plan)) 5 (elements_at 5 o.written)) is plain.plain);
      is = summary_is count number o is written lengths;
    }
