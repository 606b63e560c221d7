-- What `panes` and `drill` write is plain grouping.
use Rattle.std.proofs.Common.{◌≡◌, ℕ, zero, suc, ℤ, true, List, [], Option, Some, None, refl, sym, ap, subst, ◌∙◌}
use Rattle.std.proofs.lemmas.List.Elements.{All-nil, All-cons}
use Rattle.beam_values.specs.Checked.{IsChecked}
use Rattle.beam_values.specs.Nodes.{is_above}
use Rattle.beam_values.specs.declared.file_text.FileText.{FileText}
use Rattle.beam_values.specs.declared.outcome.Outcome.{Outcome}
use Rattle.beam_values.specs.declared.plan.Plan.{Plan}
use Rattle.beam_model.specs.Estimators.{AreSoundAbove, IsSoundItem}
use Rattle.beam_model.specs.Holds.{estimator_of}
use Rattle.beam_model.specs.Panes.{trigger_of}
use Rattle.beam_model.specs.Plain.{ArePlainlyWritten, ArePlainlyWrittenWhere}
use Rattle.beam_model.specs.Plans.{default_trigger, panes_plan}
use Rattle.beam_model.specs.Positions.{SourceItem, items}
use Rattle.beam_ports.specs.Observed.{WhereTold}
use Rattle.command_words.specs.Commands.{Asked, Help, Panes, Run, Replay, Make, Drill, Combine}
use Rattle.beam_command.specs.Promises.{AsksPlainPlan, IsPlanAsked}
use Rattle.beam_command.proofs.DrillPrints.{drill_always}

-- ---- the plan of `panes` has the default trigger and no estimator

trigger_is : (file : List ℕ) (size : ℤ) (node : ℕ) → trigger_of (panes_plan file size) node ≡ default_trigger
trigger_is file size zero = refl
trigger_is file size (suc zero) = refl
trigger_is file size (suc (suc zero)) = refl
trigger_is file size (suc (suc (suc zero))) = refl
trigger_is file size (suc (suc (suc (suc zero)))) = refl
trigger_is file size (suc (suc (suc (suc (suc node))))) = refl

sound_above : (told : List FileText) (file : List ℕ) (size : ℤ) (node : ℕ) → AreSoundAbove (panes_plan file size) (items told (panes_plan file size)) node
sound_above told file size node =
    All-cons (λ (item : SourceItem). is_above (panes_plan file size) item.node node ≡ true → IsSoundItem (estimator_of (panes_plan file size) item.node) item) _ []
    (λ above p q before inside. All-nil _) (All-nil _)

plain_at : (told : List FileText) (file : List ℕ) (size : ℤ) (o : Outcome) → o.plan ≡ panes_plan file size → ArePlainlyWrittenWhere (items told o.plan) o
    → ArePlainlyWritten (items told o.plan) o
plain_at told file size o is plain = λ node write stateless.
    plain node write stateless (λ group above. ap (λ (p : Plan). trigger_of p group) is ∙ trigger_is file size group)
    (subst (λ (p : Plan). AreSoundAbove p (items told p) node) (sym is) (sound_above told file size node))

-- so it is always for the plans of these two commands
pub always_plainly : (asked : Option Asked) (files : Option (List FileText)) (o : Outcome) → IsChecked o.plan → AsksPlainPlan asked → IsPlanAsked files asked o.plan
    → WhereTold files (λ told. ArePlainlyWrittenWhere (items told o.plan) o) → WhereTold files (λ told. ArePlainlyWritten (items told o.plan) o)
always_plainly None files o checked asks plan plain = absurd asks
always_plainly (Some Help) files o checked asks plan plain = absurd asks
always_plainly (Some (Run name options)) files o checked asks plan plain = absurd asks
always_plainly (Some (Replay name schedule options)) files o checked asks plan plain = absurd asks
always_plainly (Some (Combine name options)) files o checked asks plan plain = absurd asks
always_plainly (Some (Make count number)) files o checked asks plan plain = absurd asks
always_plainly (Some (Panes file size options)) files o checked asks plan plain = λ told tells. plain_at told file size o plan (plain told tells)
always_plainly (Some (Drill count number options)) files o checked asks plan plain = drill_always count number files o checked plan plain
