-- A run of which nothing is left is through.
use Rattle.std.proofs.Common.{◌≡◌, ℕ}
use Rattle.std.specs.Prelude.{None, slice_get, Some}
use Rattle.beam_values.specs.Checked.{IsChecked}
use Rattle.beam_values.specs.declared.plan.Node.{Node}
use Rattle.beam_values.specs.declared.plan.Plan.{Plan}
use Rattle.pipeline_graph.specs.Rules.{HasSettings}
use Rattle.book_core.specs.Book.{SeenBook}
use Rattle.book_core.specs.Jobs.{next_job}
use Rattle.book_core.specs.Runs.{IsThrough}
use Rattle.book_core.specs.Sane.{AreKeptWith}
use Rattle.book_core.specs.Steps.{IsIdle}
use Rattle.book_core.proofs.NothingLeft.{all_marks_final, all_through, each_final, none_held, none_pending}
use Rattle.book_core.proofs.Through.{all_shown, late_group}

-- what each node of a checked plan has
abbrev pub SettingsOfPlans : Type 0
SettingsOfPlans = (plan : Plan) (n : ℕ) (node : Node) → IsChecked plan → slice_get plan.nodes n ≡ Some node → HasSettings node.kind

pub kept_through : SettingsOfPlans → (b : SeenBook) → AreKeptWith b → next_job b ≡ None → IsIdle b → IsThrough b
kept_through settings b h none idle =
    let formed = h.sane.formed in
    let once = h.sane.held in
    let groups = h.sane.panes.at_groups in
    let last = h.sane.marks.last in
    record {
      pending = none_pending b formed once groups none idle;
      idle = idle;
      held = none_held b formed once groups none idle;
      keyed = all_through b formed once groups none idle h.sane.turns h.sane.keys last;
      shown = all_shown b h.kept.cells.legal (all_marks_final b formed once groups none idle h.sane.turns h.sane.keys last) h.early.taken
          (late_group b.plan (λ n node at. settings b.plan n node formed.checked at));
      final = each_final b formed once groups none idle h.sane.turns h.sane.keys last;
    }
