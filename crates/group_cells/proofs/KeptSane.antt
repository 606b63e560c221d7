-- Rounds keep what holds of the cells of all Groups between commits.
use Rattle.std.proofs.Common.{◌≡◌, ℕ, ℤ, true, List, [], ap, sym, subst, ◌∙◌, arith}
use Rattle.std.specs.Prelude.{None}
use Rattle.std.specs.List.{All}
use Rattle.std.proofs.lemmas.List.Elements.{All-nil, All-weaker}
use Rattle.beam_values.specs.Checked.{IsChecked}
use Rattle.beam_values.specs.Marks.{marks_at}
use Rattle.beam_values.specs.Nodes.{is_group}
use Rattle.beam_values.specs.Sessions.{IsNonEmpty}
use Rattle.beam_values.specs.declared.arrival.Arrival.{Arrival}
use Rattle.beam_values.specs.declared.cell.Cell.{Cell}
use Rattle.beam_values.specs.declared.cell.Pane.{Pane}
use Rattle.beam_values.specs.declared.marks.StageMarks.{StageMarks}
use Rattle.beam_values.specs.declared.plan.Plan.{Plan}
use Rattle.beam_values.specs.declared.value.Value.{Value}
use Rattle.beam_model.specs.Panes.{panes_at, rules_of}
use Rattle.group_cells.specs.Cells.{firing_of}
use Rattle.group_cells.specs.Commits.{AreRounds, IsAtGroup, NoneFalls, cells_keyed, elements_keyed}
use Rattle.group_cells.specs.Sane.{AreOpenApart, AreSaneCells, FiresNoMore, HasTaker, HaveOneCell, HaveTakers}
use Rattle.group_cells.proofs.KeptApart.{round_apart, round_once}
use Rattle.group_cells.proofs.KeptTakers.{round_takers}
use Rattle.group_cells.proofs.QuietRounds.{cells_stay, none_fires}
use Rattle.group_cells.proofs.Settling.{settled_after}
use Rattle.group_cells.proofs.StillOpen.{none_contained}

module _ (plan : Plan) (c : ℕ) (before after : List StageMarks) (arrivals : List Arrival) (cells new : List Cell) (fired : List Pane) where
  pub takers_kept : HaveTakers plan cells → AreRounds plan c before after arrivals cells new fired → HaveTakers plan new
  takers_kept takers rounds = record {
    each = λ node key group.
        round_takers (rules_of plan node) node key c (marks_at before node).mark_in (marks_at after node).mark_in (elements_keyed node key arrivals) (cells_keyed node key cells) (cells_keyed node key new)
        (panes_at node key fired) (rounds.each node key group) (takers.each node key group);
  }

  pub once_kept : HaveOneCell plan cells → HaveTakers plan cells → AreRounds plan c before after arrivals cells new fired → HaveOneCell plan new
  once_kept once takers rounds = record {
    each = λ node key group.
        round_once (rules_of plan node) node key c (marks_at before node).mark_in (marks_at after node).mark_in (elements_keyed node key arrivals) (cells_keyed node key cells) (cells_keyed node key new)
        (panes_at node key fired) (rounds.each node key group) (takers.each node key group) (once.each node key group);
  }

  pub apart_kept : AreOpenApart plan before cells → NoneFalls before after → AreRounds plan c before after arrivals cells new fired → AreOpenApart plan after new
  apart_kept apart rise rounds = record {
    each = λ node key group merges.
        round_apart (rules_of plan node) node key c (marks_at before node).mark_in (marks_at after node).mark_in (elements_keyed node key arrivals) (cells_keyed node key cells) (cells_keyed node key new)
        (panes_at node key fired) (rounds.each node key group) (rise node).0 merges (apart.each node key group merges);
  }

  pub sane_kept : IsChecked plan → NoneFalls before after → AreSaneCells plan before cells → AreRounds plan c before after arrivals cells new fired → AreSaneCells plan after new
  sane_kept checked rise sane rounds = record {
    at_groups = rounds.cells_at;
    once = once_kept sane.once sane.merged rounds;
    merged = takers_kept sane.merged rounds;
    settled = settled_after plan c before after arrivals cells new fired checked rounds;
    apart = apart_kept sane.apart rise rounds;
  }

  pub quiet_kept : (node : ℕ) → is_group plan node ≡ true → AreSaneCells plan before cells → All (λ arrival. arrival.node ≡ node → ⊥) arrivals
      → (marks_at before node).mark_in ≡ (marks_at after node).mark_in → AreRounds plan c before after arrivals cells new fired
      → All (λ pane. pane.node ≡ node → ⊥) fired × ((key : Value) → cells_keyed node key new ≡ cells_keyed node key cells)
  quiet_kept node group sane elsewhere still rounds = (
    none_fires plan c before after arrivals cells new fired node group sane.apart none_due elsewhere rounds,
    cells_stay plan c before after arrivals cells new fired node group sane.apart none_due elsewhere rounds,
  )
    where
      none_due : All (λ cell. cell.node ≡ node → FiresNoMore plan after cell) cells
      none_due =
          All-weaker (FiresNoMore plan before) (λ (cell : Cell). cell.node ≡ node → FiresNoMore plan after cell)
          (λ cell none here. subst (λ (m : ℤ). firing_of (rules_of plan cell.node) m cell ≡ None)
          (ap (λ n. (marks_at before n).mark_in) here ∙ still ∙ sym (ap (λ n. (marks_at after n).mark_in) here)) none) cells sane.settled

-- no cells at all
pub none_sane : (plan : Plan) (marks : List StageMarks) → AreSaneCells plan marks []
none_sane plan marks = record {
  at_groups = All-nil (IsAtGroup plan);
  once = record { each = λ node key group w. omega arith };
  merged = record { each = λ node key group. All-nil (HasTaker (rules_of plan node) []) };
  settled = All-nil (FiresNoMore plan marks);
  apart = record {
    each = λ node key group merges. record { some = All-nil IsNonEmpty; each = λ a b p q. absurd (none_contained a p) };
  };
}
