use Rattle.std.proofs.Common.{◌≡◌, ◌+◌, ◌<◌, ◌^◌, ◌++◌, List, ap, arith, length, map, refl, subst, sym, ◌∙◌}
use Rattle.std.specs.Prelude.{IfSome, Option}
use Rattle.std.specs.BTreeMap.{BTreeMap}
use Rattle.std.specs.List.{filter}
use Rattle.beam_values.specs.Checked.{IsChecked}
use Rattle.beam_values.specs.Marks.{AreMarks}
use Rattle.beam_values.specs.declared.arrival.Arrival.{Arrival}
use Rattle.beam_values.specs.declared.cell.Cell.{Cell}
use Rattle.beam_values.specs.declared.marks.StageMarks.{StageMarks}
use Rattle.beam_values.specs.declared.plan.Plan.{Plan}
use Rattle.watermarks.specs.Holds.{hold_at}
use Rattle.group_cells.specs.Arrivals.{UnmergedStand}
use Rattle.group_cells.specs.Commits.{IsCommitted, KeepsLegal, NoneFalls, SeenGroups, dropped_arrival, hold_with, is_dropped}
use Rattle.group_cells.specs.KnownWindows.{AreStanding}
use Rattle.group_cells.specs.Plain.{AreCells, AreCellsNext}
use Rattle.group_cells.specs.declared.groups.keyed.GroupKey.{GroupKey}
use Rattle.group_cells.specs.declared.groups.standing.Known.{Known}
use Rattle.group_cells.proofs.AllKeys.{keep_legal}
use Rattle.group_cells.proofs.FiredFew.{commit_few}
use Rattle.group_cells.proofs.PlainRounds.{cells_kept, committed, rounds, rounds_seen}
use Rattle.group_cells.proofs.RisenMarks.{none_falls}
use Rattle.group_cells.proofs.groups.Groups.commit.Goals as goal

pub commit-requires-clause-checked : goal.commit-requires-clause-checked
commit-requires-clause-checked c = subst IsChecked (sym (ap (λ (g : SeenGroups). g.plan) c.self.view_is ∙ c.requires.plan)) c.requires.checked

pub invariant_of-self : goal.invariant_of-self
invariant_of-self c =
    let plan = c.self.inside.plan in
    let same = sym c.in_err-next.ensures.err.0 in
    record {
      cells = subst (λ (l : List Cell). AreCells plan l) same c.self.invariant.cells;
      stand = subst (λ (l : List Cell). UnmergedStand plan l) same c.self.invariant.stand;
      rest = c.commit.ensures.rest;
      standing_are = subst (λ (o : Option (BTreeMap GroupKey Known)). IfSome o (λ known. AreStanding plan known c.commit.new.self.cells.items)) (sym c.take-standing.ensures.after) tt;
      small = subst (λ (l : List Cell). length l < 2 ^ 32) same c.self.invariant.small;
    }

pub invariant_of-self-2 : goal.invariant_of-self-2
invariant_of-self-2 c =
    let next = c.in_ok-next.next in
    record {
      cells =
          cells_kept c.self.inside.plan c.args.marks.now (hold_at c.args.holds.now) c.args.commit c.as_slice.result.now c.self.inside.tracked.cells.items c.commit.new.self.cells.items next.marks next.fired
          c.self.invariant.cells c.in_ok-next.ensures.cells;
      stand = c.in_ok-next.ensures.stand;
      rest = c.commit.ensures.rest;
      standing_are = c.in_ok-next.ensures.standing;
      small = c.in_ok-next.ensures.small;
    }

pub returns-clause-legal : goal.returns-clause-legal
returns-clause-legal c =
    let plan = c.args.plan.now in
    let before = c.args.marks.now in
    let hold = hold_at c.args.holds.now in
    let next = c.in_ok-next.next in
    let old = c.args.self.now in
    let arrivals = c.args.arrivals.now in
    let plan_is : c.self.inside.plan ≡ plan = ap (λ (g : SeenGroups). g.plan) c.self.view_is ∙ c.requires.plan in
    let cells_are : c.self.inside.tracked.cells.items ≡ old.cells = ap (λ (g : SeenGroups). g.cells) c.self.view_is in
    let was : AreCells plan old.cells = subst (λ (l : List Cell). AreCells plan l) cells_are (subst (λ (p : Plan). AreCells p c.self.inside.tracked.cells.items) plan_is c.self.invariant.cells) in
    let nexts : AreCellsNext plan before hold c.args.commit arrivals old.cells c.commit.new.self.cells.items next.marks next.fired =
    subst (λ (l : List Arrival). AreCellsNext plan before hold c.args.commit l old.cells c.commit.new.self.cells.items next.marks next.fired) c.as_slice.ensures
    (subst (λ (l : List Cell). AreCellsNext plan before hold c.args.commit c.as_slice.result.now l c.commit.new.self.cells.items next.marks next.fired) cells_are
    (subst (λ (p : Plan). AreCellsNext p before hold c.args.commit c.as_slice.result.now c.self.inside.tracked.cells.items c.commit.new.self.cells.items next.marks next.fired) plan_is c.in_ok-next.ensures.cells)) in
    let after_is : c.copy_from_slice.new.self ≡ next.marks = c.copy_from_slice.ensures.after ∙ c.as_slice-2.ensures in
    let new : SeenGroups = record { plan = c.self.inside.plan; cells = c.commit.new.self.cells.items; dropped = c.commit.new.dropped.items } in
    subst (λ (m : List StageMarks). KeepsLegal plan c.args.commit before m old new next.fired) (sym after_is)
    (keep_legal plan c.args.commit before next.marks arrivals old new next.fired c.requires.checked c.requires.marks nexts.fires.marks_are.sized c.requires.gaps
    (c.in_ok-next.ensures.dropped
    ∙ (λ i. (ap (λ (g : SeenGroups). g.dropped) c.self.view_is) i ++ map (dropped_arrival c.args.commit) (filter (is_dropped (plan_is i) before) (c.as_slice.ensures i))))
    (rounds plan before hold c.args.commit arrivals old.cells c.commit.new.self.cells.items next.marks next.fired was nexts))

pub returns-clause-rounds : goal.returns-clause-rounds
returns-clause-rounds c =
    let plan = c.args.plan.now in
    let next = c.in_ok-next.next in
    let plan_is : c.self.inside.plan ≡ plan = ap (λ (g : SeenGroups). g.plan) c.self.view_is ∙ c.requires.plan in
    let cells_are : c.self.inside.tracked.cells.items ≡ c.args.self.now.cells = ap (λ (g : SeenGroups). g.cells) c.self.view_is in
    let after_is : c.copy_from_slice.new.self ≡ next.marks = c.copy_from_slice.ensures.after ∙ c.as_slice-2.ensures in
    rounds_seen c.self.inside.plan plan c.args.marks.now (hold_at c.args.holds.now) c.args.commit c.as_slice.result.now c.args.arrivals.now c.self.inside.tracked.cells.items c.args.self.now.cells
    c.commit.new.self.cells.items next.marks c.copy_from_slice.new.self next.fired plan_is c.as_slice.ensures cells_are (sym after_is) c.self.invariant.cells c.in_ok-next.ensures.cells

pub returns-clause-committed : goal.returns-clause-committed
returns-clause-committed c =
    let plan = c.args.plan.now in
    let before = c.args.marks.now in
    let hold = hold_at c.args.holds.now in
    let next = c.in_ok-next.next in
    let old = c.args.self.now in
    let arrivals = c.args.arrivals.now in
    let plan_is : c.self.inside.plan ≡ plan = ap (λ (g : SeenGroups). g.plan) c.self.view_is ∙ c.requires.plan in
    let cells_are : c.self.inside.tracked.cells.items ≡ old.cells = ap (λ (g : SeenGroups). g.cells) c.self.view_is in
    let was : AreCells plan old.cells = subst (λ (l : List Cell). AreCells plan l) cells_are (subst (λ (p : Plan). AreCells p c.self.inside.tracked.cells.items) plan_is c.self.invariant.cells) in
    let nexts : AreCellsNext plan before hold c.args.commit arrivals old.cells c.commit.new.self.cells.items next.marks next.fired =
    subst (λ (l : List Arrival). AreCellsNext plan before hold c.args.commit l old.cells c.commit.new.self.cells.items next.marks next.fired) c.as_slice.ensures
    (subst (λ (l : List Cell). AreCellsNext plan before hold c.args.commit c.as_slice.result.now l c.commit.new.self.cells.items next.marks next.fired) cells_are
    (subst (λ (p : Plan). AreCellsNext p before hold c.args.commit c.as_slice.result.now c.self.inside.tracked.cells.items c.commit.new.self.cells.items next.marks next.fired) plan_is c.in_ok-next.ensures.cells)) in
    let after_is : c.copy_from_slice.new.self ≡ next.marks = c.copy_from_slice.ensures.after ∙ c.as_slice-2.ensures in
    let new : SeenGroups = record { plan = c.self.inside.plan; cells = c.commit.new.self.cells.items; dropped = c.commit.new.dropped.items } in
    subst (λ (m : List StageMarks). IsCommitted plan c.args.commit before m hold arrivals c.leave_others.new.arrivals old new next.fired) (sym after_is)
    (committed plan before hold c.args.commit arrivals old.cells c.commit.new.self.cells.items next.marks next.fired was nexts old new c.leave_others.new.arrivals refl refl (ap (λ (g : SeenGroups). g.plan) c.self.view_is)
    (c.in_ok-next.ensures.dropped
    ∙ (λ i. (ap (λ (g : SeenGroups). g.dropped) c.self.view_is) i ++ map (dropped_arrival c.args.commit) (filter (is_dropped (plan_is i) before) (c.as_slice.ensures i))))
    c.leave_others.ensures)

pub returns-clause-rises : goal.returns-clause-rises
returns-clause-rises c =
    let plan = c.args.plan.now in
    let before = c.args.marks.now in
    let next = c.in_ok-next.next in
    let after_is : c.copy_from_slice.new.self ≡ next.marks = c.copy_from_slice.ensures.after ∙ c.as_slice-2.ensures in
    let plan_is : c.self.inside.plan ≡ plan = ap (λ (g : SeenGroups). g.plan) c.self.view_is ∙ c.requires.plan in
    λ held were. subst (NoneFalls before) (sym after_is)
    (none_falls plan held (hold_at c.args.holds.now) before next.marks next.fired c.requires.checked were c.requires.rises
    (subst (λ (p : Plan). AreMarks p (hold_with (hold_at c.args.holds.now) before next.fired) next.marks) plan_is c.in_ok-next.ensures.cells.fires.marks_are))

pub returns-clause-few : goal.returns-clause-few
returns-clause-few c =
    let next = c.in_ok-next.next in
    let cells_are : c.self.inside.tracked.cells.items ≡ c.args.self.now.cells = ap (λ (g : SeenGroups). g.cells) c.self.view_is in
    let fires = c.in_ok-next.ensures.cells.fires in
    commit_few c.self.inside.plan c.args.marks.now (hold_at c.args.holds.now) c.args.commit c.in_ok-next.ensures.cells.placed c.commit.new.self.cells.items next.marks next.fired
    (length c.args.self.now.cells + length c.args.arrivals.now) fires
    (omega (arith, c.in_ok-next.ensures.grown, ap length cells_are, ap length c.as_slice.ensures))

pub returns-clause-grown : goal.returns-clause-grown
returns-clause-grown c =
    let cells_are : c.self.inside.tracked.cells.items ≡ c.args.self.now.cells = ap (λ (g : SeenGroups). g.cells) c.self.view_is in
    omega (arith, c.in_ok-next.ensures.grown, ap length cells_are, ap length c.as_slice.ensures)
