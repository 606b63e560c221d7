use Rattle.std.proofs.Common.{◌≡◌, ◌++◌, List, ap, map, refl, subst, sym, ◌∙◌}
use Rattle.std.specs.List.{filter}
use Rattle.beam_values.specs.declared.arrival.Arrival.{Arrival}
use Rattle.beam_values.specs.declared.cell.Cell.{Cell}
use Rattle.beam_values.specs.declared.marks.StageMarks.{StageMarks}
use Rattle.beam_values.specs.declared.plan.Plan.{Plan}
use Rattle.watermarks.specs.Holds.{hold_at}
use Rattle.group_cells.specs.Commits.{IsCommitted, KeepsLegal, NoneFalls, SeenGroups, dropped_arrival, is_dropped}
use Rattle.group_cells.specs.Plain.{AreCells, AreCellsNext}
use Rattle.group_cells.proofs.AllKeys.{keep_legal}
use Rattle.group_cells.proofs.PlainRounds.{cells_kept, committed, rounds, rounds_seen}
use Rattle.group_cells.proofs.RisenMarks.{none_falls}
use Rattle.group_cells.proofs.plain.PlainGroups.commit.Goals as goal

pub invariant_of-self : goal.invariant_of-self
invariant_of-self c =
    let next = c.in_ok-next.next in
    let plan_is : c.self.inside.plan ≡ c.args.plan.now = ap (λ (g : SeenGroups). g.plan) c.self.view_is ∙ c.requires.plan in
    let was : AreCells c.args.plan.now c.self.inside.cells = subst (λ (p : Plan). AreCells p c.self.inside.cells) plan_is c.self.invariant in
    subst (λ (p : Plan). AreCells p next.cells) (sym plan_is)
    (cells_kept c.args.plan.now c.args.marks.now (hold_at c.args.holds.now) c.args.commit c.as_slice.result.now c.self.inside.cells next.cells next.marks next.fired was c.in_ok-next.ensures.cells)

pub returns-clause-legal : goal.returns-clause-legal
returns-clause-legal c =
    let plan = c.args.plan.now in
    let before = c.args.marks.now in
    let hold = hold_at c.args.holds.now in
    let next = c.in_ok-next.next in
    let old = c.args.self.now in
    let arrivals = c.args.arrivals.now in
    let plan_is : c.self.inside.plan ≡ plan = ap (λ (g : SeenGroups). g.plan) c.self.view_is ∙ c.requires.plan in
    let cells_are : c.self.inside.cells ≡ old.cells = ap (λ (g : SeenGroups). g.cells) c.self.view_is in
    let was : AreCells plan old.cells = subst (λ (l : List Cell). AreCells plan l) cells_are (subst (λ (p : Plan). AreCells p c.self.inside.cells) plan_is c.self.invariant) in
    let nexts : AreCellsNext plan before hold c.args.commit arrivals old.cells next.cells next.marks next.fired =
    subst (λ (l : List Arrival). AreCellsNext plan before hold c.args.commit l old.cells next.cells next.marks next.fired) c.as_slice.ensures
    (subst (λ (l : List Cell). AreCellsNext plan before hold c.args.commit c.as_slice.result.now l next.cells next.marks next.fired) cells_are c.in_ok-next.ensures.cells) in
    let after_is : c.copy_from_slice.new.self ≡ next.marks = c.copy_from_slice.ensures.after ∙ c.as_slice-2.ensures in
    let new : SeenGroups = record { plan = c.self.inside.plan; cells = next.cells; dropped = next.dropped } in
    subst (λ (m : List StageMarks). KeepsLegal plan c.args.commit before m old new next.fired) (sym after_is)
    (keep_legal plan c.args.commit before next.marks arrivals old new next.fired c.requires.checked c.requires.marks nexts.fires.marks_are.sized c.requires.gaps
    (c.in_ok-next.ensures.dropped
    ∙ (λ i. (ap (λ (g : SeenGroups). g.dropped) c.self.view_is) i ++ map (dropped_arrival c.args.commit) (filter (is_dropped plan before) (c.as_slice.ensures i))))
    (rounds plan before hold c.args.commit arrivals old.cells next.cells next.marks next.fired was nexts))

pub returns-clause-rounds : goal.returns-clause-rounds
returns-clause-rounds c =
    let plan = c.args.plan.now in
    let next = c.in_ok-next.next in
    let plan_is : c.self.inside.plan ≡ plan = ap (λ (g : SeenGroups). g.plan) c.self.view_is ∙ c.requires.plan in
    let cells_are : c.self.inside.cells ≡ c.args.self.now.cells = ap (λ (g : SeenGroups). g.cells) c.self.view_is in
    let after_is : c.copy_from_slice.new.self ≡ next.marks = c.copy_from_slice.ensures.after ∙ c.as_slice-2.ensures in
    rounds_seen plan plan c.args.marks.now (hold_at c.args.holds.now) c.args.commit c.as_slice.result.now c.args.arrivals.now c.self.inside.cells c.args.self.now.cells
    next.cells next.marks c.copy_from_slice.new.self next.fired refl c.as_slice.ensures cells_are (sym after_is)
    (subst (λ (p : Plan). AreCells p c.self.inside.cells) plan_is c.self.invariant) c.in_ok-next.ensures.cells

pub returns-clause-committed : goal.returns-clause-committed
returns-clause-committed c =
    let plan = c.args.plan.now in
    let before = c.args.marks.now in
    let hold = hold_at c.args.holds.now in
    let next = c.in_ok-next.next in
    let old = c.args.self.now in
    let arrivals = c.args.arrivals.now in
    let plan_is : c.self.inside.plan ≡ plan = ap (λ (g : SeenGroups). g.plan) c.self.view_is ∙ c.requires.plan in
    let cells_are : c.self.inside.cells ≡ old.cells = ap (λ (g : SeenGroups). g.cells) c.self.view_is in
    let was : AreCells plan old.cells = subst (λ (l : List Cell). AreCells plan l) cells_are (subst (λ (p : Plan). AreCells p c.self.inside.cells) plan_is c.self.invariant) in
    let nexts : AreCellsNext plan before hold c.args.commit arrivals old.cells next.cells next.marks next.fired =
    subst (λ (l : List Arrival). AreCellsNext plan before hold c.args.commit l old.cells next.cells next.marks next.fired) c.as_slice.ensures
    (subst (λ (l : List Cell). AreCellsNext plan before hold c.args.commit c.as_slice.result.now l next.cells next.marks next.fired) cells_are c.in_ok-next.ensures.cells) in
    let after_is : c.copy_from_slice.new.self ≡ next.marks = c.copy_from_slice.ensures.after ∙ c.as_slice-2.ensures in
    let new : SeenGroups = record { plan = c.self.inside.plan; cells = next.cells; dropped = next.dropped } in
    subst (λ (m : List StageMarks). IsCommitted plan c.args.commit before m hold arrivals c.leave_others.new.arrivals old new next.fired) (sym after_is)
    (committed plan before hold c.args.commit arrivals old.cells next.cells next.marks next.fired was nexts old new c.leave_others.new.arrivals refl refl (ap (λ (g : SeenGroups). g.plan) c.self.view_is)
    (c.in_ok-next.ensures.dropped
    ∙ (λ i. (ap (λ (g : SeenGroups). g.dropped) c.self.view_is) i ++ map (dropped_arrival c.args.commit) (filter (is_dropped plan before) (c.as_slice.ensures i))))
    c.leave_others.ensures)

pub returns-clause-rises : goal.returns-clause-rises
returns-clause-rises c =
    let plan = c.args.plan.now in
    let before = c.args.marks.now in
    let next = c.in_ok-next.next in
    let after_is : c.copy_from_slice.new.self ≡ next.marks = c.copy_from_slice.ensures.after ∙ c.as_slice-2.ensures in
    λ held were. subst (NoneFalls before) (sym after_is)
    (none_falls plan held (hold_at c.args.holds.now) before next.marks next.fired c.requires.checked were c.requires.rises c.in_ok-next.ensures.cells.fires.marks_are)
