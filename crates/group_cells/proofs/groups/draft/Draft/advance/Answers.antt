use Rattle.std.proofs.Common.{◌≡◌, List, ap, arith, length, subst, sym, true}
use Rattle.std.specs.List.{All}
use Rattle.std.specs.Prelude.{IfSome}
use Rattle.beam_values.specs.Nodes.{is_group}
use Rattle.beam_values.specs.declared.arrival.Arrival.{Arrival}
use Rattle.beam_values.specs.declared.cell.Cell.{Cell}
use Rattle.beam_values.specs.declared.marks.StageMarks.{StageMarks}
use Rattle.beam_model.specs.Panes.{rules_of}
use Rattle.watermarks.specs.Holds.{hold_at}
use Rattle.group_cells.specs.Arrivals.{with_arrivals}
use Rattle.group_cells.specs.Commits.{arrives_in_time}
use Rattle.group_cells.specs.KnownWindows.{AreStanding}
use Rattle.group_cells.specs.Plain.{AreCellsNext}
use Rattle.group_cells.proofs.AllArrived.{all_placed, all_stand, joined}
use Rattle.group_cells.proofs.FiredFew.{arrivals_few, same_length}
use Rattle.group_cells.proofs.Advancing.{later_at_groups, stand_fired}
use Rattle.group_cells.proofs.KnownKeys.{later_in_time, standing_arrived, standing_fired}
use Rattle.group_cells.proofs.SessionsInTurn.{later_merges}
use Rattle.group_cells.proofs.groups.draft.Draft.advance.Goals as goal

pub known_standing-requires : goal.known_standing-requires
known_standing-requires c =
    subst (λ (l : List Cell). IfSome c.args.standing (λ known. AreStanding c.args.plan.now known l)) (sym c.cells.ensures) c.requires.standing

pub place_later-requires-clause-groups : goal.place_later-requires-clause-groups
place_later-requires-clause-groups c =
    subst (λ (l : List Arrival). All (λ arrival. is_group c.args.plan.now arrival.node ≡ true) l) (sym c.in_ok-later.ensures)
    (later_at_groups c.args.plan.now c.args.before.now c.args.arrivals.now)

pub place_later-requires-clause-merging : goal.place_later-requires-clause-merging
place_later-requires-clause-merging c =
    subst (λ (l : List Arrival). All (λ arrival. (rules_of c.args.plan.now arrival.node).merges ≡ true) l) (sym c.in_ok-later.ensures)
    (later_merges c.args.plan.now c.args.before.now c.args.arrivals.now)

pub place_later-requires-clause-unexpired : goal.place_later-requires-clause-unexpired
place_later-requires-clause-unexpired c =
    subst (λ (l : List Arrival). All (λ arrival. arrives_in_time c.args.plan.now c.args.before.now arrival ≡ true) l) (sym c.in_ok-later.ensures)
    (later_in_time c.args.plan.now c.args.before.now c.args.arrivals.now)

pub place_later-requires-clause-standing : goal.place_later-requires-clause-standing
place_later-requires-clause-standing c =
    let from : c.place_all.new.self.cells ≡ with_arrivals c.args.plan.now c.args.before.now c.args.commit c.args.self.now.cells c.args.arrivals.now = c.in_ok-place_all.ensures.ok in
    subst (AreStanding c.args.plan.now c.in_ok-standing.standing) (sym from)
    (standing_arrived c.args.plan.now c.args.before.now c.args.commit c.args.arrivals.now c.args.self.now.cells c.in_ok-standing.standing (subst (AreStanding c.args.plan.now c.in_ok-standing.standing) c.cells.ensures c.in_ok-standing.ensures))

pub returns-clause-standing : goal.returns-clause-standing
returns-clause-standing c =
    standing_fired c.args.plan.now c.args.before.now (hold_at c.args.holds.now) c.args.commit c.place_later.new.self.cells c.fire_all.new.self.cells c.fire_all.new.marks.items
    c.in_ok-fired.fired c.place_later.new.standing c.in_ok-fired.ensures.fired c.in_ok-place_later.ensures.standing

pub returns-clause-cells : goal.returns-clause-cells
returns-clause-cells c =
    let plan = c.args.plan.now in
    let before = c.args.before.now in
    let arrivals = c.args.arrivals.now in
    let old = c.args.self.now.cells in
    let placed = c.place_later.new.self.cells in
    let from : c.place_all.new.self.cells ≡ with_arrivals plan before c.args.commit old arrivals =
    c.in_ok-place_all.ensures.ok in
    let all = joined plan before c.args.commit arrivals c.in_ok-later.later old c.place_all.new.self.cells placed c.in_ok-later.ensures from c.in_ok-place_later.ensures.ok in
    subst (λ (m : List StageMarks). AreCellsNext plan before (hold_at c.args.holds.now) c.args.commit arrivals old c.fire_all.new.self.cells m c.in_ok-fired.fired) (sym c.from_vec.ensures)
    (record {
      placed = placed;
      places = all_placed plan before c.args.commit arrivals old placed c.requires.stand all;
      fires = c.in_ok-fired.ensures.fired;
    })

pub returns-clause-stand : goal.returns-clause-stand
returns-clause-stand c =
    let plan = c.args.plan.now in
    let before = c.args.before.now in
    let arrivals = c.args.arrivals.now in
    let old = c.args.self.now.cells in
    let placed = c.place_later.new.self.cells in
    let from : c.place_all.new.self.cells ≡ with_arrivals plan before c.args.commit old arrivals =
    c.in_ok-place_all.ensures.ok in
    let all = joined plan before c.args.commit arrivals c.in_ok-later.later old c.place_all.new.self.cells placed c.in_ok-later.ensures from c.in_ok-place_later.ensures.ok in
    stand_fired plan before (hold_at c.args.holds.now) c.args.commit placed c.fire_all.new.self.cells c.fire_all.new.marks.items c.in_ok-fired.fired
    (all_stand plan before c.args.commit arrivals old placed c.requires.stand all) c.in_ok-fired.ensures.fired

pub returns-clause-grown : goal.returns-clause-grown
returns-clause-grown c =
    let plan = c.args.plan.now in
    let before = c.args.before.now in
    let arrivals = c.args.arrivals.now in
    let old = c.args.self.now.cells in
    let placed = c.place_later.new.self.cells in
    let from : c.place_all.new.self.cells ≡ with_arrivals plan before c.args.commit old arrivals =
    c.in_ok-place_all.ensures.ok in
    omega (
      arith,
      arrivals_few plan before c.args.commit arrivals old,
      ap length from,
      ap length c.in_ok-later.ensures,
      c.in_ok-place_later.ensures.grown,
      same_length placed c.fire_all.new.self.cells c.in_ok-fired.ensures.fired.places,
    )
