use Rattle.std.proofs.Common.{◌≡◌, List, ap, arith, false, length, refl, subst, sym}
use Rattle.std.specs.List.{All}
use Rattle.beam_values.specs.Firing.{is_expired}
use Rattle.beam_values.specs.Intervals.{Interval}
use Rattle.beam_values.specs.declared.element.Element.{Element}
use Rattle.group_cells.proofs.SessionsInTurn.{placed_by, placed_few}
use Rattle.group_cells.proofs.groups.draft.Draft.place_known.Goals as goal

pub sessions_for-requires-clause-unexpired : goal.sessions_for-requires-clause-unexpired
sessions_for-requires-clause-unexpired c =
    subst (λ (l : List Element). All (λ (e : Element). is_expired c.args.rules.now.trigger e.span.end c.args.before ≡ false) l) (sym c.as_slice.ensures) c.requires.unexpired

pub open_all-requires-clause-unexpired : goal.open_all-requires-clause-unexpired
open_all-requires-clause-unexpired c =
    subst (λ (l : List Interval). All (λ (s : Interval). is_expired c.args.rules.now.trigger s.end c.args.before ≡ false) l) (sym c.as_slice-2.ensures) c.in_ok-windows.ensures.unexpired

pub returns-clause-ok : goal.returns-clause-ok
returns-clause-ok c =
    let rs = c.args.rules.now in
    let key = c.args.key.now in
    placed_by rs rs c.args.before c.args.before key.node key.key c.args.commit
    c.as_slice.result.now c.args.own c.args.self.now.cells c.open_all.new.self.cells c.put_all.new.self.cells c.as_slice-2.result.now c.in_ok-windows.windows
    refl refl c.requires.merges c.as_slice.ensures c.as_slice-2.ensures
    c.in_ok-windows.ensures.windows c.in_ok-known.ensures.ok c.in_ok-put_all.ensures.ok

pub returns-clause-grown : goal.returns-clause-grown
returns-clause-grown c =
    let key = c.args.key.now in
    placed_few c.args.rules.now c.args.before key.node key.key c.args.commit c.args.own c.args.self.now.cells c.open_all.new.self.cells c.put_all.new.self.cells c.as_slice-2.result.now
    (omega (arith, c.in_ok-windows.ensures.few, ap length c.as_slice-2.ensures, ap length c.as_slice.ensures)) c.in_ok-known.ensures.ok c.in_ok-put_all.ensures.ok
