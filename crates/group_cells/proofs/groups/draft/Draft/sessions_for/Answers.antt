use Rattle.std.proofs.Common.{◌≡◌, ◌∙◌, List, ap, arith, false, length, map, subst, sym}
use Rattle.std.specs.List.{filter}
use Rattle.std.proofs.lemmas.List.{length-map}
use Rattle.std.proofs.lemmas.List.Elements.{All-map}
use Rattle.beam_values.specs.Firing.{is_expired}
use Rattle.beam_values.specs.Intervals.{Interval}
use Rattle.beam_values.specs.declared.cell.Cell.{Cell}
use Rattle.beam_values.specs.declared.element.Element.{Element}
use Rattle.beam_model.specs.Panes.{is_cell_at_key}
use Rattle.group_cells.specs.KnownWindows.{opens, AreKnown, AreNear}
use Rattle.group_cells.specs.Rounds.{open_windows, AreSessionsOver}
use Rattle.group_cells.proofs.NearSessions.{open_unexpired, sessions_near, sessions_open}
use Rattle.group_cells.proofs.groups.draft.Draft.sessions_for.Goals as goal

pub returns-clause-windows : goal.returns-clause-windows
returns-clause-windows c =
    let rs = c.args.rules.now in
    let before = c.args.before in
    let key = c.args.key.now in
    let own = map (λ (e : Element). e.span) c.args.own.now in
    let old = c.args.self.now.cells in
    let is = c.cells-cells.ensures in
    let known : AreKnown before (opens rs before key.node key.key c.cells-cells.result.now) c.args.known.now =
    subst (λ (l : List Cell). AreKnown before (opens rs before key.node key.key l) c.args.known.now) (sym is) c.requires.known in
    let near : AreNear own (open_windows rs before (filter (is_cell_at_key key.node key.key) old)) c.in_ok-near.near =
    subst (λ (l : List Cell). AreNear own (open_windows rs before (filter (is_cell_at_key key.node key.key) l)) c.in_ok-near.near) is
    (subst (λ (l : List Interval). AreNear l (open_windows rs before (filter (is_cell_at_key key.node key.key) c.cells-cells.result.now)) c.in_ok-near.near) (c.as_slice.ensures ∙ c.in_ok-spans.ensures)
    (c.in_ok-near.ensures known)) in
    let over : AreSessionsOver own c.in_ok-near.near c.in_ok-windows.windows =
    subst (λ (l : List Interval). AreSessionsOver own l c.in_ok-windows.windows) c.as_slice-3.ensures
    (subst (λ (l : List Interval). AreSessionsOver l c.as_slice-3.result.now c.in_ok-windows.windows) (c.as_slice-2.ensures ∙ c.in_ok-spans.ensures) c.in_ok-windows.ensures.windows) in
    sessions_near own (open_windows rs before (filter (is_cell_at_key key.node key.key) old)) c.in_ok-near.near near c.in_ok-windows.windows over

pub returns-clause-unexpired : goal.returns-clause-unexpired
returns-clause-unexpired c =
    let rs = c.args.rules.now in
    let before = c.args.before in
    let key = c.args.key.now in
    let own = map (λ (e : Element). e.span) c.args.own.now in
    let old = c.args.self.now.cells in
    let is = c.cells-cells.ensures in
    let known : AreKnown before (opens rs before key.node key.key c.cells-cells.result.now) c.args.known.now =
    subst (λ (l : List Cell). AreKnown before (opens rs before key.node key.key l) c.args.known.now) (sym is) c.requires.known in
    let near : AreNear own (open_windows rs before (filter (is_cell_at_key key.node key.key) old)) c.in_ok-near.near =
    subst (λ (l : List Cell). AreNear own (open_windows rs before (filter (is_cell_at_key key.node key.key) l)) c.in_ok-near.near) is
    (subst (λ (l : List Interval). AreNear l (open_windows rs before (filter (is_cell_at_key key.node key.key) c.cells-cells.result.now)) c.in_ok-near.near) (c.as_slice.ensures ∙ c.in_ok-spans.ensures)
    (c.in_ok-near.ensures known)) in
    let over : AreSessionsOver own c.in_ok-near.near c.in_ok-windows.windows =
    subst (λ (l : List Interval). AreSessionsOver own l c.in_ok-windows.windows) c.as_slice-3.ensures
    (subst (λ (l : List Interval). AreSessionsOver l c.as_slice-3.result.now c.in_ok-windows.windows) (c.as_slice-2.ensures ∙ c.in_ok-spans.ensures) c.in_ok-windows.ensures.windows) in
    sessions_open rs before own (open_windows rs before (filter (is_cell_at_key key.node key.key) old)) c.in_ok-windows.windows (open_unexpired rs before key.node key.key old)
    (All-map (λ (s : Interval). is_expired rs.trigger s.end before ≡ false) (λ (e : Element). e.span) c.args.own.now c.requires.unexpired)
    (sessions_near own (open_windows rs before (filter (is_cell_at_key key.node key.key) old)) c.in_ok-near.near near c.in_ok-windows.windows over)

pub returns-clause-few : goal.returns-clause-few
returns-clause-few c =
    omega (
      arith,
      c.in_ok-windows.ensures.few,
      ap length c.as_slice-2.ensures,
      ap length c.in_ok-spans.ensures,
      length-map c.args.own.now (λ (e : Element). e.span),
    )
