use Rattle.std.proofs.Common.{◌≡◌, List, subst}
use Rattle.std.specs.List.{All, filter}
use Rattle.std.proofs.lemmas.Result.{IfOk-weaker}
use Rattle.beam_values.specs.Intervals.{Interval}
use Rattle.beam_values.specs.Sessions.{IsNonEmpty}
use Rattle.beam_model.specs.Panes.{is_cell_at_key}
use Rattle.group_cells.specs.KnownWindows.{opens, AreKnown, AreListedApart, AreNear}
use Rattle.group_cells.specs.Rounds.{open_windows}
use Rattle.group_cells.proofs.NearSessions.{near_all, near_listed, AreOfListed, HasAllMet}
use Rattle.group_cells.proofs.WindowSessions.{ok_both}
use Rattle.group_cells.proofs.groups.standing.Known.near.Goals as goal

pub returns-in-Apart : goal.returns-in-Apart
returns-in-Apart c =
    let rs = c.args.rules.now in
    let key = c.args.key.now in
    let cells = c.args.cells.now in
    let own = c.args.own.now in
    let m = c.in-Apart.listed.by_end in
    ok_both c.near.result (λ near. AreListedApart m → AreOfListed m near) (λ near. All IsNonEmpty own × (AreListedApart m → All (HasAllMet m near) own))
    (λ near. AreKnown c.args.mark (opens rs c.args.mark c.args.node key cells) c.args.self.now → AreNear own (open_windows rs c.args.mark (filter (is_cell_at_key c.args.node key) cells)) near)
    (λ near each both known.
    let h = subst (AreKnown c.args.mark (opens rs c.args.mark c.args.node key cells)) c.in-Apart.is known in
    near_listed rs c.args.mark c.args.node key cells m h.1 own near both.0 (each h.1.apart) (both.1 h.1.apart))
    c.near.ensures.listed
    (ok_both c.near.result (λ near. All IsNonEmpty own) (λ near. AreListedApart m → All (HasAllMet m near) own) (λ near. All IsNonEmpty own × (AreListedApart m → All (HasAllMet m near) own))
    (λ near some whole. (some, whole)) c.near.ensures.some c.near.ensures.whole)

pub returns-in-Nothing : goal.returns-in-Nothing
returns-in-Nothing c =
    let open_ = open_windows c.args.rules.now c.args.mark (filter (is_cell_at_key c.args.node c.args.key.now) c.args.cells.now) in
    IfOk-weaker c.open_windows.result (λ (near : List Interval). near ≡ open_)
    (λ (near : List Interval). AreKnown c.args.mark (opens c.args.rules.now c.args.mark c.args.node c.args.key.now c.args.cells.now) c.args.self.now → AreNear c.args.own.now open_ near)
    (λ near is known. near_all c.args.own.now open_ near is) c.open_windows.ensures
