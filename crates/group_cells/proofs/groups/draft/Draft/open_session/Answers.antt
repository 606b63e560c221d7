use Rattle.std.proofs.Common.{◌≡◌, ◌∙◌, ℕ, [], ◌∷◌, ◌++◌, List, ap, length, rules, subst, sym}
use Rattle.std.specs.List.{fold, list_any}
use Rattle.beam_values.specs.declared.cell.Cell.{Cell}
use Rattle.group_cells.specs.AtPlaces.{changed_at, given_all}
use Rattle.group_cells.specs.KnownWindows.{meeting_places, opens, AreFilled, AreKnown, HasOpened}
use Rattle.group_cells.specs.Placing.{fresh_cell, handed_over, once_opened}
use Rattle.group_cells.specs.Plain.{stands_at}
use Rattle.group_cells.proofs.OpenedSessions.{opened_has, opened_nothing, opened_so}
use Rattle.group_cells.proofs.groups.draft.Draft.open_session.Goals as goal

pub returns-then-stands-clause-ok : goal.returns-then-stands-clause-ok
returns-then-stands-clause-ok c =
    let rs = c.args.rules.now in
    let key = c.args.key.now in
    let seen = c.cells-cells.result.now in
    let known : AreKnown c.args.before (opens rs c.args.before key.node key.key seen) c.args.known =
    subst (λ (l : List Cell). AreKnown c.args.before (opens rs c.args.before key.node key.key l) c.args.known) (sym c.cells-cells.ensures) c.requires.known in
    opened_nothing rs c.args.before key.node key.key c.args.span c.args.self.now.cells
    (ap (list_any (stands_at key.node key.key c.args.span)) (sym c.cells-cells.ensures) ∙ sym (c.stands.ensures rs c.args.before known c.requires.unexpired) ∙ c.if-stands.true)

pub returns-clause-ok : goal.returns-clause-ok
returns-clause-ok c =
    let rs = c.args.rules.now in
    let before = c.args.before in
    let key = c.args.key.now in
    let span = c.args.span in
    let old = c.args.self.now.cells in
    let seen = c.cells-cells.result.now in
    let met = c.in_ok-met.met.places in
    let is = c.cells-cells.ensures in
    let known : AreKnown before (opens rs before key.node key.key seen) c.args.known =
    subst (λ (l : List Cell). AreKnown before (opens rs before key.node key.key l) c.args.known) (sym is) c.requires.known in
    let absent = ap (list_any (stands_at key.node key.key span)) (sym is) ∙ sym (c.stands.ensures rs before known c.requires.unexpired) ∙ c.if-stands.false in
    let are = c.in_ok-met.ensures.places known ∙ ap (meeting_places rs before key.node key.key span) is in
    let filled : AreFilled rs before key.node key.key old = subst (AreFilled rs before key.node key.key) is (c.in_ok-met.ensures.filled known) in
    opened_so rs before key.node key.key span old filled met c.open_over.new.self.cells are
    (c.in_ok-open_over.ensures.ok
    ∙ ap (λ (l : List ℕ). fold (changed_at (once_opened rs before span)) old l ++ fresh_cell key.node key.key span (given_all (once_opened rs before span) (handed_over rs before span) l old) ∷ []) c.as_slice.ensures)
    absent

pub returns-clause-known : goal.returns-clause-known
returns-clause-known c =
    let rs = c.args.rules.now in
    let before = c.args.before in
    let key = c.args.key.now in
    let span = c.args.span in
    let old = c.args.self.now.cells in
    let new = c.open_over.new.self.cells in
    let seen = c.cells-cells.result.now in
    let met = c.in_ok-met.met.places in
    let is = c.cells-cells.ensures in
    let behind : c.in_ok-place.place ≡ length seen = search rules in
    let known : AreKnown before (opens rs before key.node key.key seen) c.args.known =
    subst (λ (l : List Cell). AreKnown before (opens rs before key.node key.key l) c.args.known) (sym is) c.requires.known in
    let are = c.in_ok-met.ensures.places known ∙ ap (meeting_places rs before key.node key.key span) is in
    let filled : AreFilled rs before key.node key.key old = subst (AreFilled rs before key.node key.key) is (c.in_ok-met.ensures.filled known) in
    let has = opened_has rs before key.node key.key span old filled met new are
    (c.in_ok-open_over.ensures.ok
    ∙ ap (λ (l : List ℕ). fold (changed_at (once_opened rs before span)) old l ++ fresh_cell key.node key.key span (given_all (once_opened rs before span) (handed_over rs before span) l old) ∷ []) c.as_slice.ensures)
    c.in_ok-place.place (behind ∙ ap length is) c.requires.unexpired in
    let whole : HasOpened rs before key.node key.key span c.in_ok-place.place old c.cells.result.now = subst (HasOpened rs before key.node key.key span c.in_ok-place.place old) (sym c.cells.ensures) has in
    subst (λ (l : List Cell). AreKnown before (opens rs before key.node key.key l) c.in_ok-known.known) c.cells.ensures
    (c.in_ok-known.ensures rs before key.node key.key old c.requires.known c.in_ok-met.ensures.windows are whole)
