use Rattle.std.proofs.Common.{◌≡◌, List, None, Some, ℕ, rules, subst, sym}
use Rattle.std.proofs.lemmas.Result.{on_ok_weaker}
use Rattle.beam_values.specs.declared.cell.Cell.{Cell}
use Rattle.group_cells.specs.KnownWindows.{opens, AreKnown, IsTaker}
use Rattle.group_cells.specs.Plain.{put_at}
use Rattle.group_cells.proofs.Handing.{put_there}
use Rattle.group_cells.proofs.KnownCells.{known_as, put_opens}
use Rattle.group_cells.proofs.TakenEntries.{taker_of}
use Rattle.group_cells.proofs.groups.draft.Draft.put_first.Goals as goal

pub returns-in-None-clause-ok : goal.returns-in-None-clause-ok
returns-in-None-clause-ok c =
    let rs = c.args.rules.now in
    let key = c.args.key.now in
    let entry = c.args.entry in
    let old = c.args.self.now.cells in
    sym (taker_of rs c.args.before key.node key.key entry old c.cells.result.now c.args.known.now None c.cells.ensures c.requires.merges c.requires.known c.requires.unexpired c.in-None.ensures)

pub put-requires-clause-within : goal.put-requires-clause-within
put-requires-clause-within c =
    let rs = c.args.rules.now in
    let key = c.args.key.now in
    let entry = c.args.entry in
    let old = c.args.self.now.cells in
    let at : c.in_ok-place-in-Some.place ≡ c.in-Some.at = search rules in
    let put : IsTaker rs key.node key.key entry old (Some c.in_ok-place-in-Some.place) =
    subst (λ (p : ℕ). IsTaker rs key.node key.key entry old (Some p)) (sym at)
    (taker_of rs c.args.before key.node key.key entry old c.cells.result.now c.args.known.now (Some c.in-Some.at) c.cells.ensures c.requires.merges c.requires.known c.requires.unexpired c.in-Some.ensures) in
    put.0

pub returns-in_ok-place-in-Some-clause-ok : goal.returns-in_ok-place-in-Some-clause-ok
returns-in_ok-place-in-Some-clause-ok c =
    let rs = c.args.rules.now in
    let key = c.args.key.now in
    let entry = c.args.entry in
    let old = c.args.self.now.cells in
    let at : c.in_ok-place-in-Some.place ≡ c.in-Some.at = search rules in
    let put : IsTaker rs key.node key.key entry old (Some c.in_ok-place-in-Some.place) =
    subst (λ (p : ℕ). IsTaker rs key.node key.key entry old (Some p)) (sym at)
    (taker_of rs c.args.before key.node key.key entry old c.cells.result.now c.args.known.now (Some c.in-Some.at) c.cells.ensures c.requires.merges c.requires.known c.requires.unexpired c.in-Some.ensures) in
    on_ok_weaker c.put.result (put_there rs key.node key.key entry old c.put.new.self.cells c.in_ok-place-in-Some.place put.0 put.1) c.put.ensures.ok

pub returns-in_ok-place-in-Some-clause-known : goal.returns-in_ok-place-in-Some-clause-known
returns-in_ok-place-in-Some-clause-known c =
    let rs = c.args.rules.now in
    let key = c.args.key.now in
    let entry = c.args.entry in
    let old = c.args.self.now.cells in
    let at : c.in_ok-place-in-Some.place ≡ c.in-Some.at = search rules in
    let put : IsTaker rs key.node key.key entry old (Some c.in_ok-place-in-Some.place) =
    subst (λ (p : ℕ). IsTaker rs key.node key.key entry old (Some p)) (sym at)
    (taker_of rs c.args.before key.node key.key entry old c.cells.result.now c.args.known.now (Some c.in-Some.at) c.cells.ensures c.requires.merges c.requires.known c.requires.unexpired c.in-Some.ensures) in
    let new = c.put.new.self.cells in
    on_ok_weaker c.put.result
    (λ is.
    subst (λ (l : List Cell). AreKnown c.args.before (opens rs c.args.before key.node key.key l) c.args.known.now)
    (sym (put_there rs key.node key.key entry old new c.in_ok-place-in-Some.place put.0 put.1 is))
    (known_as c.args.before (opens rs c.args.before key.node key.key old) (opens rs c.args.before key.node key.key (put_at rs key.node key.key entry old)) c.args.known.now
    (put_opens rs c.args.before key.node key.key entry old) c.requires.known))
    c.put.ensures.ok
