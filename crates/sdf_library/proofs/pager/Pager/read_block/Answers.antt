use Rattle.std.proofs.Common.{◌-◌, not, subst, sym, ap, ◌∙◌, arith}
use Rattle.sdf_library.specs.Paging.{Paged, HoldsFile, is_line_cut}
use Rattle.sdf_library.proofs.HeldLines.{GoesOn, ended_is, goes_further, goes_lean, goes_on_as}
use Rattle.sdf_library.proofs.Pages.{holds_from}
use Rattle.sdf_library.proofs.pager.Pager.read_block.Goals as goal

pub read_on-requires-clause-held : goal.read_on-requires-clause-held
read_on-requires-clause-held g c κs within =
    subst (λ (q : Paged). HoldsFile (g.S.Store.opened c.args.store.now q.file) q) (sym c.give_up_before.ensures.left)
    (holds_from (g.S.Store.opened c.args.store.now c.args.self.now.file) c.args.self.now (c.args.p - 1) c.requires.held)

pub line_end-requires-clause-reached : goal.line_end-requires-clause-reached
line_end-requires-clause-reached g c =
    let read = c.in_ok-read_on.ensures in
    let goes : GoesOn c.args.self.now c.give_up_before.new.self c.read_on.new.self c.args.p =
    record { left = c.give_up_before.ensures.left; base = read.base; len = read.len; front = read.front; size = read.size } in
    omega (arith, c.end-end.ensures.end, goes_further c.args.self.now c.give_up_before.new.self c.read_on.new.self c.args.p goes c.requires.serves c.requires.cut)

pub returns-clause-line : goal.returns-clause-line
returns-clause-line g c =
    let read = c.in_ok-read_on.ensures in
    let new = c.read_on.new.self in
    let goes : GoesOn c.args.self.now c.give_up_before.new.self new c.args.p =
    record { left = c.give_up_before.ensures.left; base = read.base; len = read.len; front = read.front; size = read.size } in
    goes_on_as c.args.self.now c.give_up_before.new.self new c.args.p goes c.requires.serves c.requires.cut
    ∙ ap (λ n. is_line_cut n new) (sym c.end-end.ensures.end)
    ∙ ended_is c.line_end.result (is_line_cut c.end-end.result new) c.line_end.ensures.cut c.line_end.ensures.whole
    ∙ ap not (sym c.is_some.ensures)

pub returns-clause-lean : goal.returns-clause-lean
returns-clause-lean g c =
    let read = c.in_ok-read_on.ensures in
    let goes : GoesOn c.args.self.now c.give_up_before.new.self c.read_on.new.self c.args.p =
    record { left = c.give_up_before.ensures.left; base = read.base; len = read.len; front = read.front; size = read.size } in
    goes_lean c.args.self.now c.give_up_before.new.self c.read_on.new.self c.args.p goes c.requires.serves c.requires.cut

pub returns-clause-further : goal.returns-clause-further
returns-clause-further g c =
    let read = c.in_ok-read_on.ensures in
    let goes : GoesOn c.args.self.now c.give_up_before.new.self c.read_on.new.self c.args.p =
    record { left = c.give_up_before.ensures.left; base = read.base; len = read.len; front = read.front; size = read.size } in
    goes_further c.args.self.now c.give_up_before.new.self c.read_on.new.self c.args.p goes c.requires.serves c.requires.cut
