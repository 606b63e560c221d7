use Rattle.std.proofs.Common.{◌≡◌, ℕ, ◌+◌, ◌-◌, List, length, take, drop, IsSomeAnd, subst, sym, ap, ◌∙◌, arith}
use Rattle.sdf_library.specs.Paging.{Paged, HoldsFile}
use Rattle.sdf_library.proofs.Pages.{held_more, told_before}
use Rattle.sdf_library.proofs.WholeLines.{whole_longer}
use Rattle.sdf_library.proofs.pager.Pager.read_on.Goals as goal

pub returns-in-Ok-clause-held : goal.returns-in-Ok-clause-held
returns-in-Ok-clause-held g c = λ text is whole.
    let old = c.self.inside.bytes.items in
    let new = c.fill_behind.new.bytes.items in
    let room = c.make_room.new.bytes.items in
    let held = subst (λ (q : Paged). HoldsFile (g.S.Store.opened c.args.store.now q.file) q) (sym c.self.view_is) c.requires.held in
    let opened = subst (λ (q : Paged). IsSomeAnd (g.S.Store.opened c.args.store.now q.file) (λ o. o.len ≡ q.len)) (sym c.self.view_is) c.requires.open in
    let before = told_before (g.S.Store.opened c.args.store.now c.self.inside.file) (g.S.Store.opened c.fill_behind.new.store c.self.inside.file)
    c.self.inside.len text opened (c.fill_behind.ensures.kept c.self.inside.file) is in
    let count : c.held-held.result ≡ length old = c.held-held.ensures ∙ ap (λ (q : Paged). length q.bytes) (sym c.self.view_is) in
    let end : c.end-end.result ≡ c.self.inside.base + length old = c.end-end.ensures.end ∙ ap (λ (q : Paged). q.base + length q.bytes) (sym c.self.view_is) in
    let front = ap (λ n. take n new) (sym count) ∙ c.in-Ok.ensures.front ∙ ap (λ n. take n room) count ∙ c.in_ok-make_room.ensures.front in
    let size = c.in-Ok.ensures.size ∙ c.in_ok-make_room.ensures.size in
    let wanted : length room - c.held-held.result ≡ c.min-wanted.result = omega (arith, c.in_ok-make_room.ensures.size, count) in
    let read = ap (λ n. drop n new) (sym count) ∙ c.in-Ok.ensures.bytes text before ∙ ap (λ n. take n (drop c.end-end.result text)) wanted
    ∙ ap (λ n. take c.min-wanted.result (drop n text)) end in
    held_more old new text c.self.inside.base (length old) c.min-wanted.result front size read (held text before whole)

pub returns-in-Err-clause-held : goal.returns-in-Err-clause-held
returns-in-Err-clause-held g c = λ text is whole.
    let old = c.self.inside.bytes.items in
    let held = subst (λ (q : Paged). HoldsFile (g.S.Store.opened c.args.store.now q.file) q) (sym c.self.view_is) c.requires.held in
    let opened = subst (λ (q : Paged). IsSomeAnd (g.S.Store.opened c.args.store.now q.file) (λ o. o.len ≡ q.len)) (sym c.self.view_is) c.requires.open in
    let before = told_before (g.S.Store.opened c.args.store.now c.self.inside.file) (g.S.Store.opened c.fill_behind.new.store c.self.inside.file)
    c.self.inside.len text opened (c.fill_behind.ensures.kept c.self.inside.file) is in
    let count : c.held-held.result ≡ length old = c.held-held.ensures ∙ ap (λ (q : Paged). length q.bytes) (sym c.self.view_is) in
    let same = c.truncate.ensures.items ∙ c.in-Err.ensures.front ∙ ap (λ n. take n c.make_room.new.bytes.items) count ∙ c.in_ok-make_room.ensures.front in
    subst (λ (b : List ℕ). b ≡ take (length b) (drop c.self.inside.base text)) (sym same) (held text before whole)

pub invariant_of-self-in-Ok : goal.invariant_of-self-in-Ok
invariant_of-self-in-Ok g c =
    let old = c.self.inside.bytes.items in
    let new = c.fill_behind.new.bytes.items in
    let count : c.held-held.result ≡ length old = c.held-held.ensures ∙ ap (λ (q : Paged). length q.bytes) (sym c.self.view_is) in
    let end : c.end-end.result ≡ c.self.inside.base + length old = c.end-end.ensures.end ∙ ap (λ (q : Paged). q.base + length q.bytes) (sym c.self.view_is) in
    let front : take (length old) new ≡ old =
    ap (λ n. take n new) (sym count) ∙ c.in-Ok.ensures.front ∙ ap (λ n. take n c.make_room.new.bytes.items) count ∙ c.in_ok-make_room.ensures.front in (
      omega (arith, c.in-Ok.ensures.size, c.in_ok-make_room.ensures.size, c.min-wanted.ensures, end, c.self.invariant.0),
      c.self.invariant.1,
      c.self.invariant.2,
      whole_longer c.self.inside.base old new c.self.inside.whole_to front c.self.invariant.3,
    )
