use Rattle.std.proofs.Common.{◌≡◌, ◌+◌, ◌-◌, ◌≤◌, inl, inr, length, subst, sym, ap, ◌∙◌, arith}
use Rattle.std.proofs.lemmas.Bool.{cases_lt, false≢true}
use Rattle.sdf_library.specs.Paging.{Paged, HoldsFile, Serves}
use Rattle.sdf_library.proofs.Pages.{held_behind, held_end, held_less, holds_from, on_err, serves_here}
use Rattle.sdf_library.proofs.pager.Pager.hold_for.Goals as goal

pub read_on-requires-clause-held : goal.read_on-requires-clause-held
read_on-requires-clause-held g c κs within =
    subst (λ (q : Paged). HoldsFile (g.S.Store.opened c.args.store.now q.file) q) (sym c.give_up_before.ensures.left)
    (holds_from (g.S.Store.opened c.args.store.now c.args.self.now.file) c.args.self.now (c.args.p - 1) c.requires.held)

pub returns-in_err-read_on-clause-given_up : goal.returns-in_err-read_on-clause-given_up
returns-in_err-read_on-clause-given_up g c =
    on_err c.from_residual.result (subst (λ (q : Paged). length q.bytes ≤ length c.args.self.now.bytes) (sym (c.in_err-read_on.ensures.err ∙ c.give_up_before.ensures.left))
    (held_less c.args.self.now (c.args.p - 1)))

pub returns-in_ok-read_on-clause-bounded : goal.returns-in_ok-read_on-clause-bounded
returns-in_ok-read_on-clause-bounded g c =
    let less = subst (λ (q : Paged). length q.bytes ≤ length c.args.self.now.bytes) (sym c.give_up_before.ensures.left) (held_less c.args.self.now (c.args.p - 1)) in (
      λ none. absurd (false≢true (sym none ∙ c.if-more.true)),
      λ _. omega (arith, less, c.in_ok-read_on.ensures.size, c.max.ensures, c.saturating_add.ensures, c.held-before.ensures, c.held-held.ensures),
    )

pub read_on-requires-else-more-clause-held : goal.read_on-requires-else-more-clause-held
read_on-requires-else-more-clause-held g c κs within =
    subst (λ (q : Paged). HoldsFile (g.S.Store.opened c.args.store.now q.file) q) (sym c.give_up_before.ensures.left)
    (holds_from (g.S.Store.opened c.args.store.now c.args.self.now.file) c.args.self.now (c.args.p - 1) c.requires.held)

pub returns-in_err-read_on-2-clause-given_up : goal.returns-in_err-read_on-2-clause-given_up
returns-in_err-read_on-2-clause-given_up g c =
    on_err c.from_residual-in_err-read_on-2.result (subst (λ (q : Paged). length q.bytes ≤ length c.args.self.now.bytes)
    (sym (c.in_err-read_on-2.ensures.err ∙ c.give_up_before.ensures.left)) (held_less c.args.self.now (c.args.p - 1)))

pub returns-in_ok-read_on-clause-serves : goal.returns-in_ok-read_on-clause-serves
returns-in_ok-read_on-clause-serves g c =
    let base : c.give_up_before.new.self.base ≡ c.args.p - 1 = ap (λ (q : Paged). q.base) c.give_up_before.ensures.left in
    let len : c.give_up_before.new.self.len ≡ c.args.self.now.len = ap (λ (q : Paged). q.len) c.give_up_before.ensures.left in
    let read = c.in_ok-read_on.ensures in
    serves_here c.read_on.new.self c.args.p (omega (arith, read.base, base))
    (omega (arith, read.base, base, read.size, len, c.give_up_before.ensures.within, c.max.ensures, c.requires.inside))
    (omega (arith, read.base, read.size, read.len, c.give_up_before.ensures.within))

pub returns-in_ok-read_on-clause-more : goal.returns-in_ok-read_on-clause-more
returns-in_ok-read_on-clause-more g c = λ _.
    let read = c.in_ok-read_on.ensures in
    let less = subst (λ (q : Paged). length q.bytes ≤ length c.args.self.now.bytes) (sym c.give_up_before.ensures.left) (held_less c.args.self.now (c.args.p - 1)) in
    let kept = c.give_up_before.new.self in
    elim (cases_lt c.max.result (kept.len - (kept.base + length kept.bytes))) [
      | inl within ↦ inl (omega (arith, within, read.size, less, c.give_up_before.ensures.small, c.max.ensures, c.saturating_add.ensures, c.held-before.ensures, c.held-held.ensures))
      | inr past ↦ inr (omega (arith, past, read.size, read.base, read.len, c.give_up_before.ensures.within))
    ]

pub returns-in_ok-read_on-clause-further : goal.returns-in_ok-read_on-clause-further
returns-in_ok-read_on-clause-further g c = λ _ serves.
    let read = c.in_ok-read_on.ensures in
    let base = ap (λ (q : Paged). q.base) c.give_up_before.ensures.left in
    let size = ap (λ (q : Paged). length q.bytes) c.give_up_before.ensures.left in
    let kept = c.give_up_before.new.self in
    elim (cases_lt c.max.result (kept.len - (kept.base + length kept.bytes))) [
      | inl within ↦ inl (omega (arith, within, read.size, read.base, base, size, held_end c.args.self.now c.args.p serves, c.max.ensures))
      | inr past ↦ inr (omega (arith, past, read.size, read.base, read.len, c.give_up_before.ensures.within))
    ]

pub returns-in_ok-read_on-2-clause-serves : goal.returns-in_ok-read_on-2-clause-serves
returns-in_ok-read_on-2-clause-serves g c =
    let base : c.give_up_before.new.self.base ≡ c.args.p - 1 = ap (λ (q : Paged). q.base) c.give_up_before.ensures.left in
    let len : c.give_up_before.new.self.len ≡ c.args.self.now.len = ap (λ (q : Paged). q.len) c.give_up_before.ensures.left in
    let read = c.in_ok-read_on-2.ensures in
    let not_served = λ (serves : Serves c.args.self.now c.args.p). false≢true (sym c.if-is_enough.false ∙ c.is_enough.ensures.enough.1 (serves, inl c.if-more.false)) in
    let few = subst (λ (q : Paged). length q.bytes ≤ 1) (sym c.give_up_before.ensures.left)
    (held_behind c.args.self.now c.args.p c.is_enough.ensures.within not_served) in
    serves_here c.read_on-else-more.new.self c.args.p (omega (arith, read.base, base))
    (omega (arith, read.base, base, read.size, len, few, c.give_up_before.ensures.within, c.held-held.ensures, c.requires.inside))
    (omega (arith, read.base, read.size, read.len, c.give_up_before.ensures.within))
