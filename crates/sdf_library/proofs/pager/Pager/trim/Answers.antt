use Rattle.std.proofs.Common.{◌+◌, ◌-◌, ◌≤◌, refl, subst, sym, arith}
use Rattle.beam_values.specs.declared.plan.Args.TheVariants.{Nothing}
use Rattle.beam_values.specs.declared.plan.SourceKind.TheVariants.{Lines}
use Rattle.sdf_library.specs.Paging.{Paged, HoldsLine, IsLean, block}
use Rattle.sdf_library.proofs.HeldLines.{trimmed}
use Rattle.sdf_library.proofs.pager.Pager.trim.Goals as goal

pub keep-requires : goal.keep-requires
keep-requires c = omega (arith, (c.requires.holds.0.view Lines Nothing refl).inside)

pub returns-then-held-clause-holds : goal.returns-then-held-clause-holds
returns-then-held-clause-holds c =
    let most = c.saturating_add.result in
    let past : c.args.next ≤ c.args.p - 1 + most = omega (arith, c.saturating_add.ensures, c.ranges.next.fits) in
    let few : most ≤ c.args.next - c.args.p + block = omega (arith, c.saturating_add.ensures) in
    subst (λ (q : Paged). HoldsLine q c.args.p) (sym c.keep.ensures.page)
    (trimmed c.args.self.now c.args.p c.args.next most c.requires.holds c.requires.next past few).0

pub returns-then-held-clause-lean : goal.returns-then-held-clause-lean
returns-then-held-clause-lean c =
    let most = c.saturating_add.result in
    let past : c.args.next ≤ c.args.p - 1 + most = omega (arith, c.saturating_add.ensures, c.ranges.next.fits) in
    let few : most ≤ c.args.next - c.args.p + block = omega (arith, c.saturating_add.ensures) in
    subst (λ (q : Paged). IsLean c.args.p q) (sym c.keep.ensures.page)
    (trimmed c.args.self.now c.args.p c.args.next most c.requires.holds c.requires.next past few).1
