use Rattle.std.proofs.Common.{◌≡◌, ◌-◌, length, take, subst, sym, ap, ◌∙◌, arith}
use Rattle.std.proofs.lemmas.List.{length-take}
use Rattle.sdf_library.specs.Paging.{Paged, HoldsFile, page_at}
use Rattle.sdf_library.proofs.Pages.{held_less, holds_page}
use Rattle.sdf_library.proofs.pager.Pager.keep.Goals as goal

pub returns-clause-page : goal.returns-clause-page
returns-clause-page c = c.cut_to.ensures ∙ ap (λ (q : Paged). record q { bytes = take c.args.most q.bytes }) c.give_up_before.ensures.left

pub returns-clause-few : goal.returns-clause-few
returns-clause-few c = omega (arith, ap (λ (q : Paged). length q.bytes) c.cut_to.ensures, length-take c.args.most c.give_up_before.new.self.bytes)

pub returns-clause-less : goal.returns-clause-less
returns-clause-less c =
    let left = ap (λ (q : Paged). length q.bytes) c.give_up_before.ensures.left in
    omega (arith, ap (λ (q : Paged). length q.bytes) c.cut_to.ensures, length-take c.args.most c.give_up_before.new.self.bytes, left, held_less c.args.self.now (c.args.p - 1))

pub returns-clause-held : goal.returns-clause-held
returns-clause-held c = λ opening holds.
    let page : c.cut_to.new.self ≡ page_at c.args.p c.args.most c.args.self.now =
    c.cut_to.ensures ∙ ap (λ (q : Paged). record q { bytes = take c.args.most q.bytes }) c.give_up_before.ensures.left in
    subst (λ (q : Paged). HoldsFile opening q) (sym page) (holds_page opening c.args.self.now c.args.p c.args.most holds)
