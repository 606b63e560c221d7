use Rattle.std.proofs.Common.{◌≡◌, ◌-◌, [], length, get_or, vec_len, ap, arith, rules, sym, ◌∙◌}
use Rattle.std.proofs.lemmas.Bool.Decides.{Decides-eqb}
use Rattle.std.proofs.lemmas.List.{nil_from_length}
use Rattle.combine_lift.proofs.Taking.{popped_alone_first, popped_alone_second, popped_both, popped_first, popped_second}
use Rattle.combine_lift.proofs.merging.take_least.Goals as goal

pub returns-then-is_empty-clause-least : goal.returns-then-is_empty-clause-least
returns-then-is_empty-clause-least g c =
    let empty : vec_len c.args.rows.now ≡ 0 = (Decides-eqb (vec_len c.args.rows.now) 0).0 (sym c.is_empty.ensures ∙ c.if-is_empty.true) in
    let none : c.args.rows.now.items ≡ [] = nil_from_length c.args.rows.now.items (omega (arith, c.args.rows.now.ok.0)) in
    popped_alone_second g.C.Combiner.stands g.C.Combiner.held c.args.rows.now.items c.args.others.now.items c.pop.new.self.items c.pop.result none c.pop.ensures.items

pub returns-then-is_empty-2-clause-least : goal.returns-then-is_empty-2-clause-least
returns-then-is_empty-2-clause-least g c =
    let empty : vec_len c.args.others.now ≡ 0 = (Decides-eqb (vec_len c.args.others.now) 0).0 (sym c.is_empty-2.ensures ∙ c.if-is_empty-2.true) in
    let none : c.args.others.now.items ≡ [] = nil_from_length c.args.others.now.items (omega (arith, c.args.others.now.ok.0)) in
    popped_alone_first g.C.Combiner.stands g.C.Combiner.held c.args.rows.now.items c.args.others.now.items c.pop-then-is_empty-2.new.self.items c.pop-then-is_empty-2.result
    none c.pop-then-is_empty-2.ensures.items

pub returns-in-Less-clause-least : goal.returns-in-Less-clause-least
returns-in-Less-clause-least g c =
    let size : c.len.result ≡ length c.args.rows.now.items = search rules in
    let also : c.len-2.result ≡ length c.args.others.now.items = search rules in
    popped_first g.C.Combiner.stands g.C.Combiner.held c.args.rows.now.items c.args.others.now.items c.pop-in-Less.new.self.items c.pop-in-Less.result
    c.index.result.now c.index-2.result.now c.pop-in-Less.ensures.items
    (c.index.ensures ∙ ap (λ n. get_or c.args.rows.now.items (n - 1) c.index.result.now) size)
    (c.index-2.ensures ∙ ap (λ n. get_or c.args.others.now.items (n - 1) c.index-2.result.now) also) (sym c.in-Less.ensures)

pub returns-in-Greater-clause-least : goal.returns-in-Greater-clause-least
returns-in-Greater-clause-least g c =
    let size : c.len.result ≡ length c.args.rows.now.items = search rules in
    let also : c.len-2.result ≡ length c.args.others.now.items = search rules in
    popped_second g.C.Combiner.stands g.C.Combiner.held c.args.rows.now.items c.args.others.now.items c.pop-in-Greater.new.self.items c.pop-in-Greater.result
    c.index.result.now c.index-2.result.now c.pop-in-Greater.ensures.items
    (c.index.ensures ∙ ap (λ n. get_or c.args.rows.now.items (n - 1) c.index.result.now) size)
    (c.index-2.ensures ∙ ap (λ n. get_or c.args.others.now.items (n - 1) c.index-2.result.now) also) (sym c.in-Greater.ensures)

pub returns-in-Equal-clause-least : goal.returns-in-Equal-clause-least
returns-in-Equal-clause-least g c =
    let size : c.len.result ≡ length c.args.rows.now.items = search rules in
    let also : c.len-2.result ≡ length c.args.others.now.items = search rules in
    popped_both g.C.Combiner.stands g.C.Combiner.held c.args.rows.now.items c.args.others.now.items c.take_both.new.rows.items c.take_both.new.others.items c.take_both.result
    c.index.result.now c.index-2.result.now
    (c.index.ensures ∙ ap (λ n. get_or c.args.rows.now.items (n - 1) c.index.result.now) size)
    (c.index-2.ensures ∙ ap (λ n. get_or c.args.others.now.items (n - 1) c.index-2.result.now) also) (sym c.in-Equal.ensures) c.take_both.ensures.some
