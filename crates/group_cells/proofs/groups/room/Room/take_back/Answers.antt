use Rattle.std.proofs.Common.{◌≡◌, ◌∙◌, ◌-◌, List, ◌++◌, length, reverse, take, drop, ap, arith, sym}
use Rattle.std.proofs.Math.Seq.{take-append_seam, drop-append_seam}
use Rattle.beam_values.specs.declared.cell.Entry.{Entry}
use Rattle.group_cells.proofs.groups.room.Room.take_back.Goals as goal

split : (front back whole : List Entry) → front ++ back ≡ whole → (front ≡ take (length front) whole) × (back ≡ drop (length front) whole)
split front back whole is = (sym (take-append_seam front back) ∙ ap (take (length front)) is, sym (drop-append_seam front back) ∙ ap (drop (length front)) is)

pub returns-clause-kept : goal.returns-clause-kept
returns-clause-kept c =
    let all : length c.loop.entries.items ≡ length c.args.entries.now.items - c.args.self.count = omega arith in
    (split c.loop.entries.items (reverse c.loop.list.items) c.args.entries.now.items c.loop.invariant.whole).0 ∙ ap (λ n. take n c.args.entries.now.items) all

pub returns-clause-back : goal.returns-clause-back
returns-clause-back c =
    let all : length c.loop.entries.items ≡ length c.args.entries.now.items - c.args.self.count = omega arith in
    c.reverse.ensures.items
    ∙ (split c.loop.entries.items (reverse c.loop.list.items) c.args.entries.now.items c.loop.invariant.whole).1 ∙ ap (λ n. drop n c.args.entries.now.items) all
