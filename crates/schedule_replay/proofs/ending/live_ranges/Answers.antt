use Rattle.std.proofs.Common.{◌<◌, Global, List, Vec, [], ◌∷◌, ◌++◌, length, ap, arith, rules, sym, ◌∙◌}
use Rattle.beam_values.specs.declared.piece.Done.{Done}
use Rattle.beam_values.proofs.Sorts.{sorted_from_sort_by}
use Rattle.book_core.specs.Changes.{done_cmp}
use Rattle.book_core.proofs.Formed.{done_total}
use Rattle.schedule_replay.specs.Replays.{as_done}
use Rattle.schedule_replay.proofs.LiveRanges.{all_moved, below_none, below_some}
use Rattle.schedule_replay.proofs.ending.live_ranges.Goals as goal
use Rattle.schedule_replay.proofs.ending.live_ranges.Goals.{in-Some+in_ok-push, in_default}

pub loop-slot-preserved : goal.loop-slot-preserved
loop-slot-preserved c =
    let b = c.args.book.now in
    let slot = c.loop-slot.slot in
    let inside : slot < length b.slots = omega (arith, c.requires.slots) in
    elim c.match-live.branch [
      | in-Some+in_ok-push w ↦
          ap (λ (v : Vec Done Global). v.items) w.live-is
          ∙ w.in_ok-push.ensures.items
          ∙ ap (λ (l : List Done). l ++ as_done w.in-Some.piece ∷ []) c.loop-slot.invariant
          ∙ sym (below_some b slot inside w.in-Some.piece (sym c.live.ensures ∙ w.in-Some.is))
      | in_default w ↦
          ap (λ (v : Vec Done Global). v.items) w.live-is
          ∙ c.loop-slot.invariant
          ∙ sym (below_none b slot inside (sym c.live.ensures ∙ w.in_default.is))
    ]

pub returns-clause-all : goal.returns-clause-all
returns-clause-all c =
    all_moved c.args.book.now c.loop-slot.slot c.loop-slot.live.items c.sort_by.new.self.items (omega (arith, c.requires.slots)) c.loop-slot.invariant c.in_ok-sort_by.ensures.permutation

pub returns-clause-ascending : goal.returns-clause-ascending
returns-clause-ascending c = sorted_from_sort_by done_cmp done_total c.sort_by.new.self.items c.in_ok-sort_by.ensures.sorted (λ a r q k. search rules)
