use Rattle.std.proofs.Common.{rules, ◌≡◌, ◌+◌, ◌++◌, ◌∷◌, [], length-append, map, sym, ap, subst, ◌∙◌, append_assoc, arith}
use Rattle.std.specs.List.{AllByRecursion, sum_by}
use Rattle.std.specs.Vec.Iter.{into_iter_items}
use Rattle.std.proofs.lemmas.List.{map-append}
use Rattle.std.proofs.lemmas.List.Sums.{sum_by_push}
use Rattle.beam_values.specs.declared.fault.Cause.TheVariants.{Call, Read}
use Rattle.retry_core.specs.Shares.{risen, share_after}
use Rattle.retry_core.specs.declared.share.FaultShare.{FaultShare}
use Rattle.turn_desk.specs.Notes.{size_of}
use Rattle.worker_table.specs.Notes.{Entry}
use Rattle.worker_table.specs.Passes.{entry_of, note_of_pass}
use Rattle.worker_loop.specs.Workers.{HasSat, no_faults, share_with}
use Rattle.worker_loop.specs.declared.crew.Seat.{Seat}
use Rattle.worker_loop.proofs.Crews.{one_entry, share_sum}
use Rattle.worker_loop.proofs.crew.gather.Goals as goal

abbrev entry_at : Seat → Entry
entry_at seat = entry_of seat.pass

pub loop-seat-preserved : goal.loop-seat-preserved
loop-seat-preserved c =
    let i = c.loop-seat.invariant in
    let seat = c.in-Some.seat in
    let before = c.loop-seat.yielded in
    let items : into_iter_items c.loop-seat.seat-iterator ≡ seat ∷ into_iter_items c.next.new.self = search rules in
    let left = subst (AllByRecursion (HasSat c.args.table.now)) items i.left in
    let sat = left.0 in
    let note = c.join_pass.ensures.note in
    let own = note_of_pass c.loop-seat.pass in
    let theirs = note_of_pass seat.pass in
    let calls = sum_by_push (λ (s : Seat). (entry_of s.pass).calls) before seat in
    let reads = sum_by_push (λ (s : Seat). (entry_of s.pass).reads) before seat in
    record {
      whole = i.whole ∙ ap (λ l. before ++ l) items ∙ sym (append_assoc before (seat ∷ []) (into_iter_items c.next.new.self));
      left = left.1;
      table = c.join_pass.ensures.table;
      about =
          ap (λ n. n.about) note
          ∙ ap (λ l. own.about ++ l) (one_entry theirs.about sat.one)
          ∙ ap (λ l. l ++ entry_at seat ∷ []) i.about
          ∙ append_assoc (note_of_pass c.args.pass.now).about (map entry_at before) (entry_at seat ∷ [])
          ∙ ap (λ l. (note_of_pass c.args.pass.now).about ++ l) (sym (map-append entry_at before (seat ∷ [])));
      size =
          let s = ap size_of note in let one = sat.size in let was = i.size in
          omega (arith, length-append own.numbers theirs.numbers, length-append before (seat ∷ []));
      ends = c.push_reserved.ensures.items ∙ ap (λ l. l ++ seat.end ∷ []) i.ends ∙ sym (map-append (λ (s : Seat). s.end) before (seat ∷ []));
      room = search rules;
      share =
          c.rise-in-loop-seat.ensures
          ∙ ap (λ (s : FaultShare). share_after s Read seat.share.reads) (c.rise.ensures ∙ ap (λ (s : FaultShare). share_after s Call seat.share.calls) i.share)
          ∙ ap (λ (s : FaultShare). record {
            calls = risen (risen 0 (sum_by (λ (s : Seat). (entry_of s.pass).calls) before)) s.calls;
            reads = risen (risen 0 (sum_by (λ (s : Seat). (entry_of s.pass).reads) before)) s.reads;
          }) sat.share
          ∙ share_sum (sum_by (λ (s : Seat). (entry_of s.pass).calls) before) (sum_by (λ (s : Seat). (entry_of s.pass).reads) before) (entry_at seat).calls (entry_at seat).reads
          ∙ ap (λ n. share_with no_faults n (sum_by (λ (s : Seat). (entry_of s.pass).reads) before + (entry_at seat).reads)) (sym calls)
          ∙ ap (λ n. share_with no_faults (sum_by (λ (s : Seat). (entry_of s.pass).calls) (before ++ seat ∷ [])) n) (sym reads);
    }
