use Rattle.std.proofs.Common.{◌≡◌, ℕ, ◌+◌, take, drop, List, Option, Some, None, refl, ◌∙◌, append_assoc, arith}
use Rattle.std.proofs.Math.Seq.{take-add}
use Rattle.beam_ports.specs.Sinks.{then_taken}
use Rattle.command_ends.proofs.Tries.{writing_onward}
use Rattle.command_ends.proofs.writing.put_all.Goals as goal

-- the front, and then a part of the rest
then_rest : (taken : Option (List ℕ)) (text : List ℕ) (done count : ℕ) → then_taken (then_taken taken (take done text)) (take count (drop done text)) ≡ then_taken taken (take (done + count) text)
then_rest None text done count = refl
then_rest (Some before) text done count = rw (take-add done count text, ← append_assoc) refl

pub loop-done-preserved : goal.loop-done-preserved
loop-done-preserved g c =
    let known = c.loop-done.invariant in
    let write = c.in-Ok.ensures in
    let taken = rw (known.taken, c.split_at.ensures.back) at write.taken in
    record {
      within = omega (arith, write.fits, c.split_at.ensures.back_len);
      patient = write.few;
      taken = taken ∙ then_rest (g.W.Sink.taken c.args.sink.now.sink.now) c.args.text.now c.loop-done.done c.in-Ok.count;
      tried = writing_onward g.W.Sink c.args.sink.now c.loop-done.sink c.write.new.self known.tried write.tried;
    }
