use Rattle.std.proofs.Common.{◌∙◌, arith, length-append}
use Rattle.sdf_library.proofs.Filling.{filled_on}
use Rattle.sdf_library.proofs.reading.fill.Goals as goal

pub loop-done-preserved : goal.loop-done-preserved
loop-done-preserved g c =
    let before = c.loop-done.invariant in
    let read = c.in_ok-done.ensures in
    let halves = c.split_at_mut-rest.ensures in
    record {
      kept = λ file opening is. read.kept file opening (before.kept file opening is);
      within = omega (arith, length-append c.split_at_mut-rest.result.0.now c.fill_front.new.buffer, read.size, halves.front_len, halves.back_len, c.fill_front.auto.buffer);
      told = read.told ∙ before.told;
      counts = omega (arith, read.counts, before.counts);
      bytes = λ text is. filled_on c.split_at_mut-rest.result.0.now c.fill_front.new.buffer text c.args.at c.loop-done.done c.in_ok-done.field-0
          halves.front_len (halves.front ∙ before.bytes text is) (read.bytes text (before.kept _ _ is));
    }
