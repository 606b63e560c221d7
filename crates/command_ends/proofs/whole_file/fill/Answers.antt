use Rattle.std.proofs.Common.{◌≡◌, ℕ, List, ◌+◌, ◌++◌, length, take, drop, refl, sym, ap, ◌∙◌, arith, length-append}
use Rattle.std.proofs.Math.Seq.{take-add, take-append-add}
use Rattle.command_ends.proofs.Tries.{trying_onward}
use Rattle.command_ends.proofs.whole_file.fill.Goals as goal

-- what was there is the front of the text, and what comes is the text from there on
filled_more : (front buffer text : List ℕ) (done n : ℕ) → length front ≡ done → front ≡ take done text → take n buffer ≡ take n (drop done text)
    → take (done + n) (front ++ buffer) ≡ take (done + n) text
filled_more front buffer text done n size begun read =
    ap (λ k. take (k + n) (front ++ buffer)) (sym size) ∙ take-append-add front buffer n ∙ ap (λ t. t ++ take n buffer) begun
    ∙ ap (λ t. take done text ++ t) read ∙ sym (take-add done n text)

pub loop-done-preserved : goal.loop-done-preserved
loop-done-preserved g c =
    let before = c.loop-done.invariant in
    let read = c.in-Ok.ensures in
    let halves = c.split_at_mut.ensures in
    record {
      within = omega (arith, length-append c.split_at_mut.result.0.now c.read_at.new.buf, read.fits, halves.front_len, halves.back_len, c.read_at.auto.buf);
      size = omega (arith, length-append c.split_at_mut.result.0.now c.read_at.new.buf, halves.front_len, halves.back_len, c.read_at.auto.buf, before.size, before.within);
      patient = read.few;
      tried = trying_onward g.S.Store c.args.store.now c.loop-done.store c.read_at.new.self before.tried read.tried;
      bytes = λ text is size. filled_more c.split_at_mut.result.0.now c.read_at.new.buf text c.loop-done.done c.in-Ok.count
          halves.front_len (halves.front ∙ before.bytes text is size) ((read.read _ (before.tried.openings _ _ is)).bytes text refl);
    }
