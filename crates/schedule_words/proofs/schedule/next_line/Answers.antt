use Rattle.std.proofs.Common.{◌≡◌, ◌==◌, ℕ, ◌+◌, ◌<◌, false, List, ◌∷◌, length, take, drop, ap, sym, ◌∙◌, arith}
use Rattle.std.proofs.lemmas.Bool.Decides.{nat_tests}
use Rattle.beam_values.specs.Lines.{is_line_feed}
use Rattle.schedule_words.specs.Schedules.{lines_of}
use Rattle.schedule_words.proofs.Cuts.{cut_none, cut_some, line_alone, line_before}
use Rattle.schedule_words.proofs.schedule.next_line.Goals as goal

pub returns-in-Some : goal.returns-in-Some
returns-in-Some c =
    let text = c.args.text.now in
    let at = c.in-Some.at in (
      line_before text (take at text) (drop (at + 1) text) (cut_some is_line_feed text at c.in-Some.ensures)
          ∙ ap (λ (line : List ℕ). line ∷ lines_of (drop (at + 1) text)) (sym c.split_at.ensures.front)
          ∙ ap (λ (rest : List ℕ). c.split_at.result.0.now ∷ lines_of rest) (sym c.split_at-in-Some.ensures.back),
      omega (arith, c.split_at-in-Some.ensures.back_len),
    )

pub returns-in-None : goal.returns-in-None
returns-in-None c =
    let text = c.args.text.now in
    let test : (length text == 0) ≡ false = sym c.is_empty.ensures ∙ c.if-is_empty.false in
    let some : 0 < length text = grind (arith, nat_tests) in
    (line_alone text some (cut_none is_line_feed text c.in-None.ensures), some)
