use Rattle.std.proofs.Common.{ℕ, ◌+◌, List, ◌∷◌, drop, ap, sym, ◌∙◌}
use Rattle.std.specs.List.{slice_split}
use Rattle.schedule_words.specs.Schedules.{is_space}
use Rattle.schedule_words.proofs.Cuts.{cut_none, cut_some}
use Rattle.schedule_words.proofs.line.cut.Goals as goal

pub returns-in-Some : goal.returns-in-Some
returns-in-Some c =
    let text = c.args.text.now in
    let at = c.in-Some.at in
    cut_some is_space text at c.in-Some.ensures
    ∙ ap (λ (word : List ℕ). word ∷ slice_split is_space (drop (at + 1) text)) (sym c.split_at.ensures.front)
    ∙ ap (λ (rest : List ℕ). c.split_at.result.0.now ∷ slice_split is_space rest) (sym c.split_at-in-Some.ensures.back)

pub returns-in-None : goal.returns-in-None
returns-in-None c = cut_none is_space c.args.text.now c.in-None.ensures
