use Rattle.std.proofs.Common.{◌≡◌, ℕ, List, ◌++◌, ap, append_assoc, ◌∙◌}
use Rattle.std.proofs.lemmas.Result.{on_ok_weaker}
use Rattle.schedule_replay.specs.Replays.{break}
use Rattle.schedule_replay.proofs.ending.push_outcome.Goals as goal

pub returns : goal.returns
returns c =
    let text = c.in_ok-text.text in
    let first = c.push_break.new.out in
    on_ok_weaker c.extend_from_slice.result
    (λ (is : c.extend_from_slice.new.self ≡ first ++ c.as_slice.result.now). (
      text,
      c.in_ok-text.ensures,
      is
          ∙ ap (λ (l : List ℕ). first ++ l) c.as_slice.ensures
          ∙ ap (λ (l : List ℕ). l ++ text) c.in_ok-push_break.ensures
          ∙ append_assoc c.args.out.now break text,
    ))
    c.extend_from_slice.ensures.ok
