use Rattle.std.proofs.Common.{◌≡◌, Bool, true, false, List, [], ℕ, inr, map, subst, sym, ap, ◌∙◌, rules, arith}
use Rattle.std.specs.Bool.{OnTrue}
use Rattle.beam_model.specs.Texts.{words}
use Rattle.beam_model.specs.Values.{blob}
use Rattle.combine_views.specs.Lines.{HasTakenUpTo}
use Rattle.combine_views.specs.Words.{element_of_word}
use Rattle.combine_views.proofs.Adding.{one_more, some_taken, still_kept}
use Rattle.combine_views.proofs.EachGiven.{part_of_none}
use Rattle.combine_views.proofs.word_parts.add_words.Goals as goal

if_true : {P : Type 0} {b : Bool} → b ≡ true → OnTrue b P → P
if_true {P} is holds = subst (λ (b : Bool). OnTrue b P) is holds

pub returns-in_err-add_word-clause-err : goal.returns-in_err-add_word-clause-err
returns-in_err-add_word-clause-err g c =
    let each = c.args.each.now in
    let all = map (element_of_word each) in
    some_taken g.C.Combiner.stands (all (words c.args.text.now)) (all (words c.in-Some.after.now)) c.args.partials.now c.loop-word.partials c.add_word.new.partials c.from_residual.result
    (element_of_word each c.in-Some.word.now)
    (subst (λ (texts : List (List ℕ)). HasTakenUpTo g.C.Combiner.stands (all (words c.args.text.now)) (all texts) c.args.partials.now c.loop-word.partials) c.in-Some.ensures.found
    c.loop-word.invariant.taken)
    c.in_err-add_word.ensures.err

pub returns-then-not-branch-clause-kept : goal.returns-then-not-branch-clause-kept
returns-then-not-branch-clause-kept g c =
    let each = c.args.each.now in
    let all = map (element_of_word each) in
    let no : c.in_ok-add_word.field-0 ≡ false = search rules in
    let none = part_of_none each.key each.part each.time each.span c.in-Some.word.now c.in-Empty.is in
    still_kept g.C.Combiner.stands (all (words c.args.text.now)) (all (words c.loop-word.rest.now)) c.args.partials.now c.loop-word.partials c.add_word.new.partials c.in_ok-add_word.field-0
    (g.C.Combiner.takes (blob [])) no (c.in_ok-add_word.ensures.taken ∙ ap g.C.Combiner.takes none) c.in_ok-add_word.ensures.kept c.loop-word.invariant.same

pub loop-word-preserved : goal.loop-word-preserved
loop-word-preserved g c =
    let each = c.args.each.now in
    let all = map (element_of_word each) in
    let i = c.loop-word.invariant in
    let yes : c.in_ok-add_word.field-0 ≡ true = search rules in
    let none = part_of_none each.key each.part each.time each.span c.in-Some.word.now c.in-Empty.is in
    record {
      taken =
          one_more g.C.Combiner.stands (all (words c.args.text.now)) (all (words c.in-Some.after.now)) c.args.partials.now c.loop-word.partials c.add_word.new.partials
          (element_of_word each c.in-Some.word.now)
          (subst (λ (texts : List (List ℕ)). HasTakenUpTo g.C.Combiner.stands (all (words c.args.text.now)) (all texts) c.args.partials.now c.loop-word.partials) c.in-Some.ensures.found i.taken)
          (if_true yes c.in_ok-add_word.ensures.added);
      few = omega (arith, i.few, c.in-Some.ensures.shorter, (if_true yes c.in_ok-add_word.ensures.added).parts);
      same = inr (sym (ap g.C.Combiner.takes none) ∙ sym c.in_ok-add_word.ensures.taken ∙ yes);
    }
