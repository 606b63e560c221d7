use Rattle.std.proofs.Common.{◌≡◌, ℕ, ◌+◌, List, [], ◌∷◌, ◌++◌, length, length-append, append_assoc, refl, rules, sym, ap, ◌∙◌, subst, arith}
use Rattle.std.proofs.lemmas.List.{append-nil}
use Rattle.std.proofs.lemmas.Result.{err_from_is_err_and}
use Rattle.beam_ports.specs.Observed.{observed_store}
use Rattle.bundle_work.proofs.Answered.{kit_onward, kit_same}
use Rattle.chain_exec.specs.Causes.{observed_shelf}
use Rattle.schedule_words.specs.Schedules.{lines_of}
use Rattle.schedule_words.specs.Told.{told_text}
use Rattle.schedule_replay.specs.Reaching.{AreLinesWorked}
use Rattle.schedule_replay.specs.Shown.{shown}
use Rattle.schedule_replay.proofs.Reached.{lines_more, lines_none, refused_at}
use Rattle.schedule_replay.proofs.schedule.work_lines.Goals as goal

pub lines-init : goal.lines-init
lines-init g c =
    let r = c.requires.1.1.1.1 in
    let kit = c.args.kit.now in
    record {
      done = [];
      split = refl;
      counted = refl;
      short = omega (arith, r.1.1.1.1);
      worked = lines_none g.base g.F.Shelf.strict g.F.Shelf.faults g.S.Store.files g.S.Store.faults kit.shelf kit.store (shown c.args.stand.now) c.args.out.now;
      standing = r.1.1.1.0;
      reading = r.1.1.0;
      kept = kit_same g.F.Shelf.faults g.F.Shelf.strict g.S.Store.faults g.S.Store.files g.S.Store.opened kit.shelf kit.store;
      files = refl;
    }

pub overflow_add-number : goal.overflow_add-number
overflow_add-number g c = omega (arith, c.lines.invariant.short)

pub returns-in-Err-clause-refused : goal.returns-in-Err-clause-refused
returns-in-Err-clause-refused g c =
    let i = c.lines.invariant in
    let is : lines_of c.args.schedule.now ≡ i.done ++ c.in-Some.words.now ∷ lines_of c.in-Some.after.now = i.split ∙ ap (λ (l : List (List ℕ)). i.done ++ l) c.in-Some.ensures.0 in
    let counted : c.lines.number + 1 ≡ length i.done + 1 = ap (λ (n : ℕ). n + 1) i.counted in
    refused_at g.base (observed_shelf g.F.Shelf.strict g.F.Shelf.faults c.args.kit.now.shelf c.lines.kit.shelf) (observed_store g.S.Store.files g.S.Store.faults c.args.kit.now.store c.lines.kit.store)
    (shown c.args.stand.now) (shown c.lines.stand) (lines_of c.args.schedule.now) i.done (lines_of c.in-Some.after.now) c.in-Some.words.now is c.args.out.now c.lines.out i.worked c.look_at_panes.ensures
    (c.lines.number + 1) counted c.in-Err.refusal c.in-Err.ensures.refused

pub returns-in-Err-clause-kept : goal.returns-in-Err-clause-kept
returns-in-Err-clause-kept g c = c.lines.invariant.kept

pub returns-in-Err-clause-files : goal.returns-in-Err-clause-files
returns-in-Err-clause-files g c = c.lines.invariant.files

pub work-requires : goal.work-requires
work-requires g c κs within =
    let i = c.lines.invariant in
    let r = c.requires.1.1.1.1 in (
      search rules,
      (
        search rules,
        (
          search rules,
          (search rules, (r.0, ((λ is. i.kept.strict ∙ r.1.0 is), (i.reading, (i.standing, (c.in-Ok.ensures.may, c.in-Ok.ensures.proper)))))),
        ),
      ),
    )

pub returns-in_err-told-clause-worked : goal.returns-in_err-told-clause-worked
returns-in_err-told-clause-worked g c = let p = err_from_is_err_and c.from_residual.result c.from_residual.ensures.1 in rw p.1 tt

pub returns-in_err-told-clause-refused : goal.returns-in_err-told-clause-refused
returns-in_err-told-clause-refused g c = let p = err_from_is_err_and c.from_residual.result c.from_residual.ensures.1 in rw (p.1, p.2) tt

pub returns-in_err-told-clause-standing : goal.returns-in_err-told-clause-standing
returns-in_err-told-clause-standing g c = let p = err_from_is_err_and c.from_residual.result c.from_residual.ensures.1 in rw p.1 tt

pub returns-in_err-told-clause-kept : goal.returns-in_err-told-clause-kept
returns-in_err-told-clause-kept g c =
    kit_onward g.F.Shelf.faults g.F.Shelf.strict g.S.Store.faults g.S.Store.files g.S.Store.opened c.args.kit.now.shelf c.lines.kit.shelf c.work.new.kit.shelf c.args.kit.now.store c.lines.kit.store c.work.new.kit.store
    c.lines.invariant.kept c.work.ensures.kept

pub returns-in_err-told-clause-files : goal.returns-in_err-told-clause-files
returns-in_err-told-clause-files g c = c.work.ensures.files ∙ c.lines.invariant.files

pub returns-in_err-push_told-clause-worked : goal.returns-in_err-push_told-clause-worked
returns-in_err-push_told-clause-worked g c = let p = err_from_is_err_and c.from_residual-in_err-push_told.result c.from_residual-in_err-push_told.ensures.1 in rw p.1 tt

pub returns-in_err-push_told-clause-refused : goal.returns-in_err-push_told-clause-refused
returns-in_err-push_told-clause-refused g c = let p = err_from_is_err_and c.from_residual-in_err-push_told.result c.from_residual-in_err-push_told.ensures.1 in rw (p.1, p.2) tt

pub returns-in_err-push_told-clause-standing : goal.returns-in_err-push_told-clause-standing
returns-in_err-push_told-clause-standing g c = let p = err_from_is_err_and c.from_residual-in_err-push_told.result c.from_residual-in_err-push_told.ensures.1 in rw p.1 tt

pub returns-in_err-push_told-clause-kept : goal.returns-in_err-push_told-clause-kept
returns-in_err-push_told-clause-kept g c =
    kit_onward g.F.Shelf.faults g.F.Shelf.strict g.S.Store.faults g.S.Store.files g.S.Store.opened c.args.kit.now.shelf c.lines.kit.shelf c.work.new.kit.shelf c.args.kit.now.store c.lines.kit.store c.work.new.kit.store
    c.lines.invariant.kept c.work.ensures.kept

pub returns-in_err-push_told-clause-files : goal.returns-in_err-push_told-clause-files
returns-in_err-push_told-clause-files g c = c.work.ensures.files ∙ c.lines.invariant.files

pub lines-smaller : goal.lines-smaller
lines-smaller g c = c.in-Some.ensures.1

pub lines-preserved : goal.lines-preserved
lines-preserved g c =
    let i = c.lines.invariant in
    let words = c.in-Some.words.now in
    let split : lines_of c.args.schedule.now ≡ (i.done ++ words ∷ []) ++ lines_of c.in-Some.after.now =
    i.split ∙ ap (λ (l : List (List ℕ)). i.done ++ l) c.in-Some.ensures.0 ∙ sym (append_assoc i.done (words ∷ []) (lines_of c.in-Some.after.now))
    in
    let counted : c.lines.number + 1 ≡ length (i.done ++ words ∷ []) = omega (arith, i.counted, length-append i.done (words ∷ [])) in
    let short = i.short in
    let less = c.in-Some.ensures.1 in
    record {
      done = i.done ++ words ∷ [];
      split = split;
      counted = counted;
      short = omega (arith, short, less);
      worked =
          lines_more g.base g.F.Shelf.strict g.F.Shelf.faults g.S.Store.files g.S.Store.faults c.args.kit.now.shelf c.lines.kit.shelf c.work.new.kit.shelf c.args.kit.now.store c.lines.kit.store c.work.new.kit.store
          (shown c.args.stand.now) (shown c.lines.stand) (shown c.work.new.stand) i.done words c.in-Ok.line c.args.out.now c.lines.out c.push_told.new.out (told_text c.in_ok-told.told) i.worked c.in-Ok.ensures.is c.in-Ok.ensures.may
          c.in_ok-told.ensures.done c.in_ok-push_told.ensures;
      standing = c.in_ok-told.ensures.standing;
      reading = c.work.ensures.reading;
      kept = kit_onward g.F.Shelf.faults g.F.Shelf.strict g.S.Store.faults g.S.Store.files g.S.Store.opened c.args.kit.now.shelf c.lines.kit.shelf c.work.new.kit.shelf c.args.kit.now.store c.lines.kit.store
          c.work.new.kit.store i.kept c.work.ensures.kept;
      files = c.work.ensures.files ∙ i.files;
    }

pub returns-clause-worked : goal.returns-clause-worked
returns-clause-worked g c =
    let i = c.lines.invariant in
    let none : lines_of c.lines.rest.now ≡ [] = c.in_default.ensures in
    let all : lines_of c.args.schedule.now ≡ i.done = i.split ∙ ap (λ (l : List (List ℕ)). i.done ++ l) none ∙ append-nil i.done in
    subst
    (λ (l : List (List ℕ)). AreLinesWorked g.base (observed_shelf g.F.Shelf.strict g.F.Shelf.faults c.args.kit.now.shelf c.lines.kit.shelf) (observed_store g.S.Store.files g.S.Store.faults c.args.kit.now.store c.lines.kit.store)
    (shown c.args.stand.now) l (shown c.lines.stand) c.args.out.now c.lines.out)
    (sym all) i.worked

pub returns-clause-standing : goal.returns-clause-standing
returns-clause-standing g c = c.lines.invariant.standing

pub returns-clause-kept : goal.returns-clause-kept
returns-clause-kept g c = c.lines.invariant.kept

pub returns-clause-files : goal.returns-clause-files
returns-clause-files g c = c.lines.invariant.files
