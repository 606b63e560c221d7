use Rattle.std.proofs.Common.{◌≡◌, ◌<◌, ◌∙◌, true, List, map, rules, refl, sym, ap, subst, arith}
use Rattle.std.proofs.lemmas.Result.{err_from_is_err_and}
use Rattle.std.specs.List.{list_any}
use Rattle.beam_ports.specs.declared.store.Opened.{Opened}
use Rattle.beam_values.specs.declared.piece.Piece.{Piece}
use Rattle.known_jobs.specs.Calls.{holds_end}
use Rattle.bundle_work.specs.Reading.{length_in}
use Rattle.bundle_work.specs.declared.reading.Reader.{Reader}
use Rattle.bundle_work.proofs.Answered.{kit_onward, kit_same}
use Rattle.combine_plan.proofs.PieceWork.{left_all, left_behind, left_more, left_none, left_refused}
use Rattle.combine_plan.proofs.folding.fold_piece.Goals as goal

pub bundles-init : goal.bundles-init
bundles-init g c =
    let r = c.requires.1.1.1.1.1.1 in
    let piece = c.args.piece.now in
    let f = c.args.kit.now.shelf in
    let s = c.args.kit.now.store in
    let t = c.args.partials.now in
    record {
      left = left_none g.F.Shelf.strict g.F.Shelf.faults g.S.Store.files g.S.Store.faults g.S.Store.opened g.C.Combiner.stands g.C.Combiner.takes g.setting.known c.args.graph.now c.args.attempts piece f f f s s s t t t
          (record piece { attempts = 0 }) (refl {A = Piece}) c.to-end.ensures.ordered (omega arith);
      reading = r.1.1.1.1.1.0;
      readers = refl {A = List Reader};
      kept = kit_same g.F.Shelf.faults g.F.Shelf.strict g.S.Store.faults g.S.Store.files g.S.Store.opened f s;
      files = refl {A = List Opened};
    }

pub skim_piece-requires : goal.skim_piece-requires
skim_piece-requires g c κs within =
    let r = c.requires.1.1.1.1.1.1 in
    let i = c.bundles.invariant in (
      search rules,
      (search rules, (search rules, (search rules, (search rules, (search rules, (r.0, (i.left.limit, ((λ is. i.kept.strict ∙ r.1.1.1.1.0 is), i.reading)))))))),
    )

pub returns-in_err-rest-clause-refused : goal.returns-in_err-rest-clause-refused
returns-in_err-rest-clause-refused g c =
    let i = c.bundles.invariant in
    let p = err_from_is_err_and c.from_residual.result c.from_residual.ensures.1 in
    rw (p.1, p.2)
    (left_refused g.F.Shelf.strict g.F.Shelf.faults g.S.Store.files g.S.Store.faults g.S.Store.opened g.C.Combiner.stands g.C.Combiner.takes g.setting.known c.args.graph.now c.args.attempts c.args.piece.now
    c.args.kit.now.shelf c.bundles.kit.shelf c.skim_piece.new.kit.shelf c.args.kit.now.store c.bundles.kit.store c.skim_piece.new.kit.store c.args.partials.now c.bundles.partials c.skim_piece.new.partials
    (omega arith) i.kept c.in_err-rest.ensures.kept c.bundles.rest i.left c.in_err-rest.field-0.0 c.in_err-rest.ensures.refused)

pub returns-then-from-end-clause-folded : goal.returns-then-from-end-clause-folded
returns-then-from-end-clause-folded g c =
    let i = c.bundles.invariant in
    left_all g.F.Shelf.strict g.F.Shelf.faults g.S.Store.files g.S.Store.faults g.S.Store.opened g.C.Combiner.stands g.C.Combiner.takes g.setting.known c.args.graph.now c.args.attempts c.args.piece.now
    c.args.kit.now.shelf c.skim_piece.new.kit.shelf c.skim_piece.new.kit.shelf c.args.kit.now.store c.skim_piece.new.kit.store c.skim_piece.new.kit.store c.args.partials.now c.skim_piece.new.partials
    c.skim_piece.new.partials c.in_ok-rest.rest (omega arith)
    (left_behind g.F.Shelf.strict g.F.Shelf.faults g.S.Store.files g.S.Store.faults g.S.Store.opened g.C.Combiner.stands g.C.Combiner.takes g.setting.known c.args.graph.now c.args.attempts c.args.piece.now
    c.args.kit.now.shelf c.bundles.kit.shelf c.skim_piece.new.kit.shelf c.args.kit.now.store c.bundles.kit.store c.skim_piece.new.kit.store c.args.partials.now c.bundles.partials c.skim_piece.new.partials
    (omega arith) i.kept c.skim_piece.ensures.kept c.bundles.rest c.in_ok-rest.rest i.left c.in_ok-rest.ensures.left)

pub fold_bundle-requires : goal.fold_bundle-requires
fold_bundle-requires g c κs within =
    let r = c.requires.1.1.1.1.1.1 in
    let i = c.bundles.invariant in
    let rest = c.in_ok-rest.rest in
    let left =
    (left_behind g.F.Shelf.strict g.F.Shelf.faults g.S.Store.files g.S.Store.faults g.S.Store.opened g.C.Combiner.stands g.C.Combiner.takes g.setting.known c.args.graph.now c.args.attempts c.args.piece.now
    c.args.kit.now.shelf c.bundles.kit.shelf c.skim_piece.new.kit.shelf c.args.kit.now.store c.bundles.kit.store c.skim_piece.new.kit.store c.args.partials.now c.bundles.partials c.skim_piece.new.partials
    (omega arith) i.kept c.skim_piece.ensures.kept c.bundles.rest c.in_ok-rest.rest i.left c.in_ok-rest.ensures.left) in
    let some : rest.range.from < rest.range.to = omega (arith, left.behind, ap (λ (p : Piece). p.range.to) left.same) in
    let inside = r.1.1.1.0 (omega (arith, left.behind, ap (λ (p : Piece). p.range.to) left.same)) in (
      search rules,
      (
        search rules,
        (
          search rules,
          (
            search rules,
            (
              search rules,
              (
                search rules,
                (
                  r.0,
                  (
                    some,
                    (
                      subst (λ (p : Piece). list_any (holds_end p) g.setting.files ≡ true) (sym left.same) inside,
                      (
                        left.limit,
                        (
                          (λ is. (kit_onward g.F.Shelf.faults g.F.Shelf.strict g.S.Store.faults g.S.Store.files g.S.Store.opened c.args.kit.now.shelf c.bundles.kit.shelf c.skim_piece.new.kit.shelf c.args.kit.now.store c.bundles.kit.store
                              c.skim_piece.new.kit.store i.kept c.skim_piece.ensures.kept).strict ∙ r.1.1.1.1.0 is),
                          (c.in_ok-rest.ensures.reading, ap (map length_in) (◌∙◌ {A = List Reader} c.in_ok-rest.ensures.readers i.readers) ∙ r.1.1.1.1.1.1),
                        ),
                      ),
                    ),
                  ),
                ),
              ),
            ),
          ),
        ),
      ),
    )

pub returns-in_err-rest-2-clause-refused : goal.returns-in_err-rest-2-clause-refused
returns-in_err-rest-2-clause-refused g c =
    let i = c.bundles.invariant in
    let p = err_from_is_err_and c.from_residual-in_err-rest-2.result c.from_residual-in_err-rest-2.ensures.1 in
    rw (p.1, p.2)
    (left_refused g.F.Shelf.strict g.F.Shelf.faults g.S.Store.files g.S.Store.faults g.S.Store.opened g.C.Combiner.stands g.C.Combiner.takes g.setting.known c.args.graph.now c.args.attempts c.args.piece.now
    c.args.kit.now.shelf c.skim_piece.new.kit.shelf c.fold_bundle.new.kit.shelf c.args.kit.now.store c.skim_piece.new.kit.store c.fold_bundle.new.kit.store c.args.partials.now c.skim_piece.new.partials
    c.fold_bundle.new.partials (omega arith)
    (kit_onward g.F.Shelf.faults g.F.Shelf.strict g.S.Store.faults g.S.Store.files g.S.Store.opened c.args.kit.now.shelf c.bundles.kit.shelf c.skim_piece.new.kit.shelf c.args.kit.now.store c.bundles.kit.store
    c.skim_piece.new.kit.store i.kept c.skim_piece.ensures.kept)
    c.in_err-rest-2.ensures.kept c.in_ok-rest.rest
    (left_behind g.F.Shelf.strict g.F.Shelf.faults g.S.Store.files g.S.Store.faults g.S.Store.opened g.C.Combiner.stands g.C.Combiner.takes g.setting.known c.args.graph.now c.args.attempts c.args.piece.now
    c.args.kit.now.shelf c.bundles.kit.shelf c.skim_piece.new.kit.shelf c.args.kit.now.store c.bundles.kit.store c.skim_piece.new.kit.store c.args.partials.now c.bundles.partials c.skim_piece.new.partials
    (omega arith) i.kept c.skim_piece.ensures.kept c.bundles.rest c.in_ok-rest.rest i.left c.in_ok-rest.ensures.left)
    c.in_err-rest-2.field-0.0 c.in_err-rest-2.ensures.refused)

pub bundles-preserved : goal.bundles-preserved
bundles-preserved g c =
    let i = c.bundles.invariant in
    let done = c.in_ok-rest-2.ensures in
    let kept =
    (kit_onward g.F.Shelf.faults g.F.Shelf.strict g.S.Store.faults g.S.Store.files g.S.Store.opened c.args.kit.now.shelf c.bundles.kit.shelf c.skim_piece.new.kit.shelf c.args.kit.now.store c.bundles.kit.store
    c.skim_piece.new.kit.store i.kept c.skim_piece.ensures.kept) in
    record {
      left = left_more g.F.Shelf.strict g.F.Shelf.faults g.S.Store.files g.S.Store.faults g.S.Store.opened g.C.Combiner.stands g.C.Combiner.takes g.setting.known c.args.graph.now c.args.attempts c.args.piece.now
          c.args.kit.now.shelf c.skim_piece.new.kit.shelf c.fold_bundle.new.kit.shelf c.args.kit.now.store c.skim_piece.new.kit.store c.fold_bundle.new.kit.store c.args.partials.now c.skim_piece.new.partials
          c.fold_bundle.new.partials (omega arith) kept done.kept c.in_ok-rest.rest c.in_ok-rest-2.rest
          (left_behind g.F.Shelf.strict g.F.Shelf.faults g.S.Store.files g.S.Store.faults g.S.Store.opened g.C.Combiner.stands g.C.Combiner.takes g.setting.known c.args.graph.now c.args.attempts c.args.piece.now
          c.args.kit.now.shelf c.bundles.kit.shelf c.skim_piece.new.kit.shelf c.args.kit.now.store c.bundles.kit.store c.skim_piece.new.kit.store c.args.partials.now c.bundles.partials c.skim_piece.new.partials
          (omega arith) i.kept c.skim_piece.ensures.kept c.bundles.rest c.in_ok-rest.rest i.left c.in_ok-rest.ensures.left)
          done.done;
      reading = done.reading;
      readers = ◌∙◌ {A = List Reader} done.readers (◌∙◌ {A = List Reader} c.in_ok-rest.ensures.readers i.readers);
      kept = kit_onward g.F.Shelf.faults g.F.Shelf.strict g.S.Store.faults g.S.Store.files g.S.Store.opened c.args.kit.now.shelf c.skim_piece.new.kit.shelf c.fold_bundle.new.kit.shelf c.args.kit.now.store
          c.skim_piece.new.kit.store c.fold_bundle.new.kit.store kept done.kept;
      files = ◌∙◌ {A = List Opened} done.files (◌∙◌ {A = List Opened} c.in_ok-rest.ensures.files i.files);
    }
