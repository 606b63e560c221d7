use Rattle.std.proofs.Common.{inr, List, map, refl, sym, subst}
use denote.Param.Send.{sendable}
use Rattle.std.specs.Prelude.{IfErr, IfOk}
use Rattle.std.specs.List.{All}
use Rattle.beam_values.specs.declared.piece.Piece.{Piece}
use Rattle.beam_ports.specs.Observed.{observed_store}
use Rattle.bundle_work.specs.Reading.{opened_lengths}
use Rattle.chain_exec.specs.Causes.{observed_shelf}
use Rattle.split_core.specs.Partition.{range_of}
use Rattle.combine_plan.specs.Combined.{known_of}
use Rattle.combine_plan.specs.Dealing.{IsWithin}
use Rattle.combine_plan.specs.Folding.{IsFold, IsFoldRefused}
use Rattle.combine_plan.proofs.crew.fold_seat.Goals as goal

pub fold_pieces-requires : goal.fold_pieces-requires
fold_pieces-requires g c κs within =
    let pieces = subst (λ (l : List Piece). All (IsWithin (opened_lengths c.args.graph.now c.args.kit.now.files)) l) (sym c.as_slice-hand.ensures) c.requires.hand.within in (
      within.0,
      (
        within.1.0,
        (
          within.1.1.0,
          (
            within.1.1.1,
            (
              search (c.type_bounds.send-F, sendable) depth 40,
              (search (c.type_bounds.send-S, sendable) depth 40, (refl, (c.requires.allowed.attempts.0, (c.requires.allowed.attempts.1, (record { opened = c.requires.hand.opened; lengths = refl; told = inr (inr refl); strict = λ is. is }, pieces))))),
            ),
          ),
        ),
      ),
    )

pub returns : goal.returns
returns g c =
    let plan = c.args.graph.now in
    let shelf = observed_shelf g.F.Shelf.strict g.F.Shelf.faults c.args.kit.now.shelf c.fold_pieces.new.kit.shelf in
    let store = observed_store g.S.Store.files g.S.Store.faults c.args.kit.now.store c.fold_pieces.new.kit.store in
    let known = known_of shelf store in
    record {
      hand = refl;
      folded = record {
        folded = subst (λ (l : List Piece). IfOk c.fold_pieces.result (IsFold g.C.Combiner.stands known plan (map range_of l))) c.as_slice-hand.ensures c.fold_pieces.ensures.folded;
        refused =
            subst (λ (l : List Piece). IfErr c.fold_pieces.result (IsFoldRefused g.C.Combiner.takes known shelf store plan c.args.options.now.attempts (map range_of l) 0)) c.as_slice-hand.ensures
            c.fold_pieces.ensures.refused;
      };
      files = c.fold_pieces.ensures.files;
      kept = c.fold_pieces.ensures.kept;
    }
