use Rattle.std.proofs.Common.{◌≡◌, ◌∙◌, ap, sym, subst, rules}
use Rattle.std.specs.Prelude.{IfOk}
use Rattle.std.specs.List.{flat_map}
use Rattle.std.specs.List.Sorted.{IsPartitionedBy}
use Rattle.std.proofs.lemmas.List.Sorted.{IsPartitionPoint-from_clause}
use Rattle.beam_model.specs.Functions.{found_in}
use Rattle.dofn_library.specs.Sides.{has_key, is_before}
use Rattle.dofn_library.proofs.Runs.{before_parted, found_behind, run_first}
use Rattle.dofn_library.proofs.views.found_in.Goals as goal

pub found_first-requires : goal.found_first-requires
found_first-requires c =
    let views = c.args.views.now in
    let key = c.args.key.now in
    let first = c.partition_point-first.result in
    let point =
    IsPartitionPoint-from_clause (is_before key) views first c.partition_point-first.ensures.partitioned (before_parted key views c.requires.ascending c.requires.pairs) (λ a r q k. search rules) in
    subst (IsPartitionedBy (has_key key)) (sym c.split_at.ensures.back) (run_first key views first c.requires.ascending c.requires.pairs point)

pub returns : goal.returns
returns c =
    let views = c.args.views.now in
    let key = c.args.key.now in
    let first = c.partition_point-first.result in
    let point =
    IsPartitionPoint-from_clause (is_before key) views first c.partition_point-first.ensures.partitioned (before_parted key views c.requires.ascending c.requires.pairs) (λ a r q k. search rules) in
    subst (λ all. IfOk c.found_first.result (λ found. found ≡ all)) (ap (flat_map (found_in key)) c.split_at.ensures.back ∙ found_behind key views first point) c.found_first.ensures
