use Rattle.std.proofs.Common.{◌≡◌, ◌⊎◌, [], List, length, map, refl, sym, ap, subst, ◌∙◌, arith}
use Rattle.std.specs.Prelude.{None}
use Rattle.std.specs.List.{AllByRecursion}
use Rattle.std.proofs.lemmas.Option.{slice_get_read}
use Rattle.std.proofs.lemmas.Result.{IfErr-weaker, IfOk-weaker}
use Rattle.beam_values.specs.declared.piece.FileLen.{FileLen}
use Rattle.beam_values.specs.declared.piece.Piece.{Piece}
use Rattle.bundle_work.specs.Kits.{observed_shelves, observed_stores, told_by}
use Rattle.bundle_work.specs.Openings.{AreOpened, file_names}
use Rattle.bundle_work.specs.Reading.{opened_lengths}
use Rattle.bundle_work.specs.declared.kit.Kit.{Kit}
use Rattle.bundle_work.proofs.Answered.{kit_same}
use Rattle.split_core.specs.Partition.{IsPartition, range_of}
use Rattle.combine_plan.specs.Dealing.{AreDealt, ranges_in}
use Rattle.combine_plan.proofs.Covering.{all_ranges, all_refused, can_fold, lengths_of_all, of_first}
use Rattle.combine_plan.proofs.Dealt.{dealt_ranges, hands_within}
use Rattle.combine_plan.proofs.Seats.{each_same, told_each}
use Rattle.combine_plan.proofs.plan.fold_items.Goals as goal

pub returns-in_err-items-clause-kept : goal.returns-in_err-items-clause-kept
returns-in_err-items-clause-kept g c =
    each_same _ (λ kit. (refl, kit_same g.F.Shelf.faults g.F.Shelf.strict g.S.Store.faults g.S.Store.files g.S.Store.opened kit.shelf kit.store)) c.args.kits.now

pub returns-in_err-pieces-clause-kept : goal.returns-in_err-pieces-clause-kept
returns-in_err-pieces-clause-kept g c =
    each_same _ (λ kit. (refl, kit_same g.F.Shelf.faults g.F.Shelf.strict g.S.Store.faults g.S.Store.files g.S.Store.opened kit.shelf kit.store)) c.args.kits.now

pub returns-in_err-hands-clause-kept : goal.returns-in_err-hands-clause-kept
returns-in_err-hands-clause-kept g c =
    each_same _ (λ kit. (refl, kit_same g.F.Shelf.faults g.F.Shelf.strict g.S.Store.faults g.S.Store.files g.S.Store.opened kit.shelf kit.store)) c.args.kits.now

pub fold_hands-requires-clause-hands : goal.fold_hands-requires-clause-hands
fold_hands-requires-clause-hands g c κs within =
    let kits = c.args.kits.now in
    let plan = c.args.graph.now in
    let files = g.S.Store.files in
    let first = c.index-kits-0.result in
    let there = slice_get_read kits (length kits) 0 first refl c.requires.some c.index-kits-0.is in
    let shown = c.as_slice.ensures ∙ ap (λ (k : Kit _ _). k.files) (sym c.index-kits-0.is) in
    let items = c.in_ok-items.items in
    let hands = c.in_ok-hands.hands.items in
    let cut = subst (λ (l : List FileLen). IsPartition l [] (map range_of c.in_ok-pieces.pieces.items)) c.as_slice-2.ensures c.in_ok-pieces.ensures in
    let dealt = subst (λ (l : List Piece). AreDealt l hands) c.as_slice-3.ensures.value c.in_ok-hands.ensures.dealt in
    let parts =
    c.the_order_of_items_and_ranges_is_no_matter.ensures items items [] (map range_of c.in_ok-pieces.pieces.items) (ranges_in hands) (record { weighs = λ weight. refl })
    (dealt_ranges c.in_ok-pieces.pieces.items hands dealt) cut in
    let exact = c.in_ok-items.ensures.exact ∙ ap (opened_lengths plan) shown in
    let met = subst (λ (l : List FileLen). AllByRecursion (λ kit. opened_lengths plan kit.files ≡ l) kits) (sym exact) (c.requires.opened.lengths first there) in
    can_fold files g.S.Store.opened plan items kits hands (omega (arith, c.in_ok-hands.ensures.count)) c.requires.opened.each met (hands_within items hands (λ place. omega (arith, parts.times place)))

pub returns-clause-folded : goal.returns-clause-folded
returns-clause-folded g c =
    let kits = c.args.kits.now in
    let plan = c.args.graph.now in
    let files = g.S.Store.files in
    let first = c.index-kits-0.result in
    let there = slice_get_read kits (length kits) 0 first refl c.requires.some c.index-kits-0.is in
    let shown = c.as_slice.ensures ∙ ap (λ (k : Kit _ _). k.files) (sym c.index-kits-0.is) in
    let items = c.in_ok-items.items in
    let hands = c.in_ok-hands.hands.items in
    let cut = subst (λ (l : List FileLen). IsPartition l [] (map range_of c.in_ok-pieces.pieces.items)) c.as_slice-2.ensures c.in_ok-pieces.ensures in
    let dealt = subst (λ (l : List Piece). AreDealt l hands) c.as_slice-3.ensures.value c.in_ok-hands.ensures.dealt in
    let parts =
    c.the_order_of_items_and_ranges_is_no_matter.ensures items items [] (map range_of c.in_ok-pieces.pieces.items) (ranges_in hands) (record { weighs = λ weight. refl })
    (dealt_ranges c.in_ok-pieces.pieces.items hands dealt) cut in
    let told = told_by (map (λ (kit : Kit _ _). files kit.store) kits) in
    let opened = of_first (λ (kit : Kit _ _). AreOpened (files kit.store) (g.S.Store.opened kit.store) (file_names plan) kit.files) kits first there c.requires.opened.each in
    let lengths = c.in_ok-items.ensures.items (files first.store) (g.S.Store.opened first.store) (subst (AreOpened (files first.store) (g.S.Store.opened first.store) (file_names plan)) (sym shown) opened) in
    let tells = of_first (λ (kit : Kit _ _). (told ≡ None) ⊎ (told ≡ files kit.store)) kits first there (told_each files kits) in
    let all = all_ranges told plan items (ranges_in hands) (lengths_of_all told (files first.store) plan items tells lengths) parts in
    IfOk-weaker c.fold_hands.result _ _ (λ table fold. record { ranges = ranges_in hands; all = all; fold = fold }) c.fold_hands.ensures.folded

pub returns-clause-refused : goal.returns-clause-refused
returns-clause-refused g c =
    let kits = c.args.kits.now in
    let plan = c.args.graph.now in
    let files = g.S.Store.files in
    let first = c.index-kits-0.result in
    let there = slice_get_read kits (length kits) 0 first refl c.requires.some c.index-kits-0.is in
    let shown = c.as_slice.ensures ∙ ap (λ (k : Kit _ _). k.files) (sym c.index-kits-0.is) in
    let items = c.in_ok-items.items in
    let hands = c.in_ok-hands.hands.items in
    let cut = subst (λ (l : List FileLen). IsPartition l [] (map range_of c.in_ok-pieces.pieces.items)) c.as_slice-2.ensures c.in_ok-pieces.ensures in
    let dealt = subst (λ (l : List Piece). AreDealt l hands) c.as_slice-3.ensures.value c.in_ok-hands.ensures.dealt in
    let parts =
    c.the_order_of_items_and_ranges_is_no_matter.ensures items items [] (map range_of c.in_ok-pieces.pieces.items) (ranges_in hands) (record { weighs = λ weight. refl })
    (dealt_ranges c.in_ok-pieces.pieces.items hands dealt) cut in
    let told = told_by (map (λ (kit : Kit _ _). files kit.store) kits) in
    let opened = of_first (λ (kit : Kit _ _). AreOpened (files kit.store) (g.S.Store.opened kit.store) (file_names plan) kit.files) kits first there c.requires.opened.each in
    let lengths = c.in_ok-items.ensures.items (files first.store) (g.S.Store.opened first.store) (subst (AreOpened (files first.store) (g.S.Store.opened first.store) (file_names plan)) (sym shown) opened) in
    let tells = of_first (λ (kit : Kit _ _). (told ≡ None) ⊎ (told ≡ files kit.store)) kits first there (told_each files kits) in
    let all = all_ranges told plan items (ranges_in hands) (lengths_of_all told (files first.store) plan items tells lengths) parts in
    let shelf = observed_shelves g.F.Shelf.strict g.F.Shelf.faults kits c.fold_hands.new.kits in
    let store = observed_stores files g.S.Store.faults kits c.fold_hands.new.kits in
    IfErr-weaker c.fold_hands.result _ _ (all_refused g.C.Combiner.takes shelf store plan c.args.options.now.attempts (ranges_in hands) all) c.fold_hands.ensures.refused
