use Rattle.std.proofs.Common.{◌≡◌, ◌∙◌, [], ◌∷◌, sym, ap, subst, arith, List, Option}
use Rattle.std.specs.Prelude.{MatchOption}
use Rattle.beam_values.specs.Grouping.{key_of}
use Rattle.beam_values.specs.declared.arrival.Arrival.{Arrival}
use Rattle.group_cells.specs.declared.plain.keys.Place.{Place}
use Rattle.group_cells.proofs.PlacedInTurn.{fewer_left, so_far_all, so_far_more, so_far_none}
use Rattle.group_cells.proofs.plain.keys.place_all.Goals as goal

abbrev First : List Arrival → Place → Type 0
First left place = (first : Arrival) × (rest : List Arrival) × (left ≡ first ∷ rest) × (place ≡ record { node = first.node; key = key_of first.element })

pub loop-left-init : goal.loop-left-init
loop-left-init c = record {
  placed = so_far_none c.args.plan.now c.args.before.now c.args.commit c.args.taken c.args.cells.now.items c.requires.groups;
  grown = omega arith;
}

pub loop-left-smaller : goal.loop-left-smaller
loop-left-smaller c =
    let found : First c.as_slice.result.now c.in-Some.place = subst (λ (o : Option Place). MatchOption o (c.as_slice.result.now ≡ []) (First c.as_slice.result.now)) c.in-Some.is c.in_ok-place.ensures in
    let place = c.in-Some.place in
    fewer_left c.args.plan.now c.args.before.now c.args.commit c.args.taken c.args.cells.now.items c.loop-left.left c.loop-left.cells.items found.0 found.1 place.node place.key
    c.in_ok-left.left c.place_next.new.cells.items (sym c.as_slice.ensures ∙ found.2) (ap (λ (p : Place). p.node) found.3) (ap (λ (p : Place). p.key) found.3)
    c.in_ok-left.ensures.others c.in_ok-left.ensures.placed

pub loop-left-preserved : goal.loop-left-preserved
loop-left-preserved c =
    let found : First c.as_slice.result.now c.in-Some.place = subst (λ (o : Option Place). MatchOption o (c.as_slice.result.now ≡ []) (First c.as_slice.result.now)) c.in-Some.is c.in_ok-place.ensures in
    let place = c.in-Some.place in
    record {
      placed = so_far_more c.args.plan.now c.args.before.now c.args.commit c.args.taken c.args.cells.now.items c.loop-left.left c.loop-left.cells.items found.0 found.1 place.node place.key
          c.in_ok-left.left c.place_next.new.cells.items (sym c.as_slice.ensures ∙ found.2) (ap (λ (p : Place). p.node) found.3) (ap (λ (p : Place). p.key) found.3)
          c.in_ok-left.ensures.others c.in_ok-left.ensures.placed c.loop-left.invariant.placed;
      grown = omega (arith, c.loop-left.invariant.grown, c.in_ok-left.ensures.grown);
    }

pub returns-clause-placed : goal.returns-clause-placed
returns-clause-placed c =
    let ended : c.as_slice.result.now ≡ [] = subst (λ (o : Option Place). MatchOption o (c.as_slice.result.now ≡ []) (First c.as_slice.result.now)) c.in_default.is c.in_ok-place.ensures in
    so_far_all c.args.plan.now c.args.before.now c.args.commit c.args.taken c.args.cells.now.items c.loop-left.left c.loop-left.cells.items (sym c.as_slice.ensures ∙ ended) c.loop-left.invariant.placed

pub returns-clause-grown : goal.returns-clause-grown
returns-clause-grown c = omega (arith, c.loop-left.invariant.grown)
