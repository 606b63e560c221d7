use Rattle.std.proofs.Common.{rules, ◌≡◌, ◌++◌, ◌∷◌, [], true, subst, sym, ◌∙◌}
use Rattle.beam_values.specs.Nodes.{is_stateful}
use Rattle.stateful_core.specs.Names.{AreRoutes, names_of}
use Rattle.stateful_core.specs.Seen.{cells_of}
use Rattle.stateful_core.proofs.ByIndex.{found_first, fresh_here, routes_more}
use Rattle.stateful_core.proofs.routing.route.Goals as goal

pub returns-then-not-is_stateful-clause-kept : goal.returns-then-not-is_stateful-clause-kept
returns-then-not-is_stateful-clause-kept c = found_first c.args.index.now.numbers.places (cells_of c.args.slots.now) (cells_of c.args.routed.now.fresh.items) c.requires.found

pub returns : goal.returns
returns c =
    let on : is_stateful c.args.plan.now c.args.arrival.now.node ≡ true = search rules in
    let cells = cells_of c.args.slots.now in
    let before = cells_of c.args.routed.now.fresh.items in
    let after = cells_of c.number_of_arrival.new.fresh.items in
    let numbered = c.in_ok-number.ensures.ok in
    record {
      kept = c.number_of_arrival.ensures.kept;
      ok = record {
        fresh = numbered.fresh ∙ fresh_here c.args.plan.now cells before c.args.arrival.now on;
        found = numbered.found;
        routes = λ arrivals h.
            subst (AreRoutes c.args.plan.now (names_of (cells_of c.args.slots.now ++ cells_of c.number_of_arrival.new.fresh.items)) (arrivals ++ c.args.arrival.now ∷ []))
            (sym c.in_ok-push_back.ensures.items)
            (routes_more c.args.plan.now cells before after c.number_of_arrival.new.index.numbers.places arrivals c.args.arrival.now c.args.routed.now.routes.items c.in_ok-number.number on numbered h);
      };
    }
