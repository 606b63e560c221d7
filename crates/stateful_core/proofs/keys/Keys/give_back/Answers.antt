use Rattle.std.proofs.Common.{arith, sym, ap, ◌∙◌, ◌≡◌, ◌<◌, length}
use Rattle.std.specs.Prelude.{slice_get}
use Rattle.std.specs.Option.{option_map}
use Rattle.std.proofs.lemmas.List.{length-map}
use Rattle.std.proofs.lemmas.Option.{slice_get-map}
use Rattle.stateful_core.specs.Opening.{SeenKeys}
use Rattle.stateful_core.specs.Seen.{cell_of}
use Rattle.stateful_core.proofs.KeptSteps.{kept_tried}
use Rattle.stateful_core.proofs.keys.Keys.give_back.Goals as goal

pub give_back-requires-clause-few : goal.give_back-requires-clause-few
give_back-requires-clause-few c = λ slot at.
    c.requires.few (cell_of slot)
    (sym (ap (λ (k : SeenKeys). slice_get k.cells c.args.cell) c.self.view_is) ∙ slice_get-map cell_of c.self.inside.slots.items c.args.cell ∙ ap (option_map cell_of) at)

pub invariant_of-self : goal.invariant_of-self
invariant_of-self c =
    let was = c.self.inside in
    let less : c.args.cell < length c.self.inside.slots.items =
    omega (arith, c.requires.stands, ap (λ (k : SeenKeys). length k.cells) c.self.view_is, length-map c.self.inside.slots.items cell_of) in
    let sized : length c.give_back.new.slots.items ≡ length c.self.inside.slots.items = omega (arith, c.give_back.ensures.len) in
    kept_tried was.index.numbers.places was.trees.items c.renew_at.new.trees.items was.slots.items c.give_back.new.slots.items c.as_slice.result.now was.fresh.items c.args.cell c.as_slice.ensures.value less
    sized c.renew_at.ensures.due c.renew_at.ensures.places c.self.invariant c.give_back.ensures.cells
