use Rattle.std.proofs.Common.{arith, ap, ◌≡◌, ◌<◌, length}
use Rattle.std.proofs.lemmas.List.{length-map}
use Rattle.stateful_core.specs.Opening.{SeenKeys}
use Rattle.stateful_core.specs.Seen.{cell_of}
use Rattle.stateful_core.proofs.KeptSteps.{kept_job}
use Rattle.stateful_core.proofs.keys.Keys.start_job.Goals as goal

pub invariant_of-self : goal.invariant_of-self
invariant_of-self c =
    let was = c.self.inside in
    let less : c.args.cell < length c.self.inside.slots.items =
    omega (arith, c.requires, ap (λ (k : SeenKeys). length k.cells) c.self.view_is, length-map c.self.inside.slots.items cell_of) in
    let sized : length c.start.new.slots.items ≡ length c.self.inside.slots.items = omega (arith, c.start.ensures.len) in
    kept_job was.index.numbers.places was.trees.items c.renew_at.new.trees.items was.slots.items c.start.new.slots.items c.as_slice.result.now was.fresh.items c.args.cell c.as_slice.ensures.value
    less sized c.renew_at.ensures.due c.renew_at.ensures.places c.self.invariant c.args.bundle c.start.ensures.cells
