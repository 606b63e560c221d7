use Rattle.std.proofs.Common.{arith, ◌≡◌, ◌<◌, ◌∙◌, ap, subst, sym, length, ℕ, List, None}
use Rattle.std.proofs.lemmas.List.{length-map}
use Rattle.stateful_core.specs.Seen.{cell_of, cells_of}
use Rattle.stateful_core.specs.Trees.{AreTrees, HavePlaces}
use Rattle.stateful_core.specs.declared.slot.Slot.{Slot}
use Rattle.stateful_core.proofs.KeptSteps.{kept_fresh}
use Rattle.stateful_core.proofs.Named.{bare, found_as, stored_with}
use Rattle.stateful_core.proofs.keys.Keys.prepare.Goals as goal

pub route_all-requires : goal.route_all-requires
route_all-requires c =
    let was = c.self.inside in
    found_as was.index.numbers.places was.slots.items c.as_slice.result.now (ap cells_of c.as_slice.ensures.value ∙ c.let_all_go.ensures.cells)
    (bare was.index.numbers.places was.slots.items was.fresh.items c.self.invariant.stored)

pub invariant_of-self-in_err-keep_room : goal.invariant_of-self-in_err-keep_room
invariant_of-self-in_err-keep_room c =
    let few : length c.keep_room.new.slots.items < 4294967296 =
    omega (arith, c.self.invariant.stored.few, c.let_all_go.ensures.len, ap length c.keep_room.ensures.cells, length-map c.keep_room.new.slots.items cell_of, length-map c.let_all_go.new.slots.items cell_of) in
    let new : cells_of c.keep_room.new.fresh.items ≡ cells_of c.in_ok-fresh.field-0.fresh.items = cc in
    let sized : length c.keep_room.new.slots.items ≡ length c.let_all_go.new.slots.items =
    omega (arith, ap length c.keep_room.ensures.cells, length-map c.keep_room.new.slots.items cell_of, length-map c.let_all_go.new.slots.items cell_of) in
    let seen : c.as_slice-5.result.now ≡ c.in_ok-fresh.field-0.fresh.items = cc in
    let first : c.len-3.result ≡ length c.let_all_go.new.slots.items = omega (arith, c.len-3.ensures) in
    let grown : HavePlaces c.grow_all.new.trees.items (length c.let_all_go.new.slots.items) (cells_of c.in_ok-fresh.field-0.fresh.items) =
    subst (λ (n : ℕ). HavePlaces c.grow_all.new.trees.items n (cells_of c.in_ok-fresh.field-0.fresh.items)) first
    (subst (λ (l : List Slot). HavePlaces c.grow_all.new.trees.items c.len-3.result (cells_of l)) seen c.in_ok-grow_all.ensures.ok) in
    kept_fresh c.route_all.new.index.numbers.places c.least_holds.new.trees.items c.grow_all.new.trees.items c.let_all_go.new.slots.items c.keep_room.new.slots.items c.in_ok-fresh.field-0.fresh.items
    c.keep_room.new.fresh.items
    (stored_with c.route_all.new.index.numbers.places c.as_slice.result.now c.keep_room.new.slots.items c.in_ok-fresh.field-0.fresh.items c.keep_room.new.fresh.items
    (c.keep_room.ensures.cells ∙ sym (ap cells_of c.as_slice.ensures.value)) new few c.in_ok-fresh.ensures.found)
    sized c.keep_room.ensures.cells new (c.grow_all.ensures.kept None (cells_of c.let_all_go.new.slots.items))
    (subst (λ (l : List Slot). AreTrees c.least_holds.new.trees.items (cells_of l)) c.as_slice-3.ensures.value c.least_holds.ensures.trees) grown

pub invariant_of-self-2 : goal.invariant_of-self-2
invariant_of-self-2 c =
    let few : length c.keep_room.new.slots.items < 4294967296 =
    omega (arith, c.self.invariant.stored.few, c.let_all_go.ensures.len, ap length c.keep_room.ensures.cells, length-map c.keep_room.new.slots.items cell_of, length-map c.let_all_go.new.slots.items cell_of) in
    let new : cells_of c.keep_room.new.fresh.items ≡ cells_of c.in_ok-fresh.field-0.fresh.items = cc in
    let sized : length c.keep_room.new.slots.items ≡ length c.let_all_go.new.slots.items =
    omega (arith, ap length c.keep_room.ensures.cells, length-map c.keep_room.new.slots.items cell_of, length-map c.let_all_go.new.slots.items cell_of) in
    let seen : c.as_slice-5.result.now ≡ c.in_ok-fresh.field-0.fresh.items = cc in
    let first : c.len-3.result ≡ length c.let_all_go.new.slots.items = omega (arith, c.len-3.ensures) in
    let grown : HavePlaces c.grow_all.new.trees.items (length c.let_all_go.new.slots.items) (cells_of c.in_ok-fresh.field-0.fresh.items) =
    subst (λ (n : ℕ). HavePlaces c.grow_all.new.trees.items n (cells_of c.in_ok-fresh.field-0.fresh.items)) first
    (subst (λ (l : List Slot). HavePlaces c.grow_all.new.trees.items c.len-3.result (cells_of l)) seen c.in_ok-grow_all.ensures.ok) in
    kept_fresh c.route_all.new.index.numbers.places c.least_holds.new.trees.items c.grow_all.new.trees.items c.let_all_go.new.slots.items c.keep_room.new.slots.items c.in_ok-fresh.field-0.fresh.items
    c.keep_room.new.fresh.items
    (stored_with c.route_all.new.index.numbers.places c.as_slice.result.now c.keep_room.new.slots.items c.in_ok-fresh.field-0.fresh.items c.keep_room.new.fresh.items
    (c.keep_room.ensures.cells ∙ sym (ap cells_of c.as_slice.ensures.value)) new few c.in_ok-fresh.ensures.found)
    sized c.keep_room.ensures.cells new (c.grow_all.ensures.kept None (cells_of c.let_all_go.new.slots.items))
    (subst (λ (l : List Slot). AreTrees c.least_holds.new.trees.items (cells_of l)) c.as_slice-3.ensures.value c.least_holds.ensures.trees) grown
