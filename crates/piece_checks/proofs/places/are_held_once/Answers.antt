use Rattle.std.proofs.Common.{refl, sym, ◌∙◌, arith}
use Rattle.std.proofs.lemmas.Bool.{false≢true}
use Rattle.std.proofs.lemmas.Option.{slice_get_within}
use Rattle.piece_checks.specs.declared.places.HeldPlace.{HeldPlace}
use Rattle.piece_checks.proofs.HeldPlaces.{all_noted, held_twice, noted_more}
use Rattle.piece_checks.proofs.places.are_held_once.Goals as goal
use Rattle.piece_checks.proofs.places.are_held_once.Goals.{then-not-is_held_at-via-then-not-is_held_at, then-not-is_held_at-via-else-not-is_held_at+then-index}

abbrev first : HeldPlace
first = record { node = 0; pane = 0 }

pub returns-then-not-is_held_at : goal.returns-then-not-is_held_at
returns-then-not-is_held_at c =
    let panes = c.args.panes.now in
    let held = c.args.held.now in
    let i = c.loop-place.place-index in
    let seen = c.loop-place.seen.items in
    let within = c.loop-place-test.true in
    elim c.then-not-is_held_at.branch [
      | then-not-is_held_at-via-then-not-is_held_at w ↦ (
        λ fails. absurd (false≢true fails),
        λ once. sym w.if-not-is_held_at.true ∙ c.is_held_at.ensures.1 (once.at_panes i first within),
      )
      | then-not-is_held_at-via-else-not-is_held_at+then-index w ↦ (
        λ fails. absurd (false≢true fails),
        λ once.
            let is = c.is_held_at.ensures.0 w.if-not-is_held_at.false in
            absurd (held_twice panes held i first within seen c.loop-place.invariant w.index.result.now (slice_get_within panes _ is.0 is.1)
            (sym w.index.ensures ∙ w.if-index.true) once),
      )
    ]

pub index_mut-requires : goal.index_mut-requires
index_mut-requires c =
    let is = c.is_held_at.ensures.0 c.if-not-is_held_at.false in
    omega (arith, slice_get_within c.args.panes.now _ is.0 is.1, c.loop-place.invariant.sized, c.loop-place.seen.ok)

pub loop-place-preserved : goal.loop-place-preserved
loop-place-preserved c =
    let panes = c.args.panes.now in
    let is = c.is_held_at.ensures.0 c.if-not-is_held_at.false in
    noted_more panes c.args.held.now c.loop-place.place-index first c.loop-place-test.true c.loop-place.seen.items c.loop-place.invariant
    c.index.result.now is (slice_get_within panes _ is.0 is.1) (sym c.index.ensures ∙ c.if-index.false)

pub returns : goal.returns
returns c = (
  λ yes. all_noted c.args.panes.now c.args.held.now c.loop-place.seen.items c.loop-place.place-index (omega arith) c.loop-place.invariant,
  λ once. refl,
)
