use Rattle.std.proofs.Common.{◌≡◌, arith, sym, subst, refl}
use Rattle.std.specs.Prelude.{slice_get, Some}
use Rattle.book_core.specs.Book.{SeenBook}
use Rattle.book_core.specs.Calls.{CanClaim}
use Rattle.book_core.specs.Inside.{data_of}
use Rattle.book_core.specs.declared.live.Live.TheVariants as live
use Rattle.book_core.proofs.Steady.{claim_indexed, attempted_within, works_within}
use Rattle.book_core.proofs.book.Book.claim.Goals as goal

pub tracker_of-tracker-requires : goal.tracker_of-tracker-requires
tracker_of-tracker-requires c =
    let works : slice_get c.self.inside.slots.items c.args.slot ≡ Some (Some (live.Span c.in-Some.piece c.in-Some.attempted)) = cc (c.in-Some.ensures.0, c.as_slice.ensures.value) in
    attempted_within (data_of c.self.inside) c.args.slot c.in-Some.piece c.in-Some.attempted c.self.invariant.indexed.sane works

pub index_mut-requires : goal.index_mut-requires
index_mut-requires c =
    let works : slice_get c.self.inside.slots.items c.args.slot ≡ Some (Some (live.Span c.in-Some.piece c.in-Some.attempted)) = cc (c.in-Some.ensures.0, c.as_slice.ensures.value) in
    omega (arith, works_within (data_of c.self.inside) c.args.slot (live.Span c.in-Some.piece c.in-Some.attempted) works, c.self.inside.slots.ok)

pub invariant_of-self : goal.invariant_of-self
invariant_of-self c = record {
  indexed =
      let works : slice_get c.self.inside.slots.items c.args.slot ≡ Some (Some (live.Span c.in-Some.piece c.in-Some.attempted)) = cc (c.in-Some.ensures.0, c.as_slice.ensures.value) in
      claim_indexed (data_of c.self.inside) c.self.inside.held c.self.inside.pieces.room c.self.inside.returned.room c.args.slot c.args.p c.in-Some.piece c.in-Some.attempted _ works c.in-Some.ensures.1
      (subst (λ (d : SeenBook). CanClaim d c.args.slot c.args.p) (sym c.self.view_is) c.requires) refl c.self.invariant.indexed;
  grouped = c.self.invariant.grouped;
  counted = c.self.invariant.counted;
}
