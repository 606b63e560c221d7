use Rattle.std.proofs.Common.{List, length, arith, sym, subst, ap}
use Rattle.std.specs.Prelude.{Option}
use Rattle.std.specs.List.{All}
use Rattle.book_core.specs.Book.{SeenBook}
use Rattle.book_core.specs.Facts.{IsAttemptedWithin}
use Rattle.book_core.specs.Inside.{data_of}
use Rattle.book_core.specs.NextFor.{IsMostOf}
use Rattle.book_core.specs.Steps.{IsNextFor}
use Rattle.book_core.specs.declared.live.Live.{Live}
use Rattle.book_core.proofs.NextFor.{next_is}
use Rattle.book_core.proofs.book.Book.next_for.Goals as goal

pub most_left-requires : goal.most_left-requires
most_left-requires c =
    let within = c.self.invariant.indexed.sane.formed.within in
    record {
      attempted = subst (λ (s : List (Option Live)). All IsAttemptedWithin s) (sym c.as_slice.ensures.value) c.self.invariant.indexed.sane.attempted;
      few = omega (arith, within.slots, ap length c.as_slice.ensures.value);
    }

pub returns : goal.returns
returns c =
    subst (λ (d : SeenBook). IsNextFor d c.args.slot c.most_left.result) c.self.view_is
    (next_is (data_of c.self.inside) c.args.slot c.most_left.result
    (subst (λ (s : List (Option Live)). IsMostOf s c.args.slot (length s) c.most_left.result) c.as_slice.ensures.value c.most_left.ensures))
