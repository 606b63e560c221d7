use Rattle.std.proofs.Common.{map, ap, ◌∙◌}
use Rattle.book_core.specs.Book.{SeenBook}
use Rattle.schedule_replay.specs.Shown.{shown_slot}
use Rattle.schedule_replay.proofs.Begun.{shown_free}
use Rattle.schedule_replay.proofs.schedule.opening.Goals as goal

pub enroll_all-requires : goal.enroll_all-requires
enroll_all-requires c = record {
  none = ap (λ (b : SeenBook). b.slots) c.in_ok-book.ensures.is;
  free = c.new-works.ensures.items;
}

pub returns-clause-begins : goal.returns-clause-begins
returns-clause-begins c = λ told. record {
  first = c.in_ok-book.book;
  opening = c.in_ok-book.ensures;
  enrolled = c.in_ok-enroll_all.ensures.run told;
  free = ap (map shown_slot) c.in_ok-enroll_all.ensures.free ∙ shown_free c.args.options.workers;
}

pub returns-clause-plan : goal.returns-clause-plan
returns-clause-plan c = c.in_ok-enroll_all.ensures.plan ∙ ap (λ (b : SeenBook). b.plan) c.in_ok-book.ensures.is

pub returns-clause-lengths : goal.returns-clause-lengths
returns-clause-lengths c = c.in_ok-enroll_all.ensures.lengths ∙ ap (λ (b : SeenBook). b.files) c.in_ok-book.ensures.is

pub returns-clause-options : goal.returns-clause-options
returns-clause-options c = c.in_ok-enroll_all.ensures.options ∙ ap (λ (b : SeenBook). b.options) c.in_ok-book.ensures.is
