use Rattle.std.proofs.Common.{◌≡◌, length, arith, sym, subst, ap, ◌∙◌}
use Rattle.std.specs.Prelude.{Some, None}
use Rattle.book_core.specs.Book.{SeenBook}
use Rattle.book_core.specs.DueAt.{IsDueAs}
use Rattle.book_core.specs.Inside.{data_of}
use Rattle.book_core.specs.Jobs.{first_due}
use Rattle.book_core.specs.declared.due.DueAt.TheVariants as at
use Rattle.book_core.specs.declared.due.DueAt.{DueAt}
use Rattle.book_core.proofs.Rooms.{lists_of, lists_length}
use Rattle.book_core.proofs.Takings.{few_nodes}
use Rattle.book_core.proofs.book.Book.take.Goals as goal

pub first_due-requires : goal.first_due-requires
first_due-requires c =
    let formed = c.self.invariant.indexed.sane.formed in
    omega (arith, few_nodes c.self.inside.graph formed.checked, formed.queues, lists_length c.self.inside.queues.items, ap length c.as_slice-2.ensures.value)

pub take_returned-requires-clause-due : goal.take_returned-requires-clause-due
take_returned-requires-clause-due c =
    let formed = c.self.invariant.indexed.sane.formed in
    subst (λ (b : SeenBook). IsDueAs b (first_due b) (Some (at.GivenBack c.in-Some-GivenBack.at))) c.self.view_is
    (subst (λ (p : DueAt). IsDueAs (data_of c.self.inside) (first_due (data_of c.self.inside)) (Some p)) c.in-Some-GivenBack.field-0-is
    (c.in-Some-GivenBack.ensures (data_of c.self.inside) (sym c.as_slice.ensures) (sym (ap lists_of c.as_slice-2.ensures.value)) (sym formed.queues ∙ lists_length c.self.inside.queues.items ∙ sym (ap length c.as_slice-2.ensures.value))))

pub take_oldest-requires-clause-due : goal.take_oldest-requires-clause-due
take_oldest-requires-clause-due c =
    let formed = c.self.invariant.indexed.sane.formed in
    subst (λ (b : SeenBook). IsDueAs b (first_due b) (Some (at.Oldest c.in-Some-Oldest.node))) c.self.view_is
    (subst (λ (p : DueAt). IsDueAs (data_of c.self.inside) (first_due (data_of c.self.inside)) (Some p)) c.in-Some-Oldest.field-0-is
    (c.in-Some-Oldest.ensures (data_of c.self.inside) (sym c.as_slice.ensures) (sym (ap lists_of c.as_slice-2.ensures.value)) (sym formed.queues ∙ lists_length c.self.inside.queues.items ∙ sym (ap length c.as_slice-2.ensures.value))))

pub take_key-requires-clause-none : goal.take_key-requires-clause-none
take_key-requires-clause-none c =
    let formed = c.self.invariant.indexed.sane.formed in
    subst (λ (b : SeenBook). first_due b ≡ None) c.self.view_is
    (c.in-None.ensures (data_of c.self.inside) (sym c.as_slice.ensures) (sym (ap lists_of c.as_slice-2.ensures.value)) (sym formed.queues ∙ lists_length c.self.inside.queues.items ∙ sym (ap length c.as_slice-2.ensures.value)))
