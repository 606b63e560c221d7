use Rattle.std.proofs.Common.{sym, subst}
use Rattle.beam_values.specs.declared.plan.Plan.{Plan}
use Rattle.stored_books.specs.Facts.{IsTested}
use Rattle.stored_books.proofs.Meaning.{sane_where_tested, tested_where_sane}
use Rattle.stored_books.proofs.Tests.{decided_by}
use Rattle.stored_books.proofs.sane.is_sane_data.Goals as goal

pub returns : goal.returns
returns c =
    let plan = c.args.graph.now in
    let stored = c.args.stored.now in
    decided_by c.is_tested.result c.is_tested.ensures
    (λ tested. sane_where_tested plan stored c.plan.ensures.checked (subst (λ (p : Plan). IsTested p stored) c.plan.ensures.value tested))
    (λ sane. subst (λ (p : Plan). IsTested p stored) (sym c.plan.ensures.value) (tested_where_sane plan stored sane))
