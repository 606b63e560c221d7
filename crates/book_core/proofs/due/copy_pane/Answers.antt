use Rattle.std.proofs.Common.{◌++◌, sym, ap, ◌∙◌}
use Rattle.std.proofs.lemmas.List.{append-nil}
use Rattle.std.proofs.lemmas.Option.{slice_get_past}
use Rattle.book_core.proofs.Takings.{pane_none}
use Rattle.book_core.proofs.due.copy_pane.Goals as goal

pub returns-in-None : goal.returns-in-None
returns-in-None c =
    sym (append-nil c.args.copies.now) ∙ ap (λ l. c.args.copies.now ++ l) (sym (pane_none c.args.panes.now c.args.waiting.now (sym (slice_get_past c.args.panes.now c.args.waiting.now.pane c.in-None.ensures.lookup.3))))
