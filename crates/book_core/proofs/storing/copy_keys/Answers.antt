use Rattle.std.proofs.Common.{sym, subst, ap, ◌∙◌}
use Rattle.std.proofs.lemmas.Result.{IfOk-weaker}
use Rattle.stateful_core.specs.Data.{AreKeysFormed, cells_of_data}
use Rattle.book_core.proofs.StoredBook.{keys_back, keys_formed}
use Rattle.book_core.proofs.storing.copy_keys.Goals as goal

pub returns-clause-keys : goal.returns-clause-keys
returns-clause-keys c =
    IfOk-weaker c.key_data.result _ _
    (λ copy is. ap cells_of_data is
    ∙ keys_back c.requires.sane.0 c.requires.sane.1 (c.data_stands_for_its_cell.ensures.back c.requires.sane.0 c.requires.sane.1) c.args.keys.now.cells c.requires.sane.2 c.requires.free)
    c.key_data.ensures

pub returns-clause-formed : goal.returns-clause-formed
returns-clause-formed c =
    IfOk-weaker c.key_data.result _ _
    (λ copy is. subst AreKeysFormed (sym is)
    (keys_formed c.requires.sane.0 c.requires.sane.1 (c.data_stands_for_its_cell.ensures.formed c.requires.sane.0 c.requires.sane.1) c.args.keys.now.cells c.requires.sane.2))
    c.key_data.ensures
