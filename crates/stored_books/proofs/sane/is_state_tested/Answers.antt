use Rattle.stored_books.proofs.OwnLengths.{items_ascend}
use Rattle.stored_books.proofs.sane.is_state_tested.Goals as goal

pub are_ranges_sane-requires : goal.are_ranges_sane-requires
are_ranges_sane-requires c = items_ascend c.args.plan.now c.args.stored.now.files c.requires.lengths
