use Rattle.std.proofs.Common.{refl}
use Rattle.bundle_work.proofs.Readers.{readers_pushed}
use Rattle.bundle_work.proofs.reading.add_files.Goals as goal

pub loop-item-preserved : goal.loop-item-preserved
loop-item-preserved c =
    readers_pushed c.args.node c.args.opened.now c.loop-item.item _ c.args.readers.now.items c.loop-item.readers.items _ _ c.loop-item-test.true c.loop-item.invariant c.in_ok-push.ensures.items refl
