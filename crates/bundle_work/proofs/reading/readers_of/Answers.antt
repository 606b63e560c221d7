use Rattle.std.proofs.Common.{◌<◌, length, arith}
use Rattle.std.proofs.lemmas.Option.{slice_get-get_or}
use Rattle.bundle_work.proofs.Readers.{few_files}
use Rattle.bundle_work.proofs.reading.readers_of.Goals as goal

pub add_readers-requires : goal.add_readers-requires
add_readers-requires c =
    let nodes = c.args.nodes.now in
    let inside : c.loop-number.number < length nodes = omega arith in
    omega (arith, few_files nodes c.loop-number.number _ (slice_get-get_or nodes c.loop-number.number c.index-nodes-number.result inside), c.requires.files)
