use Rattle.std.proofs.Common.{ap, rules}
use Rattle.beam_ports.proofs.Shrunk.{has_length}
use Rattle.beam_ports.specs.ShrunkMemory.{ShrunkMemory}
use Rattle.beam_ports.proofs.shrunk_store.ShrunkStoreStore.TheImpl.Goals as goal

pub open_file-tells : goal.open_file-tells
open_file-tells c =
    let kept = ap (λ (store : ShrunkMemory). store.claimed) c.ensures.after in
    record {
      told = search rules;
      kept = search rules;
      counts = search rules;
      failed = search rules;
      exact = λ counts. search rules;
      absent = search rules;
      has_length = has_length c.args.self.now c.new.self.now c.args.name.now c.result c.ensures.claimed c.ensures.answer kept;
      first = search rules;
    }
