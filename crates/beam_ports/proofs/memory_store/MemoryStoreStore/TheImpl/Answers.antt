use Rattle.std.proofs.Common.{ap, rules}
use Rattle.beam_ports.proofs.FirstNamed.{absent, first, has_length}
use Rattle.beam_ports.specs.StoreMemory.{StoreMemory}
use Rattle.beam_ports.proofs.memory_store.MemoryStoreStore.TheImpl.Goals as goal

pub open_file-tells : goal.open_file-tells
open_file-tells c =
    let kept = ap (λ (store : StoreMemory). store.files) c.ensures.after in
    record {
      told = search rules;
      kept = search rules;
      counts = search rules;
      failed = search rules;
      exact = λ counts. search rules;
      absent = λ refused told is. absent c.args.self.now c.args.name.now c.result c.ensures.answer refused told (cc);
      has_length = has_length c.args.self.now c.new.self.now c.args.name.now c.result c.ensures.answer kept;
      first = first c.args.self.now c.new.self.now c.args.name.now c.result c.ensures.answer kept;
    }
