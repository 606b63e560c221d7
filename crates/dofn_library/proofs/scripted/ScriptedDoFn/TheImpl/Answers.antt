use Rattle.dofn_library.proofs.ScriptedCalls.{holds}
use Rattle.dofn_library.proofs.scripted.ScriptedDoFn.TheImpl.Goals as goal

pub call-tells : goal.call-tells
call-tells g x c =
    let promised = holds g.D.DoFn.work g.D.DoFn.faults g.D.DoFn.strict _ _ _ _ _ _ _ c.ensures.listed c.ensures.kept c.ensures.promised in
    record {
      outputs = promised.outputs;
      failed = promised.failed;
      counts = promised.counts;
      unharmed = promised.unharmed;
      work = promised.work;
      strict = promised.strict;
    }
