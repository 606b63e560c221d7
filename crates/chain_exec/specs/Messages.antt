-- What `{}` prints of a refusal.
use Rattle.std.specs.Prelude.{ℕ, List, ◌++◌, codes, decimal}
use Rattle.beam_values.specs.declared.fault.Cause.TheVariants.{Call, Read}
use Rattle.chain_exec.specs.declared.refusal.ExecRefusal.{ExecRefusal}
use Rattle.chain_exec.specs.declared.refusal.ExecRefusal.TheVariants.{Faulted, NoMemory}

abbrev pub exec_message : ExecRefusal → List ℕ
exec_message (Faulted at Call) = codes "the function of node " ++ decimal at ++ codes " failed"
exec_message (Faulted at Read) = codes "reading the file of node " ++ decimal at ++ codes " failed"
exec_message NoMemory = codes "no memory"
