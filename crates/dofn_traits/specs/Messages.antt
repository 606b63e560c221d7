-- What `{}` prints of a refusal.
use Rattle.std.specs.Prelude.{ℕ, List, codes}
use Rattle.dofn_traits.specs.declared.calls.CallRefusal.{CallRefusal}
use Rattle.dofn_traits.specs.declared.calls.CallRefusal.TheVariants.{Failed, NoMemory}

abbrev pub call_message : CallRefusal → List ℕ
call_message Failed = codes "the call failed"
call_message NoMemory = codes "no memory"
