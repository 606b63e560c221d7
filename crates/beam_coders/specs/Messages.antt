-- What `{}` prints of a refusal.
use Rattle.std.specs.Prelude.{ℕ, List, ◌++◌, codes, decimal}
use Rattle.beam_coders.specs.declared.refusal.CoderRefusal.{CoderRefusal}
use Rattle.beam_coders.specs.declared.refusal.CoderRefusal.TheVariants.{Short, Overlong, Tag, Range, Deep}
use Rattle.beam_coders.specs.declared.refusal.ReadRefusal.{ReadRefusal}
use Rattle.beam_coders.specs.declared.refusal.ReadRefusal.TheVariants as read

abbrev pub coder_message : CoderRefusal → List ℕ
coder_message Short = codes "the bytes end too early"
coder_message Overlong = codes "a varint is too long"
coder_message (Tag byte) = codes "no value has the tag " ++ decimal byte
coder_message Range = codes "a number is out of its bounds"
coder_message Deep = codes "values are nested too deeply"

abbrev pub read_message : ReadRefusal → List ℕ
read_message (read.Bad refusal) = coder_message refusal
read_message read.NoMemory = codes "no memory"
