-- What a string of bytes has, wherever it lies.
use Rattle.std.specs.Prelude.{ℕ, List}
use Rattle.beam_containers.specs.declared.bytes.Store.{Store}
use Rattle.beam_containers.specs.declared.bytes.Store.TheVariants.{Inside, Outside}

abbrev pub stored : Store → List ℕ
stored (Inside short) = short
stored (Outside long) = long
