-- Buffers that hold nothing.
use Rattle.std.specs.Prelude.{◌≡◌, []}
use Rattle.chain_exec.specs.declared.buffers.Buffers.{Buffers}

pub record IsUnused (buffers : Buffers) : Type 0 where
  pub stack : buffers.stack ≡ []
  pub outputs : buffers.outputs ≡ []
  pub windows : buffers.windows ≡ []
