-- The numbers of a machine's state.
use Rattle.std.specs.Prelude.{◌<◌}
use Rattle.sloth_base.specs.Machine.{State}
use Rattle.sim_relation.specs.Bounds.{AreBelow}

-- words are below 2^32, and bytes and the running level below 2^8
pub record IsSane (state : State) : Type 0 where
  pub pc : state.pc < 4294967296
  pub registers : AreBelow 4294967296 state.core.registers
  pub bytes : AreBelow 256 state.core.ram
  pub level : state.core.ilevel < 256
