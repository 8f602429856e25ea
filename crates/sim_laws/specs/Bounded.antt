-- The numbers of the machine's state have room in its registers and bytes.
use Rattle.std.specs.Prelude.{ℕ, ◌<◌, ◌≡◌, List}
use Rattle.sloth_base.specs.declared.service.Arrival.{Arrival}
use Rattle.sloth_base.specs.declared.numbers.Step.{Step}
use Rattle.sloth_base.specs.Machine.{Core, State}
use Rattle.rv32_machine.specs.Advance.{Goes}
use Rattle.rv32_machine.specs.Run.{moment}
use Rattle.sim_relation.specs.Bounds.{AreBelow}

-- words are below 2^32, and bytes and levels below 2^8
pub record CoreBounded (core : Core) : Type 0 where
  pub registers : AreBelow 4294967296 core.registers
  pub scratch : core.mscratch < 4294967296
  pub return_address : core.mepc < 4294967296
  pub level : core.ilevel < 256
  pub previous_level : core.plevel < 256
  pub bytes : AreBelow 256 core.ram
  pub pending : AreBelow 256 core.pending
  pub enabled : AreBelow 256 core.enabled
  pub levels : AreBelow 256 core.levels

-- the numbers of a state have room in the machine
pub record IsBounded (state : State) : Type 0 where
  pub pc : state.pc < 4294967296
  pub core : CoreBounded state.core

-- each instruction of a run keeps that
abbrev pub BoundsStay : Type 0
BoundsStay = (arrivals : List Arrival) (count : ℕ) (state next : State) (step : Step) → moment arrivals count state ≡ Goes step next
    → IsBounded state → IsBounded next
